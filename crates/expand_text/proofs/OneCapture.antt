-- What an expansion captures is one, and so is what is known then.
use Rattle.std.proofs.Common.{◌≡◌, ◌∙◌, ℕ, Option, inl, inr, ap, sym}
use Rattle.tt.specs.Forest.{Forest}
use Rattle.expand_hygiene.specs.Binders.{binders_in}
use Rattle.expand_hygiene.specs.Captures.{IsCapture, first_capture, name_of}
use Rattle.expand_hygiene.specs.Mentions.{mentions_in}
use Rattle.expand_hygiene.specs.declared.captures.Capture.{Capture}
use Rattle.expand_hygiene.specs.declared.captures.ExpandTo.{ExpandTo}
use Rattle.expand_items.specs.Items.{Call}
use Rattle.expand_items.specs.declared.position.Position.{Position}
use Rattle.expand_text.specs.Capturing.{IsCaptureFound, expand_to, with_capture}
use Rattle.expand_text.specs.Contexts.{Context}
use Rattle.mbe_grammar.proofs.OneDerivation.{once, apart}
use Rattle.mbe_grammar.specs.Derivations.{whole}
use Rattle.mbe_grammar.specs.Names.{start}
use Rattle.mbe_grammar.specs.Table.{rust_rules}

one_found : (to : ExpandTo) (input body : Forest) (a b : Option Capture) → IsCapture to input body a → IsCapture to input body b → a ≡ b
one_found to input body a b (inl (events, is, found)) (inl (others, was, same)) =
    found ∙ ap (λ its. first_capture (mentions_in input) (binders_in body its)) (once rust_rules (start (name_of to)) body events others is was) ∙ sym same
one_found to input body a b (inl (events, is, found)) (inr (at, was, same)) = absurd (apart rust_rules (whole (start (name_of to)) body) events at is was)
one_found to input body a b (inr (at, is, found)) (inl (events, was, same)) = absurd (apart rust_rules (whole (start (name_of to)) body) events at was is)
one_found to input body a b (inr (at, is, found)) (inr (place, was, same)) = found ∙ sym same

-- One thing is known then.
pub one_capture : (defined_at : ℕ) (it : Call) (position : Position) (body : Forest) (before a b : Context) → IsCaptureFound defined_at it position body before a
    → IsCaptureFound defined_at it position body before b → a ≡ b
one_capture defined_at it position body before a b (found, is, same) (other, was, also) =
    same ∙ ap (λ c. with_capture defined_at it c before) (one_found (expand_to position.siblings) it.input body found other is was) ∙ sym also
