-- What is written of a walk, one place after another.
use Rattle.std.proofs.Common.{◌≡◌, ℕ, false, true, codes, refl, List, [], ◌∷◌, ◌++◌, Option, ap₂, ◌∙◌}
use Rattle.tt_base.specs.declared.token_tree.TokenTree.{TokenTree}
use Rattle.tt.specs.Walk.{Event, passes, opens, closes, Walked, events_ahead, is_over, token_at, one_on}
use Rattle.tt_base.proofs.Walks.{event_passed}
use Rattle.app_console.specs.Answer.{line}
use Rattle.app_console.specs.ViewText.{listed, event_words, here_words}
use Rattle.app_console.proofs.Listing.{one_line_more}

-- One line more, and the walk advances by one place.
pub one_place : (w : Walked) (here : Option TokenTree) (done all : List ℕ) → here ≡ token_at (events_ahead w) → is_over (events_ahead w) ≡ false
    → done ++ listed event_words (events_ahead w) ≡ all → (done ++ line (here_words here)) ++ listed event_words (events_ahead (one_on w)) ≡ all
one_place w here done all is more lines = by (events_ahead w) refl is more lines
  where
    by : (events : List Event) → events_ahead w ≡ events → here ≡ token_at events → is_over events ≡ false → done ++ listed event_words events ≡ all
        → (done ++ line (here_words here)) ++ listed event_words (events_ahead (one_on w)) ≡ all
    by [] same is more lines = cc
    by (passes it ∷ others) same is more lines =
        ap₂ (λ h e. (done ++ line (here_words h)) ++ listed event_words e) is (event_passed w (passes it) others same)
        ∙ one_line_more event_words done all (passes it) others lines
    by (opens subtree ∷ others) same is more lines =
        ap₂ (λ h e. (done ++ line (here_words h)) ++ listed event_words e) is (event_passed w (opens subtree) others same)
        ∙ one_line_more event_words done all (opens subtree) others lines
    by (closes subtree ∷ others) same is more lines =
        ap₂ (λ h e. (done ++ line (here_words h)) ++ listed event_words e) is (event_passed w (closes subtree) others same)
        ∙ one_line_more event_words done all (closes subtree) others lines

-- At the end of the walk only the last line is left to write.
pub last_line : (w : Walked) (done all : List ℕ) → is_over (events_ahead w) ≡ true → done ++ listed event_words (events_ahead w) ≡ all → done ++ codes "end\n" ≡ all
last_line w done all over lines = by (events_ahead w) over lines
  where
    by : (events : List Event) → is_over events ≡ true → done ++ listed event_words events ≡ all → done ++ codes "end\n" ≡ all
    by [] over lines = lines
    by (passes it ∷ others) over lines = cc
    by (opens subtree ∷ others) over lines = cc
    by (closes subtree ∷ others) over lines = cc
