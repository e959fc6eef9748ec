-- A template is filled from its first part to its last.
use Rattle.std.proofs.Common.{◌≡◌, ℕ, suc, List, [], ◌∷◌, map, reverse, Option, None, refl, ap, ap₂, sym, subst, ◌∙◌, arith}
use Rattle.tt.specs.Building.{lowest, bottom, built, empty_builder, tokens_held, IsAbove, IsOpen}
use Rattle.tt.specs.Forest.{size}
use Rattle.tt.specs.Stored.{most_tokens}
use Rattle.tt.specs.TreeFault.{IsTreeFault, under}
use Rattle.tt.specs.Types.Delimiter.{Delimiter}
use Rattle.tt.specs.Types.Span.{Span}
use Rattle.tt.specs.Types.TtFault.{TtFault}
use Rattle.tt.specs.Types.TtFault.TheVariants as limit
use Rattle.mbe_matcher.specs.Bindings.{Binding}
use Rattle.mbe_rules.specs.declared.transcribe_error.TranscribeError.{TranscribeError}
use Rattle.mbe_rules.specs.declared.transcribe_error.TranscribeError.TheVariants as refusal
use Rattle.mbe_rules.specs.declared.transcribe.Transcriber.{Transcriber}
use Rattle.mbe_rules.specs.declared.parts.Part.{Part}
use Rattle.mbe_rules.specs.declared.taken.Round.{Round}
use Rattle.mbe_rules.specs.Transcribing.{Transcribed, transcribed, in_round}
use Rattle.mbe_rules.specs.Parts.{Bit, bit_of, bits_of}
use Rattle.mbe_rules.specs.Results.{IsLimitOf, IsTranscribeError}
use Rattle.mbe_rules.specs.Rounds.{bound_in}
use Rattle.mbe_rules.specs.Limits.{IsWithin}
use Rattle.mbe_rules.specs.Filling.{most_of, AreLevels, IsAt, IsStop}
use Rattle.mbe_rules.specs.Templates.{Template, nothing, use_of, token, subtree, repetition}
use Rattle.mbe_rules.specs.Wholes.{AreWhole, whole_of}
use Rattle.mbe_rules.specs.Writing.{Closing, last, Level, end_of, Written, written_by, finished}
use Rattle.mbe_rules.proofs.Going.{level_of}
use Rattle.mbe_rules.proofs.Limits.{within_fewer, in_all, held_within, none_held}

-- what is written if everything is filled
abbrev pub written_of : Transcribed → Written
written_of it = record { stack = lowest it.trees; fault = it.fault }

-- If no round is under way, everything is bound as it is.
nothing_begun : (binding : Binding) → binding ≡ map (in_round (bound_in [])) binding
nothing_begun [] = refl
nothing_begun (it ∷ others) = ap (λ l. it ∷ l) (nothing_begun others)

-- the one level at the beginning
abbrev pub first_level : List Part → Binding → Level
first_level parts binding = level_of (whole_of parts) binding last

-- At the beginning the filling is in that level.
pub starts : (parts : List Part) (binding : Binding) (it : Transcriber) (delimiter : Delimiter) → AreWhole parts → it.builder ≡ empty_builder delimiter
    → it.rounds.items ≡ [] → it.closes.items ≡ [] → IsAt (map bit_of parts) binding (first_level parts binding ∷ []) it (map bit_of parts)
starts parts binding it delimiter whole builder rounds closes =
    record {
      agree =
          subst (λ l. AreLevels (map bit_of parts) binding (first_level parts binding ∷ []) l (reverse it.closes.items) (map bit_of parts)) (sym (ap reverse rounds))
          (subst (λ l. AreLevels (map bit_of parts) binding (first_level parts binding ∷ []) [] l (map bit_of parts)) (sym (ap reverse closes))
          ([], whole, nothing_begun binding, (refl, (refl, refl, refl))));
      few = omega (arith, ap (λ b. tokens_held b.stack) builder);
    }

pub starts_whole : (parts : List Part) (binding : Binding) (it : Transcriber) (delimiter : Delimiter) → it.builder ≡ empty_builder delimiter
    → finished (first_level parts binding ∷ []) (written_by it) ≡ written_of (transcribed (whole_of parts) binding)
starts_whole parts binding it delimiter builder = ap (λ b. finished (first_level parts binding ∷ []) (record { stack = b.stack; fault = None })) builder

-- At the end no level is left.
none_left : (template : Template) (closing : Closing) (behind : List Bit) → [] ≡ bits_of template (end_of closing ∷ behind) → ⊥
none_left nothing closing behind is = cc is
none_left (use_of at variable less_follows others) closing behind is = cc is
none_left (token it others) closing behind is = cc is
none_left (subtree delimiter inner others) closing behind is = cc is
none_left (repetition at inner separator kind others) closing behind is = cc is

pub ends : (bits : List Bit) (whole : Binding) (levels : List Level) (rounds : List Round) (closes : List Span) → AreLevels bits whole levels rounds closes [] → levels ≡ []
ends bits whole [] rounds closes agree = refl
ends bits whole (level ∷ outer) rounds closes (behind, is, bound, more) = absurd (none_left level.rest level.closing behind is)

-- So everything is written.
pub ends_whole : (it : Transcriber) (levels : List Level) (all : Transcribed) → levels ≡ [] → finished levels (written_by it) ≡ written_of all → written_by it ≡ written_of all
ends_whole it levels all none is = sym (ap (λ l. finished l (written_by it)) none) ∙ is

pub not_open : (it : Transcriber) (all : Transcribed) → written_by it ≡ written_of all → IsOpen it.builder → ⊥
not_open it all is above = subst IsAbove (ap (λ w. w.stack) is) above

-- What is built is the tree.
pub built_is : (it : Transcriber) (all : Transcribed) (delimiter : Delimiter) → written_by it ≡ written_of all → it.builder.top ≡ delimiter → built it.builder ≡ under delimiter all.trees
built_is it all delimiter is top = ap₂ (λ d w. under d (bottom w.stack)) top is

-- At the beginning nothing is written.
pub starts_within : (most : Option ℕ) (it : Transcriber) (delimiter : Delimiter) → it.builder ≡ empty_builder delimiter → it.left ≡ most → most_of it ≡ most
starts_within most it delimiter builder left = ap₂ in_all (ap (λ b. tokens_held b.stack) builder) left ∙ none_held most

-- At the end the limit is kept.
pub ends_within : (most : Option ℕ) (it : Transcriber) (all : Transcribed) → written_by it ≡ written_of all → most_of it ≡ most → IsWithin most (size all.trees)
ends_within most it all is kept =
    subst (λ l. IsWithin l (size all.trees)) kept
    (subst (IsWithin (most_of it)) (ap (λ w. tokens_held w.stack) is) (held_within (tokens_held it.builder.stack) it.left))

-- Each limit is one of the whole filled template.
module _ (most : Option ℕ) (delimiter : Delimiter) (it : Transcribed) (none : None ≡ it.fault) (within : IsWithin most (size it.trees)) where
  pub limit_of_all : (fault : TtFault) → IsTreeFault (under delimiter it.trees) fault → IsLimitOf most it fault
  limit_of_all limit.Memory wrong = tt
  limit_of_all limit.TooManyTokens wrong = within_fewer most (suc most_tokens) (size it.trees) (omega (arith, wrong)) within
  limit_of_all limit.NotOneSubtree wrong = (sym none, within)
  limit_of_all limit.NoSuchPlace wrong = (sym none, within)
  limit_of_all limit.NotALeaf wrong = (sym none, within)
  limit_of_all limit.SuffixTooLong wrong = (sym none, within)
  limit_of_all limit.BadScan wrong = (sym none, within)
  limit_of_all limit.TooManySpanParts wrong = (sym none, within)
  limit_of_all limit.TooManySymbols wrong = (sym none, within)
  limit_of_all limit.TooManyBytes wrong = (sym none, within)
  limit_of_all limit.PointsSpent wrong = (sym none, within)

-- The error that stops the filling is the right one.
pub stop_is_error : (most : Option ℕ) (delimiter : Delimiter) (it : Transcribed) (error : TranscribeError) → IsStop most (written_of it) error
    → IsTranscribeError most delimiter it error
stop_is_error most delimiter it (refusal.StillRepeats at) stop = stop
stop_is_error most delimiter it (refusal.NothingRepeats at) stop = stop
stop_is_error most delimiter it (refusal.LengthsDiffer at) stop = stop
stop_is_error most delimiter it (refusal.NoRound at) stop = stop
stop_is_error most delimiter it refusal.OverLimit stop = stop
stop_is_error most delimiter it (refusal.Tree limit.Memory) stop = (tt, tt)
stop_is_error most delimiter it (refusal.Tree limit.TooManyTokens) stop = (stop.1, stop.0)
stop_is_error most delimiter it (refusal.Tree limit.NotOneSubtree) stop = absurd stop
stop_is_error most delimiter it (refusal.Tree limit.NoSuchPlace) stop = absurd stop
stop_is_error most delimiter it (refusal.Tree limit.NotALeaf) stop = absurd stop
stop_is_error most delimiter it (refusal.Tree limit.SuffixTooLong) stop = absurd stop
stop_is_error most delimiter it (refusal.Tree limit.BadScan) stop = absurd stop
stop_is_error most delimiter it (refusal.Tree limit.TooManySpanParts) stop = absurd stop
stop_is_error most delimiter it (refusal.Tree limit.TooManySymbols) stop = absurd stop
stop_is_error most delimiter it (refusal.Tree limit.TooManyBytes) stop = absurd stop
stop_is_error most delimiter it (refusal.Tree limit.PointsSpent) stop = absurd stop
