-- Which template is made, and when filling it succeeds or fails.
use Rattle.std.specs.Prelude.{◌≡◌, ◌≤◌, ℕ, suc, Option, None, Some}
use Rattle.tt.specs.Forest.{Root, size}
use Rattle.tt.specs.Stored.{most_tokens}
use Rattle.tt.specs.TreeFault.{IsTreeFault, under}
use Rattle.tt.specs.Types.Delimiter.{Delimiter}
use Rattle.tt.specs.Types.TtFault.{TtFault}
use Rattle.tt.specs.Types.TtFault.TheVariants as limit
use Rattle.mbe_rules.specs.declared.template.Template as rust
use Rattle.mbe_rules.specs.declared.transcribe_error.TranscribeError.{TranscribeError}
use Rattle.mbe_rules.specs.declared.transcribe_error.TranscribeError.TheVariants as refusal
use Rattle.mbe_rules.specs.Limits.{IsOver, IsWithin}
use Rattle.mbe_rules.specs.Transcribing.{Transcribed, TranscribeFault, still_repeats, nothing_repeats, lengths_differ, no_round}
use Rattle.mbe_rules.specs.Templates.{Template}
use Rattle.mbe_rules.specs.Wholes.{whole_of}

-- the template that the parts are
abbrev pub meant : rust.Template → Template
meant it = whole_of it.parts.items

-- the tree is all that was filled, under that delimiter
pub record IsTranscribed (delimiter : Delimiter) (it : Transcribed) (tree : Root) : Type 0 where
  pub sound : it.fault ≡ None
  pub is : tree ≡ under delimiter it.trees

-- a limit of trees other than that of tokens is reported only if the whole template was filled, within `most`; that of tokens, only if
-- `most` is higher; memory may run out at any time
abbrev pub IsLimitOf : (most : Option ℕ) → Transcribed → TtFault → Type 0
IsLimitOf most it limit.Memory = Unit {0}
IsLimitOf most it limit.TooManyTokens = IsWithin most (suc most_tokens)
IsLimitOf most it other = (it.fault ≡ None) × IsWithin most (size it.trees)

-- the error for a fault
abbrev pub error_of : TranscribeFault → TranscribeError
error_of (still_repeats at) = refusal.StillRepeats at
error_of (nothing_repeats at) = refusal.NothingRepeats at
error_of (lengths_differ at) = refusal.LengthsDiffer at
error_of (no_round at) = refusal.NoRound at

-- the first fault is that one, and `count` tokens, which were filled up to it, exceed neither `most` nor the limit of trees
abbrev pub IsFirstFault : (most : Option ℕ) → (first : Option TranscribeFault) → (count : ℕ) → TranscribeFault → Type 0
IsFirstFault most first count fault = (first ≡ Some fault) × (count ≤ most_tokens) × IsWithin most count

-- why there is no such tree: the first fault, or what was filled up to it has more tokens than `most`, or exceeds a limit of trees, or memory
-- ran out
abbrev pub IsTranscribeError : (most : Option ℕ) → Delimiter → Transcribed → TranscribeError → Type 0
IsTranscribeError most delimiter it (refusal.StillRepeats at) = IsFirstFault most it.fault (size it.trees) (still_repeats at)
IsTranscribeError most delimiter it (refusal.NothingRepeats at) = IsFirstFault most it.fault (size it.trees) (nothing_repeats at)
IsTranscribeError most delimiter it (refusal.LengthsDiffer at) = IsFirstFault most it.fault (size it.trees) (lengths_differ at)
IsTranscribeError most delimiter it (refusal.NoRound at) = IsFirstFault most it.fault (size it.trees) (no_round at)
IsTranscribeError most delimiter it refusal.OverLimit = IsOver most (size it.trees)
IsTranscribeError most delimiter it (refusal.Tree fault) = IsLimitOf most it fault × IsTreeFault (under delimiter it.trees) fault
