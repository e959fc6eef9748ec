-- Which findings name an exceeded limit of trees.
use Rattle.std.specs.Prelude.{◌≡◌, Bool, true, false, List, [], ◌∷◌}
use Rattle.expand_text.specs.declared.fault.Finding.{Finding}
use Rattle.expand_text.specs.declared.fault.MacroFault.{MacroFault}
use Rattle.expand_text.specs.declared.fault.MacroFault.TheVariants as wrong
use Rattle.mbe_rules.specs.declared.transcribe_error.TranscribeError.{TranscribeError}
use Rattle.mbe_rules.specs.declared.transcribe_error.TranscribeError.TheVariants as error

-- a filled template exceeds a limit of trees
abbrev pub is_limit : TranscribeError → Bool
is_limit (error.StillRepeats at) = false
is_limit (error.NothingRepeats at) = false
is_limit (error.LengthsDiffer at) = false
is_limit (error.NoRound at) = false
is_limit error.OverLimit = false
is_limit (error.Tree why) = true

-- a tree exceeds a limit: if it exceeds several, any one of them may be named
abbrev pub names_limit : MacroFault → Bool
names_limit (wrong.Expansion why) = is_limit why.fault
names_limit (wrong.TooLarge why) = true
names_limit fault = false

-- no finding names an exceeded limit of trees
abbrev pub KeepLimits : List Finding → Type 0
KeepLimits [] = Unit {0}
KeepLimits (it ∷ others) = (names_limit it.fault ≡ false) × KeepLimits others
