-- What a caller gets of findings, next to rows worked out by hand. Each holds by computation.
use Rattle.std.proofs.Common.{◌≡◌, ℕ, List, [], ◌∷◌, ◌++◌, Option, None, Some, codes, refl}
use Rattle.app_c.specs.Listings.{caller_words, detail_of, finding_words, findings_bytes, findings_words, listed_bytes, listed_words, only_of}
use Rattle.expand_text.specs.declared.caller.Caller.{Caller}
use Rattle.expand_text.specs.declared.fault.Finding.{Finding}
use Rattle.expand_text.specs.declared.fault.MacroFault.{MacroFault}
use Rattle.expand_text.specs.declared.fault.MacroFault.TheVariants as found
use Rattle.mbe_rules.specs.declared.rules_error.ArmFault.TheVariants as arm
use Rattle.mbe_rules.specs.declared.transcribe_error.TranscribeError.TheVariants as filling
use Rattle.tt_base.specs.declared.fault.TtFault.TheVariants as limit

-- An empty name means all macros.
names : (only_of [] ≡ None) × (only_of (codes "m") ≡ Some (codes "m"))
names = (refl, refl)

-- The number of the arm, the byte that binds the name, or 0.
details : (detail_of (found.Definition (record { arm = 2; fault = arm.NoArrow 5 })) ≡ 2)
    × (detail_of (found.Captured 38) ≡ 38)
    × (detail_of (found.Ambiguous 1) ≡ 1)
    × (detail_of (found.Expansion (record { arm = 3; fault = filling.NoRound 9 })) ≡ 3)
    × (detail_of found.Left ≡ 0)
    × (detail_of found.TooDeep ≡ 0)
    × (detail_of (found.TooLarge limit.TooManyTokens) ≡ 0)
details = (refl, refl, refl, refl, refl, refl, refl)

abbrev finding : MacroFault → (defined_at caller : Option ℕ) → Finding
finding fault defined_at by = record { name = codes "mn"; at = 3; fault = fault; defined_at = defined_at; expected = None; caller = by }

-- a finding that says what is expected
abbrev unmatched : Finding
unmatched = record (finding found.NoMatch (Some 4) None) { expected = Some (codes "`;`") }

abbrev caller : Option ℕ → Caller
caller by = record { name = codes "k"; at = 5; caller = by }

-- the largest word, for a number that is missing
abbrev missing : ℕ
missing = 18446744073709551615

-- The fault, its byte, the definition, the caller, the detail, the name and what is expected.
words : (finding_words 7 (finding found.Statements (Some 4) (Some 1)) ≡ 107 ∷ 3 ∷ 4 ∷ 1 ∷ 0 ∷ 7 ∷ missing ∷ [])
    × (finding_words 0 (finding (found.Ambiguous 2) None None) ≡ 101 ∷ 3 ∷ missing ∷ missing ∷ 2 ∷ 0 ∷ missing ∷ [])
    × (finding_words 7 unmatched ≡ 100 ∷ 3 ∷ 4 ∷ missing ∷ 0 ∷ 7 ∷ 10 ∷ [])
    × (caller_words 9 (caller (Some 0)) ≡ 5 ∷ 0 ∷ 9 ∷ [])
    × (caller_words 9 (caller None) ≡ 5 ∷ missing ∷ 9 ∷ [])
words = (refl, refl, refl, refl, refl)

-- Texts are one behind the other, each with its 0, and each finding has the bytes of its own.
abbrev two : List Finding
two = finding found.Left (Some 4) None ∷ finding found.TooDeep (Some 4) (Some 0) ∷ []

several : (findings_bytes two ≡ codes "mn" ++ 0 ∷ (codes "mn" ++ 0 ∷ []))
    × (findings_words 10 two ≡ 84 ∷ 3 ∷ 4 ∷ missing ∷ 0 ∷ 10 ∷ missing ∷ 104 ∷ 3 ∷ 4 ∷ 0 ∷ 0 ∷ 13 ∷ missing ∷ [])
    × (findings_bytes (unmatched ∷ two) ≡ codes "mn" ++ 0 ∷ (codes "`;`" ++ 0 ∷ (codes "mn" ++ 0 ∷ (codes "mn" ++ 0 ∷ []))))
    × (findings_words 1 (unmatched ∷ finding found.Left None None ∷ []) ≡ 100 ∷ 3 ∷ 4 ∷ missing ∷ 0 ∷ 1 ∷ 4 ∷ 84 ∷ 3 ∷ missing ∷ missing ∷ 0 ∷ 8 ∷ missing ∷ [])
several = (refl, refl, refl, refl)

-- The text comes first, and the callers last.
all : (listed_bytes (codes "ab") two (caller None ∷ []) ≡ codes "ab" ++ 0 ∷ (codes "mn" ++ 0 ∷ (codes "mn" ++ 0 ∷ (codes "k" ++ 0 ∷ []))))
    × (listed_words (codes "ab") two (caller None ∷ [])
    ≡ 2 ∷ 2 ∷ 84 ∷ 3 ∷ 4 ∷ missing ∷ 0 ∷ 3 ∷ missing ∷ 104 ∷ 3 ∷ 4 ∷ 0 ∷ 0 ∷ 6 ∷ missing ∷ 5 ∷ missing ∷ 9 ∷ [])
    × (listed_bytes [] [] [] ≡ 0 ∷ [])
    × (listed_words [] [] [] ≡ 0 ∷ 0 ∷ [])
all = (refl, refl, refl, refl)
