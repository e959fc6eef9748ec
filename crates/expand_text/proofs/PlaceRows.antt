-- Worked byte places in a text. Each holds by computation.
use Rattle.std.proofs.Common.{◌≡◌, ℕ, codes, refl}
use Rattle.tt.specs.Forest.{Forest, end, leaf, node}
use Rattle.tt.specs.Token.{delimiter}
use Rattle.tt.specs.Types.DelimiterKind.TheVariants.{Parenthesis}
use Rattle.tt.specs.Types.IdentIsRaw.TheVariants.{No}
use Rattle.tt.specs.Types.Leaf.TheVariants as leaf_of
use Rattle.tt.specs.Types.Spacing.TheVariants.{Alone}
use Rattle.tt_base.proofs.Samples.{span}
use Rattle.expand_text.specs.Places.{byte_at, definition_byte, template_byte}
use Rattle.mbe_rules.specs.declared.rules_error.ArmFault.{ArmFault}
use Rattle.mbe_rules.specs.declared.rules_error.ArmFault.TheVariants as fault
use Rattle.mbe_pattern.specs.declared.error.PatternError.TheVariants as pattern
use Rattle.mbe_rules.specs.declared.transcribe_error.TranscribeError.{TranscribeError}
use Rattle.mbe_rules.specs.declared.transcribe_error.TranscribeError.TheVariants as filling

-- a letter or a sign that begins at a byte, and parentheses that open and close at bytes, before others
abbrev letter : (start : ℕ) → Forest → Forest
letter start rest = leaf (leaf_of.Ident (record { sym = codes "a"; span = span start 1; is_raw = No })) rest

abbrev sign : (char start : ℕ) → Forest → Forest
sign char start rest = leaf (leaf_of.Punct (record { char = char; spacing = Alone; span = span start 1 })) rest

abbrev held : (start close : ℕ) → (inside rest : Forest) → Forest
held start close inside rest = node (delimiter Parenthesis (span start 1) (span close 1)) inside rest

-- `a (a a) a`
abbrev trees : Forest
trees = letter 0 (held 2 6 (letter 3 (letter 5 end)) (letter 8 end))

-- The bracket is the second token, then comes what it contains, and the text ends after all tokens.
first_token : byte_at trees 0 9 ≡ 0
first_token = refl

bracket : byte_at trees 1 9 ≡ 2
bracket = refl

inside_last : byte_at trees 3 9 ≡ 5
inside_last = refl

behind_bracket : byte_at trees 4 9 ≡ 8
behind_bracket = refl

no_token : byte_at trees 5 9 ≡ 9
no_token = refl

-- `(a) => (a); ($ a) => (a)`
abbrev arms : Forest
arms = held 0 2 (letter 1 end) (sign 61 4 (sign 62 5 (held 7 9 (letter 8 end) (sign 59 10 (held 12 16 (sign 36 13 (letter 15 end)) (sign 61 18 (sign 62 19 (held 21 23 (letter 22 end) end))))))))

-- where a fault of the second arm shows
abbrev shown : ArmFault → ℕ
shown why = definition_byte arms (record { arm = 1; fault = why }) 24

-- where a fault of filling shows in the second template
abbrev filled : TranscribeError → ℕ
filled why = template_byte arms (record { arm = 1; fault = why }) 24

-- The places in a pattern and in a template are counted in them; those of other faults among all arms.
in_pattern : shown (fault.Pattern (pattern.BeginsNothing 0)) ≡ 13
in_pattern = refl

in_template : filled (filling.StillRepeats 0) ≡ 22
in_template = refl

behind_template : filled (filling.NothingRepeats 1) ≡ 23
behind_template = refl

among_arms : shown (fault.NoArrow 10) ≡ 18
among_arms = refl

behind_arms : shown (fault.NoSemicolon 14) ≡ 24
behind_arms = refl
