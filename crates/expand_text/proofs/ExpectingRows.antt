-- What a message says is expected, next to rows worked out by hand. Each holds by computation.
use Rattle.std.proofs.Common.{◌≡◌, ◌++◌, List, [], ◌∷◌, codes, refl}
use Rattle.std.specs.Fmt.{digits}
use Rattle.std.specs.List.{join_by}
use Rattle.std.specs.Prelude.{ℕ, replicate}
use Rattle.tt.specs.Forest.{Forest}
use Rattle.tt.specs.Types.DelimiterKind.TheVariants.{Brace}
use Rattle.tt.specs.Types.Leaf.{Leaf}
use Rattle.tt_base.proofs.Samples.{ident, span}
use Rattle.tt_base.specs.Token.{delimiter}
use Rattle.mbe_pattern.specs.declared.pattern.Fragment.TheVariants as fragment
use Rattle.mbe_pattern.specs.declared.pattern.Variable.{Variable}
use Rattle.mbe_pattern.specs.Patterns as pattern
use Rattle.mbe_matcher.specs.Labels.{take, enter, leave}
use Rattle.mbe_rules.specs.declared.macro_rules.ArmPart.{ArmPart}
use Rattle.mbe_rules.specs.Arms.{Arm}
use Rattle.mbe_rules.specs.Templates.{nothing}
use Rattle.mbe_rules.specs.Waiting.{AreWaitingIn, in_arm}
use Rattle.expand_text.specs.Expecting.{IsExpected, added, different, label_text, quoted, three_of}

-- A variable is as in its pattern, a bracket as it opens.
abbrev variable : List ℕ → Variable
variable name = record { name = name; fragment = fragment.Tt }

labels : (label_text (take (variable (codes "x"))) ≡ codes "`$x:tt`")
    × (label_text (take (variable (codes "_"))) ≡ codes "`$_:tt`")
    × (label_text (enter Brace) ≡ codes "`{`")
    × (label_text leave ≡ codes "the end")
labels = (refl, refl, refl, refl)

-- 40 bytes are quoted, 41 are not.
longest : quoted (replicate 40 97) (codes "other") ≡ codes "`" ++ replicate 40 97 ++ codes "`"
longest = refl

too_long : quoted (replicate 41 97) (codes "other") ≡ codes "other"
too_long = refl

-- No control character is quoted: a line break, an escape, DEL, U+009B.
controls : (quoted (codes "a\nb") (codes "other") ≡ codes "other")
    × (quoted (27 ∷ codes "[31m") (codes "other") ≡ codes "other")
    × (quoted (codes "a" ++ 127 ∷ []) (codes "other") ≡ codes "other")
    × (quoted (194 ∷ 155 ∷ []) (codes "other") ≡ codes "other")
    × (quoted (codes "文 ~") (codes "other") ≡ codes "`文 ~`")
controls = (refl, refl, refl, refl, refl)

-- A text comes once, three are named, and behind them that there are others.
abbrev three : List (List ℕ)
three = codes "a" ∷ codes "b" ∷ codes "c" ∷ []

once : added (codes "a" ∷ codes "b" ∷ []) (codes "a") ≡ codes "a" ∷ codes "b" ∷ []
once = refl

more : added (codes "a" ∷ []) (codes "b") ≡ codes "a" ∷ codes "b" ∷ []
more = refl

others : added three (codes "d") ≡ three ++ codes "others" ∷ []
others = refl

no_more : added (three ++ codes "others" ∷ []) (codes "e") ≡ three ++ codes "others" ∷ []
no_more = refl

alternatives : join_by (λ text. text) (codes " or ") three ≡ codes "a or b or c"
alternatives = refl

-- Different texts are in the order in which they first come, and three of them are named.
order : different (codes "b" ∷ codes "a" ∷ codes "b" ∷ codes "c" ∷ codes "a" ∷ []) ≡ codes "b" ∷ codes "a" ∷ codes "c" ∷ []
order = refl

few : (three_of [] ≡ []) × (three_of three ≡ three) × (three_of (three ++ codes "d" ∷ codes "e" ∷ []) ≡ three ++ codes "others" ∷ [])
few = (refl, refl, refl)

-- What is expected if these parts of `($x:tt in $aa..a:tt) => {}; (a a) => {}` wait, with 40 letters in the second name. The parts of the first
-- rule are three and its end, those of the second two and its end.
abbrev word : List ℕ → Leaf
word text = ident text

abbrev arm_of : pattern.Pattern → Arm
arm_of its = record { pattern = its; delimiter = delimiter Brace (span 0 1) (span 0 1); template = nothing }

abbrev arms : List Arm
arms =
    arm_of (pattern.variable (variable (codes "x")) (pattern.token (word (codes "in") ∷ []) (pattern.variable (variable (replicate 40 97)) pattern.nothing)))
    ∷ arm_of (pattern.token (word (codes "a") ∷ []) (pattern.token (word (codes "a") ∷ []) pattern.nothing)) ∷ []

abbrev Says : (parts : List ArmPart) → (expected : List ℕ) → Type 0
Says parts expected = (input : Forest) (place : ℕ) → AreWaitingIn arms 0 input place parts → IsExpected arms input place expected

none_waits : Says [] []
none_waits input place waits = ([], waits, refl)

one_waits : Says (in_arm 0 1 ∷ []) (codes "`in` (rule 1)")
unfolding digits
one_waits input place waits = (in_arm 0 1 ∷ [], waits, refl)

two_wait : Says (in_arm 0 0 ∷ in_arm 1 2 ∷ []) (codes "`$x:tt` (rule 1) or the end (rule 2)")
unfolding digits
two_wait input place waits = (in_arm 0 0 ∷ in_arm 1 2 ∷ [], waits, refl)

same_twice : Says (in_arm 0 1 ∷ in_arm 1 0 ∷ in_arm 1 1 ∷ []) (codes "`in` (rule 1) or `a` (rule 2)")
unfolding digits
same_twice input place waits = (in_arm 0 1 ∷ in_arm 1 0 ∷ in_arm 1 1 ∷ [], waits, refl)

five_wait : Says (in_arm 0 0 ∷ in_arm 0 1 ∷ in_arm 0 3 ∷ in_arm 1 0 ∷ in_arm 1 2 ∷ []) (codes "`$x:tt` (rule 1) or `in` (rule 1) or the end (rule 1) or others")
unfolding digits
five_wait input place waits = (in_arm 0 0 ∷ in_arm 0 1 ∷ in_arm 0 3 ∷ in_arm 1 0 ∷ in_arm 1 2 ∷ [], waits, refl)

long_waits : Says (in_arm 0 2 ∷ []) (codes "a variable (rule 1)")
unfolding digits
long_waits input place waits = (in_arm 0 2 ∷ [], waits, refl)
