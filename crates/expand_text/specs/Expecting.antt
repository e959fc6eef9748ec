-- What the arms of a macro expect where none of them matches an input.
use Rattle.std.specs.Prelude.{◌≡◌, ◌+◌, ◌==◌, ◌||◌, ℕ, min, Bool, not, List, [], ◌∷◌, ◌++◌, length, take as first, filter, filter_map, Option, None, Some, option_map, codes, decimal, bytes_eq, nat_lt, if◌then◌else◌}
use Rattle.std.specs.List.{join_by, list_any}
use Rattle.tt.specs.Forest.{Forest}
use Rattle.tt.specs.Types.DelimiterKind.{DelimiterKind}
use Rattle.tt.specs.Types.DelimiterKind.TheVariants as delimited
use Rattle.tt.specs.Types.Leaf.{Leaf}
use Rattle.tt_base.specs.LeafText.{leaf_text}
use Rattle.expand_items.specs.Items.{Call}
use Rattle.expand_text.specs.declared.fault.MacroFault.{MacroFault}
use Rattle.expand_text.specs.declared.fault.MacroFault.TheVariants as wrong
use Rattle.mbe_pattern.specs.declared.pattern.Variable.{Variable}
use Rattle.mbe_pattern.specs.Spelling.{fragment_name}
use Rattle.mbe_matcher.specs.Labels.{Label, take, same, enter, leave}
use Rattle.mbe_rules.specs.declared.macro_rules.ArmPart.{ArmPart}
use Rattle.mbe_rules.specs.declared.macro_rules.Expansion.TheVariants as expansion
use Rattle.mbe_rules.specs.Arms.{Arm}
use Rattle.mbe_rules.specs.Expansions.{IsExpansion}
use Rattle.mbe_rules.specs.Waiting.{AreWaitingIn, part_in}

-- how a bracket opens
abbrev pub opening : DelimiterKind → List ℕ
opening delimited.Parenthesis = codes "("
opening delimited.Brace = codes "{"
opening delimited.Bracket = codes "["
opening delimited.Invisible = []
opening delimited.InvisibleOpaque = []

-- a variable as it is in its pattern
abbrev pub variable_text : Variable → List ℕ
variable_text it = codes "$" ++ it.name ++ codes ":" ++ fragment_name it.fragment

-- the text of a token of these leaves
abbrev pub token_text : List Leaf → List ℕ
token_text [] = []
token_text (it ∷ others) = leaf_text it ++ token_text others

-- a byte of a control character, or the first of the two bytes of U+0080 to U+00BF, some of which are control characters
abbrev pub is_control : (byte : ℕ) → Bool
is_control byte = nat_lt byte 32 || (byte == 127 || byte == 194)

-- a text in backquotes, or the other one if it has more than 40 bytes or one of those
abbrev pub quoted : (text other : List ℕ) → List ℕ
quoted text other = if nat_lt 40 (length text) || list_any is_control text then other else codes "`" ++ text ++ codes "`"

-- how a message names what a part of a pattern requires
abbrev pub label_text : Label → List ℕ
label_text (take which) = quoted (variable_text which) (codes "a variable")
label_text (same its) = quoted (token_text its) (codes "a token")
label_text (enter kind) = quoted (opening kind) []
label_text leave = codes "the end"

-- the number of a rule, counted from 1, up to the largest 64-bit number
abbrev pub rule_number : (arm : ℕ) → ℕ
rule_number arm = min (arm + 1) 18446744073709551615

abbrev pub rule_text : (arm : ℕ) → List ℕ
rule_text arm = codes " (rule " ++ decimal (rule_number arm) ++ codes ")"

-- how a message names a part of that rule
abbrev pub part_text : (arm : ℕ) → Label → List ℕ
part_text arm label = label_text label ++ rule_text arm

-- each of the texts once, in the order in which they first come
abbrev pub different : List (List ℕ) → List (List ℕ)
different [] = []
different (text ∷ texts) = text ∷ filter (λ other. not (bytes_eq text other)) (different texts)

-- three of the texts, and if there are more, that there are others
abbrev pub three_of : List (List ℕ) → List (List ℕ)
three_of texts = first 3 texts ++ (if nat_lt 3 (length texts) then codes "others" ∷ [] else [])

-- how a message names a part of the patterns of arms, if there is such a part
abbrev pub name_of : List Arm → ArmPart → Option (List ℕ)
name_of arms it = option_map (part_text it.arm) (part_in arms it.arm it.part)

-- how a message names these parts: three of their different names
abbrev pub parts_named : List Arm → List ArmPart → List (List ℕ)
parts_named arms parts = three_of (different (filter_map (name_of arms) parts))

-- one text behind others: nothing, if it is there already or if it is said that there are others; behind three, that there are others
abbrev pub added : List (List ℕ) → List ℕ → List (List ℕ)
added texts text =
    if list_any (λ other. bytes_eq other text) texts || nat_lt 3 (length texts) then texts
    else texts ++ (if length texts == 3 then codes "others" else text) ∷ []

-- behind these texts, how a message names a part of that rule, if there is one
abbrev pub part_added : List (List ℕ) → (arm : ℕ) → Option Label → List (List ℕ)
part_added texts arm None = texts
part_added texts arm (Some label) = added texts (part_text arm label)

-- what arms expect at a flat place of an input: the parts that wait there
abbrev pub IsExpected : List Arm → (input : Forest) → (place : ℕ) → (expected : List ℕ) → Type 0
IsExpected arms input place expected =
    (parts : List ArmPart) × AreWaitingIn arms 0 input place parts × (expected ≡ join_by (λ text. text) (codes " or ") (parts_named arms parts))

-- what a finding about a call says of it: something only if no arm matches the input
abbrev pub IsExpectedFor : List Arm → Call → MacroFault → (expected : Option (List ℕ)) → Type 0
IsExpectedFor arms it wrong.NoMatch expected =
    (place : ℕ) × IsExpansion arms 0 0 it.input (expansion.NoMatch place) × (text : List ℕ) × IsExpected arms it.input place text × (expected ≡ Some text)
IsExpectedFor arms it fault expected = expected ≡ None
