-- Worked operands, and worked places of opaque subtrees. Each holds by computation.
use Rattle.std.proofs.Common.{◌≡◌, true, false, codes, refl, lit<, lit≤, not-le_of_lt}
use Rattle.tt.specs.Forest.{Forest, end, leaf, join}
use Rattle.tt.specs.Types.DelimiterKind.TheVariants.{Parenthesis, Brace, Bracket, Invisible, InvisibleOpaque}
use Rattle.tt.specs.Types.LitKind.TheVariants.{Integer}
use Rattle.tt_base.proofs.Samples.{literal, subtree}
use Rattle.expand_items.proofs.Rows.{bang, brackets, colons}
use Rattle.expand_items.specs.declared.front.Front.TheVariants as front
use Rattle.expand_items.specs.declared.loosening.Place.{Place}
use Rattle.expand_items.specs.declared.operand.Operand.TheVariants as operand
use Rattle.expand_items.specs.Loosening.{loosened}
use Rattle.expand_items.specs.Operands.{belong_together, operand_of}
use Rattle.mbe_pattern.proofs.Rows.{word, raw_word, alone, joint}

-- `a`, `+ b`, `.b`, and `1`, before others
abbrev a : Forest → Forest
a rest = word (codes "a") rest

abbrev plus_b : Forest
plus_b = alone 43 (word (codes "b") end)

abbrev field_b : Forest → Forest
field_b rest = alone 46 (word (codes "b") rest)

abbrev one : Forest → Forest
one rest = leaf (literal (codes "1") Integer (lit≤ tt) (lit≤ tt, λ h. absurd (not-le_of_lt (lit< tt) h))) rest

abbrev opaque : Forest → Forest → Forest
opaque trees rest = join (subtree InvisibleOpaque trees) rest

abbrev loose : Forest → Forest → Forest
loose trees rest = join (subtree Invisible trees) rest

abbrev parentheses : Forest → Forest
parentheses rest = brackets Parenthesis rest

-- Paths: `a`, `::a`, `a::b`, `<a>::b`, `a::<b>`, `r#return`.
path : operand_of (a end) ≡ operand.Path
path = refl

path_of_root : operand_of (colons (a end)) ≡ operand.Path
path_of_root = refl

longer_path : operand_of (a (colons (word (codes "b") end))) ≡ operand.Path
longer_path = refl

qualified : operand_of (alone 60 (a (joint 62 (colons (word (codes "b") end))))) ≡ operand.Path
qualified = refl

turbofish : operand_of (a (colons (alone 60 (word (codes "b") (alone 62 end))))) ≡ operand.Path
turbofish = refl

raw_path : operand_of (raw_word (codes "return") end) ≡ operand.Path
raw_path = refl

-- Types: `a<b>`, `a<b<c>>` and `a<fn() -> b>`; `a<b>(c)` might be `a < b > (c)`, and is none.
generic : operand_of (a (alone 60 (word (codes "b") (alone 62 end)))) ≡ operand.Generic
generic = refl

nested : operand_of (a (alone 60 (word (codes "b") (alone 60 (word (codes "c") (joint 62 (alone 62 end))))))) ≡ operand.Generic
nested = refl

arrow_inside : operand_of (a (alone 60 (word (codes "fn") (parentheses (joint 45 (alone 62 (word (codes "b") (alone 62 end)))))))) ≡ operand.Generic
arrow_inside = refl

compared : operand_of (a (alone 60 (word (codes "b") (alone 62 (parentheses end))))) ≡ operand.Other
compared = refl

-- Expressions: `a.b`, `a.1`, `a?`, `a()`, `a[]`, `a!()`, `a.b()`, `[]`, `1`.
field : operand_of (a (field_b end)) ≡ operand.Field
field = refl

number : operand_of (a (alone 46 (one end))) ≡ operand.Whole
number = refl

tried : operand_of (a (alone 63 end)) ≡ operand.Whole
tried = refl

called : operand_of (a (parentheses end)) ≡ operand.Whole
called = refl

indexed : operand_of (a (brackets Bracket end)) ≡ operand.Whole
indexed = refl

macro_called : operand_of (a (bang (parentheses end))) ≡ operand.Whole
macro_called = refl

method : operand_of (a (field_b (parentheses end))) ≡ operand.Whole
method = refl

list : operand_of (brackets Bracket end) ≡ operand.Whole
list = refl

digit : operand_of (one end) ≡ operand.Whole
digit = refl

-- None: nothing, `a + b`, `a..b`, `return ()`, `a as b`, `a {}`, `a! {}`, an opaque subtree.
nothing : belong_together end end ≡ false
nothing = refl

sum : operand_of (a plus_b) ≡ operand.Other
sum = refl

range : operand_of (a (joint 46 (alone 46 (word (codes "b") end)))) ≡ operand.Other
range = refl

returned : operand_of (word (codes "return") (parentheses end)) ≡ operand.Other
returned = refl

cast : operand_of (a (word (codes "as") (word (codes "b") end))) ≡ operand.Other
cast = refl

struct : operand_of (a (brackets Brace end)) ≡ operand.Other
struct = refl

braced_call : operand_of (a (bang (brackets Brace end))) ≡ operand.Other
braced_call = refl

piece : operand_of (opaque (a plus_b) end) ≡ operand.Other
piece = refl

-- `a.b` belongs together before `.c` and not before `(c)`; `a::b` does before `::c`, `(c)` and `!= c`, and not before `< c` and `!(c)`; `a<b>`
-- does not before `::c`; `a()` does not before `::c`.
before_field : belong_together (a (field_b end)) (field_b end) ≡ true
before_field = refl

before_arguments : belong_together (a (field_b end)) (parentheses end) ≡ false
before_arguments = refl

path_before_colons : belong_together (a end) (colons end) ≡ true
path_before_colons = refl

path_before_arguments : belong_together (a end) (parentheses end) ≡ true
path_before_arguments = refl

path_before_unequal : belong_together (a end) (joint 33 (alone 61 end)) ≡ true
path_before_unequal = refl

path_before_less : belong_together (a end) (alone 60 end) ≡ false
path_before_less = refl

path_before_bang : belong_together (a end) (bang (parentheses end)) ≡ false
path_before_bang = refl

generic_before_colons : belong_together (a (alone 60 (word (codes "b") (alone 62 end)))) (colons end) ≡ false
generic_before_colons = refl

call_before_colons : belong_together (a (parentheses end)) (colons end) ≡ false
call_before_colons = refl

-- `-1` does before `+` and `..`, and not before `.b`, `?` and `[]`; `-a` does not.
negative_before_plus : belong_together (alone 45 (one end)) plus_b ≡ true
negative_before_plus = refl

negative_before_range : belong_together (alone 45 (one end)) (joint 46 (alone 46 end)) ≡ true
negative_before_range = refl

negative_before_field : belong_together (alone 45 (one end)) (field_b end) ≡ false
negative_before_field = refl

negative_before_try : belong_together (alone 45 (one end)) (alone 63 end) ≡ false
negative_before_try = refl

negative_before_index : belong_together (alone 45 (one end)) (brackets Bracket end) ≡ false
negative_before_index = refl

negated : belong_together (alone 45 (a end)) plus_b ≡ false
negated = refl

-- The places: in parentheses, in an expansion with anything beside it, and at the beginning of a statement.
abbrev free : Place
free = record { front = front.Free; ends = true }

abbrev between : Place
between = record { front = front.Bound; ends = false }

abbrev start : Place
start = record { front = front.Start; ends = true }

abbrev a_plus_b : Forest
a_plus_b = a plus_b

abbrev block_plus_b : Forest
block_plus_b = brackets Brace plus_b

-- `(⟨a + b⟩)` and `(⟨a + b⟩, c)` need no parentheses; `(⟨a + b⟩ * c)` and `(c * ⟨a + b⟩)` do.
alone_in_place : loosened free (opaque a_plus_b end) ≡ loose a_plus_b end
alone_in_place = refl

before_comma : loosened free (opaque a_plus_b (alone 44 (a end))) ≡ loose a_plus_b (alone 44 (a end))
before_comma = refl

before_star : loosened free (opaque a_plus_b (alone 42 (a end))) ≡ opaque a_plus_b (alone 42 (a end))
before_star = refl

after_star : loosened free (a (alone 42 (opaque a_plus_b end))) ≡ a (alone 42 (opaque a_plus_b end))
after_star = refl

-- Each sibling has its own place: `⟨a.b⟩ * ⟨a + b⟩, ⟨a + b⟩`.
each_in_place :
    loosened free (opaque (a (field_b end)) (alone 42 (opaque a_plus_b (alone 44 (opaque a_plus_b end)))))
    ≡ loose (a (field_b end)) (alone 42 (opaque a_plus_b (alone 44 (loose a_plus_b end))))
each_in_place = refl

-- A type may end before `=`: `: ⟨a + b⟩ = c`; an expression may not, and a type may not before `==`.
typed : loosened between (alone 58 (opaque a_plus_b (alone 61 (a end)))) ≡ alone 58 (loose a_plus_b (alone 61 (a end)))
typed = refl

assigned : loosened free (opaque a_plus_b (alone 61 (a end))) ≡ opaque a_plus_b (alone 61 (a end))
assigned = refl

compared_to : loosened between (alone 58 (opaque a_plus_b (joint 61 (alone 61 (a end))))) ≡ alone 58 (opaque a_plus_b (joint 61 (alone 61 (a end))))
compared_to = refl

-- At the beginning of a statement `⟨a + b⟩;` needs none, and `⟨{} + b⟩;` does; so it is in braces, after `;` and after braces.
statement : loosened start (opaque a_plus_b (alone 59 end)) ≡ loose a_plus_b (alone 59 end)
statement = refl

split_statement : loosened start (opaque block_plus_b (alone 59 end)) ≡ opaque block_plus_b (alone 59 end)
split_statement = refl

in_braces : loosened free (join (subtree Brace (opaque block_plus_b end)) end) ≡ join (subtree Brace (opaque block_plus_b end)) end
in_braces = refl

in_parentheses : loosened start (join (subtree Parenthesis (opaque block_plus_b end)) end) ≡ join (subtree Parenthesis (loose block_plus_b end)) end
in_parentheses = refl

-- What is beside the whole expansion is not known: only what is between its trees is. `⟨a.b⟩` at its end keeps its subtree.
unknown_end : loosened between (a (alone 44 (opaque a_plus_b end))) ≡ a (alone 44 (opaque a_plus_b end))
unknown_end = refl

unknown_operand : loosened between (opaque (a (field_b end)) end) ≡ opaque (a (field_b end)) end
unknown_operand = refl

known_operand : loosened between (opaque (a (field_b end)) plus_b) ≡ loose (a (field_b end)) plus_b
known_operand = refl

-- In a subtree that becomes invisible, what is beside it counts: `(⟨⟨a + b⟩⟩)`, `(⟨a(⟨a + b⟩)⟩ * c)`; in one that stays nothing does.
inner_apart : loosened free (opaque (opaque a_plus_b end) end) ≡ loose (loose a_plus_b end) end
inner_apart = refl

inner_start : loosened start (opaque (opaque block_plus_b end) (alone 59 end)) ≡ loose (opaque block_plus_b end) (alone 59 end)
inner_start = refl

inner_operand :
    loosened free (opaque (a (join (subtree Parenthesis (opaque a_plus_b end)) end)) (alone 42 (a end)))
    ≡ loose (a (join (subtree Parenthesis (loose a_plus_b end)) end)) (alone 42 (a end))
inner_operand = refl

inner_kept : loosened free (a (alone 42 (opaque (opaque a_plus_b end) end))) ≡ a (alone 42 (opaque (loose a_plus_b end) end))
inner_kept = refl

-- Statements have no parentheses: `⟨{} + b; a⟩;` and `* ⟨let a⟩ * c`.
statements : loosened start (opaque (join block_plus_b (alone 59 (a end))) (alone 59 end)) ≡ loose (join block_plus_b (alone 59 (a end))) (alone 59 end)
statements = refl

binding : loosened between (alone 42 (opaque (word (codes "let") (a end)) (alone 42 (a end)))) ≡ alone 42 (loose (word (codes "let") (a end)) (alone 42 (a end)))
binding = refl

-- A type after `as` that `<` would join gets parentheses, of one token too: `a as ⟨a⟩ < b`, and not `a as ⟨a⟩ + b`.
cast_joined : loosened free (a (word (codes "as") (opaque (a end) (alone 60 (a end))))) ≡ a (word (codes "as") (join (subtree Parenthesis (a end)) (alone 60 (a end))))
cast_joined = refl

cast_alone : loosened free (a (word (codes "as") (opaque (a end) plus_b))) ≡ a (word (codes "as") (loose (a end) plus_b))
cast_alone = refl

only_cast : loosened free (a (alone 42 (opaque (a end) (alone 60 (a end))))) ≡ a (alone 42 (opaque (a end) (alone 60 (a end))))
only_cast = refl
