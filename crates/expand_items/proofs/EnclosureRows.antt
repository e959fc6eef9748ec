-- Worked ends of statements, and worked enclosures of expansions. Each holds by computation.
use Rattle.std.proofs.Common.{◌≡◌, ℕ, List, true, false, codes, refl}
use Rattle.tt.specs.Forest.{Forest, end, join}
use Rattle.tt.specs.Types.DelimiterKind.TheVariants.{Parenthesis, Brace, Bracket, InvisibleOpaque}
use Rattle.tt.specs.Types.Spacing.TheVariants.{Alone, Joint, JointHidden}
use Rattle.tt.specs.Types.IdentIsRaw.TheVariants.{Yes}
use Rattle.tt.specs.Types.Leaf.{Leaf}
use Rattle.tt.specs.Types.Leaf.TheVariants as leaf_of
use Rattle.tt_base.proofs.Samples.{ident, punct, span, subtree}
use Rattle.expand_items.proofs.Rows.{bang, brackets, m_call}
use Rattle.expand_items.specs.declared.item.MacroPath.TheVariants as way
use Rattle.expand_items.specs.Attributes.{item_at}
use Rattle.expand_items.specs.Items.{other}
use Rattle.expand_items.specs.declared.expression.Enclosure.TheVariants.{Bare, Opaque, Parentheses, Refused}
use Rattle.expand_items.specs.declared.front.Front.TheVariants as front
use Rattle.expand_items.specs.declared.position.Position.{Position}
use Rattle.expand_items.specs.declared.position.Siblings.TheVariants.{Items, Statements}
use Rattle.expand_items.specs.Expressions.{begins_block, block_goes_on, is_split, without_semicolon}
use Rattle.expand_items.specs.Fronts.{front_behind_kind}
use Rattle.expand_items.specs.Loosening.{front_behind_leaf}
use Rattle.expand_items.specs.Positions.{begun, behind_leaf, enclosure, first_in, first_inside, first_of_call, is_statement}
use Rattle.mbe_pattern.proofs.Rows.{word, raw_word, alone, joint}

-- in the braces of a function, and after a word, a punct and a joint punct
abbrev body : Position
body = first_in Brace (begun Items)

abbrev argument : Position
argument = first_in Parenthesis body

abbrev behind_sign : (char : ℕ) → Position → Position
behind_sign char it = behind_leaf false (punct char Alone) end it

abbrev behind_joint : (char : ℕ) → Position → Position
behind_joint char it = behind_leaf false (punct char Joint) end it

abbrev raw_ident : List ℕ → Leaf
raw_ident text = leaf_of.Ident (record { sym = text; span = span 0 1; is_raw = Yes })

-- `a + b`, `{} + b`, `{}`
abbrev sum : Forest
sum = word (codes "a") (alone 43 (word (codes "b") end))

abbrev split : Forest
split = brackets Brace (alone 43 (word (codes "b") end))

abbrev block : Forest
block = brackets Brace end

-- At the end of a block `m!()` is an expression, `#[cfg] m!()` and `m!{}` are statements, and so is `m!()` at the end of an expansion.
tail : is_statement 0 Parenthesis end body ≡ false
tail = refl

tail_under : is_statement 2 Parenthesis end body ≡ true
tail_under = refl

tail_in_braces : is_statement 0 Brace end body ≡ true
tail_in_braces = refl

tail_of_expansion : is_statement 0 Parenthesis end (begun Statements) ≡ true
tail_of_expansion = refl

tail_of_items : is_statement 0 Parenthesis end (begun Items) ≡ true
tail_of_items = refl

-- `m!{}.a` and `m!{}?` go on; `m!{} ..a` does not.
method : is_statement 0 Brace (alone 46 (word (codes "a") end)) body ≡ false
method = refl

question : is_statement 0 Brace (alone 63 end) body ≡ false
question = refl

range : is_statement 0 Brace (joint 46 (alone 46 (word (codes "a") end))) body ≡ true
range = refl

-- At the end of a block `a + b` and `{}` are bare, and `{} + b` is not.
tail_sum : enclosure 0 Parenthesis end sum body ≡ Bare
tail_sum = refl

tail_block : enclosure 0 Parenthesis end block body ≡ Bare
tail_block = refl

tail_split : enclosure 0 Parenthesis end split body ≡ Opaque
tail_split = refl

-- At the beginning of a statement that goes on, a block is in parentheses, `n!()` is too, since it may become a block, and `a + b` is one
-- piece.
block_goes : enclosure 0 Parenthesis (alone 43 end) block body ≡ Parentheses
block_goes = refl

call_goes : enclosure 0 Parenthesis (alone 43 end) (word (codes "n") (bang (brackets Parenthesis end))) body ≡ Parentheses
call_goes = refl

sum_goes : enclosure 0 Parenthesis (alone 43 end) sum body ≡ Opaque
sum_goes = refl

-- `m!();` is bare, and so are `(m!(), ..)`, `(.., m!())`, `= m!();` and `=> m!(),`.
statement : enclosure 0 Parenthesis (alone 59 end) sum body ≡ Bare
statement = refl

first_argument : enclosure 0 Parenthesis (alone 44 end) split argument ≡ Bare
first_argument = refl

last_argument : enclosure 0 Parenthesis end split (behind_sign 44 (behind_sign 43 argument)) ≡ Bare
last_argument = refl

assigned : enclosure 0 Parenthesis (alone 59 end) split (behind_sign 61 (behind_leaf false (punct 43 Alone) end body)) ≡ Bare
assigned = refl

assigned_directly : enclosure 0 Parenthesis (alone 59 end) split (behind_leaf false (punct 61 JointHidden) end (behind_sign 43 body)) ≡ Bare
assigned_directly = refl

arm : enclosure 0 Parenthesis (alone 44 end) sum (behind_sign 62 (behind_joint 61 (behind_sign 43 body))) ≡ Bare
arm = refl

-- `* m!()`, `(m!() + ..)`, `== m!()`, `+= m!()`, `=- m!()` and `=> {} + b` are not.
operand : enclosure 0 Parenthesis end sum (behind_sign 42 argument) ≡ Opaque
operand = refl

before_operator : enclosure 0 Parenthesis (alone 43 end) sum argument ≡ Opaque
before_operator = refl

compared : enclosure 0 Parenthesis (alone 59 end) sum (behind_sign 61 (behind_joint 61 argument)) ≡ Opaque
compared = refl

added_to : enclosure 0 Parenthesis (alone 59 end) sum (behind_sign 61 (behind_joint 43 argument)) ≡ Opaque
added_to = refl

negated : enclosure 0 Parenthesis (alone 59 end) sum (behind_sign 45 (behind_joint 61 argument)) ≡ Opaque
negated = refl

split_arm : enclosure 0 Parenthesis (alone 44 end) split (behind_sign 62 (behind_joint 61 (behind_sign 43 body))) ≡ Opaque
split_arm = refl

-- `a: m!(),`, `return m!();` and `if m!() {}` are bare; `r#if m!() {}` and `if m!() {}` with a block in the expansion are not.
field : enclosure 0 Parenthesis (alone 44 end) sum (behind_sign 58 (behind_leaf false (ident (codes "a")) end argument)) ≡ Bare
field = refl

path : enclosure 0 Parenthesis (alone 44 end) sum (behind_sign 58 (behind_joint 58 argument)) ≡ Opaque
path = refl

returned : enclosure 0 Parenthesis (alone 59 end) sum (behind_leaf false (ident (codes "return")) end body) ≡ Bare
returned = refl

tested : enclosure 0 Parenthesis block sum (behind_leaf false (ident (codes "if")) end body) ≡ Bare
tested = refl

raw_tested : enclosure 0 Parenthesis block sum (behind_leaf false (raw_ident (codes "if")) end body) ≡ Opaque
raw_tested = refl

tested_block : enclosure 0 Parenthesis block split (behind_leaf false (ident (codes "if")) end body) ≡ Opaque
tested_block = refl

tested_call : enclosure 0 Parenthesis block (word (codes "n") (bang (brackets Parenthesis end))) (behind_leaf false (ident (codes "if")) end body) ≡ Opaque
tested_call = refl

tested_return : enclosure 0 Parenthesis block (word (codes "return") end) (behind_leaf false (ident (codes "if")) end body) ≡ Opaque
tested_return = refl

-- `m!() => a` and `-> m!(),` are bare; `- m!(),` and `> m!(),` are not.
pattern : enclosure 0 Parenthesis (joint 61 (alone 62 end)) sum body ≡ Bare
pattern = refl

result : enclosure 0 Parenthesis (alone 44 end) sum (behind_sign 62 (behind_joint 45 argument)) ≡ Bare
result = refl

subtracted : enclosure 0 Parenthesis (alone 44 end) sum (behind_sign 45 argument) ≡ Opaque
subtracted = refl

greater : enclosure 0 Parenthesis (alone 44 end) sum (behind_sign 62 argument) ≡ Opaque
greater = refl

-- After `;` and after braces a statement may begin.
after_semicolon : front_behind_leaf (punct 59 Alone) front.Bound ≡ front.Start
after_semicolon = refl

after_braces : front_behind_kind Brace ≡ front.Start
after_braces = refl

after_colon : front_behind_leaf (punct 58 Alone) front.Bound ≡ front.Colon
after_colon = refl

after_list : front_behind_kind Bracket ≡ front.Bound
after_list = refl

-- Nothing precedes what an argument expands to. What an arm or the beginning of a statement expands to begins there too, so a block at its
-- beginning is in parentheses.
argument_begins : (first_of_call 0 Parenthesis end argument).front ≡ front.Free
argument_begins = refl

arm_begins : (first_of_call 0 Parenthesis (alone 44 end) (behind_sign 62 (behind_joint 61 argument))).front ≡ front.Start
arm_begins = refl

tail_begins : (first_of_call 0 Parenthesis end body).front ≡ front.Start
tail_begins = refl

block_begins : enclosure 0 Parenthesis (alone 43 end) block (first_of_call 0 Parenthesis end body) ≡ Parentheses
block_begins = refl

block_begins_arm : enclosure 0 Parenthesis (alone 43 end) block (behind_sign 62 (behind_joint 61 argument)) ≡ Parentheses
block_begins_arm = refl

-- `m!()` is a call in `#[doc = m!()]`, and is none in `#[a(m!())]`.
abbrev in_attribute : Position
in_attribute = first_in Bracket (behind_leaf false (punct 35 Alone) (brackets Bracket end) body)

value_calls : item_at (codes "crate") in_attribute (word (codes "m") (bang (brackets Parenthesis end))) ≡ m_call way.Name 3
value_calls = refl

argument_calls_nothing : item_at (codes "crate") (first_in Parenthesis in_attribute) (word (codes "m") (bang (brackets Parenthesis end))) ≡ other
argument_calls_nothing = refl

-- `if`, `'a`, `n!{}` and braces begin with a block; `r#if`, `a`, `n!()` and `[]` do not.
if_begins : begins_block (word (codes "if") end) ≡ true
if_begins = refl

label_begins : begins_block (joint 39 (word (codes "a") end)) ≡ true
label_begins = refl

call_begins : begins_block (word (codes "n") (bang (brackets Brace end))) ≡ true
call_begins = refl

braces_begin : begins_block (brackets Brace end) ≡ true
braces_begin = refl

raw_if : begins_block (raw_word (codes "if") end) ≡ false
raw_if = refl

call_in_parentheses : begins_block (word (codes "n") (bang (brackets Parenthesis end))) ≡ false
call_in_parentheses = refl

list_begins : begins_block (brackets Bracket end) ≡ false
list_begins = refl

invisible_begins : begins_block (join (subtree InvisibleOpaque block) end) ≡ true
invisible_begins = refl

-- An invisible subtree of a block splits what follows it; it does not if it is alone.
invisible_splits : is_split (join (subtree InvisibleOpaque block) (alone 43 (word (codes "b") end))) ≡ true
invisible_splits = refl

invisible_alone : is_split (join (subtree InvisibleOpaque block) end) ≡ false
invisible_alone = refl

-- `if a {} else {}` and `match a {}` end with a block; `if a {} else {} + b` goes on.
chain_ends : block_goes_on (word (codes "if") (word (codes "a") (brackets Brace (word (codes "else") (brackets Brace end))))) ≡ false
chain_ends = refl

match_ends : block_goes_on (word (codes "match") (word (codes "a") (brackets Brace end))) ≡ false
match_ends = refl

chain_goes_on : block_goes_on (word (codes "if") (word (codes "a") (brackets Brace (word (codes "else") split)))) ≡ true
chain_goes_on = refl

-- `a + b;` without its `;`; that of `; a` is not at the end.
semicolon_dropped : without_semicolon (word (codes "a") (alone 59 end)) ≡ word (codes "a") end
semicolon_dropped = refl

semicolon_kept : without_semicolon (alone 59 (word (codes "a") end)) ≡ alone 59 (word (codes "a") end)
semicolon_kept = refl

-- `a ; b` and `let a` are no expression: refused in `= m!();` and at the end of a block, and no piece of an operand either; a statement may
-- be both, and so may a call that is all of an opaque subtree before a `;` at the beginning of a statement.
abbrev statements : Forest
statements = word (codes "a") (alone 59 (word (codes "b") end))

abbrev binding : Forest
binding = word (codes "let") (word (codes "a") end)

assigned_statements : enclosure 0 Parenthesis (alone 59 end) statements (behind_sign 61 body) ≡ Refused
assigned_statements = refl

tail_statements : enclosure 0 Parenthesis end statements body ≡ Refused
tail_statements = refl

tail_binding : enclosure 0 Parenthesis end binding body ≡ Refused
tail_binding = refl

raw_binding : enclosure 0 Parenthesis end (raw_word (codes "let") (word (codes "a") end)) body ≡ Bare
raw_binding = refl

operand_statements : enclosure 0 Parenthesis end statements (behind_sign 42 argument) ≡ Refused
operand_statements = refl

statements_in_place : enclosure 0 Parenthesis (alone 59 end) statements body ≡ Bare
statements_in_place = refl

statements_in_piece : enclosure 0 Parenthesis end statements (first_inside InvisibleOpaque (alone 59 end) body) ≡ Bare
statements_in_piece = refl

statements_in_tail : enclosure 0 Parenthesis end statements (first_inside InvisibleOpaque end body) ≡ Refused
statements_in_tail = refl

statements_in_operand : enclosure 0 Parenthesis end statements (first_inside InvisibleOpaque (alone 59 end) (behind_sign 42 body)) ≡ Refused
statements_in_operand = refl

statements_in_parentheses : enclosure 0 Parenthesis end statements (first_inside Parenthesis (alone 59 end) body) ≡ Refused
statements_in_parentheses = refl
