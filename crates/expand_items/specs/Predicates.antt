-- What the predicate of a condition says, in Kleene's logic: `Some true`, `Some false`, or `None` if it is open.
use Rattle.std.specs.Prelude.{ℕ, ◌==◌, ◌&&◌, not, Bool, true, false, List, [], ◌∷◌, Option, None, Some, codes, bytes_eq, if◌then◌else◌}
use Rattle.std.specs.List.{list_any}
use Rattle.tt.specs.Forest.{Forest, end, leaf, node}
use Rattle.tt.specs.Literal.{kind_of, text_of, suffix_len_of}
use Rattle.tt.specs.Types.Ident.{Ident}
use Rattle.tt.specs.Types.Leaf.{Leaf}
use Rattle.tt.specs.Types.Leaf.TheVariants as leaf_of
use Rattle.tt.specs.Types.Literal.{Literal}
use Rattle.tt.specs.Types.LitKind.{LitKind}
use Rattle.tt.specs.Types.LitKind.TheVariants as literal
use Rattle.expand_items.specs.Cfg.{Known, flag_says, key_value_says}
use Rattle.expand_items.specs.declared.predicate.Operator.{Operator}
use Rattle.expand_items.specs.declared.predicate.Operator.TheVariants as operator
use Rattle.mbe_pattern.specs.Spelling.{is_parenthesis}
use Rattle.mbe_pattern.specs.Units.{is_word}

-- both of two: false if one is false, true if both are true, else open
abbrev pub both : (a b : Option Bool) → Option Bool
both (Some false) b = Some false
both (Some true) b = b
both None (Some false) = Some false
both None (Some true) = None
both None None = None

-- one of two: true if one is true, false if both are false, else open
abbrev pub either : (a b : Option Bool) → Option Bool
either (Some true) b = Some true
either (Some false) b = b
either None (Some true) = Some true
either None (Some false) = None
either None None = None

-- the opposite
abbrev pub negated : Option Bool → Option Bool
negated None = None
negated (Some it) = Some (not it)

-- all of some, and any of them
abbrev pub all_of : List (Option Bool) → Option Bool
all_of [] = Some true
all_of (it ∷ others) = both it (all_of others)

abbrev pub any_of : List (Option Bool) → Option Bool
any_of [] = Some false
any_of (it ∷ others) = either it (any_of others)

-- the only one; open if there are none or several
abbrev pub only_of : List (Option Bool) → Option Bool
only_of [] = None
only_of (it ∷ []) = it
only_of (it ∷ other ∷ others) = None

-- what an operator makes of its operands; `Only` is the whole predicate
abbrev pub applied : Operator → List (Option Bool) → Option Bool
applied operator.All operands = all_of operands
applied operator.Any operands = any_of operands
applied operator.Not operands = negated (only_of operands)
applied operator.Only operands = only_of operands
applied operator.Unknown operands = None

-- the same; open if the operands are no list of predicates
abbrev pub applied_if : Operator → Option (List (Option Bool)) → Option Bool
applied_if its None = None
applied_if its (Some operands) = applied its operands

-- the operator of a name
abbrev pub operator_of : (name : List ℕ) → Operator
operator_of name =
    if bytes_eq name (codes "all") then operator.All
    else (if bytes_eq name (codes "any") then operator.Any else (if bytes_eq name (codes "not") then operator.Not else operator.Unknown))

-- a word: `true`, `false`, or a name
abbrev pub word_says : Known → Ident → Option Bool
word_says known word =
    if is_word (codes "true") word.is_raw word.sym then Some true
    else (if is_word (codes "false") word.is_raw word.sym then Some false else flag_says known word.sym)

-- a text has a `\`
abbrev pub has_backslash : (text : List ℕ) → Bool
has_backslash text = list_any (λ byte. byte == 92) text

-- a literal is a string, and means its text: it is raw or has no escape
abbrev pub is_plain_text : LitKind → (text : List ℕ) → Bool
is_plain_text literal.Byte text = false
is_plain_text literal.Char text = false
is_plain_text literal.Integer text = false
is_plain_text literal.Float text = false
is_plain_text literal.Str text = not (has_backslash text)
is_plain_text (literal.StrRaw hashes) text = true
is_plain_text literal.ByteStr text = false
is_plain_text (literal.ByteStrRaw hashes) text = false
is_plain_text literal.CStr text = false
is_plain_text (literal.CStrRaw hashes) text = false
is_plain_text (literal.Err error) text = false

abbrev pub is_plain : Literal → Bool
is_plain it = (suffix_len_of it == 0) && is_plain_text (kind_of it) (text_of it)

-- a key with a value: open if the value is no string, or has an escape
abbrev pub value_says : Known → (key : List ℕ) → (value : Leaf) → Option Bool
value_says known key (leaf_of.Literal it) = if is_plain it then key_value_says known key (text_of it) else None
value_says known key (leaf_of.Punct it) = None
value_says known key (leaf_of.Ident it) = None

-- a punct of that character
abbrev pub is_sign : (char : ℕ) → Leaf → Bool
is_sign char (leaf_of.Literal it) = false
is_sign char (leaf_of.Punct it) = it.char == char
is_sign char (leaf_of.Ident it) = false

-- what is read next in a list of predicates: a predicate, what follows its first word, the value after `=`, or what follows a predicate
pub data Next : Type 0 where
  predicate : Next
  behind_word : Ident → Next
  value : (key : List ℕ) → Next
  separator : Next

-- one predicate more in front of a list, if it is one
abbrev pub listed : Option Bool → Option (List (Option Bool)) → Option (List (Option Bool))
listed it None = None
listed it (Some others) = Some (it ∷ others)

-- what the predicates of a list say, with commas between them; `None` if these trees are no such list
abbrev pub predicates : Known → Next → Forest → Option (List (Option Bool))
predicates known predicate end = Some []
predicates known predicate (leaf (leaf_of.Literal it) rest) = None
predicates known predicate (leaf (leaf_of.Punct it) rest) = None
predicates known predicate (leaf (leaf_of.Ident it) rest) = predicates known (behind_word it) rest
predicates known predicate (node delimiter children rest) = None
predicates known (behind_word word) end = Some (word_says known word ∷ [])
predicates known (behind_word word) (leaf it rest) =
    if is_sign 61 it then predicates known (value word.sym) rest
    else (if is_sign 44 it then listed (word_says known word) (predicates known predicate rest) else None)
predicates known (behind_word word) (node delimiter children rest) =
    if is_parenthesis delimiter.kind
    then listed (applied_if (operator_of word.sym) (predicates known predicate children)) (predicates known separator rest) else None
predicates known (value key) end = None
predicates known (value key) (leaf it rest) = listed (value_says known key it) (predicates known separator rest)
predicates known (value key) (node delimiter children rest) = None
predicates known separator end = Some []
predicates known separator (leaf it rest) = if is_sign 44 it then predicates known predicate rest else None
predicates known separator (node delimiter children rest) = None

-- what a predicate says: open if these trees are no predicate
abbrev pub check : Known → Forest → Option Bool
check known trees = applied_if operator.Only (predicates known predicate trees)
