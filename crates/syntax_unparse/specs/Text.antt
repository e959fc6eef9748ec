-- The Rust text of trees.
use Rattle.std.specs.Prelude.{ℕ, Bool, true, false, ◌==◌, List, [], ◌∷◌, ◌++◌, Option, None, Some, slice_get, if◌then◌else◌}
use Rattle.tt_base.specs.Forest.{Forest}
use Rattle.tt_base.specs.LeafText.{leaf_text}
use Rattle.tt_base.specs.TreeText.{closing_text, is_alone, opening_text, space_if}
use Rattle.tt_base.specs.declared.leaf.Leaf.{Leaf}
use Rattle.tt_base.specs.declared.leaf.Leaf.TheVariants as leaf_of
use Rattle.tt_base.specs.declared.punct.Spacing.{Spacing}
use Rattle.syntax_parse.specs.Role.{kind_of as delimiter_of}
use Rattle.syntax_unparse.specs.Marks.{Mark, word, opening, closing, marks}
use Rattle.syntax_unparse.specs.declared.behind.Behind.{Behind}
use Rattle.syntax_unparse.specs.declared.behind.Behind.TheVariants.{Opening, Apart, Joint, Slash, Pound, Quote}

-- the state after a punct: a `'` touches what follows, and so does a punct that is joint or joint hidden
abbrev pub behind_punct : (char : ℕ) → Spacing → Behind
behind_punct char spacing =
    if char == 39 then Quote
    else (if is_alone spacing then Apart
    else (if char == 47 then Slash
    else (if char == 35 then Pound else Joint)))

-- the state after a leaf
abbrev pub behind_leaf : Leaf → Behind
behind_leaf (leaf_of.Punct punct) = behind_punct punct.char punct.spacing
behind_leaf (leaf_of.Literal literal) = Apart
behind_leaf (leaf_of.Ident ident) = Apart

-- whether a byte is a double quote
abbrev pub is_quote : Option ℕ → Bool
is_quote None = false
is_quote (Some byte) = byte == 34

-- whether a leaf is a literal whose text begins with a double quote
abbrev pub is_string : Leaf → Bool
is_string (leaf_of.Literal literal) = is_quote (slice_get (leaf_text (leaf_of.Literal literal)) 0)
is_string (leaf_of.Punct punct) = false
is_string (leaf_of.Ident ident) = false

-- whether a space precedes a leaf
abbrev pub wants_space : Behind → Leaf → Bool
wants_space Apart it = true
wants_space Pound it = is_string it
wants_space _ it = false

-- whether a space precedes an opening bracket
abbrev pub opens_apart : Behind → Bool
opens_apart Apart = true
opens_apart _ = false

-- the text of marks after what was written last: a space before each mark that needs one, and none before a closing bracket
abbrev pub written : Behind → List Mark → List ℕ
written behind [] = []
written behind (word at it ∷ rest) = (space_if (wants_space behind it) ++ leaf_text it) ++ written (behind_leaf it) rest
written behind (opening pair ∷ rest) = (space_if (opens_apart behind) ++ opening_text (delimiter_of pair)) ++ written Opening rest
written behind (closing pair ∷ rest) = closing_text (delimiter_of pair) ++ written Apart rest

-- the Rust text of trees
abbrev pub text_of : Forest → List ℕ
text_of trees = written Opening (marks 0 trees)
