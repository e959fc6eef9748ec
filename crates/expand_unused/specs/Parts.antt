-- The parts of a text, as far as they matter to what is needed: words, and definitions that may go.
use Rattle.std.specs.Prelude.{◌-◌, ◌+◌, ◌==◌, ◌++◌, ◌&&◌, not, ℕ, zero, suc, Bool, true, List, [], ◌∷◌, map, Option, None, Some, codes, bytes_eq, if◌then◌else◌}
use Rattle.tt.specs.Forest.{Forest, end, leaf, node, flat, size}
use Rattle.tt.specs.Gluing.{after_trees}
use Rattle.tt.specs.Span.{start_of, end_of}
use Rattle.tt.specs.Token.{leaf_span}
use Rattle.tt.specs.Types.Leaf.{Leaf}
use Rattle.tt.specs.Types.Leaf.TheVariants as leaf_of
use Rattle.tt.specs.Types.Span.{Span}
use Rattle.tt.specs.Types.TokenTree.{TokenTree}
use Rattle.tt.specs.Types.TokenTree.TheVariants as token
use Rattle.expand_unused.specs.declared.part.Part as part_in_code
use Rattle.expand_unused.specs.declared.part.Part.TheVariants as rust
use Rattle.expand_unused.specs.declared.part.Rules as rules_in_code
use Rattle.expand_unused.specs.declared.choice.Choice.{Choice}
use Rattle.syntax_edit.specs.Places.{begin_at}
use Rattle.expand_items.specs.Items.{Definition}
use Rattle.expand_items.specs.MacroRulesItems.{MacroRulesItem, has_attribute, macro_rules_item_in}

-- the definition of a macro that may go: its name, the bytes at which its attributes or it
-- begin and at which it ends, and the words in its arms
pub record Rules : Type 0 where
  pub name : List ℕ
  pub start : ℕ
  pub end : ℕ
  pub inside : List (List ℕ)

-- a word outside of such definitions, or one of them
pub data Part : Type 0 where
  word : List ℕ → Part
  rules : Rules → Part

-- the text of an ident
abbrev pub leaf_words : Leaf → List (List ℕ)
leaf_words (leaf_of.Literal it) = []
leaf_words (leaf_of.Punct it) = []
leaf_words (leaf_of.Ident it) = it.sym ∷ []

abbrev pub token_words : TokenTree → List (List ℕ)
token_words (token.Leaf it) = leaf_words it
token_words (token.Subtree it) = []

-- the texts of all idents among tokens
abbrev pub words_among : List TokenTree → List (List ℕ)
words_among [] = []
words_among (it ∷ behind) = token_words it ++ words_among behind

-- the texts of all idents in trees, at any depth
abbrev pub words_in : Forest → List (List ℕ)
words_in trees = words_among (flat trees)

-- four trees of a definition precede the `;` that may be the last
abbrev pub before_semicolon : ℕ
before_semicolon = 4

-- the last span of a definition that comes first
abbrev pub last_span : Definition → Forest → Span
last_span it trees = if it.len == 5 then begin_at (after_trees before_semicolon trees) it.delimiter.close else it.delimiter.close

-- a definition of that name may go: only those of one name may, or all
abbrev pub may_go : (only : Option (List ℕ)) → (name : List ℕ) → Bool
may_go None name = true
may_go (Some it) name = bytes_eq it name

-- the definition that comes first, with the attributes before it, if it may go
abbrev pub if_may_go : Choice → Option MacroRulesItem → Option MacroRulesItem
if_may_go choice None = None
if_may_go choice (Some it) = if may_go choice.only it.definition.name.sym then Some it else None

abbrev pub first_in : Choice → Forest → Option MacroRulesItem
first_in choice trees = if_may_go choice (macro_rules_item_in trees)

-- the same, if a definition is there
abbrev pub first_at : Choice → (is_defined : Bool) → Forest → Option MacroRulesItem
first_at choice is_defined trees = if is_defined then first_in choice trees else None

-- the definition of these trees, which begin with that leaf
abbrev pub rules_from : MacroRulesItem → Leaf → Forest → Rules
rules_from it first trees =
    record {
      name = it.definition.name.sym;
      start = start_of (leaf_span first).range;
      end = end_of (last_span it.definition (after_trees it.attributes trees)).range;
      inside = words_in it.definition.arms;
    }

-- other crates may use the name of a definition of these trees: it is exported, and exported definitions may not go
abbrev pub exported_words : Choice → MacroRulesItem → Forest → List (List ℕ)
exported_words choice it trees =
    if not choice.drops_exported && has_attribute (codes "macro_export") trees then it.definition.name.sym ∷ [] else []

-- the parts that begin with a leaf: the name of an exported definition counts as a word outside
abbrev pub first_parts : Choice → Option MacroRulesItem → Leaf → Forest → List Part
first_parts choice None first trees = map word (leaf_words first)
first_parts choice (Some it) first trees = map word (exported_words choice it trees) ++ rules (rules_from it first trees) ∷ []

-- how many trees behind the leaf are part of the definition
abbrev pub passed_by : Option MacroRulesItem → ℕ
passed_by None = 0
passed_by (Some it) = it.attributes + it.definition.len - 1

-- all parts of trees, in order. So many of the first trees are part of a definition, and so many tokens are left from here to the end of the
-- text; `defined` are the places of the definitions
abbrev pub parts_in : Choice → (defined : ℕ → Bool) → (passed left : ℕ) → Forest → List Part
parts_in choice defined passed left end = []
parts_in choice defined (suc passed) left (leaf it rest) = parts_in choice defined passed (left - 1) rest
parts_in choice defined (suc passed) left (node delimiter children rest) = parts_in choice defined passed (left - 1 - size children) rest
parts_in choice defined zero left (leaf it rest) =
    first_parts choice (first_at choice (defined left) (leaf it rest)) it (leaf it rest)
    ++ parts_in choice defined (passed_by (first_at choice (defined left) (leaf it rest))) (left - 1) rest
parts_in choice defined zero left (node delimiter children rest) =
    parts_in choice defined 0 (left - 1) children ++ parts_in choice defined 0 (left - 1 - size children) rest

-- all parts of a text
abbrev pub parts_of : Choice → (defined : ℕ → Bool) → Forest → List Part
parts_of choice defined trees = parts_in choice defined 0 (size trees) trees

-- what the values of the code mean
abbrev pub rules_of : rules_in_code.Rules → Rules
rules_of it = record { name = it.name; start = it.start; end = it.end; inside = it.inside.items }

abbrev pub part_of : part_in_code.Part → Part
part_of (rust.Word it) = word it
part_of (rust.Rules it) = rules (rules_of it)
