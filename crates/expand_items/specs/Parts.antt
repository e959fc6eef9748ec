-- Splitting trees into items, or into statements.
use Rattle.std.specs.Prelude.{◌≡◌, ℕ, suc, not, Bool, true, false, List, [], ◌∷◌, Option, None, Some, codes, option_map, if◌then◌else◌}
use Rattle.tt.specs.Forest.{Forest, end}
use Rattle.tt.specs.Gluing.{after_trees}
use Rattle.tt.specs.Siblings.{is_end}
use Rattle.expand_items.specs.declared.part.Part.{Part}
use Rattle.mbe_grammar.specs.Fragments.{Reaches}
use Rattle.expand_items.specs.Attributes.{attributes_len}
use Rattle.expand_items.specs.Positions.{is_items}
use Rattle.expand_items.specs.declared.position.Siblings.{Siblings}
use Rattle.mbe_pattern.specs.Units.{is_at_word, is_at_punct}
use Rattle.mbe_pattern.specs.declared.pattern.GrammarFragment.{GrammarFragment}
use Rattle.mbe_pattern.specs.declared.pattern.GrammarFragment.TheVariants as fragment

-- that many, or none
abbrev pub or_zero : Option ℕ → ℕ
or_zero None = 0
or_zero (Some n) = n

-- the fragment takes so many of these trees, from the first on, or zero if it takes none
abbrev pub Takes : GrammarFragment → Forest → (taken : ℕ) → Type 0
Takes which trees taken = (count : Option ℕ) × Reaches which trees count × (taken ≡ or_zero count)

-- `let` comes first, after attributes
abbrev pub is_at_let : Forest → Bool
is_at_let trees = is_at_word (codes "let") (after_trees (attributes_len trees) trees)

-- the number of trees of a statement that takes so many: the `;` after it is one of them
abbrev pub statement_len : (taken : ℕ) → Forest → ℕ
statement_len taken trees = if is_at_punct (codes ";") (after_trees taken trees) then suc taken else taken

-- an item of so many trees
abbrev pub item_part : (taken : ℕ) → Part
item_part taken = record { len = taken; is_expression = false }

-- a statement that takes so many trees: it is an expression if it is no `let`
abbrev pub statement_part : (taken : ℕ) → Forest → Part
statement_part taken trees = record { len = statement_len taken trees; is_expression = not (is_at_let trees) }

-- what comes first among such siblings: an item; else, if they are no items, a statement; or neither
pub data IsPart : Siblings → Forest → Option Part → Type 0 where
  item : {its : Siblings} {trees : Forest} {more : ℕ} → Takes fragment.Item trees (suc more) → IsPart its trees (Some (item_part (suc more)))
  no_item : {its : Siblings} {trees : Forest} → is_items its ≡ true → Takes fragment.Item trees 0 → IsPart its trees None
  statement : {its : Siblings} {trees : Forest} {more : ℕ} → is_items its ≡ false → Takes fragment.Item trees 0 → Takes fragment.Stmt trees (suc more)
      → IsPart its trees (Some (statement_part (suc more) trees))
  no_statement : {its : Siblings} {trees : Forest} → is_items its ≡ false → Takes fragment.Item trees 0 → Takes fragment.Stmt trees 0 → IsPart its trees None

-- trees are these parts, one after the other, or are no run of parts
pub data AreParts : Siblings → Forest → Option (List Part) → Type 0 where
  ends : {its : Siblings} → AreParts its end (Some [])
  stops : {its : Siblings} {trees : Forest} → is_end trees ≡ false → IsPart its trees None → AreParts its trees None
  goes_on : {its : Siblings} {trees : Forest} {part : Part} {others : Option (List Part)} → is_end trees ≡ false → IsPart its trees (Some part)
      → AreParts its (after_trees part.len trees) others → AreParts its trees (option_map (λ parts. part ∷ parts) others)
