-- Numbered positions of an input.
use Rattle.std.specs.Prelude.{◌≡◌, ◌+◌, ◌<◌, ℕ, zero, suc, List, [], ◌∷◌, Contains, if◌then◌else◌}
use Rattle.tt.specs.Forest.{Forest, end, size}
use Rattle.tt.specs.Moves.{after_tree}
use Rattle.tt.specs.Siblings.{children_of, is_end}
use Rattle.tt.specs.Types.DelimiterKind.{DelimiterKind}
use Rattle.mbe_pattern.specs.Units.{IsNodeOf}
use Rattle.mbe_program.specs.Program.{Instruction, enter}

-- what is known of numbered positions: the trees that are left of their level, the position outside their level, the first position inside
-- their first tree, and how many tokens are left; 0 is the number of the position outside all
pub record Table : Type 0 where
  pub count : ℕ
  pub trees : ℕ → Forest
  pub outside : ℕ → ℕ
  pub inside : ℕ → ℕ
  pub left : ℕ → ℕ

-- the table has the positions of an input that a program may come to: those of a level follow one another, the input begins at position 1,
-- and what is inside a subtree has positions if the program enters subtrees of its kind
pub record IsTableOf (program : List Instruction) (input : Forest) (table : Table) : Type 0 where
  pub some : 1 < table.count
  pub nowhere : table.trees 0 ≡ end
  pub none_left : table.left 0 ≡ 0
  pub whole : table.trees 1 ≡ input
  pub outmost : table.outside 1 ≡ 0
  pub next : (n : ℕ) → 0 < n → n < table.count → (table.trees n ≡ end → ⊥)
      → (suc n < table.count) × (table.trees (suc n) ≡ after_tree (table.trees n)) × (table.outside (suc n) ≡ table.outside n)
  pub into : (n : ℕ) → 0 < n → n < table.count → (kind : DelimiterKind) → Contains program (enter kind) → IsNodeOf kind (table.trees n)
      → (0 < table.inside n) × (table.inside n < table.count) × (table.trees (table.inside n) ≡ children_of (table.trees n)) × (table.outside (table.inside n) ≡ suc n)
  pub out : (n : ℕ) → n < table.count → table.outside n < table.count
  pub left_is : (n : ℕ) → 0 < n → n < table.count → table.left n ≡ size (table.trees n) + table.left (table.outside n)

-- the levels at a position, the innermost first
abbrev pub AreLevels : Table → (n : ℕ) → List Forest → Type 0
AreLevels table n [] = n ≡ 0
AreLevels table n (trees ∷ outer) = (0 < n) × (n < table.count) × (trees ≡ table.trees n) × AreLevels table (table.outside n) outer

-- the position after that many trees, or at the end of the level if it has fewer
abbrev pub passed_to : Table → (count : ℕ) → (n : ℕ) → ℕ
passed_to table zero n = n
passed_to table (suc count) n = passed_to table count (if is_end (table.trees n) then n else suc n)
