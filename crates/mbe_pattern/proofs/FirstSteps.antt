-- The first part of a pattern with places, from what was read of its trees.
use Rattle.std.proofs.Common.{◌≡◌, ◌-◌, ℕ, zero, suc, Bool, true, false, List, [], ◌∷◌, length, Option, Some, None, refl, ap, ap₂, sym, ◌∙◌, cond}
use Rattle.tt.specs.Expectations.{is_at_node}
use Rattle.tt.specs.Forest.{Forest, end, leaf, node, size}
use Rattle.tt.specs.Gluing.{after_trees}
use Rattle.tt.specs.Moves.{after_tree}
use Rattle.tt.specs.Types.Delimiter.{Delimiter}
use Rattle.tt.specs.Types.Leaf.{Leaf}
use Rattle.mbe_pattern.specs.declared.pattern.RepeatKind.{RepeatKind}
use Rattle.mbe_pattern.specs.declared.pattern.Variable.{Variable}
use Rattle.mbe_pattern.specs.Placed.{Placed, inner_part, part_of, fault_in, placed_behind, placed_until}
use Rattle.mbe_pattern.specs.Placed as placed
use Rattle.mbe_pattern.specs.Spelling.{Tail, Dollar, is_dollar, is_token_before, variable_in, dollar_from, dollar_in, dollar_length}
use Rattle.mbe_pattern.specs.Spelling as spelling
use Rattle.mbe_pattern.specs.Units.{unit_from, first_unit}
use Rattle.mbe_pattern.proofs.Passing.{after_end}

-- Only a subtree begins a repetition.
no_repetition : (b : Bool) (found : Option Variable) (tail : Tail) → dollar_from None b found ≡ spelling.repetition tail → ⊥
no_repetition true found tail is = cc is
no_repetition false None tail is = cc is
no_repetition false (Some it) tail is = cc is

pub node_there : (trees : Forest) (tail : Tail) → dollar_in trees ≡ spelling.repetition tail → is_at_node trees ≡ false → ⊥
node_there end tail is none = no_repetition (is_token_before end) (variable_in end) tail is
node_there (leaf it rest) tail is none = no_repetition (is_token_before (leaf it rest)) (variable_in (leaf it rest)) tail is
node_there (node delimiter children rest) tail is none = cc none

-- the pattern that a leaf begins, given whether it is a `$`, and what a `$` begins there
abbrev pub begun : (until : ℕ) → Leaf → Forest → (is_sign : Bool) → Dollar → Placed
begun until it rest is_sign sign =
    cond is_sign (part_of (until - size (leaf it rest)) it sign rest (inner_part (placed_behind until zero rest)) (placed_behind until (dollar_length sign) rest))
    (placed.token (first_unit (leaf it rest)) (placed_behind until (unit_from it rest - 1) rest))

module _ (until : ℕ) where
  -- After that many trees, the pattern is that of the trees that are left.
  pub placed_passed : (n : ℕ) (trees : Forest) → placed_behind until n trees ≡ placed_until until (after_trees n trees)
  placed_passed zero trees = refl
  placed_passed (suc n) end = sym (ap (placed_until until) (after_end n))
  placed_passed (suc n) (leaf it rest) = placed_passed n rest
  placed_passed (suc n) (node delimiter children rest) = placed_passed n rest

  module _ (dollar : Leaf) (rest : Forest) (is : is_dollar dollar ≡ true) where
    -- A `$` begins what its sign says.
    placed_dollar : (sign : Dollar) → dollar_in rest ≡ sign → placed_until until (leaf dollar rest) ≡ begun until dollar rest true sign
    placed_dollar sign same = ap₂ (begun until dollar rest) is same

    pub placed_variable : (it : Variable) (behind : Forest) → dollar_in rest ≡ spelling.variable it → behind ≡ after_trees 3 rest
        → placed_until until (leaf dollar rest) ≡ placed.variable (until - size (leaf dollar rest)) it (placed_until until behind)
    placed_variable it behind same left =
        placed_dollar (spelling.variable it) same
        ∙ ap (placed.variable (until - size (leaf dollar rest)) it) (placed_passed 3 rest ∙ ap (placed_until until) (sym left))

    pub placed_repetition : (delimiter : Delimiter) (children others behind : Forest) (separator : List Leaf) (kind : RepeatKind)
        → rest ≡ node delimiter children others → dollar_in rest ≡ spelling.repetition (record { separator = separator; kind = kind })
        → behind ≡ after_trees (length separator) (after_tree others)
        → placed_until until (leaf dollar rest)
        ≡ placed.repetition (until - size (leaf dollar rest)) (placed_until (until - size others) children) separator kind (placed_until until behind)
    placed_repetition delimiter children others behind separator kind begins same left =
        placed_dollar (spelling.repetition (record { separator = separator; kind = kind })) same
        ∙ ap₂ (λ held more. placed.repetition (until - size (leaf dollar rest)) held separator kind more) (ap (λ t. inner_part (placed_behind until zero t)) begins)
        (placed_passed (suc (suc (length separator))) rest ∙ ap (λ t. placed_until until (after_trees (suc (suc (length separator))) t)) begins
        ∙ ap (placed_until until) (sym left))

    pub placed_alone : dollar_in rest ≡ spelling.token → placed_until until (leaf dollar rest) ≡ placed.token (dollar ∷ []) (placed_until until rest)
    placed_alone same = placed_dollar spelling.token same

    pub placed_wrong : dollar_in rest ≡ spelling.nothing
        → placed_until until (leaf dollar rest) ≡ placed.wrong (fault_in (until - size (leaf dollar rest)) rest) dollar (placed_until until rest)
    placed_wrong same = placed_dollar spelling.nothing same

  -- Any other leaf begins a token.
  pub placed_token : (it : Leaf) (rest behind : Forest) → is_dollar it ≡ false → behind ≡ after_trees (unit_from it rest - 1) rest
      → placed_until until (leaf it rest) ≡ placed.token (first_unit (leaf it rest)) (placed_until until behind)
  placed_token it rest behind other left =
      ap (λ b. begun until it rest b (dollar_in rest)) other
      ∙ ap (placed.token (first_unit (leaf it rest))) (placed_passed (unit_from it rest - 1) rest ∙ ap (placed_until until) (sym left))
