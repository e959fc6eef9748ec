-- The first part of a template, from what was read of its trees.
use Rattle.std.proofs.Common.{◌≡◌, ◌-◌, ℕ, zero, suc, Bool, true, false, List, length, codes, Option, Some, None, refl, ap, ap₂, sym, ◌∙◌, cond}
use Rattle.tt.specs.Expectations.{is_at_node}
use Rattle.tt.specs.Forest.{Forest, end, leaf, node, size}
use Rattle.tt.specs.Gluing.{after_trees}
use Rattle.tt.specs.Moves.{after_tree}
use Rattle.tt.specs.Types.Delimiter.{Delimiter}
use Rattle.tt.specs.Types.Leaf.{Leaf}
use Rattle.mbe_pattern.specs.declared.pattern.RepeatKind.{RepeatKind}
use Rattle.mbe_matcher.specs.Grouping.{Where}
use Rattle.mbe_pattern.specs.Spelling.{Tail, is_dollar, is_crate_in}
use Rattle.mbe_pattern.specs.Units.{is_at_punct}
use Rattle.mbe_pattern.proofs.Passing.{after_end}
use Rattle.mbe_rules.specs.Spelling.{dollar_of, last_alone, seamed, Mark, mark_from, mark_in, mark_or, mark_length, part_of, variable_in, template_behind, template_until}
use Rattle.mbe_rules.specs.Spelling as spelling
use Rattle.mbe_rules.specs.Templates.{Template, inner_part}
use Rattle.mbe_rules.specs.Templates as template

-- Only a subtree begins a repetition.
no_repetition : (b : Bool) (found : Option ℕ) (less_follows : Bool) (tail : Tail) → mark_from None b found less_follows ≡ spelling.repetition tail → ⊥
no_repetition true found less_follows tail is = cc is
no_repetition false None less_follows tail is = cc is
no_repetition false (Some it) less_follows tail is = cc is

-- Neither does a `$` before another.
no_second : (found : Option Leaf) (other : Mark) (tail : Tail) → mark_or found other ≡ spelling.repetition tail → other ≡ spelling.repetition tail
no_second None other tail is = is
no_second (Some it) other tail is = absurd (cc is)

-- So the first tree is a subtree.
pub node_there : (variables : List Where) (trees : Forest) (tail : Tail) → mark_in variables trees ≡ spelling.repetition tail → is_at_node trees ≡ false → ⊥
node_there variables end tail is none = no_repetition (is_crate_in end) (variable_in variables end) (is_at_punct (codes "<") end) tail is
node_there variables (leaf it rest) tail is none =
    no_repetition (is_crate_in (leaf it rest)) (variable_in variables (leaf it rest)) (is_at_punct (codes "<") rest) tail
    (no_second (dollar_of (leaf it rest)) (mark_from None (is_crate_in (leaf it rest)) (variable_in variables (leaf it rest)) (is_at_punct (codes "<") rest)) tail is)
node_there variables (node delimiter children rest) tail is none = cc none

module _ (variables : List Where) (until : ℕ) where
  -- After that many trees, the template is that of the trees that are left.
  pub behind_passed : (n : ℕ) (trees : Forest) → template_behind variables until n trees ≡ template_until variables until (after_trees n trees)
  behind_passed zero trees = refl
  behind_passed (suc n) end = sym (ap (template_until variables until) (after_end n))
  behind_passed (suc n) (leaf it rest) = behind_passed n rest
  behind_passed (suc n) (node delimiter children rest) = behind_passed n rest

  module _ (dollar : Leaf) (rest : Forest) (is : is_dollar dollar ≡ true) where
    -- A `$` begins what its mark says.
    marked : (mark : Mark) → mark_in variables rest ≡ mark
        → template_until variables until (leaf dollar rest)
        ≡ part_of (until - size (leaf dollar rest)) dollar mark (inner_part (template_behind variables until zero rest)) (template_behind variables until (mark_length mark) rest)
    marked mark same =
        ap (λ b. cond b (part_of (until - size (leaf dollar rest)) dollar (mark_in variables rest) (inner_part (template_behind variables until zero rest)) (template_behind variables until (mark_length (mark_in variables rest)) rest))
        (template.token (seamed dollar rest) (template_behind variables until zero rest))) is
        ∙ ap (λ m. part_of (until - size (leaf dollar rest)) dollar m (inner_part (template_behind variables until zero rest)) (template_behind variables until (mark_length m) rest)) same

    pub marked_use : (variable : ℕ) (less_follows : Bool) (behind : Forest) → mark_in variables rest ≡ spelling.use_of variable less_follows → behind ≡ after_tree rest
        → template_until variables until (leaf dollar rest) ≡ template.use_of (until - size (leaf dollar rest)) variable less_follows (template_until variables until behind)
    marked_use variable less_follows behind same left =
        marked (spelling.use_of variable less_follows) same
        ∙ ap (template.use_of (until - size (leaf dollar rest)) variable less_follows) (behind_passed 1 rest ∙ ap (template_until variables until) (sym left))

    pub marked_repetition : (delimiter : Delimiter) (children others behind : Forest) (separator : List Leaf) (kind : RepeatKind)
        → rest ≡ node delimiter children others → mark_in variables rest ≡ spelling.repetition (record { separator = separator; kind = kind })
        → behind ≡ after_trees (length separator) (after_tree others)
        → template_until variables until (leaf dollar rest)
        ≡ template.repetition (until - size (leaf dollar rest)) (template_until variables (until - size others) children) (last_alone separator) kind (template_until variables until behind)
    marked_repetition delimiter children others behind separator kind begins same left =
        marked (spelling.repetition (record { separator = separator; kind = kind })) same
        ∙ ap₂ (λ held more. template.repetition (until - size (leaf dollar rest)) held (last_alone separator) kind more) (ap (λ t. inner_part (template_behind variables until zero t)) begins)
        (behind_passed (suc (suc (length separator))) rest ∙ ap (λ t. template_until variables until (after_trees (suc (suc (length separator))) t)) begins
        ∙ ap (template_until variables until) (sym left))

    pub marked_second : (it : Leaf) (behind : Forest) → mark_in variables rest ≡ spelling.second it → behind ≡ after_tree rest
        → template_until variables until (leaf dollar rest) ≡ template.token it (template_until variables until behind)
    marked_second it behind same left =
        marked (spelling.second it) same ∙ ap (template.token it) (behind_passed 1 rest ∙ ap (template_until variables until) (sym left))

    pub marked_nothing : mark_in variables rest ≡ spelling.nothing → template_until variables until (leaf dollar rest) ≡ template.token dollar (template_until variables until rest)
    marked_nothing same = marked spelling.nothing same

  -- Any other leaf is a token.
  pub token_first : (it : Leaf) (rest : Forest) → is_dollar it ≡ false → template_until variables until (leaf it rest) ≡ template.token (seamed it rest) (template_until variables until rest)
  token_first it rest other =
      ap (λ b. cond b (part_of (until - size (leaf it rest)) it (mark_in variables rest) (inner_part (template_behind variables until zero rest)) (template_behind variables until (mark_length (mark_in variables rest)) rest))
      (template.token (seamed it rest) (template_behind variables until zero rest))) other
