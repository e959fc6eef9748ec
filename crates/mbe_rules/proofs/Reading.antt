-- Reads an arm from trees.
use Rattle.std.proofs.Common.{◌≡◌, ◌<◌, ◌≤◌, ℕ, true, false, None, Some, inl, inr, refl, ap, ap₂, sym, ◌∙◌, arith, cond}
use Rattle.std.specs.Prelude.{option_map}
use Rattle.tt.specs.Expectations.{is_at_node}
use Rattle.tt.specs.Forest.{Forest, end, leaf, node, size}
use Rattle.tt.specs.Gluing.{after_trees}
use Rattle.tt.specs.Iters.{rest_of, IsFirstSubtree}
use Rattle.tt.specs.Moves.{after_tree}
use Rattle.tt.specs.Siblings.{is_end}
use Rattle.tt.specs.Types.Delimiter.{Delimiter}
use Rattle.tt.specs.Types.Subtree.{Subtree}
use Rattle.tt.specs.Types.TtIter.{TtIter}
use Rattle.mbe_pattern.specs.declared.error.PatternError.{PatternError}
use Rattle.mbe_pattern.specs.declared.error.PatternError.TheVariants as pattern
use Rattle.mbe_pattern.specs.Faults.{pattern_fault, IsPatternError}
use Rattle.mbe_rules.specs.declared.error.TemplateError.{TemplateError}
use Rattle.mbe_rules.specs.declared.error.TemplateError.TheVariants as template
use Rattle.mbe_rules.specs.declared.rules_error.ArmFault.{ArmFault}
use Rattle.mbe_rules.specs.declared.rules_error.ArmFault.TheVariants as fault
use Rattle.mbe_rules.specs.Arms.{Arm, IsArm, IsBehind}
use Rattle.mbe_rules.specs.Arrows.{is_arrow_in, is_semicolon_in}
use Rattle.mbe_rules.specs.ArmFaults.{of_pattern, of_template, or_else, place, template_fault_in, arrow_fault, semicolon_fault, behind_arm, body_fault, arm_fault, IsArmFault}
use Rattle.mbe_rules.specs.SpellingFaults.{spelling_fault, IsTemplateError}

-- A first subtree, and what follows it.
pub node_first : (trees : Forest) (header : Subtree) (below : TtIter) → IsFirstSubtree trees header below → trees ≡ node header.delimiter (rest_of below) (after_tree trees)
node_first end header below p = absurd p
node_first (leaf it rest) header below p = absurd p
node_first (node delimiter children rest) header below p = ap₂ (λ d f. node d f rest) (sym p.0) (sym p.2)

-- There is no subtree.
pub no_pattern : (until : ℕ) (trees : Forest) → is_at_node trees ≡ false → body_fault until trees ≡ Some (fault.NoPattern (place until trees))
no_pattern until end is = refl
no_pattern until (leaf it rest) is = refl
no_pattern until (node delimiter children rest) is = absurd (cc is)

module _ (until : ℕ) (trees : Forest) (outer : Delimiter) (held between : Forest) (begins : trees ≡ node outer held between) where
  -- what is wrong, depending on how it begins
  body_is : body_fault until trees ≡ or_else (option_map of_pattern (pattern_fault held)) (arrow_fault until between)
  body_is = ap (body_fault until) begins

  -- Its pattern has a fault.
  pub pattern_wrong : (error : PatternError) → IsPatternError held error → IsArmFault (body_fault until trees) (of_pattern error)
  pattern_wrong pattern.Memory is = tt
  pattern_wrong (pattern.BeginsNothing at) is = body_is ∙ ap (λ f. or_else (option_map of_pattern f) (arrow_fault until between)) is
  pattern_wrong (pattern.UnknownFragment at) is = body_is ∙ ap (λ f. or_else (option_map of_pattern f) (arrow_fault until between)) is
  pattern_wrong (pattern.NameTwice at) is = body_is ∙ ap (λ f. or_else (option_map of_pattern f) (arrow_fault until between)) is
  pattern_wrong (pattern.NeedlessSeparator at) is = body_is ∙ ap (λ f. or_else (option_map of_pattern f) (arrow_fault until between)) is
  pattern_wrong (pattern.EmptyRepetition at) is = body_is ∙ ap (λ f. or_else (option_map of_pattern f) (arrow_fault until between)) is

  module _ (sound : pattern_fault held ≡ None) where
    behind_is : body_fault until trees ≡ arrow_fault until between
    behind_is = body_is ∙ ap (λ f. or_else (option_map of_pattern f) (arrow_fault until between)) sound

    -- No `=>` follows it.
    pub no_arrow : is_arrow_in between ≡ false → body_fault until trees ≡ Some (fault.NoArrow (place until between))
    no_arrow none =
        behind_is
        ∙ ap (λ b. cond b (template_fault_in until (after_trees 2 between)) (Some (fault.NoArrow (place until between)))) none

    module _ (arrow : is_arrow_in between ≡ true) where
      template_is : body_fault until trees ≡ template_fault_in until (after_trees 2 between)
      template_is =
          behind_is
          ∙ ap (λ b. cond b (template_fault_in until (after_trees 2 between)) (Some (fault.NoArrow (place until between)))) arrow

      -- No subtree follows that.
      pub no_template : (behind : Forest) → behind ≡ after_trees 2 between → is_at_node behind ≡ false → body_fault until trees ≡ Some (fault.NoTemplate (place until behind))
      no_template behind is none = template_is ∙ ap (template_fault_in until) (sym is) ∙ by behind none
        where
          by : (behind : Forest) → is_at_node behind ≡ false → template_fault_in until behind ≡ Some (fault.NoTemplate (place until behind))
          by end none = refl
          by (leaf it rest) none = refl
          by (node delimiter children rest) none = absurd (cc none)

      module _ (inner : Delimiter) (body rest : Forest) (ends : after_trees 2 between ≡ node inner body rest) where
        held_is : body_fault until trees ≡ option_map of_template (spelling_fault body)
        held_is = template_is ∙ ap (template_fault_in until) ends

        -- There is no fault up to its end.
        pub body_sound : spelling_fault body ≡ None → body_fault until trees ≡ None
        body_sound is = held_is ∙ ap (option_map of_template) is

        -- Its template has a fault.
        pub template_wrong : (error : TemplateError) → IsTemplateError body error → IsArmFault (body_fault until trees) (of_template error)
        template_wrong template.Memory is = tt
        template_wrong (template.BeginsNothing at) is = held_is ∙ ap (option_map of_template) is
        template_wrong (template.NoOperator at) is = held_is ∙ ap (option_map of_template) is
        template_wrong (template.NeedlessSeparator at) is = held_is ∙ ap (option_map of_template) is

        pub behind_same : behind_arm trees ≡ rest
        behind_same = ap behind_arm begins ∙ ap after_tree ends

-- A fault up to the end of the template is a fault of the arm.
pub body_wrong : (until : ℕ) (trees : Forest) (error : ArmFault) → IsArmFault (body_fault until trees) error → IsArmFault (arm_fault until trees) error
body_wrong until trees fault.Memory is = tt
body_wrong until trees (fault.NoPattern at) is = ap (λ f. or_else f (semicolon_fault until (behind_arm trees))) is
body_wrong until trees (fault.Pattern it) is = ap (λ f. or_else f (semicolon_fault until (behind_arm trees))) is
body_wrong until trees (fault.NoArrow at) is = ap (λ f. or_else f (semicolon_fault until (behind_arm trees))) is
body_wrong until trees (fault.NoTemplate at) is = ap (λ f. or_else f (semicolon_fault until (behind_arm trees))) is
body_wrong until trees (fault.Template it) is = ap (λ f. or_else f (semicolon_fault until (behind_arm trees))) is
body_wrong until trees (fault.NoSemicolon at) is = ap (λ f. or_else f (semicolon_fault until (behind_arm trees))) is

module _ (until : ℕ) (trees : Forest) (arm : Arm) (rest : Forest) (is : IsArm trees arm rest) where
  -- An arm is sound up to the end of its template.
  arm_body : body_fault until trees ≡ None
  arm_body = body_sound until trees is.outer is.pattern is.between is.begins is.sound_pattern is.arrow arm.delimiter is.template rest is.ends is.sound_template

  arm_behind : behind_arm trees ≡ rest
  arm_behind = behind_same until trees is.outer is.pattern is.between is.begins is.sound_pattern is.arrow arm.delimiter is.template rest is.ends

  arm_is : arm_fault until trees ≡ semicolon_fault until rest
  arm_is = ap₂ (λ f r. or_else f (semicolon_fault until r)) arm_body arm_behind

  -- No `;` follows it, and it is not the last.
  pub no_semicolon : is_end rest ≡ false → is_semicolon_in rest ≡ false → arm_fault until trees ≡ Some (fault.NoSemicolon (place until rest))
  no_semicolon more none =
      arm_is
      ∙ ap₂ (λ a b. cond a None (cond b None (Some (fault.NoSemicolon (place until rest))))) more none

  module _ (others : Forest) (behind : IsBehind rest others) where
    -- It is sound.
    pub arm_sound : arm_fault until trees ≡ None
    arm_sound = arm_is ∙ by behind
      where
        by : IsBehind rest others → semicolon_fault until rest ≡ None
        by (inl (is_last, none)) = ap (semicolon_fault until) is_last
        by (inr (there, left)) = semicolon rest there
          where
            semicolon : (rest : Forest) → is_semicolon_in rest ≡ true → semicolon_fault until rest ≡ None
            semicolon end there = refl
            semicolon (leaf it more) there = ap (λ b. cond b None (Some (fault.NoSemicolon (place until (leaf it more))))) there
            semicolon (node delimiter children more) there = absurd (cc there)

    -- What is left after it.
    pub left_behind : is_end others ≡ false → (is_semicolon_in rest ≡ true) × (after_tree (behind_arm trees) ≡ others)
    left_behind more = by behind
      where
        by : IsBehind rest others → (is_semicolon_in rest ≡ true) × (after_tree (behind_arm trees) ≡ others)
        by (inl (is_last, none)) = absurd (none_left (ap is_end none))
          where
            none_left : is_end others ≡ true → ⊥
            none_left e = cc
        by (inr (there, left)) = (there, ap after_tree arm_behind ∙ sym left)

-- No more tokens are left.
after_less : (trees : Forest) → size (after_tree trees) ≤ size trees
after_less end = omega arith
after_less (leaf it rest) = omega arith
after_less (node delimiter children rest) = omega arith

-- Fewer are left after an arm.
pub arm_less : (trees : Forest) (arm : Arm) (rest others : Forest) → IsArm trees arm rest → IsBehind rest others → size others < size trees
arm_less trees arm rest others is behind =
    omega (
      arith,
      ap size is.begins,
      ap size is.ends,
      after_less is.between,
      after_less (after_tree is.between),
      by behind,
    )
  where
    by : IsBehind rest others → size others ≤ size rest
    by (inl (is_last, none)) = omega (arith, ap size is_last, ap size none)
    by (inr (there, left)) = omega (arith, ap size left, after_less rest)
