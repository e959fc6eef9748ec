-- Trees spell one list of arms, or have one first fault.
use Rattle.std.proofs.Common.{◌≡◌, ◌≢◌, ℕ, zero, suc, true, List, [], ◌∷◌, Option, Some, inl, inr, refl, ap, ap₂, sym, subst, ◌∙◌, true≢false}
use Rattle.tt.specs.Forest.{Forest, end, node, size}
use Rattle.tt.specs.Gluing.{after_trees}
use Rattle.tt.specs.Moves.{after_tree}
use Rattle.tt.specs.Siblings.{is_end}
use Rattle.tt.specs.Types.Delimiter.{Delimiter}
use Rattle.mbe_pattern.specs.Patterns.{Pattern}
use Rattle.mbe_pattern.specs.Placed.{pattern_of}
use Rattle.mbe_rules.specs.Spelling.{template_of}
use Rattle.mbe_rules.specs.Templates.{Template}
use Rattle.mbe_rules.specs.declared.rules_error.ArmFault.{ArmFault}
use Rattle.mbe_rules.specs.declared.rules_error.ArmFault.TheVariants as fault
use Rattle.mbe_rules.specs.declared.rules_error.RulesError.{RulesError}
use Rattle.mbe_rules.specs.Arms.{Arm, variables, IsArm, IsBehind, IsLast, Spell}
use Rattle.mbe_rules.specs.Arrows.{is_semicolon_in}
use Rattle.mbe_rules.specs.ArmFaults.{behind_arm, arm_fault, IsArmFault, IsFaultAt, IsRulesError}
use Rattle.mbe_rules.proofs.Reading.{arm_sound}

-- an arm, and a fault of an arm, of their parts
abbrev arm_of : Pattern → Delimiter → Template → Arm
arm_of pattern delimiter template = record { pattern = pattern; delimiter = delimiter; template = template }

abbrev rules_error : ℕ → ArmFault → RulesError
rules_error arm why = record { arm = arm; fault = why }

module _ (trees : Forest) (a b : Arm) (rest others : Forest) (is : IsArm trees a rest) (was : IsArm trees b others) where
  begins_same : node is.outer is.pattern is.between ≡ node was.outer was.pattern was.between
  begins_same = sym is.begins ∙ was.begins

  held_same : is.pattern ≡ was.pattern
  held_same = cc begins_same

  between_same : is.between ≡ was.between
  between_same = cc begins_same

  ends_same : node a.delimiter is.template rest ≡ node b.delimiter was.template others
  ends_same = sym is.ends ∙ ap (after_trees 2) between_same ∙ was.ends

  delimiter_same : a.delimiter ≡ b.delimiter
  delimiter_same = cc ends_same

  inner_same : is.template ≡ was.template
  inner_same = cc ends_same

  -- What follows the arm that trees begin with is one thing.
  rest_same : rest ≡ others
  rest_same = cc ends_same

  pattern_same : a.pattern ≡ b.pattern
  pattern_same = is.is_pattern ∙ ap pattern_of held_same ∙ sym was.is_pattern

  template_same : a.template ≡ b.template
  template_same = is.is_template ∙ ap₂ (λ p t. template_of (variables p) t) pattern_same inner_same ∙ sym was.is_template

  -- Trees begin with one arm.
  arm_same : a ≡ b
  arm_same = ap₂ (λ p t. arm_of p a.delimiter t) pattern_same template_same ∙ ap (λ d. arm_of b.pattern d b.template) delimiter_same

-- No trees spell no arms.
none_spelled : (arms : List Arm) → Spell end arms → ⊥
none_spelled [] spells = spells
none_spelled (arm ∷ []) (rest, is, last) = cc is.begins
none_spelled (arm ∷ next ∷ more) (rest, is, there, others) = cc is.begins

-- No arm follows the last.
never_both : (rest : Forest) (arms : List Arm) → IsLast rest → is_semicolon_in rest ≡ true → Spell (after_tree rest) arms → ⊥
never_both rest arms (inl none) there spells = true≢false (sym there ∙ ap is_semicolon_in none)
never_both rest arms (inr (again, none)) there spells = none_spelled arms (subst (λ trees. Spell trees arms) none spells)

-- Trees spell one list of arms.
pub one_spelled : (trees : Forest) (a b : List Arm) → Spell trees a → Spell trees b → a ≡ b
one_spelled trees [] b h k = absurd h
one_spelled trees (arm ∷ []) [] h k = absurd k
one_spelled trees (arm ∷ next ∷ more) [] h k = absurd k
one_spelled trees (arm ∷ []) (it ∷ []) (rest, is, last) (others, was, final) = ap (λ one. one ∷ []) (arm_same trees arm it rest others is was)
one_spelled trees (arm ∷ []) (it ∷ third ∷ its) (rest, is, last) (others, was, there, k) =
    absurd (never_both others (third ∷ its) (subst IsLast (rest_same trees arm it rest others is was) last) there k)
one_spelled trees (arm ∷ next ∷ more) (it ∷ []) (rest, is, there, h) (others, was, last) =
    absurd (never_both rest (next ∷ more) (subst IsLast (sym (rest_same trees arm it rest others is was)) last) there h)
one_spelled trees (arm ∷ next ∷ more) (it ∷ third ∷ its) (rest, is, there, h) (others, was, again, k) =
    let same = rest_same trees arm it rest others is was in
    ap₂ (λ one all. one ∷ all) (arm_same trees arm it rest others is was)
    (one_spelled (after_tree rest) (next ∷ more) (third ∷ its) h (subst (λ r. Spell (after_tree r) (third ∷ its)) (sym same) k))

-- Nothing follows the last arm.
last_behind : (rest : Forest) → IsLast rest → IsBehind rest end
last_behind rest (inl none) = inl (none, refl)
last_behind rest (inr (there, none)) = inr (there, sym none)

last_ends : (rest : Forest) → IsLast rest → after_tree rest ≡ end
last_ends rest (inl none) = ap after_tree none
last_ends rest (inr (there, none)) = none

-- What follows an arm.
behind_same : (trees : Forest) (arm : Arm) (rest : Forest) → IsArm trees arm rest → behind_arm trees ≡ rest
behind_same trees arm rest is = ap behind_arm is.begins ∙ ap after_tree is.ends

-- A fault that is not memory is the first.
first_is : (first : Option ArmFault) (why : ArmFault) → why ≢ fault.Memory → IsArmFault first why → first ≡ Some why
first_is first fault.Memory some is = absurd (some refl)
first_is first why some is = is

-- Arms that are spelled have no fault.
never_wrong : (until : ℕ) (trees : Forest) (arms : List Arm) (number : ℕ) (why : ArmFault) → Spell trees arms → IsFaultAt until trees number why → why ≢ fault.Memory → ⊥
never_wrong until trees [] number why spells wrong some = spells
never_wrong until trees (arm ∷ []) zero why (rest, is, last) wrong some =
    cc (sym (arm_sound until trees arm rest is end (last_behind rest last)) ∙ first_is (arm_fault until trees) why some wrong)
never_wrong until trees (arm ∷ []) (suc number) why (rest, is, last) wrong some =
    true≢false (sym (ap is_end (ap after_tree (behind_same trees arm rest is) ∙ last_ends rest last)) ∙ wrong.1)
never_wrong until trees (arm ∷ next ∷ more) zero why (rest, is, there, others) wrong some =
    cc (sym (arm_sound until trees arm rest is (after_tree rest) (inr (there, refl))) ∙ first_is (arm_fault until trees) why some wrong)
never_wrong until trees (arm ∷ next ∷ more) (suc number) why (rest, is, there, others) wrong some =
    never_wrong until (after_tree rest) (next ∷ more) number why others
    (subst (λ r. IsFaultAt until (after_tree r) number why) (behind_same trees arm rest is) wrong.2) some

pub no_rules_error : (trees : Forest) (arms : List Arm) (why : RulesError) → Spell trees arms → IsRulesError trees why → why.fault ≢ fault.Memory → ⊥
no_rules_error trees arms why = never_wrong (size trees) trees arms why.arm why.fault

-- Arms have one first fault.
one_wrong : (until : ℕ) (trees : Forest) (n m : ℕ) (why other : ArmFault) → IsFaultAt until trees n why → IsFaultAt until trees m other → why ≢ fault.Memory → other ≢ fault.Memory
    → (n ≡ m) × (why ≡ other)
one_wrong until trees zero zero why other h k x y =
    let same : Some why ≡ Some other = sym (first_is (arm_fault until trees) why x h) ∙ first_is (arm_fault until trees) other y k in
    (refl, cc same)
one_wrong until trees zero (suc m) why other h k x y = absurd (cc (sym k.0 ∙ first_is (arm_fault until trees) why x h))
one_wrong until trees (suc n) zero why other h k x y = absurd (cc (sym h.0 ∙ first_is (arm_fault until trees) other y k))
one_wrong until trees (suc n) (suc m) why other h k x y =
    let same = one_wrong until (after_tree (behind_arm trees)) n m why other h.2 k.2 x y in
    (ap suc same.0, same.1)

pub one_rules_error : (trees : Forest) (a b : RulesError) → IsRulesError trees a → IsRulesError trees b → a.fault ≢ fault.Memory → b.fault ≢ fault.Memory → a ≡ b
one_rules_error trees a b h k x y =
    let same = one_wrong (size trees) trees a.arm b.arm a.fault b.fault h k x y in
    ap₂ rules_error same.0 same.1
