-- Truths in Kleene's logic, added one by one to what an operator makes of them.
use Rattle.std.proofs.Common.{◌≡◌, Bool, true, false, List, [], ◌∷◌, Option, None, Some, refl, sym, ◌∙◌}
use Rattle.expand_items.specs.Checking.{begun_by, with_operand}
use Rattle.expand_items.specs.Predicates.{all_of, any_of, applied, applied_if, both, either, listed}
use Rattle.expand_items.specs.declared.predicate.Operator.{Operator}
use Rattle.expand_items.specs.declared.predicate.Operator.TheVariants as operator

-- Both of three, in either order.
pub both_both : (a b c : Option Bool) → both (both a b) c ≡ both a (both b c)
both_both (Some false) b c = refl
both_both (Some true) b c = refl
both_both None (Some false) c = refl
both_both None (Some true) c = refl
both_both None None (Some false) = refl
both_both None None (Some true) = refl
both_both None None None = refl

pub both_true : (a : Option Bool) → both a (Some true) ≡ a
both_true (Some false) = refl
both_true (Some true) = refl
both_true None = refl

-- One of three, in either order.
either_either : (a b c : Option Bool) → either (either a b) c ≡ either a (either b c)
either_either (Some true) b c = refl
either_either (Some false) b c = refl
either_either None (Some true) c = refl
either_either None (Some false) c = refl
either_either None None (Some true) = refl
either_either None None (Some false) = refl
either_either None None None = refl

either_false : (a : Option Bool) → either a (Some false) ≡ a
either_false (Some true) = refl
either_false (Some false) = refl
either_false None = refl

-- what an operator makes of some operands, after others
abbrev gathered : Operator → (is_first : Bool) → (so_far : Option Bool) → List (Option Bool) → Option Bool
gathered its first so_far [] = so_far
gathered its first so_far (it ∷ others) = gathered its false (with_operand its first so_far it) others

-- the same; open if the others are no list of predicates
abbrev pub gathered_if : Operator → (is_first : Bool) → (so_far : Option Bool) → Option (List (Option Bool)) → Option Bool
gathered_if its first so_far None = None
gathered_if its first so_far (Some operands) = gathered its first so_far operands

gathered_all : (first : Bool) (so_far : Option Bool) (operands : List (Option Bool)) → gathered operator.All first so_far operands ≡ both so_far (all_of operands)
gathered_all first so_far [] = sym (both_true so_far)
gathered_all first so_far (it ∷ others) = gathered_all false (both so_far it) others ∙ both_both so_far it (all_of others)

gathered_any : (first : Bool) (so_far : Option Bool) (operands : List (Option Bool)) → gathered operator.Any first so_far operands ≡ either so_far (any_of operands)
gathered_any first so_far [] = sym (either_false so_far)
gathered_any first so_far (it ∷ others) = gathered_any false (either so_far it) others ∙ either_either so_far it (any_of others)

-- Several operands of an operator that takes one are open.
not_more : (operands : List (Option Bool)) → gathered operator.Not false None operands ≡ None
not_more [] = refl
not_more (it ∷ others) = not_more others

only_more : (operands : List (Option Bool)) → gathered operator.Only false None operands ≡ None
only_more [] = refl
only_more (it ∷ others) = only_more others

unknown_more : (first : Bool) (operands : List (Option Bool)) → gathered operator.Unknown first None operands ≡ None
unknown_more first [] = refl
unknown_more first (it ∷ others) = unknown_more false others

gathered_applied : (its : Operator) (operands : List (Option Bool)) → gathered its true (begun_by its) operands ≡ applied its operands
gathered_applied operator.All operands = gathered_all true (Some true) operands
gathered_applied operator.Any operands = gathered_any true (Some false) operands
gathered_applied operator.Not [] = refl
gathered_applied operator.Not (it ∷ []) = refl
gathered_applied operator.Not (it ∷ other ∷ others) = not_more others
gathered_applied operator.Only [] = refl
gathered_applied operator.Only (it ∷ []) = refl
gathered_applied operator.Only (it ∷ other ∷ others) = only_more others
gathered_applied operator.Unknown operands = unknown_more true operands

-- All operands, one by one, are what the operator is applied to.
pub applied_one_by_one : (its : Operator) (operands : Option (List (Option Bool))) → gathered_if its true (begun_by its) operands ≡ applied_if its operands
applied_one_by_one its None = refl
applied_one_by_one its (Some operands) = gathered_applied its operands

-- The first operand is added, and the others are left.
pub one_listed : (its : Operator) (first : Bool) (so_far it : Option Bool) (others : Option (List (Option Bool)))
    → gathered_if its first so_far (listed it others) ≡ gathered_if its false (with_operand its first so_far it) others
one_listed its first so_far it None = refl
one_listed its first so_far it (Some others) = refl
