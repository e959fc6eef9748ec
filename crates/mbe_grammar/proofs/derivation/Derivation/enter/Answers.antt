-- The level that was read is the innermost one, or its trees are refused.
use Rattle.std.proofs.Common.{rules, ◌≡◌, inl, ◌+◌, ◌^◌, ◌≤◌, [], length, reverse, Some, None, refl, sym, subst, ap, ◌∙◌}
use Rattle.std.specs.Prelude.{option_map, IfSome}
use Rattle.mbe_grammar.specs.Derivations.{Refuses, place}
use Rattle.mbe_grammar.specs.Deriving.{behind_level, IsRead, StopsFrom, left_by}
use Rattle.mbe_grammar.specs.Left.{around, inside}
use Rattle.mbe_grammar.proofs.Ahead.{entered_ahead}
use Rattle.mbe_grammar.proofs.derivation.Derivation.enter.Goals as goal

pub returns-in_default-clause-read : goal.returns-in_default-clause-read
returns-in_default-clause-read c =
    let it = c.args.self.now in
    let level = c.args.level in
    let none : c.in_ok-inner.field-0 ≡ None = search rules in
    let refused : Refuses it.table.rules.now (place level) (place level) =
    subst (λ o. IsRead it.table.rules.now (place level) (around it.log.items []) (option_map (λ i. inside c.read.new.log.items i []) o)) none (c.in_ok-inner.ensures.read []) in
    subst (λ v. StopsFrom it.table.rules.now v (left_by v it.log.items it.inner (reverse it.around.items)) (place level)) (sym c.requires) (inl refused)

pub returns-clause-read : goal.returns-clause-read
returns-clause-read c =
    let it = c.args.self.now in
    let level = c.args.level in
    let new = c.read.new.log.items in
    let others = reverse c.put_around.new.levels.items in
    let some : c.in_ok-inner.field-0 ≡ Some c.in-Some.inner = search rules in
    let items : c.reserve.new.self.items ≡ it.around.items = search rules in
    let same : around it.log.items others ≡ behind_level level.close it.log.items it.inner (reverse it.around.items) =
    c.put_around.ensures it.log.items ∙ ap (λ a. behind_level level.close it.log.items it.inner (reverse a)) items in
    let read : IsRead it.table.rules.now (place level) (around it.log.items others) (Some (inside new c.in-Some.inner others)) =
    subst (λ o. IsRead it.table.rules.now (place level) (around it.log.items others) (option_map (λ i. inside new i others) o)) some (c.in_ok-inner.ensures.read others) in
    let fits : length (inside new c.in-Some.inner others) ≤ length (around it.log.items others) + 2 ^ 64 =
    subst (λ o. IfSome o (λ i. length (inside new i others) ≤ length (around it.log.items others) + 2 ^ 64)) some (c.in_ok-inner.ensures.fits others) in
    let all = entered_ahead it.table.rules.now it.level level c.requires it.log.items new it.inner c.in-Some.inner (reverse it.around.items) others same read fits in
    (refl, all.0, all.1, all.2)
