use Rattle.std.proofs.Common.{◌≡◌, Err, ◌++◌, ◌∷◌, [], length, vec_len, refl, rules, ◌∙◌}
use Rattle.tt_tables.specs.declared.small.Form.TheVariants as form
use Rattle.tt_tables.specs.OneSmall.{small_is, small_seen}
use Rattle.tt_tables.proofs.SmallHeld.{same_small, small_room, leaf_pushed, odd_pushed}
use Rattle.tt_tables.proofs.small_tokens.SmallTokens.push_leaf.Goals as goal

pub returns-in_err-reserve-clause-err : goal.returns-in_err-reserve-clause-err
returns-in_err-reserve-clause-err c =
    let is = small_seen _ _ _ _ _ c.self.inside.held _ c.self.view_is in
    let next = same_small _ _ _ _ _ _ _ _ _ _ is c.reserve.ensures.items refl refl refl in
    let failed : c.from_residual.result ≡ Err c.in_err-reserve.field-0.0 = search rules in
    rw failed (search (rules, small_is, next))

pub returns-in_err-reserve-2-clause-err : goal.returns-in_err-reserve-2-clause-err
returns-in_err-reserve-2-clause-err c =
    let is = small_seen _ _ _ _ _ c.self.inside.held _ c.self.view_is in
    let next = same_small _ _ _ _ _ _ _ _ _ _ is c.reserve.ensures.items refl c.reserve-2.ensures.items refl in
    let failed : c.from_residual-in_err-reserve-2.result ≡ Err c.in_err-reserve-2.field-0.0 = search rules in
    rw failed (search (rules, small_is, next))

pub use_leaf-requires : goal.use_leaf-requires
use_leaf-requires c = λ x.
    let is = small_seen _ _ _ _ _ c.self.inside.held _ c.self.view_is in
    small_room _ _ _ _ _ _ x is

pub returns-in_err-place-clause-err : goal.returns-in_err-place-clause-err
returns-in_err-place-clause-err c =
    let is = small_seen _ _ _ _ _ c.self.inside.held _ c.self.view_is in
    let next = same_small _ _ _ _ _ _ _ _ _ _ is c.reserve.ensures.items refl c.reserve-2.ensures.items c.in_err-place.ensures.err in
    let failed : c.from_residual-in_err-place.result ≡ Err c.in_err-place.field-0.0 = search rules in
    rw failed (search (rules, small_is, next))

pub invariant_of-self-inside-in-Some : goal.invariant_of-self-inside-in-Some
invariant_of-self-inside-in-Some c =
    let is = small_seen _ _ _ _ _ c.self.inside.held _ c.self.view_is in
    let grown : c.push_reserved.new.self.items ≡ c.self.inside.tokens.items ++ c.in-Some.small ∷ [] = search rules in
    let next = leaf_pushed _ _ _ _ _ _ _ _ c.in-Some.small c.args.leaf is c.requires.few c.in_ok-place.ensures.ok (c.in-Some.ensures.means _ _ _ c.in_ok-place.ensures.place) c.in-Some.ensures.leaf grown in
    let here = same_small _ _ _ _ _ _ _ _ _ _ next refl refl c.reserve-2.ensures.items refl in
    ((_, here), tt)

pub returns-in-Some-clause-ok : goal.returns-in-Some-clause-ok
returns-in-Some-clause-ok c =
    let is = small_seen _ _ _ _ _ c.self.inside.held _ c.self.view_is in
    let grown : c.push_reserved.new.self.items ≡ c.self.inside.tokens.items ++ c.in-Some.small ∷ [] = search rules in
    let next = leaf_pushed _ _ _ _ _ _ _ _ c.in-Some.small c.args.leaf is c.requires.few c.in_ok-place.ensures.ok (c.in-Some.ensures.means _ _ _ c.in_ok-place.ensures.place) c.in-Some.ensures.leaf grown in
    let here = same_small _ _ _ _ _ _ _ _ _ _ next refl refl c.reserve-2.ensures.items refl in
    search (rules, small_is, here)

pub invariant_of-self-inside-2 : goal.invariant_of-self-inside-2
invariant_of-self-inside-2 c =
    let is = small_seen _ _ _ _ _ c.self.inside.held _ c.self.view_is in
    let counted : vec_len c.reserve-2.new.self ≡ length c.self.inside.leaves.items = search rules in
    let grown : c.push_reserved-2.new.self.items ≡ c.self.inside.tokens.items ++ record { value = c.len.result; start = c.in_ok-place.place; length = 0; form = form.Odd } ∷ [] = search rules in
    let leaves : c.push_reserved-3.new.self.items ≡ c.self.inside.leaves.items ++ c.args.leaf ∷ [] = search rules in
    let next = odd_pushed _ _ _ _ _ _ _ _ _ c.len.result c.in_ok-place.place c.args.leaf is c.requires.few c.in_ok-place.ensures.ok c.in_ok-place.ensures.place (c.len.ensures ∙ counted) grown leaves in
    ((_, next), tt)

pub returns-clause-ok : goal.returns-clause-ok
returns-clause-ok c =
    let is = small_seen _ _ _ _ _ c.self.inside.held _ c.self.view_is in
    let counted : vec_len c.reserve-2.new.self ≡ length c.self.inside.leaves.items = search rules in
    let grown : c.push_reserved-2.new.self.items ≡ c.self.inside.tokens.items ++ record { value = c.len.result; start = c.in_ok-place.place; length = 0; form = form.Odd } ∷ [] = search rules in
    let leaves : c.push_reserved-3.new.self.items ≡ c.self.inside.leaves.items ++ c.args.leaf ∷ [] = search rules in
    let next = odd_pushed _ _ _ _ _ _ _ _ _ c.len.result c.in_ok-place.place c.args.leaf is c.requires.few c.in_ok-place.ensures.ok c.in_ok-place.ensures.place (c.len.ensures ∙ counted) grown leaves in
    search (rules, small_is, next)
