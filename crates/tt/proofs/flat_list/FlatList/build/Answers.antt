use Rattle.std.proofs.Common.{◌≡◌, ◌∷◌, ◌<◌, drop, length, IfErr, arith, subst, sym}
use Rattle.tt_base.specs.Forest.{header}
use Rattle.tt.proofs.FlatLists.{counted_parts, top_alone}
use Rattle.tt.proofs.flat_list.FlatList.build.Goals as goal
use Rattle.tt_view.specs.PackFault.{IsPackFault}

pub first_delimiter-requires : goal.first_delimiter-requires
first_delimiter-requires c =
    let (top, first) = c.requires.top in
    let many : 0 < length c.self.inside.small = omega (arith, c.len.ensures, c.if-len-eq0.false) in
    (top, subst (λ l. l ≡ header top 0 ∷ drop 1 l) (sym c.deref.ensures.value) (top_alone _ _ _ top c.self.view_is (c.self.inside.moved many) first))

pub returns-clause-err : goal.returns-clause-err
returns-clause-err c =
    let many : 0 < length c.self.inside.small = omega (arith, c.len.ensures, c.if-len-eq0.false) in
    let first = subst (λ l. l ≡ header c.first_delimiter.result 0 ∷ drop 1 l) c.deref.ensures.value c.first_delimiter.ensures in
    let list = counted_parts _ _ _ c.first_delimiter.result c.self.view_is (c.self.inside.moved many) first in
    subst (λ l. IfErr c.from_small.result (IsPackFault l)) list c.from_small.ensures.err
