use Rattle.std.proofs.Common.{◌≡◌, length, vec_len, ◌∙◌, arith, rules}
use Rattle.tt.proofs.FlatLists.{changed_after, same_length}
use Rattle.tt.proofs.flat_list.FlatList.close.Goals as goal
use Rattle.tt_tables.specs.SmallHeld.{closed_token}

pub invariant_of-self-inside : goal.invariant_of-self-inside
invariant_of-self-inside c =
    let same : length c.close_header.new.tokens.items ≡ length c.self.inside.whole.items =
    same_length _ _ c.args.place (closed_token c.args.close_span c.args.len) c.self.inside.some c.close_header.ensures in
    (omega (arith, same, c.self.inside.some), ((λ some. same ∙ c.self.inside.moved some), tt))

pub returns-else-place-kept : goal.returns-else-place-kept
returns-else-place-kept c = λ d.
    let counted : vec_len c.self.inside.whole ≡ length c.self.inside.whole.items = search rules in
    changed_after _ _ _ _ c.args.place c.len-kept.result (closed_token c.args.close_span c.args.len) d c.self.view_is (c.len-kept.ensures ∙ counted) c.if-place-kept.false (c.close.ensures d)
