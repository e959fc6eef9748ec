use Rattle.std.proofs.Common.{◌≡◌, Some, None, sym, subst, ◌∙◌, rules}
use Rattle.tt_tables.specs.Searches.{IsIndex}
use Rattle.tt_tables.proofs.Positions.{position_is_index}
use Rattle.tt_tables.proofs.tables.index_of.Goals as goal

pub returns-in_err-index : goal.returns-in_err-index
returns-in_err-index g c =
    let none : c.first_equal.result ≡ None = search rules in
    subst (IsIndex (g.T.PartialEq.eq c.args.value.now) c.args.values.now)
    (sym c.first_equal.ensures ∙ none ∙ sym c.from_residual.ensures)
    (position_is_index (g.T.PartialEq.eq c.args.value.now) c.args.values.now)

pub returns : goal.returns
returns g c =
    let some : c.first_equal.result ≡ Some c.in_ok-index.index = search rules in
    subst (IsIndex (g.T.PartialEq.eq c.args.value.now) c.args.values.now) (sym c.first_equal.ensures ∙ some)
    (position_is_index (g.T.PartialEq.eq c.args.value.now) c.args.values.now)
