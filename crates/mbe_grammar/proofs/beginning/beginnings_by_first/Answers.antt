use Rattle.std.proofs.Common.{rules, ◌≡◌, ◌<◌, ◌+◌, ◌∷◌, Some, None, inl, inr, length, drop, map, option_map, slice_index_or, subst, sym}
use Rattle.std.proofs.lemmas.List.{drop_more}
use Rattle.tt.specs.Views.{trees_of}
use Rattle.mbe_grammar.specs.Beginnings.{AreBeginnings, AreFirstBeginnings, beginning_of}
use Rattle.mbe_grammar.specs.Table.{rust_rules}
use Rattle.mbe_grammar.proofs.beginning.beginnings_by_first.Goals as goal

pub returns-in-Some : goal.returns-in-Some
returns-in-Some c =
    let names = c.args.names.now in
    let wanted = c.args.wanted.now in
    let trees = trees_of c.args.trees in
    let at = c.loop-name.name-index in
    let name = slice_index_or names at 0 in
    let found = map beginning_of c.in-Some.found.items in
    let within : at < length names = search rules in
    let next : drop at names ≡ name ∷ drop (at + 1) names = drop_more names at 0 within in
    let read : AreBeginnings c.rust_table.result.rules.now name wanted trees (Some found) =
    subst (λ o. AreBeginnings c.rust_table.result.rules.now name wanted trees (option_map (λ it. map beginning_of it.items) o)) c.in-Some.is c.in_ok-found.ensures in
    let are : AreBeginnings rust_rules name wanted trees (Some found) = subst (λ r. AreBeginnings r name wanted trees (Some found)) c.rust_table.ensures read in
    c.loop-name.invariant found (subst (λ l. AreFirstBeginnings l wanted trees found) (sym next) (inl are))

pub loop-name-preserved : goal.loop-name-preserved
loop-name-preserved c =
    let names = c.args.names.now in
    let wanted = c.args.wanted.now in
    let trees = trees_of c.args.trees in
    let at = c.loop-name.name-index in
    let name = slice_index_or names at 0 in
    let within : at < length names = search rules in
    let next : drop at names ≡ name ∷ drop (at + 1) names = drop_more names at 0 within in
    let read : AreBeginnings c.rust_table.result.rules.now name wanted trees None =
    subst (λ o. AreBeginnings c.rust_table.result.rules.now name wanted trees (option_map (λ it. map beginning_of it.items) o)) c.in_default.is c.in_ok-found.ensures in
    let none : AreBeginnings rust_rules name wanted trees None = subst (λ r. AreBeginnings r name wanted trees None) c.rust_table.ensures read in
    λ found are. c.loop-name.invariant found (subst (λ l. AreFirstBeginnings l wanted trees found) (sym next) (inr (none, are)))
