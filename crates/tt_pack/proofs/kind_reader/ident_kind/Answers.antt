use Rattle.std.proofs.Common.{◌≡◌, Some, None, rules}
use Rattle.std.specs.List.{slice_get}
use Rattle.tt_pack.specs.StoredIn.{tables_stored}
use Rattle.tt_pack.proofs.KindDecoded.{ident_given, no_ident}
use Rattle.tt_pack.proofs.kind_reader.ident_kind.Goals as goal

pub returns : goal.returns
returns c span it found =
    let at : slice_get (tables_stored c.args.tree.now).symbols c.args.symbol ≡ Some c.in_ok-text.text.now = search rules in
    ident_given _ c.args.symbol c.args.is_raw span _ it at found

pub returns-in_err-text : goal.returns-in_err-text
returns-in_err-text c span it found =
    let at : slice_get (tables_stored c.args.tree.now).symbols c.args.symbol ≡ None = search rules in
    absurd (no_ident _ c.args.symbol c.args.is_raw span it at found)
