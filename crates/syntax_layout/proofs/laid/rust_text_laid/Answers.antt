use Rattle.std.proofs.Common.{sym, subst}
use Rattle.std.specs.Prelude.{string_bytes}
use Rattle.syntax_edit.proofs.Spelling.{plain_spelling}
use Rattle.syntax_edit.specs.Splices.{IsSpelling}
use Rattle.syntax_layout.proofs.Documents.{documented_spells}
use Rattle.tt_view.specs.Views.{trees_of}
use Rattle.syntax_layout.proofs.laid.rust_text_laid.Goals as goal

pub returns-then-len-gt-MOST_BYTES-clause-spells : goal.returns-then-len-gt-MOST_BYTES-clause-spells
returns-then-len-gt-MOST_BYTES-clause-spells c =
    let trees = trees_of c.args.trees in
    subst (IsSpelling trees) (sym c.in_ok-plain.ensures.text) (plain_spelling trees c.in_ok-plain.ensures.writable)

pub returns-clause-spells : goal.returns-clause-spells
returns-clause-spells c =
    documented_spells (trees_of c.args.trees) (string_bytes c.in_ok-laid.laid) (string_bytes c.in_ok-with_comments.field-0) c.in_ok-laid.ensures.spells c.in_ok-with_comments.ensures.is
