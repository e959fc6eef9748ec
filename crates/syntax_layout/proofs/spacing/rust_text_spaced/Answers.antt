use Rattle.std.proofs.Common.{map, sym, subst}
use Rattle.syntax_edit.proofs.Spelling.{plain_spelling}
use Rattle.syntax_layout.specs.Gap.{AreGaps}
use Rattle.syntax_edit.specs.Splices.{IsSpelling}
use Rattle.tt_view.specs.Views.{trees_of}
use Rattle.syntax_layout.proofs.spacing.rust_text_spaced.Goals as goal

pub returns-then-len-gt-MOST_BYTES-clause-spells : goal.returns-then-len-gt-MOST_BYTES-clause-spells
returns-then-len-gt-MOST_BYTES-clause-spells c =
    let trees = trees_of c.args.trees in
    subst (IsSpelling trees) (sym c.in_ok-plain.ensures.text) (plain_spelling trees c.in_ok-plain.ensures.writable)

pub lay_out_trees-requires-clause-gaps : goal.lay_out_trees-requires-clause-gaps
lay_out_trees-requires-clause-gaps c =
    subst (λ items. AreGaps (map (λ g. g.now) items)) (sym c.as_slice.ensures.value) c.in_ok-gaps.ensures.gaps
