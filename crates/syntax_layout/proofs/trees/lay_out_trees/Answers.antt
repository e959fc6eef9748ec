use Rattle.std.proofs.Common.{map, sym, ◌∙◌, subst, ⊎_elim}
use Rattle.std.specs.Prelude.{string_bytes}
use Rattle.syntax_layout.proofs.Plain.{no_others}
use Rattle.syntax_edit.proofs.Spelling.{plain_spelling}
use Rattle.syntax_layout.proofs.Returns.{tree_text_spells}
use Rattle.syntax_layout.specs.Layout.{HasOthers, IsLaidOut}
use Rattle.syntax_edit.specs.Splices.{IsSpelling}
use Rattle.tt_view.specs.Views.{trees_of}
use Rattle.syntax_layout.proofs.trees.lay_out_trees.Goals as goal

pub unreachable-requires : goal.unreachable-requires
unreachable-requires c =
    let found : HasOthers c.as_str.result.now = rw c.in-None.is at c.in_ok-laid.ensures in
    no_others (trees_of c.args.trees) c.requires.writable (subst HasOthers (c.as_str.ensures.value ∙ c.requires.text) found)

pub returns-clause-spells : goal.returns-clause-spells
returns-clause-spells c =
    let trees = trees_of c.args.trees in
    let gaps = map (λ g. g.now) c.args.gaps.now in
    let is : IsLaidOut c.as_str.result.now gaps (string_bytes c.in-Some.laid) = rw c.in-Some.is at c.in_ok-laid.ensures in
    let laid = tree_text_spells trees (string_bytes c.in-Some.laid) gaps c.requires.gaps c.requires.writable (subst (λ t. IsLaidOut t gaps (string_bytes c.in-Some.laid)) (c.as_str.ensures.value ∙ c.requires.text) is) in
    ⊎_elim (λ both. subst (IsSpelling trees) (sym both.0) laid) (λ both. subst (IsSpelling trees) (sym (both.0 ∙ c.requires.text)) (plain_spelling trees c.requires.writable)) c.shorter.ensures.is
