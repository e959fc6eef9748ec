use Rattle.std.proofs.Common.{◌≡◌, ◌∙◌, ap, subst, rules, cond, true}
use Rattle.indexmap.specs.IndexSet.{contains}
use Rattle.expand_hygiene.specs.Captures.{same_ident}
use Rattle.expand_hygiene.specs.Given.{NotesSpan}
use Rattle.expand_hygiene.proofs.Noting.{add_noted, add_same}
use Rattle.expand_hygiene.proofs.given.Given.add.Goals as goal

pub returns : goal.returns
returns c others all part =
    let old = c.args.self.now in
    let it = c.args.it in
    let noted = c.note.new.self in
    let name : c.in_ok-name.name ≡ it.ident.sym = search rules in
    let notes : NotesSpan old it.kind it.ident.sym it.ident.span noted =
    subst (λ name. NotesSpan old it.kind name it.ident.span noted) name c.in_ok-note.ensures in
    add_noted old (record { locals = noted.locals; labels = noted.labels; idents = c.insert.new.self }) it others all
    (λ kind text. add_same noted c.insert.new.self kind text ∙ notes.spans kind text)
    (λ ident. c.in_ok-insert.ensures.updates.0 ident ∙ ap (λ idents. cond (same_ident it.ident ident) true (contains same_ident idents ident)) notes.idents)
    part
