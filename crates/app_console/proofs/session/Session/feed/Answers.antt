use Rattle.std.proofs.Common.{[], Ok, Err, None, Some, refl}
use Rattle.std.proofs.KnownBytes.{Keeps-refl}
use Rattle.std.proofs.lemmas.List.{take_rest}
use Rattle.std.proofs.lemmas.Result.{err_from_is_err_and}
use Rattle.app_console.specs.declared.outcome.RunFault.TheVariants.{Memory}
use Rattle.app_console.specs.Stage.{stage_of}
use Rattle.app_console.proofs.Feeding.{Follows-none, Follows-fits, Follows-longer, Feeds-after, Feeds-stop, Breaks-none}
use Rattle.app_console.proofs.Searching.{IsOneLine-none, IsOneLine-before, parted_on}
use Rattle.app_console.proofs.session.Session.feed.Goals as goal

pub lines-init : goal.lines-init
lines-init g c = (([], refl, Follows-none _ _ _ (Keeps-refl _) c.requires.begun c.requires.counted), c.requires.sound)

pub end_line-requires-clause-one_line : goal.end_line-requires-clause-one_line
end_line-requires-clause-one_line g c = IsOneLine-before _ _ c.in-Some.ensures

pub returns-in_err-number : goal.returns-in_err-number
returns-in_err-number g c =
    let (fed, cut, follows) = c.lines.invariant.0 in
    let p = err_from_is_err_and c.from_residual.result c.from_residual.ensures.1 in
    rw (p.1, p.2) (Feeds-stop _ _ _ _ fed _ _ (Err c.in_err-number.field-0.0) (parted_on c.args.bytes.now fed c.lines.rest.now c.in-Some.end cut c.in-Some.ensures) follows tt c.in_err-number.ensures)

pub returns-in-Some-2 : goal.returns-in-Some-2
returns-in-Some-2 g c =
    let (fed, cut, follows) = c.lines.invariant.0 in
    let q = rw c.in-Some-2.is at c.in_ok-number.ensures in
    Feeds-stop _ _ (stage_of g.W.Write.contents c.end_line.new.self c.end_line.new.writer) _ fed _ _ (Ok (Some c.in-Some-2.number)) (parted_on c.args.bytes.now fed c.lines.rest.now c.in-Some.end cut c.in-Some.ensures) follows tt q

pub lines-preserved : goal.lines-preserved
lines-preserved g c =
    let (fed, cut, follows) = c.lines.invariant.0 in
    let q = rw c.in_default-2.is at c.in_ok-number.ensures in
    let more = Feeds-after _ _ _ fed _ (Ok None) follows q in
    ((_, rw take_rest (parted_on c.args.bytes.now fed c.lines.rest.now c.in-Some.end cut c.in-Some.ensures), more.0), more.1)

pub returns-in_err-keep : goal.returns-in_err-keep
returns-in_err-keep g c =
    let (fed, cut, follows) = c.lines.invariant.0 in
    let p = err_from_is_err_and c.from_residual-in_err-keep.result c.from_residual-in_err-keep.ensures.1 in
    rw (p.1, p.2, c.in_err-keep.ensures.kind, c.in_err-keep.ensures.err, cut)
    (Feeds-after _ _ (stage_of g.W.Write.contents c.lines.self c.lines.writer) fed _ (Err Memory) follows ((_, Breaks-none _ _ _ (Keeps-refl _)), c.lines.invariant.1))

pub returns : goal.returns
returns g c =
    let (fed, cut, follows) = c.lines.invariant.0 in
    let longer = Follows-longer _ c.lines.rest.now follows.begun (IsOneLine-none _ c.in_default.ensures) (Follows-fits _ _ _ follows) in
    rw (cut, c.in_ok-keep.ensures.ok) (Feeds-after _ _ _ fed _ (Ok None) follows (longer, c.lines.invariant.1))
