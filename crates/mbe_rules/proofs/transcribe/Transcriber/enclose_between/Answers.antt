use Rattle.std.proofs.Common.{rules, ◌≡◌, Err, inl, refl, ap, subst, sym, ◌∙◌}
use Rattle.tt.specs.Building.{alone, append, opened, closed, IsAbove}
use Rattle.tt.specs.Types.DelimiterKind.TheVariants.{InvisibleOpaque}
use Rattle.tt.specs.Types.TtFault.TheVariants.{Memory}
use Rattle.tt.specs.Views.{trees_of}
use Rattle.mbe_rules.specs.declared.transcribe_error.TranscribeError.TheVariants.{Tree}
use Rattle.mbe_rules.specs.Filling.{Grows, Opens}
use Rattle.mbe_rules.proofs.Growing.{grows_held, opening_wants, holding_wants}
use Rattle.mbe_rules.proofs.transcribe.Transcriber.enclose_between.Goals as goal

pub returns-in_err-open-clause-err : goal.returns-in_err-open-clause-err
returns-in_err-open-clause-err c =
    let error = c.in_err-open.field-0.0 in
    let failed : c.from_residual.result ≡ Err error = search rules in
    rw failed (opening_wants (alone (trees_of c.args.trees)) c.args.first c.args.last c.args.self.now error c.in_err-open.ensures.err)

pub returns-in_err-append-clause-err : goal.returns-in_err-append-clause-err
returns-in_err-append-clause-err c =
    let error = c.in_err-append.field-0.0 in
    let failed : c.from_residual-in_err-append.result ≡ Err error = search rules in
    let opens : Opens InvisibleOpaque c.args.first c.args.self.now c.open.new.self = search rules in
    rw failed (holding_wants (alone (trees_of c.args.trees)) c.args.first c.args.last c.args.self.now c.open.new.self opens error c.in_err-append.ensures.err)

pub close-requires : goal.close-requires
close-requires c =
    let trees = alone (trees_of c.args.trees) in
    let opens : Opens InvisibleOpaque c.args.first c.args.self.now c.open.new.self = search rules in
    let grows : Grows trees c.open.new.self c.append.new.self = search rules in
    let filled : c.append.new.self.builder.stack ≡ append trees (opened InvisibleOpaque c.args.first c.args.self.now.builder).stack =
    grows.stack ∙ ap (λ b. append trees b.stack) opens.builder in
    subst IsAbove (sym filled) tt

pub returns-in_err-close-clause-err : goal.returns-in_err-close-clause-err
returns-in_err-close-clause-err c =
    let fault = c.in_err-close.field-0.0 in
    let failed : c.from_residual-in_err-close.result ≡ Err (Tree fault) = search rules in
    let is : fault ≡ Memory = search rules in
    rw failed (inl (ap Tree is))

pub returns-clause-ok : goal.returns-clause-ok
returns-clause-ok c =
    let trees = alone (trees_of c.args.trees) in
    let opens : Opens InvisibleOpaque c.args.first c.args.self.now c.open.new.self = search rules in
    let grows : Grows trees c.open.new.self c.append.new.self = search rules in
    let closes : c.close.new.self ≡ closed c.args.last c.append.new.self.builder = search rules in
    grows_held trees c.args.first c.args.last c.args.self.now c.open.new.self opens c.append.new.self _ grows closes refl refl refl
