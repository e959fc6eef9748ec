use Rattle.std.proofs.Common.{rules, ◌≡◌, ◌∙◌, ◌∷◌, ◌++◌, [], reverse, ap, ap₂, sym}
use Rattle.std.proofs.lemmas.List.{reverse-append}
use Rattle.tt.specs.Iters.{rest_of}
use Rattle.expand_items.specs.Cfg.{known_of}
use Rattle.expand_items.specs.Predicates.{applied_if, listed, predicate, predicates}
use Rattle.expand_items.specs.declared.predicate.Level.{Level}
use Rattle.expand_items.specs.declared.predicate.Operator.TheVariants as operator
use Rattle.expand_items.proofs.Kleene.{applied_one_by_one, gathered_if, one_listed}
use Rattle.expand_items.proofs.Reading.{finished, level_says}
use Rattle.expand_items.proofs.cfg.CfgOptions.check.Goals as goal

pub operands-init : goal.operands-init
operands-init c =
    let known = known_of c.args.self.now in
    ap₂ (λ levels level. finished known (reverse levels) (level_says known level)) c.new-outer.ensures.items c.begun-level.ensures
    ∙ applied_one_by_one operator.Only (predicates known predicate (rest_of c.args.predicate))

pub operands-preserved-in-List : goal.operands-preserved-in-List
operands-preserved-in-List c =
    let known = known_of c.args.self.now in
    let level = c.operands.level in
    let its = c.in-List.operator in
    let inside = predicates known predicate (rest_of c.in-List.inside) in
    let behind = predicates known predicate (rest_of c.take_operand.new.trees) in
    let pushed : Level = record level { rest = c.take_operand.new.trees } in
    let first : predicates known predicate (rest_of level.rest) ≡ listed (applied_if its inside) behind = search rules in
    let more : c.push.new.self.items ≡ c.operands.outer.items ++ pushed ∷ [] = search rules in
    let turned : reverse c.push.new.self.items ≡ pushed ∷ reverse c.operands.outer.items = ap reverse more ∙ reverse-append c.operands.outer.items (pushed ∷ []) in
    let says : level_says known c.begun-level-in-List.result ≡ applied_if its inside =
    ap (level_says known) c.begun-level-in-List.ensures ∙ applied_one_by_one its inside in
    ap₂ (finished known) turned says
    ∙ ap (finished known (reverse c.operands.outer.items)) (
    sym (one_listed level.operator level.is_first level.says (applied_if its inside) behind) ∙ ap (gathered_if level.operator level.is_first level.says) (sym first)
    ) ∙ c.operands.invariant
