use Rattle.std.proofs.Common.{rules, ◌≡◌, true, false, ap, sym, subst}
use Rattle.std.proofs.lemmas.Result.{IfErr-weaker}
use Rattle.std.specs.Prelude.{IfErr}
use Rattle.tt.specs.Building.{IsGrowthFault, above, append}
use Rattle.tt.specs.Forest.{end, size}
use Rattle.tt.specs.Types.DelimiterKind.TheVariants.{Brace}
use Rattle.tt.specs.Views.{trees_of}
use Rattle.expand_items.proofs.Wanting.{braces_want, growth_wants, inside_wants}
use Rattle.expand_items.specs.Spreads.{put_part, IsWanting}
use Rattle.expand_items.proofs.spread.add_part.Goals as goal

pub returns-then-not-is_expression-clause-fault : goal.returns-then-not-is_expression-clause-fault
returns-then-not-is_expression-clause-fault c =
    let trees = trees_of c.args.trees in
    let state = c.args.builder.now in
    let none : c.args.is_expression ≡ false = search rules in
    let why : IfErr c.extend_with_tt.result (IsGrowthFault (size trees) state) = search rules in
    subst (λ b. IfErr c.extend_with_tt.result (IsWanting (append (put_part c.args.braces b trees) state.stack))) (sym none)
    (IfErr-weaker c.extend_with_tt.result (IsGrowthFault (size trees) state) (IsWanting (append trees state.stack)) (growth_wants trees state) why)

pub returns-in_err-open-clause-fault : goal.returns-in_err-open-clause-fault
returns-in_err-open-clause-fault c =
    let trees = trees_of c.args.trees in
    let state = c.args.builder.now in
    let fault = c.in_err-open.field-0.0 in
    let is : c.args.is_expression ≡ true = search rules in
    let why : IsGrowthFault 1 state fault = search rules in
    let wants : IsWanting (append (put_part c.args.braces c.args.is_expression trees) state.stack) fault =
    subst (λ b. IsWanting (append (put_part c.args.braces b trees) state.stack) fault) (sym is) (braces_want c.args.braces trees state fault why) in
    search (rules, wants)

pub returns-in_err-extend_with_tt-clause-fault : goal.returns-in_err-extend_with_tt-clause-fault
returns-in_err-extend_with_tt-clause-fault c =
    let trees = trees_of c.args.trees in
    let state = c.args.builder.now in
    let inside = c.open.new.self in
    let fault = c.in_err-extend_with_tt.field-0.0 in
    let is : c.args.is_expression ≡ true = search rules in
    let opened : inside.stack ≡ above state.stack Brace c.args.braces.open_span end = ap (λ s. s.stack) c.in_ok-open.ensures.ok in
    let why : IsGrowthFault (size trees) inside fault = search rules in
    let wants : IsWanting (append (put_part c.args.braces c.args.is_expression trees) state.stack) fault =
    subst (λ b. IsWanting (append (put_part c.args.braces b trees) state.stack) fault) (sym is) (inside_wants c.args.braces trees state inside fault opened why) in
    search (rules, wants)
