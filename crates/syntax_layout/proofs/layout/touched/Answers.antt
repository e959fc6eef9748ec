use Rattle.std.proofs.Common.{◌≡◌, ◌<◌, ◌==◌, true, false, is_some, length, arith, rules, sym, ap, ◌∙◌, subst}
use Rattle.std.proofs.lemmas.Bool.{eqb-true}
use Rattle.std.specs.Str.{IsCharBoundary}
use Rattle.syntax_layout.proofs.Ahead.{touch_end, touch_none, touch_step, touch_told}
use Rattle.syntax_layout.specs.Gap.{is_blank}
use Rattle.syntax_layout.specs.Layout.{joins, touches_surely}
use Rattle.syntax_parse.proofs.TextFacts.{cut, more_than_none}
use Rattle.syntax_parse.specs.Pieces.{punct_char}
use Rattle.syntax_layout.proofs.layout.touched.Goals as goal

pub returns-then-is_none-clause-value : goal.returns-then-is_none-clause-value
returns-then-is_none-clause-value c = λ tokens are.
    let alone : is_some (punct_char c.args.kind) ≡ false = search rules in
    let some : (length c.args.gap.now == 0) ≡ false = search rules in
    sym (touch_none true c.args.kind c.args.before.now c.args.gap.now c.args.text.now tokens alone some)

pub split_at-requires : goal.split_at-requires
split_at-requires c =
    let some : 0 < length c.loop-rest.rest.now = more_than_none _ (search rules) in
    subst (λ t. IsCharBoundary c.loop-rest.rest.now t.len) (sym c.first_token-token.ensures) (cut c.loop-rest.rest.now c.loop-rest.invariant.0 some).boundary

pub returns-then-branch-clause-value : goal.returns-then-branch-clause-value
returns-then-branch-clause-value c = λ tokens are.
    let some : 0 < length c.loop-rest.rest.now = more_than_none _ (search rules) in
    let token = c.first_token-token.result in
    let other : is_blank token.kind ≡ false = search rules in
    let told : true ≡ touches_surely c.loop-rest.touching (joins c.args.kind token.kind) c.args.before.now c.args.gap.now c.split_at.result.0.now =
    sym c.if-branch.true ∙ c.in_ok-touches_surely.ensures ∙ ap (λ j. touches_surely c.loop-rest.touching j c.args.before.now c.args.gap.now c.split_at.result.0.now) c.joins-joining.ensures in
    touch_told c.args.kind c.args.before.now c.args.gap.now c.args.text.now c.loop-rest.touching c.loop-rest.rest.now c.split_at.result.0.now token true c.loop-rest.invariant.0 some c.first_token-token.ensures
    c.split_at.ensures.front other told c.loop-rest.invariant.1.ahead tokens are

pub returns-then-not-is_blank-clause-value : goal.returns-then-not-is_blank-clause-value
returns-then-not-is_blank-clause-value c = λ tokens are.
    let some : 0 < length c.loop-rest.rest.now = more_than_none _ (search rules) in
    let token = c.first_token-token.result in
    let other : is_blank token.kind ≡ false = search rules in
    let told : false ≡ touches_surely c.loop-rest.touching (joins c.args.kind token.kind) c.args.before.now c.args.gap.now c.split_at.result.0.now =
    sym c.if-branch.false ∙ c.in_ok-touches_surely.ensures ∙ ap (λ j. touches_surely c.loop-rest.touching j c.args.before.now c.args.gap.now c.split_at.result.0.now) c.joins-joining.ensures in
    touch_told c.args.kind c.args.before.now c.args.gap.now c.args.text.now c.loop-rest.touching c.loop-rest.rest.now c.split_at.result.0.now token false c.loop-rest.invariant.0 some c.first_token-token.ensures
    c.split_at.ensures.front other told c.loop-rest.invariant.1.ahead tokens are

pub loop-rest-smaller : goal.loop-rest-smaller
loop-rest-smaller c =
    let some : 0 < length c.loop-rest.rest.now = more_than_none _ (search rules) in
    let k = cut c.loop-rest.rest.now c.loop-rest.invariant.0 some in
    omega (arith, k.some, ap (λ t. t.len) c.first_token-token.ensures, c.split_at.ensures.back_len)

pub loop-rest-preserved : goal.loop-rest-preserved
loop-rest-preserved c =
    let some : 0 < length c.loop-rest.rest.now = more_than_none _ (search rules) in
    let blank : is_blank c.first_token-token.result.kind ≡ true = search rules in (
      search rules,
      record {
        within = omega (arith, c.split_at.ensures.back_len, c.loop-rest.invariant.1.within);
        ahead =
            touch_step c.args.kind c.args.before.now c.args.gap.now c.args.text.now c.loop-rest.touching c.loop-rest.rest.now c.split_at.result.1.now c.first_token-token.result c.loop-rest.invariant.0 some
            c.first_token-token.ensures c.split_at.ensures.back blank c.loop-rest.invariant.1.ahead;
      },
    )

pub returns-clause-value : goal.returns-clause-value
returns-clause-value c = λ tokens are.
    let none : length c.loop-rest.rest.now ≡ 0 = eqb-true _ 0 (search rules) in
    touch_end c.args.kind c.args.before.now c.args.gap.now c.args.text.now c.loop-rest.touching c.loop-rest.rest.now none c.loop-rest.invariant.1.ahead tokens are

pub touches_surely-requires-clause-next : goal.touches_surely-requires-clause-next
touches_surely-requires-clause-next c =
    let some : 0 < length c.loop-rest.rest.now = more_than_none _ (search rules) in
    let k = cut c.loop-rest.rest.now c.loop-rest.invariant.0 some in
    omega (arith, k.some, ap (λ t. t.len) c.first_token-token.ensures, c.split_at.ensures.front_len)
