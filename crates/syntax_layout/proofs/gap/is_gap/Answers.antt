use Rattle.std.proofs.Common.{◌≡◌, ◌<◌, IsTrue, Bool, true, false, length, arith, rules, refl, sym, ap, subst, not}
use Rattle.std.proofs.lemmas.Bool.{eqb-true, false≢true}
use Rattle.std.specs.Str.{IsCharBoundary}
use Rattle.syntax_layout.specs.Gap.{IsGap, is_blank}
use Rattle.syntax_layout.proofs.Ahead.{IsGapAhead, gap_end, gap_line, gap_other, gap_start, gap_step}
use Rattle.syntax_parse.proofs.TextFacts.{cut, more_than_none}
use Rattle.syntax_layout.proofs.gap.is_gap.Goals as goal

pub loop-rest-init : goal.loop-rest-init
loop-rest-init c = (search rules, record { within = omega arith; ahead = gap_start c.args.text.now })

pub returns-then-not-is_blank : goal.returns-then-not-is_blank
returns-then-not-is_blank c =
    let some : 0 < length c.loop-rest.rest.now = more_than_none _ (search rules) in
    let other : is_blank c.first_token-token.result.kind ≡ false = search rules in
    let none : IsGap c.args.text.now → ⊥ =
    gap_other c.args.text.now c.loop-rest.rest.now c.loop-rest.ends_in_line c.first_token-token.result c.loop-rest.invariant.0 some c.first_token-token.ensures other c.loop-rest.invariant.1.ahead in
    ((λ h. absurd (false≢true h)), (λ both. absurd (none both.0)))

pub split_at-requires : goal.split_at-requires
split_at-requires c =
    let some : 0 < length c.loop-rest.rest.now = more_than_none _ (search rules) in
    subst (λ t. IsCharBoundary c.loop-rest.rest.now t.len) (sym c.first_token-token.ensures) (cut c.loop-rest.rest.now c.loop-rest.invariant.0 some).boundary

pub loop-rest-smaller : goal.loop-rest-smaller
loop-rest-smaller c =
    let some : 0 < length c.loop-rest.rest.now = more_than_none _ (search rules) in
    let k = cut c.loop-rest.rest.now c.loop-rest.invariant.0 some in
    omega (arith, k.some, ap (λ t. t.len) c.first_token-token.ensures, c.split_at.ensures.back_len)

pub loop-rest-preserved : goal.loop-rest-preserved
loop-rest-preserved c =
    let some : 0 < length c.loop-rest.rest.now = more_than_none _ (search rules) in
    let blank : is_blank c.first_token-token.result.kind ≡ true = search rules in (
      search rules,
      record {
        within = omega (arith, c.split_at.ensures.back_len, c.loop-rest.invariant.1.within);
        ahead =
            gap_step c.args.text.now c.loop-rest.rest.now c.split_at.result.1.now c.loop-rest.ends_in_line c.is_line-ends_in_line.result c.first_token-token.result c.loop-rest.invariant.0 some
            c.first_token-token.ensures c.split_at.ensures.back blank c.is_line-ends_in_line.ensures c.loop-rest.invariant.1.ahead;
      },
    )

pub returns : goal.returns
returns c = go c.loop-rest.ends_in_line c.loop-rest.invariant.1.ahead
  where
    none : length c.loop-rest.rest.now ≡ 0
    none = eqb-true _ 0 (search rules)

    short : length c.args.text.now < 2147483648
    short = omega (arith, c.if-text-gt-MOST_BYTES.false)

    go : (line : Bool) → IsGapAhead c.args.text.now c.loop-rest.rest.now line
        → (IsTrue (not line) → IsGap c.args.text.now × (length c.args.text.now < 2147483648)) × (IsGap c.args.text.now × (length c.args.text.now < 2147483648) → IsTrue (not line))
    go true ahead = ((λ h. absurd (false≢true h)), (λ both. absurd (gap_line c.args.text.now c.loop-rest.rest.now none ahead both.0)))
    go false ahead = ((λ h. (gap_end c.args.text.now c.loop-rest.rest.now c.utf8.text none ahead, short)), (λ both. refl))
