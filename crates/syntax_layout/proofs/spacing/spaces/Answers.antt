use Rattle.std.proofs.Common.{◌≡◌, ◌<◌, [], ◌∷◌, ◌++◌, true, false, length, map, arith, rules, sym, ap, ◌∙◌, subst}
use Rattle.std.proofs.lemmas.Bool.{eqb-true}
use Rattle.std.proofs.lemmas.List.{map-append}
use Rattle.std.specs.Prelude.{slice_get}
use Rattle.std.specs.Str.{IsCharBoundary}
use Rattle.syntax_layout.proofs.SpaceGaps.{spaces_blank, spaces_end, spaces_gaps, spaces_word}
use Rattle.syntax_layout.specs.Gap.{AreGaps, is_blank}
use Rattle.syntax_layout.specs.Passed.{part_of, start}
use Rattle.syntax_layout.specs.Spaces.{space_between}
use Rattle.syntax_parse.proofs.TextFacts.{cut, more_than_none}
use Rattle.syntax_layout.proofs.spacing.spaces.Goals as goal

pub split_at-requires : goal.split_at-requires
split_at-requires c =
    let some : 0 < length c.loop-rest.rest.now = more_than_none _ (search rules) in
    subst (λ t. IsCharBoundary c.loop-rest.rest.now t.len) (sym c.first_token-token.ensures) (cut c.loop-rest.rest.now c.loop-rest.invariant.0 some).boundary

pub loop-rest-smaller-then-is_blank : goal.loop-rest-smaller-then-is_blank
loop-rest-smaller-then-is_blank c =
    let some : 0 < length c.loop-rest.rest.now = more_than_none _ (search rules) in
    let k = cut c.loop-rest.rest.now c.loop-rest.invariant.0 some in
    omega (arith, k.some, ap (λ t. t.len) c.first_token-token.ensures, c.split_at.ensures.back_len)

pub loop-rest-preserved-then-is_blank : goal.loop-rest-preserved-then-is_blank
loop-rest-preserved-then-is_blank c =
    let some : 0 < length c.loop-rest.rest.now = more_than_none _ (search rules) in
    let blank : is_blank c.first_token-token.result.kind ≡ true = search rules in (
      search rules,
      record {
        within = omega (arith, c.split_at.ensures.back_len, c.loop-rest.invariant.1.within);
        ahead =
            spaces_blank c.args.text.now (map (λ g. g.now) c.loop-rest.gaps.items) c.loop-rest.passed c.loop-rest.touching c.loop-rest.rest.now c.split_at.result.1.now c.first_token-token.result
            c.loop-rest.invariant.0 some c.first_token-token.ensures c.split_at.ensures.back blank c.loop-rest.invariant.1.ahead;
      },
    )

pub loop-rest-smaller : goal.loop-rest-smaller
loop-rest-smaller c =
    let some : 0 < length c.loop-rest.rest.now = more_than_none _ (search rules) in
    let k = cut c.loop-rest.rest.now c.loop-rest.invariant.0 some in
    omega (arith, k.some, ap (λ t. t.len) c.first_token-token.ensures, c.split_at.ensures.back_len)

pub loop-rest-preserved : goal.loop-rest-preserved
loop-rest-preserved c =
    let some : 0 < length c.loop-rest.rest.now = more_than_none _ (search rules) in
    let other : is_blank c.first_token-token.result.kind ≡ false = search rules in
    let passed = c.loop-rest.passed in
    let token = c.first_token-token.result in
    let left = c.split_at.result.1.now in
    let word = c.split_at.result.0.now in
    let next_is : c.copied-next.result ≡ slice_get left 0 = search rules in
    let part_is : c.part_of-part.result ≡ part_of passed c.loop-rest.touching (slice_get left 0) token.kind word =
    c.part_of-part.ensures ∙ ap (λ n. part_of passed c.loop-rest.touching n token.kind word) next_is in
    let so_far = map (λ g. g.now) c.loop-rest.gaps.items in
    let now : map (λ g. g.now) c.push.new.self.items ≡ so_far ++ space_between passed.part c.part_of-part.result ∷ [] =
    ap (map (λ g. g.now)) c.in_ok-push.ensures.items ∙ map-append (λ g. g.now) c.loop-rest.gaps.items (c.space_between.result ∷ []) ∙ ap (λ g. so_far ++ g ∷ []) c.space_between.ensures in (
      search rules,
      record {
        within = omega (arith, c.split_at.ensures.back_len, c.loop-rest.invariant.1.within);
        ahead =
            spaces_word c.args.text.now so_far (map (λ g. g.now) c.push.new.self.items) passed c.passed_after-passed.result c.loop-rest.touching c.loop-rest.rest.now word left token c.part_of-part.result
            c.loop-rest.invariant.0 some c.first_token-token.ensures c.split_at.ensures.front c.split_at.ensures.back other part_is c.passed_after-passed.ensures now c.loop-rest.invariant.1.ahead;
      },
    )

pub returns-clause-are : goal.returns-clause-are
returns-clause-are c =
    let none : length c.loop-rest.rest.now ≡ 0 = eqb-true _ 0 (search rules) in
    spaces_end c.args.text.now (map (λ g. g.now) c.loop-rest.gaps.items) c.loop-rest.passed c.loop-rest.touching c.loop-rest.rest.now none c.loop-rest.invariant.1.ahead

pub returns-clause-gaps : goal.returns-clause-gaps
returns-clause-gaps c =
    let none : length c.loop-rest.rest.now ≡ 0 = eqb-true _ 0 (search rules) in
    let all = spaces_end c.args.text.now (map (λ g. g.now) c.loop-rest.gaps.items) c.loop-rest.passed c.loop-rest.touching c.loop-rest.rest.now none c.loop-rest.invariant.1.ahead in
    subst AreGaps (sym all.are) (spaces_gaps start false c.args.text.now all.tokens)
