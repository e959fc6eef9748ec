use Rattle.std.proofs.Common.{◌≡◌, ◌<◌, ◌+◌, ◌++◌, [], true, false, length, map, get_or, arith, rules, sym, ap, ap₂, ◌∙◌, subst, List}
use Rattle.std.proofs.lemmas.Bool.{eqb-true}
use Rattle.std.specs.Prelude.{string_bytes}
use Rattle.std.specs.Str.{IsCharBoundary, chars}
use Rattle.syntax_layout.specs.Gap.{is_blank}
use Rattle.syntax_layout.specs.Layout.{ending, joins, put_before, touched}
use Rattle.syntax_lex.specs.Reading.{AreTokensOf}
use Rattle.syntax_lex.specs.declared.token.Token.{Token}
use Rattle.syntax_layout.proofs.Ahead.{layout_blank, layout_end, layout_others, layout_word}
use Rattle.syntax_layout.proofs.GapChunks.{gap_short}
use Rattle.syntax_edit.specs.Whole.{is_whole}
use Rattle.syntax_parse.proofs.TextFacts.{cut, more_than_none}
use Rattle.syntax_layout.proofs.layout.laid_out.Goals as goal

pub split_at-requires : goal.split_at-requires
split_at-requires c =
    let some : 0 < length c.loop-rest.rest.now = more_than_none _ (search rules) in
    subst (λ t. IsCharBoundary c.loop-rest.rest.now t.len) (sym c.next_token-token.ensures) (cut c.loop-rest.rest.now c.loop-rest.invariant.0 some).boundary

pub returns-then-not-is_whole : goal.returns-then-not-is_whole
returns-then-not-is_whole c =
    let some : 0 < length c.loop-rest.rest.now = more_than_none _ (search rules) in
    let other : is_blank c.next_token-token.result.kind ≡ false = search rules in
    let odd : is_whole c.next_token-token.result.kind ≡ false = search rules in
    layout_others c.args.text.now (map (λ g. g.now) c.args.gaps.now) (string_bytes c.loop-rest.laid) c.loop-rest.last.is_none c.loop-rest.last.touches c.loop-rest.last.kind c.loop-rest.last.text.now c.loop-rest.used
    c.loop-rest.rest.now c.next_token-token.result c.loop-rest.invariant.0 some c.next_token-token.ensures other odd c.loop-rest.invariant.1.ahead

pub push_next-requires-clause-fits_gap : goal.push_next-requires-clause-fits_gap
push_next-requires-clause-fits_gap c =
    omega (arith, c.loop-rest.invariant.1.shorter, c.requires.fits, ap length c.gap_at-before.ensures, gap_short (map (λ g. g.now) c.args.gaps.now) c.loop-rest.used c.requires.gaps)

pub loop-rest-smaller-then-is_blank : goal.loop-rest-smaller-then-is_blank
loop-rest-smaller-then-is_blank c =
    let some : 0 < length c.loop-rest.rest.now = more_than_none _ (search rules) in
    let k = cut c.loop-rest.rest.now c.loop-rest.invariant.0 some in
    omega (arith, k.some, ap (λ t. t.len) c.next_token-token.ensures, c.split_at.ensures.back_len)

pub loop-rest-preserved-then-is_blank : goal.loop-rest-preserved-then-is_blank
loop-rest-preserved-then-is_blank c =
    let some : 0 < length c.loop-rest.rest.now = more_than_none _ (search rules) in
    let blank : is_blank c.next_token-token.result.kind ≡ true = search rules in (
      search rules,
      record {
        within = omega (arith, c.split_at.ensures.back_len, c.loop-rest.invariant.1.within);
        shorter = c.loop-rest.invariant.1.shorter;
        some = c.loop-rest.invariant.1.some;
        ahead =
            layout_blank c.args.text.now (map (λ g. g.now) c.args.gaps.now) (string_bytes c.loop-rest.laid) c.loop-rest.last.is_none c.loop-rest.last.touches c.loop-rest.last.kind c.loop-rest.last.text.now c.loop-rest.used
            c.loop-rest.rest.now c.split_at.result.1.now c.next_token-token.result c.loop-rest.invariant.0 some c.next_token-token.ensures c.split_at.ensures.back blank c.loop-rest.invariant.1.ahead;
      },
    )

pub loop-rest-smaller : goal.loop-rest-smaller
loop-rest-smaller c =
    let some : 0 < length c.loop-rest.rest.now = more_than_none _ (search rules) in
    let k = cut c.loop-rest.rest.now c.loop-rest.invariant.0 some in
    omega (arith, k.some, ap (λ t. t.len) c.next_token-token.ensures, c.split_at.ensures.back_len)

pub loop-rest-preserved : goal.loop-rest-preserved
loop-rest-preserved c =
    let some : 0 < length c.loop-rest.rest.now = more_than_none _ (search rules) in
    let k = cut c.loop-rest.rest.now c.loop-rest.invariant.0 some in
    let other : is_blank c.next_token-token.result.kind ≡ false = search rules in
    let whole : is_whole c.next_token-token.result.kind ≡ true = search rules in
    let len = ap (λ t. t.len) c.next_token-token.ensures in
    let gaps = map (λ g. g.now) c.args.gaps.now in
    let last = c.loop-rest.last in
    let wrote : (tokens : List Token) → AreTokensOf tokens (chars c.split_at.result.1.now) → string_bytes c.push_next.new.laid ≡ string_bytes c.loop-rest.laid
    ++ (put_before last.is_none last.touches (joins last.kind c.next_token-token.result.kind) last.text.now (get_or gaps c.loop-rest.used []) (c.split_at.result.0.now ++ touched true c.next_token-token.result.kind c.split_at.result.0.now (get_or gaps (c.loop-rest.used + 1) []) c.split_at.result.1.now tokens) ++ c.split_at.result.0.now) =
    λ tokens are.
    let put : string_bytes c.push_next.new.laid ≡ string_bytes c.loop-rest.laid
    ++ (put_before last.is_none last.touches (joins last.kind c.next_token-token.result.kind) last.text.now c.gap_at-before.result.now (c.split_at.result.0.now ++ touched true c.next_token-token.result.kind c.split_at.result.0.now c.gap_at-gap.result.now c.split_at.result.1.now tokens) ++ c.split_at.result.0.now) =
    c.in_ok-push_next.ensures tokens are in
    put ∙ ap₂ (λ g h. string_bytes c.loop-rest.laid
    ++ (put_before last.is_none last.touches (joins last.kind c.next_token-token.result.kind) last.text.now g (c.split_at.result.0.now ++ touched true c.next_token-token.result.kind c.split_at.result.0.now h c.split_at.result.1.now tokens) ++ c.split_at.result.0.now)) c.gap_at-before.ensures c.gap_at-gap.ensures in (
      search rules,
      record {
        within = omega (arith, k.some, len, c.split_at.ensures.back_len, c.loop-rest.invariant.1.within);
        shorter = omega (arith, c.split_at.ensures.front_len, c.split_at.ensures.back_len, c.loop-rest.invariant.1.within);
        some = λ h. omega (arith, k.some, len, c.split_at.ensures.front_len);
        ahead =
            layout_word c.args.text.now gaps (string_bytes c.loop-rest.laid) (string_bytes c.push_next.new.laid) last.is_none last.touches last.kind last.text.now c.loop-rest.used
            c.loop-rest.rest.now c.split_at.result.0.now c.split_at.result.1.now c.next_token-token.result c.loop-rest.invariant.0 some c.next_token-token.ensures c.split_at.ensures.front c.split_at.ensures.back other whole wrote
            c.loop-rest.invariant.1.ahead;
      },
    )

pub returns : goal.returns
returns c =
    let none : length c.loop-rest.rest.now ≡ 0 = eqb-true _ 0 (search rules) in
    let gaps = map (λ g. g.now) c.args.gaps.now in
    let last = c.loop-rest.last in
    let put : string_bytes c.push_ending.new.laid ≡ string_bytes c.loop-rest.laid ++ ending last.is_none last.text.now c.gap_at-ending.result.now = search rules in
    let wrote : string_bytes c.push_ending.new.laid ≡ string_bytes c.loop-rest.laid ++ ending last.is_none last.text.now (get_or gaps c.loop-rest.used []) =
    put ∙ ap (λ g. string_bytes c.loop-rest.laid ++ ending last.is_none last.text.now g) c.gap_at-ending.ensures in
    layout_end c.args.text.now gaps (string_bytes c.loop-rest.laid) (string_bytes c.push_ending.new.laid) last.is_none last.touches last.kind last.text.now c.loop-rest.used c.loop-rest.rest.now none wrote c.loop-rest.invariant.1.ahead

pub push_ending-requires-clause-fits : goal.push_ending-requires-clause-fits
push_ending-requires-clause-fits c =
    omega (arith, c.loop-rest.invariant.1.shorter, c.requires.fits, ap length c.gap_at-ending.ensures, gap_short (map (λ g. g.now) c.args.gaps.now) c.loop-rest.used c.requires.gaps)

pub push_next-requires-clause-next : goal.push_next-requires-clause-next
push_next-requires-clause-next c =
    let some : 0 < length c.loop-rest.rest.now = more_than_none _ (search rules) in
    let k = cut c.loop-rest.rest.now c.loop-rest.invariant.0 some in
    omega (arith, k.some, ap (λ t. t.len) c.next_token-token.ensures, c.split_at.ensures.front_len)
