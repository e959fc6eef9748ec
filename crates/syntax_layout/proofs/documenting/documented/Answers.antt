use Rattle.std.proofs.Common.{◌≡◌, ◌≢◌, ◌<◌, ◌++◌, [], true, length, arith, rules, sym, ap, subst}
use Rattle.std.proofs.lemmas.Bool.{eqb-true}
use Rattle.std.specs.Option.{is_none}
use Rattle.std.specs.Prelude.{string_bytes}
use Rattle.std.specs.Str.{IsCharBoundary, chars}
use Rattle.memchr.specs.Find.{FindsNeedle}
use Rattle.syntax_layout.proofs.Becomes.{replaced_short, rest_utf8}
use Rattle.syntax_layout.proofs.Documents.{documented_short}
use Rattle.syntax_layout.proofs.Undocumented.{needle, not_found}
use Rattle.syntax_layout.proofs.WrittenAhead.{IsWrittenAhead, ahead_becomes, ahead_end, ahead_none, ahead_stays}
use Rattle.syntax_layout.specs.Documented.{IsDocumented}
use Rattle.syntax_lex.proofs.FrontFacts.{empty_from_chars}
use Rattle.syntax_parse.proofs.TextFacts.{cut, more_than_none}
use Rattle.syntax_layout.proofs.documenting.documented.Goals as goal

pub returns-then-is_none-clause-is : goal.returns-then-is_none-clause-is
returns-then-is_none-clause-is c =
    let found : is_none c.find.result ≡ true = search rules in
    not_found c.args.text.now c.find.result c.utf8.text (subst (λ t. FindsNeedle t needle 0 c.find.result) c.as_bytes.ensures.value c.find.ensures) found

pub loop-rest-smaller-in-Some : goal.loop-rest-smaller-in-Some
loop-rest-smaller-in-Some c =
    let found = c.in-Some.found in
    omega (arith, replaced_short found.style found.doc.now found.ending.now found.rest.now c.loop-rest.rest.now c.in-Some.ensures.1)

pub loop-rest-preserved-in-Some : goal.loop-rest-preserved-in-Some
loop-rest-preserved-in-Some c =
    let found = c.in-Some.found in
    let rest = c.loop-rest.rest.now in
    let utf8 = rest_utf8 found.style found.doc.now found.ending.now found.rest.now rest c.loop-rest.invariant.1 c.in-Some.ensures.1 in (
      utf8,
      utf8,
      ahead_becomes c.args.text.now c.loop-rest.begins (string_bytes c.loop-rest.written) (string_bytes c.push_comment.new.written) c.loop-rest.kept.now rest
          found.style found.doc.now found.ending.now found.rest.now c.in-Some.ensures.0 c.in-Some.ensures.1 c.in_ok-push_comment-in-Some.ensures c.loop-rest.invariant.2,
    )

pub split_at-requires : goal.split_at-requires
split_at-requires c =
    let some : 0 < length c.loop-rest.rest.now = more_than_none _ (search rules) in
    subst (λ t. IsCharBoundary c.loop-rest.rest.now t.len) (sym c.first_token-token.ensures) (cut c.loop-rest.rest.now c.loop-rest.invariant.1 some).boundary

pub loop-rest-smaller : goal.loop-rest-smaller
loop-rest-smaller c =
    let some : 0 < length c.loop-rest.rest.now = more_than_none _ (search rules) in
    let k = cut c.loop-rest.rest.now c.loop-rest.invariant.1 some in
    omega (arith, k.some, ap (λ t. t.len) c.first_token-token.ensures, c.split_at.ensures.back_len)

pub loop-rest-preserved : goal.loop-rest-preserved
loop-rest-preserved c =
    let rest = c.loop-rest.rest.now in
    let some : 0 < length rest = more_than_none _ (search rules) in
    let letters : chars rest ≢ [] = λ e. omega (arith, some, empty_from_chars rest c.loop-rest.invariant.1 e) in (
      c.loop-rest.invariant.0,
      search rules,
      subst (λ b. IsWrittenAhead c.args.text.now b (string_bytes c.loop-rest.written) c.loop-rest.kept.now c.split_at.result.1.now) (sym c.is_white-begins.ensures)
          (ahead_stays c.args.text.now c.loop-rest.begins (string_bytes c.loop-rest.written) c.loop-rest.kept.now rest c.split_at.result.1.now c.first_token-token.result letters
          c.first_token-token.ensures c.split_at.ensures.back c.in-None.ensures c.loop-rest.invariant.2),
    )

pub returns-then-is_empty-clause-is : goal.returns-then-is_empty-clause-is
returns-then-is_empty-clause-is c =
    let none : length c.loop-rest.rest.now ≡ 0 = eqb-true _ 0 (search rules) in
    let nothing : length (string_bytes c.loop-rest.written) ≡ 0 = eqb-true _ 0 (search rules) in
    ahead_none c.args.text.now c.loop-rest.begins (string_bytes c.loop-rest.written) c.loop-rest.kept.now c.loop-rest.rest.now none nothing c.loop-rest.invariant.2

pub returns-clause-is : goal.returns-clause-is
returns-clause-is c =
    let none : length c.loop-rest.rest.now ≡ 0 = eqb-true _ 0 (search rules) in
    let wrote : string_bytes c.push_str.new.self ≡ string_bytes c.loop-rest.written ++ c.loop-rest.kept.now = search rules in
    subst (IsDocumented true c.args.text.now) (sym wrote) (ahead_end c.args.text.now c.loop-rest.begins (string_bytes c.loop-rest.written) c.loop-rest.kept.now c.loop-rest.rest.now none c.loop-rest.invariant.2)

pub returns-clause-short : goal.returns-clause-short
returns-clause-short c =
    let none : length c.loop-rest.rest.now ≡ 0 = eqb-true _ 0 (search rules) in
    let wrote : string_bytes c.push_str.new.self ≡ string_bytes c.loop-rest.written ++ c.loop-rest.kept.now = search rules in
    documented_short (subst (IsDocumented true c.args.text.now) (sym wrote) (ahead_end c.args.text.now c.loop-rest.begins (string_bytes c.loop-rest.written) c.loop-rest.kept.now c.loop-rest.rest.now none c.loop-rest.invariant.2))
