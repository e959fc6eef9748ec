use Rattle.std.proofs.Common.{arith, rules, ◌≡◌, reverse, length, ◌++◌, [], refl, sym, subst, ap, ◌∙◌}
use Rattle.std.proofs.lemmas.Grind.{common_steps}
use Rattle.std.proofs.lemmas.Result.{err_from_is_err_and}
use Rattle.std.specs.Str.{IsCharBoundary}
use Rattle.tt_base.specs.Building.{open_kinds}
use Rattle.tt.specs.FlatHeld.{built}
use Rattle.tt_base.specs.declared.fault.TtFault.{TtFault}
use Rattle.tt_base.specs.declared.span.SpanPart.{SpanPart}
use Rattle.syntax_parse.specs.Limits.{IsAddFault}
use Rattle.syntax_parse.specs.Parsed.{IsTop, kind_ahead}
use Rattle.syntax_parse.specs.Pieces.{pieces_of}
use Rattle.syntax_parse.specs.Spelled.{spelled_so_far}
use Rattle.syntax_parse.proofs.AheadFacts.{ahead_many, ahead_step, ahead_fault, ahead_unclosed, ahead_end}
use Rattle.syntax_parse.proofs.LimitFacts.{limit_of_leaves, limit_of_tree}
use Rattle.syntax_parse.proofs.ScanFacts.{word_scanned}
use Rattle.syntax_parse.proofs.TextFacts.{ahead_is, cut, is_empty}
use Rattle.syntax_parse.proofs.parse.parse_to_token_tree.Goals as goal

pub split_at-requires : goal.split_at-requires
split_at-requires c =
    let first = ahead_is c.in-Some.token c.loop-ahead.rest.now (sym c.in-Some.is ∙ c.loop-ahead.invariant.1.token) in
    let k = cut c.loop-ahead.rest.now c.loop-ahead.invariant.0 first.0 in
    subst (λ t. IsCharBoundary c.loop-ahead.rest.now t.len) (sym first.1) k.boundary

pub take-requires-clause-some : goal.take-requires-clause-some
take-requires-clause-some c =
    let first = ahead_is c.in-Some.token c.loop-ahead.rest.now (sym c.in-Some.is ∙ c.loop-ahead.invariant.1.token) in
    let k = cut c.loop-ahead.rest.now c.loop-ahead.invariant.0 first.0 in
    omega (arith, k.some, ap (λ t. t.len) first.1, c.split_at.ensures.front_len)

pub take-requires-clause-scan : goal.take-requires-clause-scan
take-requires-clause-scan c =
    let first = ahead_is c.in-Some.token c.loop-ahead.rest.now (sym c.in-Some.is ∙ c.loop-ahead.invariant.1.token) in
    word_scanned c.loop-ahead.rest.now c.split_at.result.0.now c.in-Some.token c.loop-ahead.invariant.0 first.0 first.1 c.split_at.ensures.front

pub returns-in-Some-2-clause-err : goal.returns-in-Some-2-clause-err
returns-in-Some-2-clause-err c =
    let first = ahead_is c.in-Some.token c.loop-ahead.rest.now (sym c.in-Some.is ∙ c.loop-ahead.invariant.1.token) in
    ahead_fault (record { anchor = c.args.anchor; ctx = c.args.ctx }) c.args.text.now c.loop-ahead.rest.now c.split_at.result.0.now (spelled_so_far c.loop-ahead.builder.stack) (reverse c.loop-ahead.open.items)
    c.loop-ahead.at c.in-Some.token c.in-Some-2.fault c.loop-ahead.invariant.0 first.0 first.1 c.split_at.ensures.front
    (rw c.in-Some-2.is at c.in_ok-fault.ensures.fault) c.loop-ahead.invariant.1.ahead

pub loop-ahead-smaller : goal.loop-ahead-smaller
loop-ahead-smaller c =
    let first = ahead_is c.in-Some.token c.loop-ahead.rest.now (sym c.in-Some.is ∙ c.loop-ahead.invariant.1.token) in
    let k = cut c.loop-ahead.rest.now c.loop-ahead.invariant.0 first.0 in
    omega (arith, k.some, ap (λ t. t.len) first.1, c.split_at.ensures.back_len)

pub loop-ahead-preserved : goal.loop-ahead-preserved
loop-ahead-preserved c =
    let first = ahead_is c.in-Some.token c.loop-ahead.rest.now (sym c.in-Some.is ∙ c.loop-ahead.invariant.1.token) in (
      search rules,
      record {
        place = omega (arith, c.split_at.ensures.back_len, c.loop-ahead.invariant.1.place);
        token = c.token_ahead-next.ensures;
        same = rw c.in_default-2.is at c.in_ok-fault.ensures.same;
        top = subst (λ d. IsTop (record { anchor = c.args.anchor; ctx = c.args.ctx }) (length c.args.text.now) d) (sym c.in_ok-fault.ensures.top) c.loop-ahead.invariant.1.top;
        ahead =
            ahead_step (record { anchor = c.args.anchor; ctx = c.args.ctx }) c.args.text.now c.loop-ahead.rest.now c.split_at.result.0.now c.split_at.result.1.now
            (spelled_so_far c.loop-ahead.builder.stack) (spelled_so_far c.take.new.builder.stack) (reverse c.loop-ahead.open.items) (reverse c.take.new.opens.items)
            c.loop-ahead.at c.in-Some.token c.token_ahead-next.result c.loop-ahead.invariant.0 first.0 first.1 c.token_ahead-next.ensures c.split_at.ensures.front c.split_at.ensures.back
            (rw c.in_default-2.is at c.in_ok-fault.ensures.fault)
            ((rw c.in_default-2.is at c.in_ok-fault.ensures.holds) ∙ ap (λ k. spelled_so_far c.loop-ahead.builder.stack ++ pieces_of (record { anchor = c.args.anchor; ctx = c.args.ctx }) c.in-Some.token.kind k c.loop-ahead.at c.split_at.result.0.now) c.kind_of.ensures)
            c.loop-ahead.invariant.1.ahead;
      },
    )

pub returns-in-Some-pop-clause-err : goal.returns-in-Some-pop-clause-err
returns-in-Some-pop-clause-err c =
    ahead_unclosed (record { anchor = c.args.anchor; ctx = c.args.ctx }) c.args.text.now c.loop-ahead.rest.now (spelled_so_far c.loop-ahead.builder.stack) (reverse c.loop-ahead.open.items) (reverse c.pop.new.self.items)
    c.loop-ahead.at c.in-Some-pop.last (is_empty c.loop-ahead.rest.now c.loop-ahead.invariant.0 (sym c.in_default.is ∙ c.loop-ahead.invariant.1.token)) (grind (arith, common_steps, c.in-Some-pop.ensures)) c.loop-ahead.invariant.1.ahead

pub returns-in_err-fault-clause-err : goal.returns-in_err-fault-clause-err
returns-in_err-fault-clause-err c =
    let part : SpanPart = record { anchor = c.args.anchor; ctx = c.args.ctx } in
    let fault : TtFault = c.in_err-fault.field-0.0 in
    let first = ahead_is c.in-Some.token c.loop-ahead.rest.now (sym c.in-Some.is ∙ c.loop-ahead.invariant.1.token) in
    let ahead = kind_ahead c.token_ahead-next.result in
    let refused : IsAddFault (pieces_of part c.in-Some.token.kind ahead c.loop-ahead.at c.split_at.result.0.now) c.loop-ahead.builder fault =
    subst (λ k. IsAddFault (pieces_of part c.in-Some.token.kind k c.loop-ahead.at c.split_at.result.0.now) c.loop-ahead.builder fault) c.kind_of.ensures c.in_err-fault.ensures.err in
    let p = err_from_is_err_and c.from_residual-in_err-fault.result c.from_residual-in_err-fault.ensures.1 in
    rw (p.1, p.2)
    (limit_of_leaves part c.args.text.now (pieces_of part c.in-Some.token.kind ahead c.loop-ahead.at c.split_at.result.0.now) c.loop-ahead.builder fault
    (ahead_many part c.args.text.now c.loop-ahead.rest.now c.split_at.result.0.now c.split_at.result.1.now (spelled_so_far c.loop-ahead.builder.stack) (reverse c.loop-ahead.open.items)
    c.loop-ahead.at c.in-Some.token c.token_ahead-next.result c.loop-ahead.invariant.0 first.0 first.1 c.token_ahead-next.ensures c.split_at.ensures.front c.split_at.ensures.back
    c.loop-ahead.invariant.1.ahead)
    refused)

pub returns-clause-ok : goal.returns-clause-ok
returns-clause-ok c =
    let none : reverse c.loop-ahead.open.items ≡ [] = grind (arith, common_steps, c.in_default-pop.ensures) in
    let closed : open_kinds c.loop-ahead.builder.stack ≡ [] = grind (arith, common_steps, c.loop-ahead.invariant.1.same, none) in
    ahead_end (record { anchor = c.args.anchor; ctx = c.args.ctx }) c.args.text.now c.loop-ahead.rest.now c.loop-ahead.builder c.in_ok-build.field-0 (reverse c.loop-ahead.open.items)
    c.loop-ahead.at (is_empty c.loop-ahead.rest.now c.loop-ahead.invariant.0 (sym c.in_default.is ∙ c.loop-ahead.invariant.1.token)) none closed c.in_ok-build.ensures.ok c.loop-ahead.invariant.1.top c.loop-ahead.invariant.1.ahead

pub returns-in_err-build-clause-err : goal.returns-in_err-build-clause-err
returns-in_err-build-clause-err c =
    let part : SpanPart = record { anchor = c.args.anchor; ctx = c.args.ctx } in
    let none : reverse c.loop-ahead.open.items ≡ [] = grind (arith, common_steps, c.in_default-pop.ensures) in
    let closed : open_kinds c.loop-ahead.builder.stack ≡ [] = grind (arith, common_steps, c.loop-ahead.invariant.1.same, none) in
    let empty = is_empty c.loop-ahead.rest.now c.loop-ahead.invariant.0 (sym c.in_default.is ∙ c.loop-ahead.invariant.1.token) in
    let p = err_from_is_err_and c.from_residual-in_err-build.result c.from_residual-in_err-build.ensures.1 in
    rw (p.1, p.2)
    (limit_of_tree part c.args.text.now (built c.loop-ahead.builder) c.in_err-build.field-0.0
    (ahead_end part c.args.text.now c.loop-ahead.rest.now c.loop-ahead.builder (built c.loop-ahead.builder) (reverse c.loop-ahead.open.items)
    c.loop-ahead.at empty none closed refl c.loop-ahead.invariant.1.top c.loop-ahead.invariant.1.ahead)
    c.in_err-build.ensures.fault)
