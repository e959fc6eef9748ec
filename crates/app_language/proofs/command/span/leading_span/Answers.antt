use Rattle.std.proofs.Common.{◌∙◌, arith}
use Rattle.tt_base.specs.declared.span.Span.{Span}
use Rattle.app_language.proofs.Spans.{from_left, past_file, past_ast, past_start, past_dots, past_end, span_read}
use Rattle.app_language.proofs.command.span.leading_span.Goals as goal

pub returns-in_err-file : goal.returns-in_err-file
returns-in_err-file c = rw c.from_residual.ensures (λ span tail fits other e. c.in_err-file.ensures _ _ fits.file (e ∙ from_left span tail))

pub returns-in_err-ast : goal.returns-in_err-ast
returns-in_err-ast c =
    rw c.from_residual-in_err-ast.ensures
    (λ span tail fits other e. c.in_err-ast.ensures _ _ fits.ast (past_file span tail fits e c.in_ok-file.ensures).1)

pub returns-in_err-start : goal.returns-in_err-start
returns-in_err-start c =
    rw c.from_residual-in_err-start.ensures
    (λ span tail fits other e. c.in_err-start.ensures _ _ fits.start (past_ast span tail fits e c.in_ok-file.ensures c.in_ok-ast.ensures).1)

pub returns-in_err-rest : goal.returns-in_err-rest
returns-in_err-rest c =
    rw c.from_residual-in_err-rest.ensures
    (λ span tail fits other e. c.in_err-rest.ensures _ (past_start span tail fits e c.in_ok-file.ensures c.in_ok-ast.ensures c.in_ok-start.ensures).1)

pub returns-in_err-end : goal.returns-in_err-end
returns-in_err-end c =
    rw c.from_residual-in_err-end.ensures
    (λ span tail fits other e. c.in_err-end.ensures _ _ fits.end (past_dots span tail fits e c.in_ok-file.ensures c.in_ok-ast.ensures c.in_ok-start.ensures c.in_ok-rest.ensures))

pub returns-in_err-ctx : goal.returns-in_err-ctx
returns-in_err-ctx c =
    rw c.from_residual-in_err-ctx.ensures
    (λ span tail fits other e.
    c.in_err-ctx.ensures _ tail fits.ctx other (past_end span tail fits e c.in_ok-file.ensures c.in_ok-ast.ensures c.in_ok-start.ensures c.in_ok-rest.ensures c.in_ok-end.ensures).1)

pub returns-then-end-start : goal.returns-then-end-start
returns-then-end-start c =
    λ span tail fits other e.
    let start = (past_start span tail fits e c.in_ok-file.ensures c.in_ok-ast.ensures c.in_ok-start.ensures).0 in
    let end = (past_end span tail fits e c.in_ok-file.ensures c.in_ok-ast.ensures c.in_ok-start.ensures c.in_ok-rest.ensures c.in_ok-end.ensures).0 in
    omega (arith, span.range.ordered)

pub returns : goal.returns
returns c =
    let span : Span = record { range = c.new-3.result; anchor = record { file_id = record { 0 = c.in_ok-file.file }; ast_id = record { 0 = c.in_ok-ast.ast } }; ctx = record { 0 = c.in_ok-ctx.ctx } } in
    let read = span_read span _ c.in_ok-file.ensures c.in_ok-ast.ensures c.in_ok-start.ensures c.in_ok-rest.ensures c.in_ok-end.ensures c.in_ok-ctx.ensures.0 c.in_ok-ctx.ensures.1
    (c.new-3.ensures.start ∙ c.new.ensures) (c.new-3.ensures.end ∙ c.new-2.ensures) in
    (read.0, read.1, c.in_ok-ctx.ensures.2)
