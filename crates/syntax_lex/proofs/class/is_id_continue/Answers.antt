use Rattle.std.proofs.Common.{◌||◌, ◌==◌, sym, ap, ◌∙◌}
use Rattle.std.proofs.lemmas.Bool.{ltb-true}
use Rattle.std.specs.Char.{is_ascii_digit}
use Rattle.syntax_lex.proofs.ClassFacts.{id_continue-ascii}
use Rattle.syntax_lex.proofs.class.is_id_continue.Goals as goal

pub returns-then-is_ascii_alphabetic : goal.returns-then-is_ascii_alphabetic
returns-then-is_ascii_alphabetic c =
    c.if-is_ascii_alphabetic.true
    ∙ sym (id_continue-ascii c.args.c (ltb-true c.args.c 128 (sym c.if-is_ascii.ensures)) ∙ ap (λ b. b || (is_ascii_digit c.args.c || (c.args.c == 95))) (sym c.if-is_ascii_alphabetic.ensures.value))

pub returns-then-is_ascii_digit : goal.returns-then-is_ascii_digit
returns-then-is_ascii_digit c =
    c.if-is_ascii_digit.true
    ∙ sym (id_continue-ascii c.args.c (ltb-true c.args.c 128 (sym c.if-is_ascii.ensures))
    ∙ ap (λ b. b || (is_ascii_digit c.args.c || (c.args.c == 95))) (sym c.if-is_ascii_alphabetic.ensures.value)
    ∙ ap (λ b. b || (c.args.c == 95)) (sym c.if-is_ascii_digit.ensures.value))

pub returns-else-is_ascii_digit : goal.returns-else-is_ascii_digit
returns-else-is_ascii_digit c =
    sym (id_continue-ascii c.args.c (ltb-true c.args.c 128 (sym c.if-is_ascii.ensures))
    ∙ ap (λ b. b || (is_ascii_digit c.args.c || (c.args.c == 95))) (sym c.if-is_ascii_alphabetic.ensures.value)
    ∙ ap (λ b. b || (c.args.c == 95)) (sym c.if-is_ascii_digit.ensures.value))
