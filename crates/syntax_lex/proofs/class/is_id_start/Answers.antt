use Rattle.std.proofs.Common.{◌||◌, ◌==◌, sym, ap, ◌∙◌}
use Rattle.std.proofs.lemmas.Bool.{ltb-true}
use Rattle.unicode_ident.proofs.IdentLemmas.{is_xid_start-ascii}
use Rattle.syntax_lex.proofs.class.is_id_start.Goals as goal

pub returns-then-is_ascii : goal.returns-then-is_ascii
returns-then-is_ascii c =
    ap (λ b. b || (c.args.c == 95)) (c.is_ascii_alphabetic.ensures.value ∙ sym (is_xid_start-ascii c.args.c (ltb-true c.args.c 128 (sym c.if-is_ascii.ensures))))
