use Rattle.std.proofs.Common.{◌∙◌, refl, sym}
use Rattle.syntax_lex.proofs.OpeningFacts.{opening-wide}
use Rattle.syntax_lex.proofs.opening.wide_opening.Goals as goal

pub returns-then-is_whitespace : goal.returns-then-is_whitespace
returns-then-is_whitespace c = λ d e. sym (opening-wide c.args.c d e c.requires ∙ rw (sym c.if-is_whitespace.ensures) refl)

pub returns-then-is_id_start : goal.returns-then-is_id_start
returns-then-is_id_start c = λ d e. sym (opening-wide c.args.c d e c.requires ∙ rw (sym c.if-is_whitespace.ensures, sym c.if-is_id_start.ensures) refl)

pub returns-then-is_emoji_mark : goal.returns-then-is_emoji_mark
returns-then-is_emoji_mark c =
    λ d e. sym (opening-wide c.args.c d e c.requires ∙ rw (sym c.if-is_whitespace.ensures, sym c.if-is_id_start.ensures, sym c.if-is_emoji_mark.ensures) refl)

pub returns-else-is_emoji_mark : goal.returns-else-is_emoji_mark
returns-else-is_emoji_mark c =
    λ d e. sym (opening-wide c.args.c d e c.requires ∙ rw (sym c.if-is_whitespace.ensures, sym c.if-is_id_start.ensures, sym c.if-is_emoji_mark.ensures) refl)
