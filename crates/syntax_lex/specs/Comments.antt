-- Comments, after the two characters that open them, and what follows them.
use Rattle.std.specs.Prelude.{ℕ, ◌&&◌, ◌==◌, not, List, Option, None, Some, if◌then◌else◌}
use Rattle.syntax_lex.specs.Closing.{behind_comment}
use Rattle.syntax_lex.specs.Front.{behind, first, second}
use Rattle.syntax_lex.specs.Stop.{is_in_line}
use Rattle.syntax_lex.specs.declared.token.DocStyle.{DocStyle}
use Rattle.syntax_lex.specs.declared.token.DocStyle.TheVariants.{Outer, Inner}
use Rattle.syntax_lex.specs.declared.token.TokenKind.{TokenKind}
use Rattle.syntax_lex.specs.declared.token.TokenKind.TheVariants.{BlockComment, LineComment}

-- what a comment documents, by the two characters after its `//`: `//!` the item around it, `///` but not `////` the item after it
abbrev pub line_doc : (c d : ℕ) → Option DocStyle
line_doc c d = if c == 33 then Some Inner else (if (c == 47) && not (d == 47) then Some Outer else None)

-- the same after a `/*`: `/*!` the item around it, `/**` but not `/***` and `/**/` the item after it
abbrev pub block_doc : (c d : ℕ) → Option DocStyle
block_doc c d = if c == 33 then Some Inner else (if (c == 42) && not (d == 42) && not (d == 47) then Some Outer else None)

-- after `//`: a comment to the end of the line, which it does not take
abbrev pub line_comment : List ℕ → TokenKind × List ℕ
line_comment cs = (LineComment (line_doc (first cs) (second cs)), behind is_in_line cs)

-- after `/*`: a comment to the `*/` that closes it, or to the end of the text
abbrev pub block_comment : List ℕ → TokenKind × List ℕ
block_comment cs = (BlockComment (block_doc (first cs) (second cs)) (behind_comment 0 cs).0, (behind_comment 0 cs).1)
