-- What is left is text.
use denote.Text.{Utf8}
use denote.Shadow.{shadow}
use Rattle.app_files.proofs.token_lines.write_tokens.Given as goal

abbrev pub invariant-loop-token : goal.invariant-loop-token
invariant-loop-token g l = shadow (Utf8 l.rest)
