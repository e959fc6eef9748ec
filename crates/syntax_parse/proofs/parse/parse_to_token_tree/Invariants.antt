use Rattle.std.proofs.Common.{◌≡◌, ◌+◌, length, reverse}
use denote.Text.{Utf8}
use denote.Shadow.{shadow}
use Rattle.std.specs.Str.{chars}
use Rattle.tt_base.specs.Building.{open_kinds}
use Rattle.syntax_parse.specs.Faults.{kinds_of}
use Rattle.syntax_parse.specs.Parsed.{IsTop, token_ahead}
use Rattle.syntax_parse.specs.Spelled.{spelled_so_far}
use Rattle.syntax_parse.proofs.AheadFacts.{IsAhead}
use Rattle.syntax_parse.proofs.parse.parse_to_token_tree.Given as goal

abbrev pub invariant-loop-ahead : goal.invariant-loop-ahead
invariant-loop-ahead l = shadow (Utf8 l.rest) × record {
  place : l.at + length l.rest ≡ length l.fn.text;
  token : l.ahead ≡ token_ahead (chars l.rest);
  same : kinds_of (reverse l.open.items) ≡ open_kinds l.builder.stack;
  top : IsTop l.part (length l.fn.text) l.builder.top;
  ahead : IsAhead l.part l.fn.text l.rest (spelled_so_far l.builder.stack) (reverse l.open.items) l.at;
}

abbrev pub decreases-loop-ahead : goal.decreases-loop-ahead
decreases-loop-ahead l = length l.rest
