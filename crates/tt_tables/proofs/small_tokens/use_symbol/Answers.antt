use Rattle.tt_tables.proofs.SmallHeld.{counts_symbol, symbol_has_room}
use Rattle.tt_tables.proofs.small_tokens.use_symbol.Goals as goal

pub add_at-requires-clause-room : goal.add_at-requires-clause-room
add_at-requires-clause-room c = λ x. symbol_has_room _ _ _ x c.in_ok-place.ensures.ok (c.requires x)

pub returns-clause-ok : goal.returns-clause-ok
returns-clause-ok c = counts_symbol _ _ _ _ c.in_ok-place.ensures.ok (c.add_at.ensures.more _ c.in_ok-place.ensures.place) c.add_at.ensures.values
