-- The tokens ahead of a cursor.
use Rattle.std.specs.Prelude.{◌≡◌}
use Rattle.tt_base.specs.Moves.{first_token, after_token}
use Rattle.tt_view.specs.Views.{trees_of}
use Rattle.tt_view.specs.declared.lookahead.Lookahead.TheInside.{Inside}

-- the fields keep the first token, and the tokens after it
abbrev pub KeepsFirst : Inside → Type 0
KeepsFirst ahead = (ahead.first ≡ first_token (trees_of ahead.trees)) × (trees_of ahead.rest ≡ after_token (trees_of ahead.trees))
