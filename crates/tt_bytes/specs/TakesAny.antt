-- A visitor with no condition on a token.
use Rattle.std.specs.Prelude.{ℕ, List}
use Rattle.tt_codec.specs.declared.entry.Entry.{Entry}

-- any result
abbrev pub takes_any : {X : Type 0} → X → Entry → List ℕ → X → Type 0
takes_any old entry rest new = Unit {0}
