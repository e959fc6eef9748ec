-- A value with several owners.
use Rattle.tt_shared.specs.declared.shared.Shared.{Shared}

-- the value that all the owners share
abbrev pub shared_value : {X : Type 0} → Shared X → X
shared_value shared = shared.counted.value
