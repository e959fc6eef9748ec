-- What follows from what holds if there is a value.
use Rattle.std.specs.Prelude.{Result, Ok, Err, IfOk}

-- From a property of the value to one that follows from it.
pub if_ok : {T E : Type 0} {P Q : T → Type 0} (result : Result T E) → ((it : T) → P it → Q it) → IfOk result P → IfOk result Q
if_ok (Ok it) f h = f it h
if_ok (Err fault) f h = h
