-- Consequences of what is known of a result.
use Rattle.std.specs.Prelude.{Result, Ok, Err, IfOk, IfErr, OnOk}

-- What is known of the value is replaced by what follows from it.
pub if_ok : {T E : Type 0} {P Q : T → Type 0} (result : Result T E) → ((it : T) → P it → Q it) → IfOk result P → IfOk result Q
if_ok (Ok it) f h = f it h
if_ok (Err fault) f h = h

-- The same for an error.
pub if_err : {T E : Type 0} {P Q : E → Type 0} (result : Result T E) → ((it : E) → P it → Q it) → IfErr result P → IfErr result Q
if_err (Ok it) f h = h
if_err (Err fault) f h = f fault h

-- What is known anyway is known if the call succeeded.
pub on_ok : {T E : Type 0} {P : Type 0} (result : Result T E) → P → OnOk result P
on_ok (Ok it) h = h
on_ok (Err fault) h = tt
