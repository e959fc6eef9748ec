-- Facts about a result.
use Rattle.std.proofs.Common.{IfOk, IfErr, OnOk, Result, Ok, Err}

-- What follows from a fact about a value holds for each success with that fact.
pub if_ok : {T E : Type 0} {P Q : T → Type 0} (result : Result T E) → ((x : T) → P x → Q x) → IfOk result P → IfOk result Q
if_ok (Ok x) f h = f x h
if_ok (Err e) f h = h

-- What follows from two facts about a value holds for each success with both.
pub if_ok_both : {T E : Type 0} {P Q R : T → Type 0} (result : Result T E) → ((x : T) → P x → Q x → R x) → IfOk result P → IfOk result Q → IfOk result R
if_ok_both (Ok x) f h k = f x h k
if_ok_both (Err e) f h k = h

-- The same for each error.
pub if_err : {T E : Type 0} {P Q : E → Type 0} (result : Result T E) → ((e : E) → P e → Q e) → IfErr result P → IfErr result Q
if_err (Ok x) f h = h
if_err (Err e) f h = f e h

-- What follows from a fact after a success holds after each success with that fact.
pub on_ok : {T E A B : Type 0} (result : Result T E) → (A → B) → OnOk result A → OnOk result B
on_ok (Ok x) f h = f h
on_ok (Err e) f h = h
