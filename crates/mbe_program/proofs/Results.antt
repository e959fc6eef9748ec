-- What holds if there is a value or an error, and what follows from it; and which of two numbers is less.
use Rattle.std.proofs.Common.{◌≡◌, ◌<◌, ◌≤◌, ℕ, inl, inr}
use Rattle.std.proofs.lemmas.Bool.Decides.{leb_tells}
use Rattle.std.specs.Prelude.{◌⊎◌, Result, Ok, Err, OnOk, IfOk}

-- From a property of the value to one that follows from it.
pub on_ok : {T E A B : Type 0} (result : Result T E) → (A → B) → OnOk result A → OnOk result B
on_ok (Ok it) f h = f h
on_ok (Err fault) f h = h

pub if_ok : {T E : Type 0} {P Q : T → Type 0} (result : Result T E) → ((it : T) → P it → Q it) → IfOk result P → IfOk result Q
if_ok (Ok it) f h = f it h
if_ok (Err fault) f h = h

-- One number is less than another, or not.
pub less_or_not : (n m : ℕ) → (n < m) ⊎ (m ≤ n)
less_or_not n m = elim (leb_tells m n) [
  | inl (is, le) ↦ inr le
  | inr (is, less) ↦ inl less
]

pub on_both : {T E : Type 0} {P Q R : Type 0} (result : Result T E) → (P → Q → R) → OnOk result P → OnOk result Q → OnOk result R
on_both (Ok value) f p q = f p q
on_both (Err error) f p q = tt

-- At an error nothing is said of the value.
pub on_err : {T E : Type 0} (A : Type 0) (result : Result T E) (fault : E) → result ≡ Err fault → OnOk result A
on_err A (Ok it) fault same = absurd (cc same)
on_err A (Err own) fault same = tt

pub if_err : {T E : Type 0} (P : T → Type 0) (result : Result T E) (fault : E) → result ≡ Err fault → IfOk result P
if_err P (Ok it) fault same = absurd (cc same)
if_err P (Err own) fault same = tt

pub on_three : {T E : Type 0} {P Q R S : Type 0} (result : Result T E) → (P → Q → R → S) → OnOk result P → OnOk result Q → OnOk result R → OnOk result S
on_three (Ok value) f p q r = f p q r
on_three (Err error) f p q r = tt
