use Rattle.std.proofs.Common.{◌≡◌, ℕ, List, [], ◌∷◌, drop, refl, ap, arith}
use Rattle.std.proofs.lemmas.List.{drop_all}
use Rattle.tt_bytes.specs.Faults.{common_length}
use Rattle.tt_bytes.proofs.compare.common_length.Goals as goal

-- A list has nothing in common with the empty one.
with_none : (one : List ℕ) → common_length one [] ≡ 0
with_none [] = refl
with_none (a ∷ one) = refl

pub returns-else-at-other : goal.returns-else-at-other
returns-else-at-other c =
    let none : drop c.loop-at.at c.args.other.now ≡ [] = drop_all c.loop-at.at c.args.other.now c.if-at-other.false in
    omega (arith, c.loop-at.invariant, ap (λ l. common_length (drop c.loop-at.at c.args.one.now) l) none, with_none (drop c.loop-at.at c.args.one.now))
