-- Two results of one search are equal.
use Rattle.std.proofs.Common.{◌≡◌, Some, ap}

-- Two pairs that are the same result are equal in both parts.
pub same_parts : {X Y : Type 0} (p q : X × Y) → Some p ≡ Some q → (p.0 ≡ q.0) × (p.1 ≡ q.1)
same_parts p q e =
    let pair : p ≡ q = cc in
    (ap (λ x. x.0) pair, ap (λ x. x.1) pair)
