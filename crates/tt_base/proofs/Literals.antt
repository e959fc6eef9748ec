-- A place at which a literal may be cut.
use Rattle.std.proofs.Common.{◌≡◌, ℕ, ◌-◌, List, ◌++◌, length, length-append, ap, subst, arith}
use Rattle.std.specs.Str.{IsUtf8, IsCharBoundary}
use Rattle.std.proofs.lemmas.Str.{IsCharBoundary-at_seam}
use Rattle.tt_base.specs.Literal.{CutsText}

-- A text that ends in another can be cut before it.
pub cuts_at_seam : (whole text suffix : List ℕ) → whole ≡ text ++ suffix → IsUtf8 suffix → CutsText whole (length suffix)
cuts_at_seam whole text suffix joined utf8 =
    let lengths : length whole ≡ length (text ++ suffix) = ap length joined in
    let before : length text ≡ length whole - length suffix = omega (arith, lengths, length-append text suffix) in
    (omega (arith, lengths, length-append text suffix), subst (IsCharBoundary whole) before (IsCharBoundary-at_seam whole text suffix joined utf8))
