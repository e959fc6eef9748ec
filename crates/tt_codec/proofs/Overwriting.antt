-- Bytes written over others, one piece after the other.
use Rattle.std.proofs.Common.{◌≡◌, ℕ, suc, ◌+◌, ◌<◌, ◌≤◌, List, [], ◌∷◌, ◌++◌, set, get_or, drop-cons, length, take, drop, length-append, append_assoc, add_assoc, ap, ap₂, sym, ◌∙◌, arith}
use Rattle.std.proofs.Math.Seq.{take-append_seam, drop-append-add, set-append_seam}
use Rattle.std.proofs.lemmas.List.{drop-drop, length-take-le}
use Rattle.tt_codec.specs.Overwriting.{overwritten}

-- All bytes up to an offset are new, and one more piece becomes new.
pub overwritten_next : (first new old : List ℕ) (offset : ℕ) → offset ≡ length first
    → overwritten offset new (first ++ drop offset old) ≡ first ++ new ++ drop (offset + length new) old
overwritten_next first new old offset long =
    ap₂ (λ front back. front ++ new ++ back)
    (ap (λ n. take n (first ++ drop offset old)) long ∙ take-append_seam first (drop offset old))
    (ap (λ n. drop (n + length new) (first ++ drop offset old)) long
    ∙ drop-append-add first (drop offset old) (length new)
    ∙ drop-drop (length new) offset old)

-- Two pieces are one.
pub overwritten_twice : (offset : ℕ) (a b old : List ℕ) → offset ≤ length old
    → overwritten (offset + length a) b (overwritten offset a old) ≡ overwritten offset (a ++ b) old
overwritten_twice offset a b old inside =
    overwritten_next (take offset old ++ a) b old (offset + length a)
    (omega (arith, length-append (take offset old) a, length-take-le offset old inside))
    ∙ ap₂ ◌++◌ (append_assoc (take offset old) a b)
    (ap (λ n. drop n old) (add_assoc offset (length a) (length b) ∙ ap (λ n. offset + n) (sym (length-append a b))))

-- The same for one byte.
pub set_next : (first old : List ℕ) (offset byte : ℕ) → offset ≡ length first → offset < length old
    → set (first ++ drop offset old) offset byte ≡ first ++ byte ∷ [] ++ drop (offset + 1) old
set_next first old offset byte long inside =
    ap₂ (λ l n. set (first ++ l) n byte) (drop-cons old offset byte inside) long
    ∙ set-append_seam first (get_or old offset byte) (drop (suc offset) old) byte
    ∙ ap (λ n. first ++ byte ∷ drop n old) next
    ∙ sym (append_assoc first (byte ∷ []) (drop (offset + 1) old))
  where
    next : suc offset ≡ offset + 1
    next = omega arith
