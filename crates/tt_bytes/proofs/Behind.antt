-- The bytes after values that follow one another.
use Rattle.std.proofs.Common.{◌≡◌, ◌≢◌, List, [], ◌∷◌, ◌++◌, ℕ, Option, None, Some, append_assoc, length, get_or, drop, ◌+◌, ◌<◌, refl, ap, sym, ◌∙◌, subst, ◌↔◌}
use Rattle.std.proofs.lemmas.List.{append_cancel_left, drop_more}
use Rattle.std.specs.Borrow.{Bor}
use Rattle.std.specs.List.{AllByRecursion}
use Rattle.std.specs.Prelude.{MatchOption}
use Rattle.tt_base.specs.declared.span.SpanPart.{SpanPart}
use Rattle.tt_base.specs.Forest.{Root}
use Rattle.tt_bytes.specs.Behind.{IsBehind, front_bytes, StoredFits}
use Rattle.tt_bytes.specs.Format.{part_bytes, parts_bytes, symbol_bytes, symbols_bytes, piece, PartFits, TextFits, AreBytesOf}
use Rattle.tt_tables.specs.Stored.{Stored, packed, IsInRange, IsWithinLimits}

-- the bytes do not begin with a value that fits
abbrev pub Misses : (Fits : Type 0) → (value from : List ℕ) → Type 0
Misses Fits value from = Fits → (rest : List ℕ) → from ≢ value ++ rest

-- A value that fits is there, or it is not.
pub fits_behind : (Fits : Type 0) (value from : List ℕ) (result : Option (Bor (List ℕ))) → Fits
    → MatchOption result ((rest : List ℕ) → from ≢ value ++ rest) (λ rest. from ≡ value ++ rest.now) → IsBehind Fits value from result
fits_behind Fits value from None fits found = λ fits. found
fits_behind Fits value from (Some rest) fits found = (fits, found)

-- The bytes after the second value are those after both.
pub on : (first second from between behind : List ℕ) → from ≡ first ++ between → between ≡ second ++ behind → from ≡ (first ++ second) ++ behind
on first second from between behind is then = is ∙ ap (λ l. first ++ l) then ∙ sym (append_assoc first second behind)

-- The result for the second value is that for both.
pub both_behind : (Second Fits : Type 0) (first second from between : List ℕ) (result : Option (Bor (List ℕ))) → (Fits → Second) → (Second → Fits)
    → from ≡ first ++ between → IsBehind Second second between result → IsBehind Fits (first ++ second) from result
both_behind Second Fits first second from between None apart join is missing =
    λ fits rest e. missing (apart fits) rest (append_cancel_left first between (second ++ rest) (sym is ∙ e ∙ append_assoc first second rest))
both_behind Second Fits first second from between (Some rest) apart join is found = (join found.0, on first second from between rest.now is found.1)

-- If the first value is missing, both are.
pub both_missing : (First Fits : Type 0) (first second from : List ℕ) → (Fits → First) → Misses First first from → Misses Fits (first ++ second) from
both_missing First Fits first second from apart missing fits rest is = missing (apart fits) (second ++ rest) (is ∙ append_assoc first second rest)

-- If the first of three values is missing, all are.
pub first_missing : (First Fits : Type 0) (first second third from : List ℕ) → (Fits → First) → Misses First first from
    → Misses Fits ((first ++ second) ++ third) from
first_missing First Fits first second third from apart missing =
    both_missing Fits Fits (first ++ second) third from (λ fits. fits) (both_missing First Fits first second from apart missing)

-- If the second of three values is missing, all are.
pub second_missing : (Second Fits : Type 0) (first second third from between : List ℕ) → (Fits → Second) → from ≡ first ++ between → Misses Second second between
    → Misses Fits ((first ++ second) ++ third) from
second_missing Second Fits first second third from between apart is missing =
    both_missing Fits Fits (first ++ second) third from (λ fits. fits)
    (λ fits rest e. missing (apart fits) rest (append_cancel_left first between (second ++ rest) (sym is ∙ e ∙ append_assoc first second rest)))

-- The result for the last of three values is that for all.
pub three_behind : (Third Fits : Type 0) (first second third from behind_first behind_second : List ℕ) (result : Option (Bor (List ℕ))) → (Fits → Third) → (Third → Fits)
    → from ≡ first ++ behind_first → behind_first ≡ second ++ behind_second → IsBehind Third third behind_second result
    → IsBehind Fits ((first ++ second) ++ third) from result
three_behind Third Fits first second third from behind_first behind_second result apart join is then last =
    both_behind Third Fits (first ++ second) third from behind_second result apart join (on first second from behind_first behind_second is then) last

-- The result for the later parts is that for the next part and those.
pub parts_step : (parts : List SpanPart) (i : ℕ) (default : SpanPart) (from between : List ℕ) (result : Option (Bor (List ℕ))) → i < length parts
    → PartFits (get_or parts i default) × (from ≡ part_bytes (get_or parts i default) ++ between)
    → IsBehind (AllByRecursion PartFits (drop (i + 1) parts)) (parts_bytes (drop (i + 1) parts)) between result
    → IsBehind (AllByRecursion PartFits (drop i parts)) (parts_bytes (drop i parts)) from result
parts_step parts i default from between result inside found behind =
    subst (λ l. IsBehind (AllByRecursion PartFits l) (parts_bytes l) from result) (sym (drop_more parts i default inside))
    (both_behind (AllByRecursion PartFits (drop (i + 1) parts)) _ (part_bytes (get_or parts i default)) (parts_bytes (drop (i + 1) parts)) from between result
    (λ fits. fits.1) (λ fits. (found.0, fits)) found.1 behind)

-- After no parts, all bytes follow.
pub parts_end : (ahead : List SpanPart) (rest : Bor (List ℕ)) → ahead ≡ [] → IsBehind (AllByRecursion PartFits ahead) (parts_bytes ahead) rest.now (Some rest)
parts_end ahead rest is = subst (λ l. IsBehind (AllByRecursion PartFits l) (parts_bytes l) rest.now (Some rest)) (sym is) (tt, refl)

next_symbol : (symbols : List (List ℕ)) (i : ℕ) (text : List ℕ) → i < length symbols → text ≡ get_or symbols i text → drop i symbols ≡ text ∷ drop (i + 1) symbols
next_symbol symbols i text inside is = drop_more symbols i text inside ∙ ap (λ t. t ∷ drop (i + 1) symbols) (sym is)

-- If the next symbol is missing, the list of those that are left is.
pub symbol_missing : (symbols : List (List ℕ)) (i : ℕ) (text from : List ℕ) → i < length symbols → text ≡ get_or symbols i text
    → Misses (TextFits text) (symbol_bytes text) from → IsBehind (AllByRecursion TextFits (drop i symbols)) (symbols_bytes (drop i symbols)) from None
symbol_missing symbols i text from inside is missing =
    subst (λ l. IsBehind (AllByRecursion TextFits l) (symbols_bytes l) from None) (sym (next_symbol symbols i text inside is))
    (both_missing (TextFits text) _ (symbol_bytes text) (symbols_bytes (drop (i + 1) symbols)) from (λ fits. fits.0) missing)

-- The result for the later symbols is that for the next symbol and those.
pub symbols_step : (symbols : List (List ℕ)) (i : ℕ) (text from between : List ℕ) (result : Option (Bor (List ℕ))) → i < length symbols → text ≡ get_or symbols i text
    → TextFits text × (from ≡ symbol_bytes text ++ between)
    → IsBehind (AllByRecursion TextFits (drop (i + 1) symbols)) (symbols_bytes (drop (i + 1) symbols)) between result
    → IsBehind (AllByRecursion TextFits (drop i symbols)) (symbols_bytes (drop i symbols)) from result
symbols_step symbols i text from between result inside is found behind =
    subst (λ l. IsBehind (AllByRecursion TextFits l) (symbols_bytes l) from result) (sym (next_symbol symbols i text inside is))
    (both_behind (AllByRecursion TextFits (drop (i + 1) symbols)) _ (symbol_bytes text) (symbols_bytes (drop (i + 1) symbols)) from between result
    (λ fits. fits.1) (λ fits. (found.0, fits)) found.1 behind)

-- After no symbols, all bytes follow.
pub symbols_end : (ahead : List (List ℕ)) (rest : Bor (List ℕ)) → ahead ≡ [] → IsBehind (AllByRecursion TextFits ahead) (symbols_bytes ahead) rest.now (Some rest)
symbols_end ahead rest is = subst (λ l. IsBehind (AllByRecursion TextFits l) (symbols_bytes l) rest.now (Some rest)) (sym is) (tt, refl)

-- A piece is its front and the packed bytes.
front_and_packed : (it : Stored) → piece it.parts it.symbols it.bytes ≡ front_bytes it ++ it.bytes
unfolding piece
front_and_packed it = simp (append_assoc) refl

-- The packed bytes of a tree follow the front of its piece exactly if the whole is that piece.
pub packed_behind : (root : Root) (all : List ℕ) (rest : Bor (List ℕ)) → IsInRange root → IsWithinLimits root
    → IsBehind (StoredFits (packed root)) (front_bytes (packed root)) all (Some rest) → (rest.now ≡ (packed root).bytes) ↔ AreBytesOf root all
packed_behind root all rest range limits front = (
  λ same. record { has = record { range = range; limits = limits; fits = front.0 }; is = front.1 ∙ ap (λ l. front_bytes (packed root) ++ l) same ∙ sym (front_and_packed (packed root)) },
  λ are. append_cancel_left (front_bytes (packed root)) rest.now (packed root).bytes (sym front.1 ∙ are.is ∙ front_and_packed (packed root)),
)

-- If the front of a tree's piece is missing, the whole is not that piece.
pub front_missing : (root : Root) (all : List ℕ) → IsBehind (StoredFits (packed root)) (front_bytes (packed root)) all None → AreBytesOf root all → ⊥
front_missing root all missing are = missing are.has.fits (packed root).bytes (are.is ∙ front_and_packed (packed root))
