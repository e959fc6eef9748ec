-- Numbers of uses that grow with the tokens that are seen.
use Rattle.std.proofs.Common.{◌≡◌, ℕ, ◌+◌, ◌*◌, ◌<◌, ◌^◌, Bool, List, [], ◌∷◌, ◌++◌, length, take, get_or, bytes_eq, ap, sym, ◌∙◌, arith, append-nil}
use Rattle.std.proofs.lemmas.List.{take_more, length-take-le}
use Rattle.std.proofs.lemmas.List.Concat.{flat_map-append}
use Rattle.std.specs.List.{flat_map}
use Rattle.tt_base.specs.declared.span.SpanPart.{SpanPart}
use Rattle.tt_base.specs.declared.token_tree.TokenTree.{TokenTree}
use Rattle.tt_tables.specs.Counts.{number_in, CountsMore}
use Rattle.tt_tables.specs.TableOrder.{uses_of}
use Rattle.tt_tables.specs.Uses.{same_part, part_uses, symbol_uses}
use Rattle.tt_tables.proofs.UseCounts.{uses-le}
use Rattle.tt_tables.proofs.Used.{uses-append}
use Rattle.tt_pack.proofs.Counting.{few_parts, few_symbols}

-- The uses of one token more are added.
pub one_more_added : {X A : Type 0} (same : A → A → Bool) (f : X → List A) (tokens : List X) (i : ℕ) (x : X) (old now next : List (A × ℕ)) → i < length tokens → x ≡ get_or tokens i x
    → CountsMore same (flat_map f (take i tokens)) old now → CountsMore same (f x) now next → CountsMore same (flat_map f (take (i + 1) tokens)) old next
one_more_added same f tokens i x old now next within here grown more a =
    let front : flat_map f (take (i + 1) tokens) ≡ flat_map f (take i tokens) ++ f x =
    ap (flat_map f) (take_more tokens i x within ∙ ap (λ d. take i tokens ++ d ∷ []) (sym here)) ∙ flat_map-append f (take i tokens) (x ∷ []) ∙ ap (λ l. flat_map f (take i tokens) ++ l) (append-nil (f x)) in
    omega (arith, grown a, more a, ap (λ l. uses_of same l a) front, uses-append same (flat_map f (take i tokens)) (f x) a)

-- There is room for the uses of parts of one token more.
pub part_room : (tokens : List TokenTree) (i : ℕ) (old now : List (SpanPart × ℕ)) → i < length tokens → ((a : SpanPart) → number_in same_part old a + 2 * length tokens < 2 ^ 64)
    → CountsMore same_part (part_uses (take i tokens)) old now → (a : SpanPart) → number_in same_part now a + 2 < 2 ^ 64
part_room tokens i old now within room grown a =
    omega (arith, room a, grown a, uses-le same_part (part_uses (take i tokens)) a, few_parts (take i tokens), length-take-le i tokens (omega (arith, within)), within)

-- And for that of a symbol.
pub symbol_room : (tokens : List TokenTree) (i : ℕ) (old now : List (List ℕ × ℕ)) → i < length tokens → ((a : List ℕ) → number_in bytes_eq old a + length tokens < 2 ^ 64)
    → CountsMore bytes_eq (symbol_uses (take i tokens)) old now → (a : List ℕ) → number_in bytes_eq now a + 1 < 2 ^ 64
symbol_room tokens i old now within room grown a =
    omega (arith, room a, grown a, uses-le bytes_eq (symbol_uses (take i tokens)) a, few_symbols (take i tokens), length-take-le i tokens (omega (arith, within)), within)
