-- The bytes of a tree determine the tree.
use Rattle.std.proofs.Common.{◌≡◌, ℕ, List, [], ◌∷◌, ◌++◌, length, append_assoc, refl, ap, ap₂, sym, ◌∙◌, Some, arith}
use Rattle.std.specs.List.{AllByRecursion}
use Rattle.tt_base.specs.declared.span.SpanPart.{SpanPart}
use Rattle.tt_base.specs.Forest.{Root}
use Rattle.tt_bytes.specs.Format.{number_bytes, part_bytes, parts_bytes, symbol_bytes, symbols_bytes, PartFits, TextFits, AreBytesOf}
use Rattle.tt_bytes.specs.Front.{part_at, counts_at}
use Rattle.tt_bytes.proofs.Again.{part_again, number_again}
use Rattle.tt_bytes.proofs.Apart.{apart, marked, counts_of, behind_counts, counts_found}
use Rattle.tt_codec.proofs.Found.{same_parts}
use Rattle.tt_codec.specs.Read.{word_at}
use Rattle.tt_tables.specs.Stored.{packed}
use Rattle.tt_tables.proofs.StoredAlike.{roots_alike}
use Rattle.tt_tables.proofs.TreesAlike.{seam}

-- Parts are equal if there are as many and the same bytes begin with their bytes.
pub parts_alike : (a b : List SpanPart) (x y : List ℕ) → length a ≡ length b → AllByRecursion PartFits a → AllByRecursion PartFits b
    → parts_bytes a ++ x ≡ parts_bytes b ++ y → (a ≡ b) × (x ≡ y)
parts_alike [] [] x y same fits_a fits_b e = (refl, e)
parts_alike [] (q ∷ b) x y same fits_a fits_b e = absurd (omega (arith, same))
parts_alike (p ∷ a) [] x y same fits_a fits_b e = absurd (omega (arith, same))
parts_alike (p ∷ a) (q ∷ b) x y same fits_a fits_b e =
    let first : Some (p, parts_bytes a ++ x) ≡ Some (q, parts_bytes b ++ y) =
    sym (part_again p (parts_bytes a ++ x) fits_a.0) ∙ ap part_at (sym (append_assoc (part_bytes p) (parts_bytes a) x) ∙ e ∙ append_assoc (part_bytes q) (parts_bytes b) y) ∙ part_again q (parts_bytes b ++ y) fits_b.0 in
    let both = same_parts (p, parts_bytes a ++ x) (q, parts_bytes b ++ y) first in
    let others = parts_alike a b x y (omega (arith, same)) fits_a.1 fits_b.1 both.1 in
    (ap₂ (λ h t. h ∷ t) both.0 others.0, others.1)

-- Symbols are equal if there are as many and the same bytes begin with their bytes.
pub symbols_alike : (a b : List (List ℕ)) (x y : List ℕ) → length a ≡ length b → AllByRecursion TextFits a → AllByRecursion TextFits b
    → symbols_bytes a ++ x ≡ symbols_bytes b ++ y → (a ≡ b) × (x ≡ y)
symbols_alike [] [] x y same fits_a fits_b e = (refl, e)
symbols_alike [] (q ∷ b) x y same fits_a fits_b e = absurd (omega (arith, same))
symbols_alike (p ∷ a) [] x y same fits_a fits_b e = absurd (omega (arith, same))
symbols_alike (p ∷ a) (q ∷ b) x y same fits_a fits_b e =
    let there : number_bytes (length p) ++ (p ++ (symbols_bytes a ++ x)) ≡ number_bytes (length q) ++ (q ++ (symbols_bytes b ++ y)) =
    sym (front p a x) ∙ e ∙ front q b y in
    let first : Some (length p, p ++ (symbols_bytes a ++ x)) ≡ Some (length q, q ++ (symbols_bytes b ++ y)) =
    sym (number_again (length p) _ fits_a.0.short) ∙ ap word_at there ∙ number_again (length q) _ fits_b.0.short in
    let both = same_parts (length p, p ++ (symbols_bytes a ++ x)) (length q, q ++ (symbols_bytes b ++ y)) first in
    let texts = seam p (symbols_bytes a ++ x) q (symbols_bytes b ++ y) both.0 both.1 in
    let others = symbols_alike a b x y (omega (arith, same)) fits_a.1 fits_b.1 texts.1 in
    (ap₂ (λ h t. h ∷ t) texts.0 others.0, others.1)
  where
    front : (text : List ℕ) (texts : List (List ℕ)) (tail : List ℕ)
        → symbols_bytes (text ∷ texts) ++ tail ≡ number_bytes (length text) ++ (text ++ (symbols_bytes texts ++ tail))
    front text texts tail = append_assoc (symbol_bytes text) (symbols_bytes texts) tail ∙ append_assoc (number_bytes (length text)) text (symbols_bytes texts ++ tail)

tails : (a b c d : ℕ) (x y : List ℕ) → a ∷ b ∷ c ∷ d ∷ x ≡ a ∷ b ∷ c ∷ d ∷ y → x ≡ y
tails a b c d x y same = cc same

-- Two trees with the same bytes are equal.
pub trees_alike : (a b : Root) (all : List ℕ) → AreBytesOf a all → AreBytesOf b all → a ≡ b
unfolding packed
trees_alike a b all is_a is_b =
    roots_alike a b is_a.has.range is_a.has.limits is_b.has.range is_b.has.limits symbols.1 parts.0 symbols.0
  where
    behind_a : List ℕ
    behind_a = marked (packed a).parts (packed a).symbols (packed a).bytes

    behind_b : List ℕ
    behind_b = marked (packed b).parts (packed b).symbols (packed b).bytes

    marks : behind_a ≡ behind_b
    marks = tails 116 116 1 0 behind_a behind_b (sym (apart (packed a).parts (packed a).symbols (packed a).bytes) ∙ sym is_a.is ∙ is_b.is ∙ apart (packed b).parts (packed b).symbols (packed b).bytes)

    counts : (counts_of (packed a).parts (packed a).symbols (packed a).bytes ≡ counts_of (packed b).parts (packed b).symbols (packed b).bytes)
        × (behind_counts (packed a).parts (packed a).symbols (packed a).bytes ≡ behind_counts (packed b).parts (packed b).symbols (packed b).bytes)
    counts = same_parts (counts_of (packed a).parts (packed a).symbols (packed a).bytes, behind_counts (packed a).parts (packed a).symbols (packed a).bytes)
        (counts_of (packed b).parts (packed b).symbols (packed b).bytes, behind_counts (packed b).parts (packed b).symbols (packed b).bytes)
        (sym (counts_found (packed a).parts (packed a).symbols (packed a).bytes behind_a is_a.has.fits refl) ∙ ap counts_at marks ∙ counts_found (packed b).parts (packed b).symbols (packed b).bytes behind_b is_b.has.fits refl)

    parts : ((packed a).parts ≡ (packed b).parts)
        × (symbols_bytes (packed a).symbols ++ (packed a).bytes ≡ symbols_bytes (packed b).symbols ++ (packed b).bytes)
    parts = parts_alike (packed a).parts (packed b).parts _ _ (ap (λ x. x.parts) counts.0) is_a.has.fits.each_part is_b.has.fits.each_part counts.1

    symbols : ((packed a).symbols ≡ (packed b).symbols) × ((packed a).bytes ≡ (packed b).bytes)
    symbols = symbols_alike (packed a).symbols (packed b).symbols _ _ (ap (λ x. x.symbols) counts.0) is_a.has.fits.each_text is_b.has.fits.each_text parts.1
