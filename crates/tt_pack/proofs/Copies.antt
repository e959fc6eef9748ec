-- Copies of stored trees.
use Rattle.std.proofs.Common.{◌≡◌, ℕ, List, ◌∙◌, sym, subst}
use Rattle.std.proofs.lemmas.List.{map-id}
use Rattle.std.proofs.lemmas.Slice.Zip.{AllZip-map}
use Rattle.std.specs.List.{AllZip}
use Rattle.tt_base.specs.declared.span.SpanPart.{SpanPart}
use Rattle.tt_base.specs.Forest.{Root}
use Rattle.tt_tables.specs.Meaning.{IsStored}
use Rattle.tt_pack.specs.Packed.{stored_of}

-- If each clone is the value itself, a list of clones is the list.
pub clones_same : {X : Type 0} (xs ys : List X) → AllZip (λ x y. y ≡ x) xs ys → ys ≡ xs
clones_same xs ys h = AllZip-map (λ x. x) xs ys h ∙ map-id xs

-- Copies of the bytes and tables of a tree are stored for it.
pub stored_again : (root : Root) (bytes bytes' : List ℕ) (parts parts' : List SpanPart) (symbols symbols' : List (List ℕ)) (len : ℕ)
    → IsStored (stored_of bytes parts symbols len) root → bytes' ≡ bytes → parts' ≡ parts → AllZip (λ x y. y ≡ x) symbols symbols'
    → IsStored (stored_of bytes' parts' symbols' len) root
stored_again root bytes bytes' parts parts' symbols symbols' len is e f clones =
    let stored : stored_of bytes' parts' symbols' len ≡ stored_of bytes parts symbols len =
    λ i. stored_of (e i) (f i) (clones_same symbols symbols' clones i) len in
    subst (λ it. IsStored it root) (sym stored) is
