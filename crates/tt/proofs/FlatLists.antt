-- The list of a flat list's two parts.
use Rattle.std.proofs.Common.{◌≡◌, ℕ, ◌-◌, ◌<◌, ◌≤◌, List, [], ◌∷◌, ◌++◌, ◌+◌, take, drop, length, set, get_or, ap, ap₂, sym, ◌∙◌, add-one, arith, length-set}
use Rattle.std.proofs.lemmas.List.{get_or-append_right, set-append_right}
use Rattle.std.proofs.Math.Seq.{take-suc}
use Rattle.tt_base.specs.Forest.{header}
use Rattle.tt_base.specs.declared.delimiter.Delimiter.{Delimiter}
use Rattle.tt_base.specs.declared.token_tree.TokenTree.{TokenTree}
use Rattle.tt.specs.FlatFields.{counted, counted_token}

-- a change of one token keeps the length
pub same_length : (tokens now : List TokenTree) (i : ℕ) (f : TokenTree → TokenTree) → 0 < length tokens → ((d : TokenTree) → now ≡ set tokens i (f (get_or tokens i d))) → length now ≡ length tokens
same_length [] now i f some changed = absurd (omega (arith, some))
same_length (t ∷ tokens) now i f some changed = ap length (changed t) ∙ length-set (t ∷ tokens) i (f (get_or (t ∷ tokens) i t))

-- the first header gets its count
pub counted_all : (tokens now : List TokenTree) (n : ℕ) → 0 < length tokens → ((d : TokenTree) → now ≡ set tokens 0 (counted_token n (get_or tokens 0 d))) → now ≡ counted n tokens
counted_all [] now n some changed = absurd (omega (arith, some))
counted_all (t ∷ tokens) now n some changed = changed t

-- a change of one token of the second part
pub changed_after : (whole small now list : List TokenTree) (place kept : ℕ) (f : TokenTree → TokenTree) (d : TokenTree)
    → whole ++ small ≡ list → kept ≡ length whole → kept ≤ place → now ≡ set small (place - kept) (f (get_or small (place - kept) d))
    → whole ++ now ≡ set list place (f (get_or list place d))
changed_after whole small now list place kept f d seen count after changed =
    let found : get_or (whole ++ small) place d ≡ get_or small (place - kept) d = get_or-append_right whole small kept place d (sym count) after in
    ap (λ l. whole ++ l) changed
    ∙ sym (set-append_right whole small kept place (f (get_or small (place - kept) d)) (sym count) after)
    ∙ ap (λ x. set (whole ++ small) place (f x)) (sym found)
    ∙ ap (λ l. set l place (f (get_or l place d))) seen

-- only the top's header is in the first part
pub top_alone : (whole small list : List TokenTree) (top : Delimiter) → whole ++ small ≡ list → length whole ≡ 1 → list ≡ header top 0 ∷ drop 1 list → whole ≡ header top 0 ∷ drop 1 whole
top_alone [] small list top seen one first = absurd (omega (arith, one))
top_alone (t ∷ []) small list top seen one first = let same : t ≡ header top 0 = cc in ap (λ x. x ∷ []) same
top_alone (t ∷ u ∷ more) small list top seen one first = absurd (omega (arith, one))

-- the list with the right count in its first header, if only that header is in the first part
pub counted_parts : (whole small list : List TokenTree) (top : Delimiter) → whole ++ small ≡ list → length whole ≡ 1 → whole ≡ header top 0 ∷ drop 1 whole
    → header top (length small) ∷ small ≡ counted (length list - 1) list
counted_parts [] small list top seen one first = absurd (omega (arith, one))
counted_parts (t ∷ []) small list top seen one first =
    let same : t ≡ header top 0 = cc in
    let below : length small ≡ length ((t ∷ []) ++ small) - 1 = omega arith in
    ap (λ x. counted_token (length small) x ∷ small) (sym same) ∙ ap (λ n. counted_token n t ∷ small) below ∙ ap (λ l. counted (length l - 1) l) seen
counted_parts (t ∷ u ∷ more) small list top seen one first = absurd (omega (arith, one))

-- one more token is copied
pub one_more : (tokens small now : List TokenTree) (i : ℕ) (x y : TokenTree) → i < length tokens → small ≡ take i tokens → y ≡ get_or tokens i y → x ≡ y → now ≡ small ++ x ∷ []
    → now ≡ take (i + 1) tokens
one_more tokens small now i x y within before found copy grown =
    rw add-one (grown ∙ ap₂ (λ l z. l ++ z ∷ []) before (copy ∙ found) ∙ sym (take-suc tokens i y within))
