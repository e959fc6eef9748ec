-- The last token of trees becomes alone.
use Rattle.std.proofs.Common.{◌≡◌, ℕ, suc, ◌+◌, ◌-◌, List, [], ◌∷◌, ◌++◌, Some, length, map, set, slice_get, false, refl, ap, ap₂, sym, ◌∙◌, arith, append-nil, length-append}
use Rattle.std.proofs.lemmas.List.{length-map, set-append_right}
use Rattle.tt_base.specs.declared.delimiter.Delimiter.{Delimiter}
use Rattle.tt_base.specs.declared.token_tree.TokenTree.{TokenTree}
use Rattle.tt_base.specs.declared.token_tree.TokenTree.TheVariants as token
use Rattle.tt_base.specs.Building.{alone}
use Rattle.tt_base.specs.Forest.{Forest, end, leaf, node, size, header, flat}
use Rattle.tt_base.specs.Siblings.{is_end}
use Rattle.tt_tables.specs.Held.{HeldToken, whole, token_alone}

-- the list with its last token alone
last_alone : List TokenTree → List TokenTree
last_alone [] = []
last_alone (t ∷ []) = token_alone t ∷ []
last_alone (t ∷ u ∷ tokens) = t ∷ last_alone (u ∷ tokens)

-- the last token
last_of : TokenTree → List TokenTree → TokenTree
last_of t [] = t
last_of t (u ∷ tokens) = last_of u tokens

-- It is at the last place.
last_in : (t : TokenTree) (tokens : List TokenTree) → slice_get (map whole (t ∷ tokens)) (length tokens) ≡ Some (whole (last_of t tokens))
unfolding last_of
last_in t [] = refl
last_in t (u ∷ tokens) = last_in u tokens

-- If it becomes alone, the list is the one with its last token alone.
last_changed : (t : TokenTree) (tokens : List TokenTree) → set (map whole (t ∷ tokens)) (length tokens) (whole (token_alone (last_of t tokens))) ≡ map whole (last_alone (t ∷ tokens))
unfolding last_of last_alone
last_changed t [] = refl
last_changed t (u ∷ tokens) = ap (λ l. whole t ∷ l) (last_changed u tokens)

-- The token at a place after others.
get_behind : (held more : List HeldToken) (i : ℕ) → slice_get (held ++ more) (length held + i) ≡ slice_get more i
get_behind [] more i =
    let same : length {A = HeldToken} [] + i ≡ i = omega arith in
    ap (slice_get more) same
get_behind (h ∷ held) more i =
    let next : length (h ∷ held) + i ≡ suc (length held + i) = omega arith in
    ap (slice_get (h ∷ held ++ more)) next ∙ get_behind held more i

-- The list with another token at such a place.
set_behind : (held more : List HeldToken) (i : ℕ) (it : HeldToken) → set (held ++ more) (length held + i) it ≡ held ++ set more i it
set_behind held more i it =
    let place : length held + i - length held ≡ i = omega arith in
    set-append_right held more (length held) (length held + i) it refl (omega arith) ∙ ap (λ n. held ++ set more n it) place

-- The tokens before stay.
last_behind : (before : List TokenTree) (t : TokenTree) (tokens : List TokenTree) → last_alone (before ++ t ∷ tokens) ≡ before ++ last_alone (t ∷ tokens)
unfolding last_alone
last_behind [] t tokens = refl
last_behind (b ∷ []) t tokens = refl
last_behind (b ∷ c ∷ before) t tokens = ap (λ l. b ∷ l) (last_behind (c ∷ before) t tokens)

-- The trees have as many tokens as before.
pub size-alone : (trees : Forest) → size (alone trees) ≡ size trees
size-alone end = refl
size-alone (leaf it end) = refl
size-alone (leaf it (leaf next rest)) = ap suc (size-alone (leaf next rest))
size-alone (leaf it (node d children rest)) = ap suc (size-alone (node d children rest))
size-alone (node d children end) = ap (λ n. suc (n + 0)) (size-alone children)
size-alone (node d children (leaf next rest)) = ap (λ n. suc (size children + n)) (size-alone (leaf next rest))
size-alone (node d children (node e inner rest)) = ap (λ n. suc (size children + n)) (size-alone (node e inner rest))

-- A header stays, and the tokens after it end alone.
header_first : (d : Delimiter) (n : ℕ) (children : Forest) (more : List TokenTree) → more ≡ last_alone (flat children) → header d n ∷ (more ++ []) ≡ last_alone (header d n ∷ (flat children ++ []))
unfolding last_alone
header_first d n end more is = ap (λ l. header d n ∷ (l ++ [])) is
header_first d n (leaf it rest) more is =
    ap (λ l. header d n ∷ l) (append-nil more ∙ is) ∙ ap (λ l. last_alone (header d n ∷ l)) (sym (append-nil (flat (leaf it rest))))
header_first d n (node e inner rest) more is =
    ap (λ l. header d n ∷ l) (append-nil more ∙ is) ∙ ap (λ l. last_alone (header d n ∷ l)) (sym (append-nil (flat (node e inner rest))))

-- The flat list of the trees, with its last token alone.
flat-alone : (trees : Forest) → flat (alone trees) ≡ last_alone (flat trees)
unfolding last_alone
flat-alone end = refl
flat-alone (leaf it end) = refl
flat-alone (leaf it (leaf next rest)) = ap (λ l. token.Leaf it ∷ l) (flat-alone (leaf next rest))
flat-alone (leaf it (node d children rest)) = ap (λ l. token.Leaf it ∷ l) (flat-alone (node d children rest))
flat-alone (node d children end) =
    ap (λ n. header d n ∷ (flat (alone children) ++ [])) (size-alone children) ∙ header_first d (size children) children (flat (alone children)) (flat-alone children)
flat-alone (node d children (leaf next rest)) =
    ap (λ l. header d (size children) ∷ (flat children ++ l)) (flat-alone (leaf next rest))
    ∙ sym (last_behind (header d (size children) ∷ flat children) (token.Leaf next) (flat rest))
flat-alone (node d children (node e inner rest)) =
    ap (λ l. header d (size children) ∷ (flat children ++ l)) (flat-alone (node e inner rest))
    ∙ sym (last_behind (header d (size children) ∷ flat children) (header e (size inner)) (flat inner ++ flat rest))

-- The tokens held, after the last of the appended tokens becomes alone.
list_alone : (held all now : List HeldToken) (t : TokenTree) (tokens : List TokenTree) → all ≡ held ++ map whole (t ∷ tokens)
    → ((it : TokenTree) → slice_get all (length all - 1) ≡ Some (whole it) → now ≡ set all (length all - 1) (whole (token_alone it))) → now ≡ held ++ map whole (last_alone (t ∷ tokens))
list_alone held all now t tokens added changed =
    let last : length all - 1 ≡ length held + length tokens = omega (arith, ap length added, length-append held (map whole (t ∷ tokens)), length-map tokens whole) in
    let it = last_of t tokens in
    changed it (ap₂ slice_get added last ∙ get_behind held (map whole (t ∷ tokens)) (length tokens) ∙ last_in t tokens)
    ∙ ap₂ (λ l i. set l i (whole (token_alone it))) added last
    ∙ set_behind held (map whole (t ∷ tokens)) (length tokens) (whole (token_alone it))
    ∙ ap (λ l. held ++ l) (last_changed t tokens)

-- The same for appended trees.
pub added_alone : (held all now : List HeldToken) (trees : Forest) → is_end trees ≡ false → all ≡ held ++ map whole (flat trees)
    → ((it : TokenTree) → slice_get all (length all - 1) ≡ Some (whole it) → now ≡ set all (length all - 1) (whole (token_alone it))) → now ≡ held ++ map whole (flat (alone trees))
added_alone held all now end some added changed = absurd (cc some)
added_alone held all now (leaf it rest) some added changed =
    list_alone held all now (token.Leaf it) (flat rest) added changed ∙ ap (λ l. held ++ map whole l) (sym (flat-alone (leaf it rest)))
added_alone held all now (node e inner rest) some added changed =
    list_alone held all now (header e (size inner)) (flat inner ++ flat rest) added changed ∙ ap (λ l. held ++ map whole l) (sym (flat-alone (node e inner rest)))
