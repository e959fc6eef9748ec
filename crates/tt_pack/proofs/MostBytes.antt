-- The largest number of bytes of a list with one more token.
use Rattle.std.proofs.Common.{◌≡◌, ◌↔◌, ℕ, ◌+◌, ◌*◌, ◌<◌, ◌≤◌, Bool, true, false, cond, nat_lt, List, [], ◌∷◌, ◌++◌, length, get_or, take, drop, inl, inr, ap, sym, refl, ◌∙◌, arith}
use Rattle.std.proofs.lemmas.List.{take_more}
use Rattle.std.proofs.lemmas.List.Sums.{sum_by-append, sum_by-cons}
use Rattle.tt_base.specs.declared.fault.TtFault.{TtFault}
use Rattle.tt_base.specs.declared.leaf.Leaf.TheVariants as leaf
use Rattle.tt_base.specs.declared.token_tree.TokenTree.{TokenTree}
use Rattle.tt_base.specs.declared.token_tree.TokenTree.TheVariants as token
use Rattle.tt_base.specs.Forest.{IsWhole, AreLevels}
use Rattle.tt_base.proofs.CutLists.{walk_stops}
use Rattle.tt_codec.specs.Entry.{most_entry_bytes}
use Rattle.tt_tables.specs.Tables.{Tables, entry_of}
use Rattle.tt_pack.specs.Packed.{IsCountFault}
use Rattle.tt_pack.specs.Room.{most_token_bytes, most_list_bytes, HasRoomForAll, TakesRoom, IsTakeFault}

-- It grows by the largest number of bytes of that token.
pub most_more : (tokens : List TokenTree) (i : ℕ) (it : TokenTree) → i < length tokens → it ≡ get_or tokens i it
    → most_list_bytes (take (i + 1) tokens) ≡ most_list_bytes (take i tokens) + most_token_bytes it
most_more tokens i it within here =
    let more : take (i + 1) tokens ≡ take i tokens ++ it ∷ [] = take_more tokens i it within ∙ ap (λ d. take i tokens ++ d ∷ []) (sym here) in
    let two : most_list_bytes (take i tokens ++ it ∷ []) ≡ most_list_bytes (take i tokens) + most_list_bytes (it ∷ []) = sum_by-append most_token_bytes (take i tokens) (it ∷ []) in
    let one : most_list_bytes (it ∷ []) ≡ most_token_bytes it = omega arith in
    ap most_list_bytes more ∙ two ∙ ap (λ n. most_list_bytes (take i tokens) + n) one

-- The sum up to the largest `usize` is room for one more token.
pub room_more : (tokens : List TokenTree) (i : ℕ) (it : TokenTree) (size size' : ℕ) → i < length tokens → it ≡ get_or tokens i it
    → HasRoomForAll (take i tokens) size → TakesRoom it size size' → HasRoomForAll (take (i + 1) tokens) size'
room_more tokens i it size size' within here room sum small =
    let more = most_more tokens i it within here in
    let whole : size' ≡ size + most_token_bytes it = omega (arith, sum, small) in
    let before : most_list_bytes (take i tokens) ≤ size = room (omega (arith, whole, small)) in
    omega (arith, more, whole, before)

-- If a token cannot be counted, the uses of the list cannot.
pub stops_fault : (tokens : List TokenTree) (i : ℕ) (it : TokenTree) (levels : List ℕ) (fault : TtFault) → i < length tokens → it ≡ get_or tokens i it
    → (IsWhole tokens ↔ AreLevels (drop i tokens) levels) → IsTakeFault levels it fault → IsCountFault tokens fault
stops_fault tokens i it levels fault within here whole (inl memory) = inl memory
stops_fault tokens i it levels fault within here whole (inr (is, stops)) = inr (is, walk_stops tokens i it levels [] within here whole stops)

-- A token in numbers takes no more, with any numbers.
pub most_in_numbers : (tables : Tables) (it : TokenTree) (child_bytes : ℕ) → most_entry_bytes (entry_of tables it child_bytes) ≡ most_token_bytes it
most_in_numbers tables (token.Leaf (leaf.Literal it)) child_bytes = refl
most_in_numbers tables (token.Leaf (leaf.Punct it)) child_bytes = refl
most_in_numbers tables (token.Leaf (leaf.Ident it)) child_bytes = refl
most_in_numbers tables (token.Subtree it) child_bytes = refl

-- No token takes more than a header in its longest format.
pub most_headers : (tokens : List TokenTree) → most_list_bytes tokens ≤ 33 * length tokens
most_headers [] = omega arith
most_headers (it ∷ tokens) = omega (arith, sum_by-cons most_token_bytes it tokens, one it, most_headers tokens)
  where
    one : (it : TokenTree) → most_token_bytes it ≤ 33
    one (token.Leaf (leaf.Literal it)) = omega arith
    one (token.Leaf (leaf.Punct it)) = by_test (nat_lt it.char 128)
      where
        by_test : (t : Bool) → cond t 13 17 ≤ 33
        by_test true = omega arith
        by_test false = omega arith
    one (token.Leaf (leaf.Ident it)) = omega arith
    one (token.Subtree it) = omega arith
