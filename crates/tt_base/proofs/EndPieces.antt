-- The tokens after a header in a whole list: those below it, and those after its subtree.
use Rattle.std.proofs.Common.{◌≡◌, ℕ, zero, suc, ◌+◌, ◌-◌, ◌≤◌, List, [], ◌∷◌, ◌++◌, length, drop, refl, ap, ap₂, sym, ◌∙◌, arith, length-append}
use Rattle.std.proofs.Math.Seq.{drop-append_seam}
use Rattle.tt_base.specs.declared.delimiter.Subtree.{Subtree}
use Rattle.tt_base.specs.declared.token_tree.TokenTree.{TokenTree}
use Rattle.tt_base.specs.declared.token_tree.TokenTree.TheVariants as token
use Rattle.tt_base.specs.Forest.{Forest, end, leaf, node, size, header, flat, join, IsWhole}
use Rattle.tt_base.specs.Unflat.{flat-join, whole_iff, unflat-flat, length-flat, front, behind, unflat}

-- The first trees and those after them are all of them.
pub join-front-behind : (n : ℕ) (f : Forest) → join (front n f) (behind n f) ≡ f
join-front-behind zero f = refl
join-front-behind (suc n) end = refl
join-front-behind (suc n) (leaf l rest) = ap (leaf l) (join-front-behind n rest)
join-front-behind (suc n) (node d children rest) = ap (node d children) (join-front-behind (n - size children) rest)

-- the count of a header, or n
count_of : ℕ → List TokenTree → ℕ
count_of n [] = n
count_of n (token.Leaf l ∷ tokens) = n
count_of n (token.Subtree s ∷ tokens) = s.len

-- A whole list that begins with a header has as many tokens after it as it counts, or more.
pub header_holds : (s : Subtree) (tokens : List TokenTree) → IsWhole (token.Subtree s ∷ tokens) → size (front s.len (unflat tokens)) ≡ s.len
unfolding count_of
header_holds s tokens w = ap (count_of s.len) ((whole_iff (token.Subtree s ∷ tokens)).0 w)

-- The tokens of a whole list after its first trees are the flat list of the trees after those.
pub unflat-drop : (n : ℕ) (tokens : List TokenTree) → IsWhole tokens → size (front n (unflat tokens)) ≡ n → unflat (drop n tokens) ≡ behind n (unflat tokens)
unflat-drop n tokens w e =
    ap (λ l. unflat (drop n l)) (sym whole ∙ ap flat (sym (join-front-behind n (unflat tokens))) ∙ flat-join first last)
    ∙ ap (λ m. unflat (drop m (flat first ++ flat last))) (sym e ∙ sym (length-flat first))
    ∙ ap unflat (drop-append_seam (flat first) (flat last))
    ∙ unflat-flat last
  where
    first : Forest
    first = front n (unflat tokens)

    last : Forest
    last = behind n (unflat tokens)

    whole : flat (unflat tokens) ≡ tokens
    whole = (whole_iff tokens).0 w

-- A header counts no more tokens than follow it.
pub header_within : (s : Subtree) (tokens : List TokenTree) → IsWhole (token.Subtree s ∷ tokens) → s.len ≤ length tokens
header_within s tokens w = omega (arith, counted, holds)
  where
    holds : size (front s.len (unflat tokens)) ≡ s.len
    holds = header_holds s tokens w

    whole : header s.delimiter (size (front s.len (unflat tokens))) ∷ (flat (front s.len (unflat tokens)) ++ flat (behind s.len (unflat tokens))) ≡ token.Subtree s ∷ tokens
    whole = (whole_iff (token.Subtree s ∷ tokens)).0 w

    counted : size (front s.len (unflat tokens)) + size (behind s.len (unflat tokens)) ≡ length tokens
    counted =
        ap₂ ◌+◌ (sym (length-flat (front s.len (unflat tokens)))) (sym (length-flat (behind s.len (unflat tokens))))
        ∙ sym (length-append (flat (front s.len (unflat tokens))) (flat (behind s.len (unflat tokens))))
        ∙ ap (λ l. length (drop 1 l)) whole
