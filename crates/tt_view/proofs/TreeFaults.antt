-- Why the flat list of a tree is not packed, as faults of the tree.
use Rattle.std.proofs.Common.{◌≡◌, ◌≤◌, ℕ, suc, List, [], ◌∷◌, map, length, refl, ap, sym, ◌∙◌, subst, arith}
use Rattle.tt_base.specs.declared.delimiter.Delimiter.{Delimiter}
use Rattle.tt_base.specs.declared.leaf.Leaf.{Leaf}
use Rattle.tt_base.specs.declared.token_tree.TokenTree.TheVariants as token
use Rattle.tt_base.specs.declared.fault.TtFault.{TtFault}
use Rattle.tt_base.specs.declared.fault.TtFault.TheVariants.{Memory, NotOneSubtree, NoSuchPlace, NotALeaf, SuffixTooLong, BadScan, TooManyTokens, TooManySpanParts, TooManySymbols, TooManyBytes, PointsSpent}
use Rattle.tt_base.specs.declared.token_tree.TokenTree.{TokenTree}
use Rattle.tt_base.specs.Forest.{Root, end, size, header, flat, flat_root}
use Rattle.tt_base.specs.Siblings.{leaves}
use Rattle.tt_base.specs.Unflat.{flat_root-injective}
use Rattle.tt_tables.specs.PackFault.{IsTreeWith, IsPackFault}
use Rattle.tt_tables.specs.Stored.{most_tokens, root_parts, bytes, bytes_below}
use Rattle.tt_tables.specs.TableOrder.{table}
use Rattle.tt_tables.specs.Tables.{tables_for}
use Rattle.tt_view.specs.TreeFault.{under, IsTreeFault}

this_tree : (P : Root → Type 0) (root : Root) (tokens : List TokenTree) → tokens ≡ flat_root root → size root.children ≤ most_tokens
    → IsTreeWith P tokens → (size root.children ≤ most_tokens) × P root
this_tree P root tokens is few (other, flat, limits, holds) =
    (few, subst P (flat_root-injective other root (sym flat ∙ is)) holds)

pub tree_fault : (root : Root) (tokens : List TokenTree) → tokens ≡ flat_root root → size root.children ≤ most_tokens → (fault : TtFault)
    → IsPackFault tokens fault → IsTreeFault root fault
tree_fault root tokens is few Memory cause = tt
tree_fault root tokens is few NotOneSubtree cause = absurd (cause (root, is, few))
tree_fault root tokens is few NoSuchPlace cause = cause
tree_fault root tokens is few NotALeaf cause = cause
tree_fault root tokens is few SuffixTooLong cause = cause
tree_fault root tokens is few BadScan cause = cause
tree_fault root tokens is few TooManyTokens cause = absurd cause
tree_fault root tokens is few TooManySpanParts cause = this_tree _ root tokens is few cause
tree_fault root tokens is few TooManySymbols cause = this_tree _ root tokens is few cause
tree_fault root tokens is few TooManyBytes cause = this_tree _ root tokens is few cause
tree_fault root tokens is few PointsSpent cause = cause

-- A tree with nothing inside can fail only if memory runs out.
pub empty_fault : (delimiter : Delimiter) (fault : TtFault) → IsTreeFault (under delimiter end) fault → fault ≡ Memory
unfolding bytes table
empty_fault delimiter Memory cause = refl
empty_fault delimiter NotOneSubtree cause = absurd cause
empty_fault delimiter NoSuchPlace cause = absurd cause
empty_fault delimiter NotALeaf cause = absurd cause
empty_fault delimiter SuffixTooLong cause = absurd cause
empty_fault delimiter BadScan cause = absurd cause
empty_fault delimiter TooManyTokens cause = absurd (omega (arith, cause))
empty_fault delimiter TooManySpanParts cause =
    let two : length (root_parts (under delimiter end)) ≡ 2 = refl in
    absurd (omega (arith, two, cause.1))
empty_fault delimiter TooManySymbols cause =
    let none : length (tables_for (flat end)).symbols ≡ 0 = refl in
    absurd (omega (arith, none, cause.1.1))
empty_fault delimiter TooManyBytes cause =
    let none : length (bytes_below end) ≡ 0 = refl in
    absurd (omega (arith, none, cause.1.2))
empty_fault delimiter PointsSpent cause = absurd cause

-- A list of length 0 has no leaves.
pub none_left : (ls : List Leaf) → length ls ≡ 0 → ls ≡ []
none_left [] e = refl
none_left (it ∷ others) e = absurd (omega arith)

-- A list of leaves has as many tokens, and they are its flat list.
pub size-leaves : (ls : List Leaf) → size (leaves ls) ≡ length ls
size-leaves [] = refl
size-leaves (it ∷ others) = ap suc (size-leaves others)

pub flat-leaves : (ls : List Leaf) → flat (leaves ls) ≡ map token.Leaf ls
flat-leaves [] = refl
flat-leaves (it ∷ others) = ap (λ tokens. token.Leaf it ∷ tokens) (flat-leaves others)

-- A header that counts the leaves, and the leaves, are a flat list.
pub leaves_list : (delimiter : Delimiter) (ls : List Leaf) (n : ℕ) → n ≡ length ls
    → header delimiter n ∷ map token.Leaf ls ≡ flat_root (under delimiter (leaves ls))
leaves_list delimiter ls n e =
    let count : n ≡ size (leaves ls) = e ∙ sym (size-leaves ls) in
    ap (λ k. header delimiter k ∷ map token.Leaf ls) count ∙ ap (λ tokens. header delimiter (size (leaves ls)) ∷ tokens) (sym (flat-leaves ls))
