-- The list of a result, and the tree that is stored for it.
use Rattle.std.proofs.Common.{◌≡◌, ◌≤◌, ◌<◌, ◌⊎◌, inl, inr, List, ◌∷◌, Some, None, Result, Ok, Err, IfOk, refl, ap, sym, ◌∙◌, subst, arith}
use Rattle.tt_base.specs.declared.delimiter.Subtree.{Subtree}
use Rattle.tt_base.specs.declared.fault.TtFault.{TtFault}
use Rattle.tt_base.specs.declared.fault.TtFault.TheVariants.{Memory, NotOneSubtree, NoSuchPlace, NotALeaf, SuffixTooLong, BadScan, TooManyTokens, TooManySpanParts, TooManySymbols, TooManyBytes, PointsSpent}
use Rattle.tt_base.specs.declared.token_tree.TokenTree.{TokenTree}
use Rattle.tt_base.specs.declared.token_tree.TokenTree.TheVariants as token
use Rattle.tt_base.specs.Forest.{Forest, Root, end, leaf, node, only, size, flat, flat_root, IsOneSubtree}
use Rattle.tt_base.specs.OneRoot.{one_root}
use Rattle.tt_base.specs.Unflat.{flat-injective}
use Rattle.tt_view.specs.PackFault.{IsTreeWith, IsPackFault}
use Rattle.tt_view.proofs.LeafAt.{flat-only}
use Rattle.tt.specs.declared.transform.TransformTtAction.{TransformTtAction}
use Rattle.tt.specs.Rewrites.{Rewrites, IsResultFault}

-- Trees with the flat list of a root are that root.
pub trees_of_root : (trees : Forest) (root : Root) (list : List TokenTree) → list ≡ flat trees → list ≡ flat_root root → trees ≡ only root
trees_of_root trees root list a b = flat-injective trees (only root) (sym a ∙ b ∙ sym (flat-only root))

-- A list that does not begin with a header is no subtree.
pub no_header : (trees : Forest) (list : List TokenTree) → list ≡ flat trees → ((s : Subtree) (rest : List TokenTree) → list ≡ token.Subtree s ∷ rest → ⊥) → one_root trees ≡ None
no_header end list is none = refl
no_header (leaf it rest) list is none = refl
no_header (node d children rest) list is none = absurd (none _ _ is)

-- A list that begins with a header whose count fits is refused if it is more than that subtree.
pub more_than_one : (trees : Forest) (list : List TokenTree) (s : Subtree) (rest : List TokenTree) → list ≡ flat trees → list ≡ token.Subtree s ∷ rest → s.len < 4294967296
    → (IsOneSubtree list → ⊥) → one_root trees ≡ None
more_than_one end list s rest is begins fits more = refl
more_than_one (leaf it others) list s rest is begins fits more = refl
more_than_one (node d children end) list s rest is begins fits more =
    let counted : size children ≡ s.len = cc (sym is ∙ begins) in
    let root : Root = record { delimiter = d; children = children } in
    absurd (more (root, is ∙ flat-only root, omega (arith, counted, fits)))
more_than_one (node d children (leaf it others)) list s rest is begins fits more = refl
more_than_one (node d children (node x inner others)) list s rest is begins fits more = refl

this_root : (P : Root → Type 0) (trees : Forest) (list : List TokenTree) → list ≡ flat trees → IsTreeWith P list
    → (root : Root) × (one_root trees ≡ Some root) × ((size root.children ≤ 4294967295) × P root)
this_root P trees list is (root, flats, few, holds) = (root, ap one_root (trees_of_root trees root list is flats), (few, holds))

-- Why the result is not stored.
pub result_fault : (trees : Forest) (list : List TokenTree) (s : Subtree) (rest : List TokenTree) (fault : TtFault) → list ≡ flat trees → list ≡ token.Subtree s ∷ rest
    → s.len < 4294967296 → IsPackFault list fault → (fault ≡ Memory) ⊎ IsResultFault trees fault
result_fault trees list s rest Memory is begins fits cause = inl refl
result_fault trees list s rest NotOneSubtree is begins fits cause = inr (more_than_one trees list s rest is begins fits cause)
result_fault trees list s rest TooManySpanParts is begins fits cause = inr (this_root _ trees list is cause)
result_fault trees list s rest TooManySymbols is begins fits cause = inr (this_root _ trees list is cause)
result_fault trees list s rest TooManyBytes is begins fits cause = inr (this_root _ trees list is cause)
result_fault trees list s rest NoSuchPlace is begins fits cause = absurd cause
result_fault trees list s rest NotALeaf is begins fits cause = absurd cause
result_fault trees list s rest SuffixTooLong is begins fits cause = absurd cause
result_fault trees list s rest BadScan is begins fits cause = absurd cause
result_fault trees list s rest TooManyTokens is begins fits cause = absurd cause
result_fault trees list s rest PointsSpent is begins fits cause = absurd cause

-- The stored tree is the result.
pub stored_result : {F : Type 0} (call : F → TokenTree → TransformTtAction → F → Type 0) (first : F) (trees result : Forest) (list : List TokenTree) (stored : Result Root TtFault)
    → Rewrites call first trees result → list ≡ flat result → IfOk stored (λ root. list ≡ flat_root root) → IfOk stored (λ root. Rewrites call first trees (only root))
stored_result call first trees result list (Ok root) told is read = subst (Rewrites call first trees) (trees_of_root result root list is read) told
stored_result call first trees result list (Err fault) told is read = tt
