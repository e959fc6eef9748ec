-- A callback that answers from a list of ids: its answers change a tree as the list does.
use Rattle.std.proofs.Common.{◌≡◌, ◌⊎◌, inl, inr, ℕ, zero, suc, ◌<◌, List, [], ◌∷◌, drop, length, get_or, ap, sym, ◌∙◌, subst, arith}
use Rattle.tt.specs.Asked.{AsksAll}
use Rattle.tt.specs.AstIds.{stored_ids, ids_changed}
use Rattle.tt.specs.Forest.{Root}
use Rattle.tt.specs.NewIds.{AnswersIds}
use Rattle.tt.specs.TreeFault.{IsTreeFault}
use Rattle.tt_base.specs.declared.fault.TtFault.{TtFault}
use Rattle.tt_base.specs.declared.fault.TtFault.TheVariants.{Memory}
use Rattle.tt_base.specs.declared.span.ErasedFileAstId.{ErasedFileAstId}
use Rattle.tt_view.proofs.NewIds.{ids_alike}
use Rattle.app_console.specs.Editing.{ids_of, next_id}

-- in each state it answers the next of these ids, or the id that it is given, and the others are left
module _ {F : Type 0} (call : F → ErasedFileAstId → ErasedFileAstId → F → Type 0) (left : F → List ℕ)
    (by : (p : F) (x y : ErasedFileAstId) (q : F) → call p x y q → (y ≡ next_id (left p) x) × (left q ≡ drop 1 (left p))) where
  -- If an entry keeps its own id, the answers are the ids of the list.
  pub ids_follow : (p : F) (asked answers : List ErasedFileAstId) (q : F) → AsksAll call p asked answers q
      → (k : ℕ) (d : ErasedFileAstId) → k < length asked → get_or asked k d ≡ d → get_or answers k d ≡ get_or (ids_of (left p)) k d
  ids_follow p [] answers q done k d within own = absurd (omega (arith, within))
  ids_follow p (x ∷ asked) [] q done k d within own = absurd done
  ids_follow p (x ∷ asked) (y ∷ answers) q (between, called, done) zero d within own = by_left (left p) (by p x y between called).0
    where
      by_left : (numbers : List ℕ) → y ≡ next_id numbers x → y ≡ get_or (ids_of numbers) zero d
      by_left [] is = is ∙ own
      by_left (n ∷ numbers) is = is
  ids_follow p (x ∷ asked) (y ∷ answers) q (between, called, done) (suc k) d within own =
      ids_follow between asked answers q done k d (omega (arith, within)) own ∙ by_left (left p) (by p x y between called).1
    where
      by_left : (numbers : List ℕ) → left between ≡ drop 1 numbers → get_or (ids_of (left between)) k d ≡ get_or (ids_of numbers) (suc k) d
      by_left [] is = ap (λ l. get_or (ids_of l) k d) is
      by_left (n ∷ numbers) is = ap (λ l. get_or (ids_of l) k d) is

-- So the changed tree is the tree with the ids of the list.
pub ids_are : {F : Type 0} (call : F → ErasedFileAstId → ErasedFileAstId → F → Type 0) (left : F → List ℕ)
    → ((p : F) (x y : ErasedFileAstId) (q : F) → call p x y q → (y ≡ next_id (left p) x) × (left q ≡ drop 1 (left p)))
    → (first : F) (root tree : Root) → (ids : List ErasedFileAstId) × AnswersIds call first root ids × (tree ≡ ids_changed ids root) → tree ≡ ids_changed (ids_of (left first)) root
ids_are call left by first root tree (ids, reported, is) =
    is ∙ ids_alike root ids (ids_of (left first)) (ids_follow call left by first (stored_ids root) ids reported.last reported.asked)

-- And the fault, if the tree is not changed, is one of that tree.
pub ids_refused : {F : Type 0} (call : F → ErasedFileAstId → ErasedFileAstId → F → Type 0) (left : F → List ℕ)
    → ((p : F) (x y : ErasedFileAstId) (q : F) → call p x y q → (y ≡ next_id (left p) x) × (left q ≡ drop 1 (left p)))
    → (first : F) (root : Root) (fault : TtFault) → (fault ≡ Memory) ⊎ ((ids : List ErasedFileAstId) × AnswersIds call first root ids × IsTreeFault (ids_changed ids root) fault)
    → IsTreeFault (ids_changed (ids_of (left first)) root) fault
ids_refused call left by first root fault (inl memory) = subst (IsTreeFault (ids_changed (ids_of (left first)) root)) (sym memory) tt
ids_refused call left by first root fault (inr (ids, reported, why)) =
    subst (λ tree. IsTreeFault tree fault) (ids_alike root ids (ids_of (left first)) (ids_follow call left by first (stored_ids root) ids reported.last reported.asked)) why
