-- The trees for which a predicate was called so far, and one more.
use Rattle.std.proofs.Common.{◌≡◌, ◌<◌, Bool, true, false, cond, length, length-append, ℕ, ◌+◌, List, [], ◌∷◌, ◌++◌, Some, map, ap, sym, ◌∙◌, arith}
use Rattle.std.proofs.lemmas.List.{map-append}
use Rattle.tt_base.specs.Forest.{Forest, end, leaf, node, size, join}
use Rattle.tt_base.specs.Moves.{after_tree}
use Rattle.tt_base.specs.Siblings.{Tree, tip, branch, list_of, first_tree}
use Rattle.tt_base.proofs.Joins.{tree_by_tree}
use Rattle.tt_view.specs.Iters.{tree_of, IsCounted, IsFirstElement}
use Rattle.tt_view.specs.declared.iter.TtElement.{TtElement}
use Rattle.tt_view.specs.declared.iter.TtElement.TheVariants as element
use Rattle.std.specs.List.{AllByRecursion}
use Rattle.tt_base.proofs.Joins.{join-assoc, list_of-join}

one_tree : (f : Forest) (t : Tree) (x : List Tree) → list_of f ≡ t ∷ x → list_of (first_tree f) ≡ t ∷ []
one_tree end t x e = cc
one_tree (leaf it rest) t x e = let same : tip it ≡ t = cc in cc
one_tree (node d children rest) t x e = let same : branch d children ≡ t = cc in cc

-- the predicate was called for one more tree
pub record OneMore (whole f g : Forest) (asked : List TtElement) (e : TtElement) : Type 0 where
  pub given : Forest
  pub is : whole ≡ join given g
  pub are : map tree_of asked ++ (tree_of e ∷ []) ≡ list_of given
  pub asked_are : map tree_of (asked ++ (e ∷ [])) ≡ list_of given

pub one_more : (whole given f g : Forest) (asked : List TtElement) (e : TtElement) → whole ≡ join given f → map tree_of asked ≡ list_of given
    → list_of f ≡ tree_of e ∷ list_of g → g ≡ after_tree f → OneMore whole f g asked e
one_more whole given f g asked e is are first rest =
    let both : map tree_of asked ++ (tree_of e ∷ []) ≡ list_of (join given (first_tree f)) =
    (λ i. are i ++ (tree_of e ∷ [])) ∙ ap (λ v. list_of given ++ v) (sym (one_tree f (tree_of e) (list_of g) first)) ∙ sym (list_of-join given (first_tree f)) in
    record {
      given = join given (first_tree f);
      is = is ∙ ap (join given) (tree_by_tree f ∙ ap (join (first_tree f)) (sym rest)) ∙ sym (join-assoc given (first_tree f) g);
      are = both;
      asked_are = map-append tree_of asked (e ∷ []) ∙ both;
    }

-- There are fewer pieces to come.
pub fewer : (a b : Bool) (old new : ℕ) → a ≡ false → b ≡ false → new < old → cond b 0 (1 + new) < cond a 0 (1 + old)
fewer false false old new e h l = omega (arith, l)
fewer false true old new e h l = cc
fewer true b old new e h l = cc

pub shorter : {A : Type 0} (whole front back : List A) (x : A) → whole ≡ front ++ (x ∷ back) → length back < length whole
shorter whole front back x e = omega (arith, ap length e, length-append front (x ∷ back))

-- The first element counts the tokens below it.
pub is_counted : (f : Forest) (e : TtElement) → IsFirstElement f (Some e) → IsCounted e
is_counted end e h = absurd h
is_counted (leaf it rest) (element.Leaf found) h = tt
is_counted (leaf it rest) (element.Subtree subtree below) h = absurd h
is_counted (node d children rest) (element.Leaf found) h = absurd h
is_counted (node d children rest) (element.Subtree subtree below) h = h.1 ∙ ap size (sym h.2)

pub counted_more : (asked : List TtElement) (e : TtElement) → AllByRecursion IsCounted asked → IsCounted e → AllByRecursion IsCounted (asked ++ (e ∷ []))
counted_more [] e all one = (one, tt)
counted_more (first ∷ asked) e all one = (all.0, counted_more asked e all.1 one)
