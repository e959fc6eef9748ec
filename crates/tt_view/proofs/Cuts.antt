-- The values of the ghost fields of views.
use Rattle.std.proofs.Common.{◌≡◌, ℕ, sym, ◌∙◌, arith}
use Rattle.tt_base.specs.Forest.{Forest, Root, size, join, only}
use Rattle.tt_base.proofs.Joins.{join-unique, only-injective}
use Rattle.tt_view.specs.Cuts.{HoldsTrees, HoldsRoot}

-- The trees of a view are the ones that are shown to be ahead.
pub trees_are : (ahead : Forest) (len : ℕ) (h : HoldsTrees ahead len) (f x : Forest) → ahead ≡ join f x → size f ≡ len → h.0.0 ≡ f
trees_are ahead len h f x e s = (join-unique h.0.0 f h.0.1 x (omega (arith, h.1.1, s)) (sym h.1.0 ∙ e)).0

-- The root of a view of one subtree is the one that is shown to be its root.
pub root_is : (trees : Forest) (h : HoldsRoot trees) (root : Root) → trees ≡ only root → h.0 ≡ root
root_is trees h root e = only-injective h.0 root (sym h.1 ∙ e)
