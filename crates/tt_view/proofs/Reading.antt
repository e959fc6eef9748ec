-- The first token, and the flat list, the last span and the one root.
use Rattle.std.proofs.Common.{◌≡◌, true, false, Option, Some, None, [], ◌∷◌, ◌++◌, length, refl, ap, sym, ◌∙◌, arith}
use Rattle.tt_base.specs.declared.delimiter.Subtree.{Subtree}
use Rattle.tt_base.specs.declared.leaf.Leaf.{Leaf}
use Rattle.tt_base.specs.declared.span.Span.{Span}
use Rattle.tt_base.specs.declared.token_tree.TokenTree.{TokenTree}
use Rattle.tt_base.specs.declared.token_tree.TokenTree.TheVariants as token
use Rattle.tt_base.specs.Forest.{Forest, end, leaf, node, size, header, flat, only}
use Rattle.tt_base.specs.Unflat.{flat-join}
use Rattle.std.specs.Iterator.{YieldsFirst, MakesProgress, item_count}
use Rattle.tt_view.specs.SubtreeViews.{flat_rest}
use Rattle.tt_view.specs.declared.flat.FlatTokens.{FlatTokens}
use Rattle.tt_base.specs.Moves.{first_token, after_token, after_tree}
use Rattle.tt_base.specs.Siblings.{children_of, is_end}
use Rattle.tt_base.specs.OneRoot.{one_root}
use Rattle.tt_base.specs.Token.{close_span}
use Rattle.tt_base.specs.LastSpan.{last_span, given_or}

-- the first span if there is one, otherwise the second
abbrev pub or_span : Option Span → Option Span → Option Span
or_span None other = other
or_span (Some one) other = Some one

-- The first token, and then the tokens of the trees after it.
pub flat_step : (f g : Forest) (t : TokenTree) → first_token f ≡ Some t → g ≡ after_token f → flat f ≡ t ∷ flat g
flat_step end g t e a = cc
flat_step (leaf it rest) g t e a = let is : token.Leaf it ≡ t = cc in λ i. is i ∷ flat (sym a i)
flat_step (node d children rest) g t e a =
    let is : header d (size children) ≡ t = cc in
    let more : flat g ≡ flat children ++ flat rest = ap flat a ∙ flat-join children rest in
    λ i. is i ∷ sym more i

-- A call that returns the first token, if there is one, and leaves the trees after it, returns the first of the flat list.
pub flat_yields : (s t : FlatTokens) (found : Option TokenTree) → found ≡ first_token (flat_rest s) → flat_rest t ≡ after_token (flat_rest s)
    → YieldsFirst (λ tokens. flat (flat_rest tokens)) s found t
flat_yields s t None e a = none (flat_rest s) (flat_rest t) e a
  where
    none : (f g : Forest) → None ≡ first_token f → g ≡ after_token f → (flat f ≡ []) × (flat g ≡ [])
    none end g e a = (refl, ap flat a)
    none (leaf it rest) g e a = cc
    none (node d children rest) g e a = cc
flat_yields s t (Some it) e a = flat_step (flat_rest s) (flat_rest t) it (sym e) a

-- Less of the list is then left.
pub flat_goes : (can : FlatTokens → Type 0) (s t : FlatTokens) (found : Option TokenTree) → can t → found ≡ first_token (flat_rest s)
    → flat_rest t ≡ after_token (flat_rest s) → MakesProgress can (item_count (λ tokens. flat (flat_rest tokens))) s found t
flat_goes can s t None ok e a = record { on = λ _. tt; keeps = tt; rests = λ _. tt }
flat_goes can s t (Some it) ok e a =
    let step = flat_step (flat_rest s) (flat_rest t) it (sym e) a in record { on = λ _. (ok, tt, omega (arith, ap length step)); keeps = ok; rests = λ _. tt }

-- If there is no first token, there are no trees.
pub none_flat : (f : Forest) → f ≡ end → flat f ≡ []
none_flat f e = ap flat e

-- If no tree follows, the last span is that of the first tree.
pub last_one : (f : Forest) (t : TokenTree) (other : Option Span) → first_token f ≡ Some t → is_end (after_tree f) ≡ true
    → or_span (last_span (children_of f)) (Some (close_span t)) ≡ or_span (last_span f) other
last_one end t other e a = cc
last_one (leaf it end) t other e a = let is : token.Leaf it ≡ t = cc in ap (λ x. Some (close_span x)) (sym is)
last_one (leaf it (leaf other_it rest)) t other e a = cc
last_one (leaf it (node d children rest)) t other e a = cc
last_one (node d children end) t other e a = let is : header d (size children) ≡ t = cc in ap (λ x. or_span (last_span children) (Some (close_span x))) (sym is) ∙ whole (last_span children)
  where
    whole : (last : Option Span) → or_span last (Some d.close) ≡ Some (given_or last d.close)
    whole None = refl
    whole (Some x) = refl
last_one (node d children (leaf it rest)) t other e a = cc
last_one (node d children (node d2 inner rest)) t other e a = cc

-- If trees follow, the last span is theirs.
pub last_more : (f : Forest) (t : TokenTree) (other : Option Span) → first_token f ≡ Some t → is_end (after_tree f) ≡ false
    → or_span (last_span (after_tree f)) other ≡ or_span (last_span f) other
last_more end t other e a = cc
last_more (leaf it end) t other e a = cc
last_more (leaf it (leaf other_it rest)) t other e a = refl
last_more (leaf it (node d children rest)) t other e a = refl
last_more (node d children end) t other e a = cc
last_more (node d children (leaf it rest)) t other e a = refl
last_more (node d children (node d2 inner rest)) t other e a = refl

-- If no tree follows the first, it is the one root if it is a node.
pub one_root_is : (f : Forest) (s : Subtree) → first_token f ≡ Some (token.Subtree s) → is_end (after_tree f) ≡ true
    → f ≡ only (record { delimiter = s.delimiter; children = children_of f })
one_root_is end s e a = cc
one_root_is (leaf it rest) s e a = cc
one_root_is (node d children end) s e a = let is : d ≡ s.delimiter = cc in ap (λ x. node x children end) is
one_root_is (node d children (leaf it rest)) s e a = cc
one_root_is (node d children (node d2 inner rest)) s e a = cc

pub not_one_root : (f : Forest) → is_end (after_tree f) ≡ false → None ≡ one_root f
not_one_root end a = cc
not_one_root (leaf it rest) a = refl
not_one_root (node d children end) a = cc
not_one_root (node d children (leaf it rest)) a = refl
not_one_root (node d children (node d2 inner rest)) a = refl

pub leaf_is_no_root : (f : Forest) (it : Leaf) → first_token f ≡ Some (token.Leaf it) → None ≡ one_root f
leaf_is_no_root end it e = refl
leaf_is_no_root (leaf other rest) it e = refl
leaf_is_no_root (node d children rest) it e = cc
