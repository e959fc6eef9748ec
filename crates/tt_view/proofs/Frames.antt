-- The events that are left of a walk, if some subtrees are open.
use Rattle.std.proofs.Common.{◌≡◌, ◌<◌, ℕ, ◌-◌, List, [], ◌∷◌, ◌++◌, refl, ap, ap₂, sym, subst, ◌∙◌, arith, append_assoc}
use Rattle.tt_base.specs.declared.delimiter.Delimiter.{Delimiter}
use Rattle.tt_base.specs.declared.leaf.Leaf.{Leaf}
use Rattle.tt_base.specs.Forest.{Forest, end, leaf, node, size, join}
use Rattle.tt_base.specs.Unflat.{front-join, behind-join, front, behind}
use Rattle.tt_base.specs.Walk.{Event, passes, opens, closes, subtree_of, walk}
use Rattle.tt_view.specs.Frames.{left, IsBelow, Stands}
use Rattle.tt_view.specs.declared.cursor.Frame.{Frame}
use Rattle.tt_base.proofs.Joins.{size-join, join-assoc}

-- The events that are left, by the trees that are left in the innermost level.
pub left_join : (f : Frame) (fs : List Frame) (inner outer ahead : Forest) → ahead ≡ join inner outer → size outer ≡ f.behind
    → left (f ∷ fs) ahead ≡ walk inner ++ (closes f.header ∷ left fs outer)
left_join f fs inner outer ahead cut behind_is =
    let many : size ahead - f.behind ≡ size inner = omega (arith, ap size cut, size-join inner outer, behind_is) in
    let first : front (size ahead - f.behind) ahead ≡ inner = ap₂ front many cut ∙ front-join inner outer in
    let last : behind (size ahead - f.behind) ahead ≡ outer = ap₂ behind many cut ∙ behind-join inner outer in
    λ i. walk (first i) ++ (closes f.header ∷ left fs (last i))

-- the innermost level has trees left
abbrev pub IsOpen : List Frame → Forest → Type 0
IsOpen [] ahead = Unit {0}
IsOpen (f ∷ fs) ahead = f.behind < size ahead

-- a step past the first tree
pub record Past (o : Forest) (fs : List Frame) (ahead rest : Forest) (events : List Event) : Type 0 where
  pub is : left fs ahead ≡ events ++ left fs rest
  pub stands : Stands o fs rest
  pub below : IsBelow fs (size rest)

pub grown : (o : Forest) (fs : List Frame) (d : Delimiter) (passed one inner outer : Forest) → Stands o fs (node d (join passed (join one inner)) outer)
    → Stands o fs (node d (join (join passed one) inner) outer)
grown o fs d passed one inner outer s = subst (λ v. Stands o fs (node d v outer)) (sym (join-assoc passed one inner)) s

pub past_leaf : (o : Forest) (fs : List Frame) (it : Leaf) (rest : Forest) → Stands o fs (leaf it rest) → IsOpen fs (leaf it rest)
    → Past o fs (leaf it rest) rest (passes it ∷ [])
past_leaf o [] it rest (passed, whole) h = record {
  is = refl;
  stands = (join passed (leaf it end), whole ∙ sym (join-assoc passed (leaf it end) rest));
  below = tt;
}
past_leaf o (f ∷ fs) it rest (passed, end, outer, cut, behind_is, counted, below, up) h =
    absurd (omega (arith, ap size cut, behind_is, h))
past_leaf o (f ∷ fs) it rest (passed, leaf it2 inner, outer, cut, behind_is, counted, below, up) h =
    let same : it ≡ it2 = cc in
    let more : rest ≡ join inner outer = cc in
    let one = left_join f fs (leaf it2 inner) outer (leaf it rest) cut behind_is in
    let two = left_join f fs inner outer rest more behind_is in
    record {
      is = one ∙ (λ i. passes (sym same i) ∷ sym two i);
      stands = (
        join passed (leaf it2 end),
        inner,
        outer,
        more,
        behind_is,
        counted ∙ sym (ap size (join-assoc passed (leaf it2 end) inner)),
        below,
        grown o fs f.header.delimiter passed (leaf it2 end) inner outer up,
      );
      below = omega (arith, ap size more, size-join inner outer, behind_is);
    }
past_leaf o (f ∷ fs) it rest (passed, node d c inner, outer, cut, behind_is, counted, below, up) h = cc

pub past_node : (o : Forest) (fs : List Frame) (d : Delimiter) (c rest : Forest) → Stands o fs (node d c rest) → IsOpen fs (node d c rest)
    → Past o fs (node d c rest) rest (opens (subtree_of d (size c)) ∷ (walk c ++ (closes (subtree_of d (size c)) ∷ [])))
past_node o [] d c rest (passed, whole) h = record {
  is = ap (λ v. opens (subtree_of d (size c)) ∷ v) (sym (append_assoc (walk c) (closes (subtree_of d (size c)) ∷ []) (walk rest)));
  stands = (join passed (node d c end), whole ∙ sym (join-assoc passed (node d c end) rest));
  below = tt;
}
past_node o (f ∷ fs) d c rest (passed, end, outer, cut, behind_is, counted, below, up) h =
    absurd (omega (arith, ap size cut, behind_is, h))
past_node o (f ∷ fs) d c rest (passed, leaf it inner, outer, cut, behind_is, counted, below, up) h = cc
past_node o (f ∷ fs) d c rest (passed, node d2 c2 inner, outer, cut, behind_is, counted, below, up) h =
    let same_d : d ≡ d2 = cc in
    let same_c : c ≡ c2 = cc in
    let more : rest ≡ join inner outer = cc in
    let one = left_join f fs (node d2 c2 inner) outer (node d c rest) cut behind_is in
    let two = left_join f fs inner outer rest more behind_is in
    let s = subtree_of d2 (size c2) in
    let there : opens s ∷ ((walk c2 ++ (closes s ∷ walk inner)) ++ (closes f.header ∷ left fs outer)) ≡ opens s ∷ ((walk c2 ++ (closes s ∷ [])) ++ left (f ∷ fs) rest) =
    ap (λ v. opens s ∷ v)
    (append_assoc (walk c2) (closes s ∷ walk inner) (closes f.header ∷ left fs outer)
    ∙ ap (λ v. walk c2 ++ (closes s ∷ v)) (sym two)
    ∙ sym (append_assoc (walk c2) (closes s ∷ []) (left (f ∷ fs) rest))) in
    record {
      is = one ∙ there
          ∙ ap₂ (λ v w. opens (subtree_of v (size w)) ∷ ((walk w ++ (closes (subtree_of v (size w)) ∷ [])) ++ left (f ∷ fs) rest)) (sym same_d) (sym same_c);
      stands = (
        join passed (node d2 c2 end),
        inner,
        outer,
        more,
        behind_is,
        counted ∙ sym (ap size (join-assoc passed (node d2 c2 end) inner)),
        below,
        grown o fs f.header.delimiter passed (node d2 c2 end) inner outer up,
      );
      below = omega (arith, ap size more, size-join inner outer, behind_is);
    }

-- a step into a node
pub record Into (o : Forest) (fs : List Frame) (f : Frame) (ahead inner : Forest) : Type 0 where
  pub is : left fs ahead ≡ opens f.header ∷ left (f ∷ fs) inner
  pub stands : Stands o (f ∷ fs) inner

pub into_node : (o : Forest) (fs : List Frame) (f : Frame) (d : Delimiter) (c rest : Forest) → Stands o fs (node d c rest) → IsOpen fs (node d c rest)
    → f.header ≡ subtree_of d (size c) → f.behind ≡ size rest → Into o fs f (node d c rest) (join c rest)
into_node o fs f d c rest s h head behind_is =
    let past = past_node o fs d c rest s h in
    let one = left_join f fs c rest (join c rest) refl (sym behind_is) in
    record {
      is = past.is
          ∙ ap (λ v. opens (subtree_of d (size c)) ∷ v) (append_assoc (walk c) (closes (subtree_of d (size c)) ∷ []) (left fs rest))
          ∙ ap (λ v. opens v ∷ (walk c ++ (closes v ∷ left fs rest))) (sym head)
          ∙ ap (λ v. opens f.header ∷ v) (sym one);
      stands = (
        end,
        c,
        rest,
        refl,
        sym behind_is,
        ap (λ v. v.len) head,
        subst (IsBelow fs) (sym behind_is) past.below,
        subst (λ v. Stands o fs (node v c rest)) (sym (ap (λ v. v.delimiter) head)) s,
      );
    }

-- a step out of a node
pub record OutOf (o : Forest) (fs : List Frame) (f : Frame) (ahead : Forest) : Type 0 where
  pub is : left (f ∷ fs) ahead ≡ closes f.header ∷ left fs ahead
  pub stands : Stands o fs ahead

pub open_above : (fs : List Frame) (n : ℕ) (d : Delimiter) (c outer : Forest) → IsBelow fs n → size outer ≡ n → IsOpen fs (node d c outer)
open_above [] n d c outer b e = tt
open_above (g ∷ gs) n d c outer b e = omega (arith, b, e)

pub out_of : (o : Forest) (fs : List Frame) (f : Frame) (ahead : Forest) → Stands o (f ∷ fs) ahead → f.behind ≡ size ahead → OutOf o fs f ahead
out_of o fs f ahead (passed, end, outer, cut, behind_is, counted, below, up) e =
    let past = past_node o fs f.header.delimiter (join passed end) outer up (open_above fs f.behind f.header.delimiter (join passed end) outer below behind_is) in
    record {
      is = left_join f fs end outer ahead cut behind_is ∙ ap (λ v. closes f.header ∷ left fs v) (sym cut);
      stands = subst (Stands o fs) (sym cut) past.stands;
    }
out_of o fs f ahead (passed, leaf it inner, outer, cut, behind_is, counted, below, up) e =
    absurd (omega (arith, ap size cut, size-join inner outer, behind_is, e))
out_of o fs f ahead (passed, node d c inner, outer, cut, behind_is, counted, below, up) e =
    absurd (omega (arith, ap size cut, size-join inner outer, behind_is, e))
