-- The parts of a call: its attributes, what follows them, and what follows the call.
use Rattle.std.proofs.Common.{◌≡◌, ◌+◌, ℕ, zero, suc, Bool, true, false, List, codes, refl, ap, ap₂, sym, subst, ◌∙◌, arith, cond}
use Rattle.std.proofs.lemmas.Bool.{false≢true}
use Rattle.std.specs.Prelude.{◌==◌, ◌&&◌, ◌||◌, not}
use Rattle.tt.specs.Forest.{Forest, Root, end, leaf, node, join}
use Rattle.tt.specs.Gluing.{after_trees}
use Rattle.tt.specs.Moves.{after_tree}
use Rattle.tt.specs.Types.Span.{Span}
use Rattle.tt_base.proofs.Joins.{join-assoc}
use Rattle.syntax_edit.specs.Places.{begin_at}
use Rattle.expand_items.proofs.ManyTrees.{after_both, after_more}
use Rattle.expand_text.specs.CallSites.{CallSite}
use Rattle.expand_text.specs.Meaning.{begin_in, behind_call, len_in, rest_in, site_in, takes_in, whole_in}
use Rattle.expand_items.proofs.Conditions.{IsCallBehind, call_at}
use Rattle.expand_items.proofs.Shapes.{EndsClosed, by_subtree, by_semicolon, call_closed}
use Rattle.expand_items.specs.Attributes.{item_at, with_attributes}
use Rattle.expand_items.specs.Items.{Call, calls}
use Rattle.expand_items.specs.Expressions.{needs_no_semicolon}
use Rattle.expand_items.specs.Positions.{is_items}
use Rattle.expand_items.specs.declared.expression.Enclosure.{Enclosure}
use Rattle.expand_items.specs.declared.position.Position.{Position}
use Rattle.mbe_pattern.proofs.Passing.{front_joined, after_end}
use Rattle.mbe_pattern.specs.Units.{front_trees, is_at_punct, is_brace}

-- No trees have no first trees.
front_end : (n : ℕ) → front_trees n end ≡ end
front_end zero = refl
front_end (suc n) = refl

-- Of the first `n + m` trees, those after the first `n` are the next `m`,
pub after_front : (n m : ℕ) (trees : Forest) → after_trees n (front_trees (n + m) trees) ≡ front_trees m (after_trees n trees)
after_front zero m trees = let none : 0 + m ≡ m = omega arith in ap (λ k. front_trees k trees) none
after_front (suc n) m end =
    ap (after_trees (suc n)) (front_end (suc n + m)) ∙ after_end (suc n) ∙ sym (ap (front_trees m) (after_end (suc n)) ∙ front_end m)
after_front (suc n) m (leaf it rest) =
    let one_more : suc n + m ≡ suc (n + m) = omega arith in
    ap (λ k. after_trees (suc n) (front_trees k (leaf it rest))) one_more ∙ after_front n m rest
after_front (suc n) m (node delimiter children rest) =
    let one_more : suc n + m ≡ suc (n + m) = omega arith in
    ap (λ k. after_trees (suc n) (front_trees k (node delimiter children rest))) one_more ∙ after_front n m rest

-- and the first `n` are those of all.
pub front_front : (n m : ℕ) (trees : Forest) → front_trees n (front_trees (n + m) trees) ≡ front_trees n trees
front_front zero m trees = refl
front_front (suc n) m end = ap (front_trees (suc n)) (front_end (suc n + m))
front_front (suc n) m (leaf it rest) =
    let one_more : suc n + m ≡ suc (n + m) = omega arith in
    ap (λ k. front_trees (suc n) (front_trees k (leaf it rest))) one_more ∙ ap (leaf it) (front_front n m rest)
front_front (suc n) m (node delimiter children rest) =
    let one_more : suc n + m ≡ suc (n + m) = omega arith in
    ap (λ k. front_trees (suc n) (front_trees k (node delimiter children rest))) one_more ∙ ap (node delimiter children) (front_front n m rest)

-- The first `n + m` trees are both parts.
pub front_both : (n m : ℕ) (trees : Forest) → front_trees (n + m) trees ≡ join (front_trees n trees) (front_trees m (after_trees n trees))
front_both n m trees = front_joined n (front_trees (n + m) trees) ∙ ap₂ join (front_front n m trees) (after_front n m trees)

-- Trees that end with a subtree or a `;` end so after others too.
pub closed_join : (front closed : Forest) → EndsClosed closed → EndsClosed (join front closed)
closed_join front closed (by_subtree before delimiter children is) =
    by_subtree (join front before) delimiter children (ap (join front) is ∙ sym (join-assoc front before (node delimiter children end)))
closed_join front closed (by_semicolon before punct semicolon is) =
    by_semicolon (join front before) punct semicolon (ap (join front) is ∙ sym (join-assoc front before _))

-- where a call ends, how many trees it is, what follows it, and all its trees, with the `;` after it or without
abbrev pub end_if : (takes : Bool) → Call → (trees : Forest) → Span
end_if takes it trees = cond takes (begin_at (behind_call it trees) it.delimiter.close) it.delimiter.close

abbrev pub len_if : (takes : Bool) → Call → ℕ
len_if takes it = cond takes (suc it.len) it.len

abbrev pub rest_if : (takes : Bool) → Call → (trees : Forest) → Forest
rest_if takes it trees = cond takes (after_tree (behind_call it trees)) (behind_call it trees)

abbrev pub whole_if : (takes : Bool) → Call → (trees : Forest) → Forest
whole_if takes it trees = front_trees (len_if takes it) trees

module _ (position : Position) (it : Call) (trees : Forest) (tree : Root) where
  -- After a call with its `;`, the trees are those after so many trees,
  pub rest_behind : rest_in position it trees tree ≡ after_trees (len_in position it trees tree) trees
  rest_behind = by (takes_in position it trees tree)
    where
      by : (takes : Bool) → rest_if takes it trees ≡ after_trees (len_if takes it) trees
      by true = sym (after_more it.len trees)
      by false = refl

  -- and all trees are the call and those.
  pub split_in : trees ≡ join (whole_in position it trees tree) (rest_in position it trees tree)
  split_in = front_joined (len_in position it trees tree) trees ∙ ap (join (whole_in position it trees tree)) (sym rest_behind)

  -- A `;` that is a part of the call is there.
  pub semicolon_there : takes_in position it trees tree ≡ true → is_at_punct (codes ";") (behind_call it trees) ≡ true
  semicolon_there = third_of position.is_start (not (is_brace it.delimiter.kind)) (is_at_punct (codes ";") (behind_call it trees))
      (is_items position.siblings || ((it.attributes == 0) && needs_no_semicolon tree.children (behind_call it trees)))
    where
      third_of : (a b c d : Bool) → (a && (b && (c && d))) ≡ true → c ≡ true
      third_of true true true d is = refl
      third_of true true false d is = is
      third_of true false c d is = absurd (false≢true is)
      third_of false b c d is = absurd (false≢true is)

  -- the place of a call that has these trees, this enclosure, and this position of its expansion
  abbrev site_made : Forest → Enclosure → Position → CallSite
  site_made whole enclosure first =
      record { attributes = front_trees it.attributes whole; len = it.attributes; enclosure = enclosure; position = first; delimiter = it.delimiter }

  -- If these values are those of the call, this is the place of the call.
  pub site_same : (whole : Forest) (enclosure : Enclosure) (first : Position) → whole ≡ whole_in position it trees tree
      → enclosure ≡ (site_in position it trees tree).enclosure → first ≡ (site_in position it trees tree).position
      → site_made whole enclosure first ≡ site_in position it trees tree
  site_same whole enclosure first all one begins =
      let site = site_in position it trees tree in
      ap (λ f. site_made f enclosure first) all ∙ ap (λ e. site_made (whole_in position it trees tree) e first) one
      ∙ ap (site_made (whole_in position it trees tree) site.enclosure) begins

-- A call with attributes is the call alone after them.
module _ (attributes : ℕ) (bare : Call) (trees : Forest) where
  -- the call with them, and what follows them
  abbrev whole : Call
  whole = with_attributes attributes bare

  abbrev behind : Forest
  behind = after_trees attributes trees

  same_behind : behind_call whole trees ≡ behind_call bare behind
  same_behind = after_both attributes bare.len trees

  module _ (takes : Bool) where
    same_len : len_if takes whole ≡ attributes + len_if takes bare
    same_len = by takes
      where
        by : (takes : Bool) → cond takes (suc (attributes + bare.len)) (attributes + bare.len) ≡ attributes + cond takes (suc bare.len) bare.len
        by true = omega arith
        by false = refl

    same_end : end_if takes whole trees ≡ end_if takes bare behind
    same_end = ap (λ f. cond takes (begin_at f bare.delimiter.close) bare.delimiter.close) same_behind

    same_rest : rest_if takes whole trees ≡ rest_if takes bare behind
    same_rest = ap (λ f. cond takes (after_tree f) f) same_behind

    same_call : after_trees attributes (whole_if takes whole trees) ≡ whole_if takes bare behind
    same_call = ap (λ n. after_trees attributes (front_trees n trees)) same_len ∙ after_front attributes (len_if takes bare) trees

    same_attributes : front_trees attributes (whole_if takes whole trees) ≡ front_trees attributes trees
    same_attributes = ap (λ n. front_trees attributes (front_trees n trees)) same_len ∙ front_front attributes (len_if takes bare) trees

-- The same holds for a call that comes first.
module _ (root : List ℕ) (position : Position) (trees : Forest) (it : Call) (is : item_at root position trees ≡ calls it) where
  -- the call alone, and what follows the attributes
  abbrev pub alone : IsCallBehind root trees it
  alone = call_at root position trees it is

  abbrev pub past : Forest
  past = after_trees it.attributes trees

  pub begin_alone : begin_in it trees ≡ begin_at past alone.bare.name.span
  begin_alone = ap (λ c. begin_at past c.name.span) alone.same

  -- what holds for the call alone with its attributes holds for the call
  by_alone : (P : Call → Type 0) → P (with_attributes it.attributes alone.bare) → P it
  by_alone P = subst P (sym alone.same)

  pub semicolon_alone : (tree : Root) → takes_in position it trees tree ≡ true → is_at_punct (codes ";") (behind_call alone.bare past) ≡ true
  semicolon_alone tree takes =
      let same = by_alone (λ c. behind_call c trees ≡ behind_call alone.bare past) (same_behind it.attributes alone.bare trees) in
      ap (is_at_punct (codes ";")) (sym same) ∙ semicolon_there position it trees tree takes

  module _ (takes : Bool) where
    pub end_alone : end_if takes it trees ≡ end_if takes alone.bare past
    end_alone = by_alone (λ c. end_if takes c trees ≡ end_if takes alone.bare past) (same_end it.attributes alone.bare trees takes)

    pub rest_alone : rest_if takes it trees ≡ rest_if takes alone.bare past
    rest_alone = by_alone (λ c. rest_if takes c trees ≡ rest_if takes alone.bare past) (same_rest it.attributes alone.bare trees takes)

    pub call_alone : after_trees it.attributes (whole_if takes it trees) ≡ whole_if takes alone.bare past
    call_alone =
        by_alone (λ c. after_trees it.attributes (whole_if takes c trees) ≡ whole_if takes alone.bare past) (same_call it.attributes alone.bare trees takes)

    pub attributes_alone : front_trees it.attributes (whole_if takes it trees) ≡ front_trees it.attributes trees
    attributes_alone =
        by_alone (λ c. front_trees it.attributes (whole_if takes c trees) ≡ front_trees it.attributes trees) (same_attributes it.attributes alone.bare trees takes)

  -- The call ends with its subtree.
  pub ends_alone : EndsClosed (front_trees it.len trees)
  ends_alone =
      let (front, same) = call_closed root past alone.bare alone.shape in
      let len : it.len ≡ it.attributes + alone.bare.len = ap (λ c. c.len) alone.same in
      subst EndsClosed (sym (ap (λ n. front_trees n trees) len ∙ front_both it.attributes alone.bare.len trees))
      (closed_join (front_trees it.attributes trees) (front_trees alone.bare.len past) (by_subtree front alone.bare.delimiter alone.bare.input same))
