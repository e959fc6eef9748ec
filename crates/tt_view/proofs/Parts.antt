-- The first tree of a view, without the others, and its first token.
use Rattle.std.proofs.Common.{◌≡◌, ℕ, ◌+◌, ◌-◌, ◌<◌, ◌≤◌, Some, None, refl, ap, sym, ◌∙◌, arith}
use Rattle.tt_base.specs.declared.token_tree.TokenTree.{TokenTree}
use Rattle.tt_base.specs.declared.token_tree.TokenTree.TheVariants as token
use Rattle.tt_base.specs.Forest.{Forest, end, leaf, node, size, header, join}
use Rattle.std.specs.Prelude.{false}
use Rattle.tt_base.specs.Moves.{first_token, after_token, after_tree}
use Rattle.tt_view.specs.Cuts.{HoldsTrees}
use Rattle.tt_base.specs.Siblings.{children_of, is_end}
use Rattle.tt_base.specs.Token.{count_below}
use Rattle.tt_base.proofs.Joins.{join-assoc, size-join}

-- the first token of a view's trees is the first token ahead, and the trees after it are ahead after it
pub record PartsOf (ahead : Forest) (len : ℕ) (trees others : Forest) (t : TokenTree) : Type 0 where
  pub first : first_token trees ≡ Some t
  pub follow : Forest
  pub below : after_token ahead ≡ join (children_of trees) follow
  pub rest : after_tree ahead ≡ join (after_tree trees) others
  pub below_size : size (children_of trees) ≡ count_below t
  pub rest_size : size (after_tree trees) ≡ len - 1 - count_below t
  pub fits : 1 + count_below t ≤ len
  pub flat_rest : after_token ahead ≡ join (after_token trees) others
  pub flat_size : size (after_token trees) ≡ len - 1

parts_join : (p q : Forest) (t : TokenTree) (len : ℕ) → 0 < len → size p ≡ len → first_token (join p q) ≡ Some t → PartsOf (join p q) len p q t
parts_join end q t len n s e = absurd (omega arith)
parts_join (leaf it rest) q t len n s e =
    let is : token.Leaf it ≡ t = cc in
    let held : 0 ≡ count_below t = ap count_below is in
    record {
      first = e;
      follow = join rest q;
      below = refl;
      rest = refl;
      below_size = held;
      rest_size = omega arith;
      fits = omega arith;
      flat_rest = refl;
      flat_size = omega arith;
    }
parts_join (node d children rest) q t len n s e =
    let is : header d (size children) ≡ t = cc in
    let held : size children ≡ count_below t = ap count_below is in
    record {
      first = e;
      follow = join rest q;
      below = refl;
      rest = refl;
      below_size = held;
      rest_size = omega arith;
      fits = omega arith;
      flat_rest = sym (join-assoc children rest q);
      flat_size = omega (arith, size-join children rest);
    }

pub parts_of : (ahead : Forest) (len : ℕ) (h : HoldsTrees ahead len) (t : TokenTree) → (len ≡ 0 → ⊥) → first_token ahead ≡ Some t
    → PartsOf ahead len h.0.0 h.0.1 t
parts_of ahead len h t n e =
    let at_join = parts_join h.0.0 h.0.1 t len (omega (arith, n)) h.1.1 (sym (ap first_token h.1.0) ∙ e) in
    rw h.1.0 at_join

-- A view of no tokens has no trees.
pub end_of : (ahead : Forest) (len : ℕ) (h : HoldsTrees ahead len) → len ≡ 0 → h.0.0 ≡ end
end_of ahead len h z = none h.0.0 (h.1.1 ∙ z)
  where
    none : (f : Forest) → size f ≡ 0 → f ≡ end
    none end e = refl
    none (leaf it rest) e = absurd (omega arith)
    none (node d children rest) e = absurd (omega arith)

-- If a view has tokens, a token can be read.
pub not_none : (ahead : Forest) (len : ℕ) → HoldsTrees ahead len → (len ≡ 0 → ⊥) → first_token ahead ≡ None → ⊥
not_none ahead len h n e = some h.0.0 h.0.1 (omega (arith, h.1.1, n)) (sym (ap first_token h.1.0) ∙ e)
  where
    some : (f g : Forest) → 0 < size f → first_token (join f g) ≡ None → ⊥
    some end g s e = absurd (omega arith)
    some (leaf it rest) g s e = cc
    some (node d children rest) g s e = cc

-- If there is a first token, trees are left.
pub some_left : (trees : Forest) (t : TokenTree) → first_token trees ≡ Some t → is_end trees ≡ false
some_left end t e = cc
some_left (leaf it rest) t e = refl
some_left (node d children rest) t e = refl
