-- If no subtree is open, the tokens held are the trees below the top.
use Rattle.std.proofs.Common.{◌≡◌, ℕ, ◌≤◌, nat_eq, List, [], ◌∷◌, ◌++◌, length, map, drop, true, false, Option, Some, None, refl, ap, ap₂, sym, ◌∙◌, arith, append-nil, length-append}
use Rattle.std.proofs.lemmas.Bool.{eq-eqb, eqb-true}
use Rattle.std.proofs.lemmas.List.{length-map}
use Rattle.tt_base.specs.declared.delimiter.Delimiter.{Delimiter}
use Rattle.tt_base.specs.declared.token_tree.TokenTree.{TokenTree}
use Rattle.tt_base.specs.declared.token_tree.TokenTree.TheVariants as token
use Rattle.tt_base.specs.Building.{Stack, lowest, above, bottom, BuilderState, IsOpen, IsAbove, built}
use Rattle.tt_base.specs.Forest.{Forest, end, leaf, node, Root, size, flat, flat_root, header, IsWhole}
use Rattle.tt_base.specs.OneRoot.{one_root}
use Rattle.tt_base.specs.Unflat.{length-flat}
use Rattle.tt_tables.specs.declared.token.InternedToken.{InternedToken}
use Rattle.tt_tables.specs.declared.token.InternedToken.TheVariants as interned
use Rattle.tt_tables.specs.Held.{HeldToken, whole, opened, as_token, open_places}
use Rattle.tt_tables.specs.Interned.{AreNamed}
use Rattle.tt_tables.specs.Names.{AllName}
use Rattle.tt_tables.proofs.PlacesKept.{length-named}
use Rattle.tt_tables.specs.OneNode.{IsOneNode}
use Rattle.tt_tables.specs.Tables.{Tables}
use Rattle.tt.specs.declared.builder.standing.Standing.{Standing}
use Rattle.tt.specs.BuilderFields.{written, places, is_one_node, IsStateOf}
use Rattle.tt.specs.HeldList.{all_tokens, AreOpenIn}
use Rattle.tt.specs.InternedKinds.{is_named_node}

-- The list, if no subtree is open.
all_written : (top : Delimiter) (stack : Stack) → (IsAbove stack → ⊥) → written top stack ≡ header top 0 ∷ flat (bottom stack)
all_written top (lowest trees) none = refl
all_written top (above outer kind open_span trees) none = absurd (none tt)

-- the delimiter of the first header, or d
first_delimiter : Delimiter → List TokenTree → Delimiter
first_delimiter d [] = d
first_delimiter d (token.Leaf it ∷ tokens) = d
first_delimiter d (token.Subtree it ∷ tokens) = it.delimiter

-- Lists with the same first header have the same delimiter.
same_delimiter : (c d : Delimiter) (m n : ℕ) (xs ys : List TokenTree) → header c m ∷ xs ≡ header d n ∷ ys → c ≡ d
unfolding first_delimiter
same_delimiter c d m n xs ys e = ap (first_delimiter c) e

module _ (top : Delimiter) (held : List HeldToken) (headers : List ℕ) (mark : Option ℕ) (points : List Standing) (taken : ℕ) (s : BuilderState)
    (is : IsStateOf (all_tokens top held) headers mark points taken s) (none : IsOpen s → ⊥) where
  lowest_list : all_tokens top held ≡ header s.top 0 ∷ flat (bottom s.stack)
  lowest_list = is.list ∙ all_written s.top s.stack none

  -- The trees are few enough for a header to count.
  pub few_below : size (bottom s.stack) ≤ 4294967295
  few_below = omega (arith, is.few, ap length lowest_list, length-flat (bottom s.stack))

  -- The tokens held are those of the trees at the lowest level.
  pub held_list : map as_token held ≡ flat (bottom s.stack)
  held_list = ap (drop 1) lowest_list

  -- They are the tokens of whole trees.
  pub held_whole : (list : List TokenTree) → list ≡ map as_token held → IsWhole list
  held_whole list told = (bottom s.stack, told ∙ held_list)

  -- After the top's header, with its count, they are the flat list of the tree.
  pub built_list : (list : List TokenTree) → list ≡ map as_token held → header top (length list) ∷ list ≡ flat_root (built s)
  built_list list told =
      let top_is : top ≡ s.top = same_delimiter top s.top 0 0 (map as_token held) (flat (bottom s.stack)) lowest_list in
      ap (λ l. header top (length l) ∷ l) (told ∙ held_list) ∙ ap₂ (λ d n. header d n ∷ flat (bottom s.stack)) top_is (length-flat (bottom s.stack))

-- If no subtree is open, there are no places of open headers.
no_places : (stack : Stack) → (IsAbove stack → ⊥) → places stack ≡ []
no_places (lowest trees) none = refl
no_places (above outer kind open_span trees) none = absurd (none tt)

-- A list whose first token is no header of all others is not that of one node.
pub no_node : (trees : Forest) → is_one_node (flat trees) ≡ false → one_root trees ≡ None
no_node end e = refl
no_node (leaf it rest) e = refl
no_node (node d children end) e =
    let same : size children ≡ length (flat children ++ []) = omega (arith, length-append (flat children) [], length-flat children) in
    absurd (cc (e, eq-eqb (size children) (length (flat children ++ [])) same))
no_node (node d children (leaf it rest)) e = refl
no_node (node d children (node other inner rest)) e = refl

-- the trees are one node
pub record IsNode (trees : Forest) : Type 0 where
  pub root : Root
  pub one : one_root trees ≡ Some root
  pub list : flat trees ≡ flat_root root
  pub smaller : size root.children ≤ size trees

-- A list whose first token is a header of all others is that of one node.
pub one_node : (trees : Forest) → is_one_node (flat trees) ≡ true → IsNode trees
one_node end e = absurd (cc e)
one_node (leaf it rest) e = absurd (cc e)
one_node (node d children end) e =
    record {
      root = record { delimiter = d; children = children };
      one = refl;
      list = ap (λ l. header d (size children) ∷ l) (append-nil (flat children));
      smaller = omega arith;
    }
one_node (node d children (leaf it rest)) e =
    absurd (omega (arith, eqb-true (size children) (length (flat children ++ token.Leaf it ∷ flat rest)) e, length-append (flat children) (token.Leaf it ∷ flat rest), length-flat children))
one_node (node d children (node other inner rest)) e =
    absurd (omega (arith, eqb-true (size children) (length (flat children ++ flat (node other inner rest))) e, length-append (flat children) (flat (node other inner rest)), length-flat children))

-- The list of such trees is that of one node.
pub node_list : (trees : Forest) (list : List TokenTree) → list ≡ flat trees → IsNode trees → IsOneNode list
node_list trees list told one =
    record {
      top = record { delimiter = one.root.delimiter; len = size one.root.children };
      rest = flat one.root.children;
      list = told ∙ one.list;
      counted = sym (length-flat one.root.children);
    }

-- If no header is open, interned tokens show whether they are those of one node.
node_named : (tables : Tables) (tokens : List InternedToken) (held : List HeldToken) → AllName tables tokens held → open_places 1 held ≡ [] → is_named_node tokens ≡ is_one_node (map as_token held)
node_named tables [] [] named none = refl
node_named tables [] (h ∷ held) named none = absurd named
node_named tables (t ∷ tokens) [] named none = absurd named
node_named tables (interned.Leaf entry ∷ tokens) (whole (token.Leaf it) ∷ held) named none = refl
node_named tables (interned.Leaf entry ∷ tokens) (whole (token.Subtree it) ∷ held) named none = absurd named.0
node_named tables (interned.Leaf entry ∷ tokens) (opened kind open_span ∷ held) named none = absurd named.0
node_named tables (interned.Open kind numbers ∷ tokens) (whole it ∷ held) named none = absurd named.0
node_named tables (interned.Open kind numbers ∷ tokens) (opened other open_span ∷ held) named none = absurd (cc none)
node_named tables (interned.Header entry ∷ tokens) (whole (token.Leaf it) ∷ held) named none = absurd named.0
node_named tables (interned.Header entry ∷ tokens) (whole (token.Subtree it) ∷ held) named none =
    ap₂ nat_eq named.0.0.len (length-named tables tokens held named.1 ∙ sym (length-map held as_token))
node_named tables (interned.Header entry ∷ tokens) (opened kind open_span ∷ held) named none = absurd named.0

module _ (top : Delimiter) (held : List HeldToken) (headers : List ℕ) (mark : Option ℕ) (points : List Standing) (taken : ℕ) (s : BuilderState)
    (is : IsStateOf (all_tokens top held) headers mark points taken s) (none : IsOpen s → ⊥) (opens : AreOpenIn held headers) where
  none_open : open_places 1 held ≡ []
  none_open = opens ∙ is.open_places ∙ no_places s.stack none

  -- They show whether the trees are one node.
  pub one_named : (tokens : List InternedToken) → AreNamed tokens held → is_named_node tokens ≡ is_one_node (flat (bottom s.stack))
  one_named tokens are = node_named are.0 tokens held are.1 none_open ∙ ap is_one_node (held_list top held headers mark points taken s is none)
