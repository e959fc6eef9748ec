-- The kinds and counts of interned tokens are those of the tokens held.
use Rattle.std.proofs.Common.{◌≡◌, ℕ, zero, suc, ◌+◌, ◌-◌, ◌<◌, ◌≤◌, true, false, List, [], ◌∷◌, Some, None, length, map, get_or, slice_get, refl, ap, ap₂, sym, subst, ◌∙◌, arith}
use Rattle.std.proofs.lemmas.Option.{slice_get-get_or}
use Rattle.std.specs.List.{AllByRecursion, remove}
use Rattle.std.specs.Prelude.{reverse}
use Rattle.tt_base.specs.declared.delimiter.Delimiter.{Delimiter}
use Rattle.tt_base.specs.declared.delimiter.DelimiterKind.TheVariants.{Invisible}
use Rattle.tt_base.specs.declared.delimiter.Subtree.{Subtree}
use Rattle.tt_base.specs.Building.{BuilderState, removed}
use Rattle.tt_base.specs.declared.token_tree.TokenTree.{TokenTree}
use Rattle.tt_base.specs.declared.token_tree.TokenTree.TheVariants as token
use Rattle.tt_base.specs.OneRoot.{is_invisible}
use Rattle.tt_tables.specs.declared.token.InternedToken.{InternedToken}
use Rattle.tt_tables.specs.declared.token.InternedToken.TheVariants as interned
use Rattle.tt_tables.specs.Held.{HeldToken, whole, opened, as_token}
use Rattle.tt_tables.specs.Interned.{AreNamed}
use Rattle.tt_tables.specs.Names.{Names, AllName}
use Rattle.tt_tables.proofs.PlacesKept.{length-named, named_at}
use Rattle.tt_tables.proofs.Opening.{all_from}
use Rattle.tt_tables.specs.Tables.{Tables}
use Rattle.tt.specs.BuilderFields.{kind_of, kind_at, kinds_at, invisible_token}
use Rattle.tt.specs.HeldList.{all_tokens, AreOpenIn}
use Rattle.tt.specs.InternedKinds.{named_kind, named_kind_at, named_kinds_at, is_named_invisible}
use Rattle.tt.specs.declared.builder.standing.Standing.{Standing}
use Rattle.tt.proofs.Steps.{Keeps, MarkThere, mark_whole, removed_keeps, mark_gone_keeps}

-- The kind at a place of the list.
pub named_kind_there : (tokens : List InternedToken) (place : ℕ) (d : InternedToken) → place < length tokens → named_kind_at tokens place ≡ named_kind (get_or tokens place d)
named_kind_there [] place d within = absurd (omega (arith, within))
named_kind_there (it ∷ tokens) zero d within = refl
named_kind_there (it ∷ tokens) (suc place) d within = named_kind_there tokens place d (omega (arith, within))

-- A place after the list has no kind.
pub no_named_kind : (tokens : List InternedToken) (place : ℕ) → length tokens ≤ place → named_kind_at tokens place ≡ Invisible
no_named_kind [] place past = refl
no_named_kind (it ∷ tokens) zero past = absurd (omega (arith, past))
no_named_kind (it ∷ tokens) (suc place) past = no_named_kind tokens place (omega (arith, past))

-- There are as many interned tokens as tokens held.
pub tokens_long : (tokens : List InternedToken) (held : List HeldToken) → AreNamed tokens held → length tokens ≡ length held
tokens_long tokens held are = length-named are.0 tokens held are.1

-- A token has the kind of the one that it means.
one_kind : (tables : Tables) (t : InternedToken) (h : HeldToken) → Names tables t h → named_kind t ≡ kind_of (as_token h)
one_kind tables (interned.Leaf entry) (whole (token.Leaf it)) named = refl
one_kind tables (interned.Leaf entry) (whole (token.Subtree it)) named = absurd named
one_kind tables (interned.Leaf entry) (opened kind open_span) named = absurd named
one_kind tables (interned.Open kind numbers) (whole it) named = absurd named
one_kind tables (interned.Open kind numbers) (opened other open_span) named = named.0
one_kind tables (interned.Header entry) (whole (token.Leaf it)) named = absurd named
one_kind tables (interned.Header entry) (whole (token.Subtree it)) named = named.0.kind
one_kind tables (interned.Header entry) (opened kind open_span) named = absurd named

kind_named : (tables : Tables) (tokens : List InternedToken) (held : List HeldToken) (place : ℕ) → AllName tables tokens held → named_kind_at tokens place ≡ kind_at (map as_token held) place
kind_named tables [] [] place named = refl
kind_named tables [] (h ∷ held) place named = absurd named
kind_named tables (t ∷ tokens) [] place named = absurd named
kind_named tables (t ∷ tokens) (h ∷ held) zero named = one_kind tables t h named.0
kind_named tables (t ∷ tokens) (h ∷ held) (suc place) named = kind_named tables tokens held place named.1

-- The kinds at places after the top.
kinds_map : (top : Delimiter) (tables : Tables) (tokens : List InternedToken) (held : List HeldToken) (places : List ℕ) → AllName tables tokens held → AllByRecursion (λ place. 1 ≤ place) places
    → map (λ place. named_kind_at tokens (place - 1)) places ≡ map (kind_at (all_tokens top held)) places
kinds_map top tables tokens held [] named all = refl
kinds_map top tables tokens held (zero ∷ places) named all = absurd (omega (arith, all.0))
kinds_map top tables tokens held (suc place ∷ places) named all =
    ap₂ ◌∷◌ (ap (named_kind_at tokens) (omega arith) ∙ kind_named tables tokens held place named) (kinds_map top tables tokens held places named all.1)

-- The kinds at the places of the open headers.
pub kinds_named : (top : Delimiter) (tokens : List InternedToken) (held : List HeldToken) (headers : List ℕ) → AreNamed tokens held → AreOpenIn held headers
    → named_kinds_at tokens headers ≡ kinds_at (all_tokens top held) headers
kinds_named top tokens held headers are opens = ap reverse (kinds_map top are.0 tokens held headers are.1 (subst (AllByRecursion (λ place. 1 ≤ place)) opens (all_from 1 held)))

-- ---- the mark

-- An interned token is invisible exactly if the whole token that it means is.
one_invisible : (tables : Tables) (t : InternedToken) (it : TokenTree) → Names tables t (whole it) → is_named_invisible t ≡ invisible_token it
one_invisible tables (interned.Leaf entry) (token.Leaf it) named = refl
one_invisible tables (interned.Leaf entry) (token.Subtree it) named = absurd named
one_invisible tables (interned.Open kind numbers) it named = absurd named
one_invisible tables (interned.Header entry) (token.Leaf it) named = absurd named
one_invisible tables (interned.Header entry) (token.Subtree it) named = ap is_invisible named.0.kind

-- the marked token is whole, and the interned one is invisible exactly if it is
pub record MarkedToken (held : List HeldToken) (place : ℕ) (t : InternedToken) : Type 0 where
  pub i : ℕ
  pub here : place ≡ 1 + i
  pub below : place - 1 ≡ i
  pub it : TokenTree
  pub at : slice_get held i ≡ Some (whole it)
  pub same : is_named_invisible t ≡ invisible_token it

pub marked_token_at : (top : Delimiter) (tokens : List InternedToken) (held : List HeldToken) (headers : List ℕ) (place : ℕ) (d : InternedToken) → AreOpenIn held headers → MarkThere top held headers place → AreNamed tokens held
    → MarkedToken held place (get_or tokens (place - 1) d)
marked_token_at top tokens held headers place d opens there are = by_place place refl there.behind
  where
    by_place : (p : ℕ) → place ≡ p → 1 ≤ place → MarkedToken held place (get_or tokens (place - 1) d)
    by_place zero e low = absurd (omega (arith, e, low))
    by_place (suc i) e low =
        let below : place - 1 ≡ i = omega (arith, e) in
        let here : place ≡ 1 + i = omega (arith, e) in
        let within : i < length tokens = omega (arith, there.within, tokens_long tokens held are, below) in
        let found : slice_get tokens i ≡ Some (get_or tokens (place - 1) d) = slice_get-get_or tokens i d within ∙ ap (λ j. Some (get_or tokens j d)) (sym below) in
        let (h, at, named) = named_at are.0 tokens held i (get_or tokens (place - 1) d) are.1 found in
        let whole_there = mark_whole held headers place i h opens there.before here at in
        let both : Some h ≡ Some (whole (as_token h)) = sym at ∙ whole_there in
        let is : h ≡ whole (as_token h) = cc both in
        record {
          i = i;
          here = here;
          below = below;
          it = as_token h;
          at = whole_there;
          same = one_invisible are.0 (get_or tokens (place - 1) d) (as_token h) (subst (Names are.0 (get_or tokens (place - 1) d)) is named);
        }

module _ (top : Delimiter) (held : List HeldToken) (headers : List ℕ) (points : List Standing) (taken : ℕ) (s : BuilderState) (place : ℕ) (t : InternedToken)
    (is : Keeps top held headers (Some place) points taken s) (m : MarkedToken held place t) where
  -- The marked header is invisible, and is removed.
  pub removed_marked : (now : List HeldToken) → is_named_invisible t ≡ true → ((it : Subtree) → slice_get held (place - 1) ≡ Some (whole (token.Subtree it)) → now ≡ remove held (place - 1))
      → Keeps top now headers None points taken (removed s)
  removed_marked now invisible out = by_token m.it m.at (sym m.same ∙ invisible)
    where
      by_token : (it : TokenTree) → slice_get held m.i ≡ Some (whole it) → invisible_token it ≡ true → Keeps top now headers None points taken (removed s)
      by_token (token.Leaf it) at never = absurd (cc never)
      by_token (token.Subtree it) at seen =
          removed_keeps top held now headers points taken s place m.i (token.Subtree it) is m.here at (out it (ap (slice_get held) m.below ∙ at) ∙ ap (remove held) m.below) seen

  -- The marked header is not invisible, and only the mark is cleared.
  pub gone_marked : is_named_invisible t ≡ false → Keeps top held headers None points taken (removed s)
  gone_marked visible = mark_gone_keeps top held headers points taken s place m.i m.it is m.here m.at (sym m.same ∙ visible)
