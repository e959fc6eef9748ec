-- Reading small tokens whose spans have one part.
use Rattle.std.proofs.Common.{◌≡◌, ℕ, zero, suc, ◌%◌, ◌^◌, take, drop, Bool, true, false, not, List, [], ◌∷◌, inl, inr, All, Some, Result, Ok, Err, IfOk, bytes_eq, slice_get, refl, ap, sym, subst, ◌∙◌}
use Rattle.std.proofs.lemmas.Bool.{true≢false}
use Rattle.std.proofs.lemmas.List.Elements.{All-get_or}
use Rattle.std.proofs.lemmas.Option.{get_or_from_slice_get, slice_get_within}
use Rattle.std.specs.List.{AllByRecursion, AllZip}
use Rattle.std.specs.Map.{keys_of}
use Rattle.tt_base.specs.declared.delimiter.Subtree.{Subtree}
use Rattle.tt_base.specs.declared.ident.IdentIsRaw.{IdentIsRaw}
use Rattle.tt_base.specs.declared.leaf.Leaf.{Leaf}
use Rattle.tt_base.specs.declared.leaf.Leaf.TheVariants as leaf
use Rattle.tt_base.specs.declared.literal.LitKind.{LitKind}
use Rattle.tt_base.specs.declared.punct.Spacing.{Spacing}
use Rattle.tt_base.specs.declared.span.SpanPart.{SpanPart}
use Rattle.tt_base.specs.declared.token_tree.TokenTree.{TokenTree}
use Rattle.tt_base.specs.declared.token_tree.TokenTree.TheVariants as token
use Rattle.tt_base.specs.Fits.{LeafInRange, TokenInRange}
use Rattle.tt_base.specs.Span.{part_of}
use Rattle.tt_base.specs.Token.{leaf_span}
use Rattle.tt_codec.specs.declared.entry.LeafEntry.{LeafEntry}
use Rattle.tt_codec.specs.declared.entry.LeafEntry.TheVariants.{Punct as punct, Ident as ident, Literal as literal}
use Rattle.tt_tables.specs.declared.small.Form.{Form}
use Rattle.tt_tables.specs.declared.small.Form.TheVariants as form
use Rattle.tt_tables.specs.declared.small.Small.{Small}
use Rattle.tt_tables.specs.declared.token.InternedToken.{InternedToken}
use Rattle.tt_tables.specs.declared.token.InternedToken.TheVariants as interned
use Rattle.tt_tables.specs.Held.{whole}
use Rattle.tt_tables.specs.Names.{Names}
use Rattle.tt_tables.specs.OnePart.{HasOnePart, HeadersHave, LeavesHave, NamesAt, numbered_leaf, numbered_header}
use Rattle.tt_tables.specs.SmallHeld.{AreSmall, small_tables}
use Rattle.tt_tables.specs.SmallMeaning.{Means, MeansBy, NamesSymbol, small_numbers, small_punct, small_ident, small_literal}
use Rattle.tt_tables.specs.TableOrder.{different}
use Rattle.tt_tables.specs.Tables.{tables_from}
use Rattle.tt_tables.specs.Uses.{same_part, symbol_uses, token_parts}
use Rattle.tt_tables.proofs.Members.{Member}
use Rattle.tt_tables.proofs.PlacesKept.{keeps_front, leaf_stays, name_stays}
use Rattle.tt_tables.proofs.Using.{take_drop}
use Rattle.tt_tables.specs.OneList.{leaf_alike}
use Rattle.tt_tables.specs.Searches.{FindsLeaf, IsLeaf, first_entries}
use Rattle.tt_tables.proofs.SmallClosing.{meant_at}
use Rattle.tt_tables.proofs.TokenTables.{part_sound}

-- The parts of each token are the one part.
one_part_at : (part : SpanPart) (list : List TokenTree) (place : ℕ) (it : TokenTree) → HasOnePart part list → slice_get list place ≡ Some it → AllByRecursion (λ other. other ≡ part) (token_parts it)
one_part_at part [] place it one at = absurd (cc at)
one_part_at part (token.Leaf h ∷ list) zero it one at =
    let is : token.Leaf h ≡ it = cc at in
    subst (λ t. AllByRecursion (λ other. other ≡ part) (token_parts t)) is (one.0, tt)
one_part_at part (token.Subtree h ∷ list) zero it one at =
    let is : token.Subtree h ≡ it = cc at in
    subst (λ t. AllByRecursion (λ other. other ≡ part) (token_parts t)) is (one.0, (one.1.0, tt))
one_part_at part (token.Leaf h ∷ list) (suc place) it one at = one_part_at part list place it one.1 at
one_part_at part (token.Subtree h ∷ list) (suc place) it one at = one_part_at part list place it one.1.1 at

member_is : (part x : SpanPart) (parts : List SpanPart) → AllByRecursion (λ other. other ≡ part) parts → Member x parts → x ≡ part
member_is part x [] all member = absurd member
member_is part x (y ∷ parts) all (inl is) = is ∙ all.0
member_is part x (y ∷ parts) all (inr later) = member_is part x parts all.1 later

only_place : (old part x : SpanPart) (i : ℕ) → x ≡ part → slice_get (old ∷ []) i ≡ Some x → slice_get (part ∷ []) i ≡ Some x
only_place old part x zero is at = ap Some (sym is)
only_place old part x (suc i) is at = absurd (cc at)

-- A token means the same under its own part.
under_part : (old part : SpanPart) (symbols : List (List ℕ)) (t : InternedToken) (it : TokenTree) → AllByRecursion (λ other. other ≡ part) (token_parts it) → Names (tables_from (old ∷ []) symbols) t (whole it)
    → Names (tables_from (part ∷ []) symbols) t (whole it)
under_part old part symbols t it all named =
    name_stays (tables_from (old ∷ []) symbols) (tables_from (part ∷ []) symbols) t (whole it) (λ i x member at. only_place old part x i (member_is part x (token_parts it) all member) at)
    (λ i x member at. at) named

-- A header in numbers means the header.
header_numbered : (part : SpanPart) (symbols : List (List ℕ)) (it : Subtree) → AllByRecursion (λ other. other ≡ part) (token_parts (token.Subtree it)) → TokenInRange (token.Subtree it)
    → Names (tables_from (part ∷ []) symbols) (interned.Header (numbered_header it)) (whole (token.Subtree it))
header_numbered part symbols it all range = (
  record {
    opening = record { part = ap Some (sym all.0); start = refl; length = refl };
    closing = record { part = ap Some (sym all.1.0); start = refl; length = refl };
    kind = refl;
    len = refl;
  },
  range,
)

-- A leaf in numbers means the leaf.
leaf_numbered : (part : SpanPart) (symbols : List (List ℕ)) (place : ℕ) (it : Leaf) → AllByRecursion (λ other. other ≡ part) (token_parts (token.Leaf it)) → NamesSymbol symbols place it → LeafInRange it
    → Names (tables_from (part ∷ []) symbols) (interned.Leaf (numbered_leaf place it)) (whole (token.Leaf it))
leaf_numbered part symbols place (leaf.Literal it) all at range = ((record { part = ap Some (sym all.0); start = refl; length = refl }, at, refl, refl), range)
leaf_numbered part symbols place (leaf.Punct it) all at range = ((record { part = ap Some (sym all.0); start = refl; length = refl }, refl, refl), range)
leaf_numbered part symbols place (leaf.Ident it) all at range = ((record { part = ap Some (sym all.0); start = refl; length = refl }, at, refl), range)

module _ (old : SpanPart) (tokens : List Small) (headers : List Subtree) (leaves : List Leaf) (symbols : List (List ℕ × ℕ)) (list : List TokenTree) (is : AreSmall old tokens headers leaves symbols list)
    (place : ℕ) (small : Small) (at : slice_get tokens place ≡ Some small) where
  same_token : (it meant : TokenTree) → slice_get list place ≡ Some it → slice_get list place ≡ Some meant → it ≡ meant
  same_token it meant x y =
      let both : Some it ≡ Some meant = sym x ∙ y in
      cc both

  -- A small token that has all its numbers.
  inline_named : (t : InternedToken) → ((it : TokenTree) → Means (small_tables old symbols) headers leaves small it → Names (small_tables old symbols) t (whole it)) → NamesAt list place t
  inline_named t names part one meant here =
      let (it, there, means) = meant_at (small_tables old symbols) headers leaves tokens list place small is.means at in
      subst (λ keys. Names (tables_from (part ∷ []) keys) t (whole meant)) is.in_order
      (under_part old part (keys_of symbols) t meant (one_part_at part list place meant one here) (subst (λ x. Names (small_tables old symbols) t (whole x)) (same_token it meant there here) (names it means)))

  means_as : (f : Form) → small.form ≡ f → (it : TokenTree) → Means (small_tables old symbols) headers leaves small it → MeansBy f (small_tables old symbols) headers leaves small it
  means_as f is it means = subst (λ f. MeansBy f (small_tables old symbols) headers leaves small it) is means

  pub punct_named : (spacing : Spacing) → small.form ≡ form.Punct spacing → NamesAt list place (small_punct spacing small)
  punct_named spacing is = inline_named (small_punct spacing small) (means_as (form.Punct spacing) is)

  pub ident_named : (raw : IdentIsRaw) → small.form ≡ form.Ident raw → NamesAt list place (small_ident raw small)
  ident_named raw is = inline_named (small_ident raw small) (means_as (form.Ident raw) is)

  pub literal_named : (kind : LitKind) → small.form ≡ form.Literal kind → NamesAt list place (small_literal kind small)
  literal_named kind is = inline_named (small_literal kind small) (means_as (form.Literal kind) is)

  -- A header.
  pub header_named : (it : Subtree) → small.form ≡ form.Header → slice_get headers small.value ≡ Some it → TokenInRange (token.Subtree it) → NamesAt list place (interned.Header (numbered_header it))
  header_named it header there range part one meant here =
      let (other, stands, means) = meant_at (small_tables old symbols) headers leaves tokens list place small is.means at in
      by_token other stands (subst (λ f. MeansBy f (small_tables old symbols) headers leaves small other) header means)
    where
      by_token : (other : TokenTree) → slice_get list place ≡ Some other → MeansBy form.Header (small_tables old symbols) headers leaves small other
          → Names (tables_from (part ∷ []) (different bytes_eq (symbol_uses list))) (interned.Header (numbered_header it)) (whole meant)
      by_token (token.Leaf other) stands means = absurd means
      by_token (token.Subtree other) stands means =
          let both : Some it ≡ Some other = sym there ∙ means in
          let one_header : it ≡ other = cc both in
          let same : token.Subtree it ≡ meant = ap token.Subtree one_header ∙ same_token (token.Subtree other) meant stands here in
          subst (λ x. Names (tables_from (part ∷ []) (different bytes_eq (symbol_uses list))) (interned.Header (numbered_header it)) (whole x)) same
          (header_numbered part (different bytes_eq (symbol_uses list)) it (subst (λ x. AllByRecursion (λ other. other ≡ part) (token_parts x)) (sym same) (one_part_at part list place meant one here)) range)

  -- A leaf that does not fit twelve bytes.
  pub odd_named : (it : Leaf) → small.form ≡ form.Odd → slice_get leaves small.value ≡ Some it → LeafInRange it → NamesAt list place (interned.Leaf (numbered_leaf small.start it))
  odd_named it odd there range part one meant here =
      let (other, stands, means) = meant_at (small_tables old symbols) headers leaves tokens list place small is.means at in
      by_token other stands (subst (λ f. MeansBy f (small_tables old symbols) headers leaves small other) odd means)
    where
      by_token : (other : TokenTree) → slice_get list place ≡ Some other → MeansBy form.Odd (small_tables old symbols) headers leaves small other
          → Names (tables_from (part ∷ []) (different bytes_eq (symbol_uses list))) (interned.Leaf (numbered_leaf small.start it)) (whole meant)
      by_token (token.Subtree other) stands means = absurd means
      by_token (token.Leaf other) stands means =
          let both : Some it ≡ Some other = sym there ∙ means.0 in
          let one_leaf : it ≡ other = cc both in
          let same : token.Leaf it ≡ meant = ap token.Leaf one_leaf ∙ same_token (token.Leaf other) meant stands here in
          subst (λ x. Names (tables_from (part ∷ []) (different bytes_eq (symbol_uses list))) (interned.Leaf (numbered_leaf small.start it)) (whole x)) same
          (leaf_numbered part (different bytes_eq (symbol_uses list)) small.start it (subst (λ x. AllByRecursion (λ other. other ≡ part) (token_parts x)) (sym same) (one_part_at part list place meant one here))
          (subst (λ keys. NamesSymbol keys small.start it) is.in_order (subst (NamesSymbol (keys_of symbols) small.start) (sym one_leaf) means.1)) range)

  -- A leaf is at its place.
  pub leaf_there : small.form ≡ form.Odd → (it : Leaf) × (slice_get leaves small.value ≡ Some it)
  leaf_there odd = by_token (meant_at (small_tables old symbols) headers leaves tokens list place small is.means at)
    where
      by_token : (it : TokenTree) × (slice_get list place ≡ Some it) × Means (small_tables old symbols) headers leaves small it → (it : Leaf) × (slice_get leaves small.value ≡ Some it)
      by_token (token.Subtree it, there, means) = absurd (subst (λ f. MeansBy f (small_tables old symbols) headers leaves small (token.Subtree it)) odd means)
      by_token (token.Leaf it, there, means) = (it, (subst (λ f. MeansBy f (small_tables old symbols) headers leaves small (token.Leaf it)) odd means).0)

-- ---- one part

member_of : {X : Type 0} (P : X → Type 0) (xs : List X) (i : ℕ) (x : X) → All P xs → slice_get xs i ≡ Some x → P x
member_of P xs i x all at = subst P (get_or_from_slice_get xs i x x at) (All-get_or P xs i x (slice_get_within xs i x at) all)

first_part : (part x : SpanPart) → slice_get (part ∷ []) 0 ≡ Some x → x ≡ part
first_part part x at = cc at

module _ (part : SpanPart) (symbols : List (List ℕ × ℕ)) (headers : List Subtree) (leaves : List Leaf) (headers_have : HeadersHave part headers) (leaves_have : LeavesHave part leaves) where
  part_by : (f : Form) (small : Small) (it : TokenTree) → MeansBy f (small_tables part symbols) headers leaves small it → AllByRecursion (λ other. other ≡ part) (token_parts it)
  part_by (form.Punct spacing) small (token.Leaf (leaf.Punct it)) means = (first_part part _ means.0.0.part, tt)
  part_by (form.Punct spacing) small (token.Leaf (leaf.Ident it)) means = absurd means.0
  part_by (form.Punct spacing) small (token.Leaf (leaf.Literal it)) means = absurd means.0
  part_by (form.Punct spacing) small (token.Subtree it) means = absurd means
  part_by (form.Ident raw) small (token.Leaf (leaf.Punct it)) means = absurd means.0
  part_by (form.Ident raw) small (token.Leaf (leaf.Ident it)) means = (first_part part _ means.0.0.part, tt)
  part_by (form.Ident raw) small (token.Leaf (leaf.Literal it)) means = absurd means.0
  part_by (form.Ident raw) small (token.Subtree it) means = absurd means
  part_by (form.Literal kind) small (token.Leaf (leaf.Punct it)) means = absurd means.0
  part_by (form.Literal kind) small (token.Leaf (leaf.Ident it)) means = absurd means.0
  part_by (form.Literal kind) small (token.Leaf (leaf.Literal it)) means = (first_part part _ means.0.0.part, tt)
  part_by (form.Literal kind) small (token.Subtree it) means = absurd means
  part_by form.Header small (token.Leaf it) means = absurd means
  part_by form.Header small (token.Subtree it) means =
      let both = member_of (λ it. (part_of it.delimiter.open_span ≡ part) × (part_of it.delimiter.close ≡ part)) headers small.value it headers_have means in
      (both.0, (both.1, tt))
  part_by form.Odd small (token.Leaf it) means = (member_of (λ it. part_of (leaf_span it) ≡ part) leaves small.value it leaves_have means.0, tt)
  part_by form.Odd small (token.Subtree it) means = absurd means

  -- All parts that the tokens use are the one part.
  pub one_part_of : (tokens : List Small) (list : List TokenTree) → AllZip (Means (small_tables part symbols) headers leaves) tokens list → HasOnePart part list
  one_part_of [] [] means = tt
  one_part_of [] (h ∷ list) means = absurd means
  one_part_of (t ∷ tokens) [] means = absurd means
  one_part_of (t ∷ tokens) (token.Leaf h ∷ list) means = ((part_by t.form t (token.Leaf h) means.0).0, one_part_of tokens list means.1)
  one_part_of (t ∷ tokens) (token.Subtree h ∷ list) means =
      let both = part_by t.form t (token.Subtree h) means.0 in
      (both.0, (both.1.0, one_part_of tokens list means.1))

-- A part that does not differ is the same.
pub same_if_not_other : (a b : SpanPart) (differ : Bool) → differ ≡ not (same_part a b) → differ ≡ false → a ≡ b
same_if_not_other a b differ told alike = part_sound a b (was_same (same_part a b) (sym told ∙ alike))
  where
    was_same : (t : Bool) → not t ≡ false → t ≡ true
    was_same true h = refl
    was_same false h = absurd (true≢false h)

-- ---- a token at a place

cut_keeps : {X : Type 0} (n : ℕ) (xs : List X) (i : ℕ) (x : X) → slice_get (take n xs) i ≡ Some x → slice_get xs i ≡ Some x
cut_keeps n xs i x at = subst (λ l. slice_get l i ≡ Some x) (sym (take_drop n xs)) (keeps_front (take n xs) (drop n xs) i x at)

-- Numbers name only one leaf, also under the first entries.
pub one_leaf_named : (part : SpanPart) (symbols : List (List ℕ)) (entry : LeafEntry) (found : TokenTree) (it : Leaf) → IsLeaf (first_entries (part ∷ []) symbols) entry found
    → FindsLeaf (tables_from (part ∷ []) symbols) entry it → found ≡ token.Leaf it
one_leaf_named part symbols entry (token.Subtree found) it is finds = absurd is
one_leaf_named part symbols entry (token.Leaf found) it is finds =
    ap token.Leaf (leaf_alike (tables_from (part ∷ []) symbols) entry found it
    (leaf_stays (first_entries (part ∷ []) symbols) (tables_from (part ∷ []) symbols) entry found (λ i x member at. cut_keeps (2 ^ 28) (part ∷ []) i x at) (λ i x member at. cut_keeps (2 ^ 29) symbols i x at) is) finds)

module _ (old : SpanPart) (tokens : List Small) (headers : List Subtree) (leaves : List Leaf) (symbols : List (List ℕ × ℕ)) (list : List TokenTree) (is : AreSmall old tokens headers leaves symbols list)
    (place : ℕ) (small : Small) (at : slice_get tokens place ≡ Some small) where
  leaf_found : (entry : LeafEntry) (f : Form) → small.form ≡ f → ((it : TokenTree) → MeansBy f (small_tables old symbols) headers leaves small it → Names (small_tables old symbols) (interned.Leaf entry) (whole it))
      → (found : TokenTree) → ((it : Leaf) → FindsLeaf (small_tables old symbols) entry it → found ≡ token.Leaf it) → slice_get list place ≡ Some found
  leaf_found entry f form_is names found one =
      let (it, there, means) = meant_at (small_tables old symbols) headers leaves tokens list place small is.means at in
      by_token it there (names it (subst (λ f. MeansBy f (small_tables old symbols) headers leaves small it) form_is means))
    where
      by_token : (it : TokenTree) → slice_get list place ≡ Some it → Names (small_tables old symbols) (interned.Leaf entry) (whole it) → slice_get list place ≡ Some found
      by_token (token.Leaf it) there named = there ∙ ap Some (sym (one it named.0))
      by_token (token.Subtree it) there named = absurd named

  pub punct_found : (spacing : Spacing) → small.form ≡ form.Punct spacing → (found : TokenTree)
      → ((it : Leaf) → FindsLeaf (small_tables old symbols) (punct (small.value % 256) spacing (small_numbers small)) it → found ≡ token.Leaf it) → slice_get list place ≡ Some found
  punct_found spacing form_is found one = leaf_found (punct (small.value % 256) spacing (small_numbers small)) (form.Punct spacing) form_is (λ it means. means) found one

  pub ident_found : (raw : IdentIsRaw) → small.form ≡ form.Ident raw → (found : TokenTree)
      → ((it : Leaf) → FindsLeaf (small_tables old symbols) (ident small.value raw (small_numbers small)) it → found ≡ token.Leaf it) → slice_get list place ≡ Some found
  ident_found raw form_is found one = leaf_found (ident small.value raw (small_numbers small)) (form.Ident raw) form_is (λ it means. means) found one

  pub literal_found : (kind : LitKind) → small.form ≡ form.Literal kind → (found : TokenTree)
      → ((it : Leaf) → FindsLeaf (small_tables old symbols) (literal small.value kind 0 (small_numbers small)) it → found ≡ token.Leaf it) → slice_get list place ≡ Some found
  literal_found kind form_is found one = leaf_found (literal small.value kind 0 (small_numbers small)) (form.Literal kind) form_is (λ it means. means) found one

  -- An odd leaf is the token.
  pub odd_found : small.form ≡ form.Odd → (it : Leaf) → slice_get leaves small.value ≡ Some it → slice_get list place ≡ Some (token.Leaf it)
  odd_found odd it there = by_token (meant_at (small_tables old symbols) headers leaves tokens list place small is.means at)
    where
      by_token : (other : TokenTree) × (slice_get list place ≡ Some other) × Means (small_tables old symbols) headers leaves small other → slice_get list place ≡ Some (token.Leaf it)
      by_token (token.Subtree other, stands, means) = absurd (subst (λ f. MeansBy f (small_tables old symbols) headers leaves small (token.Subtree other)) odd means)
      by_token (token.Leaf other, stands, means) =
          let both : Some other ≡ Some it = sym ((subst (λ f. MeansBy f (small_tables old symbols) headers leaves small (token.Leaf other)) odd means).0) ∙ there in
          let one : other ≡ it = cc both in
          stands ∙ ap (λ l. Some (token.Leaf l)) one

-- What follows from a clause on a value holds of the value.
pub if_ok : {A E : Type 0} {P Q : A → Type 0} (result : Result A E) → ((x : A) → P x → Q x) → IfOk result P → IfOk result Q
if_ok (Ok x) f holds = f x holds
if_ok (Err e) f holds = tt
