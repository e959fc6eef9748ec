-- A header among small tokens gets its close span and its count.
use Rattle.std.proofs.Common.{◌≡◌, ℕ, zero, suc, ◌<◌, ◌≤◌, bytes_eq, List, [], ◌∷◌, Some, length, set, get_or, slice_get, refl, ap, sym, subst, ◌∙◌, arith}
use Rattle.std.proofs.lemmas.List.{length-set, set-get_or}
use Rattle.std.proofs.lemmas.Option.{get_or_from_slice_get, slice_get_within}
use Rattle.std.specs.List.{AllZip}
use Rattle.tt_base.specs.declared.delimiter.Subtree.{Subtree}
use Rattle.tt_base.specs.declared.leaf.Leaf.{Leaf}
use Rattle.tt_base.specs.declared.span.Span.{Span}
use Rattle.tt_base.specs.declared.span.SpanPart.{SpanPart}
use Rattle.tt_base.specs.declared.token_tree.TokenTree.{TokenTree}
use Rattle.tt_base.specs.declared.token_tree.TokenTree.TheVariants as token
use Rattle.tt_tables.specs.declared.small.Form.{Form}
use Rattle.tt_tables.specs.declared.small.Form.TheVariants as form
use Rattle.tt_tables.specs.declared.small.Small.{Small}
use Rattle.tt_tables.specs.Counts.{CountsUses}
use Rattle.tt_tables.specs.SmallHeld.{AreSmall, small_tables, closed_token}
use Rattle.tt_tables.specs.SmallMeaning.{Means, MeansBy, AreRanked, RankedBy}
use Rattle.tt_tables.specs.TableOrder.{different}
use Rattle.tt_tables.specs.Tables.{Tables}
use Rattle.tt_tables.specs.Uses.{token_symbols, symbol_uses}
use Rattle.tt_tables.proofs.Using.{same_uses_set}

-- Another place keeps its item.
get-set-after : {X : Type 0} (xs : List X) (i j : ℕ) (x : X) → i < j → slice_get (set xs i x) j ≡ slice_get xs j
get-set-after [] i j x h = refl
get-set-after (y ∷ xs) zero zero x h = absurd (omega (arith, h))
get-set-after (y ∷ xs) zero (suc j) x h = refl
get-set-after (y ∷ xs) (suc i) zero x h = absurd (omega (arith, h))
get-set-after (y ∷ xs) (suc i) (suc j) x h = get-set-after xs i j x (omega (arith, h))

get-set-before : {X : Type 0} (xs : List X) (i j : ℕ) (x : X) → j < i → slice_get (set xs i x) j ≡ slice_get xs j
get-set-before [] i j x h = refl
get-set-before (y ∷ xs) zero j x h = absurd (omega (arith, h))
get-set-before (y ∷ xs) (suc i) zero x h = refl
get-set-before (y ∷ xs) (suc i) (suc j) x h = get-set-before xs i j x (omega (arith, h))

get-set : {X : Type 0} (xs : List X) (i : ℕ) (x : X) → i < length xs → slice_get (set xs i x) i ≡ Some x
get-set [] i x h = absurd (omega (arith, h))
get-set (y ∷ xs) zero x h = refl
get-set (y ∷ xs) (suc i) x h = get-set xs i x (omega (arith, h))

-- A header has at least the rank of those before it.
ranked_from : (n : ℕ) (tokens : List Small) (next place : ℕ) (small : Small) → AreRanked n tokens next → slice_get tokens place ≡ Some small → small.form ≡ form.Header → next ≤ small.value
ranked_from n [] next place small ranked at is = absurd (cc at)
ranked_from n (t ∷ tokens) next zero small ranked at is =
    let one : t ≡ small = cc at in
    let first : RankedBy form.Header t.value next (AreRanked n tokens) = subst (λ f. RankedBy f t.value next (AreRanked n tokens)) (ap (λ s. s.form) one ∙ is) ranked in
    omega (arith, first.0, ap (λ s. s.value) one)
ranked_from n (t ∷ tokens) next (suc place) small ranked at is = by_form t.form ranked (λ m later. ranked_from n tokens m place small later at is)
  where
    by_form : (f : Form) → RankedBy f t.value next (AreRanked n tokens) → ((m : ℕ) → AreRanked n tokens m → m ≤ small.value) → next ≤ small.value
    by_form form.Header later others = omega (arith, others (suc next) later.1)
    by_form (form.Punct spacing) later others = others next later
    by_form (form.Ident raw) later others = others next later
    by_form (form.Literal kind) later others = others next later
    by_form form.Odd later others = others next later

module _ (tables : Tables) (headers : List Subtree) (leaves : List Leaf) (n : ℕ) (new : Subtree) where
  -- The tokens after it keep their meaning.
  later_mean : (i : ℕ) (tokens : List Small) (list : List TokenTree) (next : ℕ) → i < next → AreRanked n tokens next → AllZip (Means tables headers leaves) tokens list
      → AllZip (Means tables (set headers i new) leaves) tokens list
  later_mean i [] [] next h ranked means = tt
  later_mean i [] (g ∷ list) next h ranked means = absurd means
  later_mean i (t ∷ tokens) [] next h ranked means = absurd means
  later_mean i (t ∷ tokens) (token.Leaf g ∷ list) next h ranked means = by_form t.form ranked means.0 (λ m before later. later_mean i tokens list m before later means.1)
    where
      by_form : (f : Form) → RankedBy f t.value next (AreRanked n tokens) → MeansBy f tables headers leaves t (token.Leaf g)
          → ((m : ℕ) → i < m → AreRanked n tokens m → AllZip (Means tables (set headers i new) leaves) tokens list)
          → MeansBy f tables (set headers i new) leaves t (token.Leaf g) × AllZip (Means tables (set headers i new) leaves) tokens list
      by_form form.Header later one others = absurd one
      by_form (form.Punct spacing) later one others = (one, others next h later)
      by_form (form.Ident raw) later one others = (one, others next h later)
      by_form (form.Literal kind) later one others = (one, others next h later)
      by_form form.Odd later one others = (one, others next h later)
  later_mean i (t ∷ tokens) (token.Subtree g ∷ list) next h ranked means = by_form t.form ranked means.0 (λ m before later. later_mean i tokens list m before later means.1)
    where
      by_form : (f : Form) → RankedBy f t.value next (AreRanked n tokens) → MeansBy f tables headers leaves t (token.Subtree g)
          → ((m : ℕ) → i < m → AreRanked n tokens m → AllZip (Means tables (set headers i new) leaves) tokens list)
          → MeansBy f tables (set headers i new) leaves t (token.Subtree g) × AllZip (Means tables (set headers i new) leaves) tokens list
      by_form form.Header later one others =
          (get-set-after headers i t.value new (omega (arith, h, later.0)) ∙ one, others (suc next) (omega (arith, h)) later.1)
      by_form (form.Punct spacing) later one others = absurd one
      by_form (form.Ident raw) later one others = absurd one
      by_form (form.Literal kind) later one others = absurd one
      by_form form.Odd later one others = absurd one

  -- It means the new header, and all others what they meant.
  set_mean : (tokens : List Small) (list : List TokenTree) (next place : ℕ) (small : Small) → AreRanked n tokens next → slice_get tokens place ≡ Some small → small.form ≡ form.Header
      → small.value < length headers → AllZip (Means tables headers leaves) tokens list → AllZip (Means tables (set headers small.value new) leaves) tokens (set list place (token.Subtree new))
  set_mean [] list next place small ranked at is within means = absurd (cc at)
  set_mean (t ∷ tokens) [] next place small ranked at is within means = absurd means
  set_mean (t ∷ tokens) (g ∷ list) next zero small ranked at is within means =
      let one : t ≡ small = cc at in
      let same : t.form ≡ form.Header = ap (λ s. s.form) one ∙ is in
      let value : t.value ≡ small.value = ap (λ s. s.value) one in
      let first : RankedBy form.Header t.value next (AreRanked n tokens) = subst (λ f. RankedBy f t.value next (AreRanked n tokens)) same ranked in (
        subst (λ f. MeansBy f tables (set headers small.value new) leaves t (token.Subtree new)) (sym same) (ap (slice_get (set headers small.value new)) value ∙ get-set headers small.value new within),
        later_mean small.value tokens list (suc next) (omega (arith, first.0, value)) first.1 means.1,
      )
  set_mean (t ∷ tokens) (token.Leaf g ∷ list) next (suc place) small ranked at is within means = by_form t.form ranked means.0 (λ m later. set_mean tokens list m place small later at is within means.1)
    where
      by_form : (f : Form) → RankedBy f t.value next (AreRanked n tokens) → MeansBy f tables headers leaves t (token.Leaf g)
          → ((m : ℕ) → AreRanked n tokens m → AllZip (Means tables (set headers small.value new) leaves) tokens (set list place (token.Subtree new)))
          → MeansBy f tables (set headers small.value new) leaves t (token.Leaf g) × AllZip (Means tables (set headers small.value new) leaves) tokens (set list place (token.Subtree new))
      by_form form.Header later one others = absurd one
      by_form (form.Punct spacing) later one others = (one, others next later)
      by_form (form.Ident raw) later one others = (one, others next later)
      by_form (form.Literal kind) later one others = (one, others next later)
      by_form form.Odd later one others = (one, others next later)
  set_mean (t ∷ tokens) (token.Subtree g ∷ list) next (suc place) small ranked at is within means = by_form t.form ranked means.0 (λ m later. set_mean tokens list m place small later at is within means.1)
    where
      by_form : (f : Form) → RankedBy f t.value next (AreRanked n tokens) → MeansBy f tables headers leaves t (token.Subtree g)
          → ((m : ℕ) → AreRanked n tokens m → AllZip (Means tables (set headers small.value new) leaves) tokens (set list place (token.Subtree new)))
          → MeansBy f tables (set headers small.value new) leaves t (token.Subtree g) × AllZip (Means tables (set headers small.value new) leaves) tokens (set list place (token.Subtree new))
      by_form form.Header later one others = (
        get-set-before headers small.value t.value new (omega (arith, later.0, ranked_from n tokens (suc next) place small later.1 at is)) ∙ one,
        others (suc next) later.1,
      )
      by_form (form.Punct spacing) later one others = absurd one
      by_form (form.Ident raw) later one others = absurd one
      by_form (form.Literal kind) later one others = absurd one
      by_form form.Odd later one others = absurd one

-- The token that is meant at a place.
pub meant_at : (tables : Tables) (headers : List Subtree) (leaves : List Leaf) (tokens : List Small) (list : List TokenTree) (place : ℕ) (small : Small)
    → AllZip (Means tables headers leaves) tokens list → slice_get tokens place ≡ Some small → (it : TokenTree) × (slice_get list place ≡ Some it) × Means tables headers leaves small it
meant_at tables headers leaves [] list place small means at = absurd (cc at)
meant_at tables headers leaves (t ∷ tokens) [] place small means at = absurd means
meant_at tables headers leaves (t ∷ tokens) (h ∷ list) zero small means at =
    let one : t ≡ small = cc at in
    (h, refl, subst (λ s. Means tables headers leaves s h) one means.0)
meant_at tables headers leaves (t ∷ tokens) (h ∷ list) (suc place) small means at = meant_at tables headers leaves tokens list place small means.1 at

-- There are as many small tokens as tokens.
pub as_many_small : (tables : Tables) (headers : List Subtree) (leaves : List Leaf) (tokens : List Small) (list : List TokenTree) → AllZip (Means tables headers leaves) tokens list → length tokens ≡ length list
as_many_small tables headers leaves [] [] means = refl
as_many_small tables headers leaves [] (h ∷ list) means = absurd means
as_many_small tables headers leaves (t ∷ tokens) [] means = absurd means
as_many_small tables headers leaves (t ∷ tokens) (h ∷ list) means = omega (arith, as_many_small tables headers leaves tokens list means.1)

module _ (part : SpanPart) (tokens : List Small) (headers : List Subtree) (leaves : List Leaf) (symbols : List (List ℕ × ℕ)) (list : List TokenTree) (is : AreSmall part tokens headers leaves symbols list)
    (place : ℕ) (small : Small) (at : slice_get tokens place ≡ Some small) where
  -- A header is at its place among the headers.
  pub header_there : small.form ≡ form.Header → (it : Subtree) × (slice_get headers small.value ≡ Some it) × (slice_get list place ≡ Some (token.Subtree it))
  header_there header = by_token (meant_at (small_tables part symbols) headers leaves tokens list place small is.means at)
    where
      by_token : (it : TokenTree) × (slice_get list place ≡ Some it) × Means (small_tables part symbols) headers leaves small it
          → (it : Subtree) × (slice_get headers small.value ≡ Some it) × (slice_get list place ≡ Some (token.Subtree it))
      by_token (token.Leaf it, there, means) = absurd (subst (λ f. MeansBy f (small_tables part symbols) headers leaves small (token.Leaf it)) header means)
      by_token (token.Subtree it, there, means) = (it, subst (λ f. MeansBy f (small_tables part symbols) headers leaves small (token.Subtree it)) header means, there)

  -- The header is closed.
  pub small_closed : (now : List Subtree) (close_span : Span) (len : ℕ) (old new : Subtree) (d : TokenTree) → small.form ≡ form.Header → slice_get headers small.value ≡ Some old
      → token.Subtree new ≡ closed_token close_span len (token.Subtree old) → now ≡ set headers small.value new
      → AreSmall part tokens now leaves symbols (set list place (closed_token close_span len (get_or list place d)))
  small_closed now close_span len old new d header there closed changed =
      let (it, at_rank, here) = header_there header in
      let both : Some it ≡ Some old = sym at_rank ∙ there in
      let one : it ≡ old = cc both in
      let read : get_or list place d ≡ token.Subtree old = get_or_from_slice_get list place (token.Subtree it) d here ∙ ap token.Subtree one in
      let becomes : closed_token close_span len (get_or list place d) ≡ token.Subtree new = ap (closed_token close_span len) read ∙ sym closed in
      subst (λ h. AreSmall part tokens h leaves symbols (set list place (closed_token close_span len (get_or list place d)))) (sym changed)
      (subst (λ t. AreSmall part tokens (set headers small.value new) leaves symbols (set list place t)) (sym becomes) (made it here))
    where
      made : (it : Subtree) → slice_get list place ≡ Some (token.Subtree it) → AreSmall part tokens (set headers small.value new) leaves symbols (set list place (token.Subtree new))
      made it here =
          let same : symbol_uses (set list place (token.Subtree new)) ≡ symbol_uses list = same_uses_set token_symbols list place (token.Subtree it) (token.Subtree new) here refl in
          record {
            means = set_mean (small_tables part symbols) headers leaves (length headers) new tokens list 0 place small is.ranked at header (slice_get_within headers small.value old there) is.means;
            ranked = subst (λ n. AreRanked n tokens 0) (sym (length-set headers small.value new)) is.ranked;
            counted = subst (λ uses. CountsUses bytes_eq uses symbols) (sym same) is.counted;
            in_order = is.in_order ∙ ap (different bytes_eq) (sym same);
            few = omega (arith, is.few, length-set list place (token.Subtree new));
            few_headers = omega (arith, is.few_headers, length-set list place (token.Subtree new), length-set headers small.value new);
            few_leaves = omega (arith, is.few_leaves, length-set list place (token.Subtree new));
          }

  -- A leaf stays as it is.
  pub leaf_stays_closed : (close_span : Span) (len : ℕ) (d : TokenTree) → (small.form ≡ form.Header → ⊥) → set list place (closed_token close_span len (get_or list place d)) ≡ list
  leaf_stays_closed close_span len d other = by_token (meant_at (small_tables part symbols) headers leaves tokens list place small is.means at)
    where
      by_form : (f : Form) (it : Subtree) → (f ≡ form.Header → ⊥) → MeansBy f (small_tables part symbols) headers leaves small (token.Subtree it) → ⊥
      by_form form.Header it none means = none refl
      by_form (form.Punct spacing) it none means = means
      by_form (form.Ident raw) it none means = means
      by_form (form.Literal kind) it none means = means
      by_form form.Odd it none means = means

      by_token : (it : TokenTree) × (slice_get list place ≡ Some it) × Means (small_tables part symbols) headers leaves small it → set list place (closed_token close_span len (get_or list place d)) ≡ list
      by_token (token.Leaf it, there, means) =
          let read : get_or list place d ≡ token.Leaf it = get_or_from_slice_get list place (token.Leaf it) d there in
          ap (λ t. set list place (closed_token close_span len t)) read ∙ ap (set list place) (sym read) ∙ set-get_or list place d
      by_token (token.Subtree it, there, means) = absurd (by_form small.form it other means)
