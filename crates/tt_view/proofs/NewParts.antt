-- With new ids there are no more span parts than before, and the same symbols.
use Rattle.std.proofs.Common.{◌≡◌, ℕ, suc, ◌≤◌, Bool, true, false, not, cond, ◌⊎◌, inl, inr, List, [], ◌∷◌, bytes_eq, filter, length, map, nat_le, refl, ap, ap₂, sym, ◌∙◌, arith}
use Rattle.std.proofs.lemmas.List.{length-map}
use Rattle.tt_base.specs.declared.fault.TtFault.{TtFault}
use Rattle.tt_base.specs.declared.fault.TtFault.TheVariants.{Memory, NotOneSubtree, NoSuchPlace, NotALeaf, SuffixTooLong, BadScan, TooManyTokens, TooManySpanParts, TooManySymbols, TooManyBytes, PointsSpent}
use Rattle.tt_base.specs.declared.span.ErasedFileAstId.{ErasedFileAstId}
use Rattle.tt_base.specs.declared.span.SpanPart.{SpanPart}
use Rattle.tt_base.specs.Forest.{Root, flat}
use Rattle.tt_tables.specs.AstIds.{ids_changed}
use Rattle.tt_tables.specs.Stored.{root_parts, IsWithinLimits}
use Rattle.tt_tables.specs.TableOrder.{different, falling, uses_of, table, IsEarlier}
use Rattle.tt_tables.specs.Tables.{part_table, symbol_table, short_parts, short_symbols}
use Rattle.tt_tables.specs.Uses.{same_part, part_uses, symbol_uses}
use Rattle.tt_tables.proofs.Respanned.{flat-respanned, part_by, span_by, part_uses-respanned, symbol_uses-respanned}
use Rattle.tt_tables.proofs.StoredAlike.{length-root_parts}
use Rattle.tt_tables.proofs.TableOrder.{length-falling}
use Rattle.tt_tables.proofs.TokenTables.{part_sound, part_complete}
use Rattle.tt_view.specs.TreeFault.{IsTreeFault}
use Rattle.tt_view.proofs.NewIds.{size-ids_changed}

-- Two filters may change their order.
filters_swap : {X : Type 0} (p q : X → Bool) (xs : List X) → filter p (filter q xs) ≡ filter q (filter p xs)
filters_swap p q [] = refl
filters_swap {X} p q (x ∷ xs) = by_tests (p x) refl (q x) refl (filters_swap p q xs)
  where
    a : List X
    a = filter p (filter q xs)

    b : List X
    b = filter q (filter p xs)

    by_tests : (s : Bool) → p x ≡ s → (t : Bool) → q x ≡ t → a ≡ b
        → filter p (cond t (x ∷ filter q xs) (filter q xs)) ≡ filter q (cond s (x ∷ filter p xs) (filter p xs))
    by_tests true e true f later = ap₂ (λ s l. cond s (x ∷ l) l) e later ∙ sym (ap (λ t. cond t (x ∷ b) b) f)
    by_tests true e false f later = later ∙ sym (ap (λ t. cond t (x ∷ b) b) f)
    by_tests false e true f later = ap (λ s. cond s (x ∷ a) a) e ∙ later
    by_tests false e false f later = later

-- A filter changes nothing the second time.
filter_twice : {X : Type 0} (p : X → Bool) (xs : List X) → filter p (filter p xs) ≡ filter p xs
filter_twice p [] = refl
filter_twice {X} p (x ∷ xs) = by_test (p x) refl (filter_twice p xs)
  where
    a : List X
    a = filter p (filter p xs)

    by_test : (t : Bool) → p x ≡ t → a ≡ filter p xs → filter p (cond t (x ∷ filter p xs) (filter p xs)) ≡ cond t (x ∷ filter p xs) (filter p xs)
    by_test true e later = ap (λ t. cond t (x ∷ a) a) e ∙ ap (λ l. x ∷ l) later
    by_test false e later = later

-- A filter makes no list longer.
filter_shortens : {X : Type 0} (p : X → Bool) (xs : List X) → length (filter p xs) ≤ length xs
filter_shortens p [] = omega arith
filter_shortens p (x ∷ xs) = by_test (p x) (filter_shortens p xs)
  where
    by_test : (t : Bool) → length (filter p xs) ≤ length xs → length (cond t (x ∷ filter p xs) (filter p xs)) ≤ suc (length xs)
    by_test true later = omega (arith, later)
    by_test false later = omega (arith, later)

-- `same` is whether two values are equal, and `alike` is whether two values of h are equal
module _ {X Y : Type 0} (same : X → X → Bool) (sound : (x y : X) → same x y ≡ true → x ≡ y) (alike : Y → Y → Bool) (complete : (y : Y) → alike y y ≡ true) (h : X → Y) where
  -- If h x is left out, it makes no difference whether x is in the list.
  but_one : (x : X) (ys : List X)
      → filter (λ z. not (alike (h x) z)) (different alike (map h ys))
      ≡ filter (λ z. not (alike (h x) z)) (different alike (map h (filter (λ y. not (same x y)) ys)))
  but_one x [] = refl
  but_one x (y ∷ ys) = by_test (same x y) refl (but_one x ys)
    where
      p : Y → Bool
      p z = not (alike (h x) z)

      q : Y → Bool
      q z = not (alike (h y) z)

      rest : List X
      rest = filter (λ y. not (same x y)) ys

      all : List Y
      all = different alike (map h ys)

      by_test : (t : Bool) → same x y ≡ t → filter p all ≡ filter p (different alike (map h rest))
          → filter p (h y ∷ filter q all) ≡ filter p (different alike (map h (cond (not t) (y ∷ rest) rest)))
      by_test true e later =
          ap (λ w. filter p (h w ∷ filter (λ z. not (alike (h w) z)) all)) (sym (sound x y e))
          ∙ ap (λ t. cond (not t) (h x ∷ filter p (filter p all)) (filter p (filter p all))) (complete (h x))
          ∙ filter_twice p all
          ∙ later
      by_test false e later =
          ap (λ l. cond (p (h y)) (h y ∷ l) l)
          (filters_swap p q all ∙ ap (filter q) later ∙ filters_swap q p (different alike (map h rest)))

  -- The values of h for the different items have the same different values as for all items.
  different-map : (xs : List X) → different alike (map h xs) ≡ different alike (map h (different same xs))
  different-map [] = refl
  different-map (x ∷ xs) =
      ap (λ l. h x ∷ l) (ap (filter (λ z. not (alike (h x) z))) (different-map xs) ∙ but_one x (different same xs))

  no_more_different : (ys : List Y) → length (different alike ys) ≤ length ys
  no_more_different [] = omega arith
  no_more_different (y ∷ ys) =
      omega (arith, filter_shortens (λ z. not (alike y z)) (different alike ys), no_more_different ys)

  -- There are no more of them than different items.
  pub different_fewer : (xs : List X) → length (different alike (map h xs)) ≤ length (different same xs)
  different_fewer xs =
      omega (arith, ap length (different-map xs), no_more_different (map h (different same xs)), length-map (different same xs) h)

-- A table has each of the different values.
length-table : {X : Type 0} (same : X → X → Bool) (sound : (x y : X) → same x y ≡ true → x ≡ y) (complete : (x : X) → same x x ≡ true) (short : ℕ) (uses : List X)
    → length (table same short uses) ≡ length (different same uses)
unfolding table
length-table same sound complete short uses = by_test (nat_le (length (different same uses)) short)
  where
    by_test : (t : Bool) → length (cond t (different same uses) (falling same (uses_of same uses) (different same uses))) ≡ length (different same uses)
    by_test true = refl
    by_test false = length-falling same sound complete (uses_of same uses) (IsEarlier same uses) (different same uses)

-- The table of span parts does not get longer.
parts_no_more : (ids : List ErasedFileAstId) (root : Root) → length (root_parts (ids_changed ids root)) ≤ length (root_parts root)
parts_no_more ids root =
    omega (arith, length-root_parts root, length-root_parts (ids_changed ids root), before, after, ap (λ uses. length (different same_part uses)) used, fewer)
  where
    parts : List SpanPart
    parts = part_table (flat root.children)

    uses : List SpanPart
    uses = part_uses (flat root.children)

    new_uses : List SpanPart
    new_uses = part_uses (flat (ids_changed ids root).children)

    before : length parts ≡ length (different same_part uses)
    before = length-table same_part part_sound part_complete short_parts uses

    after : length (part_table (flat (ids_changed ids root).children)) ≡ length (different same_part new_uses)
    after = length-table same_part part_sound part_complete short_parts new_uses

    used : new_uses ≡ map (part_by ids parts) uses
    used = ap part_uses (flat-respanned (span_by ids parts) root.children) ∙ part_uses-respanned ids parts (flat root.children)

    fewer : length (different same_part (map (part_by ids parts) uses)) ≤ length (different same_part uses)
    fewer = different_fewer same_part part_sound same_part part_complete (part_by ids parts) uses

-- The table of symbols stays.
symbols_stay : (ids : List ErasedFileAstId) (root : Root) → symbol_table (flat (ids_changed ids root).children) ≡ symbol_table (flat root.children)
symbols_stay ids root =
    ap (table bytes_eq short_symbols)
    (ap symbol_uses (flat-respanned (span_by ids parts) root.children) ∙ symbol_uses-respanned ids parts (flat root.children))
  where
    parts : List SpanPart
    parts = part_table (flat root.children)

-- A tree within the limits can exceed only the limit of bytes with new ids.
pub ids_fault : (ids : List ErasedFileAstId) (root : Root) (fault : TtFault) → IsWithinLimits root → IsTreeFault (ids_changed ids root) fault
    → (fault ≡ Memory) ⊎ (fault ≡ TooManyBytes)
ids_fault ids root Memory limits cause = inl refl
ids_fault ids root NotOneSubtree limits cause = absurd cause
ids_fault ids root NoSuchPlace limits cause = absurd cause
ids_fault ids root NotALeaf limits cause = absurd cause
ids_fault ids root SuffixTooLong limits cause = absurd cause
ids_fault ids root BadScan limits cause = absurd cause
ids_fault ids root TooManyTokens limits cause = absurd (omega (arith, cause, size-ids_changed ids root, limits.tokens))
ids_fault ids root TooManySpanParts limits cause = absurd (omega (arith, cause.1, parts_no_more ids root, limits.parts))
ids_fault ids root TooManySymbols limits cause = absurd (omega (arith, cause.1.1, ap length (symbols_stay ids root), limits.symbols))
ids_fault ids root TooManyBytes limits cause = inr refl
ids_fault ids root PointsSpent limits cause = absurd cause
