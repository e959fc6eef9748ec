-- The flat list and the places of the open headers determine the tokens that a builder holds.
use Rattle.std.proofs.Common.{◌≡◌, ℕ, suc, ◌+◌, ◌≤◌, Option, List, [], ◌∷◌, ◌++◌, map, length, drop, refl, ap, ap₂, sym, ◌∙◌, arith, length-append}
use Rattle.std.proofs.lemmas.List.{map-append, length-map}
use Rattle.std.specs.List.{AllByRecursion}
use Rattle.tt_base.specs.declared.delimiter.Delimiter.{Delimiter}
use Rattle.tt_base.specs.declared.delimiter.DelimiterKind.{DelimiterKind}
use Rattle.tt_base.specs.declared.span.Span.{Span}
use Rattle.tt_base.specs.declared.token_tree.TokenTree.{TokenTree}
use Rattle.tt_base.specs.declared.token_tree.TokenTree.TheVariants as token
use Rattle.tt_base.specs.Building.{Stack, lowest, above, tokens_held, BuilderState}
use Rattle.tt_base.specs.Forest.{flat, header}
use Rattle.tt_base.specs.Span.{part_of}
use Rattle.tt_tables.specs.Held.{HeldToken, whole, opened, as_token, counted_parts, counted_symbols, parts_in, symbols_in, open_places}
use Rattle.tt_tables.proofs.Opening.{all_from, open_places-wholes}
use Rattle.tt_tables.proofs.Packing.{parts_in-whole, symbols_in-whole}
use Rattle.tt_tables.proofs.Using.{uses_joined}
use Rattle.tt.specs.declared.builder.standing.Standing.{Standing}
use Rattle.tt.specs.BuilderFields.{written, places, open_header, IsStateOf}
use Rattle.tt.specs.HeldList.{all_tokens, AreOpenIn}
use Rattle.tt.specs.HeldUses.{held_parts, held_symbols}
use Rattle.tt_base.specs.Unflat.{length-flat}

-- ---- the list of the levels

-- the tokens of all levels, as one list
abbrev pub held_list : Stack → List HeldToken
held_list (lowest trees) = map whole (flat trees)
held_list (above outer kind open_span trees) = held_list outer ++ opened kind open_span ∷ map whole (flat trees)

-- A list of whole tokens is the list itself.
pub whole_tokens : (tokens : List TokenTree) → map as_token (map whole tokens) ≡ tokens
whole_tokens [] = refl
whole_tokens (it ∷ tokens) = ap (λ l. it ∷ l) (whole_tokens tokens)

-- It is the list below the top.
written_held : (top : Delimiter) (stack : Stack) → all_tokens top (held_list stack) ≡ written top stack
written_held top (lowest trees) = ap (λ l. header top 0 ∷ l) (whole_tokens (flat trees))
written_held top (above outer kind open_span trees) =
    ap (λ l. header top 0 ∷ l) (map-append as_token (held_list outer) (opened kind open_span ∷ map whole (flat trees)) ∙ ap (λ l. map as_token (held_list outer) ++ open_header kind open_span ∷ l) (whole_tokens (flat trees)))
    ∙ ap (λ l. l ++ open_header kind open_span ∷ flat trees) (written_held top outer)

-- Its length.
length-held : (stack : Stack) → length (held_list stack) ≡ tokens_held stack
length-held (lowest trees) = length-map (flat trees) whole ∙ length-flat trees
length-held (above outer kind open_span trees) =
    omega (
      arith,
      length-append (held_list outer) (opened kind open_span ∷ map whole (flat trees)),
      length-held outer,
      length-map (flat trees) whole,
      length-flat trees,
    )

-- An open header after a list, and whole tokens after it.
open_behind : (first : ℕ) (held : List HeldToken) (kind : DelimiterKind) (open_span : Span) (tokens : List TokenTree)
    → open_places first (held ++ opened kind open_span ∷ map whole tokens) ≡ open_places first held ++ (first + length held) ∷ []
open_behind first [] kind open_span tokens = ap₂ ◌∷◌ (omega arith) (open_places-wholes (suc first) [] tokens)
open_behind first (whole x ∷ held) kind open_span tokens = open_behind (suc first) held kind open_span tokens ∙ ap (λ n. open_places (suc first) held ++ n ∷ []) (omega arith)
open_behind first (opened k s ∷ held) kind open_span tokens =
    ap (λ l. first ∷ l) (open_behind (suc first) held kind open_span tokens ∙ ap (λ n. open_places (suc first) held ++ n ∷ []) (omega arith))

-- Its open headers are those of the levels.
open_held : (stack : Stack) → open_places 1 (held_list stack) ≡ places stack
open_held (lowest trees) = open_places-wholes 1 [] (flat trees)
open_held (above outer kind open_span trees) =
    open_behind 1 (held_list outer) kind open_span (flat trees)
    ∙ ap₂ (λ l n. l ++ n ∷ []) (open_held outer) (omega (arith, length-held outer))

-- ---- only one list

-- the delimiter of a header, or d
delimiter_of : Delimiter → TokenTree → Delimiter
delimiter_of d (token.Leaf it) = d
delimiter_of d (token.Subtree s) = s.delimiter

-- Equal open headers have the same kind and the same open span.
opened_alike : (k l : DelimiterKind) (s t : Span) → as_token (opened k s) ≡ as_token (opened l t) → opened k s ≡ opened l t
unfolding delimiter_of
opened_alike k l s t e =
    let kinds : k ≡ l = ap (λ x. (delimiter_of (record { open_span = s; close = s; kind = k }) x).kind) e in
    let spans : s ≡ t = ap (λ x. (delimiter_of (record { open_span = s; close = s; kind = k }) x).open_span) e in
    λ i. opened (kinds i) (spans i)

-- The first open header from the next place on is not at this place.
not_first : (first : ℕ) (held : List HeldToken) (places : List ℕ) → open_places (suc first) held ≡ first ∷ places → ⊥
not_first first held places e = never (open_places (suc first) held) (all_from (suc first) held) e
  where
    never : (found : List ℕ) → AllByRecursion (λ place. suc first ≤ place) found → found ≡ first ∷ places → ⊥
    never [] all e = cc e
    never (p ∷ found) all e =
        let is : p ≡ first = cc e in
        omega (arith, is, all.0)

-- Lists with the same tokens and the same open headers are equal.
pub held_alike : (first : ℕ) (a b : List HeldToken) → map as_token a ≡ map as_token b → open_places first a ≡ open_places first b → a ≡ b
held_alike first [] [] e p = refl
held_alike first [] (y ∷ b) e p = absurd (cc e)
held_alike first (x ∷ a) [] e p = absurd (cc e)
held_alike first (whole x ∷ a) (whole y ∷ b) e p =
    let same : x ≡ y = cc e in
    ap₂ ◌∷◌ (ap whole same) (held_alike (suc first) a b (cc e) p)
held_alike first (whole x ∷ a) (opened l t ∷ b) e p = absurd (not_first first a (open_places (suc first) b) p)
held_alike first (opened k s ∷ a) (whole y ∷ b) e p = absurd (not_first first b (open_places (suc first) a) (sym p))
held_alike first (opened k s ∷ a) (opened l t ∷ b) e p =
    let first_same : as_token (opened k s) ≡ as_token (opened l t) = cc e in
    ap₂ ◌∷◌ (opened_alike k l s t first_same) (held_alike (suc first) a b (cc e) (cc p))

-- ---- uses

-- The parts of the list are those of the levels.
list_parts : (stack : Stack) → parts_in (held_list stack) ≡ held_parts stack
list_parts (lowest trees) = parts_in-whole (flat trees)
list_parts (above outer kind open_span trees) =
    uses_joined counted_parts (held_list outer) (opened kind open_span ∷ map whole (flat trees))
    ∙ ap₂ (λ a b. a ++ part_of open_span ∷ b) (list_parts outer) (parts_in-whole (flat trees))

-- The symbols of the list are those of the levels.
list_symbols : (stack : Stack) → symbols_in (held_list stack) ≡ held_symbols stack
list_symbols (lowest trees) = symbols_in-whole (flat trees)
list_symbols (above outer kind open_span trees) =
    uses_joined counted_symbols (held_list outer) (opened kind open_span ∷ map whole (flat trees))
    ∙ ap₂ ◌++◌ (list_symbols outer) (symbols_in-whole (flat trees))

module _ (top : Delimiter) (held : List HeldToken) (headers : List ℕ) (mark : Option ℕ) (points : List Standing) (taken : ℕ) (s : BuilderState)
    (is : IsStateOf (all_tokens top held) headers mark points taken s) (opens : AreOpenIn held headers) where
  -- The tokens held are the list of the levels.
  pub held_is_list : held ≡ held_list s.stack
  held_is_list =
      let all : all_tokens top held ≡ all_tokens s.top (held_list s.stack) = is.list ∙ sym (written_held s.top s.stack) in
      held_alike 1 held (held_list s.stack) (ap (drop 1) all) (opens ∙ is.open_places ∙ sym (open_held s.stack))

  -- The parts that count are those of the levels.
  pub parts_are_held : parts_in held ≡ held_parts s.stack
  parts_are_held = ap parts_in held_is_list ∙ list_parts s.stack

  -- The symbols that count are those of the levels.
  pub symbols_are_held : symbols_in held ≡ held_symbols s.stack
  symbols_are_held = ap symbols_in held_is_list ∙ list_symbols s.stack
