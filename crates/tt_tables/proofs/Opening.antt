-- The places of the open headers of a list, and the tokens there.
use Rattle.std.proofs.Common.{◌≡◌, ℕ, zero, suc, ◌+◌, ◌<◌, ◌≤◌, List, [], ◌∷◌, ◌++◌, Some, length, map, take, drop, set, slice_get, refl, ap, ap₂, sym, ◌∙◌, arith}
use Rattle.std.specs.List.{AllByRecursion, remove}
use Rattle.tt_base.specs.declared.delimiter.DelimiterKind.{DelimiterKind}
use Rattle.tt_base.specs.declared.span.Span.{Span}
use Rattle.tt_base.specs.declared.token_tree.TokenTree.{TokenTree}
use Rattle.tt_tables.specs.Held.{HeldToken, whole, opened, as_token, open_places}

-- One more whole token opens no header.
pub open_places-whole : (first : ℕ) (held : List HeldToken) (it : TokenTree) → open_places first (held ++ whole it ∷ []) ≡ open_places first held
open_places-whole first [] it = refl
open_places-whole first (whole x ∷ held) it = open_places-whole (suc first) held it
open_places-whole first (opened kind open_span ∷ held) it = ap (λ l. first ∷ l) (open_places-whole (suc first) held it)

-- More whole tokens open no header.
pub open_places-wholes : (first : ℕ) (held : List HeldToken) (tokens : List TokenTree) → open_places first (held ++ map whole tokens) ≡ open_places first held
open_places-wholes first [] [] = refl
open_places-wholes first [] (t ∷ tokens) = open_places-wholes (suc first) [] tokens
open_places-wholes first (whole x ∷ held) tokens = open_places-wholes (suc first) held tokens
open_places-wholes first (opened kind open_span ∷ held) tokens = ap (λ l. first ∷ l) (open_places-wholes (suc first) held tokens)

-- One more open header comes last.
pub open_places-opened : (first : ℕ) (held : List HeldToken) (kind : DelimiterKind) (open_span : Span)
    → open_places first (held ++ opened kind open_span ∷ []) ≡ open_places first held ++ (first + length held) ∷ []
open_places-opened first [] kind open_span = ap (λ n. n ∷ []) (omega arith)
open_places-opened first (whole x ∷ held) kind open_span =
    open_places-opened (suc first) held kind open_span ∙ ap (λ n. open_places (suc first) held ++ n ∷ []) (omega arith)
open_places-opened first (opened k s ∷ held) kind open_span =
    ap (λ l. first ∷ l) (open_places-opened (suc first) held kind open_span ∙ ap (λ n. open_places (suc first) held ++ n ∷ []) (omega arith))

-- No header is open before the first place.
pub all_from : (first : ℕ) (held : List HeldToken) → AllByRecursion (λ place. first ≤ place) (open_places first held)
all_from first [] = tt
all_from first (whole x ∷ held) = later (open_places (suc first) held) (all_from (suc first) held)
  where
    later : (places : List ℕ) → AllByRecursion (λ place. suc first ≤ place) places → AllByRecursion (λ place. first ≤ place) places
    later [] all = tt
    later (p ∷ places) all = (omega (arith, all.0), later places all.1)
all_from first (opened kind open_span ∷ held) = (omega arith, later (open_places (suc first) held) (all_from (suc first) held))
  where
    later : (places : List ℕ) → AllByRecursion (λ place. suc first ≤ place) places → AllByRecursion (λ place. first ≤ place) places
    later [] all = tt
    later (p ∷ places) all = (omega (arith, all.0), later places all.1)

-- the header is the innermost open one; if it becomes whole, the others stay open
pub record IsInnermost (first : ℕ) (held : List HeldToken) (outer : List ℕ) (i : ℕ) : Type 0 where
  pub kind : DelimiterKind
  pub open_span : Span
  pub there : slice_get held i ≡ Some (opened kind open_span)
  pub closed : (it : TokenTree) → open_places first (set held i (whole it)) ≡ outer

no_open : (first : ℕ) (held : List HeldToken) (place : ℕ) → place < first → (outer : List ℕ) → open_places first held ≡ outer ++ place ∷ [] → ⊥
no_open first held place low outer e = never outer (open_places first held) (all_from first held) e
  where
    never : (outer places : List ℕ) → AllByRecursion (λ p. first ≤ p) places → places ≡ outer ++ place ∷ [] → ⊥
    never [] [] all e = cc e
    never [] (p ∷ places) all e =
        let is : p ≡ place = cc e in
        omega (arith, is, all.0, low)
    never (o ∷ outer) [] all e = cc e
    never (o ∷ outer) (p ∷ places) all e = never outer places all.1 (cc e)

pub innermost_open : (first : ℕ) (held : List HeldToken) (outer : List ℕ) (i place : ℕ) → open_places first held ≡ outer ++ place ∷ [] → place ≡ first + i → IsInnermost first held outer i
innermost_open first [] [] i place e at = absurd (cc e)
innermost_open first [] (o ∷ outer) i place e at = absurd (cc e)
innermost_open first (whole x ∷ held) outer zero place e at = absurd (no_open (suc first) held place (omega (arith, at)) outer e)
innermost_open first (whole x ∷ held) outer (suc i) place e at =
    let rest = innermost_open (suc first) held outer i place e (omega (arith, at)) in
    record { kind = rest.kind; open_span = rest.open_span; there = rest.there; closed = rest.closed }
innermost_open first (opened k s ∷ held) [] zero place e at =
    record { kind = k; open_span = s; there = refl; closed = λ it. none }
  where
    none : open_places (suc first) held ≡ []
    none = cc e
innermost_open first (opened k s ∷ held) (o ∷ outer) zero place e at = absurd (no_open (suc first) held place (omega (arith, at)) outer (cc e))
innermost_open first (opened k s ∷ held) [] (suc i) place e at =
    let is : first ≡ place = cc e in
    absurd (omega (arith, is, at))
innermost_open first (opened k s ∷ held) (o ∷ outer) (suc i) place e at =
    let rest = innermost_open (suc first) held outer i place (cc e) (omega (arith, at)) in
    let same : first ≡ o = cc e in
    record { kind = rest.kind; open_span = rest.open_span; there = rest.there; closed = λ it. ap₂ ◌∷◌ same (rest.closed it) }

-- The first n tokens have the open headers that come before their end.
pub open_places-take : (first : ℕ) (held : List HeldToken) (n end depth : ℕ) → end ≡ first + n
    → AllByRecursion (λ place. place < end) (take depth (open_places first held)) → AllByRecursion (λ place. end ≤ place) (drop depth (open_places first held))
    → open_places first (take n held) ≡ take depth (open_places first held)
open_places-take first held zero end depth e before behind = sym (none depth (open_places first held) (all_from first held) before)
  where
    none : (depth : ℕ) (places : List ℕ) → AllByRecursion (λ p. first ≤ p) places → AllByRecursion (λ p. p < end) (take depth places) → take depth places ≡ []
    none zero places all before = refl
    none (suc depth) [] all before = refl
    none (suc depth) (p ∷ places) all before = absurd (omega (arith, all.0, before.0, e))
open_places-take first [] (suc n) end zero e before behind = refl
open_places-take first [] (suc n) end (suc depth) e before behind = refl
open_places-take first (whole x ∷ held) (suc n) end depth e before behind = open_places-take (suc first) held n end depth (omega (arith, e)) before behind
open_places-take first (opened k s ∷ held) (suc n) end zero e before behind = absurd (omega (arith, behind.0, e))
open_places-take first (opened k s ∷ held) (suc n) end (suc depth) e before behind =
    ap (λ l. first ∷ l) (open_places-take (suc first) held n end depth (omega (arith, e)) before.1 behind)

-- Without a whole token after all open headers, the same headers are open.
pub open_places-remove : (first : ℕ) (held : List HeldToken) (i place : ℕ) (it : TokenTree) → slice_get held i ≡ Some (whole it) → place ≡ first + i
    → AllByRecursion (λ p. p < place) (open_places first held) → open_places first (remove held i) ≡ open_places first held
open_places-remove first [] i place it at e before = absurd (cc at)
open_places-remove first (whole x ∷ held) zero place it at e before = none held (before_all (open_places (suc first) held) (all_from (suc first) held) before)
  where
    before_all : (places : List ℕ) → AllByRecursion (λ p. suc first ≤ p) places → AllByRecursion (λ p. p < place) places → places ≡ []
    before_all [] all before = refl
    before_all (p ∷ places) all before = absurd (omega (arith, all.0, before.0, e))

    none_from : (first : ℕ) (held : List HeldToken) → open_places (suc first) held ≡ [] → open_places first held ≡ open_places (suc first) held
    none_from first [] e = refl
    none_from first (whole x ∷ held) e = none_from (suc first) held e
    none_from first (opened k s ∷ held) e = absurd (cc e)

    none : (held : List HeldToken) → open_places (suc first) held ≡ [] → open_places first held ≡ open_places (suc first) held
    none held e = none_from first held e
open_places-remove first (opened k s ∷ held) zero place it at e before = absurd (cc at)
open_places-remove first (whole x ∷ held) (suc i) place it at e before = open_places-remove (suc first) held i place it at (omega (arith, e)) before
open_places-remove first (opened k s ∷ held) (suc i) place it at e before =
    ap (λ l. first ∷ l) (open_places-remove (suc first) held i place it at (omega (arith, e)) before.1)

-- A token after all open headers is whole.
pub whole_at : (first : ℕ) (held : List HeldToken) (i place : ℕ) (h : HeldToken) → slice_get held i ≡ Some h → place ≡ first + i → AllByRecursion (λ p. p < place) (open_places first held)
    → slice_get held i ≡ Some (whole (as_token h))
whole_at first [] i place h at e before = absurd (cc at)
whole_at first (whole x ∷ held) zero place h at e before =
    let is : whole x ≡ h = cc at in
    ap (λ y. Some (whole (as_token y))) is
whole_at first (opened k s ∷ held) zero place h at e before = absurd (omega (arith, before.0, e))
whole_at first (whole x ∷ held) (suc i) place h at e before = whole_at (suc first) held i place h at (omega (arith, e)) before
whole_at first (opened k s ∷ held) (suc i) place h at e before = whole_at (suc first) held i place h at (omega (arith, e)) before.1

-- If no header is open, all tokens are whole.
pub all_whole : (first : ℕ) (held : List HeldToken) → open_places first held ≡ [] → held ≡ map whole (map as_token held)
all_whole first [] e = refl
all_whole first (whole x ∷ held) e = ap (λ l. whole x ∷ l) (all_whole (suc first) held e)
all_whole first (opened k s ∷ held) e = absurd (cc e)

-- With another whole token in the place of one, the same headers are open.
pub open_places-set : (first : ℕ) (held : List HeldToken) (i : ℕ) (old new : TokenTree) → slice_get held i ≡ Some (whole old) → open_places first (set held i (whole new)) ≡ open_places first held
open_places-set first [] i old new at = absurd (cc at)
open_places-set first (whole x ∷ held) zero old new at = refl
open_places-set first (opened k s ∷ held) zero old new at = absurd (cc at)
open_places-set first (whole x ∷ held) (suc i) old new at = open_places-set (suc first) held i old new at
open_places-set first (opened k s ∷ held) (suc i) old new at = ap (λ l. first ∷ l) (open_places-set (suc first) held i old new at)
