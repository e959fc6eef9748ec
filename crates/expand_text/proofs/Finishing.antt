-- What is built once the rest of the levels is expanded.
use Rattle.std.proofs.Common.{◌≡◌, ℕ, false, List, [], ◌∷◌, inl, inr, refl, ap, sym, subst, ◌∙◌}
use Rattle.tt.specs.Building.{Stack, above, append, close_innermost}
use Rattle.tt.specs.Forest.{Forest, end, leaf, node, join}
use Rattle.tt.specs.Span.{start_of}
use Rattle.tt.specs.Types.Delimiter.{Delimiter}
use Rattle.tt.specs.Types.Leaf.{Leaf}
use Rattle.tt.specs.Types.Span.{Span}
use Rattle.tt_base.proofs.Appending.{append-end, append-join}
use Rattle.expand_text.specs.Meaning.{ExpandsTo}
use Rattle.expand_text.specs.Expanding.{IsPutOrKept}
use Rattle.expand_text.specs.Contexts.{Config, Context}
use Rattle.expand_text.specs.Outcomes.{Outcome, nothing, passes, enters, stays, becomes, trees_left}
use Rattle.expand_items.specs.declared.position.Position.{Position}
use Rattle.expand_text.specs.declared.invocation.Invocation.{Invocation}
use Rattle.expand_text.specs.Events.{GoesPast}
use Rattle.expand_text.specs.Invocations.{site_of}
use Rattle.expand_text.specs.Walks.{Level, begun, Ends, Leads, first_leaf, first_subtree, first_stay, first_becomes, closes_of}

-- what is built once the rest of these levels is, the innermost first, which close there
abbrev pub finished : List Span → List Outcome → Stack → Stack
finished [] outcomes stack = stack
finished (close ∷ closes) [] stack = stack
finished (close ∷ []) (it ∷ others) stack = append (trees_left it) stack
finished (close ∷ next ∷ closes) (it ∷ others) stack = finished (next ∷ closes) others (close_innermost close (append (trees_left it) stack))

-- Some trees of the innermost level are built.
finished_more : (closes : List Span) (close : Span) (it others : Outcome) (outer : List Outcome) (built : Forest) (stack : Stack)
    → trees_left it ≡ join built (trees_left others) → finished (close ∷ closes) (it ∷ outer) stack ≡ finished (close ∷ closes) (others ∷ outer) (append built stack)
finished_more [] close it others outer built stack is = ap (λ f. append f stack) is ∙ append-join built (trees_left others) stack
finished_more (next ∷ closes) close it others outer built stack is =
    ap (λ s. finished (next ∷ closes) outer (close_innermost close s)) (ap (λ f. append f stack) is ∙ append-join built (trees_left others) stack)

module _ (close : Span) (closes : List Span) (others : Outcome) (outer : List Outcome) (stack : Stack) where
  -- A leaf is built.
  pub finished_leaf : (it : Leaf) → finished (close ∷ closes) (first_leaf it (others ∷ outer)) stack ≡ finished (close ∷ closes) (others ∷ outer) (append (leaf it end) stack)
  finished_leaf it = finished_more closes close (passes it others) others outer (leaf it end) stack refl

  -- Trees that stay are built.
  pub finished_stay : (trees : Forest) → finished (close ∷ closes) (first_stay trees (others ∷ outer)) stack ≡ finished (close ∷ closes) (others ∷ outer) (append trees stack)
  finished_stay trees = finished_more closes close (stays trees others) others outer trees stack refl

  -- The expansion of a call is built.
  pub finished_becomes : (attributes : Forest) (first last : Span) (put : Forest)
      → finished (close ∷ closes) (first_becomes attributes first last put (others ∷ outer)) stack ≡ finished (close ∷ closes) (others ∷ outer) (append put (append attributes stack))
  finished_becomes attributes first last put =
      finished_more closes close (stays attributes (becomes first last put others)) (becomes first last put others) outer attributes stack refl
      ∙ finished_more closes close (becomes first last put others) others outer put (append attributes stack) refl

  -- A subtree is entered.
  pub finished_subtree : (it : Delimiter) (held : Outcome)
      → finished (close ∷ closes) (first_subtree it (held ∷ others ∷ outer)) stack
      ≡ finished (it.close ∷ close ∷ closes) (held ∷ others ∷ outer) (above stack it.kind it.open_span end)
  finished_subtree it held = finished_more closes close (enters it held others) others outer (node it (trees_left held) end) stack refl

  -- A subtree is left.
  pub finished_close : (inner : Span) → finished (inner ∷ close ∷ closes) (nothing ∷ others ∷ outer) stack ≡ finished (close ∷ closes) (others ∷ outer) (close_innermost inner stack)
  finished_close inner = ap (λ s. finished (close ∷ closes) (others ∷ outer) (close_innermost inner s)) (append-end stack)

-- Whatever the rest expands to, the expansion of the trees is built once that is: what is
-- known, the levels, and what is built, at first and now.
pub record IsGoing (config : Config) (limit : ℕ) (position : Position) (trees : Forest) (before : Context) (old : Stack) (levels : List Level) (now : Context) (stack : Stack) : Type 0 where
  pub finishes : (after : Context) (outcomes : List Outcome) → Ends config false limit levels now after outcomes
      → (outcome : Outcome) × ExpandsTo config false limit position 0 before trees after outcome × (finished (closes_of levels) outcomes stack ≡ append (trees_left outcome) old)

module _ (config : Config) (limit : ℕ) (position : Position) (trees : Forest) (before now others : Context) (old stack : Stack) (level next : Level) (outer nexts : List Level)
    (going : IsGoing config limit position trees before old (level ∷ outer) now stack) where
  -- The walk goes on if something more is built in the innermost level.
  pub goes_on : (grown : List Outcome → List Outcome) (built : Stack) → Leads config false limit (level ∷ outer) now grown (next ∷ nexts) others
      → closes_of (next ∷ nexts) ≡ closes_of (level ∷ outer)
      → ((first : Outcome) (more : List Outcome) → finished (closes_of (level ∷ outer)) (grown (first ∷ more)) stack ≡ finished (closes_of (level ∷ outer)) (first ∷ more) built)
      → IsGoing config limit position trees before old (next ∷ nexts) others built
  goes_on grown built leads closes same = record { finishes = by }
    where
      by : (after : Context) (outcomes : List Outcome) → Ends config false limit (next ∷ nexts) others after outcomes
          → (outcome : Outcome) × ExpandsTo config false limit position 0 before trees after outcome × (finished (closes_of (next ∷ nexts)) outcomes built ≡ append (trees_left outcome) old)
      by after [] e = absurd e
      by after (first ∷ more) e =
          let (outcome, expands_to, is) = going.finishes after (grown (first ∷ more)) (leads after (first ∷ more) e) in
          (outcome, expands_to, ap (λ cs. finished cs (first ∷ more) built) closes ∙ sym (same first more) ∙ is)

  -- The walk goes on if the expansion of a call takes its place, or the call stays.
  pub goes_past : (it : Invocation) (whole held : Forest) (inside : Context) (built : Stack) → GoesPast config false limit (level ∷ outer) now it whole held (next ∷ nexts) inside
      → IsPutOrKept it whole held inside others stack built → closes_of (next ∷ nexts) ≡ closes_of (level ∷ outer) → IsGoing config limit position trees before old (next ∷ nexts) others built
  goes_past it whole held inside built past (inl (put, so, context, is)) closes = subst (IsGoing config limit position trees before old (next ∷ nexts) others) (sym is)
      (goes_on (first_becomes (site_of whole it).attributes it.first_span it.last_span put) (append put (append (site_of whole it).attributes stack))
      (subst (Leads config false limit (level ∷ outer) now (first_becomes (site_of whole it).attributes it.first_span it.last_span put) (next ∷ nexts)) (sym context) (past.puts put (put, so, refl) tt)) closes
      (λ first more. finished_becomes level.close (closes_of outer) first more stack (site_of whole it).attributes it.first_span it.last_span put))
  goes_past it whole held inside built past (inr (fault, misplaced, context, is)) closes = subst (IsGoing config limit position trees before old (next ∷ nexts) others) (sym is)
      (goes_on (first_stay whole) (append whole stack)
      (subst (Leads config false limit (level ∷ outer) now (first_stay whole) (next ∷ nexts)) (sym context) (past.stays (start_of it.first_span.range) fault (inl (misplaced, refl)))) closes
      (λ first more. finished_stay level.close (closes_of outer) first more stack whole))

  -- The walk goes on in a subtree.
  pub goes_into : (it : Delimiter) → Leads config false limit (level ∷ outer) now (first_subtree it) (next ∷ nexts) others → closes_of (next ∷ nexts) ≡ it.close ∷ closes_of (level ∷ outer)
      → IsGoing config limit position trees before old (next ∷ nexts) others (above stack it.kind it.open_span end)
  goes_into it leads closes = record { finishes = by }
    where
      by : (after : Context) (outcomes : List Outcome) → Ends config false limit (next ∷ nexts) others after outcomes
          → (outcome : Outcome) × ExpandsTo config false limit position 0 before trees after outcome
          × (finished (closes_of (next ∷ nexts)) outcomes (above stack it.kind it.open_span end) ≡ append (trees_left outcome) old)
      by after [] e = absurd e
      by after (held ∷ []) e = absurd (none after held (leads after (held ∷ []) e))
        where
          none : (after : Context) (held : Outcome) → Ends config false limit (level ∷ outer) now after [] → ⊥
          none after held e = e
      by after (held ∷ first ∷ more) e =
          let (outcome, expands_to, is) = going.finishes after (first_subtree it (held ∷ first ∷ more)) (leads after (held ∷ first ∷ more) e) in (
            outcome,
            expands_to,
            ap (λ cs. finished cs (held ∷ first ∷ more) (above stack it.kind it.open_span end)) closes
                ∙ sym (finished_subtree level.close (closes_of outer) first more stack it held) ∙ is,
          )

  -- The walk goes on after a subtree.
  pub goes_out : (close : Span) → Leads config false limit (level ∷ outer) now (λ outcomes. nothing ∷ outcomes) (next ∷ nexts) others → close ∷ closes_of (next ∷ nexts) ≡ closes_of (level ∷ outer)
      → IsGoing config limit position trees before old (next ∷ nexts) others (close_innermost close stack)
  goes_out close leads closes = record { finishes = by }
    where
      by : (after : Context) (outcomes : List Outcome) → Ends config false limit (next ∷ nexts) others after outcomes
          → (outcome : Outcome) × ExpandsTo config false limit position 0 before trees after outcome
          × (finished (closes_of (next ∷ nexts)) outcomes (close_innermost close stack) ≡ append (trees_left outcome) old)
      by after [] e = absurd e
      by after (first ∷ more) e =
          let (outcome, expands_to, is) = going.finishes after (nothing ∷ first ∷ more) (leads after (first ∷ more) e) in (
            outcome,
            expands_to,
            sym (finished_close next.close (closes_of nexts) first more stack close) ∙ ap (λ cs. finished cs (nothing ∷ first ∷ more) stack) closes ∙ is,
          )

-- Nothing is built yet.
pub begins : (config : Config) (limit : ℕ) (position : Position) (trees : Forest) (before : Context) (old : Stack) (close : Span)
    → IsGoing config limit position trees before old (begun position trees close ∷ []) before old
begins config limit position trees before old close = record { finishes = by }
  where
    by : (after : Context) (outcomes : List Outcome) → Ends config false limit (begun position trees close ∷ []) before after outcomes
        → (outcome : Outcome) × ExpandsTo config false limit position 0 before trees after outcome × (finished (close ∷ []) outcomes old ≡ append (trees_left outcome) old)
    by after [] e = absurd e
    by after (it ∷ []) (inside, expands_to, e) = (it, subst (λ k. ExpandsTo config false limit position 0 before trees k it) e expands_to, refl)
    by after (it ∷ other ∷ more) (inside, expands_to, e) = absurd e

-- All is built.
pub ends_so : (config : Config) (limit : ℕ) (position : Position) (trees : Forest) (before now after : Context) (old stack : Stack) (level : Level) (outer : List Level)
    → IsGoing config limit position trees before old (level ∷ outer) now stack → Ends config false limit (level ∷ outer) now after (nothing ∷ [])
    → (outcome : Outcome) × ExpandsTo config false limit position 0 before trees after outcome × (stack ≡ append (trees_left outcome) old)
ends_so config limit position trees before now after old stack level [] going e =
    let (outcome, expands_to, is) = going.finishes after (nothing ∷ []) e in
    (outcome, expands_to, sym (append-end stack) ∙ is)
ends_so config limit position trees before now after old stack level (next ∷ outer) going (inside, expands_to, e) = absurd e
