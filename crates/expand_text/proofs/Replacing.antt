-- What is replaced in a source, and what is left.
use Rattle.std.proofs.Common.{◌≡◌, ◌++◌, ◌-◌, ℕ, true, false, List, [], ◌∷◌, inl, inr, refl, ap, sym, subst, ◌∙◌, arith}
use Rattle.std.proofs.lemmas.List.{append_assoc, append-nil}
use Rattle.tt.specs.Forest.{Forest, Root}
use Rattle.tt.specs.Types.Delimiter.{Delimiter}
use Rattle.tt.specs.Types.Leaf.{Leaf}
use Rattle.tt.specs.Types.Span.{Span}
use Rattle.expand_text.specs.declared.invocation.Invocation.{Invocation}
use Rattle.expand_text.specs.Meaning.{ExpandsTo}
use Rattle.expand_text.specs.Expansion.{IsInvocationWritten, IsPut}
use Rattle.expand_text.specs.Reading.{AreSplices, Spells, ended, passed, entered, stayed, became, splice}
use Rattle.expand_text.specs.Contexts.{Config, Context, outside_call, with_finding}
use Rattle.expand_text.specs.Outcomes.{Outcome, nothing, enters, trees_left}
use Rattle.expand_items.specs.Positions.{begun as begun_among}
use Rattle.expand_items.specs.declared.position.Siblings.TheVariants.{Items}
use Rattle.syntax_edit.specs.Splices.{Splice, replacement_of, replacements_of}
use Rattle.syntax_edit.specs.Texts.{Replacement, Writing, finished, with_all, FitAll, IsReplaced, AreReplaced}
use Rattle.expand_text.specs.Events.{GoesPast, IsExpandedAt}
use Rattle.expand_text.specs.Invocations.{body_of, entered_by, found_by, site_of}
use Rattle.expand_text.specs.Writing.{AllSplices, IsWrittenOn, no_level, one_level}
use Rattle.expand_text.specs.Walks.{Level, begun, Ends, Leads, first_leaf, first_subtree, first_stay, first_becomes, front_in, past_in}

-- whatever the rest expands to, its splices behind those so far are those of the trees
pub record IsReading (config : Config) (limit : ℕ) (trees : Forest) (before : Context) (levels : List Level) (now : Context) (done : List Splice) : Type 0 where
  pub finishes : (after : Context) (outcomes : List Outcome) (splices : List Splice) → Ends config true limit levels now after outcomes → AllSplices config.one_line outcomes splices
      → (outcome : Outcome) × ExpandsTo config true limit (begun_among Items) 0 before trees after outcome × AreSplices config.one_line outcome (done ++ splices)

-- Nothing is replaced yet.
pub begins : (config : Config) (limit : ℕ) (trees : Forest) (before : Context) (close : Span) → IsReading config limit trees before (begun (begun_among Items) trees close ∷ []) before []
begins config limit trees before close = record { finishes = by }
  where
    by : (after : Context) (outcomes : List Outcome) (splices : List Splice) → Ends config true limit (begun (begun_among Items) trees close ∷ []) before after outcomes → AllSplices config.one_line outcomes splices
        → (outcome : Outcome) × ExpandsTo config true limit (begun_among Items) 0 before trees after outcome × AreSplices config.one_line outcome splices
    by after [] splices e all = absurd e
    by after (it ∷ []) splices (inside, expands_to, e) (one_level {first = first} are no_level) = (
      it,
      subst (λ k. ExpandsTo config true limit (begun_among Items) 0 before trees k it) e expands_to,
      subst (AreSplices config.one_line it) (sym (append-nil first)) are,
    )
    by after (it ∷ other ∷ more) splices (inside, expands_to, e) all = absurd e

module _ (config : Config) (limit : ℕ) (trees : Forest) (before now others : Context) (level : Level) (outer nexts : List Level) (done : List Splice)
    (reading : IsReading config limit trees before (level ∷ outer) now done) where
  -- The walk goes on, with more splices.
  pub reads_on : (old new : Writing) (on : IsWrittenOn config limit (level ∷ outer) nexts old new now others) → IsReading config limit trees before nexts others (done ++ on.more)
  reads_on old new on = record { finishes = by }
    where
      by : (after : Context) (outcomes : List Outcome) (splices : List Splice) → Ends config true limit nexts others after outcomes → AllSplices config.one_line outcomes splices
          → (outcome : Outcome) × ExpandsTo config true limit (begun_among Items) 0 before trees after outcome × AreSplices config.one_line outcome ((done ++ on.more) ++ splices)
      by after outcomes splices e all =
          let ends = on.leads after outcomes e in
          let (outcome, expands_to, are) = reading.finishes after (on.grown outcomes) (on.more ++ splices) ends (on.same after outcomes splices ends all) in
          (outcome, expands_to, subst (AreSplices config.one_line outcome) (sym (append_assoc done on.more splices)) are)

  -- All is replaced.
  pub reads_all : (after : Context) → Ends config true limit (level ∷ outer) now after (nothing ∷ [])
      → (outcome : Outcome) × ExpandsTo config true limit (begun_among Items) 0 before trees after outcome × AreSplices config.one_line outcome done
  reads_all after e =
      let (outcome, expands_to, are) = reading.finishes after (nothing ∷ []) [] e (one_level ended no_level) in
      (outcome, expands_to, subst (AreSplices config.one_line outcome) (append-nil done) are)

-- More are replaced.
pub replaced_more : (its more : List Splice) (old now new : Writing) → AreReplaced (replacements_of its) old now → AreReplaced (replacements_of more) now new → AreReplaced (replacements_of (its ++ more)) old new
replaced_more [] more old now new are on = subst (λ w. AreReplaced (replacements_of more) w new) are on
replaced_more (first ∷ its) more old now new (next, is_first, are) on = (next, is_first, replaced_more its more next now new are on)

-- If all fit, all are replaced.
pub all_replaced : (its : List Replacement) (old new : Writing) → FitAll its old → AreReplaced its old new → finished new ≡ with_all its old
all_replaced [] old new fit are = ap finished are
all_replaced (it ∷ others) old new (fits, fit) (next, inl (there, is), are) =
    all_replaced others next new (subst (FitAll others) (sym is) fit) are ∙ ap (with_all others) is
all_replaced (it ∷ others) old new (fits, fit) (next, inr (not, is), are) = absurd (not fits)

-- What is written on the way of a walk.
module _ (config : Config) (limit : ℕ) (level : Level) (outer nexts : List Level) (text : Writing) (now others : Context) where
  -- A leaf, trees that stay, a subtree that is entered, and one that is left replace nothing.
  pub writes_leaf : (it : Leaf) → Leads config true limit (level ∷ outer) now (first_leaf it) nexts others → IsWrittenOn config limit (level ∷ outer) nexts text text now others
  writes_leaf it leads = record { grown = first_leaf it; more = []; leads = leads; same = same; replaced = refl }
    where
      same : (after : Context) (outcomes : List Outcome) (splices : List Splice) → Ends config true limit (level ∷ outer) now after (first_leaf it outcomes) → AllSplices config.one_line outcomes splices
          → AllSplices config.one_line (first_leaf it outcomes) splices
      same after [] splices e all = all
      same after (first ∷ more) splices e (one_level are all) = one_level (passed are) all

  pub writes_stay : (stay : Forest) → Leads config true limit (level ∷ outer) now (first_stay stay) nexts others → IsWrittenOn config limit (level ∷ outer) nexts text text now others
  writes_stay stay leads = record { grown = first_stay stay; more = []; leads = leads; same = same; replaced = refl }
    where
      same : (after : Context) (outcomes : List Outcome) (splices : List Splice) → Ends config true limit (level ∷ outer) now after (first_stay stay outcomes) → AllSplices config.one_line outcomes splices
          → AllSplices config.one_line (first_stay stay outcomes) splices
      same after [] splices e all = all
      same after (first ∷ more) splices e (one_level are all) = one_level (stayed are) all

  pub writes_subtree : (it : Delimiter) → Leads config true limit (level ∷ outer) now (first_subtree it) nexts others → IsWrittenOn config limit (level ∷ outer) nexts text text now others
  writes_subtree it leads = record { grown = first_subtree it; more = []; leads = leads; same = same; replaced = refl }
    where
      same : (after : Context) (outcomes : List Outcome) (splices : List Splice) → Ends config true limit (level ∷ outer) now after (first_subtree it outcomes) → AllSplices config.one_line outcomes splices
          → AllSplices config.one_line (first_subtree it outcomes) splices
      same after [] splices e all = all
      same after (held ∷ []) splices e all = absurd e
      same after (held ∷ first ∷ more) splices e (one_level {first = a} are (one_level {first = b} {second = c} others all)) =
          subst (AllSplices config.one_line (enters it held first ∷ more)) (append_assoc a b c) (one_level (entered are others) all)

  pub writes_end : Leads config true limit (level ∷ outer) now (λ outcomes. nothing ∷ outcomes) nexts others → IsWrittenOn config limit (level ∷ outer) nexts text text now others
  writes_end leads = record { grown = λ outcomes. nothing ∷ outcomes; more = []; leads = leads; same = λ after outcomes splices e all. one_level ended all; replaced = refl }

  -- A call adds a splice.
  pub writes_call : (new : Writing) (attributes : Forest) (first last : Span) (put : Forest) (shown : List ℕ) → Leads config true limit (level ∷ outer) now (first_becomes attributes first last put) nexts others
      → Spells config.one_line put shown → IsReplaced (replacement_of (splice first last put shown)) text new → IsWrittenOn config limit (level ∷ outer) nexts text new now others
  writes_call new attributes first last put shown leads spells is =
      record { grown = first_becomes attributes first last put; more = splice first last put shown ∷ []; leads = leads; same = same; replaced = (new, is, refl) }
    where
      same : (after : Context) (outcomes : List Outcome) (splices : List Splice) → Ends config true limit (level ∷ outer) now after (first_becomes attributes first last put outcomes) → AllSplices config.one_line outcomes splices
          → AllSplices config.one_line (first_becomes attributes first last put outcomes) (splice first last put shown ∷ splices)
      same after [] splices e all = absurd e
      same after (it ∷ more) splices e (one_level are all) = one_level (stayed (became spells are)) all

-- A call that is expanded is written, or stays.
module _ (config : Config) (limit : ℕ) (level : Level) (outer : List Level) (old new : Writing) (now others then : Context) where
  pub writes_invocation : (it : Invocation) (tree : Root) (here : List Level) → IsExpandedAt config true limit (level ∷ outer) now it tree here others
      → IsInvocationWritten config (limit - 1) it (front_in it.part here) tree old new others then → IsWrittenOn config limit (level ∷ outer) (past_in it.part here) old new now then
  writes_invocation it tree here next is =
      let back : limit - 1 ≡ next.left = omega (arith, next.fits) in
      let expands_to : ExpandsTo config false next.left it.position 0 (entered_by config it tree others) (body_of it tree) is.inside is.outcome =
      subst (λ n. ExpandsTo config false n it.position 0 (entered_by config it tree others) (body_of it tree) is.inside is.outcome) back is.expands_to in
      by (next.goes is.inside is.outcome expands_to) is.put
    where
      behind : Context
      behind = outside_call others is.inside

      whole : Forest
      whole = front_in it.part here

      nexts : List Level
      nexts = past_in it.part here

      by : GoesPast config true limit (level ∷ outer) now it whole (trees_left is.outcome) nexts behind → IsPut config.one_line it whole (trees_left is.outcome) behind then old new
          → IsWrittenOn config limit (level ∷ outer) nexts old new now then
      by past (inl (put, so, may, context, text, spells, replaced)) =
          writes_call config limit level outer nexts old now then new (site_of whole it).attributes it.first_span it.last_span put text
          (subst (Leads config true limit (level ∷ outer) now (first_becomes (site_of whole it).attributes it.first_span it.last_span put) nexts) (sym context) (past.puts put so may)) spells replaced
      by past (inr (at, fault, kept, context, written)) =
          subst (λ text. IsWrittenOn config limit (level ∷ outer) nexts old text now then) (sym written)
          (subst (IsWrittenOn config limit (level ∷ outer) nexts old old now) (sym context) (writes_stay config limit level outer nexts old now (with_finding (found_by it at fault) behind) whole (past.stays at fault kept)))
