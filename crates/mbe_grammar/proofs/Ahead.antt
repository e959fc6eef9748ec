-- What is ahead of a derivation is passed event by event.
use Rattle.std.proofs.Common.{◌≡◌, ◌+◌, ◌^◌, ◌<◌, ◌≤◌, ℕ, suc, zero, true, List, [], ◌∷◌, ◌++◌, drop, length, map, take, Option, None, Some, refl, sym, subst, ap, ap₂, ◌∙◌, append_assoc, arith}
use Rattle.std.proofs.Math.Seq.{drop-append_seam, take-append_seam}
use Rattle.std.specs.Prelude.{slice_get}
use Rattle.tt.specs.Types.Span.{Span}
use Rattle.tt.specs.Views.{trees_of}
use Rattle.mbe_grammar.specs.declared.derivation.Derivation.{Derivation}
use Rattle.mbe_grammar.specs.declared.derivation.NextEvent.{NextEvent}
use Rattle.mbe_grammar.specs.declared.derivation.NextEvent.TheVariants as next
use Rattle.mbe_grammar.specs.declared.derivation.Open.{Open}
use Rattle.mbe_grammar.specs.declared.entry.Entry.{Entry as Noted}
use Rattle.mbe_grammar.specs.declared.entry.Entry.TheVariants as noted
use Rattle.mbe_grammar.specs.declared.event.Event.{Event}
use Rattle.mbe_grammar.specs.declared.event.Event.TheVariants as event
use Rattle.mbe_grammar.specs.declared.event.Level.{Level}
use Rattle.mbe_grammar.specs.declared.rule.Rule.{Rule}
use Rattle.mbe_grammar.specs.Beginnings.{Beginning, Cursor, beginnings}
use Rattle.mbe_grammar.specs.Derivations.{Place, place}
use Rattle.mbe_grammar.specs.Deriving.{Gives, Stops, StopsBehind, GivesFrom, StopsFrom, steps_of, IsRead, IsNext, IsEntered, left_by, behind_level, plain_event}
use Rattle.mbe_grammar.specs.Left.{Left, ahead_in, around, inside, stopped}
use Rattle.mbe_grammar.specs.Left as left

-- an event is passed, from one state of a derivation to another
abbrev pub Passes : (rules : List Rule) → Option Level → List Left → Event → Option Level → List Left → Type 0
Passes rules level left it after behind =
    ((events : List Event) → GivesFrom rules after behind events → GivesFrom rules level left (it ∷ events))
    × ((at : Place) → StopsFrom rules after behind at → StopsFrom rules level left at)
    × (steps_of after behind < steps_of level left)

-- these events are passed, from one state of a derivation to another
abbrev pub Brings : (rules : List Rule) → Option Level → List Left → (passed : List Event) → Option Level → List Left → Type 0
Brings rules level left passed after behind =
    ((events : List Event) → GivesFrom rules after behind events → GivesFrom rules level left (passed ++ events))
    × ((at : Place) → StopsFrom rules after behind at → StopsFrom rules level left at)
    × (steps_of after behind ≤ steps_of level left)

pub brings_none : (rules : List Rule) (level : Option Level) (left : List Left) → Brings rules level left [] level left
brings_none rules level left = (λ events g. g, λ at s. s, omega arith)

pub brings_more : (rules : List Rule) (level mid after : Option Level) (left between behind : List Left) (passed : List Event) (it : Event)
    → Brings rules level left passed mid between → Passes rules mid between it after behind → Brings rules level left (passed ++ it ∷ []) after behind
brings_more rules level mid after left between behind passed it b p = (
  λ events g. subst (GivesFrom rules level left) (sym (append_assoc passed (it ∷ []) events)) (b.0 (it ∷ events) (p.0 events g)),
  λ at s. b.1 at (p.1 at s),
  omega (arith, b.2, p.2),
)

module _ (rules : List Rule) (others : List Left) where
  -- The next is an entry that needs no reading, or the end of a subtree.
  pub passes_enter : (name : ℕ) → Passes rules None (left.noted (noted.Enter name) ∷ others) (event.Enter name) None others
  passes_enter name = (λ events g. (events, g, refl), λ at s. s, omega arith)

  pub passes_leave : Passes rules None (left.noted noted.Leave ∷ others) event.Leave None others
  passes_leave = (λ events g. (events, g, refl), λ at s. s, omega arith)

  pub passes_unit : (count : ℕ) → Passes rules None (left.noted (noted.Unit count) ∷ others) (event.Token count) None others
  passes_unit count = (λ events g. (events, g, refl), λ at s. s, omega arith)

  pub passes_close : Passes rules None (left.closes ∷ others) event.Close None others
  passes_close = (λ events g. (events, g, refl), λ at s. s, omega arith)

  -- It is a subtree.
  pub passes_open : (it : Level) (close : Span) → it.close ≡ Some close
      → Passes rules None (left.noted (noted.Holds it.trees close it.name) ∷ others) event.Open (Some it) (left.closes ∷ others)
  passes_open it close same = (
    λ events g.
        let rest = g.3 in
        (g.0, rest.0, g.2, rest.1, ap (λ (t : List Event). event.Open ∷ t) (g.4 ∙ ap (λ (t : List Event). g.0 ++ t) rest.2)),
    λ at s. subst (λ c. StopsBehind rules (record { trees = trees_of it.trees; close = c; name = it.name }) (left.closes ∷ others) at) same s,
    omega arith,
  )

-- What is left in a log from an index on begins with the entry at that index.
left_at : (log : List Noted) (at : ℕ) (it : Noted) → slice_get log at ≡ Some it → map left.noted (drop at log) ≡ left.noted it ∷ map left.noted (drop (suc at) log)
left_at [] at it e = absurd (cc e)
left_at (first ∷ log) zero it e = let same : first ≡ it = cc e in ap (λ (h : Noted). left.noted h ∷ map left.noted log) same
left_at (first ∷ log) (suc at) it e = left_at log at it e

none_left : (log : List Noted) (at : ℕ) → length log ≤ at → map left.noted (drop at log) ≡ []
none_left [] zero le = refl
none_left [] (suc at) le = refl
none_left (first ∷ log) zero le = absurd (omega (arith, le))
none_left (first ∷ log) (suc at) le = none_left log at (omega (arith, le))

module _ (rules : List Rule) (log : List Noted) (since at further : ℕ) (stop : Option Level) (older : List Open) (one : further ≡ suc at) where
  others : List Left
  others = ahead_in log since further stop older

  -- The next entry is the first of what is ahead.
  pub ahead_at : (it : Noted) → slice_get log at ≡ Some it → ahead_in log since at stop older ≡ left.noted it ∷ ahead_in log since further stop older
  ahead_at it e =
      ap (λ (t : List Left). t ++ stopped stop (around (take since log) older)) (left_at log at it e ∙ ap (λ n. left.noted it ∷ map left.noted (drop n log)) (sym one))

  -- An entry is passed, when no level is read next.
  pub entry_passed : (level : Option Level) → level ≡ None → (it : Noted) → slice_get log at ≡ Some it → (e : Event)
      → Passes rules None (left.noted it ∷ ahead_in log since further stop older) e None (ahead_in log since further stop older)
      → Passes rules level (left_by level log (record { since = since; next = at; stop = stop }) older) e level (left_by level log (record { since = since; next = further; stop = stop }) older)
  entry_passed level none it is e p =
      subst (λ v. Passes rules v (left_by v log (record { since = since; next = at; stop = stop }) older) e v (left_by v log (record { since = since; next = further; stop = stop }) older)) (sym none)
      (subst (λ l. Passes rules None l e None (ahead_in log since further stop older)) (sym (ahead_at it is)) p)

  -- the event is passed with the next entry
  abbrev OverOne : Option Level → Event → Type 0
  OverOne level e =
      Passes rules level (left_by level log (record { since = since; next = at; stop = stop }) older) e level (left_by level log (record { since = since; next = further; stop = stop }) older)

  plain_by : (level : Option Level) → level ≡ None → (o : Option Noted) → slice_get log at ≡ o → (e : Event) → plain_event o ≡ Some e → OverOne level e
  plain_by level none None is e h = absurd (cc h)
  plain_by level none (Some (noted.Enter name)) is e h =
      let same : event.Enter name ≡ e = cc h in subst (OverOne level) same (entry_passed level none (noted.Enter name) is (event.Enter name) (passes_enter rules (ahead_in log since further stop older) name))
  plain_by level none (Some noted.Leave) is e h =
      let same : event.Leave ≡ e = cc h in subst (OverOne level) same (entry_passed level none noted.Leave is event.Leave (passes_leave rules (ahead_in log since further stop older)))
  plain_by level none (Some (noted.Unit count)) is e h =
      let same : event.Token count ≡ e = cc h in subst (OverOne level) same (entry_passed level none (noted.Unit count) is (event.Token count) (passes_unit rules (ahead_in log since further stop older) count))
  plain_by level none (Some (noted.Holds trees close name)) is e h = absurd (cc h)

  -- An entry that is no subtree is passed with its event.
  pub plain_passed : (level : Option Level) → level ≡ None → (e : Event) → plain_event (slice_get log at) ≡ Some e → OverOne level e
  plain_passed level none e h = plain_by level none (slice_get log at) refl e h

  -- A subtree is opened.
  pub subtree_opened : (level : Option Level) → level ≡ None → (it : Level) (close : Span) → it.close ≡ Some close → slice_get log at ≡ Some (noted.Holds it.trees close it.name)
      → Passes rules level (left_by level log (record { since = since; next = at; stop = stop }) older) event.Open (Some it) (left_by (Some it) log (record { since = since; next = further; stop = stop }) older)
  subtree_opened level none it close same is =
      subst (λ v. Passes rules v (left_by v log (record { since = since; next = at; stop = stop }) older) event.Open (Some it) (left_by (Some it) log (record { since = since; next = further; stop = stop }) older)) (sym none)
      (subst (λ c. Passes rules None (ahead_in log since at stop older) event.Open (Some it) (behind_level c log (record { since = since; next = further; stop = stop }) older)) (sym same)
      (subst (λ l. Passes rules None l event.Open (Some it) (left.closes ∷ ahead_in log since further stop older)) (sym (ahead_at (noted.Holds it.trees close it.name) is))
      (passes_open rules (ahead_in log since further stop older) it close same)))

-- No entry is left of the innermost level.
module _ (rules : List Rule) (log : List Noted) (inner : Open) (older : List Open) (level : Option Level) (none : level ≡ None) (over : length log ≤ inner.next) where
  ahead_over : inside log inner older ≡ stopped inner.stop (around (take inner.since log) older)
  ahead_over = ap (λ (t : List Left). t ++ stopped inner.stop (around (take inner.since log) older)) (none_left log inner.next over)

  pub stops_here : (it : Level) → inner.stop ≡ Some it → StopsFrom rules level (left_by level log inner older) (place it)
  stops_here it is =
      subst (λ v. StopsFrom rules v (left_by v log inner older) (place it)) (sym none)
      (subst (λ l. Stops rules l (place it)) (sym (ahead_over ∙ ap (λ s. stopped s (around (take inner.since log) older)) is)) refl)

  pub ends_here : inner.stop ≡ None → older ≡ [] → GivesFrom rules level (left_by level log inner older) []
  ends_here is last =
      subst (λ v. GivesFrom rules v (left_by v log inner older) []) (sym none)
      (subst (λ l. Gives rules l []) (sym (ahead_over ∙ ap₂ (λ s o. stopped s (around (take inner.since log) o)) is last)) refl)

  pub level_left : inner.stop ≡ None → (outer : Open) (others : List Open) → older ≡ outer ∷ others
      → Passes rules level (left_by level log inner older) event.Close level (left_by level (take inner.since log) outer others)
  level_left is outer others more =
      subst (λ v. Passes rules v (left_by v log inner older) event.Close v (left_by v (take inner.since log) outer others)) (sym none)
      (subst (λ l. Passes rules None l event.Close None (inside (take inner.since log) outer others)) (sym (ahead_over ∙ ap₂ (λ s o. stopped s (around (take inner.since log) o)) is more))
      (passes_close rules (inside (take inner.since log) outer others)))

-- The entries of a level are added to the log.
pub entries_added : (old more new : List Noted) (since : ℕ) (stop : Option Level) (older : List Open) → new ≡ old ++ more → since ≡ length old
    → ahead_in new since since stop older ≡ map left.noted more ++ stopped stop (around old older)
entries_added old more new since stop older is first =
    ap₂ (λ log n. ahead_in log n n stop older) is first
    ∙ ap₂ (λ d t. map left.noted d ++ stopped stop (around t older)) (drop-append_seam old more) (take-append_seam old more)

-- They are no more than that.
pub added_length : (more : List Noted) (stop : Option Level) (others : List Left) → length (map left.noted more ++ stopped stop others) ≤ length more + suc (length others)
added_length [] None others = omega arith
added_length [] (Some it) others = omega arith
added_length (first ∷ more) stop others = omega (arith, added_length more stop others)

-- A level was read.
pub entered : (rules : List Rule) (it : Level) (before mid : List Left) → IsRead rules (place it) before (Some mid) → length mid ≤ length before + 2 ^ 64
    → ((events : List Event) → GivesFrom rules None mid events → GivesFrom rules (Some it) before events) × ((at : Place) → StopsFrom rules None mid at → StopsFrom rules (Some it) before at)
    × (steps_of None mid < steps_of (Some it) before)
entered rules it before mid r fits = (r.0, r.1, omega (arith, r.2, fits))

pub entered_ahead : (rules : List Rule) (level : Option Level) (it : Level) → level ≡ Some it → (log new : List Noted) (top inner : Open) (older others : List Open)
    → around log others ≡ behind_level it.close log top older → IsRead rules (place it) (around log others) (Some (inside new inner others))
    → length (inside new inner others) ≤ length (around log others) + 2 ^ 64
    → ((events : List Event) → Gives rules (inside new inner others) events → GivesFrom rules level (left_by level log top older) events)
    × ((at : Place) → Stops rules (inside new inner others) at → StopsFrom rules level (left_by level log top older) at)
    × (steps_of None (inside new inner others) < steps_of level (left_by level log top older))
entered_ahead rules level it some log new top inner older others same r fits =
    subst (λ v. ((events : List Event) → Gives rules (inside new inner others) events → GivesFrom rules v (left_by v log top older) events)
    × ((at : Place) → Stops rules (inside new inner others) at → StopsFrom rules v (left_by v log top older) at)
    × (steps_of None (inside new inner others) < steps_of v (left_by v log top older))) (sym some)
    (entered rules it (behind_level it.close log top older) (inside new inner others) (subst (λ b. IsRead rules (place it) b (Some (inside new inner others))) same r)
    (subst (λ b. length (inside new inner others) ≤ length b + 2 ^ 64) same fits))

-- What comes next behind a level that was read comes next before it.
pub next_behind : (old mid new : Derivation) (level : Level) → IsEntered old level true mid → (it : NextEvent) → IsNext mid it new → IsNext old it new
next_behind old mid new level r (next.Event it) n = (λ events g. r.1 (it ∷ events) (n.0 events g), λ at s. r.2 at (n.1 at s), omega (arith, n.2, r.3))
next_behind old mid new level r next.End n = r.1 [] n
next_behind old mid new level r (next.Refused at) n = r.2 (place at) n

-- what the events so far show of the whole, while those ahead are left
pub record Collects (Ahead : (events : List Event) → Type 0) (Stopped : Place → Type 0) (Whole : (events : List Event) → Type 0) (Refused : Place → Type 0) (events : List Event) : Type 0 where
  pub gives : (more : List Event) → Ahead more → Whole (events ++ more)
  pub stops : (at : Place) → Stopped at → Refused at

-- the events that were passed so far, and were added to a list, with room in it for more
pub record Adds (before after : List Event) (Brought : (passed : List Event) → Type 0) (Roomy : Type 0) : Type 0 where
  pub passed : List Event
  pub items : after ≡ before ++ passed
  pub brings : Brought passed
  pub room : Roomy

-- the same if the events so far are dropped
pub record Drops (Ahead : (events : List Event) → Type 0) (Stopped : Place → Type 0) (Whole : (events : List Event) → Type 0) (Refused : Place → Type 0) : Type 0 where
  pub gives : (more : List Event) → Ahead more → (events : List Event) × Whole events
  pub stops : (at : Place) → Stopped at → Refused at

-- the same if only the places are kept at which expressions of the wanted names begin
pub record Finds (wanted : List ℕ) (Ahead : (events : List Event) → Type 0) (Stopped : Place → Type 0) (Whole : (events : List Event) → Type 0) (Refused : Place → Type 0) (first here : Cursor) (found : List Beginning) : Type 0 where
  pub gives : (more : List Event) → Ahead more → (events : List Event) × Whole events × (beginnings wanted events first ≡ found ++ beginnings wanted more here)
  pub stops : (at : Place) → Stopped at → Refused at
