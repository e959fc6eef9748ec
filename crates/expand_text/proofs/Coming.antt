-- How a walk through the trees of a text comes to levels.
use Rattle.std.proofs.Common.{◌≡◌, List, [], ◌∷◌, ℕ, true, Option, None, Some, subst, sym}
use Rattle.tt.specs.Forest.{Forest}
use Rattle.tt.specs.Types.Span.{Span}
use Rattle.expand_items.specs.Positions.{begun as begun_among}
use Rattle.expand_items.specs.declared.position.Siblings.TheVariants.{Items}
use Rattle.expand_text.specs.Contexts.{Config, Context}
use Rattle.expand_text.specs.Meaning.{ExpandsTo}
use Rattle.expand_text.specs.Outcomes.{Outcome}
use Rattle.expand_text.specs.Stops.{ComesTo, IsStop, IsStopIn}
use Rattle.expand_text.specs.Walks.{Level, Ends, Leads, begun}

-- It begins at the trees.
pub comes_first : (config : Config) (limit : ℕ) (trees : Forest) (before : Context) (close : Span) → ComesTo config limit trees before (begun (begun_among Items) trees close ∷ []) before
comes_first config limit trees before close = record { leads = by }
  where
    by : (after : Context) (outcomes : List Outcome) → Ends config true limit (begun (begun_among Items) trees close ∷ []) before after outcomes
        → (outcome : Outcome) × ExpandsTo config true limit (begun_among Items) 0 before trees after outcome
    by after [] e = absurd e
    by after (it ∷ []) (inside, expands_to, e) = (it, subst (λ k. ExpandsTo config true limit (begun_among Items) 0 before trees k it) e expands_to)
    by after (it ∷ other ∷ more) (inside, expands_to, e) = absurd e

-- It goes on.
pub comes_on : (config : Config) (limit : ℕ) (trees : Forest) (before now others : Context) (levels nexts : List Level) (grown : List Outcome → List Outcome) → ComesTo config limit trees before levels now
    → Leads config true limit levels now grown nexts others → ComesTo config limit trees before nexts others
comes_on config limit trees before now others levels nexts grown comes leads = record { leads = λ after outcomes e. comes.leads after (grown outcomes) (leads after outcomes e) }

-- Memory that runs out at levels that it comes to runs out in it.
pub stops_in : (config : Config) (limit : ℕ) (trees : Forest) (before now : Context) (levels : List Level) (call : Option ℕ) → ComesTo config limit trees before levels now → IsStop config levels call
    → IsStopIn config limit trees before call
stops_in config limit trees before now levels None comes stop = tt
stops_in config limit trees before now levels (Some at) comes stop = (levels, now, comes, stop)
