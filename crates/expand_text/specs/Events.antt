-- The next event of a walk, and what follows.
use Rattle.std.specs.Prelude.{◌≡◌, ◌<◌, ◌≤◌, ℕ, Bool, false, suc, List, [], ◌∷◌, length}
use Rattle.tt.specs.Forest.{Forest, Root, size}
use Rattle.tt.specs.Span.{start_of}
use Rattle.expand_text.specs.declared.fault.MacroFault.{MacroFault}
use Rattle.expand_text.specs.declared.invocation.Invocation.{Invocation}
use Rattle.expand_text.specs.declared.next.Event.{Event}
use Rattle.expand_text.specs.declared.next.Event.TheVariants as event
use Rattle.expand_text.specs.CallSites.{PutIn, IsKept}
use Rattle.expand_text.specs.Contexts.{Config, Context, with_finding, outside_call}
use Rattle.expand_text.specs.Invocations.{body_of, entered_by, found_by, site_of}
use Rattle.expand_text.specs.Macros.{MayBePut}
use Rattle.expand_text.specs.Meaning.{ExpandsTo}
use Rattle.expand_text.specs.Outcomes.{Outcome, nothing, trees_left}
use Rattle.expand_text.specs.Walks.{Level, Ends, Leads, first_leaf, first_subtree, first_stay, first_becomes, front_in, past_in, closes_of, work_in}

-- what comes next after a call of these trees that expands to others: they replace it if they fit and are allowed; or the call stays, which is
-- found
pub record GoesPast (config : Config) (in_text : Bool) (limit : ℕ) (levels : List Level) (context : Context) (it : Invocation) (whole trees : Forest) (nexts : List Level) (behind : Context) : Type 0 where
  pub puts :
      (put : Forest) → PutIn in_text (site_of whole it) trees put → MayBePut in_text it.delimiter put
      → Leads config in_text limit levels context (first_becomes (site_of whole it).attributes it.first_span it.last_span put) nexts behind
  pub stays :
      (at : ℕ) (fault : MacroFault) → IsKept in_text (site_of whole it) trees (start_of it.first_span.range) at fault
      → Leads config in_text limit levels context (first_stay whole) nexts (with_finding (found_by it at fault) behind)

-- a call that comes first at these levels is expanded, with one nested expansion less: whatever it expands to, the walk goes on past it
pub record IsExpandedAt (config : Config) (in_text : Bool) (limit : ℕ) (levels : List Level) (context : Context) (it : Invocation) (tree : Root) (here : List Level) (others : Context) : Type 0 where
  pub left : ℕ
  pub fits : limit ≡ suc left
  pub goes :
      (inside : Context) (held : Outcome) → ExpandsTo config false left it.position 0 (entered_by config it tree others) (body_of it tree) inside held
      → GoesPast config in_text limit levels context it (front_in it.part here) (trees_left held) (past_in it.part here) (outside_call others inside)

-- the next event, and what follows; at the levels `here` then, a part that stays or a call comes first
abbrev pub IsNext : Config → (in_text : Bool) → (limit : ℕ) → List Level → Context → Event → (here : List Level) → Context → Type 0
IsNext config in_text limit levels context event.End here others = Ends config in_text limit levels context others (nothing ∷ [])
IsNext config in_text limit levels context (event.Leaf it) here others = Leads config in_text limit levels context (first_leaf it) here others
IsNext config in_text limit levels context (event.Opens header) here others = Leads config in_text limit levels context (first_subtree header.delimiter) here others
IsNext config in_text limit levels context (event.Closes close) here others = Leads config in_text limit levels context (λ outcomes. nothing ∷ outcomes) here others
IsNext config in_text limit levels context (event.Stays part) here others =
    Leads config in_text limit levels context (first_stay (front_in part here)) (past_in part here) others
IsNext config in_text limit levels context (event.Invocation it tree) here others = IsExpandedAt config in_text limit levels context it tree here others

-- how levels become others: which are entered and left, and that less is left to do
abbrev pub Steps : List Level → Event → (here : List Level) → Type 0
Steps levels event.End here = length (closes_of levels) ≡ 1
Steps levels (event.Opens header) here = (closes_of here ≡ header.delimiter.close ∷ closes_of levels) × (work_in here < work_in levels)
Steps levels (event.Closes close) here = (close ∷ closes_of here ≡ closes_of levels) × (work_in here < work_in levels)
Steps levels (event.Leaf it) here = (closes_of here ≡ closes_of levels) × (work_in here < work_in levels)
Steps levels (event.Stays part) here = (closes_of here ≡ closes_of levels) × (work_in (past_in part here) < work_in here) × (work_in here ≤ work_in levels)
Steps levels (event.Invocation it tree) here = (closes_of here ≡ closes_of levels) × (suc (work_in (past_in it.part here)) < work_in here) × (work_in here ≤ work_in levels)

-- a call is expanded only if one expansion more is allowed, and so many tokens
abbrev pub IsWithin : (limit allowed : ℕ) → Event → Type 0
IsWithin limit allowed (event.Invocation it tree) = (0 < limit) × (size tree.children ≤ allowed)
IsWithin limit allowed other = Unit {0}
