-- The machine's steps.
use Rattle.std.specs.Prelude.{◌≡◌, ℕ, zero, suc, Bool, true, false, List, [], ◌∷◌, length, Option, None, Some, slice_get}
use Rattle.mbe_grammar.specs.declared.known.Glance.{Glance}
use Rattle.mbe_grammar.specs.declared.known.Glance.TheVariants as glance
use Rattle.mbe_grammar.specs.declared.rule.Rule.{Rule}
use Rattle.mbe_grammar.specs.declared.rule.Rule.TheVariants as rule
use Rattle.mbe_grammar.specs.Positions.{Position, takes, opened, closed}

-- what the machine does next: it reads an expression, or an expression has answered
pub data State : Type 0 where
  reading : (at : ℕ) → (from : Position) → State
  answered : (answer : Option Position) → State

-- what waits for the answer of a part: a name, with the length of the log before it; the second part of a sequence; the other part of a
-- choice; a repetition, with the place reached so far; a negation
pub data Frame : Type 0 where
  in_name : (since : ℕ) → Frame
  in_sequence : (second : ℕ) → Frame
  in_choice : (other : ℕ) → (from : Position) → Frame
  in_repetition : (at : ℕ) → (from : Position) → Frame
  in_not : (from : Position) → Frame

-- what is next after an expression begins, and what waits for it
pub record Begun : Type 0 where
  pub state : State
  pub waiting : Option Frame

-- the outcome of a step
pub data Next : Type 0 where
  goes : State → Next
  ends : (answer : Option Position) → Next

-- what is next when an expression is entered, by what is known of it
abbrev pub entered_by : Glance → (at : ℕ) (from : Position) → State
entered_by glance.Fails at from = answered None
entered_by glance.Idles at from = answered (Some from)
entered_by glance.Open at from = reading at from

abbrev pub entered : (looks : ℕ → Position → Glance) → (at : ℕ) (from : Position) → State
entered looks at from = entered_by (looks at from) at from

-- what is next after an answer to a waiting frame
abbrev pub resumed : (looks : ℕ → Position → Glance) → Frame → (answer : Option Position) → State
resumed looks (in_name since) None = answered None
resumed looks (in_name since) (Some to) = answered (Some (closed true since to))
resumed looks (in_sequence second) None = answered None
resumed looks (in_sequence second) (Some middle) = entered looks second middle
resumed looks (in_choice other from) None = entered looks other from
resumed looks (in_choice other from) (Some to) = answered (Some to)
resumed looks (in_repetition at from) None = answered (Some from)
resumed looks (in_repetition at from) (Some middle) = entered looks at middle
resumed looks (in_not from) None = answered (Some from)
resumed looks (in_not from) (Some to) = answered None

-- that is next, and nothing waits for it
abbrev pub free : State → Begun
free state = record { state = state; waiting = None }

-- a part is read, and this waits for it
abbrev pub within : (part : ℕ) (from : Position) → Frame → Begun
within part from frame = record { state = reading part from; waiting = Some frame }

-- how the expression of a name begins; the name waits for its end only if entries are noted
abbrev pub begun_name : (noting : Bool) → (at other : ℕ) (from : Position) → Begun
begun_name true at other from = within other (opened true at from) (in_name (length from.log))
begun_name false at other from = free (reading other from)

-- how a sequence begins after its first part has answered
abbrev pub begun_behind : (looks : ℕ → Position → Glance) → (second : ℕ) (answer : Option Position) → Begun
begun_behind looks second None = free (answered None)
begun_behind looks second (Some middle) = free (entered looks second middle)

-- how a sequence begins whose first part is no unit, by what is known of that part
abbrev pub begun_first : (first second : ℕ) (from : Position) → Glance → Begun
begun_first first second from glance.Fails = within first from (in_sequence second)
begun_first first second from glance.Idles = free (reading second from)
begun_first first second from glance.Open = within first from (in_sequence second)

-- how a sequence begins; a unit is taken at once
abbrev pub begun_sequence : (noting : Bool) → (looks : ℕ → Position → Glance) → (first second : ℕ) (from : Position) → Option Rule → Begun
begun_sequence noting looks first second from (Some (rule.Unit wanted)) = begun_behind looks second (takes noting wanted from)
begun_sequence noting looks first second from _ = begun_first first second from (looks first from)

-- how a choice begins whose first part is tried; if the other part is known to fail, nothing waits
abbrev pub begun_try : (first other : ℕ) (from : Position) → (of_other : Glance) → Begun
begun_try first other from glance.Fails = free (reading first from)
begun_try first other from glance.Idles = within first from (in_choice other from)
begun_try first other from glance.Open = within first from (in_choice other from)

-- how a choice begins, by what is known of both parts
abbrev pub begun_choice : (first other : ℕ) (from : Position) → (of_first of_other : Glance) → Begun
begun_choice first other from glance.Fails of_other = free (reading other from)
begun_choice first other from glance.Idles of_other = begun_try first other from of_other
begun_choice first other from glance.Open of_other = begun_try first other from of_other

-- how the expression of a rule begins: what is next, and what waits for it
abbrev pub begun_by : (noting : Bool) → (looks : ℕ → Position → Glance) → List Rule → (at : ℕ) (from : Position) → Option Rule → Begun
begun_by noting looks rules at from None = free (answered None)
begun_by noting looks rules at from (Some rule.Empty) = free (answered (Some from))
begun_by noting looks rules at from (Some (rule.Unit wanted)) = free (answered (takes noting wanted from))
begun_by noting looks rules at from (Some (rule.Name other)) = begun_name noting at other from
begun_by noting looks rules at from (Some (rule.Sequence first second)) = begun_sequence noting looks first second from (slice_get rules first)
begun_by noting looks rules at from (Some (rule.Choice first other)) = begun_choice first other from (looks first from) (looks other from)
begun_by noting looks rules at from (Some (rule.ZeroOrMore part)) = within part from (in_repetition at from)
begun_by noting looks rules at from (Some (rule.Not part)) = within part from (in_not from)

abbrev pub begun : (noting : Bool) → (looks : ℕ → Position → Glance) → List Rule → (at : ℕ) (from : Position) → Begun
begun noting looks rules at from = begun_by noting looks rules at from (slice_get rules at)

-- what waits, the newest first
abbrev pub awaited : Option Frame → List Frame → List Frame
awaited None frames = frames
awaited (Some frame) frames = frame ∷ frames

-- a step: what is next, and what then waits
abbrev pub IsStep : (noting : Bool) → (looks : ℕ → Position → Glance) → List Rule → State → (before : List Frame) → Next → (after : List Frame) → Type 0
IsStep noting looks rules (reading at from) before step after =
    (step ≡ goes (begun noting looks rules at from).state) × (after ≡ awaited (begun noting looks rules at from).waiting before)
IsStep noting looks rules (answered found) [] step after = step ≡ ends found
IsStep noting looks rules (answered found) (frame ∷ before) step after = (step ≡ goes (resumed looks frame found)) × (after ≡ before)

-- the machine stops with this answer after exactly that many steps
abbrev pub Ends : (noting : Bool) → (looks : ℕ → Position → Glance) → List Rule → (count : ℕ) → State → List Frame → (answer : Option Position) → Type 0
Ends noting looks rules zero (reading at from) frames answer = ⊥
Ends noting looks rules zero (answered found) [] answer = found ≡ answer
Ends noting looks rules zero (answered found) (frame ∷ frames) answer = ⊥
Ends noting looks rules (suc count) (reading at from) frames answer =
    Ends noting looks rules count (begun noting looks rules at from).state (awaited (begun noting looks rules at from).waiting frames) answer
Ends noting looks rules (suc count) (answered found) [] answer = ⊥
Ends noting looks rules (suc count) (answered found) (frame ∷ frames) answer = Ends noting looks rules count (resumed looks frame found) frames answer
