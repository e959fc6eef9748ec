-- Where the filling of a template is, and how it goes on.
use Rattle.std.specs.Prelude.{◌≡◌, ◌+◌, ◌<◌, ◌≤◌, ◌⊎◌, ℕ, zero, suc, List, [], ◌∷◌, ◌++◌, map, drop, reverse, Option, None, option_map}
use Rattle.tt.specs.Building.{tokens_held, append, close_innermost, opened, HasRoom}
use Rattle.tt.specs.Forest.{Forest, size}
use Rattle.tt.specs.Stored.{most_tokens}
use Rattle.tt.specs.Types.Delimiter.{Delimiter}
use Rattle.tt.specs.Types.DelimiterKind.{DelimiterKind}
use Rattle.tt.specs.Types.Leaf.{Leaf}
use Rattle.tt.specs.Types.Span.{Span}
use Rattle.tt.specs.Types.TtFault.TheVariants as limit
use Rattle.mbe_pattern.specs.declared.pattern.RepeatKind.{RepeatKind}
use Rattle.mbe_matcher.specs.Bindings.{Bound, Binding}
use Rattle.mbe_rules.specs.declared.transcribe_error.TranscribeError.{TranscribeError}
use Rattle.mbe_rules.specs.declared.transcribe_error.TranscribeError.TheVariants as error
use Rattle.mbe_rules.specs.declared.transcribe.Transcriber.{Transcriber}
use Rattle.mbe_rules.specs.declared.parts.Part.{Part}
use Rattle.mbe_rules.specs.declared.taken.Round.{Round}
use Rattle.mbe_rules.specs.declared.taken.Taken.{Taken}
use Rattle.mbe_rules.specs.Limits.{IsOver, IsWithin}
use Rattle.mbe_rules.specs.Results.{IsFirstFault, error_of}
use Rattle.mbe_rules.specs.Transcribing.{Transcribed, TranscribeFault, faulted, still_repeats, nothing_repeats, lengths_differ, no_round, others_of, in_round}
use Rattle.mbe_rules.specs.Parts.{Bit, close, bits_of, bit_of}
use Rattle.mbe_rules.specs.Rounds.{AreTaken, binding_in, dones}
use Rattle.mbe_rules.specs.Templates.{Template}
use Rattle.mbe_rules.specs.Working.{work_of}
use Rattle.mbe_rules.specs.Writing.{Closing, last, shut, again, Level, end_of, Written, written_by, finished}

-- what is bound in the rounds from that number on
abbrev pub later : ℕ → Bound → Bound
later zero bound = bound
later (suc n) bound = later n (others_of bound)

-- `left` rounds follow the current round of a repetition, whose body begins with that part; `outside` is bound around it
pub record IsRound (bits behind : List Bit) (body : Template) (separator : List Leaf) (kind : RepeatKind) (left : ℕ) (others outside : Binding) (it : Round) : Type 0 where
  pub begins : drop it.body bits ≡ bits_of body (close separator kind ∷ behind)
  pub count : it.done + left ≡ it.last
  pub bound : others ≡ map (in_round (later (suc it.done))) outside

-- what is bound in the rounds under way, the innermost first
abbrev pub bound_here : Binding → List Round → Binding
bound_here whole rounds = binding_in (dones (reverse rounds)) whole

-- the end of a level agrees with the parts after it, the rounds under way, and the open subtrees
abbrev pub IsEnd : List Bit → Binding → (Outer : List Round → List Span → Type 0) → Closing → List Round → List Span → (behind : List Bit) → Type 0
IsEnd bits whole Outer last rounds closes behind = (closes ≡ []) × Outer rounds closes
IsEnd bits whole Outer (shut span) rounds closes behind = (others : List Span) × (closes ≡ span ∷ others) × Outer rounds others
IsEnd bits whole Outer (again body separator kind left others) rounds closes behind =
    (it : Round) × (more : List Round) × (rounds ≡ it ∷ more) × IsRound bits behind body separator kind left others (bound_here whole more) it
    × Outer more closes

-- all levels, the innermost first, agree with the parts that are left
abbrev pub AreLevels : List Bit → Binding → List Level → List Round → List Span → (left : List Bit) → Type 0
AreLevels bits whole [] rounds closes left = (rounds ≡ []) × (closes ≡ []) × (left ≡ [])
AreLevels bits whole (level ∷ outer) rounds closes left =
    (behind : List Bit) × (left ≡ bits_of level.rest (end_of level.closing ∷ behind)) × (level.binding ≡ bound_here whole rounds)
    × IsEnd bits whole (λ more others. AreLevels bits whole outer more others behind) level.closing rounds closes behind

-- how many tokens may be written in all, if that is limited
abbrev pub most_of : Transcriber → Option ℕ
most_of it = option_map (λ left. left + tokens_held it.builder.stack) it.left

-- the filling is before these parts, in those levels
pub record IsAt (bits : List Bit) (whole : Binding) (levels : List Level) (it : Transcriber) (left : List Bit) : Type 0 where
  pub agree : AreLevels bits whole levels (reverse it.rounds.items) (reverse it.closes.items) left
  pub few : tokens_held it.builder.stack ≤ most_tokens

-- the filling goes on to before these parts: the final result stays the same, and less is left to do
pub record Goes (bits : List Bit) (whole : Binding) (levels : List Level) (old new : Transcriber) (left : List Bit) : Type 0 where
  pub news : List Level
  pub is_at : IsAt bits whole news new left
  pub same : finished news (written_by new) ≡ finished levels (written_by old)
  pub less : work_of news < work_of levels
  pub top : new.builder.top ≡ old.builder.top
  pub most : most_of new ≡ most_of old

-- the trees are written, and there is room for them
pub record Grows (more : Forest) (old new : Transcriber) : Type 0 where
  pub stack : new.builder.stack ≡ append more old.builder.stack
  pub top : new.builder.top ≡ old.builder.top
  pub few : tokens_held old.builder.stack ≤ most_tokens → tokens_held new.builder.stack ≤ most_tokens
  pub most : most_of new ≡ most_of old
  pub rounds : new.rounds ≡ old.rounds
  pub closes : new.closes ≡ old.closes

-- that many tokens are too many for a tree, and a limit of them is higher; or they exceed the limit
abbrev pub IsTooMany : ℕ → Transcriber → TranscribeError → Type 0
IsTooMany more old fault =
    ((fault ≡ error.Tree limit.TooManyTokens) × (most_tokens < tokens_held old.builder.stack + more) × IsWithin (most_of old) (suc most_tokens))
    ⊎ ((fault ≡ error.OverLimit) × IsOver (most_of old) (tokens_held old.builder.stack + more))

-- that many tokens cannot be written: memory ran out, or they are too many
abbrev pub IsWant : ℕ → Transcriber → TranscribeError → Type 0
IsWant more old fault = (fault ≡ error.Tree limit.Memory) ⊎ IsTooMany more old fault

-- a use becomes trees, which are written
abbrev pub IsUsed : Transcribed → (old new : Transcriber) → Type 0
IsUsed it old new = (it.fault ≡ None) × Grows it.trees old new

-- or it has a fault, or its trees cannot be written
abbrev pub IsUseError : Transcribed → (old : Transcriber) → TranscribeError → Type 0
IsUseError it old why = ((fault : TranscribeFault) × (it ≡ faulted fault) × (why ≡ error_of fault)) ⊎ ((it.fault ≡ None) × IsWant (size it.trees) old why)

-- a subtree is opened
pub record Opens (kind : DelimiterKind) (open_span : Span) (old new : Transcriber) : Type 0 where
  pub builder : new.builder ≡ opened kind open_span old.builder
  pub room : HasRoom 1 old.builder
  pub most : most_of new ≡ most_of old
  pub rounds : new.rounds ≡ old.rounds
  pub closes : new.closes ≡ old.closes

-- and how it is closed is known
pub record Enters (delimiter : Delimiter) (old new : Transcriber) : Type 0 where
  pub builder : new.builder ≡ opened delimiter.kind delimiter.open_span old.builder
  pub room : HasRoom 1 old.builder
  pub most : most_of new ≡ most_of old
  pub rounds : new.rounds ≡ old.rounds
  pub closes : new.closes.items ≡ old.closes.items ++ delimiter.close ∷ []

-- the innermost subtree is closed, if one is open
abbrev pub AreClosed : List Span → (old new : Transcriber) → Type 0
AreClosed [] old new = (new.builder ≡ old.builder) × (new.left ≡ old.left) × (new.rounds ≡ old.rounds) × (new.closes.items ≡ [])
AreClosed (span ∷ others) old new =
    (new.builder.stack ≡ close_innermost span old.builder.stack) × (new.builder.top ≡ old.builder.top) × (new.left ≡ old.left) × (new.rounds ≡ old.rounds)
    × (reverse new.closes.items ≡ others)

abbrev pub Leaves : (old new : Transcriber) → Type 0
Leaves old new = AreClosed (reverse old.closes.items) old new

-- the final result has that fault, or is too large, or memory ran out
abbrev pub IsStop : (most : Option ℕ) → Written → TranscribeError → Type 0
IsStop most it (error.StillRepeats at) = IsFirstFault most it.fault (tokens_held it.stack) (still_repeats at)
IsStop most it (error.NothingRepeats at) = IsFirstFault most it.fault (tokens_held it.stack) (nothing_repeats at)
IsStop most it (error.LengthsDiffer at) = IsFirstFault most it.fault (tokens_held it.stack) (lengths_differ at)
IsStop most it (error.NoRound at) = IsFirstFault most it.fault (tokens_held it.stack) (no_round at)
IsStop most it error.OverLimit = IsOver most (tokens_held it.stack)
IsStop most it (error.Tree limit.Memory) = Unit {0}
IsStop most it (error.Tree limit.TooManyTokens) = (most_tokens < tokens_held it.stack) × IsWithin most (suc most_tokens)
IsStop most it (error.Tree other) = ⊥

-- the parts from that index on
abbrev pub bits_from : List Part → ℕ → List Bit
bits_from parts n = map bit_of (drop n parts)

-- from any state before this part, which the part `behind` follows, the filling goes on to the next part
abbrev pub StepsTo : List Part → List Taken → Bit → (behind : ℕ) → (old new : Transcriber) → (next : ℕ) → Type 0
StepsTo parts taken it behind old new next =
    (whole : Binding) → (levels : List Level) → AreTaken whole taken → IsAt (map bit_of parts) whole levels old (it ∷ bits_from parts behind)
    → Goes (map bit_of parts) whole levels old new (bits_from parts next)

-- from any such state, filling ends with this error
abbrev pub StopsAt : List Part → List Taken → Bit → (behind : ℕ) → (old : Transcriber) → TranscribeError → Type 0
StopsAt parts taken it behind old error =
    (whole : Binding) → (levels : List Level) → AreTaken whole taken → IsAt (map bit_of parts) whole levels old (it ∷ bits_from parts behind)
    → IsStop (most_of old) (finished levels (written_by old)) error
