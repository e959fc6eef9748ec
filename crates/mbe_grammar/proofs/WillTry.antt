-- What the rest of a run tries, and that a step of the machine leaves the same, but for what it tries itself.
use Rattle.std.proofs.Common.{◌≡◌, inl, inr, ℕ, false, List, [], ◌∷◌, length, Some, None, refl, sym, subst, ap, ◌∙◌}
use Rattle.std.specs.Prelude.{◌⊎◌, slice_get, Option}
use Rattle.mbe_grammar.specs.declared.rule.Rule.{Rule}
use Rattle.mbe_grammar.specs.declared.rule.Rule.TheVariants as rule
use Rattle.mbe_grammar.specs.declared.test.Test.{Test}
use Rattle.mbe_grammar.specs.Known.{glance_at}
use Rattle.mbe_grammar.specs.Machine.{Frame, State, Begun, awaited, begun_behind, begun_sequence, begun_by, begun, resumed, IsStep}
use Rattle.mbe_grammar.specs.Machine as machine
use Rattle.mbe_grammar.specs.Parses.{Holds, Parses}
use Rattle.mbe_grammar.specs.Positions.{Position, takes}
use Rattle.mbe_grammar.specs.Tried.{tried_first, tried_by, negations}
use Rattle.mbe_grammar.specs.Trying.{TriesBy, Tries}
use Rattle.mbe_grammar.proofs.Behind.{closed_none}
use Rattle.mbe_grammar.proofs.Tries.{answer_parts, answer_whole, tries_parts, tries_whole}

module _ (rules : List Rule) (unit passed : ℕ) where
  -- the rest tries the unit there: the expression that is read, unless a negation waits, or what comes after its answer
  abbrev pub TriesFrom : State → List Frame → (next : Option Position → Type 0) → Type 0
  TriesFrom (machine.answered found) frames next = next found
  TriesFrom (machine.reading at from) frames next =
      ((negations frames ≡ 0) × Tries rules at from unit passed) ⊎ ((answer : Option Position) × Parses false rules at from answer × next answer)

  -- the frames try the unit there after an answer
  abbrev pub WaitsToTry : List Frame → (found : Option Position) → Type 0
  WaitsToTry [] found = ⊥
  WaitsToTry (frame ∷ frames) found = TriesFrom (resumed (glance_at []) frame found) frames (WaitsToTry frames)

  -- the rest of a run tries the unit there
  abbrev pub WillTry : State → List Frame → Type 0
  WillTry state frames = TriesFrom state frames (WaitsToTry frames)

  -- At the beginning that is what the expression tries.
  pub first_will : (at : ℕ) (from : Position) → Tries rules at from unit passed → WillTry (machine.reading at from) []
  first_will at from h = inl (refl, h)

  pub will_first : (at : ℕ) (from : Position) → WillTry (machine.reading at from) [] → Tries rules at from unit passed
  will_first at from (inl h) = h.1
  will_first at from (inr h) = absurd h.2

  module _ (frames : List Frame) where
    -- the rest of a run tries the unit there after an expression begins
    abbrev Goes : Begun → Type 0
    Goes begun = WillTry begun.state (awaited begun.waiting frames)

    -- the beginning itself tries the unit there
    abbrev Now : (tried : Option ℕ) → (from : Position) → Type 0
    Now tried from = (negations frames ≡ 0) × (tried ≡ Some unit) × (passed ≡ from.passed)

    -- the whole tries the unit there, by the parts of the expression
    abbrev Whole : (at : ℕ) → Option Rule → (from : Position) → Type 0
    Whole at it from =
        ((negations frames ≡ 0) × TriesBy (Parses false rules) (Tries rules) at it from unit passed)
        ⊎ ((answer : Option Position) × Holds false (Parses false rules) at it from answer × WaitsToTry frames answer)

    abbrev Waits : (answer : Option Position) → Type 0
    Waits answer = WaitsToTry frames answer

    waits_as : (answer other : Option Position) → answer ≡ other → Waits answer → Waits other
    waits_as answer other e w = subst (WaitsToTry frames) e w

    -- a unit by itself
    unit_answer : (at : ℕ) (from : Position) (answer : Option Position) (wanted : Test) → slice_get rules at ≡ Some (rule.Unit wanted) → Parses false rules at from answer → answer ≡ takes false wanted from
    unit_answer at from answer wanted e p = subst (λ it. Holds false (Parses false rules) at it from answer) e (answer_parts rules at from answer p)

    unit_taken : (at : ℕ) (from : Position) (wanted : Test) → slice_get rules at ≡ Some (rule.Unit wanted) → Parses false rules at from (takes false wanted from)
    unit_taken at from wanted e = answer_whole rules at from (takes false wanted from) (subst (λ it. Holds false (Parses false rules) at it from (takes false wanted from)) (sym e) refl)

    unit_tried : (at : ℕ) (from : Position) (wanted : Test) → slice_get rules at ≡ Some (rule.Unit wanted) → Tries rules at from unit passed → (unit ≡ at) × (passed ≡ from.passed)
    unit_tried at from wanted e t = subst (λ it. TriesBy (Parses false rules) (Tries rules) at it from unit passed) e (tries_parts rules unit passed at from t)

    unit_tries : (at : ℕ) (from : Position) (wanted : Test) → slice_get rules at ≡ Some (rule.Unit wanted) → unit ≡ at → passed ≡ from.passed → Tries rules at from unit passed
    unit_tries at from wanted e same place =
        tries_whole rules unit passed at from (subst (λ it. TriesBy (Parses false rules) (Tries rules) at it from unit passed) (sym e) (same, place))

    -- A sequence tries what is tried when its first part is read.
    module _ (at first second : ℕ) (from : Position) where
      abbrev Begins : Option Rule → Type 0
      Begins it = Goes (begun_sequence false (glance_at []) first second from it)

      abbrev Sequence : Type 0
      Sequence = Whole at (Some (rule.Sequence first second)) from

      -- the first part is read
      abbrev Within : Type 0
      Within = WillTry (machine.reading first from) (machine.in_sequence second ∷ frames)

      within_split : Sequence → Within
      within_split (inl (none, inl t)) = inl (none, t)
      within_split (inl (none, inr (middle, p, t))) = inr (Some middle, p, inl (none, t))
      within_split (inr (answer, inl (p, e), w)) = inr (None, p, waits_as answer None e w)
      within_split (inr (answer, inr (middle, p, q), w)) = inr (Some middle, p, inr (answer, q, w))

      within_join : Within → Sequence
      within_join (inl (none, t)) = inl (none, inl t)
      within_join (inr (None, p, w)) = inr (None, inl (p, refl), w)
      within_join (inr (Some middle, p, inl (none, t))) = inl (none, inr (middle, p, t))
      within_join (inr (Some middle, p, inr (answer, q, w))) = inr (answer, inr (middle, p, q), w)

      -- the second part is next, after an answer of the first
      behind_split : Within → ((negations frames ≡ 0) × Tries rules first from unit passed) ⊎ ((answer : Option Position) × Parses false rules first from answer × Goes (begun_behind (glance_at []) second answer))
      behind_split (inl h) = inl h
      behind_split (inr (None, p, w)) = inr (None, p, w)
      behind_split (inr (Some middle, p, w)) = inr (Some middle, p, w)

      behind_join : (answer : Option Position) → Parses false rules first from answer → Goes (begun_behind (glance_at []) second answer) → Within
      behind_join None p w = inr (None, p, w)
      behind_join (Some middle) p w = inr (Some middle, p, w)

      unit_split : (wanted : Test) → slice_get rules first ≡ Some (rule.Unit wanted) → Within → Now (Some first) from ⊎ Goes (begun_behind (glance_at []) second (takes false wanted from))
      unit_split wanted e w = by (behind_split w)
        where
          by : ((negations frames ≡ 0) × Tries rules first from unit passed) ⊎ ((answer : Option Position) × Parses false rules first from answer × Goes (begun_behind (glance_at []) second answer))
              → Now (Some first) from ⊎ Goes (begun_behind (glance_at []) second (takes false wanted from))
          by (inl (none, t)) = let it = unit_tried first from wanted e t in inl (none, ap Some (sym it.0), it.1)
          by (inr (answer, p, g)) = inr (subst (λ a. Goes (begun_behind (glance_at []) second a)) (unit_answer first from answer wanted e p) g)

      open_split : (it : Option Rule) → slice_get rules first ≡ it → Sequence → Now (tried_first first it) from ⊎ Begins it
      open_split (Some (rule.Unit wanted)) e h = unit_split wanted e (within_split h)
      open_split None e h = inr (within_split h)
      open_split (Some rule.Empty) e h = inr (within_split h)
      open_split (Some (rule.Name x)) e h = inr (within_split h)
      open_split (Some (rule.Sequence x y)) e h = inr (within_split h)
      open_split (Some (rule.Choice x y)) e h = inr (within_split h)
      open_split (Some (rule.ZeroOrMore x)) e h = inr (within_split h)
      open_split (Some (rule.Not x)) e h = inr (within_split h)

      open_join : (it : Option Rule) → slice_get rules first ≡ it → Begins it → Sequence
      open_join (Some (rule.Unit wanted)) e g = within_join (behind_join (takes false wanted from) (unit_taken first from wanted e) g)
      open_join None e g = within_join g
      open_join (Some rule.Empty) e g = within_join g
      open_join (Some (rule.Name x)) e g = within_join g
      open_join (Some (rule.Sequence x y)) e g = within_join g
      open_join (Some (rule.Choice x y)) e g = within_join g
      open_join (Some (rule.ZeroOrMore x)) e g = within_join g
      open_join (Some (rule.Not x)) e g = within_join g

      open_now : (it : Option Rule) → slice_get rules first ≡ it → Now (tried_first first it) from → Sequence
      open_now (Some (rule.Unit wanted)) e (none, is, place) =
          let same : first ≡ unit = cc is in inl (none, inl (unit_tries first from wanted e (sym same) place))
      open_now None e n = absurd (cc (n.1))
      open_now (Some rule.Empty) e n = absurd (cc (n.1))
      open_now (Some (rule.Name x)) e n = absurd (cc (n.1))
      open_now (Some (rule.Sequence x y)) e n = absurd (cc (n.1))
      open_now (Some (rule.Choice x y)) e n = absurd (cc (n.1))
      open_now (Some (rule.ZeroOrMore x)) e n = absurd (cc (n.1))
      open_now (Some (rule.Not x)) e n = absurd (cc (n.1))

    abbrev Opens : (at : ℕ) (from : Position) → Option Rule → Type 0
    Opens at from it = Goes (begun_by false (glance_at []) rules at from it)

    split_by : (at : ℕ) (from : Position) (it : Option Rule) → Whole at it from → Now (tried_by rules at it) from ⊎ Opens at from it
    split_by at from None (inl h) = absurd h.1
    split_by at from None (inr (answer, e, w)) = inr (waits_as answer None e w)
    split_by at from (Some rule.Empty) (inl h) = absurd h.1
    split_by at from (Some rule.Empty) (inr (answer, e, w)) = inr (waits_as answer (Some from) e w)
    split_by at from (Some (rule.Unit wanted)) (inl (none, (same, place))) = inl (none, ap Some (sym same), place)
    split_by at from (Some (rule.Unit wanted)) (inr (answer, e, w)) = inr (waits_as answer (takes false wanted from) e w)
    split_by at from (Some (rule.Name other)) (inl h) = inr (inl h)
    split_by at from (Some (rule.Name other)) (inr (answer, (found, p, e), w)) = inr (inr (found, p, waits_as answer found (e ∙ closed_none (length from.log) found) w))
    split_by at from (Some (rule.Sequence first second)) h = open_split at first second from (slice_get rules first) refl h
    split_by at from (Some (rule.Choice first other)) (inl (none, inl t)) = inr (inl (none, t))
    split_by at from (Some (rule.Choice first other)) (inl (none, inr (p, t))) = inr (inr (None, p, inl (none, t)))
    split_by at from (Some (rule.Choice first other)) (inr (answer, inl (p, q), w)) = inr (inr (None, p, inr (answer, q, w)))
    split_by at from (Some (rule.Choice first other)) (inr (answer, inr (to, p, e), w)) = inr (inr (Some to, p, waits_as answer (Some to) e w))
    split_by at from (Some (rule.ZeroOrMore part)) (inl (none, inl t)) = inr (inl (none, t))
    split_by at from (Some (rule.ZeroOrMore part)) (inl (none, inr (middle, p, t))) = inr (inr (Some middle, p, inl (none, t)))
    split_by at from (Some (rule.ZeroOrMore part)) (inr (answer, inl (p, e), w)) = inr (inr (None, p, waits_as answer (Some from) e w))
    split_by at from (Some (rule.ZeroOrMore part)) (inr (answer, inr (middle, p, q), w)) = inr (inr (Some middle, p, inr (answer, q, w)))
    split_by at from (Some (rule.Not part)) (inl h) = absurd h.1
    split_by at from (Some (rule.Not part)) (inr (answer, inl (p, e), w)) = inr (inr (None, p, waits_as answer (Some from) e w))
    split_by at from (Some (rule.Not part)) (inr (answer, inr (to, p, e), w)) = inr (inr (Some to, p, waits_as answer None e w))

    join_by : (at : ℕ) (from : Position) (it : Option Rule) → Opens at from it → Whole at it from
    join_by at from None g = inr (None, refl, g)
    join_by at from (Some rule.Empty) g = inr (Some from, refl, g)
    join_by at from (Some (rule.Unit wanted)) g = inr (takes false wanted from, refl, g)
    join_by at from (Some (rule.Name other)) (inl h) = inl h
    join_by at from (Some (rule.Name other)) (inr (found, p, w)) = inr (found, (found, p, sym (closed_none (length from.log) found)), w)
    join_by at from (Some (rule.Sequence first second)) g = open_join at first second from (slice_get rules first) refl g
    join_by at from (Some (rule.Choice first other)) (inl (none, t)) = inl (none, inl t)
    join_by at from (Some (rule.Choice first other)) (inr (None, p, inl (none, t))) = inl (none, inr (p, t))
    join_by at from (Some (rule.Choice first other)) (inr (None, p, inr (answer, q, w))) = inr (answer, inl (p, q), w)
    join_by at from (Some (rule.Choice first other)) (inr (Some to, p, w)) = inr (Some to, inr (to, p, refl), w)
    join_by at from (Some (rule.ZeroOrMore part)) (inl (none, t)) = inl (none, inl t)
    join_by at from (Some (rule.ZeroOrMore part)) (inr (None, p, w)) = inr (Some from, inl (p, refl), w)
    join_by at from (Some (rule.ZeroOrMore part)) (inr (Some middle, p, inl (none, t))) = inl (none, inr (middle, p, t))
    join_by at from (Some (rule.ZeroOrMore part)) (inr (Some middle, p, inr (answer, q, w))) = inr (answer, inr (middle, p, q), w)
    join_by at from (Some (rule.Not part)) (inl (some, t)) = absurd (cc some)
    join_by at from (Some (rule.Not part)) (inr (None, p, w)) = inr (Some from, inl (p, refl), w)
    join_by at from (Some (rule.Not part)) (inr (Some to, p, w)) = inr (None, inr (to, p, refl), w)

    now_by : (at : ℕ) (from : Position) (it : Option Rule) → Now (tried_by rules at it) from → Whole at it from
    now_by at from (Some (rule.Unit wanted)) (none, is, place) = let same : at ≡ unit = cc is in inl (none, (sym same, place))
    now_by at from (Some (rule.Sequence first second)) n = open_now at first second from (slice_get rules first) refl n
    now_by at from None n = absurd (cc (n.1))
    now_by at from (Some rule.Empty) n = absurd (cc (n.1))
    now_by at from (Some (rule.Name x)) n = absurd (cc (n.1))
    now_by at from (Some (rule.Choice x y)) n = absurd (cc (n.1))
    now_by at from (Some (rule.ZeroOrMore x)) n = absurd (cc (n.1))
    now_by at from (Some (rule.Not x)) n = absurd (cc (n.1))

    parts : (at : ℕ) (from : Position) → WillTry (machine.reading at from) frames → Whole at (slice_get rules at) from
    parts at from (inl (none, t)) = inl (none, tries_parts rules unit passed at from t)
    parts at from (inr (answer, p, w)) = inr (answer, answer_parts rules at from answer p, w)

    whole : (at : ℕ) (from : Position) → Whole at (slice_get rules at) from → WillTry (machine.reading at from) frames
    whole at from (inl (none, t)) = inl (none, tries_whole rules unit passed at from t)
    whole at from (inr (answer, p, w)) = inr (answer, answer_whole rules at from answer p, w)

  -- a step tries the unit there as an expression begins
  abbrev pub TriesNow : State → List Frame → Type 0
  TriesNow (machine.answered found) frames = ⊥
  TriesNow (machine.reading at from) frames = (negations frames ≡ 0) × (tried_by rules at (slice_get rules at) ≡ Some unit) × (passed ≡ from.passed)

  after_as : (state to : State) (frames after : List Frame) → state ≡ to → after ≡ frames → WillTry state frames → WillTry to after
  after_as state to frames after e f w = subst (λ fs. WillTry to fs) (sym f) (subst (λ s. WillTry s frames) e w)

  before_as : (state to : State) (frames after : List Frame) → state ≡ to → after ≡ frames → WillTry to after → WillTry state frames
  before_as state to frames after e f w = subst (λ s. WillTry s frames) (sym e) (subst (λ fs. WillTry to fs) f w)

  -- What the run tries, the step tries or the rest.
  pub step_split : (now : State) (before : List Frame) (to : State) (after : List Frame) → IsStep false (glance_at []) rules now before (machine.goes to) after
      → WillTry now before → TriesNow now before ⊎ WillTry to after
  step_split (machine.reading at from) before to after s w = by (split_by before at from (slice_get rules at) (parts before at from w))
    where
      by : Now before (tried_by rules at (slice_get rules at)) from ⊎ Opens before at from (slice_get rules at) → TriesNow (machine.reading at from) before ⊎ WillTry to after
      by (inl n) = inl n
      by (inr g) =
          let same : (begun false (glance_at []) rules at from).state ≡ to = cc (s.0) in
          inr (after_as (begun false (glance_at []) rules at from).state to (awaited (begun false (glance_at []) rules at from).waiting before) after same s.1 g)
  step_split (machine.answered found) [] to after s w = absurd w
  step_split (machine.answered found) (frame ∷ before) to after s w =
      let same : resumed (glance_at []) frame found ≡ to = cc (s.0) in inr (after_as (resumed (glance_at []) frame found) to before after same s.1 w)

  -- What the step tries, the run tries.
  pub now_tried : (now : State) (before : List Frame) → TriesNow now before → WillTry now before
  now_tried (machine.reading at from) before n = whole before at from (now_by before at from (slice_get rules at) n)
  now_tried (machine.answered found) before n = absurd n

  -- What the rest tries, the run tries.
  pub step_join : (now : State) (before : List Frame) (to : State) (after : List Frame) → IsStep false (glance_at []) rules now before (machine.goes to) after
      → WillTry to after → WillTry now before
  step_join (machine.reading at from) before to after s w =
      let same : (begun false (glance_at []) rules at from).state ≡ to = cc (s.0) in
      whole before at from (join_by before at from (slice_get rules at)
      (before_as (begun false (glance_at []) rules at from).state to (awaited (begun false (glance_at []) rules at from).waiting before) after same s.1 w))
  step_join (machine.answered found) [] to after s w = absurd (cc s)
  step_join (machine.answered found) (frame ∷ before) to after s w =
      let same : resumed (glance_at []) frame found ≡ to = cc (s.0) in before_as (resumed (glance_at []) frame found) to before after same s.1 w

  -- Nothing is tried when the machine stops.
  pub last_tries : (now : State) (before : List Frame) (found : Option Position) (after : List Frame) → IsStep false (glance_at []) rules now before (machine.ends found) after
      → WillTry now before → ⊥
  last_tries (machine.reading at from) before found after s w = absurd (cc (s.0))
  last_tries (machine.answered other) [] found after s w = w
  last_tries (machine.answered other) (frame ∷ before) found after s w = absurd (cc (s.0))
