-- What an expression tries, from what its parts try.
use Rattle.std.proofs.Common.{inl, inr, ◌+◌, ℕ, suc, zero, false, List, Some, None, arith}
use Rattle.std.specs.Prelude.{slice_get, Option}
use Rattle.mbe_grammar.specs.declared.rule.Rule.{Rule}
use Rattle.mbe_grammar.specs.declared.rule.Rule.TheVariants as rule
use Rattle.mbe_grammar.specs.Parses.{Holds, ParsesIn, Parses}
use Rattle.mbe_grammar.specs.Positions.{Position}
use Rattle.mbe_grammar.specs.Trying.{TriesBy, TriesIn, Tries}
use Rattle.mbe_grammar.proofs.OneAnswer.{held, deeper}

module _ (rules : List Rule) where
  -- An answer of an expression is one by the answers of its parts.
  pub answer_parts : (at : ℕ) (from : Position) (answer : Option Position) → Parses false rules at from answer → Holds false (Parses false rules) at (slice_get rules at) from answer
  unfolding Parses
  answer_parts at from answer (zero, h) = absurd h
  answer_parts at from answer (suc depth, h) = held false (ParsesIn false rules depth) (Parses false rules) (λ there place found p. (depth, p)) at (slice_get rules at) from answer h

  left_of : (n m at : ℕ) (from : Position) (answer : Option Position) → ParsesIn false rules n at from answer → ParsesIn false rules (n + m) at from answer
  left_of n m at from answer h = deeper false rules n (n + m) (omega arith) at from answer h

  right_of : (n m at : ℕ) (from : Position) (answer : Option Position) → ParsesIn false rules m at from answer → ParsesIn false rules (n + m) at from answer
  right_of n m at from answer h = deeper false rules m (n + m) (omega arith) at from answer h

  abbrev InDepth : (at : ℕ) → Option Rule → (from : Position) (answer : Option Position) → Type 0
  InDepth at it from answer = (depth : ℕ) × Holds false (ParsesIn false rules depth) at it from answer

  in_depth : (at : ℕ) (it : Option Rule) (from : Position) (answer : Option Position) → Holds false (Parses false rules) at it from answer → InDepth at it from answer
  unfolding Parses
  in_depth at None from answer h = (0, h)
  in_depth at (Some rule.Empty) from answer h = (0, h)
  in_depth at (Some (rule.Unit wanted)) from answer h = (0, h)
  in_depth at (Some (rule.Name other)) from answer (found, (n, p), e) = (n, (found, p, e))
  in_depth at (Some (rule.Sequence first second)) from answer (inl h) = (h.0.0, inl (h.0.1, h.1))
  in_depth at (Some (rule.Sequence first second)) from answer (inr (middle, (n, a), (m, b))) =
      (n + m, inr (middle, left_of n m first from (Some middle) a, right_of n m second middle answer b))
  in_depth at (Some (rule.Choice first other)) from answer (inl ((n, a), (m, b))) = (n + m, inl (left_of n m first from None a, right_of n m other from answer b))
  in_depth at (Some (rule.Choice first other)) from answer (inr (to, (n, a), e)) = (n, inr (to, a, e))
  in_depth at (Some (rule.ZeroOrMore part)) from answer (inl h) = (h.0.0, inl (h.0.1, h.1))
  in_depth at (Some (rule.ZeroOrMore part)) from answer (inr (middle, (n, a), (m, b))) =
      (n + m, inr (middle, left_of n m part from (Some middle) a, right_of n m at middle answer b))
  in_depth at (Some (rule.Not part)) from answer (inl h) = (h.0.0, inl (h.0.1, h.1))
  in_depth at (Some (rule.Not part)) from answer (inr (to, (n, a), e)) = (n, inr (to, a, e))

  -- And vice versa.
  pub answer_whole : (at : ℕ) (from : Position) (answer : Option Position) → Holds false (Parses false rules) at (slice_get rules at) from answer → Parses false rules at from answer
  unfolding Parses
  answer_whole at from answer h = let it = in_depth at (slice_get rules at) from answer h in (suc it.0, it.1)

  module _ (unit passed : ℕ) where
    parts_by : (depth at : ℕ) (it : Option Rule) (from : Position) → TriesBy (Parses false rules) (TriesIn rules depth) at it from unit passed → TriesBy (Parses false rules) (Tries rules) at it from unit passed
    unfolding Tries
    parts_by depth at None from h = h
    parts_by depth at (Some rule.Empty) from h = h
    parts_by depth at (Some (rule.Unit wanted)) from h = h
    parts_by depth at (Some (rule.Name other)) from h = (depth, h)
    parts_by depth at (Some (rule.Sequence first second)) from (inl h) = inl (depth, h)
    parts_by depth at (Some (rule.Sequence first second)) from (inr (middle, p, h)) = inr (middle, p, (depth, h))
    parts_by depth at (Some (rule.Choice first other)) from (inl h) = inl (depth, h)
    parts_by depth at (Some (rule.Choice first other)) from (inr (p, h)) = inr (p, (depth, h))
    parts_by depth at (Some (rule.ZeroOrMore part)) from (inl h) = inl (depth, h)
    parts_by depth at (Some (rule.ZeroOrMore part)) from (inr (middle, p, h)) = inr (middle, p, (depth, h))
    parts_by depth at (Some (rule.Not part)) from h = h

    -- What an expression tries its parts try.
    pub tries_parts : (at : ℕ) (from : Position) → Tries rules at from unit passed → TriesBy (Parses false rules) (Tries rules) at (slice_get rules at) from unit passed
    unfolding Tries
    tries_parts at from (zero, h) = absurd h
    tries_parts at from (suc depth, h) = parts_by depth at (slice_get rules at) from h

    abbrev TriesInDepth : (at : ℕ) → Option Rule → (from : Position) → Type 0
    TriesInDepth at it from = (depth : ℕ) × TriesBy (Parses false rules) (TriesIn rules depth) at it from unit passed

    whole_by : (at : ℕ) (it : Option Rule) (from : Position) → TriesBy (Parses false rules) (Tries rules) at it from unit passed → TriesInDepth at it from
    unfolding Tries
    whole_by at None from h = absurd h
    whole_by at (Some rule.Empty) from h = absurd h
    whole_by at (Some (rule.Unit wanted)) from h = (0, h)
    whole_by at (Some (rule.Name other)) from h = h
    whole_by at (Some (rule.Sequence first second)) from (inl (depth, h)) = (depth, inl h)
    whole_by at (Some (rule.Sequence first second)) from (inr (middle, p, (depth, h))) = (depth, inr (middle, p, h))
    whole_by at (Some (rule.Choice first other)) from (inl (depth, h)) = (depth, inl h)
    whole_by at (Some (rule.Choice first other)) from (inr (p, (depth, h))) = (depth, inr (p, h))
    whole_by at (Some (rule.ZeroOrMore part)) from (inl (depth, h)) = (depth, inl h)
    whole_by at (Some (rule.ZeroOrMore part)) from (inr (middle, p, (depth, h))) = (depth, inr (middle, p, h))
    whole_by at (Some (rule.Not part)) from h = absurd h

    -- And vice versa.
    pub tries_whole : (at : ℕ) (from : Position) → TriesBy (Parses false rules) (Tries rules) at (slice_get rules at) from unit passed → Tries rules at from unit passed
    unfolding Tries
    tries_whole at from h = let it = whole_by at (slice_get rules at) from h in (suc it.0, it.1)
