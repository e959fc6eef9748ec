-- How a template that is partly filled goes on, part by part.
use Rattle.std.proofs.Common.{◌≡◌, ◌<◌, ℕ, Bool, List, [], ◌∷◌, Some, refl, ap, ap₂, sym, subst, ◌∙◌, arith}
use Rattle.std.specs.Prelude.{slice_get}
use Rattle.tt.specs.Building.{Stack, above, append, tokens_held}
use Rattle.tt.specs.Forest.{Forest, end, leaf}
use Rattle.tt.specs.Types.Delimiter.{Delimiter}
use Rattle.tt.specs.Types.Leaf.{Leaf}
use Rattle.tt.specs.Types.Span.{Span}
use Rattle.mbe_matcher.specs.Bindings.{Binding}
use Rattle.mbe_rules.specs.declared.taken.Round.{Round}
use Rattle.mbe_rules.specs.Transcribing.{Transcribed, TranscribeFault, all_transcribed, faulted, in_subtree, transcribed, use_transcribed}
use Rattle.mbe_rules.specs.Parts.{Bit, uses, same, enter, leave, bits_of}
use Rattle.mbe_rules.specs.Filling.{bound_here, IsEnd, AreLevels}
use Rattle.mbe_rules.specs.Templates.{Template, nothing, use_of, token, subtree, repetition}
use Rattle.mbe_rules.specs.Working.{work_of}
use Rattle.mbe_rules.specs.Writing.{Closing, last, shut, again, Level, end_of, write, behind_end, finished}
use Rattle.mbe_rules.proofs.Writes.{sound, write_both, fault_ends}

-- a level
abbrev pub level_of : Template → Binding → Closing → Level
level_of rest binding closing = record { rest = rest; binding = binding; closing = closing }

-- the filling goes on to other levels, with this change to what was written
pub record Next (bits : List Bit) (whole : Binding) (levels : List Level) (rounds : List Round) (closes : List Span) (left : List Bit) (change : Stack → Stack) : Type 0 where
  pub news : List Level
  pub agree : AreLevels bits whole news rounds closes left
  pub same : (stack : Stack) → finished levels (sound stack) ≡ finished news (sound (change stack))
  pub less : work_of news < work_of levels

module _ (bits : List Bit) (whole : Binding) (outer : List Level) (rounds : List Round) (closes : List Span) (binding : Binding) (closing : Closing) (behind left : List Bit)
    (bound : binding ≡ bound_here whole rounds)
    (ends : IsEnd bits whole (λ more others. AreLevels bits whole outer more others behind) closing rounds closes behind) where
  -- what is then left of the level
  agree_on : (others : Template) → left ≡ bits_of others (end_of closing ∷ behind) → AreLevels bits whole (level_of others binding closing ∷ outer) rounds closes left
  agree_on others is = (behind, is, bound, ends)

  -- A use comes first.
  module _ (at variable : ℕ) (less_follows : Bool) (others : Template) (held : left ≡ bits_of others (end_of closing ∷ behind))
      (made : Transcribed) (is : use_transcribed at less_follows (slice_get (bound_here whole rounds) variable) ≡ made) where
    -- what is written of it, and then of the others
    use_written : (stack : Stack)
        → finished (level_of (use_of at variable less_follows others) binding closing ∷ outer) (sound stack)
        ≡ finished (level_of others binding closing ∷ outer) (write made (sound stack))
    use_written stack =
        ap (λ w. finished outer (behind_end closing w)) (write_both (use_transcribed at less_follows (slice_get binding variable)) (transcribed others binding) (sound stack))
        ∙ ap (λ u. finished outer (behind_end closing (write (transcribed others binding) (write u (sound stack)))))
        (ap (λ b. use_transcribed at less_follows (slice_get b variable)) bound ∙ is)

    -- It becomes trees.
    use_next : (trees : Forest) → made ≡ all_transcribed trees
        → Next bits whole (level_of (use_of at variable less_follows others) binding closing ∷ outer) rounds closes left (append trees)
    use_next trees all =
        record {
          news = level_of others binding closing ∷ outer;
          agree = agree_on others held;
          same = λ stack. use_written stack ∙ ap (λ u. finished (level_of others binding closing ∷ outer) (write u (sound stack))) all;
          less = omega arith;
        }

    -- Or its fault is the fault of the whole.
    use_fault : (fault : TranscribeFault) (stack : Stack) → made ≡ faulted fault
        → ((finished (level_of (use_of at variable less_follows others) binding closing ∷ outer) (sound stack)).fault ≡ Some fault)
        × (tokens_held (finished (level_of (use_of at variable less_follows others) binding closing ∷ outer) (sound stack)).stack ≡ tokens_held stack)
    use_fault fault stack wrong =
        let (first, kept) = fault_ends (level_of others binding closing ∷ outer) fault stack in
        let written = use_written stack ∙ ap (λ u. finished (level_of others binding closing ∷ outer) (write u (sound stack))) wrong in
        (ap (λ w. w.fault) written ∙ first, ap (λ w. tokens_held w.stack) written ∙ kept)

  -- A token comes first.
  token_next : (it : Leaf) (rest : Template) → same it ∷ left ≡ bits_of rest (end_of closing ∷ behind)
      → Next bits whole (level_of rest binding closing ∷ outer) rounds closes left (append (leaf it end))
  token_next it nothing is = absurd (by closing is)
    where
      by : (closing : Closing) → same it ∷ left ≡ end_of closing ∷ behind → ⊥
      by last is = cc is
      by (shut span) is = cc is
      by (again body separator kind n others) is = cc is
  token_next it (use_of there which less others) is = absurd (cc is)
  token_next it (token other others) is =
      record {
        news = level_of others binding closing ∷ outer;
        agree = agree_on others (cc is);
        same =
            λ stack. ap (λ w. finished outer (behind_end closing w)) (write_both (all_transcribed (leaf other end)) (transcribed others binding) (sound stack))
            ∙ ap (λ l. finished outer (behind_end closing (write (transcribed others binding) (sound (append (leaf l end) stack))))) same_leaf;
        less = omega arith;
      }
    where
      same_leaf : other ≡ it
      same_leaf = cc is
  token_next it (subtree delimiter inner others) is = absurd (cc is)
  token_next it (repetition there inner separator kind others) is = absurd (cc is)

  -- A subtree begins.
  enter_next : (delimiter : Delimiter) (rest : Template) → enter delimiter ∷ left ≡ bits_of rest (end_of closing ∷ behind)
      → Next bits whole (level_of rest binding closing ∷ outer) rounds (delimiter.close ∷ closes) left (λ stack. above stack delimiter.kind delimiter.open_span end)
  enter_next delimiter nothing is = absurd (by closing is)
    where
      by : (closing : Closing) → enter delimiter ∷ left ≡ end_of closing ∷ behind → ⊥
      by last is = cc is
      by (shut span) is = cc is
      by (again body separator kind n others) is = cc is
  enter_next delimiter (use_of there which less others) is = absurd (cc is)
  enter_next delimiter (token other others) is = absurd (cc is)
  enter_next delimiter (subtree other inner others) is =
      record {
        news = level_of inner binding (shut delimiter.close) ∷ level_of others binding closing ∷ outer;
        agree =
            (bits_of others (end_of closing ∷ behind), (λ i. held i), bound, (closes, refl, (behind, refl, bound, ends)));
        same =
            λ stack. ap (λ w. finished outer (behind_end closing w)) (write_both (in_subtree other (transcribed inner binding)) (transcribed others binding) (sound stack))
            ∙ ap (λ d. finished outer (behind_end closing (write (transcribed others binding) (write (in_subtree d (transcribed inner binding)) (sound stack))))) same_delimiter;
        less = omega arith;
      }
    where
      same_delimiter : other ≡ delimiter
      same_delimiter = cc is

      held : left ≡ bits_of inner (leave ∷ bits_of others (end_of closing ∷ behind))
      held = cc is
  enter_next delimiter (repetition there inner separator kind others) is = absurd (cc is)

-- a use comes first
record Uses (rest : Template) (closing : Closing) (behind : List Bit) (at variable : ℕ) (less_follows : Bool) (left : List Bit) : Type 0 where
  pub others : Template
  pub is : rest ≡ use_of at variable less_follows others
  pub held : left ≡ bits_of others (end_of closing ∷ behind)

-- If the parts begin with a use, a use comes first.
uses_first : (rest : Template) (closing : Closing) (behind : List Bit) (at variable : ℕ) (less_follows : Bool) (left : List Bit)
    → uses at variable less_follows ∷ left ≡ bits_of rest (end_of closing ∷ behind) → Uses rest closing behind at variable less_follows left
uses_first nothing last behind at variable less_follows left is = absurd (cc is)
uses_first nothing (shut span) behind at variable less_follows left is = absurd (cc is)
uses_first nothing (again body separator kind n others) behind at variable less_follows left is = absurd (cc is)
uses_first (use_of there which less others) closing behind at variable less_follows left is =
    record { others = others; is = ap₂ (λ a v. use_of a v less others) same_at same_variable ∙ ap (λ l. use_of at variable l others) same_less; held = cc is }
  where
    same_at : there ≡ at
    same_at = cc is

    same_variable : which ≡ variable
    same_variable = cc is

    same_less : less ≡ less_follows
    same_less = cc is
uses_first (token it others) closing behind at variable less_follows left is = absurd (cc is)
uses_first (subtree delimiter inner others) closing behind at variable less_follows left is = absurd (cc is)
uses_first (repetition there inner separator kind others) closing behind at variable less_follows left is = absurd (cc is)

-- what holds of the levels if that part comes first
module _ (bits : List Bit) (whole : Binding) (rounds : List Round) (closes : List Span) (left : List Bit) where
  module _ (at variable : ℕ) (less_follows : Bool) where
    pub goes_use : (trees : Forest) (levels : List Level) → AreLevels bits whole levels rounds closes (uses at variable less_follows ∷ left)
        → use_transcribed at less_follows (slice_get (bound_here whole rounds) variable) ≡ all_transcribed trees
        → Next bits whole levels rounds closes left (append trees)
    goes_use trees [] agree made = absurd (cc agree.2)
    goes_use trees (level ∷ outer) (behind, is, bound, ends) made =
        let it = uses_first level.rest level.closing behind at variable less_follows left is in
        subst (λ t. Next bits whole (level_of t level.binding level.closing ∷ outer) rounds closes left (append trees)) (sym it.is)
        (use_next bits whole outer rounds closes level.binding level.closing behind left bound ends at variable less_follows it.others it.held (all_transcribed trees) made trees refl)

    pub use_goes_nowhere : (fault : TranscribeFault) (stack : Stack) (levels : List Level) → AreLevels bits whole levels rounds closes (uses at variable less_follows ∷ left)
        → use_transcribed at less_follows (slice_get (bound_here whole rounds) variable) ≡ faulted fault
        → ((finished levels (sound stack)).fault ≡ Some fault) × (tokens_held (finished levels (sound stack)).stack ≡ tokens_held stack)
    use_goes_nowhere fault stack [] agree wrong = absurd (cc agree.2)
    use_goes_nowhere fault stack (level ∷ outer) (behind, is, bound, ends) wrong =
        let it = uses_first level.rest level.closing behind at variable less_follows left is in
        subst
        (λ t. ((finished (level_of t level.binding level.closing ∷ outer) (sound stack)).fault ≡ Some fault)
        × (tokens_held (finished (level_of t level.binding level.closing ∷ outer) (sound stack)).stack ≡ tokens_held stack)) (sym it.is)
        (use_fault bits whole outer rounds closes level.binding level.closing behind left bound ends at variable less_follows it.others it.held (faulted fault) wrong fault stack refl)

  pub goes_token : (it : Leaf) (levels : List Level) → AreLevels bits whole levels rounds closes (same it ∷ left)
      → Next bits whole levels rounds closes left (append (leaf it end))
  goes_token it [] agree = absurd (cc agree.2)
  goes_token it (level ∷ outer) (behind, is, bound, ends) =
      token_next bits whole outer rounds closes level.binding level.closing behind left bound ends it level.rest is

  pub goes_enter : (delimiter : Delimiter) (levels : List Level) → AreLevels bits whole levels rounds closes (enter delimiter ∷ left)
      → Next bits whole levels rounds (delimiter.close ∷ closes) left (λ stack. above stack delimiter.kind delimiter.open_span end)
  goes_enter delimiter [] agree = absurd (cc agree.2)
  goes_enter delimiter (level ∷ outer) (behind, is, bound, ends) =
      enter_next bits whole outer rounds closes level.binding level.closing behind left bound ends delimiter level.rest is
