-- What is left of a level's log shows whether its subtrees contain what they must.
use Rattle.std.proofs.Common.{◌≡◌, inl, inr, ℕ, true, List, [], map, Some, None, refl, sym, subst}
use Rattle.tt.specs.Forest.{Forest}
use Rattle.mbe_grammar.specs.declared.entry.Entry.{Entry}
use Rattle.mbe_grammar.specs.declared.event.Event.{Event}
use Rattle.mbe_grammar.specs.declared.rule.Rule.{Rule}
use Rattle.mbe_grammar.specs.Derivations.{Derives, Refuses, Spread, StopsAt, TakesDeep, Place, whole}
use Rattle.mbe_grammar.specs.Deriving.{Gives, Stops}
use Rattle.mbe_grammar.specs.Parses.{Parses}
use Rattle.mbe_grammar.specs.Places.{entry}
use Rattle.mbe_grammar.specs.Positions.{Position, first_position}
use Rattle.mbe_grammar.proofs.Deriving.{onto, parted, Stopped, stopped}

module _ (rules : List Rule) (name : ℕ) (trees : Forest) (to : Position) (log : List Entry) (p : Parses true rules name (first_position trees) (Some to)) (is : to.log ≡ map entry log) where
  -- Each subtree has its contents.
  pub deep_taken : (events : List Event) → Gives rules (onto rules log []) events → TakesDeep rules name trees (Some to.passed)
  deep_taken events g =
      let parts = parted rules log [] events g in (to, p, refl, parts.0, subst (λ t. Spread (Derives rules) t parts.0) (sym is) parts.2)

  -- One has not.
  pub deep_refused : (at : Place) → Stops rules (onto rules log []) at → TakesDeep rules name trees None
  deep_refused at s = by (stopped rules ⊥ (whole name trees) log [] at s)
    where
      by : Stopped rules ⊥ (whole name trees) log [] at → TakesDeep rules name trees None
      by (inl s) = inr (to, p, at, subst (λ t. StopsAt (Derives rules) (Refuses rules) ⊥ (whole name trees) t at) (sym is) s)
      by (inr s) = absurd s.2
