-- Steps of the machine on its builder, over plain values.
use Rattle.std.proofs.Common.{◌≡◌, ℕ, List, Some, None, Result, Ok, Err, MatchResult, OnOk, OnErr, IfErr, IfOk, inl, inr, ap, sym, subst, ◌∙◌}
use Rattle.tt.specs.Building.{BuilderState, Stack, lowest, above, IsAbove, IsOpen, closed}
use Rattle.tt.specs.Forest.{Root}
use Rattle.tt.specs.Stored.{IsWithinLimits}
use Rattle.tt.specs.TreeFault.{IsTreeFault}
use Rattle.tt_base.specs.declared.fault.Refused.{Refused}
use Rattle.tt_base.specs.declared.fault.TtFault.{TtFault}
use Rattle.tt_base.specs.declared.fault.TtFault.TheVariants.{Memory}
use Rattle.tt_base.specs.declared.span.Span.{Span}
use Rattle.app_language.specs.declared.command.Command.TheVariants as command
use Rattle.app_console.specs.Answer.{ok_line, fault_line}
use Rattle.app_console.specs.Building.{OfBuilder, Builds, Closes, MakesRoot}
use Rattle.app_console.specs.Machine.{Step}
use Rattle.app_console.specs.State.{State, with_builder, with_tree}

-- The builder stays.
still_there : (old : State) (b : BuilderState) → old.builder ≡ Some b → with_builder old b ≡ old
still_there old b there = λ i. record { slots = old.slots; list = old.list; builder = sym there i }

-- What holds for the builder that is there.
of_builder : (P : BuilderState → Type 0) (old : State) (b : BuilderState) (answer : List ℕ) (new : State) → old.builder ≡ Some b → P b → OfBuilder P old old.builder answer new
of_builder P old b answer new there holds = subst (λ o. OfBuilder P old o answer new) (sym there) holds

-- If no subtree is open, the builder tries to build.
tried : (f : BuilderState → Root) (slot : ℕ) (old new : State) (b : BuilderState) (answer : List ℕ) → old.builder ≡ Some b → (IsOpen b → ⊥) → MakesRoot (f b) slot old answer new
    → OfBuilder (λ builder. Builds (f builder) slot builder.stack old answer new) old old.builder answer new
tried f slot old new b answer there none made =
    of_builder (λ builder. Builds (f builder) slot builder.stack old answer new) old b answer new there (by b.stack none)
  where
    by : (stack : Stack) → (IsAbove stack → ⊥) → Builds (f b) slot stack old answer new
    by (lowest trees) none = made
    by (above outer kind open_span trees) none = absurd (none tt)

-- The result of a builder is stored, after the builder was taken. The fields seen inside are those of the old state.
pub kept_in : (f : BuilderState → Root) (slot : ℕ) (inside old : State) (b : BuilderState) (made : Result Root (Refused BuilderState)) (answer : List ℕ) (new : State)
    → inside ≡ old → inside.builder ≡ Some b → (IsOpen b → ⊥)
    → IfOk made (λ tree. tree ≡ f b) → IfOk made IsWithinLimits → IfErr made (λ refused. IsTreeFault (f b) refused.fault) → IfErr made (λ refused. refused.value ≡ b)
    → IfOk made (λ tree. (answer ≡ ok_line) × (new ≡ with_tree (record inside { builder = None }) slot tree))
    → IfErr made (λ refused. (answer ≡ fault_line refused.fault) × (new ≡ with_builder inside refused.value))
    → OfBuilder (λ builder. Builds (f builder) slot builder.stack old answer new) old old.builder answer new
kept_in f slot inside old b made answer new seen there none is limits why same kept back =
    subst (λ s. OfBuilder (λ builder. Builds (f builder) slot builder.stack s answer new) s s.builder answer new) seen (tried f slot inside new b answer there none (by made is limits why same kept back))
  where
    by : (made : Result Root (Refused BuilderState)) → IfOk made (λ tree. tree ≡ f b) → IfOk made IsWithinLimits → IfErr made (λ refused. IsTreeFault (f b) refused.fault)
        → IfErr made (λ refused. refused.value ≡ b) → IfOk made (λ tree. (answer ≡ ok_line) × (new ≡ with_tree (record inside { builder = None }) slot tree))
        → IfErr made (λ refused. (answer ≡ fault_line refused.fault) × (new ≡ with_builder inside refused.value)) → MakesRoot (f b) slot inside answer new
    by (Ok tree) is limits why same kept back = inl (subst IsWithinLimits is limits, kept.0, kept.1 ∙ ap (λ root. record (with_tree inside slot root) { builder = None }) is)
    by (Err refused) is limits why same kept back = inr (refused.fault, why, back.0, back.1 ∙ ap (with_builder inside) same ∙ still_there inside b there)

-- An open subtree is closed, or memory for the count of its close part ran out.
pub closed_in : {R : Type 0} (span : Span) (inside old : State) (b after : BuilderState) (done : Result R TtFault) (answer : List ℕ)
    → inside ≡ old → inside.builder ≡ Some b → IsOpen b → OnOk done (after ≡ closed span b) → OnErr done (after ≡ b) → IfErr done (λ fault. fault ≡ Memory)
    → MatchResult done (λ _. answer ≡ ok_line) (λ fault. answer ≡ fault_line fault) → Step old (command.Close span) answer (with_builder inside after)
closed_in span inside old b after (Ok unit) answer seen there is ok err why reported =
    inl (subst (λ s. OfBuilder (λ builder. Closes span builder builder.stack s answer (with_builder inside after)) s s.builder answer (with_builder inside after)) seen
    (of_builder (λ builder. Closes span builder builder.stack inside answer (with_builder inside after)) inside b answer (with_builder inside after) there (by b.stack is)))
  where
    by : (stack : Stack) → IsAbove stack → Closes span b stack inside answer (with_builder inside after)
    by (lowest trees) is = absurd is
    by (above outer kind open_span trees) is = (reported, ap (with_builder inside) ok)
closed_in span inside old b after (Err fault) answer seen there is ok err why reported =
    inr (tt, reported ∙ ap fault_line why, ap (with_builder inside) err ∙ still_there inside b there ∙ seen)
