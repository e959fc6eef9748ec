use Rattle.std.proofs.Common.{◌∷◌, [], List, ℕ, sym, subst, arith}
use Rattle.expand_text.specs.declared.next.Choice.TheVariants as choice
use Rattle.expand_text.specs.declared.next.Event.{Event}
use Rattle.expand_text.specs.declared.next.Event.TheVariants as event
use Rattle.expand_text.specs.Choices.{IsChosen}
use Rattle.expand_text.specs.Contexts.{Config, Context, config_of, tokens_by}
use Rattle.expand_text.specs.Events.{IsNext, IsWithin}
use Rattle.expand_text.specs.Meaning.{IsPlain}
use Rattle.expand_text.specs.Stops.{IsChoiceFirst, IsEventFirst}
use Rattle.expand_text.specs.Walks.{Level, levels_of, with_plain}
use Rattle.expand_text.proofs.Leading.{next_by}
use Rattle.expand_text.proofs.next.next.Goals as goal

-- the first tree may be taken as it is
abbrev IsPlainFirst : Config → Context → List Level → Type 0
IsPlainFirst config context [] = Unit {0}
IsPlainFirst config context (level ∷ outer) = IsPlain config context level.position level.plain level.rest

pub returns-in_ok-next_tree-in-Plain-clause-within : goal.returns-in_ok-next_tree-in-Plain-clause-within
returns-in_ok-next_tree-in-Plain-clause-within c =
    c.in_ok-next_tree-in-Plain.ensures.within c.args.limit (tokens_by c.args.context.now.caller c.args.config.now.max_tokens c.args.context.now.left)

pub returns-in_ok-next_tree-in-Plain-clause-next : goal.returns-in_ok-next_tree-in-Plain-clause-next
returns-in_ok-next_tree-in-Plain-clause-next c before is =
    let config = config_of c.args.config.now in
    let limit = c.args.limit in
    let levels : List Level = levels_of c.args.walk.now in
    let plain = c.in-Plain.plain in
    let (now, known, goes) = c.in_ok-plain.ensures.chosen before is in
    let (after, ready, next) = c.in_ok-next_tree-in-Plain.ensures.next limit now known in (
      after,
      ready,
      λ in_text.
          let chosen : IsChosen config in_text limit levels before (choice.Plain plain) now = subst (λ r. IsChosen config in_text limit levels before r now) c.in-Plain.is (goes in_text) in
          let first : IsPlainFirst config now (levels_of c.take_plain.new.self) = subst (IsPlainFirst config now) (sym c.take_plain.ensures) chosen.1 in
          next_by config in_text limit levels (with_plain plain levels) before now chosen.0 c.in_ok-next_tree-in-Plain.field-0 (levels_of c.next_tree.new.walk) after
          (subst (λ ls. IsNext config in_text limit ls now c.in_ok-next_tree-in-Plain.field-0 (levels_of c.next_tree.new.walk) after) c.take_plain.ensures (next first in_text)),
    )

-- an event that any limits allow is no call
none_first : (config : Config) (levels : List Level) (event : Event) → ((limit allowed : ℕ) → IsWithin limit allowed event) → IsEventFirst config levels event
none_first config levels event.End within = tt
none_first config levels (event.Leaf leaf) within = tt
none_first config levels (event.Opens header) within = tt
none_first config levels (event.Closes close) within = tt
none_first config levels (event.Stays part) within = tt
none_first config levels (event.Invocation it tree) within = absurd (omega (arith, (within 0 0).0))

pub returns-in_ok-next_tree-in-Plain-clause-first : goal.returns-in_ok-next_tree-in-Plain-clause-first
returns-in_ok-next_tree-in-Plain-clause-first c =
    none_first (config_of c.args.config.now) (levels_of c.args.walk.now) c.in_ok-next_tree-in-Plain.field-0 c.in_ok-next_tree-in-Plain.ensures.within

pub returns-in-Invocation-clause-first : goal.returns-in-Invocation-clause-first
returns-in-Invocation-clause-first c =
    subst (IsChoiceFirst (config_of c.args.config.now) (levels_of c.args.walk.now)) c.in-Invocation.is c.in_ok-plain.ensures.first

pub returns-in-Stays-clause-next : goal.returns-in-Stays-clause-next
returns-in-Stays-clause-next c before is =
    let config = config_of c.args.config.now in
    let levels : List Level = levels_of c.args.walk.now in
    let (now, known, goes) = c.in_ok-plain.ensures.chosen before is in
    (now, known, λ in_text. subst (λ r. IsChosen config in_text c.args.limit levels before r now) c.in-Stays.is (goes in_text))

pub returns-in-Invocation-clause-next : goal.returns-in-Invocation-clause-next
returns-in-Invocation-clause-next c before is =
    let config = config_of c.args.config.now in
    let levels : List Level = levels_of c.args.walk.now in
    let (now, known, goes) = c.in_ok-plain.ensures.chosen before is in
    (now, known, λ in_text. subst (λ r. IsChosen config in_text c.args.limit levels before r now) c.in-Invocation.is (goes in_text))
