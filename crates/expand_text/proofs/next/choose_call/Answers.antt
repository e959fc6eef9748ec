use Rattle.std.proofs.Common.{◌≡◌, ◌<◌, ◌∷◌, ◌∙◌, false, List, None, inl, inr, refl, ap, sym, subst, arith}
use Rattle.std.proofs.lemmas.Bool.{false≢true}
use Rattle.std.specs.Prelude.{is_some}
use Rattle.tt.specs.Forest.{size}
use Rattle.tt.specs.Gluing.{after_trees}
use Rattle.tt.specs.Span.{start_of}
use Rattle.expand_text.specs.Calling.{IsCalled, IsFaulty, IsExpanded}
use Rattle.expand_text.specs.declared.next.Choice.TheVariants as choice
use Rattle.expand_text.specs.Choices.{IsChosen}
use Rattle.expand_items.specs.Items.{Call, call_of}
use Rattle.expand_text.specs.Contexts.{config_of}
use Rattle.expand_text.specs.Invocations.{call_part}
use Rattle.expand_text.specs.Walks.{Level, first_level, outer_of, Leads}
use Rattle.expand_text.specs.Macros.{arms_of, called_by}
use Rattle.expand_text.proofs.Leading.{leads_attributes, leads_into}
use Rattle.expand_text.proofs.Readiness.{no_arms}
use Rattle.expand_items.proofs.Conditions.{call_at_less, call_at_long}
use Rattle.expand_items.proofs.ItemsAt.{calls_at}
use Rattle.expand_text.proofs.Choosing.{advances, chosen_other, chosen_faulty, chosen_expanded}
use Rattle.expand_text.proofs.next.choose_call.Goals as goal
use Rattle.expand_text.proofs.next.choose_call.Goals.{else-call-gt0-via-then-call-gt0+else-not-is_expanded, else-call-gt0-via-else-call-gt0}

pub returns-then-not-is_expanded-clause-chosen : goal.returns-then-not-is_expanded-clause-chosen
returns-then-not-is_expanded-clause-chosen c before is =
    let config = config_of c.args.config.now in
    let it : Call = call_of c.args.call.now in
    let level : Level = first_level c.args.walk.now in
    let outer : List Level = outer_of c.args.walk.now in
    let some : 0 < it.attributes = c.if-call-gt0.true in
    let none : arms_of (called_by config before it) ≡ None = no_arms (arms_of (called_by config before it)) (sym (c.is_expanded.ensures before is) ∙ c.if-not-is_expanded.true) in (
      before,
      is,
      λ there in_text. (leads_attributes config in_text c.args.limit level outer before there.first there.goes_on it there.item some none, inr (inl some)),
    )

pub returns-in_ok-find_capture-in-Tree-clause-steps : goal.returns-in_ok-find_capture-in-Tree-clause-steps
returns-in_ok-find_capture-in-Tree-clause-steps c there =
    let it : Call = call_of c.args.call.now in
    let level : Level = first_level c.args.walk.now in
    let part = c.in_ok-invocation-in-Tree.invocation.part in
    let less : size (after_trees it.len level.rest) < size level.rest = call_at_less c.args.config.now.root level.position level.rest it (calls_at there) in
    advances level (outer_of c.args.walk.now) it.len less part (ap (λ p. p.len) c.in_ok-invocation-in-Tree.ensures.part) part.semicolon refl

pub returns-in_ok-find_capture-in-Tree-clause-first : goal.returns-in_ok-find_capture-in-Tree-clause-first
returns-in_ok-find_capture-in-Tree-clause-first c there =
    (call_of c.args.call.now, there, ap (λ span. start_of span.range) c.in_ok-invocation-in-Tree.ensures.first)

pub returns-in_ok-find_capture-in-Tree-clause-chosen : goal.returns-in_ok-find_capture-in-Tree-clause-chosen
returns-in_ok-find_capture-in-Tree-clause-chosen c before is =
    let config = config_of c.args.config.now in
    let it : Call = call_of c.args.call.now in
    let walk = c.args.walk.now in
    let tree = c.in-Tree.tree in
    let at = c.in-Tree.defined_at in
    let invocation = c.in_ok-invocation-in-Tree.invocation in
    let (same, then, called) = c.in_ok-tree.ensures.called before is in
    let from : IsExpanded config c.args.limit it tree at before same = subst (λ r. IsCalled config c.args.limit it r before same) c.in-Tree.is called in
    let (others, known, captures) = c.in_ok-find_capture-in-Tree.ensures.found same then in (
      others,
      known,
      λ there in_text. chosen_expanded config in_text c.args.limit (first_level walk).rest walk.level (outer_of walk) before it there invocation same others tree at from
          c.in_ok-invocation-in-Tree.ensures captures,
    )

pub returns-in-Faulty-clause-steps : goal.returns-in-Faulty-clause-steps
returns-in-Faulty-clause-steps c there =
    let it : Call = call_of c.args.call.now in
    let level : Level = first_level c.args.walk.now in
    let part = c.call_part.result in
    let less : size (after_trees it.len level.rest) < size level.rest = call_at_less c.args.config.now.root level.position level.rest it (calls_at there) in
    let more = advances level (outer_of c.args.walk.now) it.len less part (ap (λ p. p.len) c.call_part.ensures) part.semicolon refl in
    omega (arith, more)

pub returns-in-Faulty-clause-chosen : goal.returns-in-Faulty-clause-chosen
returns-in-Faulty-clause-chosen c before is =
    let config = config_of c.args.config.now in
    let it : Call = call_of c.args.call.now in
    let walk = c.args.walk.now in
    let (others, then, called) = c.in_ok-tree.ensures.called before is in
    let wrong : IsFaulty config c.args.limit it before others = subst (λ r. IsCalled config c.args.limit it r before others) c.in-Faulty.is called in (
      others,
      then,
      λ there in_text. chosen_faulty config in_text c.args.limit (first_level walk).rest walk.level (outer_of walk) before it there c.call_part.result others (c.call_part.ensures ∙ ap (λ l. call_part l it false) c.level.ensures) wrong,
    )

pub returns-then-config-clause-chosen : goal.returns-then-config-clause-chosen
returns-then-config-clause-chosen c before is =
    let config = config_of c.args.config.now in
    let limit = c.args.limit in
    let it : Call = call_of c.args.call.now in
    let level : Level = first_level c.args.walk.now in
    let outer : List Level = outer_of c.args.walk.now in
    let (others, then, called) = c.in_ok-tree.ensures.called before is in
    let (none, same) = subst (λ r. IsCalled config limit it r before others) c.in-Other.is called in
    let bare : it.attributes ≡ 0 = elim c.else-call-gt0.branch [
      | else-call-gt0-via-then-call-gt0+else-not-is_expanded w ↦ absurd (false≢true (sym (ap is_some none) ∙ sym (w.is_expanded.ensures before is) ∙ w.if-not-is_expanded.false))
      | else-call-gt0-via-else-call-gt0 w ↦ omega (arith, w.if-call-gt0.false)
    ] in (
      others,
      then,
      λ there in_text. (
        subst (Leads config in_text limit (level ∷ outer) before (λ outcomes. outcomes) (record level { plain = it.len } ∷ outer)) (sym same)
            (leads_into config in_text limit level outer before there.first there.goes_on it there.item bare none c.if-config.true),
        inr (inl (omega (arith, call_at_long config.root level.position level.rest it (calls_at there.item)))),
      ),
    )

pub returns-else-config-clause-steps : goal.returns-else-config-clause-steps
returns-else-config-clause-steps c there =
    let it : Call = call_of c.args.call.now in
    let level : Level = first_level c.args.walk.now in
    let part = c.call_part-else-config.result in
    let less : size (after_trees it.len level.rest) < size level.rest = call_at_less c.args.config.now.root level.position level.rest it (calls_at there) in
    let more = advances level (outer_of c.args.walk.now) it.len less part (ap (λ p. p.len) c.call_part-else-config.ensures) part.semicolon refl in
    omega (arith, more)

pub returns-else-config-clause-chosen : goal.returns-else-config-clause-chosen
returns-else-config-clause-chosen c before is =
    let config = config_of c.args.config.now in
    let limit = c.args.limit in
    let it : Call = call_of c.args.call.now in
    let walk = c.args.walk.now in
    let level : Level = first_level walk in
    let outer : List Level = outer_of walk in
    let part = c.call_part-else-config.result in
    let (others, then, called) = c.in_ok-tree.ensures.called before is in
    let (none, same) = subst (λ r. IsCalled config limit it r before others) c.in-Other.is called in
    let bare : it.attributes ≡ 0 = elim c.else-call-gt0.branch [
      | else-call-gt0-via-then-call-gt0+else-not-is_expanded w ↦ absurd (false≢true (sym (ap is_some none) ∙ sym (w.is_expanded.ensures before is) ∙ w.if-not-is_expanded.false))
      | else-call-gt0-via-else-call-gt0 w ↦ omega (arith, w.if-call-gt0.false)
    ] in (
      others,
      then,
      λ there in_text. subst (λ k. IsChosen config in_text limit (level ∷ outer) before (choice.Stays part) k) (sym same)
          (chosen_other config in_text limit level.rest walk.level outer before it there part (c.call_part-else-config.ensures ∙ ap (λ l. call_part l it false) c.level-else-config.ensures) bare none c.if-config.false),
    )
