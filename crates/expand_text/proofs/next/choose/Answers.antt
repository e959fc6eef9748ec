use Rattle.std.proofs.Common.{rules, ◌≡◌, ◌<◌, ◌∷◌, ◌∙◌, List, true, false, inr, refl, ap, ap₂, sym, subst, arith}
use Rattle.tt.specs.Forest.{size}
use Rattle.tt.specs.Gluing.{after_trees}
use Rattle.tt.specs.Iters.{rest_of}
use Rattle.expand_items.specs.Inactive.{IsItemAt}
use Rattle.expand_items.specs.Items.{Definition, call_of, definition_of, item_meant}
use Rattle.expand_items.specs.declared.item.Item.TheVariants as item_of
use Rattle.expand_items.proofs.Conditions.{definition_at_less}
use Rattle.expand_items.proofs.ItemsAt.{defines_at, inactive_less}
use Rattle.expand_items.specs.Positions.{behind}
use Rattle.expand_text.specs.declared.part.Part.{Part}
use Rattle.expand_text.specs.Contexts.{config_of}
use Rattle.expand_text.specs.Meaning.{plain_behind_part}
use Rattle.expand_text.specs.Macros.{IsRead}
use Rattle.expand_text.specs.Walks.{Level, Leads, first_level, outer_of}
use Rattle.expand_text.proofs.Choosing.{advances, chosen_definition, chosen_inactive, plain_part}
use Rattle.expand_text.proofs.next.choose.Goals as goal

pub returns-in-Definition-clause-steps : goal.returns-in-Definition-clause-steps
returns-in-Definition-clause-steps c =
    let walk = c.args.walk.now in
    let config = config_of c.args.config.now in
    let level : Level = first_level walk in
    let outer : List Level = outer_of walk in
    let whole : rest_of c.rest.result ≡ level.rest = search rules in
    let named : c.as_str-root.result.now ≡ config.root = search rules in
    let at : c.level-level.result ≡ walk.level = search rules in
    let there : IsItemAt config.known config.root level.position level.rest (item_meant (item_of.Definition c.in-Definition.definition)) =
    subst (λ r. IsItemAt config.known config.root level.position level.rest (item_meant r)) c.in-Definition.is
    (subst (λ l. IsItemAt config.known config.root l.position level.rest (item_meant c.in_ok-definition.field-0)) at
    (subst (λ n. IsItemAt config.known n c.level-level.result.position level.rest (item_meant c.in_ok-definition.field-0)) named
    (subst (λ f. IsItemAt config.known c.as_str-root.result.now c.level-level.result.position f (item_meant c.in_ok-definition.field-0)) whole c.in_ok-definition.ensures))) in
    let it : Definition = definition_of c.in-Definition.definition in
    let less : size (after_trees it.len level.rest) < size level.rest = definition_at_less config.root level.position level.rest it (defines_at there) in
    let part : Part = record { len = c.in-Definition.definition.len; semicolon = false; position = c.behind.result; plain = c.level-level.result.plain } in
    let more = advances level outer it.len less part refl false refl in
    omega (arith, more)

pub returns-in-Definition-clause-chosen : goal.returns-in-Definition-clause-chosen
returns-in-Definition-clause-chosen c before is =
    let walk = c.args.walk.now in
    let config = config_of c.args.config.now in
    let level : Level = first_level walk in
    let outer : List Level = outer_of walk in
    let whole : rest_of c.rest.result ≡ level.rest = search rules in
    let named : c.as_str-root.result.now ≡ config.root = search rules in
    let at : c.level-level.result ≡ walk.level = search rules in
    let there : IsItemAt config.known config.root level.position level.rest (item_meant (item_of.Definition c.in-Definition.definition)) =
    subst (λ r. IsItemAt config.known config.root level.position level.rest (item_meant r)) c.in-Definition.is
    (subst (λ l. IsItemAt config.known config.root l.position level.rest (item_meant c.in_ok-definition.field-0)) at
    (subst (λ n. IsItemAt config.known n c.level-level.result.position level.rest (item_meant c.in_ok-definition.field-0)) named
    (subst (λ f. IsItemAt config.known c.as_str-root.result.now c.level-level.result.position f (item_meant c.in_ok-definition.field-0)) whole c.in_ok-definition.ensures))) in
    let none : level.plain ≡ 0 = search (rules, arith) in
    let going : c.args.context.now.is_over ≡ false = search rules in
    let it : Definition = definition_of c.in-Definition.definition in
    let part : Part = record { len = c.in-Definition.definition.len; semicolon = false; position = c.behind.result; plain = c.level-level.result.plain } in
    let is_part : part ≡ plain_part level it.len level.plain =
    ap₂ (λ p l. record { len = it.len; semicolon = false; position = p; plain = l.plain }) (c.behind.ensures ∙ ap (λ l. behind true l.position) at) at in
    let (others, known, read) = c.in_ok-read_definition-in-Definition.ensures.read before is in
    let read_there : IsRead config level.position it before others = subst (λ l. IsRead config l.position it before others) at read in (
      others,
      known,
      λ in_text. chosen_definition config in_text c.args.limit level outer before it others part (record { first = none; goes_on = sym is.is_over ∙ going; item = there }) read_there is_part,
    )

pub returns-in-Ok-clause-steps : goal.returns-in-Ok-clause-steps
returns-in-Ok-clause-steps c =
    let walk = c.args.walk.now in
    let config = config_of c.args.config.now in
    let level : Level = first_level walk in
    let whole : rest_of c.rest.result ≡ level.rest = search rules in
    let named : c.as_str-root.result.now ≡ config.root = search rules in
    let at : c.level-level.result ≡ walk.level = search rules in
    let there : IsItemAt config.known config.root level.position level.rest (item_meant (item_of.Call c.in-Call.call)) =
    subst (λ r. IsItemAt config.known config.root level.position level.rest (item_meant r)) c.in-Call.is
    (subst (λ l. IsItemAt config.known config.root l.position level.rest (item_meant c.in_ok-definition.field-0)) at
    (subst (λ n. IsItemAt config.known n c.level-level.result.position level.rest (item_meant c.in_ok-definition.field-0)) named
    (subst (λ f. IsItemAt config.known c.as_str-root.result.now c.level-level.result.position f (item_meant c.in_ok-definition.field-0)) whole c.in_ok-definition.ensures))) in
    c.in-Ok.ensures.steps there

pub returns-in-Ok-clause-first : goal.returns-in-Ok-clause-first
returns-in-Ok-clause-first c =
    let walk = c.args.walk.now in
    let config = config_of c.args.config.now in
    let level : Level = first_level walk in
    let whole : rest_of c.rest.result ≡ level.rest = search rules in
    let named : c.as_str-root.result.now ≡ config.root = search rules in
    let at : c.level-level.result ≡ walk.level = search rules in
    let there : IsItemAt config.known config.root level.position level.rest (item_meant (item_of.Call c.in-Call.call)) =
    subst (λ r. IsItemAt config.known config.root level.position level.rest (item_meant r)) c.in-Call.is
    (subst (λ l. IsItemAt config.known config.root l.position level.rest (item_meant c.in_ok-definition.field-0)) at
    (subst (λ n. IsItemAt config.known n c.level-level.result.position level.rest (item_meant c.in_ok-definition.field-0)) named
    (subst (λ f. IsItemAt config.known c.as_str-root.result.now c.level-level.result.position f (item_meant c.in_ok-definition.field-0)) whole c.in_ok-definition.ensures))) in
    c.in-Ok.ensures.first there

pub returns-in-Ok-clause-chosen : goal.returns-in-Ok-clause-chosen
returns-in-Ok-clause-chosen c before is =
    let walk = c.args.walk.now in
    let config = config_of c.args.config.now in
    let level : Level = first_level walk in
    let whole : rest_of c.rest.result ≡ level.rest = search rules in
    let named : c.as_str-root.result.now ≡ config.root = search rules in
    let at : c.level-level.result ≡ walk.level = search rules in
    let there : IsItemAt config.known config.root level.position level.rest (item_meant (item_of.Call c.in-Call.call)) =
    subst (λ r. IsItemAt config.known config.root level.position level.rest (item_meant r)) c.in-Call.is
    (subst (λ l. IsItemAt config.known config.root l.position level.rest (item_meant c.in_ok-definition.field-0)) at
    (subst (λ n. IsItemAt config.known n c.level-level.result.position level.rest (item_meant c.in_ok-definition.field-0)) named
    (subst (λ f. IsItemAt config.known c.as_str-root.result.now c.level-level.result.position f (item_meant c.in_ok-definition.field-0)) whole c.in_ok-definition.ensures))) in
    let none : level.plain ≡ 0 = search (rules, arith) in
    let going : c.args.context.now.is_over ≡ false = search rules in
    let (others, known, goes) = c.in-Ok.ensures.chosen before is in
    (others, known, goes (record { first = none; goes_on = sym is.is_over ∙ going; item = there }))

pub returns-in-Call-clause-stop : goal.returns-in-Call-clause-stop
returns-in-Call-clause-stop c =
    let walk = c.args.walk.now in
    let config = config_of c.args.config.now in
    let level : Level = first_level walk in
    let whole : rest_of c.rest.result ≡ level.rest = search rules in
    let named : c.as_str-root.result.now ≡ config.root = search rules in
    let at : c.level-level.result ≡ walk.level = search rules in
    let there : IsItemAt config.known config.root level.position level.rest (item_meant (item_of.Call c.in-Call.call)) =
    subst (λ r. IsItemAt config.known config.root level.position level.rest (item_meant r)) c.in-Call.is
    (subst (λ l. IsItemAt config.known config.root l.position level.rest (item_meant c.in_ok-definition.field-0)) at
    (subst (λ n. IsItemAt config.known n c.level-level.result.position level.rest (item_meant c.in_ok-definition.field-0)) named
    (subst (λ f. IsItemAt config.known c.as_str-root.result.now c.level-level.result.position f (item_meant c.in_ok-definition.field-0)) whole c.in_ok-definition.ensures))) in
    (call_of c.in-Call.call, there, c.begin_byte.ensures)

pub returns-in-Inactive-clause-steps : goal.returns-in-Inactive-clause-steps
returns-in-Inactive-clause-steps c =
    let walk = c.args.walk.now in
    let config = config_of c.args.config.now in
    let level : Level = first_level walk in
    let outer : List Level = outer_of walk in
    let whole : rest_of c.rest.result ≡ level.rest = search rules in
    let named : c.as_str-root.result.now ≡ config.root = search rules in
    let at : c.level-level.result ≡ walk.level = search rules in
    let there : IsItemAt config.known config.root level.position level.rest (item_meant (item_of.Inactive c.in-Inactive.len)) =
    subst (λ r. IsItemAt config.known config.root level.position level.rest (item_meant r)) c.in-Inactive.is
    (subst (λ l. IsItemAt config.known config.root l.position level.rest (item_meant c.in_ok-definition.field-0)) at
    (subst (λ n. IsItemAt config.known n c.level-level.result.position level.rest (item_meant c.in_ok-definition.field-0)) named
    (subst (λ f. IsItemAt config.known c.as_str-root.result.now c.level-level.result.position f (item_meant c.in_ok-definition.field-0)) whole c.in_ok-definition.ensures))) in
    let part : Part = record { len = c.in-Inactive.len; semicolon = false; position = c.behind-in-Inactive.result; plain = c.plain_behind_part.result } in
    let more = advances level outer c.in-Inactive.len (inactive_less there) part refl false refl in
    omega (arith, more)

pub returns-in-Inactive-clause-chosen : goal.returns-in-Inactive-clause-chosen
returns-in-Inactive-clause-chosen c before is =
    let walk = c.args.walk.now in
    let config = config_of c.args.config.now in
    let level : Level = first_level walk in
    let outer : List Level = outer_of walk in
    let whole : rest_of c.rest.result ≡ level.rest = search rules in
    let named : c.as_str-root.result.now ≡ config.root = search rules in
    let at : c.level-level.result ≡ walk.level = search rules in
    let there : IsItemAt config.known config.root level.position level.rest (item_meant (item_of.Inactive c.in-Inactive.len)) =
    subst (λ r. IsItemAt config.known config.root level.position level.rest (item_meant r)) c.in-Inactive.is
    (subst (λ l. IsItemAt config.known config.root l.position level.rest (item_meant c.in_ok-definition.field-0)) at
    (subst (λ n. IsItemAt config.known n c.level-level.result.position level.rest (item_meant c.in_ok-definition.field-0)) named
    (subst (λ f. IsItemAt config.known c.as_str-root.result.now c.level-level.result.position f (item_meant c.in_ok-definition.field-0)) whole c.in_ok-definition.ensures))) in
    let none : level.plain ≡ 0 = search (rules, arith) in
    let going : c.args.context.now.is_over ≡ false = search rules in
    let part : Part = record { len = c.in-Inactive.len; semicolon = false; position = c.behind-in-Inactive.result; plain = c.plain_behind_part.result } in
    let is_part : part ≡ plain_part level c.in-Inactive.len (plain_behind_part c.in-Inactive.len level.rest) =
    ap₂ (λ p n. record { len = c.in-Inactive.len; semicolon = false; position = p; plain = n }) (c.behind-in-Inactive.ensures ∙ ap (λ l. behind true l.position) at)
    (c.plain_behind_part.ensures ∙ ap (plain_behind_part c.in-Inactive.len) (search rules)) in (
      before,
      is,
      λ in_text. chosen_inactive config in_text c.args.limit level outer before c.in-Inactive.len part (record { first = none; goes_on = sym is.is_over ∙ going; item = there }) is_part,
    )

pub returns-clause-chosen : goal.returns-clause-chosen
returns-clause-chosen c before is =
    let walk = c.args.walk.now in
    let config = config_of c.args.config.now in
    let level : Level = first_level walk in
    let outer : List Level = outer_of walk in
    let whole : rest_of c.rest.result ≡ level.rest = search rules in
    let named : c.as_str-root.result.now ≡ config.root = search rules in
    let at : c.level-level.result ≡ walk.level = search rules in
    let there : IsItemAt config.known config.root level.position level.rest (item_meant item_of.Other) =
    subst (λ r. IsItemAt config.known config.root level.position level.rest (item_meant r)) c.in-Other.is
    (subst (λ l. IsItemAt config.known config.root l.position level.rest (item_meant c.in_ok-definition.field-0)) at
    (subst (λ n. IsItemAt config.known n c.level-level.result.position level.rest (item_meant c.in_ok-definition.field-0)) named
    (subst (λ f. IsItemAt config.known c.as_str-root.result.now c.level-level.result.position f (item_meant c.in_ok-definition.field-0)) whole c.in_ok-definition.ensures))) in
    let plain : c.level-level.result.plain ≡ level.plain = ap (λ l. l.plain) at in (
      before,
      is,
      λ in_text. (
        subst (λ n. Leads config in_text c.args.limit (level ∷ outer) before (λ outcomes. outcomes) (record level { plain = n } ∷ outer) before) (sym plain) (λ after outcomes e. e),
        inr (inr there),
      ),
    )
