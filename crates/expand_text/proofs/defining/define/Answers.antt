use Rattle.std.proofs.Common.{rules, ◌≡◌, ◌++◌, ◌∷◌, ◌&&◌, [], None, inl, inr, refl, ap, sym, subst, ◌∙◌}
use Rattle.std.specs.Prelude.{is_some}
use Rattle.tt.specs.Forest.{Forest}
use Rattle.tt.specs.Iters.{rest_of}
use Rattle.tt.specs.Span.{start_of}
use Rattle.expand_text.specs.declared.fault.Finding.{Finding}
use Rattle.expand_text.specs.declared.fault.MacroFault.TheVariants as wrong
use Rattle.expand_text.specs.declared.scope.Macro as rust
use Rattle.expand_text.specs.Defining.{IsRules}
use Rattle.expand_items.specs.Items.{Definition, definition_of}
use Rattle.expand_text.specs.Contexts.{Context, IsContext, with_macro, with_finding}
use Rattle.expand_text.specs.Macros.{macro_of, macro_with, is_several, left_by, unless_several, found_in}
use Rattle.expand_text.specs.Prepared.{prepared}
use Rattle.expand_text.specs.Scopes.{AreReady, AreRules, last_named}
use Rattle.expand_text.proofs.Readiness.{ready_more, ready_unless}
use Rattle.expand_text.proofs.defining.define.Goals as goal
use Rattle.expand_text.proofs.defining.define.Goals.{in-Context, in-Faulty+in_ok-find-in-Faulty}

pub returns-clause-defined : goal.returns-clause-defined
returns-clause-defined c context is =
    let it : Definition = definition_of c.args.definition.now in
    let trees : Forest = prepared c.args.config.now.root (rest_of c.args.definition.now.arms) in
    let name : c.in_ok-name.name ≡ it.name.sym = search rules in
    let place : c.start_of.result ≡ start_of it.name.span.range = search rules in
    let made : rust.Macro =
    record { name = c.in_ok-name.name; defined_at = c.start_of.result; left = c.match-branch-3.left; rules = c.match-branch-3.rules } in
    let more : c.define.new.self.macros.items ≡ c.match-branch-3.context.scope.macros.items ++ made ∷ [] = c.in_ok-define.ensures.ok in
    elim c.match-branch-3.branch [
      | in-Context w ↦
          let (arms, limits, spelled, ready) = subst (IsRules it trees) w.in-Context.is c.in_ok-rules.ensures in
          let found = macro_with c.args.is_open it arms context.macros in
          let several = w.is_one_of_several-is_several.result in
          let same : several ≡ is_several c.args.is_open it context.macros =
          w.is_one_of_several-is_several.ensures context.macros is.macros ∙ ap (λ n. c.args.is_open && is_some (last_named n context.macros)) name in
          let before : AreReady context.macros c.match-branch-3.context.scope.macros.items = subst (λ k. AreReady context.macros k.scope.macros.items) (sym w.context-is) is.macros in
          let rules_are : AreRules found.arms c.match-branch-3.rules =
          subst (λ b. AreRules (unless_several b arms) c.match-branch-3.rules) same
          (subst (AreRules (unless_several several arms)) (sym (w.rules-is ∙ w.unless_several-rules.ensures)) (ready_unless several arms w.in-Context.rules ready)) in (
            with_macro found context,
            record {
              macros =
                  subst (AreReady (context.macros ++ found ∷ [])) (sym more)
                  (ready_more context.macros c.match-branch-3.context.scope.macros.items found made before
                  (record { name = name; defined_at = place; left = w.left-is ∙ w.left_by-left.ensures ∙ ap left_by same; rules = rules_are }));
              exported = subst (λ k. AreReady context.exported k.exported.macros.items) (sym w.context-is) is.exported;
              findings = ap (λ k. k.findings.items) w.context-is ∙ is.findings;
              is_over = ap (λ k. k.is_over) w.context-is ∙ is.is_over;
              callers = ap (λ k. k.callers.items) w.context-is ∙ is.callers;
              caller = ap (λ k. k.caller) w.context-is ∙ is.caller;
              left = ap (λ k. k.left) w.context-is ∙ is.left;
            },
            inl (arms, limits, spelled, refl),
          )
      | in-Faulty+in_ok-find-in-Faulty w ↦
          let fault = w.in-Faulty.fault in
          let wrong_there = subst (IsRules it trees) w.in-Faulty.is c.in_ok-rules.ensures in
          let made_finding : Finding = record { name = c.in_ok-name.name; at = w.in-Faulty.at; fault = fault; defined_at = None; expected = None; caller = None } in
          let same : made_finding ≡ found_in it w.in-Faulty.at fault = ap (λ n. record { name = n; at = w.in-Faulty.at; fault = fault; defined_at = None; expected = None; caller = None }) name in
          let then : Context = with_finding (found_in it w.in-Faulty.at fault) context in
          let found : IsContext then c.match-branch-3.context =
          subst (IsContext then) (sym w.context-is) (subst (λ f. IsContext (with_finding f context) w.find.new.self) same (w.in_ok-find-in-Faulty.ensures.found context is)) in
          let rules_are : AreRules None c.match-branch-3.rules = subst (AreRules None) (sym w.rules-is) tt in (
            with_macro (macro_of it wrong.Left None) then,
            record {
              macros =
                  subst (AreReady (then.macros ++ macro_of it wrong.Left None ∷ [])) (sym more)
                  (ready_more then.macros c.match-branch-3.context.scope.macros.items (macro_of it wrong.Left None) made found.macros
                  (record { name = name; defined_at = place; left = w.left-is; rules = rules_are }));
              exported = found.exported;
              findings = found.findings;
              is_over = found.is_over;
              callers = found.callers;
              caller = found.caller;
              left = found.left;
            },
            inr (w.in-Faulty.at, fault, wrong_there, refl),
          )
    ]
