use Rattle.std.proofs.Common.{rules, ◌≡◌, ◌++◌, ◌∷◌, [], None, refl, sym, subst}
use Rattle.tt.specs.Span.{start_of}
use Rattle.expand_items.specs.Items.{Definition, definition_of}
use Rattle.expand_text.specs.declared.fault.MacroFault.TheVariants as wrong
use Rattle.expand_text.specs.declared.scope.Macro as rust
use Rattle.expand_text.specs.Contexts.{with_macro}
use Rattle.expand_text.specs.Macros.{macro_of}
use Rattle.expand_text.specs.Scopes.{Macro, AreReady}
use Rattle.expand_text.proofs.Readiness.{ready_more}
use Rattle.expand_text.proofs.defining.define_built_in.Goals as goal

pub returns-clause-defined : goal.returns-clause-defined
returns-clause-defined c context is =
    let it : Definition = definition_of c.args.definition.now in
    let name : c.in_ok-name.name ≡ it.name.sym = search rules in
    let place : c.start_of.result ≡ start_of it.name.span.range = search rules in
    let found : Macro = macro_of it wrong.BuiltIn None in
    let made : rust.Macro = record { name = c.in_ok-name.name; defined_at = c.start_of.result; left = wrong.BuiltIn; rules = None } in
    let more : c.define.new.self.macros.items ≡ c.args.context.now.scope.macros.items ++ made ∷ [] = c.in_ok-define.ensures.ok in (
      with_macro found context,
      record {
        macros =
            subst (AreReady (context.macros ++ found ∷ [])) (sym more)
            (ready_more context.macros c.args.context.now.scope.macros.items found made is.macros (record { name = name; defined_at = place; left = refl; rules = tt }));
        exported = is.exported;
        findings = is.findings;
        is_over = is.is_over;
        callers = is.callers;
        caller = is.caller;
        left = is.left;
      },
      refl,
    )
