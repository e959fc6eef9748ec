use Rattle.std.proofs.Common.{◌≡◌, ◌∙◌, ℕ, List, [], Option, None, Some, true, subst}
use Rattle.std.proofs.lemmas.Result.{err_from_is_err_and}
use Rattle.std.specs.Prelude.{string_bytes}
use Rattle.tt.specs.Forest.{Root}
use Rattle.expand_text.specs.Meaning.{ExpandsTo}
use Rattle.expand_text.specs.Expansion.{config_by, IsOutOfMemory}
use Rattle.expand_text.specs.Scopes.{Macro}
use Rattle.expand_text.specs.Stops.{IsStopIn}
use Rattle.expand_text.specs.declared.options.ExpandOptions.{ExpandOptions}
use Rattle.syntax_edit.specs.Places.{text_part}
use Rattle.expand_text.specs.Contexts.{config_of, new_context}
use Rattle.expand_text.specs.Exports.{AreExported}
use Rattle.expand_items.specs.Positions.{begun as begun_among}
use Rattle.expand_items.specs.declared.position.Siblings.TheVariants.{Items}
use Rattle.syntax_edit.specs.Texts.{begun, with_all, FitAll}
use Rattle.expand_text.proofs.Fitting.{comes_fit}
use Rattle.expand_text.proofs.Replacing.{all_replaced}
use Rattle.expand_text.proofs.Weaving.{text_woven}
use Rattle.expand_text.specs.Reading.{AreSplices, sorts_left}
use Rattle.syntax_edit.proofs.CallWeaves.{no_fault_woven, read_woven}
use Rattle.syntax_edit.specs.Calls.{IsWoven}
use Rattle.syntax_edit.specs.Splices.{Splice, replacements_of}
use Rattle.expand_text.proofs.text.expand_leniently.Goals as goal
use Rattle.syntax_parse.specs.Parsed.{IsParse}
use Rattle.syntax_parse.specs.Refusal.{IsFaultOf}
use Rattle.syntax_parse.specs.Spelled.{spelled}

-- Memory runs out in a walk through the trees of a text.
out_of_memory : (options : ExpandOptions) (text : List ℕ) (tree : Root) (exported : List Macro) (call : Option ℕ) → IsParse text_part text tree → AreExported (config_by options) tree.children exported
    → IsStopIn (config_by options) options.limit tree.children (new_context exported) call → IsOutOfMemory options text call
out_of_memory options text tree exported None read exports stop = tt
out_of_memory options text tree exported (Some at) read exports stop = record { tree = tree; read = read; exported = exported; exports = exports; call = stop }

pub returns-clause-ok : goal.returns-clause-ok
returns-clause-ok c =
    let text = c.args.text.now in
    let tree = c.in_ok-tree.tree in
    let options = c.args.options in
    let read : IsParse text_part text tree = c.in_ok-tree.ensures.ok in
    let (exported, exports, are) = c.in_ok-exported.ensures in
    let (after, ready, source) = c.in_ok-text.ensures.written (new_context exported) (c.new-context.ensures exported are) in
    let expands_to : ExpandsTo (config_by options) true options.limit (begun_among Items) 0 (new_context exported) tree.children after source.outcome =
    subst (λ s. ExpandsTo s true options.limit (begun_among Items) 0 (new_context exported) tree.children after source.outcome) c.in_ok-config.ensures source.expands_to in
    let splices : List Splice = source.splices in
    let are : AreSplices options.one_line source.outcome splices = subst (λ s. AreSplices s.one_line source.outcome splices) c.in_ok-config.ensures source.are in
    let woven : IsWoven [] (spelled tree.children) splices (sorts_left source.outcome) = text_woven (config_by options) tree.children source.outcome splices expands_to are in
    let fits : FitAll (replacements_of splices) (begun text) = comes_fit text_part text tree c.utf8.text read expands_to are in
    let written : string_bytes c.in_ok-text.text ≡ with_all (replacements_of splices) (begun text) =
    source.text ∙ all_replaced (replacements_of splices) (begun text) source.written fits source.replaced in
    record {
      tree = tree;
      read = read;
      exported = exported;
      exports = subst (λ s. AreExported s tree.children exported) c.in_ok-config.ensures exports;
      after = after;
      outcome = source.outcome;
      expands_to = expands_to;
      splices = splices;
      are = are;
      fits = fits;
      text = written;
      back = record {
        sound = λ fault found. no_fault_woven text_part text tree splices (sorts_left source.outcome) fault c.utf8.text read woven (subst (λ u. IsFaultOf u fault) written found);
        reads = λ part again parse. read_woven text_part part text tree again splices (sorts_left source.outcome) c.utf8.text read woven (subst (λ u. IsParse part u again) written parse);
      };
      findings = ready.findings;
      callers = ready.callers;
    }

pub returns-in_err-text-clause-err : goal.returns-in_err-text-clause-err
returns-in_err-text-clause-err c =
    let text = c.args.text.now in
    let tree = c.in_ok-tree.tree in
    let options = c.args.options in
    let call = c.in_err-text.field-0.0.call in
    let (exported, exports, are) = c.in_ok-exported.ensures in
    let stop : IsStopIn (config_of c.in_ok-config.config) options.limit tree.children (new_context exported) call =
    c.in_err-text.ensures.stop (new_context exported) (c.new-context.ensures exported are) in
    let failed = err_from_is_err_and c.from_residual-in_err-text.result c.from_residual-in_err-text.ensures.1 in
    rw (failed.1, failed.2)
    (out_of_memory options text tree exported call c.in_ok-tree.ensures.ok (subst (λ s. AreExported s tree.children exported) c.in_ok-config.ensures exports)
    (subst (λ s. IsStopIn s options.limit tree.children (new_context exported) call) c.in_ok-config.ensures stop))
