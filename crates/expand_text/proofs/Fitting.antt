-- What replaces calls in a text fits into it.
use Rattle.std.proofs.Common.{◌≤◌, ◌++◌, ℕ, Bool, List, refl, sym, subst, arith}
use Rattle.std.specs.Str.{IsUtf8}
use Rattle.tt.specs.Forest.{Forest, Root}
use Rattle.tt_base.specs.declared.span.SpanPart.{SpanPart}
use Rattle.expand_items.specs.declared.position.Position.{Position}
use Rattle.expand_items.proofs.ItemsAt.{calls_at}
use Rattle.expand_text.specs.Meaning.{ExpandsTo, ends, on_leaf, on_node, on_definition, on_inactive, on_other_call, into_other_call, into_attributes, on_faulty_call, on_call, on_kept_call}
use Rattle.expand_text.specs.Reading.{AreSplices, ended, passed, entered, stayed, became}
use Rattle.expand_text.specs.Contexts.{Config, Context}
use Rattle.syntax_edit.specs.Laid.{Laid, lies_leaf, lies_node}
use Rattle.expand_text.specs.Outcomes.{Outcome}
use Rattle.syntax_edit.specs.Texts.{begun, FitAll}
use Rattle.expand_text.proofs.CallPlaces.{call_laid}
use Rattle.expand_text.proofs.Splicing.{replacements_append}
use Rattle.syntax_edit.specs.Splices.{Splice, replacements_of}
use Rattle.syntax_edit.proofs.Following.{Follow, none, next, follow_from, follow_both, follow_fit}
use Rattle.syntax_edit.proofs.LaidFacts.{laid_behind, laid_order, starts_before}
use Rattle.syntax_edit.proofs.ParsedOrder.{parsed_laid}
use Rattle.syntax_parse.specs.Parsed.{IsParse}

-- Splices follow one another if those of a front and those behind it do.
follow_more : {text : List ℕ} {from middle place to : ℕ} (front back : List Splice) → Follow text from (replacements_of front) middle → middle ≤ place → Follow text place (replacements_of back) to
    → Follow text from (replacements_of (front ++ back)) to
follow_more {text} {from} {middle} {place} {to} front back before between behind =
    subst (λ its. Follow text from its to) (sym (replacements_append front back)) (follow_both before between behind)

-- The expansions of trees that lie in a text replace parts of it that follow one another.
comes_follow : {text : List ℕ} {config : Config} {in_text one_line : Bool} {limit plain from to : ℕ} {position : Position} {context after : Context} {trees : Forest} {outcome : Outcome} {splices : List Splice}
    → ExpandsTo config in_text limit position plain context trees after outcome → Laid text from trees to → AreSplices one_line outcome splices → Follow text from (replacements_of splices) to
comes_follow ends laid ended = none (laid_order laid)
comes_follow (on_leaf plain others) (lies_leaf {it = it} lies behind) (passed are) =
    follow_from (omega (arith, lies.after, starts_before it lies.range.order)) (comes_follow others behind are)
comes_follow (on_node plain held others) (lies_node opens inside closes behind) (entered {first = first} {second = second} are more) =
    follow_from opens.after (follow_more first second (comes_follow held inside are) closes.order (comes_follow others behind more))
comes_follow (on_definition {it = it} inside going is read others) laid (stayed are) = comes_follow others (laid_behind it.len laid) are
comes_follow (on_other_call {it = it} going is bare unexpanded not_into others) laid (stayed are) = comes_follow others (laid_behind it.len laid) are
comes_follow (into_other_call going is bare unexpanded into others) laid are = comes_follow others laid are
comes_follow (on_inactive {len = len} going is others) laid (stayed are) = comes_follow others (laid_behind len laid) are
comes_follow (into_attributes going is some unexpanded others) laid are = comes_follow others laid are
comes_follow (on_faulty_call {it = it} at fault expected going is called some faulty wanted others) laid (stayed are) = comes_follow others (laid_behind it.len laid) are
comes_follow {config = config} (on_call {position = position} {it = it} {trees = trees} tree put going is called some expands noted held so may others) laid (stayed (became spells are)) =
    let (lies, behind) = call_laid config.root trees it position tree (calls_at is) laid in
    next lies (comes_follow others behind are)
comes_follow {config = config} (on_kept_call {position = position} {it = it} {trees = trees} tree at fault going is called some expands noted held kept others) laid (stayed are) =
    let (lies, behind) = call_laid config.root trees it position tree (calls_at is) laid in
    follow_from (omega (arith, lies.after, lies.range.order)) (comes_follow others behind are)

-- The texts of all splices of a whole text fit into it.
pub comes_fit : {config : Config} {in_text one_line : Bool} {limit plain : ℕ} {position : Position} {context after : Context} {outcome : Outcome} {splices : List Splice} (part : SpanPart) (text : List ℕ) (root : Root)
    → IsUtf8 text → IsParse part text root → ExpandsTo config in_text limit position plain context root.children after outcome → AreSplices one_line outcome splices → FitAll (replacements_of splices) (begun text)
comes_fit part text root utf8 parse expands_to are = follow_fit (begun text) refl (omega arith) (comes_follow expands_to (parsed_laid part text root utf8 parse) are)
