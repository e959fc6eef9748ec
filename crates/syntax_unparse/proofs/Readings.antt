-- A text that reads back as trees has no other reading.
use Rattle.std.proofs.Common.{◌≡◌, ℕ, List, [], Option, None, Some, sym, ap, ◌∙◌}
use Rattle.std.specs.Str.{chars}
use Rattle.tt_base.specs.Forest.{Forest, Root}
use Rattle.tt_base.specs.declared.span.SpanPart.{SpanPart}
use Rattle.syntax_lex.proofs.TokenFacts.{one_list}
use Rattle.syntax_parse.specs.Faults.{fault_from}
use Rattle.syntax_parse.specs.Parsed.{IsParse, pieces_from}
use Rattle.syntax_parse.specs.Refusal.{IsFaultOf}
use Rattle.syntax_parse.specs.Spelled.{spelled}
use Rattle.syntax_parse.specs.declared.fault.SyntaxFault.{SyntaxFault}
use Rattle.syntax_unparse.specs.Marks.{marks}
use Rattle.syntax_unparse.specs.Settled.{ReadsBack, settled, sorts}

-- the trees of the text are the settled ones
pub read_as_settled : (trees : Forest) (text : List ℕ) (part : SpanPart) (root : Root) → ReadsBack trees text → IsParse part text root → sorts (spelled root.children) ≡ settled (marks 0 trees)
read_as_settled trees text part root back parse =
    let same : parse.tokens ≡ back.tokens = one_list parse.tokens back.tokens (chars text) parse.read back.read in
    ap sorts (parse.spells ∙ ap (pieces_from part 0 text) same) ∙ back.spells part

-- and it has no fault
pub no_syntax_fault : (trees : Forest) (text : List ℕ) (fault : SyntaxFault) → ReadsBack trees text → IsFaultOf text fault → ⊥
no_syntax_fault trees text fault back found =
    let same : found.tokens ≡ back.tokens = one_list found.tokens back.tokens (chars text) found.read back.read in
    let both : ◌≡◌ {A = Option SyntaxFault} (Some fault) None = sym found.first ∙ ap (fault_from [] 0 text) same ∙ back.fine in
    cc
