-- How a text that is laid out is read.
use Rattle.std.proofs.Common.{◌≡◌, ℕ, List, [], false, Option, None, Some, sym, ap, ap₂, ◌∙◌, subst}
use Rattle.std.specs.Str.{chars, IsUtf8}
use Rattle.syntax_edit.proofs.Sources.{match_source, source, utf8_joined}
use Rattle.syntax_edit.proofs.Spelling.{plain_spelling}
use Rattle.syntax_edit.specs.Kept.{ends_in_line}
use Rattle.syntax_layout.proofs.LaidChunks.{laid_all}
use Rattle.syntax_layout.specs.Gap.{AreGaps}
use Rattle.syntax_layout.specs.Layout.{IsLaidOut, are_plain, laid_out}
use Rattle.syntax_edit.specs.Splices.{IsSpelling}
use Rattle.syntax_lex.proofs.TokenFacts.{one_list}
use Rattle.syntax_lex.specs.Reading.{AreTokensOf}
use Rattle.syntax_lex.specs.declared.token.Token.{Token}
use Rattle.syntax_lex.specs.declared.token.TokenKind.TheVariants.{Whitespace}
use Rattle.syntax_parse.specs.Faults.{fault_from}
use Rattle.syntax_parse.specs.Parsed.{IsParse, pieces_from}
use Rattle.syntax_parse.specs.Refusal.{IsFaultOf}
use Rattle.syntax_parse.specs.Spelled.{spelled}
use Rattle.syntax_parse.specs.declared.fault.SyntaxFault.{SyntaxFault}
use Rattle.syntax_unparse.proofs.Chunks.{no_fault, pieces_are, tokens_are, tokens_of}
use Rattle.syntax_unparse.specs.Settled.{sorts}
use Rattle.syntax_unparse.specs.Text.{text_of}
use Rattle.syntax_unparse.specs.Writable.{IsWritable}
use Rattle.tt_base.specs.Forest.{Forest, Root}
use Rattle.tt_base.specs.declared.span.SpanPart.{SpanPart}

-- what is written of a text without a fault has no fault and the same pieces
record IsSame (text laid_text : List ℕ) (tokens : List Token) : Type 0 where
  pub utf8 : IsUtf8 laid_text
  pub new : List Token
  pub read : AreTokensOf new (chars laid_text)
  pub fine : fault_from [] 0 laid_text new ≡ None
  pub pieces : (part other : SpanPart) → sorts (pieces_from part 0 laid_text new) ≡ sorts (pieces_from other 0 text tokens)
  pub line : ends_in_line new ≡ false

same : (text laid_text : List ℕ) (gaps : List (List ℕ)) → IsUtf8 text → AreGaps gaps → (it : IsLaidOut text gaps laid_text) → fault_from [] 0 text it.tokens ≡ None → IsSame text laid_text it.tokens
same text laid_text gaps utf8 fine it none =
    let all = source text it.tokens utf8 it.read in
    let xs = all.chunks in
    let found = laid_all _ Whitespace [] 0 xs gaps all.are (ap are_plain all.tokens_are ∙ it.plain) fine in
    let text_is = found.text_is ∙ ap₂ (λ t ts. laid_out t ts gaps) all.text_is all.tokens_are ∙ sym it.is in
    let new = tokens_of found.new in
    record {
      utf8 = subst IsUtf8 text_is (utf8_joined found.new found.are);
      new = new;
      read = subst (λ t. AreTokensOf new (chars t)) text_is (tokens_are found.new found.are);
      fine = subst (λ t. fault_from [] 0 t new ≡ None) text_is (no_fault [] 0 found.new found.are (found.matches [] ∙ match_source text it.tokens all none));
      pieces = λ part other.
          ap (λ t. sorts (pieces_from part 0 t new)) (sym text_is) ∙ pieces_are part 0 found.new found.are ∙ found.means ∙ sym (pieces_are other 0 xs all.are)
          ∙ ap₂ (λ t ts. sorts (pieces_from other 0 t ts)) all.text_is all.tokens_are;
      line = found.line;
    }

-- a text that spells trees also spells them if it is laid out
pub laid_out_spells : (trees : Forest) (text laid_text : List ℕ) (gaps : List (List ℕ)) → AreGaps gaps → IsSpelling trees text → IsLaidOut text gaps laid_text → IsSpelling trees laid_text
laid_out_spells trees text laid_text gaps fine spelling it =
    let back = spelling.back in
    let tokens : back.tokens ≡ it.tokens = one_list back.tokens it.tokens (chars text) back.read it.read in
    let found = same text laid_text gaps spelling.utf8 fine it (ap (fault_from [] 0 text) (sym tokens) ∙ back.fine) in
    record {
      utf8 = found.utf8;
      back = record {
        tokens = found.new;
        read = found.read;
        fine = found.fine;
        spells = λ part. found.pieces part part ∙ ap (λ ts. sorts (pieces_from part 0 text ts)) (sym tokens) ∙ back.spells part;
      };
      line = found.line;
    }

-- so the Rust text of trees that can be written also spells them if it is laid out
pub tree_text_spells : (trees : Forest) (laid_text : List ℕ) (gaps : List (List ℕ)) → AreGaps gaps → IsWritable trees → IsLaidOut (text_of trees) gaps laid_text → IsSpelling trees laid_text
tree_text_spells trees laid_text gaps fine writable it = laid_out_spells trees (text_of trees) laid_text gaps fine (plain_spelling trees writable) it

pub read_as_before : (part other : SpanPart) (text laid_text : List ℕ) (gaps : List (List ℕ)) (root again : Root) → IsUtf8 text → AreGaps gaps → IsParse part text root → IsLaidOut text gaps laid_text
    → IsParse other laid_text again → sorts (spelled again.children) ≡ sorts (spelled root.children)
read_as_before part other text laid_text gaps root again utf8 fine parse it other_parse =
    let tokens : parse.tokens ≡ it.tokens = one_list parse.tokens it.tokens (chars text) parse.read it.read in
    let found = same text laid_text gaps utf8 fine it (ap (fault_from [] 0 text) (sym tokens) ∙ parse.fine) in
    let news : other_parse.tokens ≡ found.new = one_list other_parse.tokens found.new (chars laid_text) other_parse.read found.read in
    ap sorts (other_parse.spells ∙ ap (pieces_from other 0 laid_text) news) ∙ found.pieces other part ∙ ap (λ ts. sorts (pieces_from part 0 text ts)) (sym tokens) ∙ ap sorts (sym parse.spells)

-- and it has no fault of syntax
pub no_fault_found : (part : SpanPart) (text laid_text : List ℕ) (gaps : List (List ℕ)) (root : Root) (fault : SyntaxFault) → IsUtf8 text → AreGaps gaps → IsParse part text root → IsLaidOut text gaps laid_text
    → IsFaultOf laid_text fault → ⊥
no_fault_found part text laid_text gaps root fault utf8 fine parse it wrong =
    let tokens : parse.tokens ≡ it.tokens = one_list parse.tokens it.tokens (chars text) parse.read it.read in
    let found = same text laid_text gaps utf8 fine it (ap (fault_from [] 0 text) (sym tokens) ∙ parse.fine) in
    let news : wrong.tokens ≡ found.new = one_list wrong.tokens found.new (chars laid_text) wrong.read found.read in
    let both : ◌≡◌ {A = Option SyntaxFault} (Some fault) None = sym wrong.first ∙ ap (fault_from [] 0 laid_text) news ∙ found.fine in
    cc
