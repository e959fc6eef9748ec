-- A text whose attributes are written as comments spells what it spelled, and is no longer.
use Rattle.std.proofs.Common.{◌≡◌, ◌≤◌, ℕ, Bool, true, false, List, [], ◌++◌, length, take, drop, None, sym, ap, ap₂, ◌∙◌, subst, arith, length-append}
use Rattle.std.proofs.lemmas.List.{take-append-drop}
use Rattle.std.specs.Str.{IsUtf8, chars}
use Rattle.syntax_edit.proofs.Sources.{match_source, utf8_joined}
use Rattle.syntax_edit.proofs.Words.{first_word}
use Rattle.syntax_edit.specs.Kept.{ends_in_line}
use Rattle.syntax_edit.specs.Splices.{IsSpelling}
use Rattle.syntax_layout.proofs.Ahead.{ends_line}
use Rattle.syntax_layout.proofs.Becomes.{both_becomes, replaced_short, rest_utf8}
use Rattle.syntax_layout.proofs.DocumentedChunks.{Both, both_nothing, both_stays}
use Rattle.syntax_layout.specs.Documented.{IsDocumented, nothing, becomes, stays, comment}
use Rattle.syntax_lex.proofs.TokenFacts.{one_list}
use Rattle.syntax_lex.specs.Reading.{AreTokensOf}
use Rattle.syntax_parse.specs.Faults.{fault_from}
use Rattle.syntax_parse.specs.Parsed.{pieces_from}
use Rattle.syntax_unparse.proofs.Chunks.{no_fault, pieces_are, tokens_are, tokens_of}
use Rattle.syntax_unparse.specs.Settled.{sorts}
use Rattle.tt_base.specs.Forest.{Forest}

-- the chunks of a text, and of what is written of it
both : {begins : Bool} {source written : List ℕ} → IsDocumented begins source written → IsUtf8 source → Both begins source written
both {begins = begins} nothing utf8 = both_nothing begins
both {source = source} (becomes {style = style} {doc = doc} {ending = ending} {rest = rest} {written = more} it behind) utf8 =
    both_becomes style doc ending rest source more it (both behind (rest_utf8 style doc ending rest source utf8 it))
both {begins = begins} {source = source} (stays {written = more} {token = token} some is none behind) utf8 =
    both_stays begins source more token utf8 some is (both behind (first_word source token utf8 some is).rest)

-- so the text spells what it spelled
pub documented_spells : (trees : Forest) (source written : List ℕ) → IsSpelling trees source → IsDocumented true source written → IsSpelling trees written
documented_spells trees source written spelling it =
    let back = spelling.back in
    let found = both it spelling.utf8 in
    let read : AreTokensOf (tokens_of found.old) (chars source) = subst (λ t. AreTokensOf (tokens_of found.old) (chars t)) found.text_is (tokens_are found.old found.are) in
    let tokens : tokens_of found.old ≡ back.tokens = one_list (tokens_of found.old) back.tokens (chars source) read back.read in
    let matched = match_source source back.tokens (record { chunks = found.old; are = found.are; text_is = found.text_is; tokens_are = tokens }) back.fine in
    let new = found.told ([], matched) in
    let ts = tokens_of new.new in
    record {
      utf8 = subst IsUtf8 new.text_is (utf8_joined new.new new.are);
      back = record {
        tokens = ts;
        read = subst (λ t. AreTokensOf ts (chars t)) new.text_is (tokens_are new.new new.are);
        fine = subst (λ t. fault_from [] 0 t ts ≡ None) new.text_is (no_fault [] 0 new.new new.are (new.matches [] ∙ matched));
        spells = λ part.
            ap (λ t. sorts (pieces_from part 0 t ts)) (sym new.text_is) ∙ pieces_are part 0 new.new new.are ∙ new.means ∙ sym (pieces_are part 0 found.old found.are)
            ∙ ap₂ (λ t us. sorts (pieces_from part 0 t us)) found.text_is tokens ∙ back.spells part;
      };
      line = ends_line ts ∙ new.line false ∙ sym (ends_line (tokens_of found.old)) ∙ ap ends_in_line tokens ∙ spelling.line;
    }

-- nothing that is written is longer
pub documented_short : {begins : Bool} {source written : List ℕ} → IsDocumented begins source written → length written ≤ length source
documented_short nothing = omega arith
documented_short {source = source} (becomes {style = style} {doc = doc} {ending = ending} {rest = rest} {written = more} it behind) =
    omega (arith, replaced_short style doc ending rest source it, documented_short behind, length-append (comment style (doc ++ ending)) more)
documented_short {source = source} (stays {written = more} {token = token} some is none behind) =
    omega (
      arith,
      documented_short behind,
      length-append (take token.len source) more,
      length-append (take token.len source) (drop token.len source),
      ap length (take-append-drop token.len source),
    )
