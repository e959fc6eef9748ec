-- No two values are spelled alike.
use Rattle.hex.proofs.HexLemmas.{decode_of-encode_lower, decode_of-same}
use Rattle.hex.specs.Hex.{IsBytes, decode_of, encode_lower}
use Rattle.std.proofs.Common.{◌≡◌, ◌++◌, ℕ, ◌^◌, ◌<◌, ◌≤◌, List, [], get_or, take, drop, refl, sym, ap, ◌∙◌, lit<, arith}
use Rattle.std.specs.Prelude.{IsUtf8, codes, encode_utf8, if◌then◌else◌}
use Rattle.std.specs.Char.{IsScalar}
use Rattle.std.specs.Fmt.{decimal}
use Rattle.std.specs.Str.{bytes_eq}
use Rattle.std.specs.Str.Parse.{digits_value}
use Rattle.std.proofs.lemmas.Fmt.{decimal_injective, digits_value-decimal}
use Rattle.std.proofs.lemmas.List.{append-nil}
use Rattle.std.proofs.lemmas.Str.{encode_same}
use Rattle.tt_base.specs.declared.leaf.Leaf.{Leaf}
use Rattle.tt_base.specs.declared.leaf.Leaf.TheVariants as leaf
use Rattle.tt_base.specs.declared.literal.LitKind.{LitKind}
use Rattle.tt_base.specs.declared.literal.LitKind.TheVariants as lit
use Rattle.tt_base.specs.declared.span.Span.{Span}
use Rattle.tt_base.specs.declared.token_tree.TokenTree.TheVariants as token
use Rattle.tt_base.specs.Fits.{SpanFits, KindFits, LeafFits, TokenFits}
use Rattle.tt_base.specs.Literal.{symbol_of, span_of, kind_of, suffix_len_of}
use Rattle.tt_base.specs.Span.{start_of, end_of, span_text}
use Rattle.tt_base.proofs.Equality.{same_literal}
use Rattle.tt_base.proofs.Ranges.{same_range}
use Rattle.app_language.specs.declared.command.action.Action.{Action}
use Rattle.app_language.specs.declared.command.action.Action.TheVariants as action
use Rattle.app_language.specs.Reading.{words}
use Rattle.app_language.specs.Token.{kind_word, spacing_word, raw_word, literal_kind_word, placed_words, PlacedFits, punct_words, ident_words, literal_words, subtree_words, leaf_words, token_words, action_word, ActionFits}
use Rattle.app_language.specs.Verb.{verb_word, view_word}
use Rattle.app_language.specs.WordLaws.{own, spaceless_byte, spaceless_kind, spaceless_spacing, spaceless_rawness, spaceless_literal_kind, spaceless_span}
use Rattle.app_language.proofs.Cutting.{words_same}
use Rattle.app_language.proofs.Spans.{Begins, after_file, after_ast, after_start, from_left, past_file, past_ast, past_start, past_end}

-- values that fit are equal if they are spelled alike
abbrev pub IsOneToOne : {A : Type 0} → (A → List ℕ) → (A → Type 0) → Type 0
IsOneToOne {A} spelling Fits = (a b : A) → Fits a → Fits b → spelling a ≡ spelling b → a ≡ b

-- this holds if a function leads back from the spelling
pub by_inverse : {A : Type 0} (spelling : A → List ℕ) (Fits : A → Type 0) (back : List ℕ → A) → ((a : A) → Fits a → back (spelling a) ≡ a) → IsOneToOne spelling Fits
by_inverse spelling Fits back undoes a b p q e = sym (undoes a p) ∙ ap back e ∙ undoes b q

pub one_kind : IsOneToOne kind_word (λ _. Unit {0})
one_kind a b p q e = grind arith

pub one_spacing : IsOneToOne spacing_word (λ _. Unit {0})
one_spacing a b p q e = grind arith

pub one_rawness : IsOneToOne raw_word (λ _. Unit {0})
one_rawness a b p q e = grind arith

pub one_view : IsOneToOne view_word (λ _. Unit {0})
one_view a b p q e = grind arith

pub one_verb : IsOneToOne verb_word (λ _. Unit {0})
one_verb a b p q e = grind arith

-- the first two bytes determine a literal's kind, and the number follows the first five or six
abbrev literal_kind_back : List ℕ → LitKind
literal_kind_back word =
    let front = take 2 word in
    if bytes_eq front (codes "by") then lit.Byte
    else if bytes_eq front (codes "ch") then lit.Char
    else if bytes_eq front (codes "in") then lit.Integer
    else if bytes_eq front (codes "fl") then lit.Float
    else if bytes_eq front (codes "st") then lit.Str
    else if bytes_eq front (codes "rs") then lit.StrRaw (digits_value 10 (drop 5 word))
    else if bytes_eq front (codes "bs") then lit.ByteStr
    else if bytes_eq front (codes "rb") then lit.ByteStrRaw (digits_value 10 (drop 6 word))
    else if bytes_eq front (codes "cs") then lit.CStr
    else if bytes_eq front (codes "rc") then lit.CStrRaw (digits_value 10 (drop 6 word))
    else lit.Err tt

literal_kind_back-word : (kind : LitKind) → KindFits kind → literal_kind_back (literal_kind_word kind) ≡ kind
literal_kind_back-word lit.Byte fits = refl
literal_kind_back-word lit.Char fits = refl
literal_kind_back-word lit.Integer fits = refl
literal_kind_back-word lit.Float fits = refl
literal_kind_back-word lit.Str fits = refl
literal_kind_back-word (lit.StrRaw count) fits = ap lit.StrRaw (digits_value-decimal own count (omega arith))
literal_kind_back-word lit.ByteStr fits = refl
literal_kind_back-word (lit.ByteStrRaw count) fits = ap lit.ByteStrRaw (digits_value-decimal own count (omega arith))
literal_kind_back-word lit.CStr fits = refl
literal_kind_back-word (lit.CStrRaw count) fits = ap lit.CStrRaw (digits_value-decimal own count (omega arith))
literal_kind_back-word (lit.Err unit) fits = refl

pub one_literal_kind : IsOneToOne literal_kind_word KindFits
one_literal_kind = by_inverse literal_kind_word KindFits literal_kind_back literal_kind_back-word

pub one_long_number : IsOneToOne decimal (λ n. n < 2 ^ 64)
one_long_number m n p q e = decimal_injective m n (omega arith) (omega arith) e

pub one_number : IsOneToOne decimal (λ n. n < 2 ^ 32)
one_number m n p q e = decimal_injective m n (omega arith) (omega arith) e

pub one_byte : IsOneToOne decimal (λ n. n ≤ 255)
one_byte m n p q e = decimal_injective m n (omega arith) (omega arith) e

pub one_slot : IsOneToOne decimal (λ n. n < 16)
one_slot m n p q e = decimal_injective m n (omega arith) (omega arith) e

-- the first byte determines an action, and the number follows the first four
abbrev action_back : List ℕ → Action
action_back word =
    let front = take 1 word in
    if bytes_eq front (codes "k") then action.Keep
    else if bytes_eq front (codes "r") then action.Remove
    else action.Put (digits_value 10 (drop 4 word))

action_back-word : (a : Action) → ActionFits a → action_back (action_word a) ≡ a
action_back-word action.Keep fits = refl
action_back-word action.Remove fits = refl
action_back-word (action.Put slot) fits = ap action.Put (digits_value-decimal own slot (omega arith))

pub one_action : IsOneToOne action_word ActionFits
one_action = by_inverse action_word ActionFits action_back action_back-word

pub one_character : IsOneToOne encode_utf8 IsScalar
one_character c d p q e = (encode_same c d [] [] (append-nil _ ∙ e ∙ sym (append-nil _))).0

pub one_span : IsOneToOne span_text SpanFits
one_span a b p q e =
    let same : span_text a ≡ span_text b ++ [] = e ∙ sym (append-nil (span_text b)) in
    let file : Begins 58 (span_text a) a.anchor.file_id.0 (after_file a []) = (sym (append-nil (span_text a)) ∙ from_left a [], p.file) in
    let ast : Begins 64 (after_file a []) a.anchor.ast_id.0 (after_ast a []) = (refl, p.ast) in
    let start : Begins 46 (after_ast a []) (start_of a.range) (after_start a []) = (refl, p.start) in
    let end : Begins 35 (drop 1 (after_start a [])) (end_of a.range) (decimal a.ctx.0 ++ []) = (refl, p.end) in
    let starts = (past_start b [] q same file ast start).0 in
    let (ends, behind) = past_end b [] q same file ast start refl end in
    let ctx : decimal a.ctx.0 ≡ decimal b.ctx.0 = sym (append-nil (decimal a.ctx.0)) ∙ behind ∙ append-nil (decimal b.ctx.0) in
    λ i. record {
      range = same_range a.range b.range starts ends i;
      anchor = record { file_id = record { 0 = (past_file b [] q same file).0 i }; ast_id = record { 0 = (past_ast b [] q same file ast).0 i } };
      ctx = record { 0 = one_number a.ctx.0 b.ctx.0 p.ctx q.ctx ctx i };
    }

pub one_placed : IsOneToOne placed_words PlacedFits
one_placed (a, x) (b, y) p q e =
    let u = words_same _ _ _ _ _ (spaceless_span a p.0) (spaceless_span b q.0) refl e in
    λ i. (one_span a b p.0 q.0 u.0 i, u.1 i)

pub one_literal : IsOneToOne literal_words (λ literal. LeafFits (leaf.Literal literal))
one_literal a b p q e =
    let u = words_same _ _ _ _ _ (spaceless_literal_kind (kind_of a) p.1) (spaceless_literal_kind (kind_of b) q.1) refl e in
    let v = words_same _ _ _ _ _ (spaceless_byte (suffix_len_of a) p.2) (spaceless_byte (suffix_len_of b) q.2) refl u.1 in
    let w = one_placed (span_of a, symbol_of a) (span_of b, symbol_of b) (p.0, p.3) (q.0, q.3) v.1 in
    same_literal a b (record {
      symbol = ap (λ (placed : Span × List ℕ). placed.1) w;
      span = ap (λ (placed : Span × List ℕ). placed.0) w;
      kind = one_literal_kind (kind_of a) (kind_of b) p.1 q.1 u.0;
      suffix_len = one_byte (suffix_len_of a) (suffix_len_of b) p.2 q.2 v.0;
    })

pub one_ident : IsOneToOne ident_words (λ ident. LeafFits (leaf.Ident ident))
one_ident a b p q e =
    let u = words_same _ _ _ _ _ (spaceless_rawness a.is_raw) (spaceless_rawness b.is_raw) refl e in
    let w = one_placed (a.span, a.sym) (b.span, b.sym) p q u.1 in
    λ i. record { sym = (w i).1; span = (w i).0; is_raw = one_rawness a.is_raw b.is_raw tt tt u.0 i }

pub one_punct : IsOneToOne punct_words (λ punct. LeafFits (leaf.Punct punct))
one_punct a b p q e =
    let u = words_same _ _ _ _ _ (spaceless_spacing a.spacing) (spaceless_spacing b.spacing) refl e in
    let v = words_same _ _ _ _ _ (spaceless_span a.span p.0) (spaceless_span b.span q.0) refl u.1 in
    λ i. record { char = one_character a.char b.char p.1 q.1 v.1 i; spacing = one_spacing a.spacing b.spacing tt tt u.0 i; span = one_span a.span b.span p.0 q.0 v.0 i }

pub one_subtree : IsOneToOne subtree_words (λ subtree. TokenFits (token.Subtree subtree))
one_subtree a b p q e =
    let u = words_same _ _ _ _ _ (spaceless_kind a.delimiter.kind) (spaceless_kind b.delimiter.kind) refl e in
    let v = words_same _ _ _ _ _ (spaceless_span a.delimiter.open_span p.0) (spaceless_span b.delimiter.open_span q.0) refl u.1 in
    let w = words_same _ _ _ _ _ (spaceless_span a.delimiter.close p.1) (spaceless_span b.delimiter.close q.1) refl v.1 in
    λ i. record {
      delimiter = record {
        open_span = one_span a.delimiter.open_span b.delimiter.open_span p.0 q.0 v.0 i;
        close = one_span a.delimiter.close b.delimiter.close p.1 q.1 w.0 i;
        kind = one_kind a.delimiter.kind b.delimiter.kind tt tt u.0 i;
      };
      len = one_number a.len b.len p.2 q.2 w.1 i;
    }

-- the first byte determines the kind of a leaf
pub one_leaf : IsOneToOne leaf_words LeafFits
one_leaf (leaf.Punct a) (leaf.Punct b) p q e = ap leaf.Punct (one_punct a b p q (ap (drop 6) e))
one_leaf (leaf.Ident a) (leaf.Ident b) p q e = ap leaf.Ident (one_ident a b p q (ap (drop 6) e))
one_leaf (leaf.Literal a) (leaf.Literal b) p q e = ap leaf.Literal (one_literal a b p q (ap (drop 4) e))
one_leaf a b p q e =
    let first : get_or (leaf_words a) 0 0 ≡ get_or (leaf_words b) 0 0 = ap (λ text. get_or text 0 0) e in
    absurd (omega arith)

-- and that it is no head
first_of_leaf : (a : Leaf) → get_or (leaf_words a) 0 0 < 115
first_of_leaf (leaf.Punct a) = lit< tt
first_of_leaf (leaf.Ident a) = lit< tt
first_of_leaf (leaf.Literal a) = lit< tt

no_head : (a : Leaf) (rest : List ℕ) → leaf_words a ≡ words (codes "sub") rest → ⊥
no_head a rest e =
    let first : get_or (leaf_words a) 0 0 ≡ 115 = ap (λ text. get_or text 0 0) e in
    omega (arith, first_of_leaf a)

pub one_token : IsOneToOne token_words TokenFits
one_token (token.Leaf a) (token.Leaf b) p q e = ap token.Leaf (one_leaf a b p q e)
one_token (token.Leaf a) (token.Subtree b) p q e = absurd (no_head a _ e)
one_token (token.Subtree a) (token.Leaf b) p q e = absurd (no_head b _ (sym e))
one_token (token.Subtree a) (token.Subtree b) p q e = ap token.Subtree (one_subtree a b p q (ap (drop 4) e))

pub one_digits : IsOneToOne encode_lower IsBytes
one_digits a b p q e = decode_of-same (encode_lower b) a b (sym (ap decode_of e) ∙ decode_of-encode_lower a p) (decode_of-encode_lower b q)

pub one_text : IsOneToOne (λ (text : List ℕ). text) IsUtf8
one_text a b p q e = e
