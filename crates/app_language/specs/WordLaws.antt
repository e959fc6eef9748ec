-- No word contains the byte that ends it.
use Rattle.std.specs.Prelude.{◌≡◌, ◌≢◌, ◌⊎◌, ℕ, ◌<◌, ◌≤◌, ◌^◌, List, ◌++◌, codes, decimal}
use Rattle.std.proofs.Common.{arith, rules, get_or, ◌∙◌, inl, lit<}
use Rattle.std.specs.Str.Parse.{AllDigits, digits_value}
use Rattle.std.proofs.lemmas.Str.Parse.{IsNumeralModel, numerals_by_value, tells_digits, digit_at}
use Rattle.std.proofs.lemmas.List.{get_or_default}
use Rattle.std.proofs.lemmas.List.Elements.{All-append}
use Rattle.std.proofs.lemmas.Fmt.{digits_decimal}
use Rattle.tt_base.specs.declared.delimiter.DelimiterKind.{DelimiterKind}
use Rattle.tt_base.specs.declared.ident.IdentIsRaw.{IdentIsRaw}
use Rattle.tt_base.specs.declared.literal.LitKind.{LitKind}
use Rattle.tt_base.specs.declared.literal.LitKind.TheVariants as lit
use Rattle.tt_base.specs.declared.punct.Spacing.{Spacing}
use Rattle.tt_base.specs.declared.span.Span.{Span}
use Rattle.tt_base.specs.Fits.{SpanFits, KindFits}
use Rattle.tt_base.specs.Span.{span_text}
use Rattle.app_language.specs.declared.command.action.Action.{Action}
use Rattle.app_language.specs.declared.command.action.Action.TheVariants as action
use Rattle.app_language.specs.declared.command.verb.Verb.{Verb}
use Rattle.app_language.specs.declared.command.view.View.{View}
use Rattle.app_language.specs.Reading.{Lacks}
use Rattle.app_language.specs.Token.{kind_word, spacing_word, raw_word, literal_kind_word, action_word, ActionFits}
use Rattle.app_language.specs.Verb.{verb_word, view_word}

pub own : IsNumeralModel (AllDigits 10) (digits_value 10)
own = numerals_by_value (AllDigits 10) tells_digits

-- a number consists of digits only
pub Lacks-decimal : (byte : ℕ) → byte < 48 ⊎ 57 < byte → (n : ℕ) → n < 2 ^ 64 → Lacks byte (decimal n)
Lacks-decimal byte other n small k d here e =
    let digit = digit_at (decimal n) k (digits_decimal own n (omega arith)) here in
    let same : get_or (decimal n) k 0 ≡ byte = get_or_default (decimal n) k 0 d here ∙ e in
    omega arith

pub Lacks-append : (byte : ℕ) (a b : List ℕ) → Lacks byte a → Lacks byte b → Lacks byte (a ++ b)
Lacks-append byte a b p q = All-append (λ x. x ≢ byte) a b p q

pub spaceless_long_number : (n : ℕ) → n < 2 ^ 64 → Lacks 32 (decimal n)
spaceless_long_number n small = Lacks-decimal 32 (inl (lit< tt)) n small

pub spaceless_number : (n : ℕ) → n < 2 ^ 32 → Lacks 32 (decimal n)
spaceless_number n small = spaceless_long_number n (omega (arith, small))

pub spaceless_byte : (n : ℕ) → n ≤ 255 → Lacks 32 (decimal n)
spaceless_byte n small = spaceless_number n (omega arith)

pub spaceless_slot : (n : ℕ) → n < 16 → Lacks 32 (decimal n)
spaceless_slot n small = spaceless_number n (omega arith)

pub spaceless_kind : (kind : DelimiterKind) → Lacks 32 (kind_word kind)
spaceless_kind kind = search rules

pub spaceless_spacing : (spacing : Spacing) → Lacks 32 (spacing_word spacing)
spaceless_spacing spacing = search rules

pub spaceless_rawness : (is_raw : IdentIsRaw) → Lacks 32 (raw_word is_raw)
spaceless_rawness is_raw = search rules

pub spaceless_literal_kind : (kind : LitKind) → KindFits kind → Lacks 32 (literal_kind_word kind)
spaceless_literal_kind lit.Byte fits = search rules
spaceless_literal_kind lit.Char fits = search rules
spaceless_literal_kind lit.Integer fits = search rules
spaceless_literal_kind lit.Float fits = search rules
spaceless_literal_kind lit.Str fits = search rules
spaceless_literal_kind (lit.StrRaw count) fits = Lacks-append 32 (codes "rstr:") _ (search rules) (spaceless_byte count fits)
spaceless_literal_kind lit.ByteStr fits = search rules
spaceless_literal_kind (lit.ByteStrRaw count) fits = Lacks-append 32 (codes "rbstr:") _ (search rules) (spaceless_byte count fits)
spaceless_literal_kind lit.CStr fits = search rules
spaceless_literal_kind (lit.CStrRaw count) fits = Lacks-append 32 (codes "rcstr:") _ (search rules) (spaceless_byte count fits)
spaceless_literal_kind (lit.Err unit) fits = search rules

pub spaceless_action : (action : Action) → ActionFits action → Lacks 32 (action_word action)
spaceless_action action.Keep fits = search rules
spaceless_action action.Remove fits = search rules
spaceless_action (action.Put slot) fits = Lacks-append 32 (codes "put:") _ (search rules) (spaceless_slot slot fits)

pub spaceless_span : (span : Span) → SpanFits span → Lacks 32 (span_text span)
spaceless_span span fits =
    Lacks-append 32 _ _
    (Lacks-append 32 _ _
    (Lacks-append 32 _ _
    (Lacks-append 32 _ _
    (Lacks-append 32 _ _
    (Lacks-append 32 _ _
    (Lacks-append 32 _ _
    (Lacks-append 32 _ _ (spaceless_number _ fits.file) (search rules))
    (spaceless_number _ fits.ast))
    (search rules))
    (spaceless_number _ fits.start))
    (search rules))
    (spaceless_number _ fits.end))
    (search rules))
    (spaceless_number _ fits.ctx)

pub spaceless_view : (view : View) → Lacks 32 (view_word view)
spaceless_view view = search rules

pub spaceless_verb : (verb : Verb) → Lacks 32 (verb_word verb)
spaceless_verb verb = search rules
