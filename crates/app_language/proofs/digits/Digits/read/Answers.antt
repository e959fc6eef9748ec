use Rattle.std.proofs.Common.{rules, ◌≡◌, ◌⊎◌, inl, inr, ℕ, List, Option, Result, Ok, Err, None, IfOk, refl, sym, ap, ◌∙◌}
use Rattle.hex.proofs.HexLemmas.{decode_of-encode_lower, decode_of-same}
use Rattle.hex.specs.Hex.{IsBytes, decode_of, encode_lower}
use Rattle.hex.specs.declared.error.FromHexError.{FromHexError}
use Rattle.hex.specs.declared.error.FromHexError.TheVariants.{InvalidHexCharacter, OddLength, InvalidStringLength, OutOfMemory}
use Rattle.tt_base.specs.declared.fault.TtFault.{TtFault}
use Rattle.tt_base.specs.declared.fault.TtFault.TheVariants.{Memory}
use Rattle.app_language.specs.Reading.{Reads}
use Rattle.app_language.proofs.digits.Digits.read.Goals as goal

pub returns-then-ne-clause-reads : goal.returns-then-ne-clause-reads
returns-then-ne-clause-reads c value fits e =
    let same : c.in-Ok.bytes.items ≡ value = decode_of-same c.args.text.now _ _ c.in-Ok.ensures.ok (ap decode_of e ∙ decode_of-encode_lower value fits) in
    let again : c.as_bytes.result.now ≡ c.args.text.now = search (rules, sym (e ∙ ap encode_lower (sym same))) in
    search (rules, again)

-- A text that was not decoded spells no bytes, unless memory ran out.
none_read : (text : List ℕ) (error : FromHexError) (result : Result (Option (List ℕ)) TtFault) → (error ≡ OutOfMemory → result ≡ Err Memory)
    → ((error ≡ OutOfMemory → ⊥) → result ≡ Ok None) → (error ≡ OutOfMemory) ⊎ (decode_of text ≡ Err error) → IfOk result (Reads encode_lower IsBytes text)
none_read text OutOfMemory result memory other why = rw (memory refl) tt
none_read text (InvalidHexCharacter char index) result memory other why = rw (other (λ e. cc e)) (λ value fits e. elim why [ inl memory ↦ cc memory | inr wrong ↦ cc (sym wrong ∙ ap decode_of e ∙ decode_of-encode_lower value fits) ])
none_read text OddLength result memory other why = rw (other (λ e. cc e)) (λ value fits e. elim why [ inl memory ↦ cc memory | inr wrong ↦ cc (sym wrong ∙ ap decode_of e ∙ decode_of-encode_lower value fits) ])
none_read text InvalidStringLength result memory other why = rw (other (λ e. cc e)) (λ value fits e. elim why [ inl memory ↦ cc memory | inr wrong ↦ cc (sym wrong ∙ ap decode_of e ∙ decode_of-encode_lower value fits) ])

pub returns-in-Err-clause-reads : goal.returns-in-Err-clause-reads
returns-in-Err-clause-reads c = none_read c.args.text.now c.in-Err.error c.no_digits.result c.no_digits.ensures.memory c.no_digits.ensures.other c.in-Err.ensures.err

pub returns-clause-reads : goal.returns-clause-reads
returns-clause-reads c =
    let again : c.as_bytes.result.now ≡ c.args.text.now = search rules in
    let bytes : IsBytes c.in-Ok.bytes.items = search (rules, c.are_bytes.ensures) in
    (search (rules, again), bytes)
