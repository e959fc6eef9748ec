-- Nothing is wrong inside of a literal in quotes exactly if it may hold the text between them.
use Rattle.std.proofs.Common.{◌≡◌, ℕ, suc, ◌-◌, min, Bool, true, false, ◌&&◌, ◌||◌, not, ◌==◌, cond, nat_le, List, [], ◌∷◌, ◌++◌, length, take, drop, Option, None, Some, codes, refl, sym, ap, ap₂, ◌∙◌, ⊎_elim, inl, inr, arith, append_assoc}
use Rattle.std.proofs.lemmas.Bool.{and_left, and_right, cases_eq, false≢true, leb-false, lt-leb, ne_eqb, not_from_true, or_from, or_parts}
use Rattle.std.proofs.lemmas.List.{length-append}
use Rattle.std.proofs.lemmas.Str.Ascii.{IsAscii-cons, IsAscii-nil}
use Rattle.std.proofs.Math.Seq.{drop-append_seam, take-append_seam}
use Rattle.std.specs.Prelude.{◌⊎◌, IsAscii, IsTrue, IsUtf8}
use Rattle.syntax_lex.specs.declared.token.LiteralKind.{LiteralKind}
use Rattle.syntax_lex.specs.declared.token.LiteralKind.TheVariants as literals
use Rattle.syntax_parse.specs.Escapes.{between_quotes, escape_fault, fault_behind, without_last}
use Rattle.syntax_parse.specs.Inside.{bare_return, begins_with_feed, beyond_ascii, bytes_fault, fault_if, first_of, inside_fault, quoted_fault, return_fault}
use Rattle.syntax_parse.specs.LiteralText.{IsLiteralText, ReturnsEndLines, closing, is_of_bytes, is_quoted, opening}
use Rattle.syntax_parse.specs.declared.escapes.Reached.TheVariants.{Plain}
use Rattle.syntax_parse.specs.declared.fault.BadToken.{BadToken}
use Rattle.syntax_parse.specs.declared.fault.BadToken.TheVariants as bad
use Rattle.syntax_parse.proofs.ListedText.{one_same, units_listed, units_known}
use Rattle.syntax_parse.proofs.TextUnits.{table_text}

-- each carriage return comes before a line feed if none is bare
returned : (before behind : List ℕ) → bare_return (before ++ (13 ∷ behind)) ≡ false → (rest : List ℕ) × (behind ≡ 10 ∷ rest)
returned [] [] none = cc
returned [] (c ∷ cs) none =
    ⊎_elim
    (λ feed. (cs, ap (λ x. x ∷ cs) feed))
    (λ other. absurd (false≢true (sym none ∙ ap (λ t. not t || bare_return (c ∷ cs)) (ne_eqb c 10 other))))
    (cases_eq c 10)
returned (b ∷ before) behind none = returned before behind (or_parts ((b == 13) && not (begins_with_feed (before ++ (13 ∷ behind)))) (bare_return (before ++ (13 ∷ behind))) none).1

ends_known : (text : List ℕ) → bare_return text ≡ false → ReturnsEndLines text
ends_known text none before behind is = returned before behind (sym (ap bare_return is) ∙ none)

ends_listed : (text : List ℕ) → ReturnsEndLines text → bare_return text ≡ false
ends_listed [] ends = refl
ends_listed (c ∷ cs) ends =
    let others = ends_listed cs (λ before behind is. ends (c ∷ before) behind (ap (λ t. c ∷ t) is)) in
    let here : ((c == 13) && not (begins_with_feed cs)) ≡ false = ⊎_elim
    (λ return.
    let feed = ends [] cs (ap (λ x. x ∷ cs) return) in
    and_right (c == 13) (not (begins_with_feed cs)) (not_from_true (begins_with_feed cs) (ap begins_with_feed feed.1)))
    (λ other. and_left (c == 13) (not (begins_with_feed cs)) (ne_eqb c 13 other))
    (cases_eq c 13) in
    or_from ((c == 13) && not (begins_with_feed cs)) (bare_return cs) here others

-- a quote after a text changes nothing about its carriage returns
end_return : (body : List ℕ) (quote : ℕ) → (quote == 13) ≡ false → (quote == 10) ≡ false → bare_return (body ++ quote ∷ []) ≡ bare_return body
end_return [] quote no_return no_feed = ap (λ t. (t && true) || false) no_return
end_return (b ∷ []) quote no_return no_feed = ap₂ (λ r f. ((b == 13) && not f) || ((r && true) || false)) no_return no_feed
end_return (b ∷ c ∷ cs) quote no_return no_feed = ap (λ t. ((b == 13) && not (c == 10)) || t) (end_return (c ∷ cs) quote no_return no_feed)

-- a quote after a text changes nothing about whether it has only ASCII
end_ascii : (body : List ℕ) (quote : ℕ) → nat_le 128 quote ≡ false → beyond_ascii (body ++ quote ∷ []) ≡ beyond_ascii body
end_ascii [] quote low = ap (λ t. t || false) low
end_ascii (b ∷ body) quote low = ap (λ t. nat_le 128 b || t) (end_ascii body quote low)

ascii_known : (text : List ℕ) → beyond_ascii text ≡ false → IsAscii text
ascii_known [] none = IsAscii-nil
ascii_known (b ∷ text) none =
    let parts = or_parts (nat_le 128 b) (beyond_ascii text) none in
    IsAscii-cons b text (leb-false 128 b parts.0) (ascii_known text parts.1)

ascii_listed : (text : List ℕ) → IsAscii text → beyond_ascii text ≡ false
ascii_listed [] each = refl
ascii_listed (b ∷ text) each = or_from (nat_le 128 b) (beyond_ascii text) (lt-leb 128 b (each 0)) (ascii_listed text (λ i. each (suc i)))

-- between the quotes is what was put there
between : (front body : List ℕ) (quote : ℕ) → between_quotes (length front) (front ++ (body ++ quote ∷ [])) ≡ body
between front body quote =
    let whole : front ++ (body ++ quote ∷ []) ≡ (front ++ body) ++ quote ∷ [] = sym (append_assoc front body (quote ∷ [])) in
    let few : length ((front ++ body) ++ quote ∷ []) - 1 ≡ length (front ++ body) = omega (arith, length-append (front ++ body) (quote ∷ [])) in
    let cut : without_last ((front ++ body) ++ quote ∷ []) ≡ front ++ body =
    ap (λ n. take n ((front ++ body) ++ quote ∷ [])) few ∙ take-append_seam (front ++ body) (quote ∷ []) in
    let shorter : min (length front) (length (front ++ body)) ≡ length front = omega (arith, length-append front body) in
    ap (between_quotes (length front)) whole
    ∙ ap (λ t. drop (min (length front) (length t)) t) cut
    ∙ ap (λ n. drop n (front ++ body)) shorter
    ∙ drop-append_seam front body

-- faults
none_first : (a b : Option BadToken) → first_of a b ≡ None → (a ≡ None) × (b ≡ None)
none_first None b none = (refl, none)
none_first (Some why) b none = cc

first_none : (a b : Option BadToken) → a ≡ None → b ≡ None → first_of a b ≡ None
first_none a b first second = ap (λ x. first_of x b) first ∙ second

right : (wrong : Bool) (why : BadToken) → fault_if wrong why ≡ None → wrong ≡ false
right true why none = cc
right false why none = refl

fine_bytes : (wide bare : Bool) → cond wide (Some bad.BeyondAscii) (fault_if bare bad.BareReturn) ≡ None → (wide ≡ false) × (bare ≡ false)
fine_bytes true bare none = cc
fine_bytes false bare none = (refl, right bare bad.BareReturn none)

-- nothing is wrong with the text between the quotes
record IsFine (kind : LiteralKind) (body : List ℕ) : Type 0 where
  ascii : (is_of_bytes kind ≡ false) ⊎ (beyond_ascii body ≡ false)
  no_return : bare_return body ≡ false
  units : fault_behind kind Plain 0 body ≡ None

quoted_fine : (kind : LiteralKind) (front body : List ℕ) (quote : ℕ) → bare_return (front ++ (body ++ quote ∷ [])) ≡ bare_return body → is_of_bytes kind ≡ false
    → quoted_fault kind (length front) (front ++ (body ++ quote ∷ [])) ≡ None → IsFine kind body
quoted_fine kind front body quote same no_bytes none =
    let text = front ++ (body ++ quote ∷ []) in
    let parts = none_first (return_fault text) (escape_fault kind (length front) text) none in
    record {
      ascii = inl no_bytes;
      no_return = sym same ∙ right (bare_return text) bad.BareReturn parts.0;
      units = sym (ap (fault_behind kind Plain 0) (between front body quote)) ∙ parts.1;
    }

fine_quoted : (kind : LiteralKind) (front body : List ℕ) (quote : ℕ) → bare_return (front ++ (body ++ quote ∷ [])) ≡ bare_return body → IsFine kind body
    → quoted_fault kind (length front) (front ++ (body ++ quote ∷ [])) ≡ None
fine_quoted kind front body quote same it =
    let text = front ++ (body ++ quote ∷ []) in
    first_none (return_fault text) (escape_fault kind (length front) text) (ap (λ t. fault_if t bad.BareReturn) (same ∙ it.no_return)) (ap (fault_behind kind Plain 0) (between front body quote) ∙ it.units)

bytes_fine : (kind : LiteralKind) (front body : List ℕ) (quote : ℕ) → bare_return (front ++ (body ++ quote ∷ [])) ≡ bare_return body
    → beyond_ascii (front ++ (body ++ quote ∷ [])) ≡ beyond_ascii body
    → first_of (bytes_fault (front ++ (body ++ quote ∷ []))) (escape_fault kind (length front) (front ++ (body ++ quote ∷ []))) ≡ None → IsFine kind body
bytes_fine kind front body quote same same_ascii none =
    let text = front ++ (body ++ quote ∷ []) in
    let parts = none_first (bytes_fault text) (escape_fault kind (length front) text) none in
    let fine = fine_bytes (beyond_ascii text) (bare_return text) parts.0 in
    record {
      ascii = inr (sym same_ascii ∙ fine.0);
      no_return = sym same ∙ fine.1;
      units = sym (ap (fault_behind kind Plain 0) (between front body quote)) ∙ parts.1;
    }

fine_of_bytes : (kind : LiteralKind) (front body : List ℕ) (quote : ℕ) → bare_return (front ++ (body ++ quote ∷ [])) ≡ bare_return body
    → beyond_ascii (front ++ (body ++ quote ∷ [])) ≡ beyond_ascii body → is_of_bytes kind ≡ true → IsFine kind body
    → first_of (bytes_fault (front ++ (body ++ quote ∷ []))) (escape_fault kind (length front) (front ++ (body ++ quote ∷ []))) ≡ None
fine_of_bytes kind front body quote same same_ascii bytes it =
    let text = front ++ (body ++ quote ∷ []) in
    let narrow : beyond_ascii body ≡ false = ⊎_elim (λ other. absurd (false≢true (sym other ∙ bytes))) (λ fine. fine) it.ascii in
    first_none (bytes_fault text) (escape_fault kind (length front) text)
    (ap (λ t. cond t (Some bad.BeyondAscii) (return_fault text)) (same_ascii ∙ narrow) ∙ ap (λ t. fault_if t bad.BareReturn) (same ∙ it.no_return))
    (ap (fault_behind kind Plain 0) (between front body quote) ∙ it.units)

parts_of : (kind : LiteralKind) (body : List ℕ) → IsTrue (is_quoted kind) → inside_fault kind (opening kind ++ (body ++ closing kind)) ≡ None → IsFine kind body
parts_of (literals.Char terminated) body quoted none = quoted_fine (literals.Char terminated) (codes "'") body 39 (end_return body 39 refl refl) refl none
parts_of (literals.Str terminated) body quoted none = quoted_fine (literals.Str terminated) (codes "\"") body 34 (end_return body 34 refl refl) refl none
parts_of (literals.CStr terminated) body quoted none = quoted_fine (literals.CStr terminated) (codes "c\"") body 34 (end_return body 34 refl refl) refl none
parts_of (literals.Byte terminated) body quoted none = bytes_fine (literals.Byte terminated) (codes "b'") body 39 (end_return body 39 refl refl) (end_ascii body 39 refl) none
parts_of (literals.ByteStr terminated) body quoted none = bytes_fine (literals.ByteStr terminated) (codes "b\"") body 34 (end_return body 34 refl refl) (end_ascii body 34 refl) none
parts_of _ body quoted none = absurd (false≢true quoted)

none_of : (kind : LiteralKind) (body : List ℕ) → IsTrue (is_quoted kind) → IsFine kind body → inside_fault kind (opening kind ++ (body ++ closing kind)) ≡ None
none_of (literals.Char terminated) body quoted it = fine_quoted (literals.Char terminated) (codes "'") body 39 (end_return body 39 refl refl) it
none_of (literals.Str terminated) body quoted it = fine_quoted (literals.Str terminated) (codes "\"") body 34 (end_return body 34 refl refl) it
none_of (literals.CStr terminated) body quoted it = fine_quoted (literals.CStr terminated) (codes "c\"") body 34 (end_return body 34 refl refl) it
none_of (literals.Byte terminated) body quoted it = fine_of_bytes (literals.Byte terminated) (codes "b'") body 39 (end_return body 39 refl refl) (end_ascii body 39 refl) refl it
none_of (literals.ByteStr terminated) body quoted it = fine_of_bytes (literals.ByteStr terminated) (codes "b\"") body 34 (end_return body 34 refl refl) (end_ascii body 34 refl) refl it
none_of _ body quoted it = absurd (false≢true quoted)

pub literal_text : (kind : LiteralKind) (body : List ℕ) → IsTrue (is_quoted kind) → IsUtf8 body
    → (inside_fault kind (opening kind ++ (body ++ closing kind)) ≡ None → IsLiteralText kind body) × (IsLiteralText kind body → inside_fault kind (opening kind ++ (body ++ closing kind)) ≡ None)
literal_text kind body quoted utf8 =
    let both = table_text kind body utf8 in (
      (λ none.
          let fine = parts_of kind body quoted none in
          let it = both.0 fine.units in
          record {
            count = it.count;
            units = units_listed kind it.count _ it.units;
            one = ⊎_elim (λ many. inl (sym (one_same kind) ∙ many)) (λ one. inr one) it.one;
            ascii = ⊎_elim (λ no_bytes. inl no_bytes) (λ narrow. inr (ascii_known body narrow)) fine.ascii;
            returns = ends_known body fine.no_return;
          }),
      (λ it.
          none_of kind body quoted (record {
            ascii = ⊎_elim (λ no_bytes. inl no_bytes) (λ ascii. inr (ascii_listed body ascii)) it.ascii;
            no_return = ends_listed body it.returns;
            units = both.1 (record { count = it.count; units = units_known kind it.count _ it.units; one = ⊎_elim (λ many. inl (one_same kind ∙ many)) (λ one. inr one) it.one });
          })),
    )
