-- A text without the bytes that each attribute has that a comment replaces stays as it is.
use Rattle.std.proofs.Common.{◌≡◌, ◌≢◌, ℕ, zero, suc, ◌≤◌, Bool, true, List, [], ◌∷◌, ◌++◌, length, take, drop, codes, Option, None, Some, refl, sym, ap, ◌∙◌, subst, arith, append_assoc, length-append, length-drop}
use Rattle.std.proofs.lemmas.List.{get_or-append-add, get_or_append_left, take-append-drop}
use Rattle.std.proofs.lemmas.Str.{IsUtf8-drop}
use Rattle.std.specs.Option.{is_none}
use Rattle.std.specs.Prelude.{◌+◌, slice_index}
use Rattle.std.specs.Str.{IsUtf8, chars}
use Rattle.memchr.specs.Find.{FindsNeedle, OccursAt}
use Rattle.syntax_layout.specs.Documented.{IsDocumented, IsReplaced, attribute_opening, is_white, nothing, raw_string, stays}
use Rattle.syntax_lex.proofs.FrontFacts.{empty_from_chars}
use Rattle.syntax_lex.specs.Reading.{first_token_of}
use Rattle.syntax_lex.specs.declared.token.DocStyle.{DocStyle}
use Rattle.syntax_lex.specs.declared.token.DocStyle.TheVariants.{Outer, Inner}
use Rattle.syntax_parse.proofs.TextFacts.{cut}

-- the bytes
abbrev pub needle : List ℕ
needle = codes "[doc = r"

-- a text has them
record HasNeedle (text : List ℕ) : Type 0 where
  front : List ℕ
  behind : List ℕ
  is : text ≡ front ++ (needle ++ behind)

-- a search finds them then
occurs : (text : List ℕ) (it : HasNeedle text) → OccursAt text needle (length it.front)
occurs text it = record {
  fits = omega (arith, ap length it.is, length-append it.front (needle ++ it.behind), length-append needle it.behind);
  reads = λ j low.
      ap (λ t. slice_index t (length it.front + j)) it.is
      ∙ get_or-append-add it.front (needle ++ it.behind) j 0
      ∙ get_or_append_left needle it.behind 0 j low;
}

-- what is left of a text has them only if the text does
from_rest : (n : ℕ) (text : List ℕ) → HasNeedle (drop n text) → HasNeedle text
from_rest n text it = record {
  front = take n text ++ it.front;
  behind = it.behind;
  is = sym (take-append-drop n text) ∙ ap (λ t. take n text ++ t) it.is ∙ sym (append_assoc (take n text) it.front (needle ++ it.behind));
}

-- an attribute that a comment replaces has them
in_attribute : (style : DocStyle) (doc ending rest text : List ℕ) → IsReplaced style doc ending rest text → HasNeedle text
in_attribute Outer doc ending rest text it = record {
  front = codes "#";
  behind = drop 1 (raw_string doc) ++ 93 ∷ it.behind;
  is = it.opens ∙ ap (λ t. attribute_opening Outer ++ t) it.closed.is;
}
in_attribute Inner doc ending rest text it = record {
  front = codes "# !";
  behind = drop 1 (raw_string doc) ++ 93 ∷ it.behind;
  is = it.opens ∙ ap (λ t. attribute_opening Inner ++ t) it.closed.is;
}

-- so each token of a text without them stays
each_stays : (n : ℕ) (begins : Bool) (text : List ℕ) → length text ≤ n → IsUtf8 text → (HasNeedle text → ⊥) → IsDocumented begins text text
each_stays n begins [] short utf8 none = nothing
each_stays zero begins (b ∷ bs) short utf8 none = absurd (omega arith)
each_stays (suc n) begins (b ∷ bs) short utf8 none =
    let text : List ℕ = b ∷ bs in
    let token = first_token_of (chars text) in
    let it = cut text utf8 (omega arith) in
    let some : chars text ≢ [] = λ e. absurd (omega (arith, empty_from_chars text utf8 e)) in
    let less : length (drop token.len text) ≤ n = omega (arith, short, it.some, length-drop token.len text) in
    let left = each_stays n (is_white token.kind) (drop token.len text) less (IsUtf8-drop text token.len utf8 it.boundary) (λ has. none (from_rest token.len text has)) in
    subst (IsDocumented begins text) (take-append-drop token.len text)
    (stays {token = token} some refl (λ style doc ending rest first replaced. none (in_attribute style doc ending rest text replaced)) left)

pub not_found : (text : List ℕ) (found : Option ℕ) → IsUtf8 text → FindsNeedle text needle 0 found → is_none found ≡ true → IsDocumented true text text
not_found text None utf8 nowhere none =
    each_stays (length text) true text (omega arith) utf8 (λ it. let at = occurs text it in nowhere (length it.front) (omega arith) (omega (arith, at.fits)) at)
not_found text (Some at) utf8 found none = absurd (cc)
