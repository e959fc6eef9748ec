-- A literal that is read from its parts.
use Rattle.std.proofs.Common.{◌≡◌, ℕ, ◌≤◌, List, Option, Some, None, MatchOption, refl, sym, subst, arith}
use Rattle.std.specs.Fmt.{decimal}
use Rattle.std.specs.Str.{IsUtf8}
use Rattle.std.proofs.lemmas.Fmt.{decimal_injective}
use Rattle.tt_base.specs.declared.leaf.Leaf.TheVariants as leaf
use Rattle.tt_base.specs.declared.literal.LitKind.{LitKind}
use Rattle.tt_base.specs.declared.literal.Literal.{Literal}
use Rattle.tt_base.specs.declared.span.Span.{Span}
use Rattle.tt_base.specs.Fits.{SpanFits, KindFits, LeafFits}
use Rattle.tt_base.specs.Literal.{CutsText, IsLiteral, span_of, kind_of, suffix_len_of}
use Rattle.app_language.specs.Reading.{Reads, words}
use Rattle.app_language.specs.Token.{literal_kind_word, literal_words, placed_words, PlacedFits}
use Rattle.app_language.specs.WordLaws.{spaceless_byte, spaceless_literal_kind, spaceless_span}
use Rattle.app_language.proofs.Cutting.{words_same}

pub literal_read : (text : List ℕ) (kind : LitKind) (n : ℕ) (span : Span) (symbol : List ℕ) (r : Option Literal)
    → text ≡ words (literal_kind_word kind) (words (decimal n) (placed_words (span, symbol))) → KindFits kind → n ≤ 255 → PlacedFits (span, symbol)
    → MatchOption r (CutsText symbol n → ⊥) (λ literal. IsLiteral literal symbol span kind n) → Reads literal_words (λ literal. LeafFits (leaf.Literal literal)) text r
literal_read text kind n span symbol None e k small p uncut =
    λ literal fits d.
    let a = words_same text _ _ _ _ (spaceless_literal_kind kind k) (spaceless_literal_kind (kind_of literal) fits.1) e d in
    let b = words_same _ _ _ _ _ (spaceless_byte n small) (spaceless_byte (suffix_len_of literal) fits.2) refl a.1 in
    let s = words_same _ _ _ _ _ (spaceless_span span p.0) (spaceless_span (span_of literal) fits.0) refl b.1 in
    let suffix : n ≡ suffix_len_of literal = decimal_injective n (suffix_len_of literal) (omega arith) (omega (arith, fits.2)) b.0 in
    uncut (rw (s.1, suffix) (literal.fits, literal.cuts))
literal_read text kind n span symbol (Some literal) e k small p is =
    (cc, (subst SpanFits (sym is.span) p.0, subst KindFits (sym is.kind) k, omega (arith, is.suffix_len), subst IsUtf8 (sym is.symbol) p.1))
