-- How a text that begins with a span is split.
use Rattle.std.proofs.Common.{◌≡◌, ◌⊎◌, ℕ, ◌^◌, ◌<◌, List, ◌∷◌, ◌++◌, append_assoc, inl, inr, refl, sym, ◌∙◌, lit<, arith}
use Rattle.std.specs.Fmt.{decimal}
use Rattle.std.proofs.lemmas.Fmt.{decimal_injective}
use Rattle.tt_base.specs.declared.span.Span.{Span}
use Rattle.tt_base.specs.Fits.{SpanFits}
use Rattle.tt_base.specs.Span.{start_of, end_of, span_text}
use Rattle.app_language.specs.Reading.{BeginsWithNoDigit}
use Rattle.app_language.specs.WordLaws.{Lacks-decimal}
use Rattle.app_language.proofs.Cutting.{cut_unique}
use Rattle.app_language.proofs.Fronts.{number_unique}

-- the text begins with a number, a byte and the rest
abbrev pub Begins : ℕ → List ℕ → ℕ → List ℕ → Type 0
Begins byte text n rest = (text ≡ decimal n ++ byte ∷ rest) × (n < 2 ^ 32)

-- the number and the rest are determined
pub Begins-unique : (byte : ℕ) (text : List ℕ) (m : ℕ) (x : List ℕ) (n : ℕ) (y : List ℕ) → byte < 48 ⊎ 57 < byte → Begins byte text m x → Begins byte text n y → (m ≡ n) × (x ≡ y)
Begins-unique byte text m x n y other (d, p) (e, q) =
    let u = cut_unique byte (decimal m) x (decimal n) y (Lacks-decimal byte other m (omega (arith, p))) (Lacks-decimal byte other n (omega (arith, q))) (sym d ∙ e) in
    (decimal_injective m n (omega arith) (omega arith) u.0, u.1)

-- what follows a span's start, with a tail after the span
abbrev pub after_start : Span → List ℕ → List ℕ
after_start span tail = 46 ∷ (decimal (end_of span.range) ++ 35 ∷ (decimal span.ctx.0 ++ tail))

-- what follows the span's ast
abbrev pub after_ast : Span → List ℕ → List ℕ
after_ast span tail = decimal (start_of span.range) ++ 46 ∷ after_start span tail

-- what follows the span's file
abbrev pub after_file : Span → List ℕ → List ℕ
after_file span tail = decimal span.anchor.ast_id.0 ++ 64 ∷ after_ast span tail

-- a span and its tail, from the first number on
pub from_left : (span : Span) (tail : List ℕ) → span_text span ++ tail ≡ decimal span.anchor.file_id.0 ++ 58 ∷ after_file span tail
from_left span tail = simp append_assoc

-- what is read of that text is the span's, number by number
pub past_file : {text : List ℕ} {file : ℕ} {a : List ℕ} (span : Span) (tail : List ℕ) → SpanFits span → text ≡ span_text span ++ tail
    → Begins 58 text file a → (file ≡ span.anchor.file_id.0) × (a ≡ after_file span tail)
past_file span tail fits e f = Begins-unique 58 _ _ _ _ _ (inr (lit< tt)) f (e ∙ from_left span tail, fits.file)

pub past_ast : {text : List ℕ} {file : ℕ} {a : List ℕ} {ast : ℕ} {b : List ℕ} (span : Span) (tail : List ℕ) → SpanFits span → text ≡ span_text span ++ tail
    → Begins 58 text file a → Begins 64 a ast b → (ast ≡ span.anchor.ast_id.0) × (b ≡ after_ast span tail)
past_ast span tail fits e f g = Begins-unique 64 _ _ _ _ _ (inr (lit< tt)) g ((past_file span tail fits e f).1, fits.ast)

pub past_start : {text : List ℕ} {file : ℕ} {a : List ℕ} {ast : ℕ} {b : List ℕ} {start : ℕ} {d : List ℕ} (span : Span) (tail : List ℕ) → SpanFits span → text ≡ span_text span ++ tail
    → Begins 58 text file a → Begins 64 a ast b → Begins 46 b start d → (start ≡ start_of span.range) × (d ≡ after_start span tail)
past_start span tail fits e f g h = Begins-unique 46 _ _ _ _ _ (inl (lit< tt)) h ((past_ast span tail fits e f g).1, fits.start)

pub past_dots : {text : List ℕ} {file : ℕ} {a : List ℕ} {ast : ℕ} {b : List ℕ} {start : ℕ} {d rest : List ℕ} (span : Span) (tail : List ℕ) → SpanFits span → text ≡ span_text span ++ tail
    → Begins 58 text file a → Begins 64 a ast b → Begins 46 b start d → d ≡ 46 ∷ rest → rest ≡ decimal (end_of span.range) ++ 35 ∷ (decimal span.ctx.0 ++ tail)
past_dots span tail fits e f g h dot = let here = (past_start span tail fits e f g h).1 in cc

pub past_end : {text : List ℕ} {file : ℕ} {a : List ℕ} {ast : ℕ} {b : List ℕ} {start : ℕ} {d rest : List ℕ} {end : ℕ} {x : List ℕ} (span : Span) (tail : List ℕ) → SpanFits span
    → text ≡ span_text span ++ tail → Begins 58 text file a → Begins 64 a ast b → Begins 46 b start d → d ≡ 46 ∷ rest → Begins 35 rest end x
    → (end ≡ end_of span.range) × (x ≡ decimal span.ctx.0 ++ tail)
past_end span tail fits e f g h dot k = Begins-unique 35 _ _ _ _ _ (inl (lit< tt)) k (past_dots span tail fits e f g h dot, fits.end)

-- the span that a text begins with, and its tail, are determined
pub span_unique : (text : List ℕ) (span : Span) (x : List ℕ) (other : Span) (y : List ℕ) → SpanFits span → SpanFits other → BeginsWithNoDigit x → BeginsWithNoDigit y
    → text ≡ span_text span ++ x → text ≡ span_text other ++ y → x ≡ y
span_unique text span x other y p q s t d e =
    let f : Begins 58 text span.anchor.file_id.0 (after_file span x) = (d ∙ from_left span x, p.file) in
    let g : Begins 64 (after_file span x) span.anchor.ast_id.0 (after_ast span x) = (refl, p.ast) in
    let h : Begins 46 (after_ast span x) (start_of span.range) (after_start span x) = (refl, p.start) in
    let k : Begins 35 (decimal (end_of span.range) ++ 35 ∷ (decimal span.ctx.0 ++ x)) (end_of span.range) (decimal span.ctx.0 ++ x) = (refl, p.end) in
    let u = past_end other y q e f g h refl k in
    (number_unique (decimal span.ctx.0 ++ x) span.ctx.0 x other.ctx.0 y p.ctx q.ctx s t refl u.1).1

-- and what is read is the text of the span of those numbers, and the tail
pub span_read : {text a b : List ℕ} {start : ℕ} {d rest : List ℕ} {end : ℕ} {x : List ℕ} (span : Span) (tail : List ℕ) → Begins 58 text span.anchor.file_id.0 a
    → Begins 64 a span.anchor.ast_id.0 b → Begins 46 b start d → d ≡ 46 ∷ rest → Begins 35 rest end x → x ≡ decimal span.ctx.0 ++ tail → span.ctx.0 < 2 ^ 32
    → start_of span.range ≡ start → end_of span.range ≡ end → (text ≡ span_text span ++ tail) × SpanFits span
span_read span tail f g h dot k l small starts ends =
    let whole = from_left span tail in
    (cc (whole, f.0, g.0, h.0, dot, k.0, l, starts, ends), record { file = f.1; ast = g.1; start = omega (arith, h.1); end = omega (arith, k.1); ctx = small })
