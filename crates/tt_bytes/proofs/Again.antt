-- What was written at the front of a piece is read again.
use Rattle.std.proofs.Common.{◌≡◌, ℕ, ◌<◌, ◌^◌, List, ◌++◌, append_assoc, refl, ap, sym, ◌∙◌}
use Rattle.std.specs.Prelude.{Some}
use Rattle.tt_base.specs.declared.span.SpanPart.{SpanPart}
use Rattle.tt_bytes.specs.declared.numbers.Counts.{Counts}
use Rattle.tt_bytes.specs.Format.{number_bytes, part_bytes, PartFits}
use Rattle.tt_bytes.specs.Front.{part_at, counts_at}
use Rattle.tt_codec.proofs.Found.{same_parts}
use Rattle.tt_codec.specs.Read.{word_at, word_again}

-- A number is read again.
pub number_again : (n : ℕ) (rest : List ℕ) → n < 2 ^ 32 → word_at (number_bytes n ++ rest) ≡ Some (n, rest)
unfolding number_bytes
number_again n rest small = ap (λ m. Some (m, rest)) (word_again n small)

-- A number that was read is the one that was written.
pub number_read : (n m : ℕ) (all rest behind : List ℕ) → n < 2 ^ 32 → all ≡ number_bytes n ++ rest → word_at all ≡ Some (m, behind)
    → (m ≡ n) × (behind ≡ rest)
number_read n m all rest behind small is read =
    let same : Some (m, behind) ≡ Some (n, rest) = sym read ∙ ap word_at is ∙ number_again n rest small in
    same_parts _ _ same

parted : (part : SpanPart) (rest : List ℕ) → PartFits part
    → part_at (number_bytes part.anchor.file_id.0 ++ (number_bytes part.anchor.ast_id.0 ++ (number_bytes part.ctx.0 ++ rest))) ≡ Some (part, rest)
parted part rest fits =
    rw (number_again part.anchor.file_id.0 (number_bytes part.anchor.ast_id.0 ++ (number_bytes part.ctx.0 ++ rest)) fits.file) rw (number_again part.anchor.ast_id.0 (number_bytes part.ctx.0 ++ rest) fits.ast) rw (number_again part.ctx.0 rest fits.ctx) refl

-- A part is read again.
pub part_again : (part : SpanPart) (rest : List ℕ) → PartFits part → part_at (part_bytes part ++ rest) ≡ Some (part, rest)
unfolding part_bytes
part_again part rest fits =
    let a : List ℕ = number_bytes part.anchor.file_id.0 in
    let b : List ℕ = number_bytes part.anchor.ast_id.0 in
    let c : List ℕ = number_bytes part.ctx.0 in
    let apart : part_bytes part ++ rest ≡ a ++ (b ++ (c ++ rest)) = append_assoc (a ++ b) c rest ∙ append_assoc a b (c ++ rest) in
    ap part_at apart ∙ parted part rest fits

-- Three counts are read again.
pub counts_again : (counts : Counts) (rest : List ℕ) → counts.parts < 2 ^ 32 → counts.symbols < 2 ^ 32 → counts.bytes < 2 ^ 32
    → counts_at (number_bytes counts.parts ++ (number_bytes counts.symbols ++ (number_bytes counts.bytes ++ rest))) ≡ Some (counts, rest)
counts_again counts rest a b c =
    rw (number_again counts.parts (number_bytes counts.symbols ++ (number_bytes counts.bytes ++ rest)) a) rw (number_again counts.symbols (number_bytes counts.bytes ++ rest) b) rw (number_again counts.bytes rest c) refl
