-- The parts of a piece.
use Rattle.std.proofs.Common.{◌≡◌, ℕ, List, ◌∷◌, ◌++◌, length, append_assoc, refl, ap, sym, ◌∙◌, Some}
use Rattle.tt_base.specs.declared.span.SpanPart.{SpanPart}
use Rattle.tt_bytes.specs.declared.numbers.Counts.{Counts}
use Rattle.tt_bytes.specs.Format.{number_bytes, parts_bytes, symbols_bytes, piece, PieceFits}
use Rattle.tt_bytes.specs.Front.{counts_at}
use Rattle.tt_bytes.proofs.Again.{counts_again}
use Rattle.tt_codec.proofs.Found.{same_parts}

-- the tables and the packed bytes, after the counts
abbrev pub behind_counts : List SpanPart → List (List ℕ) → List ℕ → List ℕ
behind_counts parts symbols below = parts_bytes parts ++ (symbols_bytes symbols ++ below)

-- the bytes after the mark
abbrev pub marked : List SpanPart → List (List ℕ) → List ℕ → List ℕ
marked parts symbols below =
    number_bytes (length parts) ++ (number_bytes (length symbols) ++ (number_bytes (length below) ++ behind_counts parts symbols below))

-- A piece is the mark and these bytes.
pub apart : (parts : List SpanPart) (symbols : List (List ℕ)) (below : List ℕ) → piece parts symbols below ≡ 116 ∷ 116 ∷ 1 ∷ 0 ∷ marked parts symbols below
unfolding piece
apart parts symbols below = simp (append_assoc) refl

-- the counts of a piece
abbrev pub counts_of : List SpanPart → List (List ℕ) → List ℕ → Counts
counts_of parts symbols below = record { parts = length parts; symbols = length symbols; bytes = length below }

-- These counts are read.
pub counts_found : (parts : List SpanPart) (symbols : List (List ℕ)) (below rest : List ℕ) → PieceFits parts symbols below → rest ≡ marked parts symbols below
    → counts_at rest ≡ Some (counts_of parts symbols below, behind_counts parts symbols below)
counts_found parts symbols below rest fits is =
    ap counts_at is ∙ counts_again (counts_of parts symbols below) (behind_counts parts symbols below) fits.part_count fits.symbol_count fits.byte_count

-- the counts that were read are those of the piece, and its other bytes follow
pub record AreCounts (parts : List SpanPart) (symbols : List (List ℕ)) (below : List ℕ) (counts : Counts) (rest : List ℕ) : Type 0 where
  pub part_count : length parts ≡ counts.parts
  pub symbol_count : length symbols ≡ counts.symbols
  pub byte_count : length below ≡ counts.bytes
  pub behind : rest ≡ behind_counts parts symbols below

-- The counts that were read are these.
pub counts_read : (parts : List SpanPart) (symbols : List (List ℕ)) (below rest behind : List ℕ) (counts : Counts) → PieceFits parts symbols below
    → rest ≡ marked parts symbols below → counts_at rest ≡ Some (counts, behind) → AreCounts parts symbols below counts behind
counts_read parts symbols below rest behind counts fits is read =
    let same = same_parts (counts_of parts symbols below, behind_counts parts symbols below) (counts, behind) (sym (counts_found parts symbols below rest fits is) ∙ read) in
    record {
      part_count = ap (λ x. x.parts) same.0;
      symbol_count = ap (λ x. x.symbols) same.0;
      byte_count = ap (λ x. x.bytes) same.0;
      behind = sym same.1;
    }
