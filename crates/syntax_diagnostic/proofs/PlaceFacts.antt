-- The place after some bytes depends on all of them, and is computed byte by byte.
use Rattle.std.proofs.Common.{◌≡◌, ℕ, ◌+◌, true, false, List, [], ◌∷◌, ◌++◌, refl, sym, ap, ◌∙◌, arith, take, append_assoc, append-nil, min, length, ◌≤◌, ◌<◌, ◌-◌, ◌*◌, ◌/◌, drop, slice_index_or}
use Rattle.std.proofs.lemmas.List.FromFn.{get_or-map-range_with_len}
use Rattle.syntax_diagnostic.specs.Marks.{mark, marks_of}
use Rattle.std.specs.List.{fold}
use Rattle.std.proofs.lemmas.List.{take_min, length-take}
use Rattle.std.proofs.Math.Seq.{take-add}
use Rattle.std.proofs.lemmas.List.Folds.{list_any-append}
use Rattle.std.proofs.lemmas.List.Sums.{sum_by-append, count_by-le-length}
use Rattle.syntax_diagnostic.specs.Place.{is_feed, begins_char, last_line, place_behind, place_of, next_place}
use Rattle.syntax_diagnostic.specs.declared.place.Place.{Place}

-- a line feed after some bytes leaves an empty last line
pub last_line-feed : (front : List ℕ) (byte : ℕ) → is_feed byte ≡ true → last_line (front ++ byte ∷ []) ≡ []
last_line-feed [] byte feed = rw feed refl
last_line-feed (x ∷ xs) byte feed = rw (list_any-append is_feed (x ∷ xs) (byte ∷ []), feed) (grind (arith, last_line-feed xs byte feed))

-- another byte after them extends the last line
pub last_line-byte : (front : List ℕ) (byte : ℕ) → is_feed byte ≡ false → last_line (front ++ byte ∷ []) ≡ last_line front ++ byte ∷ []
last_line-byte [] byte other = rw other refl
last_line-byte (x ∷ xs) byte other = grind (arith, list_any-append is_feed (x ∷ xs) (byte ∷ []), last_line-byte xs byte other)

-- the place after one more byte
pub place_behind-push : (front : List ℕ) (byte : ℕ) → next_place (place_behind front) byte ≡ place_behind (front ++ byte ∷ [])
place_behind-push front byte = grind (arith, sum_by-append, last_line-feed, last_line-byte)

-- a place moved over bytes is that after them
pub fold_behind : (front bytes : List ℕ) → fold next_place (place_behind front) bytes ≡ place_behind (front ++ bytes)
fold_behind front [] = grind (arith, append-nil)
fold_behind front (byte ∷ bytes) = rw (place_behind-push front byte, fold_behind (front ++ byte ∷ []) bytes) (ap place_behind (append_assoc front (byte ∷ []) bytes))

-- the place of the first byte, moved over bytes, is that after them
pub fold_is_place : (bytes : List ℕ) → fold next_place (record { line = 1; column = 1 }) bytes ≡ place_behind bytes
fold_is_place bytes = fold_behind [] bytes

-- a text cut at a place, or at its end if the place exceeds it
pub taken_within : (text : List ℕ) (at : ℕ) → take (min at (length text)) text ≡ take at text
taken_within text at = take_min at text

-- the last line is no longer than all
pub last_line-short : (front : List ℕ) → length (last_line front) ≤ length front
last_line-short [] = omega arith
last_line-short (x ∷ xs) = grind (arith, last_line-short xs)

-- no number of a place exceeds one more than the bytes before it
pub line_small : (text : List ℕ) (at : ℕ) → (place_of text at).line ≤ 1 + at
line_small text at = omega (arith, count_by-le-length is_feed (take at text), length-take at text)

pub column_small : (text : List ℕ) (at : ℕ) → (place_of text at).column ≤ 1 + at
column_small text at = omega (arith, count_by-le-length begins_char (last_line (take at text)), last_line-short (take at text), length-take at text)

-- the place of a byte, moved over the bytes up to another byte, is that of the other
pub place_on : (text : List ℕ) (at more : ℕ) → fold next_place (place_of text at) (take more (drop at text)) ≡ place_of text (at + more)
place_on text at more = fold_behind (take at text) (take more (drop at text)) ∙ ap place_behind (sym (take-add at more text))

-- the place of a block, moved over it, is that of the next
pub next_mark : (text : List ℕ) (block : ℕ) → fold next_place (mark text block) (take (block * 64 + 64 - block * 64) (drop (block * 64) text)) ≡ mark text (block + 1)
next_mark text block =
    let one : block * 64 + (block * 64 + 64 - block * 64) ≡ (block + 1) * 64 = omega arith in
    place_on text (block * 64) (block * 64 + 64 - block * 64) ∙ ap (place_of text) one

-- the place that is kept for a byte's block is its place
pub mark_kept : (text : List ℕ) (marks : List Place) (at : ℕ) (found : Place) → at ≤ length text → marks ≡ marks_of text
    → found ≡ slice_index_or marks (at / 64) found → found ≡ mark text (at / 64)
mark_kept text marks at found within all e =
    let inside : at / 64 < length text / 64 + 1 = omega arith in
    e ∙ ap (λ items. slice_index_or items (at / 64) found) all
    ∙ get_or-map-range_with_len (mark text) 0 (length text / 64 + 1) (at / 64) (at / 64) found inside (omega arith)

-- the place of a byte's block, moved over the bytes up to the byte, is that of the byte
pub from_mark : (text : List ℕ) (at : ℕ) → fold next_place (mark text (at / 64)) (take (at - at / 64 * 64) (drop (at / 64 * 64) text)) ≡ place_of text at
from_mark text at =
    let one : at / 64 * 64 + (at - at / 64 * 64) ≡ at = omega arith in
    place_on text (at / 64 * 64) (at - at / 64 * 64) ∙ ap (place_of text) one
