-- Bytes that were read are the piece of what they hold, and then the bytes after its end.
use Rattle.std.proofs.Common.{◌≡◌, ℕ, zero, suc, ◌+◌, ◌-◌, ◌<◌, ◌^◌, ◌==◌, Bool, true, false, if◌then◌else◌, List, [], ◌∷◌, ◌++◌, length, take, drop, get_or, nat_le, append_assoc, append-nil, Some, None, Result, Ok, Err, refl, ap, ap₂, sym, subst, ◌∙◌, arith}
use Rattle.std.proofs.lemmas.Bool.{leb-true}
use Rattle.std.proofs.lemmas.Bool.Decides.{Decides-eqb}
use Rattle.std.proofs.lemmas.List.{length-take-le, take-append-drop}
use Rattle.std.proofs.lemmas.Nat.{le_bytes_4}
use Rattle.std.proofs.lemmas.Str.{IsUtf8-from_is_utf8}
use Rattle.std.specs.Int.{w32, from_le_bytes}
use Rattle.std.specs.List.{AllByRecursion}
use Rattle.std.specs.Str.{is_utf8}
use Rattle.std.specs.Str.Lossy.{utf8_valid_len}
use Rattle.tt_base.specs.declared.span.SpanPart.{SpanPart}
use Rattle.tt_base.specs.Forest.{Root}
use Rattle.tt_bytes.specs.Behind.{IsMadeOf}
use Rattle.tt_bytes.specs.declared.fault.BytesFault.{BytesFault}
use Rattle.tt_bytes.specs.declared.fault.BytesFault.TheVariants.{TooShort, OtherFormat, NoText}
use Rattle.tt_bytes.specs.declared.numbers.Counts.{Counts}
use Rattle.tt_bytes.specs.Format.{mark, number_bytes, part_bytes, parts_bytes, symbol_bytes, symbols_bytes, piece, PartFits, TextFits, PieceFits, AreBytesOf}
use Rattle.tt_bytes.specs.Front.{Reads, ◌>>◌, or_short, behind_mark, part_at, counts_at, parts_from, text_of, text_from, texts_from, held, Held}
use Rattle.tt_codec.proofs.Found.{same_parts}
use Rattle.tt_codec.specs.Read.{Read, ◌>>=◌, word_at}
use Rattle.tt_tables.specs.Stored.{packed, IsInRange, IsWithinLimits}

-- each number is a byte
abbrev pub AreBytes : List ℕ → Type 0
AreBytes bytes = (i : ℕ) → get_or bytes i 0 < 256

-- Each number after the first ones is a byte.
bytes_behind : (n : ℕ) (bytes : List ℕ) → AreBytes bytes → AreBytes (drop n bytes)
bytes_behind zero bytes are = are
bytes_behind (suc n) [] are = are
bytes_behind (suc n) (b ∷ bytes) are = bytes_behind n bytes (λ i. are (suc i))

-- If there is no fault, the first read has a value.
then_ok : {X Y : Type 0} (r : Result X BytesFault) (f : X → Result Y BytesFault) (y : Y) → (r >> f) ≡ Ok y → (x : X) × (r ≡ Ok x) × (f x ≡ Ok y)
then_ok (Err fault) f y is = absurd (cc is)
then_ok (Ok x) f y is = (x, refl, is)

-- the value that was read
abbrev pub read_ok : {X : Type 0} → X × List ℕ → Reads X
read_ok found = Ok found

-- Two values of one read are equal.
both_ok : {X : Type 0} (one other : X × List ℕ) → read_ok one ≡ read_ok other → (one.0 ≡ other.0) × (one.1 ≡ other.1)
both_ok one other is = let same : one ≡ other = cc is in (ap (λ p. p.0) same, ap (λ p. p.1) same)

-- If there is no fault, the bytes are long enough.
long_enough : {X : Type 0} (all : ℕ) (r : Read X) (found : X × List ℕ) → or_short all r ≡ Ok found → r ≡ Some found
long_enough all None found is = absurd (cc is)
long_enough all (Some other) found is = let same : other ≡ found = cc is in ap Some same

-- If there is no fault, the test passed.
passed : {X : Type 0} (t : Bool) (x y : X) (f : BytesFault) → (if t then Ok x else Err f) ≡ Ok y → (t ≡ true) × (x ≡ y)
passed true x y f is = (refl, cc is)
passed false x y f is = absurd (cc is)

-- The bytes begin with the mark.
mark_of : (at : ℕ) (wanted bytes rest : List ℕ) → behind_mark at wanted bytes ≡ Ok rest → bytes ≡ wanted ++ rest
mark_of at [] bytes rest read = cc read
mark_of at (w ∷ wanted) [] rest read = absurd (cc read)
mark_of at (w ∷ wanted) (b ∷ bytes) rest read = by_test (b == w) refl read (mark_of (at + 1) wanted bytes rest)
  where
    by_test : (t : Bool) → (b == w) ≡ t → (if t then behind_mark (at + 1) wanted bytes else Err (OtherFormat at)) ≡ Ok rest
        → (behind_mark (at + 1) wanted bytes ≡ Ok rest → bytes ≡ wanted ++ rest) → b ∷ bytes ≡ (w ∷ wanted) ++ rest
    by_test true e next later = ap₂ ◌∷◌ ((Decides-eqb b w).0 e) (later next)
    by_test false e next later = absurd (cc next)

-- the bytes begin with those of the value, and the others follow
abbrev pub WasThere : (Fits : Type 0) (value bytes rest : List ℕ) → Type 0
WasThere Fits value bytes rest = Fits × (bytes ≡ value ++ rest) × AreBytes rest

-- A number.
number_of : (bytes rest : List ℕ) (n : ℕ) → AreBytes bytes → word_at bytes ≡ Some (n, rest) → WasThere (n < 2 ^ 32) (number_bytes n) bytes rest
unfolding number_bytes
number_of [] rest n are read = absurd (cc read)
number_of (a ∷ []) rest n are read = absurd (cc read)
number_of (a ∷ b ∷ []) rest n are read = absurd (cc read)
number_of (a ∷ b ∷ c ∷ []) rest n are read = absurd (cc read)
number_of (a ∷ b ∷ c ∷ d ∷ behind) rest n are read =
    let same = same_parts (from_le_bytes w32 four, behind) (n, rest) read in
    let wrote = le_bytes_4 four n refl each (sym same.0) in (
      subst (λ m. m < 2 ^ 32) same.0 (omega (arith, are 0, are 1, are 2, are 3)),
      ap₂ ◌++◌ (sym wrote) same.1,
      subst AreBytes same.1 (λ i. are (suc (suc (suc (suc i))))),
    )
  where
    four : List ℕ
    four = a ∷ b ∷ c ∷ d ∷ []

    each : (i : ℕ) → get_or four i 0 < 256
    each zero = are 0
    each (suc zero) = are 1
    each (suc (suc zero)) = are 2
    each (suc (suc (suc zero))) = are 3
    each (suc (suc (suc (suc i)))) = omega arith

-- the numbers of a value fit
abbrev pub ThreeFit : (a b c : ℕ) → Type 0
ThreeFit a b c = (a < 2 ^ 32) × (b < 2 ^ 32) × (c < 2 ^ 32)

-- they are written one after the other
abbrev pub three_bytes : (a b c : ℕ) → List ℕ
three_bytes a b c = (number_bytes a ++ number_bytes b) ++ number_bytes c

-- Three numbers, one after the other.
three_of : (bytes first second third : List ℕ) (a b c : ℕ) → AreBytes bytes → word_at bytes ≡ Some (a, first) → word_at first ≡ Some (b, second) → word_at second ≡ Some (c, third)
    → WasThere (ThreeFit a b c) (three_bytes a b c) bytes third
three_of bytes first second third a b c are one two three =
    let (small_a, is_a, are_a) = number_of bytes first a are one in
    let (small_b, is_b, are_b) = number_of first second b are_a two in
    let (small_c, is_c, are_c) = number_of second third c are_b three in (
      (small_a, small_b, small_c),
      is_a ∙ ap (λ l. number_bytes a ++ l) (is_b ∙ ap (λ l. number_bytes b ++ l) is_c) ∙ sym (append_assoc (number_bytes a) (number_bytes b) (number_bytes c ++ third)) ∙ sym (append_assoc (number_bytes a ++ number_bytes b) (number_bytes c) third),
      are_c,
    )

-- the value is made from three numbers, with whose bytes the bytes begin
abbrev pub MadeOfThree : {Y : Type 0} → (make : ℕ → ℕ → ℕ → Y) → (y : Y) → (bytes rest : List ℕ) → Type 0
MadeOfThree make y bytes rest = (a : ℕ) × (b : ℕ) × (c : ℕ) × (make a b c ≡ y) × WasThere (ThreeFit a b c) (three_bytes a b c) bytes rest

third_read : {Y : Type 0} (make : ℕ → ℕ → ℕ → Y) (y : Y) (bytes first second rest : List ℕ) (a b : ℕ) (r : Read ℕ) → AreBytes bytes → word_at bytes ≡ Some (a, first) → word_at first ≡ Some (b, second)
    → word_at second ≡ r → ◌>>=◌ {Y = Y × List ℕ} r (λ c. Some (make a b c.0, c.1)) ≡ Some (y, rest) → MadeOfThree make y bytes rest
third_read make y bytes first second rest a b None are one two three read = absurd (cc read)
third_read make y bytes first second rest a b (Some c) are one two three read =
    let same = same_parts (make a b c.0, c.1) (y, rest) read in
    (a, b, c.0, same.0, subst (λ r. WasThere (ThreeFit a b c.0) (three_bytes a b c.0) bytes r) same.1 (three_of bytes first second c.1 a b c.0 are one two three))

second_read : {Y : Type 0} (make : ℕ → ℕ → ℕ → Y) (y : Y) (bytes first rest : List ℕ) (a : ℕ) (r : Read ℕ) → AreBytes bytes → word_at bytes ≡ Some (a, first) → word_at first ≡ r
    → ◌>>=◌ {Y = Y × List ℕ} r (λ b. ◌>>=◌ {Y = Y × List ℕ} (word_at b.1) (λ c. Some (make a b.0 c.0, c.1))) ≡ Some (y, rest) → MadeOfThree make y bytes rest
second_read make y bytes first rest a None are one two read = absurd (cc read)
second_read make y bytes first rest a (Some b) are one two read = third_read make y bytes first b.1 rest a b.0 (word_at b.1) are one two refl read

-- A value made from three numbers.
three_read : {Y : Type 0} (make : ℕ → ℕ → ℕ → Y) (y : Y) (bytes rest : List ℕ) (r : Read ℕ) → AreBytes bytes → word_at bytes ≡ r
    → ◌>>=◌ {Y = Y × List ℕ} r (λ a. ◌>>=◌ {Y = Y × List ℕ} (word_at a.1) (λ b. ◌>>=◌ {Y = Y × List ℕ} (word_at b.1) (λ c. Some (make a.0 b.0 c.0, c.1)))) ≡ Some (y, rest) → MadeOfThree make y bytes rest
three_read make y bytes rest None are one read = absurd (cc read)
three_read make y bytes rest (Some a) are one read = second_read make y bytes a.1 rest a.0 (word_at a.1) are one refl read

-- A part.
part_of : (bytes rest : List ℕ) (part : SpanPart) → AreBytes bytes → part_at bytes ≡ Some (part, rest) → WasThere (PartFits part) (part_bytes part) bytes rest
unfolding part_bytes
part_of bytes rest part are read = made (three_read make part bytes rest (word_at bytes) are refl read)
  where
    make : ℕ → ℕ → ℕ → SpanPart
    make a b c = record { anchor = record { file_id = record { 0 = a }; ast_id = record { 0 = b } }; ctx = record { 0 = c } }

    made : MadeOfThree make part bytes rest → WasThere (PartFits part) (part_bytes part) bytes rest
    made (a, b, c, is, there) = subst (λ p. WasThere (PartFits p) (part_bytes p) bytes rest) is (record { file = there.0.0; ast = there.0.1; ctx = there.0.2 }, there.1, there.2)

-- Three counts.
counts_of : (bytes rest : List ℕ) (counts : Counts) → AreBytes bytes → counts_at bytes ≡ Some (counts, rest)
    → WasThere (ThreeFit counts.parts counts.symbols counts.bytes) (three_bytes counts.parts counts.symbols counts.bytes) bytes rest
counts_of bytes rest counts are read = made (three_read make counts bytes rest (word_at bytes) are refl read)
  where
    make : ℕ → ℕ → ℕ → Counts
    make a b c = record { parts = a; symbols = b; bytes = c }

    made : MadeOfThree make counts bytes rest → WasThere (ThreeFit counts.parts counts.symbols counts.bytes) (three_bytes counts.parts counts.symbols counts.bytes) bytes rest
    made (a, b, c, is, there) = subst (λ k. WasThere (ThreeFit k.parts k.symbols k.bytes) (three_bytes k.parts k.symbols k.bytes) bytes rest) is there

-- Parts.
parts_of : (all count : ℕ) (bytes rest : List ℕ) (parts : List SpanPart) → AreBytes bytes → parts_from all count bytes ≡ Ok (parts, rest)
    → WasThere ((length parts ≡ count) × AllByRecursion PartFits parts) (parts_bytes parts) bytes rest
parts_of all zero bytes rest parts are read =
    let (none, behind) = both_ok ([], bytes) (parts, rest) read in
    subst (λ r. WasThere ((length parts ≡ 0) × AllByRecursion PartFits parts) (parts_bytes parts) bytes r) behind
    (subst (λ l. WasThere ((length l ≡ 0) × AllByRecursion PartFits l) (parts_bytes l) bytes bytes) none ((refl, tt), refl, are))
parts_of all (suc count) bytes rest parts are read =
    let (one, first, more) = then_ok (or_short all (part_at bytes)) _ (parts, rest) read in
    let (others, later, end) = then_ok (parts_from all count one.1) _ (parts, rest) more in
    let (is, behind) = both_ok (one.0 ∷ others.0, others.1) (parts, rest) end in
    let (fits, wrote, left) = part_of bytes one.1 one.0 are (long_enough all (part_at bytes) one first) in
    let (fit, written, last) = parts_of all count one.1 others.1 others.0 left later in
    subst (λ r. WasThere ((length parts ≡ suc count) × AllByRecursion PartFits parts) (parts_bytes parts) bytes r) behind
    (subst (λ l. WasThere ((length l ≡ suc count) × AllByRecursion PartFits l) (parts_bytes l) bytes others.1) is
    ((ap suc fit.0, (fits, fit.1)), wrote ∙ ap (λ l. part_bytes one.0 ++ l) written ∙ sym (append_assoc (part_bytes one.0) (parts_bytes others.0) others.1), last))

-- A text.
text_there : (all count : ℕ) (bytes rest text : List ℕ) → AreBytes bytes → count < 2 ^ 32 → text_of all count bytes ≡ Ok (text, rest) → WasThere ((length text ≡ count) × TextFits text) text bytes rest
text_there all count bytes rest text are small read = by_room (nat_le count (length bytes)) refl read
  where
    by_room : (t : Bool) → nat_le count (length bytes) ≡ t
        → (if t then (if is_utf8 (take count bytes) then read_ok (take count bytes, drop count bytes) else Err (NoText (all - length bytes + utf8_valid_len (take count bytes)))) else Err (TooShort all)) ≡ read_ok (text, rest)
        → WasThere ((length text ≡ count) × TextFits text) text bytes rest
    by_room true room inner =
        let (utf8, same) = passed (is_utf8 (take count bytes)) (take count bytes, drop count bytes) (text, rest) _ inner in
        let is : take count bytes ≡ text = ap (λ p. p.0) same in
        let behind : drop count bytes ≡ rest = ap (λ p. p.1) same in
        let long : length (take count bytes) ≡ count = length-take-le count bytes (leb-true count (length bytes) room) in
        subst (λ r. WasThere ((length text ≡ count) × TextFits text) text bytes r) behind
        (subst (λ t. WasThere ((length t ≡ count) × TextFits t) t bytes (drop count bytes)) is
        ((long, record { utf8 = IsUtf8-from_is_utf8 (take count bytes) utf8; short = omega (arith, long, small) }), sym (take-append-drop count bytes), bytes_behind count bytes are))
    by_room false room inner = absurd (cc inner)

-- A symbol.
symbol_of : (all : ℕ) (bytes rest text : List ℕ) → AreBytes bytes → text_from all bytes ≡ Ok (text, rest) → WasThere (TextFits text) (symbol_bytes text) bytes rest
symbol_of all bytes rest text are read =
    let (count, first, more) = then_ok (or_short all (word_at bytes)) _ (text, rest) read in
    let (small, wrote, left) = number_of bytes count.1 count.0 are (long_enough all (word_at bytes) count first) in
    let (fits, written, last) = text_there all count.0 count.1 rest text left small more in (
      fits.1,
      wrote ∙ ap₂ (λ n l. number_bytes n ++ l) (sym fits.0) written ∙ sym (append_assoc (number_bytes (length text)) text rest),
      last,
    )

-- Symbols.
symbols_of : (all count : ℕ) (bytes rest : List ℕ) (symbols : List (List ℕ)) → AreBytes bytes → texts_from all count bytes ≡ Ok (symbols, rest)
    → WasThere ((length symbols ≡ count) × AllByRecursion TextFits symbols) (symbols_bytes symbols) bytes rest
symbols_of all zero bytes rest symbols are read =
    let (none, behind) = both_ok ([], bytes) (symbols, rest) read in
    subst (λ r. WasThere ((length symbols ≡ 0) × AllByRecursion TextFits symbols) (symbols_bytes symbols) bytes r) behind
    (subst (λ l. WasThere ((length l ≡ 0) × AllByRecursion TextFits l) (symbols_bytes l) bytes bytes) none ((refl, tt), refl, are))
symbols_of all (suc count) bytes rest symbols are read =
    let (one, first, more) = then_ok (text_from all bytes) _ (symbols, rest) read in
    let (others, later, end) = then_ok (texts_from all count one.1) _ (symbols, rest) more in
    let (is, behind) = both_ok (one.0 ∷ others.0, others.1) (symbols, rest) end in
    let (fits, wrote, left) = symbol_of all bytes one.1 one.0 are first in
    let (fit, written, last) = symbols_of all count one.1 others.1 others.0 left later in
    subst (λ r. WasThere ((length symbols ≡ suc count) × AllByRecursion TextFits symbols) (symbols_bytes symbols) bytes r) behind
    (subst (λ l. WasThere ((length l ≡ suc count) × AllByRecursion TextFits l) (symbols_bytes l) bytes others.1) is
    ((ap suc fit.0, (fits, fit.1)), wrote ∙ ap (λ l. symbol_bytes one.0 ++ l) written ∙ sym (append_assoc (symbol_bytes one.0) (symbols_bytes others.0) others.1), last))

-- Equal counts have equal bytes.
same_counts : (a b c k l m : ℕ) → a ≡ k → b ≡ l → c ≡ m → three_bytes a b c ≡ three_bytes k l m
same_counts a b c k l m one two three = ap₂ ◌++◌ (ap₂ (λ x y. number_bytes x ++ number_bytes y) one two) (ap number_bytes three)

-- The parts one after the other are a piece and the bytes after it.
pieced : (parts : List SpanPart) (symbols : List (List ℕ)) (below behind : List ℕ)
    → mark ++ (three_bytes (length parts) (length symbols) (length below) ++ (parts_bytes parts ++ (symbols_bytes symbols ++ (below ++ behind)))) ≡ piece parts symbols below ++ behind
unfolding piece
pieced parts symbols below behind = simp (append_assoc) refl

-- All of a piece.
pub made_of : (bytes : List ℕ) (it : Held) → AreBytes bytes → held bytes ≡ Ok it → IsMadeOf it bytes
unfolding held
made_of bytes it are read =
    let (marked, one, two) = then_ok (behind_mark 0 mark bytes) _ it read in
    let is_marked = mark_of 0 mark bytes marked one in
    let are_marked : AreBytes marked = λ i. subst (λ l. AreBytes l) is_marked are (suc (suc (suc (suc i)))) in
    let (counts, three, four) = then_ok (or_short (length bytes) (counts_at marked)) _ it two in
    let (few, is_counted, are_counted) = counts_of marked counts.1 counts.0 are_marked (long_enough (length bytes) (counts_at marked) counts three) in
    let (parts, five, six) = then_ok (parts_from (length bytes) counts.0.parts counts.1) _ it four in
    let (parts_fit, is_parts, are_parts) = parts_of (length bytes) counts.0.parts counts.1 parts.1 parts.0 are_counted five in
    let (symbols, seven, eight) = then_ok (texts_from (length bytes) counts.0.symbols parts.1) _ it six in
    let (symbols_fit, is_symbols, are_symbols) = symbols_of (length bytes) counts.0.symbols parts.1 symbols.1 symbols.0 are_parts seven in
    let (room, same) = passed (nat_le counts.0.bytes (length symbols.1)) _ it _ eight in
    let long : length (take counts.0.bytes symbols.1) ≡ counts.0.bytes = length-take-le counts.0.bytes symbols.1 (leb-true counts.0.bytes (length symbols.1) room) in
    let tables : counts.1 ≡ parts_bytes parts.0 ++ (symbols_bytes symbols.0 ++ (take counts.0.bytes symbols.1 ++ drop counts.0.bytes symbols.1)) =
    is_parts ∙ ap (λ l. parts_bytes parts.0 ++ l) (is_symbols ∙ ap (λ l. symbols_bytes symbols.0 ++ l) (sym (take-append-drop counts.0.bytes symbols.1))) in
    let whole : bytes ≡ piece parts.0 symbols.0 (take counts.0.bytes symbols.1) ++ drop counts.0.bytes symbols.1 =
    is_marked
    ∙ ap (λ l. mark ++ l) (is_counted ∙ ap₂ ◌++◌ (same_counts counts.0.parts counts.0.symbols counts.0.bytes (length parts.0) (length symbols.0) (length (take counts.0.bytes symbols.1)) (sym parts_fit.0) (sym symbols_fit.0) (sym long)) tables)
    ∙ pieced parts.0 symbols.0 (take counts.0.bytes symbols.1) (drop counts.0.bytes symbols.1) in
    subst (λ h. IsMadeOf h bytes) same
    (record {
      fits = record {
        part_count = subst (λ n. n < 2 ^ 32) (sym parts_fit.0) few.0;
        symbol_count = subst (λ n. n < 2 ^ 32) (sym symbols_fit.0) few.1;
        byte_count = subst (λ n. n < 2 ^ 32) (sym long) few.2;
        each_part = parts_fit.1;
        each_text = symbols_fit.1;
      };
      is = whole;
    })

-- If no bytes follow the end, the bytes are those of the tree that is stored as they hold.
pub stored_in : (bytes : List ℕ) (it : Held) (root : Root) → IsInRange root → IsWithinLimits root → it.parts ≡ (packed root).parts → it.symbols ≡ (packed root).symbols → it.packed ≡ (packed root).bytes
    → it.behind ≡ [] → IsMadeOf it bytes → AreBytesOf root bytes
stored_in bytes it root range limits parts symbols below none made =
    record {
      has = record {
        range = range;
        limits = limits;
        fits = subst (λ b. PieceFits (packed root).parts (packed root).symbols b) below (subst (λ s. PieceFits (packed root).parts s it.packed) symbols (subst (λ p. PieceFits p it.symbols it.packed) parts made.fits));
      };
      is = made.is
          ∙ ap (λ l. piece it.parts it.symbols it.packed ++ l) none
          ∙ append-nil (piece it.parts it.symbols it.packed)
          ∙ ap (λ p. piece p it.symbols it.packed) parts
          ∙ ap (λ s. piece (packed root).parts s it.packed) symbols
          ∙ ap (λ b. piece (packed root).parts (packed root).symbols b) below;
    }
