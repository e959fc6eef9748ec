-- What bytes hold, step by step; and a piece holds what it was made from.
use Rattle.std.proofs.Common.{◌≡◌, ℕ, ◌≤◌, ◌<◌, inl, inr, List, [], ◌++◌, length, take, drop, if◌then◌else◌, Some, None, Ok, Err, refl, ap, ap₂, sym, subst, ◌∙◌, arith}
use Rattle.std.proofs.lemmas.Bool.{le-leb}
use Rattle.std.proofs.lemmas.Bool.Decides.{leb_tells}
use Rattle.std.proofs.lemmas.List.{take_all, drop_all}
use Rattle.tt_base.specs.declared.span.SpanPart.{SpanPart}
use Rattle.tt_base.specs.Forest.{Root, only}
use Rattle.tt_bytes.specs.declared.fault.BytesFault.{BytesFault}
use Rattle.tt_bytes.specs.declared.fault.BytesFault.TheVariants.{TooShort}
use Rattle.tt_bytes.specs.declared.numbers.Counts.{Counts}
use Rattle.tt_bytes.specs.Format.{mark, symbols_bytes, piece, PieceFits, AreBytesOf, AreBytesOfNone}
use Rattle.tt_bytes.specs.Front.{Held, ◌>>◌, or_short, behind_mark, behind_counts, behind_parts, counts_at, held, held_from, packed_from, parts_from, texts_from}
use Rattle.tt_tables.specs.Meaning.{IsAhead}
use Rattle.tt_tables.specs.Searches.{first_entries}
use Rattle.tt_tables.specs.Stored.{packed}
use Rattle.tt_tables.specs.Tables.{Tables}
use Rattle.tt_bytes.proofs.Apart.{apart, marked, counts_of, counts_found}
use Rattle.tt_bytes.proofs.Decoding.{root_ahead}
use Rattle.tt_bytes.proofs.Reading.{parts_again, texts_again}

-- The mark is wrong.
pub no_mark : (bytes : List ℕ) (fault : BytesFault) → behind_mark 0 mark bytes ≡ Err fault → held bytes ≡ Err fault
unfolding held
no_mark bytes fault wrong = ap (λ r. r >> held_from (length bytes)) wrong

-- The mark is right.
pub marked_held : (bytes rest : List ℕ) → behind_mark 0 mark bytes ≡ Ok rest → held bytes ≡ held_from (length bytes) rest
unfolding held
marked_held bytes rest right = ap (λ r. r >> held_from (length bytes)) right

-- The counts are not there.
pub no_counts : (all : ℕ) (bytes : List ℕ) → counts_at bytes ≡ None → held_from all bytes ≡ Err (TooShort all)
no_counts all bytes none = ap (λ r. or_short all r >> λ counts. behind_counts all counts.0 counts.1) none

-- The counts are there.
pub counted : (all : ℕ) (bytes rest : List ℕ) (counts : Counts) → counts_at bytes ≡ Some (counts, rest) → held_from all bytes ≡ behind_counts all counts rest
counted all bytes rest counts found = ap (λ r. or_short all r >> λ counts. behind_counts all counts.0 counts.1) found

-- The parts are not there.
pub no_parts : (all : ℕ) (counts : Counts) (bytes : List ℕ) (fault : BytesFault) → parts_from all counts.parts bytes ≡ Err fault → behind_counts all counts bytes ≡ Err fault
no_parts all counts bytes fault wrong = ap (λ r. r >> λ parts. behind_parts all counts parts.0 parts.1) wrong

-- The parts are there.
pub parts_there : (all : ℕ) (counts : Counts) (bytes rest : List ℕ) (parts : List SpanPart) → parts_from all counts.parts bytes ≡ Ok (parts, rest)
    → behind_counts all counts bytes ≡ behind_parts all counts parts rest
parts_there all counts bytes rest parts found = ap (λ r. r >> λ parts. behind_parts all counts parts.0 parts.1) found

-- The symbols are not there.
pub no_symbols : (all : ℕ) (counts : Counts) (parts : List SpanPart) (bytes : List ℕ) (fault : BytesFault) → texts_from all counts.symbols bytes ≡ Err fault
    → behind_parts all counts parts bytes ≡ Err fault
no_symbols all counts parts bytes fault wrong = ap (λ r. r >> λ symbols. packed_from all counts.bytes parts symbols.0 symbols.1) wrong

-- The symbols are there.
pub symbols_there : (all : ℕ) (counts : Counts) (parts : List SpanPart) (bytes rest : List ℕ) (symbols : List (List ℕ)) → texts_from all counts.symbols bytes ≡ Ok (symbols, rest)
    → behind_parts all counts parts bytes ≡ packed_from all counts.bytes parts symbols rest
symbols_there all counts parts bytes rest symbols found = ap (λ r. r >> λ symbols. packed_from all counts.bytes parts symbols.0 symbols.1) found

-- There are too few packed bytes.
pub packed_short : (all count : ℕ) (parts : List SpanPart) (symbols : List (List ℕ)) (bytes : List ℕ) → length bytes < count → packed_from all count parts symbols bytes ≡ Err (TooShort all)
packed_short all count parts symbols bytes few =
    elim (leb_tells count (length bytes)) [
      | inl room ↦ absurd (omega (arith, few, room.1))
      | inr short ↦
          ap (λ b. if b then Ok (record { parts = parts; symbols = symbols; packed = take count bytes; behind = drop count bytes }) else Err (TooShort all)) short.0
    ]

-- There are enough packed bytes.
pub packed_there : (all count : ℕ) (parts : List SpanPart) (symbols : List (List ℕ)) (bytes packed behind : List ℕ) → count ≤ length bytes → packed ≡ take count bytes → behind ≡ drop count bytes
    → packed_from all count parts symbols bytes ≡ Ok (record { parts = parts; symbols = symbols; packed = packed; behind = behind })
packed_there all count parts symbols bytes packed behind room is rest =
    ap (λ b. if b then Ok (record { parts = parts; symbols = symbols; packed = take count bytes; behind = drop count bytes }) else Err (TooShort all)) (le-leb count (length bytes) room)
    ∙ ap₂ (λ p b. Ok (record { parts = parts; symbols = symbols; packed = p; behind = b })) (sym is) (sym rest)

-- A piece holds what it was made from, and no bytes follow it.
pub piece_holds : (parts : List SpanPart) (symbols : List (List ℕ)) (below all : List ℕ) → PieceFits parts symbols below → all ≡ piece parts symbols below
    → held all ≡ Ok (record { parts = parts; symbols = symbols; packed = below; behind = [] })
piece_holds parts symbols below all fits is =
    marked_held all (marked parts symbols below) (ap (λ bytes. behind_mark 0 mark bytes) (is ∙ apart parts symbols below))
    ∙ counted (length all) (marked parts symbols below) _ counts (counts_found parts symbols below _ fits refl)
    ∙ parts_there (length all) counts _ _ parts (parts_again (length all) parts (symbols_bytes symbols ++ below) fits.each_part)
    ∙ symbols_there (length all) counts parts _ _ symbols (texts_again (length all) symbols below fits.each_text)
    ∙ packed_there (length all) (length below) parts symbols below below [] (omega arith) (sym (take_all (length below) below (omega arith))) (sym (drop_all (length below) below (omega arith)))
  where
    counts : Counts
    counts = counts_of parts symbols below

-- What the bytes of a tree hold is what is stored for the tree.
pub held_by : (root : Root) (all : List ℕ) (it : Held) → AreBytesOf root all → held all ≡ Ok it
    → (it.parts ≡ (packed root).parts) × (it.symbols ≡ (packed root).symbols) × (it.packed ≡ (packed root).bytes)
held_by root all it are holds =
    let same : it ≡ record { parts = (packed root).parts; symbols = (packed root).symbols; packed = (packed root).bytes; behind = [] } =
    cc (sym holds ∙ piece_holds (packed root).parts (packed root).symbols (packed root).bytes all are.has.fits are.is) in
    (ap (λ h. h.parts) same, ap (λ h. h.symbols) same, ap (λ h. h.packed) same)

-- Bytes with a fault in their front are those of no tree.
pub none_held : (all : List ℕ) (fault : BytesFault) → held all ≡ Err fault → AreBytesOfNone all
none_held all fault wrong root are = cc (sym wrong ∙ piece_holds (packed root).parts (packed root).symbols (packed root).bytes all are.has.fits are.is)

-- The tree is ahead at the start of the packed bytes that its bytes hold.
pub ahead_of : (root : Root) (all : List ℕ) (it : Held) (tables : Tables) → AreBytesOf root all → held all ≡ Ok it → tables ≡ first_entries it.parts it.symbols
    → IsAhead tables it.packed 0 (only root)
ahead_of root all it tables are holds same =
    let is = held_by root all it are holds in
    subst (λ t. IsAhead t it.packed 0 (only root)) (sym same) (root_ahead root it.packed it.parts it.symbols are.has.range are.has.limits is.0 is.1 is.2)
