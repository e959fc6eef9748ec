-- How the front of a piece is read: as a value and the bytes after it, or as a fault and the byte that shows it.
use Rattle.std.specs.Prelude.{ℕ, zero, suc, ◌+◌, ◌-◌, ◌==◌, nat_le, if◌then◌else◌, List, [], ◌∷◌, length, take, drop, None, Some, Result, Ok, Err}
use Rattle.std.specs.Str.{is_utf8}
use Rattle.std.specs.Str.Lossy.{utf8_valid_len}
use Rattle.tt_base.specs.declared.span.SpanPart.{SpanPart}
use Rattle.tt_bytes.specs.declared.fault.BytesFault.{BytesFault}
use Rattle.tt_bytes.specs.declared.fault.BytesFault.TheVariants.{TooShort, OtherFormat, NoText}
use Rattle.tt_bytes.specs.declared.numbers.Counts.{Counts}
use Rattle.tt_bytes.specs.declared.piece.Piece.{Piece}
use Rattle.tt_bytes.specs.Format.{mark}
use Rattle.tt_codec.specs.Read.{Read, ◌>>=◌, word_at}

-- a value and the bytes after it, or a fault
abbrev pub Reads : Type 0 → Type 0
Reads X = Result (X × List ℕ) BytesFault

infixl 10 ◌>>◌
-- goes on with the value, if there is no fault
abbrev pub ◌>>◌ : {X Y : Type 0} → Result X BytesFault → (X → Result Y BytesFault) → Result Y BytesFault
Ok x >> f = f x
Err fault >> f = Err fault

-- a fault if there is no value, since the `all` bytes of the piece end too soon
abbrev pub or_short : {X : Type 0} → (all : ℕ) → Read X → Reads X
or_short all None = Err (TooShort all)
or_short all (Some found) = Ok found

-- the bytes after a mark; the first byte that differs is of another format
abbrev pub behind_mark : (at : ℕ) → (mark bytes : List ℕ) → Result (List ℕ) BytesFault
behind_mark at [] bytes = Ok bytes
behind_mark at (wanted ∷ more) [] = Err (TooShort at)
behind_mark at (wanted ∷ more) (byte ∷ bytes) = if byte == wanted then behind_mark (at + 1) more bytes else Err (OtherFormat at)

-- a part
abbrev pub part_at : List ℕ → Read SpanPart
part_at bytes =
    word_at bytes >>= λ file. word_at file.1 >>= λ ast. word_at ast.1 >>= λ ctx.
    Some (record { anchor = record { file_id = record { 0 = file.0 }; ast_id = record { 0 = ast.0 } }; ctx = record { 0 = ctx.0 } }, ctx.1)

-- three counts
abbrev pub counts_at : List ℕ → Read Counts
counts_at bytes =
    word_at bytes >>= λ parts. word_at parts.1 >>= λ symbols. word_at symbols.1 >>= λ below.
    Some (record { parts = parts.0; symbols = symbols.0; bytes = below.0 }, below.1)

-- `count` parts
abbrev pub parts_from : (all count : ℕ) → List ℕ → Reads (List SpanPart)
parts_from all zero bytes = Ok ([], bytes)
parts_from all (suc count) bytes = or_short all (part_at bytes) >> λ part. parts_from all count part.1 >> λ parts. Ok (part.0 ∷ parts.0, parts.1)

-- a text of `count` bytes; a fault at the first byte that is not UTF-8
abbrev pub text_of : (all count : ℕ) → List ℕ → Reads (List ℕ)
text_of all count bytes =
    if nat_le count (length bytes)
    then (if is_utf8 (take count bytes) then Ok (take count bytes, drop count bytes) else Err (NoText (all - length bytes + utf8_valid_len (take count bytes))))
    else Err (TooShort all)

-- a symbol: the number of bytes of its text, and its text
abbrev pub text_from : (all : ℕ) → List ℕ → Reads (List ℕ)
text_from all bytes = or_short all (word_at bytes) >> λ count. text_of all count.0 count.1

-- `count` symbols
abbrev pub texts_from : (all count : ℕ) → List ℕ → Reads (List (List ℕ))
texts_from all zero bytes = Ok ([], bytes)
texts_from all (suc count) bytes = text_from all bytes >> λ text. texts_from all count text.1 >> λ texts. Ok (text.0 ∷ texts.0, texts.1)

-- the tables and the packed bytes of a piece, and the bytes after its end
pub record Held : Type 0 where
  pub parts : List SpanPart
  pub symbols : List (List ℕ)
  pub packed : List ℕ
  pub behind : List ℕ

-- `count` packed bytes, after these tables
abbrev pub packed_from : (all count : ℕ) → List SpanPart → List (List ℕ) → List ℕ → Result Held BytesFault
packed_from all count parts symbols bytes =
    if nat_le count (length bytes)
    then Ok (record { parts = parts; symbols = symbols; packed = take count bytes; behind = drop count bytes })
    else Err (TooShort all)

-- what the bytes after these parts hold
abbrev pub behind_parts : (all : ℕ) → Counts → List SpanPart → List ℕ → Result Held BytesFault
behind_parts all counts parts bytes = texts_from all counts.symbols bytes >> λ symbols. packed_from all counts.bytes parts symbols.0 symbols.1

-- what the bytes after these counts hold
abbrev pub behind_counts : (all : ℕ) → Counts → List ℕ → Result Held BytesFault
behind_counts all counts bytes = parts_from all counts.parts bytes >> λ parts. behind_parts all counts parts.0 parts.1

-- what the bytes after the mark hold
abbrev pub held_from : (all : ℕ) → List ℕ → Result Held BytesFault
held_from all bytes = or_short all (counts_at bytes) >> λ counts. behind_counts all counts.0 counts.1

-- what bytes hold, or the first fault in them
unfoldable pub held : List ℕ → Result Held BytesFault
held bytes = behind_mark 0 mark bytes >> held_from (length bytes)

-- what a piece of the code holds
abbrev pub held_in : Piece → Held
held_in it = record { parts = it.parts.items; symbols = it.symbols.items; packed = it.packed.now; behind = it.behind.now }
