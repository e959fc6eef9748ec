-- How the front of a piece is read, value by value; and what was written is read again.
use Rattle.std.proofs.Common.{◌≡◌, ℕ, suc, ◌+◌, ◌-◌, ◌≤◌, true, false, if◌then◌else◌, List, [], ◌∷◌, ◌++◌, length, length-append, take, drop, append_assoc, append-nil, Some, None, Ok, Err, refl, ap, ap₂, sym, ◌∙◌, subst, arith}
use Rattle.std.proofs.lemmas.Bool.{le-leb}
use Rattle.std.proofs.lemmas.Str.{is_utf8-from_IsUtf8, IsUtf8-from_is_utf8}
use Rattle.std.proofs.Math.Seq.{take-append_seam, drop-append_seam}
use Rattle.std.specs.List.{AllByRecursion}
use Rattle.std.specs.Prelude.{Bool, IsUtf8}
use Rattle.std.specs.Str.{is_utf8}
use Rattle.std.specs.Str.Lossy.{utf8_valid_len}
use Rattle.tt_base.specs.declared.span.SpanPart.{SpanPart}
use Rattle.tt_bytes.specs.declared.fault.BytesFault.{BytesFault}
use Rattle.tt_bytes.specs.declared.fault.BytesFault.TheVariants.{TooShort, NoText}
use Rattle.tt_bytes.specs.Format.{number_bytes, part_bytes, parts_bytes, symbol_bytes, symbols_bytes, PartFits, TextFits}
use Rattle.tt_bytes.specs.Front.{Reads, ◌>>◌, or_short, part_at, parts_from, text_of, text_from, texts_from}
use Rattle.tt_bytes.proofs.Again.{part_again, number_again}

-- the values that were taken, before those that are read
abbrev pub before : {X : Type 0} → List X → Reads (List X) → Reads (List X)
before taken (Ok found) = Ok (taken ++ found.0, found.1)
before taken (Err fault) = Err fault

-- One more value is taken.
one_more : {X : Type 0} (taken more : List X) (x : X) (read : Reads (List X)) → more ≡ taken ++ x ∷ []
    → before taken (read >> λ found. Ok (x ∷ found.0, found.1)) ≡ before more read
one_more taken more x (Ok found) is = ap (λ l. Ok (l, found.1)) (sym (ap (λ l. l ++ found.0) is ∙ append_assoc taken (x ∷ []) found.0))
one_more taken more x (Err fault) is = refl

-- A part is taken.
pub part_taken : (all k left : ℕ) (taken more : List SpanPart) (part : SpanPart) (bytes behind : List ℕ) → left ≡ suc k → part_at bytes ≡ Some (part, behind)
    → more ≡ taken ++ part ∷ [] → before taken (parts_from all left bytes) ≡ before more (parts_from all k behind)
part_taken all k left taken more part bytes behind is_left read is =
    ap (λ n. before taken (parts_from all n bytes)) is_left
    ∙ ap (λ r. before taken (or_short all r >> λ part. parts_from all k part.1 >> λ parts. Ok (part.0 ∷ parts.0, parts.1))) read
    ∙ one_more taken more part (parts_from all k behind) is

-- No part can be taken.
pub part_missing : (all k left : ℕ) (taken : List SpanPart) (bytes : List ℕ) → left ≡ suc k → part_at bytes ≡ None
    → before taken (parts_from all left bytes) ≡ Err (TooShort all)
part_missing all k left taken bytes is_left none =
    ap (λ n. before taken (parts_from all n bytes)) is_left
    ∙ ap (λ r. before taken (or_short all r >> λ part. parts_from all k part.1 >> λ parts. Ok (part.0 ∷ parts.0, parts.1))) none

-- All parts are taken.
pub parts_taken : (all left : ℕ) (taken : List SpanPart) (bytes : List ℕ) → left ≡ 0 → before taken (parts_from all left bytes) ≡ Ok (taken, bytes)
parts_taken all left taken bytes none =
    ap (λ n. before taken (parts_from all n bytes)) none ∙ ap (λ l. Ok (l, bytes)) (append-nil taken)

-- A symbol is taken.
pub text_taken : (all k left : ℕ) (taken more : List (List ℕ)) (text : List ℕ) (bytes behind : List ℕ) → left ≡ suc k → text_from all bytes ≡ Ok (text, behind)
    → more ≡ taken ++ text ∷ [] → before taken (texts_from all left bytes) ≡ before more (texts_from all k behind)
text_taken all k left taken more text bytes behind is_left read is =
    ap (λ n. before taken (texts_from all n bytes)) is_left
    ∙ ap (λ r. before taken (r >> λ text. texts_from all k text.1 >> λ texts. Ok (text.0 ∷ texts.0, texts.1))) read
    ∙ one_more taken more text (texts_from all k behind) is

-- No symbol can be taken, or its text is not UTF-8.
pub text_missing : (all k left : ℕ) (taken : List (List ℕ)) (bytes : List ℕ) (fault : BytesFault) → left ≡ suc k → text_from all bytes ≡ Err fault
    → before taken (texts_from all left bytes) ≡ Err fault
text_missing all k left taken bytes fault is_left none =
    ap (λ n. before taken (texts_from all n bytes)) is_left
    ∙ ap (λ r. before taken (r >> λ text. texts_from all k text.1 >> λ texts. Ok (text.0 ∷ texts.0, texts.1))) none

-- All symbols are taken.
pub texts_taken : (all left : ℕ) (taken : List (List ℕ)) (bytes : List ℕ) → left ≡ 0 → before taken (texts_from all left bytes) ≡ Ok (taken, bytes)
texts_taken all left taken bytes none =
    ap (λ n. before taken (texts_from all n bytes)) none ∙ ap (λ l. Ok (l, bytes)) (append-nil taken)

-- With nothing taken, the read is the same.
pub none_taken : {X : Type 0} (read : Reads (List X)) → before [] read ≡ read
none_taken (Ok found) = refl
none_taken (Err fault) = refl

-- Parts that were written are read again.
pub parts_again : (all : ℕ) (given : List SpanPart) (rest : List ℕ) → AllByRecursion PartFits given
    → parts_from all (length given) (parts_bytes given ++ rest) ≡ Ok (given, rest)
parts_again all [] rest fits = refl
parts_again all (part ∷ given) rest fits =
    ap (λ bytes. or_short all (part_at bytes) >> λ part. parts_from all (length given) part.1 >> λ parts. Ok (part.0 ∷ parts.0, parts.1))
    (append_assoc (part_bytes part) (parts_bytes given) rest)
    ∙ ap (λ r. or_short all r >> λ part. parts_from all (length given) part.1 >> λ parts. Ok (part.0 ∷ parts.0, parts.1))
    (part_again part (parts_bytes given ++ rest) fits.0)
    ∙ ap (λ r. r >> λ parts. Ok (part ∷ parts.0, parts.1)) (parts_again all given rest fits.1)

-- A test that cannot pass is false.
not_true : (b : Bool) → (b ≡ true → ⊥) → b ≡ false
not_true true never = absurd (never refl)
not_true false never = refl

-- A text of `count` bytes is there.
pub text_there : (all count : ℕ) (bytes text behind : List ℕ) → count ≤ length bytes → text ≡ take count bytes → behind ≡ drop count bytes → IsUtf8 text
    → text_of all count bytes ≡ Ok (text, behind)
text_there all count bytes text behind room is rest utf8 =
    ap (λ b. if b then (if is_utf8 (take count bytes) then Ok (take count bytes, drop count bytes) else Err (NoText (all - length bytes + utf8_valid_len (take count bytes)))) else Err (TooShort all)) (le-leb count (length bytes) room)
    ∙ ap (λ b. if b then Ok (take count bytes, drop count bytes) else Err (NoText (all - length bytes + utf8_valid_len (take count bytes)))) (is_utf8-from_IsUtf8 (take count bytes) (subst IsUtf8 is utf8))
    ∙ ap₂ (λ t b. Ok (t, b)) (sym is) (sym rest)

-- `count` bytes are there, and are not UTF-8.
pub no_text_there : (all count : ℕ) (bytes : List ℕ) → count ≤ length bytes → (IsUtf8 (take count bytes) → ⊥)
    → text_of all count bytes ≡ Err (NoText (all - length bytes + utf8_valid_len (take count bytes)))
no_text_there all count bytes room none =
    ap (λ b. if b then (if is_utf8 (take count bytes) then Ok (take count bytes, drop count bytes) else Err (NoText (all - length bytes + utf8_valid_len (take count bytes)))) else Err (TooShort all)) (le-leb count (length bytes) room)
    ∙ ap (λ b. if b then Ok (take count bytes, drop count bytes) else Err (NoText (all - length bytes + utf8_valid_len (take count bytes)))) (not_true (is_utf8 (take count bytes)) (λ yes. none (IsUtf8-from_is_utf8 (take count bytes) yes)))

-- A symbol that was written is read again.
text_again : (all : ℕ) (text rest : List ℕ) → TextFits text → text_from all (symbol_bytes text ++ rest) ≡ Ok (text, rest)
text_again all text rest fits =
    ap (λ bytes. text_from all bytes) (append_assoc (number_bytes (length text)) text rest)
    ∙ ap (λ r. or_short all r >> λ count. text_of all count.0 count.1) (number_again (length text) (text ++ rest) fits.short)
    ∙ text_there all (length text) (text ++ rest) text rest (omega (arith, length-append text rest)) (sym (take-append_seam text rest)) (sym (drop-append_seam text rest)) fits.utf8

-- Symbols that were written are read again.
pub texts_again : (all : ℕ) (given : List (List ℕ)) (rest : List ℕ) → AllByRecursion TextFits given
    → texts_from all (length given) (symbols_bytes given ++ rest) ≡ Ok (given, rest)
texts_again all [] rest fits = refl
texts_again all (text ∷ given) rest fits =
    ap (λ bytes. text_from all bytes >> λ text. texts_from all (length given) text.1 >> λ texts. Ok (text.0 ∷ texts.0, texts.1))
    (append_assoc (symbol_bytes text) (symbols_bytes given) rest)
    ∙ ap (λ r. r >> λ text. texts_from all (length given) text.1 >> λ texts. Ok (text.0 ∷ texts.0, texts.1))
    (text_again all text (symbols_bytes given ++ rest) fits.0)
    ∙ ap (λ r. r >> λ texts. Ok (text ∷ texts.0, texts.1)) (texts_again all given rest fits.1)
