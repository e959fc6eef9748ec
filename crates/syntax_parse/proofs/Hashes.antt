-- Facts about the text of a token with nothing wrong inside: its comment needs few hashes, and its suffix is short.
use Rattle.std.proofs.Common.{◌≡◌, ℕ, ◌+◌, ◌-◌, ◌<◌, ◌≤◌, Bool, true, false, ◌&&◌, ◌==◌, max, List, [], ◌∷◌, length, drop, slice_range, Option, None, Some, refl, arith, if◌then◌else◌}
use Rattle.std.proofs.lemmas.Bool.{ltb-false}
use Rattle.std.specs.Prelude.{nat_lt, codes, bytes_eq}
use Rattle.tt_base.specs.Scan.{FitsText, IsScanFault, closing_len, is_number, kind_told, opening_len, parts_told, suffix_told, told}
use Rattle.tt_base.specs.declared.fault.TtFault.{TtFault}
use Rattle.tt_base.specs.declared.fault.TtFault.TheVariants.{Memory, NotOneSubtree, NoSuchPlace, NotALeaf, SuffixTooLong, BadScan, TooManyTokens, TooManySpanParts, TooManySymbols, TooManyBytes, PointsSpent}
use Rattle.tt_base.specs.declared.literal.LitKind.{LitKind}
use Rattle.tt.specs.FlatHeld.{Held}
use Rattle.syntax_lex.specs.declared.token.DocStyle.{DocStyle}
use Rattle.syntax_lex.specs.declared.token.LiteralKind.{LiteralKind}
use Rattle.syntax_lex.specs.declared.token.LiteralKind.TheVariants as literals
use Rattle.syntax_lex.specs.declared.token.TokenKind.TheVariants as kinds
use Rattle.syntax_parse.specs.Doc.{block_text, hashes_wanted, line_text, longest_run, next_run}
use Rattle.syntax_parse.specs.Inside.{before_suffix, block_fault, fault_if, first_of, hashes_fault, inner_return, inside_fault, line_fault, literal_fault, return_fault, suffix_fault, takes_suffix}
use Rattle.syntax_parse.specs.Limits.{IsAddFault}
use Rattle.syntax_parse.specs.Pieces.{scan_of}
use Rattle.syntax_parse.specs.Role.{literal_role, role_in, with_inside}
use Rattle.syntax_parse.specs.Spelled.{Piece}
use Rattle.syntax_parse.specs.declared.fault.BadToken.{BadToken}
use Rattle.syntax_parse.specs.declared.fault.BadToken.TheVariants as bad
use Rattle.syntax_parse.specs.declared.role.Role.{Role}
use Rattle.syntax_parse.specs.declared.role.Role.TheVariants.{Bad, Closes, Leaf, Nothing, Opens}

-- a run grows by at most one
run_grows : (run byte : ℕ) → next_run run byte ≤ run + 1
run_grows run byte = go (byte == 34) ((byte == 35) && nat_lt 0 run)
  where
    go : (quote hash : Bool) → (if quote then 1 else (if hash then run + 1 else 0)) ≤ run + 1
    go true hash = omega arith
    go false true = omega arith
    go false false = omega arith

longest_within : (run most n : ℕ) (text : List ℕ) → run ≤ n → most ≤ n → longest_run run most text ≤ n + length text
longest_within run most n [] r m = omega (arith, m)
longest_within run most n (byte ∷ bytes) r m =
    let grown = run_grows run byte in
    let more = longest_within (next_run run byte) (max most (next_run run byte)) (n + 1) bytes (omega (arith, grown, r)) (omega (arith, grown, r, m)) in omega (arith, more)

-- a text needs no more hashes than it has bytes
pub few_wanted : (text : List ℕ) → hashes_wanted text ≤ length text
few_wanted text = let within = longest_within 0 0 0 text (omega arith) (omega arith) in omega (arith, within)

-- nothing is wrong inside of a leaf
pub none_wrong : (role : Role) (inside : Option BadToken) → with_inside role inside ≡ Leaf → inside ≡ None
none_wrong role None h = refl
none_wrong (Bad why) (Some other) h = cc
none_wrong Nothing (Some other) h = cc
none_wrong (Opens pair) (Some other) h = cc
none_wrong (Closes pair) (Some other) h = cc
none_wrong Leaf (Some other) h = cc

second_none : (a b : Option BadToken) → first_of a b ≡ None → b ≡ None
second_none None b h = h
second_none (Some why) b h = cc

none_if : (wrong : Bool) (why : BadToken) → fault_if wrong why ≡ None → wrong ≡ false
none_if true why h = cc
none_if false why h = refl

few : (n : ℕ) → fault_if (nat_lt 255 n) bad.TooManyHashes ≡ None → n < 256
few n h = let le = ltb-false 255 n (none_if (nat_lt 255 n) bad.TooManyHashes h) in omega (arith, le)

-- the text of a comment that is a leaf needs few hashes
pub line_few : (style : DocStyle) (text : List ℕ) → role_in (kinds.LineComment (Some style)) text ≡ Leaf → hashes_wanted (line_text style text) < 256
line_few style text role =
    few (hashes_wanted (line_text style text))
    (second_none (fault_if (inner_return text) bad.BareReturn) (hashes_fault (line_text style text)) (none_wrong Leaf (line_fault style text) role))

pub block_few : (style : DocStyle) (terminated : Bool) (text : List ℕ) → role_in (kinds.BlockComment (Some style) terminated) text ≡ Leaf → hashes_wanted (block_text style text) < 256
block_few style true text role =
    few (hashes_wanted (block_text style text)) (second_none (return_fault text) (hashes_fault (block_text style text)) (none_wrong Leaf (block_fault style text) role))
block_few style false text role =
    few (hashes_wanted (block_text style text)) (second_none (return_fault text) (hashes_fault (block_text style text)) (none_wrong (Bad bad.UnterminatedComment) (block_fault style text) role))

-- the suffix that counts is no longer than what follows the value
suffix_within : (behind : List ℕ) → length (suffix_told behind) ≤ length behind
suffix_within behind = go (bytes_eq behind (codes "_"))
  where
    go : (b : Bool) → length (if b then [] else behind) ≤ length behind
    go true = omega arith
    go false = omega arith

-- a literal that is no number has no suffix
no_suffix : (text : List ℕ) (kind : LitKind) (value suffix : List ℕ) → is_number kind ≡ false → length (told text kind value suffix).suffix ≤ 255
no_suffix text kind value [] other = rw other (omega arith)
no_suffix text kind value (c ∷ cs) other = rw other (omega arith)

-- the suffix of a number is all that follows its value
number_short : (place : ℕ) (text : List ℕ) → nat_lt 255 (length (drop place text)) ≡ false → length (suffix_told (drop place text)) ≤ 255
number_short place text h = let le = ltb-false 255 (length (drop place text)) h in let within = suffix_within (drop place text) in omega (arith, le, within)

other_short : (kind : LiteralKind) (place : ℕ) (text : List ℕ) → is_number (kind_told (scan_of kind)) ≡ false → length (parts_told text (Some (scan_of kind, place))).suffix ≤ 255
other_short kind place text other =
    no_suffix text (kind_told (scan_of kind)) (slice_range text (opening_len (scan_of kind)) (place - closing_len (scan_of kind))) (suffix_told (drop place text)) other

-- a suffix is short if nothing reports it as too long
short_of : (kind : LiteralKind) (place : ℕ) (text : List ℕ) → (takes_suffix kind && nat_lt 255 (length (drop place text))) ≡ false → length (parts_told text (Some (scan_of kind, place))).suffix ≤ 255
short_of (literals.Int base empty) place text h = number_short place text h
short_of (literals.Float base empty) place text h = number_short place text h
short_of (literals.Char terminated) place text h = other_short (literals.Char terminated) place text refl
short_of (literals.Byte terminated) place text h = other_short (literals.Byte terminated) place text refl
short_of (literals.Str terminated) place text h = other_short (literals.Str terminated) place text refl
short_of (literals.ByteStr terminated) place text h = other_short (literals.ByteStr terminated) place text refl
short_of (literals.CStr terminated) place text h = other_short (literals.CStr terminated) place text refl
short_of (literals.RawStr hashes) place text h = other_short (literals.RawStr hashes) place text refl
short_of (literals.RawByteStr hashes) place text h = other_short (literals.RawByteStr hashes) place text refl
short_of (literals.RawCStr hashes) place text h = other_short (literals.RawCStr hashes) place text refl

-- the suffix of a literal that is a leaf is short
pub short_suffix : (kind : LiteralKind) (place : ℕ) (text : List ℕ) → role_in (kinds.Literal kind place) text ≡ Leaf → length (parts_told text (Some (scan_of kind, place))).suffix ≤ 255
short_suffix kind place text role =
    short_of kind place text
    (none_if (takes_suffix kind && nat_lt 255 (length (drop place text))) bad.SuffixTooLong
    (second_none (inside_fault kind (before_suffix place text)) (suffix_fault kind place text) (none_wrong (literal_role kind text) (literal_fault kind place text) role)))

-- so a scan meets no fault
pub scan_fault : (kind : LiteralKind) (place : ℕ) (text : List ℕ) (ps : List Piece) (s : Held) (fault : TtFault)
    → FitsText text (scan_of kind) place → length (parts_told text (Some (scan_of kind, place))).suffix ≤ 255 → IsScanFault text (Some (scan_of kind, place)) fault → IsAddFault ps s fault
scan_fault kind place text ps s BadScan fits short h = absurd (h fits)
scan_fault kind place text ps s SuffixTooLong fits short h = absurd (omega (arith, short, h.1))
scan_fault kind place text ps s Memory fits short h = tt
scan_fault kind place text ps s NotOneSubtree fits short h = absurd h
scan_fault kind place text ps s NoSuchPlace fits short h = absurd h
scan_fault kind place text ps s NotALeaf fits short h = absurd h
scan_fault kind place text ps s TooManyTokens fits short h = absurd h
scan_fault kind place text ps s TooManySpanParts fits short h = absurd h
scan_fault kind place text ps s TooManySymbols fits short h = absurd h
scan_fault kind place text ps s TooManyBytes fits short h = absurd h
scan_fault kind place text ps s PointsSpent fits short h = absurd h
