-- What a token means: leaves and brackets, with the bytes of the text that they cover.
use Rattle.std.specs.Prelude.{ℕ, ◌+◌, List, [], ◌∷◌, ◌++◌, length, codes, Option, None, Some, is_some, if◌then◌else◌}
use Rattle.tt_base.specs.Scan.{LiteralParts, parts_told}
use Rattle.tt_base.specs.Token.{rawness_of, without_raw_prefix}
use Rattle.tt_base.specs.declared.delimiter.DelimiterKind.TheVariants.{Bracket}
use Rattle.tt_base.specs.declared.ident.IdentIsRaw.TheVariants.{No}
use Rattle.tt_base.specs.declared.literal.LitKind.TheVariants.{StrRaw}
use Rattle.tt_base.specs.declared.punct.Spacing.{Spacing}
use Rattle.tt_base.specs.declared.punct.Spacing.TheVariants.{Alone, Joint}
use Rattle.tt_base.specs.declared.scan.LiteralScan.{LiteralScan}
use Rattle.tt_base.specs.declared.scan.LiteralScan.TheVariants as scan
use Rattle.tt_base.specs.declared.span.SpanPart.{SpanPart}
use Rattle.syntax_lex.specs.declared.token.DocStyle.{DocStyle}
use Rattle.syntax_lex.specs.declared.token.DocStyle.TheVariants.{Outer, Inner}
use Rattle.syntax_lex.specs.declared.token.LiteralKind.{LiteralKind}
use Rattle.syntax_lex.specs.declared.token.LiteralKind.TheVariants as literals
use Rattle.syntax_lex.specs.declared.token.TokenKind.{TokenKind}
use Rattle.syntax_lex.specs.declared.token.TokenKind.TheVariants as kinds
use Rattle.syntax_parse.specs.Doc.{block_text, hashes_wanted, line_text}
use Rattle.syntax_parse.specs.RawName.{behind_apostrophe}
use Rattle.syntax_parse.specs.Role.{kind_of, role_in}
use Rattle.syntax_parse.specs.declared.role.Role.{Role}
use Rattle.syntax_parse.specs.declared.role.Role.TheVariants.{Bad, Nothing, Opens, Closes, Leaf}
use Rattle.syntax_parse.specs.Spelled.{Piece, Sort, name, sign, value, opening, closing}

-- the scan for a lexer's kind
abbrev pub scan_of : LiteralKind → LiteralScan
scan_of (literals.Int base empty_int) = scan.Int
scan_of (literals.Float base empty_exponent) = scan.Float
scan_of (literals.Char terminated) = scan.Char terminated
scan_of (literals.Byte terminated) = scan.Byte terminated
scan_of (literals.Str terminated) = scan.Str terminated
scan_of (literals.ByteStr terminated) = scan.ByteStr terminated
scan_of (literals.CStr terminated) = scan.CStr terminated
scan_of (literals.RawStr n_hashes) = scan.RawStr n_hashes
scan_of (literals.RawByteStr n_hashes) = scan.RawByteStr n_hashes
scan_of (literals.RawCStr n_hashes) = scan.RawCStr n_hashes

-- the character of a punct; a bracket has none
abbrev pub punct_char : TokenKind → Option ℕ
punct_char kinds.Semi = Some 59
punct_char kinds.Comma = Some 44
punct_char kinds.Dot = Some 46
punct_char kinds.At = Some 64
punct_char kinds.Pound = Some 35
punct_char kinds.Tilde = Some 126
punct_char kinds.Question = Some 63
punct_char kinds.Colon = Some 58
punct_char kinds.Dollar = Some 36
punct_char kinds.Eq = Some 61
punct_char kinds.Bang = Some 33
punct_char kinds.Lt = Some 60
punct_char kinds.Gt = Some 62
punct_char kinds.Minus = Some 45
punct_char kinds.And = Some 38
punct_char kinds.Or = Some 124
punct_char kinds.Plus = Some 43
punct_char kinds.Star = Some 42
punct_char kinds.Slash = Some 47
punct_char kinds.Caret = Some 94
punct_char kinds.Percent = Some 37
punct_char _ = None

-- the spacing of a punct before the next token, white space too: joint before a punct or a lifetime
abbrev pub spacing_before : (next : Option TokenKind) → Spacing
spacing_before None = Alone
spacing_before (Some (kinds.Lifetime starts_with_number)) = Joint
spacing_before (Some kinds.RawLifetime) = Joint
spacing_before (Some kind) = if is_some (punct_char kind) then Joint else Alone

-- a piece of a text
abbrev pub piece : SpanPart → (start end : ℕ) → Sort → Piece
piece part start end sort = record { sort = sort; part = part; start = start; end = end }

-- the name that a text spells, raw if it begins with r#
abbrev pub name_of : List ℕ → Sort
name_of text = name (without_raw_prefix text) (rawness_of text)

-- a literal of these parts
abbrev pub literal_of : LiteralParts → Sort
literal_of parts = value parts.kind (parts.value ++ parts.suffix) (length parts.suffix)

-- a punct, if there is one
abbrev pub puncts : Option ℕ → Spacing → List Sort
puncts None spacing = []
puncts (Some c) spacing = sign c spacing ∷ []

-- the `#` of an attribute, and the `!` of one that documents the item around it
abbrev pub signs : DocStyle → List Sort
signs Outer = sign 35 Alone ∷ []
signs Inner = sign 35 Alone ∷ sign 33 Alone ∷ []

-- the contents of a documenting attribute: its text in a raw string
abbrev pub inside : (text : List ℕ) → List Sort
inside text = name (codes "doc") No ∷ sign 61 Alone ∷ value (StrRaw (hashes_wanted text)) text 0 ∷ []

-- the same in its brackets
abbrev pub attribute : (text : List ℕ) → List Sort
attribute text = opening Bracket ∷ (inside text ++ closing Bracket ∷ [])

-- what a documenting comment means: an attribute
abbrev pub doc : DocStyle → (text : List ℕ) → List Sort
doc style text = signs style ++ attribute text

-- what a leaf of a kind with this text is, if all of it has one span; empty for a lifetime
abbrev pub sorts_of : TokenKind → (next : Option TokenKind) → (text : List ℕ) → List Sort
sorts_of (kinds.LineComment (Some style)) next text = doc style (line_text style text)
sorts_of (kinds.BlockComment (Some style) terminated) next text = doc style (block_text style text)
sorts_of kinds.Ident next text = name_of text ∷ []
sorts_of kinds.RawIdent next text = name_of text ∷ []
sorts_of (kinds.Literal kind suffix_start) next text = literal_of (parts_told text (Some (scan_of kind, suffix_start))) ∷ []
sorts_of kind next text = puncts (punct_char kind) (spacing_before next)

-- pieces with one span
abbrev pub placed : SpanPart → (start end : ℕ) → List Sort → List Piece
placed part start end [] = []
placed part start end (sort ∷ sorts) = piece part start end sort ∷ placed part start end sorts

-- a lifetime: its quote, joint, and its name
abbrev pub lifetime : SpanPart → (start : ℕ) → (text : List ℕ) → List Piece
lifetime part start text =
    piece part start (start + 1) (sign 39 Joint) ∷ (piece part (start + 1) (start + length text) (name_of (behind_apostrophe text)) ∷ [])

-- the leaves of a token of a kind, with the kind of the next token; its text begins at byte `start`
abbrev pub leaves_of : SpanPart → TokenKind → (next : Option TokenKind) → (start : ℕ) → (text : List ℕ) → List Piece
leaves_of part (kinds.Lifetime starts_with_number) next start text = lifetime part start text
leaves_of part kinds.RawLifetime next start text = lifetime part start text
leaves_of part kind next start text = placed part start (start + length text) (sorts_of kind next text)

-- the pieces of a token of a role
abbrev pub pieces_as : Role → SpanPart → TokenKind → (next : Option TokenKind) → (start : ℕ) → (text : List ℕ) → List Piece
pieces_as (Bad why) part kind next start text = []
pieces_as Nothing part kind next start text = []
pieces_as (Opens bracket) part kind next start text = piece part start (start + length text) (opening (kind_of bracket)) ∷ []
pieces_as (Closes bracket) part kind next start text = piece part start (start + length text) (closing (kind_of bracket)) ∷ []
pieces_as Leaf part kind next start text = leaves_of part kind next start text

-- the pieces of a token of a kind, with the kind of the next token; its text begins at byte `start`
abbrev pub pieces_of : SpanPart → TokenKind → (next : Option TokenKind) → (start : ℕ) → (text : List ℕ) → List Piece
pieces_of part kind next start text = pieces_as (role_in kind text) part kind next start text
