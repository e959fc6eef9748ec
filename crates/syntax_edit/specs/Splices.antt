-- Trees that replace parts of a text, and how the text is read then.
use Rattle.std.specs.Prelude.{◌≡◌, ℕ, ◌+◌, ◌-◌, Bool, true, false, ◌&&◌, List, [], ◌∷◌, ◌++◌, drop, None, nat_lt, if◌then◌else◌}
use Rattle.std.specs.Str.{IsUtf8}
use Rattle.tt_base.specs.Forest.{Forest}
use Rattle.syntax_edit.specs.Texts.{Replacement}
use Rattle.syntax_lex.specs.Reading.{bytes_of}
use Rattle.syntax_lex.specs.declared.token.Token.{Token}
use Rattle.syntax_lex.specs.declared.token.TokenKind.{TokenKind}
use Rattle.syntax_lex.specs.declared.token.TokenKind.TheVariants as kinds
use Rattle.syntax_edit.specs.Kept.{ends_in_line, is_number}
use Rattle.syntax_parse.specs.Faults.{fault_from}
use Rattle.syntax_parse.specs.Spelled.{Piece, Sort}
use Rattle.syntax_unparse.specs.Marks.{marks}
use Rattle.syntax_unparse.specs.Settled.{ReadsBack, settled, sorts}
use Rattle.syntax_unparse.specs.Writable.{is_name}

-- A text spells trees: it reads back as them, and its last token is no comment to the end of a line, so that another text may follow it.
pub record IsSpelling (trees : Forest) (text : List ℕ) : Type 0 where
  pub utf8 : IsUtf8 text
  pub back : ReadsBack trees text
  pub line : ends_in_line back.tokens ≡ false

-- trees that replace the bytes from a place to another, and a text that spells them
pub record Splice : Type 0 where
  pub start : ℕ
  pub end : ℕ
  pub trees : Forest
  pub text : List ℕ

-- the text, in that place
abbrev pub replacement_of : Splice → Replacement
replacement_of it = record { start = it.start; end = it.end; text = it.text }

-- the texts of all splices
abbrev pub replacements_of : List Splice → List Replacement
replacements_of [] = []
replacements_of (it ∷ others) = replacement_of it ∷ replacements_of others

-- whether the first token is a name
abbrev pub begins_with_name : List Token → Bool
begins_with_name [] = false
begins_with_name (token ∷ tokens) = is_name token.kind

-- whether a token is a point
abbrev pub is_dot : TokenKind → Bool
is_dot kinds.Dot = true
is_dot _ = false

-- whether the last token is a point right after a number
abbrev pub ends_in_point : List Token → Bool
ends_in_point [] = false
ends_in_point (first ∷ []) = false
ends_in_point (first ∷ second ∷ []) = is_number first.kind && is_dot second.kind
ends_in_point (first ∷ second ∷ third ∷ tokens) = ends_in_point (second ∷ third ∷ tokens)

-- Where trees are spliced into a text of these tokens, which begins at byte `at`. The trees replace tokens that begin with a name and have
-- matching brackets. No point right after a number precedes these tokens. The text spells the trees.
pub record IsPlace (it : Splice) (at : ℕ) (text : List ℕ) (tokens : List Token) : Type 0 where
  pub before : List Token
  pub inside : List Token
  pub behind : List Token
  pub parts : tokens ≡ before ++ (inside ++ behind)
  pub begins : it.start ≡ at + bytes_of before
  pub ends : it.end ≡ it.start + bytes_of inside
  pub named : begins_with_name inside ≡ true
  pub matched : fault_from [] 0 (drop (bytes_of before) text) inside ≡ None
  pub apart : ends_in_point before ≡ false
  pub spelling : IsSpelling it.trees it.text

-- all splices, in order: each begins at the end of the one before it or after it
abbrev pub ArePlaces : List Splice → (at : ℕ) → (text : List ℕ) → List Token → Type 0
ArePlaces [] at text tokens = Unit {0}
ArePlaces (it ∷ others) at text tokens = (place : IsPlace it at text tokens) × ArePlaces others it.end (drop (it.end - at) text) place.behind

-- the pieces that begin before a byte
abbrev pub before_byte : ℕ → List Piece → List Piece
before_byte at [] = []
before_byte at (piece ∷ pieces) = if nat_lt piece.start at then piece ∷ before_byte at pieces else before_byte at pieces

-- the pieces that begin at a byte or after it
abbrev pub from_byte : ℕ → List Piece → List Piece
from_byte at [] = []
from_byte at (piece ∷ pieces) = if nat_lt piece.start at then from_byte at pieces else piece ∷ from_byte at pieces

-- the reading of the text then: the pieces outside of the places, and the settled leaves and brackets of the trees in each place
abbrev pub woven : List Splice → List Piece → List Sort
woven [] pieces = sorts pieces
woven (it ∷ others) pieces = sorts (before_byte it.start pieces) ++ (settled (marks 0 it.trees) ++ woven others (from_byte it.end pieces))
