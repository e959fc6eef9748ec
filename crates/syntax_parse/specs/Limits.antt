-- What it means that a text exceeds a limit.
use Rattle.std.specs.Prelude.{ℕ, ◌+◌, ◌<◌, List, [], ◌∷◌, ◌++◌}
use Rattle.std.specs.Str.{chars}
use Rattle.tt_base.specs.Building.{most_held}
use Rattle.tt_base.specs.Forest.{Root}
use Rattle.tt_base.specs.declared.fault.TtFault.{TtFault}
use Rattle.tt_base.specs.declared.fault.TtFault.TheVariants.{Memory, NotOneSubtree, NoSuchPlace, NotALeaf, SuffixTooLong, BadScan, TooManyTokens, TooManySpanParts, TooManySymbols, TooManyBytes, PointsSpent}
use Rattle.tt_base.specs.declared.span.SpanPart.{SpanPart}
use Rattle.tt.specs.FlatHeld.{Held}
use Rattle.syntax_lex.specs.Reading.{AreTokensOf}
use Rattle.syntax_lex.specs.declared.token.Token.{Token}
use Rattle.syntax_parse.specs.Parsed.{IsParse, pieces_from}
use Rattle.syntax_parse.specs.Spelled.{Piece, Sort, closing, name, opening, sign, spelled_so_far, value}
use Rattle.tt_view.specs.TreeFault.{IsTreeFault}

-- how many tokens of a tree a piece is: none for a closing, since its token is that of its opening
abbrev pub tokens_of : Sort → ℕ
tokens_of (name text is_raw) = 1
tokens_of (sign char spacing) = 1
tokens_of (value kind symbol suffix_len) = 1
tokens_of (opening kind) = 1
tokens_of (closing kind) = 0

-- how many tokens pieces are
abbrev pub token_count : List Piece → ℕ
token_count [] = 0
token_count (it ∷ rest) = tokens_of it.sort + token_count rest

-- why a builder does not take pieces: with them it would hold more tokens than a tree may have, or memory runs out
abbrev pub IsAddFault : (pieces : List Piece) → Held → TtFault → Type 0
IsAddFault pieces builder TooManyTokens = most_held < token_count (spelled_so_far builder.stack ++ pieces)
IsAddFault pieces builder Memory = Unit {0}
IsAddFault pieces builder SuffixTooLong = ⊥
IsAddFault pieces builder BadScan = ⊥
IsAddFault pieces builder NotOneSubtree = ⊥
IsAddFault pieces builder NoSuchPlace = ⊥
IsAddFault pieces builder NotALeaf = ⊥
IsAddFault pieces builder TooManySpanParts = ⊥
IsAddFault pieces builder TooManySymbols = ⊥
IsAddFault pieces builder TooManyBytes = ⊥
IsAddFault pieces builder PointsSpent = ⊥

-- the text's pieces are more tokens than a tree may have
pub record HasManyTokens (part : SpanPart) (text : List ℕ) : Type 0 where
  pub tokens : List Token
  pub read : AreTokensOf tokens (chars text)
  pub many : most_held < token_count (pieces_from part 0 text tokens)

-- the text has a tree, and the tree is refused for that reason
abbrev pub IsRefusedTree : SpanPart → (text : List ℕ) → TtFault → Type 0
IsRefusedTree part text fault = (root : Root) × IsParse part text root × IsTreeFault root fault

-- the text exceeds a limit, or memory runs out
abbrev pub IsLimit : SpanPart → (text : List ℕ) → TtFault → Type 0
IsLimit part text Memory = Unit {0}
IsLimit part text SuffixTooLong = ⊥
IsLimit part text BadScan = ⊥
IsLimit part text TooManyTokens = HasManyTokens part text
IsLimit part text TooManySpanParts = IsRefusedTree part text TooManySpanParts
IsLimit part text TooManySymbols = IsRefusedTree part text TooManySymbols
IsLimit part text TooManyBytes = IsRefusedTree part text TooManyBytes
IsLimit part text NotOneSubtree = ⊥
IsLimit part text NoSuchPlace = ⊥
IsLimit part text NotALeaf = ⊥
IsLimit part text PointsSpent = ⊥
