-- Which leaves can be written: those with a text that reads back.
use Rattle.std.specs.Prelude.{◌≡◌, ◌⊎◌, ◌<◌, ◌≤◌, ◌^◌, ℕ, ◌+◌, Bool, true, false, ◌==◌, ◌||◌, IsTrue, List, [], ◌∷◌, ◌++◌, length, Option, None, Some}
use Rattle.std.specs.Str.{chars, IsUtf8}
use Rattle.tt_base.specs.Forest.{Forest}
use Rattle.tt_base.specs.LeafText.{ident_text, leaf_text}
use Rattle.tt_base.specs.Literal.{IsLiteral, span_of}
use Rattle.tt_base.specs.Scan.{LiteralParts, parts_told}
use Rattle.tt_base.specs.Token.{rawness_of, without_raw_prefix}
use Rattle.tt_base.specs.declared.leaf.Leaf.{Leaf}
use Rattle.tt_base.specs.declared.leaf.Leaf.TheVariants as leaf_of
use Rattle.tt_base.specs.declared.literal.Literal.{Literal}
use Rattle.syntax_lex.specs.Reading.{first_token_of}
use Rattle.syntax_lex.specs.declared.token.TokenKind.{TokenKind}
use Rattle.syntax_lex.specs.declared.token.TokenKind.TheVariants as kinds
use Rattle.syntax_parse.specs.Pieces.{punct_char, scan_of}
use Rattle.syntax_parse.specs.Role.{role_in}
use Rattle.syntax_parse.specs.declared.role.Role.TheVariants.{Leaf as IsLeaf}
use Rattle.syntax_unparse.specs.Marks.{Mark, word, opening, closing, marks}
use Rattle.syntax_unparse.specs.Text.{behind_leaf, text_of}
use Rattle.syntax_unparse.specs.declared.behind.Behind.{Behind}
use Rattle.syntax_unparse.specs.declared.behind.Behind.TheVariants.{Opening, Apart, Slash, Pound, Quote}
use Rattle.syntax_unparse.specs.declared.fault.WriteFault.{WriteFault}
use Rattle.syntax_unparse.specs.declared.fault.WriteFault.TheVariants.{NotWritable, TooLong, Memory}

-- the kind of the first token of a text
abbrev pub first_kind : (text : List ℕ) → TokenKind
first_kind text = (first_token_of (chars text)).kind

-- a text (UTF-8, as all texts are) is one token that means leaves
pub record IsOneToken (text : List ℕ) : Type 0 where
  pub utf8 : IsUtf8 text
  pub whole : (first_token_of (chars text)).len ≡ length text
  pub fine : role_in (first_kind text) text ≡ IsLeaf

-- a literal is made of these parts
abbrev pub HasParts : Literal → LiteralParts → Type 0
HasParts literal parts = IsLiteral literal (parts.value ++ parts.suffix) (span_of literal) parts.kind (length parts.suffix)

-- a token with this text means the literal
abbrev pub MeansLiteral : TokenKind → (text : List ℕ) → Literal → Type 0
MeansLiteral (kinds.Literal kind suffix_start) text literal = HasParts literal (parts_told text (Some (scan_of kind, suffix_start)))
MeansLiteral _ text literal = ⊥

-- whether a token is a name
abbrev pub is_name : TokenKind → Bool
is_name kinds.Ident = true
is_name kinds.RawIdent = true
is_name _ = false

-- a token with this text means the leaf, whatever follows it
abbrev pub Means : TokenKind → (text : List ℕ) → Leaf → Type 0
Means kind text (leaf_of.Literal literal) = MeansLiteral kind text literal
Means kind text (leaf_of.Punct punct) = punct_char kind ≡ Some punct.char
Means kind text (leaf_of.Ident ident) = IsTrue (is_name kind) × (without_raw_prefix text ≡ ident.sym) × (rawness_of text ≡ ident.is_raw)

-- the text is one token that means the leaf
abbrev pub ReadsAs : (text : List ℕ) → Leaf → Type 0
ReadsAs text it = IsOneToken text × Means (first_kind text) text it

-- whether a leaf is a punct with this character
abbrev pub is_punct : (char : ℕ) → Leaf → Bool
is_punct char (leaf_of.Punct punct) = punct.char == char
is_punct char _ = false

-- a leaf's text alone reads as the leaf; a `'` is no token alone
abbrev pub ReadsAlone : Leaf → Type 0
ReadsAlone it = IsTrue (is_punct 39 it) ⊎ ReadsAs (leaf_text it) it

-- whether a token is a lifetime
abbrev pub is_lifetime : TokenKind → Bool
is_lifetime (kinds.Lifetime starts_with_number) = true
is_lifetime kinds.RawLifetime = true
is_lifetime _ = false

-- a `'` and the name after it are one token, a lifetime
abbrev pub MakesLifetime : Leaf → Type 0
MakesLifetime (leaf_of.Ident ident) = IsOneToken (39 ∷ ident_text ident) × IsTrue (is_lifetime (first_kind (39 ∷ ident_text ident)))
MakesLifetime _ = ⊥

-- the leaf may follow what was written last: the two make no `//`, `/*` or `##`, and a `'` has its name
abbrev pub MayFollow : Behind → Leaf → Type 0
MayFollow Slash it = (is_punct 47 it || is_punct 42 it) ≡ false
MayFollow Pound it = is_punct 35 it ≡ false
MayFollow Quote it = MakesLifetime it
MayFollow _ it = Unit {0}

-- a bracket or the end may follow: after anything except a `'`
abbrev pub MayEnd : Behind → Type 0
MayEnd Quote = ⊥
MayEnd _ = Unit {0}

-- `holds` if P holds, and else `fails`
abbrev pub Answers : (P : Type 0) → (holds fails : Type 0) → Type 0
Answers P holds fails = (P × holds) ⊎ ((P → ⊥) × fails)

-- the place of the first leaf of these marks that cannot be written, or of the leaf that was written last; `None` if all can be written
abbrev pub IsFirstRefused : (last : ℕ) → Behind → List Mark → Option ℕ → Type 0
IsFirstRefused last behind [] answer = Answers (MayEnd behind) (answer ≡ None) (answer ≡ Some last)
IsFirstRefused last behind (word at it ∷ rest) answer =
    Answers (MayFollow behind it) (Answers (ReadsAlone it) (IsFirstRefused at (behind_leaf it) rest answer) (answer ≡ Some at)) (answer ≡ Some last)
IsFirstRefused last behind (opening pair ∷ rest) answer = Answers (MayEnd behind) (IsFirstRefused last Opening rest answer) (answer ≡ Some last)
IsFirstRefused last behind (closing pair ∷ rest) answer = Answers (MayEnd behind) (IsFirstRefused last Apart rest answer) (answer ≡ Some last)

-- the flat place of the first leaf of trees that cannot be written, or `None` if all can be written
abbrev pub Refuses : Forest → Option ℕ → Type 0
Refuses trees answer = IsFirstRefused 0 Opening (marks 0 trees) answer

-- these trees can be written
abbrev pub IsWritable : Forest → Type 0
IsWritable trees = Refuses trees None

-- why trees are not written: their text is too long; or else a leaf cannot be written, and this is
-- the first; memory may run out at any time
abbrev pub IsWriteFault : Forest → WriteFault → Type 0
IsWriteFault trees (NotWritable at) = Refuses trees (Some at) × (1 + length (text_of trees) < 2 ^ 32)
IsWriteFault trees TooLong = 2 ^ 32 ≤ 1 + length (text_of trees)
IsWriteFault trees Memory = Unit {0}
