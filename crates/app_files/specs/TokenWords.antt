-- The words of a text: its tokens without white space and comments.
use Rattle.std.specs.Prelude.{ℕ, Bool, true, false, List, [], ◌∷◌, take, drop, if◌then◌else◌}
use Rattle.syntax_lex.specs.declared.token.Token.{Token}
use Rattle.syntax_lex.specs.declared.token.TokenKind.{TokenKind}
use Rattle.syntax_lex.specs.declared.token.TokenKind.TheVariants as kinds

-- the bytes of a token
abbrev pub Word : Type 0
Word = List ℕ

-- white space or a comment
abbrev pub is_trivia : TokenKind → Bool
is_trivia (kinds.LineComment doc_style) = true
is_trivia (kinds.BlockComment doc_style terminated) = true
is_trivia kinds.Whitespace = true
is_trivia _ = false

-- words with that of the token before them, unless it is white space or a comment
abbrev pub word_before : Token → Word → List Word → List Word
word_before token word words = if is_trivia token.kind then words else word ∷ words

-- the words of a text with these tokens
abbrev pub words_of : (text : List ℕ) → List Token → List Word
words_of text [] = []
words_of text (token ∷ tokens) = word_before token (take token.len text) (words_of (drop token.len text) tokens)
