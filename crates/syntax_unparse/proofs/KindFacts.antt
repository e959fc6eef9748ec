-- What the kinds of tokens that leaves are written as mean.
use Rattle.std.proofs.Common.{◌≡◌, ℕ, zero, suc, ◌<◌, Bool, true, false, ◌==◌, IsTrue, List, [], ◌∷◌, Option, None, Some, refl, subst, arith}
use Rattle.std.proofs.lemmas.Bool.{false≢true}
use Rattle.std.proofs.lemmas.Str.{chars-IsAscii, encode_ascii, IsUtf8-from_ascii}
use Rattle.std.specs.Prelude.{encode_utf8}
use Rattle.std.specs.Str.{chars as chars_of, IsAscii, IsUtf8}
use Rattle.tt_base.specs.declared.punct.Spacing.TheVariants.{Joint}
use Rattle.tt_base.specs.declared.span.SpanPart.{SpanPart}
use Rattle.syntax_lex.specs.Class.{is_whitespace}
use Rattle.syntax_lex.specs.Opening.{symbol as symbol_of}
use Rattle.syntax_lex.specs.declared.token.LiteralKind.{LiteralKind}
use Rattle.syntax_lex.specs.declared.token.LiteralKind.TheVariants as literals
use Rattle.syntax_lex.specs.declared.token.TokenKind.{TokenKind}
use Rattle.syntax_lex.specs.declared.token.TokenKind.TheVariants as kinds
use Rattle.syntax_lex.specs.Stops.{is_closed, is_sign}
use Rattle.syntax_parse.specs.Pieces.{pieces_of, punct_char, spacing_before}
use Rattle.syntax_parse.specs.Role.{literal_role, role_in, with_inside}
use Rattle.syntax_parse.specs.Spelled.{sign as sign_sort}
use Rattle.syntax_parse.specs.declared.fault.BadToken.{BadToken}
use Rattle.syntax_parse.specs.declared.role.Role.TheVariants.{Bad, Leaf}
use Rattle.syntax_unparse.specs.Settled.{sorts}
use Rattle.tt_base.specs.declared.literal.Literal.{Literal}
use Rattle.syntax_unparse.specs.Writable.{MeansLiteral, is_lifetime, is_name}

-- a character of ASCII is text
pub ascii_one : (c : ℕ) → c < 128 → IsAscii (c ∷ [])
ascii_one c lt zero = lt
ascii_one c lt (suc i) = omega arith

-- a name is an ident or a raw one
pub name_cases : (P : TokenKind → Type 0) (kind : TokenKind) → P kinds.Ident → P kinds.RawIdent → IsTrue (is_name kind) → P kind
name_cases P (kinds.LineComment doc) a b h = absurd (false≢true h)
name_cases P (kinds.BlockComment doc terminated) a b h = absurd (false≢true h)
name_cases P kinds.Whitespace a b h = absurd (false≢true h)
name_cases P kinds.Ident a b h = a
name_cases P kinds.InvalidIdent a b h = absurd (false≢true h)
name_cases P kinds.RawIdent a b h = b
name_cases P kinds.UnknownPrefix a b h = absurd (false≢true h)
name_cases P kinds.UnknownPrefixLifetime a b h = absurd (false≢true h)
name_cases P kinds.RawLifetime a b h = absurd (false≢true h)
name_cases P kinds.GuardedStrPrefix a b h = absurd (false≢true h)
name_cases P (kinds.Literal kind start) a b h = absurd (false≢true h)
name_cases P (kinds.Lifetime digit) a b h = absurd (false≢true h)
name_cases P kinds.Unknown a b h = absurd (false≢true h)
name_cases P kinds.OpenParen a b h = absurd (false≢true h)
name_cases P kinds.CloseParen a b h = absurd (false≢true h)
name_cases P kinds.OpenBrace a b h = absurd (false≢true h)
name_cases P kinds.CloseBrace a b h = absurd (false≢true h)
name_cases P kinds.OpenBracket a b h = absurd (false≢true h)
name_cases P kinds.CloseBracket a b h = absurd (false≢true h)
name_cases P kinds.Semi a b h = absurd (false≢true h)
name_cases P kinds.Comma a b h = absurd (false≢true h)
name_cases P kinds.Dot a b h = absurd (false≢true h)
name_cases P kinds.At a b h = absurd (false≢true h)
name_cases P kinds.Pound a b h = absurd (false≢true h)
name_cases P kinds.Tilde a b h = absurd (false≢true h)
name_cases P kinds.Question a b h = absurd (false≢true h)
name_cases P kinds.Colon a b h = absurd (false≢true h)
name_cases P kinds.Dollar a b h = absurd (false≢true h)
name_cases P kinds.Eq a b h = absurd (false≢true h)
name_cases P kinds.Bang a b h = absurd (false≢true h)
name_cases P kinds.Lt a b h = absurd (false≢true h)
name_cases P kinds.Gt a b h = absurd (false≢true h)
name_cases P kinds.Minus a b h = absurd (false≢true h)
name_cases P kinds.And a b h = absurd (false≢true h)
name_cases P kinds.Or a b h = absurd (false≢true h)
name_cases P kinds.Plus a b h = absurd (false≢true h)
name_cases P kinds.Star a b h = absurd (false≢true h)
name_cases P kinds.Slash a b h = absurd (false≢true h)
name_cases P kinds.Caret a b h = absurd (false≢true h)
name_cases P kinds.Percent a b h = absurd (false≢true h)

-- a lifetime is raw or not
pub lifetime_cases : (P : TokenKind → Type 0) (kind : TokenKind) → ((digit : Bool) → P (kinds.Lifetime digit)) → P kinds.RawLifetime → IsTrue (is_lifetime kind) → P kind
lifetime_cases P (kinds.LineComment doc) a b h = absurd (false≢true h)
lifetime_cases P (kinds.BlockComment doc terminated) a b h = absurd (false≢true h)
lifetime_cases P kinds.Whitespace a b h = absurd (false≢true h)
lifetime_cases P kinds.Ident a b h = absurd (false≢true h)
lifetime_cases P kinds.InvalidIdent a b h = absurd (false≢true h)
lifetime_cases P kinds.RawIdent a b h = absurd (false≢true h)
lifetime_cases P kinds.UnknownPrefix a b h = absurd (false≢true h)
lifetime_cases P kinds.UnknownPrefixLifetime a b h = absurd (false≢true h)
lifetime_cases P kinds.RawLifetime a b h = b
lifetime_cases P kinds.GuardedStrPrefix a b h = absurd (false≢true h)
lifetime_cases P (kinds.Literal kind start) a b h = absurd (false≢true h)
lifetime_cases P (kinds.Lifetime digit) a b h = a digit
lifetime_cases P kinds.Unknown a b h = absurd (false≢true h)
lifetime_cases P kinds.OpenParen a b h = absurd (false≢true h)
lifetime_cases P kinds.CloseParen a b h = absurd (false≢true h)
lifetime_cases P kinds.OpenBrace a b h = absurd (false≢true h)
lifetime_cases P kinds.CloseBrace a b h = absurd (false≢true h)
lifetime_cases P kinds.OpenBracket a b h = absurd (false≢true h)
lifetime_cases P kinds.CloseBracket a b h = absurd (false≢true h)
lifetime_cases P kinds.Semi a b h = absurd (false≢true h)
lifetime_cases P kinds.Comma a b h = absurd (false≢true h)
lifetime_cases P kinds.Dot a b h = absurd (false≢true h)
lifetime_cases P kinds.At a b h = absurd (false≢true h)
lifetime_cases P kinds.Pound a b h = absurd (false≢true h)
lifetime_cases P kinds.Tilde a b h = absurd (false≢true h)
lifetime_cases P kinds.Question a b h = absurd (false≢true h)
lifetime_cases P kinds.Colon a b h = absurd (false≢true h)
lifetime_cases P kinds.Dollar a b h = absurd (false≢true h)
lifetime_cases P kinds.Eq a b h = absurd (false≢true h)
lifetime_cases P kinds.Bang a b h = absurd (false≢true h)
lifetime_cases P kinds.Lt a b h = absurd (false≢true h)
lifetime_cases P kinds.Gt a b h = absurd (false≢true h)
lifetime_cases P kinds.Minus a b h = absurd (false≢true h)
lifetime_cases P kinds.And a b h = absurd (false≢true h)
lifetime_cases P kinds.Or a b h = absurd (false≢true h)
lifetime_cases P kinds.Plus a b h = absurd (false≢true h)
lifetime_cases P kinds.Star a b h = absurd (false≢true h)
lifetime_cases P kinds.Slash a b h = absurd (false≢true h)
lifetime_cases P kinds.Caret a b h = absurd (false≢true h)
lifetime_cases P kinds.Percent a b h = absurd (false≢true h)

-- facts about a punct and its character
pub record IsPunct (kind : TokenKind) (c : ℕ) : Type 0 where
  pub sign : is_sign c ≡ true
  pub symbol : symbol_of c ≡ kind
  pub role : (text : List ℕ) → role_in kind text ≡ Leaf
  pub means : (part : SpanPart) → (next : Option TokenKind) → (at : ℕ) → (text : List ℕ) → sorts (pieces_of part kind next at text) ≡ sign_sort c (spacing_before next) ∷ []
  pub joint : spacing_before (Some kind) ≡ Joint
  pub no_quote : (c == 39) ≡ false
  pub no_string : (c == 34) ≡ false
  pub no_space : is_whitespace c ≡ false
  pub bytes : encode_utf8 c ≡ c ∷ []
  pub utf8 : IsUtf8 (c ∷ [])
  pub chars : chars_of (c ∷ []) ≡ c ∷ []

punct_59 : IsPunct kinds.Semi 59
unfolding symbol_of
punct_59 = record { sign = refl; symbol = refl; role = λ text. refl; means = λ part next at text. refl; joint = refl; no_quote = refl; no_string = refl; no_space = refl; bytes = encode_ascii 59 (omega arith); utf8 = IsUtf8-from_ascii (59 ∷ []) (ascii_one 59 (omega arith)); chars = chars-IsAscii (59 ∷ []) (ascii_one 59 (omega arith)) }

punct_44 : IsPunct kinds.Comma 44
unfolding symbol_of
punct_44 = record { sign = refl; symbol = refl; role = λ text. refl; means = λ part next at text. refl; joint = refl; no_quote = refl; no_string = refl; no_space = refl; bytes = encode_ascii 44 (omega arith); utf8 = IsUtf8-from_ascii (44 ∷ []) (ascii_one 44 (omega arith)); chars = chars-IsAscii (44 ∷ []) (ascii_one 44 (omega arith)) }

punct_46 : IsPunct kinds.Dot 46
unfolding symbol_of
punct_46 = record { sign = refl; symbol = refl; role = λ text. refl; means = λ part next at text. refl; joint = refl; no_quote = refl; no_string = refl; no_space = refl; bytes = encode_ascii 46 (omega arith); utf8 = IsUtf8-from_ascii (46 ∷ []) (ascii_one 46 (omega arith)); chars = chars-IsAscii (46 ∷ []) (ascii_one 46 (omega arith)) }

punct_64 : IsPunct kinds.At 64
unfolding symbol_of
punct_64 = record { sign = refl; symbol = refl; role = λ text. refl; means = λ part next at text. refl; joint = refl; no_quote = refl; no_string = refl; no_space = refl; bytes = encode_ascii 64 (omega arith); utf8 = IsUtf8-from_ascii (64 ∷ []) (ascii_one 64 (omega arith)); chars = chars-IsAscii (64 ∷ []) (ascii_one 64 (omega arith)) }

punct_35 : IsPunct kinds.Pound 35
unfolding symbol_of
punct_35 = record { sign = refl; symbol = refl; role = λ text. refl; means = λ part next at text. refl; joint = refl; no_quote = refl; no_string = refl; no_space = refl; bytes = encode_ascii 35 (omega arith); utf8 = IsUtf8-from_ascii (35 ∷ []) (ascii_one 35 (omega arith)); chars = chars-IsAscii (35 ∷ []) (ascii_one 35 (omega arith)) }

punct_126 : IsPunct kinds.Tilde 126
unfolding symbol_of
punct_126 = record { sign = refl; symbol = refl; role = λ text. refl; means = λ part next at text. refl; joint = refl; no_quote = refl; no_string = refl; no_space = refl; bytes = encode_ascii 126 (omega arith); utf8 = IsUtf8-from_ascii (126 ∷ []) (ascii_one 126 (omega arith)); chars = chars-IsAscii (126 ∷ []) (ascii_one 126 (omega arith)) }

punct_63 : IsPunct kinds.Question 63
unfolding symbol_of
punct_63 = record { sign = refl; symbol = refl; role = λ text. refl; means = λ part next at text. refl; joint = refl; no_quote = refl; no_string = refl; no_space = refl; bytes = encode_ascii 63 (omega arith); utf8 = IsUtf8-from_ascii (63 ∷ []) (ascii_one 63 (omega arith)); chars = chars-IsAscii (63 ∷ []) (ascii_one 63 (omega arith)) }

punct_58 : IsPunct kinds.Colon 58
unfolding symbol_of
punct_58 = record { sign = refl; symbol = refl; role = λ text. refl; means = λ part next at text. refl; joint = refl; no_quote = refl; no_string = refl; no_space = refl; bytes = encode_ascii 58 (omega arith); utf8 = IsUtf8-from_ascii (58 ∷ []) (ascii_one 58 (omega arith)); chars = chars-IsAscii (58 ∷ []) (ascii_one 58 (omega arith)) }

punct_36 : IsPunct kinds.Dollar 36
unfolding symbol_of
punct_36 = record { sign = refl; symbol = refl; role = λ text. refl; means = λ part next at text. refl; joint = refl; no_quote = refl; no_string = refl; no_space = refl; bytes = encode_ascii 36 (omega arith); utf8 = IsUtf8-from_ascii (36 ∷ []) (ascii_one 36 (omega arith)); chars = chars-IsAscii (36 ∷ []) (ascii_one 36 (omega arith)) }

punct_61 : IsPunct kinds.Eq 61
unfolding symbol_of
punct_61 = record { sign = refl; symbol = refl; role = λ text. refl; means = λ part next at text. refl; joint = refl; no_quote = refl; no_string = refl; no_space = refl; bytes = encode_ascii 61 (omega arith); utf8 = IsUtf8-from_ascii (61 ∷ []) (ascii_one 61 (omega arith)); chars = chars-IsAscii (61 ∷ []) (ascii_one 61 (omega arith)) }

punct_33 : IsPunct kinds.Bang 33
unfolding symbol_of
punct_33 = record { sign = refl; symbol = refl; role = λ text. refl; means = λ part next at text. refl; joint = refl; no_quote = refl; no_string = refl; no_space = refl; bytes = encode_ascii 33 (omega arith); utf8 = IsUtf8-from_ascii (33 ∷ []) (ascii_one 33 (omega arith)); chars = chars-IsAscii (33 ∷ []) (ascii_one 33 (omega arith)) }

punct_60 : IsPunct kinds.Lt 60
unfolding symbol_of
punct_60 = record { sign = refl; symbol = refl; role = λ text. refl; means = λ part next at text. refl; joint = refl; no_quote = refl; no_string = refl; no_space = refl; bytes = encode_ascii 60 (omega arith); utf8 = IsUtf8-from_ascii (60 ∷ []) (ascii_one 60 (omega arith)); chars = chars-IsAscii (60 ∷ []) (ascii_one 60 (omega arith)) }

punct_62 : IsPunct kinds.Gt 62
unfolding symbol_of
punct_62 = record { sign = refl; symbol = refl; role = λ text. refl; means = λ part next at text. refl; joint = refl; no_quote = refl; no_string = refl; no_space = refl; bytes = encode_ascii 62 (omega arith); utf8 = IsUtf8-from_ascii (62 ∷ []) (ascii_one 62 (omega arith)); chars = chars-IsAscii (62 ∷ []) (ascii_one 62 (omega arith)) }

punct_45 : IsPunct kinds.Minus 45
unfolding symbol_of
punct_45 = record { sign = refl; symbol = refl; role = λ text. refl; means = λ part next at text. refl; joint = refl; no_quote = refl; no_string = refl; no_space = refl; bytes = encode_ascii 45 (omega arith); utf8 = IsUtf8-from_ascii (45 ∷ []) (ascii_one 45 (omega arith)); chars = chars-IsAscii (45 ∷ []) (ascii_one 45 (omega arith)) }

punct_38 : IsPunct kinds.And 38
unfolding symbol_of
punct_38 = record { sign = refl; symbol = refl; role = λ text. refl; means = λ part next at text. refl; joint = refl; no_quote = refl; no_string = refl; no_space = refl; bytes = encode_ascii 38 (omega arith); utf8 = IsUtf8-from_ascii (38 ∷ []) (ascii_one 38 (omega arith)); chars = chars-IsAscii (38 ∷ []) (ascii_one 38 (omega arith)) }

punct_124 : IsPunct kinds.Or 124
unfolding symbol_of
punct_124 = record { sign = refl; symbol = refl; role = λ text. refl; means = λ part next at text. refl; joint = refl; no_quote = refl; no_string = refl; no_space = refl; bytes = encode_ascii 124 (omega arith); utf8 = IsUtf8-from_ascii (124 ∷ []) (ascii_one 124 (omega arith)); chars = chars-IsAscii (124 ∷ []) (ascii_one 124 (omega arith)) }

punct_43 : IsPunct kinds.Plus 43
unfolding symbol_of
punct_43 = record { sign = refl; symbol = refl; role = λ text. refl; means = λ part next at text. refl; joint = refl; no_quote = refl; no_string = refl; no_space = refl; bytes = encode_ascii 43 (omega arith); utf8 = IsUtf8-from_ascii (43 ∷ []) (ascii_one 43 (omega arith)); chars = chars-IsAscii (43 ∷ []) (ascii_one 43 (omega arith)) }

punct_42 : IsPunct kinds.Star 42
unfolding symbol_of
punct_42 = record { sign = refl; symbol = refl; role = λ text. refl; means = λ part next at text. refl; joint = refl; no_quote = refl; no_string = refl; no_space = refl; bytes = encode_ascii 42 (omega arith); utf8 = IsUtf8-from_ascii (42 ∷ []) (ascii_one 42 (omega arith)); chars = chars-IsAscii (42 ∷ []) (ascii_one 42 (omega arith)) }

punct_47 : IsPunct kinds.Slash 47
unfolding symbol_of
punct_47 = record { sign = refl; symbol = refl; role = λ text. refl; means = λ part next at text. refl; joint = refl; no_quote = refl; no_string = refl; no_space = refl; bytes = encode_ascii 47 (omega arith); utf8 = IsUtf8-from_ascii (47 ∷ []) (ascii_one 47 (omega arith)); chars = chars-IsAscii (47 ∷ []) (ascii_one 47 (omega arith)) }

punct_94 : IsPunct kinds.Caret 94
unfolding symbol_of
punct_94 = record { sign = refl; symbol = refl; role = λ text. refl; means = λ part next at text. refl; joint = refl; no_quote = refl; no_string = refl; no_space = refl; bytes = encode_ascii 94 (omega arith); utf8 = IsUtf8-from_ascii (94 ∷ []) (ascii_one 94 (omega arith)); chars = chars-IsAscii (94 ∷ []) (ascii_one 94 (omega arith)) }

punct_37 : IsPunct kinds.Percent 37
unfolding symbol_of
punct_37 = record { sign = refl; symbol = refl; role = λ text. refl; means = λ part next at text. refl; joint = refl; no_quote = refl; no_string = refl; no_space = refl; bytes = encode_ascii 37 (omega arith); utf8 = IsUtf8-from_ascii (37 ∷ []) (ascii_one 37 (omega arith)); chars = chars-IsAscii (37 ∷ []) (ascii_one 37 (omega arith)) }

-- a punct's kind determines its character
pub punct_known : (kind : TokenKind) (c : ℕ) → punct_char kind ≡ Some c → IsPunct kind c
punct_known (kinds.LineComment doc) c h = absurd (cc)
punct_known (kinds.BlockComment doc terminated) c h = absurd (cc)
punct_known kinds.Whitespace c h = absurd (cc)
punct_known kinds.Ident c h = absurd (cc)
punct_known kinds.InvalidIdent c h = absurd (cc)
punct_known kinds.RawIdent c h = absurd (cc)
punct_known kinds.UnknownPrefix c h = absurd (cc)
punct_known kinds.UnknownPrefixLifetime c h = absurd (cc)
punct_known kinds.RawLifetime c h = absurd (cc)
punct_known kinds.GuardedStrPrefix c h = absurd (cc)
punct_known (kinds.Literal kind start) c h = absurd (cc)
punct_known (kinds.Lifetime digit) c h = absurd (cc)
punct_known kinds.Unknown c h = absurd (cc)
punct_known kinds.OpenParen c h = absurd (cc)
punct_known kinds.CloseParen c h = absurd (cc)
punct_known kinds.OpenBrace c h = absurd (cc)
punct_known kinds.CloseBrace c h = absurd (cc)
punct_known kinds.OpenBracket c h = absurd (cc)
punct_known kinds.CloseBracket c h = absurd (cc)
punct_known kinds.Semi c h = let is : 59 ≡ c = cc in subst (λ n. IsPunct kinds.Semi n) is punct_59
punct_known kinds.Comma c h = let is : 44 ≡ c = cc in subst (λ n. IsPunct kinds.Comma n) is punct_44
punct_known kinds.Dot c h = let is : 46 ≡ c = cc in subst (λ n. IsPunct kinds.Dot n) is punct_46
punct_known kinds.At c h = let is : 64 ≡ c = cc in subst (λ n. IsPunct kinds.At n) is punct_64
punct_known kinds.Pound c h = let is : 35 ≡ c = cc in subst (λ n. IsPunct kinds.Pound n) is punct_35
punct_known kinds.Tilde c h = let is : 126 ≡ c = cc in subst (λ n. IsPunct kinds.Tilde n) is punct_126
punct_known kinds.Question c h = let is : 63 ≡ c = cc in subst (λ n. IsPunct kinds.Question n) is punct_63
punct_known kinds.Colon c h = let is : 58 ≡ c = cc in subst (λ n. IsPunct kinds.Colon n) is punct_58
punct_known kinds.Dollar c h = let is : 36 ≡ c = cc in subst (λ n. IsPunct kinds.Dollar n) is punct_36
punct_known kinds.Eq c h = let is : 61 ≡ c = cc in subst (λ n. IsPunct kinds.Eq n) is punct_61
punct_known kinds.Bang c h = let is : 33 ≡ c = cc in subst (λ n. IsPunct kinds.Bang n) is punct_33
punct_known kinds.Lt c h = let is : 60 ≡ c = cc in subst (λ n. IsPunct kinds.Lt n) is punct_60
punct_known kinds.Gt c h = let is : 62 ≡ c = cc in subst (λ n. IsPunct kinds.Gt n) is punct_62
punct_known kinds.Minus c h = let is : 45 ≡ c = cc in subst (λ n. IsPunct kinds.Minus n) is punct_45
punct_known kinds.And c h = let is : 38 ≡ c = cc in subst (λ n. IsPunct kinds.And n) is punct_38
punct_known kinds.Or c h = let is : 124 ≡ c = cc in subst (λ n. IsPunct kinds.Or n) is punct_124
punct_known kinds.Plus c h = let is : 43 ≡ c = cc in subst (λ n. IsPunct kinds.Plus n) is punct_43
punct_known kinds.Star c h = let is : 42 ≡ c = cc in subst (λ n. IsPunct kinds.Star n) is punct_42
punct_known kinds.Slash c h = let is : 47 ≡ c = cc in subst (λ n. IsPunct kinds.Slash n) is punct_47
punct_known kinds.Caret c h = let is : 94 ≡ c = cc in subst (λ n. IsPunct kinds.Caret n) is punct_94
punct_known kinds.Percent c h = let is : 37 ≡ c = cc in subst (λ n. IsPunct kinds.Percent n) is punct_37

-- a token that is not valid stays so
bad_stays : (why : BadToken) (inside : Option BadToken) → with_inside (Bad why) inside ≡ Leaf → ⊥
bad_stays why None h = cc
bad_stays why (Some other) h = cc

-- a literal that means a leaf is closed
pub closed_leaf : (kind : LiteralKind) (text : List ℕ) (inside : Option BadToken) → with_inside (literal_role kind text) inside ≡ Leaf → is_closed kind ≡ true
closed_leaf (literals.Int base empty) text inside h = refl
closed_leaf (literals.Float base empty) text inside h = refl
closed_leaf (literals.Char true) text inside h = refl
closed_leaf (literals.Char false) text inside h = absurd (bad_stays _ inside h)
closed_leaf (literals.Byte true) text inside h = refl
closed_leaf (literals.Byte false) text inside h = absurd (bad_stays _ inside h)
closed_leaf (literals.Str true) text inside h = refl
closed_leaf (literals.Str false) text inside h = absurd (bad_stays _ inside h)
closed_leaf (literals.ByteStr true) text inside h = refl
closed_leaf (literals.ByteStr false) text inside h = absurd (bad_stays _ inside h)
closed_leaf (literals.CStr true) text inside h = refl
closed_leaf (literals.CStr false) text inside h = absurd (bad_stays _ inside h)
closed_leaf (literals.RawStr (Some hashes)) text inside h = refl
closed_leaf (literals.RawStr None) text inside h = absurd (bad_stays _ inside h)
closed_leaf (literals.RawByteStr (Some hashes)) text inside h = refl
closed_leaf (literals.RawByteStr None) text inside h = absurd (bad_stays _ inside h)
closed_leaf (literals.RawCStr (Some hashes)) text inside h = refl
closed_leaf (literals.RawCStr None) text inside h = absurd (bad_stays _ inside h)

-- a token that means a literal is one
pub literal_cases : (P : TokenKind → Type 0) (kind : TokenKind) (text : List ℕ) (literal : Literal) → ((it : LiteralKind) → (start : ℕ) → P (kinds.Literal it start)) → MeansLiteral kind text literal → P kind
literal_cases P (kinds.LineComment doc) text literal a h = absurd h
literal_cases P (kinds.BlockComment doc terminated) text literal a h = absurd h
literal_cases P kinds.Whitespace text literal a h = absurd h
literal_cases P kinds.Ident text literal a h = absurd h
literal_cases P kinds.InvalidIdent text literal a h = absurd h
literal_cases P kinds.RawIdent text literal a h = absurd h
literal_cases P kinds.UnknownPrefix text literal a h = absurd h
literal_cases P kinds.UnknownPrefixLifetime text literal a h = absurd h
literal_cases P kinds.RawLifetime text literal a h = absurd h
literal_cases P kinds.GuardedStrPrefix text literal a h = absurd h
literal_cases P (kinds.Literal kind start) text literal a h = a kind start
literal_cases P (kinds.Lifetime digit) text literal a h = absurd h
literal_cases P kinds.Unknown text literal a h = absurd h
literal_cases P kinds.OpenParen text literal a h = absurd h
literal_cases P kinds.CloseParen text literal a h = absurd h
literal_cases P kinds.OpenBrace text literal a h = absurd h
literal_cases P kinds.CloseBrace text literal a h = absurd h
literal_cases P kinds.OpenBracket text literal a h = absurd h
literal_cases P kinds.CloseBracket text literal a h = absurd h
literal_cases P kinds.Semi text literal a h = absurd h
literal_cases P kinds.Comma text literal a h = absurd h
literal_cases P kinds.Dot text literal a h = absurd h
literal_cases P kinds.At text literal a h = absurd h
literal_cases P kinds.Pound text literal a h = absurd h
literal_cases P kinds.Tilde text literal a h = absurd h
literal_cases P kinds.Question text literal a h = absurd h
literal_cases P kinds.Colon text literal a h = absurd h
literal_cases P kinds.Dollar text literal a h = absurd h
literal_cases P kinds.Eq text literal a h = absurd h
literal_cases P kinds.Bang text literal a h = absurd h
literal_cases P kinds.Lt text literal a h = absurd h
literal_cases P kinds.Gt text literal a h = absurd h
literal_cases P kinds.Minus text literal a h = absurd h
literal_cases P kinds.And text literal a h = absurd h
literal_cases P kinds.Or text literal a h = absurd h
literal_cases P kinds.Plus text literal a h = absurd h
literal_cases P kinds.Star text literal a h = absurd h
literal_cases P kinds.Slash text literal a h = absurd h
literal_cases P kinds.Caret text literal a h = absurd h
literal_cases P kinds.Percent text literal a h = absurd h
