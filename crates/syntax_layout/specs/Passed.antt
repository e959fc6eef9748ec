-- Which part a token is, by the tokens that were passed.
use Rattle.std.specs.Prelude.{ℕ, ◌+◌, ◌-◌, Bool, true, false, not, ◌==◌, ◌&&◌, ◌||◌, nat_lt, List, [], ◌∷◌, length, slice_get, codes, bytes_eq, Option, None, Some, if◌then◌else◌}
use Rattle.std.specs.List.{list_any}
use Rattle.std.specs.Char.{is_ascii_lowercase, is_ascii_uppercase}
use Rattle.syntax_layout.specs.Parts.{ends_piece, ends_value, is_dot}
use Rattle.syntax_layout.specs.declared.part.Part.{Part}
use Rattle.syntax_layout.specs.declared.part.Part.TheVariants as part
use Rattle.syntax_layout.specs.declared.passed.Passed.{Passed}
use Rattle.syntax_lex.specs.declared.token.TokenKind.{TokenKind}
use Rattle.syntax_lex.specs.declared.token.TokenKind.TheVariants as kinds

-- what was passed before the first token
abbrev pub start : Passed
start = record { part = part.Start; angles = 0; bars = false; uses = false }

-- whether the byte after a token is this one
abbrev pub is_next : Option ℕ → (byte : ℕ) → Bool
is_next None byte = false
is_next (Some found) byte = found == byte

-- whether a byte is there and passes a test
abbrev pub is_there : (ℕ → Bool) → Option ℕ → Bool
is_there test None = false
is_there test (Some byte) = test byte

-- whether a name is one of a type: it begins with a capital letter, and its second or last letter is a small one
abbrev pub is_type : (text : List ℕ) → Bool
is_type text =
    is_there is_ascii_uppercase (slice_get text 0)
    && (is_there is_ascii_lowercase (slice_get text 1) || is_there is_ascii_lowercase (slice_get text (length text - 1)))

abbrev pub is_fn : Part → Bool
is_fn part.Fn = true
is_fn _ = false

-- the part of a name that is no keyword: what follows `fn` takes generic parameters
abbrev pub name_part : (before : Part) → (text : List ℕ) → Part
name_part before text = if is_fn before || is_type text then part.Type else part.Name

-- `fn` and `pub`
abbrev pub is_fn_word : (text : List ℕ) → Bool
is_fn_word text = bytes_eq text (codes "fn") || bytes_eq text (codes "pub")

-- `for`, `impl` and `use`
abbrev pub is_for_word : (text : List ℕ) → Bool
is_for_word text = bytes_eq text (codes "for") || (bytes_eq text (codes "impl") || bytes_eq text (codes "use"))

-- the other keywords, except those that stand for a value or a type
abbrev pub keywords : List (List ℕ)
keywords =
    codes "as" ∷ codes "async" ∷ codes "break" ∷ codes "const" ∷ codes "continue" ∷ codes "dyn" ∷ codes "else" ∷ codes "enum" ∷ codes "extern"
    ∷ codes "if" ∷ codes "in" ∷ codes "let" ∷ codes "loop" ∷ codes "match" ∷ codes "mod" ∷ codes "move" ∷ codes "mut" ∷ codes "ref" ∷ codes "return"
    ∷ codes "static" ∷ codes "struct" ∷ codes "trait" ∷ codes "type" ∷ codes "unsafe" ∷ codes "where" ∷ codes "while" ∷ codes "yield" ∷ []

-- the part of a word
abbrev pub word_part : (before : Part) → (text : List ℕ) → Part
word_part before text =
    if is_fn_word text then part.Fn
    else (if is_for_word text then part.For
    else (if list_any (bytes_eq text) keywords then part.Keyword else name_part before text))

abbrev pub is_operator : Part → Bool
is_operator part.Operator = true
is_operator _ = false

-- whether a sign goes on with the operator that it touches
abbrev pub glued : Passed → (touching : Bool) → Bool
glued passed touching = touching && is_operator passed.part

-- a sign that is an operator after a value, and else a prefix
abbrev pub sign_part : Passed → (touching : Bool) → Part
sign_part passed touching = if glued passed touching || ends_value passed.part then part.Operator else part.Prefix

-- `-`: an operator in `->`
abbrev pub minus_part : Passed → (touching : Bool) → (next : Option ℕ) → Part
minus_part passed touching next = if is_next next 62 then part.Operator else sign_part passed touching

-- `|`
abbrev pub bar_part : Passed → (touching : Bool) → Part
bar_part passed touching =
    if passed.bars then part.Bar
    else (if glued passed touching || ends_piece passed.part then part.Operator else part.Prefix)

abbrev pub is_type_name : Part → Bool
is_type_name part.Type = true
is_type_name _ = false

-- `<`
abbrev pub less_part : Passed → (touching : Bool) → (next : Option ℕ) → Part
less_part passed touching next =
    if glued passed touching || is_next next 61 then part.Operator
    else (if ends_value passed.part && not (is_type_name passed.part) then part.Operator else part.OpenAngle)

-- `>`
abbrev pub greater_part : Passed → (touching : Bool) → Part
greater_part passed touching = if glued passed touching || (passed.angles == 0) then part.Operator else part.CloseAngle

abbrev pub is_path : Part → Bool
is_path part.Path = true
is_path _ = false

-- `:`
abbrev pub colon_part : Passed → (touching : Bool) → (next : Option ℕ) → Part
colon_part passed touching next = if is_next next 58 || (touching && is_path passed.part) then part.Path else part.Colon

-- `=`
abbrev pub equals_part : Passed → (touching : Bool) → Part
equals_part passed touching = if touching && is_dot passed.part then part.Dot else part.Operator

abbrev pub bang_after : (before : Part) → Part
bang_after part.Name = part.Bang
bang_after part.Type = part.Bang
bang_after _ = part.Prefix

-- `!`
abbrev pub bang_part : (before : Part) → (next : Option ℕ) → Part
bang_part before next = if is_next next 61 then part.Operator else bang_after before

-- `?`
abbrev pub question_part : (before : Part) → Part
question_part before = if ends_piece before then part.Question else part.Prefix

-- whether a `{` after it may belong to a `use`
abbrev pub takes_names : (before : Part) → Bool
takes_names part.Path = true
takes_names part.Comma = true
takes_names part.Open = true
takes_names part.For = true
takes_names _ = false

-- `{`
abbrev pub brace_part : Passed → Part
brace_part passed = if passed.uses && takes_names passed.part then part.Open else part.Brace

-- `}`
abbrev pub end_brace_part : Passed → Part
end_brace_part passed = if passed.uses then part.Close else part.EndBrace

-- a punct or a bracket; any other token is like a name
abbrev pub symbol_part : Passed → (touching : Bool) → (next : Option ℕ) → TokenKind → Part
symbol_part passed touching next kinds.OpenParen = part.Open
symbol_part passed touching next kinds.OpenBracket = part.Open
symbol_part passed touching next kinds.OpenBrace = brace_part passed
symbol_part passed touching next kinds.CloseParen = part.Close
symbol_part passed touching next kinds.CloseBracket = part.Close
symbol_part passed touching next kinds.CloseBrace = end_brace_part passed
symbol_part passed touching next kinds.Comma = part.Comma
symbol_part passed touching next kinds.Semi = part.Comma
symbol_part passed touching next kinds.Dot = part.Dot
symbol_part passed touching next kinds.Colon = colon_part passed touching next
symbol_part passed touching next kinds.Eq = equals_part passed touching
symbol_part passed touching next kinds.Bang = bang_part passed.part next
symbol_part passed touching next kinds.Lt = less_part passed touching next
symbol_part passed touching next kinds.Gt = greater_part passed touching
symbol_part passed touching next kinds.And = sign_part passed touching
symbol_part passed touching next kinds.Star = sign_part passed touching
symbol_part passed touching next kinds.Minus = minus_part passed touching next
symbol_part passed touching next kinds.Or = bar_part passed touching
symbol_part passed touching next kinds.Question = question_part passed.part
symbol_part passed touching next kinds.Plus = part.Operator
symbol_part passed touching next kinds.Slash = part.Operator
symbol_part passed touching next kinds.Caret = part.Operator
symbol_part passed touching next kinds.Percent = part.Operator
symbol_part passed touching next kinds.At = part.Operator
symbol_part passed touching next kinds.Pound = part.Prefix
symbol_part passed touching next kinds.Dollar = part.Prefix
symbol_part passed touching next kinds.Tilde = part.Prefix
symbol_part passed touching next _ = part.Name

-- the part of a token of a kind with a text; `touching` says whether it touches the token before it, and `next` is the byte after it
abbrev pub part_of : Passed → (touching : Bool) → (next : Option ℕ) → TokenKind → (text : List ℕ) → Part
part_of passed touching next kinds.Ident text = word_part passed.part text
part_of passed touching next (kinds.Literal kind suffix_start) text = part.Literal
part_of passed touching next (kinds.Lifetime starts_with_number) text = part.Lifetime
part_of passed touching next kinds.RawLifetime text = part.Lifetime
part_of passed touching next kind text = symbol_part passed touching next kind

-- how many generic arguments are open after a part; so many are counted
abbrev pub angles_after : Part → (angles : ℕ) → ℕ
angles_after part.OpenAngle angles = if nat_lt angles 1000 then angles + 1 else angles
angles_after part.CloseAngle angles = angles - 1
angles_after part.Brace angles = 0
angles_after part.EndBrace angles = 0
angles_after _ angles = angles

abbrev pub is_bar : TokenKind → Bool
is_bar kinds.Or = true
is_bar _ = false

-- whether the parameters of a closure are open after a token
abbrev pub bars_after : TokenKind → Part → (bars : Bool) → Bool
bars_after kind part.Prefix bars = is_bar kind || bars
bars_after kind part.Bar bars = false
bars_after kind part.Brace bars = false
bars_after kind _ bars = bars

abbrev pub is_semicolon : TokenKind → Bool
is_semicolon kinds.Semi = true
is_semicolon _ = false

-- whether a `use` goes on after a token with a text
abbrev pub uses_after : TokenKind → Part → (text : List ℕ) → (uses : Bool) → Bool
uses_after kind part.For text uses = bytes_eq text (codes "use")
uses_after kind part.Comma text uses = uses && not (is_semicolon kind)
uses_after kind part.Brace text uses = false
uses_after kind _ text uses = uses

-- what was passed after a token of a kind with a text, which is this part
abbrev pub passed_after : Passed → TokenKind → (text : List ℕ) → Part → Passed
passed_after passed kind text it =
    record { part = it; angles = angles_after it passed.angles; bars = bars_after kind it passed.bars; uses = uses_after kind it text passed.uses }
