-- How the parts of a line are spelled: kinds and tokens.
use Rattle.std.specs.Prelude.{ℕ, ◌<◌, List, ◌++◌, codes, decimal, encode_utf8, IsUtf8}
use Rattle.tt_base.specs.declared.delimiter.DelimiterKind.{DelimiterKind}
use Rattle.tt_base.specs.declared.delimiter.DelimiterKind.TheVariants.{Parenthesis, Brace, Bracket, Invisible, InvisibleOpaque}
use Rattle.tt_base.specs.declared.delimiter.Subtree.{Subtree}
use Rattle.tt_base.specs.declared.ident.Ident.{Ident}
use Rattle.tt_base.specs.declared.ident.IdentIsRaw.{IdentIsRaw}
use Rattle.tt_base.specs.declared.ident.IdentIsRaw.TheVariants.{No, Yes}
use Rattle.tt_base.specs.declared.leaf.Leaf.{Leaf}
use Rattle.tt_base.specs.declared.leaf.Leaf.TheVariants as leaf
use Rattle.tt_base.specs.declared.literal.LitKind.{LitKind}
use Rattle.tt_base.specs.declared.literal.LitKind.TheVariants as lit
use Rattle.tt_base.specs.declared.literal.Literal.{Literal}
use Rattle.tt_base.specs.declared.punct.Punct.{Punct}
use Rattle.tt_base.specs.declared.punct.Spacing.{Spacing}
use Rattle.tt_base.specs.declared.punct.Spacing.TheVariants.{Alone, Joint, JointHidden}
use Rattle.tt_base.specs.declared.span.Span.{Span}
use Rattle.tt_base.specs.declared.token_tree.TokenTree.{TokenTree}
use Rattle.tt_base.specs.declared.token_tree.TokenTree.TheVariants as token
use Rattle.tt_base.specs.Fits.{SpanFits}
use Rattle.tt_base.specs.Literal.{symbol_of, span_of, kind_of, suffix_len_of}
use Rattle.tt_base.specs.Span.{span_text}
use Rattle.app_language.specs.declared.command.action.Action.{Action}
use Rattle.app_language.specs.declared.command.action.Action.TheVariants as action
use Rattle.app_language.specs.Reading.{words}

-- KIND
abbrev pub kind_word : DelimiterKind → List ℕ
kind_word Parenthesis = codes "paren"
kind_word Brace = codes "brace"
kind_word Bracket = codes "bracket"
kind_word Invisible = codes "invisible"
kind_word InvisibleOpaque = codes "opaque"

-- SPACING
abbrev pub spacing_word : Spacing → List ℕ
spacing_word Alone = codes "alone"
spacing_word Joint = codes "joint"
spacing_word JointHidden = codes "hidden"

-- RAW
abbrev pub raw_word : IdentIsRaw → List ℕ
raw_word No = codes "plain"
raw_word Yes = codes "raw"

-- LKIND
abbrev pub literal_kind_word : LitKind → List ℕ
literal_kind_word lit.Byte = codes "byte"
literal_kind_word lit.Char = codes "char"
literal_kind_word lit.Integer = codes "int"
literal_kind_word lit.Float = codes "float"
literal_kind_word lit.Str = codes "str"
literal_kind_word (lit.StrRaw count) = codes "rstr:" ++ decimal count
literal_kind_word lit.ByteStr = codes "bstr"
literal_kind_word (lit.ByteStrRaw count) = codes "rbstr:" ++ decimal count
literal_kind_word lit.CStr = codes "cstr"
literal_kind_word (lit.CStrRaw count) = codes "rcstr:" ++ decimal count
literal_kind_word (lit.Err unit) = codes "err"

-- SPAN TEXT
abbrev pub placed_words : Span × List ℕ → List ℕ
placed_words (span, text) = words (span_text span) text

-- the span fits, and the text is UTF-8
abbrev pub PlacedFits : Span × List ℕ → Type 0
PlacedFits (span, text) = SpanFits span × IsUtf8 text

-- what follows `punct`
abbrev pub punct_words : Punct → List ℕ
punct_words punct = words (spacing_word punct.spacing) (words (span_text punct.span) (encode_utf8 punct.char))

-- what follows `ident`
abbrev pub ident_words : Ident → List ℕ
ident_words ident = words (raw_word ident.is_raw) (placed_words (ident.span, ident.sym))

-- what follows `lit`
abbrev pub literal_words : Literal → List ℕ
literal_words literal =
    words (literal_kind_word (kind_of literal)) (words (decimal (suffix_len_of literal)) (placed_words (span_of literal, symbol_of literal)))

-- LEAF
abbrev pub leaf_words : Leaf → List ℕ
leaf_words (leaf.Punct punct) = words (codes "punct") (punct_words punct)
leaf_words (leaf.Ident ident) = words (codes "ident") (ident_words ident)
leaf_words (leaf.Literal literal) = words (codes "lit") (literal_words literal)

-- what follows `sub`
abbrev pub subtree_words : Subtree → List ℕ
subtree_words subtree =
    words (kind_word subtree.delimiter.kind) (words (span_text subtree.delimiter.open_span) (words (span_text subtree.delimiter.close) (decimal subtree.len)))

-- HEAD or LEAF
abbrev pub token_words : TokenTree → List ℕ
token_words (token.Leaf leaf) = leaf_words leaf
token_words (token.Subtree subtree) = words (codes "sub") (subtree_words subtree)

-- what happens to a token
abbrev pub action_word : Action → List ℕ
action_word action.Keep = codes "keep"
action_word action.Remove = codes "remove"
action_word (action.Put slot) = codes "put:" ++ decimal slot

-- its slot is below 16
abbrev pub ActionFits : Action → Type 0
ActionFits action.Keep = Unit {0}
ActionFits action.Remove = Unit {0}
ActionFits (action.Put slot) = slot < 16
