-- What `Display` writes for a leaf, as bytes.
use Rattle.std.specs.Prelude.{ℕ, List, [], ◌++◌, replicate, codes, encode_utf8}
use Rattle.tt_base.specs.declared.ident.Ident.{Ident}
use Rattle.tt_base.specs.declared.ident.IdentIsRaw.{IdentIsRaw}
use Rattle.tt_base.specs.declared.ident.IdentIsRaw.TheVariants.{No, Yes}
use Rattle.tt_base.specs.declared.leaf.Leaf.{Leaf}
use Rattle.tt_base.specs.declared.leaf.Leaf.TheVariants as leaf
use Rattle.tt_base.specs.declared.literal.LitKind.{LitKind}
use Rattle.tt_base.specs.declared.literal.LitKind.TheVariants as lit
use Rattle.tt_base.specs.declared.literal.Literal.{Literal}
use Rattle.tt_base.specs.declared.punct.Punct.{Punct}
use Rattle.tt_base.specs.Literal.{text_of, suffix_of, kind_of}

-- that many #
abbrev pub hashes : ℕ → List ℕ
hashes count = replicate count 35

-- the text that opens a literal of a kind
abbrev pub opening_quote : LitKind → List ℕ
opening_quote lit.Byte = codes "b'"
opening_quote lit.Char = codes "'"
opening_quote lit.Integer = []
opening_quote lit.Float = []
opening_quote lit.Str = codes "\""
opening_quote (lit.StrRaw count) = codes "r" ++ hashes count ++ codes "\""
opening_quote lit.ByteStr = codes "b\""
opening_quote (lit.ByteStrRaw count) = codes "br" ++ hashes count ++ codes "\""
opening_quote lit.CStr = codes "c\""
opening_quote (lit.CStrRaw count) = codes "cr" ++ hashes count ++ codes "\""
opening_quote (lit.Err unit) = []

-- the text that closes it, before the suffix
abbrev pub closing_quote : LitKind → List ℕ
closing_quote lit.Byte = codes "'"
closing_quote lit.Char = codes "'"
closing_quote lit.Integer = []
closing_quote lit.Float = []
closing_quote lit.Str = codes "\""
closing_quote (lit.StrRaw count) = codes "\"" ++ hashes count
closing_quote lit.ByteStr = codes "\""
closing_quote (lit.ByteStrRaw count) = codes "\"" ++ hashes count
closing_quote lit.CStr = codes "\""
closing_quote (lit.CStrRaw count) = codes "\"" ++ hashes count
closing_quote (lit.Err unit) = []

-- a literal: its text in quotes, then its suffix
abbrev pub literal_text : Literal → List ℕ
literal_text literal = opening_quote (kind_of literal) ++ text_of literal ++ closing_quote (kind_of literal) ++ suffix_of literal

-- a punct: its character
abbrev pub punct_text : Punct → List ℕ
punct_text punct = encode_utf8 punct.char

-- the text before a name
abbrev pub raw_prefix : IdentIsRaw → List ℕ
raw_prefix No = []
raw_prefix Yes = codes "r#"

-- an ident: r# if it is raw, then its name
abbrev pub ident_text : Ident → List ℕ
ident_text ident = raw_prefix ident.is_raw ++ ident.sym

-- a leaf of any sort
abbrev pub leaf_text : Leaf → List ℕ
leaf_text (leaf.Literal literal) = literal_text literal
leaf_text (leaf.Punct punct) = punct_text punct
leaf_text (leaf.Ident ident) = ident_text ident
