-- What `Debug` writes for spans, kinds of literals and trees, as bytes.
use Rattle.std.specs.Prelude.{ℕ, zero, suc, Bool, true, false, List, [], ◌∷◌, ◌++◌, codes, decimal, if◌then◌else◌}
use Rattle.tt_base.specs.declared.delimiter.Delimiter.{Delimiter}
use Rattle.tt_base.specs.declared.delimiter.DelimiterKind.{DelimiterKind}
use Rattle.tt_base.specs.declared.delimiter.DelimiterKind.TheVariants.{Parenthesis, Brace, Bracket, Invisible, InvisibleOpaque}
use Rattle.tt_base.specs.declared.leaf.Leaf.{Leaf}
use Rattle.tt_base.specs.declared.leaf.Leaf.TheVariants as leaf
use Rattle.tt_base.specs.declared.literal.LitKind.{LitKind}
use Rattle.tt_base.specs.declared.literal.LitKind.TheVariants as lit
use Rattle.tt_base.specs.declared.punct.Spacing.{Spacing}
use Rattle.tt_base.specs.declared.punct.Spacing.TheVariants.{Alone, Joint, JointHidden}
use Rattle.tt_base.specs.Forest.{Forest, end, leaf as leaf_then, node}
use Rattle.tt_base.specs.LeafText.{punct_text, ident_text}
use Rattle.tt_base.specs.Literal.{symbol_of, span_of, kind_of}
use Rattle.tt_base.specs.Span.{span_text}

-- a kind of literal: its name, and the hashes of a raw one
abbrev pub kind_text : LitKind → List ℕ
kind_text lit.Byte = codes "Byte"
kind_text lit.Char = codes "Char"
kind_text lit.Integer = codes "Integer"
kind_text lit.Float = codes "Float"
kind_text lit.Str = codes "Str"
kind_text (lit.StrRaw count) = codes "StrRaw(" ++ decimal count ++ codes ")"
kind_text lit.ByteStr = codes "ByteStr"
kind_text (lit.ByteStrRaw count) = codes "ByteStrRaw(" ++ decimal count ++ codes ")"
kind_text lit.CStr = codes "CStr"
kind_text (lit.CStrRaw count) = codes "CStrRaw(" ++ decimal count ++ codes ")"
kind_text (lit.Err unit) = codes "Err(())"

-- a word, one space, and what follows
abbrev pub spaced : List ℕ → List ℕ → List ℕ
spaced word rest = word ++ 32 ∷ rest

-- both ends of a subtree
abbrev pub ends_text : DelimiterKind → List ℕ
ends_text Parenthesis = codes "()"
ends_text Brace = codes "{}"
ends_text Bracket = codes "[]"
ends_text Invisible = codes "$$"
ends_text InvisibleOpaque = codes "$$"

-- a spacing; joint hidden is written as joint
abbrev pub spacing_text : Spacing → List ℕ
spacing_text Alone = codes "[alone]"
spacing_text Joint = codes "[joint]"
spacing_text JointHidden = codes "[joint]"

-- the line of a leaf
unfoldable pub leaf_line : Leaf → List ℕ
leaf_line (leaf.Literal literal) =
    spaced (codes "LITERAL") (spaced (kind_text (kind_of literal)) (spaced (symbol_of literal) (span_text (span_of literal))))
leaf_line (leaf.Punct punct) = spaced (codes "PUNCH  ") (spaced (punct_text punct) (spaced (spacing_text punct.spacing) (span_text punct.span)))
leaf_line (leaf.Ident ident) = spaced (codes "IDENT  ") (spaced (ident_text ident) (span_text ident.span))

-- the line of a node's header
unfoldable pub header_line : Delimiter → List ℕ
header_line delimiter =
    spaced (codes "SUBTREE") (spaced (ends_text delimiter.kind) (spaced (span_text delimiter.open_span) (span_text delimiter.close)))

-- two spaces for each level
abbrev pub indent : ℕ → List ℕ
indent zero = []
indent (suc depth) = 32 ∷ 32 ∷ indent depth

-- a line feed, or nothing
abbrev pub break_if : Bool → List ℕ
break_if due = if due then 10 ∷ [] else []

-- a line for each token in flat order, indented by its depth, with line feeds between the lines; `due` says whether one comes before the
-- first
abbrev pub lines_text : (due : Bool) → (depth : ℕ) → Forest → List ℕ
lines_text due depth end = []
lines_text due depth (leaf_then leaf rest) = break_if due ++ indent depth ++ leaf_line leaf ++ lines_text true depth rest
lines_text due depth (node delimiter children rest) =
    break_if due ++ indent depth ++ header_line delimiter ++ lines_text true (suc depth) children ++ lines_text true depth rest

-- what `Debug` writes
unfoldable pub debug : Forest → List ℕ
debug trees = lines_text false 0 trees
