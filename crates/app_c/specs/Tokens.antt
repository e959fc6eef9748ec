-- What a caller gets of the tokens of a tree: their texts, and words about them.
use Rattle.std.specs.Prelude.{◌≡◌, ◌⊎◌, ◌+◌, ◌++◌, ℕ, List, [], ◌∷◌, length, map}
use Rattle.tt_base.specs.Forest.{Forest, Root}
use Rattle.tt_base.specs.LeafText.{ident_text, literal_text, punct_text}
use Rattle.tt_base.specs.Literal.{kind_of, span_of}
use Rattle.tt_base.specs.Span.{size_of}
use Rattle.tt_base.specs.TreeText.{closing_text, opening_text}
use Rattle.tt_base.specs.Walk.{Event, closes, opens, passes, walk}
use Rattle.tt_base.specs.declared.delimiter.Delimiter.{Delimiter}
use Rattle.tt_base.specs.declared.leaf.Leaf.{Leaf}
use Rattle.tt_base.specs.declared.leaf.Leaf.TheVariants as leaf
use Rattle.tt_base.specs.declared.span.Span.{Span}
use Rattle.tt_base.specs.declared.token_tree.TokenTree.{TokenTree}
use Rattle.tt_base.specs.declared.token_tree.TokenTree.TheVariants as token
use Rattle.tt_bytes.specs.Format.{AreBytesOf}
use Rattle.tt_codec.specs.Kinds.{delimiter_number, kind_number, raw_number, spacing_number}
use Rattle.app_c.specs.Bytes.{AreOfNoTree}
use Rattle.app_c.specs.Failures.{placeless}
use Rattle.app_c.specs.declared.failure.Failure.{Failure}
use Rattle.app_c.specs.declared.fault.Fault.TheVariants as answer
use Rattle.app_c.specs.declared.listing.Listing.{Listing}

-- a token as a caller sees it: what it is, of which kind among these, its text and its span
pub record Seen : Type 0 where
  pub sort : ℕ
  pub kind : ℕ
  pub text : List ℕ
  pub span : Span

-- the start of a subtree: its opening bracket
abbrev pub opening : Delimiter → Seen
opening it = record { sort = 1; kind = delimiter_number it.kind; text = opening_text it.kind; span = it.open_span }

-- the end of a subtree: its closing bracket
abbrev pub closing : Delimiter → Seen
closing it = record { sort = 2; kind = delimiter_number it.kind; text = closing_text it.kind; span = it.close }

-- a leaf
abbrev pub seen_leaf : Leaf → Seen
seen_leaf (leaf.Ident ident) = record { sort = 3; kind = raw_number ident.is_raw; text = ident_text ident; span = ident.span }
seen_leaf (leaf.Punct punct) = record { sort = 4; kind = spacing_number punct.spacing; text = punct_text punct; span = punct.span }
seen_leaf (leaf.Literal literal) =
    record { sort = 5; kind = kind_number (kind_of literal); text = literal_text literal; span = span_of literal }

-- a leaf, or the start of a subtree
abbrev pub seen_first : TokenTree → Seen
seen_first (token.Leaf it) = seen_leaf it
seen_first (token.Subtree it) = opening it.delimiter

-- what a walk comes to
abbrev pub seen_at : Event → Seen
seen_at (passes it) = seen_leaf it
seen_at (opens it) = opening it.delimiter
seen_at (closes it) = closing it.delimiter

-- the tokens of trees, in reading order
abbrev pub seen : Forest → List Seen
seen trees = map seen_at (walk trees)

-- where a span begins and ends, and from where that is counted
abbrev pub span_words : Span → List ℕ
span_words span =
    size_of span.range.start ∷ size_of span.range.end ∷ span.anchor.file_id.0 ∷ span.anchor.ast_id.0 ∷ span.ctx.0 ∷ []

-- the words of a token whose text begins at that byte
abbrev pub seen_words : (text : ℕ) → Seen → List ℕ
seen_words text it = it.sort ∷ it.kind ∷ text ∷ length it.text ∷ span_words it.span

-- the texts of tokens, one behind the other
abbrev pub texts_of : List Seen → List ℕ
texts_of [] = []
texts_of (it ∷ its) = it.text ++ texts_of its

-- the words of tokens whose texts begin at that byte
abbrev pub words_of : (texts : ℕ) → List Seen → List ℕ
words_of texts [] = []
words_of texts (it ∷ its) = seen_words texts it ++ words_of (texts + length it.text) its

-- one token more is listed
pub record IsPut (it : Seen) (old new : Listing) : Type 0 where
  pub bytes_are : new.bytes.items ≡ old.bytes.items ++ it.text
  pub words_are : new.words.items ≡ old.words.items ++ seen_words (length old.bytes.items) it

-- the texts and the words of the tokens of trees
pub record AreTokensOf (trees : Forest) (texts words : List ℕ) : Type 0 where
  pub texts_are : texts ≡ texts_of (seen trees)
  pub words_are : words ≡ words_of 0 (seen trees)

-- the same for the tree that has these bytes
abbrev pub AreTokensIn : (bytes texts words : List ℕ) → Type 0
AreTokensIn bytes texts words = (root : Root) × AreBytesOf root bytes × AreTokensOf root.children texts words

-- why there are none: the bytes are those of no tree, or memory runs out
abbrev pub HaveNoTokens : (bytes : List ℕ) → Failure → Type 0
HaveNoTokens bytes failure = AreOfNoTree bytes failure ⊎ (failure ≡ placeless answer.Memory)
