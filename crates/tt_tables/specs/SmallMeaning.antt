-- The token that a small token means.
use Rattle.std.specs.Prelude.{◌≡◌, ℕ, suc, ◌%◌, List, [], ◌∷◌, Some, slice_get}
use Rattle.tt_base.specs.declared.delimiter.Subtree.{Subtree}
use Rattle.tt_base.specs.declared.ident.IdentIsRaw.{IdentIsRaw}
use Rattle.tt_base.specs.declared.leaf.Leaf.{Leaf}
use Rattle.tt_base.specs.declared.leaf.Leaf.TheVariants as leaf
use Rattle.tt_base.specs.declared.literal.LitKind.{LitKind}
use Rattle.tt_base.specs.declared.punct.Spacing.{Spacing}
use Rattle.tt_base.specs.declared.token_tree.TokenTree.{TokenTree}
use Rattle.tt_base.specs.declared.token_tree.TokenTree.TheVariants as token
use Rattle.tt_base.specs.Literal.{symbol_of}
use Rattle.tt_codec.specs.declared.entry.LeafEntry.TheVariants.{Punct as punct, Ident as ident, Literal as literal}
use Rattle.tt_codec.specs.declared.span.SpanNumbers.{SpanNumbers}
use Rattle.tt_tables.specs.declared.small.Form.{Form}
use Rattle.tt_tables.specs.declared.small.Form.TheVariants as form
use Rattle.tt_tables.specs.declared.small.Small.{Small}
use Rattle.tt_tables.specs.declared.token.InternedToken.{InternedToken}
use Rattle.tt_tables.specs.declared.token.InternedToken.TheVariants as interned
use Rattle.tt_tables.specs.Held.{whole}
use Rattle.tt_tables.specs.Names.{Names}
use Rattle.tt_tables.specs.Tables.{Tables}

-- the symbol of a leaf, if it has one, is at the place
abbrev pub NamesSymbol : (symbols : List (List ℕ)) (place : ℕ) → Leaf → Type 0
NamesSymbol symbols place (leaf.Literal it) = slice_get symbols place ≡ Some (symbol_of it)
NamesSymbol symbols place (leaf.Punct it) = Unit {0}
NamesSymbol symbols place (leaf.Ident it) = slice_get symbols place ≡ Some it.sym

-- the numbers of its span: the one part is at the place 0
abbrev pub small_numbers : Small → SpanNumbers
small_numbers small = record { part = 0; start = small.start; length = small.length }

-- an ASCII punct in numbers
abbrev pub small_punct : Spacing → Small → InternedToken
small_punct spacing small = interned.Leaf (punct (small.value % 256) spacing (small_numbers small))

-- an ident in numbers
abbrev pub small_ident : IdentIsRaw → Small → InternedToken
small_ident raw small = interned.Leaf (ident small.value raw (small_numbers small))

-- a literal without a suffix in numbers
abbrev pub small_literal : LitKind → Small → InternedToken
small_literal kind small = interned.Leaf (literal small.value kind 0 (small_numbers small))

-- the header is at the place
abbrev pub IsHeaderAt : List Subtree → (place : ℕ) → TokenTree → Type 0
IsHeaderAt headers place (token.Leaf it) = ⊥
IsHeaderAt headers place (token.Subtree it) = slice_get headers place ≡ Some it

-- the leaf is at the place, and its symbol at another
abbrev pub IsLeafAt : (symbols : List (List ℕ)) → List Leaf → (place symbol : ℕ) → TokenTree → Type 0
IsLeafAt symbols leaves place symbol (token.Leaf it) = (slice_get leaves place ≡ Some it) × NamesSymbol symbols symbol it
IsLeafAt symbols leaves place symbol (token.Subtree it) = ⊥

-- by its form
abbrev pub MeansBy : Form → Tables → List Subtree → List Leaf → Small → TokenTree → Type 0
MeansBy (form.Punct spacing) tables headers leaves small it = Names tables (small_punct spacing small) (whole it)
MeansBy (form.Ident raw) tables headers leaves small it = Names tables (small_ident raw small) (whole it)
MeansBy (form.Literal kind) tables headers leaves small it = Names tables (small_literal kind small) (whole it)
MeansBy form.Header tables headers leaves small it = IsHeaderAt headers small.value it
MeansBy form.Odd tables headers leaves small it = IsLeafAt tables.symbols leaves small.value small.start it

-- under tables of one part, with these headers and these odd leaves, the small token means the other one
abbrev pub Means : Tables → List Subtree → List Leaf → Small → TokenTree → Type 0
Means tables headers leaves small it = MeansBy small.form tables headers leaves small it

-- the form is not that of a header
abbrev pub IsHeaderless : Form → Type 0
IsHeaderless form.Header = ⊥
IsHeaderless (form.Punct spacing) = Unit {0}
IsHeaderless (form.Ident raw) = Unit {0}
IsHeaderless (form.Literal kind) = Unit {0}
IsHeaderless form.Odd = Unit {0}

-- the headers of the tokens are at the places from `next` on, one after another, and there are `headers` places
abbrev pub RankedBy : Form → (value next : ℕ) → (others : ℕ → Type 0) → Type 0
RankedBy form.Header value next others = (value ≡ next) × others (suc next)
RankedBy (form.Punct spacing) value next others = others next
RankedBy (form.Ident raw) value next others = others next
RankedBy (form.Literal kind) value next others = others next
RankedBy form.Odd value next others = others next

-- the same of all tokens
abbrev pub AreRanked : (headers : ℕ) → List Small → (next : ℕ) → Type 0
AreRanked headers [] next = next ≡ headers
AreRanked headers (small ∷ tokens) next = RankedBy small.form small.value next (AreRanked headers tokens)
