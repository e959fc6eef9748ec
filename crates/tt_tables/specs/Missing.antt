-- What is missing at a place of a list that may have open headers.
use Rattle.std.specs.Prelude.{◌≡◌, ℕ, List, Some, slice_get}
use Rattle.tt_base.specs.declared.delimiter.DelimiterKind.{DelimiterKind}
use Rattle.tt_base.specs.declared.delimiter.Subtree.{Subtree}
use Rattle.tt_base.specs.declared.span.Span.{Span}
use Rattle.tt_base.specs.declared.token_tree.TokenTree.{TokenTree}
use Rattle.tt_base.specs.declared.token_tree.TokenTree.TheVariants as token
use Rattle.tt_tables.specs.Held.{HeldToken, whole, opened}

-- no open header is at the place
abbrev pub NoOpenAt : List HeldToken → ℕ → Type 0
NoOpenAt held place = (kind : DelimiterKind) (open_span : Span) → slice_get held place ≡ Some (opened kind open_span) → ⊥

-- no closed header is at the place
abbrev pub NoHeaderAt : List HeldToken → ℕ → Type 0
NoHeaderAt held place = (it : Subtree) → slice_get held place ≡ Some (whole (token.Subtree it)) → ⊥

-- no whole token is at the place: no token at all, or an open header
abbrev pub NoWholeAt : List HeldToken → ℕ → Type 0
NoWholeAt held place = (it : TokenTree) → slice_get held place ≡ Some (whole it) → ⊥
