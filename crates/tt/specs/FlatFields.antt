-- How the fields of a flat builder represent what it holds: one flat list, and the places of the open headers.
use Rattle.std.specs.Prelude.{◌≡◌, ℕ, suc, ◌≤◌, List, [], ◌∷◌, ◌++◌, length}
use Rattle.tt_base.specs.Building.{Stack, above, lowest, tokens_held}
use Rattle.tt_base.specs.Forest.{flat, header}
use Rattle.tt_base.specs.Token.{delimiter}
use Rattle.tt_base.specs.declared.delimiter.Delimiter.{Delimiter}
use Rattle.tt_base.specs.declared.delimiter.DelimiterKind.{DelimiterKind}
use Rattle.tt_base.specs.declared.span.Span.{Span}
use Rattle.tt_base.specs.declared.token_tree.TokenTree.{TokenTree}
use Rattle.tt_base.specs.declared.token_tree.TokenTree.TheVariants as token
use Rattle.tt.specs.FlatHeld.{Held}

-- the header of an open subtree; its count is 0 and its close span is the open span until the subtree is closed
abbrev pub open_header : DelimiterKind → Span → TokenTree
open_header kind open_span = header (delimiter kind open_span open_span) 0

-- the list: the top's header with the count 0, and the tokens held
abbrev pub written : Delimiter → Stack → List TokenTree
written top (lowest trees) = header top 0 ∷ flat trees
written top (above outer kind open_span trees) = written top outer ++ open_header kind open_span ∷ flat trees

-- the places of the headers of the open subtrees in the list, outermost first
abbrev pub places : Stack → List ℕ
places (lowest trees) = []
places (above outer kind open_span trees) = places outer ++ suc (tokens_held outer) ∷ []

-- a header with another count; a leaf stays
abbrev pub counted_token : ℕ → TokenTree → TokenTree
counted_token len (token.Leaf it) = token.Leaf it
counted_token len (token.Subtree s) = header s.delimiter len

-- the list with another count in its first header
abbrev pub counted : ℕ → List TokenTree → List TokenTree
counted len [] = []
counted len (it ∷ tokens) = counted_token len it ∷ tokens

-- the fields represent what the builder holds
pub record AreFieldsOf (tokens : List TokenTree) (headers : List ℕ) (held : Held) : Type 0 where
  pub list : tokens ≡ written held.top held.stack
  pub few : length tokens ≤ 4294967296
  pub open_places : headers ≡ places held.stack

-- the fields represent something that a builder can hold
abbrev pub HasHeld : List TokenTree → List ℕ → Type 0
HasHeld tokens headers = (held : Held) × AreFieldsOf tokens headers held
