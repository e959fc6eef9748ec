-- How the fields of a builder represent its state: one flat list, the places of the open headers, and two lengths for each restore point.
use Rattle.std.specs.Prelude.{map, reverse, ◌≡◌, ℕ, zero, suc, ◌+◌, ◌<◌, ◌≤◌, List, [], ◌∷◌, ◌++◌, length, take, drop, Option, Some, None, nat_eq, Bool, false, if◌then◌else◌}
use Rattle.std.specs.List.{AllByRecursion}
use Rattle.tt_base.specs.declared.delimiter.Delimiter.{Delimiter}
use Rattle.tt_base.specs.declared.delimiter.DelimiterKind.{DelimiterKind}
use Rattle.tt_base.specs.declared.delimiter.DelimiterKind.TheVariants.{Invisible}
use Rattle.tt_base.specs.declared.span.Span.{Span}
use Rattle.tt_base.specs.declared.token_tree.TokenTree.{TokenTree}
use Rattle.tt_base.specs.declared.token_tree.TokenTree.TheVariants as token
use Rattle.tt_base.specs.Token.{delimiter}
use Rattle.tt_base.specs.Forest.{Forest, end, leaf, node, size, header, flat}
use Rattle.tt.specs.declared.builder.standing.Standing.{Standing}
use Rattle.tt_base.specs.Building.{Stack, lowest, above, innermost, tokens_held, Point, BuilderState}
use Rattle.tt_base.specs.OneRoot.{is_invisible}

-- the header of an open subtree; its count is 0 and its close span is the open span until the subtree is closed
abbrev pub open_header : DelimiterKind → Span → TokenTree
open_header kind open_span = header (delimiter kind open_span open_span) 0

-- the list: the top's header with the count 0, and the tokens held
abbrev pub written : Delimiter → Stack → List TokenTree
written top (lowest trees) = header top 0 ∷ flat trees
written top (above outer kind open_span trees) = written top outer ++ open_header kind open_span ∷ flat trees

-- the places of the headers of the open subtrees in the list, outermost first
abbrev pub places : Stack → List ℕ
places (lowest trees) = []
places (above outer kind open_span trees) = places outer ++ suc (tokens_held outer) ∷ []

-- a header with its count and its close span; a leaf stays
abbrev pub closed_token : Span → ℕ → TokenTree → TokenTree
closed_token close_span len (token.Leaf it) = token.Leaf it
closed_token close_span len (token.Subtree s) = header (delimiter s.delimiter.kind s.delimiter.open_span close_span) len

-- whether the token is an invisible header
abbrev pub invisible_token : TokenTree → Bool
invisible_token (token.Leaf it) = false
invisible_token (token.Subtree s) = is_invisible s.delimiter.kind

-- whether the first token is a header that counts all other tokens
abbrev pub is_one_node : List TokenTree → Bool
is_one_node [] = false
is_one_node (token.Leaf it ∷ rest) = false
is_one_node (token.Subtree s ∷ rest) = nat_eq s.len (length rest)

-- the kind of a header, or invisible for a leaf
abbrev pub kind_of : TokenTree → DelimiterKind
kind_of (token.Leaf it) = Invisible
kind_of (token.Subtree s) = s.delimiter.kind

-- the kind of the header at a place
abbrev pub kind_at : List TokenTree → ℕ → DelimiterKind
kind_at [] place = Invisible
kind_at (it ∷ tokens) zero = kind_of it
kind_at (it ∷ tokens) (suc place) = kind_at tokens place

-- the kinds of the headers at these places, the last first
abbrev pub kinds_at : List TokenTree → List ℕ → List DelimiterKind
kinds_at tokens places = reverse (map (kind_at tokens) places)

-- the number of tokens of the first k trees together
abbrev pub tokens_before : ℕ → Forest → ℕ
tokens_before zero trees = 0
tokens_before (suc k) end = 0
tokens_before (suc k) (leaf it rest) = suc (tokens_before k rest)
tokens_before (suc k) (node delimiter children rest) = suc (size children + tokens_before k rest)

-- the place in the list at which the trees of the innermost level begin
abbrev pub innermost_start : Stack → ℕ
innermost_start (lowest trees) = 1
innermost_start (above outer kind open_span trees) = suc (suc (tokens_held outer))

-- the tree of that number is a node
abbrev pub IsNodeAt : ℕ → Forest → Type 0
IsNodeAt k end = ⊥
IsNodeAt zero (leaf it rest) = ⊥
IsNodeAt zero (node delimiter children rest) = Unit {0}
IsNodeAt (suc k) (leaf it rest) = IsNodeAt k rest
IsNodeAt (suc k) (node delimiter children rest) = IsNodeAt k rest

-- the number of the marked tree, and the place of its header; both are none if there is no mark
abbrev pub IsMark : Stack → Option ℕ → Option ℕ → Type 0
IsMark stack None None = Unit {0}
IsMark stack None (Some k) = ⊥
IsMark stack (Some place) None = ⊥
IsMark stack (Some place) (Some k) = (place ≡ innermost_start stack + tokens_before k (innermost stack)) × IsNodeAt k (innermost stack)

-- no valid point has more tokens than there are before the marked header
abbrev pub IsBehindPoints : Option ℕ → List Standing → Type 0
IsBehindPoints None points = Unit {0}
IsBehindPoints (Some place) points = AllByRecursion (λ point. point.tokens ≤ place) points

-- two lengths represent the point: the list and the places, cut to them, were there when it was taken; all later headers are after these
pub record IsNoted (top : Delimiter) (tokens : List TokenTree) (headers : List ℕ) (kept : Standing) (point : Point) : Type 0 where
  pub numbered : kept.number ≡ point.number
  pub held : take kept.tokens tokens ≡ written top point.stack
  pub reaches : kept.tokens ≤ length tokens
  pub opened : take kept.depth headers ≡ places point.stack
  pub counts : kept.depth ≤ length headers
  pub behind : AllByRecursion (λ place. kept.tokens ≤ place) (drop kept.depth headers)

-- the same of all points
abbrev pub AreNoted : Delimiter → List TokenTree → List ℕ → List Standing → List Point → Type 0
AreNoted top tokens headers [] [] = Unit {0}
AreNoted top tokens headers [] (point ∷ points) = ⊥
AreNoted top tokens headers (kept ∷ others) [] = ⊥
AreNoted top tokens headers (kept ∷ others) (point ∷ points) = IsNoted top tokens headers kept point × AreNoted top tokens headers others points

-- the point of that number
abbrev pub kept_under : ℕ → List Standing → Option Standing
kept_under number [] = None
kept_under number (kept ∷ others) = if nat_eq kept.number number then Some kept else kept_under number others

-- the builder took the point a before the point b
pub record IsEarlier (a b : Standing) : Type 0 where
  pub number : a.number < b.number
  pub tokens : a.tokens ≤ b.tokens
  pub depth : a.depth ≤ b.depth

-- the points are in the order in which the builder took them
abbrev pub AreInOrder : List Standing → Type 0
AreInOrder [] = Unit {0}
AreInOrder (kept ∷ others) = AllByRecursion (IsEarlier kept) others × AreInOrder others

-- the fields represent the state
pub record IsStateOf (tokens : List TokenTree) (headers : List ℕ) (mark : Option ℕ) (points : List Standing) (taken : ℕ) (state : BuilderState) : Type 0 where
  pub list : tokens ≡ written state.top state.stack
  pub few : length tokens ≤ 4294967296
  pub open_places : headers ≡ places state.stack
  pub marked : IsMark state.stack mark state.mark
  pub clear : IsBehindPoints mark points
  pub noted : AreNoted state.top tokens headers points state.points
  pub order : AreInOrder points
  pub numbers : AllByRecursion (λ point. point.number < taken) points
  pub count : taken ≡ state.taken

-- the fields represent some state
abbrev pub HasState : List TokenTree → List ℕ → Option ℕ → List Standing → ℕ → Type 0
HasState tokens headers mark points taken = (state : BuilderState) × IsStateOf tokens headers mark points taken state
