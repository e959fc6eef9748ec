-- The state of a rewriting: at each level, the trees written so far and the trees still to read.
use Rattle.std.specs.Prelude.{◌≡◌, ℕ, ◌+◌, ◌<◌, ◌⊎◌, Bool, true, false, List, [], ◌∷◌, ◌++◌, length, map, sum_by, Some}
use Rattle.tt_base.specs.declared.delimiter.Delimiter.{Delimiter}
use Rattle.tt_base.specs.declared.token_tree.TokenTree.{TokenTree}
use Rattle.tt_base.specs.declared.token_tree.TokenTree.TheVariants as token
use Rattle.tt_base.specs.Forest.{Forest, Root, end, leaf, node, size, header, flat, join}
use Rattle.tt_base.specs.Moves.{first_token, after_tree}
use Rattle.tt_base.specs.OneRoot.{one_root}
use Rattle.tt_base.specs.Rewriting.{Action, keep, replace, rewrite, shown}
use Rattle.tt_base.specs.Siblings.{children_of}
use Rattle.tt_view.specs.Iters.{rest_of as trees_left}
use Rattle.tt_view.specs.Views.{trees_of}
use Rattle.tt_view.specs.declared.iter.TtElement.{TtElement}
use Rattle.tt_view.specs.declared.iter.TtElement.TheVariants as element
use Rattle.tt.specs.declared.transform.Frame.{Frame}
use Rattle.tt.specs.declared.transform.Rewriting.{Rewriting}

-- the trees written and the trees still to read, at the lowest level and in each kept node with unread trees; a node has its delimiter
-- and the count of its header
pub data Work : Type 0 where
  lowest : (out rest : Forest) → Work
  above : Work → Delimiter → ℕ → (out rest : Forest) → Work

-- the same after more trees are written
abbrev pub given : Forest → Work → Work
given more (lowest out rest) = lowest (join out more) rest
given more (above outer delimiter count out rest) = above outer delimiter count (join out more) rest

-- the trees still to read at the innermost level
abbrev pub rest_of : Work → Forest
rest_of (lowest out rest) = rest
rest_of (above outer delimiter count out rest) = rest

-- the same with other trees to read there
abbrev pub with_rest : Forest → Work → Work
with_rest left (lowest out rest) = lowest out left
with_rest left (above outer delimiter count out rest) = above outer delimiter count out left

-- the same after the next tree is taken
abbrev pub taken : Work → Work
taken work = with_rest (after_tree (rest_of work)) work

-- the same after a token that was taken is kept: a leaf is written, and a node becomes a level
abbrev pub kept : TokenTree → (below : Forest) → Work → Work
kept (token.Leaf it) below work = given (leaf it end) work
kept (token.Subtree s) below work = above work s.delimiter s.len end below

-- the result, if these trees are written now and these actions come later
abbrev pub finish_with : Work → Forest → List Action → Forest
finish_with (lowest out rest) more actions = join out (join more (rewrite rest actions).0)
finish_with (above outer delimiter count out rest) more actions =
    let inside = rewrite rest actions in
    finish_with outer (node delimiter (join out (join more inside.0)) end) inside.1

-- the result
abbrev pub finish : Work → List Action → Forest
finish work actions = finish_with work end actions

-- the tokens that the callback will see
abbrev pub to_show : Work → List Action → List TokenTree
to_show (lowest out rest) actions = shown rest actions
to_show (above outer delimiter count out rest) actions = shown rest actions ++ to_show outer (rewrite rest actions).1

-- the tokens written so far; a header has its old count until all of its node is read
abbrev pub written : Work → List TokenTree
written (lowest out rest) = flat out
written (above outer delimiter count out rest) = written outer ++ header delimiter count ∷ flat out

-- the places of the headers of the open nodes, outermost first
abbrev pub places_of : Work → List ℕ
places_of (lowest out rest) = []
places_of (above outer delimiter count out rest) = places_of outer ++ length (written outer) ∷ []

-- the trees still to read after each of these nodes
abbrev pub rests_of : Work → List Forest
rests_of (lowest out rest) = []
rests_of (above outer delimiter count out rest) = rests_of outer ++ rest_of outer ∷ []

-- the number of tokens still to read
abbrev pub to_come : Work → ℕ
to_come work = size (rest_of work) + sum_by size (rests_of work)

-- the lowest level has no trees: the one tree is entered, or its place is empty
abbrev pub IsTaken : Work → Type 0
IsTaken (lowest out rest) = (out ≡ end) × (rest ≡ end)
IsTaken (above outer delimiter count out rest) = IsTaken outer

-- there is one tree: it is not read yet, or entered, or something is written for it
abbrev pub IsOfOne : Work → Type 0
IsOfOne (lowest out rest) = (rest ≡ end) ⊎ ((out ≡ end) × (after_tree rest ≡ end))
IsOfOne (above outer delimiter count out rest) = IsTaken outer

-- one node with too many tokens
abbrev pub IsTooLarge : Forest → Type 0
IsTooLarge trees = (root : Root) × (one_root trees ≡ Some root) × (4294967295 < size root.children)

-- whatever the callback answers, the result is such a node
abbrev pub ComesTooLarge : Work → Type 0
ComesTooLarge work = (actions : List Action) → IsTooLarge (finish work actions)

-- the list and the places are those of the work, or the result is too large
abbrev pub IsListOf : (fits : Bool) → List TokenTree → List ℕ → Work → Type 0
IsListOf true list places work = (list ≡ written work) × (places ≡ places_of work)
IsListOf false list places work = ComesTooLarge work

-- the place of a frame's header
abbrev pub place_of : Frame → ℕ
place_of frame = frame.header

-- the trees after a frame's node
abbrev pub behind : Frame → Forest
behind frame = trees_of frame.rest

-- these represent the work: whether everything fits, the list, the frames, and the trees still to read in the innermost node
pub record Stands (fits : Bool) (out : List TokenTree) (frames : List Frame) (rest : Forest) (work : Work) : Type 0 where
  pub list : IsListOf fits out (map place_of frames) work
  pub rests : map behind frames ≡ rests_of work
  pub ahead : rest ≡ rest_of work
  pub one : IsOfOne work

-- the fields represent the work
abbrev pub StandsFor : Rewriting → Work → Type 0
StandsFor fields work = Stands fields.fits fields.list.items fields.frames.items (trees_of fields.rest) work

-- the number of tokens still to read, by the fields
abbrev pub unread : Rewriting → ℕ
unread fields = size (trees_of fields.rest) + sum_by size (map behind fields.frames.items)

-- both have the same result and the same tokens to show, whatever the callback answers
pub record ComesToSame (a b : Work) : Type 0 where
  pub result : (actions : List Action) → finish a actions ≡ finish b actions
  pub tokens : (actions : List Action) → to_show a actions ≡ to_show b actions
  pub left : to_come a ≡ to_come b

-- the fields represent work with the same result
abbrev pub GoesOn : Work → Rewriting → Type 0
GoesOn work new = (next : Work) × StandsFor new next × ComesToSame work next

-- the new fields go on with any work that the old ones represent
abbrev pub StaysSame : (old new : Rewriting) → Type 0
StaysSame old new = (work : Work) → StandsFor old work → GoesOn work new

-- the fields and this frame represent work whose innermost node has no trees to read
abbrev pub IsEnded : Rewriting → Frame → Work → Type 0
IsEnded fields frame work = Stands fields.fits fields.list.items (fields.frames.items ++ frame ∷ []) end work

-- nothing is left to read
abbrev pub Ends : (old new : Rewriting) → Type 0
Ends old new = (work : Work) → StandsFor old work → (came : Forest) × StandsFor new (lowest came end) × ComesToSame work (lowest came end)

-- in work with the same result, the token is next, and these are the trees below it; now it is taken
pub record IsNextOf (work : Work) (new : Rewriting) (it : TokenTree) (below : Forest) : Type 0 where
  pub next : Work
  pub same : ComesToSame work next
  pub first : first_token (rest_of next) ≡ Some it
  pub holds : below ≡ children_of (rest_of next)
  pub stands : StandsFor new (taken next)
  pub one : IsTaken (taken next)

-- the token is next, and is taken, in any work that the old fields represent
abbrev pub Takes : (old new : Rewriting) → TokenTree → Forest → Type 0
Takes old new it below = (work : Work) → StandsFor old work → IsNextOf work new it below

-- the work after an action for a token that was taken
abbrev pub done : Action → TokenTree → (below : Forest) → Work → Work
done keep it below work = kept it below work
done (replace trees) it below work = given trees work

-- a header with another count; a leaf stays
abbrev pub counted : ℕ → TokenTree → TokenTree
counted len (token.Leaf it) = token.Leaf it
counted len (token.Subtree s) = header s.delimiter len

-- the token of an element
abbrev pub token_of : TtElement → TokenTree
token_of (element.Leaf it) = token.Leaf it
token_of (element.Subtree subtree below) = token.Subtree subtree

-- the trees below the token of an element
abbrev pub below_of : TtElement → Forest
below_of (element.Leaf it) = end
below_of (element.Subtree subtree below) = trees_left below
