-- What the walk that loosens trees has built, and what is left of them.
use Rattle.std.proofs.Common.{◌≡◌, List, ◌∷◌, map, reverse, ap, sym, ◌∙◌, arith}
use Rattle.tt.specs.Building.{BuilderState, Stack, lowest, above, append, IsGrowthFault}
use Rattle.tt.specs.Forest.{Forest, end, leaf, node, size}
use Rattle.tt.specs.Iters.{rest_of}
use Rattle.tt.specs.TreeFault.{under, IsTreeFault}
use Rattle.tt.specs.Types.Delimiter.{Delimiter}
use Rattle.tt.specs.Types.DelimiterKind.{DelimiterKind}
use Rattle.tt.specs.Types.Leaf.{Leaf}
use Rattle.tt.specs.Types.Span.{Span}
use Rattle.tt.specs.Types.TtFault.{TtFault}
use Rattle.expand_items.specs.declared.loosening.Level.{Level}
use Rattle.expand_items.specs.declared.loosening.Place.{Place}
use Rattle.expand_items.specs.Loosening.{first_place_in, is_apart, kind_in, loosened, place_behind, place_behind_leaf}
use Rattle.expand_items.proofs.Rebuilding.{Open, finished, finished_step, finished_node, no_room}

-- what is known of a level
abbrev pub open_of : Level → Open Place
open_of it = record { before = it.place; rest = rest_of it.rest; close = it.close }

-- the levels around the innermost, the innermost of them first
abbrev pub opens : List Level → List (Open Place)
opens outer = map open_of (reverse outer)

module _ (outer : List (Open Place)) (place then : Place) (trees : Forest) (stack : Stack) where
  -- A leaf is built.
  pub leaf_built : (behind : Forest) (it : Leaf) → trees ≡ leaf it behind → then ≡ place_behind_leaf it place
      → finished loosened outer place trees stack ≡ finished loosened outer then behind (append (leaf it end) stack)
  leaf_built behind it begins is =
      finished_step loosened outer place then trees behind (leaf it end) stack (ap (loosened place) begins ∙ ap (λ p. leaf it (loosened p behind)) (sym is))

  -- A subtree is opened; `then` is the place of its first tree.
  pub node_built : (held : Forest) (level : Open Place) (it : Delimiter) (kind : DelimiterKind) → trees ≡ node it held level.rest → level.close ≡ it.close
      → level.before ≡ place_behind it.kind place → kind ≡ kind_in held level.rest place it.kind
      → then ≡ first_place_in (kind_in held level.rest place it.kind) (is_apart held level.rest place) place
      → finished loosened outer place trees stack ≡ finished loosened (level ∷ outer) then held (above stack kind it.open_span end)
  node_built held level it kind begins close behind is first = finished_node loosened outer place then trees held level it.open_span kind stack (
      ap (loosened place) begins
      ∙ ap (λ k. made it.close k (loosened entered held) (loosened after level.rest)) (sym is)
      ∙ ap (λ c. made c kind (loosened entered held) (loosened after level.rest)) (sym close)
      ∙ ap (λ p. made level.close kind (loosened p held) (loosened after level.rest)) (sym first)
      ∙ ap (λ p. made level.close kind (loosened then held) (loosened p level.rest)) (sym behind)
      )
    where
      made : (close : Span) → DelimiterKind → (inside others : Forest) → Forest
      made c k inside others = node (record { open_span = it.open_span; close = c; kind = k }) inside others

      entered : Place
      entered = first_place_in (kind_in held level.rest place it.kind) (is_apart held level.rest place) place

      after : Place
      after = place_behind it.kind place

-- If there is no room for one token more, the whole is too large.
module _ (outer : List (Open Place)) (place : Place) (trees all : Forest) (it : BuilderState) (fault : TtFault) (wrong : IsGrowthFault 1 it fault)
    (delimiter : Delimiter) (whole : finished loosened outer place trees it.stack ≡ lowest all) where
  pub leaf_no_room : (word : Leaf) (behind : Forest) → trees ≡ leaf word behind → IsTreeFault (under delimiter all) fault
  leaf_no_room word behind begins =
      no_room loosened outer place trees all it fault wrong delimiter whole (omega (arith, ap (λ f. size (loosened place f)) begins))

  pub node_no_room : (header : Delimiter) (held behind : Forest) → trees ≡ node header held behind → IsTreeFault (under delimiter all) fault
  node_no_room header held behind begins =
      no_room loosened outer place trees all it fault wrong delimiter whole (omega (arith, ap (λ f. size (loosened place f)) begins))
