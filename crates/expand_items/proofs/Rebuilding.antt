-- What a walk that changes each tree has built, and what is left of the trees.
use Rattle.std.proofs.Common.{◌≡◌, ◌+◌, ◌*◌, ◌≤◌, ℕ, suc, List, [], ◌∷◌, Some, None, inl, inr, refl, ap, ap₂, sym, subst, ◌∙◌, arith}
use Rattle.tt.specs.Building.{BuilderState, Stack, lowest, above, append, close_innermost, depth, tokens_held, IsAbove, IsGrowthFault}
use Rattle.tt.specs.Forest.{Forest, end, leaf, node, join, size}
use Rattle.tt.specs.Iters.{rest_of, IsFirstElement}
use Rattle.tt.specs.Moves.{after_tree}
use Rattle.tt.specs.TreeFault.{under, IsTreeFault}
use Rattle.tt.specs.Types.Delimiter.{Delimiter}
use Rattle.tt.specs.Types.DelimiterKind.{DelimiterKind}
use Rattle.tt.specs.Types.Leaf.{Leaf}
use Rattle.tt.specs.Types.Span.{Span}
use Rattle.tt.specs.Types.Subtree.{Subtree}
use Rattle.tt.specs.Types.TtElement.TheVariants as element
use Rattle.tt.specs.Types.TtFault.{TtFault}
use Rattle.tt.specs.Types.TtIter.{TtIter}
use Rattle.tt_base.proofs.Appending.{append-end, append-join, held-append, held-close}

-- an open subtree: what is known before the trees that are left, these trees, and where the subtree closes
pub record Open (S : Type 0) : Type 0 where
  pub before : S
  pub rest : Forest
  pub close : Span

-- how much is left to do
abbrev pub work_left : {S : Type 0} → List (Open S) → ℕ
work_left [] = 0
work_left (level ∷ outer) = suc (2 * size level.rest + work_left outer)

-- The first tree and the rest, by the first element.
pub leaf_first : (trees : Forest) (it : Leaf) → IsFirstElement trees (Some (element.Leaf it)) → trees ≡ leaf it (after_tree trees)
leaf_first end it p = absurd p
leaf_first (leaf other rest) it p = ap (λ l. leaf l rest) (sym p)
leaf_first (node delimiter children rest) it p = absurd p

pub node_first : (trees : Forest) (header : Subtree) (below : TtIter) → IsFirstElement trees (Some (element.Subtree header below))
    → trees ≡ node header.delimiter (rest_of below) (after_tree trees)
node_first end header below p = absurd p
node_first (leaf it rest) header below p = absurd p
node_first (node delimiter children rest) header below p = ap₂ (λ d f. node d f rest) (sym p.0) (sym p.2)

pub none_first : (trees : Forest) → IsFirstElement trees None → trees ≡ end
none_first end p = refl
none_first (leaf it rest) p = absurd p
none_first (node delimiter children rest) p = absurd p

-- Appended trees do not change the number of open subtrees.
pub depth_append : (trees : Forest) (stack : Stack) → depth (append trees stack) ≡ depth stack
depth_append trees (lowest held) = refl
depth_append trees (above outer kind span held) = refl

pub is_above : (stack : Stack) (n : ℕ) → depth stack ≡ suc n → IsAbove stack
is_above (lowest held) n is = absurd (cc is)
is_above (above outer kind span held) n is = tt

pub depth_close : (span : Span) (stack : Stack) (n : ℕ) → depth stack ≡ suc n → depth (close_innermost span stack) ≡ n
depth_close span (lowest held) n is = absurd (cc is)
depth_close span (above outer kind open_span held) n is =
    depth_append (node (record { open_span = open_span; close = span; kind = kind }) held end) outer ∙ omega (arith, is)

-- Trees are changed by what is known before them.
module _ {S : Type 0} (changed : S → Forest → Forest) where
  -- what is built once the rest of all levels is
  abbrev pub finished : List (Open S) → S → Forest → Stack → Stack
  finished [] before rest stack = append (changed before rest) stack
  finished (level ∷ outer) before rest stack = finished outer level.before level.rest (close_innermost level.close (append (changed before rest) stack))

  -- Some trees are built, and others are left.
  pub finished_step : (outer : List (Open S)) (before then : S) (trees others built : Forest) (stack : Stack) → changed before trees ≡ join built (changed then others)
      → finished outer before trees stack ≡ finished outer then others (append built stack)
  finished_step [] before then trees others built stack is = ap (λ f. append f stack) is ∙ append-join built (changed then others) stack
  finished_step (level ∷ outer) before then trees others built stack is =
      ap (λ s. finished outer level.before level.rest (close_innermost level.close s)) (ap (λ f. append f stack) is ∙ append-join built (changed then others) stack)

  -- A subtree of a kind is opened.
  pub finished_node : (outer : List (Open S)) (before inside : S) (trees held : Forest) (level : Open S) (span : Span) (kind : DelimiterKind) (stack : Stack)
      → changed before trees ≡ node (record { open_span = span; close = level.close; kind = kind }) (changed inside held) (changed level.before level.rest)
      → finished outer before trees stack ≡ finished (level ∷ outer) inside held (above stack kind span end)
  finished_node outer before inside trees held level span kind stack is =
      finished_step outer before level.before trees level.rest (node (record { open_span = span; close = level.close; kind = kind }) (changed inside held) end) stack is

  module _ (ends : (before : S) → changed before end ≡ end) where
    -- A subtree is closed.
    pub finished_end : (outer : List (Open S)) (before : S) (trees : Forest) (level : Open S) (stack : Stack) → trees ≡ end
        → finished (level ∷ outer) before trees stack ≡ finished outer level.before level.rest (close_innermost level.close stack)
    finished_end outer before trees level stack none =
        ap (λ s. finished outer level.before level.rest (close_innermost level.close s)) (ap (λ f. append f stack) (ap (changed before) none ∙ ends before) ∙ append-end stack)

    -- All is built.
    pub finished_all : (before : S) (trees all : Forest) (stack : Stack) → trees ≡ end → finished [] before trees stack ≡ lowest all → stack ≡ lowest all
    finished_all before trees all stack none is =
        sym (append-end stack) ∙ sym (ap (λ f. append f stack) (ap (changed before) none ∙ ends before)) ∙ is

  -- The tokens held and those of the next trees are held in the end.
  held_at_last : (outer : List (Open S)) (before : S) (trees : Forest) (stack : Stack)
      → tokens_held stack + size (changed before trees) ≤ tokens_held (finished outer before trees stack)
  held_at_last [] before trees stack = omega (arith, held-append (changed before trees) stack)
  held_at_last (level ∷ outer) before trees stack =
      omega (
        arith,
        held_at_last outer level.before level.rest (close_innermost level.close (append (changed before trees) stack)),
        held-close level.close (append (changed before trees) stack),
        held-append (changed before trees) stack,
      )

  -- If there is no room for one token more, the whole is too large.
  pub no_room : (outer : List (Open S)) (before : S) (trees all : Forest) (it : BuilderState) (fault : TtFault) → IsGrowthFault 1 it fault
      → (delimiter : Delimiter) → finished outer before trees it.stack ≡ lowest all → 1 ≤ size (changed before trees) → IsTreeFault (under delimiter all) fault
  no_room outer before trees all it fault wrong delimiter whole some = by wrong
    where
      by : IsGrowthFault 1 it fault → IsTreeFault (under delimiter all) fault
      by (inl (is, room)) = subst (IsTreeFault (under delimiter all)) (sym is) tt
      by (inr (is, many)) =
          subst (IsTreeFault (under delimiter all)) (sym is) (omega (arith, many, some, held_at_last outer before trees it.stack, ap tokens_held whole))
