-- If no subtree is open, the list is that of the tree, except for the top's count.
use Rattle.std.proofs.Common.{◌≡◌, ℕ, ◌-◌, ◌≤◌, List, ◌∷◌, drop, length, refl, ap, sym, ◌∙◌, arith}
use Rattle.tt_base.specs.Building.{Stack, above, bottom, lowest, IsAbove}
use Rattle.tt_base.specs.Forest.{IsWhole, flat, flat_root, header, size}
use Rattle.tt_base.specs.Unflat.{length-flat}
use Rattle.tt_base.specs.declared.delimiter.Delimiter.{Delimiter}
use Rattle.tt_base.specs.declared.token_tree.TokenTree.{TokenTree}
use Rattle.tt.specs.FlatFields.{AreFieldsOf, counted, written}
use Rattle.tt.specs.FlatHeld.{Held, IsOpen, built}

-- the list, if no subtree is open
all_written : (top : Delimiter) (stack : Stack) → (IsAbove stack → ⊥) → written top stack ≡ header top 0 ∷ flat (bottom stack)
all_written top (lowest trees) none = refl
all_written top (above outer kind open_span trees) none = absurd (none tt)

module _ (tokens : List TokenTree) (headers : List ℕ) (held : Held) (is : AreFieldsOf tokens headers held) (none : IsOpen held → ⊥) where
  -- the list of the fields
  lowest_list : tokens ≡ header held.top 0 ∷ flat (bottom held.stack)
  lowest_list = is.list ∙ all_written held.top held.stack none

  -- the first token is the top's header
  pub has_top : tokens ≡ header held.top 0 ∷ drop 1 tokens
  has_top = lowest_list ∙ ap (λ l. header held.top 0 ∷ drop 1 l) (sym lowest_list)

  -- the tokens below the top are those of whole trees
  pub is_whole : IsWhole (drop 1 tokens)
  is_whole = (bottom held.stack, ap (drop 1) lowest_list)

  -- the trees are few enough for a header to count
  pub few_below : size (bottom held.stack) ≤ 4294967295
  few_below = omega (arith, is.few, ap length lowest_list, length-flat (bottom held.stack))

  -- with its count, it is the flat list of the tree
  pub built_list : counted (length tokens - 1) tokens ≡ flat_root (built held)
  built_list =
      let sized : length tokens - 1 ≡ size (bottom held.stack) = omega (arith, ap length lowest_list, length-flat (bottom held.stack)) in
      ap (counted (length tokens - 1)) lowest_list ∙ ap (λ n. header held.top n ∷ flat (bottom held.stack)) sized
