-- Trees have one list of definitions.
use Rattle.std.proofs.Common.{◌≡◌, ◌-◌, ◌++◌, ◌∙◌, ℕ, zero, suc, List, [], refl, ap₂, sym, subst}
use Rattle.tt.specs.Forest.{Forest, end, leaf, node}
use Rattle.expand_items.proofs.ItemsAt.{has_item, one_item}
use Rattle.expand_items.specs.Cfg.{Known}
use Rattle.expand_items.specs.Conditions.{behind_leaf_under}
use Rattle.expand_items.specs.Definitions.{Defined, AreDefinitions, IsItemIf, Unless, defined_by, passed_by}
use Rattle.expand_items.specs.Items.{Item, other}
use Rattle.expand_items.specs.Positions.{behind_subtree, first_in}
use Rattle.expand_items.specs.declared.position.Position.{Position}

module _ (known : Known) (root : List ℕ) where
  one_first : (position : Position) (passed : ℕ) (trees : Forest) (a b : Item) → IsItemIf known root position passed trees a → IsItemIf known root position passed trees b → a ≡ b
  one_first position zero trees a b is was = one_item is was
  one_first position (suc passed) trees a b is was = is ∙ sym was

  pub one_list : (position : Position) (passed : ℕ) (trees : Forest) (a b : List Defined) → AreDefinitions known root position passed trees a
      → AreDefinitions known root position passed trees b → a ≡ b
  one_list position passed end a b are were = are ∙ sym were
  one_list position passed (leaf it rest) a b (first, others, is, behind, same) (item, more, was, after, also) =
      let one = one_first position passed (leaf it rest) first item is was in
      let there = subst (λ i. AreDefinitions known root (behind_leaf_under known it rest position) (passed_by passed i - 1) rest others) one behind in
      same ∙ ap₂ (λ i its. defined_by position i ++ its) one (one_list (behind_leaf_under known it rest position) (passed_by passed item - 1) rest others more there after) ∙ sym also
  one_list position passed (node delimiter children rest) a b (inside, others, held, behind, same) (within, more, kept, after, also) =
      same ∙ ap₂ (λ i its. i ++ its) (by passed (one_list (first_in delimiter.kind position) 0 children inside within) held kept) (one_list (behind_subtree delimiter.kind position) (passed - 1) rest others more behind after) ∙ sym also
    where
      Are : List Defined → Type 0
      Are = AreDefinitions known root (first_in delimiter.kind position) 0 children

      by : (passed : ℕ) → (Are inside → Are within → inside ≡ within) → Unless passed Are inside → Unless passed Are within → inside ≡ within
      by zero one are were = one are were
      by (suc passed) one none nothing = none ∙ sym nothing

  -- There is such a list.
  has_first : (position : Position) (passed : ℕ) (trees : Forest) → (it : Item) × IsItemIf known root position passed trees it
  has_first position zero trees = has_item known root position trees
  has_first position (suc passed) trees = (other, refl)

  pub has_list : (position : Position) (passed : ℕ) (trees : Forest) → (found : List Defined) × AreDefinitions known root position passed trees found
  has_list position passed end = ([], refl)
  has_list position passed (leaf it rest) =
      let (first, is) = has_first position passed (leaf it rest) in
      let (others, are) = has_list (behind_leaf_under known it rest position) (passed_by passed first - 1) rest in
      (defined_by position first ++ others, (first, others, is, are, refl))
  has_list position passed (node delimiter children rest) =
      let (inside, held) = by passed (has_list (first_in delimiter.kind position) 0 children) in
      let (others, are) = has_list (behind_subtree delimiter.kind position) (passed - 1) rest in
      (inside ++ others, (inside, others, held, are, refl))
    where
      Are : List Defined → Type 0
      Are = AreDefinitions known root (first_in delimiter.kind position) 0 children

      by : (passed : ℕ) → (inside : List Defined) × Are inside → (inside : List Defined) × Unless passed Are inside
      by zero has = has
      by (suc passed) has = ([], refl)
