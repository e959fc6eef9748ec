-- The definitions that are found, and those that are left in the open levels.
use Rattle.std.proofs.Common.{◌≡◌, ◌+◌, ◌*◌, ◌++◌, ℕ, zero, suc, List, [], ◌∷◌, None, Some, refl, ap, sym, subst, ◌∙◌}
use Rattle.std.proofs.lemmas.List.{append_assoc}
use Rattle.tt.specs.Forest.{Forest, end, leaf, node, size}
use Rattle.tt.specs.Iters.{rest_of}
use Rattle.tt.specs.Types.Delimiter.{Delimiter}
use Rattle.tt.specs.Types.DelimiterKind.{DelimiterKind}
use Rattle.tt.specs.Types.Leaf.{Leaf}
use Rattle.tt.specs.Types.TtIter.{TtIter}
use Rattle.expand_items.specs.Cfg.{Known}
use Rattle.expand_items.specs.Definitions.{Defined, Level as LevelOf, AreDefinitions, IsInside, IsItemIf, defined_by, level_of, passed_by, past_leaf, past_subtree}
use Rattle.expand_items.specs.Items.{Item}
use Rattle.expand_items.specs.Positions.{begun, first_in}
use Rattle.expand_items.specs.declared.definitions.Level.{Level}
use Rattle.expand_items.specs.declared.position.Position.{Position}
use Rattle.expand_items.specs.declared.position.Siblings.TheVariants.{Items}

module _ (known : Known) (root : List ℕ) where
  -- these definitions are left in a level
  abbrev pub AreIn : LevelOf → List Defined → Type 0
  AreIn level found = AreDefinitions known root level.position level.passed level.rest found

  -- these are left in levels, the innermost first
  abbrev pub AreLeft : List LevelOf → List Defined → Type 0
  AreLeft [] found = found ≡ []
  AreLeft (level ∷ outer) found = (here others : List Defined) × AreIn level here × AreLeft outer others × (found ≡ here ++ others)

  module _ (before : LevelOf) (outer : List LevelOf) where
    -- Nothing is left in a level.
    pub after_end : before.rest ≡ end → (found : List Defined) → AreLeft outer found → AreLeft (before ∷ outer) found
    after_end none found are = ([], found, subst (λ trees. AreDefinitions known root before.position before.passed trees []) (sym none) refl, are, refl)

    -- A leaf is passed.
    pub after_leaf : (it : Leaf) (rest : Forest) (first : Item) → before.rest ≡ leaf it rest → IsItemIf known root before.position before.passed before.rest first
        → (found : List Defined) → AreLeft (past_leaf known it (record before { passed = passed_by before.passed first }) ∷ outer) found
        → AreLeft (before ∷ outer) (defined_by before.position first ++ found)
    after_leaf it rest first begins is found (here, others, are, left, same) = (
      defined_by before.position first ++ here,
      others,
      by before.rest begins is are,
      left,
      ap (λ its. defined_by before.position first ++ its) same ∙ sym (append_assoc (defined_by before.position first) here others),
    )
      where
        by : (trees : Forest) → trees ≡ leaf it rest → IsItemIf known root before.position before.passed trees first
            → AreIn (past_leaf known it (record { rest = trees; position = before.position; passed = passed_by before.passed first })) here
            → AreDefinitions known root before.position before.passed trees (defined_by before.position first ++ here)
        by end e is are = absurd (cc e)
        by (node delimiter children behind) e is are = absurd (cc e)
        by (leaf other behind) e is are =
            let same : other ≡ it = cc e in
            (first, here, is, subst (λ l. AreIn (past_leaf known l (record { rest = leaf other behind; position = before.position; passed = passed_by before.passed first })) here) (sym same) are, refl)

    -- A subtree is entered, or passed.
    pub after_inside : (delimiter : Delimiter) (children rest : Forest) → before.rest ≡ node delimiter children rest → before.passed ≡ 0
        → (found : List Defined)
        → AreLeft (record { rest = children; position = first_in delimiter.kind before.position; passed = 0 } ∷ past_subtree delimiter.kind before ∷ outer) found
        → AreLeft (before ∷ outer) found
    after_inside delimiter children rest begins none found (inside, behind, are, (here, others, there, left, more), same) = (
      inside ++ here,
      others,
      by before.rest before.passed begins none there,
      left,
      same ∙ ap (λ its. inside ++ its) more ∙ sym (append_assoc inside here others),
    )
      where
        by : (trees : Forest) (passed : ℕ) → trees ≡ node delimiter children rest → passed ≡ 0
            → AreIn (past_subtree delimiter.kind (record { rest = trees; position = before.position; passed = passed })) here
            → AreDefinitions known root before.position passed trees (inside ++ here)
        by end passed e n there = absurd (cc e)
        by (leaf it behind) passed e n there = absurd (cc e)
        by (node other held behind) (suc passed) e n there = absurd (cc n)
        by (node other held behind) zero e n there =
            let one : other ≡ delimiter = cc e in
            let two : held ≡ children = cc e in (
              inside,
              here,
              subst (λ d. AreDefinitions known root (first_in d.kind before.position) 0 held inside) (sym one)
                  (subst (λ h. AreDefinitions known root (first_in delimiter.kind before.position) 0 h inside) (sym two) are),
              subst (λ d. AreIn (past_subtree d.kind (record { rest = node other held behind; position = before.position; passed = 0 })) here) (sym one) there,
              refl,
            )

    pub after_passed : (delimiter : Delimiter) (children rest : Forest) (more : ℕ) → before.rest ≡ node delimiter children rest → before.passed ≡ suc more
        → (found : List Defined) → AreLeft (past_subtree delimiter.kind before ∷ outer) found → AreLeft (before ∷ outer) found
    after_passed delimiter children rest more begins some found (here, others, there, left, same) =
        (here, others, by before.rest before.passed begins some there, left, same)
      where
        by : (trees : Forest) (passed : ℕ) → trees ≡ node delimiter children rest → passed ≡ suc more
            → AreIn (past_subtree delimiter.kind (record { rest = trees; position = before.position; passed = passed })) here
            → AreDefinitions known root before.position passed trees here
        by end passed e n there = absurd (cc e)
        by (leaf it behind) passed e n there = absurd (cc e)
        by (node other held behind) zero e n there = absurd (cc n)
        by (node other held behind) (suc passed) e n there =
            let one : other ≡ delimiter = cc e in (
              [],
              here,
              refl,
              subst (λ d. AreIn (past_subtree d.kind (record { rest = node other held behind; position = before.position; passed = suc passed })) here) (sym one) there,
              refl,
            )

-- how much is left to do in levels
abbrev pub work_of : List Level → ℕ
work_of [] = 0
work_of (level ∷ outer) = suc (2 * size (rest_of level.rest) + work_of outer)

-- The children of a subtree are entered if no tree is passed, and not if one is.
pub inside_some : (kind : DelimiterKind) (children : TtIter) (position : Position) (passed : ℕ) (inner : Level) → IsInside kind children position passed (Some inner)
    → (passed ≡ 0) × (level_of inner ≡ record { rest = rest_of children; position = first_in kind position; passed = 0 })
inside_some kind children position zero inner is = (refl, is)
inside_some kind children position (suc passed) inner is = absurd (cc is)

pub inside_none : (kind : DelimiterKind) (children : TtIter) (position : Position) (passed : ℕ) → IsInside kind children position passed None → (left : ℕ) × (passed ≡ suc left)
inside_none kind children position zero is = absurd is
inside_none kind children position (suc left) is = (left, refl)

module _ (known : Known) (root : List ℕ) (trees : Forest) (before : LevelOf) (outer : List LevelOf) (found : List Defined)
    (whole : (others : List Defined) → AreLeft known root (before ∷ outer) others → AreDefinitions known root (begun Items) 0 trees (found ++ others)) where
  -- What is found and what is left are still all definitions of the trees: after a leaf,
  pub kept_leaf : (it : Leaf) (rest : Forest) (item : Item) (more : List Defined) (new : LevelOf) → before.rest ≡ leaf it rest
      → IsItemIf known root before.position before.passed before.rest item → more ≡ found ++ defined_by before.position item
      → new ≡ past_leaf known it (record before { passed = passed_by before.passed item })
      → (others : List Defined) → AreLeft known root (new ∷ outer) others → AreDefinitions known root (begun Items) 0 trees (more ++ others)
  kept_leaf it rest item more new begins is grown passes others left =
      subst (AreDefinitions known root (begun Items) 0 trees)
      (sym (append_assoc found (defined_by before.position item) others) ∙ ap (λ its. its ++ others) (sym grown))
      (whole (defined_by before.position item ++ others)
      (after_leaf known root before outer it rest item begins is others (subst (λ l. AreLeft known root (l ∷ outer) others) passes left)))

  -- in a subtree, and after one.
  pub kept_inside : (delimiter : Delimiter) (children rest : Forest) (inner past : LevelOf) (levels : List LevelOf) → before.rest ≡ node delimiter children rest → before.passed ≡ 0
      → inner ≡ record { rest = children; position = first_in delimiter.kind before.position; passed = 0 } → past ≡ past_subtree delimiter.kind before → levels ≡ past ∷ outer
      → (others : List Defined) → AreLeft known root (inner ∷ levels) others → AreDefinitions known root (begun Items) 0 trees (found ++ others)
  kept_inside delimiter children rest inner past levels begins none enters passes is others left =
      whole others
      (after_inside known root before outer delimiter children rest begins none others
      (subst (λ l. AreLeft known root (l ∷ past_subtree delimiter.kind before ∷ outer) others) enters
      (subst (λ l. AreLeft known root (inner ∷ l ∷ outer) others) passes (subst (λ ls. AreLeft known root (inner ∷ ls) others) is left))))

  pub kept_passed : (delimiter : Delimiter) (children rest : Forest) (left : ℕ) (new : LevelOf) → before.rest ≡ node delimiter children rest → before.passed ≡ suc left
      → new ≡ past_subtree delimiter.kind before
      → (others : List Defined) → AreLeft known root (new ∷ outer) others → AreDefinitions known root (begun Items) 0 trees (found ++ others)
  kept_passed delimiter children rest left new begins some passes others are =
      whole others (after_passed known root before outer delimiter children rest left begins some others (subst (λ l. AreLeft known root (l ∷ outer) others) passes are))
