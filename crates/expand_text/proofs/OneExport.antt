-- A text exports one list of macros.
use Rattle.std.proofs.Common.{◌≡◌, ◌∙◌, ◌++◌, ℕ, Bool, true, false, List, [], ◌∷◌, None, inl, inr, refl, ap, ap₂, sym, subst, arith}
use Rattle.tt.specs.Forest.{Forest, Root}
use Rattle.tt.specs.Stored.{IsWithinLimits}
use Rattle.tt.specs.TreeFault.{under}
use Rattle.tt.specs.Types.TtFault.{TtFault}
use Rattle.tt.specs.Types.TtFault.TheVariants as limit
use Rattle.expand_items.proofs.OneList.{one_list}
use Rattle.expand_items.specs.Definitions.{Defined}
use Rattle.expand_items.specs.Items.{Definition}
use Rattle.expand_items.specs.Positions.{begun}
use Rattle.expand_items.specs.declared.position.Siblings.TheVariants.{Items}
use Rattle.expand_text.specs.declared.fault.MacroFault.{MacroFault}
use Rattle.expand_text.specs.declared.fault.MacroFault.TheVariants as wrong
use Rattle.expand_text.specs.Contexts.{Config, Context, asks_for, new_context}
use Rattle.expand_text.specs.Exports.{AreExported, AreRead, IsReadIfExported}
use Rattle.expand_text.specs.Macros.{IsDefined, IsDefinedAt, IsDefinitionFault, IsPastLimit, IsReadIf, macro_of, macro_with}
use Rattle.expand_text.specs.Prepared.{prepared}
use Rattle.expand_text.specs.Scopes.{Macro}
use Rattle.expand_text.proofs.OneMacro.{one_spelled, no_rules_error}
use Rattle.mbe_rules.specs.Arms.{Arm, Spell}

-- A tree within its limits exceeds none.
never_past : (root : Root) (why : TtFault) → IsWithinLimits root → IsPastLimit root why → ⊥
never_past root limit.Memory within (is, some) = some refl
never_past root limit.TooManyTokens within (is, some) = omega (arith, within.tokens, is)
never_past root limit.TooManySpanParts within (is, some) = omega (arith, within.parts, is.1)
never_past root limit.TooManySymbols within (is, some) = omega (arith, within.symbols, is.1.1)
never_past root limit.TooManyBytes within (is, some) = omega (arith, within.bytes, is.1.2)
never_past root why within (is, some) = is

-- A definition that spells arms within the limits has no fault.
never_wrong : (it : Definition) (trees : Forest) (arms : List Arm) (at : ℕ) (fault : MacroFault) → IsWithinLimits (under it.delimiter trees) → Spell trees arms
    → IsDefinitionFault it trees at fault → ⊥
never_wrong it trees arms at (wrong.Definition why) within spells (is, some, place) = no_rules_error trees arms why spells is some
never_wrong it trees arms at (wrong.TooLarge why) within spells (past, place) = never_past (under it.delimiter trees) why within past
never_wrong it trees arms at fault within spells is = is

module _ (is_open : Bool) (it : Definition) (trees : Forest) (before other : Context) (same : before.macros ≡ other.macros) where
  -- A definition defines one macro.
  one_defined : (a b : Context) → IsDefined is_open it trees before a → IsDefined is_open it trees other b → a.macros ≡ b.macros
  one_defined a b (inl (arms, within, spells, is)) (inl (others, fits, again, was)) =
      ap (λ c. c.macros) is
      ∙ ap₂ (λ ms all. ms ++ macro_with is_open it all ms ∷ []) same (one_spelled trees arms others spells again)
      ∙ sym (ap (λ c. c.macros) was)
  one_defined a b (inl (arms, within, spells, is)) (inr (at, fault, bad, was)) = absurd (never_wrong it trees arms at fault within spells bad)
  one_defined a b (inr (at, fault, bad, is)) (inl (arms, within, spells, was)) = absurd (never_wrong it trees arms at fault within spells bad)
  one_defined a b (inr (at, fault, bad, is)) (inr (place, worse, still, was)) =
      ap (λ c. c.macros) is ∙ ap (λ ms. ms ++ macro_of it wrong.Left None ∷ []) same ∙ sym (ap (λ c. c.macros) was)

module _ (config : Config) where
  one_read : (it : Defined) (before other a b : Context) → before.macros ≡ other.macros → (is_exported : Bool) → IsReadIfExported is_exported config it before a
      → IsReadIfExported is_exported config it other b → a.macros ≡ b.macros
  one_read it before other a b same false is was = ap (λ c. c.macros) is ∙ same ∙ sym (ap (λ c. c.macros) was)
  one_read it before other a b same true is was = by (asks_for config.only it.definition.name.sym) is was
    where
      defined : (is_built_in : Bool) → IsDefinedAt is_built_in config.root it.position.is_open it.definition before a
          → IsDefinedAt is_built_in config.root it.position.is_open it.definition other b → a.macros ≡ b.macros
      defined true is was = ap (λ c. c.macros) is ∙ ap (λ ms. ms ++ macro_of it.definition wrong.BuiltIn None ∷ []) same ∙ sym (ap (λ c. c.macros) was)
      defined false is was = one_defined it.position.is_open it.definition (prepared config.root it.definition.arms) before other same a b is was

      by : (asked : Bool) → IsReadIf asked config.root it.position it.definition before a → IsReadIf asked config.root it.position it.definition other b → a.macros ≡ b.macros
      by false is was = ap (λ c. c.macros) is ∙ same ∙ sym (ap (λ c. c.macros) was)
      by true is was = defined it.position.is_built_in is was

  all_read : (its : List Defined) (before other a b : Context) → before.macros ≡ other.macros → AreRead config its before a → AreRead config its other b → a.macros ≡ b.macros
  all_read [] before other a b same is was = ap (λ c. c.macros) is ∙ same ∙ sym (ap (λ c. c.macros) was)
  all_read (it ∷ its) before other a b same (inside, is, are) (within, was, were) =
      all_read its inside within a b (one_read it before other inside within same it.position.is_exported is was) are were

-- A text exports one list of macros.
pub one_export : (config : Config) (trees : Forest) (a b : List Macro) → AreExported config trees a → AreExported config trees b → a ≡ b
one_export config trees a b (found, after, are, read, same) (others, again, were, also, too) =
    let lists = one_list config.known config.root (begun Items) 0 trees found others are were in
    same ∙ all_read config others (new_context []) (new_context []) after again refl (subst (λ its. AreRead config its (new_context []) after) lists read) also ∙ sym too
