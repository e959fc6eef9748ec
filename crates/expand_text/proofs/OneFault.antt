-- A definition is read in one way, and the input of a call has one fault, if no finding names a limit of trees.
use Rattle.std.proofs.Common.{◌≡◌, ◌≢◌, ℕ, zero, suc, Bool, true, false, List, None, Some, inl, inr, refl, ap, ap₂, sym, subst, ◌∙◌, arith, true≢false}
use Rattle.tt.specs.Forest.{Forest, Root}
use Rattle.tt.specs.Span.{start_of}
use Rattle.expand_items.specs.declared.position.Position.{Position}
use Rattle.expand_items.specs.Items.{Definition, Call}
use Rattle.expand_text.specs.declared.fault.MacroFault.{MacroFault}
use Rattle.expand_text.specs.declared.fault.MacroFault.TheVariants as wrong
use Rattle.expand_text.specs.Contexts.{Config, Context, asks_for, with_macro, with_finding}
use Rattle.expand_text.specs.Limits.{is_limit, names_limit, KeepLimits}
use Rattle.expand_text.specs.Macros.{macro_of, macro_with, IsDefinitionFault, found_in, IsDefined, IsDefinedAt, IsReadIf, IsRead, IsInputFault, IsCallFault, Writes, over_limit}
use Rattle.expand_text.specs.Places.{byte_at, definition_byte}
use Rattle.expand_text.specs.Prepared.{prepared}
use Rattle.expand_text.proofs.KeptLimits.{keep_found}
use Rattle.expand_text.proofs.OneExpansion.{one_expansion, no_error, one_error}
use Rattle.expand_text.proofs.OneMacro.{one_spelled, no_rules_error, one_rules_error}
use Rattle.mbe_rules.specs.Arms.{Arm}
use Rattle.mbe_rules.specs.ArmFaults.{IsRulesError}
use Rattle.mbe_rules.specs.Expansions.{IsExpansion, IsExpandErrorWithin}
use Rattle.mbe_rules.specs.declared.macro_rules.Expansion.TheVariants as expansion
use Rattle.mbe_rules.specs.declared.rules_error.ArmFault.TheVariants as arm_fault
use Rattle.mbe_rules.specs.declared.rules_error.ExpandError.{ExpandError}
use Rattle.mbe_rules.specs.declared.rules_error.RulesError.{RulesError}
use Rattle.mbe_rules.specs.declared.transcribe_error.TranscribeError.TheVariants as error

-- A definition's fault that names no limit is one of its arms.
arms_wrong : (it : Definition) (trees : Forest) (at : ℕ) (found : MacroFault) → IsDefinitionFault it trees at found → names_limit found ≡ false
    → (why : RulesError) × IsRulesError trees why × (why.fault ≢ arm_fault.Memory) × (at ≡ definition_byte trees why (start_of it.delimiter.close.range)) × (found ≡ wrong.Definition why)
arms_wrong it trees at (wrong.Definition why) h free = (why, h.0, h.1, h.2, refl)
arms_wrong it trees at (wrong.TooLarge why) h free = absurd (true≢false free)
arms_wrong it trees at found h free = absurd h

module _ (is_open : Bool) (it : Definition) (trees : Forest) (before : Context) where
  -- The finding of a definition names no limit.
  limit_kept : (at : ℕ) (fault : MacroFault) (after : Context) → after ≡ with_macro (macro_of it wrong.Left None) (with_finding (found_in it at fault) before) → KeepLimits after.findings
      → names_limit fault ≡ false
  limit_kept at fault after is keep = (keep_found (found_in it at fault) before (subst (λ context. KeepLimits context.findings) is keep)).1

  -- A definition makes one thing known.
  one_defined : (a b : Context) → IsDefined is_open it trees before a → IsDefined is_open it trees before b → KeepLimits a.findings → KeepLimits b.findings → a ≡ b
  one_defined a b (inl (arms, within, spells, is)) (inl (others, fits, again, was)) x y =
      is ∙ ap (λ all. with_macro (macro_with is_open it all before.macros) before) (one_spelled trees arms others spells again) ∙ sym was
  one_defined a b (inl (arms, within, spells, is)) (inr (at, fault, bad, was)) x y =
      let why = arms_wrong it trees at fault bad (limit_kept at fault b was y) in
      absurd (no_rules_error trees arms why.0 spells why.1 why.2)
  one_defined a b (inr (at, fault, bad, is)) (inl (arms, within, spells, was)) x y =
      let why = arms_wrong it trees at fault bad (limit_kept at fault a is x) in
      absurd (no_rules_error trees arms why.0 spells why.1 why.2)
  one_defined a b (inr (at, fault, bad, is)) (inr (place, other, worse, was)) x y =
      let why = arms_wrong it trees at fault bad (limit_kept at fault a is x) in
      let that = arms_wrong it trees place other worse (limit_kept place other b was y) in
      let same = one_rules_error trees why.0 that.0 why.1 that.1 why.2 that.2 in
      is
      ∙ ap₂ (λ n found. with_macro (macro_of it wrong.Left None) (with_finding (found_in it n found) before))
      (why.3 ∙ ap (λ w. definition_byte trees w (start_of it.delimiter.close.range)) same ∙ sym that.3)
      (why.4 ∙ ap wrong.Definition same ∙ sym that.4)
      ∙ sym was

-- A definition is read in one way.
pub one_read : (config : Config) (position : Position) (it : Definition) (before a b : Context) → IsRead config position it before a → IsRead config position it before b → KeepLimits a.findings → KeepLimits b.findings → a ≡ b
one_read config position it before a b = by (asks_for config.only it.name.sym)
  where
    defined : (is_built_in : Bool) → IsDefinedAt is_built_in config.root position.is_open it before a → IsDefinedAt is_built_in config.root position.is_open it before b
        → KeepLimits a.findings → KeepLimits b.findings → a ≡ b
    defined true is was x y = is ∙ sym was
    defined false is was x y = one_defined position.is_open it (prepared config.root it.arms) before a b is was x y

    by : (asked : Bool) → IsReadIf asked config.root position it before a → IsReadIf asked config.root position it before b → KeepLimits a.findings → KeepLimits b.findings → a ≡ b
    by false is was x y = is ∙ sym was
    by true is was x y = defined position.is_built_in is was x y

module _ (allowed : ℕ) (arms : List Arm) (it : Call) where
  -- Arms write one tree for a call.
  pub one_tree : (a b : Root) → IsExpansion arms 0 0 it.input (expansion.Tree a) → IsExpansion arms 0 0 it.input (expansion.Tree b) → a ≡ b
  one_tree a b h k =
      let same = one_expansion arms 0 0 it.input (expansion.Tree a) (expansion.Tree b) h k in
      cc same

  -- If they write a tree, the input has no fault.
  pub no_fault : (tree : Root) (at : ℕ) (found : MacroFault) → Writes allowed arms it tree → IsInputFault allowed arms it at found → names_limit found ≡ false → ⊥
  no_fault tree at wrong.NoMatch h k free = cc (one_expansion arms 0 0 it.input (expansion.Tree tree) (expansion.NoMatch k.0) h.0 k.1)
  no_fault tree at (wrong.Ambiguous n) h k free = cc (one_expansion arms 0 0 it.input (expansion.Tree tree) (expansion.Ambiguous n) h.0 k.0)
  no_fault tree at (wrong.Expansion why) h k free = no_error (Some allowed) it.input arms 0 0 (expansion.Tree tree) why h.0 h.1 k.0 free
  no_fault tree at wrong.OverMaxTokens h k free = no_error (Some allowed) it.input arms 0 0 (expansion.Tree tree) (over_limit k.0) h.0 h.1 k.1 refl
  no_fault tree at found h k free = k

  -- An input that no arm matches, or that one matches in two ways, has no error.
  unmatched : (place : ℕ) (why : ExpandError) → IsExpansion arms 0 0 it.input (expansion.NoMatch place) → IsExpandErrorWithin (Some allowed) arms 0 it.input why → is_limit why.fault ≡ false → ⊥
  unmatched place why h k free = no_error (Some allowed) it.input arms 0 0 (expansion.NoMatch place) why h tt k free

  read_twice : (n : ℕ) (why : ExpandError) → IsExpansion arms 0 0 it.input (expansion.Ambiguous n) → IsExpandErrorWithin (Some allowed) arms 0 it.input why → is_limit why.fault ≡ false → ⊥
  read_twice n why h k free = no_error (Some allowed) it.input arms 0 0 (expansion.Ambiguous n) why h tt k free

  -- If an arm would write too many tokens, no other error is given.
  over_only : (n : ℕ) (why : ExpandError) → IsExpandErrorWithin (Some allowed) arms 0 it.input (over_limit n) → IsExpandErrorWithin (Some allowed) arms 0 it.input why → is_limit why.fault ≡ false
      → why.fault ≡ error.OverLimit
  over_only n why h k free = ap (λ e. e.fault) (one_error (Some allowed) it.input arms 0 why (over_limit n) k h free refl)

  -- An input has one fault.
  one_input : (at place : ℕ) (found other : MacroFault) → IsInputFault allowed arms it at found → IsInputFault allowed arms it place other → names_limit found ≡ false → names_limit other ≡ false
      → (at ≡ place) × (found ≡ other)
  one_input at place wrong.NoMatch wrong.NoMatch h k free none =
      let both = one_expansion arms 0 0 it.input (expansion.NoMatch h.0) (expansion.NoMatch k.0) h.1 k.1 in
      let same : h.0 ≡ k.0 = cc both in
      (h.2 ∙ ap (λ n. byte_at it.input n (start_of it.delimiter.close.range)) same ∙ sym k.2, refl)
  one_input at place wrong.NoMatch (wrong.Ambiguous m) h k free none =
      absurd (cc (one_expansion arms 0 0 it.input (expansion.NoMatch h.0) (expansion.Ambiguous m) h.1 k.0))
  one_input at place wrong.NoMatch (wrong.Expansion why) h k free none = absurd (unmatched h.0 why h.1 k.0 none)
  one_input at place wrong.NoMatch wrong.OverMaxTokens h k free none = absurd (unmatched h.0 (over_limit k.0) h.1 k.1 refl)
  one_input at place wrong.NoMatch other h k free none = absurd k
  one_input at place (wrong.Ambiguous n) wrong.NoMatch h k free none =
      absurd (cc (one_expansion arms 0 0 it.input (expansion.Ambiguous n) (expansion.NoMatch k.0) h.0 k.1))
  one_input at place (wrong.Ambiguous n) (wrong.Ambiguous m) h k free none =
      let both = one_expansion arms 0 0 it.input (expansion.Ambiguous n) (expansion.Ambiguous m) h.0 k.0 in
      let same : n ≡ m = cc both in
      (h.1 ∙ sym k.1, ap wrong.Ambiguous same)
  one_input at place (wrong.Ambiguous n) (wrong.Expansion why) h k free none = absurd (read_twice n why h.0 k.0 none)
  one_input at place (wrong.Ambiguous n) wrong.OverMaxTokens h k free none = absurd (read_twice n (over_limit k.0) h.0 k.1 refl)
  one_input at place (wrong.Ambiguous n) other h k free none = absurd k
  one_input at place (wrong.Expansion why) wrong.NoMatch h k free none = absurd (unmatched k.0 why k.1 h.0 free)
  one_input at place (wrong.Expansion why) (wrong.Ambiguous m) h k free none = absurd (read_twice m why k.0 h.0 free)
  one_input at place (wrong.Expansion why) (wrong.Expansion that) h k free none =
      (h.3 ∙ sym k.3, ap wrong.Expansion (one_error (Some allowed) it.input arms 0 why that h.0 k.0 free none))
  one_input at place (wrong.Expansion why) wrong.OverMaxTokens h k free none = absurd (h.2 (over_only k.0 why k.1 h.0 free))
  one_input at place (wrong.Expansion why) other h k free none = absurd k
  one_input at place wrong.OverMaxTokens wrong.OverMaxTokens h k free none = (h.2 ∙ sym k.2, refl)
  one_input at place wrong.OverMaxTokens wrong.NoMatch h k free none = absurd (unmatched k.0 (over_limit h.0) k.1 h.1 refl)
  one_input at place wrong.OverMaxTokens (wrong.Ambiguous m) h k free none = absurd (read_twice m (over_limit h.0) k.0 h.1 refl)
  one_input at place wrong.OverMaxTokens (wrong.Expansion why) h k free none = absurd (k.2 (over_only h.0 why h.1 k.0 none))
  one_input at place wrong.OverMaxTokens other h k free none = absurd k
  one_input at place found other h k free none = absurd h

  -- A call has one fault.
  pub one_fault : (limit at place : ℕ) (found other : MacroFault) → IsCallFault limit allowed arms it at found → IsCallFault limit allowed arms it place other
      → names_limit found ≡ false → names_limit other ≡ false → (at ≡ place) × (found ≡ other)
  one_fault zero at place found other h k free none = (h.1 ∙ sym k.1, h.0 ∙ sym k.0)
  one_fault (suc limit) at place found other h k free none = one_input at place found other h k free none
