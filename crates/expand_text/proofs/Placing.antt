-- Trees in the place of a call.
use Rattle.std.proofs.Common.{◌≡◌, ◌<◌, ℕ, zero, suc, Bool, true, false, Some, None, Option, inl, inr, refl, ap, ap₂, sym, subst, ◌∙◌, arith}
use Rattle.std.proofs.lemmas.Bool.{false≢true}
use Rattle.std.specs.Prelude.{is_some, option_map}
use Rattle.tt.specs.Building.{BuilderState, Stack, lowest, above, append, bottom, built, depth, empty_builder, IsAbove}
use Rattle.tt.specs.Forest.{Forest}
use Rattle.tt.specs.Stored.{IsWithinLimits}
use Rattle.tt.specs.Types.Delimiter.{Delimiter}
use Rattle.tt.specs.Types.TtFault.{TtFault}
use Rattle.expand_items.specs.Spreads.{AreUnder, IsPutUnder, append_if}
use Rattle.expand_text.specs.declared.fault.MacroFault.TheVariants as wrong
use Rattle.expand_text.specs.declared.source.Written.{Written}
use Rattle.expand_text.specs.declared.source.Written.TheVariants as made
use Rattle.tt.specs.Types.DelimiterKind.{DelimiterKind}
use Rattle.tt.specs.Types.DelimiterKind.TheVariants.{Invisible}
use Rattle.expand_items.proofs.Rebuilding.{depth_append}
use Rattle.expand_text.specs.Expanding.{IsAdded, IsBegunBy, CanEndBy, depth_outside_by, top_outside}
use Rattle.expand_text.specs.Expansion.{IsTextOf, IsCallText}
use Rattle.expand_text.specs.Macros.{IsPastLimit, tree_of}
use Rattle.expand_text.specs.Outcomes.{brackets_of, placed, placed_in}
use Rattle.expand_text.specs.CallSites.{CallSite, PutAs, PutIn, PutUnder, IsTooLarge, misfit}
use Rattle.expand_items.specs.Attributes.{conditions_of}

-- Without attributes, the trees are as they are placed.
pub free_put : (it : CallSite) (trees : Forest) → it.len ≡ 0 → PutAs it trees (placed it.enclosure it.delimiter trees)
free_put it trees none = subst (λ n. PutUnder n it trees (placed it.enclosure it.delimiter trees)) (sym none) refl

module _ (it : CallSite) (trees : Forest) (some : 0 < it.len) where
  -- With attributes, the trees are under conditions.
  pub under_put : (put : Option Forest) → IsWithinLimits (tree_of it.delimiter trees) → AreUnder it.position.siblings it.delimiter (conditions_of it.attributes) trees put → PutAs it trees put
  under_put put within under = by it.len some
    where
      by : (n : ℕ) → 0 < n → PutUnder n it trees put
      by zero some = absurd (omega (arith, some))
      by (suc n) some = (within, under)

  -- Then they may exceed a limit.
  pub is_too_large : (why : TtFault) → IsPastLimit (tree_of it.delimiter trees) why → IsTooLarge it.len it trees (wrong.TooLarge why)
  is_too_large why past = by it.len some
    where
      by : (n : ℕ) → 0 < n → IsTooLarge n it trees (wrong.TooLarge why)
      by zero some = absurd (omega (arith, some))
      by (suc n) some = past

  -- If they are put under the conditions, they are in place,
  pub added_under : IsWithinLimits (tree_of it.delimiter trees) → (is_put : Bool) (old new : Stack)
      → IsPutUnder it.position.siblings it.delimiter (conditions_of it.attributes) trees is_put old new → is_put ≡ true → IsAdded it trees None old new
  added_under within is_put old new is does = by is.put is.under (sym is.answer ∙ does) is.added
    where
      by : (put : Option Forest) → AreUnder it.position.siblings it.delimiter (conditions_of it.attributes) trees put → is_some put ≡ true → new ≡ append_if put old → IsAdded it trees None old new
      by None under answer added = absurd (false≢true answer)
      by (Some put) under answer added = (put, under_put (Some put) within under, added)

  -- what does not fit is under conditions,
  conditional : wrong.Conditional ≡ misfit it.len
  conditional = by it.len some
    where
      by : (n : ℕ) → 0 < n → wrong.Conditional ≡ misfit n
      by zero some = absurd (omega (arith, some))
      by (suc n) some = refl

  -- and if they are not, they cannot be.
  pub kept_under : IsWithinLimits (tree_of it.delimiter trees) → (is_put : Bool) (old new : Stack)
      → IsPutUnder it.position.siblings it.delimiter (conditions_of it.attributes) trees is_put old new → is_put ≡ false → IsAdded it trees (Some wrong.Conditional) old new
  kept_under within is_put old new is does_not = by is.put is.under (sym is.answer ∙ does_not) is.added
    where
      by : (put : Option Forest) → AreUnder it.position.siblings it.delimiter (conditions_of it.attributes) trees put → is_some put ≡ false → new ≡ append_if put old
          → IsAdded it trees (Some wrong.Conditional) old new
      by None under answer added = (inl (conditional, under_put None within under), added)
      by (Some put) under answer added = absurd (false≢true (sym answer))

-- Without attributes, it is refused if it has no place.
pub refused : (it : CallSite) (trees : Forest) (stack : Stack) → it.len ≡ 0 → brackets_of it.enclosure ≡ None → IsAdded it trees (Some wrong.Statements) stack stack
refused it trees stack none bad = (
  inl (
    sym (ap misfit none),
    subst (PutAs it trees) (ap (option_map (λ brackets. placed_in brackets it.delimiter trees)) bad) (free_put it trees none),
  ),
  refl,
)

-- A builder that held nothing is a tree of what was added.
pub built_alone : (top : Delimiter) (first last : BuilderState) (trees : Forest) → first ≡ empty_builder top → last.top ≡ first.top → last.stack ≡ append trees first.stack
    → built last ≡ record { delimiter = top; children = trees }
built_alone top first last trees begun same added =
    ap₂ (λ d s. record { delimiter = d; children = bottom s }) (same ∙ ap (λ b. b.top) begun) (added ∙ ap (λ b. append trees b.stack) begun)

-- Nothing is open in it.
pub none_open : (stack : Stack) → depth stack ≡ 0 → IsAbove stack → ⊥
none_open (lowest trees) none is = is
none_open (above outer kind open_span trees) none is = absurd (cc none)

-- The text of the trees in place is that of a call.
pub call_text : (one_line : Bool) (it : CallSite) (trees shown : Forest) (begin : ℕ) (text : Written) → PutIn true it trees shown → IsTextOf one_line it.delimiter shown begin text → IsCallText one_line it trees begin text
call_text one_line it trees shown begin (made.Text text) so (may, spells) = (shown, so, may, spells)
call_text one_line it trees shown begin (made.Faulty at fault) so unwritten = inr (refl, inr (shown, so, unwritten))

-- What is built apart waits for nothing else: the builder as it was, and an empty one.
pub apart_of : (brackets : Option (Option DelimiterKind)) (call : Delimiter) (old begun : BuilderState) (outer : Option BuilderState) (it : BuilderState) → outer ≡ Some it
    → IsBegunBy brackets call old outer begun → (it ≡ old) × (begun ≡ empty_builder (record call { kind = Invisible }))
apart_of None call old begun outer it is (waits, new) = (cc (sym is ∙ waits), new)
apart_of (Some None) call old begun outer it is (waits, new) = absurd (cc (sym is ∙ waits))
apart_of (Some (Some kind)) call old begun outer it is (waits, new) = absurd (cc (sym is ∙ waits))

-- As many subtrees are open behind it as in the builder that waits.
pub outside_apart : (brackets : Option (Option DelimiterKind)) (it : BuilderState) (n : ℕ) → depth_outside_by brackets (Some it) n ≡ depth it.stack
outside_apart None it n = refl
outside_apart (Some None) it n = refl
outside_apart (Some (Some kind)) it n = refl

-- What is put or not adds no open subtree.
pub put_depth : (put : Option Forest) (old new : Stack) → new ≡ append_if put old → depth new ≡ depth old
put_depth None old new is = ap depth is
put_depth (Some trees) old new is = ap depth is ∙ depth_append trees old

-- What was begun can be ended, when as many subtrees are open as then.
module _ (call : Delimiter) (old new : BuilderState) where
  pub can_end : (brackets : Option (Option DelimiterKind)) (outer : Option BuilderState) → IsBegunBy brackets call old outer new → CanEndBy brackets outer (depth new.stack)
  can_end None outer (waits, is) = subst (λ o. CanEndBy None o (depth new.stack)) (sym waits) (ap (λ b. depth b.stack) is)
  can_end (Some None) outer (waits, is) = subst (λ o. CanEndBy (Some None) o (depth new.stack)) (sym waits) tt
  can_end (Some (Some kind)) outer (waits, is) =
      subst (λ o. CanEndBy (Some (Some kind)) o (depth new.stack)) (sym waits) (subst (λ b. CanEndBy (Some (Some kind)) None (depth b.stack)) (sym is) tt)

  -- Behind it as many are open as before it,
  pub ends_outside : (brackets : Option (Option DelimiterKind)) (outer : Option BuilderState) → IsBegunBy brackets call old outer new → depth_outside_by brackets outer (depth new.stack) ≡ depth old.stack
  ends_outside None outer (waits, is) = ap (λ o. depth_outside_by None o (depth new.stack)) waits
  ends_outside (Some None) outer (waits, is) = ap (λ o. depth_outside_by (Some None) o (depth new.stack)) waits ∙ ap (λ b. depth b.stack) is
  ends_outside (Some (Some kind)) outer (waits, is) =
      ap (λ o. depth_outside_by (Some (Some kind)) o (depth new.stack)) waits ∙ ap (λ b. depth_outside_by (Some (Some kind)) None (depth b.stack)) is

  -- under the same top.
  pub tops_outside : (brackets : Option (Option DelimiterKind)) (outer : Option BuilderState) → IsBegunBy brackets call old outer new → top_outside outer new.top ≡ old.top
  tops_outside None outer (waits, is) = ap (λ o. top_outside o new.top) waits
  tops_outside (Some None) outer (waits, is) = ap (λ o. top_outside o new.top) waits ∙ ap (λ b. b.top) is
  tops_outside (Some (Some kind)) outer (waits, is) = ap (λ o. top_outside o new.top) waits ∙ ap (λ b. b.top) is
