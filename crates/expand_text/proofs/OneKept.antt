-- A call is replaced, or stays for one reason, if no finding names a limit of trees.
use Rattle.std.proofs.Common.{◌≡◌, ℕ, zero, suc, Bool, true, false, None, Some, inl, inr, refl, ap, sym, subst, ◌∙◌, true≢false}
use Rattle.tt.specs.Forest.{Forest}
use Rattle.tt.specs.Types.Delimiter.{Delimiter}
use Rattle.expand_text.specs.declared.fault.MacroFault.{MacroFault}
use Rattle.expand_text.specs.declared.fault.MacroFault.TheVariants as wrong
use Rattle.expand_text.specs.CallSites.{CallSite, PutAs, PutIn, IsTooLarge, IsMisplaced, IsUnshown, IsKept, misfit}
use Rattle.expand_text.specs.Limits.{names_limit}
use Rattle.expand_text.specs.Macros.{IsTooLargeTree, MayBePut, IsUnwritten}
use Rattle.expand_text.specs.Places.{byte_at}
use Rattle.expand_text.proofs.OnePlacing.{one_put, one_shown}
use Rattle.syntax_unparse.proofs.OneFault.{one_fault, no_fault}
use Rattle.syntax_unparse.specs.declared.fault.WriteFault.TheVariants as unwritten

-- An expansion that fits is not written for one reason.
one_unwritten : (call : Delimiter) (put : Forest) (begin at place : ℕ) (found other : MacroFault) → IsUnwritten call put begin at found → IsUnwritten call put begin place other
    → names_limit found ≡ false → names_limit other ≡ false → (at ≡ place) × (found ≡ other)
one_unwritten call put begin at place (wrong.TooLarge why) other h k free none = absurd (true≢false free)
one_unwritten call put begin at place wrong.TooLong (wrong.TooLarge why) h k free none = absurd (true≢false none)
one_unwritten call put begin at place wrong.TooLong wrong.TooLong h k free none = (h.2 ∙ sym k.2, refl)
one_unwritten call put begin at place wrong.TooLong wrong.NotWritable h k free none =
    absurd (cc (one_fault put unwritten.TooLong (unwritten.NotWritable k.1) h.1 k.2 (λ e. cc e) (λ e. cc e)))
one_unwritten call put begin at place wrong.TooLong other h k free none = absurd k
one_unwritten call put begin at place wrong.NotWritable (wrong.TooLarge why) h k free none = absurd (true≢false none)
one_unwritten call put begin at place wrong.NotWritable wrong.TooLong h k free none =
    absurd (cc (one_fault put (unwritten.NotWritable h.1) unwritten.TooLong h.2 k.1 (λ e. cc e) (λ e. cc e)))
one_unwritten call put begin at place wrong.NotWritable wrong.NotWritable h k free none =
    let both = one_fault put (unwritten.NotWritable h.1) (unwritten.NotWritable k.1) h.2 k.2 (λ e. cc e) (λ e. cc e) in
    let same : h.1 ≡ k.1 = cc both in
    (h.3 ∙ ap (λ n. byte_at put n begin) same ∙ sym k.3, refl)
one_unwritten call put begin at place wrong.NotWritable other h k free none = absurd k
one_unwritten call put begin at place found other h k free none = absurd h

-- If it may be put into the text, there is no such reason.
no_unwritten : (call : Delimiter) (put : Forest) (begin at : ℕ) (found : MacroFault) → MayBePut true call put → IsUnwritten call put begin at found → names_limit found ≡ false → ⊥
no_unwritten call put begin at (wrong.TooLarge why) may h free = true≢false free
no_unwritten call put begin at wrong.TooLong may h free = cc (no_fault put unwritten.TooLong may.1 may.2 h.1)
no_unwritten call put begin at wrong.NotWritable may h free = cc (no_fault put (unwritten.NotWritable h.1) may.1 may.2 h.2)
no_unwritten call put begin at found may h free = h

-- A tree that exceeds a limit names it.
names_too_large : (call : Delimiter) (trees : Forest) (found : MacroFault) → IsTooLargeTree call trees found → names_limit found ≡ false → ⊥
names_too_large call trees (wrong.TooLarge why) h free = true≢false free
names_too_large call trees found h free = h

module _ (it : CallSite) (trees : Forest) where
  -- What does not fit its place, and not for a limit, is statements or under conditions.
  misplaced : (found : MacroFault) → IsMisplaced it trees found → names_limit found ≡ false → (found ≡ misfit it.len) × PutAs it trees None
  misplaced found (inl h) free = h
  misplaced found (inr h) free = absurd (by it.len h)
    where
      by : (len : ℕ) → IsTooLarge len it trees found → ⊥
      by zero h = h
      by (suc more) h = names_too_large it.delimiter trees found h free

  -- What fits its place, and is not shown for another reason than a limit, is not written.
  unwritten_there : (begin at : ℕ) (found : MacroFault) → IsUnshown it trees begin at found → names_limit found ≡ false
      → (shown : Forest) × PutIn true it trees shown × IsUnwritten it.delimiter shown begin at found
  unwritten_there begin at found (inl (put, so, large, is)) free = absurd (names_too_large it.delimiter put found large free)
  unwritten_there begin at found (inr h) free = h

  -- A call stays for one reason.
  pub one_kept : (in_text : Bool) (begin at place : ℕ) (found other : MacroFault) → IsKept in_text it trees begin at found → IsKept in_text it trees begin place other
      → names_limit found ≡ false → names_limit other ≡ false → (at ≡ place) × (found ≡ other)
  one_kept in_text begin at place found other (inl (x, is)) (inl (y, was)) free none = (is ∙ sym was, (misplaced found x free).0 ∙ sym (misplaced other y none).0)
  one_kept in_text begin at place found other (inl (x, is)) (inr (text, y)) free none =
      let (shown, (put, so, is_shown), why) = unwritten_there begin place other y none in
      absurd (cc (one_put it trees None (Some put) (misplaced found x free).1 so))
  one_kept in_text begin at place found other (inr (text, x)) (inl (y, was)) free none =
      let (shown, (put, so, is_shown), why) = unwritten_there begin at found x free in
      absurd (cc (one_put it trees None (Some put) (misplaced other y none).1 so))
  one_kept in_text begin at place found other (inr (text, x)) (inr (again, y)) free none =
      let (shown, so, why) = unwritten_there begin at found x free in
      let (that, thus, because) = unwritten_there begin place other y none in
      one_unwritten it.delimiter shown begin at place found other why
      (subst (λ p. IsUnwritten it.delimiter p begin place other) (sym (one_shown true it trees shown that so thus)) because) free none

  -- A call that may be replaced does not stay.
  pub never_kept : (in_text : Bool) (shown : Forest) (begin at : ℕ) (found : MacroFault) → IsKept in_text it trees begin at found → PutIn in_text it trees shown
      → MayBePut in_text it.delimiter shown → names_limit found ≡ false → ⊥
  never_kept in_text shown begin at found (inl (x, is)) (put, so, is_shown) may free = cc (one_put it trees None (Some put) (misplaced found x free).1 so)
  never_kept in_text shown begin at found (inr (text, x)) so may free =
      let (that, thus, why) = unwritten_there begin at found x free in
      let same : that ≡ shown = one_shown true it trees that shown thus (subst (λ b. PutIn b it trees shown) text so) in
      no_unwritten it.delimiter shown begin at found (subst (λ b. MayBePut b it.delimiter shown) text may) (subst (λ p. IsUnwritten it.delimiter p begin at found) same why) free
