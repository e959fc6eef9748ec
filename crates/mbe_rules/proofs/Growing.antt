-- What is written grows, or an error is returned.
use Rattle.std.proofs.Common.{◌≡◌, ◌+◌, ◌<◌, ◌≤◌, ℕ, suc, List, [], ◌∷◌, ◌++◌, length, take, get_or, inl, inr, Ok, Err, Result, Option, refl, ap, ap₂, sym, subst, ◌∙◌, arith}
use Rattle.std.specs.Prelude.{OnOk, IfOk, IfErr, option_map}
use Rattle.std.proofs.lemmas.List.{take_more, length-take-le}
use Rattle.tt.specs.Building.{alone, Stack, lowest, above, append, close_innermost, opened, extended, closed, tokens_held, HasRoom, IsAbove, IsGrowthFault}
use Rattle.tt.specs.Forest.{Forest, end, leaf, node, join, size}
use Rattle.tt.specs.Siblings.{leaves}
use Rattle.tt.specs.Stored.{most_tokens}
use Rattle.tt.specs.Types.DelimiterKind.{DelimiterKind}
use Rattle.tt.specs.Types.DelimiterKind.TheVariants.{InvisibleOpaque}
use Rattle.tt.specs.Types.Leaf.{Leaf}
use Rattle.tt.specs.Types.Span.{Span}
use Rattle.tt.specs.Types.TtFault.{TtFault}
use Rattle.mbe_rules.specs.declared.transcribe.Transcriber.{Transcriber}
use Rattle.mbe_rules.specs.declared.transcribe_error.TranscribeError.{TranscribeError}
use Rattle.mbe_rules.specs.declared.transcribe_error.TranscribeError.TheVariants.{OverLimit, Tree}
use Rattle.mbe_rules.specs.Enclosing.{enclosed_between}
use Rattle.mbe_rules.specs.Filling.{most_of, Grows, IsWant, Opens}
use Rattle.mbe_rules.specs.Limits.{IsOver, IsWithin}
use Rattle.mbe_rules.proofs.Limits.{over_more, within_fewer, in_all, over_all, in_all_after, within_all}
use Rattle.tt_base.proofs.Appending.{append-end, append-join, held-append, held-close}

-- so many more tokens are taken from those that may still be written
abbrev pub IsTaken : (more : ℕ) → (left rest : Option ℕ) → Type 0
IsTaken more left rest = left ≡ option_map (λ it. it + more) rest

-- Trees that there is room for are written.
pub grows_by : (more : Forest) (old new : Transcriber) → new.builder ≡ extended more old.builder → HasRoom (size more) old.builder
    → IsTaken (size more) old.left new.left → new.rounds ≡ old.rounds → new.closes ≡ old.closes → Grows more old new
grows_by more old new builder room taken rounds closes =
    let held : tokens_held new.builder.stack ≡ tokens_held old.builder.stack + size more =
    ap (λ b. tokens_held b.stack) builder ∙ held-append more old.builder.stack in
    record {
      stack = ap (λ b. b.stack) builder;
      top = ap (λ b. b.top) builder;
      few = λ few. omega (arith, held, room);
      most = in_all_after (size more) (tokens_held old.builder.stack) old.left new.left (tokens_held new.builder.stack) taken held;
      rounds = rounds;
      closes = closes;
    }

-- A subtree is opened.
pub opens_by : (kind : DelimiterKind) (open_span : Span) (old new : Transcriber) → new.builder ≡ opened kind open_span old.builder → HasRoom 1 old.builder
    → IsTaken 1 old.left new.left → new.rounds ≡ old.rounds → new.closes ≡ old.closes → Opens kind open_span old new
opens_by kind open_span old new builder room taken rounds closes =
    record {
      builder = builder;
      room = room;
      most =
          in_all_after 1 (tokens_held old.builder.stack) old.left new.left (tokens_held new.builder.stack) taken (ap (λ b. tokens_held b.stack) builder);
      rounds = rounds;
      closes = closes;
    }

-- Or an error is returned: they are more than may still be written, or the builder refuses them.
pub taking_wants : (more : ℕ) (old : Transcriber) (error : TranscribeError) → (error ≡ OverLimit) × IsOver old.left more → IsWant more old error
taking_wants more old error (is, over) = inr (inr (is, over_all more (tokens_held old.builder.stack) old.left over))

pub growth_wants : (more : ℕ) (old : Transcriber) (rest : Option ℕ) (fault : TtFault) → IsTaken more old.left rest → IsGrowthFault more old.builder fault
    → IsWant more old (Tree fault)
growth_wants more old rest fault taken (inl (e, room)) = inl (ap Tree e)
growth_wants more old rest fault taken (inr (e, many)) =
    let held = tokens_held old.builder.stack in
    inr (inl (ap Tree e, many, within_fewer (most_of old) (suc most_tokens) (held + more) (omega (arith, many)) (within_all more held old.left rest taken)))

-- Fewer tokens give it too, and so do those behind others.
pub wants_fewer : (n m : ℕ) (old : Transcriber) (error : TranscribeError) → n ≤ m → IsWant n old error → IsWant m old error
wants_fewer n m old error fewer (inl e) = inl e
wants_fewer n m old error fewer (inr (inl (e, many, within))) = inr (inl (e, omega (arith, many, fewer), within))
wants_fewer n m old error fewer (inr (inr (e, over))) =
    let held = tokens_held old.builder.stack in
    inr (inr (e, over_more (most_of old) (held + n) (held + m) (omega (arith, fewer)) over))

pub wants_behind : (passed n : ℕ) (old between : Transcriber) (error : TranscribeError)
    → tokens_held between.builder.stack ≡ tokens_held old.builder.stack + passed → most_of between ≡ most_of old → IsWant n between error
    → IsWant (passed + n) old error
wants_behind passed n old between error held most (inl e) = inl e
wants_behind passed n old between error held most (inr (inl (e, many, within))) =
    inr (inl (e, omega (arith, many, held), subst (λ l. IsWithin l (suc most_tokens)) most within))
wants_behind passed n old between error held most (inr (inr (e, over))) =
    let same : tokens_held between.builder.stack + n ≡ tokens_held old.builder.stack + (passed + n) = omega (arith, held) in
    inr (inr (e, subst (λ l. IsOver l (tokens_held old.builder.stack + (passed + n))) most (subst (IsOver (most_of between)) same over)))

-- Nothing is written.
pub grows_none : (old : Transcriber) → Grows end old old
grows_none old = record { stack = sym (append-end old.builder.stack); top = refl; few = λ few. few; most = refl; rounds = refl; closes = refl }

-- Trees, and then others.
grows_both : (f g : Forest) (old between new : Transcriber) → Grows f old between → Grows g between new → Grows (join f g) old new
grows_both f g old between new first then =
    record {
      stack = then.stack ∙ ap (append g) first.stack ∙ sym (append-join f g old.builder.stack);
      top = then.top ∙ first.top;
      few = λ few. then.few (first.few few);
      most = then.most ∙ first.most;
      rounds = then.rounds ∙ first.rounds;
      closes = then.closes ∙ first.closes;
    }

leaves_both : (xs ys : List Leaf) → leaves (xs ++ ys) ≡ join (leaves xs) (leaves ys)
leaves_both [] ys = refl
leaves_both (it ∷ xs) ys = ap (leaf it) (leaves_both xs ys)

pub size_leaves : (xs : List Leaf) → size (leaves xs) ≡ length xs
size_leaves [] = refl
size_leaves (it ∷ xs) = ap suc (size_leaves xs)

-- One more leaf.
pub grows_more : (its : List Leaf) (n : ℕ) (it : Leaf) (old between new : Transcriber) → n < length its → it ≡ get_or its n it → Grows (leaves (take n its)) old between
    → Grows (leaf it end) between new → Grows (leaves (take (n + 1) its)) old new
grows_more its n it old between new within is first then =
    subst (λ l. Grows (leaves l) old new) (sym (take_more its n it within ∙ ap (λ x. take n its ++ x ∷ []) (sym is)))
    (subst (λ f. Grows f old new) (sym (leaves_both (take n its) (it ∷ []))) (grows_both (leaves (take n its)) (leaf it end) old between new first then))

pub wants_more : (its : List Leaf) (n : ℕ) (old between : Transcriber) (error : TranscribeError) → n < length its → Grows (leaves (take n its)) old between
    → IsWant 1 between error → IsWant (size (leaves its)) old error
wants_more its n old between error within first want =
    let passed = size (leaves (take n its)) in
    let held : tokens_held between.builder.stack ≡ tokens_held old.builder.stack + passed =
    ap tokens_held first.stack ∙ held-append (leaves (take n its)) old.builder.stack in
    let fewer : passed + 1 ≤ size (leaves its) = omega (arith, within, size_leaves (take n its), size_leaves its, length-take-le n its (omega (arith, within))) in
    wants_fewer (passed + 1) (size (leaves its)) old error fewer (wants_behind passed 1 old between error held first.most want)

-- If no subtree is open, there is nothing to close.
pub none_closed : (span : Span) (stack : Stack) → (IsAbove stack → ⊥) → close_innermost span stack ≡ stack
none_closed span (lowest trees) none = refl
none_closed span (above outer kind open_span trees) none = absurd (none tt)

-- From a property of a result to one that follows.
pub on_ok : {A E P Q : Type 0} (result : Result A E) → (P → Q) → OnOk result P → OnOk result Q
on_ok (Ok x) then p = then p
on_ok (Err e) then p = tt

pub ok_both : {A E P Q R : Type 0} (result : Result A E) → (P → Q → R) → OnOk result P → OnOk result Q → OnOk result R
ok_both (Ok x) then p q = then p q
ok_both (Err e) then p q = tt

pub ok_so : {A E : Type 0} {P Q : A → Type 0} (result : Result A E) → ((x : A) → P x → Q x) → IfOk result P → IfOk result Q
ok_so (Ok x) then p = then x p
ok_so (Err e) then p = tt

pub err_so : {A E : Type 0} {P Q : E → Type 0} (result : Result A E) → ((e : E) → P e → Q e) → IfErr result P → IfErr result Q
err_so (Ok x) then p = tt
err_so (Err e) then p = then e p

-- Making the last token alone does not change the number of tokens.
pub size-alone : (trees : Forest) → size (alone trees) ≡ size trees
size-alone end = refl
size-alone (leaf it end) = refl
size-alone (leaf it (leaf next rest)) = ap suc (size-alone (leaf next rest))
size-alone (leaf it (node next children rest)) = ap suc (size-alone (node next children rest))
size-alone (node delimiter children end) = omega (arith, size-alone children)
size-alone (node delimiter children (leaf next rest)) = omega (arith, size-alone (leaf next rest))
size-alone (node delimiter children (node next inner rest)) = omega (arith, size-alone (node next inner rest))

-- Trees written between the opening and the closing of a subtree are inside it.
module _ (trees : Forest) (first last : Span) (old outside : Transcriber) (opens : Opens InvisibleOpaque first old outside) where
  -- an opaque subtree of these trees
  abbrev held : Forest
  held = enclosed_between first last trees

  pub grows_held : (inside new : Transcriber) → Grows trees outside inside → new.builder ≡ closed last inside.builder → new.left ≡ inside.left
      → new.rounds ≡ inside.rounds → new.closes ≡ inside.closes → Grows held old new
  grows_held inside new grows builder left rounds closes =
      let filled : inside.builder.stack ≡ append trees (opened InvisibleOpaque first old.builder).stack =
      grows.stack ∙ ap (λ b. append trees b.stack) opens.builder in
      let stack : new.builder.stack ≡ append held old.builder.stack = ap (λ b. b.stack) builder ∙ ap (close_innermost last) filled in
      let same : tokens_held new.builder.stack ≡ tokens_held inside.builder.stack = ap (λ b. tokens_held b.stack) builder ∙ held-close last inside.builder.stack in
      let few : tokens_held outside.builder.stack ≤ most_tokens = omega (arith, ap (λ b. tokens_held b.stack) opens.builder, opens.room) in
      record {
        stack = stack;
        top = ap (λ b. b.top) builder ∙ grows.top ∙ ap (λ b. b.top) opens.builder;
        few = λ _. omega (arith, same, grows.few few);
        most = ap₂ in_all same left ∙ grows.most ∙ opens.most;
        rounds = rounds ∙ grows.rounds ∙ opens.rounds;
        closes = closes ∙ grows.closes ∙ opens.closes;
      }

  -- The error comes from what it holds.
  pub holding_wants : (error : TranscribeError) → IsWant (size trees) outside error → IsWant (size held) old error
  holding_wants error want =
      wants_fewer (1 + size trees) (size held) old error (omega arith)
      (wants_behind 1 (size trees) old outside error (ap (λ b. tokens_held b.stack) opens.builder) opens.most want)

-- Or from opening the subtree.
pub opening_wants : (trees : Forest) (first last : Span) (old : Transcriber) (error : TranscribeError) → IsWant 1 old error
    → IsWant (size (enclosed_between first last trees)) old error
opening_wants trees first last old error want = wants_fewer 1 (size (enclosed_between first last trees)) old error (omega arith) want
