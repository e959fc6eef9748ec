-- Two owners of one block (`specs/Counting.antt`) show one value, or its count is full for ever. Assumes `Logic`, and that a cell that
-- may be written has one owner.
--     Good      the count of a block is full for ever.        not_good      a walk that may write the count knows that it is not
--     Judged, judges      two owners in `&`s own two blocks, or show one value, or their count is full for ever
use Rattle.std.proofs.Common.{◌≡◌, ℕ, ◌+◌, ◌⊎◌, inl, inr, Bool, true, false, List, [], ◌∷◌, arith, refl, sym, ◌∙◌, subst}
use mathlib.Core.HLevel.{⊥_prop}
use mathlib.Core.List.{mem-cons, not-mem-nil}
use mathlib.Core.Logic.Or
use native.Mathlib.Decide.{ℕ_discrete}
use seplogic.Ra.Ura.{Ura}
use base.Before.{before}
use base.Fml.{Lft, Mask, Share, GName, Incl, Incl-refl, Fml, ftrue, fsep, fhide, fdead, flft, ftok, fnamed, fres}
use base.Fraction.{full_share}
use base.Logic.{SProp, ent, sep, wand, ex, guard, emp, never, never_e, upd_i, upd, via, id⊢, apply∗}
use base.Mask.{every, just, just_self, Key-Dec}
use base.Several.{Apart, invs, bodies}
use contract.Monad.{fact, fact_i, sep→conj}
use ghost.Rules.{Toks, span}
use mir.Syntax.{w64, ty_int}
use mir.Val.{Val, vint}
use prog.Model.{Model}
use types.Kit.{Item, Goal, Seq, Step, Soaks, step, ‵, raw, ◌⊛◌, some, given, later, ◌$◌, ◌∵◌, !, qed, by, move, keep, drop, split, split3, fsplit, fsplit3, fjoin, fjoin3, fpick, fpack, pick, learn, use0, use1, use2, use3, await, rewrite, feq_l, flt_i, flt_l, frame, group, assume, show, check, suffices, updating, now, done}
use types.Logic.{Logic, sem, lfts}
use types.Na.{slot, out, before_acc}
use types.RcWeak as rc
use types.Tokens.{shr_bor-open, obor_close, one_token}
use types.Within.{tokens_halve}
use denote.Builtin.{usize}
use denote.Copied.{uint_Copied}
use denote.Memory.{cell_at}
use denote.Opens.{hide, unhide}
use denote.Plain.{uint_out}
use denote.RattleType.{RattleType, RowLaws}
use denote.RawPtr.{Ptr, InBlock, null_ptr, block_ptr, block_of, count_of, at_block, in_a_block, ◌+ₚ◌}
use denote.SharingLaws.{contraction}
use denote.Steps.{looks, heard}
use denote.Struct.Lending.{lent_at, in_block_says}
use Rattle.tt_shared.specs.Counting.{full, key, counts, there, stays, strong_state, strong, weak, IsNumberOf, Names, inside, marked, lent_owner, counted_shares, value_offset, sees}
use Rattle.tt_shared.proofs.CountedSteps.{cell, counted_sees}
use Rattle.tt_shared.proofs.Marks.{one_name}
use Rattle.tt_shared.proofs.OwnersLent.{stays_laws, counted_laws}

-- the count of the block is full for ever
abbrev pub Good : Ptr → Fml
Good c = lent_at usize (c +ₚ 0) full []

module _ {M : Type 1} {𝓤 : Ura M} (𝓛 : Logic 𝓤) (𝓜 : Model 𝓤 𝓛.H) where
  open 𝓛 use {H, A}

  -- nothing else has a cell that may be written
  two_cells : (b o n m : ℕ) (q : Share) → ent 𝓤 (sep 𝓤 (sem 𝓛 (cell full_share b o n)) (sem 𝓛 (cell q b o m))) (never 𝓤)
  two_cells b o n m q = qed 𝓛 (‵ (cell full_share b o n) ∷ ‵ (cell q b o m) ∷ []) ∵ use1 𝓛 (raw (H.room (ty_int w64) b (o + 0))) (𝓛.laws.at_room (ty_int w64) b (o + 0) (vint w64 n)) $
      by ! (𝓜.room_at (ty_int w64) (ty_int w64) b (o + 0) (o + 0) (o + 0) q (vint w64 m) (omega arith, omega arith) (omega arith, omega arith))

  -- nothing else has a whole count
  two_counts : (R : RattleType) (c : Ptr) (x y : R.Denot) (n m : ℕ) → ent 𝓤 (sep 𝓤 (sem 𝓛 (counts R c x n)) (sem 𝓛 (counts R c y m))) (never 𝓤)
  two_counts R c x y n m = qed 𝓛 (‵ (counts R c x n) ∷ ‵ (counts R c y m) ∷ []) ∵ in_a_block ! c (λ p. counts R p x n) (id⊢ 𝓤 (never 𝓤)) (λ b o e.
      rewrite ! 1 (λ (p : Ptr). ‵ (counts R p y m)) e refl $ use1 𝓛 (‵ (cell full_share b o n)) (uint_out 𝓛 full_share w64 n b (o + 0)) $ move ! (1 ∷ []) $
      use1 𝓛 (‵ (cell full_share b o m)) (uint_out 𝓛 full_share w64 m b (o + 0)) $ by ! (two_cells b o m n full_share))

  -- a lifetime that a token's lifetime is within lends a token
  abbrev Alive : Lft → Lft → Share → Lft × Share → SProp 𝓤
  Alive κ₀ κ q t = guard 𝓤 (Incl t.0 κ₀) (sep 𝓤 (A.lft t.0 t.1) (wand 𝓤 (A.lft t.0 t.1) (H.⇛ (A.lft κ q))))

  -- a token lends one of a lifetime that ends no sooner, and takes it back
  lends : (κ κ₀ : Lft) (q : Share) → ent 𝓤 (sep 𝓤 (sem 𝓛 (before κ κ₀)) (A.lft κ q)) (H.⇛ (ex 𝓤 (Alive κ₀ κ q)))
  lends κ κ₀ q = qed 𝓛 (‵ (before κ κ₀) ∷ ‵ (flft κ q) ∷ []) ∵ updating ! $
      use2 𝓛 (later (some (λ (us : Toks). given (Incl (span us) κ₀) (raw (lfts 𝓛 us) ⊛ raw (wand 𝓤 (lfts 𝓛 us) (H.⇛ (A.lft κ q))))))) (before_acc 𝓛 κ κ₀ ((κ, q) ∷ []) (Incl-refl κ)) $ await ! tt $ pick ! (λ us. learn ! (λ within. split ! $
      use1 𝓛 (some (λ (r : Share). ‵ (flft (span us) r) ⊛ raw (wand 𝓤 (A.lft (span us) r) (lfts 𝓛 us)))) (one_token 𝓛 us) $ pick ! (λ r. split ! $ now ! $
      show ! (Alive κ₀ κ q) (span us, r) $ check ! within $ frame ! $ assume ! (‵ (flft (span us) r)) $ updating ! $ move ! (0 ∷ 1 ∷ []) $
      use2 𝓛 (raw (lfts 𝓛 us)) (apply∗ 𝓤 (A.lft (span us) r) (lfts 𝓛 us)) $ use2 𝓛 (later (‵ (flft κ q))) (apply∗ 𝓤 (lfts 𝓛 us) (H.⇛ (A.lft κ q))) $ await ! tt $ now ! $ done !)))

  module _ (R : RattleType) (L : RowLaws R) (c : Ptr) (E : Mask) (has : E (block_of c, count_of c) ≡ true) where
    -- the count n, and the way back
    abbrev Count : R.Denot → ℕ × ℕ → GName → Lft → Share → ℕ → SProp 𝓤
    Count x a γ μ r n = sep 𝓤 (sem 𝓛 (counts R c x n)) (wand 𝓤 (sem 𝓛 (counts R c x n)) (sep 𝓤 (sem 𝓛 (inside R c x a γ)) (A.lft μ r)))

    -- what a walk finds in the invariant of a living block: the count, or that it is full for ever
    abbrev Found : R.Denot → ℕ × ℕ → GName → Lft → Share → Bool → SProp 𝓤
    Found x a γ μ r true = ex 𝓤 (Count x a γ μ r)
    Found x a γ μ r false = sep 𝓤 (sem 𝓛 (inside R c x a γ)) (sep 𝓤 (A.lft μ r) (sem 𝓛 (Good c)))

    module _ (x : R.Denot) (a : ℕ × ℕ) (γ : GName) (μ : Lft) (r : Share) (below : Incl μ (a.0 ∷ [])) where
      abbrev Inside : Fml
      Inside = inside R c x a γ

      abbrev Answer : SProp 𝓤
      Answer = sep 𝓤 (A.tok E) (ex 𝓤 (Found x a γ μ r))

      abbrev Inv : Fml
      Inv = rc.Inv 64 (key R c x) (strong R c x) weak (there R c x) ftrue ftrue a

      abbrev Counted : Bool × ℕ × ℕ → Fml
      Counted = rc.counted 64 (key R c x) (strong R c x) weak (there R c x) ftrue ftrue a

      -- what belongs to the count
      abbrev Rest : Bool × ℕ × ℕ → Fml
      Rest t = fsep (weak t.2) (fsep (rc.value 64 (key R c x) (strong R c x) weak (there R c x) ftrue ftrue a t.0 t.1) (rc.weaks 64 (key R c x) (strong R c x) weak (there R c x) ftrue ftrue a t.2))

      -- the count and all that belongs to it are the invariant again
      again : (t : Bool × ℕ × ℕ) → ent 𝓤 (sep 𝓤 (sem 𝓛 (strong R c x t.1)) (sep 𝓤 (sem 𝓛 (Rest t)) (sem 𝓛 (out γ)))) (sem 𝓛 Inside)
      again t = qed 𝓛 (‵ (strong R c x t.1) ∷ ‵ (Rest t) ∷ ‵ (out γ) ∷ []) ∵ fjoin ! $ fpack ! (Bool × ℕ × ℕ) Counted t $ fpack ! Bool (rc.state 64 (key R c x) (strong R c x) weak (there R c x) ftrue ftrue a) true $
          fjoin ! $ fpack ! Bool (slot (key R c x) Inv γ) true $ done !

      -- `finds` for a block that lives
      at_count : (t : Bool × ℕ × ℕ) (counting : Bool) → ent 𝓤 (sep 𝓤 (sem 𝓛 (strong_state R c x t.1 counting)) (sep 𝓤 (sem 𝓛 (Rest t)) (sep 𝓤 (sem 𝓛 (out γ)) (sep 𝓤 (A.lft μ r) (A.tok E))))) Answer
      at_count t true = qed 𝓛 (‵ (strong_state R c x t.1 true) ∷ ‵ (Rest t) ∷ ‵ (out γ) ∷ ‵ (flft μ r) ∷ ‵ (ftok E) ∷ []) ∵ fsplit ! $ flt_l ! (λ low. move ! (4 ∷ []) $ frame ! $ show ! (Found x a γ μ r) true $ show ! (Count x a γ μ r) t.1 $ frame ! $
          assume ! (‵ (counts R c x t.1)) $ flt_i ! t.1 full low $ fjoin ! $ fpack ! Bool (strong_state R c x t.1) true $ move ! (0 ∷ 1 ∷ 2 ∷ []) $ use3 𝓛 (‵ Inside) (again t) $ done !)
      at_count t false = qed 𝓛 (‵ (stays R c x []) ∷ ‵ (Rest t) ∷ ‵ (out γ) ∷ ‵ (flft μ r) ∷ ‵ (ftok E) ∷ []) ∵ move ! (4 ∷ []) $ frame ! $ show ! (Found x a γ μ r) false $
          use1 𝓛 (‵ (stays R c x []) ⊛ ‵ (stays R c x [])) (contraction 𝓛 (stays R c x) (stays_laws R L c x) []) $ split ! $ fpack ! Bool (strong_state R c x t.1) false $ move ! (0 ∷ 2 ∷ 3 ∷ []) $ use3 𝓛 (‵ Inside) (again t) $ frame ! $
          move ! (1 ∷ []) $ frame ! $ fsplit ! $ keep ! (0 ∷ []) $ done !

      -- `finds` for an invariant that is shut
      at_life : (lives : Bool) → ent 𝓤 (sep 𝓤 (sem 𝓛 (rc.state 64 (key R c x) (strong R c x) weak (there R c x) ftrue ftrue a lives)) (sep 𝓤 (sem 𝓛 (out γ)) (sep 𝓤 (A.lft μ r) (A.tok E)))) Answer
      at_life true = qed 𝓛 (‵ (rc.state 64 (key R c x) (strong R c x) weak (there R c x) ftrue ftrue a true) ∷ ‵ (out γ) ∷ ‵ (flft μ r) ∷ ‵ (ftok E) ∷ []) ∵ fpick ! (λ t. fsplit ! $ fpick ! (λ counting. by ! (at_count t counting)))
      at_life false = qed 𝓛 (‵ (rc.state 64 (key R c x) (strong R c x) weak (there R c x) ftrue ftrue a false) ∷ ‵ (out γ) ∷ ‵ (flft μ r) ∷ ‵ (ftok E) ∷ []) ∵ fsplit ! $ use1 𝓛 (‵ (fdead μ)) (𝓛.lfts.dead-incl μ (a.0 ∷ []) below) $
          keep ! (3 ∷ 0 ∷ []) $ by ! (via 𝓤 (never 𝓤) (𝓛.lfts.lft-dead μ r) (never_e 𝓤 Answer))

      -- `finds` for an invariant that is shut or open
      at_slot : (held : Bool) → ent 𝓤 (sep 𝓤 (sem 𝓛 (slot (key R c x) Inv γ held)) (sep 𝓤 (A.lft μ r) (A.tok E))) Answer
      at_slot true = qed 𝓛 (‵ (fsep Inv (out γ)) ∷ ‵ (flft μ r) ∷ ‵ (ftok E) ∷ []) ∵ fsplit ! $ fpick ! (λ lives. by ! (at_life lives))
      at_slot false = qed 𝓛 (‵ (ftok (just (key R c x))) ∷ ‵ (flft μ r) ∷ ‵ (ftok E) ∷ []) ∵ keep ! (2 ∷ 0 ∷ []) $ by ! (via 𝓤 (never 𝓤) (𝓛.invs.tok_once E (just (key R c x)) (key R c x) has (just_self (key R c x))) (never_e 𝓤 Answer))

      -- the part of the thread's token opens the invariant of a living block, for one step
      finds : ent 𝓤 (sep 𝓤 (sem 𝓛 Inside) (sep 𝓤 (A.lft μ r) (A.tok E))) Answer
      finds = qed 𝓛 (‵ Inside ∷ ‵ (flft μ r) ∷ ‵ (ftok E) ∷ []) ∵ fpick ! (λ held. by ! (at_slot held))

    -- two invariants of two numbers may be open at once
    two_invs : (i j : ℕ) (P Q : Fml) → ¬ (i ≡ j) → Apart ((i, P) ∷ (j, Q) ∷ [])
    two_invs i j P Q other = ((λ m. Or.elim ⊥_prop ((mem-cons {a = i} {b = j} {l = []}).0 m) other (λ y. not-mem-nil y)), ((λ m. not-mem-nil m), tt))

    -- two living blocks at one place: with two invariants, the count is full for ever
    module _ (x y : R.Denot) (n m : Names) (μ μ' : Lft) (r r' : Share) (below : Incl μ (n.0.0 ∷ [])) (below' : Incl μ' (m.0.0 ∷ [])) where
      abbrev One : Fml
      One = inside R c x n.0 n.1

      abbrev Two : Fml
      Two = inside R c y m.0 m.1

      abbrev Both : List (ℕ × Fml)
      Both = (n.3, One) ∷ (m.3, Two) ∷ []

      abbrev Left : SProp 𝓤
      Left = sep 𝓤 (A.lft μ r) (sep 𝓤 (A.lft μ' r') (sep 𝓤 (A.tok E) (sem 𝓛 (Good c))))

      abbrev Closed : SProp 𝓤
      Closed = sep 𝓤 (sem 𝓛 (bodies Both)) Left

      -- both invariants are shut again, and the count is full for ever
      closes : ent 𝓤 (sep 𝓤 (sem 𝓛 One) (sep 𝓤 (sem 𝓛 Two) (sep 𝓤 (A.lft μ r) (sep 𝓤 (A.lft μ' r') (sep 𝓤 (A.tok E) (sem 𝓛 (Good c))))))) Closed
      closes = qed 𝓛 (‵ One ∷ ‵ Two ∷ ‵ (flft μ r) ∷ ‵ (flft μ' r') ∷ ‵ (ftok E) ∷ ‵ (Good c) ∷ []) ∵ use0 𝓛 (‵ ftrue) (id⊢ 𝓤 (emp 𝓤)) $ move ! (1 ∷ 2 ∷ 0 ∷ []) $ fjoin3 ! $ done !

      -- `clash` after the first count is known, at the second
      at_second : (k : ℕ) (full_too : Bool) → ent 𝓤 (sep 𝓤 (Found y m.0 m.1 μ' r' full_too) (sep 𝓤 (A.tok E) (sep 𝓤 (sem 𝓛 (counts R c x k)) (wand 𝓤 (sem 𝓛 (counts R c x k)) (sep 𝓤 (sem 𝓛 One) (A.lft μ r)))))) Closed
      at_second k true = qed 𝓛 (some (λ (l : ℕ). ‵ (counts R c y l) ⊛ raw (wand 𝓤 (sem 𝓛 (counts R c y l)) (sep 𝓤 (sem 𝓛 Two) (A.lft μ' r')))) ∷ ‵ (ftok E) ∷ ‵ (counts R c x k) ∷ raw (wand 𝓤 (sem 𝓛 (counts R c x k)) (sep 𝓤 (sem 𝓛 One) (A.lft μ r))) ∷ []) ∵
          pick ! (λ l. split ! $ keep ! (0 ∷ 3 ∷ []) $ by ! (via 𝓤 (never 𝓤) (two_counts R c y x l k) (never_e 𝓤 Closed)))
      at_second k false = qed 𝓛 ((‵ Two ⊛ ‵ (flft μ' r') ⊛ ‵ (Good c)) ∷ ‵ (ftok E) ∷ ‵ (counts R c x k) ∷ raw (wand 𝓤 (sem 𝓛 (counts R c x k)) (sep 𝓤 (sem 𝓛 One) (A.lft μ r))) ∷ []) ∵ split3 ! $ move ! (4 ∷ 5 ∷ []) $
          use2 𝓛 (‵ One ⊛ ‵ (flft μ r)) (apply∗ 𝓤 (sem 𝓛 (counts R c x k)) (sep 𝓤 (sem 𝓛 One) (A.lft μ r))) $ split ! $ move ! (0 ∷ 2 ∷ 1 ∷ 3 ∷ 5 ∷ 4 ∷ []) $ by ! closes

      -- `clash` at the first count
      at_first : (full_too : Bool) → ent 𝓤 (sep 𝓤 (Found x n.0 n.1 μ r full_too) (sep 𝓤 (A.tok E) (sep 𝓤 (sem 𝓛 Two) (A.lft μ' r')))) Closed
      at_first true = qed 𝓛 (some (λ (k : ℕ). ‵ (counts R c x k) ⊛ raw (wand 𝓤 (sem 𝓛 (counts R c x k)) (sep 𝓤 (sem 𝓛 One) (A.lft μ r)))) ∷ ‵ (ftok E) ∷ ‵ Two ∷ ‵ (flft μ' r') ∷ []) ∵ pick ! (λ k. split ! $ move ! (3 ∷ 4 ∷ 2 ∷ []) $
          use3 𝓛 (‵ (ftok E) ⊛ some (λ (b : Bool). raw (Found y m.0 m.1 μ' r' b))) (finds y m.0 m.1 μ' r' below') $ split ! $ move ! (1 ∷ []) $ pick ! (λ b. by ! (at_second k b)))
      at_first false = qed 𝓛 ((‵ One ⊛ ‵ (flft μ r) ⊛ ‵ (Good c)) ∷ ‵ (ftok E) ∷ ‵ Two ∷ ‵ (flft μ' r') ∷ []) ∵ split3 ! $ move ! (0 ∷ 4 ∷ 1 ∷ 5 ∷ 3 ∷ 2 ∷ []) $ by ! closes

      -- two living blocks at one place, with invariants of two numbers, have a count that is full for ever
      clash : ¬ (n.3 ≡ m.3) → ent 𝓤 (sep 𝓤 (A.named n.3 One) (sep 𝓤 (A.named m.3 Two) (sep 𝓤 (A.lft μ r) (sep 𝓤 (A.lft μ' r') (A.tok E))))) (H.⇛ Left)
      clash other = let Z : SProp 𝓤 = upd 𝓤 Closed in
          via 𝓤 (sep 𝓤 (sem 𝓛 (invs Both)) (wand 𝓤 (sem 𝓛 (bodies Both)) Z)) (qed 𝓛 (‵ (fnamed n.3 One) ∷ ‵ (fnamed m.3 Two) ∷ ‵ (flft μ r) ∷ ‵ (flft μ' r') ∷ ‵ (ftok E) ∷ []) ∵ use0 𝓛 (‵ ftrue) (id⊢ 𝓤 (emp 𝓤)) $
          move ! (1 ∷ 2 ∷ 0 ∷ []) $ fjoin3 ! $ frame ! $ assume ! (‵ (bodies Both)) $ suffices ! _ (upd_i 𝓤 Closed) $ fsplit3 ! $ move ! (0 ∷ 3 ∷ 5 ∷ []) $
          use3 𝓛 (‵ (ftok E) ⊛ some (λ (b : Bool). raw (Found x n.0 n.1 μ r b))) (finds x n.0 n.1 μ r below) $ split ! $ move ! (1 ∷ []) $ pick ! (λ b. keep ! (0 ∷ 1 ∷ 2 ∷ 4 ∷ []) $ by ! (at_first b)))
          (𝓛.invs.invs_acc Both Left (two_invs n.3 m.3 One Two other))

    -- a mark that a token shows to be of a living block, and the way back to the token
    abbrev Marked : R.Denot → Lft → Share → Names × Lft × Share → SProp 𝓤
    Marked x κ q i = guard 𝓤 (Incl i.1 (i.0.0.0 ∷ [])) (sep 𝓤 (sem 𝓛 (marked R c x i.0)) (sep 𝓤 (A.lft i.1 i.2) (wand 𝓤 (A.lft i.1 i.2) (H.⇛ (A.lft κ q)))))

    -- what a `&` to an owner shows of its block: a mark, or that the count is full for ever
    abbrev Told : R.Denot → Lft → Share → Bool → SProp 𝓤
    Told x κ q true = ex 𝓤 (Marked x κ q)
    Told x κ q false = sep 𝓤 (sem 𝓛 (Good c)) (A.lft κ q)

    -- `tells` for an owner that is counted or not
    tells_at : (x : R.Denot) (κ : Lft) (q : Share) (counting : Bool) → ent 𝓤 (sep 𝓤 (sem 𝓛 (lent_owner R c x counting κ)) (A.lft κ q)) (H.⇛ (ex 𝓤 (Told x κ q)))
    tells_at x κ q true = qed 𝓛 (‵ (lent_owner R c x true κ) ∷ ‵ (flft κ q) ∷ []) ∵ updating ! $ fpick ! (λ a. fsplit3 ! $ move ! (0 ∷ 3 ∷ []) $ shr_bor-open ! tt (tokens_halve 𝓛 (a.0 ∷ [])) (λ s.
        -- [the open borrow; the part; the invariant; what is seen]
        move ! (3 ∷ []) $ fsplit ! $ fpick ! (λ n. fsplit ! $ move ! (0 ∷ 4 ∷ []) $
        use2 𝓛 (later (some (λ (t : Lft × Share). given (Incl t.0 (n.0.0 ∷ [])) (‵ (flft t.0 t.1) ⊛ raw (wand 𝓤 (A.lft t.0 t.1) (H.⇛ (A.lft (a.0 ∷ []) s))))))) (lends (a.0 ∷ []) (n.0.0 ∷ []) s) $ await ! tt $ pick ! (λ t. learn ! (λ within. split ! $ now ! $
        show ! (Told x κ q) true $ show ! (Marked x κ q) (n, t.0, t.1) $ check ! within $ move ! (2 ∷ []) $ frame ! $ frame ! $ assume ! (‵ (flft t.0 t.1)) $ updating ! $ move ! (0 ∷ 1 ∷ []) $
        use2 𝓛 (later (‵ (flft (a.0 ∷ []) s))) (apply∗ 𝓤 (A.lft t.0 t.1) (H.⇛ (A.lft (a.0 ∷ []) s))) $ await ! tt $ move ! (2 ∷ 0 ∷ []) $ obor_close ! tt $ now ! $ move ! (1 ∷ []) $ keep ! (0 ∷ []) $ done !)))))
    tells_at x κ q false = qed 𝓛 (‵ (stays R c x []) ∷ ‵ (flft κ q) ∷ []) ∵ updating ! $ now ! $ show ! (Told x κ q) false $ fsplit ! $ frame ! $ drop ! $ done !

    -- a `&` to an owner shows one of these two of its block
    tells : (x : R.Denot) (κ : Lft) (q : Share) → ent 𝓤 (sep 𝓤 (sem 𝓛 (counted_shares R c x κ)) (A.lft κ q)) (H.⇛ (ex 𝓤 (Told x κ q)))
    tells x κ q = qed 𝓛 (‵ (counted_shares R c x κ) ∷ ‵ (flft κ q) ∷ []) ∵ fpick ! (λ counting. by ! (tells_at x κ q counting))

    module _ (x y : R.Denot) (κ κ' : Lft) (q q' : Share) where
      -- two owners show one value, or the count is full for ever
      abbrev Agreed : Bool → SProp 𝓤
      Agreed true = fact 𝓤 (x ≡ y)
      Agreed false = sem 𝓛 (Good c)

      abbrev Out : SProp 𝓤
      Out = sep 𝓤 (A.lft κ q) (sep 𝓤 (A.lft κ' q') (sep 𝓤 (A.tok E) (ex 𝓤 Agreed)))

      abbrev Way : Lft → Share → Lft → Share → SProp 𝓤
      Way μ r ν s = wand 𝓤 (A.lft μ r) (H.⇛ (A.lft ν s))

      -- that result, with the tokens given back
      goes_out : (μ μ' : Lft) (r r' : Share) (b : Bool)
          → ent 𝓤 (sep 𝓤 (A.lft μ r) (sep 𝓤 (Way μ r κ q) (sep 𝓤 (A.lft μ' r') (sep 𝓤 (Way μ' r' κ' q') (sep 𝓤 (A.tok E) (Agreed b)))))) (H.⇛ Out)
      goes_out μ μ' r r' b = qed 𝓛 (‵ (flft μ r) ∷ raw (Way μ r κ q) ∷ ‵ (flft μ' r') ∷ raw (Way μ' r' κ' q') ∷ ‵ (ftok E) ∷ raw (Agreed b) ∷ []) ∵ updating ! $
          use2 𝓛 (later (‵ (flft κ q))) (apply∗ 𝓤 (A.lft μ r) (H.⇛ (A.lft κ q))) $ await ! tt $ move ! (1 ∷ 2 ∷ []) $
          use2 𝓛 (later (‵ (flft κ' q'))) (apply∗ 𝓤 (A.lft μ' r') (H.⇛ (A.lft κ' q'))) $ await ! tt $ now ! $ move ! (1 ∷ []) $ frame ! $ frame ! $ frame ! $ show ! Agreed b $ done !

      -- a name determines its value
      one_value : (δ ε : GName) → δ ≡ ε → ent 𝓤 (sep 𝓤 (A.res δ (R.coded.code x)) (A.res ε (R.coded.code y))) (fact 𝓤 (x ≡ y))
      one_value δ ε same = qed 𝓛 (‵ (fres δ (R.coded.code x)) ∷ ‵ (fres ε (R.coded.code y)) ∷ []) ∵ rewrite ! 0 (λ (η : GName). ‵ (fres η (R.coded.code x))) same refl $
          use2 𝓛 (given (R.coded.code x ≡ R.coded.code y) (raw (emp 𝓤))) (via 𝓤 _ (sep→conj 𝓤 (A.res ε (R.coded.code x)) (A.res ε (R.coded.code y))) (𝓛.names.res_one ε (R.coded.code x) (R.coded.code y))) $ learn ! (λ e.
          by ! (fact_i 𝓤 (x ≡ y) (emp 𝓤) (R.coded.inj x y e)))

      module _ (n m : Names) (μ μ' : Lft) (r r' : Share) (below : Incl μ (n.0.0 ∷ [])) (below' : Incl μ' (m.0.0 ∷ [])) (its : IsNumberOf n.2 n.3) (its' : IsNumberOf m.2 m.3) where
        -- `agree` for numbers that are the same or not
        decided : Dec (n.3 ≡ m.3)
            → ent 𝓤 (sep 𝓤 (A.named n.3 (inside R c x n.0 n.1)) (sep 𝓤 (A.named m.3 (inside R c y m.0 m.1)) (sep 𝓤 (A.res n.2 (R.coded.code x)) (sep 𝓤 (A.res m.2 (R.coded.code y))
            (sep 𝓤 (A.lft μ r) (sep 𝓤 (A.lft μ' r') (sep 𝓤 (Way μ r κ q) (sep 𝓤 (Way μ' r' κ' q') (A.tok E))))))))) (H.⇛ Out)
        decided (yes e) = qed 𝓛 (‵ (fnamed n.3 (inside R c x n.0 n.1)) ∷ ‵ (fnamed m.3 (inside R c y m.0 m.1)) ∷ ‵ (fres n.2 (R.coded.code x)) ∷ ‵ (fres m.2 (R.coded.code y)) ∷ ‵ (flft μ r) ∷ ‵ (flft μ' r') ∷ raw (Way μ r κ q) ∷ raw (Way μ' r' κ' q') ∷ ‵ (ftok E) ∷ []) ∵
            move ! (2 ∷ 3 ∷ []) $ use2 𝓛 (raw (fact 𝓤 (x ≡ y))) (one_value n.2 m.2 (one_name n.2 m.2 n.3 its (subst (IsNumberOf m.2) (sym e) its'))) $ keep ! (3 ∷ 5 ∷ 4 ∷ 6 ∷ 7 ∷ 0 ∷ []) $ by ! (goes_out μ μ' r r' true)
        decided (no other) = qed 𝓛 (‵ (fnamed n.3 (inside R c x n.0 n.1)) ∷ ‵ (fnamed m.3 (inside R c y m.0 m.1)) ∷ ‵ (fres n.2 (R.coded.code x)) ∷ ‵ (fres m.2 (R.coded.code y)) ∷ ‵ (flft μ r) ∷ ‵ (flft μ' r') ∷ raw (Way μ r κ q) ∷ raw (Way μ' r' κ' q') ∷ ‵ (ftok E) ∷ []) ∵
            updating ! $ move ! (0 ∷ 1 ∷ 4 ∷ 5 ∷ 8 ∷ []) $ group ! 5 $ use1 𝓛 (later (‵ (flft μ r) ⊛ ‵ (flft μ' r') ⊛ ‵ (ftok E) ⊛ ‵ (Good c))) (clash x y n m μ μ' r r' below below' other) $ await ! tt $ split3 ! $ move ! (2 ∷ []) $ split ! $
            keep ! (2 ∷ 6 ∷ 3 ∷ 7 ∷ 0 ∷ 1 ∷ []) $ group ! 6 $ use1 𝓛 (later (raw Out)) (goes_out μ μ' r r' false) $ await ! tt $ now ! $ done !

      -- `agree` for a first count that is full for ever
      first_good : (d : Bool) → ent 𝓤 (sep 𝓤 (sep 𝓤 (sem 𝓛 (Good c)) (A.lft κ q)) (sep 𝓤 (Told y κ' q' d) (A.tok E))) (H.⇛ Out)
      first_good true = qed 𝓛 ((‵ (Good c) ⊛ ‵ (flft κ q)) ∷ some (λ (i : Names × Lft × Share). given (Incl i.1 (i.0.0.0 ∷ [])) (‵ (marked R c y i.0) ⊛ ‵ (flft i.1 i.2) ⊛ raw (Way i.1 i.2 κ' q'))) ∷ ‵ (ftok E) ∷ []) ∵ updating ! $
          move ! (1 ∷ []) $ pick ! (λ i. learn ! (λ _. split3 ! $ drop ! $ use2 𝓛 (later (‵ (flft κ' q'))) (apply∗ 𝓤 (A.lft i.1 i.2) (H.⇛ (A.lft κ' q'))) $ await ! tt $ move ! (1 ∷ []) $ split ! $ now ! $ move ! (1 ∷ 2 ∷ 3 ∷ 0 ∷ []) $ frame ! $ frame ! $ frame ! $ show ! Agreed false $ done !))
      first_good false = qed 𝓛 ((‵ (Good c) ⊛ ‵ (flft κ q)) ∷ (‵ (Good c) ⊛ ‵ (flft κ' q')) ∷ ‵ (ftok E) ∷ []) ∵ updating ! $ split ! $ move ! (2 ∷ []) $ split ! $ now ! $ move ! (3 ∷ 1 ∷ 4 ∷ 0 ∷ []) $ frame ! $ frame ! $ frame ! $ show ! Agreed false $ keep ! (0 ∷ []) $ done !

      -- `agree` from what both owners show
      at_told : (b b' : Bool) → ent 𝓤 (sep 𝓤 (Told x κ q b) (sep 𝓤 (Told y κ' q' b') (A.tok E))) (H.⇛ Out)
      at_told true true = qed 𝓛 (some (λ (i : Names × Lft × Share). given (Incl i.1 (i.0.0.0 ∷ [])) (‵ (marked R c x i.0) ⊛ ‵ (flft i.1 i.2) ⊛ raw (Way i.1 i.2 κ q))) ∷ some (λ (i : Names × Lft × Share). given (Incl i.1 (i.0.0.0 ∷ [])) (‵ (marked R c y i.0) ⊛ ‵ (flft i.1 i.2) ⊛ raw (Way i.1 i.2 κ' q'))) ∷ ‵ (ftok E) ∷ []) ∵
          pick ! (λ i. learn ! (λ below. split3 ! $ fpick ! (λ its. fsplit ! $ move ! (4 ∷ []) $ pick ! (λ k. learn ! (λ below'. split3 ! $ fpick ! (λ its'. fsplit ! $
          -- [the second's number, name, token and way back; the first's; the thread's token]
          move ! (4 ∷ 0 ∷ 5 ∷ 1 ∷ 6 ∷ 2 ∷ 7 ∷ 3 ∷ []) $ by ! (decided i.0 k.0 i.1 k.1 i.2 k.2 below below' its its' (ℕ_discrete i.0.3 k.0.3))))))))
      at_told true false = qed 𝓛 (some (λ (i : Names × Lft × Share). given (Incl i.1 (i.0.0.0 ∷ [])) (‵ (marked R c x i.0) ⊛ ‵ (flft i.1 i.2) ⊛ raw (Way i.1 i.2 κ q))) ∷ (‵ (Good c) ⊛ ‵ (flft κ' q')) ∷ ‵ (ftok E) ∷ []) ∵ updating ! $
          pick ! (λ i. learn ! (λ _. split3 ! $ drop ! $ use2 𝓛 (later (‵ (flft κ q))) (apply∗ 𝓤 (A.lft i.1 i.2) (H.⇛ (A.lft κ q))) $ await ! tt $ move ! (1 ∷ []) $ split ! $ now ! $ move ! (2 ∷ 1 ∷ 3 ∷ 0 ∷ []) $ frame ! $ frame ! $ frame ! $ show ! Agreed false $ done !))
      at_told false b' = qed 𝓛 ((‵ (Good c) ⊛ ‵ (flft κ q)) ∷ raw (Told y κ' q' b') ∷ ‵ (ftok E) ∷ []) ∵ by ! (first_good b')

      -- two owners of one block show one value, or the count is full for ever
      agree : ent 𝓤 (sep 𝓤 (sem 𝓛 (counted_shares R c x κ)) (sep 𝓤 (sem 𝓛 (counted_shares R c y κ')) (sep 𝓤 (A.lft κ q) (sep 𝓤 (A.lft κ' q') (A.tok E))))) (H.⇛ Out)
      agree = qed 𝓛 (‵ (counted_shares R c x κ) ∷ ‵ (counted_shares R c y κ') ∷ ‵ (flft κ q) ∷ ‵ (flft κ' q') ∷ ‵ (ftok E) ∷ []) ∵ updating ! $ move ! (0 ∷ 2 ∷ []) $
          use2 𝓛 (later (some (λ (b : Bool). raw (Told x κ q b)))) (tells x κ q) $ await ! tt $ move ! (1 ∷ 2 ∷ []) $ use2 𝓛 (later (some (λ (b : Bool). raw (Told y κ' q' b)))) (tells y κ' q') $ await ! tt $ pick ! (λ b'. move ! (1 ∷ []) $ pick ! (λ b.
          use3 𝓛 (later (raw Out)) (at_told b b') $ await ! tt $ now ! $ done !))

module _ (R : RattleType) (L : RowLaws R) (c d : Ptr) (x y : R.Denot) {M : Type 1} {𝓤 : Ura M} (𝓛 : Logic 𝓤) (𝓜 : Model 𝓤 𝓛.H) where
  open 𝓛 use {H, A}

  -- what a walk knows of two owners
  abbrev pub Relation : Type 0
  Relation = (¬ (key R c x ≡ key R d y)) ⊎ ((c ≡ d) × (x ≡ y))

  -- they own two blocks, or show one value, or the first one's count is full for ever
  abbrev pub Judged : Bool → SProp 𝓤
  Judged true = fact 𝓤 Relation
  Judged false = sem 𝓛 (Good c)

  -- a place inside a block is in a block
  has_block : (p : Ptr) (n : ℕ) → InBlock (p +ₚ n) → InBlock p
  has_block (block_ptr b o) n is = tt
  has_block null_ptr n is = is

  -- an owner's pointer leads to a block
  lies_in_block : (p : Ptr) (z : R.Denot) (κ : Lft) → ent 𝓤 (sem 𝓛 (counted_shares R p z κ)) (guard 𝓤 (InBlock p) (sem 𝓛 (counted_shares R p z κ)))
  lies_in_block p z κ = qed 𝓛 (‵ (counted_shares R p z κ) ∷ []) ∵ use1 𝓛 (‵ (counted_shares R p z κ) ⊛ ‵ (counted_shares R p z κ)) (contraction 𝓛 (counted_shares R p z) (counted_laws R L p z) κ) $ split ! $
      use1 𝓛 (‵ (sees R p z κ)) (counted_sees R L p z 𝓛 κ) $ fsplit ! $ use1 𝓛 (raw (fact 𝓤 (InBlock (p +ₚ value_offset R)))) (in_block_says 𝓛 (p +ₚ value_offset R)) $ heard ! (InBlock (p +ₚ value_offset R)) (λ is.
      check ! (has_block p (value_offset R) is) $ drop ! $ done !)

  module _ (κ κ' : Lft) (q q' : Share) where
    abbrev Ends : SProp 𝓤
    Ends = sep 𝓤 (A.lft κ q) (sep 𝓤 (A.lft κ' q') (sep 𝓤 (A.tok every) (ex 𝓤 Judged)))

    abbrev Starts : SProp 𝓤
    Starts = sep 𝓤 (sem 𝓛 (counted_shares R c x κ)) (sep 𝓤 (sem 𝓛 (counted_shares R d y κ')) (sep 𝓤 (A.lft κ q) (sep 𝓤 (A.lft κ' q') (A.tok every))))

    -- `judged` for owners of one block
    at_agreed : c ≡ d → (b : Bool) → ent 𝓤 (Agreed 𝓛 𝓜 R L c every refl x y κ κ' q q' b) (ex 𝓤 Judged)
    at_agreed e true = qed 𝓛 (raw (fact 𝓤 (x ≡ y)) ∷ []) ∵ heard ! (x ≡ y) (λ v. show ! Judged true $ suffices ! (emp 𝓤) (fact_i 𝓤 Relation (emp 𝓤) (inr (e, v))) $ done !)
    at_agreed e false = qed 𝓛 (‵ (Good c) ∷ []) ∵ show ! Judged false $ done !

    -- `judged` for owners of one block or of two
    at_keys : InBlock c → InBlock d → Dec (key R c x ≡ key R d y) → ent 𝓤 Starts (H.⇛ Ends)
    at_keys in_c in_d (no other) = qed 𝓛 (‵ (counted_shares R c x κ) ∷ ‵ (counted_shares R d y κ') ∷ ‵ (flft κ q) ∷ ‵ (flft κ' q') ∷ ‵ (ftok every) ∷ []) ∵ updating ! $ now ! $ keep ! (2 ∷ 3 ∷ 4 ∷ []) $ frame ! $ frame ! $ frame ! $
        show ! Judged true $ suffices ! (emp 𝓤) (fact_i 𝓤 Relation (emp 𝓤) (inl other)) $ done !
    at_keys in_c in_d (yes e) = let same : c ≡ d = at_block c in_c ∙ (λ i. block_ptr ((e i).0) ((e i).1)) ∙ sym (at_block d in_d) in
        qed 𝓛 (‵ (counted_shares R c x κ) ∷ ‵ (counted_shares R d y κ') ∷ ‵ (flft κ q) ∷ ‵ (flft κ' q') ∷ ‵ (ftok every) ∷ []) ∵ updating ! $ rewrite ! 1 (λ (p : Ptr). ‵ (counted_shares R p y κ')) (sym same) refl $ group ! 5 $
        use1 𝓛 (later (‵ (flft κ q) ⊛ ‵ (flft κ' q') ⊛ ‵ (ftok every) ⊛ some (λ (b : Bool). raw (Agreed 𝓛 𝓜 R L c every refl x y κ κ' q q' b)))) (agree 𝓛 𝓜 R L c every refl x y κ κ' q q') $ await ! tt $ now ! $
        split3 ! $ frame ! $ frame ! $ split ! $ frame ! $ pick ! (λ b. by ! (at_agreed same b))

    -- one of the three holds for two owners in `&`s
    judged : ent 𝓤 Starts (H.⇛ Ends)
    judged = qed 𝓛 (‵ (counted_shares R c x κ) ∷ ‵ (counted_shares R d y κ') ∷ ‵ (flft κ q) ∷ ‵ (flft κ' q') ∷ ‵ (ftok every) ∷ []) ∵
        use1 𝓛 (given (InBlock c) (‵ (counted_shares R c x κ))) (lies_in_block c x κ) $ learn ! (λ in_c. move ! (1 ∷ []) $ use1 𝓛 (given (InBlock d) (‵ (counted_shares R d y κ'))) (lies_in_block d y κ') $ learn ! (λ in_d. move ! (1 ∷ 0 ∷ []) $
        by ! (at_keys in_c in_d (Key-Dec (key R c x) (key R d y)))))

module _ (R : RattleType) (L : RowLaws R) (c d : Ptr) (x y : R.Denot) {M : Type 1} {𝓤 : Ura M} {𝓛 : Logic 𝓤} {K : Type 0} {Γ : List (Item 𝓤)} {G : Goal 𝓤 𝓛.H} where
  open 𝓛 use {H, A}

  -- [what is known; the owners; their tokens; the thread's token]
  pub judges : K → Soaks G → (𝓜 : Model 𝓤 𝓛.H) (κ κ' : Lft) (q q' : Share)
      → Step K 𝓛 (some (λ (b : Bool). raw (Judged R L c d x y 𝓛 𝓜 b)) ∷ ‵ (fhide (counted_shares R c x κ)) ∷ ‵ (fhide (counted_shares R d y κ')) ∷ ‵ (flft κ q) ∷ ‵ (flft κ' q') ∷ ‵ (ftok every) ∷ Γ) G
      (‵ (fhide (counted_shares R c x κ)) ∷ ‵ (fhide (counted_shares R d y κ')) ∷ ‵ (flft κ q) ∷ ‵ (flft κ' q') ∷ ‵ (ftok every) ∷ Γ) G
  judges t z 𝓜 κ κ' q q' = step (λ next. unhide t $ use1 𝓛 (‵ (counted_shares R c x κ) ⊛ ‵ (counted_shares R c x κ)) (contraction 𝓛 (counted_shares R c x) (counted_laws R L c x) κ) $ split t $ hide t $ move t (2 ∷ []) $
      unhide t $ use1 𝓛 (‵ (counted_shares R d y κ') ⊛ ‵ (counted_shares R d y κ')) (contraction 𝓛 (counted_shares R d y) (counted_laws R L d y) κ') $ split t $ hide t $
      -- [the second, hidden; the second; the first, hidden; the first; the tokens]
      move t (3 ∷ 1 ∷ 4 ∷ 5 ∷ 6 ∷ []) $ group t 5 $ use1 𝓛 (later (‵ (flft κ q) ⊛ ‵ (flft κ' q') ⊛ ‵ (ftok every) ⊛ some (λ (b : Bool). raw (Judged R L c d x y 𝓛 𝓜 b)))) (judged R L c d x y 𝓛 𝓜 κ κ' q q') $ await t z $
      split3 t $ move t (2 ∷ []) $ split t $ move t (1 ∷ 5 ∷ 4 ∷ 2 ∷ 3 ∷ 0 ∷ []) $ next)

module _ {M : Type 1} {𝓤 : Ura M} {𝓛 : Logic 𝓤} {K : Type 0} {Γ : List (Item 𝓤)} {G : Goal 𝓤 𝓛.H} where
  open 𝓛 use {H, A}

  -- a count that may be written is not full for ever
  pub not_good : K → Soaks G → (𝓜 : Model 𝓤 𝓛.H) (c : Ptr) (n b o : ℕ) → c ≡ block_ptr b o → Seq K 𝓛 (‵ (cell full_share b o n) ∷ ‵ (Good c) ∷ Γ) G
  not_good t z 𝓜 c n b o e = move t (1 ∷ []) $ rewrite t 0 (λ (p : Ptr). ‵ (Good p)) e refl $ fsplit t $ drop t $ hide t $ use0 𝓛 (‵ (flft [] full_share)) (𝓛.lfts.lft-nil full_share) $ move t (1 ∷ 0 ∷ []) $
      looks t z usize (uint_Copied 𝓛 w64).opens full b (o + 0) (λ q vs. move t (1 ∷ []) $ fsplit t $ feq_l t (λ is. move t (1 ∷ []) $ rewrite t 0 (λ (us : List Val). ‵ (cell_at q usize.mir us b (o + 0))) is refl $
      -- [the count, of a share; its bound; what shuts; the count, hidden; the count]
      move t (4 ∷ 0 ∷ []) $ use2 𝓛 (given ⊥ (‵ ftrue)) (via 𝓤 (never 𝓤) (two_cells 𝓛 𝓜 b o n full q) (never_e 𝓤 _)) $ learn t (λ no_way. absurd no_way)))

module _ (R : RattleType) (L : RowLaws R) (c d : Ptr) (x y : R.Denot) {M : Type 1} {𝓤 : Ura M} {𝓛 : Logic 𝓤} {K : Type 0} {Γ : List (Item 𝓤)} {G : Goal 𝓤 𝓛.H} where
  open 𝓛 use {H, A}

  module _ (t : K) (z : Soaks G) (𝓜 : Model 𝓤 𝓛.H) (n b o : ℕ) (e : c ≡ block_ptr b o) (apart : ¬ (key R c x ≡ key R d y) → Seq K 𝓛 (‵ (cell full_share b o n) ∷ Γ) G) (same : c ≡ d → x ≡ y → Seq K 𝓛 (‵ (cell full_share b o n) ∷ Γ) G) where
    -- `knows`, from a relation
    related : Relation R L c d x y 𝓛 𝓜 → Seq K 𝓛 (‵ (cell full_share b o n) ∷ Γ) G
    related (inl other) = apart other
    related (inr one) = same one.0 one.1

    -- `knows`, from what is judged
    known : (j : Bool) → Seq K 𝓛 (raw (Judged R L c d x y 𝓛 𝓜 j) ∷ ‵ (cell full_share b o n) ∷ Γ) G
    known true = heard t (Relation R L c d x y 𝓛 𝓜) related
    known false = use1 𝓛 (‵ (Good c)) (id⊢ 𝓤 (sem 𝓛 (Good c))) $ move t (1 ∷ 0 ∷ []) $ not_good t z 𝓜 c n b o e

    -- a walk that may write the first one's count knows that two owners own two blocks, or show one value
    pub knows : Seq K 𝓛 (some (λ (j : Bool). raw (Judged R L c d x y 𝓛 𝓜 j)) ∷ ‵ (cell full_share b o n) ∷ Γ) G
    knows = pick t known
