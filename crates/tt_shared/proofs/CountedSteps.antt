-- Steps of the walks of an owner (`specs/Counting.antt`). c leads to the count and the value x. Assumes `Logic`.
--     word, told, opened, made_word      the one word of an owner
--     Parts, Word, Shown, Lent       entries: the parts that owners have, with what shuts the invariant;
--         a word in a `&`, with what shuts it;  a part in a `&`
--     owner_had, lent_out      an owner by value, or in a `&`, gives the count: below the full one with the invariant open,
--         or full for ever
--     counted_up, counted_down, kept, ends      the invariant is shut after one owner more, one less, the count filled, or none left
--     made_full      an owner with a full count.        word_back, lent_back      what was taken from a `&` is given back
--     counted_sees      what a `&` to an owner shows
use Rattle.std.proofs.Common.{◌≡◌, ℕ, ◌+◌, ◌-◌, ◌^◌, ◌<◌, ◌≤◌, ◌⊎◌, inl, inr, Bool, true, false, List, [], ◌∷◌, ◌++◌, arith, sym, ap, ◌∙◌, refl}
use seplogic.Ra.Ura.{Ura}
use base.Fraction.{full_share}
use base.Logic.{ent, sep, wand, id⊢, never, fst∗, apply∗}
use base.Mask.{every}
use base.Share
use base.Fml.{Lft, Mask, Share, Fml, ftrue, fsep, fat, flft, flent, fobor, fhide, ftok}
use contract.BorrowLft.{meet_⊑_left}
use mir.Syntax.{w64, ty_int}
use mir.Val.{Val, vint, vstruct, vcons, vnil, of_list}
use types.Kit.{Item, Goal, Seq, Step, Soaks, step, ‵, raw, ◌⊛◌, some, given, later, ◌$◌, ◌∵◌, !, qed, by, move, keep, drop, split, split3, join, fsplit, fsplit3, fjoin, fjoin3, fpick, fpack, pick, learn, use0, use1, use2, use3, await, rewrite, feq_i, feq_l, flt_i, flt_l, group, updating, now, done}
use types.Logic.{Logic, sem}
use types.Na.{na_inv_dup}
use types.RcWeak as rc
use types.Tokens.{bor_new, bor_fracture, shr_bor-open, obor_close}
use types.Within.{tokens_halve}
use denote.Builtin.{usize, RawPtr}
use denote.Copied.{Struct-Copied, uint_Copied}
use denote.Laws.{Is, shows}
use denote.Memory.{cell_at, part_at, shared_of, hidden_shr}
use denote.Moves.{moves_from}
use denote.Opens.{Opens, Shut, hide, unhide}
use denote.Plain.{uint_in, uint_out}
use denote.RattleType.{RattleType, RowLaws, Valss}
use denote.RawPtr.{Ptr, block_ptr, ptr_val, in_a_block, lies_at, ◌+ₚ◌}
use denote.RcWeak as handles
use denote.SharingLaws.{contraction, shortens}
use denote.Steps.{nothing, looks, peeks}
use denote.Struct.Laws.{RawPtr-copy}
use denote.Struct.Lending.{lent_at}
use denote.Struct.Owning.{shape}
use denote.Struct.Struct.{Struct, within}
use Rattle.std.proofs.Math.Nat.{eq-or-lt_of_le}
use Rattle.std_alloc.specs.Box.Ownership.{box_owns}
use Rattle.tt_shared.specs.Counting.{full, frees, Block, key, counts, lies, there, sees, marked_sees, stays, strong_state, strong, weak, owner, counted_owns, lent_owner, counted_shares}
use Rattle.tt_shared.proofs.OwnersLent.{sees_laws, stays_laws, marked_sees_laws}
use Rattle.tt_shared.specs.contracts.counted.Counted as counted

-- the names of the invariant's two lifetimes; the second is that of weak owners, and there are none
abbrev pub Id : Type 0
Id = ℕ × ℕ

-- the count in memory
abbrev pub cell : Share → ℕ → ℕ → ℕ → Fml
cell q b o n = fat q (ty_int w64) b (o + 0) (vint w64 n)

abbrev pub word : Ptr → Val
word p = vstruct (vcons (ptr_val p) vnil)

module _ (R : RattleType) where
  -- the data field of an owner
  abbrev pub Data : RattleType
  Data = Struct (shape (counted.the_type R))

  pub told : (p : Ptr) (vs : List Val) → Is Data (p, tt) vs → vs ≡ word p ∷ []
  told p vs is = is.1.0 ∙ ap (λ (ws : List Val). vstruct (of_list (ws ++ [])) ∷ []) is.1.1.0

  pub opened : {M : Type 1} {𝓤 : Ura M} (𝓛 : Logic 𝓤) → Opens 𝓛 Data
  opened {M} {𝓤 = 𝓤} 𝓛 = (Struct-Copied 𝓛 (shape (counted.the_type R)) (refl, tt) (RawPtr-copy.copied M 𝓤 𝓛, tt)).opens

-- `Types/RcWeak.antt`'s words at the block c and the value x
module _ (R : RattleType) (c : Ptr) (x : R.Denot) where
  abbrev pub box : Id → Fml
  box = rc.box 64 (key R c x) (strong R c x) weak (there R c x) ftrue ftrue

  abbrev pub part : Id → Fml
  part a = rc.part 64 a.0

  abbrev parts : Id → ℕ → Fml
  parts a n = rc.value 64 (key R c x) (strong R c x) weak (there R c x) ftrue ftrue a true n

  abbrev gone : Id → Fml
  gone a = rc.value 64 (key R c x) (strong R c x) weak (there R c x) ftrue ftrue a false 0

  abbrev weaks : Id → ℕ → Fml
  weaks = rc.weaks 64 (key R c x) (strong R c x) weak (there R c x) ftrue ftrue

  abbrev handle : Id → Fml
  handle = handles.handle 64 (key R c x) (strong R c x) weak (there R c x) ftrue ftrue (marked_sees R c x) (λ a. a.0)

  -- an owner by value
  abbrev pub Owner : Fml
  Owner = (counted.the_row R).own_val (record { block = c; value = x }) (word c ∷ [])

  -- the owners have n parts, and what shuts the invariant and gives back the part E of the thread's token
  abbrev pub Parts : {M : Type 1} {𝓤 : Ura M} (𝓛 : Logic 𝓤) → Mask → Id → ℕ → Item 𝓤
  Parts 𝓛 E a n = ‵ (parts a n) ⊛ ‵ (weaks a 1) ⊛ raw (rc.Shut 64 (key R c x) (strong R c x) weak (there R c x) ftrue ftrue 𝓛 a E)

  -- the walk goes on below the full count
  abbrev Below : {M : Type 1} {𝓤 : Ura M} (𝓛 : Logic 𝓤) → Type 0 → List (Item 𝓤) → Goal 𝓤 𝓛.H → Mask → Id → Share → Type 1
  Below 𝓛 K Γ G E a s = (n b o : ℕ) → c ≡ block_ptr b o → 0 < n → n < full → Seq K 𝓛 (‵ (cell full_share b o n) ∷ Parts 𝓛 E a n ∷ ‵ (flft (a.0 ∷ []) s) ∷ Γ) G

  -- the word's cell in a `&`, and what gives the token back for it
  abbrev pub Word : {M : Type 1} {𝓤 : Ura M} (𝓛 : Logic 𝓤) → Share → ℕ → ℕ → Item 𝓤
  Word 𝓛 q b o = ‵ (cell_at q (Data R).mir (word c ∷ []) b o)

  abbrev pub Shown : {M : Type 1} {𝓤 : Ura M} (𝓛 : Logic 𝓤) → Lft → Share → Share → ℕ → ℕ → Item 𝓤
  Shown 𝓛 κ q r b o = ‵ ((Data R).own_val (c, tt) (word c ∷ [])) ⊛ Shut 𝓛 κ q (part_at (Data R) r (c, tt) b o)

  -- the part of an owner in a `&`, taken for a while
  abbrev pub Lent : {M : Type 1} {𝓤 : Ura M} (𝓛 : Logic 𝓤) → Lft → Share → Id → Share → Item 𝓤
  Lent 𝓛 κ q a s = ‵ (flft (a.0 ∷ []) s) ⊛ ‵ (fobor κ q (flft (a.0 ∷ []) s))

module _ (R : RattleType) (c : Ptr) (x : R.Denot) {M : Type 1} {𝓤 : Ura M} {𝓛 : Logic 𝓤} {K : Type 0} {Γ : List (Item 𝓤)} {G : Goal 𝓤 𝓛.H} where
  open 𝓛 use {H, A}

  -- at any count
  shuts : K → Soaks G → (E : Mask) (a : Id) (n : ℕ) (counting : Bool) → Step K 𝓛 (‵ (ftok E) ∷ Γ) G (‵ (strong_state R c x n counting) ∷ Parts R c x 𝓛 E a n ∷ Γ) G
  shuts t z E a n counting = step (λ next. fpack t Bool (strong_state R c x n) counting $ move t (1 ∷ []) $ split3 t $ nothing t $ fpack t (1 ≡ 1) (λ _. ftrue) refl $ move t (4 ∷ 0 ∷ 1 ∷ 2 ∷ 3 ∷ []) $ group t 5 $
      use1 𝓛 (later (‵ (ftok E))) (rc.shut 64 (key R c x) (strong R c x) weak (there R c x) ftrue ftrue 𝓛 a E true n 1) $ await t z $ next)

  counts_in : K → (n b o : ℕ) → c ≡ block_ptr b o → Step K 𝓛 (‵ (counts R c x n) ∷ Γ) G (‵ (cell full_share b o n) ∷ Γ) G
  counts_in t n b o e = step (λ next. use1 𝓛 (‵ (counts R (block_ptr b o) x n)) (uint_in 𝓛 full_share w64 n b (o + 0)) $ rewrite t 0 (λ (p : Ptr). ‵ (counts R p x n)) (sym e) refl $ next)

  one_more : K → (a : Id) (n : ℕ) → n < full → Step K 𝓛 (Parts R c x 𝓛 every a (n + 1) ∷ ‵ (part R c x a) ∷ Γ) G (Parts R c x 𝓛 every a n ∷ Γ) G
  one_more t a n f = let room : n + 1 < 2 ^ 64 = omega arith in step (λ next. split3 t $
      use1 𝓛 (‵ (parts R c x a (n + 1)) ⊛ ‵ (part R c x a)) (rc.more 64 (key R c x) (strong R c x) weak (there R c x) ftrue ftrue 𝓛 a n room) $ split t $ move t (0 ∷ 2 ∷ 3 ∷ []) $ group t 3 $ move t (0 ∷ 1 ∷ []) $ next)

  pub made_word : K → Step K 𝓛 (‵ (Owner R c x) ∷ Γ) G (‵ (counted_owns R c x) ∷ Γ) G
  made_word t = step (λ next. nothing t $ feq_i t (List Val) (ptr_val c ∷ []) (ptr_val c ∷ []) refl $ fjoin t $ feq_i t (List Val) (word c ∷ []) (word c ∷ []) refl $ fjoin t $
      fpack t (Valss (RawPtr ∷ [])) (within (shape (counted.the_type R)) (c, tt) (word c ∷ [])) (ptr_val c ∷ [], tt) $ fjoin t $ next)

module _ (R : RattleType) (c : Ptr) (x : R.Denot) {M : Type 1} {𝓤 : Ura M} {𝓛 : Logic 𝓤} {K : Type 0} {Γ : List (Item 𝓤)} {G : Goal 𝓤 𝓛.H} where
  open 𝓛 use {H, A}

  -- below the full count
  pub shuts_below : K → Soaks G → (E : Mask) (a : Id) (n b o : ℕ) → c ≡ block_ptr b o → n < full → Step K 𝓛 (‵ (ftok E) ∷ Γ) G (‵ (cell full_share b o n) ∷ Parts R c x 𝓛 E a n ∷ Γ) G
  shuts_below t z E a n b o e f = step (λ next. counts_in R c x t n b o e $ flt_i t n full f $ fjoin t $ shuts R c x t z E a n true $ next)

  -- the last owner: the invariant is over, and the block is whole again
  pub ends : K → Soaks G → (a : Id) (b o : ℕ) → c ≡ block_ptr b o
      → Step K 𝓛 (‵ (box_owns frees (Block R) (block_ptr b o) (1, x)) ∷ ‵ (ftok every) ∷ Γ) G (‵ (cell full_share b o 1) ∷ Parts R c x 𝓛 every a 1 ∷ ‵ (part R c x a) ∷ Γ) G
  ends t z a b o e = step (λ next. move t (1 ∷ []) $ split3 t $ move t (0 ∷ 4 ∷ []) $
      use2 𝓛 (later (‵ (there R c x) ⊛ ‵ (rc.part 64 a.1) ⊛ raw (wand 𝓤 (sem 𝓛 ftrue) (sem 𝓛 (gone R c x a))))) (rc.last 64 (key R c x) (strong R c x) weak (there R c x) ftrue ftrue 𝓛 a) $ await t z $ split3 t $
      -- [what was there; the weak part; the way to the end; the weak parts; what shuts; the count]
      nothing t $ move t (0 ∷ 3 ∷ []) $ use2 𝓛 (‵ (gone R c x a)) (apply∗ 𝓤 (sem 𝓛 ftrue) (sem 𝓛 (gone R c x a))) $ move t (0 ∷ 3 ∷ 2 ∷ 4 ∷ []) $ group t 4 $
      use1 𝓛 (later (given (0 ≡ 0) (‵ ftrue ⊛ ‵ ftrue ⊛ ‵ (ftok every)))) (rc.weak_last 64 (key R c x) (strong R c x) weak (there R c x) ftrue ftrue 𝓛 a every false 0) $ await t z $ learn t (λ _. split3 t $ drop t $ drop t $
      -- [the thread's token; what was there; the count]
      move t (2 ∷ 1 ∷ []) $ counts_in R c x t 1 b o e $ move t (1 ∷ []) $ fsplit3 t $ move t (3 ∷ 0 ∷ []) $ fjoin t $
      use2 𝓛 (‵ (lies_at (Block R) full_share c (1, x))) (apply∗ 𝓤 (sem 𝓛 (fsep (counts R c x 1) (lies R c x))) (sem 𝓛 (lies_at (Block R) full_share c (1, x)))) $ fjoin t $
      rewrite t 0 (λ (p : Ptr). ‵ (box_owns frees (Block R) p (1, x))) e refl $ next))

  made_counted : K → (a : Id) → Step K 𝓛 (‵ (Owner R c x) ∷ Γ) G (‵ (part R c x a) ∷ ‵ (box R c x a) ∷ ‵ (marked_sees R c x (a.0 ∷ [])) ∷ Γ) G
  made_counted t a = step (λ next. fjoin3 t $ fpack t Id (handle R c x) a $ fpack t Bool (owner R c x) true $ made_word R c x t $ next)

  pub made_full : K → Step K 𝓛 (‵ (Owner R c x) ∷ Γ) G (‵ (stays R c x []) ∷ Γ) G
  made_full t = step (λ next. fpack t Bool (owner R c x) false $ made_word R c x t $ next)

module _ (R : RattleType) (L : RowLaws R) (c : Ptr) (x : R.Denot) {M : Type 1} {𝓤 : Ura M} (𝓛 : Logic 𝓤) where
  open 𝓛 use {H}

  -- a part is borrowed for ever, so the lifetime never ends
  for_good : (a : Id) → ent 𝓤 (sep 𝓤 (sem 𝓛 (part R c x a)) (sem 𝓛 (sees R c x (a.0 ∷ [])))) (H.⇛ (sem 𝓛 (sees R c x [])))
  for_good a = qed 𝓛 (‵ (part R c x a) ∷ ‵ (sees R c x (a.0 ∷ [])) ∷ []) ∵ updating ! $ fpick ! (λ s. fpick ! (λ _. bor_new ! tt [] $ bor_fracture ! tt (λ q. flft (a.0 ∷ []) q) s $
      now ! $ keep ! (0 ∷ 2 ∷ []) $ by ! (moves_from 𝓛 (sees R c x) (sees_laws R L c x) [] (a.0 ∷ []) (a.0 ∷ []) (meet_⊑_left (a.0 ∷ []) []))))

  pub counted_sees : (κ : Lft) → ent 𝓤 (sem 𝓛 (counted_shares R c x κ)) (sem 𝓛 (sees R c x κ))
  counted_sees κ = qed 𝓛 (‵ (counted_shares R c x κ) ∷ []) ∵ fpick ! (λ counting. by ! (lent_sees counting))
    where
      lent_sees : (counting : Bool) → ent 𝓤 (sem 𝓛 (lent_owner R c x counting κ)) (sem 𝓛 (sees R c x κ))
      lent_sees true = qed 𝓛 (‵ (lent_owner R c x true κ) ∷ []) ∵ use1 𝓛 (‵ (marked_sees R c x κ)) (handles.rc_sees 64 (key R c x) (strong R c x) weak (there R c x) ftrue ftrue (marked_sees R c x) 𝓛 (marked_sees_laws R L c x) κ) $
          fsplit ! $ drop ! $ done !
      lent_sees false = qed 𝓛 (‵ (stays R c x []) ∷ []) ∵ fsplit ! $ drop ! $ by ! (shortens 𝓛 (sees R c x) (sees_laws R L c x) [] κ (meet_⊑_left [] κ))

module _ (R : RattleType) (L : RowLaws R) (c : Ptr) (x : R.Denot) {M : Type 1} {𝓤 : Ura M} {𝓛 : Logic 𝓤} {K : Type 0} {Γ : List (Item 𝓤)} {G : Goal 𝓤 𝓛.H} where
  open 𝓛 use {H, A}

  stays_twice : K → Step K 𝓛 (‵ (stays R c x []) ∷ ‵ (stays R c x []) ∷ Γ) G (‵ (stays R c x []) ∷ Γ) G
  stays_twice t = step (λ next. use1 𝓛 (‵ (stays R c x []) ⊛ ‵ (stays R c x [])) (contraction 𝓛 (stays R c x) (stays_laws R L c x) []) $ split t $ next)

module _ (R : RattleType) (L : RowLaws R) (c : Ptr) (x : R.Denot) {M : Type 1} {𝓤 : Ura M} {𝓛 : Logic 𝓤} {K : Type 0} {Γ : List (Item 𝓤)} {G : Goal 𝓤 𝓛.H} where
  open 𝓛 use {H, A}

  -- the full count and the value stay for ever
  fills : K → Soaks G → (a : Id) (n b o : ℕ) → c ≡ block_ptr b o
      → Step K 𝓛 (‵ (ftok every) ∷ ‵ (stays R c x []) ∷ Γ) G (‵ (cell full_share b o full) ∷ Parts R c x 𝓛 every a n ∷ ‵ (part R c x a) ∷ ‵ (marked_sees R c x (a.0 ∷ [])) ∷ Γ) G
  fills t z a n b o e = step (λ next. move t (3 ∷ []) $ fsplit t $ drop t $ move t (3 ∷ 0 ∷ []) $ use2 𝓛 (later (‵ (sees R c x []))) (for_good R L c x 𝓛 a) $ await t z $ move t (1 ∷ []) $
      use1 𝓛 (‵ (counts R (block_ptr b o) x full)) (uint_in 𝓛 full_share w64 full b (o + 0)) $
      use1 𝓛 (later (‵ (shared_of usize full b (o + 0) []) ⊛ ‵ (flent [] (part_at usize full_share full b (o + 0))))) ((uint_Copied 𝓛 w64).lends full_share full b (o + 0) []) $ await t z $ split t $ move t (1 ∷ []) $ drop t $
      nothing t $ fjoin t $ rewrite t 0 (λ (p : Ptr). ‵ (lent_at usize (p +ₚ 0) full [])) (sym e) refl $ fjoin t $
      stays_twice R L c x t $ move t (0 ∷ 2 ∷ 1 ∷ []) $ shuts R c x t z every a n false $ next)

module _ (R : RattleType) (L : RowLaws R) (c : Ptr) (x : R.Denot) {M : Type 1} {𝓤 : Ura M} {𝓛 : Logic 𝓤} {K : Type 0} {Γ : List (Item 𝓤)} {G : Goal 𝓤 𝓛.H} where
  open 𝓛 use {H, A}

  counted_at : K → Soaks G → (a : Id) (n b o : ℕ) → c ≡ block_ptr b o → (n + 1 ≡ full) ⊎ (n + 1 < full)
      → Step K 𝓛 (‵ (ftok every) ∷ ‵ (Owner R c x) ∷ Γ) G (‵ (cell full_share b o (n + 1)) ∷ Parts R c x 𝓛 every a (n + 1) ∷ ‵ (part R c x a) ∷ ‵ (marked_sees R c x (a.0 ∷ [])) ∷ ‵ (box R c x a) ∷ Γ) G
  counted_at t z a n b o e (inl is_full) = step (λ next. rewrite t 0 (λ (m : ℕ). ‵ (cell full_share b o m)) is_full refl $ fills R L c x t z a (n + 1) b o e $
      move t (1 ∷ 2 ∷ 0 ∷ []) $ made_full R c x t $ move t (1 ∷ []) $ drop t $ move t (1 ∷ 0 ∷ []) $ next)
  counted_at t z a n b o e (inr below) = step (λ next. shuts_below R c x t z every a (n + 1) b o e below $ move t (1 ∷ 3 ∷ 2 ∷ 0 ∷ []) $ made_counted R c x t a $ move t (1 ∷ 0 ∷ []) $ next)

module _ (R : RattleType) (L : RowLaws R) (c : Ptr) (x : R.Denot) {M : Type 1} {𝓤 : Ura M} {𝓛 : Logic 𝓤} {K : Type 0} {Γ : List (Item 𝓤)} {G : Goal 𝓤 𝓛.H} where
  open 𝓛 use {H, A}

  -- [the count, which is written already; the parts; the invariant; what is seen]
  pub counted_up : K → Soaks G → (a : Id) (n b o : ℕ) → c ≡ block_ptr b o → n < full
      → Step K 𝓛 (‵ (ftok every) ∷ ‵ (Owner R c x) ∷ Γ) G (‵ (cell full_share b o (n + 1)) ∷ Parts R c x 𝓛 every a n ∷ ‵ (box R c x a) ∷ ‵ (marked_sees R c x (a.0 ∷ [])) ∷ Γ) G
  counted_up t z a n b o e f = let reached : n + 1 ≤ full = omega arith in step (λ next. move t (1 ∷ []) $ one_more R c x t a n f $ move t (2 ∷ 0 ∷ 1 ∷ 4 ∷ 3 ∷ []) $ counted_at R L c x t z a n b o e (eq-or-lt_of_le reached) $ next)

  pub kept : K → Soaks G → (a : Id) (n b o : ℕ) → c ≡ block_ptr b o → n < full
      → Step K 𝓛 (‵ (ftok every) ∷ ‵ (stays R c x []) ∷ Γ) G (‵ (cell full_share b o full) ∷ Parts R c x 𝓛 every a n ∷ ‵ (marked_sees R c x (a.0 ∷ [])) ∷ Γ) G
  kept t z a n b o e f = step (λ next. move t (1 ∷ []) $ one_more R c x t a n f $ move t (2 ∷ 0 ∷ 1 ∷ 3 ∷ []) $ fills R L c x t z a (n + 1) b o e $ next)

  pub counted_down : K → Soaks G → (a : Id) (n b o : ℕ) → c ≡ block_ptr b o → 1 < n → n < full → Step K 𝓛 (‵ (ftok every) ∷ Γ) G (‵ (cell full_share b o (n - 1)) ∷ Parts R c x 𝓛 every a n ∷ ‵ (part R c x a) ∷ Γ) G
  counted_down t z a n b o e many f = let below : n - 1 < full = omega arith in step (λ next. move t (1 ∷ []) $ split3 t $ move t (0 ∷ 4 ∷ []) $
      use2 𝓛 (‵ (parts R c x a (n - 1))) (rc.less 64 (key R c x) (strong R c x) weak (there R c x) ftrue ftrue 𝓛 a n many) $ move t (0 ∷ 1 ∷ 2 ∷ []) $ group t 3 $ move t (1 ∷ []) $
      shuts_below R c x t z every a (n - 1) b o e below $ next)

module _ (R : RattleType) (L : RowLaws R) (c : Ptr) (x : R.Denot) {M : Type 1} {𝓤 : Ura M} {𝓛 : Logic 𝓤} {K : Type 0} {Γ : List (Item 𝓤)} {G : Goal 𝓤 𝓛.H} where
  open 𝓛 use {H, A}

  -- [the count; what stays]
  reads_full : K → Soaks G → ((q : Share) (b o : ℕ) → c ≡ block_ptr b o → Seq K 𝓛 (‵ (cell q b o full) ∷ ‵ (stays R c x []) ∷ Γ) G) → Seq K 𝓛 (‵ (stays R c x []) ∷ Γ) G
  reads_full t z k = stays_twice R L c x t $ fsplit t $ in_a_block t c (λ p. lent_at usize (p +ₚ 0) full []) (fst∗ 𝓤 (never 𝓤) (sem 𝓛 (shared_of usize full 0 0 []))) (λ b o e. fsplit t $ drop t $ hide t $
      use0 𝓛 (‵ (flft [] full_share)) (𝓛.lfts.lft-nil full_share) $ move t (1 ∷ 0 ∷ []) $ looks t z usize (uint_Copied 𝓛 w64).opens full b (o + 0) (λ q vs. move t (1 ∷ []) $ fsplit t $ feq_l t (λ is.
      -- [its bound; the count; what shuts; the count, hidden; what is seen; what stays]
      move t (1 ∷ 5 ∷ 0 ∷ 2 ∷ 3 ∷ 4 ∷ []) $ rewrite t 0 (λ (us : List Val). ‵ (cell_at q usize.mir us b (o + 0))) is refl $ move t (2 ∷ []) $ drop t $ move t (2 ∷ []) $ drop t $ move t (2 ∷ []) $ drop t $ move t (2 ∷ []) $ drop t $ k q b o e)))

module _ (R : RattleType) (L : RowLaws R) (c : Ptr) (x : R.Denot) {M : Type 1} {𝓤 : Ura M} {𝓛 : Logic 𝓤} {K : Type 0} {Γ : List (Item 𝓤)} {G : Goal 𝓤 𝓛.H} where
  open 𝓛 use {H, A}

  count_at : K → Soaks G → (E : Mask) (a : Id) (s : Share) (n : ℕ) → 0 < n → Below R c x 𝓛 K Γ G E a s → Seq K 𝓛 (‵ (stays R c x []) ∷ ‵ (ftok E) ∷ ‵ (flft (a.0 ∷ []) s) ∷ Γ) G
      → (counting : Bool) → Seq K 𝓛 (‵ (strong_state R c x n counting) ∷ Parts R c x 𝓛 E a n ∷ ‵ (flft (a.0 ∷ []) s) ∷ Γ) G
  count_at t z E a s n some_n k is_full true = fsplit t $ flt_l t (λ below. in_a_block t c (λ p. counts R p x n) (id⊢ 𝓤 (never 𝓤)) (λ b o e.
      use1 𝓛 (‵ (cell full_share b o n)) (uint_out 𝓛 full_share w64 n b (o + 0)) $ k n b o e some_n below))
  count_at t z E a s n some_n k is_full false = stays_twice R L c x t $ move t (0 ∷ 2 ∷ []) $ shuts R c x t z E a n false $ move t (1 ∷ 0 ∷ []) $ is_full

  opens_count : K → Soaks G → (E : Mask) → E (key R c x) ≡ true → (a : Id) (s : Share) → Below R c x 𝓛 K Γ G E a s → Seq K 𝓛 (‵ (stays R c x []) ∷ ‵ (ftok E) ∷ ‵ (flft (a.0 ∷ []) s) ∷ Γ) G
      → Seq K 𝓛 (‵ (box R c x a) ∷ ‵ (flft (a.0 ∷ []) s) ∷ ‵ (ftok E) ∷ Γ) G
  opens_count t z E has a s k is_full =
      use3 𝓛 (later (some (λ (u : ℕ × ℕ). ‵ (strong R c x u.0) ⊛ ‵ (weak u.1) ⊛ ‵ (parts R c x a u.0) ⊛ ‵ (weaks R c x a u.1) ⊛ ‵ (flft (a.0 ∷ []) s) ⊛ raw (rc.Shut 64 (key R c x) (strong R c x) weak (there R c x) ftrue ftrue 𝓛 a E))))
      (rc.open_strong 64 (key R c x) (strong R c x) weak (there R c x) ftrue ftrue 𝓛 a E has s) $ await t z $ pick t (λ u. split3 t $ move t (1 ∷ []) $ fpick t (λ one. drop t $ move t (1 ∷ []) $ split3 t $ move t (2 ∷ []) $ split t $
      -- [the share; what shuts; the parts; the weak parts; the count]
      rewrite t 3 (λ (m : ℕ). ‵ (weaks R c x a m)) one refl $ move t (2 ∷ []) $ use1 𝓛 (given (0 < u.0) (‵ (parts R c x a u.0))) (rc.strong_some 64 (key R c x) (strong R c x) weak (there R c x) ftrue ftrue 𝓛 a u.0) $ learn t (λ some_n.
      move t (0 ∷ 3 ∷ 2 ∷ []) $ group t 3 $ move t (2 ∷ 0 ∷ 1 ∷ []) $ fpick t (count_at t z E a s u.0 some_n k is_full))))

module _ (R : RattleType) (c : Ptr) (x : R.Denot) {M : Type 1} {𝓤 : Ura M} {𝓛 : Logic 𝓤} {K : Type 0} {Γ : List (Item 𝓤)} {G : Goal 𝓤 𝓛.H} where
  open 𝓛 use {H, A}

  pub reads_word : K → Soaks G → {κ : Lft} {q : Share} (b o : ℕ) → ((r : Share) → Seq K 𝓛 (Word R c x 𝓛 r b o ∷ Shown R c x 𝓛 κ q r b o ∷ Γ) G) → Seq K 𝓛 (‵ (hidden_shr (Data R) κ (c, tt) b o) ∷ ‵ (flft κ q) ∷ Γ) G
  reads_word t z b o k = looks t z (Data R) (opened R 𝓛) (c, tt) b o (λ r vs. move t (3 ∷ []) $ drop t $ move t (1 ∷ []) $ peeks t (Data R) (Is (Data R)) (shows 𝓛 (Data R)) (c, tt) vs (λ is.
      rewrite t 0 (λ (us : List Val). ‵ ((Data R).own_val (c, tt) us)) (told R c vs is) refl $ rewrite t 1 (λ (us : List Val). ‵ (cell_at r (Data R).mir us b o)) (told R c vs is) refl $
      move t (0 ∷ 2 ∷ []) $ join t $ move t (1 ∷ 0 ∷ []) $ k r))

  pub word_back : K → Soaks G → {κ : Lft} {q : Share} (r : Share) (b o : ℕ) → Step K 𝓛 (‵ (flft κ q) ∷ Γ) G (Word R c x 𝓛 r b o ∷ Shown R c x 𝓛 κ (Share.left q) r b o ∷ ‵ (flft κ (Share.right q)) ∷ Γ) G
  word_back t z {κ} {q} r b o = step (λ next. move t (1 ∷ []) $ split t $ move t (2 ∷ 0 ∷ 1 ∷ []) $ denote.Steps.shuts t z (Data R) r (c, tt) (word c ∷ []) b o $ use2 𝓛 (‵ (flft κ q)) (𝓛.lfts.lft_join κ q) $ next)

module _ (R : RattleType) (c : Ptr) (x : R.Denot) {M : Type 1} {𝓤 : Ura M} {𝓛 : Logic 𝓤} {K : Type 0} {Γ : List (Item 𝓤)} {G : Goal 𝓤 𝓛.H} where
  open 𝓛 use {H, A}

  pub lent_back : K → Soaks G → {κ : Lft} {q : Share} (r : Share) (b o : ℕ) (a : Id) (s : Share)
      → Step K 𝓛 (‵ (flft κ q) ∷ Γ) G (Word R c x 𝓛 r b o ∷ Shown R c x 𝓛 κ (Share.left q) r b o ∷ Lent R c x 𝓛 κ (Share.right q) a s ∷ Γ) G
  lent_back t z r b o a s = step (λ next. move t (2 ∷ []) $ split t $ move t (1 ∷ 0 ∷ []) $ obor_close t z $ drop t $ move t (1 ∷ 2 ∷ 0 ∷ []) $ word_back R c x t z r b o $ next)

module _ (R : RattleType) (c : Ptr) (x : R.Denot) {M : Type 1} {𝓤 : Ura M} {𝓛 : Logic 𝓤} {K : Type 0} {Γ : List (Item 𝓤)} {G : Goal 𝓤 𝓛.H} where
  open 𝓛 use {H, A}

  box_twice : K → (a : Id) → Step K 𝓛 (‵ (box R c x a) ∷ ‵ (box R c x a) ∷ Γ) G (‵ (box R c x a) ∷ Γ) G
  box_twice t a = step (λ next. use1 𝓛 (‵ (box R c x a) ⊛ ‵ (box R c x a)) (na_inv_dup 𝓛 (key R c x) (rc.Inv 64 (key R c x) (strong R c x) weak (there R c x) ftrue ftrue a)) $ split t $ next)

module _ (R : RattleType) (L : RowLaws R) (c : Ptr) (x : R.Denot) {M : Type 1} {𝓤 : Ura M} {𝓛 : Logic 𝓤} {K : Type 0} {Γ : List (Item 𝓤)} {G : Goal 𝓤 𝓛.H} where
  open 𝓛 use {H, A}

  module _ (κ : Lft) (q : Share) (b o : ℕ) (E : Mask) (has : E (key R c x) ≡ true) where
    -- an owner in a `&` is counted or not
    lent_at_first : K → Soaks G → (r : Share)
        → ((a : Id) (s : Share) (n cb co : ℕ) → c ≡ block_ptr cb co → 0 < n → n < full
        → Seq K 𝓛 (‵ (cell full_share cb co n) ∷ Parts R c x 𝓛 E a n ∷ ‵ (box R c x a) ∷ ‵ (marked_sees R c x (a.0 ∷ [])) ∷ Word R c x 𝓛 r b o ∷ Shown R c x 𝓛 κ (Share.left q) r b o ∷ Lent R c x 𝓛 κ (Share.right q) a s ∷ Γ) G)
        → ((s : Share) (cb co : ℕ) → c ≡ block_ptr cb co
        → Seq K 𝓛 (‵ (cell s cb co full) ∷ ‵ (stays R c x []) ∷ Word R c x 𝓛 r b o ∷ Shown R c x 𝓛 κ (Share.left q) r b o ∷ ‵ (flft κ (Share.right q)) ∷ ‵ (ftok E) ∷ Γ) G)
        → (counting : Bool) → Seq K 𝓛 (‵ (lent_owner R c x counting κ) ∷ Word R c x 𝓛 r b o ∷ Shown R c x 𝓛 κ (Share.left q) r b o ∷ ‵ (flft κ (Share.right q)) ∷ ‵ (ftok E) ∷ Γ) G
    lent_at_first t z r below is_full true = fpick t (λ a. fsplit3 t $ move t (0 ∷ 5 ∷ []) $ shr_bor-open t z (tokens_halve 𝓛 (a.0 ∷ [])) (λ s. move t (2 ∷ []) $ box_twice R c x t a $
        -- [the invariant, twice; the open borrow; the part; what is seen; the word; what shuts it; the thread's token]
        move t (0 ∷ 3 ∷ 7 ∷ []) $ opens_count R L c x t z E has a s
        (λ n cb co e some_n f. move t (2 ∷ 4 ∷ []) $ join t $ move t (1 ∷ 2 ∷ 3 ∷ 4 ∷ 5 ∷ 6 ∷ 0 ∷ []) $ below a s n cb co e some_n f)
        (move t (4 ∷ 2 ∷ []) $ obor_close t z $ drop t $ move t (3 ∷ []) $ drop t $ move t (3 ∷ []) $ drop t $ move t (1 ∷ 3 ∷ 4 ∷ 0 ∷ 2 ∷ []) $ reads_full R L c x t z is_full)))
    lent_at_first t z r below is_full false = reads_full R L c x t z is_full

module _ (R : RattleType) (L : RowLaws R) (c : Ptr) (x : R.Denot) {M : Type 1} {𝓤 : Ura M} {𝓛 : Logic 𝓤} {K : Type 0} {Γ : List (Item 𝓤)} {G : Goal 𝓤 𝓛.H} where
  open 𝓛 use {H, A}

  -- [the count; the parts; the invariant; what is seen; the word; what shuts it; the part], or [the count; what stays; the word; what shuts it; the rest of the token; the thread's token]
  pub lent_out : K → Soaks G → (E : Mask) → E (key R c x) ≡ true → (κ : Lft) (q : Share) (b o : ℕ)
      → ((r : Share) (a : Id) (s : Share) (n cb co : ℕ) → c ≡ block_ptr cb co → 0 < n → n < full
      → Seq K 𝓛 (‵ (cell full_share cb co n) ∷ Parts R c x 𝓛 E a n ∷ ‵ (box R c x a) ∷ ‵ (marked_sees R c x (a.0 ∷ [])) ∷ Word R c x 𝓛 r b o ∷ Shown R c x 𝓛 κ (Share.left q) r b o ∷ Lent R c x 𝓛 κ (Share.right q) a s ∷ Γ) G)
      → ((r s : Share) (cb co : ℕ) → c ≡ block_ptr cb co
      → Seq K 𝓛 (‵ (cell s cb co full) ∷ ‵ (stays R c x []) ∷ Word R c x 𝓛 r b o ∷ Shown R c x 𝓛 κ (Share.left q) r b o ∷ ‵ (flft κ (Share.right q)) ∷ ‵ (ftok E) ∷ Γ) G)
      → Seq K 𝓛 (‵ (hidden_shr (Data R) κ (c, tt) b o) ∷ ‵ (fhide (counted_shares R c x κ)) ∷ ‵ (flft κ q) ∷ ‵ (ftok E) ∷ Γ) G
  lent_out t z E has κ q b o below is_full = move t (2 ∷ []) $ use1 𝓛 (‵ (flft κ (Share.left q)) ⊛ ‵ (flft κ (Share.right q))) (𝓛.lfts.lft_split κ q) $ split t $ move t (2 ∷ 0 ∷ []) $
      reads_word R c x t z b o (λ r. move t (3 ∷ 0 ∷ 1 ∷ 2 ∷ 4 ∷ []) $ unhide t $ fpick t (lent_at_first R L c x κ q b o E has t z r (below r) (is_full r)))

  had_at : K → Soaks G
      → ((a : Id) (n cb co : ℕ) → c ≡ block_ptr cb co → 0 < n → n < full → Seq K 𝓛 (‵ (cell full_share cb co n) ∷ Parts R c x 𝓛 every a n ∷ ‵ (part R c x a) ∷ Γ) G)
      → ((s : Share) (cb co : ℕ) → c ≡ block_ptr cb co → Seq K 𝓛 (‵ (cell s cb co full) ∷ ‵ (stays R c x []) ∷ ‵ (ftok every) ∷ Γ) G)
      → (counting : Bool) → Seq K 𝓛 (‵ (owner R c x counting) ∷ ‵ (ftok every) ∷ Γ) G
  had_at t z below is_full true = fpick t (λ a. fsplit3 t $ fpick t (λ s. fpick t (λ one. move t (2 ∷ []) $ drop t $ move t (1 ∷ 0 ∷ 2 ∷ []) $ opens_count R L c x t z every refl a s
      (λ n cb co e some_n f. move t (2 ∷ []) $ use1 𝓛 (‵ (part R c x a)) (rc.part_in 64 𝓛 a.0 s one) $ move t (1 ∷ 2 ∷ 0 ∷ []) $ below a n cb co e some_n f)
      (move t (2 ∷ []) $ drop t $ reads_full R L c x t z is_full))))
  had_at t z below is_full false = reads_full R L c x t z is_full

module _ (R : RattleType) (L : RowLaws R) (c : Ptr) (x : R.Denot) {M : Type 1} {𝓤 : Ura M} {𝓛 : Logic 𝓤} {K : Type 0} {Γ : List (Item 𝓤)} {G : Goal 𝓤 𝓛.H} where
  open 𝓛 use {H, A}

  -- an owner by value: [the count; the parts; the owner's part], or [the count; what stays; the thread's token]
  pub owner_had : K → Soaks G
      → ((a : Id) (n cb co : ℕ) → c ≡ block_ptr cb co → 0 < n → n < full → Seq K 𝓛 (‵ (cell full_share cb co n) ∷ Parts R c x 𝓛 every a n ∷ ‵ (part R c x a) ∷ Γ) G)
      → ((s : Share) (cb co : ℕ) → c ≡ block_ptr cb co → Seq K 𝓛 (‵ (cell s cb co full) ∷ ‵ (stays R c x []) ∷ ‵ (ftok every) ∷ Γ) G)
      → Seq K 𝓛 (‵ (counted_owns R c x) ∷ ‵ (ftok every) ∷ Γ) G
  owner_had t z below is_full = fpick t (had_at R L c x t z below is_full)
