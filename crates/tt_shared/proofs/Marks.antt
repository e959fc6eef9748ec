-- The mark of a block (`specs/Counting.antt`): its invariant's number determines a name, and the name determines the value. Assumes
-- `Logic`.
--     one_name      an invariant's number belongs to one name only
--     begins      the invariant of a first owner, and the block's mark
use Rattle.std.proofs.Common.{◌≡◌, ℕ, ◌+◌, ◌-◌, ◌*◌, ◌^◌, ◌<◌, ◌≤◌, ◌⊎◌, inl, inr, Bool, true, [], ◌∷◌, arith, refl, sym, subst, ◌∙◌, lit<, zero, suc}
use Rattle.std.proofs.Math.Nat.{mul-le-mul_left, mul-le-mul_right, mul-suc, suc-mul, le-mul_of_pos_right, eq-or-lt_of_le}
use Rattle.std.proofs.lemmas.Bool.{cases_lt}
use seplogic.Ra.Ura.{Ura}
use base.Before.{before}
use base.Fml.{GName, Incl-refl, Fml, ftrue, fsep, fbor, finv, fnamed, fres}
use base.Fraction.{full_share}
use base.FractionLaws.{Counts, Counts-all}
use base.Logic.{SProp, ent, sep, ex, all, guard, via}
use base.Stored.{Gv, gnum}
use types.Kit.{‵, ◌⊛◌, some, given, later, ◌$◌, ◌∵◌, !, qed, move, keep, split, group, fjoin, fjoin3, fpack, pick, learn, use0, use1, await, each, show, updating, now, done}
use types.Logic.{Logic, sem}
use types.Na.{slot, before-Incl}
use types.RcWeak as rc
use types.Tokens.{lft_new, bor_new, name_new}
use denote.RattleType.{RattleType}
use denote.RawPtr.{Ptr}
use denote.Sharing.{beside, ends, said}
use Rattle.tt_shared.specs.Counting.{key, there, strong, weak, IsNumberOf, Names, inside, marked, mark}

-- the square of a larger number is past the square and the number
square-lt : (s t : ℕ) → s < t → s * s + s < t * t
square-lt s t p =
    let below : s * suc s ≤ s * t = mul-le-mul_left s (omega (arith, p)) in
    let past : suc s * t ≤ t * t = mul-le-mul_right t (omega (arith, p)) in
    let low : s * suc s ≡ s * s + s = mul-suc s s in
    let high : suc s * t ≡ s * t + t = suc-mul s t in
    omega (arith, p, below, past, low, high)

-- a number is at most its square
le-square : (k : ℕ) → k ≤ k * k
le-square zero = omega arith
le-square (suc k) = le-mul_of_pos_right (suc k) (omega arith)

-- a number past a square, and not past the next one, has one root
one_rest : (s t d e : ℕ) → d ≤ s → e ≤ t → s * s + d ≡ t * t + e → (s < t) ⊎ (t ≤ s) → d ≡ e
one_rest s t d e ds et same (inl less) = let far = square-lt s t less in absurd (omega (arith, ds, same, far))
one_rest s t d e ds et same (inr more) = elim (eq-or-lt_of_le more) [ inl is ↦ (let square : t * t ≡ s * s = (λ i. is i * is i) in omega (arith, same, square)) | inr less ↦ (let far = square-lt t s less in absurd (omega (arith, et, same, far))) ]

-- an invariant's number belongs to one name only
pub one_name : (δ ε j : ℕ) → IsNumberOf δ j → IsNumberOf ε j → δ ≡ ε
one_name δ ε j a b =
    let s = δ + a.0 in let t = ε + b.0 in let p : δ ≤ s = omega arith in let q : ε ≤ t = omega arith in
    let same : s * s + δ ≡ t * t + ε = sym a.1 ∙ b.1 in
    one_rest s t δ ε p q same (cases_lt s t)

module _ {M : Type 1} {𝓤 : Ura M} (𝓛 : Logic 𝓤) (δ : GName) (I : Fml) where
  open 𝓛 use {H, A}

  -- a new invariant gets one of the numbers that belong to δ
  numbered : ent 𝓤 (sem 𝓛 I) (H.⇛ (ex 𝓤 (λ (j : ℕ). guard 𝓤 (IsNumberOf δ j) (A.named j I))))
  numbered = via 𝓤 _ (qed 𝓛 (‵ I ∷ []) ∵ each ! (λ (j : ℕ). all 𝓤 (λ (_ : IsNumberOf δ j). sem 𝓛 I)) (λ j. each ! (λ (_ : IsNumberOf δ j). sem 𝓛 I) (λ _. done !)))
      (𝓛.invs.named_among (IsNumberOf δ) (λ n. let s = δ + n in let past : s ≤ s * s = le-square s in (s * s + δ, omega (arith, past), (n, refl))) (λ _. I))

module _ (R : RattleType) (c : Ptr) (x : R.Denot) {M : Type 1} {𝓤 : Ura M} (𝓛 : Logic 𝓤) where
  open 𝓛 use {H, A}

  abbrev Counted : ℕ × ℕ → Fml
  Counted a = rc.counted 64 (key R c x) (strong R c x) weak (there R c x) ftrue ftrue a (true, 1, 1)

  abbrev Inv : ℕ × ℕ → Fml
  Inv = rc.Inv 64 (key R c x) (strong R c x) weak (there R c x) ftrue ftrue

  abbrev part : ℕ × ℕ → Fml
  part a = rc.part 64 a.0

  abbrev box : ℕ × ℕ → Fml
  box = rc.box 64 (key R c x) (strong R c x) weak (there R c x) ftrue ftrue

  -- the counts, at one owner, are the invariant
  packs : (a : ℕ × ℕ) → ent 𝓤 (sem 𝓛 (Counted a)) (sem 𝓛 (Inv a))
  packs a = qed 𝓛 (‵ (Counted a) ∷ []) ∵ fpack ! (Bool × ℕ × ℕ) (rc.counted 64 (key R c x) (strong R c x) weak (there R c x) ftrue ftrue a) (true, 1, 1) $
      fpack ! Bool (rc.state 64 (key R c x) (strong R c x) weak (there R c x) ftrue ftrue a) true $ done !

  -- the whole share is all parts
  all_parts : Counts 64 full_share (2 ^ 64 - 0)
  all_parts = subst (Counts 64 full_share) (omega arith) (Counts-all 64)

  abbrev pub Begun : ℕ × ℕ → SProp 𝓤
  Begun a = sep 𝓤 (sem 𝓛 (part a)) (sep 𝓤 (sem 𝓛 (box a)) (sep 𝓤 (sem 𝓛 (fbor (a.0 ∷ []) (there R c x))) (sem 𝓛 (mark R c x (a.0 ∷ [])))))

  -- the invariant of a first owner, and the block's mark
  pub begins : ent 𝓤 (sep 𝓤 (sem 𝓛 (strong R c x 1)) (sep 𝓤 (sem 𝓛 (weak 1)) (sep 𝓤 (sem 𝓛 (there R c x)) (sem 𝓛 ftrue)))) (H.⇛ (ex 𝓤 Begun))
  begins = let v : Gv = R.coded.code x in qed 𝓛 (‵ (strong R c x 1) ∷ ‵ (weak 1) ∷ ‵ (there R c x) ∷ ‵ ftrue ∷ []) ∵ updating ! $ lft_new ! tt (λ b.
      use1 𝓛 (‵ (rc.rest 64 b 1) ⊛ ‵ (rc.part 64 b)) (rc.cut 64 𝓛 b 0 full_share (lit< tt) all_parts) $ split ! $ lft_new ! tt (λ a.
      use1 𝓛 (‵ (rc.rest 64 a 1) ⊛ ‵ (rc.part 64 a)) (rc.cut 64 𝓛 a 0 full_share (lit< tt) all_parts) $ split ! $ move ! (6 ∷ []) $ bor_new ! tt (a ∷ []) $
      -- [the borrow; the lender's right; the first lifetime's rest and part; the second's; the counts; nothing]
      move ! (4 ∷ 8 ∷ []) $ fjoin ! $ move ! (3 ∷ 2 ∷ 5 ∷ []) $ fjoin3 ! $ move ! (4 ∷ 5 ∷ 0 ∷ 1 ∷ []) $ group ! 4 $ let i : ℕ × ℕ = (a, b) in
      use1 𝓛 (‵ (Inv i)) (packs i) $ name_new ! tt (gnum 0) (λ γ. fjoin ! $ move ! (1 ∷ []) $ fjoin ! $ fpack ! Bool (slot (key R c x) (Inv i) γ) true $ let I : Fml = inside R c x i γ in
      name_new ! tt v (λ δ. use1 𝓛 (‵ (fres δ v)) (𝓛.names.obs-res δ v) $ move ! (2 ∷ []) $
      use1 𝓛 (later (some (λ (j : ℕ). given (IsNumberOf δ j) (‵ (fnamed j I))))) (numbered 𝓛 δ I) $ await ! tt $ pick ! (λ j. learn ! (λ its.
      use1 𝓛 (‵ (fnamed j I) ⊛ ‵ (fnamed j I)) (𝓛.invs.named_dup j I) $ split ! $ use1 𝓛 (‵ (finv I)) (𝓛.invs.named_inv j I) $ fpack ! GName (λ η. finv (inside R c x i η)) γ $
      -- [the invariant; its number; the name; the other half of the name; the borrow; the part]
      move ! (1 ∷ 2 ∷ []) $ fjoin ! $ fpack ! (IsNumberOf δ j) (λ _. fsep (fnamed j I) (fres δ v)) its $ use0 𝓛 (‵ (before (a ∷ []) (a ∷ []))) (before-Incl 𝓛 (a ∷ []) (a ∷ []) (Incl-refl (a ∷ []))) $ fjoin ! $
      fpack ! Names (λ n. beside (ends (n.0.0 ∷ [])) (said (marked R c x n)) (a ∷ [])) (i, γ, δ, j) $ now ! $ show ! Begun i $ keep ! (4 ∷ 1 ∷ 3 ∷ 0 ∷ []) $ done !))))))
