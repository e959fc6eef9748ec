-- How the first owner is made (`specs/Counting.antt`). Assumes `Logic`.
--     block_cut      a block with the count 1 is the count, the value, and the way back from both
--     first_made     and these, with the right to free the block, are the first owner
use Rattle.std.proofs.Common.{◌≡◌, ℕ, Bool, true, List, [], ◌∷◌, refl, lit<}
use seplogic.Ra.Ura.{Ura}
use base.Fraction.{full_share}
use base.Fml.{Lft, Incl, Incl-trans, Share, ftrue, fsep, fbor, flft}
use base.Logic.{SProp, ent, sep, id⊢}
use contract.BorrowLft.{meet_⊑_left, meet_⊑_right}
use mir.Raw.{raw as bare}
use mir.Syntax.{w64, ty_int, ty_struct}
use types.Kit.{‵, raw, ◌⊛◌, some, later, ◌$◌, ◌∵◌, !, qed, by, move, keep, split, split3, join, fsplit, fsplit3, fjoin, fjoin3, fpick, fpack, pick, use1, use2, await, assume, flt_i, group, updating, now, done}
use types.Logic.{Logic, sem}
use types.RcWeak as rc
use denote.Builtin.{usize}
use denote.Memory.{lone, part_at, part_of}
use denote.Param.{param, layout}
use denote.Param.Laws.{Laws, param_laws}
use denote.Plain.{uint_Lawful}
use denote.RattleType.{RattleType}
use denote.RawPtr.{Ptr, block_ptr, ◌+ₚ◌}
use denote.RcWeak as handles
use denote.Steps.{nothing}
use denote.Struct.Lending.{Lends, Lends-lies, Lends-first}
use denote.Struct.Members.{Member, raw_tys, lawful_Lones}
use denote.Struct.Parts.{shape_of, Struct-left, left_Struct}
use denote.Struct.Struct.{Struct}
use Rattle.tt_shared.specs.Counting.{full, frees, Block, value_offset, key, counts, lies, rejoins, there, sees, strong_state, strong, weak, mark, marked_sees, owner, counted_owns}
use Rattle.tt_shared.proofs.CountedSteps.{Id, box, part}
use Rattle.tt_shared.proofs.Marks.{begins}

module _ (X : RattleType) (L : Laws X) where
  abbrev R : RattleType
  R = param 0 X

  abbrev LR : Laws R
  LR = param_laws 0 X L

  abbrev fields : List Member
  fields = record { row = usize; ty = ty_int w64 } ∷ record { row = R; ty = layout X } ∷ []

  abbrev Pair : RattleType
  Pair = Struct (shape_of [] fields)

  module _ {M : Type 1} {𝓤 : Ura M} (𝓛 : Logic 𝓤) (b o : ℕ) (x : X.Denot) where
    open 𝓛 use {H}

    -- the tuple, as a struct with no name
    as_pair : ent 𝓤 (sem 𝓛 (part_at (Block R) full_share (1, x) b o)) (sem 𝓛 (part_at Pair full_share (1, (x, tt)) b o))
    unfolding part_of
    as_pair = id⊢ 𝓤 _

    as_block : ent 𝓤 (sem 𝓛 (part_at Pair full_share (1, (x, tt)) b o)) (sem 𝓛 (part_at (Block R) full_share (1, x) b o))
    unfolding part_of
    as_block = id⊢ 𝓤 _

    abbrev Left : SProp 𝓤
    Left = H.left full_share (ty_struct [] (raw_tys fields)) (raw_tys fields) b o

    left_rejoins : ent 𝓤 Left (sem 𝓛 (rejoins R (block_ptr b o) x))
    left_rejoins = qed 𝓛 (raw Left ∷ []) ∵ assume ! (‵ (fsep (counts R (block_ptr b o) x 1) (lies R (block_ptr b o) x))) $ fsplit ! $ nothing ! $ move ! (2 ∷ 0 ∷ []) $ fjoin ! $ move ! (1 ∷ 0 ∷ []) $ fjoin ! $
        use2 𝓛 (‵ (part_at Pair full_share (1, (x, tt)) b o)) (left_Struct 𝓛 full_share [] fields (1, (x, tt)) b o) $ by ! as_block

    pub block_cut : ent 𝓤 (sem 𝓛 (part_at (Block R) full_share (1, x) b o)) (sep 𝓤 (sem 𝓛 (counts R (block_ptr b o) x 1)) (sep 𝓤 (sem 𝓛 (lies R (block_ptr b o) x)) (sem 𝓛 (rejoins R (block_ptr b o) x))))
    block_cut = qed 𝓛 (‵ (part_at (Block R) full_share (1, x) b o) ∷ []) ∵ use1 𝓛 (‵ (part_at Pair full_share (1, (x, tt)) b o)) as_pair $
        use1 𝓛 (‵ (fsep (counts R (block_ptr b o) x 1) (fsep (lies R (block_ptr b o) x) ftrue)) ⊛ raw Left) (Struct-left 𝓛 full_share [] fields (lawful_Lones 𝓛 fields (uint_Lawful 𝓛 w64, (LR.lawful 𝓛, tt))) (1, (x, tt)) b o) $
        split ! $ fsplit3 ! $ move ! (3 ∷ []) $ use1 𝓛 (‵ (rejoins R (block_ptr b o) x)) left_rejoins $ keep ! (1 ∷ 2 ∷ 0 ∷ []) $ done !

  module _ (c : Ptr) (x : X.Denot) {M : Type 1} {𝓤 : Ura M} (𝓛 : Logic 𝓤) where
    open 𝓛 use {H, A}

    -- for the lifetime in which owners are counted, only the value is lent
    value_lends : Lends 𝓛 (there R c x) (sees R c x) R.lives
    value_lends = Lends-first 𝓛 (lies R c x) (fsep (rejoins R c x) (frees (bare (lone (Block R).mir)) c)) (sees R c x) R.lives (Lends-lies 𝓛 R R.lives (c +ₚ value_offset R) x (LR.shares 𝓛 x))

    pub first_made : (μ : Lft) (q : Share) → Incl μ X.lives → ent 𝓤 (sep 𝓤 (sem 𝓛 (counts R c x 1)) (sep 𝓤 (sem 𝓛 (there R c x)) (A.lft μ q))) (H.⇛ (sep 𝓤 (sem 𝓛 (counted_owns R c x)) (A.lft μ q)))
    first_made μ q inc = qed 𝓛 (‵ (counts R c x 1) ∷ ‵ (there R c x) ∷ ‵ (flft μ q) ∷ []) ∵ updating ! $ flt_i ! 1 full (lit< tt) $ fjoin ! $ fpack ! Bool (strong_state R c x 1) true $
        nothing ! $ nothing ! $ fpack ! (1 ≡ 1) (λ _. ftrue) refl $ move ! (2 ∷ 0 ∷ 3 ∷ 1 ∷ []) $ group ! 4 $
        use1 𝓛 (later (some (λ (a : Id). ‵ (part R c x a) ⊛ ‵ (box R c x a) ⊛ ‵ (fbor (a.0 ∷ []) (there R c x)) ⊛ ‵ (mark R c x (a.0 ∷ []))))) (begins R c x 𝓛) $
        await ! tt $ pick ! (λ a. split3 ! $ move ! (2 ∷ []) $ split ! $ move ! (2 ∷ []) $ fpick ! (λ s. fpick ! (λ one.
        -- [the part's token; the borrow; the mark; the invariant; the token]
        move ! (0 ∷ 4 ∷ []) $ join ! $ move ! (1 ∷ 0 ∷ []) $
        use2 𝓛 (later (‵ (sees R c x (a.0 ∷ [])) ⊛ ‵ (flft (a.0 ∷ []) s) ⊛ ‵ (flft μ q)))
        (value_lends (a.0 ∷ []) ((a.0 ∷ [], s) ∷ (μ, q) ∷ []) (Incl-trans (meet_⊑_right (a.0 ∷ []) μ) inc) (meet_⊑_left (a.0 ∷ []) μ)) $ await ! tt $ split3 ! $ move ! (3 ∷ 0 ∷ []) $ fjoin ! $
        move ! (1 ∷ []) $ use1 𝓛 (‵ (part R c x a)) (rc.part_in 64 𝓛 a.0 s one) $ move ! (0 ∷ 3 ∷ 1 ∷ []) $ fjoin3 ! $
        fpack ! Id (handles.handle 64 (key R c x) (strong R c x) weak (there R c x) ftrue ftrue (marked_sees R c x) (λ i. i.0)) a $ fpack ! Bool (owner R c x) true $ now ! $ done !)))
