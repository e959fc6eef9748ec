-- Why bytes are those of no tree, by the step that failed.
use Rattle.std.proofs.Common.{◌≡◌, ◌⊎◌, inl, inr, ℕ, ◌+◌, List, length, Ok, refl, sym, ◌∙◌, subst, arith}
use Rattle.tt_base.specs.declared.fault.TtFault.{TtFault}
use Rattle.tt_base.specs.declared.fault.TtFault.TheVariants as limit
use Rattle.tt_base.specs.declared.token_tree.TokenTree.{TokenTree}
use Rattle.tt_base.specs.Forest.{Root, flat_root}
use Rattle.tt_base.specs.Unflat.{flat_root-injective}
use Rattle.tt_bytes.specs.declared.fault.BytesFault.{BytesFault}
use Rattle.tt_bytes.specs.declared.fault.BytesFault.TheVariants.{Memory, TooShort, OtherFormat, NoText, NoTree, StoredOtherwise}
use Rattle.tt_bytes.specs.Decoding.{IsStop, Stand, StopsAt}
use Rattle.tt_bytes.specs.Faults.{AreOfNone, IsFaultOf, IsNoTree, tables_in}
use Rattle.tt_bytes.specs.Format.{IsRefusal, PieceFits}
use Rattle.tt_bytes.specs.Front.{Held, held}
use Rattle.tt_bytes.proofs.Faults.{packs}
use Rattle.tt_tables.specs.PackFault.{IsPackFault}
use Rattle.tt_tables.specs.Stored.{packed}
use Rattle.tt_tables.specs.Tables.{Tables}

-- No token is at an offset.
pub stopped : (bytes : List ℕ) (it : Held) (tables : Tables) (before : ℕ) (fault : BytesFault) → held bytes ≡ Ok it → tables ≡ tables_in it
    → before + (length it.packed + length it.behind) ≡ length bytes → IsStop tables it.packed before fault → IsFaultOf bytes fault
stopped bytes it tables before Memory holds same place stop = inl stop
stopped bytes it tables before (TooShort at) holds same place stop = inl stop
stopped bytes it tables before (OtherFormat at) holds same place stop = inl stop
stopped bytes it tables before (NoText at) holds same place stop = inl stop
stopped bytes it tables before (StoredOtherwise at) holds same place stop = inl stop
stopped bytes it tables before (NoTree at) holds same place (offset, is, stops) =
    let none : IsNoTree (length bytes) it at =
    record { offset = offset; why = inl (subst (λ t. StopsAt t it.packed offset) same stops); place = omega (arith, is, place) } in
    inr (inr (it, holds, none))

-- All tokens are read, and are those of no tree.
pub of_none : (bytes : List ℕ) (it : Held) (tables : Tables) (end : ℕ) (tokens : List TokenTree) → held bytes ≡ Ok it → tables ≡ tables_in it
    → end + length it.behind ≡ length bytes → Stand tables it.packed tokens (length it.packed) → AreOfNone tokens → IsFaultOf bytes (NoTree end)
of_none bytes it tables end tokens holds same place stand none =
    let no_tree : IsNoTree (length bytes) it end =
    record { offset = length it.packed; why = inr (tokens, subst (λ t. Stand t it.packed tokens (length it.packed)) same stand, refl, none); place = omega (arith, place) } in
    inr (inr (it, holds, no_tree))

-- If tokens are not packed and memory did not run out, they are those of no tree.
pub none_packed : (tokens : List TokenTree) (fault : TtFault) → IsPackFault tokens fault → (fault ≡ limit.Memory → ⊥) → AreOfNone tokens
none_packed tokens fault why other root is has = other (packs tokens root is has.limits fault why)

-- The same for tokens of a tree that has no bytes.
pub none_written : (tokens : List TokenTree) (tree : Root) (fault : TtFault) → tokens ≡ flat_root tree → IsRefusal tree fault → (fault ≡ limit.Memory → ⊥) → AreOfNone tokens
none_written tokens tree fault is (inl memory) other root same has = other memory
none_written tokens tree fault is (inr many) other root same has =
    many.1 (subst (λ r. PieceFits (packed r).parts (packed r).symbols (packed r).bytes)
    (flat_root-injective root tree (sym same ∙ is)) has.fits)

-- A fault means that memory ran out, or it does not.
pub is_want : (fault : BytesFault) → (fault ≡ Memory) ⊎ (fault ≡ Memory → ⊥)
is_want Memory = inl refl
is_want (TooShort at) = inr (λ e. cc e)
is_want (OtherFormat at) = inr (λ e. cc e)
is_want (NoText at) = inr (λ e. cc e)
is_want (NoTree at) = inr (λ e. cc e)
is_want (StoredOtherwise at) = inr (λ e. cc e)
