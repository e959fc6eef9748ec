-- A `&` to a block shows its bytes.
use mathlib.Core.List.{List}
use mathlib.Core.Path.{refl, subst}
use lib.ListN.{length}
use mir.Syntax.{w8}
use denote.Array.{Array, Array-row_laws}
use denote.Builtin.{u8}
use denote.Param.Shared.{copy_shared}
use denote.Plain.{uint_row_laws}
use denote.RattleType.{RattleType}
use denote.RawPtr.{lies_at, room_for, ◌+ₚ◌}
use denote.Shares.{Shares-Array}
use denote.Struct.Field.{RawPtr-field, u8-field}
use denote.Struct.Laws.{RawPtr-copy, u8-copy}
use denote.Struct.Lending.{lent_at_shr_laws, Lends-first, Lends-lies, of_Lends}
use base.Fraction.{full_share}
use Rattle.tt_back_buf.specs.Ownership.{region_lends, block_type}
use Rattle.tt_back_buf.specs.contracts.region.Region as region
use Rattle.tt_back_buf.proofs.region.Region.TheLaw.Statement.{statement}

pub shares : statement
shares = of_Lends region.struct region.the_codes region.the_heap region.the_lent
    (λ r _. lent_at_shr_laws (Array u8 (length r.bytes)) (Array-row_laws u8 (uint_row_laws w8) (length r.bytes)) (r.at +ₚ r.room) r.bytes) (copy_shared RawPtr-field RawPtr-copy, tt)
    (λ M 𝓤 𝓛 r _. let l = region.the_row.lives in let run : RattleType = Array u8 (length r.bytes) in
    Lends-first 𝓛 (lies_at run full_share (r.at +ₚ r.room) r.bytes) (room_for (block_type r.room) r.at) (region_lends r.at r.room r.bytes) l
    (Lends-lies 𝓛 run l (r.at +ₚ r.room) r.bytes (Shares-Array 𝓛 u8 tt (length r.bytes) l ((copy_shared u8-field u8-copy).shares M 𝓤 𝓛) r.bytes)))
