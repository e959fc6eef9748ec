-- A `&` to an owner is a `&` to its pointer, and what `counted_shares` says. Assumes `Logic`.
use denote.Param.Laws.{Laws}
use denote.Param.Shared.{copy_shared}
use denote.RattleType.{RattleType}
use denote.Struct.Field.{RawPtr-field}
use denote.Struct.Laws.{RawPtr-copy}
use denote.Struct.Lending.{of_Lends}
use Rattle.tt_shared.specs.contracts.counted.Counted as counted
use Rattle.tt_shared.proofs.OwnersLent.{counted_laws, counted_lends}
use Rattle.tt_shared.proofs.counted.Counted.TheLaw.Statement.{statement}

pub shares : (T : RattleType) (L : Laws T) → statement T L
shares T L = of_Lends (counted.struct T) (counted.the_codes T.Denot T.coded) (counted.the_heap T) (counted.the_lent T)
    (λ d p. counted_laws T L.shr_laws d.block d.value) (copy_shared RawPtr-field RawPtr-copy, tt)
    (λ M 𝓤 𝓛 d p. counted_lends T L.shr_laws d.block d.value 𝓛 (counted.the_row T).lives)
