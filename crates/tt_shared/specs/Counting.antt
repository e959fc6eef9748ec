-- What an owner of a counted value has. The pointer c points to a block of the count and the value x. While the count is not full, each
-- owner has a part of a lifetime for which the value is lent, and the last one has the whole block. Once the count is full, it and the
-- value are lent for ever, and no part is needed any more. A counted owner has a mark too. It shows two owners of one block that they
-- have one value.
use Rattle.std.specs.Prelude.{◌≡◌, ℕ, ◌+◌, ◌-◌, ◌*◌, ◌^◌, Bool, true, false, [], ◌∷◌}
use base.Fraction.{full_share}
use base.Fml.{Lft, Key, GName, Fml, ftrue, fsep, fex, fwand, flt, fnamed, fres}
use mir.Syntax.{Ty}
use mir.Raw.{raw}
use prog.Memory.{align, up}
use types.Na.{slot}
use types.RcWeak.{Inv}
use denote.Builtin.{usize}
use denote.Memory.{lone}
use denote.RattleType.{RattleType}
use denote.RawPtr.{Ptr, block_of, count_of, lies_at, ◌+ₚ◌}
use denote.RcWeak.{rc_cell_owns, rc_lends}
use denote.Sharing.{beside, ends, held, said, some}
use denote.Struct.Lending.{lent_at}
use denote.Struct.Tuple.{Tuple}
use Rattle.std.specs.contracts.impls.GlobalAllocator.TheImpl.{ghosts}

-- a full count
abbrev pub full : ℕ
full = 2 ^ 64 - 1

-- the right to free a block
abbrev pub frees : Ty → Ptr → Fml
frees = ghosts.dealloc_token (record { memory = record { seal = tt } })

-- there is no weak owner, so no second count is stored
abbrev pub weak : ℕ → Fml
weak m = fex (m ≡ 1) (λ _. ftrue)

-- one of the numbers of invariants for the name δ
abbrev pub IsNumberOf : GName → ℕ → Type 0
IsNumberOf δ j = (m : ℕ) × (j ≡ (δ + m) * (δ + m) + δ)

-- the names of the invariant's two lifetimes, of the right to close it and of the value; and the invariant's number
abbrev pub Names : Type 0
Names = (ℕ × ℕ) × GName × GName × ℕ

module _ (R : RattleType) where
  -- the count, and the value after it
  abbrev pub Block : RattleType
  Block = Tuple (usize ∷ R ∷ [])

  -- the offset of the value
  abbrev pub value_offset : ℕ
  value_offset = up (align (lone R.mir)) 8

module _ (R : RattleType) (c : Ptr) (x : R.Denot) where
  -- the invariant's name: the block's place
  abbrev pub key : Key
  key = (block_of c, count_of c)

  -- the whole count with the value n
  abbrev pub counts : ℕ → Fml
  counts = lies_at usize full_share (c +ₚ 0)

  -- the whole value
  abbrev pub lies : Fml
  lies = lies_at R full_share (c +ₚ value_offset R) x

  -- a count of 1 and the value become the block again
  abbrev pub rejoins : Fml
  rejoins = fwand (fsep (counts 1) lies) (lies_at (Block R) full_share c (1, x))

  -- what the last owner has, beside the count
  abbrev pub there : Fml
  there = fsep lies (fsep rejoins (frees (raw (lone (Block R).mir)) c))

  -- what every owner sees for a lifetime
  abbrev pub sees : Lft → Fml
  sees = lent_at R (c +ₚ value_offset R) x

  -- a full count and the value, which both are seen for a lifetime
  abbrev pub stays : Lft → Fml
  stays = beside (lent_at usize (c +ₚ 0) full) sees

  -- n owners are counted, fewer than a full count; or the count is full, and stays so with the value
  abbrev pub strong_state : ℕ → Bool → Fml
  strong_state n true = fsep (flt n full) (counts n)
  strong_state n false = stays []

  -- the count in the invariant, if the owners have n parts of the lifetime
  abbrev pub strong : ℕ → Fml
  strong n = fex Bool (strong_state n)

  -- what the invariant holds: the count and all that belongs to it, or the thread's token in their place
  abbrev pub inside : ℕ × ℕ → GName → Fml
  inside a γ = fex Bool (slot key (Inv 64 key strong weak there ftrue ftrue a) γ)

  -- the invariant's number determines a name, and the name determines the value
  abbrev pub marked : Names → Fml
  marked n = fex (IsNumberOf n.2 n.3) (λ _. fsep (fnamed n.3 (inside n.0 n.1)) (fres n.2 (R.coded.code x)))

  -- the same for a lifetime that ends no later than the invariant's
  abbrev pub mark : Lft → Fml
  mark = some Names (λ n. beside (ends (n.0.0 ∷ [])) (said (marked n)))

  -- what a counted owner sees
  abbrev pub marked_sees : Lft → Fml
  marked_sees = beside mark sees

  -- a counted owner has a part of the lifetime; one that found the count full has what never changes
  abbrev pub owner : Bool → Fml
  owner true = rc_cell_owns 64 key strong weak there ftrue ftrue marked_sees
  owner false = stays []

  -- what an owner has, beside its pointer
  abbrev pub counted_owns : Fml
  counted_owns = fex Bool owner

  -- a `&` to an owner of either kind
  abbrev pub lent_owner : Bool → Lft → Fml
  lent_owner true = rc_lends 64 key strong weak there ftrue ftrue marked_sees
  lent_owner false = held [] stays

  -- what a `&` to an owner holds beside a `&` to its pointer
  abbrev pub counted_shares : Lft → Fml
  counted_shares = some Bool lent_owner
