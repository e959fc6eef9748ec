-- How the values of tokens are found, use by use.
use Rattle.std.specs.Prelude.{ℕ, ◌+◌, ◌<◌, ◌^◌, List, [], ◌∷◌, ◌++◌, length, bytes_eq}
use Rattle.std.specs.List.{AllZip}
use Rattle.tt_base.specs.declared.span.SpanPart.{SpanPart}
use Rattle.tt_base.specs.declared.token_tree.TokenTree.{TokenTree}
use Rattle.tt_base.specs.Forest.{IsWhole}
use Rattle.tt_tables.specs.TableOrder.{different}
use Rattle.tt_tables.specs.Uses.{same_part, token_parts, token_symbols, part_uses, symbol_uses}
use Rattle.tt_pack.specs.declared.uses.ListUses.{ListUses}
use Rattle.tt_pack.specs.declared.uses.TokenUses.{TokenUses}
use Rattle.tt_pack.specs.Room.{HasRoomForAll}
use Rattle.tt_pack.specs.TablesOf.{StandsAt, AreUses}

-- the part is at the index among the different ones of these uses
abbrev pub IsPartAt : (parts : List SpanPart) → ℕ → SpanPart → Type 0
IsPartAt parts = StandsAt (different same_part parts)

-- the symbol is at the index among the different ones of these uses
abbrev pub IsSymbolAt : (symbols : List (List ℕ)) → ℕ → List ℕ → Type 0
IsSymbolAt symbols = StandsAt (different bytes_eq symbols)

-- the uses so far leave the numbers small enough for `more_parts` parts and `more_symbols` symbols; `has_met` says which uses the values
-- have had
pub record CanMeet {V : Type 0} (has_met : V → List SpanPart → List (List ℕ) → Type 0) (values : V) (more_parts more_symbols : ℕ) : Type 0 where
  pub parts : List SpanPart
  pub symbols : List (List ℕ)
  pub met : has_met values parts symbols
  pub few_parts : length parts + more_parts < 2 ^ 64
  pub few_symbols : length symbols + more_symbols < 2 ^ 64

-- `has_met` says which uses the values have had
module _ {V : Type 0} (has_met : V → List SpanPart → List (List ℕ) → Type 0) where
  -- the values have one more use of a part, which is at the index
  abbrev pub MeetsPart : (old new : V) → SpanPart → (index : ℕ) → Type 0
  MeetsPart old new x index =
      (parts : List SpanPart) (symbols : List (List ℕ)) → has_met old parts symbols
      → has_met new (parts ++ x ∷ []) symbols × IsPartAt (parts ++ x ∷ []) index x

  -- the values have one more use of a symbol, which is at the index
  abbrev pub MeetsSymbol : (old new : V) → List ℕ → (index : ℕ) → Type 0
  MeetsSymbol old new x index =
      (parts : List SpanPart) (symbols : List (List ℕ)) → has_met old parts symbols
      → has_met new parts (symbols ++ x ∷ []) × IsSymbolAt (symbols ++ x ∷ []) index x

  -- the values have one more use of a part and then of a symbol, which are at these indices
  abbrev pub MeetsBoth : (old new : V) → SpanPart → List ℕ → TokenUses → Type 0
  MeetsBoth old new x y uses =
      (parts : List SpanPart) (symbols : List (List ℕ)) → has_met old parts symbols
      → has_met new (parts ++ x ∷ []) (symbols ++ y ∷ []) × (IsPartAt (parts ++ x ∷ []) uses.part x × IsSymbolAt (symbols ++ y ∷ []) uses.other y)

  -- the values have the uses of a token, whose values are at these indices
  abbrev pub MeetsToken : (old new : V) → TokenTree → TokenUses → Type 0
  MeetsToken old new token uses =
      (parts : List SpanPart) (symbols : List (List ℕ)) → has_met old parts symbols
      → has_met new (parts ++ token_parts token) (symbols ++ token_symbols token)
      × AreUses (IsPartAt (parts ++ token_parts token)) (IsSymbolAt (symbols ++ token_symbols token)) token uses

-- the tokens are a whole list; the uses of each token are at these indices, and there is room for all tokens
pub record AreListUses (tokens : List TokenTree) (uses : ListUses) : Type 0 where
  pub whole : IsWhole tokens
  pub stand : AllZip (AreUses (IsPartAt (part_uses tokens)) (IsSymbolAt (symbol_uses tokens))) tokens uses.tokens.items
  pub room : HasRoomForAll tokens uses.room
