-- The tokens that interned tokens hold, and the numbers of uses of their values.
use Rattle.std.specs.Map.{keys_of}
use Rattle.std.specs.Prelude.{◌≡◌, ◌≤◌, ℕ, List, bytes_eq, length}
use Rattle.tt_base.specs.declared.span.SpanPart.{SpanPart}
use Rattle.tt_tables.specs.declared.token.InternedToken.{InternedToken}
use Rattle.tt_tables.specs.Held.{HeldToken, counted_parts, counted_symbols, parts_in, symbols_in}
use Rattle.tt_tables.specs.Names.{Names, AllName}
use Rattle.tt_tables.specs.Counts.{number_in, CountsUses}
use Rattle.tt_tables.specs.TableOrder.{different, uses_of}
use Rattle.tt_tables.specs.Tables.{Tables, tables_from}
use Rattle.tt_tables.specs.Uses.{same_part}

-- the tables of the values, in the order of their places
abbrev pub tables_of : (parts : List (SpanPart × ℕ)) (symbols : List (List ℕ × ℕ)) → Tables
tables_of parts symbols = tables_from (keys_of parts) (keys_of symbols)

-- these tokens are held; parts and symbols have their numbers of uses, and symbols are in the order of first uses
pub record AreHeld (tokens : List InternedToken) (parts : List (SpanPart × ℕ)) (symbols : List (List ℕ × ℕ)) (held : List HeldToken) : Type 0 where
  pub named : AllName (tables_of parts symbols) tokens held
  pub parts_counted : CountsUses same_part (parts_in held) parts
  pub symbols_counted : CountsUses bytes_eq (symbols_in held) symbols
  pub in_order : keys_of symbols ≡ different bytes_eq (symbols_in held)
  pub few : length held ≤ 4294967296

-- some tokens are held
abbrev pub HasHeld : (tokens : List InternedToken) (parts : List (SpanPart × ℕ)) (symbols : List (List ℕ × ℕ)) → Type 0
HasHeld tokens parts symbols = (held : List HeldToken) × AreHeld tokens parts symbols held

-- the token means one that is held, and each value has at least the uses by it
pub record CanTake (parts : List (SpanPart × ℕ)) (symbols : List (List ℕ × ℕ)) (token : InternedToken) : Type 0 where
  pub it : HeldToken
  pub named : Names (tables_of parts symbols) token it
  pub parts_used : (x : SpanPart) → uses_of same_part (counted_parts it) x ≤ number_in same_part parts x
  pub symbols_used : (x : List ℕ) → uses_of bytes_eq (counted_symbols it) x ≤ number_in bytes_eq symbols x

-- the tokens mean some that are held, and each value has at least the uses by them
pub record CanTakeAll (parts : List (SpanPart × ℕ)) (symbols : List (List ℕ × ℕ)) (tokens : List InternedToken) : Type 0 where
  pub held : List HeldToken
  pub named : AllName (tables_of parts symbols) tokens held
  pub parts_used : (x : SpanPart) → uses_of same_part (parts_in held) x ≤ number_in same_part parts x
  pub symbols_used : (x : List ℕ) → uses_of bytes_eq (symbols_in held) x ≤ number_in bytes_eq symbols x

-- the tokens mean these by some tables
abbrev pub AreNamed : List InternedToken → List HeldToken → Type 0
AreNamed tokens held = (tables : Tables) × AllName tables tokens held
