-- What is known of the conditions `#[cfg(..)]`. What is true, false or open is `Some true`, `Some false` or `None`.
use Rattle.std.specs.Prelude.{ℕ, ◌&&◌, ◌++◌, Bool, true, false, List, [], ◌∷◌, Option, None, Some, bytes_eq}
use Rattle.std.specs.List.{list_any}
use Rattle.expand_items.specs.declared.cfg.CfgAtom.{CfgAtom}
use Rattle.expand_items.specs.declared.cfg.CfgAtom.TheVariants as atom
use Rattle.expand_items.specs.declared.cfg.CfgOptions.{CfgOptions}

-- what is known: which atoms are true, and whether all others are false
pub record Known : Type 0 where
  pub atoms : List CfgAtom
  pub is_complete : Bool

-- what the options say
abbrev pub known_of : CfgOptions → Known
known_of options = record { atoms = options.atoms.items; is_complete = options.is_complete }

-- nothing is known
abbrev pub unknown : Known
unknown = record { atoms = []; is_complete = false }

-- one atom more is true
abbrev pub with_atom : CfgAtom → Known → Known
with_atom it known = record known { atoms = known.atoms ++ it ∷ [] }

-- all other atoms are false
abbrev pub complete : Known → Known
complete known = record known { is_complete = true }

-- the atom is this name, or this key with this value
abbrev pub is_flag : (name : List ℕ) → CfgAtom → Bool
is_flag name (atom.Flag its) = bytes_eq its name
is_flag name (atom.KeyValue key value) = false

abbrev pub is_key_value : (key value : List ℕ) → CfgAtom → Bool
is_key_value key value (atom.Flag name) = false
is_key_value key value (atom.KeyValue its its_value) = bytes_eq its key && bytes_eq its_value value

-- an atom is true if it is among those that are; else it is false if all others are
abbrev pub known_as : (is_there is_complete : Bool) → Option Bool
known_as true is_complete = Some true
known_as false true = Some false
known_as false false = None

abbrev pub flag_says : Known → (name : List ℕ) → Option Bool
flag_says known name = known_as (list_any (is_flag name) known.atoms) known.is_complete

abbrev pub key_value_says : Known → (key value : List ℕ) → Option Bool
key_value_says known key value = known_as (list_any (is_key_value key value) known.atoms) known.is_complete
