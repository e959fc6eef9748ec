-- What a caller says of conditions: texts, each with a 0 behind it.
use Rattle.std.specs.Prelude.{◌≡◌, ◌⊎◌, ℕ, ◌==◌, ◌++◌, false, List, [], ◌∷◌, length, map, Option, None, Some, option_map, if◌then◌else◌}
use Rattle.app_c.specs.Failures.{at_place}
use Rattle.app_c.specs.Texts.{IsNoText}
use Rattle.app_c.specs.declared.failure.Failure.{Failure}
use Rattle.app_c.specs.declared.fault.Fault.TheVariants.{NoCfg}
use Rattle.expand_items.specs.Cfg.{Known}
use Rattle.expand_items.specs.declared.cfg.CfgAtom.{CfgAtom}
use Rattle.expand_items.specs.declared.cfg.CfgAtom.TheVariants as atom
use Rattle.syntax_cfg.specs.Cfg.{Said, cfg_in}

-- a byte more before texts: in the first of them, or alone
abbrev pub begun_by : (byte : ℕ) → List (List ℕ) → List (List ℕ)
begun_by byte [] = (byte ∷ []) ∷ []
begun_by byte (text ∷ texts) = (byte ∷ text) ∷ texts

-- the texts in bytes, each up to a 0 or to the end
abbrev pub texts_in : (bytes : List ℕ) → List (List ℕ)
texts_in [] = []
texts_in (byte ∷ bytes) = if byte == 0 then [] ∷ texts_in bytes else begun_by byte (texts_in bytes)

-- a name, or a key with a value, is true
abbrev pub atom_with : (name : List ℕ) → (value : Option (List ℕ)) → CfgAtom
atom_with name None = atom.Flag name
atom_with name (Some value) = atom.KeyValue name value

abbrev pub atom_of : Said → CfgAtom
atom_of it = atom_with it.name it.value

-- what a text says is true; nothing, if it is no `NAME` and no `NAME="VALUE"`
abbrev pub atom_in : (text : List ℕ) → Option CfgAtom
atom_in text = option_map atom_of (cfg_in text)

-- the texts say that these atoms are true
abbrev pub Say : (texts : List (List ℕ)) → List CfgAtom → Type 0
Say texts atoms = map atom_in texts ≡ map Some atoms

-- what the texts say is true, and all else is open
pub record IsSaid (cfg : List ℕ) (known : Known) : Type 0 where
  pub say : Say (texts_in cfg) known.atoms
  pub open_else : known.is_complete ≡ false

-- the first text that says nothing, with the number of texts before it
pub record IsNoCfg (cfg : List ℕ) (failure : Failure) : Type 0 where
  pub front : List (List ℕ)
  pub text : List ℕ
  pub behind : List (List ℕ)
  pub are : texts_in cfg ≡ front ++ text ∷ behind
  pub atoms : List CfgAtom
  pub say : Say front atoms
  pub none : atom_in text ≡ None
  pub failure_is : failure ≡ at_place NoCfg (length front)

-- why nothing is said: the bytes are not UTF-8, or a text says nothing
abbrev pub IsNotSaid : (cfg : List ℕ) → Failure → Type 0
IsNotSaid cfg failure = IsNoText cfg failure ⊎ IsNoCfg cfg failure
