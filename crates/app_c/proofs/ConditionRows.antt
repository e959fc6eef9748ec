-- The texts of a caller, next to rows worked out by hand. Each holds by computation.
use Rattle.std.proofs.Common.{◌≡◌, [], ◌∷◌, ◌++◌, None, Some, codes, refl}
use Rattle.app_c.specs.Conditions.{atom_of, texts_in}
use Rattle.expand_items.specs.declared.cfg.CfgAtom.TheVariants as atom

-- Each text ends with a 0, which the last may lack. A 0 alone ends a text without bytes.
texts : (texts_in [] ≡ [])
    × (texts_in (codes "ab") ≡ codes "ab" ∷ [])
    × (texts_in (codes "ab" ++ 0 ∷ []) ≡ codes "ab" ∷ [])
    × (texts_in (codes "ab" ++ 0 ∷ codes "c") ≡ codes "ab" ∷ codes "c" ∷ [])
    × (texts_in (codes "ab" ++ 0 ∷ (codes "c" ++ 0 ∷ [])) ≡ codes "ab" ∷ codes "c" ∷ [])
    × (texts_in (0 ∷ []) ≡ [] ∷ [])
    × (texts_in (codes "ab" ++ 0 ∷ 0 ∷ codes "c") ≡ codes "ab" ∷ [] ∷ codes "c" ∷ [])
texts = (refl, refl, refl, refl, refl, refl, refl)

-- A name is a flag.
atoms : (atom_of (record { name = codes "a"; value = None }) ≡ atom.Flag (codes "a"))
    × (atom_of (record { name = codes "a"; value = Some (codes "b") }) ≡ atom.KeyValue (codes "a") (codes "b"))
    × (atom_of (record { name = codes "a"; value = Some [] }) ≡ atom.KeyValue (codes "a") [])
atoms = (refl, refl, refl)
