-- The literal that words set, next to what the compiler reads in them.
use Rattle.std.proofs.Common.{◌≡◌, List, [], ◌∷◌, ◌++◌, None, Some, codes, refl}
use Rattle.app_files.specs.RecursionLimit.{literal_in}
use Rattle.app_files.specs.TokenWords.{Word}

-- an inner attribute of these words
abbrev inner : List Word → List Word
inner words = codes "#" ∷ codes "!" ∷ codes "[" ∷ (words ++ codes "]" ∷ [])

-- `recursion_limit = LITERAL`
abbrev limit : Word → List Word
limit literal = codes "recursion_limit" ∷ codes "=" ∷ literal ∷ []

-- Other inner attributes may precede it, and the first limit counts. An item or an outer attribute ends the search, and the name alone sets
-- no limit.
rows : (literal_in 0 (inner (limit (codes "\"2\""))) ≡ Some (codes "\"2\""))
    × (literal_in 0 (inner (codes "a" ∷ codes "[" ∷ codes "]" ∷ []) ++ inner (limit (codes "\"2\""))) ≡ Some (codes "\"2\""))
    × (literal_in 0 (inner (codes "recursion_limit" ∷ []) ++ inner (limit (codes "\"2\""))) ≡ Some (codes "\"2\""))
    × (literal_in 0 (inner (limit (codes "\"2\"")) ++ inner (limit (codes "\"3\""))) ≡ Some (codes "\"2\""))
    × (literal_in 0 (codes "struct" ∷ codes "A" ∷ codes ";" ∷ inner (limit (codes "\"2\""))) ≡ None)
    × (literal_in 0 (codes "#" ∷ codes "[" ∷ (limit (codes "\"2\"") ++ codes "]" ∷ [])) ≡ None)
    × (literal_in 0 (inner (codes "a" ∷ codes "[" ∷ (limit (codes "\"2\"") ++ codes "]" ∷ []))) ≡ None)
    × (literal_in 0 (inner (codes "recursion_limit" ∷ [])) ≡ None)
    × (literal_in 0 [] ≡ None)
rows = (refl, refl, refl, refl, refl, refl, refl, refl, refl)
