-- Where the last of a name is among names.
use Rattle.std.specs.Prelude.{ℕ, suc, ◌++◌, Bool, true, false, List, [], ◌∷◌, Option, None, Some, bytes_eq}

-- the place among names: the place after the first, or that of the first if it is the one that is searched for, or none
abbrev pub place_or : (behind : Option ℕ) → (is_first : Bool) → Option ℕ
place_or (Some place) is_first = Some (suc place)
place_or None true = Some 0
place_or None false = None

-- the place of the last of these names that is the one
abbrev pub last_place : (names : List (List ℕ)) → (name : List ℕ) → Option ℕ
last_place [] name = None
last_place (it ∷ others) name = place_or (last_place others name) (bytes_eq it name)

-- for each of the names after others, the place of the last before it that is the same
abbrev pub links_behind : (before names : List (List ℕ)) → List (Option ℕ)
links_behind before [] = []
links_behind before (name ∷ names) = last_place before name ∷ links_behind (before ++ name ∷ []) names

-- for each name, the place of the last before it that is the same
abbrev pub links_of : (names : List (List ℕ)) → List (Option ℕ)
links_of names = links_behind [] names
