-- The flat list that a builder keeps: the top's header with the count 0, and the tokens held.
use Rattle.std.specs.Prelude.{◌≡◌, ℕ, List, ◌∷◌, map}
use Rattle.tt_base.specs.declared.delimiter.Delimiter.{Delimiter}
use Rattle.tt_base.specs.declared.token_tree.TokenTree.{TokenTree}
use Rattle.tt_base.specs.Forest.{header}
use Rattle.tt_tables.specs.Held.{HeldToken, as_token, open_places}

-- that list
abbrev pub all_tokens : Delimiter → List HeldToken → List TokenTree
all_tokens top held = header top 0 ∷ map as_token held

-- the open headers are at these places; place 0 is the top
abbrev pub AreOpenIn : List HeldToken → List ℕ → Type 0
AreOpenIn held headers = open_places 1 held ≡ headers
