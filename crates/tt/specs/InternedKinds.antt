-- The kinds and counts of a builder's tokens, which need no values.
use Rattle.std.specs.Prelude.{ℕ, zero, suc, ◌-◌, Bool, false, nat_eq, List, [], ◌∷◌, length, map, reverse}
use Rattle.tt_base.specs.declared.delimiter.DelimiterKind.{DelimiterKind}
use Rattle.tt_base.specs.declared.delimiter.DelimiterKind.TheVariants.{Invisible}
use Rattle.tt_base.specs.OneRoot.{is_invisible}
use Rattle.tt_tables.specs.declared.token.InternedToken.{InternedToken}
use Rattle.tt_tables.specs.declared.token.InternedToken.TheVariants as interned

-- the kind of a header, or invisible for a leaf
abbrev pub named_kind : InternedToken → DelimiterKind
named_kind (interned.Leaf entry) = Invisible
named_kind (interned.Open kind numbers) = kind
named_kind (interned.Header entry) = entry.kind

-- the kind of the header at a place
abbrev pub named_kind_at : List InternedToken → ℕ → DelimiterKind
named_kind_at [] place = Invisible
named_kind_at (it ∷ tokens) zero = named_kind it
named_kind_at (it ∷ tokens) (suc place) = named_kind_at tokens place

-- the kinds of the headers at these places, the last first; place 0 is the top
abbrev pub named_kinds_at : List InternedToken → List ℕ → List DelimiterKind
named_kinds_at tokens places = reverse (map (λ place. named_kind_at tokens (place - 1)) places)

-- whether the token is a closed invisible header
abbrev pub is_named_invisible : InternedToken → Bool
is_named_invisible (interned.Leaf entry) = false
is_named_invisible (interned.Open kind numbers) = false
is_named_invisible (interned.Header entry) = is_invisible entry.kind

-- whether the first token is a closed header that counts all other tokens
abbrev pub is_named_node : List InternedToken → Bool
is_named_node [] = false
is_named_node (interned.Leaf entry ∷ rest) = false
is_named_node (interned.Open kind numbers ∷ rest) = false
is_named_node (interned.Header entry ∷ rest) = nat_eq entry.len (length rest)
