-- Variables of a pattern, and their uses in a template.
use Rattle.std.specs.Prelude.{◌==◌, ◌&&◌, ℕ, Bool, true, false, List, [], ◌∷◌, ◌++◌, map, Option, None, Some, option_map, codes, bytes_eq, if◌then◌else◌}
use Rattle.tt.specs.Expectations.{first_leaf_as, as_punct, as_ident_or_underscore, unless_underscore, is_punct_of}
use Rattle.tt.specs.Forest.{Forest, end, leaf, node}
use Rattle.tt.specs.Moves.{after_tree}
use Rattle.tt.specs.Types.Ident.{Ident}
use Rattle.tt.specs.Types.IdentIsRaw.{IdentIsRaw}
use Rattle.tt.specs.Types.IdentIsRaw.TheVariants.{No, Yes}
use Rattle.tt.specs.Types.Leaf.{Leaf}
use Rattle.tt.specs.Types.Leaf.TheVariants as leaf_of
use Rattle.mbe_rule.specs.declared.variable.Name.{Name}
use Rattle.mbe_rule.specs.declared.variable.Fragment.{Fragment}
use Rattle.mbe_rule.specs.declared.variable.Fragment.TheVariants as fragment
use Rattle.mbe_rule.specs.declared.variable.Variable.{Variable}

-- the name that an ident spells: its text, and whether it is raw
abbrev pub name_of : Ident → Name
name_of it = record { text = it.sym; is_raw = it.is_raw }

-- both are raw, or neither is
abbrev pub same_rawness : IdentIsRaw → IdentIsRaw → Bool
same_rawness No No = true
same_rawness No Yes = false
same_rawness Yes No = false
same_rawness Yes Yes = true

-- both names are the same
abbrev pub same_name : Name → Name → Bool
same_name a b = bytes_eq a.text b.text && same_rawness a.is_raw b.is_raw

-- the character `$`
abbrev pub dollar : ℕ
dollar = 36

-- the leaf is the punct `$`
abbrev pub is_dollar : Leaf → Bool
is_dollar (leaf_of.Literal it) = false
is_dollar (leaf_of.Punct it) = it.char == dollar
is_dollar (leaf_of.Ident it) = false

-- the fragment of that name
abbrev pub fragment_named : List ℕ → Option Fragment
fragment_named text =
    if bytes_eq text (codes "ident") then Some fragment.Ident
    else (if bytes_eq text (codes "literal") then Some fragment.Literal else (if bytes_eq text (codes "tt") then Some fragment.Tt else None))

-- the fragment that a text names; none if it is raw
abbrev pub fragment_by : IdentIsRaw → List ℕ → Option Fragment
fragment_by No text = fragment_named text
fragment_by Yes text = None

-- the fragment that an ident names
abbrev pub fragment_of : Ident → Option Fragment
fragment_of it = fragment_by it.is_raw it.sym

-- the fragment that a leaf names
abbrev pub as_fragment : Leaf → Option Fragment
as_fragment (leaf_of.Literal it) = None
as_fragment (leaf_of.Punct it) = None
as_fragment (leaf_of.Ident it) = fragment_of it

-- the name at the front: an ident other than `_`
abbrev pub name_in : Forest → Option Name
name_in siblings = option_map name_of (unless_underscore (first_leaf_as as_ident_or_underscore siblings))

-- the first tree is the punct `:`
abbrev pub is_colon_in : Forest → Bool
is_colon_in siblings = is_punct_of (codes ":") (first_leaf_as as_punct siblings)

-- a variable has a name, a colon and a fragment
abbrev pub variable_from : Option Name → (colon : Bool) → Option Fragment → Option Variable
variable_from None colon kind = None
variable_from (Some name) false kind = None
variable_from (Some name) true None = None
variable_from (Some name) true (Some kind) = Some (record { name = name; fragment = kind })

-- the variable whose `$` precedes these siblings
abbrev pub variable_in : Forest → Option Variable
variable_in siblings =
    variable_from (name_in siblings) (is_colon_in (after_tree siblings)) (first_leaf_as as_fragment (after_tree (after_tree siblings)))

-- the variable that begins with a leaf before these siblings
abbrev pub variable_at : Leaf → Forest → Option Variable
variable_at it siblings = if is_dollar it then variable_in siblings else None

-- the name that a leaf before these siblings uses
abbrev pub use_at : Leaf → Forest → Option Name
use_at it siblings = if is_dollar it then name_in siblings else None

-- the siblings after each `$`, in reading order
abbrev pub behind_dollars : Forest → List Forest
behind_dollars end = []
behind_dollars (leaf it rest) = if is_dollar it then rest ∷ behind_dollars rest else behind_dollars rest
behind_dollars (node delimiter children rest) = behind_dollars children ++ behind_dollars rest

-- the names of the variables that are there
abbrev pub names_of : List (Option Variable) → List Name
names_of [] = []
names_of (None ∷ others) = names_of others
names_of (Some it ∷ others) = it.name ∷ names_of others

-- the names of a pattern's variables, in reading order
abbrev pub names_in : Forest → List Name
names_in pattern = names_of (map variable_in (behind_dollars pattern))
