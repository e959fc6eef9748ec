-- The names that trees bind, by their derivation.
use Rattle.std.specs.Prelude.{◌==◌, ◌||◌, ◌++◌, ◌-◌, ◌∷◌, [], ℕ, zero, suc, true, false, List, length, take, drop, slice_get, Option, None, Some, option_to_list, if◌then◌else◌}
use Rattle.tt.specs.Forest.{Forest, flat}
use Rattle.tt.specs.Token.{count_below}
use Rattle.tt.specs.Types.TokenTree.{TokenTree}
use Rattle.mbe_grammar.specs.declared.event.Event.{Event}
use Rattle.mbe_grammar.specs.declared.event.Event.TheVariants as event
use Rattle.mbe_grammar.specs.Names.{start, identifier_pattern, field_pattern, label}
use Rattle.expand_hygiene.specs.declared.mention.Mention.{Mention}
use Rattle.expand_hygiene.specs.Mentions.{mention_of}

-- the innermost of the names that are open, the outermost first
abbrev pub innermost : (names : List ℕ) → Option ℕ
innermost names = slice_get names (length names - 1)

-- the others
abbrev pub outer : (names : List ℕ) → List ℕ
outer names = take (length names - 1) names

-- what a token binds that this name of the grammar took: an ident of a label, or of a pattern
abbrev pub bound_by : (name : ℕ) → TokenTree → Option Mention
bound_by name it =
    if name == start label then mention_of true it else (
    if name == start identifier_pattern || name == start field_pattern then mention_of false it else None)

abbrev pub binder_of : (name : Option ℕ) → TokenTree → Option Mention
binder_of None it = None
binder_of (Some name) it = bound_by name it

-- the tokens behind that many trees
abbrev pub behind_trees : (count : ℕ) → List TokenTree → List TokenTree
behind_trees zero tokens = tokens
behind_trees (suc count) [] = []
behind_trees (suc count) (it ∷ more) = behind_trees count (drop (count_below it) more)

-- what that many trees bind that this name took
abbrev pub unit_binders : (name : Option ℕ) → (count : ℕ) → List TokenTree → List Mention
unit_binders name zero tokens = []
unit_binders name (suc count) [] = []
unit_binders name (suc count) (it ∷ more) = option_to_list (binder_of name it) ++ unit_binders name count (drop (count_below it) more)

-- what tokens with these events bind, in reading order, inside of these names
abbrev pub binders_among : (names : List ℕ) → List TokenTree → List Event → List Mention
binders_among names tokens [] = []
binders_among names tokens (event.Enter name ∷ more) = binders_among (names ++ name ∷ []) tokens more
binders_among names tokens (event.Leave ∷ more) = binders_among (outer names) tokens more
binders_among names tokens (event.Token count ∷ more) = unit_binders (innermost names) count tokens ++ binders_among names (behind_trees count tokens) more
binders_among names tokens (event.Open ∷ more) = binders_among names (drop 1 tokens) more
binders_among names tokens (event.Close ∷ more) = binders_among names tokens more

-- what trees with this derivation bind
abbrev pub binders_in : Forest → List Event → List Mention
binders_in trees events = binders_among [] (flat trees) events
