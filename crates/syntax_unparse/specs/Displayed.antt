-- Trees whose Rust text is that of Display.
use Rattle.std.specs.Prelude.{◌≡◌, ◌⊎◌, Bool, true, false, ◌==◌, ◌&&◌, IsTrue, Option, None, Some}
use Rattle.tt_base.specs.Forest.{Forest, end, leaf, node}
use Rattle.tt_base.specs.TreeText.{is_alone, space_after}
use Rattle.tt_base.specs.declared.delimiter.Delimiter.{Delimiter}
use Rattle.tt_base.specs.declared.delimiter.DelimiterKind.{DelimiterKind}
use Rattle.tt_base.specs.declared.delimiter.DelimiterKind.TheVariants as delimits
use Rattle.tt_base.specs.declared.ident.Ident.{Ident}
use Rattle.tt_base.specs.declared.leaf.Leaf.{Leaf}
use Rattle.tt_base.specs.declared.leaf.Leaf.TheVariants as leaf_of
use Rattle.syntax_parse.specs.declared.bracket.Bracket.{Bracket}
use Rattle.syntax_unparse.specs.Marks.{brackets_of, shown}
use Rattle.syntax_unparse.specs.Text.{behind_leaf, is_string, opens_apart, wants_space}
use Rattle.syntax_unparse.specs.declared.behind.Behind.{Behind}
use Rattle.syntax_unparse.specs.declared.behind.Behind.TheVariants.{Opening, Apart, Pound}

-- whether Display has brackets around a subtree of a kind
abbrev pub has_brackets : DelimiterKind → Bool
has_brackets delimits.Invisible = false
has_brackets delimits.InvisibleOpaque = false
has_brackets _ = true

-- the state after a subtree whose trees leave the state `held`: that of the trees if the subtree has no brackets
abbrev pub behind_subtree : Option Bracket → (held : Behind) → Behind
behind_subtree None held = held
behind_subtree (Some pair) held = Apart

-- the state after siblings
abbrev pub behind_all : Behind → Forest → Behind
behind_all behind end = behind
behind_all behind (leaf it rest) = behind_all (behind_leaf it) rest
behind_all behind (node delimiter children rest) =
    behind_all (behind_subtree (brackets_of delimiter.kind (shown children)) (behind_all behind children)) rest

-- a space that Display puts before trees without brackets has a tree after it
abbrev pub TakesSpace : (due : Bool) → Forest → Type 0
TakesSpace true end = ⊥
TakesSpace due trees = Unit {0}

-- before each leaf and each pair of brackets, the Rust text of siblings has a space exactly if Display has one; Display puts one before the
-- first of them if one is due; each subtree has brackets in both, or in neither
abbrev pub IsDisplayed : (due : Bool) → Behind → Forest → Type 0
IsDisplayed due behind end = Unit {0}
IsDisplayed due behind (leaf it rest) = (wants_space behind it ≡ due) × IsDisplayed (space_after is_alone it) (behind_leaf it) rest
IsDisplayed due behind (node delimiter children rest) =
    (IsTrue (has_brackets delimiter.kind) × (opens_apart behind ≡ due) × IsDisplayed false Opening children × IsDisplayed true Apart rest)
    ⊎ ((brackets_of delimiter.kind (shown children) ≡ None) × TakesSpace due children × IsDisplayed due behind children
    × IsDisplayed true (behind_all behind children) rest)

-- a name, followed by an empty subtree without brackets
abbrev pub with_nothing : Ident → Delimiter → Forest
with_nothing name delimiter = leaf (leaf_of.Ident name) (node (record delimiter { kind = delimits.Invisible }) end end)

-- whether a leaf is a `'` that is alone
abbrev pub is_lone_quote : Leaf → Bool
is_lone_quote (leaf_of.Punct punct) = (punct.char == 39) && is_alone punct.spacing
is_lone_quote _ = false

-- whether a leaf is a string after a `#` that is joint or joint hidden
abbrev pub touches_pound : Behind → Leaf → Bool
touches_pound Pound it = is_string it
touches_pound _ it = false

-- each subtree has brackets, no `'` is alone, and no string touches a `#`, if `behind` was written last
abbrev pub IsPlain : Behind → Forest → Type 0
IsPlain behind end = Unit {0}
IsPlain behind (leaf it rest) = (is_lone_quote it ≡ false) × (touches_pound behind it ≡ false) × IsPlain (behind_leaf it) rest
IsPlain behind (node delimiter children rest) = IsTrue (has_brackets delimiter.kind) × IsPlain Opening children × IsPlain Apart rest
