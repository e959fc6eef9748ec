-- The idents among tokens that may name a local or a label.
use Rattle.std.specs.Prelude.{◌==◌, ◌||◌, ◌++◌, ℕ, Bool, true, false, List, [], ◌∷◌, Option, None, Some, option_map, option_to_list, if◌then◌else◌}
use Rattle.std.specs.Char.{is_ascii_uppercase}
use Rattle.tt.specs.Forest.{Forest, flat}
use Rattle.tt.specs.Types.Ident.{Ident}
use Rattle.tt.specs.Types.Leaf.{Leaf}
use Rattle.tt.specs.Types.Leaf.TheVariants as leaf
use Rattle.tt.specs.Types.TokenTree.{TokenTree}
use Rattle.tt.specs.Types.TokenTree.TheVariants as token
use Rattle.mbe_grammar.specs.Words.{word_of, is_reserved}
use Rattle.expand_hygiene.specs.declared.mention.BindingKind.{BindingKind}
use Rattle.expand_hygiene.specs.declared.mention.BindingKind.TheVariants.{Local, Label}
use Rattle.expand_hygiene.specs.declared.mention.Mention.{Mention}

-- a name begins with an upper-case letter of ASCII
abbrev pub begins_upper_case : (name : List ℕ) → Bool
begins_upper_case [] = false
begins_upper_case (first ∷ more) = is_ascii_uppercase first

-- what an ident may name: behind a `'` a label, otherwise a local, unless it is a keyword or begins with an upper-case letter
abbrev pub kind_of : (is_behind_quote : Bool) → Ident → Option BindingKind
kind_of true it = Some Label
kind_of false it = if is_reserved (word_of it) || begins_upper_case it.sym then None else Some Local

-- an ident as a mention of what it may name
abbrev pub leaf_mention : (is_behind_quote : Bool) → Leaf → Option Mention
leaf_mention quoted (leaf.Literal it) = None
leaf_mention quoted (leaf.Punct it) = None
leaf_mention quoted (leaf.Ident it) = option_map (λ kind. record { kind = kind; ident = it }) (kind_of quoted it)

abbrev pub mention_of : (is_behind_quote : Bool) → TokenTree → Option Mention
mention_of quoted (token.Leaf it) = leaf_mention quoted it
mention_of quoted (token.Subtree it) = None

-- a token is a `'`
abbrev pub is_quote : TokenTree → Bool
is_quote (token.Leaf (leaf.Literal it)) = false
is_quote (token.Leaf (leaf.Punct it)) = it.char == 39
is_quote (token.Leaf (leaf.Ident it)) = false
is_quote (token.Subtree it) = false

-- the mentions among tokens, in reading order
abbrev pub mentions_among : (is_behind_quote : Bool) → List TokenTree → List Mention
mentions_among quoted [] = []
mentions_among quoted (it ∷ more) = option_to_list (mention_of quoted it) ++ mentions_among (is_quote it) more

-- the mentions in trees, at any depth
abbrev pub mentions_in : Forest → List Mention
mentions_in trees = mentions_among false (flat trees)
