-- A list of trees, cut at puncts of one character.
use Rattle.std.specs.Prelude.{ℕ, suc, ◌+◌, ◌==◌, Bool, false, List, [], ◌∷◌}
use Rattle.std.specs.List.{slice_split}
use Rattle.tt.specs.Forest.{Forest, size}
use Rattle.tt.specs.Siblings.{Tree, tip, branch, list_of}
use Rattle.tt_base.specs.declared.leaf.Leaf.TheVariants as leaf

-- the tree is a punct of that character
abbrev pub is_punct : ℕ → Tree → Bool
is_punct char (tip (leaf.Literal literal)) = false
is_punct char (tip (leaf.Punct punct)) = punct.char == char
is_punct char (tip (leaf.Ident ident)) = false
is_punct char (branch delimiter children) = false

-- the runs of trees between these, empty runs included
abbrev pub pieces : ℕ → Forest → List (List Tree)
pieces char trees = slice_split (is_punct char) (list_of trees)

-- how many tokens the trees have
abbrev pub tokens_in : List Tree → ℕ
tokens_in [] = 0
tokens_in (tip it ∷ trees) = suc (tokens_in trees)
tokens_in (branch delimiter children ∷ trees) = suc (size children + tokens_in trees)
