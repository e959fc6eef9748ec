-- Trees that do not contain a word.
use Rattle.std.specs.Prelude.{◌≡◌, ℕ, false, List}
use Rattle.tt.specs.Forest.{Forest, end, leaf, node}
use Rattle.mbe_pattern.specs.Units.{is_at_word}

-- no ident of these trees is that word, at any depth
abbrev pub Lacks : (word : List ℕ) → Forest → Type 0
Lacks word end = Unit {0}
Lacks word (leaf it rest) = (is_at_word word (leaf it rest) ≡ false) × Lacks word rest
Lacks word (node delimiter children rest) = Lacks word children × Lacks word rest
