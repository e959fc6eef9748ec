-- The arms of a macro as they are read.
use Rattle.std.specs.Prelude.{◌&&◌, ◌==◌, ℕ, zero, suc, Bool, true, false, List, codes, nat_lt, if◌then◌else◌}
use Rattle.tt.specs.Forest.{Forest, end, leaf, node}
use Rattle.tt.specs.Moves.{after_tree}
use Rattle.tt.specs.Span.{start_of}
use Rattle.tt.specs.Token.{leaf_span}
use Rattle.tt.specs.Types.Delimiter.{Delimiter}
use Rattle.tt.specs.Types.IdentIsRaw.TheVariants.{No}
use Rattle.tt.specs.Types.Leaf.{Leaf}
use Rattle.tt.specs.Types.Leaf.TheVariants as leaf_of
use Rattle.expand_items.specs.Attributes.{is_attribute_sign}
use Rattle.expand_items.specs.Positions.{is_bracket}
use Rattle.expand_text.specs.declared.prepared.ArmPart.{ArmPart}
use Rattle.expand_text.specs.declared.prepared.ArmPart.TheVariants as part
use Rattle.mbe_pattern.specs.Units.{is_at_punct, is_at_word}
use Rattle.mbe_pattern.specs.Spelling.{is_dollar}

-- `$` and after it `crate`
abbrev pub is_crate_root : Leaf → (behind : Forest) → Bool
is_crate_root it behind = is_dollar it && is_at_word (codes "crate") behind

-- the first leaf, or the other if there is none
abbrev pub leaf_at : Forest → (other : Leaf) → Leaf
leaf_at end other = other
leaf_at (leaf it rest) other = it
leaf_at (node delimiter children rest) other = other

-- the root's word, at a leaf
abbrev pub root_word : (root : List ℕ) → Leaf → Leaf
root_word root it = leaf_of.Ident (record { sym = root; span = leaf_span it; is_raw = No })

-- a leaf before these trees: the root's word if they are `$crate`
abbrev pub rooted_leaf : (root : List ℕ) → Leaf → (behind : Forest) → Leaf
rooted_leaf root it behind = if is_crate_root it behind then root_word root (leaf_at behind it) else it

-- the trees after it
abbrev pub after_leaf : Leaf → (behind : Forest) → Forest
after_leaf it behind = if is_crate_root it behind then after_tree behind else behind

-- brackets begin at the byte where a leaf begins: in a text both are then of one comment that documents something
abbrev pub are_of_comment : Leaf → Delimiter → Bool
are_of_comment it delimiter = is_bracket delimiter.kind && (start_of delimiter.open_span.range == start_of (leaf_span it).range)

-- such brackets come first
abbrev pub is_at_comment : Leaf → Forest → Bool
is_at_comment it end = false
is_at_comment it (leaf other rest) = false
is_at_comment it (node delimiter children rest) = are_of_comment it delimiter

-- how many trees behind a leaf are a part of the comment that it begins: none if it begins none
abbrev pub comment_len : Leaf → (behind : Forest) → ℕ
comment_len it behind =
    if is_attribute_sign it
    then (if is_at_comment it behind then 1 else (if is_at_punct (codes "!") behind && is_at_comment it (after_tree behind) then 2 else 0))
    else 0

-- how many of them are left out together with it: those of a comment in a pattern
abbrev pub left_out : ArmPart → Leaf → (behind : Forest) → ℕ
left_out part.Arms it behind = 0
left_out part.Pattern it behind = comment_len it behind
left_out part.Template it behind = 0

-- what brackets contain that come before these trees: among arms, a pattern if `=` follows
abbrev pub inside : ArmPart → (behind : Forest) → ArmPart
inside part.Arms behind = if is_at_punct (codes "=") behind then part.Pattern else part.Template
inside part.Pattern behind = part.Pattern
inside part.Template behind = part.Template

-- the trees of a part, after so many that belong to the leaf before them
abbrev pub prepared_behind : (root : List ℕ) → ArmPart → (passed : ℕ) → Forest → Forest
prepared_behind root this passed end = end
prepared_behind root this (suc n) (leaf it rest) = prepared_behind root this n rest
prepared_behind root this (suc n) (node delimiter children rest) = prepared_behind root this n rest
prepared_behind root this zero (leaf it rest) =
    if nat_lt 0 (left_out this it rest) then prepared_behind root this (left_out this it rest) rest
    else leaf (rooted_leaf root it rest) (prepared_behind root this (if is_crate_root it rest then 1 else 0) rest)
prepared_behind root this zero (node delimiter children rest) =
    node delimiter (prepared_behind root (inside this rest) 0 children) (prepared_behind root this 0 rest)

-- the arms with the root's word for each `$crate`, and without the comments in patterns that document something
abbrev pub prepared : (root : List ℕ) → (arms : Forest) → Forest
prepared root arms = prepared_behind root part.Arms 0 arms
