-- Worked arms as they are read. Each holds by computation.
use Rattle.std.proofs.Common.{◌≡◌, ◌+◌, ℕ, codes, refl}
use Rattle.tt.specs.Forest.{Forest, end, leaf, node}
use Rattle.tt.specs.Token.{delimiter}
use Rattle.tt.specs.Types.DelimiterKind.{DelimiterKind}
use Rattle.tt.specs.Types.DelimiterKind.TheVariants.{Brace, Bracket, Parenthesis}
use Rattle.tt.specs.Types.IdentIsRaw.TheVariants.{No}
use Rattle.tt.specs.Types.Leaf.TheVariants as leaf_of
use Rattle.tt.specs.Types.Spacing.TheVariants.{Alone, Joint}
use Rattle.tt_base.proofs.Samples.{span}
use Rattle.expand_text.specs.Prepared.{prepared}
use Rattle.mbe_pattern.proofs.Rows.{word, alone, joint}

-- `::` before others
abbrev colons : Forest → Forest
colons rest = joint 58 (alone 58 rest)

-- `$crate::f` and `$f`, with the word `k` for the root.
root_placed : prepared (codes "k") (alone 36 (word (codes "crate") (colons (word (codes "f") end)))) ≡ word (codes "k") (colons (word (codes "f") end))
root_placed = refl

dollar_stays : prepared (codes "k") (alone 36 (word (codes "f") end)) ≡ alone 36 (word (codes "f") end)
dollar_stays = refl

-- a letter, a sign and brackets of a kind that begin at a byte, before others
abbrev letter : (start : ℕ) → Forest → Forest
letter start rest = leaf (leaf_of.Ident (record { sym = codes "a"; span = span start 1; is_raw = No })) rest

abbrev sign : (char start : ℕ) → Forest → Forest
sign char start rest = leaf (leaf_of.Punct (record { char = char; spacing = Joint; span = span start 1 })) rest

abbrev held : DelimiterKind → (start : ℕ) → (inside rest : Forest) → Forest
held kind start inside rest = node (delimiter kind (span start 1) (span start 1)) inside rest

-- a comment for what follows and one for what it is in, both of which begin at a byte; and the attribute `#[a]`
abbrev outer : (start : ℕ) → Forest → Forest
outer start rest = sign 35 start (held Bracket start (letter start end) rest)

abbrev inner : (start : ℕ) → Forest → Forest
inner start rest = sign 35 start (sign 33 start (held Bracket start (letter start end) rest))

abbrev attribute : (start : ℕ) → Forest → Forest
attribute start rest = sign 35 start (held Bracket (start + 1) (letter (start + 2) end) rest)

-- an arm with such a pattern and such a template, before others
abbrev arm : (pattern template rest : Forest) → Forest
arm pattern template rest = held Parenthesis 0 pattern (sign 61 4 (sign 62 5 (held Brace 7 template rest)))

abbrev read : Forest → Forest
read arms = prepared (codes "k") arms

-- Comments go from patterns, at each depth and in each arm, and stay in templates and among the arms.
from_pattern : read (arm (outer 1 (letter 9 (inner 10 end))) (outer 20 (inner 30 end)) end) ≡ arm (letter 9 end) (outer 20 (inner 30 end)) end
from_pattern = refl

from_inside : read (arm (held Brace 1 (inner 2 (letter 9 end)) end) end end) ≡ arm (held Brace 1 (letter 9 end) end) end end
from_inside = refl

from_second : read (arm end end (sign 59 40 (arm (outer 1 end) (outer 20 end) end))) ≡ arm end end (sign 59 40 (arm end (outer 20 end) end))
from_second = refl

among_arms : read (outer 1 (arm end end end)) ≡ outer 1 (arm end end end)
among_arms = refl

-- Attributes stay, and so do a sign without brackets and brackets without a sign.
attribute_stays : read (arm (attribute 1 (letter 9 end)) end end) ≡ arm (attribute 1 (letter 9 end)) end end
attribute_stays = refl

sign_stays : read (arm (sign 35 1 (sign 33 1 (letter 1 end))) end end) ≡ arm (sign 35 1 (sign 33 1 (letter 1 end))) end end
sign_stays = refl

brackets_stay : read (arm (sign 36 1 (held Bracket 1 end end)) end end) ≡ arm (sign 36 1 (held Bracket 1 end end)) end end
brackets_stay = refl

-- The root's word is in a pattern too.
root_in_pattern : read (arm (alone 36 (word (codes "crate") (outer 1 end))) end end) ≡ arm (word (codes "k") end) end end
root_in_pattern = refl
