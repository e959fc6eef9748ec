-- Where the rounds of a repetition end, each time.
use Rattle.std.specs.Prelude.{ℕ, suc, ◌+◌, List, [], ◌∷◌, nat_eq, if◌then◌else◌}
use Rattle.mbe_matcher.specs.Marks.{Note, taken, begun, ended}

-- each number plus all before it, and plus the initial sum
abbrev pub sums : (so_far : ℕ) → List ℕ → List ℕ
sums so_far [] = []
sums so_far (n ∷ others) = (so_far + n) ∷ sums (so_far + n) others

-- how many rounds of that number are counted after a note
abbrev pub counted_on : (number : ℕ) → (so_far : ℕ) → Note → ℕ
counted_on number so_far (taken other trees) = so_far
counted_on number so_far (begun other) = if nat_eq other number then suc so_far else so_far
counted_on number so_far (ended other) = so_far

-- the count so far, if the note says that there is no further round; then the others
abbrev pub ends_with : (number : ℕ) → (so_far : ℕ) → Note → (behind : List ℕ) → List ℕ
ends_with number so_far (taken other trees) behind = behind
ends_with number so_far (begun other) behind = behind
ends_with number so_far (ended other) behind = if nat_eq other number then so_far ∷ behind else behind
