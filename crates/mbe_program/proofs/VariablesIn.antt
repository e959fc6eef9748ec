-- The variables of a pattern's program are those of the pattern.
use Rattle.std.proofs.Common.{◌≡◌, ◌+◌, ℕ, suc, List, [], ◌∷◌, ◌++◌, map, reverse, length, refl, ap, ap₂, sym, ◌∙◌, append_assoc, append-nil}
use Rattle.std.proofs.lemmas.List.{map-append, reverse-append}
use Rattle.tt.specs.Types.Leaf.{Leaf}
use Rattle.mbe_matcher.specs.Grouping.{Where, held_in, variables_of}
use Rattle.mbe_matcher.specs.Marks.{step_count}
use Rattle.mbe_pattern.specs.Patterns.{Pattern, nothing, variable, token, subtree, repetition}
use Rattle.mbe_pattern.specs.declared.pattern.Variable.{Variable}
use Rattle.mbe_program.specs.Program.{Instruction, leave, close, again_at, instructions_before, separator_before, program_of}
use Rattle.mbe_program.specs.Variables.{variables_in}
use Rattle.mbe_program.proofs.Placed.{length_is}

-- the variable in these repetitions too, the innermost first
abbrev within : (nest : List ℕ) → Where → Where
within nest it = record { variable = it.variable; number = it.number; nest = reverse nest ++ it.nest }

abbrev where_at : Variable → (number : ℕ) → (nest : List ℕ) → Where
where_at it number nest = record { variable = it; number = number; nest = nest }

within_more : (number : ℕ) (nest : List ℕ) (its : List Where) → map (within (number ∷ nest)) its ≡ map (within nest) (map (held_in number) its)
within_more number nest [] = refl
within_more number nest (it ∷ others) =
    let more : reverse (number ∷ nest) ++ it.nest ≡ reverse nest ++ (number ∷ it.nest) =
    ap (λ l. l ++ it.nest) (reverse-append (number ∷ []) nest) ∙ append_assoc (reverse nest) (number ∷ []) it.nest in
    ap₂ (λ (own : List ℕ) (rest : List Where). where_at it.variable it.number own ∷ rest) more (within_more number nest others)

within_none : (its : List Where) → map (within []) its ≡ its
within_none [] = refl
within_none (it ∷ others) = ap (λ (rest : List Where). it ∷ rest) (within_none others)

behind_separator : (nest : List ℕ) (separator : List Leaf) (round : List Instruction) → variables_in nest (separator_before separator round) ≡ variables_in nest round
behind_separator nest [] round = refl
behind_separator nest (it ∷ others) round = refl

-- The variables of a pattern's instructions come before those of the instructions behind them.
variables_before : (nest : List ℕ) (pattern : Pattern) (behind : List Instruction) (number : ℕ) → length behind ≡ number
    → variables_in nest (instructions_before pattern behind) ≡ map (within nest) (variables_of pattern number) ++ variables_in nest behind
variables_before nest nothing behind number count = refl
variables_before nest (variable it others) behind number count =
    let numbered : length (instructions_before others behind) ≡ step_count others + number = length_is others behind ∙ ap (λ n. step_count others + n) count in
    let whole : reverse nest ≡ reverse nest ++ [] = sym (append-nil (reverse nest)) in
    ap₂ (λ (n : ℕ) (own : List ℕ). where_at it n own ∷ variables_in nest (instructions_before others behind)) numbered whole
    ∙ ap (λ (rest : List Where). where_at it (step_count others + number) (reverse nest ++ []) ∷ rest) (variables_before nest others behind number count)
variables_before nest (token its others) behind number count = variables_before nest others behind number count
variables_before nest (subtree kind inner others) behind number count =
    let after = instructions_before others behind in
    let numbered : length after ≡ step_count others + number = length_is others behind ∙ ap (λ n. step_count others + n) count in
    let own = variables_of inner (suc (step_count others + number)) in
    let more = variables_of others number in
    variables_before nest inner (leave ∷ after) (suc (step_count others + number)) (ap suc numbered)
    ∙ ap (λ l. map (within nest) own ++ l) (variables_before nest others behind number count)
    ∙ sym (append_assoc (map (within nest) own) (map (within nest) more) (variables_in nest behind))
    ∙ ap (λ l. l ++ variables_in nest behind) (sym (map-append (within nest) own more))
variables_before nest (repetition inner separator op others) behind number count =
    let after = instructions_before others behind in
    let numbered : length after ≡ step_count others + number = length_is others behind ∙ ap (λ n. step_count others + n) count in
    let ends = close op (again_at separator (step_count inner) (length after)) ∷ after in
    let own = variables_of inner (suc (step_count others + number)) in
    let held = map (held_in (step_count others + number)) own in
    let more = variables_of others number in
    behind_separator (length after ∷ nest) separator (instructions_before inner ends)
    ∙ variables_before (length after ∷ nest) inner ends (suc (step_count others + number)) (ap suc numbered)
    ∙ ap₂ (λ n l. map (within (n ∷ nest)) own ++ l) numbered (variables_before nest others behind number count)
    ∙ ap (λ l. l ++ (map (within nest) more ++ variables_in nest behind)) (within_more (step_count others + number) nest own)
    ∙ sym (append_assoc (map (within nest) held) (map (within nest) more) (variables_in nest behind))
    ∙ ap (λ l. l ++ variables_in nest behind) (sym (map-append (within nest) held more))

-- So those of a whole program are those of its pattern.
pub variables_whole : (pattern : Pattern) → variables_in [] (program_of pattern) ≡ variables_of pattern 1
variables_whole pattern = variables_before [] pattern (leave ∷ []) 1 refl ∙ append-nil (map (within []) (variables_of pattern 1)) ∙ within_none (variables_of pattern 1)
