-- Part by part, what is left of a pattern is cut into its pieces, and becomes less.
use Rattle.std.proofs.Common.{◌≡◌, ◌+◌, ◌*◌, ◌<◌, ℕ, suc, List, [], ◌∷◌, ◌++◌, map, length, refl, ap, ap₂, sym, subst, ◌∙◌, arith, append_assoc, append-nil}
use Rattle.std.proofs.lemmas.List.{length-append, reverse-append}
use Rattle.tt.specs.Iters.{rest_of}
use Rattle.tt.specs.Types.Leaf.{Leaf}
use Rattle.mbe_matcher.specs.Marks.{pass_count, step_count}
use Rattle.mbe_pattern.specs.Dollars.{IsPart}
use Rattle.mbe_pattern.specs.Patterns.{Pattern, nothing, variable, token, subtree, repetition}
use Rattle.mbe_pattern.specs.Placed.{pattern_of}
use Rattle.mbe_pattern.specs.declared.parts.Part.{Part}
use Rattle.mbe_pattern.specs.declared.parts.Part.TheVariants as part
use Rattle.mbe_program.specs.Cutting.{LevelLeft, level_of, level_left, levels_left, bits_left, cut_by}
use Rattle.mbe_program.specs.Pieces.{Bit, plain, begin, close, bits_of, all_bits, separator_bits}
use Rattle.mbe_program.specs.Program.{take, pass, enter, leave}
use Rattle.mbe_program.specs.declared.parse.Level.{Level}

-- The last level is the innermost.
pub levels_last : (its : List Level) (it : Level) → levels_left (its ++ it ∷ []) ≡ level_left it ∷ levels_left its
levels_last its it = ap (map level_left) (reverse-append its (it ∷ []))

-- how many parts a pattern has, at any depth
abbrev pub parts : Pattern → ℕ
parts nothing = 0
parts (variable it others) = suc (parts others)
parts (token its others) = suc (parts others)
parts (subtree kind inner others) = suc (parts inner + parts others)
parts (repetition inner separator op others) = suc (parts inner + parts others)

-- how much of the levels is still to be read
abbrev pub work_of : List LevelLeft → ℕ
work_of [] = 0
work_of (level ∷ outer) = suc (2 * parts level.rest + work_of outer)

-- the same level with another rest
abbrev pub with_rest : LevelLeft → Pattern → LevelLeft
with_rest level rest = level_of rest level.ending

separator_append : (its : List Leaf) (bits : List Bit) → separator_bits its [] ++ bits ≡ separator_bits its bits
separator_append [] bits = refl
separator_append (it ∷ others) bits = refl

separator_size : (its : List Leaf) → length (separator_bits its []) ≡ pass_count (length its)
separator_size [] = refl
separator_size (it ∷ others) = refl

module _ (whole others : Pattern) (at : ℕ) (level : LevelLeft) (outer : List LevelLeft) where
  abbrev cut : Part → (List Bit × List LevelLeft)
  cut found = ((cut_by found at (with_rest level others) outer).bits, (cut_by found at (with_rest level others) outer).levels)

  rest_is : (rest : Pattern) → whole ≡ rest → bits_left at (with_rest level rest ∷ outer) ≡ bits_left at (with_rest level whole ∷ outer)
  rest_is rest is = ap (λ p. bits_left at (with_rest level p ∷ outer)) (sym is)

  -- The pieces of a part, and what is left after it, are what was left before.
  pub left_step : (found : Part) → IsPart whole found others → (cut found).0 ++ bits_left (at + length (cut found).0) (cut found).1 ≡ bits_left at (with_rest level whole ∷ outer)
  left_step part.End is =
      let next : at + 1 ≡ suc (at + 0) = omega arith in
      ap (λ n. level.ending ∷ bits_left n outer) next ∙ rest_is nothing is
  left_step (part.Variable it) is =
      let next : at + 1 ≡ suc at = omega arith in
      let after : suc (at + 1 + step_count others) ≡ suc (at + suc (step_count others)) = omega arith in
      ap₂ (λ n m. plain (take it) ∷ bits_of n others (level.ending ∷ bits_left m outer)) next after ∙ rest_is (variable it others) is
  left_step (part.Token leaves) is =
      let next : at + 1 ≡ suc at = omega arith in
      let after : suc (at + 1 + step_count others) ≡ suc (at + suc (step_count others)) = omega arith in
      ap₂ (λ n m. plain (pass leaves.items) ∷ bits_of n others (level.ending ∷ bits_left m outer)) next after ∙ rest_is (token leaves.items others) is
  left_step (part.Subtree kind inner) is =
      let own = pattern_of (rest_of inner) in
      let next : at + 1 ≡ suc at = omega arith in
      let behind : suc (suc at + step_count own) + step_count others ≡ at + suc (step_count own + suc (step_count others)) = omega arith in
      ap (λ n. plain (enter kind) ∷ bits_of n own (plain leave ∷ bits_left (suc (n + step_count own)) (with_rest level others ∷ outer))) next
      ∙ ap (λ n. plain (enter kind) ∷ bits_of (suc at) own (plain leave ∷ bits_of (suc (suc at + step_count own)) others (level.ending ∷ bits_left (suc n) outer))) behind
      ∙ rest_is (subtree kind own others) is
  left_step (part.Repetition inner tail) is =
      let own = pattern_of (rest_of inner) in
      let separator = tail.separator.items in
      let passes = pass_count (length separator) in
      let size = separator_size separator in
      let next : at + suc (length (separator_bits separator [])) ≡ suc at + passes = omega (arith, size) in
      let behind : suc (suc at + passes + step_count own) + step_count others ≡ at + suc (passes + (step_count own + suc (step_count others))) = omega arith in
      ap (λ n. begin tail.kind (suc at + passes)
      ∷ (separator_bits separator [] ++ bits_of n own (close tail.kind (suc at) ∷ bits_left (suc (n + step_count own)) (with_rest level others ∷ outer)))) next
      ∙ ap (λ l. begin tail.kind (suc at + passes) ∷ l)
      (separator_append separator (bits_of (suc at + passes) own (close tail.kind (suc at) ∷ bits_left (suc (suc at + passes + step_count own)) (with_rest level others ∷ outer))))
      ∙ ap (λ n. begin tail.kind (suc at + passes)
      ∷ separator_bits separator
      (bits_of (suc at + passes) own (close tail.kind (suc at) ∷ bits_of (suc (suc at + passes + step_count own)) others (level.ending ∷ bits_left (suc n) outer)))) behind
      ∙ rest_is (repetition own separator tail.kind others) is

  -- Less is left to read after a part.
  pub less_step : (found : Part) → IsPart whole found others → work_of (cut found).1 < work_of (with_rest level whole ∷ outer)
  less_step part.End is = let count = ap parts is in omega (arith, count)
  less_step (part.Variable it) is = let count = ap parts is in omega (arith, count)
  less_step (part.Token leaves) is = let count = ap parts is in omega (arith, count)
  less_step (part.Subtree kind inner) is = let count = ap parts is in omega (arith, count)
  less_step (part.Repetition inner tail) is = let count = ap parts is in omega (arith, count)

-- What was cut of a pattern, and what is left of it, are all of its pieces.
pub record Parse (pattern : Pattern) (bits : List Bit) (levels : List LevelLeft) : Type 0 where
  pub whole : bits ++ bits_left (length bits) levels ≡ all_bits pattern

pub parse_none : (pattern : Pattern) → Parse pattern [] (record { rest = pattern; ending = plain leave } ∷ [])
parse_none pattern = record { whole = refl }

-- One more part is cut.
pub parse_more : (pattern whole others : Pattern) (bits : List Bit) (at : ℕ) (level : LevelLeft) (outer : List LevelLeft) (found : Part) → at ≡ length bits → IsPart whole found others
    → Parse pattern bits (with_rest level whole ∷ outer)
    → Parse pattern (bits ++ (cut_by found at (with_rest level others) outer).bits) (cut_by found at (with_rest level others) outer).levels
parse_more pattern whole others bits at level outer found count is it =
    let step = cut_by found at (with_rest level others) outer in
    let long = length-append bits step.bits in
    let next : length (bits ++ step.bits) ≡ at + length step.bits = omega (arith, long, count) in
    record {
      whole = append_assoc bits step.bits (bits_left (length (bits ++ step.bits)) step.levels)
          ∙ ap (λ n. bits ++ (step.bits ++ bits_left n step.levels)) next
          ∙ ap (λ l. bits ++ l) (left_step whole others at level outer found is)
          ∙ ap (λ n. bits ++ bits_left n (with_rest level whole ∷ outer)) count
          ∙ it.whole;
    }

pub parse_same : (pattern : Pattern) (bits new_bits : List Bit) (levels new_levels : List LevelLeft) → new_bits ≡ bits → new_levels ≡ levels → Parse pattern bits levels → Parse pattern new_bits new_levels
parse_same pattern bits new_bits levels new_levels same_bits same_levels it =
    subst (Parse pattern new_bits) (sym same_levels) (subst (λ b. Parse pattern b levels) (sym same_bits) it)

-- When nothing is left, everything is cut.
pub parse_whole : (pattern : Pattern) (bits : List Bit) → Parse pattern bits [] → bits ≡ all_bits pattern
parse_whole pattern bits it = sym (append-nil bits) ∙ it.whole
