-- Part by part, what is left of a template is cut, and becomes less.
use Rattle.std.proofs.Common.{◌≡◌, ◌+◌, ◌*◌, ◌<◌, ℕ, suc, List, [], ◌∷◌, ◌++◌, map, Option, Some, None, refl, ap, sym, ◌∙◌, arith, append_assoc}
use Rattle.std.proofs.lemmas.List.{reverse-append}
use Rattle.mbe_pattern.specs.declared.dollar.Tail.{Tail}
use Rattle.mbe_matcher.specs.Grouping.{Where}
use Rattle.mbe_rules.specs.declared.parse.Level.{Level}
use Rattle.mbe_rules.specs.declared.first.First.{First}
use Rattle.mbe_rules.specs.declared.first.First.TheVariants as first
use Rattle.mbe_rules.specs.Parts.{Bit, bits_of}
use Rattle.mbe_rules.specs.declared.error.TemplateError.{TemplateError}
use Rattle.mbe_rules.specs.declared.error.TemplateError.TheVariants as error
use Rattle.mbe_rules.specs.SpellingFaults.{or_else, IsFault}
use Rattle.mbe_rules.specs.Stepping.{IsFirst, LevelLeft, level_of, level_left, levels_left, end_bit, bits_left, stepped, level_fault, fault_in, fault_left}
use Rattle.mbe_rules.specs.Templates.{Template, nothing, use_of, token, subtree, repetition}

-- how many parts a template has, at any depth
abbrev pub parts : Template → ℕ
parts nothing = 0
parts (use_of at variable less_follows others) = suc (parts others)
parts (token it others) = suc (parts others)
parts (subtree delimiter inner others) = suc (parts inner + parts others)
parts (repetition at inner separator kind others) = suc (parts inner + parts others)

-- how much of the levels is still to be read
abbrev pub work_of : List LevelLeft → ℕ
work_of [] = 0
work_of (level ∷ outer) = suc (2 * parts level.rest + work_of outer)

-- The last level is the innermost.
pub levels_last : (variables : List Where) (its : List Level) (it : Level) → levels_left variables (its ++ it ∷ []) ≡ level_left variables it ∷ levels_left variables its
levels_last variables its it = ap (map (level_left variables)) (reverse-append its (it ∷ []))

module _ (variables : List Where) (whole others : Template) (closing : Option Tail) (outer : List LevelLeft) where
  -- A part, and what is left after it, are what was left before.
  pub left_step : (found : First) → IsFirst variables whole found others
      → (stepped variables found (level_of others closing) outer).bit ∷ bits_left (stepped variables found (level_of others closing) outer).levels
      ≡ bits_left (level_of whole closing ∷ outer)
  left_step first.End is = ap (λ t. bits_of t (end_bit closing ∷ bits_left outer)) (sym is)
  left_step (first.Use at variable less_follows) is = ap (λ t. bits_of t (end_bit closing ∷ bits_left outer)) (sym is)
  left_step (first.Token it) is = ap (λ t. bits_of t (end_bit closing ∷ bits_left outer)) (sym is)
  left_step (first.Subtree delimiter inner until) is = ap (λ t. bits_of t (end_bit closing ∷ bits_left outer)) (sym is)
  left_step (first.Repetition at inner until tail) is = ap (λ t. bits_of t (end_bit closing ∷ bits_left outer)) (sym is)

  -- Less is left to read after it.
  pub less_step : (found : First) → IsFirst variables whole found others
      → work_of (stepped variables found (level_of others closing) outer).levels < work_of (level_of whole closing ∷ outer)
  less_step first.End is = omega arith
  less_step (first.Use at variable less_follows) is = omega (arith, ap parts is)
  less_step (first.Token it) is = omega (arith, ap parts is)
  less_step (first.Subtree delimiter inner until) is = omega (arith, ap parts is)
  less_step (first.Repetition at inner until tail) is = omega (arith, ap parts is)

  -- So the whole stays the same.
  pub whole_step : (bits all : List Bit) (found : First) → IsFirst variables whole found others → bits ++ bits_left (level_of whole closing ∷ outer) ≡ all
      → (bits ++ (stepped variables found (level_of others closing) outer).bit ∷ []) ++ bits_left (stepped variables found (level_of others closing) outer).levels ≡ all
  whole_step bits all found is before =
      let step = stepped variables found (level_of others closing) outer in
      append_assoc bits (step.bit ∷ []) (bits_left step.levels) ∙ ap (λ l. bits ++ l) (left_step found is) ∙ before

-- The fault of the innermost level comes first.
pub fault_last : (its : List Level) (it : Level) → fault_left (its ++ it ∷ []) ≡ or_else (level_fault it) (fault_left its)
fault_last its it = ap fault_in (reverse-append its (it ∷ []))

-- So it does if there are two.
pub fault_two : (its : List Level) (outer inner : Level)
    → fault_left ((its ++ outer ∷ []) ++ inner ∷ []) ≡ or_else (or_else (level_fault inner) (level_fault outer)) (fault_left its)
fault_two its outer inner = fault_last (its ++ outer ∷ []) inner ∙ ap (or_else (level_fault inner)) (fault_last its outer) ∙ by (level_fault inner)
  where
    by : (it : Option TemplateError) → or_else it (or_else (level_fault outer) (fault_left its)) ≡ or_else (or_else it (level_fault outer)) (fault_left its)
    by None = refl
    by (Some why) = refl

-- A fault of the innermost level is the first.
pub fault_first : (levels : List Level) (level : Level) (why : TemplateError) (all : Option TemplateError)
    → IsFault (level_fault level) why → fault_left (levels ++ level ∷ []) ≡ all → IsFault all why
fault_first levels level error.Memory all is same = tt
fault_first levels level (error.BeginsNothing at) all is same = sym same ∙ fault_last levels level ∙ ap (λ f. or_else f (fault_left levels)) is
fault_first levels level (error.NoOperator at) all is same = sym same ∙ fault_last levels level ∙ ap (λ f. or_else f (fault_left levels)) is
fault_first levels level (error.NeedlessSeparator at) all is same = sym same ∙ fault_last levels level ∙ ap (λ f. or_else f (fault_left levels)) is
