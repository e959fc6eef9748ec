-- What is noted of trees, and what is left of the open levels.
use Rattle.std.proofs.Common.{◌≡◌, ◌+◌, ◌*◌, ◌++◌, ℕ, suc, Bool, List, [], ◌∷◌, map, refl, ap, sym, ◌∙◌, arith}
use Rattle.std.proofs.lemmas.List.{append_assoc, append-nil}
use Rattle.tt.specs.Forest.{size}
use Rattle.tt.specs.Iters.{rest_of}
use Rattle.expand_unused.specs.declared.choice.Choice.{Choice}
use Rattle.expand_unused.specs.declared.part.Part as part_in_code
use Rattle.expand_unused.specs.declared.walk.Level.{Level}
use Rattle.expand_unused.specs.declared.walk.Step.{Step}
use Rattle.expand_unused.specs.declared.walk.Step.TheVariants as step
use Rattle.expand_unused.specs.Parts.{Part, part_of, parts_in}
use Rattle.expand_unused.specs.Steps.{left_in, to_come, IsStep}

-- the parts left in levels, the innermost last
abbrev pub left_of : Choice → (defined : ℕ → Bool) → List Level → List Part
left_of choice defined [] = []
left_of choice defined (level ∷ inner) = left_of choice defined inner ++ left_in choice defined level

-- how much is left to do
abbrev pub work_of : List Level → ℕ
work_of [] = 0
work_of (level ∷ inner) = work_of inner + suc (2 * size (rest_of level.rest))

pub left_more : (choice : Choice) (defined : ℕ → Bool) (levels : List Level) (level : Level)
    → left_of choice defined (levels ++ level ∷ []) ≡ left_in choice defined level ++ left_of choice defined levels
left_more choice defined [] level = sym (append-nil (left_in choice defined level))
left_more choice defined (first ∷ more) level =
    ap (λ parts. parts ++ left_in choice defined first) (left_more choice defined more level)
    ∙ append_assoc (left_in choice defined level) (left_of choice defined more) (left_in choice defined first)

pub work_more : (levels : List Level) (level : Level) → work_of (levels ++ level ∷ []) ≡ suc (2 * size (rest_of level.rest)) + work_of levels
work_more [] level = omega arith
work_more (first ∷ more) level = omega (arith, work_more more level)

module _ (choice : Choice) (defined : ℕ → Bool) (levels outer : List Level) (old new : Level) (split : levels ≡ outer ++ old ∷ []) (before after : List part_in_code.Part) (all : List Part)
    (whole : map part_of before ++ left_of choice defined levels ≡ all) where
  stepped : (it : Step) → IsStep choice defined old before it new after
      → map part_of after ++ (to_come choice defined it ++ (left_in choice defined new ++ left_of choice defined outer)) ≡ all
  stepped it is =
      let a = map part_of after in
      let b = map part_of before in
      let c = to_come choice defined it in
      let d = left_in choice defined new in
      let rest = left_of choice defined outer in
      sym (append_assoc a c (d ++ rest) ∙ refl) ∙ sym (append_assoc (a ++ c) d rest) ∙ ap (λ parts. parts ++ rest) is.noted ∙ append_assoc b (left_in choice defined old) rest
      ∙ ap (λ parts. b ++ parts) (sym (ap (left_of choice defined) split ∙ left_more choice defined outer old)) ∙ whole

  pub after_over : IsStep choice defined old before step.Over new after → map part_of after ++ left_of choice defined outer ≡ all
  after_over is =
      ap (λ parts. map part_of after ++ (parts ++ left_of choice defined outer)) (sym (ap (parts_in choice defined new.passed new.left) is.less)) ∙ stepped step.Over is

  pub after_past : (nexts : List Level) → nexts ≡ outer ++ new ∷ [] → IsStep choice defined old before step.Past new after → map part_of after ++ left_of choice defined nexts ≡ all
  after_past nexts are is = ap (λ parts. map part_of after ++ parts) (ap (left_of choice defined) are ∙ left_more choice defined outer new) ∙ stepped step.Past is

  pub after_into : (inner : Level) (nexts : List Level) → nexts ≡ (outer ++ new ∷ []) ++ inner ∷ []
      → IsStep choice defined old before (step.Into inner) new after → map part_of after ++ left_of choice defined nexts ≡ all
  after_into inner nexts are is =
      ap (λ parts. map part_of after ++ parts)
      (ap (left_of choice defined) are ∙ left_more choice defined (outer ++ new ∷ []) inner ∙ ap (λ others. left_in choice defined inner ++ others) (left_more choice defined outer new))
      ∙ stepped (step.Into inner) is
