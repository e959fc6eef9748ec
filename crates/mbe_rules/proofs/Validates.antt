-- Judged by its parts from the last to the first, a template has its first fault.
use Rattle.std.proofs.Common.{◌≡◌, ℕ, suc, List, [], ◌∷◌, length, Option, None, Some, refl, ap, ap₂, sym, ◌∙◌, arith}
use Rattle.mbe_matcher.specs.Grouping.{Where}
use Rattle.mbe_rules.specs.declared.transcribe_error.TranscribeError.{TranscribeError}
use Rattle.mbe_rules.specs.Faults.{or_else, use_fault, round_fault, fault_at, template_fault}
use Rattle.mbe_rules.specs.Validating.{Validation, raised, begun, used_with, validated_with, validated_of}
use Rattle.mbe_rules.specs.Parts.{Bit, leave, begin, close, bits_of, all_bits}
use Rattle.mbe_rules.specs.Templates.{Template, nothing, use_of, token, subtree, repetition, depth_of, greater, deepest}

greater_more : (a b c : ℕ) → greater a (greater b c) ≡ greater (greater a b) c
greater_more a b c = omega arith

greater_none : (a : ℕ) → greater a 0 ≡ a
greater_none a = omega arith

none_greater : (a : ℕ) → greater 0 a ≡ a
none_greater a = omega arith

raised_more : (a b : ℕ) (its : List ℕ) → raised a (raised b its) ≡ raised (greater a b) its
raised_more a b [] = refl
raised_more a b (it ∷ outer) = ap (λ d. d ∷ outer) (greater_more a b it)

raised_none : (its : List ℕ) → raised 0 its ≡ its
raised_none [] = refl
raised_none (it ∷ outer) = ap (λ d. d ∷ outer) (none_greater it)

raised_length : (a : ℕ) (its : List ℕ) → length (raised a its) ≡ length its
raised_length a [] = refl
raised_length a (it ∷ outer) = refl

or_else_more : (a b c : Option TranscribeError) → or_else a (or_else b c) ≡ or_else (or_else a b) c
or_else_more None b c = refl
or_else_more (Some it) b c = refl

or_else_none : (a : Option TranscribeError) → or_else a None ≡ a
or_else_none None = refl
or_else_none (Some it) = refl

-- what is judged
abbrev validated : Option TranscribeError → List ℕ → Validation
validated fault depths = record { fault = fault; depths = depths }

-- one more template, from the last part to the first
abbrev validated_on : List Where → Template → Validation → Validation
validated_on variables template it =
    validated (or_else (fault_at variables (length it.depths) template) it.fault) (raised (deepest variables template) it.depths)

-- Two faults, one after the other.
both : (f : ℕ → Option TranscribeError) (a b : ℕ) (g : Option TranscribeError) (it : Validation)
    → validated (or_else (f (length (raised b it.depths))) (or_else g it.fault)) (raised a (raised b it.depths))
    ≡ validated (or_else (or_else (f (length it.depths)) g) it.fault) (raised (greater a b) it.depths)
both f a b g it =
    ap₂ validated (ap (λ n. or_else (f n) (or_else g it.fault)) (raised_length b it.depths) ∙ or_else_more (f (length it.depths)) g it.fault) (raised_more a b it.depths)

module _ (variables : List Where) where
  -- The parts of a template, before others.
  pub validated_parts : (template : Template) (behind : List Bit) → validated_of variables (bits_of template behind) ≡ validated_on variables template (validated_of variables behind)
  validated_parts nothing behind = let it = validated_of variables behind in ap (validated it.fault) (sym (raised_none it.depths))
  validated_parts (use_of at variable less_follows others) behind =
      let it = validated_of variables behind in
      let d = depth_of variables variable in
      ap (used_with at d) (validated_parts others behind)
      ∙ both (λ n. use_fault at n d) d (deepest variables others) (fault_at variables (length it.depths) others) it
  validated_parts (token it others) behind = validated_parts others behind
  validated_parts (subtree delimiter inner others) behind =
      let it = validated_of variables behind in
      validated_parts inner (leave ∷ bits_of others behind)
      ∙ ap (validated_on variables inner) (validated_parts others behind)
      ∙ both (λ n. fault_at variables n inner) (deepest variables inner) (deepest variables others) (fault_at variables (length it.depths) others) it
  validated_parts (repetition at inner separator kind others) behind =
      let it = validated_of variables behind in
      let d = deepest variables inner in
      let here : ℕ → Option TranscribeError = λ n. or_else (round_fault at n d) (fault_at variables (suc n) inner) in
      let opened : Validation → Validation = λ j. begun at (greater d 0 ∷ j.depths) (or_else (fault_at variables (suc (length j.depths)) inner) j.fault) in
      let closed : Validation → Validation = λ j. validated (or_else (round_fault at (length j.depths) d) (or_else (fault_at variables (suc (length j.depths)) inner) j.fault)) (raised d j.depths) in
      let same : (j : Validation) → opened j ≡ closed j = λ j.
      ap (λ n. validated (or_else (round_fault at (length j.depths) n) (or_else (fault_at variables (suc (length j.depths)) inner) j.fault)) (raised n j.depths)) (greater_none d) in
      let rest = validated_on variables others it in
      ap (validated_with variables (begin at)) (validated_parts inner (close separator kind ∷ bits_of others behind))
      ∙ ap opened (validated_parts others behind)
      ∙ same rest
      ∙ ap (λ f. validated f (raised d rest.depths)) (or_else_more (round_fault at (length rest.depths) d) (fault_at variables (suc (length rest.depths)) inner) rest.fault)
      ∙ both here d (deepest variables others) (fault_at variables (length it.depths) others) it
      ∙ ap (λ f. validated f (raised (greater d (deepest variables others)) it.depths))
      (ap (λ g. or_else g it.fault) (sym (or_else_more (round_fault at (length it.depths) d) (fault_at variables (suc (length it.depths)) inner) (fault_at variables (length it.depths) others))))

  -- The parts of a whole template.
  pub validated_whole : (template : Template) → (validated_of variables (all_bits template)).fault ≡ template_fault variables template
  validated_whole template = ap (λ j. j.fault) (validated_parts template (leave ∷ [])) ∙ or_else_none (template_fault variables template)
