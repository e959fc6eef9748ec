-- What is refused among parts, level by level.
use Rattle.std.proofs.Common.{◌≡◌, ◌+◌, ℕ, Bool, true, false, List, [], ◌∷◌, ◌++◌, map, reverse, Option, None, Some, cond, option_to_list, refl, ap, sym, ◌∙◌, append_assoc}
use Rattle.std.proofs.lemmas.List.{reverse-append}
use Rattle.mbe_pattern.specs.declared.pattern.Fragment.{Fragment}
use Rattle.mbe_follow.specs.declared.judge.Reach as rust_reach
use Rattle.mbe_follow.specs.declared.next.Next.{Next}
use Rattle.mbe_follow.specs.Following.{may_follow, first_refused}
use Rattle.mbe_follow.specs.Judging.{Reach, before, reach_of}

-- The last level is the innermost.
pub reaches_last : (its : List rust_reach.Reach) (it : rust_reach.Reach) → map reach_of (reverse (its ++ it ∷ [])) ≡ reach_of it ∷ map reach_of (reverse its)
reaches_last its it = ap (map reach_of) (reverse-append its (it ∷ []))

-- what is refused among some parts, or otherwise that
abbrev or_else : Option ℕ → Option ℕ → Option ℕ
or_else None other = other
or_else (Some it) other = Some it

chosen : (passes : Bool) (number : ℕ) (more less other : Option ℕ) → more ≡ or_else less other → cond passes more (Some number) ≡ or_else (cond passes less (Some number)) other
chosen true number more less other is = is
chosen false number more less other is = refl

module _ (which : Fragment) where
  -- Parts before others.
  refused_before : (a b : List Next) → first_refused which (a ++ b) ≡ or_else (first_refused which a) (first_refused which b)
  refused_before [] b = refl
  refused_before (it ∷ others) b =
      chosen (may_follow which it) it.number (first_refused which (others ++ b)) (first_refused which others) (first_refused which b) (refused_before others b)

  -- What is refused among the first of them is refused, with what comes behind an open end or without.
  found_in : (is_open : Bool) (firsts end behind : List Next) (number : ℕ) → Some number ≡ first_refused which (firsts ++ cond is_open end [])
      → Some number ≡ first_refused which (firsts ++ cond is_open (end ++ behind) [])
  found_in true firsts end behind number is =
      sym
      (ap (first_refused which) (sym (append_assoc firsts end behind)) ∙ refused_before (firsts ++ end) behind
      ∙ ap (λ found. or_else found (first_refused which behind)) (sym is))
  found_in false firsts end behind number is = is

  -- Where nothing is refused, what comes behind an open end decides.
  none_in : (is_open : Bool) (firsts end behind : List Next) → None ≡ first_refused which (firsts ++ cond is_open end [])
      → first_refused which (firsts ++ cond is_open (end ++ behind) []) ≡ cond is_open (first_refused which behind) None
  none_in true firsts end behind is =
      ap (first_refused which) (sym (append_assoc firsts end behind)) ∙ refused_before (firsts ++ end) behind
      ∙ ap (λ found. or_else found (first_refused which behind)) (sym is)
  none_in false firsts end behind is = sym is

  -- what is refused in a level, up to its end
  abbrev pub in_level : Reach → Option ℕ
  in_level level = first_refused which (level.firsts ++ cond level.is_open (option_to_list level.separator) [])

  -- What is refused in the level is what is refused.
  pub level_found : (level : Reach) (behind : List Next) (number : ℕ) → Some number ≡ in_level level → Some number ≡ first_refused which (before level behind)
  level_found level behind number is = found_in level.is_open level.firsts (option_to_list level.separator) behind number is

  -- If nothing is, what comes behind an open level decides.
  pub level_none : (level : Reach) (behind : List Next) → None ≡ in_level level
      → first_refused which (before level behind) ≡ cond level.is_open (first_refused which behind) None
  level_none level behind is = none_in level.is_open level.firsts (option_to_list level.separator) behind is

  -- The parts of a level, if nothing is refused before its end.
  pub level_end : (level : Reach) → None ≡ first_refused which level.firsts → in_level level ≡ first_refused which (cond level.is_open (option_to_list level.separator) [])
  level_end level is =
      refused_before level.firsts (cond level.is_open (option_to_list level.separator) [])
      ∙ ap (λ found. or_else found (first_refused which (cond level.is_open (option_to_list level.separator) []))) (sym is)

  -- What is refused among the first parts of a level is refused in it.
  pub level_begin : (level : Reach) (number : ℕ) → Some number ≡ first_refused which level.firsts → Some number ≡ in_level level
  level_begin level number is =
      sym
      (refused_before level.firsts (cond level.is_open (option_to_list level.separator) [])
      ∙ ap (λ found. or_else found (first_refused which (cond level.is_open (option_to_list level.separator) []))) (sym is))
