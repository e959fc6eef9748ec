-- Positions that are laid level by level.
use Rattle.std.proofs.Common.{◌≡◌, inl, inr, ◌+◌, ◌<◌, ℕ, zero, suc, true, false, List, [], ◌∷◌, ◌++◌, length, refl, ap, sym, subst, ◌∙◌, arith}
use Rattle.std.proofs.lemmas.List.{length-append}
use Rattle.std.specs.Prelude.{◌⊎◌, Contains, slice_index_or}
use Rattle.tt.specs.Forest.{Forest, end, leaf, node, size}
use Rattle.tt.specs.Moves.{after_tree}
use Rattle.tt.specs.Siblings.{children_of, is_end}
use Rattle.tt.specs.Types.Delimiter.{Delimiter}
use Rattle.tt.specs.Types.DelimiterKind.{DelimiterKind}
use Rattle.mbe_pattern.specs.Units.{IsNodeOf}
use Rattle.mbe_program.specs.Program.{Instruction, enter}
use Rattle.mbe_program.specs.Laying.{Spot, spot, level_spots, IsSpot, AreLaid}

-- the positions of a level after its first
abbrev pub more_spots : (outside behind : ℕ) → Forest → List Spot
more_spots outside behind end = []
more_spots outside behind (leaf it rest) = level_spots outside behind rest
more_spots outside behind (node delimiter children rest) = level_spots outside behind rest

pub level_first : (outside behind : ℕ) (trees : Forest) → level_spots outside behind trees ≡ spot outside behind trees ∷ more_spots outside behind trees
level_first outside behind end = refl
level_first outside behind (leaf it rest) = refl
level_first outside behind (node delimiter children rest) = refl

pub more_next : (outside behind : ℕ) (trees : Forest) → is_end trees ≡ false → more_spots outside behind trees ≡ level_spots outside behind (after_tree trees)
more_next outside behind end goes = absurd (cc goes)
more_next outside behind (leaf it rest) goes = refl
more_next outside behind (node delimiter children rest) goes = refl

pub more_none : (outside behind : ℕ) (trees : Forest) → is_end trees ≡ true → more_spots outside behind trees ≡ []
more_none outside behind end over = refl
more_none outside behind (leaf it rest) over = absurd (cc over)
more_none outside behind (node delimiter children rest) over = absurd (cc over)

pub next_less : (trees : Forest) → is_end trees ≡ false → size (after_tree trees) < size trees
next_less end goes = absurd (cc goes)
next_less (leaf it rest) goes = omega arith
next_less (node delimiter children rest) goes = omega arith

-- What is in lists that were put together.
pub spot_before : (xs ys : List Spot) (n : ℕ) (it : Spot) → IsSpot xs n it → IsSpot (xs ++ ys) n it
spot_before [] ys n it is = absurd is
spot_before (x ∷ xs) ys zero it is = is
spot_before (x ∷ xs) ys (suc n) it is = spot_before xs ys n it is

pub spot_behind : (xs ys : List Spot) (n : ℕ) (it : Spot) → IsSpot ys n it → IsSpot (xs ++ ys) (length xs + n) it
spot_behind [] ys n it is = let same : n ≡ 0 + n = omega arith in subst (λ k. IsSpot ys k it) same is
spot_behind (x ∷ xs) ys n it is =
    let same : suc (length xs + n) ≡ suc (length xs) + n = omega arith in
    subst (λ k. IsSpot (x ∷ (xs ++ ys)) k it) same (spot_behind xs ys n it is)

pub spot_either : (xs ys : List Spot) (n : ℕ) (it : Spot) → IsSpot (xs ++ ys) n it → IsSpot xs n it ⊎ ((k : ℕ) × (n ≡ length xs + k) × IsSpot ys k it)
spot_either [] ys n it is = inr (n, omega arith, is)
spot_either (x ∷ xs) ys zero it is = inl is
spot_either (x ∷ xs) ys (suc n) it is = elim (spot_either xs ys n it is) [ inl own ↦ inl own | inr (k, same, there) ↦ inr (k, omega (arith, same), there) ]

pub spot_within : (xs : List Spot) (n : ℕ) (it : Spot) → IsSpot xs n it → n < length xs
spot_within [] n it is = absurd is
spot_within (x ∷ xs) zero it is = omega arith
spot_within (x ∷ xs) (suc n) it is = let less = spot_within xs n it is in omega (arith, less)

pub spot_once : (xs : List Spot) (n : ℕ) (it other : Spot) → IsSpot xs n it → IsSpot xs n other → it ≡ other
spot_once [] n it other is was = absurd is
spot_once (x ∷ xs) zero it other is was = is ∙ sym was
spot_once (x ∷ xs) (suc n) it other is was = spot_once xs n it other is was

-- a position of a level
pub record IsInLevel (outside behind : ℕ) (trees : Forest) (n : ℕ) (it : Spot) : Type 0 where
  pub out : it.outside ≡ outside
  pub left : it.left ≡ size it.trees + behind
  pub next : (it.trees ≡ end → ⊥) → (other : Spot) × IsSpot (level_spots outside behind trees) (suc n) other × (other.trees ≡ after_tree it.trees) × (other.outside ≡ it.outside)

level_start : (outside behind : ℕ) (trees : Forest) → IsSpot (level_spots outside behind trees) 0 (spot outside behind trees)
level_start outside behind end = refl
level_start outside behind (leaf it rest) = refl
level_start outside behind (node delimiter children rest) = refl

in_level : (outside behind : ℕ) (trees : Forest) (n : ℕ) (it : Spot) → IsSpot (level_spots outside behind trees) n it → IsInLevel outside behind trees n it
in_level outside behind end zero it is =
    record {
      out = ap (λ (it : Spot). it.outside) is;
      left = ap (λ (it : Spot). it.left) is ∙ ap (λ (it : Spot). size it.trees + behind) (sym is);
      next = λ goes. absurd (goes (ap (λ (it : Spot). it.trees) is));
    }
in_level outside behind end (suc n) it is = absurd is
in_level outside behind (leaf own rest) zero it is =
    record {
      out = ap (λ (it : Spot). it.outside) is;
      left = ap (λ (it : Spot). it.left) is ∙ ap (λ (it : Spot). size it.trees + behind) (sym is);
      next = λ goes. (spot outside behind rest, level_start outside behind rest, ap (λ (it : Spot). after_tree it.trees) (sym is), ap (λ (it : Spot). it.outside) (sym is));
    }
in_level outside behind (leaf own rest) (suc n) it is =
    let inner = in_level outside behind rest n it is in
    record { out = inner.out; left = inner.left; next = λ goes. inner.next goes }
in_level outside behind (node delimiter children rest) zero it is =
    record {
      out = ap (λ (it : Spot). it.outside) is;
      left = ap (λ (it : Spot). it.left) is ∙ ap (λ (it : Spot). size it.trees + behind) (sym is);
      next = λ goes. (spot outside behind rest, level_start outside behind rest, ap (λ (it : Spot). after_tree it.trees) (sym is), ap (λ (it : Spot). it.outside) (sym is));
    }
in_level outside behind (node delimiter children rest) (suc n) it is =
    let inner = in_level outside behind rest n it is in
    record { out = inner.out; left = inner.left; next = λ goes. inner.next goes }

-- The first level.
pub laid_first : (program : List Instruction) (input : Forest) → AreLaid program input (spot 0 0 end ∷ level_spots 0 0 input) (0 ∷ [])
laid_first program input =
    record {
      nowhere = (spot 0 0 end, refl, refl, refl);
      first = (spot 0 0 input, level_start 0 0 input, refl, refl);
      next = next;
      out = out;
      into = λ n it some less. absurd (omega (arith, some, less));
    }
  where
    next : (n : ℕ) (it : Spot) → 0 < n → IsSpot (spot 0 0 end ∷ level_spots 0 0 input) n it → (it.trees ≡ end → ⊥)
        → (other : Spot) × IsSpot (spot 0 0 end ∷ level_spots 0 0 input) (suc n) other × (other.trees ≡ after_tree it.trees) × (other.outside ≡ it.outside)
    next zero it some is goes = absurd (omega (arith, some))
    next (suc n) it some is goes = (in_level 0 0 input n it is).next goes

    out : (n : ℕ) (it : Spot) → IsSpot (spot 0 0 end ∷ level_spots 0 0 input) n it
        → (other : Spot) × IsSpot (spot 0 0 end ∷ level_spots 0 0 input) it.outside other × (0 < n → it.left ≡ size it.trees + other.left)
    out zero it is = (
      spot 0 0 end,
      subst (λ k. IsSpot (spot 0 0 end ∷ level_spots 0 0 input) k (spot 0 0 end)) (sym (ap (λ (it : Spot). it.outside) is)) refl,
      λ some. absurd (omega (arith, some)),
    )
    out (suc n) it is =
        let own = in_level 0 0 input n it is in
        (spot 0 0 end, subst (λ k. IsSpot (spot 0 0 end ∷ level_spots 0 0 input) k (spot 0 0 end)) (sym own.out) refl, λ some. own.left)

index_before : (its : List ℕ) (other n : ℕ) → n < length its → slice_index_or (its ++ other ∷ []) n 0 ≡ slice_index_or its n 0
index_before [] other n less = absurd (omega (arith, less))
index_before (it ∷ its) other zero less = refl
index_before (it ∷ its) other (suc n) less = index_before its other n (omega (arith, less))

index_last : (its : List ℕ) (other : ℕ) → slice_index_or (its ++ other ∷ []) (length its) 0 ≡ other
index_last [] other = refl
index_last (it ∷ its) other = index_last its other

either_less : (n k : ℕ) → n < suc k → (n < k) ⊎ (n ≡ k)
either_less n k less = grind (arith, less)

module _ (program : List Instruction) (input : Forest) (spots : List Spot) (insides : List ℕ) (laid : AreLaid program input spots insides) where
  -- A first tree that the program does not enter holds nothing.
  pub laid_none : (it : Spot) → IsSpot spots (length insides) it → ((kind : DelimiterKind) → Contains program (enter kind) → IsNodeOf kind it.trees → ⊥) → AreLaid program input spots (insides ++ 0 ∷ [])
  laid_none it there none = record { nowhere = laid.nowhere; first = laid.first; next = laid.next; out = laid.out; into = into }
    where
      into : (n : ℕ) (other : Spot) → 0 < n → n < length (insides ++ 0 ∷ []) → IsSpot spots n other → (kind : DelimiterKind) → Contains program (enter kind) → IsNodeOf kind other.trees
          → (0 < slice_index_or (insides ++ 0 ∷ []) n 0) × ((inner : Spot) × IsSpot spots (slice_index_or (insides ++ 0 ∷ []) n 0) inner × (inner.trees ≡ children_of other.trees) × (inner.outside ≡ suc n))
      into n other some less is kind enters node_is =
          let count = length-append insides (0 ∷ []) in
          elim (either_less n (length insides) (omega (arith, less, count))) [
            | inl before ↦
                let old = laid.into n other some before is kind enters node_is in
                subst (λ k. (0 < k) × ((inner : Spot) × IsSpot spots k inner × (inner.trees ≡ children_of other.trees) × (inner.outside ≡ suc n))) (sym (index_before insides 0 n before)) old
            | inr same ↦ absurd (none kind enters (subst (λ (it : Spot). IsNodeOf kind it.trees) (spot_once spots n other it is (subst (λ k. IsSpot spots k it) (sym same) there)) node_is))
          ]

  -- What a subtree holds is laid behind all other positions.
  module _ (it behind : Spot) (delimiter : Delimiter) (children rest : Forest) (some : 0 < length insides) (there : IsSpot spots (length insides) it) (trees_are : it.trees ≡ node delimiter children rest)
      (next_there : IsSpot spots (suc (length insides)) behind) where
    abbrev level : List Spot
    level = level_spots (suc (length insides)) behind.left children

    abbrev news : List Spot
    news = spots ++ level

    abbrev new_insides : List ℕ
    new_insides = insides ++ length spots ∷ []

    now_next : (n : ℕ) (other : Spot) → 0 < n → IsSpot news n other → (other.trees ≡ end → ⊥) → (after : Spot) × IsSpot news (suc n) after × (after.trees ≡ after_tree other.trees) × (after.outside ≡ other.outside)
    now_next n other positive is goes =
        elim (spot_either spots level n other is) [
          | inl old ↦ let found = laid.next n other positive old goes in (found.0, spot_before spots level (suc n) found.0 found.1, found.2, found.3)
          | inr (k, same, own) ↦
              let found = (in_level (suc (length insides)) behind.left children k other own).next goes in
              let number : length spots + suc k ≡ suc n = omega (arith, same) in
              (found.0, subst (λ n. IsSpot news n found.0) number (spot_behind spots level (suc k) found.0 found.1), found.2, found.3)
        ]

    now_out : (n : ℕ) (other : Spot) → IsSpot news n other → (around : Spot) × IsSpot news other.outside around × (0 < n → other.left ≡ size other.trees + around.left)
    now_out n other is =
        elim (spot_either spots level n other is) [
          | inl old ↦ let found = laid.out n other old in (found.0, spot_before spots level other.outside found.0 found.1, found.2)
          | inr (k, same, own) ↦
              let found = in_level (suc (length insides)) behind.left children k other own in
              (behind, subst (λ n. IsSpot news n behind) (sym found.out) (spot_before spots level (suc (length insides)) behind next_there), λ positive. found.left)
        ]

    now_into : (n : ℕ) (other : Spot) → 0 < n → n < length new_insides → IsSpot news n other → (kind : DelimiterKind) → Contains program (enter kind) → IsNodeOf kind other.trees
        → (0 < slice_index_or new_insides n 0) × ((inner : Spot) × IsSpot news (slice_index_or new_insides n 0) inner × (inner.trees ≡ children_of other.trees) × (inner.outside ≡ suc n))
    now_into n other positive less is kind enters node_is =
        let count = length-append insides (length spots ∷ []) in
        elim (either_less n (length insides) (omega (arith, less, count))) [
          | inl before ↦
              let found = laid.into n other positive before (old n other before is) kind enters node_is in
              subst (λ k. (0 < k) × ((inner : Spot) × IsSpot news k inner × (inner.trees ≡ children_of other.trees) × (inner.outside ≡ suc n))) (sym (index_before insides (length spots) n before))
              (found.0, (found.1.0, spot_before spots level (slice_index_or insides n 0) found.1.0 found.1.1, found.1.2, found.1.3))
          | inr same ↦ here same
        ]
      where
        within : length insides < length spots
        within = spot_within spots (length insides) it there

        old : (n : ℕ) (other : Spot) → n < length insides → IsSpot news n other → IsSpot spots n other
        old n other before is =
            elim (spot_either spots level n other is) [
              | inl own ↦ own
              | inr (k, same, own) ↦ absurd (omega (arith, before, same, within))
            ]

        here : n ≡ length insides
            → (0 < slice_index_or new_insides n 0) × ((inner : Spot) × IsSpot news (slice_index_or new_insides n 0) inner × (inner.trees ≡ children_of other.trees) × (inner.outside ≡ suc n))
        here same =
            let one : other ≡ it = spot_once news n other it is (subst (λ n. IsSpot news n it) (sym same) (spot_before spots level (length insides) it there)) in
            let index : slice_index_or new_insides n 0 ≡ length spots = ap (λ n. slice_index_or new_insides n 0) same ∙ index_last insides (length spots) in
            let at : length spots + 0 ≡ length spots = omega arith in
            let holds : children ≡ children_of other.trees = sym (ap (λ (other : Spot). children_of other.trees) one ∙ ap children_of trees_are) in
            subst (λ k. (0 < k) × ((inner : Spot) × IsSpot news k inner × (inner.trees ≡ children_of other.trees) × (inner.outside ≡ suc n))) (sym index) (
              omega (arith, within),
              (
                spot (suc (length insides)) behind.left children,
                subst (λ n. IsSpot news n (spot (suc (length insides)) behind.left children)) at (spot_behind spots level 0 (spot (suc (length insides)) behind.left children) (level_start (suc (length insides)) behind.left children)),
                holds,
                ap suc (sym same),
              ),
            )

    pub laid_more : AreLaid program input news new_insides
    laid_more =
        record {
          nowhere = (laid.nowhere.0, spot_before spots level 0 laid.nowhere.0 laid.nowhere.1, laid.nowhere.2, laid.nowhere.3);
          first = (laid.first.0, spot_before spots level 1 laid.first.0 laid.first.1, laid.first.2, laid.first.3);
          next = now_next;
          out = now_out;
          into = now_into;
        }
