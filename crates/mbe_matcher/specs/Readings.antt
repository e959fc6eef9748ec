-- When trees are an instance of a pattern, and by which readings.
use Rattle.std.specs.Prelude.{◌≡◌, true, List, [], ◌∷◌, length}
use Rattle.tt.specs.Forest.{Forest, end}
use Rattle.tt.specs.Gluing.{after_trees}
use Rattle.tt.specs.Moves.{after_tree}
use Rattle.tt.specs.Siblings.{children_of}
use Rattle.tt.specs.Types.Leaf.{Leaf}
use Rattle.mbe_pattern.specs.declared.pattern.RepeatKind.{RepeatKind}
use Rattle.mbe_matcher.specs.Fragments.{takes, taken, left_by}
use Rattle.mbe_pattern.specs.Patterns.{Pattern, nothing, variable, token, subtree, repetition, may_be_none, may_be_more}
use Rattle.mbe_pattern.specs.Units.{IsUnitLike, IsNodeOf}

-- how a pattern is read, part by part: the trees that a variable took, how a subtree's inside is read, a round of a repetition with the
-- rounds and parts after it, or that there is no further round
pub data Reading : Type 0 where
  done : Reading
  took : Forest → Reading → Reading
  held : Reading → Reading → Reading
  round : Reading → Reading → Reading
  over : Reading → Reading

-- the trees that the first part, a variable, took
abbrev pub trees_taken : Reading → Forest
trees_taken done = end
trees_taken (took trees more) = trees
trees_taken (held inside more) = end
trees_taken (round this others) = end
trees_taken (over more) = end

-- how the inside of the first part, a subtree, is read
abbrev pub inside_of : Reading → Reading
inside_of done = done
inside_of (took trees more) = done
inside_of (held inside more) = inside
inside_of (round this others) = done
inside_of (over more) = done

-- how what follows the first part is read
abbrev pub more_of : Reading → Reading
more_of done = done
more_of (took trees more) = more
more_of (held inside more) = more
more_of (round this others) = others
more_of (over more) = more

-- the separator, if there is one, precedes the rest
abbrev pub Separates : (separator : List Leaf) → (input rest : Forest) → Type 0
Separates [] input rest = rest ≡ input
Separates (it ∷ others) input rest = IsUnitLike (it ∷ others) input × (rest ≡ after_trees (length (it ∷ others)) input)

module _ (op : RepeatKind) (separator : List Leaf) (One : Forest → Reading → Forest → Type 0) (Behind : Forest → Reading → Type 0) where
  -- after a round: no other, or a separator and then another round
  abbrev pub AreOtherRounds : (input : Forest) → Reading → Type 0
  AreOtherRounds input done = ⊥
  AreOtherRounds input (took trees more) = ⊥
  AreOtherRounds input (held inside more) = ⊥
  AreOtherRounds input (round this others) =
      (start : Forest) × (rest : Forest) × (may_be_more op ≡ true) × Separates separator input start × One start this rest × AreOtherRounds rest others
  AreOtherRounds input (over more) = Behind input more

  -- rounds with separators between them, and what follows; no round only if there may be none
  abbrev pub AreRounds : (input : Forest) → Reading → Type 0
  AreRounds input done = ⊥
  AreRounds input (took trees more) = ⊥
  AreRounds input (held inside more) = ⊥
  AreRounds input (round this others) = (rest : Forest) × One input this rest × AreOtherRounds rest others
  AreRounds input (over more) = (may_be_none op ≡ true) × Behind input more

-- the pattern takes the trees up to the rest, by this reading
abbrev pub Takes : Pattern → (input : Forest) → Reading → (rest : Forest) → Type 0
Takes nothing input reading rest = (reading ≡ done) × (rest ≡ input)
Takes (variable it others) input reading rest =
    (more : Reading) × (reading ≡ took (taken it.fragment input) more) × (takes it.fragment input ≡ true) × Takes others (left_by it.fragment input) more rest
Takes (token its others) input reading rest = IsUnitLike its input × Takes others (after_trees (length its) input) reading rest
Takes (subtree kind inner others) input reading rest =
    (inside : Reading) × (more : Reading) × (reading ≡ held inside more) × IsNodeOf kind input × Takes inner (children_of input) inside end × Takes others (after_tree input) more rest
Takes (repetition inner separator op others) input reading rest =
    AreRounds op separator (Takes inner) (λ trees more. Takes others trees more rest) input reading

-- the trees are an instance of the pattern, by this reading
abbrev pub IsInstance : Pattern → (input : Forest) → Reading → Type 0
IsInstance pattern input reading = Takes pattern input reading end

-- the input is no instance of the pattern, by any reading
abbrev pub IsNoInstance : Pattern → (input : Forest) → Type 0
IsNoInstance pattern input = (reading : Reading) → IsInstance pattern input reading → ⊥

-- the input is an instance of the pattern by this reading, and by no other
pub record IsReadBy (pattern : Pattern) (input : Forest) (reading : Reading) : Type 0 where
  pub holds : IsInstance pattern input reading
  pub alone : (other : Reading) → IsInstance pattern input other → other ≡ reading

-- the input is an instance by two different readings
pub record IsAmbiguous (pattern : Pattern) (input : Forest) : Type 0 where
  pub one : Reading
  pub other : Reading
  pub differ : one ≡ other → ⊥
  pub one_holds : IsInstance pattern input one
  pub other_holds : IsInstance pattern input other
