-- A unit that is taken leaves less.
use Rattle.std.proofs.Common.{◌≡◌, ◌+◌, ◌≤◌, ◌<◌, ℕ, suc, zero, Bool, true, false, List, [], ◌∷◌, length, Option, Some, None, refl, sym, subst, ap, ◌∙◌, cond, arith}
use Rattle.std.proofs.lemmas.Bool.Decides.{nat_tests}
use Rattle.std.specs.Prelude.{◌==◌, ◌&&◌, ◌||◌}
use Rattle.tt.specs.Gluing.{first_punct, is_alone, is_joint, is_one_of, twos, threes, glued_two, glued_three, glued_behind, glued_from}
use Rattle.tt.specs.Moves.{after_tree}
use Rattle.tt.specs.Types.Leaf.TheVariants as leaf_of
use Rattle.tt.specs.Types.Punct.{Punct}
use Rattle.tt.specs.Forest.{Forest, end, leaf, node, size}
use Rattle.tt.specs.Gluing.{after_trees}
use Rattle.mbe_grammar.specs.declared.test.Test.{Test}
use Rattle.mbe_grammar.specs.declared.test.Test.TheVariants as test
use Rattle.mbe_grammar.specs.declared.unit.Unit.{Unit}
use Rattle.mbe_grammar.specs.declared.unit.Unit.TheVariants as unit
use Rattle.mbe_grammar.specs.Positions.{Position, behind, count_of, entry_of, taken, takes}
use Rattle.mbe_grammar.specs.Tests.{named, passes, taken_size}
use Rattle.mbe_grammar.specs.Units.{unit_of_puncts, first_unit, size_of_unit}
use Rattle.mbe_grammar.proofs.Notes.{noted_rest}
use Rattle.mbe_pattern.proofs.Passing.{after_less}
use Rattle.mbe_pattern.proofs.UnitLengths.{unit_length}
use Rattle.mbe_pattern.specs.Units.{quote, is_at_ident, unit_from, unit_size, front_leaves}

-- A unit has at least one tree.
unit_full : (it : Unit) → (less : ℕ) × (size_of_unit it ≡ suc less)
unit_full unit.End = (0, refl)
unit_full (unit.Word word) = (0, refl)
unit_full unit.Lifetime = (1, refl)
unit_full (unit.Literal kind) = (0, refl)
unit_full (unit.Punct one) = (0, refl)
unit_full (unit.TwoPuncts one two) = (1, refl)
unit_full (unit.ThreePuncts one two three) = (2, refl)
unit_full (unit.Subtree kind) = (0, refl)

-- So does what is taken of it.
taken_full : (it : Test) (of : Unit) → (less : ℕ) × (taken_size it of ≡ suc less)
taken_full (test.Front char) of = (0, refl)
taken_full (test.Is wanted) of = unit_full of
taken_full test.Any of = unit_full of
taken_full test.Name of = unit_full of
taken_full test.PathSegment of = unit_full of
taken_full test.TruthValue of = unit_full of
taken_full test.Literal of = unit_full of
taken_full test.Text of = unit_full of
taken_full test.Number of = unit_full of
taken_full test.Delimited of = unit_full of
taken_full test.Opaque of = unit_full of
taken_full (test.Holding kind name) of = unit_full of
taken_full (test.OpaqueHolding name) of = unit_full of
taken_full test.BinaryOperator of = unit_full of
taken_full test.AssignmentOperator of = unit_full of
taken_full test.BeginsExpression of = unit_full of

-- the unit of puncts has as many trees as there are puncts
abbrev IsCounted : List Punct → Type 0
IsCounted puncts = size_of_unit (unit_of_puncts puncts) ≡ length puncts

counted_either : (b : Bool) (xs ys : List Punct) → IsCounted xs → IsCounted ys → IsCounted (cond b xs ys)
counted_either true xs ys one other = one
counted_either false xs ys one other = other

counted_two : (p q : Punct) → IsCounted (glued_two p q)
counted_two p q = counted_either (is_one_of twos (p.char ∷ q.char ∷ [])) (p ∷ q ∷ []) (p ∷ []) refl refl

counted_three : (p q : Punct) (r : Option Punct) → IsCounted (glued_three p q r)
counted_three p q None = counted_two p q
counted_three p q (Some r) = counted_either (is_one_of threes (p.char ∷ q.char ∷ r.char ∷ [])) (p ∷ q ∷ r ∷ []) (glued_two p q) refl (counted_two p q)

counted_behind : (p : Punct) (q : Option Punct) (behind : Forest) → IsCounted (glued_behind p q behind)
counted_behind p None behind = refl
counted_behind p (Some q) behind =
    counted_either (is_joint q.spacing) (glued_three p q (first_punct behind)) (glued_two p q) (counted_three p q (first_punct behind)) (counted_two p q)

counted : (p : Punct) (behind : Forest) → IsCounted (glued_from p behind)
counted p behind =
    counted_either (is_alone p.spacing) (p ∷ []) (glued_behind p (first_punct behind) (after_tree behind)) refl
    (counted_behind p (first_punct behind) (after_tree behind))

-- A `'` is glued to nothing.
quote_two : (p q : Punct) → p.char ≡ quote → length (glued_two p q) ≡ 1
quote_two p q e = ap (λ c. length (cond (is_one_of twos (c ∷ q.char ∷ [])) (p ∷ q ∷ []) (p ∷ []))) e

quote_three : (p q : Punct) (r : Option Punct) → p.char ≡ quote → length (glued_three p q r) ≡ 1
quote_three p q None e = quote_two p q e
quote_three p q (Some r) e =
    ap (λ c. length (cond (is_one_of threes (c ∷ q.char ∷ r.char ∷ [])) (p ∷ q ∷ r ∷ []) (glued_two p q))) e ∙ quote_two p q e

one_either : (b : Bool) (xs ys : List Punct) → length xs ≡ 1 → length ys ≡ 1 → length (cond b xs ys) ≡ 1
one_either true xs ys one other = one
one_either false xs ys one other = other

quote_behind : (p : Punct) (q : Option Punct) (behind : Forest) → p.char ≡ quote → length (glued_behind p q behind) ≡ 1
quote_behind p None behind e = refl
quote_behind p (Some q) behind e =
    one_either (is_joint q.spacing) (glued_three p q (first_punct behind)) (glued_two p q) (quote_three p q (first_punct behind) e) (quote_two p q e)

quote_alone : (p : Punct) (behind : Forest) → p.char ≡ quote → length (glued_from p behind) ≡ 1
quote_alone p behind e =
    one_either (is_alone p.spacing) (p ∷ []) (glued_behind p (first_punct behind) (after_tree behind)) refl
    (quote_behind p (first_punct behind) (after_tree behind) e)

is_quote : (it : Punct) → (it.char == quote) ≡ true → it.char ≡ quote
is_quote it e = grind (arith, nat_tests)

or_false : (b : Bool) → (b || false) ≡ b
or_false true = refl
or_false false = refl

punct_told : (it : Punct) (rest : Forest) (b c : Bool) → (it.char == quote) ≡ b → is_at_ident rest ≡ c
    → size_of_unit (cond (((it.char == quote) || false) && is_at_ident rest) unit.Lifetime (unit_of_puncts (glued_from it rest)))
    ≡ cond (it.char == quote) (cond (is_at_ident rest) 2 1) (length (glued_from it rest))
punct_told it rest true true e f = rw (e, f)
punct_told it rest true false e f = rw (e, f, counted it rest, quote_alone it rest (is_quote it e))
punct_told it rest false c e f = rw (e, counted it rest)

-- A first unit has as many trees as `unit_size` says.
pub unit_size_told : (trees : Forest) → size_of_unit (first_unit trees) ≡ unit_size trees
unit_size_told end = refl
unit_size_told (node delimiter children rest) = refl
unit_size_told (leaf (leaf_of.Literal it) rest) = refl
unit_size_told (leaf (leaf_of.Ident it) rest) = refl
unit_size_told (leaf (leaf_of.Punct it) rest) = punct_told it rest (it.char == quote) (is_at_ident rest) refl refl

-- The leaves at the front and what follows them have together no more tokens than the whole.
front_size : (n : ℕ) (trees : Forest) → length (front_leaves n trees) + size (after_trees n trees) ≤ size trees
front_size zero trees = omega arith
front_size (suc n) end = omega (arith, after_less n end)
front_size (suc n) (leaf it rest) = omega (arith, front_size n rest)
front_size (suc n) (node delimiter children rest) = omega (arith, after_less n rest)

-- A unit other than the end, and what follows it, have together no more tokens than the whole.
unit_fits : (trees : Forest) → (trees ≡ end → ⊥) → unit_size trees + size (after_trees (unit_size trees) trees) ≤ size trees
unit_fits end some = absurd (some refl)
unit_fits (leaf it rest) some =
    let many : length (front_leaves (unit_from it rest) (leaf it rest)) ≡ unit_from it rest = unit_length it rest in
    omega (arith, many, front_size (unit_from it rest) (leaf it rest))
unit_fits (node delimiter children rest) some = omega arith

-- What passes a test is not the end.
pub passing_some : (it : Test) (trees : Forest) → passes it (first_unit trees) ≡ true → trees ≡ end → ⊥
passing_some it end e same = absurd (cc e)
passing_some it (leaf other rest) e same = absurd (cc same)
passing_some it (node delimiter children rest) e same = absurd (cc same)

whole : (trees : Forest) → (trees ≡ end → ⊥)
    → size_of_unit (first_unit trees) + size (after_trees (size_of_unit (first_unit trees)) trees) ≤ size trees
whole trees some = subst (λ n. n + size (after_trees n trees) ≤ size trees) (sym (unit_size_told trees)) (unit_fits trees some)

-- What is taken and what follows it have together no more tokens than the whole.
pub taken_fits : (it : Test) (trees : Forest) → passes it (first_unit trees) ≡ true
    → taken_size it (first_unit trees) + size (after_trees (taken_size it (first_unit trees)) trees) ≤ size trees
taken_fits (test.Front char) end e = absurd (cc e)
taken_fits (test.Front char) (leaf other rest) e = omega arith
taken_fits (test.Front char) (node delimiter children rest) e = omega arith
taken_fits (test.Is wanted) trees e = whole trees (passing_some (test.Is wanted) trees e)
taken_fits test.Any trees e = whole trees (passing_some test.Any trees e)
taken_fits test.Name trees e = whole trees (passing_some test.Name trees e)
taken_fits test.PathSegment trees e = whole trees (passing_some test.PathSegment trees e)
taken_fits test.TruthValue trees e = whole trees (passing_some test.TruthValue trees e)
taken_fits test.Literal trees e = whole trees (passing_some test.Literal trees e)
taken_fits test.Text trees e = whole trees (passing_some test.Text trees e)
taken_fits test.Number trees e = whole trees (passing_some test.Number trees e)
taken_fits test.Delimited trees e = whole trees (passing_some test.Delimited trees e)
taken_fits test.Opaque trees e = whole trees (passing_some test.Opaque trees e)
taken_fits (test.Holding kind name) trees e = whole trees (passing_some (test.Holding kind name) trees e)
taken_fits (test.OpaqueHolding name) trees e = whole trees (passing_some (test.OpaqueHolding name) trees e)
taken_fits test.BinaryOperator trees e = whole trees (passing_some test.BinaryOperator trees e)
taken_fits test.AssignmentOperator trees e = whole trees (passing_some test.AssignmentOperator trees e)
taken_fits test.BeginsExpression trees e = whole trees (passing_some test.BeginsExpression trees e)

-- the tokens that are left
abbrev pub size_left : Position → ℕ
size_left from = size from.rest

-- A unit that is taken leaves less.
pub takes_shrinks : (noting : Bool) (it : Test) (from to : Position) → takes noting it from ≡ Some to → size_left to < size_left from
takes_shrinks noting it from to e = by (passes it (first_unit from.rest)) refl e
  where
    by : (b : Bool) → passes it (first_unit from.rest) ≡ b → cond b (Some (taken noting it from)) None ≡ Some to → size_left to < size_left from
    by true f g =
        let same : taken noting it from ≡ to = cc g in
        let left : (taken noting it from).rest ≡ after_trees (count_of it from.rest) from.rest =
        noted_rest noting (entry_of (named it) (count_of it from.rest) from.rest ∷ []) (behind (count_of it from.rest) from) in
        let full = taken_full it (first_unit from.rest) in
        let fits = taken_fits it from.rest f in
        subst (λ (p : Position). size p.rest < size from.rest) same (subst (λ (t : Forest). size t < size from.rest) (sym left) (omega (arith, fits, full.1)))
    by false f g = absurd (cc g)
