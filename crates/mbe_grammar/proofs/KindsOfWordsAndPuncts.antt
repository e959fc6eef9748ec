-- An ident or puncts that pass a test have a kind that belongs to the test.
use Rattle.std.proofs.Common.{rules, ◌≡◌, ℕ, suc, zero, Bool, true, false, List, [], ◌∷◌, Option, Some, refl, sym, subst}
use Rattle.std.proofs.lemmas.Bool.{eqb-true}
use Rattle.std.specs.Int.{bit_at}
use Rattle.std.specs.List.{list_any}
use Rattle.std.specs.Prelude.{◌==◌, ◌&&◌, ◌||◌, ◌%◌, not, bytes_eq, slice_get}
use Rattle.tt.specs.Types.DelimiterKind.TheVariants as delimiter
use Rattle.mbe_grammar.specs.declared.kind.TheConstants.{KINDS_OF_CHARS}
use Rattle.mbe_grammar.specs.declared.test.Test.TheVariants as test
use Rattle.mbe_grammar.specs.declared.unit.Unit.{Unit}
use Rattle.mbe_grammar.specs.declared.unit.Unit.TheVariants as unit
use Rattle.mbe_grammar.specs.declared.words.Word.{Word}
use Rattle.mbe_grammar.specs.Kinds.{kind_of, kind_of_word, kind_of_char, kind_or_other}
use Rattle.mbe_grammar.specs.Known.{begins}
use Rattle.mbe_grammar.specs.Tests.{is_among, passes}
use Rattle.mbe_grammar.specs.Words.{is_reserved, is_path_segment, is_truth_value, begins_expression}
use Rattle.mbe_grammar.proofs.EachWord.{of_each}
use Rattle.mbe_grammar.proofs.Marks.{left_true, right_true}

-- the kind is among those kinds
abbrev pub IsOf : (kinds kind : ℕ) → Type 0
IsOf kinds kind = bit_at kinds (kind % 64) ≡ 1

abbrev is_of : (kinds kind : ℕ) → Bool
is_of kinds kind = bit_at kinds (kind % 64) == 1

from_test : (kinds kind : ℕ) → is_of kinds kind ≡ true → IsOf kinds kind
from_test kinds kind e = eqb-true (bit_at kinds (kind % 64)) 1 e

to_test : (kinds kind : ℕ) → IsOf kinds kind → is_of kinds kind ≡ true
to_test kinds kind e = subst (λ n. (n == 1) ≡ true) (sym e) refl

-- what holds of each word
abbrev name_fact : Word → Bool
name_fact it = is_reserved it || is_of (begins test.Name) (kind_of_word it)

abbrev segment_fact : Word → Bool
segment_fact it = not (is_path_segment it) || is_of (begins test.PathSegment) (kind_of_word it)

abbrev truth_fact : Word → Bool
truth_fact it = not (is_truth_value it) || is_of (begins test.TruthValue) (kind_of_word it)

abbrev first_fact : Word → Bool
first_fact it = not (begins_expression it) || is_of (begins test.BeginsExpression) (kind_of_word it)

abbrev back_fact : Word → Bool
back_fact it = not (is_of (begins test.PathSegment) (kind_of_word it)) || is_path_segment it

abbrev word_fact : Word → Bool
word_fact it = name_fact it && (segment_fact it && (truth_fact it && (first_fact it && back_fact it)))

then_so : (a b : Bool) → (not a || b) ≡ true → a ≡ true → b ≡ true
then_so true b e f = e
then_so false b e f = absurd (cc f)

else_so : (a b : Bool) → (a || b) ≡ true → not a ≡ true → b ≡ true
else_so true b e f = absurd (cc f)
else_so false b e f = e

all_so : (a b c d e : Bool) → (a && (b && (c && (d && e)))) ≡ true → (a ≡ true) × (b ≡ true) × (c ≡ true) × (d ≡ true) × (e ≡ true)
all_so true true true true true e = (refl, refl, refl, refl, refl)
all_so true true true true false e = absurd (cc e)
all_so true true true false b e = absurd (cc e)
all_so true true false a b e = absurd (cc e)
all_so true false a b c e = absurd (cc e)
all_so false a b c d e = absurd (cc e)

-- the five facts, one by one
facts : (it : Word) → (name_fact it ≡ true) × (segment_fact it ≡ true) × (truth_fact it ≡ true) × (first_fact it ≡ true) × (back_fact it ≡ true)
facts it = all_so (name_fact it) (segment_fact it) (truth_fact it) (first_fact it) (back_fact it) (of_each word_fact refl it)

pub name_is_of : (it : Word) → not (is_reserved it) ≡ true → IsOf (begins test.Name) (kind_of_word it)
name_is_of it e = from_test (begins test.Name) (kind_of_word it) (else_so (is_reserved it) (is_of (begins test.Name) (kind_of_word it)) (facts it).0 e)

pub segment_is_of : (it : Word) → is_path_segment it ≡ true → IsOf (begins test.PathSegment) (kind_of_word it)
segment_is_of it e = from_test (begins test.PathSegment) (kind_of_word it) (then_so (is_path_segment it) (is_of (begins test.PathSegment) (kind_of_word it)) (facts it).1 e)

pub truth_is_of : (it : Word) → is_truth_value it ≡ true → IsOf (begins test.TruthValue) (kind_of_word it)
truth_is_of it e = from_test (begins test.TruthValue) (kind_of_word it) (then_so (is_truth_value it) (is_of (begins test.TruthValue) (kind_of_word it)) (facts it).2 e)

pub first_is_of : (it : Word) → begins_expression it ≡ true → IsOf (begins test.BeginsExpression) (kind_of_word it)
first_is_of it e = from_test (begins test.BeginsExpression) (kind_of_word it) (then_so (begins_expression it) (is_of (begins test.BeginsExpression) (kind_of_word it)) (facts it).3 e)

segment_back : (it : Word) → IsOf (begins test.PathSegment) (kind_of_word it) → is_path_segment it ≡ true
segment_back it e = then_so (is_of (begins test.PathSegment) (kind_of_word it)) (is_path_segment it) (facts it).4 (to_test (begins test.PathSegment) (kind_of_word it) e)

-- no punct has a kind of a path's segments
abbrev is_apart : Option ℕ → Bool
is_apart it = not (is_of (begins test.PathSegment) (kind_or_other it))

abbrev are_apart : List ℕ → Bool
are_apart [] = true
are_apart (kind ∷ kinds) = is_apart (Some kind) && are_apart kinds

apart_in : (kinds : List ℕ) (at : ℕ) → are_apart kinds ≡ true → is_apart (slice_get kinds at) ≡ true
apart_in [] at e = refl
apart_in (kind ∷ kinds) zero e = left_true (is_apart (Some kind)) (are_apart kinds) e
apart_in (kind ∷ kinds) (suc at) e = apart_in kinds at (right_true (is_apart (Some kind)) (are_apart kinds) e)

not_both : (a : Bool) → not a ≡ true → a ≡ true → ⊥
not_both true e f = absurd (cc e)
not_both false e f = absurd (cc f)

punct_apart : (char : ℕ) → IsOf (begins test.PathSegment) (kind_of_char char) → ⊥
punct_apart char e = not_both (is_of (begins test.PathSegment) (kind_of_char char)) (apart_in KINDS_OF_CHARS char refl) (to_test (begins test.PathSegment) (kind_of_char char) e)

-- a unit of these kinds is a path's segment
pub segment_of_kind : (it : Unit) → IsOf (begins test.PathSegment) (kind_of it) → passes test.PathSegment it ≡ true
segment_of_kind unit.End e = absurd (cc e)
segment_of_kind (unit.Word it) e = segment_back it e
segment_of_kind unit.Lifetime e = absurd (cc e)
segment_of_kind (unit.Literal kind) e = absurd (cc e)
segment_of_kind (unit.Punct one) e = absurd (punct_apart one e)
segment_of_kind (unit.TwoPuncts one two) e = absurd (punct_apart one e)
segment_of_kind (unit.ThreePuncts one two three) e = absurd (punct_apart one e)
segment_of_kind (unit.Subtree delimiter.Parenthesis) e = absurd (cc e)
segment_of_kind (unit.Subtree delimiter.Brace) e = absurd (cc e)
segment_of_kind (unit.Subtree delimiter.Bracket) e = absurd (cc e)
segment_of_kind (unit.Subtree delimiter.Invisible) e = absurd (cc e)
segment_of_kind (unit.Subtree delimiter.InvisibleOpaque) e = absurd (cc e)

-- the first characters are of these kinds
abbrev begin_all : List ℕ → (kinds : ℕ) → Bool
begin_all [] kinds = true
begin_all (char ∷ chars) kinds = is_of kinds (kind_of_char char) && begin_all chars kinds

abbrev begins_with : List ℕ → (kinds : ℕ) → Bool
begins_with [] kinds = true
begins_with (char ∷ chars) kinds = is_of kinds (kind_of_char char)

abbrev all_begin_with : List (List ℕ) → (kinds : ℕ) → Bool
all_begin_with [] kinds = true
all_begin_with (it ∷ others) kinds = begins_with it kinds && all_begin_with others kinds

one_by : (char one kinds : ℕ) (chars : List ℕ) → begin_all (char ∷ chars) kinds ≡ true
    → (begin_all chars kinds ≡ true → list_any (λ it. it == one) chars ≡ true → IsOf kinds (kind_of_char one))
    → (b : Bool) → (char == one) ≡ b → (b || list_any (λ it. it == one) chars) ≡ true → IsOf kinds (kind_of_char one)
one_by char one kinds chars all f true same e =
    subst (λ c. IsOf kinds (kind_of_char c)) (eqb-true char one same)
    (from_test kinds (kind_of_char char) (left_true (is_of kinds (kind_of_char char)) (begin_all chars kinds) all))
one_by char one kinds chars all f false same e = f (right_true (is_of kinds (kind_of_char char)) (begin_all chars kinds) all) e

one_of_them : (chars : List ℕ) (kinds one : ℕ) → begin_all chars kinds ≡ true → list_any (λ it. it == one) chars ≡ true → IsOf kinds (kind_of_char one)
one_of_them [] kinds one all e = absurd (cc e)
one_of_them (char ∷ chars) kinds one all e = one_by char one kinds chars all (one_of_them chars kinds one) (char == one) refl e

first_by : (it : List ℕ) (its : List (List ℕ)) (kinds one : ℕ) (others : List ℕ) → all_begin_with (it ∷ its) kinds ≡ true
    → (all_begin_with its kinds ≡ true → list_any (λ it. bytes_eq it (one ∷ others)) its ≡ true → IsOf kinds (kind_of_char one))
    → (b : Bool) → bytes_eq it (one ∷ others) ≡ b → (b || list_any (λ it. bytes_eq it (one ∷ others)) its) ≡ true → IsOf kinds (kind_of_char one)
first_by it its kinds one others all f true same e =
    let is : it ≡ one ∷ others = search rules in
    from_test kinds (kind_of_char one) (subst (λ (xs : List ℕ). begins_with xs kinds ≡ true) is (left_true (begins_with it kinds) (all_begin_with its kinds) all))
first_by it its kinds one others all f false same e = f (right_true (begins_with it kinds) (all_begin_with its kinds) all) e

first_of_them : (its : List (List ℕ)) (kinds one : ℕ) (others : List ℕ) → all_begin_with its kinds ≡ true → list_any (λ it. bytes_eq it (one ∷ others)) its ≡ true
    → IsOf kinds (kind_of_char one)
first_of_them [] kinds one others all e = absurd (cc e)
first_of_them (it ∷ its) kinds one others all e = first_by it its kinds one others all (first_of_them its kinds one others) (bytes_eq it (one ∷ others)) refl e

-- a unit from these lists has one of those kinds
pub among_is_of : (ones : List ℕ) (twos threes : List (List ℕ)) (kinds : ℕ) → begin_all ones kinds ≡ true → all_begin_with twos kinds ≡ true → all_begin_with threes kinds ≡ true
    → (it : Unit) → is_among ones twos threes it ≡ true → IsOf kinds (kind_of it)
among_is_of ones twos threes kinds a b c unit.End e = absurd (cc e)
among_is_of ones twos threes kinds a b c (unit.Word it) e = absurd (cc e)
among_is_of ones twos threes kinds a b c unit.Lifetime e = absurd (cc e)
among_is_of ones twos threes kinds a b c (unit.Literal kind) e = absurd (cc e)
among_is_of ones twos threes kinds a b c (unit.Punct one) e = one_of_them ones kinds one a e
among_is_of ones twos threes kinds a b c (unit.TwoPuncts one two) e = first_of_them twos kinds one (two ∷ []) b e
among_is_of ones twos threes kinds a b c (unit.ThreePuncts one two three) e = first_of_them threes kinds one (two ∷ three ∷ []) c e
among_is_of ones twos threes kinds a b c (unit.Subtree kind) e = absurd (cc e)
