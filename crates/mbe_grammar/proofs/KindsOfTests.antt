-- A unit that passes a test has a kind that belongs to the test.
use Rattle.std.proofs.Common.{rules, ◌≡◌, ℕ, Bool, true, false, [], ◌∷◌, refl, sym, subst}
use Rattle.std.proofs.lemmas.Bool.{eqb-true}
use Rattle.std.proofs.lemmas.Nat.Bits.{bit_at-pow_same}
use Rattle.std.specs.Prelude.{◌==◌, ◌&&◌, ◌||◌, ◌%◌, ◌^◌, not, codes}
use Rattle.tt.specs.Types.DelimiterKind.{DelimiterKind}
use Rattle.tt.specs.Types.DelimiterKind.TheVariants as delimiter
use Rattle.mbe_grammar.specs.declared.test.Test.{Test}
use Rattle.mbe_grammar.specs.declared.test.Test.TheVariants as test
use Rattle.mbe_grammar.specs.declared.unit.Unit.{Unit}
use Rattle.mbe_grammar.specs.declared.unit.Unit.TheVariants as unit
use Rattle.mbe_grammar.specs.declared.words.Word.{Word}
use Rattle.mbe_grammar.specs.Kinds.{kind_of, kind_of_word, kind_of_char}
use Rattle.mbe_grammar.specs.Known.{begins}
use Rattle.mbe_grammar.specs.Tests.{same_unit, is_word, passes, passes_test, has_front, is_literal_of, is_subtree_of, is_opaque_kind, may_begin_expression, is_text_kind, is_number_kind, is_literal}
use Rattle.mbe_grammar.specs.Words.{is_reserved, is_path_segment, is_truth_value, begins_expression}
use Rattle.mbe_grammar.proofs.AnyUnit.{any_is_of}
use Rattle.mbe_grammar.proofs.EachWord.{same_word}
use Rattle.mbe_grammar.proofs.KindsOfWordsAndPuncts.{IsOf, name_is_of, segment_is_of, truth_is_of, first_is_of, among_is_of}
use Rattle.mbe_grammar.proofs.Marks.{left_true}

char_is_of : (one char : ℕ) → (one == char) ≡ true → IsOf (begins (test.Front char)) (kind_of_char one)
char_is_of one char e = subst (λ c. IsOf (begins (test.Front char)) (kind_of_char c)) (sym (eqb-true one char e)) (bit_at-pow_same (kind_of_char char % 64))

-- the same subtrees
same_kind : (a b : DelimiterKind) → same_unit (unit.Subtree a) (unit.Subtree b) ≡ true → a ≡ b
same_kind a b e = search rules

same_is_of : (it wanted : Unit) → same_unit it wanted ≡ true → IsOf (begins (test.Is wanted)) (kind_of it)
same_is_of unit.End unit.End e = refl
same_is_of unit.End (unit.Word b) e = absurd (cc e)
same_is_of unit.End unit.Lifetime e = absurd (cc e)
same_is_of unit.End (unit.Literal b) e = absurd (cc e)
same_is_of unit.End (unit.Punct b) e = absurd (cc e)
same_is_of unit.End (unit.TwoPuncts b d) e = absurd (cc e)
same_is_of unit.End (unit.ThreePuncts b d h) e = absurd (cc e)
same_is_of unit.End (unit.Subtree b) e = absurd (cc e)
same_is_of (unit.Word a) unit.End e = absurd (cc e)
same_is_of (unit.Word a) (unit.Word b) e = subst (λ k. IsOf (2 ^ (k % 64)) (kind_of_word a)) (same_word a b e) (bit_at-pow_same (kind_of_word a % 64))
same_is_of (unit.Word a) unit.Lifetime e = absurd (cc e)
same_is_of (unit.Word a) (unit.Literal b) e = absurd (cc e)
same_is_of (unit.Word a) (unit.Punct b) e = absurd (cc e)
same_is_of (unit.Word a) (unit.TwoPuncts b d) e = absurd (cc e)
same_is_of (unit.Word a) (unit.ThreePuncts b d h) e = absurd (cc e)
same_is_of (unit.Word a) (unit.Subtree b) e = absurd (cc e)
same_is_of unit.Lifetime unit.End e = absurd (cc e)
same_is_of unit.Lifetime (unit.Word b) e = absurd (cc e)
same_is_of unit.Lifetime unit.Lifetime e = refl
same_is_of unit.Lifetime (unit.Literal b) e = absurd (cc e)
same_is_of unit.Lifetime (unit.Punct b) e = absurd (cc e)
same_is_of unit.Lifetime (unit.TwoPuncts b d) e = absurd (cc e)
same_is_of unit.Lifetime (unit.ThreePuncts b d h) e = absurd (cc e)
same_is_of unit.Lifetime (unit.Subtree b) e = absurd (cc e)
same_is_of (unit.Literal a) unit.End e = absurd (cc e)
same_is_of (unit.Literal a) (unit.Word b) e = absurd (cc e)
same_is_of (unit.Literal a) unit.Lifetime e = absurd (cc e)
same_is_of (unit.Literal a) (unit.Literal b) e = refl
same_is_of (unit.Literal a) (unit.Punct b) e = absurd (cc e)
same_is_of (unit.Literal a) (unit.TwoPuncts b d) e = absurd (cc e)
same_is_of (unit.Literal a) (unit.ThreePuncts b d h) e = absurd (cc e)
same_is_of (unit.Literal a) (unit.Subtree b) e = absurd (cc e)
same_is_of (unit.Punct a) unit.End e = absurd (cc e)
same_is_of (unit.Punct a) (unit.Word b) e = absurd (cc e)
same_is_of (unit.Punct a) unit.Lifetime e = absurd (cc e)
same_is_of (unit.Punct a) (unit.Literal b) e = absurd (cc e)
same_is_of (unit.Punct a) (unit.Punct b) e = char_is_of a b e
same_is_of (unit.Punct a) (unit.TwoPuncts b d) e = absurd (cc e)
same_is_of (unit.Punct a) (unit.ThreePuncts b d h) e = absurd (cc e)
same_is_of (unit.Punct a) (unit.Subtree b) e = absurd (cc e)
same_is_of (unit.TwoPuncts a c) unit.End e = absurd (cc e)
same_is_of (unit.TwoPuncts a c) (unit.Word b) e = absurd (cc e)
same_is_of (unit.TwoPuncts a c) unit.Lifetime e = absurd (cc e)
same_is_of (unit.TwoPuncts a c) (unit.Literal b) e = absurd (cc e)
same_is_of (unit.TwoPuncts a c) (unit.Punct b) e = absurd (cc e)
same_is_of (unit.TwoPuncts a c) (unit.TwoPuncts b d) e = char_is_of a b (left_true (a == b) (c == d) e)
same_is_of (unit.TwoPuncts a c) (unit.ThreePuncts b d h) e = absurd (cc e)
same_is_of (unit.TwoPuncts a c) (unit.Subtree b) e = absurd (cc e)
same_is_of (unit.ThreePuncts a c g) unit.End e = absurd (cc e)
same_is_of (unit.ThreePuncts a c g) (unit.Word b) e = absurd (cc e)
same_is_of (unit.ThreePuncts a c g) unit.Lifetime e = absurd (cc e)
same_is_of (unit.ThreePuncts a c g) (unit.Literal b) e = absurd (cc e)
same_is_of (unit.ThreePuncts a c g) (unit.Punct b) e = absurd (cc e)
same_is_of (unit.ThreePuncts a c g) (unit.TwoPuncts b d) e = absurd (cc e)
same_is_of (unit.ThreePuncts a c g) (unit.ThreePuncts b d h) e = char_is_of a b (left_true (a == b) (c == d && (g == h)) e)
same_is_of (unit.ThreePuncts a c g) (unit.Subtree b) e = absurd (cc e)
same_is_of (unit.Subtree a) unit.End e = absurd (cc e)
same_is_of (unit.Subtree a) (unit.Word b) e = absurd (cc e)
same_is_of (unit.Subtree a) unit.Lifetime e = absurd (cc e)
same_is_of (unit.Subtree a) (unit.Literal b) e = absurd (cc e)
same_is_of (unit.Subtree a) (unit.Punct b) e = absurd (cc e)
same_is_of (unit.Subtree a) (unit.TwoPuncts b d) e = absurd (cc e)
same_is_of (unit.Subtree a) (unit.ThreePuncts b d h) e = absurd (cc e)
same_is_of (unit.Subtree a) (unit.Subtree b) e = subst (λ w. IsOf (begins (test.Is (unit.Subtree w))) (kind_of (unit.Subtree a))) (same_kind a b e) (bit_at-pow_same (kind_of (unit.Subtree a) % 64))

front_is_of : (char : ℕ) (it : Unit) → has_front char it ≡ true → IsOf (begins (test.Front char)) (kind_of it)
front_is_of char unit.End e = absurd (cc e)
front_is_of char (unit.Word it) e = absurd (cc e)
front_is_of char unit.Lifetime e = absurd (cc e)
front_is_of char (unit.Literal kind) e = absurd (cc e)
front_is_of char (unit.Punct one) e = char_is_of one char e
front_is_of char (unit.TwoPuncts one two) e = char_is_of one char e
front_is_of char (unit.ThreePuncts one two three) e = char_is_of one char e
front_is_of char (unit.Subtree kind) e = absurd (cc e)

such_word : (is_such : Word → Bool) (kinds : ℕ) → ((it : Word) → is_such it ≡ true → IsOf kinds (kind_of_word it))
    → (it : Unit) → is_word is_such it ≡ true → IsOf kinds (kind_of it)
such_word is_such kinds f unit.End e = absurd (cc e)
such_word is_such kinds f (unit.Word it) e = f it e
such_word is_such kinds f unit.Lifetime e = absurd (cc e)
such_word is_such kinds f (unit.Literal kind) e = absurd (cc e)
such_word is_such kinds f (unit.Punct one) e = absurd (cc e)
such_word is_such kinds f (unit.TwoPuncts one two) e = absurd (cc e)
such_word is_such kinds f (unit.ThreePuncts one two three) e = absurd (cc e)
such_word is_such kinds f (unit.Subtree kind) e = absurd (cc e)

literal_is_of : (it : Unit) → is_literal it ≡ true → IsOf (begins test.Literal) (kind_of it)
literal_is_of unit.End e = absurd (cc e)
literal_is_of (unit.Word it) e = absurd (cc e)
literal_is_of unit.Lifetime e = absurd (cc e)
literal_is_of (unit.Literal kind) e = refl
literal_is_of (unit.Punct one) e = absurd (cc e)
literal_is_of (unit.TwoPuncts one two) e = absurd (cc e)
literal_is_of (unit.ThreePuncts one two three) e = absurd (cc e)
literal_is_of (unit.Subtree kind) e = absurd (cc e)

text_is_of : (it : Unit) → is_literal_of is_text_kind it ≡ true → IsOf (begins test.Text) (kind_of it)
text_is_of unit.End e = absurd (cc e)
text_is_of (unit.Word it) e = absurd (cc e)
text_is_of unit.Lifetime e = absurd (cc e)
text_is_of (unit.Literal kind) e = refl
text_is_of (unit.Punct one) e = absurd (cc e)
text_is_of (unit.TwoPuncts one two) e = absurd (cc e)
text_is_of (unit.ThreePuncts one two three) e = absurd (cc e)
text_is_of (unit.Subtree kind) e = absurd (cc e)

number_is_of : (it : Unit) → is_literal_of is_number_kind it ≡ true → IsOf (begins test.Number) (kind_of it)
number_is_of unit.End e = absurd (cc e)
number_is_of (unit.Word it) e = absurd (cc e)
number_is_of unit.Lifetime e = absurd (cc e)
number_is_of (unit.Literal kind) e = refl
number_is_of (unit.Punct one) e = absurd (cc e)
number_is_of (unit.TwoPuncts one two) e = absurd (cc e)
number_is_of (unit.ThreePuncts one two three) e = absurd (cc e)
number_is_of (unit.Subtree kind) e = absurd (cc e)

delimited_is_of : (it : Unit) → is_subtree_of (λ kind. not (is_opaque_kind kind)) it ≡ true → IsOf (begins test.Delimited) (kind_of it)
delimited_is_of unit.End e = absurd (cc e)
delimited_is_of (unit.Word it) e = absurd (cc e)
delimited_is_of unit.Lifetime e = absurd (cc e)
delimited_is_of (unit.Literal kind) e = absurd (cc e)
delimited_is_of (unit.Punct one) e = absurd (cc e)
delimited_is_of (unit.TwoPuncts one two) e = absurd (cc e)
delimited_is_of (unit.ThreePuncts one two three) e = absurd (cc e)
delimited_is_of (unit.Subtree delimiter.Parenthesis) e = refl
delimited_is_of (unit.Subtree delimiter.Brace) e = refl
delimited_is_of (unit.Subtree delimiter.Bracket) e = refl
delimited_is_of (unit.Subtree delimiter.Invisible) e = absurd (cc e)
delimited_is_of (unit.Subtree delimiter.InvisibleOpaque) e = absurd (cc e)

opaque_is_of : (it : Unit) → is_subtree_of is_opaque_kind it ≡ true → IsOf (begins test.Opaque) (kind_of it)
opaque_is_of unit.End e = absurd (cc e)
opaque_is_of (unit.Word it) e = absurd (cc e)
opaque_is_of unit.Lifetime e = absurd (cc e)
opaque_is_of (unit.Literal kind) e = absurd (cc e)
opaque_is_of (unit.Punct one) e = absurd (cc e)
opaque_is_of (unit.TwoPuncts one two) e = absurd (cc e)
opaque_is_of (unit.ThreePuncts one two three) e = absurd (cc e)
opaque_is_of (unit.Subtree delimiter.Parenthesis) e = absurd (cc e)
opaque_is_of (unit.Subtree delimiter.Brace) e = absurd (cc e)
opaque_is_of (unit.Subtree delimiter.Bracket) e = absurd (cc e)
opaque_is_of (unit.Subtree delimiter.Invisible) e = refl
opaque_is_of (unit.Subtree delimiter.InvisibleOpaque) e = refl

alone_so : (a : Bool) → (a || (false || false)) ≡ true → a ≡ true
alone_so true e = refl
alone_so false e = absurd (cc e)

beginning_is_of : (it : Unit) → may_begin_expression it ≡ true → IsOf (begins test.BeginsExpression) (kind_of it)
beginning_is_of unit.End e = absurd (cc e)
beginning_is_of (unit.Word it) e = first_is_of it (alone_so (begins_expression it) e)
beginning_is_of unit.Lifetime e = refl
beginning_is_of (unit.Literal kind) e = refl
beginning_is_of (unit.Punct one) e = among_is_of
    (codes "!-*|&<#") (codes "||" ∷ codes "&&" ∷ codes ".." ∷ codes "<<" ∷ codes "::" ∷ []) (codes "..=" ∷ codes "..." ∷ []) (begins test.BeginsExpression) refl refl refl (unit.Punct one) e
beginning_is_of (unit.TwoPuncts one two) e = among_is_of
    (codes "!-*|&<#") (codes "||" ∷ codes "&&" ∷ codes ".." ∷ codes "<<" ∷ codes "::" ∷ []) (codes "..=" ∷ codes "..." ∷ []) (begins test.BeginsExpression) refl refl refl (unit.TwoPuncts one two) e
beginning_is_of (unit.ThreePuncts one two three) e = among_is_of
    (codes "!-*|&<#") (codes "||" ∷ codes "&&" ∷ codes ".." ∷ codes "<<" ∷ codes "::" ∷ []) (codes "..=" ∷ codes "..." ∷ []) (begins test.BeginsExpression) refl refl refl (unit.ThreePuncts one two three) e
beginning_is_of (unit.Subtree delimiter.Parenthesis) e = refl
beginning_is_of (unit.Subtree delimiter.Brace) e = absurd (cc e)
beginning_is_of (unit.Subtree delimiter.Bracket) e = refl
beginning_is_of (unit.Subtree delimiter.Invisible) e = refl
beginning_is_of (unit.Subtree delimiter.InvisibleOpaque) e = refl

tested : (wanted : Test) (it : Unit) → passes wanted it ≡ true → passes_test wanted it ≡ true
tested wanted unit.End e = absurd (cc e)
tested wanted (unit.Word it) e = e
tested wanted unit.Lifetime e = e
tested wanted (unit.Literal kind) e = e
tested wanted (unit.Punct one) e = e
tested wanted (unit.TwoPuncts one two) e = e
tested wanted (unit.ThreePuncts one two three) e = e
tested wanted (unit.Subtree kind) e = e

test_is_of : (wanted : Test) (it : Unit) → passes wanted it ≡ true → passes_test wanted it ≡ true → IsOf (begins wanted) (kind_of it)
test_is_of (test.Is wanted) it p e = same_is_of it wanted e
test_is_of (test.Front char) it p e = front_is_of char it e
test_is_of test.Any it p e = any_is_of it p
test_is_of test.Name it p e = such_word (λ w. not (is_reserved w)) (begins test.Name) name_is_of it e
test_is_of test.PathSegment it p e = such_word is_path_segment (begins test.PathSegment) segment_is_of it e
test_is_of test.TruthValue it p e = such_word is_truth_value (begins test.TruthValue) truth_is_of it e
test_is_of test.Literal it p e = literal_is_of it e
test_is_of test.Text it p e = text_is_of it e
test_is_of test.Number it p e = number_is_of it e
test_is_of test.Delimited it p e = delimited_is_of it e
test_is_of test.Opaque it p e = opaque_is_of it e
test_is_of (test.Holding kind name) it p e = same_is_of it (unit.Subtree kind) e
test_is_of (test.OpaqueHolding name) it p e = opaque_is_of it e
test_is_of test.BinaryOperator it p e = among_is_of
    (codes "+-*/%^&|<>") (codes "<<" ∷ codes ">>" ∷ codes "==" ∷ codes "!=" ∷ codes "<=" ∷ codes ">=" ∷ codes "&&" ∷ codes "||" ∷ []) [] (begins test.BinaryOperator) refl refl refl it e
test_is_of test.AssignmentOperator it p e = among_is_of
    (codes "=") (codes "+=" ∷ codes "-=" ∷ codes "*=" ∷ codes "/=" ∷ codes "%=" ∷ codes "^=" ∷ codes "&=" ∷ codes "|=" ∷ []) (codes "<<=" ∷ codes ">>=" ∷ []) (begins test.AssignmentOperator) refl refl refl it e
test_is_of test.BeginsExpression it p e = beginning_is_of it e

-- What passes has one of the kinds.
pub begins_is_of : (wanted : Test) (it : Unit) → passes wanted it ≡ true → IsOf (begins wanted) (kind_of it)
begins_is_of wanted it e = test_is_of wanted it e (tested wanted it e)
