-- The units that pass the test for any unit are those of any kind but the end's.
use Rattle.std.proofs.Common.{◌≡◌, ℕ, suc, zero, Bool, true, List, [], ◌∷◌, refl}
use Rattle.std.proofs.lemmas.Bool.{eqb-true}
use Rattle.std.specs.Int.{bit_at}
use Rattle.std.specs.Prelude.{◌==◌, ◌&&◌, ◌%◌, slice_get}
use Rattle.tt.specs.Types.DelimiterKind.TheVariants as delimiter
use Rattle.mbe_grammar.specs.declared.kind.TheConstants.{KINDS_OF_CHARS}
use Rattle.mbe_grammar.specs.declared.test.Test.TheVariants as test
use Rattle.mbe_grammar.specs.declared.unit.Unit.{Unit}
use Rattle.mbe_grammar.specs.declared.unit.Unit.TheVariants as unit
use Rattle.mbe_grammar.specs.declared.words.Word.{Word}
use Rattle.mbe_grammar.specs.Kinds.{kind_of, kind_of_word, kind_of_char, kind_or_other}
use Rattle.mbe_grammar.specs.Known.{begins}
use Rattle.mbe_grammar.specs.Tests.{passes}
use Rattle.mbe_grammar.proofs.EachWord.{of_each}
use Rattle.mbe_grammar.proofs.KindsOfWordsAndPuncts.{IsOf}
use Rattle.mbe_grammar.proofs.Marks.{left_true, right_true}

-- the kind is not the end's
abbrev is_some : (kind : ℕ) → Bool
is_some kind = bit_at (begins test.Any) (kind % 64) == 1

some_is_of : (kind : ℕ) → is_some kind ≡ true → IsOf (begins test.Any) kind
some_is_of kind e = eqb-true (bit_at (begins test.Any) (kind % 64)) 1 e

word_is_some : (it : Word) → IsOf (begins test.Any) (kind_of_word it)
word_is_some it = some_is_of (kind_of_word it) (of_each (λ w. is_some (kind_of_word w)) refl it)

abbrev are_some : List ℕ → Bool
are_some [] = true
are_some (kind ∷ kinds) = is_some kind && are_some kinds

some_in : (kinds : List ℕ) (at : ℕ) → are_some kinds ≡ true → IsOf (begins test.Any) (kind_or_other (slice_get kinds at))
some_in [] at e = refl
some_in (kind ∷ kinds) zero e = some_is_of kind (left_true (is_some kind) (are_some kinds) e)
some_in (kind ∷ kinds) (suc at) e = some_in kinds at (right_true (is_some kind) (are_some kinds) e)

char_is_some : (char : ℕ) → IsOf (begins test.Any) (kind_of_char char)
char_is_some char = some_in KINDS_OF_CHARS char refl

-- What passes has such a kind.
pub any_is_of : (it : Unit) → passes test.Any it ≡ true → IsOf (begins test.Any) (kind_of it)
any_is_of unit.End e = absurd (cc e)
any_is_of (unit.Word it) e = word_is_some it
any_is_of unit.Lifetime e = refl
any_is_of (unit.Literal kind) e = refl
any_is_of (unit.Punct one) e = char_is_some one
any_is_of (unit.TwoPuncts one two) e = char_is_some one
any_is_of (unit.ThreePuncts one two three) e = char_is_some one
any_is_of (unit.Subtree delimiter.Parenthesis) e = refl
any_is_of (unit.Subtree delimiter.Brace) e = refl
any_is_of (unit.Subtree delimiter.Bracket) e = refl
any_is_of (unit.Subtree delimiter.Invisible) e = refl
any_is_of (unit.Subtree delimiter.InvisibleOpaque) e = refl

-- What has such a kind passes.
pub any_of_kind : (it : Unit) → IsOf (begins test.Any) (kind_of it) → passes test.Any it ≡ true
any_of_kind unit.End e = absurd (cc e)
any_of_kind (unit.Word it) e = refl
any_of_kind unit.Lifetime e = refl
any_of_kind (unit.Literal kind) e = refl
any_of_kind (unit.Punct one) e = refl
any_of_kind (unit.TwoPuncts one two) e = refl
any_of_kind (unit.ThreePuncts one two three) e = refl
any_of_kind (unit.Subtree kind) e = refl
