-- What holds of each word, by going through all words.
use Rattle.std.proofs.Common.{◌≡◌, ℕ, suc, zero, Bool, true, false, List, [], ◌∷◌, Some, refl, subst}
use Rattle.std.proofs.lemmas.Bool.{eqb-true}
use Rattle.std.specs.Prelude.{◌==◌, ◌&&◌, ◌||◌, not, slice_get}
use Rattle.mbe_grammar.specs.declared.unit.Unit.TheVariants as unit
use Rattle.mbe_grammar.specs.declared.words.Word.{Word}
use Rattle.mbe_grammar.specs.declared.words.Word.TheVariants as word
use Rattle.mbe_grammar.specs.Kinds.{kind_of_word}
use Rattle.mbe_grammar.specs.Tests.{same_unit}
use Rattle.mbe_grammar.proofs.Marks.{left_true, right_true}

-- all words
abbrev pub words : List Word
words =
    word.Name ∷ word.Reserved ∷ word.As ∷ word.Async ∷ word.Await ∷ word.Box ∷ word.Break ∷ word.Const ∷ word.Continue ∷
    word.Crate ∷ word.Do ∷ word.Dyn ∷ word.Else ∷ word.Enum ∷ word.Extern ∷ word.False ∷ word.Fn ∷ word.For ∷ word.Gen ∷
    word.If ∷ word.Impl ∷ word.In ∷ word.Let ∷ word.Loop ∷ word.Macro ∷ word.Match ∷ word.Mod ∷ word.Move ∷ word.Mut ∷
    word.Pub ∷ word.Ref ∷ word.Return ∷ word.SelfValue ∷ word.SelfType ∷ word.Static ∷ word.Struct ∷ word.Super ∷
    word.Trait ∷ word.True ∷ word.Try ∷ word.Type ∷ word.Unsafe ∷ word.Use ∷ word.Where ∷ word.While ∷ word.Yield ∷
    word.Underscore ∷ word.Auto ∷ word.Default ∷ word.MacroRules ∷ word.Raw ∷ word.Safe ∷ word.Union ∷ word.Yeet ∷ []

-- the index of each
place_in : (it : Word) → (n : ℕ) × (slice_get words n ≡ Some it)
place_in word.Name = (0, refl)
place_in word.Reserved = (1, refl)
place_in word.As = (2, refl)
place_in word.Async = (3, refl)
place_in word.Await = (4, refl)
place_in word.Box = (5, refl)
place_in word.Break = (6, refl)
place_in word.Const = (7, refl)
place_in word.Continue = (8, refl)
place_in word.Crate = (9, refl)
place_in word.Do = (10, refl)
place_in word.Dyn = (11, refl)
place_in word.Else = (12, refl)
place_in word.Enum = (13, refl)
place_in word.Extern = (14, refl)
place_in word.False = (15, refl)
place_in word.Fn = (16, refl)
place_in word.For = (17, refl)
place_in word.Gen = (18, refl)
place_in word.If = (19, refl)
place_in word.Impl = (20, refl)
place_in word.In = (21, refl)
place_in word.Let = (22, refl)
place_in word.Loop = (23, refl)
place_in word.Macro = (24, refl)
place_in word.Match = (25, refl)
place_in word.Mod = (26, refl)
place_in word.Move = (27, refl)
place_in word.Mut = (28, refl)
place_in word.Pub = (29, refl)
place_in word.Ref = (30, refl)
place_in word.Return = (31, refl)
place_in word.SelfValue = (32, refl)
place_in word.SelfType = (33, refl)
place_in word.Static = (34, refl)
place_in word.Struct = (35, refl)
place_in word.Super = (36, refl)
place_in word.Trait = (37, refl)
place_in word.True = (38, refl)
place_in word.Try = (39, refl)
place_in word.Type = (40, refl)
place_in word.Unsafe = (41, refl)
place_in word.Use = (42, refl)
place_in word.Where = (43, refl)
place_in word.While = (44, refl)
place_in word.Yield = (45, refl)
place_in word.Underscore = (46, refl)
place_in word.Auto = (47, refl)
place_in word.Default = (48, refl)
place_in word.MacroRules = (49, refl)
place_in word.Raw = (50, refl)
place_in word.Safe = (51, refl)
place_in word.Union = (52, refl)
place_in word.Yeet = (53, refl)

abbrev pub every : (Word → Bool) → List Word → Bool
every fact [] = true
every fact (it ∷ others) = fact it && every fact others

every_at : (fact : Word → Bool) (its : List Word) (n : ℕ) (it : Word) → every fact its ≡ true → slice_get its n ≡ Some it → fact it ≡ true
every_at fact [] n it e is = absurd (cc is)
every_at fact (first ∷ its) zero it e is =
    let same : first ≡ it = cc is in
    subst (λ w. fact w ≡ true) same (left_true (fact first) (every fact its) e)
every_at fact (first ∷ its) (suc n) it e is = every_at fact its n it (right_true (fact first) (every fact its) e) is

-- What holds of all words holds of each.
pub of_each : (fact : Word → Bool) → every fact words ≡ true → (it : Word) → fact it ≡ true
of_each fact e it = let there = place_in it in every_at fact words there.0 it e there.1

-- equal words have the same kind
abbrev pair_fact : (a b : Word) → Bool
pair_fact a b = not (same_unit (unit.Word a) (unit.Word b)) || (kind_of_word a == kind_of_word b)

pair_told : (a b : Word) → pair_fact a b ≡ true
pair_told a b = of_each (pair_fact a) (of_each (λ it. every (pair_fact it) words) refl a) b

then_so : (a b : Bool) → (not a || b) ≡ true → a ≡ true → b ≡ true
then_so true b e f = e
then_so false b e f = absurd (cc f)

pub same_word : (a b : Word) → same_unit (unit.Word a) (unit.Word b) ≡ true → kind_of_word a ≡ kind_of_word b
same_word a b e =
    eqb-true (kind_of_word a) (kind_of_word b)
    (then_so (same_unit (unit.Word a) (unit.Word b)) (kind_of_word a == kind_of_word b) (pair_told a b) e)
