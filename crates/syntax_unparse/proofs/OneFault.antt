-- Trees that cannot be written have one fault, unless memory runs out.
use Rattle.std.proofs.Common.{◌≡◌, ◌≢◌, ℕ, ◌+◌, ◌^◌, ◌<◌, List, [], ◌∷◌, length, Option, None, Some, refl, sym, ◌∙◌, inl, inr, arith}
use Rattle.tt_base.specs.Forest.{Forest}
use Rattle.syntax_unparse.specs.Marks.{Mark, word, opening, closing, marks}
use Rattle.syntax_unparse.specs.Text.{behind_leaf, text_of}
use Rattle.syntax_unparse.specs.Writable.{Answers, IsFirstRefused, IsWritable, IsWriteFault, MayEnd, MayFollow, ReadsAlone}
use Rattle.syntax_unparse.specs.declared.behind.Behind.{Behind}
use Rattle.syntax_unparse.specs.declared.behind.Behind.TheVariants.{Opening, Apart}
use Rattle.syntax_unparse.specs.declared.fault.WriteFault.{WriteFault}
use Rattle.syntax_unparse.specs.declared.fault.WriteFault.TheVariants.{NotWritable, TooLong, Memory}

-- one of two answers is right
one_of : (P first second : Type 0) (a b other : Option ℕ) → (first → second → a ≡ b) → Answers P first (a ≡ other) → Answers P second (b ≡ other) → a ≡ b
one_of P first second a b other same (inl (holds, x)) (inl (again, y)) = same x y
one_of P first second a b other same (inl (holds, x)) (inr (fails, y)) = absurd (fails holds)
one_of P first second a b other same (inr (fails, x)) (inl (holds, y)) = absurd (fails holds)
one_of P first second a b other same (inr (fails, x)) (inr (again, y)) = x ∙ sym y

-- marks have one first leaf that cannot be written
one_refused : (last : ℕ) (behind : Behind) (ms : List Mark) (a b : Option ℕ) → IsFirstRefused last behind ms a → IsFirstRefused last behind ms b → a ≡ b
one_refused last behind [] a b x y = one_of (MayEnd behind) (a ≡ None) (b ≡ None) a b (Some last) (λ x y. x ∙ sym y) x y
one_refused last behind (word at it ∷ rest) a b x y =
    one_of (MayFollow behind it) (Answers (ReadsAlone it) (IsFirstRefused at (behind_leaf it) rest a) (a ≡ Some at)) (Answers (ReadsAlone it) (IsFirstRefused at (behind_leaf it) rest b) (b ≡ Some at)) a b (Some last)
    (λ x y. one_of (ReadsAlone it) (IsFirstRefused at (behind_leaf it) rest a) (IsFirstRefused at (behind_leaf it) rest b) a b (Some at) (λ x y. one_refused at (behind_leaf it) rest a b x y) x y) x y
one_refused last behind (opening pair ∷ rest) a b x y =
    one_of (MayEnd behind) (IsFirstRefused last Opening rest a) (IsFirstRefused last Opening rest b) a b (Some last) (λ x y. one_refused last Opening rest a b x y) x y
one_refused last behind (closing pair ∷ rest) a b x y =
    one_of (MayEnd behind) (IsFirstRefused last Apart rest a) (IsFirstRefused last Apart rest b) a b (Some last) (λ x y. one_refused last Apart rest a b x y) x y

pub one_fault : (trees : Forest) (one other : WriteFault) → IsWriteFault trees one → IsWriteFault trees other → one ≢ Memory → other ≢ Memory → one ≡ other
one_fault trees (NotWritable a) (NotWritable b) x y no_memory no_want =
    let same : Some a ≡ Some b = one_refused 0 Opening (marks 0 trees) (Some a) (Some b) x.0 y.0 in
    cc
one_fault trees (NotWritable a) TooLong x y no_memory no_want = absurd (omega (arith, x.1, y))
one_fault trees TooLong (NotWritable b) x y no_memory no_want = absurd (omega (arith, x, y.1))
one_fault trees TooLong TooLong x y no_memory no_want = refl
one_fault trees Memory other x y no_memory no_want = absurd (no_memory refl)
one_fault trees (NotWritable a) Memory x y no_memory no_want = absurd (no_want refl)
one_fault trees TooLong Memory x y no_memory no_want = absurd (no_want refl)

pub no_fault : (trees : Forest) (fault : WriteFault) → IsWritable trees → 1 + length (text_of trees) < 2 ^ 32 → IsWriteFault trees fault → fault ≡ Memory
no_fault trees (NotWritable a) writable short why =
    let same : None ≡ Some a = one_refused 0 Opening (marks 0 trees) None (Some a) writable why.0 in
    cc
no_fault trees TooLong writable short why = absurd (omega (arith, short, why))
no_fault trees Memory writable short why = refl
