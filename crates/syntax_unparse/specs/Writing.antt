-- Writing marks one after the other.
use Rattle.std.specs.Prelude.{◌≡◌, ◌≤◌, ◌<◌, ◌+◌, ◌^◌, ℕ, List, [], ◌++◌, length, Option, None, Some}
use Rattle.tt_base.specs.declared.leaf.Leaf.{Leaf}
use Rattle.syntax_unparse.specs.Marks.{Mark}
use Rattle.syntax_unparse.specs.Text.{written}
use Rattle.syntax_unparse.specs.Writable.{Answers, IsFirstRefused, MayFollow, ReadsAlone}
use Rattle.syntax_unparse.specs.declared.behind.Behind.{Behind}
use Rattle.syntax_unparse.specs.declared.fault.WriteFault.{WriteFault}
use Rattle.syntax_unparse.specs.declared.fault.WriteFault.TheVariants.{NotWritable, TooLong, Memory}
use Rattle.syntax_unparse.specs.declared.write.Last.{Last}

-- the place of the first leaf that cannot be written, among those before or else these marks, or `None` if all can be written
abbrev pub IsRefused : (before : Option ℕ) → (last : ℕ) → Behind → List Mark → Option ℕ → Type 0
IsRefused None last behind marks answer = IsFirstRefused last behind marks answer
IsRefused (Some at) last behind marks answer = answer ≡ Some at

-- the same for the marks after what was written last
abbrev pub Refusing : Last → List Mark → Option ℕ → Type 0
Refusing last marks answer = IsRefused last.refused last.at last.behind marks answer

-- the place of the first leaf that cannot be written, among those before, or else the last one or the leaf that follows, or `None`
abbrev pub IsLeafRefused : (before : Option ℕ) → (last : ℕ) → Behind → (at : ℕ) → Leaf → Option ℕ → Type 0
IsLeafRefused None last behind at it answer = Answers (MayFollow behind it) (Answers (ReadsAlone it) (answer ≡ None) (answer ≡ Some at)) (answer ≡ Some last)
IsLeafRefused (Some place) last behind at it answer = answer ≡ Some place

-- the marks are written: with any marks after them, the text and the refusals continue those before
pub record Writes (old : List ℕ) (last : Last) (front : List Mark) (new : List ℕ) (next : Last) : Type 0 where
  pub text : (rest : List Mark) → new ++ written next.behind rest ≡ old ++ written last.behind (front ++ rest)
  pub refused : (rest : List Mark) → (answer : Option ℕ) → Refusing next rest answer → Refusing last (front ++ rest) answer

-- why marks are not written, whatever follows
abbrev pub IsFaultBefore : (last : Last) → (front : List Mark) → WriteFault → Type 0
IsFaultBefore last front (NotWritable at) = ⊥
IsFaultBefore last front TooLong = (rest : List Mark) → 2 ^ 32 ≤ 1 + length (written last.behind (front ++ rest))
IsFaultBefore last front Memory = Unit {0}

-- why a text that is written completely is refused
abbrev pub IsFaultAtEnd : (text : List ℕ) → (last : Last) → WriteFault → Type 0
IsFaultAtEnd text last (NotWritable at) = Refusing last [] (Some at) × (1 + length text < 2 ^ 32)
IsFaultAtEnd text last TooLong = 2 ^ 32 ≤ 1 + length text
IsFaultAtEnd text last Memory = ⊥
