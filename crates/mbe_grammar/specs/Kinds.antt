-- Kinds of units: each is a number below 64. Units that the grammar seldom distinguishes share one.
use Rattle.std.specs.Prelude.{ℕ, Option, None, Some, slice_get}
use Rattle.tt.specs.Types.DelimiterKind.TheVariants as delimiter
use Rattle.mbe_grammar.specs.declared.kind.TheConstants.{KINDS_OF_CHARS}
use Rattle.mbe_grammar.specs.declared.unit.Unit.{Unit}
use Rattle.mbe_grammar.specs.declared.unit.Unit.TheVariants as unit
use Rattle.mbe_grammar.specs.declared.words.Word.{Word}
use Rattle.mbe_grammar.specs.declared.words.Word.TheVariants as word

-- the kind of an ident
abbrev pub kind_of_word : Word → ℕ
kind_of_word word.Name = 7
kind_of_word word.Reserved = 35
kind_of_word word.As = 11
kind_of_word word.Async = 12
kind_of_word word.Await = 35
kind_of_word word.Box = 13
kind_of_word word.Break = 14
kind_of_word word.Const = 15
kind_of_word word.Continue = 14
kind_of_word word.Crate = 9
kind_of_word word.Do = 35
kind_of_word word.Dyn = 16
kind_of_word word.Else = 35
kind_of_word word.Enum = 33
kind_of_word word.Extern = 17
kind_of_word word.False = 10
kind_of_word word.Fn = 18
kind_of_word word.For = 19
kind_of_word word.Gen = 20
kind_of_word word.If = 21
kind_of_word word.Impl = 24
kind_of_word word.In = 35
kind_of_word word.Let = 25
kind_of_word word.Loop = 23
kind_of_word word.Macro = 33
kind_of_word word.Match = 22
kind_of_word word.Mod = 33
kind_of_word word.Move = 26
kind_of_word word.Mut = 27
kind_of_word word.Pub = 33
kind_of_word word.Ref = 28
kind_of_word word.Return = 14
kind_of_word word.SelfValue = 9
kind_of_word word.SelfType = 9
kind_of_word word.Static = 29
kind_of_word word.Struct = 33
kind_of_word word.Super = 9
kind_of_word word.Trait = 33
kind_of_word word.True = 10
kind_of_word word.Try = 30
kind_of_word word.Type = 33
kind_of_word word.Unsafe = 32
kind_of_word word.Use = 33
kind_of_word word.Where = 34
kind_of_word word.While = 23
kind_of_word word.Yield = 14
kind_of_word word.Underscore = 31
kind_of_word word.Auto = 8
kind_of_word word.Default = 8
kind_of_word word.MacroRules = 8
kind_of_word word.Raw = 8
kind_of_word word.Safe = 8
kind_of_word word.Union = 8
kind_of_word word.Yeet = 8

-- the kind of a punct that a table has, or the kind of one that it does not have
abbrev pub kind_or_other : Option ℕ → ℕ
kind_or_other None = 36
kind_or_other (Some kind) = kind

-- the kind of a punct, or of glued puncts that begin with it
abbrev pub kind_of_char : (char : ℕ) → ℕ
kind_of_char char = kind_or_other (slice_get KINDS_OF_CHARS char)

-- the kind of a unit
abbrev pub kind_of : Unit → ℕ
kind_of unit.End = 0
kind_of unit.Lifetime = 1
kind_of (unit.Literal _) = 2
kind_of (unit.Subtree delimiter.Parenthesis) = 3
kind_of (unit.Subtree delimiter.Brace) = 4
kind_of (unit.Subtree delimiter.Bracket) = 5
kind_of (unit.Subtree delimiter.Invisible) = 6
kind_of (unit.Subtree delimiter.InvisibleOpaque) = 6
kind_of (unit.Word it) = kind_of_word it
kind_of (unit.Punct one) = kind_of_char one
kind_of (unit.TwoPuncts one two) = kind_of_char one
kind_of (unit.ThreePuncts one two three) = kind_of_char one
