-- What is left to read of the open levels of a derivation.
use Rattle.std.specs.Prelude.{◌++◌, ℕ, List, [], ◌∷◌, drop, map, take, Option, None, Some}
use Rattle.mbe_grammar.specs.declared.derivation.Open.{Open}
use Rattle.mbe_grammar.specs.declared.entry.Entry.{Entry}
use Rattle.mbe_grammar.specs.declared.event.Level.{Level}

-- an entry of the log of a level; the end of a subtree; or the place where the expression of a level stops before the end of the trees
pub data Left : Type 0 where
  noted : (it : Entry) → Left
  closes : Left
  stops : (it : Level) → Left

-- the place where a level stops, if it does, before what is left around the level
abbrev pub stopped : (stop : Option Level) → List Left → List Left
stopped None others = others
stopped (Some it) others = stops it ∷ others

-- what is left around a level: its end, and what is left of the open levels around it, the innermost first
abbrev pub around : (log : List Entry) → List Open → List Left
around log [] = []
around log (inner ∷ older) = closes ∷ map noted (drop inner.next log) ++ stopped inner.stop (around (take inner.since log) older)

-- what is left of a level whose entries begin at one index of the log and are passed up to another, and what is left around it
abbrev pub ahead_in : (log : List Entry) → (since next : ℕ) → (stop : Option Level) → List Open → List Left
ahead_in log since next stop older = map noted (drop next log) ++ stopped stop (around (take since log) older)

abbrev pub inside : (log : List Entry) → Open → List Open → List Left
inside log inner older = ahead_in log inner.since inner.next inner.stop older
