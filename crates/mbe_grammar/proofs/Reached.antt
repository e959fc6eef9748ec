-- The machine's answer by Rust's table is how far a fragment reaches.
use Rattle.std.proofs.Common.{ℕ, zero, suc, false, List, Some, None, refl, sym, subst, ◌∙◌}
use Rattle.std.specs.Prelude.{Option, option_map}
use Rattle.tt.specs.Forest.{Forest}
use Rattle.mbe_grammar.specs.Table.{rust_rules}
use Rattle.mbe_grammar.specs.Expressions.{name, AnswersIn, Answers}
use Rattle.mbe_grammar.specs.Fragments.{name_of, Reaches}
use Rattle.mbe_grammar.specs.Names.{start}
use Rattle.mbe_grammar.specs.declared.entry.Entry.{Entry}
use Rattle.mbe_grammar.specs.Places.{position_of}
use Rattle.mbe_grammar.specs.Parses.{Parses}
use Rattle.mbe_grammar.specs.Positions.{Position, first_position}
use Rattle.mbe_grammar.specs.Rust.{stands}
use Rattle.mbe_grammar.proofs.Behind.{closed_none, parsed_behind, counted}
use Rattle.mbe_grammar.proofs.Laid.{answers_of_rules}
use Rattle.mbe_grammar.proofs.RustLaid.{are_laid}
use Rattle.mbe_pattern.specs.declared.pattern.GrammarFragment.{GrammarFragment}

-- The answer for a name is that of its expression.
of_name : (which : GrammarFragment) (trees : Forest) (answer : Option Position) → Answers false stands (name (name_of which)) (first_position trees) answer
    → Answers false stands (stands (name_of which)) (first_position trees) answer
unfolding Answers
of_name which trees answer (zero, h) = absurd h
of_name which trees answer (suc depth, h) =
    subst (λ found. (depth : ℕ) × AnswersIn false stands depth (stands (name_of which)) (first_position trees) found) (sym (h.2 ∙ closed_none 0 h.0)) (depth, h.1)

answered : (which : GrammarFragment) (trees : Forest) (answer : Option Position) → Parses false rust_rules (start (name_of which)) (first_position trees) answer
    → Answers false stands (stands (name_of which)) (first_position trees) answer
answered which trees answer h = of_name which trees answer (answers_of_rules false rust_rules stands are_laid (name (name_of which)) (start (name_of which)) (first_position trees) answer refl h)

-- It ends at a place.
pub reached : (which : GrammarFragment) (trees : Forest) (to : Position) → Parses false rust_rules (start (name_of which)) (first_position trees) (Some to)
    → Reaches which trees (Some to.passed)
reached which trees to h =
    subst (λ (p : Position). Answers false stands (stands (name_of which)) (first_position trees) (Some p))
    (counted trees to (parsed_behind rust_rules (start (name_of which)) (first_position trees) (Some to) h)) (answered which trees (Some to) h)

-- It fails.
pub failed : (which : GrammarFragment) (trees : Forest) → Parses false rust_rules (start (name_of which)) (first_position trees) None → Reaches which trees None
failed which trees h = answered which trees None h

-- So it is with any answer.
pub reached_some : (which : GrammarFragment) (trees : Forest) (log : List Entry) (count : Option ℕ)
    → Parses false rust_rules (start (name_of which)) (first_position trees) (option_map (position_of trees log) count) → Reaches which trees count
reached_some which trees log None h = failed which trees h
reached_some which trees log (Some n) h = reached which trees (position_of trees log n) h
