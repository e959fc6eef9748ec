-- Rust's grammar as a table.
use Rattle.std.specs.Prelude.{List}
use Rattle.mbe_grammar.specs.declared.rule.Rule.{Rule}
use Rattle.mbe_grammar.specs.declared.rust.TheConstants.{RULES}

-- the rules, as the code has them
abbrev pub rust_rules : List Rule
rust_rules = RULES
