use Rattle.std.proofs.Common.{◌≡◌, drop}
use Rattle.syntax_parse.specs.Escapes.{fault_behind}
use Rattle.syntax_parse.specs.declared.escapes.Reached.TheVariants.{Plain}
use Rattle.syntax_parse.proofs.escapes.text_fault.Given as goal

abbrev pub invariant-loop-byte : goal.invariant-loop-byte
invariant-loop-byte l = fault_behind l.fn.kind l.reached l.count (drop l.byte-index l.fn.text) ≡ fault_behind l.fn.kind Plain 0 l.fn.text
