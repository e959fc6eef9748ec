use Rattle.std.proofs.Common.{rules, ◌≡◌, [], ap, ◌∙◌}
use Rattle.tt.specs.Iters.{rest_of}
use Rattle.mbe_pattern.specs.Placed.{pattern_of}
use Rattle.mbe_program.specs.Counting.{counted, nothing_counted}
use Rattle.mbe_program.specs.Moving.{instructions_of}
use Rattle.mbe_program.specs.Program.{program_of}
use Rattle.mbe_program.specs.Variables.{variables_in}
use Rattle.mbe_program.proofs.Counted.{counted_parts}
use Rattle.mbe_program.proofs.VariablesIn.{variables_whole}
use Rattle.mbe_program.proofs.matcher.Matcher.new.Goals as goal

pub returns-clause-ok : goal.returns-clause-ok
returns-clause-ok c =
    let pattern = pattern_of (rest_of c.args.pattern) in
    let numbered : instructions_of c.deref.result.now ≡ program_of pattern = search rules in
    let items : c.deref-2.result.now ≡ c.in_ok-instructions.instructions.items = search rules in
    record {
      instructions = c.in_ok-instructions.ensures;
      numbers = c.in_ok-numbers.ensures ∙ ap (λ its. (counted its its nothing_counted).numbers) numbered ∙ counted_parts pattern;
      variables = c.in_ok-binders.ensures ∙ ap (λ its. variables_in [] (instructions_of its)) items ∙ ap (variables_in []) c.in_ok-instructions.ensures ∙ variables_whole pattern;
    }
