-- The listed lines are those of the text.
use Rattle.std.proofs.Common.{Ok}
use Rattle.std.specs.declared.alloc.AllocError.{AllocError}
use Rattle.std.proofs.lemmas.Iterator.Consumers.{map_from_collect}
use Rattle.std.proofs.lemmas.Iterator.Splits.{YieldsList-from_lines}
use Rattle.syntax_diagnostic.proofs.source_file.SourceFile.new.Goals as goal

pub invariant_of-result-clause-listed : goal.invariant_of-result-clause-listed
invariant_of-result-clause-listed c =
    map_from_collect {E = AllocError} (Ok c.in_ok-line_texts.line_texts) c.in_ok-line_texts.ensures.ran (YieldsList-from_lines c.args.text.now c.lines.ensures.rest)
