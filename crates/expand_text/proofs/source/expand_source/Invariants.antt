-- The splices so far and those of the rest are those of all trees, through which the walk comes to these levels.
use Rattle.std.proofs.Common.{List}
use Rattle.expand_text.specs.Contexts.{Context, IsContext, config_of}
use Rattle.syntax_edit.specs.Splices.{Splice, replacements_of}
use Rattle.syntax_edit.specs.Texts.{begun, writing_of, AreReplaced}
use Rattle.expand_text.specs.Stops.{ComesTo}
use Rattle.expand_text.specs.Walks.{levels_of, work_in}
use Rattle.expand_text.proofs.Replacing.{IsReading}
use Rattle.expand_text.proofs.source.expand_source.Given as goal

abbrev pub invariant-trees : goal.invariant-trees
invariant-trees l =
    (before : Context) → IsContext before l.fn.context
    → (now : Context) × IsContext now l.context
    × (done : List Splice) × IsReading (config_of l.config) l.limit l.fn.tree.children before (levels_of l.walk) now done
    × AreReplaced (replacements_of done) (begun l.source) (writing_of l.output)
    × ComesTo (config_of l.config) l.limit l.fn.tree.children before (levels_of l.walk) now

abbrev pub decreases-trees : goal.decreases-trees
decreases-trees l = work_in (levels_of l.walk)
