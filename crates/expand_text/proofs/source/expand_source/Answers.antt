use Rattle.std.proofs.Common.{◌∷◌, ◌++◌, [], sym, subst}
use Rattle.tt.specs.TreeWalks.{innermost}
use Rattle.expand_text.specs.Contexts.{Config, config_of}
use Rattle.syntax_edit.specs.Splices.{replacements_of}
use Rattle.syntax_edit.specs.Texts.{Writing, AreReplaced, begun, writing_of}
use Rattle.expand_text.specs.Stops.{ComesTo}
use Rattle.expand_text.specs.Walks.{first_level, outer_of, levels_of, begun as begun_at}
use Rattle.expand_text.specs.Writing.{IsNextWritten}
use Rattle.expand_items.specs.Positions.{begun as begun_among}
use Rattle.expand_items.specs.declared.position.Siblings.TheVariants.{Items}
use Rattle.expand_text.proofs.Coming.{comes_first, comes_on, stops_in}
use Rattle.expand_text.proofs.Replacing.{IsReading, begins, reads_on, reads_all, replaced_more}
use Rattle.expand_text.proofs.source.expand_source.Goals as goal

pub new-walk-requires : goal.new-walk-requires
new-walk-requires c = c.new-trees.ensures.outer

pub trees-init : goal.trees-init
trees-init c before is =
    let config : Config = config_of c.args.config.now in
    let trees = c.args.tree.children in
    let close = c.top_subtree.result.delimiter.close in (
      before,
      is,
      [],
      subst (λ ls. IsReading config c.args.limit trees before ls before []) (sym c.new-walk.ensures)
          (subst (λ p. IsReading config c.args.limit trees before (begun_at p (innermost c.new-trees.result) close ∷ []) before []) (sym c.begun-first.ensures)
          (subst (λ f. IsReading config c.args.limit trees before (begun_at (begun_among Items) f close ∷ []) before []) (sym c.new-trees.ensures.innermost)
          (begins config c.args.limit trees before close))),
      c.new-output.ensures,
      subst (λ ls. ComesTo config c.args.limit trees before ls before) (sym c.new-walk.ensures)
          (subst (λ p. ComesTo config c.args.limit trees before (begun_at p (innermost c.new-trees.result) close ∷ []) before) (sym c.begun-first.ensures)
          (subst (λ f. ComesTo config c.args.limit trees before (begun_at (begun_among Items) f close ∷ []) before) (sym c.new-trees.ensures.innermost)
          (comes_first config c.args.limit trees before close))),
    )

pub trees-smaller : goal.trees-smaller
trees-smaller c = c.in_ok-write_next.ensures.steps c.if-branch.true

pub trees-preserved : goal.trees-preserved
trees-preserved c before is =
    let config : Config = config_of c.args.config.now in
    let limit = c.args.limit in
    let trees = c.args.tree.children in
    let walk = c.trees.walk in
    let nexts = levels_of c.write_next.new.walk in
    let old : Writing = writing_of c.trees.output in
    let new : Writing = writing_of c.write_next.new.output in
    let (now, context, done, reading, are, comes) = c.trees.invariant before is in
    let (after, ready, written) = c.in_ok-write_next.ensures.written now context in
    let on = subst (λ b. IsNextWritten b config limit (levels_of walk) nexts old new now after) c.if-branch.true written in (
      after,
      ready,
      done ++ on.more,
      reads_on config limit trees before now after (first_level walk) (outer_of walk) nexts done reading old new on,
      replaced_more done on.more (begun c.args.source.now) old new are on.replaced,
      comes_on config limit trees before now after (levels_of walk) nexts on.grown comes on.leads,
    )

pub returns-clause-written : goal.returns-clause-written
returns-clause-written c before is =
    let config : Config = config_of c.args.config.now in
    let limit = c.args.limit in
    let trees = c.args.tree.children in
    let walk = c.trees.walk in
    let nexts = levels_of c.write_next.new.walk in
    let old : Writing = writing_of c.trees.output in
    let new : Writing = writing_of c.write_next.new.output in
    let (now, context, done, reading, are, comes) = c.trees.invariant before is in
    let (after, ready, written) = c.in_ok-write_next.ensures.written now context in
    let (ended, same) = subst (λ b. IsNextWritten b config limit (levels_of walk) nexts old new now after) c.if-branch.false written in
    let (outcome, expands_to, splices) = reads_all config limit trees before now after (first_level walk) (outer_of walk) nexts done reading after ended in (
      after,
      ready,
      record {
        outcome = outcome;
        expands_to = expands_to;
        splices = done;
        are = splices;
        written = new;
        replaced = subst (AreReplaced (replacements_of done) (begun c.args.source.now)) (sym same) are;
        text = c.in_ok-finish.ensures;
      },
    )
