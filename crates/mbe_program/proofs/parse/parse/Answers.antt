use Rattle.std.proofs.Common.{rules, ◌≡◌, [], ◌∷◌, ◌++◌, map, length, ap, sym, subst, ◌∙◌}
use Rattle.std.proofs.lemmas.List.{length-map}
use Rattle.tt.specs.Iters.{rest_of}
use Rattle.mbe_pattern.specs.Placed.{pattern_of}
use Rattle.mbe_program.specs.Cutting.{level_left, levels_left, cut_by}
use Rattle.mbe_program.specs.Pieces.{bit_of}
use Rattle.mbe_program.proofs.CutWhole.{Parse, levels_last, with_rest, parse_more, parse_same}
use Rattle.mbe_program.proofs.parse.parse.Goals as goal

pub loop-level-preserved : goal.loop-level-preserved
loop-level-preserved c =
    let pattern = pattern_of (rest_of c.args.pattern) in
    let old = c.loop-level.parser in
    let popped = c.pop.new.self.items in
    let level = c.in-Some.level in
    let whole = pattern_of (rest_of level.rest) in
    let others = pattern_of (rest_of c.next_part.new.trees) in
    let found = c.in_ok-part.part in
    let at = length old.pieces.items in
    let was : old.levels.items ≡ popped ++ level ∷ [] = search rules in
    let left : levels_left old.levels.items ≡ level_left level ∷ levels_left popped = ap levels_left was ∙ levels_last popped level in
    let it : Parse pattern (map bit_of old.pieces.items) (with_rest (level_left level) whole ∷ levels_left popped) = subst (Parse pattern (map bit_of old.pieces.items)) left c.loop-level.invariant in
    let step = cut_by found at (with_rest (level_left level) others) (levels_left popped) in
    let next = c.take_part.new.self in
    let made = c.in_ok-take_part.ensures in
    parse_same pattern (map bit_of old.pieces.items ++ step.bits) (map bit_of next.pieces.items) step.levels (levels_left next.levels.items) made.bits made.levels
    (parse_more pattern whole others (map bit_of old.pieces.items) at (level_left level) (levels_left popped) found (sym (length-map old.pieces.items bit_of)) c.in_ok-part.ensures.part it)
