-- What a first subtree holds, if the program enters subtrees of its kind.
use Rattle.std.proofs.Common.{rules, ◌≡◌, false, sym, subst}
use Rattle.std.specs.Prelude.{Contains}
use Rattle.tt.specs.Iters.{IsFirstSubtree}
use Rattle.tt.specs.Views.{trees_of}
use Rattle.mbe_pattern.proofs.FirstTrees.{node_before}
use Rattle.mbe_pattern.specs.Units.{IsNodeOf}
use Rattle.mbe_program.specs.Moving.{instructions_of}
use Rattle.mbe_program.specs.Program.{enter}
use Rattle.mbe_program.proofs.positions.children_of.Goals as goal

pub returns-then-not-enters_some : goal.returns-then-not-enters_some
returns-then-not-enters_some c =
    let no : c.args.enters_some ≡ false = search rules in
    λ kind enters node_is. c.requires.none no kind enters

pub returns-then-enters : goal.returns-then-enters
returns-then-enters c =
    let header = c.in_ok-header.header in
    let first : IsFirstSubtree (trees_of c.args.trees) header c.in_ok-header.children = search rules in
    (header.delimiter, node_before (trees_of c.args.trees) header c.in_ok-header.children first)

pub returns-else-enters : goal.returns-else-enters
returns-else-enters c =
    let header = c.in_ok-header.header in
    let first : IsFirstSubtree (trees_of c.args.trees) header c.in_ok-header.children = search rules in
    let is = node_before (trees_of c.args.trees) header c.in_ok-header.children first in
    let other : Contains (instructions_of c.args.program.now) (enter header.delimiter.kind) → ⊥ = search rules in
    λ kind enters node_is.
    let same : header.delimiter.kind ≡ kind = subst (IsNodeOf kind) is node_is in
    other (subst (λ kind. Contains (instructions_of c.args.program.now) (enter kind)) (sym same) enters)
