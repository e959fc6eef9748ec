use Rattle.std.proofs.Common.{rules, ◌≡◌, ◌≢◌, ◌∷◌, [], sym, ◌∙◌, arith}
use Rattle.std.specs.Prelude.{slice_index}
use Rattle.tt_bytes.specs.Format.{mark}
use Rattle.tt_bytes.proofs.Marks.{mark_missing, mark_differs, mark_goes_on}
use Rattle.tt_bytes.proofs.front.behind_mark.Goals as goal

pub returns-in_default-clause-value : goal.returns-in_default-clause-value
returns-in_default-clause-value c =
    let none : c.loop-at.rest.now ≡ [] = search rules in
    sym c.loop-at.invariant.read ∙ mark_missing c.loop-at.at _ c.loop-at-test.true none

pub returns-then-byte-at-clause-value : goal.returns-then-byte-at-clause-value
returns-then-byte-at-clause-value c =
    let is : c.loop-at.rest.now ≡ c.in-Some.byte.now ∷ c.in-Some.behind.now = search rules in
    let other : c.in-Some.byte.now ≢ slice_index mark c.loop-at.at = search rules in
    sym c.loop-at.invariant.read ∙ mark_differs c.loop-at.at _ _ _ c.loop-at-test.true is other

pub loop-at-preserved : goal.loop-at-preserved
loop-at-preserved c =
    let is : c.loop-at.rest.now ≡ c.in-Some.byte.now ∷ c.in-Some.behind.now = search rules in
    let same : c.in-Some.byte.now ≡ slice_index mark c.loop-at.at = search rules in
    record {
      read = sym (mark_goes_on c.loop-at.at _ _ _ c.loop-at-test.true is same) ∙ c.loop-at.invariant.read;
      len = search (arith, rules);
    }
