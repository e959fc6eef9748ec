use Rattle.std.proofs.Common.{rules, ◌≡◌, inl, inr}
use Rattle.std.specs.Prelude.{Err}
use Rattle.app_c.proofs.Results.{if_ok, if_err}
use Rattle.app_c.proofs.macros.expanded_bytes.Goals as goal

pub returns-clause-ok : goal.returns-clause-ok
returns-clause-ok c =
    if_ok c.bytes_of_tree.result
    (λ bytes are.
    record {
      macro = c.in_ok-arms.arms;
      given = c.in_ok-input.input;
      are = record { spells_arms = c.in_ok-arms.ensures.ok; spells_input = c.in_ok-input.ensures.ok };
      tree = c.in_ok-tree.tree;
      made = c.in_ok-tree.ensures.ok;
      spells = are;
    }) c.bytes_of_tree.ensures.ok

pub returns-clause-err : goal.returns-clause-err
returns-clause-err c =
    if_err c.bytes_of_tree.result
    (λ failure none.
    inr (inr (inr (record {
      macro = c.in_ok-arms.arms;
      given = c.in_ok-input.input;
      are = record { spells_arms = c.in_ok-arms.ensures.ok; spells_input = c.in_ok-input.ensures.ok };
      tree = c.in_ok-tree.tree;
      made = c.in_ok-tree.ensures.ok;
      none = none;
    })))) c.bytes_of_tree.ensures.err

pub returns-in_err-tree-clause-err : goal.returns-in_err-tree-clause-err
returns-in_err-tree-clause-err c =
    let failed : c.from_residual-in_err-tree.result ≡ Err c.in_err-tree.field-0.0 = search rules in
    rw failed
    (inr (inr (inl (record {
      macro = c.in_ok-arms.arms;
      given = c.in_ok-input.input;
      are = record { spells_arms = c.in_ok-arms.ensures.ok; spells_input = c.in_ok-input.ensures.ok };
      none = c.in_err-tree.ensures.err;
    }))))
