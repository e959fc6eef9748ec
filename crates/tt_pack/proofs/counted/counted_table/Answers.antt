use Rattle.std.proofs.Common.{◌∙◌}
use Rattle.tt_pack.proofs.Joined.{if_ok_both}
use Rattle.tt_pack.proofs.ListTables.{counted_leads}
use Rattle.tt_pack.proofs.counted.counted_table.Goals as goal

pub returns : goal.returns
returns g c =
    if_ok_both c.of_counts.result
    (λ table is leads uses are.
    counted_leads g.T.PartialEq.eq c.requires.same g.met.T.Eq.laws c.args.short uses table c.as_slice-values.result.now c.as_slice-numbers.result.now c.args.counts.now.entries
    (c.as_slice-values.ensures ∙ c.keys.ensures.rest) (c.as_slice-numbers.ensures ∙ c.values.ensures.rest) c.requires.few are (is uses) leads)
    c.of_counts.ensures.values c.of_counts.ensures.new_indices
