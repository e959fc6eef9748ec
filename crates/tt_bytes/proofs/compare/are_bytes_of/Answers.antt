use Rattle.std.proofs.Common.{rules, None, Some, ◌∙◌, sym}
use Rattle.std.proofs.lemmas.Bool.Decides.{Decides-eqb}
use Rattle.std.proofs.lemmas.Slice.Eq.{slice_eq-Decides}
use Rattle.tt_bytes.specs.Behind.{IsBehind, front_bytes, StoredFits}
use Rattle.tt_bytes.proofs.Behind.{packed_behind, front_missing}
use Rattle.tt_tables.specs.Stored.{packed}
use Rattle.tt_bytes.proofs.compare.are_bytes_of.Goals as goal

pub returns-in-Some : goal.returns-in-Some
returns-in-Some c =
    let front : IsBehind (StoredFits (packed c.args.tree.now)) (front_bytes (packed c.args.tree.now)) c.args.bytes.now (Some c.in-Some.rest) = search rules in
    let behind = packed_behind c.args.tree.now c.args.bytes.now c.in-Some.rest c.packed_bytes.ensures.range c.packed_bytes.ensures.limits front in
    let same = slice_eq-Decides Decides-eqb _ _ _ c.eq.ensures in
    (λ yes. behind.0 (same.0 yes ∙ c.packed_bytes.ensures.value), λ are. same.1 (behind.1 are ∙ sym c.packed_bytes.ensures.value))

pub returns-in-None : goal.returns-in-None
returns-in-None c =
    let missing : IsBehind (StoredFits (packed c.args.tree.now)) (front_bytes (packed c.args.tree.now)) c.args.bytes.now None = search rules in
    (λ yes. search (rules, yes), λ are. absurd (front_missing c.args.tree.now c.args.bytes.now missing are))
