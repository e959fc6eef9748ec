use Rattle.std.proofs.Common.{rules, ◌≡◌, ◌<◌, ◌≤◌, length, get_or, ltb, sym}
use Rattle.std.proofs.lemmas.List.Sorted.{IsPartitionPoint-from_clause, IsPartitionedBy-ltb}
use Rattle.tt.proofs.Finding.{numbers_rise, at_partition_point, kept_there, none_there}
use Rattle.tt.proofs.builder.standing.find.Goals as goal

pub returns-in_default : goal.returns-in_default
returns-in_default c =
    let parted = IsPartitionedBy-ltb (λ y. y.number) _ c.args.number (numbers_rise _ c.requires) in
    let point = IsPartitionPoint-from_clause (λ y. ltb y.number c.args.number) _ _ c.partition_point-lower.ensures.partitioned parted (λ a r q k. search rules) in
    let past : length c.args.points.now ≤ c.partition_point-lower.result = search rules in
    sym (none_there _ _ _ (at_partition_point _ _ _ point) past)

pub returns-then-point-number : goal.returns-then-point-number
returns-then-point-number c =
    let parted = IsPartitionedBy-ltb (λ y. y.number) _ c.args.number (numbers_rise _ c.requires) in
    let point = IsPartitionPoint-from_clause (λ y. ltb y.number c.args.number) _ _ c.partition_point-lower.ensures.partitioned parted (λ a r q k. search rules) in
    let within : c.partition_point-lower.result < length c.args.points.now = search rules in
    let is : c.in-Some.point.now ≡ get_or c.args.points.now c.partition_point-lower.result c.in-Some.point.now = search rules in
    let found = kept_there _ _ _ _ c.requires (at_partition_point _ _ _ point) within is in
    search (rules, found)

pub returns : goal.returns
returns c =
    let parted = IsPartitionedBy-ltb (λ y. y.number) _ c.args.number (numbers_rise _ c.requires) in
    let point = IsPartitionPoint-from_clause (λ y. ltb y.number c.args.number) _ _ c.partition_point-lower.ensures.partitioned parted (λ a r q k. search rules) in
    let within : c.partition_point-lower.result < length c.args.points.now = search rules in
    let is : c.in-Some.point.now ≡ get_or c.args.points.now c.partition_point-lower.result c.in-Some.point.now = search rules in
    let found = kept_there _ _ _ _ c.requires (at_partition_point _ _ _ point) within is in
    search (rules, found)
