use Rattle.std.proofs.Common.{◌≡◌, drop, rules}
use Rattle.tt_tables.specs.ListOf.{list_of}
use Rattle.tt_tables.specs.Uses.{part_uses}
use Rattle.tt_tables.proofs.OneNode.{opening_use, closing_use}
use Rattle.tt_tables.proofs.counted.CountedTokens.part_uses_behind.Goals as goal

pub with_less-requires : goal.with_less-requires
with_less-requires c =
    let copied : c.extend_from_slice.new.self.items ≡ c.args.self.part_uses.now = search rules in
    let left = c.with_less-numbers.ensures _ _ (opening_use c.args.self c.requires c.first_header-entry.result c.first_header-entry.ensures _ copied) in
    (c.args.self.parts.now, part_uses (drop 1 (list_of c.args.self)), closing_use c.args.self c.requires c.first_header-entry.result c.first_header-entry.ensures _ left)

pub returns : goal.returns
returns c =
    let copied : c.extend_from_slice.new.self.items ≡ c.args.self.part_uses.now = search rules in
    let left = c.with_less-numbers.ensures _ _ (opening_use c.args.self c.requires c.first_header-entry.result c.first_header-entry.ensures _ copied) in
    c.with_less.ensures _ _ (closing_use c.args.self c.requires c.first_header-entry.result c.first_header-entry.ensures _ left)
