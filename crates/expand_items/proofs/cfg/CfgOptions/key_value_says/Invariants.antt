-- The atom is among those that are true if it was found or is among the rest.
use Rattle.std.proofs.Common.{◌≡◌, drop}
use Rattle.std.specs.List.{list_any}
use Rattle.std.specs.Prelude.{◌||◌}
use Rattle.expand_items.specs.Cfg.{is_key_value}
use Rattle.expand_items.proofs.cfg.CfgOptions.key_value_says.Given as goal

abbrev pub invariant-loop-atom : goal.invariant-loop-atom
invariant-loop-atom l = (l.is_there || list_any (is_key_value l.key l.value) (drop l.atom-index l.atom-items)) ≡ list_any (is_key_value l.key l.value) l.fn.self.atoms.items
