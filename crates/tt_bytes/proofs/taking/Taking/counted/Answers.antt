use Rattle.std.proofs.Common.{refl, sym}
use Rattle.tt_tables.proofs.Packing.{counted_from}
use Rattle.tt_bytes.proofs.taking.Taking.counted.Goals as goal

pub new-requires : goal.new-requires
new-requires c =
    let has = c.args.self.now.list c.requires in
    (has.0, counted_from _ c.deref.result.now _ _ _ c.deref-2.result.now _ c.deref-3.result.now _ c.deref-4.result.now has.0 has.1 c.deref.ensures.value refl c.deref-2.ensures.value c.deref-3.ensures.value c.deref-4.ensures.value)

pub returns : goal.returns
returns c =
    counted_from c.deref.result.now _ _ _ c.deref-2.result.now _ c.deref-3.result.now _ c.deref-4.result.now _ _ c.new.ensures (sym c.deref.ensures.value) refl (sym c.deref-2.ensures.value) (sym c.deref-3.ensures.value) (sym c.deref-4.ensures.value)
