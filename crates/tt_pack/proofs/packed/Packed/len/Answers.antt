use Rattle.std.proofs.Common.{◌≡◌, suc, ap, ◌∙◌, rules}
use Rattle.tt_base.specs.Forest.{size}
use Rattle.tt_tables.specs.Stored.{packed}
use Rattle.tt_pack.proofs.packed.Packed.len.Goals as goal

pub returns : goal.returns
unfolding packed
returns c =
    let view : c.self.inside.meaning.0 ≡ c.args.self.now = search rules in
    ap (λ stored. stored.len) c.self.inside.meaning.1.2 ∙ ap (λ root. suc (size root.children)) view
