use Rattle.std.proofs.Common.{rules, ◌≡◌, ◌+◌, ◌-◌, ◌<◌, suc, ap, sym, ◌∙◌, arith}
use Rattle.mbe_program.specs.Positions.{table_of}
use Rattle.mbe_program.specs.Tables.{passed_to}
use Rattle.mbe_program.proofs.positions.Positions.passed_to.Goals as goal

pub loop-preserved : goal.loop-preserved
loop-preserved c =
    let table = table_of c.args.self.now in
    let more : c.loop.counter < c.args.count = search rules in
    let next : c.next_to-to.result ≡ passed_to table 1 c.loop.to = search rules in
    let one : c.args.count - c.loop.counter ≡ suc (c.args.count - (c.loop.counter + 1)) = omega (arith, more) in
    ap (passed_to table (c.args.count - (c.loop.counter + 1))) next ∙ ap (λ n. passed_to table n c.loop.to) (sym one) ∙ c.loop.invariant
