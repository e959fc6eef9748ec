-- Units that were tried after fewer trees are forgotten.
use Rattle.std.proofs.Common.{rules, ◌≡◌, ◌<◌, [], Some, refl}
use Rattle.mbe_grammar.specs.declared.trying.Wanted.{Wanted}
use Rattle.mbe_grammar.specs.Tried.{IsNoted}
use Rattle.mbe_grammar.proofs.Noting.{noted_farther, carried_ok}
use Rattle.mbe_grammar.proofs.trying.Wanted.note.Goals as goal

pub returns-then-self-passed : goal.returns-then-self-passed
returns-then-self-passed c =
    let old = c.args.self.now in
    let middle : Wanted = record { passed = c.args.passed; units = c.clear.new.self } in
    let less : old.passed < c.args.passed = search rules in
    let none : c.clear.new.self.items ≡ [] = search rules in
    carried_ok (λ _. IsNoted (Some c.args.unit) c.args.passed middle c.list.new.self) (λ _. IsNoted (Some c.args.unit) c.args.passed old c.list.new.self)
    (λ _ n. noted_farther c.args.unit c.args.passed old middle c.list.new.self less refl none n) c.list.result c.list.ensures.noted
