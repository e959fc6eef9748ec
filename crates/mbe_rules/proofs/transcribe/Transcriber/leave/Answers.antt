use Rattle.std.proofs.Common.{rules, ◌≡◌, [], reverse, refl, ap, sym, subst}
use Rattle.mbe_rules.specs.Filling.{AreClosed}
use Rattle.mbe_rules.proofs.transcribe.Transcriber.leave.Goals as goal

pub returns-in_default-clause-ok : goal.returns-in_default-clause-ok
returns-in_default-clause-ok c =
    let old = c.args.self.now in
    let none : old.closes.items ≡ [] = search rules in
    let still : c.pop.new.self.items ≡ [] = search rules in
    subst (λ l. AreClosed l old (record { builder = old.builder; rounds = old.rounds; closes = c.pop.new.self; left = old.left })) (sym (ap reverse none)) (refl, refl, refl, still)
