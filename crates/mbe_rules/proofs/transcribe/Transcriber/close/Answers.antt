use Rattle.std.proofs.Common.{rules, ◌≡◌, ◌+◌, ◌++◌, ◌∷◌, [], suc, Err, map, reverse, refl, ap, subst, ◌∙◌, arith}
use Rattle.std.proofs.lemmas.List.{drop-map}
use Rattle.tt.specs.Forest.{size}
use Rattle.tt.specs.Siblings.{leaves}
use Rattle.mbe_rules.specs.declared.taken.Round.{Round}
use Rattle.mbe_rules.specs.Parts.{bit_of, close}
use Rattle.mbe_rules.specs.Filling.{AreLevels, bits_from, Goes, Grows, IsWant}
use Rattle.mbe_rules.proofs.Repeating.{round_there}
use Rattle.mbe_rules.proofs.Stepping.{last_steps, again_steps, again_stops}
use Rattle.mbe_rules.proofs.transcribe.Transcriber.close.Goals as goal

pub returns-in_default-clause-ok : goal.returns-in_default-clause-ok
returns-in_default-clause-ok c taken whole levels are is =
    let old = c.args.self.now in
    let tail = c.args.tail.now in
    let bits = map bit_of c.args.parts.now in
    let left = bits_from c.args.parts.now c.args.behind in
    let none : old.rounds.items ≡ [] = search rules in
    absurd
    (round_there bits whole left (reverse old.closes.items) tail.separator.items tail.kind levels
    (subst (λ l. AreLevels bits whole levels l (reverse old.closes.items) (close tail.separator.items tail.kind ∷ left)) (ap reverse none) is.agree))

pub returns-then-round-clause-ok : goal.returns-then-round-clause-ok
returns-then-round-clause-ok c taken whole levels are is =
    let old = c.args.self.now in
    let tail = c.args.tail.now in
    let was : old.rounds.items ≡ c.pop.new.self.items ++ c.in-Some.round ∷ [] = search rules in
    last_steps (map bit_of c.args.parts.now) whole levels (bits_from c.args.parts.now c.args.behind) old tail.separator.items tail.kind c.pop.new.self.items c.in-Some.round was is
    _ (omega (arith, c.if-round.true)) refl refl refl refl

pub returns-in_err-separate-clause-err : goal.returns-in_err-separate-clause-err
returns-in_err-separate-clause-err c =
    let old = c.args.self.now in
    let tail = c.args.tail.now in
    let fault = c.in_err-separate.field-0.0 in
    let was : old.rounds.items ≡ c.pop.new.self.items ++ c.in-Some.round ∷ [] = search rules in
    let want : IsWant (size (leaves tail.separator.items)) old fault = subst (λ l. IsWant (size (leaves l)) old fault) c.deref.ensures.value c.in_err-separate.ensures.err in
    let failed : c.from_residual.result ≡ Err fault = search rules in
    rw failed
    (λ taken whole levels are is.
    again_stops (map bit_of c.args.parts.now) whole levels (bits_from c.args.parts.now c.args.behind) old tail.separator.items tail.kind c.pop.new.self.items c.in-Some.round was is
    fault (omega (arith, c.if-round.false)) want)

pub returns-clause-ok : goal.returns-clause-ok
returns-clause-ok c taken whole levels are is =
    let old = c.args.self.now in
    let tail = c.args.tail.now in
    let parts = c.args.parts.now in
    let round = c.in-Some.round in
    let next : Round = record { body = round.body; done = round.done + 1; last = round.last } in
    let was : old.rounds.items ≡ c.pop.new.self.items ++ round ∷ [] = search rules in
    let grown : Grows (leaves tail.separator.items) (record { builder = old.builder; rounds = c.pop.new.self; closes = old.closes; left = old.left }) c.separate.new.self = search rules in
    let one_more : next ≡ record { body = round.body; done = suc round.done; last = round.last } = ap (λ n. record { body = round.body; done = n; last = round.last }) (omega arith) in
    let pushed : c.push.new.self.items ≡ c.separate.new.self.rounds.items ++ next ∷ [] = search rules in
    subst (Goes (map bit_of parts) whole levels old (record { builder = c.separate.new.self.builder; rounds = c.push.new.self; closes = c.separate.new.self.closes; left = c.separate.new.self.left }))
    (drop-map bit_of round.body parts)
    (again_steps (map bit_of parts) whole levels (bits_from parts c.args.behind) old tail.separator.items tail.kind c.pop.new.self.items round was is
    _ (omega (arith, c.if-round.false)) grown.stack grown.top grown.few grown.most grown.closes
    (pushed ∙ ap (λ l. l ++ next ∷ []) (ap (λ r. r.items) grown.rounds) ∙ ap (λ r. c.pop.new.self.items ++ r ∷ []) one_more))
