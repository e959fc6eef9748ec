use Rattle.std.proofs.Common.{rules, ◌≡◌, Err, ◌∷◌, map, subst}
use Rattle.mbe_rules.specs.declared.parts.Part.TheVariants as part
use Rattle.mbe_rules.specs.Parts.{bit_of}
use Rattle.mbe_rules.specs.Filling.{IsAt, bits_from}
use Rattle.mbe_rules.proofs.Stepping.{use_steps, use_stops, token_steps, token_stops, enter_steps, enter_stops, leave_steps}
use Rattle.mbe_rules.proofs.transcribe.Transcriber.step.Goals as goal

pub returns-in_err-transcribe_variable-in-Use-clause-err : goal.returns-in_err-transcribe_variable-in-Use-clause-err
returns-in_err-transcribe_variable-in-Use-clause-err c =
    let old = c.args.self.now in
    let bits = map bit_of c.args.parts.now in
    let left = bits_from c.args.parts.now c.args.behind in
    let fault = c.in_err-transcribe_variable-in-Use.field-0.0 in
    let part : c.args.part.now ≡ part.Use c.in-Use.at c.in-Use.number c.in-Use.less_follows = search rules in
    let failed : c.from_residual.result ≡ Err fault = search rules in
    rw failed
    (λ whole levels are is.
    use_stops bits whole levels left old c.in-Use.at c.in-Use.number c.in-Use.less_follows (subst (λ p. IsAt bits whole levels old (bit_of p ∷ left)) part is) fault
    (c.in_err-transcribe_variable-in-Use.ensures.err whole are))

pub returns-in_err-push-in-Token-clause-err : goal.returns-in_err-push-in-Token-clause-err
returns-in_err-push-in-Token-clause-err c =
    let old = c.args.self.now in
    let bits = map bit_of c.args.parts.now in
    let left = bits_from c.args.parts.now c.args.behind in
    let fault = c.in_err-push-in-Token.field-0.0 in
    let part : c.args.part.now ≡ part.Token c.in-Token.leaf = search rules in
    let failed : c.from_residual-in_err-push-in-Token.result ≡ Err fault = search rules in
    rw failed
    (λ whole levels are is.
    token_stops bits whole levels left old c.in-Token.leaf fault (subst (λ p. IsAt bits whole levels old (bit_of p ∷ left)) part is) c.in_err-push-in-Token.ensures.err)

pub returns-in_err-enter-in-Enter-clause-err : goal.returns-in_err-enter-in-Enter-clause-err
returns-in_err-enter-in-Enter-clause-err c =
    let old = c.args.self.now in
    let bits = map bit_of c.args.parts.now in
    let left = bits_from c.args.parts.now c.args.behind in
    let fault = c.in_err-enter-in-Enter.field-0.0 in
    let part : c.args.part.now ≡ part.Enter c.in-Enter.delimiter = search rules in
    let failed : c.from_residual-in_err-enter-in-Enter.result ≡ Err fault = search rules in
    rw failed
    (λ whole levels are is.
    enter_stops bits whole levels left old c.in-Enter.delimiter fault (subst (λ p. IsAt bits whole levels old (bit_of p ∷ left)) part is) c.in_err-enter-in-Enter.ensures.err)

pub returns-in_ok-transcribe_variable-in-Use-clause-ok : goal.returns-in_ok-transcribe_variable-in-Use-clause-ok
returns-in_ok-transcribe_variable-in-Use-clause-ok c whole levels are is =
    let old = c.args.self.now in
    let bits = map bit_of c.args.parts.now in
    let left = bits_from c.args.parts.now c.args.behind in
    let part : c.args.part.now ≡ part.Use c.in-Use.at c.in-Use.number c.in-Use.less_follows = search rules in
    use_steps bits whole levels left old c.in-Use.at c.in-Use.number c.in-Use.less_follows (subst (λ p. IsAt bits whole levels old (bit_of p ∷ left)) part is) c.transcribe_variable.new.self
    (c.in_ok-transcribe_variable-in-Use.ensures.ok whole are)

pub returns-in_ok-push-in-Token-clause-ok : goal.returns-in_ok-push-in-Token-clause-ok
returns-in_ok-push-in-Token-clause-ok c whole levels are is =
    let old = c.args.self.now in
    let bits = map bit_of c.args.parts.now in
    let left = bits_from c.args.parts.now c.args.behind in
    let part : c.args.part.now ≡ part.Token c.in-Token.leaf = search rules in
    token_steps bits whole levels left old c.push.new.self c.in-Token.leaf (subst (λ p. IsAt bits whole levels old (bit_of p ∷ left)) part is) c.in_ok-push-in-Token.ensures.ok

pub returns-in_ok-enter-in-Enter-clause-ok : goal.returns-in_ok-enter-in-Enter-clause-ok
returns-in_ok-enter-in-Enter-clause-ok c whole levels are is =
    let old = c.args.self.now in
    let bits = map bit_of c.args.parts.now in
    let left = bits_from c.args.parts.now c.args.behind in
    let part : c.args.part.now ≡ part.Enter c.in-Enter.delimiter = search rules in
    enter_steps bits whole levels left old c.enter.new.self c.in-Enter.delimiter (subst (λ p. IsAt bits whole levels old (bit_of p ∷ left)) part is) c.in_ok-enter-in-Enter.ensures.ok

pub returns-in_ok-leave-in-Leave-clause-ok : goal.returns-in_ok-leave-in-Leave-clause-ok
returns-in_ok-leave-in-Leave-clause-ok c whole levels are is =
    let old = c.args.self.now in
    let bits = map bit_of c.args.parts.now in
    let left = bits_from c.args.parts.now c.args.behind in
    let part : c.args.part.now ≡ part.Leave = search rules in
    leave_steps bits whole levels left old c.leave.new.self (subst (λ p. IsAt bits whole levels old (bit_of p ∷ left)) part is) c.in_ok-leave-in-Leave.ensures.ok
