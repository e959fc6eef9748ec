use Rattle.std.proofs.Common.{rules, ◌≡◌, Some, None, length, length-drop, drop, ap, sym, ◌∙◌, arith}
use Rattle.tt_codec.specs.Entry.{entry_at}
use Rattle.tt_tables.proofs.Ahead.{none_read}
use Rattle.tt_bytes.proofs.Decoding.{passes, first_at}
use Rattle.tt_bytes.proofs.decode.token_at.Goals as goal

pub returns-in_err-entry-clause-token : goal.returns-in_err-entry-clause-token
returns-in_err-entry-clause-token c trees ahead =
    let here : c.in_ok-from.from.now ≡ drop c.args.offset c.args.packed.now = search rules in
    let none : entry_at c.in_ok-from.from.now ≡ None = search rules in
    let nothing = (none_read _ _ _ trees ahead (ap entry_at (sym here) ∙ none)).0 in
    search (rules, nothing)

pub returns-then-rest-from-clause-token : goal.returns-then-rest-from-clause-token
returns-then-rest-from-clause-token c trees ahead =
    let here : c.in_ok-from.from.now ≡ drop c.args.offset c.args.packed.now = search rules in
    let read : entry_at c.in_ok-from.from.now ≡ Some (c.in_ok-entry.entry, c.in_ok-entry.rest.now) = search rules in
    let passed = passes _ _ _ trees ahead _ _ (ap entry_at (sym here) ∙ read) in
    absurd (omega (arith, passed, ap length here, length-drop c.args.offset c.args.packed.now, c.if-rest-from.true))

pub returns-in_err-token-clause-token : goal.returns-in_err-token-clause-token
returns-in_err-token-clause-token c trees ahead =
    let here : c.in_ok-from.from.now ≡ drop c.args.offset c.args.packed.now = search rules in
    let read : entry_at c.in_ok-from.from.now ≡ Some (c.in_ok-entry.entry, c.in_ok-entry.rest.now) = search rules in
    let first = first_at _ _ _ trees ahead _ _ _ (ap entry_at (sym here) ∙ read) c.token_of.ensures.gives in
    let none : c.token_of.result ≡ None = search rules in
    cc (sym none ∙ first.found)

pub returns-clause-token : goal.returns-clause-token
returns-clause-token c trees ahead =
    let here : c.in_ok-from.from.now ≡ drop c.args.offset c.args.packed.now = search rules in
    let read : entry_at c.in_ok-from.from.now ≡ Some (c.in_ok-entry.entry, c.in_ok-entry.rest.now) = search rules in
    let first = first_at _ _ _ trees ahead _ _ _ (ap entry_at (sym here) ∙ read) c.token_of.ensures.gives in
    let some : c.token_of.result ≡ Some c.in_ok-token.token = search rules in
    (first.first ∙ sym first.found ∙ some, first.behind _ (omega (arith, first.passed)))
