use Rattle.std.proofs.Common.{rules, ◌≡◌, ◌⊎◌, ◌++◌, ◌∷◌, [], inl, inr, ◌+◌, ◌-◌, Err, sym, ◌∙◌, arith}
use Rattle.tt_bytes.specs.declared.fault.BytesFault.TheVariants.{Memory}
use Rattle.tt_bytes.specs.Front.{texts_from}
use Rattle.tt_bytes.proofs.Reading.{text_taken, text_missing}
use Rattle.tt_bytes.proofs.front.split_symbols.Goals as goal

pub returns-in_err-symbol-clause-value : goal.returns-in_err-symbol-clause-value
returns-in_err-symbol-clause-value c =
    let fault : (c.in_err-symbol.field-0.0 ≡ Memory) ⊎ (texts_from c.args.all c.args.count c.args.from.now ≡ Err c.in_err-symbol.field-0.0) =
    elim c.in_err-symbol.ensures.value [
      | inl memory ↦ inl memory
      | inr wrong ↦ inr (sym c.loop.invariant.read ∙ text_missing c.args.all (c.args.count - (c.loop.counter + 1)) (c.args.count - c.loop.counter) c.loop.symbols.items c.loop.rest.now c.in_err-symbol.field-0.0 (omega (arith, c.loop-test.true)) wrong)
    ] in
    search (rules, fault)

pub loop-preserved : goal.loop-preserved
loop-preserved c =
    let pushed : c.push.new.self.items ≡ c.loop.symbols.items ++ c.in_ok-symbol.symbol ∷ [] = search rules in
    record {
      read = sym (text_taken c.args.all (c.args.count - (c.loop.counter + 1)) (c.args.count - c.loop.counter) c.loop.symbols.items c.push.new.self.items c.in_ok-symbol.symbol c.loop.rest.now c.in_ok-symbol.behind.now (omega (arith, c.loop-test.true)) c.in_ok-symbol.ensures.value pushed) ∙ c.loop.invariant.read;
      len = omega (arith, c.in_ok-symbol.ensures.len, c.loop.invariant.len);
    }
