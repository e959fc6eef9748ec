use Rattle.std.proofs.Common.{◌∙◌, bytes_eq, subst, arith, rules}
use Rattle.tt_tables.specs.Held.{parts_in, symbols_in}
use Rattle.tt_tables.proofs.Taking.{can_take_next, next_parts_gone, next_symbols_gone, all_taken}
use Rattle.tt_tables.specs.Interner.{entries_of}
use Rattle.tt_tables.specs.Counts.{CountsMore}
use Rattle.tt_tables.specs.Uses.{same_part}
use Rattle.tt_tables.proofs.uncount.uncount_all.Goals as goal

pub uncount-requires : goal.uncount-requires
uncount-requires c =
    can_take_next _ _ _ _ c.args.tokens.now c.loop-token.token-index _ c.loop-token-test.true c.requires c.loop-token.invariant.parts c.loop-token.invariant.symbols c.loop-token.invariant.part_values
    c.loop-token.invariant.symbol_values

pub loop-token-preserved : goal.loop-token-preserved
loop-token-preserved c = record {
  parts =
      next_parts_gone _ _ _ _ _ c.args.tokens.now c.loop-token.token-index _ c.loop-token-test.true c.loop-token.invariant.parts c.loop-token.invariant.part_values
      c.loop-token.invariant.symbol_values c.uncount.ensures.parts;
  symbols =
      next_symbols_gone _ _ _ _ _ c.args.tokens.now c.loop-token.token-index _ c.loop-token-test.true c.loop-token.invariant.symbols c.loop-token.invariant.part_values
      c.loop-token.invariant.symbol_values c.uncount.ensures.symbols;
  part_values = c.uncount.ensures.part_values ∙ c.loop-token.invariant.part_values;
  symbol_values = c.uncount.ensures.symbol_values ∙ c.loop-token.invariant.symbol_values;
}

pub returns-clause-parts : goal.returns-clause-parts
returns-clause-parts c = λ held named.
    let all = all_taken _ c.args.tokens.now held c.loop-token.token-index (search (rules, arith, c.loop-token-test.false)) named in
    subst (λ l. CountsMore same_part (parts_in l) (entries_of c.loop-token.parts) (entries_of c.args.parts.now)) all (c.loop-token.invariant.parts held named)

pub returns-clause-symbols : goal.returns-clause-symbols
returns-clause-symbols c = λ held named.
    let all = all_taken _ c.args.tokens.now held c.loop-token.token-index (search (rules, arith, c.loop-token-test.false)) named in
    subst (λ l. CountsMore bytes_eq (symbols_in l) (entries_of c.loop-token.symbols) (entries_of c.args.symbols.now)) all (c.loop-token.invariant.symbols held named)
