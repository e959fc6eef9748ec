use Rattle.std.proofs.Common.{bytes_eq, subst, arith, rules}
use Rattle.std.proofs.lemmas.List.{take_all}
use Rattle.tt_tables.specs.Counts.{CountsMore}
use Rattle.tt_tables.specs.Uses.{same_part, token_parts, token_symbols, part_uses, symbol_uses}
use Rattle.test_sweep_trees.proofs.UseNumbers.{one_more_added, part_room, symbol_room}
use Rattle.test_sweep_trees.proofs.counts.add_all.Goals as goal

pub add_token-requires-clause-parts : goal.add_token-requires-clause-parts
add_token-requires-clause-parts c =
    part_room c.args.tokens.now c.loop-token.token-index c.args.parts.now.entries c.loop-token.parts.entries c.loop-token-test.true c.requires.parts c.loop-token.invariant.parts

pub add_token-requires-clause-symbols : goal.add_token-requires-clause-symbols
add_token-requires-clause-symbols c =
    symbol_room c.args.tokens.now c.loop-token.token-index c.args.symbols.now.entries c.loop-token.symbols.entries c.loop-token-test.true c.requires.symbols c.loop-token.invariant.symbols

pub loop-token-preserved : goal.loop-token-preserved
loop-token-preserved c = record {
  parts =
      one_more_added same_part token_parts c.args.tokens.now c.loop-token.token-index c.token-item.result c.args.parts.now.entries c.loop-token.parts.entries
      c.add_token.new.parts.entries c.loop-token-test.true c.token-item.is c.loop-token.invariant.parts c.in_ok-add_token.ensures.parts;
  symbols =
      one_more_added bytes_eq token_symbols c.args.tokens.now c.loop-token.token-index c.token-item.result c.args.symbols.now.entries c.loop-token.symbols.entries
      c.add_token.new.symbols.entries c.loop-token-test.true c.token-item.is c.loop-token.invariant.symbols c.in_ok-add_token.ensures.symbols;
}

pub returns-clause-parts : goal.returns-clause-parts
returns-clause-parts c =
    let all = take_all c.loop-token.token-index c.args.tokens.now (search (rules, arith, c.loop-token-test.false)) in
    subst (λ l. CountsMore same_part (part_uses l) c.args.parts.now.entries c.loop-token.parts.entries) all c.loop-token.invariant.parts

pub returns-clause-symbols : goal.returns-clause-symbols
returns-clause-symbols c =
    let all = take_all c.loop-token.token-index c.args.tokens.now (search (rules, arith, c.loop-token-test.false)) in
    subst (λ l. CountsMore bytes_eq (symbol_uses l) c.args.symbols.now.entries c.loop-token.symbols.entries) all c.loop-token.invariant.symbols
