use Rattle.std.proofs.Common.{rules, ◌≡◌, ◌++◌, ◌∷◌, [], ap, sym, subst, refl, ◌∙◌, arith}
use Rattle.tt_base.specs.Forest.{end, only, flat}
use Rattle.tt_base.specs.Moves.{after_token}
use Rattle.tt_bytes.specs.Decoding.{Stand, none, more}
use Rattle.tt_tables.specs.Meaning.{IsAhead}
use Rattle.tt_tables.specs.TablesOf.{tables_of}
use Rattle.tt_tables.proofs.Ahead.{none_ahead, end_is_passed}
use Rattle.tt_bytes.proofs.Flat.{flat_step}
use Rattle.tt_bytes.proofs.Growing.{one_more, with_none, of_only}
use Rattle.tt_bytes.proofs.decode.tokens_of.Goals as goal

pub loop-offset-init : goal.loop-offset-init
loop-offset-init c =
    record {
      inside = search (rules, arith);
      stand = subst (λ l. Stand (tables_of c.args.tables) c.args.packed.now l 0) (sym c.new-tokens.ensures.items) none;
      ahead = λ root ahead. (only root, ahead, ap (λ l. l ++ flat (only root)) c.new-tokens.ensures.items);
    }

pub returns-in_default-clause-list : goal.returns-in_default-clause-list
returns-in_default-clause-list c root ahead =
    let at = c.loop-offset.invariant.ahead root ahead in
    let nothing : at.0 ≡ end = c.in_default.ensures.token at.0 at.1 in
    absurd (omega (arith, c.loop-offset-test.true, end_is_passed _ _ _ (subst (IsAhead (tables_of c.args.tables) c.args.packed.now c.loop-offset.offset) nothing at.1)))

pub loop-offset-preserved : goal.loop-offset-preserved
loop-offset-preserved c =
    let pushed : c.push.new.self.items ≡ c.loop-offset.tokens.items ++ c.in-Some.token ∷ [] = search rules in
    record {
      inside = search rules;
      stand = subst (λ l. Stand (tables_of c.args.tables) c.args.packed.now l c.in-Some.next) (sym pushed) (more c.loop-offset.invariant.stand c.in-Some.ensures.stands);
      ahead = λ root ahead.
          let at = c.loop-offset.invariant.ahead root ahead in
          let found = c.in-Some.ensures.token at.0 at.1 in
          (after_token at.0, found.1, one_more _ _ _ _ _ _ _ pushed refl (flat_step at.0 _ found.0) at.2);
    }

pub returns-clause-list : goal.returns-clause-list
returns-clause-list c root ahead =
    let at = c.loop-offset.invariant.ahead root ahead in
    let nothing : at.0 ≡ end = none_ahead _ _ _ at.0 at.1 c.loop-offset-test.false in
    with_none _ (flat at.0) _ (ap flat nothing) at.2 ∙ of_only root
