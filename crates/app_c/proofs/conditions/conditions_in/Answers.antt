use Rattle.std.proofs.Common.{rules, ◌≡◌, ◌∙◌, ◌<◌, None, Some, ap, arith, inl, length, option_map, sym}
use Rattle.std.proofs.lemmas.Bool.Decides.{nat_tests}
use Rattle.app_c.proofs.Said.{said_more, said_nothing}
use Rattle.app_c.proofs.conditions.conditions_in.Goals as goal
use Rattle.app_c.specs.Conditions.{atom_in, atom_of}
use Rattle.syntax_cfg.specs.Cfg.{said}

pub returns-in_default-clause-err : goal.returns-in_default-clause-err
returns-in_default-clause-err c =
    let some : 0 < length c.loop-rest.rest.now = grind (arith, nat_tests) in
    let none : atom_in c.first_text.result.0.now ≡ None =
    ap (option_map atom_of) (sym c.cfg_in.ensures ∙ ap (option_map said) c.in_default.is) in
    inl
    (said_nothing c.args.cfg.now c.loop-rest.rest.now c.first_text.result.0.now _ c.loop-rest.count c.loop-rest.invariant.1 some c.first_text.ensures.text
    none)

pub loop-rest-preserved : goal.loop-rest-preserved
loop-rest-preserved c =
    let some : 0 < length c.loop-rest.rest.now = grind (arith, nat_tests) in
    let says : atom_in c.first_text.result.0.now ≡ Some (atom_of (said c.in-Some.it)) =
    ap (option_map atom_of) (sym c.cfg_in.ensures ∙ ap (option_map said) c.in-Some.is) in (
      search rules,
      said_more c.args.cfg.now c.loop-rest.rest.now c.first_text.result.0.now c.first_text.result.1.now _ _ _ c.loop-rest.count c.loop-rest.invariant.1 some
          c.first_text.ensures.text c.first_text.ensures.behind says c.in_ok-insert.ensures,
    )
