use Rattle.std.proofs.Common.{◌≡◌, true, length, vec_len, ap, sym, ◌∙◌, rules, arith}
use Rattle.std.proofs.lemmas.List.{nil_from_length}
use Rattle.tt_base.proofs.CutLists.{none_left}
use Rattle.tt_base.proofs.levels.Levels.is_done.Goals as goal

pub returns-then-self-gt0 : goal.returns-then-self-gt0
returns-then-self-gt0 c =
    let none = none_left c.args.self.now.left c.args.self.now.outer.items c.args.self.now.some in
    (λ impossible. cc impossible, λ levels. absurd (omega (arith, (none.0 levels).0, c.if-self-gt0.true)))

pub returns : goal.returns
returns c =
    let none = none_left c.args.self.now.left c.args.self.now.outer.items c.args.self.now.some in
    let counted : vec_len c.args.self.now.outer ≡ length c.args.self.now.outer.items = search rules in (
      λ yes.
          let zeroed : vec_len c.args.self.now.outer ≡ 0 = search rules in
          none.1 (omega arith, nil_from_length _ (sym counted ∙ zeroed)),
      λ levels.
          let zeroed : vec_len c.args.self.now.outer ≡ 0 = counted ∙ ap length (none.0 levels).1 in
          let yes : c.is_empty.result ≡ true = search rules in
          yes,
    )
