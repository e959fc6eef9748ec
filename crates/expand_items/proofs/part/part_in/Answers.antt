use Rattle.std.proofs.Common.{rules, ◌≡◌, ℕ, Bool, true, false, ap₂, sym, subst, arith, Some}
use Rattle.std.specs.Prelude.{not}
use Rattle.tt.specs.Views.{trees_of}
use Rattle.expand_items.specs.declared.part.Part.{Part}
use Rattle.expand_items.specs.Parts.{IsPart, Takes, no_item, no_statement, is_at_let, statement_len}
use Rattle.expand_items.proofs.PartsSoFar.{item_first, statement_first}
use Rattle.expand_items.proofs.part.part_in.Goals as goal
use Rattle.expand_items.specs.Positions.{is_items}
use Rattle.mbe_pattern.specs.declared.pattern.GrammarFragment.TheVariants as fragment

pub returns-then-item-gt0 : goal.returns-then-item-gt0
returns-then-item-gt0 c =
    let trees = trees_of c.args.trees in
    let is : Takes fragment.Item trees c.in_ok-item.item = search rules in
    item_first c.args.siblings trees c.in_ok-item.item is c.if-item-gt0.true

pub returns-then-eq : goal.returns-then-eq
returns-then-eq c =
    let trees = trees_of c.args.trees in
    let is : Takes fragment.Item trees c.in_ok-item.item = search rules in
    let none : c.in_ok-item.item ≡ 0 = omega (arith, c.if-item-gt0.false) in
    let items : is_items c.args.siblings ≡ true = search rules in
    no_item items (subst (Takes fragment.Item trees) none is)

pub returns-then-statement-eq0 : goal.returns-then-statement-eq0
returns-then-statement-eq0 c =
    let trees = trees_of c.args.trees in
    let is : Takes fragment.Item trees c.in_ok-item.item = search rules in
    let no_more : c.in_ok-item.item ≡ 0 = omega (arith, c.if-item-gt0.false) in
    let one : Takes fragment.Stmt trees c.in_ok-statement.statement = search rules in
    let none : c.in_ok-statement.statement ≡ 0 = omega (arith, c.if-statement-eq0.true) in
    let no_items : is_items c.args.siblings ≡ false = search rules in
    no_statement no_items (subst (Takes fragment.Item trees) no_more is) (subst (Takes fragment.Stmt trees) none one)

pub returns : goal.returns
returns c =
    let trees = trees_of c.args.trees in
    let n = c.in_ok-statement.statement in
    let is : Takes fragment.Item trees c.in_ok-item.item = search rules in
    let no_more : c.in_ok-item.item ≡ 0 = omega (arith, c.if-item-gt0.false) in
    let one : Takes fragment.Stmt trees n = search rules in
    let no_items : is_items c.args.siblings ≡ false = search rules in
    let len : c.statement_len.result ≡ statement_len n trees = search rules in
    let let_first : c.is_at_let.result ≡ is_at_let trees = search rules in
    subst (λ p. IsPart c.args.siblings trees (Some p)) (sym (ap₂ part len let_first))
    (statement_first c.args.siblings trees n no_items (subst (Takes fragment.Item trees) no_more is) one (omega (arith, c.if-statement-eq0.false)))
  where
    part : ℕ → Bool → Part
    part len is_let = record { len = len; is_expression = not is_let }
