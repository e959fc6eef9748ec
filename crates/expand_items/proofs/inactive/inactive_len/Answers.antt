use Rattle.std.proofs.Common.{rules, ◌≡◌, true, false, Some, None, length, sym, subst}
use Rattle.tt.specs.Iters.{rest_of}
use Rattle.tt.specs.Siblings.{list_of}
use Rattle.expand_items.specs.Cfg.{known_of}
use Rattle.expand_items.specs.Inactive.{IsInactive, active, begins_sign, elsewhere, is_part_inactive, is_rest_inactive, part, rest}
use Rattle.expand_items.specs.Parts.{IsPart}
use Rattle.expand_items.proofs.inactive.inactive_len.Goals as goal

pub returns-then-not-begins_sign : goal.returns-then-not-begins_sign
returns-then-not-begins_sign c =
    let none : begins_sign c.args.position (rest_of c.args.trees) ≡ false = search rules in
    elsewhere none

pub returns-then-branch : goal.returns-then-branch
returns-then-branch c =
    let known = known_of c.args.options.now in
    let trees = rest_of c.args.trees in
    let there : begins_sign c.args.position trees ≡ true = search rules in
    let all : is_rest_inactive known trees ≡ true = search rules in
    let len : c.trees_len.result ≡ length (list_of trees) = search rules in
    subst (λ n. IsInactive known c.args.position trees (Some n)) (sym len) (rest there all)

pub returns-then-not-branch : goal.returns-then-not-branch
returns-then-not-branch c =
    let known = known_of c.args.options.now in
    let trees = rest_of c.args.trees in
    let not_all : is_rest_inactive known trees ≡ false = search rules in
    let no_part : is_part_inactive known trees ≡ false = search rules in
    active not_all no_part

pub returns-in-Some : goal.returns-in-Some
returns-in-Some c =
    let known = known_of c.args.options.now in
    let trees = rest_of c.args.trees in
    let there : begins_sign c.args.position trees ≡ true = search rules in
    let inactive : is_part_inactive known trees ≡ true = search rules in
    let is : IsPart c.args.position.siblings trees (Some c.in-Some.part) = search rules in
    part there inactive is

pub returns-in-None : goal.returns-in-None
returns-in-None c =
    let known = known_of c.args.options.now in
    let trees = rest_of c.args.trees in
    let there : begins_sign c.args.position trees ≡ true = search rules in
    let inactive : is_part_inactive known trees ≡ true = search rules in
    let is : IsPart c.args.position.siblings trees None = search rules in
    part there inactive is
