use Rattle.std.proofs.Common.{rules, ◌≡◌, ◌∙◌, None, false, ap, ap₂, sym, cond}
use Rattle.tt.specs.Expectations.{is_at_node}
use Rattle.tt.specs.Iters.{rest_of}
use Rattle.expand_items.specs.Cfg.{known_of}
use Rattle.expand_items.specs.Predicates.{listed, predicate, predicates, separator, word_says}
use Rattle.expand_items.proofs.Reading.{word_alone}
use Rattle.expand_items.proofs.cfg.CfgOptions.take_rest.Goals as goal

pub returns-then-take_separator-clause-says : goal.returns-then-take_separator-clause-says
returns-then-take_separator-clause-says c =
    let known = known_of c.args.self.now in
    let trees = rest_of c.args.trees.now in
    let behind = predicates known predicate (rest_of c.take_separator.new.trees) in
    let leaves : is_at_node trees ≡ false = search rules in
    let says : c.word_says.result ≡ word_says known c.args.word.now = search rules in
    let separated : predicates known separator trees ≡ behind =
    c.take_separator.ensures.says known ∙ ap (λ b. cond b behind None) c.if-take_separator.true in
    word_alone known c.args.word.now trees c.requires leaves ∙ ap₂ listed (sym says) separated
