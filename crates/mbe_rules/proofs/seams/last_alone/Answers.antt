use Rattle.std.proofs.Common.{rules, ◌≡◌, ◌++◌, ◌∷◌, [], ap, sym, ◌∙◌}
use Rattle.tt.specs.Building.{leaf_alone}
use Rattle.mbe_rules.specs.Spelling.{last_alone}
use Rattle.mbe_rules.proofs.Aloneness.{last_made}
use Rattle.mbe_rules.proofs.seams.last_alone.Goals as goal

pub returns-in_default : goal.returns-in_default
returns-in_default c =
    let none : c.args.leaves.items ≡ [] = search rules in
    let still : c.pop.new.self.items ≡ [] = search rules in
    still ∙ sym (ap last_alone none)

pub returns : goal.returns
returns c =
    let was : c.args.leaves.items ≡ c.pop.new.self.items ++ c.in-Some.last ∷ [] = search rules in
    let made : c.alone.result ≡ leaf_alone c.in-Some.last = search rules in
    let pushed : c.push.new.self.items ≡ c.pop.new.self.items ++ c.alone.result ∷ [] = search rules in
    pushed ∙ ap (λ it. c.pop.new.self.items ++ it ∷ []) made ∙ last_made c.pop.new.self.items c.in-Some.last ∙ sym (ap last_alone was)
