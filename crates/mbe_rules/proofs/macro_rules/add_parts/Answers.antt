use Rattle.std.proofs.Common.{rules, ◌≡◌, ◌<◌, ◌∙◌, ◌++◌, ◌∷◌, ◌+◌, [], length, drop, map, get_or, ap, sym, arith, append-nil, append_assoc}
use Rattle.std.proofs.lemmas.List.{drop_more, drop_all}
use Rattle.mbe_rules.specs.Waiting.{in_arm}
use Rattle.mbe_rules.proofs.macro_rules.add_parts.Goals as goal

pub loop-part-preserved : goal.loop-part-preserved
loop-part-preserved c =
    let parts = c.args.parts.now in
    let i = c.loop-part.part-index in
    let all = c.loop-part.all.items in
    let lt : i < length parts = omega arith in
    let more : c.push.new.self.items ≡ all ++ in_arm c.args.arm (get_or parts i 0) ∷ [] = search rules in
    ap (λ ps. ps ++ map (in_arm c.args.arm) (drop (i + 1) parts)) more
    ∙ append_assoc all (in_arm c.args.arm (get_or parts i 0) ∷ []) (map (in_arm c.args.arm) (drop (i + 1) parts))
    ∙ sym (ap (λ ps. all ++ map (in_arm c.args.arm) ps) (drop_more parts i 0 lt)) ∙ c.loop-part.invariant

pub returns : goal.returns
returns c =
    let parts = c.args.parts.now in
    let i = c.loop-part.part-index in
    sym (append-nil c.loop-part.all.items) ∙ sym (ap (λ ps. c.loop-part.all.items ++ map (in_arm c.args.arm) ps) (drop_all i parts (omega arith))) ∙ c.loop-part.invariant
