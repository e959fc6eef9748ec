use Rattle.std.proofs.Common.{◌≡◌, [], ◌∷◌, ◌++◌, map, take, get_or, ap, sym, ◌∙◌, subst}
use Rattle.std.proofs.lemmas.List.{map-append, map_more}
use Rattle.syntax_layout.proofs.GapChunks.{fit_gaps, fit_more}
use Rattle.syntax_layout.specs.Layout.{AreFit}
use Rattle.syntax_layout.proofs.trees.fit.Goals as goal

pub loop-gap-preserved : goal.loop-gap-preserved
loop-gap-preserved c =
    let asked = c.args.gaps.now in
    let i = c.loop-gap.gap-index in
    let items = c.loop-gap.all.items in
    let used : map (λ g. g.now) c.push.new.self.items ≡ map (λ g. g.now) items ++ c.or_empty.result.now ∷ [] =
    ap (map (λ g. g.now)) c.in_ok-push.ensures.items ∙ map-append (λ g. g.now) items (c.or_empty.result ∷ []) in
    let front = map_more (λ g. g.now) asked i (record { ref_ptr = (0, 0); now = [] }) c.loop-gap-test.true in
    subst (λ a. AreFit a (map (λ g. g.now) c.push.new.self.items)) (sym front)
    (subst (λ u. AreFit (map (λ g. g.now) (take i asked) ++ (get_or asked i (record { ref_ptr = (0, 0); now = [] })).now ∷ []) u) (sym used)
    (fit_more (map (λ g. g.now) (take i asked)) (map (λ g. g.now) items) (get_or asked i (record { ref_ptr = (0, 0); now = [] })).now c.or_empty.result.now c.loop-gap.invariant c.or_empty.ensures))

pub returns-clause-gaps : goal.returns-clause-gaps
returns-clause-gaps c = fit_gaps (map (λ g. g.now) (take c.loop-gap.gap-index c.args.gaps.now)) (map (λ g. g.now) c.loop-gap.all.items) c.loop-gap.invariant
