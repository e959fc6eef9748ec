use Rattle.std.proofs.Common.{◌≡◌, ◌++◌, ◌∷◌, [], map, length, ap, sym, subst, refl, ◌∙◌, append_assoc, append-nil, of_calls, rules}
use Rattle.tt_base.specs.Asked.{AsksAll}
use Rattle.tt_view.proofs.NewIds.{no_parts}
use Rattle.tt_view.proofs.top_subtree.ast_ids.ask_all.Goals as goal

pub loop-part-preserved : goal.loop-part-preserved
loop-part-preserved g c =
    let left : c.loop-part.rest.now ≡ c.in-Some.part.now ∷ c.in-Some.others.now = search rules in
    let added : c.push.new.self.items ≡ c.loop-part.ids.items ++ c.callback.result ∷ [] = search rules in (
      search of_calls,
      λ more last asked.
          subst (λ answers. AsksAll (λ p x y q. goal.F-step g p x y q) c.args.callback (map (λ part. part.anchor.ast_id) c.args.parts.now) answers last)
          (sym (ap (λ l. l ++ more) added ∙ append_assoc c.loop-part.ids.items (c.callback.result ∷ []) more))
          (c.loop-part.invariant.1 (c.callback.result ∷ more) last
          (subst (λ parts. AsksAll (λ p x y q. goal.F-step g p x y q) c.loop-part.callback (map (λ part. part.anchor.ast_id) parts) (c.callback.result ∷ more) last) (sym left)
          (c.callback.new.self, c.callback.ensures, asked))),
    )

pub returns : goal.returns
returns g c =
    let none : length c.loop-part.rest.now ≡ 0 = search rules in
    let ended : AsksAll (λ p x y q. goal.F-step g p x y q) c.loop-part.callback (map (λ part. part.anchor.ast_id) c.loop-part.rest.now) [] c.loop-part.callback =
    subst (λ parts. AsksAll (λ p x y q. goal.F-step g p x y q) c.loop-part.callback (map (λ part. part.anchor.ast_id) parts) [] c.loop-part.callback) (sym (no_parts _ none)) refl in (
      c.loop-part.callback,
      subst (λ answers. AsksAll (λ p x y q. goal.F-step g p x y q) c.args.callback (map (λ part. part.anchor.ast_id) c.args.parts.now) answers c.loop-part.callback)
          (append-nil c.loop-part.ids.items)
          (c.loop-part.invariant.1 [] c.loop-part.callback ended),
    )
