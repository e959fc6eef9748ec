use Rattle.std.proofs.Common.{◌≡◌, ◌++◌, ◌∷◌, [], length, refl, ap, ap₂, sym, subst, ◌∙◌, rules}
use Rattle.tt_base.specs.declared.token_tree.TokenTree.TheVariants as token
use Rattle.tt_base.specs.Forest.{leaf, end}
use Rattle.tt_view.specs.Views.{trees_of}
use Rattle.tt.specs.declared.transform.Rewriting.{Rewriting}
use Rattle.tt.specs.Work.{Stands, kept}
use Rattle.tt.proofs.WorkStands.{stands_given, stands_above}
use Rattle.tt.proofs.transform.Rewriting.keep.Goals as goal
use Rattle.tt.proofs.transform.Rewriting.keep.Goals.{in-Subtree+in_ok-push, in_default}

pub returns-in_ok-push-2 : goal.returns-in_ok-push-2
returns-in_ok-push-2 c = λ work one is.
    let old = c.args.self.now in
    let below = trees_of c.args.below in
    let list = c.push-then-self.new.self.items in
    let added : list ≡ c.match-token.self.list.items ++ c.args.token ∷ [] = search rules in
    elim c.match-token.branch [
      | in-Subtree+in_ok-push w ↦
          let s = w.in-Subtree.field-0 in
          let it : c.args.token ≡ token.Subtree s = w.in-Subtree.is in
          let place : w.len.result ≡ length old.list.items = w.len.ensures ∙ search rules in
          subst (λ (r : Rewriting). Stands r.fits list r.frames.items (trees_of r.rest) (kept c.args.token below work)) (sym w.self-is)
          (subst (λ t. Stands old.fits list w.push.new.self.items below (kept t below work)) (sym it)
          (stands_above old.fits old.list.items list old.frames.items w.push.new.self.items (record { header = w.len.result; rest = old.rest }) (trees_of old.rest) below work s.delimiter s.len one
          (λ fits. added ∙ ap₂ (λ (r : Rewriting) t. r.list.items ++ t ∷ []) w.self-is it) w.in_ok-push.ensures.items place refl is))
      | in_default w ↦
          subst (λ (r : Rewriting). Stands r.fits list r.frames.items (trees_of r.rest) (kept c.args.token below work)) (sym w.self-is)
          (subst (λ t. Stands old.fits list old.frames.items (trees_of old.rest) (kept t below work)) (sym w.in_default.is)
          (stands_given old.fits old.list.items list old.frames.items (trees_of old.rest) work (leaf w.in_default.field-0 end) one
          (λ fits. added ∙ ap₂ (λ (r : Rewriting) t. r.list.items ++ t ∷ []) w.self-is w.in_default.is) is))
    ]

pub returns-else-self : goal.returns-else-self
returns-else-self c = λ work one is.
    let old = c.args.self.now in
    let below = trees_of c.args.below in
    let list = c.match-token.self.list.items in
    elim c.match-token.branch [
      | in-Subtree+in_ok-push w ↦
          let s = w.in-Subtree.field-0 in
          let it : c.args.token ≡ token.Subtree s = w.in-Subtree.is in
          let place : w.len.result ≡ length old.list.items = w.len.ensures ∙ search rules in
          subst (λ (r : Rewriting). Stands r.fits list r.frames.items (trees_of r.rest) (kept c.args.token below work)) (sym w.self-is)
          (subst (λ t. Stands old.fits list w.push.new.self.items below (kept t below work)) (sym it)
          (stands_above old.fits old.list.items list old.frames.items w.push.new.self.items (record { header = w.len.result; rest = old.rest }) (trees_of old.rest) below work s.delimiter s.len one
          (λ fits. cc (fits, c.if-self.false, ap (λ (r : Rewriting). r.fits) w.self-is)) w.in_ok-push.ensures.items place refl is))
      | in_default w ↦
          subst (λ (r : Rewriting). Stands r.fits list r.frames.items (trees_of r.rest) (kept c.args.token below work)) (sym w.self-is)
          (subst (λ t. Stands old.fits list old.frames.items (trees_of old.rest) (kept t below work)) (sym w.in_default.is)
          (stands_given old.fits old.list.items list old.frames.items (trees_of old.rest) work (leaf w.in_default.field-0 end) one
          (λ fits. cc (fits, c.if-self.false, ap (λ (r : Rewriting). r.fits) w.self-is)) is))
    ]
