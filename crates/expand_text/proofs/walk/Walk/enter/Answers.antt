use Rattle.std.proofs.Common.{rules, ◌≡◌, ◌∷◌, ◌++◌, [], reverse, ap, ap₂, subst, ◌∙◌}
use Rattle.std.proofs.lemmas.List.{reverse-append}
use Rattle.tt.specs.Iters.{rest_of}
use Rattle.tt.specs.Moves.{after_tree}
use Rattle.tt.specs.Siblings.{children_of}
use Rattle.tt.specs.TreeWalks.{IsEntered, innermost, outer_levels}
use Rattle.expand_items.specs.Positions.{first_inside, keeps_macros}
use Rattle.expand_text.specs.Kept.{kept_behind}
use Rattle.expand_text.specs.Walks.{first_level, levels_at, outer_of, past_subtree}
use Rattle.expand_text.proofs.walk.Walk.enter.Goals as goal

pub returns : goal.returns
returns c children behind is =
    let self = c.args.self.now in
    let kind = c.args.delimiter.kind in
    let inside = c.enter.new.self in
    let (inner, outer) = subst (λ h. IsEntered self.trees h inside) c.in-Ok-Some.field-0-is c.in-Ok-Some.ensures.entered in
    let trees : innermost inside ≡ children = inner ∙ ap children_of is in
    let left : rest_of c.next.new.self ≡ after_tree (innermost self.trees) = search rules in
    let first : c.first_inside-first.result ≡ first_inside kind (after_tree (innermost self.trees)) self.level.position =
    c.first_inside-first.ensures ∙ ap (λ f. first_inside kind f self.level.position) left in
    let there : rest_of c.rest.result ≡ innermost inside = search rules in
    let kept : c.kept_behind.result ≡ kept_behind (keeps_macros kind children self.level.position) c.args.macros =
    c.kept_behind.ensures ∙ ap (λ b. kept_behind b c.args.macros) (c.keeps_macros-are_kept.ensures ∙ ap (λ f. keeps_macros kind f self.level.position) (there ∙ trees)) in
    let pushed : c.push.new.self.items ≡ self.outer.items ++ c.pass_subtree.new.self ∷ [] = search rules in
    let places : reverse c.push.new.self.items ≡ c.pass_subtree.new.self ∷ reverse self.outer.items =
    ap reverse pushed ∙ reverse-append self.outer.items (c.pass_subtree.new.self ∷ []) in
    let others : levels_at (outer_levels inside) (reverse c.push.new.self.items) ≡ past_subtree kind (first_level self) ∷ outer_of self =
    ap₂ levels_at outer places ∙ ap (λ level. level ∷ outer_of self) (c.pass_subtree.ensures (innermost self.trees)) in
    λ i. record { rest = trees i; position = first i; plain = 0; close = c.args.delimiter.close; kept = kept i } ∷ others i
