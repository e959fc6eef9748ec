use Rattle.std.proofs.Common.{◌≡◌, ◌++◌, ◌∷◌, [], None, Some, false, true, reverse, append-nil, refl, ap, sym, ◌∙◌, rules}
use Rattle.std.proofs.lemmas.List.{reverse-append}
use Rattle.std.specs.Prelude.{string_bytes}
use Rattle.tt_base.specs.LeafText.{leaf_text}
use Rattle.tt_base.specs.Moves.{after_tree}
use Rattle.tt_base.specs.TreeText.{closing_text, opening_text, space_if, space_after}
use Rattle.tt_view.specs.Iters.{rest_of, IsFirstElement}
use Rattle.tt_view.specs.SpaceRules.{lets_of}
use Rattle.tt_view.specs.declared.iter.TtElement.TheVariants as element
use Rattle.tt.specs.declared.printer.Level.{Level}
use Rattle.tt.proofs.TextsLeft.{text_left, text_leaf, text_subtree, text_ended, goes_on}
use Rattle.tt.proofs.printer.spaced_text.Goals as goal

pub tokens-preserved-in-Some-Leaf : goal.tokens-preserved-in-Some-Leaf
tokens-preserved-in-Some-Leaf c =
    let lets = lets_of c.args.rule in
    let outer = reverse c.tokens.outer.items in
    let level = c.tokens.level in
    let next : Level = record { rest = c.next.new.self; kind = level.kind } in
    let leaf = c.in-Some-Leaf.leaf in
    let first : IsFirstElement (rest_of level.rest) (Some (element.Leaf leaf)) = search rules in
    let rest : rest_of c.next.new.self ≡ after_tree (rest_of level.rest) = search rules in
    let wrote : string_bytes c.write_leaf.new.text ≡ string_bytes c.tokens.text ++ (space_if c.tokens.due ++ leaf_text leaf) = search rules in
    let told : c.in_ok-due-in-Some-Leaf.due ≡ space_after lets leaf = search rules in
    goes_on _ _ (space_if c.tokens.due ++ leaf_text leaf) _ (text_left lets c.tokens.due (level ∷ outer)) _ wrote
    (text_leaf lets c.tokens.due level next outer leaf first rest refl
    ∙ ap (λ due. (space_if c.tokens.due ++ leaf_text leaf) ++ text_left lets due (next ∷ outer)) (sym told))
    c.tokens.invariant

pub tokens-preserved-in-Some-Subtree : goal.tokens-preserved-in-Some-Subtree
tokens-preserved-in-Some-Subtree c =
    let lets = lets_of c.args.rule in
    let outer = reverse c.tokens.outer.items in
    let level = c.tokens.level in
    let next : Level = record { rest = c.next.new.self; kind = level.kind } in
    let subtree = c.in-Some-Subtree.subtree in
    let children = c.in-Some-Subtree.children in
    let below : Level = record { rest = children; kind = subtree.delimiter.kind } in
    let piece = space_if c.tokens.due ++ opening_text subtree.delimiter.kind in
    let pushed : c.push.new.self.items ≡ c.tokens.outer.items ++ next ∷ [] = search rules in
    let first : IsFirstElement (rest_of level.rest) (Some (element.Subtree subtree children)) = search rules in
    let rest : rest_of c.next.new.self ≡ after_tree (rest_of level.rest) = search rules in
    let wrote : string_bytes c.write_opening.new.text ≡ string_bytes c.tokens.text ++ piece = search rules in
    goes_on _ _ piece _ (text_left lets c.tokens.due (level ∷ outer)) _ wrote
    (text_subtree lets c.tokens.due level next below outer subtree children first rest refl refl refl
    ∙ ap (λ items. piece ++ text_left lets false (below ∷ items)) (sym (ap reverse pushed ∙ reverse-append c.tokens.outer.items (next ∷ []))))
    c.tokens.invariant

pub tokens-preserved : goal.tokens-preserved
tokens-preserved c =
    let lets = lets_of c.args.rule in
    let outer = reverse c.tokens.outer.items in
    let level = c.tokens.level in
    let popped : c.tokens.outer.items ≡ c.pop.new.self.items ++ c.in-Some.round ∷ [] = search rules in
    let first : IsFirstElement (rest_of level.rest) None = search rules in
    let wrote : string_bytes c.push_str.new.self ≡ string_bytes c.tokens.text ++ closing_text level.kind = search rules in
    goes_on _ _ (closing_text level.kind) _ (text_left lets c.tokens.due (level ∷ outer)) _ wrote
    (text_ended lets c.tokens.due level outer first
    ∙ ap (λ items. closing_text level.kind ++ text_left lets true items) (ap reverse popped ∙ reverse-append c.pop.new.self.items (c.in-Some.round ∷ [])))
    c.tokens.invariant

pub returns-in_default : goal.returns-in_default
returns-in_default c =
    let lets = lets_of c.args.rule in
    let outer = reverse c.tokens.outer.items in
    let level = c.tokens.level in
    let none : c.tokens.outer.items ≡ [] = search rules in
    let first : IsFirstElement (rest_of level.rest) None = search rules in
    let wrote : string_bytes c.push_str.new.self ≡ string_bytes c.tokens.text ++ closing_text level.kind = search rules in
    sym (append-nil _)
    ∙ goes_on _ _ (closing_text level.kind) _ (text_left lets c.tokens.due (level ∷ outer)) [] wrote
    (text_ended lets c.tokens.due level outer first ∙ ap (λ items. closing_text level.kind ++ text_left lets true (reverse items)) none)
    c.tokens.invariant
