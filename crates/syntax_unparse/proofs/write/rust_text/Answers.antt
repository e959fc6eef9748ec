use Rattle.std.proofs.Common.{◌≡◌, ◌+◌, ◌++◌, ◌∷◌, [], None, Some, Err, reverse, refl, ap, sym, ◌∙◌, subst, rules}
use Rattle.std.proofs.lemmas.List.{reverse-append}
use Rattle.std.specs.Prelude.{IfOk, string_bytes}
use Rattle.tt_base.specs.Moves.{after_tree}
use Rattle.syntax_unparse.specs.Marks.{brackets_of, closes, opens, shown, word}
use Rattle.syntax_unparse.specs.Text.{text_of}
use Rattle.syntax_unparse.specs.Writing.{IsFaultBefore, Writes}
use Rattle.syntax_unparse.specs.Writable.{IsWritable, IsWriteFault}
use Rattle.tt_view.specs.Iters.{rest_of, IsFirstElement}
use Rattle.tt_view.specs.Views.{trees_of}
use Rattle.tt_view.specs.declared.iter.TtElement.TheVariants as element
use Rattle.syntax_unparse.specs.declared.write.Level.{Level}
use Rattle.syntax_unparse.proofs.Back.{back_on}
use Rattle.syntax_unparse.proofs.MarksLeft.{marks_ended, marks_leaf, marks_left, marks_subtree, tokens_left, tokens_ended, tokens_leaf, tokens_subtree}
use Rattle.syntax_unparse.proofs.WriteFacts.{IsWrittenTo, fault_in, goes_on}
use Rattle.syntax_unparse.proofs.write.rust_text.Goals as goal

pub returns-in_err-last-in-Some-Leaf-clause-err : goal.returns-in_err-last-in-Some-Leaf-clause-err
returns-in_err-last-in-Some-Leaf-clause-err c =
    let trees = trees_of c.args.trees in
    let outer = reverse c.tokens.outer.items in
    let level = c.tokens.level in
    let next : Level = record { rest = c.next.new.self; brackets = level.brackets } in
    let leaf = c.in-Some-Leaf.leaf in
    let why = c.in_err-last-in-Some-Leaf.field-0.0 in
    let first : IsFirstElement (rest_of level.rest) (Some (element.Leaf leaf)) = search rules in
    let rest : rest_of c.next.new.self ≡ after_tree (rest_of level.rest) = search rules in
    let fault : IsFaultBefore c.tokens.last (word c.tokens.at leaf ∷ []) why = search rules in
    let failed : c.from_residual.result ≡ Err why = search rules in
    let is : IsWriteFault trees why =
    fault_in trees (string_bytes c.tokens.text) c.tokens.last (marks_left c.tokens.at (level ∷ outer)) (word c.tokens.at leaf ∷ []) (marks_left (c.tokens.at + 1) (next ∷ outer)) why
    (marks_leaf c.tokens.at level next outer leaf first rest refl) fault c.tokens.invariant.0 in
    search (rules, failed, is)

pub tokens-preserved-in_ok-last-in-Some-Leaf : goal.tokens-preserved-in_ok-last-in-Some-Leaf
tokens-preserved-in_ok-last-in-Some-Leaf c =
    let trees = trees_of c.args.trees in
    let outer = reverse c.tokens.outer.items in
    let level = c.tokens.level in
    let next : Level = record { rest = c.next.new.self; brackets = level.brackets } in
    let leaf = c.in-Some-Leaf.leaf in
    let first : IsFirstElement (rest_of level.rest) (Some (element.Leaf leaf)) = search rules in
    let rest : rest_of c.next.new.self ≡ after_tree (rest_of level.rest) = search rules in
    let wrote : Writes (string_bytes c.tokens.text) c.tokens.last (word c.tokens.at leaf ∷ []) (string_bytes c.write_leaf.new.text) c.in_ok-last-in-Some-Leaf.last = search rules in (
      goes_on trees (string_bytes c.tokens.text) (string_bytes c.write_leaf.new.text) c.tokens.last c.in_ok-last-in-Some-Leaf.last
          (marks_left c.tokens.at (level ∷ outer)) (word c.tokens.at leaf ∷ []) (marks_left (c.tokens.at + 1) (next ∷ outer))
          (marks_leaf c.tokens.at level next outer leaf first rest refl) wrote c.tokens.invariant.0,
      tokens_leaf c.tokens.at c.len-tokens.result level next outer leaf first rest c.tokens.invariant.1,
    )

pub tokens-preserved-in_ok-last-in-Some-Leaf-2 : goal.tokens-preserved-in_ok-last-in-Some-Leaf-2
tokens-preserved-in_ok-last-in-Some-Leaf-2 c =
    let trees = trees_of c.args.trees in
    let outer = reverse c.tokens.outer.items in
    let level = c.tokens.level in
    let next : Level = record { rest = c.next.new.self; brackets = level.brackets } in
    let leaf = c.in-Some-Leaf.leaf in
    let first : IsFirstElement (rest_of level.rest) (Some (element.Leaf leaf)) = search rules in
    let rest : rest_of c.next.new.self ≡ after_tree (rest_of level.rest) = search rules in
    let wrote : Writes (string_bytes c.tokens.text) c.tokens.last (word c.tokens.at leaf ∷ []) (string_bytes c.write_leaf.new.text) c.in_ok-last-in-Some-Leaf.last = search rules in (
      goes_on trees (string_bytes c.tokens.text) (string_bytes c.write_leaf.new.text) c.tokens.last c.in_ok-last-in-Some-Leaf.last
          (marks_left c.tokens.at (level ∷ outer)) (word c.tokens.at leaf ∷ []) (marks_left (c.tokens.at + 1) (next ∷ outer))
          (marks_leaf c.tokens.at level next outer leaf first rest refl) wrote c.tokens.invariant.0,
      tokens_leaf c.tokens.at c.len-tokens.result level next outer leaf first rest c.tokens.invariant.1,
    )

pub tokens-preserved-in_ok-last-in-Some-Leaf-3 : goal.tokens-preserved-in_ok-last-in-Some-Leaf-3
tokens-preserved-in_ok-last-in-Some-Leaf-3 c =
    let trees = trees_of c.args.trees in
    let outer = reverse c.tokens.outer.items in
    let level = c.tokens.level in
    let next : Level = record { rest = c.next.new.self; brackets = level.brackets } in
    let leaf = c.in-Some-Leaf.leaf in
    let first : IsFirstElement (rest_of level.rest) (Some (element.Leaf leaf)) = search rules in
    let rest : rest_of c.next.new.self ≡ after_tree (rest_of level.rest) = search rules in
    let wrote : Writes (string_bytes c.tokens.text) c.tokens.last (word c.tokens.at leaf ∷ []) (string_bytes c.write_leaf.new.text) c.in_ok-last-in-Some-Leaf.last = search rules in (
      goes_on trees (string_bytes c.tokens.text) (string_bytes c.write_leaf.new.text) c.tokens.last c.in_ok-last-in-Some-Leaf.last
          (marks_left c.tokens.at (level ∷ outer)) (word c.tokens.at leaf ∷ []) (marks_left (c.tokens.at + 1) (next ∷ outer))
          (marks_leaf c.tokens.at level next outer leaf first rest refl) wrote c.tokens.invariant.0,
      tokens_leaf c.tokens.at c.len-tokens.result level next outer leaf first rest c.tokens.invariant.1,
    )

pub returns-in_err-last-in-Some-Subtree-clause-err : goal.returns-in_err-last-in-Some-Subtree-clause-err
returns-in_err-last-in-Some-Subtree-clause-err c =
    let trees = trees_of c.args.trees in
    let outer = reverse c.tokens.outer.items in
    let level = c.tokens.level in
    let next : Level = record { rest = c.next.new.self; brackets = level.brackets } in
    let subtree = c.in-Some-Subtree.subtree in
    let children = c.in-Some-Subtree.children in
    let brackets = c.in_ok-brackets-in-Some-Subtree.brackets in
    let below : Level = record { rest = children; brackets = brackets } in
    let why = c.in_err-last-in-Some-Subtree.field-0.0 in
    let first : IsFirstElement (rest_of level.rest) (Some (element.Subtree subtree children)) = search rules in
    let rest : rest_of c.next.new.self ≡ after_tree (rest_of level.rest) = search rules in
    let facts : brackets ≡ brackets_of subtree.delimiter.kind (shown (rest_of children)) = search rules in
    let fault : IsFaultBefore c.tokens.last (opens brackets) why = search rules in
    let failed : c.from_residual-in_err-last-in-Some-Subtree.result ≡ Err why = search rules in
    let is : IsWriteFault trees why =
    fault_in trees (string_bytes c.tokens.text) c.tokens.last (marks_left c.tokens.at (level ∷ outer)) (opens brackets) (marks_left (c.tokens.at + 1) (below ∷ next ∷ outer)) why
    (marks_subtree c.tokens.at level next below outer subtree children first rest refl refl facts) fault c.tokens.invariant.0 in
    search (rules, failed, is)

pub tokens-preserved-in-Some-Subtree : goal.tokens-preserved-in-Some-Subtree
tokens-preserved-in-Some-Subtree c =
    let trees = trees_of c.args.trees in
    let outer = reverse c.tokens.outer.items in
    let level = c.tokens.level in
    let next : Level = record { rest = c.next.new.self; brackets = level.brackets } in
    let subtree = c.in-Some-Subtree.subtree in
    let children = c.in-Some-Subtree.children in
    let brackets = c.in_ok-brackets-in-Some-Subtree.brackets in
    let below : Level = record { rest = children; brackets = brackets } in
    let first : IsFirstElement (rest_of level.rest) (Some (element.Subtree subtree children)) = search rules in
    let rest : rest_of c.next.new.self ≡ after_tree (rest_of level.rest) = search rules in
    let facts : brackets ≡ brackets_of subtree.delimiter.kind (shown (rest_of children)) = search rules in
    let pushed : c.push.new.self.items ≡ c.tokens.outer.items ++ next ∷ [] = search rules in
    let turned : next ∷ outer ≡ reverse c.push.new.self.items = sym (ap reverse pushed ∙ reverse-append c.tokens.outer.items (next ∷ [])) in
    let wrote : Writes (string_bytes c.tokens.text) c.tokens.last (opens brackets) (string_bytes c.write_opening.new.text) c.in_ok-last-in-Some-Subtree.last = search rules in (
      subst (λ levels. IsWrittenTo trees (string_bytes c.write_opening.new.text) c.in_ok-last-in-Some-Subtree.last (marks_left (c.tokens.at + 1) (below ∷ levels))) turned
          (goes_on trees (string_bytes c.tokens.text) (string_bytes c.write_opening.new.text) c.tokens.last c.in_ok-last-in-Some-Subtree.last
          (marks_left c.tokens.at (level ∷ outer)) (opens brackets) (marks_left (c.tokens.at + 1) (below ∷ next ∷ outer))
          (marks_subtree c.tokens.at level next below outer subtree children first rest refl refl facts) wrote c.tokens.invariant.0),
      subst (λ levels. (c.tokens.at + 1) + tokens_left (below ∷ levels) ≡ c.len-tokens.result) turned
          (tokens_subtree c.tokens.at c.len-tokens.result level next below outer subtree children first rest refl c.tokens.invariant.1),
    )

pub tokens-preserved : goal.tokens-preserved
tokens-preserved c =
    let trees = trees_of c.args.trees in
    let outer = reverse c.tokens.outer.items in
    let level = c.tokens.level in
    let popped : c.tokens.outer.items ≡ c.pop.new.self.items ++ c.in-Some.round ∷ [] = search rules in
    let turned : outer ≡ c.in-Some.round ∷ reverse c.pop.new.self.items = ap reverse popped ∙ reverse-append c.pop.new.self.items (c.in-Some.round ∷ []) in
    let first : IsFirstElement (rest_of level.rest) None = search rules in
    let wrote : Writes (string_bytes c.tokens.text) c.tokens.last (closes level.brackets) (string_bytes c.write_closing.new.text) c.in_ok-last-in-None.last = search rules in (
      subst (λ levels. IsWrittenTo trees (string_bytes c.write_closing.new.text) c.in_ok-last-in-None.last (marks_left c.tokens.at levels)) turned
          (goes_on trees (string_bytes c.tokens.text) (string_bytes c.write_closing.new.text) c.tokens.last c.in_ok-last-in-None.last
          (marks_left c.tokens.at (level ∷ outer)) (closes level.brackets) (marks_left c.tokens.at outer)
          (marks_ended c.tokens.at level outer first) wrote c.tokens.invariant.0),
      subst (λ levels. c.tokens.at + tokens_left levels ≡ c.len-tokens.result) turned (tokens_ended c.tokens.at c.len-tokens.result level outer first c.tokens.invariant.1),
    )

pub returns-in_default-clause-back : goal.returns-in_default-clause-back
returns-in_default-clause-back c =
    let trees = trees_of c.args.trees in
    let is : IfOk c.ended.result (λ text. string_bytes text ≡ text_of trees) = search rules in
    let writable : IfOk c.ended.result (λ _. IsWritable trees) = search rules in
    back_on trees c.ended.result is writable
