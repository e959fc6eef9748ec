use Rattle.std.proofs.Common.{rules, ◌≡◌, ◌<◌, suc, length-append, ◌∷◌, ◌++◌, [], length, reverse, None, Some, Err, refl, ap, ap₂, sym, subst, ◌∙◌, arith}
use Rattle.std.proofs.lemmas.List.{reverse-append}
use Rattle.std.specs.Prelude.{IfErr}
use Rattle.tt.specs.Building.{bottom, lowest, built, depth, opened, pushed, closed, IsGrowthFault}
use Rattle.tt.specs.Forest.{end, leaf, node, size}
use Rattle.tt.specs.Gluing.{after_trees}
use Rattle.tt.specs.Iters.{rest_of, IsFirstElement}
use Rattle.tt.specs.Moves.{after_tree}
use Rattle.tt.specs.TreeFault.{under, IsTreeFault}
use Rattle.tt.specs.Types.TtElement.TheVariants as element
use Rattle.tt.specs.Views.{trees_of}
use Rattle.expand_text.specs.declared.prepared.Level.{Level}
use Rattle.expand_text.specs.Prepared.{after_leaf, inside, left_out, prepared, rooted_leaf}
use Rattle.expand_items.proofs.Rebuilding.{leaf_first, node_first, none_first, depth_append, depth_close}
use Rattle.expand_text.proofs.Preparing.{finished, work_left, finished_leaf, finished_comment, finished_node, finished_end, finished_all, leaf_no_room, node_no_room}
use Rattle.expand_text.proofs.prepared.prepared.Goals as goal

pub tokens-preserved-then-left_out-gt0 : goal.tokens-preserved-then-left_out-gt0
tokens-preserved-then-left_out-gt0 c =
    let root = c.args.root.now in
    let outer = reverse c.tokens.outer.items in
    let trees = rest_of c.tokens.rest in
    let behind = rest_of c.next.new.self in
    let it = c.in-Some-Leaf.leaf in
    let first : IsFirstElement trees (Some (element.Leaf it)) = search rules in
    let passed : behind ≡ after_tree trees = search rules in
    let begins : trees ≡ leaf it behind = leaf_first trees it first ∙ ap (leaf it) (sym passed) in
    let goes : 0 < left_out c.tokens.part it behind = search (rules, arith) in
    let left : rest_of c.leave_out.new.trees ≡ after_trees (left_out c.tokens.part it behind) behind = search rules in
    record {
      whole = sym (finished_comment root outer c.tokens.part trees behind (rest_of c.leave_out.new.trees) it c.tokens.builder.stack begins goes left) ∙ c.tokens.invariant.whole;
      entered = c.tokens.invariant.entered;
      top = c.tokens.invariant.top;
    }

pub tokens-preserved-in_ok-push-in-Some-Leaf : goal.tokens-preserved-in_ok-push-in-Some-Leaf
tokens-preserved-in_ok-push-in-Some-Leaf c =
    let root = c.args.root.now in
    let outer = reverse c.tokens.outer.items in
    let trees = rest_of c.tokens.rest in
    let behind = rest_of c.next.new.self in
    let it = c.in-Some-Leaf.leaf in
    let word = c.in_ok-leaf-in-Some-Leaf.leaf in
    let first : IsFirstElement trees (Some (element.Leaf it)) = search rules in
    let passed : behind ≡ after_tree trees = search rules in
    let begins : trees ≡ leaf it behind = leaf_first trees it first ∙ ap (leaf it) (sym passed) in
    let left : rest_of c.rooted_leaf.new.trees ≡ after_leaf it behind = search rules in
    let stays : left_out c.tokens.part it behind ≡ 0 = search (rules, arith) in
    let is : word ≡ rooted_leaf root it behind = search rules in
    let grown : c.push.new.self ≡ pushed word c.tokens.builder = search rules in
    record {
      whole =
          ap (λ s. finished root outer c.tokens.part (rest_of c.rooted_leaf.new.trees) s.stack) grown
          ∙ sym (finished_leaf root outer c.tokens.part trees behind (rest_of c.rooted_leaf.new.trees) it word c.tokens.builder.stack begins stays left is) ∙ c.tokens.invariant.whole;
      entered = ap (λ s. depth s.stack) grown ∙ depth_append (leaf word end) c.tokens.builder.stack ∙ c.tokens.invariant.entered;
      top = ap (λ s. s.top) grown ∙ c.tokens.invariant.top;
    }

pub returns-in_err-push-in-Some-Leaf-clause-err : goal.returns-in_err-push-in-Some-Leaf-clause-err
returns-in_err-push-in-Some-Leaf-clause-err c =
    let root = c.args.root.now in
    let outer = reverse c.tokens.outer.items in
    let trees = rest_of c.tokens.rest in
    let it = c.in-Some-Leaf.leaf in
    let fault = c.in_err-push-in-Some-Leaf.field-0.0.fault in
    let all = prepared root (trees_of c.args.trees) in
    let first : IsFirstElement trees (Some (element.Leaf it)) = search rules in
    let behind = rest_of c.next.new.self in
    let passed : behind ≡ after_tree trees = search rules in
    let begins : trees ≡ leaf it behind = leaf_first trees it first ∙ ap (leaf it) (sym passed) in
    let stays : left_out c.tokens.part it behind ≡ 0 = search (rules, arith) in
    let wrong : IsGrowthFault 1 c.tokens.builder fault = search rules in
    let failed : c.from_residual-in_err-push-in-Some-Leaf.result ≡ Err fault = search rules in
    let is : IsTreeFault (under c.args.delimiter all) fault =
    leaf_no_room root outer c.tokens.part trees all c.tokens.builder fault wrong c.args.delimiter c.tokens.invariant.whole it behind begins stays in
    subst (λ r. IfErr r (IsTreeFault (under c.args.delimiter all))) (sym failed) is

pub returns-in_err-open-in-Some-Subtree-clause-err : goal.returns-in_err-open-in-Some-Subtree-clause-err
returns-in_err-open-in-Some-Subtree-clause-err c =
    let root = c.args.root.now in
    let outer = reverse c.tokens.outer.items in
    let trees = rest_of c.tokens.rest in
    let header = c.in-Some-Subtree.header in
    let fault = c.in_err-open-in-Some-Subtree.field-0.0 in
    let all = prepared root (trees_of c.args.trees) in
    let first : IsFirstElement trees (Some (element.Subtree header c.in-Some-Subtree.children)) = search rules in
    let wrong : IsGrowthFault 1 c.tokens.builder fault = search rules in
    let failed : c.from_residual-in_err-open-in-Some-Subtree.result ≡ Err fault = search rules in
    let is : IsTreeFault (under c.args.delimiter all) fault =
    node_no_room root outer c.tokens.part trees all c.tokens.builder fault wrong c.args.delimiter c.tokens.invariant.whole header.delimiter (rest_of c.in-Some-Subtree.children) (after_tree trees)
    (node_first trees header c.in-Some-Subtree.children first) in
    subst (λ r. IfErr r (IsTreeFault (under c.args.delimiter all))) (sym failed) is

pub tokens-smaller-in-Some-Subtree : goal.tokens-smaller-in-Some-Subtree
tokens-smaller-in-Some-Subtree c =
    let trees = rest_of c.tokens.rest in
    let header = c.in-Some-Subtree.header in
    let level : Level = record { rest = c.next.new.self; part = c.tokens.part; close = header.delimiter.close } in
    let first : IsFirstElement trees (Some (element.Subtree header c.in-Some-Subtree.children)) = search rules in
    let passed : rest_of c.next.new.self ≡ after_tree trees = search rules in
    let begins : trees ≡ node header.delimiter (rest_of c.in-Some-Subtree.children) (rest_of c.next.new.self) =
    node_first trees header c.in-Some-Subtree.children first ∙ ap (node header.delimiter (rest_of c.in-Some-Subtree.children)) (sym passed) in
    let more : c.push-in-Some-Subtree.new.self.items ≡ c.tokens.outer.items ++ level ∷ [] = search rules in
    let turned : reverse c.push-in-Some-Subtree.new.self.items ≡ level ∷ reverse c.tokens.outer.items = ap reverse more ∙ reverse-append c.tokens.outer.items (level ∷ []) in
    omega (arith, ap size begins, ap work_left turned)

pub tokens-preserved-in-Some-Subtree : goal.tokens-preserved-in-Some-Subtree
tokens-preserved-in-Some-Subtree c =
    let root = c.args.root.now in
    let outer = reverse c.tokens.outer.items in
    let trees = rest_of c.tokens.rest in
    let header = c.in-Some-Subtree.header in
    let held = rest_of c.in-Some-Subtree.children in
    let level : Level = record { rest = c.next.new.self; part = c.tokens.part; close = header.delimiter.close } in
    let first : IsFirstElement trees (Some (element.Subtree header c.in-Some-Subtree.children)) = search rules in
    let passed : rest_of c.next.new.self ≡ after_tree trees = search rules in
    let begins : trees ≡ node header.delimiter held (rest_of c.next.new.self) =
    node_first trees header c.in-Some-Subtree.children first ∙ ap (node header.delimiter held) (sym passed) in
    let holds : c.inside-inside.result ≡ inside c.tokens.part (rest_of level.rest) = search rules in
    let more : c.push-in-Some-Subtree.new.self.items ≡ c.tokens.outer.items ++ level ∷ [] = search rules in
    let turned : reverse c.push-in-Some-Subtree.new.self.items ≡ level ∷ outer = ap reverse more ∙ reverse-append c.tokens.outer.items (level ∷ []) in
    let entered : c.open.new.self ≡ opened header.delimiter.kind header.delimiter.open_span c.tokens.builder = search rules in
    record {
      whole =
          ap₂ (λ levels s. finished root levels c.inside-inside.result held s.stack) turned entered
          ∙ sym (finished_node root outer c.tokens.part c.inside-inside.result trees held level header c.tokens.builder.stack begins refl refl holds) ∙ c.tokens.invariant.whole;
      entered = ap (λ s. depth s.stack) entered ∙ ap suc c.tokens.invariant.entered ∙ sym (ap length more ∙ length-append c.tokens.outer.items (level ∷ []) ∙ omega arith);
      top = ap (λ s. s.top) entered ∙ c.tokens.invariant.top;
    }

pub returns-in_err-build-in-None-clause-err : goal.returns-in_err-build-in-None-clause-err
returns-in_err-build-in-None-clause-err c =
    let root = c.args.root.now in
    let trees = rest_of c.tokens.rest in
    let fault = c.in_err-build-in-None.field-0.0.fault in
    let all = prepared root (trees_of c.args.trees) in
    let first : IsFirstElement trees None = search rules in
    let none : c.tokens.outer.items ≡ [] = search rules in
    let whole : c.tokens.builder.stack ≡ lowest all =
    finished_all root c.tokens.part trees all c.tokens.builder.stack (none_first trees first) (ap (λ l. finished root (reverse l) c.tokens.part trees c.tokens.builder.stack) (sym none) ∙ c.tokens.invariant.whole) in
    let is : built c.tokens.builder ≡ under c.args.delimiter all = ap₂ (λ d s. under d (bottom s)) c.tokens.invariant.top whole in
    let failed : c.from_residual-in_err-build-in-None.result ≡ Err fault = search rules in
    subst (λ r. IfErr r (IsTreeFault (under c.args.delimiter all))) (sym failed) (subst (λ r. IsTreeFault r fault) is c.in_err-build-in-None.ensures.fault)

pub returns-in_default-clause-ok : goal.returns-in_default-clause-ok
returns-in_default-clause-ok c =
    let root = c.args.root.now in
    let trees = rest_of c.tokens.rest in
    let all = prepared root (trees_of c.args.trees) in
    let first : IsFirstElement trees None = search rules in
    let none : c.tokens.outer.items ≡ [] = search rules in
    let whole : c.tokens.builder.stack ≡ lowest all =
    finished_all root c.tokens.part trees all c.tokens.builder.stack (none_first trees first) (ap (λ l. finished root (reverse l) c.tokens.part trees c.tokens.builder.stack) (sym none) ∙ c.tokens.invariant.whole) in
    let is : built c.tokens.builder ≡ under c.args.delimiter all = ap₂ (λ d s. under d (bottom s)) c.tokens.invariant.top whole in
    c.in_ok-build-in-None.ensures.ok ∙ is

pub tokens-preserved : goal.tokens-preserved
tokens-preserved c =
    let root = c.args.root.now in
    let trees = rest_of c.tokens.rest in
    let level = c.in-Some.level in
    let first : IsFirstElement trees None = search rules in
    let popped : c.tokens.outer.items ≡ c.pop.new.self.items ++ level ∷ [] = search rules in
    let turned : reverse c.tokens.outer.items ≡ level ∷ reverse c.pop.new.self.items = ap reverse popped ∙ reverse-append c.pop.new.self.items (level ∷ []) in
    let shut : c.close.new.self ≡ closed level.close c.tokens.builder = search rules in
    let deep : depth c.tokens.builder.stack ≡ suc (length c.pop.new.self.items) =
    c.tokens.invariant.entered ∙ ap length popped ∙ length-append c.pop.new.self.items (level ∷ []) ∙ omega arith in
    record {
      whole =
          ap (λ s. finished root (reverse c.pop.new.self.items) level.part (rest_of level.rest) s.stack) shut
          ∙ sym (finished_end root (reverse c.pop.new.self.items) c.tokens.part trees level c.tokens.builder.stack (none_first trees first))
          ∙ ap (λ l. finished root l c.tokens.part trees c.tokens.builder.stack) (sym turned) ∙ c.tokens.invariant.whole;
      entered = ap (λ s. depth s.stack) shut ∙ depth_close level.close c.tokens.builder.stack (length c.pop.new.self.items) deep;
      top = ap (λ s. s.top) shut ∙ c.tokens.invariant.top;
    }
