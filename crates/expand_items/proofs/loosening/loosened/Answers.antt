use Rattle.std.proofs.Common.{rules, ◌≡◌, suc, length-append, map, ◌∷◌, ◌++◌, [], length, reverse, None, Some, Err, refl, ap, ap₂, sym, subst, ◌∙◌, arith}
use Rattle.std.proofs.lemmas.List.{reverse-append}
use Rattle.std.specs.Prelude.{IfErr}
use Rattle.tt.specs.Building.{bottom, lowest, built, depth, opened, pushed, closed, IsGrowthFault}
use Rattle.tt.specs.Forest.{end, leaf, node, size}
use Rattle.tt.specs.Iters.{rest_of, IsFirstElement}
use Rattle.tt.specs.Moves.{after_tree}
use Rattle.tt.specs.TreeFault.{under, IsTreeFault}
use Rattle.tt.specs.Types.TtElement.TheVariants as element
use Rattle.tt.specs.Views.{trees_of}
use Rattle.expand_items.specs.declared.loosening.Level.{Level}
use Rattle.expand_items.specs.Loosening.{first_place_in, is_apart, kind_in, loosened, place_behind, place_behind_leaf, place_of}
use Rattle.expand_items.proofs.BuiltSoFar.{open_of, opens, leaf_built, node_built, leaf_no_room, node_no_room}
use Rattle.expand_items.proofs.Rebuilding.{finished, finished_all, finished_end, work_left, leaf_first, node_first, none_first, depth_append, depth_close}
use Rattle.expand_items.proofs.loosening.loosened.Goals as goal

pub tokens-preserved-in_ok-push-in-Some-Leaf : goal.tokens-preserved-in_ok-push-in-Some-Leaf
tokens-preserved-in_ok-push-in-Some-Leaf c =
    let outer = opens c.tokens.outer.items in
    let trees = rest_of c.tokens.rest in
    let behind = rest_of c.next.new.self in
    let it = c.in-Some-Leaf.leaf in
    let first : IsFirstElement trees (Some (element.Leaf it)) = search rules in
    let passed : behind ≡ after_tree trees = search rules in
    let begins : trees ≡ leaf it behind = leaf_first trees it first ∙ ap (leaf it) (sym passed) in
    let then = c.behind_leaf-place.result in
    let is : then ≡ place_behind_leaf it c.tokens.place = search rules in
    let grown : c.push.new.self ≡ pushed it c.tokens.builder = search rules in
    record {
      whole =
          ap (λ s. finished loosened outer then behind s.stack) grown
          ∙ sym (leaf_built outer c.tokens.place then trees c.tokens.builder.stack behind it begins is) ∙ c.tokens.invariant.whole;
      entered = ap (λ s. depth s.stack) grown ∙ depth_append (leaf it end) c.tokens.builder.stack ∙ c.tokens.invariant.entered;
      top = ap (λ s. s.top) grown ∙ c.tokens.invariant.top;
    }

pub returns-in_err-push-in-Some-Leaf-clause-err : goal.returns-in_err-push-in-Some-Leaf-clause-err
returns-in_err-push-in-Some-Leaf-clause-err c =
    let outer = opens c.tokens.outer.items in
    let trees = rest_of c.tokens.rest in
    let it = c.in-Some-Leaf.leaf in
    let fault = c.in_err-push-in-Some-Leaf.field-0.0.fault in
    let all = loosened (place_of c.args.enclosure c.args.position) (trees_of c.args.trees) in
    let first : IsFirstElement trees (Some (element.Leaf it)) = search rules in
    let wrong : IsGrowthFault 1 c.tokens.builder fault = search rules in
    let failed : c.from_residual-in_err-push-in-Some-Leaf.result ≡ Err fault = search rules in
    let is : IsTreeFault (under c.args.delimiter all) fault =
    leaf_no_room outer c.tokens.place trees all c.tokens.builder fault wrong c.args.delimiter c.tokens.invariant.whole it (after_tree trees) (leaf_first trees it first) in
    subst (λ r. IfErr r (IsTreeFault (under c.args.delimiter all))) (sym failed) is

pub returns-in_err-open-in-Some-Subtree-clause-err : goal.returns-in_err-open-in-Some-Subtree-clause-err
returns-in_err-open-in-Some-Subtree-clause-err c =
    let outer = opens c.tokens.outer.items in
    let trees = rest_of c.tokens.rest in
    let header = c.in-Some-Subtree.header in
    let fault = c.in_err-open-in-Some-Subtree.field-0.0 in
    let all = loosened (place_of c.args.enclosure c.args.position) (trees_of c.args.trees) in
    let first : IsFirstElement trees (Some (element.Subtree header c.in-Some-Subtree.children)) = search rules in
    let wrong : IsGrowthFault 1 c.tokens.builder fault = search rules in
    let failed : c.from_residual-in_err-open-in-Some-Subtree.result ≡ Err fault = search rules in
    let is : IsTreeFault (under c.args.delimiter all) fault =
    node_no_room outer c.tokens.place trees all c.tokens.builder fault wrong c.args.delimiter c.tokens.invariant.whole header.delimiter (rest_of c.in-Some-Subtree.children) (after_tree trees)
    (node_first trees header c.in-Some-Subtree.children first) in
    subst (λ r. IfErr r (IsTreeFault (under c.args.delimiter all))) (sym failed) is

pub tokens-smaller-in-Some-Subtree : goal.tokens-smaller-in-Some-Subtree
tokens-smaller-in-Some-Subtree c =
    let trees = rest_of c.tokens.rest in
    let header = c.in-Some-Subtree.header in
    let level : Level = record { rest = c.next.new.self; place = c.behind_subtree.result; close = header.delimiter.close } in
    let first : IsFirstElement trees (Some (element.Subtree header c.in-Some-Subtree.children)) = search rules in
    let passed : rest_of c.next.new.self ≡ after_tree trees = search rules in
    let begins : trees ≡ node header.delimiter (rest_of c.in-Some-Subtree.children) (rest_of c.next.new.self) =
    node_first trees header c.in-Some-Subtree.children first ∙ ap (node header.delimiter (rest_of c.in-Some-Subtree.children)) (sym passed) in
    let more : c.push-in-Some-Subtree.new.self.items ≡ c.tokens.outer.items ++ level ∷ [] = search rules in
    let turned : opens c.push-in-Some-Subtree.new.self.items ≡ open_of level ∷ opens c.tokens.outer.items =
    ap (λ l. map open_of (reverse l)) more ∙ ap (map open_of) (reverse-append c.tokens.outer.items (level ∷ [])) in
    omega (arith, ap size begins, ap work_left turned)

pub tokens-preserved-in-Some-Subtree : goal.tokens-preserved-in-Some-Subtree
tokens-preserved-in-Some-Subtree c =
    let outer = opens c.tokens.outer.items in
    let trees = rest_of c.tokens.rest in
    let place = c.tokens.place in
    let header = c.in-Some-Subtree.header in
    let held = rest_of c.in-Some-Subtree.children in
    let behind = rest_of c.next.new.self in
    let entry = c.enter-entry.result in
    let level : Level = record { rest = c.next.new.self; place = c.behind_subtree.result; close = header.delimiter.close } in
    let first : IsFirstElement trees (Some (element.Subtree header c.in-Some-Subtree.children)) = search rules in
    let passed : behind ≡ after_tree trees = search rules in
    let begins : trees ≡ node header.delimiter held behind =
    node_first trees header c.in-Some-Subtree.children first ∙ ap (node header.delimiter held) (sym passed) in
    let inside : rest_of c.iter-inside.result ≡ held = search rules in
    let others : rest_of c.iter.result ≡ behind = search rules in
    let kind : entry.kind ≡ kind_in held behind place header.delimiter.kind =
    c.enter-entry.ensures.kind ∙ ap₂ (λ h b. kind_in h b place header.delimiter.kind) inside others in
    let then : entry.first ≡ first_place_in (kind_in held behind place header.delimiter.kind) (is_apart held behind place) place =
    c.enter-entry.ensures.first ∙ ap₂ (λ h b. first_place_in (kind_in h b place header.delimiter.kind) (is_apart h b place) place) inside others in
    let after : c.behind_subtree.result ≡ place_behind header.delimiter.kind place = search rules in
    let more : c.push-in-Some-Subtree.new.self.items ≡ c.tokens.outer.items ++ level ∷ [] = search rules in
    let turned : opens c.push-in-Some-Subtree.new.self.items ≡ open_of level ∷ outer =
    ap (λ l. map open_of (reverse l)) more ∙ ap (map open_of) (reverse-append c.tokens.outer.items (level ∷ [])) in
    let entered : c.open.new.self ≡ opened entry.kind header.delimiter.open_span c.tokens.builder = search rules in
    record {
      whole =
          ap₂ (λ levels s. finished loosened levels entry.first held s.stack) turned entered
          ∙ sym (node_built outer place entry.first trees c.tokens.builder.stack held (open_of level) header.delimiter entry.kind begins refl after kind then) ∙ c.tokens.invariant.whole;
      entered = ap (λ s. depth s.stack) entered ∙ ap suc c.tokens.invariant.entered ∙ sym (ap length more ∙ length-append c.tokens.outer.items (level ∷ []) ∙ omega arith);
      top = ap (λ s. s.top) entered ∙ c.tokens.invariant.top;
    }

pub returns-in_err-build-in-None-clause-err : goal.returns-in_err-build-in-None-clause-err
returns-in_err-build-in-None-clause-err c =
    let trees = rest_of c.tokens.rest in
    let fault = c.in_err-build-in-None.field-0.0.fault in
    let all = loosened (place_of c.args.enclosure c.args.position) (trees_of c.args.trees) in
    let first : IsFirstElement trees None = search rules in
    let none : c.tokens.outer.items ≡ [] = search rules in
    let whole : c.tokens.builder.stack ≡ lowest all =
    finished_all loosened (λ p. refl) c.tokens.place trees all c.tokens.builder.stack (none_first trees first)
    (sym (ap (λ l. finished loosened (opens l) c.tokens.place trees c.tokens.builder.stack) none) ∙ c.tokens.invariant.whole) in
    let is : built c.tokens.builder ≡ under c.args.delimiter all = ap₂ (λ d s. under d (bottom s)) c.tokens.invariant.top whole in
    let failed : c.from_residual-in_err-build-in-None.result ≡ Err fault = search rules in
    subst (λ r. IfErr r (IsTreeFault (under c.args.delimiter all))) (sym failed) (subst (λ r. IsTreeFault r fault) is c.in_err-build-in-None.ensures.fault)

pub returns-in_default-clause-ok : goal.returns-in_default-clause-ok
returns-in_default-clause-ok c =
    let trees = rest_of c.tokens.rest in
    let all = loosened (place_of c.args.enclosure c.args.position) (trees_of c.args.trees) in
    let first : IsFirstElement trees None = search rules in
    let none : c.tokens.outer.items ≡ [] = search rules in
    let whole : c.tokens.builder.stack ≡ lowest all =
    finished_all loosened (λ p. refl) c.tokens.place trees all c.tokens.builder.stack (none_first trees first)
    (sym (ap (λ l. finished loosened (opens l) c.tokens.place trees c.tokens.builder.stack) none) ∙ c.tokens.invariant.whole) in
    let is : built c.tokens.builder ≡ under c.args.delimiter all = ap₂ (λ d s. under d (bottom s)) c.tokens.invariant.top whole in
    c.in_ok-build-in-None.ensures.ok ∙ is

pub tokens-preserved : goal.tokens-preserved
tokens-preserved c =
    let trees = rest_of c.tokens.rest in
    let level = c.in-Some.level in
    let first : IsFirstElement trees None = search rules in
    let popped : c.tokens.outer.items ≡ c.pop.new.self.items ++ level ∷ [] = search rules in
    let turned : opens c.tokens.outer.items ≡ open_of level ∷ opens c.pop.new.self.items =
    ap (λ l. map open_of (reverse l)) popped ∙ ap (map open_of) (reverse-append c.pop.new.self.items (level ∷ [])) in
    let shut : c.close.new.self ≡ closed level.close c.tokens.builder = search rules in
    let deep : depth c.tokens.builder.stack ≡ suc (length c.pop.new.self.items) =
    c.tokens.invariant.entered ∙ ap length popped ∙ length-append c.pop.new.self.items (level ∷ []) ∙ omega arith in
    record {
      whole =
          ap (λ s. finished loosened (opens c.pop.new.self.items) level.place (rest_of level.rest) s.stack) shut
          ∙ sym (finished_end loosened (λ p. refl) (opens c.pop.new.self.items) c.tokens.place trees (open_of level) c.tokens.builder.stack (none_first trees first))
          ∙ ap (λ l. finished loosened l c.tokens.place trees c.tokens.builder.stack) (sym turned) ∙ c.tokens.invariant.whole;
      entered = ap (λ s. depth s.stack) shut ∙ depth_close level.close c.tokens.builder.stack (length c.pop.new.self.items) deep;
      top = ap (λ s. s.top) shut ∙ c.tokens.invariant.top;
    }
