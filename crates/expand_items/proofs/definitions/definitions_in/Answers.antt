use Rattle.std.proofs.Common.{rules, ◌≡◌, ◌++◌, ◌∷◌, [], List, map, reverse, None, Some, refl, ap, sym, subst, ◌∙◌, arith}
use Rattle.std.proofs.lemmas.List.{append-nil, reverse-append}
use Rattle.tt.specs.Forest.{size}
use Rattle.tt.specs.Iters.{rest_of, IsFirstElement}
use Rattle.tt.specs.Moves.{after_tree}
use Rattle.tt.specs.Types.TtElement.TheVariants as element
use Rattle.expand_items.specs.Cfg.{known_of}
use Rattle.expand_items.specs.Definitions.{AreDefinitions, Level as LevelOf, level_of, past_leaf, past_subtree, passed_by, defined_of}
use Rattle.expand_items.specs.Positions.{begun}
use Rattle.expand_items.specs.declared.position.Siblings.TheVariants.{Items}
use Rattle.expand_items.proofs.DefinedSoFar.{AreLeft, after_end, inside_none, inside_some, kept_inside, kept_leaf, kept_passed, work_of}
use Rattle.expand_items.proofs.Rebuilding.{leaf_first, node_first, none_first}
use Rattle.expand_items.proofs.definitions.definitions_in.Goals as goal

pub trees-preserved-in_ok-pass_leaf-in-Some-Leaf : goal.trees-preserved-in_ok-pass_leaf-in-Some-Leaf
trees-preserved-in_ok-pass_leaf-in-Some-Leaf c =
    let known = known_of c.args.options.now in
    let before : LevelOf = level_of c.trees.level in
    let it = c.in-Some-Leaf.leaf in
    let first : IsFirstElement before.rest (Some (element.Leaf it)) = search rules in
    let (item, is, grown, passes) = c.in_ok-find-in-Some-Leaf.ensures.found in
    let noted : level_of c.find.new.self ≡ record before { passed = passed_by before.passed item } =
    ap level_of c.in_ok-find-in-Some-Leaf.ensures.level ∙ ap (λ n. record before { passed = n }) passes in
    kept_leaf known c.args.root.now (rest_of c.args.trees) before (map level_of (reverse c.trees.outer.items)) (map defined_of c.trees.found.items) c.trees.invariant it (after_tree before.rest) item
    (map defined_of c.find.new.found.items) (level_of c.pass_leaf.new.self) (leaf_first before.rest it first) is grown (c.in_ok-pass_leaf-in-Some-Leaf.ensures ∙ ap (past_leaf known it) noted)

pub trees-preserved-in_ok-pass_leaf-in-Some-Leaf-2 : goal.trees-preserved-in_ok-pass_leaf-in-Some-Leaf-2
trees-preserved-in_ok-pass_leaf-in-Some-Leaf-2 c =
    let known = known_of c.args.options.now in
    let before : LevelOf = level_of c.trees.level in
    let it = c.in-Some-Leaf.leaf in
    let first : IsFirstElement before.rest (Some (element.Leaf it)) = search rules in
    let (item, is, grown, passes) = c.in_ok-find-in-Some-Leaf.ensures.found in
    let noted : level_of c.find.new.self ≡ record before { passed = passed_by before.passed item } =
    ap level_of c.in_ok-find-in-Some-Leaf.ensures.level ∙ ap (λ n. record before { passed = n }) passes in
    kept_leaf known c.args.root.now (rest_of c.args.trees) before (map level_of (reverse c.trees.outer.items)) (map defined_of c.trees.found.items) c.trees.invariant it (after_tree before.rest) item
    (map defined_of c.find.new.found.items) (level_of c.pass_leaf.new.self) (leaf_first before.rest it first) is grown (c.in_ok-pass_leaf-in-Some-Leaf.ensures ∙ ap (past_leaf known it) noted)

pub trees-preserved-in_ok-pass_leaf-in-Some-Leaf-3 : goal.trees-preserved-in_ok-pass_leaf-in-Some-Leaf-3
trees-preserved-in_ok-pass_leaf-in-Some-Leaf-3 c =
    let known = known_of c.args.options.now in
    let before : LevelOf = level_of c.trees.level in
    let it = c.in-Some-Leaf.leaf in
    let first : IsFirstElement before.rest (Some (element.Leaf it)) = search rules in
    let (item, is, grown, passes) = c.in_ok-find-in-Some-Leaf.ensures.found in
    let noted : level_of c.find.new.self ≡ record before { passed = passed_by before.passed item } =
    ap level_of c.in_ok-find-in-Some-Leaf.ensures.level ∙ ap (λ n. record before { passed = n }) passes in
    kept_leaf known c.args.root.now (rest_of c.args.trees) before (map level_of (reverse c.trees.outer.items)) (map defined_of c.trees.found.items) c.trees.invariant it (after_tree before.rest) item
    (map defined_of c.find.new.found.items) (level_of c.pass_leaf.new.self) (leaf_first before.rest it first) is grown (c.in_ok-pass_leaf-in-Some-Leaf.ensures ∙ ap (past_leaf known it) noted)

pub trees-smaller-in-Continue-branch-3 : goal.trees-smaller-in-Continue-branch-3
trees-smaller-in-Continue-branch-3 c =
    let old = c.trees.level in
    let before : LevelOf = level_of old in
    let header = c.in-Some-Subtree.header in
    let children = c.in-Some-Subtree.children in
    let first : IsFirstElement before.rest (Some (element.Subtree header children)) = search rules in
    let begins = node_first before.rest header children first in
    let (none, enters) = inside_some header.delimiter.kind children old.position old.passed c.in-Some.inner c.in-Some.ensures.inside in
    let inner : level_of c.replace.new.dest ≡ level_of c.in-Some.inner = ap level_of c.replace.ensures.after in
    let past : level_of c.replace.result ≡ past_subtree header.delimiter.kind before = ap level_of c.replace.ensures.value ∙ c.in-Some.ensures.level in
    let more : c.push.new.self.items ≡ c.trees.outer.items ++ c.replace.result ∷ [] = search rules in
    let turned : reverse c.push.new.self.items ≡ c.replace.result ∷ reverse c.trees.outer.items = ap reverse more ∙ reverse-append c.trees.outer.items (c.replace.result ∷ []) in
    omega (arith, ap size begins, ap work_of turned, ap (λ l. size l.rest) (inner ∙ enters), ap (λ l. size l.rest) past)

pub trees-preserved-in-Continue-branch-3 : goal.trees-preserved-in-Continue-branch-3
trees-preserved-in-Continue-branch-3 c =
    let known = known_of c.args.options.now in
    let old = c.trees.level in
    let before : LevelOf = level_of old in
    let outer : List LevelOf = map level_of (reverse c.trees.outer.items) in
    let header = c.in-Some-Subtree.header in
    let children = c.in-Some-Subtree.children in
    let first : IsFirstElement before.rest (Some (element.Subtree header children)) = search rules in
    let begins = node_first before.rest header children first in
    let (none, enters) = inside_some header.delimiter.kind children old.position old.passed c.in-Some.inner c.in-Some.ensures.inside in
    let inner : level_of c.replace.new.dest ≡ level_of c.in-Some.inner = ap level_of c.replace.ensures.after in
    let past : level_of c.replace.result ≡ past_subtree header.delimiter.kind before = ap level_of c.replace.ensures.value ∙ c.in-Some.ensures.level in
    let more : c.push.new.self.items ≡ c.trees.outer.items ++ c.replace.result ∷ [] = search rules in
    let turned : reverse c.push.new.self.items ≡ c.replace.result ∷ reverse c.trees.outer.items = ap reverse more ∙ reverse-append c.trees.outer.items (c.replace.result ∷ []) in
    kept_inside known c.args.root.now (rest_of c.args.trees) before outer (map defined_of c.trees.found.items) c.trees.invariant header.delimiter (rest_of children) (after_tree before.rest)
    (level_of c.replace.new.dest) (level_of c.replace.result) (map level_of (reverse c.push.new.self.items)) begins none (inner ∙ enters) past (ap (map level_of) turned)

pub trees-preserved-in_default : goal.trees-preserved-in_default
trees-preserved-in_default c =
    let known = known_of c.args.options.now in
    let old = c.trees.level in
    let before : LevelOf = level_of old in
    let outer : List LevelOf = map level_of (reverse c.trees.outer.items) in
    let header = c.in-Some-Subtree.header in
    let children = c.in-Some-Subtree.children in
    let first : IsFirstElement before.rest (Some (element.Subtree header children)) = search rules in
    let (left, some) = inside_none header.delimiter.kind children old.position old.passed c.in_default.ensures.inside in
    kept_passed known c.args.root.now (rest_of c.args.trees) before outer (map defined_of c.trees.found.items) c.trees.invariant header.delimiter (rest_of children) (after_tree before.rest)
    left (level_of c.pass_subtree.new.self) (node_first before.rest header children first) some c.in_default.ensures.level

pub trees-preserved : goal.trees-preserved
trees-preserved c = λ others left.
    let known = known_of c.args.options.now in
    let root = c.args.root.now in
    let before : LevelOf = level_of c.trees.level in
    let first : IsFirstElement before.rest None = search rules in
    let popped : c.trees.outer.items ≡ c.pop.new.self.items ++ c.in-Some-pop.next ∷ [] = search rules in
    let turned : reverse c.trees.outer.items ≡ c.in-Some-pop.next ∷ reverse c.pop.new.self.items =
    ap reverse popped ∙ reverse-append c.pop.new.self.items (c.in-Some-pop.next ∷ []) in
    c.trees.invariant others
    (after_end known root before (map level_of (reverse c.trees.outer.items)) (none_first before.rest first) others
    (subst (λ ls. AreLeft known root (map level_of ls) others) (sym turned) left))

pub returns-in-None-pop : goal.returns-in-None-pop
returns-in-None-pop c =
    let known = known_of c.args.options.now in
    let root = c.args.root.now in
    let before : LevelOf = level_of c.trees.level in
    let first : IsFirstElement before.rest None = search rules in
    let none : c.trees.outer.items ≡ [] = search rules in
    subst (AreDefinitions known root (begun Items) 0 (rest_of c.args.trees)) (append-nil (map defined_of c.trees.found.items))
    (c.trees.invariant []
    (after_end known root before (map level_of (reverse c.trees.outer.items)) (none_first before.rest first) []
    (subst (λ its. AreLeft known root (map level_of (reverse its)) []) (sym none) refl)))
