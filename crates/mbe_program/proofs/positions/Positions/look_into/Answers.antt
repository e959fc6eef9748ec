use Rattle.std.proofs.Common.{◌≡◌, ◌+◌, ◌-◌, ◌∷◌, ◌++◌, [], suc, length, length-append, refl, ap, sym, subst, ◌∙◌, arith}
use Rattle.std.proofs.lemmas.Result.{err_from_is_err_and}
use Rattle.std.specs.Prelude.{Contains}
use Rattle.mbe_pattern.specs.Units.{IsNodeOf}
use Rattle.tt.specs.Forest.{size}
use Rattle.tt.specs.Iters.{rest_of}
use Rattle.tt.specs.Moves.{after_tree}
use Rattle.tt.specs.Types.DelimiterKind.{DelimiterKind}
use Rattle.tt.specs.Views.{trees_of}
use Rattle.mbe_program.specs.Laying.{level_spots, spots_of}
use Rattle.mbe_program.specs.Moving.{instructions_of}
use Rattle.mbe_program.specs.Program.{enter}
use Rattle.mbe_program.specs.Positions.{table_of}
use Rattle.mbe_program.specs.declared.positions.Positions.{Positions}
use Rattle.mbe_program.proofs.Looking.{count_none, count_more, look_none, look_more, look_behind}
use Rattle.mbe_program.proofs.Results.{on_ok, on_err}
use Rattle.mbe_program.proofs.positions.Positions.look_into.Goals as goal

pub returns-in_err-push-clause-laid : goal.returns-in_err-push-clause-laid
returns-in_err-push-clause-laid c = let fault = err_from_is_err_and c.from_residual.result c.from_residual.ensures.1 in on_err _ c.from_residual.result fault.0 fault.1

pub returns-in_err-push-clause-now_count : goal.returns-in_err-push-clause-now_count
returns-in_err-push-clause-now_count c = let fault = err_from_is_err_and c.from_residual.result c.from_residual.ensures.1 in on_err _ c.from_residual.result fault.0 fault.1

pub returns-in_err-push-clause-pending : goal.returns-in_err-push-clause-pending
returns-in_err-push-clause-pending c = let fault = err_from_is_err_and c.from_residual.result c.from_residual.ensures.1 in on_err _ c.from_residual.result fault.0 fault.1

pub returns-in_default-clause-laid : goal.returns-in_default-clause-laid
returns-in_default-clause-laid c =
    let old = c.args.self.now in
    let new : Positions = record { all = old.all; insides = c.push.new.self } in
    let none : (kind : DelimiterKind) → Contains (instructions_of c.args.program.now) (enter kind) → IsNodeOf kind ((table_of old).trees c.args.number) → ⊥ =
    λ kind enters node_is. c.in_default.ensures kind enters (subst (IsNodeOf kind) (sym c.trees.ensures) node_is) in
    λ input laid.
    look_none old new c.args.number (suc c.args.number) c.requires.number refl (instructions_of c.args.program.now) input c.requires.some c.requires.count laid refl c.in_ok-push.ensures.items none

pub returns-in_default-clause-now_count : goal.returns-in_default-clause-now_count
returns-in_default-clause-now_count c =
    let count = length-append c.args.self.now.insides.items (0 ∷ []) in
    let pushed = ap length c.in_ok-push.ensures.items in
    omega (arith, count, pushed, c.requires.count)

pub returns-in_default-clause-pending : goal.returns-in_default-clause-pending
returns-in_default-clause-pending c =
    let old = c.args.self.now in
    let new : Positions = record { all = old.all; insides = c.push.new.self } in
    count_none old new c.args.number (suc c.args.number) c.requires.number refl refl

pub overflow_sub-behind : goal.overflow_sub-behind
overflow_sub-behind c =
    let old = c.args.self.now in
    let node_is = sym c.trees.ensures ∙ c.in-Some.ensures.1 in
    let next : c.args.number + 1 ≡ suc c.args.number = omega arith in
    let children = rest_of c.in-Some.children in
    let count : c.len-count.result ≡ size children = c.len-count.ensures ∙ ap size c.remaining.ensures in
    let behind = look_behind old old c.args.number (c.args.number + 1) c.requires.number next (instructions_of c.args.program.now) c.requires.laid.0 c.requires.some c.requires.count c.requires.laid.1
    c.in-Some.ensures.0 children (after_tree (trees_of c.trees.result)) node_is c.left.result c.len-count.result c.left.ensures count in
    let upto = behind.0 in
    omega (arith, upto)

pub overflow_sub-behind-2 : goal.overflow_sub-behind-2
overflow_sub-behind-2 c =
    let old = c.args.self.now in
    let node_is = sym c.trees.ensures ∙ c.in-Some.ensures.1 in
    let next : c.args.number + 1 ≡ suc c.args.number = omega arith in
    let children = rest_of c.in-Some.children in
    let count : c.len-count.result ≡ size children = c.len-count.ensures ∙ ap size c.remaining.ensures in
    let behind = look_behind old old c.args.number (c.args.number + 1) c.requires.number next (instructions_of c.args.program.now) c.requires.laid.0 c.requires.some c.requires.count c.requires.laid.1
    c.in-Some.ensures.0 children (after_tree (trees_of c.trees.result)) node_is c.left.result c.len-count.result c.left.ensures count in
    let upto = behind.0 in
    omega (arith, upto)

pub returns-in_err-push-2-clause-laid : goal.returns-in_err-push-2-clause-laid
returns-in_err-push-2-clause-laid c =
    let fault = err_from_is_err_and c.from_residual-in_err-push-2.result c.from_residual-in_err-push-2.ensures.1 in on_err _ c.from_residual-in_err-push-2.result fault.0 fault.1

pub returns-in_err-push-2-clause-now_count : goal.returns-in_err-push-2-clause-now_count
returns-in_err-push-2-clause-now_count c =
    let fault = err_from_is_err_and c.from_residual-in_err-push-2.result c.from_residual-in_err-push-2.ensures.1 in on_err _ c.from_residual-in_err-push-2.result fault.0 fault.1

pub returns-in_err-push-2-clause-pending : goal.returns-in_err-push-2-clause-pending
returns-in_err-push-2-clause-pending c =
    let fault = err_from_is_err_and c.from_residual-in_err-push-2.result c.from_residual-in_err-push-2.ensures.1 in on_err _ c.from_residual-in_err-push-2.result fault.0 fault.1

pub overflow_add-number : goal.overflow_add-number
overflow_add-number c = omega (arith, c.requires.number, c.args.self.now.all.ok.0)

pub add_level-requires : goal.add_level-requires
add_level-requires c =
    let old = c.args.self.now in
    let node_is = sym c.trees.ensures ∙ c.in-Some.ensures.1 in
    let next : c.args.number + 1 ≡ suc c.args.number = omega arith in
    let children = rest_of c.in-Some.children in
    let count : c.len-count.result ≡ size children = c.len-count.ensures ∙ ap size c.remaining.ensures in
    let behind = look_behind old old c.args.number (c.args.number + 1) c.requires.number next (instructions_of c.args.program.now) c.requires.laid.0 c.requires.some c.requires.count c.requires.laid.1
    c.in-Some.ensures.0 children (after_tree (trees_of c.trees.result)) node_is c.left.result c.len-count.result c.left.ensures count in
    let upto = behind.0 in
    omega (arith, upto, count, c.left.type_inv)

pub returns-clause-laid : goal.returns-clause-laid
returns-clause-laid c =
    let old = c.args.self.now in
    let node_is = sym c.trees.ensures ∙ c.in-Some.ensures.1 in
    let next : c.args.number + 1 ≡ suc c.args.number = omega arith in
    let children = rest_of c.in-Some.children in
    let count : c.len-count.result ≡ size children = c.len-count.ensures ∙ ap size c.remaining.ensures in
    let behind = look_behind old old c.args.number (c.args.number + 1) c.requires.number next (instructions_of c.args.program.now) c.requires.laid.0 c.requires.some c.requires.count c.requires.laid.1
    c.in-Some.ensures.0 children (after_tree (trees_of c.trees.result)) node_is c.left.result c.len-count.result c.left.ensures count in
    let new = c.add_level.new.self in
    let all : c.len.result ≡ length old.all.items = omega (arith, c.len.ensures, old.all.ok.0) in
    let same : new.insides ≡ c.push-2.new.self = c.add_level.ensures.insides in
    let pushed : new.insides.items ≡ old.insides.items ++ length old.all.items ∷ [] =
    ap (λ v. v.items) same ∙ c.in_ok-push-2.ensures.items ∙ ap (λ n. old.insides.items ++ n ∷ []) all in
    on_ok c.add_level.result
    (λ spots input laid.
    look_more old new c.args.number (c.args.number + 1) c.requires.number next (instructions_of c.args.program.now) input c.requires.some c.requires.count laid c.in-Some.ensures.0 children
    (after_tree (trees_of c.trees.result)) node_is (spots ∙ ap (λ n. spots_of old ++ level_spots (c.args.number + 1) n children) behind.1) pushed)
    c.add_level.ensures.spots

pub returns-clause-now_count : goal.returns-clause-now_count
returns-clause-now_count c =
    let old = c.args.self.now in
    let same : c.add_level.new.self.insides ≡ c.push-2.new.self = c.add_level.ensures.insides in
    let pushed = ap length (ap (λ v. v.items) same ∙ c.in_ok-push-2.ensures.items) in
    let count = length-append old.insides.items (c.len.result ∷ []) in
    on_ok c.add_level.result (λ spots. omega (arith, pushed, count, c.requires.count)) c.add_level.ensures.spots

pub returns-clause-pending : goal.returns-clause-pending
returns-clause-pending c =
    let old = c.args.self.now in
    let node_is = sym c.trees.ensures ∙ c.in-Some.ensures.1 in
    on_ok c.add_level.result
    (λ spots.
    count_more old c.add_level.new.self c.args.number (suc c.args.number) c.requires.number refl (c.args.number + 1) (c.left.result - c.len-count.result - 1) c.in-Some.ensures.0
    (rest_of c.in-Some.children) (after_tree (trees_of c.trees.result)) node_is spots)
    c.add_level.ensures.spots

pub returns-in_err-push-clause-grown : goal.returns-in_err-push-clause-grown
returns-in_err-push-clause-grown c = let fault = err_from_is_err_and c.from_residual.result c.from_residual.ensures.1 in on_err _ c.from_residual.result fault.0 fault.1

pub returns-in_default-clause-grown : goal.returns-in_default-clause-grown
returns-in_default-clause-grown c = omega arith

pub returns-in_err-push-2-clause-grown : goal.returns-in_err-push-2-clause-grown
returns-in_err-push-2-clause-grown c =
    let fault = err_from_is_err_and c.from_residual-in_err-push-2.result c.from_residual-in_err-push-2.ensures.1 in on_err _ c.from_residual-in_err-push-2.result fault.0 fault.1

pub returns-clause-grown : goal.returns-clause-grown
returns-clause-grown c =
    let level = level_spots (c.args.number + 1) (c.left.result - c.len-count.result - 1) (rest_of c.in-Some.children) in
    let both = length-append (spots_of c.args.self.now) level in
    on_ok c.add_level.result (λ spots. let count = ap length spots in omega (arith, both, count)) c.add_level.ensures.spots
