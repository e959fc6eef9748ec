use Rattle.std.proofs.Common.{◌≡◌, ◌++◌, ◌∷◌, ◌∙◌, ◌+◌, ◌-◌, [], suc, length, map, Some, ap, sym, arith, append_assoc, append-nil}
use Rattle.std.proofs.lemmas.List.{map-append}
use Rattle.std.specs.Prelude.{option_copied}
use Rattle.app_cli.proofs.Trails.{trail_ended, trail_more}
use Rattle.app_cli.proofs.trail.trail_of.Goals as goal
use Rattle.app_cli.specs.Notes.{caller_at, trail_from}

pub loop-init : goal.loop-init
loop-init c =
    let callers = c.args.callers.now in
    let all : length callers - 0 ≡ length callers = omega arith in
    ap (λ its. map (λ it. it.now) its ++ trail_from callers (length callers - 0) c.args.number) c.new-its.ensures.items
    ∙ ap (λ n. trail_from callers n c.args.number) all

pub returns-in_default : goal.returns-in_default
returns-in_default c =
    let callers = c.args.callers.now in
    let its = map (λ it. it.now) c.loop.its.items in
    let none : trail_from callers (length callers - c.loop.counter) c.loop.next ≡ [] =
    trail_ended callers (length callers - c.loop.counter) c.loop.next (sym c.caller_at.ensures ∙ ap option_copied c.in_default.is) in
    sym (append-nil its) ∙ ap (λ more. its ++ more) (sym none) ∙ c.loop.invariant

pub loop-preserved : goal.loop-preserved
loop-preserved c =
    let callers = c.args.callers.now in
    let it = c.in-Some.it in
    let its = map (λ it. it.now) c.loop.its.items in
    let left = length callers - (c.loop.counter + 1) in
    let one : suc left ≡ length callers - c.loop.counter = omega (arith, c.loop-test.true) in
    let there : caller_at callers c.loop.next ≡ Some it.now = sym c.caller_at.ensures ∙ ap option_copied c.in-Some.is in
    let more : trail_from callers (length callers - c.loop.counter) c.loop.next ≡ it.now ∷ trail_from callers left it.now.caller =
    ap (λ n. trail_from callers n c.loop.next) (sym one) ∙ trail_more callers left c.loop.next it.now there in
    ap (λ all. map (λ it. it.now) all ++ trail_from callers left it.now.caller) c.in_ok-push.ensures.items
    ∙ ap (λ all. all ++ trail_from callers left it.now.caller) (map-append (λ it. it.now) c.loop.its.items (it ∷ []))
    ∙ append_assoc its (it.now ∷ []) (trail_from callers left it.now.caller) ∙ ap (λ rest. its ++ rest) (sym more) ∙ c.loop.invariant

pub returns : goal.returns
returns c =
    let callers = c.args.callers.now in
    let its = map (λ it. it.now) c.loop.its.items in
    let none : length callers - c.loop.counter ≡ 0 = omega (arith, c.loop-test.false) in
    sym (append-nil its) ∙ ap (λ n. its ++ trail_from callers n c.loop.next) (sym none) ∙ c.loop.invariant
