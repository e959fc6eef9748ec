use Rattle.std.proofs.Common.{rules, ◌≡◌, ◌≤◌, ◌+◌, ◌-◌, ◌++◌, ℕ, suc, false, List, [], ◌∷◌, length, reverse, refl, ap, ap₂, sym, subst, subst₂, ◌∙◌, arith}
use Rattle.std.proofs.lemmas.List.{reverse-append}
use Rattle.tt.specs.Building.{BuilderState, depth, closed, extended, opened, pushed}
use Rattle.tt.specs.Forest.{end, leaf, size}
use Rattle.tt_base.proofs.Joins.{size-join}
use Rattle.expand_items.proofs.Rebuilding.{depth_append, depth_close}
use Rattle.expand_text.specs.declared.expanding.Waiting.{Waiting}
use Rattle.expand_text.specs.declared.next.Event.TheVariants as event
use Rattle.expand_text.specs.Contexts.{Config, Context, config_of, outside_call, tokens_by}
use Rattle.expand_text.specs.Events.{GoesPast, IsExpandedAt, IsNext, IsWithin, Steps}
use Rattle.expand_text.specs.Expanding.{AreExpanded, brackets_in}
use Rattle.expand_text.specs.Invocations.{body_of, entered_by, site_of}
use Rattle.expand_text.specs.Meaning.{ExpandsTo}
use Rattle.expand_text.specs.Outcomes.{Outcome, nothing, trees_left}
use Rattle.expand_text.specs.Waiting.{CanGoOn, depth_behind}
use Rattle.expand_text.specs.Walks.{Ends, Level, begun, closes_of, first_level, front_in, levels_of, outer_of, past_in, work_in}
use Rattle.expand_text.proofs.Finishing.{IsGoing, begins, ends_so}
use Rattle.expand_text.proofs.Parted.{body_front}
use Rattle.expand_text.proofs.Placing.{can_end, ends_outside, tops_outside}
use Rattle.expand_text.proofs.Stacked.{AreDeep, AreUnder, AreWaiting, Base, HaveCallers, IsStacked, works, length_more, stack_leaf, stack_stay, stack_subtree, stack_close, stack_pop, stack_push}
use Rattle.expand_text.proofs.expanding.expand_tree.Goals as goal

pub trees-init : goal.trees-init
trees-init c =
    let config : Config = config_of c.args.config.now in
    let call = c.args.call.now in
    let trees = body_of call c.args.tree in
    let builder : BuilderState = c.args.builder.now in
    let none : c.new-waiting.result.items ≡ [] = c.new-waiting.ensures.items in
    let all : c.args.limit - 0 ≡ c.args.limit = omega arith in
    record {
      going = λ before is.
          let base : Base = record { position = call.position; trees = trees; begin = before; state = builder } in (
            before,
            is,
            subst (λ xs. IsStacked config (λ l base. (l ≡ c.args.limit) × (base ≡ record { position = c.args.call.now.position; trees = body_of c.args.call.now c.args.tree; begin = before; state = c.args.builder.now })) (c.args.limit - length xs) (reverse xs) (levels_of c.walk-walk.result) before builder) (sym none)
                (record {
                  base = base;
                  going = subst (λ ls. IsGoing config (c.args.limit - 0) call.position trees before builder.stack ls before builder.stack) (sym c.walk-walk.ensures)
                      (begins config (c.args.limit - 0) call.position trees before builder.stack call.delimiter.close);
                  top = refl;
                  waits = (all, refl);
                }),
          );
      deep = (depth builder.stack, omega (arith, ap (λ ls. length (closes_of ls)) c.walk-walk.ensures), subst (λ xs. AreDeep (depth builder.stack) (reverse xs) (depth builder.stack)) (sym none) refl);
      under = subst (λ xs. AreUnder builder.top (reverse xs) builder.top) (sym none) refl;
      most = omega (arith, ap length none);
      caller = c.requires;
      callers = subst (λ xs. HaveCallers (reverse xs)) (sym none) tt;
    }

pub trees-preserved-in-Continue-branch-4 : goal.trees-preserved-in-Continue-branch-4
trees-preserved-in-Continue-branch-4 c =
    let config : Config = config_of c.args.config.now in
    let limit : ℕ = c.args.limit - length c.trees.waiting.items in
    let waiting : List Waiting = reverse c.trees.waiting.items in
    let walk = c.trees.walk in
    let here = c.next.new.walk in
    let builder : BuilderState = c.trees.builder in
    let length_is : c.len.result ≡ length c.trees.waiting.items = search rules in
    let counted : c.args.limit - c.len.result ≡ limit = ap (λ n. c.args.limit - n) length_is in
    let steps : Steps (levels_of walk) (event.Leaf c.in-Leaf.leaf) (levels_of here) = subst (λ e. Steps (levels_of walk) e (levels_of here)) c.in-Leaf.is c.in_ok-next.ensures.steps in
    let (n, deep, are) = c.trees.invariant.deep in
    let grown : c.push.new.self ≡ pushed c.in-Leaf.leaf builder = c.in_ok-push-in-Leaf.ensures.ok in
    record {
      going = λ before is.
          let (now, context, stacked) = c.trees.invariant.going before is in
          let (others, then, next) = c.in_ok-next.ensures.next now context in
          let comes : IsNext config false limit (levels_of walk) now (event.Leaf c.in-Leaf.leaf) (levels_of here) others =
          subst (λ k. IsNext config false k (levels_of walk) now (event.Leaf c.in-Leaf.leaf) (levels_of here) others) counted (subst (λ e. IsNext config false (c.args.limit - c.len.result) (levels_of walk) now e (levels_of here) others) c.in-Leaf.is (next false)) in (
            others,
            then,
            stack_leaf config _ limit waiting (first_level walk) (outer_of walk) now others builder c.push.new.self (first_level here) (outer_of here) stacked c.in-Leaf.leaf comes steps.0 grown,
          );
      deep = (n, ap (λ b. suc (depth b.stack)) grown ∙ ap suc (depth_append (leaf c.in-Leaf.leaf end) builder.stack) ∙ deep ∙ ap (λ cs. length cs + n) (sym steps.0), are);
      under = subst (AreUnder c.args.builder.now.top waiting) (sym (ap (λ b. b.top) grown)) c.trees.invariant.under;
      most = c.trees.invariant.most;
      caller = (c.trees.invariant.caller.0, c.in_ok-next.ensures.kept.1 ∙ c.trees.invariant.caller.1);
      callers = c.trees.invariant.callers;
    }

pub trees-preserved-in-Continue-branch-5 : goal.trees-preserved-in-Continue-branch-5
trees-preserved-in-Continue-branch-5 c =
    let config : Config = config_of c.args.config.now in
    let limit : ℕ = c.args.limit - length c.trees.waiting.items in
    let waiting : List Waiting = reverse c.trees.waiting.items in
    let walk = c.trees.walk in
    let here = c.next.new.walk in
    let builder : BuilderState = c.trees.builder in
    let length_is : c.len.result ≡ length c.trees.waiting.items = search rules in
    let counted : c.args.limit - c.len.result ≡ limit = ap (λ n. c.args.limit - n) length_is in
    let steps : Steps (levels_of walk) (event.Opens c.in-Opens.header) (levels_of here) = subst (λ e. Steps (levels_of walk) e (levels_of here)) c.in-Opens.is c.in_ok-next.ensures.steps in
    let (n, deep, are) = c.trees.invariant.deep in
    let grown : c.open.new.self ≡ opened c.in-Opens.header.delimiter.kind c.in-Opens.header.delimiter.open_span builder = c.in_ok-open-in-Opens.ensures.ok in
    record {
      going = λ before is.
          let (now, context, stacked) = c.trees.invariant.going before is in
          let (others, then, next) = c.in_ok-next.ensures.next now context in
          let comes : IsNext config false limit (levels_of walk) now (event.Opens c.in-Opens.header) (levels_of here) others =
          subst (λ k. IsNext config false k (levels_of walk) now (event.Opens c.in-Opens.header) (levels_of here) others) counted (subst (λ e. IsNext config false (c.args.limit - c.len.result) (levels_of walk) now e (levels_of here) others) c.in-Opens.is (next false)) in (
            others,
            then,
            stack_subtree config _ limit waiting (first_level walk) (outer_of walk) now others builder c.open.new.self (first_level here) (outer_of here) stacked c.in-Opens.header.delimiter comes steps.0 grown,
          );
      deep = (n, omega (arith, ap (λ b. depth b.stack) grown, deep, ap length steps.0), are);
      under = subst (AreUnder c.args.builder.now.top waiting) (sym (ap (λ b. b.top) grown)) c.trees.invariant.under;
      most = c.trees.invariant.most;
      caller = (c.trees.invariant.caller.0, c.in_ok-next.ensures.kept.1 ∙ c.trees.invariant.caller.1);
      callers = c.trees.invariant.callers;
    }

pub trees-preserved-in-Continue-branch-6 : goal.trees-preserved-in-Continue-branch-6
trees-preserved-in-Continue-branch-6 c =
    let config : Config = config_of c.args.config.now in
    let limit : ℕ = c.args.limit - length c.trees.waiting.items in
    let waiting : List Waiting = reverse c.trees.waiting.items in
    let walk = c.trees.walk in
    let here = c.next.new.walk in
    let builder : BuilderState = c.trees.builder in
    let length_is : c.len.result ≡ length c.trees.waiting.items = search rules in
    let counted : c.args.limit - c.len.result ≡ limit = ap (λ n. c.args.limit - n) length_is in
    let steps : Steps (levels_of walk) (event.Closes c.in-Closes.close) (levels_of here) = subst (λ e. Steps (levels_of walk) e (levels_of here)) c.in-Closes.is c.in_ok-next.ensures.steps in
    let (n, deep, are) = c.trees.invariant.deep in
    let grown : c.close.new.self ≡ closed c.in-Closes.close builder = c.in_ok-close-in-Closes.ensures.ok in
    record {
      going = λ before is.
          let (now, context, stacked) = c.trees.invariant.going before is in
          let (others, then, next) = c.in_ok-next.ensures.next now context in
          let comes : IsNext config false limit (levels_of walk) now (event.Closes c.in-Closes.close) (levels_of here) others =
          subst (λ k. IsNext config false k (levels_of walk) now (event.Closes c.in-Closes.close) (levels_of here) others) counted (subst (λ e. IsNext config false (c.args.limit - c.len.result) (levels_of walk) now e (levels_of here) others) c.in-Closes.is (next false)) in (
            others,
            then,
            stack_close config _ limit waiting (first_level walk) (outer_of walk) now others builder c.close.new.self (first_level here) (outer_of here) stacked c.in-Closes.close comes steps.0 grown,
          );
      deep = (n, (let one : depth builder.stack ≡ suc (depth builder.stack - 1) = omega (arith, deep, ap length steps.0) in omega (arith, ap (λ b. depth b.stack) grown, depth_close c.in-Closes.close builder.stack (depth builder.stack - 1) one, deep, ap length steps.0)), are);
      under = subst (AreUnder c.args.builder.now.top waiting) (sym (ap (λ b. b.top) grown)) c.trees.invariant.under;
      most = c.trees.invariant.most;
      caller = (c.trees.invariant.caller.0, c.in_ok-next.ensures.kept.1 ∙ c.trees.invariant.caller.1);
      callers = c.trees.invariant.callers;
    }

pub trees-preserved-in-Stays : goal.trees-preserved-in-Stays
trees-preserved-in-Stays c =
    let config : Config = config_of c.args.config.now in
    let limit : ℕ = c.args.limit - length c.trees.waiting.items in
    let waiting : List Waiting = reverse c.trees.waiting.items in
    let walk = c.trees.walk in
    let here = c.next.new.walk in
    let builder : BuilderState = c.trees.builder in
    let length_is : c.len.result ≡ length c.trees.waiting.items = search rules in
    let counted : c.args.limit - c.len.result ≡ limit = ap (λ n. c.args.limit - n) length_is in
    let part = c.in-Stays.part in
    let nexts : List Level = past_in part (levels_of here) in
    let steps : Steps (levels_of walk) (event.Stays c.in-Stays.part) (levels_of here) = subst (λ e. Steps (levels_of walk) e (levels_of here)) c.in-Stays.is c.in_ok-next.ensures.steps in
    let (n, deep, are) = c.trees.invariant.deep in
    let grown : c.extend_with_tt.new.self ≡ extended (front_in part (levels_of here)) builder =
    c.in_ok-extend_with_tt-in-Stays.ensures.ok ∙ ap (λ f. extended f builder) c.front.ensures in
    record {
      going = λ before is.
          let (now, context, stacked) = c.trees.invariant.going before is in
          let (others, then, next) = c.in_ok-next.ensures.next now context in
          let comes : IsNext config false limit (levels_of walk) now (event.Stays c.in-Stays.part) (levels_of here) others =
          subst (λ k. IsNext config false k (levels_of walk) now (event.Stays c.in-Stays.part) (levels_of here) others) counted (subst (λ e. IsNext config false (c.args.limit - c.len.result) (levels_of walk) now e (levels_of here) others) c.in-Stays.is (next false)) in (
            others,
            then,
            subst (λ ls. IsStacked config (λ l base. (l ≡ c.args.limit) × (base ≡ record { position = c.args.call.now.position; trees = body_of c.args.call.now c.args.tree; begin = before; state = c.args.builder.now })) limit waiting ls others c.extend_with_tt.new.self) (sym c.pass.ensures)
                (stack_stay config _ limit waiting (first_level walk) (outer_of walk) now others builder c.extend_with_tt.new.self _ (outer_of here) stacked (front_in part (levels_of here)) comes steps.0 grown),
          );
      deep = (
        n,
        ap (λ b. suc (depth b.stack)) grown ∙ ap suc (depth_append (front_in part (levels_of here)) builder.stack) ∙ deep ∙ ap (λ cs. length cs + n) (sym steps.0)
            ∙ ap (λ ls. length (closes_of ls) + n) (sym c.pass.ensures),
        are,
      );
      under = subst (AreUnder c.args.builder.now.top waiting) (sym (ap (λ b. b.top) grown)) c.trees.invariant.under;
      most = c.trees.invariant.most;
      caller = (c.trees.invariant.caller.0, c.in_ok-next.ensures.kept.1 ∙ c.trees.invariant.caller.1);
      callers = c.trees.invariant.callers;
    }

pub trees-preserved-in-End : goal.trees-preserved-in-End
trees-preserved-in-End c =
    let config : Config = config_of c.args.config.now in
    let limit : ℕ = c.args.limit - length c.trees.waiting.items in
    let waiting : List Waiting = reverse c.trees.waiting.items in
    let walk = c.trees.walk in
    let here = c.next.new.walk in
    let builder : BuilderState = c.trees.builder in
    let length_is : c.len.result ≡ length c.trees.waiting.items = search rules in
    let counted : c.args.limit - c.len.result ≡ limit = ap (λ n. c.args.limit - n) length_is in
    let it : Waiting = c.in-Some.outer in
    let others_items = c.pop.new.self.items in
    let more : List Waiting = reverse others_items in
    let popped : c.trees.waiting.items ≡ others_items ++ it ∷ [] = c.in-Some.ensures.items in
    let turned : waiting ≡ it ∷ more = ap reverse popped ∙ reverse-append others_items (it ∷ []) in
    let long : length c.trees.waiting.items ≡ suc (length others_items) = ap length popped ∙ length_more others_items it in
    let next_limit : suc limit ≡ c.args.limit - length others_items = omega (arith, long, c.trees.invariant.most) in
    let new : BuilderState = c.leave.new.builder in
    let walk_is : levels_of c.in_ok-walk-in-End.walk ≡ past_in it.call.part (levels_of it.walk) = c.in_ok-walk-in-End.ensures.walk in
    let steps : Steps (levels_of walk) (event.End) (levels_of here) = subst (λ e. Steps (levels_of walk) e (levels_of here)) c.in-End.is c.in_ok-next.ensures.steps in
    let (n, deep, are) = c.trees.invariant.deep in
    let (can, m, outside, others_deep) = subst (λ ws. AreDeep (depth c.args.builder.now.stack) ws n) turned are in
    let callers = subst HaveCallers turned c.trees.invariant.callers in
    let same_depth : depth builder.stack ≡ n = omega (arith, deep, steps) in
    record {
      going = λ before is.
          let (now, context, stacked) = c.trees.invariant.going before is in
          let (others, then, next) = c.in_ok-next.ensures.next now context in
          let ended : Ends config false limit (levels_of walk) now others (nothing ∷ []) =
          subst (λ k. Ends config false k (levels_of walk) now others (nothing ∷ [])) counted
          (subst (λ e. IsNext config false (c.args.limit - c.len.result) (levels_of walk) now e (levels_of here) others) c.in-End.is (next false)) in
          let stacked_so = subst (λ ws. IsStacked config (λ l base. (l ≡ c.args.limit) × (base ≡ record { position = c.args.call.now.position; trees = body_of c.args.call.now c.args.tree; begin = before; state = c.args.builder.now })) limit ws (levels_of walk) now builder) turned stacked in
          let (after, ready, goes) = stack_pop config _ limit it more (first_level walk) (outer_of walk) now others builder new stacked_so ended c.next.new.context c.leave.new.context then
          c.in_ok-walk-in-End.ensures.ended c.in_ok-walk-in-End.ensures.top in (
            after,
            ready,
            subst₂ (λ l ls. IsStacked config (λ l base. (l ≡ c.args.limit) × (base ≡ record { position = c.args.call.now.position; trees = body_of c.args.call.now c.args.tree; begin = before; state = c.args.builder.now })) l more ls after new) next_limit (sym walk_is) goes,
          );
      deep = (
        m,
        ap suc (c.in_ok-walk-in-End.ensures.depth ∙ ap (depth_behind it) same_depth) ∙ outside ∙ ap (λ ls. length (closes_of ls) + m) (sym walk_is),
        others_deep,
      );
      under = subst (AreUnder c.args.builder.now.top more) (sym c.in_ok-walk-in-End.ensures.top) (subst (λ ws. AreUnder c.args.builder.now.top ws builder.top) turned c.trees.invariant.under);
      most = omega (arith, long, c.trees.invariant.most);
      caller = (callers.0.0, c.in_ok-walk-in-End.ensures.caller ∙ callers.0.1);
      callers = callers.1;
    }

pub returns-in_default-clause-expanded : goal.returns-in_default-clause-expanded
returns-in_default-clause-expanded c before is =
    let config : Config = config_of c.args.config.now in
    let limit : ℕ = c.args.limit - length c.trees.waiting.items in
    let waiting : List Waiting = reverse c.trees.waiting.items in
    let walk = c.trees.walk in
    let here = c.next.new.walk in
    let builder : BuilderState = c.trees.builder in
    let length_is : c.len.result ≡ length c.trees.waiting.items = search rules in
    let counted : c.args.limit - c.len.result ≡ limit = ap (λ n. c.args.limit - n) length_is in
    let none : c.trees.waiting.items ≡ [] = search rules in
    let (now, context, stacked) = c.trees.invariant.going before is in
    let (others, then, next) = c.in_ok-next.ensures.next now context in
    let ended : Ends config false limit (levels_of walk) now others (nothing ∷ []) =
    subst (λ k. Ends config false k (levels_of walk) now others (nothing ∷ [])) counted
    (subst (λ e. IsNext config false (c.args.limit - c.len.result) (levels_of walk) now e (levels_of here) others) c.in-End.is (next false)) in
    let (limit_is, base_is) = subst (λ xs. AreWaiting config (λ l base. (l ≡ c.args.limit) × (base ≡ record { position = c.args.call.now.position; trees = body_of c.args.call.now c.args.tree; begin = before; state = c.args.builder.now })) limit (reverse xs) stacked.base) none stacked.waits in
    let base = stacked.base in
    let (outcome, came, built) = ends_so config limit base.position base.trees base.begin now others base.state.stack builder.stack (first_level walk) (outer_of walk) stacked.going ended in
    let expanded : AreExpanded config limit base.position base.trees base.state.stack builder.stack base.begin others = record { outcome = outcome; expands_to = came; added = built } in (
      others,
      then,
      subst₂ (λ l b. AreExpanded config l b.position b.trees b.state.stack builder.stack b.begin others) limit_is base_is expanded,
    )

pub trees-preserved : goal.trees-preserved
trees-preserved c =
    let config : Config = config_of c.args.config.now in
    let limit : ℕ = c.args.limit - length c.trees.waiting.items in
    let waiting : List Waiting = reverse c.trees.waiting.items in
    let walk = c.trees.walk in
    let here = c.next.new.walk in
    let builder : BuilderState = c.trees.builder in
    let length_is : c.len.result ≡ length c.trees.waiting.items = search rules in
    let counted : c.args.limit - c.len.result ≡ limit = ap (λ n. c.args.limit - n) length_is in
    let call = c.in-Invocation.inner in
    let tree = c.in-Invocation.made in
    let it : Waiting = c.in_ok-outer-in-Invocation.outer in
    let inside = c.in_ok-outer-in-Invocation.inside in
    let entered = c.in_ok-outer-in-Invocation.ensures in
    let new : BuilderState = c.enter.new.builder in
    let items = c.push-in-Invocation.new.self.items in
    let pushed_on : items ≡ c.trees.waiting.items ++ it ∷ [] = c.in_ok-push-in-Invocation.ensures.items in
    let turned : reverse items ≡ it ∷ waiting = ap reverse pushed_on ∙ reverse-append c.trees.waiting.items (it ∷ []) in
    let long : length items ≡ suc (length c.trees.waiting.items) = ap length pushed_on ∙ length_more c.trees.waiting.items it in
    let (some, fits) = subst (IsWithin (c.args.limit - c.len.result) (tokens_by c.trees.context.caller c.args.config.now.max_tokens c.trees.context.left)) c.in-Invocation.is c.in_ok-next.ensures.within in
    let steps : Steps (levels_of walk) (event.Invocation c.in-Invocation.inner c.in-Invocation.made) (levels_of here) = subst (λ e. Steps (levels_of walk) e (levels_of here)) c.in-Invocation.is c.in_ok-next.ensures.steps in
    let (n, deep, are) = c.trees.invariant.deep in
    let left : limit ≡ suc (c.args.limit - length items) = omega (arith, long, some, counted) in
    let attributes = (site_of (front_in call.part (levels_of here)) call).attributes in
    let n_new : ℕ = depth new.stack in
    let outer_depth : depth_behind it n_new ≡ depth builder.stack =
    ap (λ k. depth_behind (record it { call = k }) n_new) entered.call_is ∙ ends_outside call.delimiter (extended attributes builder) new (brackets_in call) it.outer entered.begun_with
    ∙ depth_append attributes builder.stack in
    let can : CanGoOn it n_new = subst (λ k. CanGoOn (record it { call = k }) n_new) (sym entered.call_is) (can_end call.delimiter (extended attributes builder) new (brackets_in call) it.outer entered.begun_with) in
    record {
      going = λ before is.
          let (now, context, stacked) = c.trees.invariant.going before is in
          let (others, then, next) = c.in_ok-next.ensures.next now context in
          let comes : IsExpandedAt config false limit (levels_of walk) now call tree (levels_of here) others =
          subst (λ k. IsExpandedAt config false k (levels_of walk) now call tree (levels_of here) others) counted
          (subst (λ e. IsNext config false (c.args.limit - c.len.result) (levels_of walk) now e (levels_of here) others) c.in-Invocation.is (next false)) in
          let same_left : comes.left ≡ c.args.limit - length items = omega (arith, comes.fits, left) in
          let goes_so = subst (λ k. (within : Context) (held : Outcome) → ExpandsTo config false k call.position 0 (entered_by config call tree others) (body_of call tree) within held
          → GoesPast config false (suc k) (levels_of walk) now call (front_in call.part (levels_of here)) (trees_left held) (past_in call.part (levels_of here)) (outside_call others within)) same_left (subst (λ k. (within : Context) (held : Outcome) → ExpandsTo config false comes.left call.position 0 (entered_by config call tree others) (body_of call tree) within held
          → GoesPast config false k (levels_of walk) now call (front_in call.part (levels_of here)) (trees_left held) (past_in call.part (levels_of here)) (outside_call others within)) comes.fits comes.goes) in
          let (ready, goes) = stack_push config _ (c.args.limit - length items) waiting here (first_level walk) (outer_of walk) now others builder new
          (subst (λ l. IsStacked config (λ l base. (l ≡ c.args.limit) × (base ≡ record { position = c.args.call.now.position; trees = body_of c.args.call.now c.args.tree; begin = before; state = c.args.builder.now })) l waiting (levels_of walk) now builder) left stacked) call tree it inside c.next.new.context c.enter.new.context then entered steps.0 goes_so in
          (entered_by config call tree others, ready, subst (λ ws. IsStacked config (λ l base. (l ≡ c.args.limit) × (base ≡ record { position = c.args.call.now.position; trees = body_of c.args.call.now c.args.tree; begin = before; state = c.args.builder.now })) (c.args.limit - length items) ws (levels_of inside) (entered_by config call tree others) new) (sym turned) goes);
      deep = (
        n_new,
        omega (arith, ap (λ ls. length (closes_of ls)) entered.levels),
        subst (λ ws. AreDeep (depth c.args.builder.now.stack) ws n_new) (sym turned) (
          can,
          n,
          ap suc outer_depth ∙ deep ∙ ap (λ cs. length cs + n) (sym steps.0) ∙ ap (λ w. length (closes_of (levels_of w)) + n) (sym entered.walk_is),
          are,
        ),
      );
      under = subst (λ ws. AreUnder c.args.builder.now.top ws new.top) (sym turned)
          (subst (AreUnder c.args.builder.now.top waiting) (sym (tops_outside call.delimiter (extended attributes builder) new (brackets_in call) it.outer entered.begun_with)) c.trees.invariant.under);
      most = omega (arith, long, some, counted);
      caller = entered.caller;
      callers = subst HaveCallers (sym turned) ((c.trees.invariant.caller.0, entered.before_is ∙ c.in_ok-next.ensures.kept.1 ∙ c.trees.invariant.caller.1), c.trees.invariant.callers);
    }

pub trees-smaller : goal.trees-smaller
trees-smaller c =
    let config : Config = config_of c.args.config.now in
    let limit : ℕ = c.args.limit - length c.trees.waiting.items in
    let waiting : List Waiting = reverse c.trees.waiting.items in
    let walk = c.trees.walk in
    let here = c.next.new.walk in
    let builder : BuilderState = c.trees.builder in
    let length_is : c.len.result ≡ length c.trees.waiting.items = search rules in
    let counted : c.args.limit - c.len.result ≡ limit = ap (λ n. c.args.limit - n) length_is in
    let call = c.in-Invocation.inner in
    let tree = c.in-Invocation.made in
    let it : Waiting = c.in_ok-outer-in-Invocation.outer in
    let inside = c.in_ok-outer-in-Invocation.inside in
    let entered = c.in_ok-outer-in-Invocation.ensures in
    let new : BuilderState = c.enter.new.builder in
    let items = c.push-in-Invocation.new.self.items in
    let pushed_on : items ≡ c.trees.waiting.items ++ it ∷ [] = c.in_ok-push-in-Invocation.ensures.items in
    let turned : reverse items ≡ it ∷ waiting = ap reverse pushed_on ∙ reverse-append c.trees.waiting.items (it ∷ []) in
    let long : length items ≡ suc (length c.trees.waiting.items) = ap length pushed_on ∙ length_more c.trees.waiting.items it in
    let (some, fits) = subst (IsWithin (c.args.limit - c.len.result) (tokens_by c.trees.context.caller c.args.config.now.max_tokens c.trees.context.left)) c.in-Invocation.is c.in_ok-next.ensures.within in
    let steps : Steps (levels_of walk) (event.Invocation c.in-Invocation.inner c.in-Invocation.made) (levels_of here) = subst (λ e. Steps (levels_of walk) e (levels_of here)) c.in-Invocation.is c.in_ok-next.ensures.steps in
    let front = body_front call.is_statement tree in
    let few : size (body_of call tree) ≤ size tree.children = omega (arith, ap size front.1, size-join (body_of call tree) front.0) in
    let allowed : tokens_by c.trees.context.caller c.args.config.now.max_tokens c.trees.context.left ≡ c.trees.context.left =
    ap (λ k. tokens_by k c.args.config.now.max_tokens c.trees.context.left) c.trees.invariant.caller.1 in
    let left : c.enter.new.context.left ≡ c.trees.context.left - size tree.children =
    entered.left ∙ ap₂ (λ k l. tokens_by k c.args.config.now.max_tokens l - size tree.children) c.in_ok-next.ensures.kept.1 c.in_ok-next.ensures.kept.0 ∙ ap (λ a. a - size tree.children) allowed in
    let inner : work_in (levels_of inside) ≡ work_in (begun call.position (body_of call tree) call.delimiter.close ∷ []) = ap work_in entered.levels in
    let all : works (reverse items) ≡ work_in (past_in call.part (levels_of here)) + works waiting =
    ap works turned ∙ ap₂ (λ k w. work_in (past_in k.part (levels_of w)) + works waiting) entered.call_is entered.walk_is in
    omega (arith, few, fits, allowed, left, inner, all, steps.1, steps.2)
