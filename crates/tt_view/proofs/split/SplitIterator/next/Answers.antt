use Rattle.std.proofs.Common.{rules, ◌≡◌, Some, inl, inr, [], ◌∷◌, ◌++◌, map, refl, ap, sym, ◌∙◌, of_calls, append-nil}
use Rattle.tt_base.specs.Forest.{end, join}
use Rattle.tt_base.specs.Moves.{after_tree}
use Rattle.tt_base.specs.Siblings.{list_of}
use Rattle.tt_view.specs.Views.{trees_of}
use Rattle.tt_view.specs.Iters.{rest_of, tree_of, IsFirstElement}
use Rattle.std.proofs.lemmas.Fn.{FoldsTo-push}
use Rattle.tt_base.proofs.Joins.{join-cancel, list_of-join}
use Rattle.tt_view.proofs.Asked.{one_more, is_counted, counted_more, fewer, shorter}
use Rattle.tt_view.proofs.split.SplitIterator.next.Goals as goal

pub loop-element-init : goal.loop-element-init
loop-element-init g c = (c.requires, c.if-self.false, c.savepoint-start.ensures, c.remaining-before.ensures, ([], end, c.savepoint-start.ensures, refl, tt, refl))

pub loop-element-preserved : goal.loop-element-preserved
loop-element-preserved g c =
    let (calls, open_, start, before, so_far) = c.loop-element.invariant in
    let (asked, given, whole, are, counted, told) = so_far in
    let first : list_of (rest_of c.loop-element.self.rest) ≡ tree_of c.in-Some.element ∷ list_of (rest_of c.next.new.self) = search rules in
    let rest : rest_of c.next.new.self ≡ after_tree (rest_of c.loop-element.self.rest) = search rules in
    let element : IsFirstElement (rest_of c.loop-element.self.rest) (Some c.in-Some.element) = search rules in
    let more = one_more _ given _ _ asked c.in-Some.element whole are first rest in
    (search of_calls, open_, start, c.remaining-before-in-Some.ensures, (asked ++ (c.in-Some.element ∷ []), more.given, more.is, more.asked_are, counted_more asked _ counted (is_counted _ _ element), FoldsTo-push _ _ asked _ _ _ told c.if-is_separator.ensures))

pub returns-then-is_separator-clause-steps : goal.returns-then-is_separator-clause-steps
returns-then-is_separator-clause-steps g c =
    let (calls, open_, start, before, so_far) = c.loop-element.invariant in
    let (asked, given, whole, are, counted, told) = so_far in
    let first : list_of (rest_of c.loop-element.self.rest) ≡ tree_of c.in-Some.element ∷ list_of (rest_of c.next.new.self) = search rules in
    let element : IsFirstElement (rest_of c.loop-element.self.rest) (Some c.in-Some.element) = search rules in
    let ends : join (trees_of c.from_savepoint.result) (rest_of c.loop-element.self.rest) ≡ join given (rest_of c.loop-element.self.rest) =
    ap (join (trees_of c.from_savepoint.result)) (sym before ∙ sym c.iter.ensures) ∙ c.from_savepoint.ensures ∙ whole in
    let same : trees_of c.from_savepoint.result ≡ given = join-cancel _ _ _ ends in (
      c.if-self.false,
      (
        asked,
        are ∙ ap list_of (sym same),
        counted,
        inr (record {
          separator = c.in-Some.element;
          counted = is_counted _ _ element;
          last = c.loop-element.self.is_separator;
          no = told;
          yes = c.if-is_separator.ensures;
          all = ap list_of (sym start ∙ whole) ∙ list_of-join given (rest_of c.loop-element.self.rest) ∙ (λ i. sym are i ++ first i);
          more = open_;
        }),
      ),
    )

pub returns-then-is_separator-clause-goes : goal.returns-then-is_separator-clause-goes
returns-then-is_separator-clause-goes g c =
    let (calls, open_, start, before, so_far) = c.loop-element.invariant in
    let (asked, given, whole, are, counted, told) = so_far in
    let first : list_of (rest_of c.loop-element.self.rest) ≡ tree_of c.in-Some.element ∷ list_of (rest_of c.next.new.self) = search rules in
    let all : list_of (rest_of c.args.self.now.rest) ≡ map tree_of asked ++ (tree_of c.in-Some.element ∷ list_of (rest_of c.next.new.self)) =
    ap list_of (sym start ∙ whole) ∙ list_of-join given (rest_of c.loop-element.self.rest) ∙ (λ i. sym are i ++ first i) in
    record {
      on = λ _. (search of_calls, tt, fewer _ _ _ _ c.if-self.false open_ (shorter _ _ _ _ all));
      keeps = search of_calls;
      rests = λ _. tt;
    }

pub returns-clause-steps : goal.returns-clause-steps
returns-clause-steps g c =
    let (calls, open_, start, before, so_far) = c.loop-element.invariant in
    let (asked, given, whole, are, counted, told) = so_far in
    let none : rest_of c.loop-element.self.rest ≡ end = search rules in
    let gone : rest_of c.next.new.self ≡ end = search rules in
    let ends : join (trees_of c.from_savepoint-2.result) end ≡ join given end =
    ap (join (trees_of c.from_savepoint-2.result)) (sym gone) ∙ c.from_savepoint-2.ensures ∙ whole ∙ ap (join given) none in
    let same : trees_of c.from_savepoint-2.result ≡ given = join-cancel _ _ _ ends in (
      c.if-self.false,
      (
        asked,
        are ∙ ap list_of (sym same),
        counted,
        inl (record {
          all = are ∙ sym (append-nil (list_of given)) ∙ sym (list_of-join given end) ∙ ap list_of (ap (join given) (sym none) ∙ sym whole ∙ start);
          no = told;
          done = refl;
        }),
      ),
    )
