use Rattle.std.proofs.Common.{rules, ◌≡◌, inl, inr, refl, ap, reverse, subst, sym, ◌∙◌}
use Rattle.std.proofs.lemmas.List.{reverse-reverse}
use Rattle.std.specs.Prelude.{slice_get}
use Rattle.tt.specs.Views.{trees_of}
use Rattle.mbe_rules.specs.Enclosing.{as_piece}
use Rattle.mbe_rules.specs.Filling.{IsUsed, IsUseError, bound_here}
use Rattle.mbe_rules.specs.Rounds.{trees, rounds, seen_as, seen_at, fragment_of, binding_in, dones}
use Rattle.mbe_rules.specs.Transcribing.{all_transcribed, still_repeats}
use Rattle.mbe_rules.proofs.Growing.{on_ok, err_so}
use Rattle.mbe_rules.proofs.Scans.{used_trees, used_rounds}
use Rattle.mbe_rules.proofs.Seeing.{fragment_here}
use Rattle.mbe_rules.proofs.transcribe.Transcriber.transcribe_variable.Goals as goal

pub returns-in-Trees-clause-ok : goal.returns-in-Trees-clause-ok
returns-in-Trees-clause-ok c =
    let old = c.args.self.now in
    let number = c.args.number in
    let its = trees_of c.in-Trees.trees in
    let seen : seen_as c.seen_in.result ≡ trees its = search rules in
    on_ok c.write.result
    (λ grown binding are.
    let here = slice_get (bound_here binding (reverse old.rounds.items)) number in
    let is : seen_at here ≡ trees its =
    ap (λ l. seen_at (slice_get (binding_in (dones l) binding) number)) (reverse-reverse old.rounds.items ∙ sym c.deref.ensures.value) ∙ sym (c.seen_in.ensures binding are) ∙ seen in
    let which : c.fragment_of.result ≡ fragment_of here = c.fragment_of.ensures binding are ∙ sym (fragment_here (dones (reverse (reverse old.rounds.items))) binding number) in
    subst (λ u. IsUsed u old c.write.new.self) (sym (used_trees c.args.at c.args.less_follows here its is ∙ ap (λ w. all_transcribed (as_piece w c.args.less_follows its)) (sym which))) (refl, grown))
    c.write.ensures.ok

pub returns-in-Trees-clause-err : goal.returns-in-Trees-clause-err
returns-in-Trees-clause-err c =
    let old = c.args.self.now in
    let number = c.args.number in
    let its = trees_of c.in-Trees.trees in
    let seen : seen_as c.seen_in.result ≡ trees its = search rules in
    err_so c.write.result
    (λ why want binding are.
    let here = slice_get (bound_here binding (reverse old.rounds.items)) number in
    let is : seen_at here ≡ trees its =
    ap (λ l. seen_at (slice_get (binding_in (dones l) binding) number)) (reverse-reverse old.rounds.items ∙ sym c.deref.ensures.value) ∙ sym (c.seen_in.ensures binding are) ∙ seen in
    let which : c.fragment_of.result ≡ fragment_of here = c.fragment_of.ensures binding are ∙ sym (fragment_here (dones (reverse (reverse old.rounds.items))) binding number) in
    subst (λ u. IsUseError u old why) (sym (used_trees c.args.at c.args.less_follows here its is ∙ ap (λ w. all_transcribed (as_piece w c.args.less_follows its)) (sym which))) (inr (refl, want)))
    c.write.ensures.err

pub returns-in-Rounds-clause-err : goal.returns-in-Rounds-clause-err
returns-in-Rounds-clause-err c binding are =
    let old = c.args.self.now in
    let number = c.args.number in
    let here = slice_get (bound_here binding (reverse old.rounds.items)) number in
    let seen : seen_as c.seen_in.result ≡ rounds c.in-Rounds.field-0 = search rules in
    let is : seen_at here ≡ rounds c.in-Rounds.field-0 =
    ap (λ l. seen_at (slice_get (binding_in (dones l) binding) number)) (reverse-reverse old.rounds.items ∙ sym c.deref.ensures.value) ∙ sym (c.seen_in.ensures binding are) ∙ seen in
    inl (still_repeats c.args.at, used_rounds c.args.at c.args.less_follows here c.in-Rounds.field-0 is, refl)
