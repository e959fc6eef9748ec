use Rattle.std.proofs.Common.{rules, ◌≡◌, ◌+◌, ◌<◌, ◌≤◌, ◌∷◌, [], Err, length, get_or, drop, map, reverse, refl, ap, sym, subst, ◌∙◌, arith}
use Rattle.std.proofs.Math.ListN.{drop_of_length-le}
use Rattle.std.proofs.lemmas.List.{drop_more}
use Rattle.tt.specs.Building.{empty_builder}
use Rattle.tt.specs.Forest.{size}
use Rattle.tt.specs.TreeFault.{IsTreeFault, under}
use Rattle.mbe_matcher.specs.Grouping.{binding_by}
use Rattle.mbe_matcher.specs.Marks.{note_of}
use Rattle.mbe_matcher.specs.Binders.{where_of}
use Rattle.mbe_rules.specs.declared.transcribe_error.TranscribeError.TheVariants.{Tree}
use Rattle.mbe_rules.specs.Limits.{IsWithin}
use Rattle.mbe_rules.specs.Transcribing.{transcribed}
use Rattle.mbe_rules.specs.Parts.{bit_of}
use Rattle.mbe_rules.specs.Rounds.{AreTaken}
use Rattle.mbe_rules.specs.Filling.{most_of, IsAt, Goes, IsStop, bits_from, AreLevels}
use Rattle.mbe_rules.specs.Wholes.{whole_of}
use Rattle.mbe_rules.specs.Writing.{written_by}
use Rattle.mbe_rules.proofs.Finishing.{written_of, first_level, starts, starts_whole, starts_within, ends, ends_whole, ends_within, not_open, built_is, limit_of_all, stop_is_error}
use Rattle.mbe_rules.proofs.Measuring.{work_is}
use Rattle.mbe_rules.proofs.transcribe.transcribed.Goals as goal

pub loop-part-init : goal.loop-part-init
loop-part-init c =
    let binding = binding_by (map where_of c.args.binders.now) (map note_of c.args.binding.marks.items) in
    let builder : c.in_ok-new.field-0 ≡ empty_builder c.args.delimiter = search rules in
    record {
      levels = first_level c.args.parts.now binding ∷ [];
      is_at = starts c.args.parts.now binding (record { builder = c.in_ok-new.field-0; rounds = c.new-2.result; closes = c.new-3.result; left = c.args.limit }) c.args.delimiter c.requires builder c.new-2.ensures.items c.new-3.ensures.items;
      whole = starts_whole c.args.parts.now binding (record { builder = c.in_ok-new.field-0; rounds = c.new-2.result; closes = c.new-3.result; left = c.args.limit }) c.args.delimiter builder;
      top = ap (λ b. b.top) builder;
      most = starts_within c.args.limit (record { builder = c.in_ok-new.field-0; rounds = c.new-2.result; closes = c.new-3.result; left = c.args.limit }) c.args.delimiter builder refl;
    }

pub returns-in_err-next-clause-err : goal.returns-in_err-next-clause-err
returns-in_err-next-clause-err c =
    let parts = c.args.parts.now in
    let bits = map bit_of parts in
    let binding = binding_by (map where_of c.args.binders.now) (map note_of c.args.binding.marks.items) in
    let at = c.loop-part.next in
    let part = c.in-Some.part.now in
    let inv = c.loop-part.invariant in
    let lt : at < length parts = search rules in
    let there : part ≡ get_or parts at part = search rules in
    let here : drop at parts ≡ part ∷ drop (at + 1) parts = drop_more parts at part lt ∙ ap (λ p. p ∷ drop (at + 1) parts) (sym there) in
    let are : AreTaken binding c.in_ok-taken.taken.items = search rules in
    let taken : c.deref.result.now ≡ c.in_ok-taken.taken.items = search rules in
    let is_at : IsAt bits binding inv.levels c.loop-part.transcriber (bit_of part ∷ bits_from parts (at + 1)) = subst (λ l. IsAt bits binding inv.levels c.loop-part.transcriber (map bit_of l)) here inv.is_at in
    let failed : c.from_residual-in_err-next.result ≡ Err c.in_err-next.field-0.0 = search rules in
    rw failed
    (stop_is_error c.args.limit c.args.delimiter (transcribed (whole_of parts) binding) c.in_err-next.field-0.0
    (subst (λ l. IsStop l (written_of (transcribed (whole_of parts) binding)) c.in_err-next.field-0.0) inv.most
    (subst (λ w. IsStop (most_of c.loop-part.transcriber) w c.in_err-next.field-0.0) inv.whole (c.in_err-next.ensures.err binding inv.levels (subst (AreTaken binding) (sym taken) are) is_at))))

pub loop-part-smaller : goal.loop-part-smaller
loop-part-smaller c =
    let parts = c.args.parts.now in
    let bits = map bit_of parts in
    let binding = binding_by (map where_of c.args.binders.now) (map note_of c.args.binding.marks.items) in
    let at = c.loop-part.next in
    let part = c.in-Some.part.now in
    let inv = c.loop-part.invariant in
    let lt : at < length parts = search rules in
    let there : part ≡ get_or parts at part = search rules in
    let here : drop at parts ≡ part ∷ drop (at + 1) parts = drop_more parts at part lt ∙ ap (λ p. p ∷ drop (at + 1) parts) (sym there) in
    let are : AreTaken binding c.in_ok-taken.taken.items = search rules in
    let taken : c.deref.result.now ≡ c.in_ok-taken.taken.items = search rules in
    let is_at : IsAt bits binding inv.levels c.loop-part.transcriber (bit_of part ∷ bits_from parts (at + 1)) = subst (λ l. IsAt bits binding inv.levels c.loop-part.transcriber (map bit_of l)) here inv.is_at in
    let goes : Goes bits binding inv.levels c.loop-part.transcriber c.step.new.self (bits_from parts c.in_ok-next.next) =
    c.in_ok-next.ensures.ok binding inv.levels (subst (AreTaken binding) (sym taken) are) is_at in
    omega (
      arith,
      goes.less,
      work_is bits binding inv.levels (reverse c.loop-part.transcriber.rounds.items) (reverse c.loop-part.transcriber.closes.items) (map bit_of (drop at parts)) inv.is_at.agree,
      work_is bits binding goes.news (reverse c.step.new.self.rounds.items) (reverse c.step.new.self.closes.items) (bits_from parts c.in_ok-next.next) goes.is_at.agree,
    )

pub loop-part-preserved : goal.loop-part-preserved
loop-part-preserved c =
    let parts = c.args.parts.now in
    let bits = map bit_of parts in
    let binding = binding_by (map where_of c.args.binders.now) (map note_of c.args.binding.marks.items) in
    let at = c.loop-part.next in
    let part = c.in-Some.part.now in
    let inv = c.loop-part.invariant in
    let lt : at < length parts = search rules in
    let there : part ≡ get_or parts at part = search rules in
    let here : drop at parts ≡ part ∷ drop (at + 1) parts = drop_more parts at part lt ∙ ap (λ p. p ∷ drop (at + 1) parts) (sym there) in
    let are : AreTaken binding c.in_ok-taken.taken.items = search rules in
    let taken : c.deref.result.now ≡ c.in_ok-taken.taken.items = search rules in
    let is_at : IsAt bits binding inv.levels c.loop-part.transcriber (bit_of part ∷ bits_from parts (at + 1)) = subst (λ l. IsAt bits binding inv.levels c.loop-part.transcriber (map bit_of l)) here inv.is_at in
    let goes : Goes bits binding inv.levels c.loop-part.transcriber c.step.new.self (bits_from parts c.in_ok-next.next) =
    c.in_ok-next.ensures.ok binding inv.levels (subst (AreTaken binding) (sym taken) are) is_at in
    record {
      levels = goes.news;
      is_at = goes.is_at;
      whole = goes.same ∙ inv.whole;
      top = goes.top ∙ inv.top;
      most = goes.most ∙ inv.most;
    }

pub build-requires : goal.build-requires
build-requires c =
    let parts = c.args.parts.now in
    let bits = map bit_of parts in
    let binding = binding_by (map where_of c.args.binders.now) (map note_of c.args.binding.marks.items) in
    let all = transcribed (whole_of parts) binding in
    let inv = c.loop-part.invariant in
    let beyond : length parts ≤ c.loop-part.next = search rules in
    let nothing_left : map bit_of (drop c.loop-part.next parts) ≡ [] = ap (map bit_of) (drop_of_length-le parts beyond) in
    let none : inv.levels ≡ [] =
    ends bits binding inv.levels (reverse c.loop-part.transcriber.rounds.items) (reverse c.loop-part.transcriber.closes.items)
    (subst (λ l. AreLevels bits binding inv.levels (reverse c.loop-part.transcriber.rounds.items) (reverse c.loop-part.transcriber.closes.items) l) nothing_left inv.is_at.agree) in
    let whole : written_by c.loop-part.transcriber ≡ written_of all = ends_whole c.loop-part.transcriber inv.levels all none inv.whole in
    not_open c.loop-part.transcriber all whole

pub returns-in_err-build-clause-err : goal.returns-in_err-build-clause-err
returns-in_err-build-clause-err c =
    let parts = c.args.parts.now in
    let bits = map bit_of parts in
    let binding = binding_by (map where_of c.args.binders.now) (map note_of c.args.binding.marks.items) in
    let all = transcribed (whole_of parts) binding in
    let inv = c.loop-part.invariant in
    let beyond : length parts ≤ c.loop-part.next = search rules in
    let nothing_left : map bit_of (drop c.loop-part.next parts) ≡ [] = ap (map bit_of) (drop_of_length-le parts beyond) in
    let none : inv.levels ≡ [] =
    ends bits binding inv.levels (reverse c.loop-part.transcriber.rounds.items) (reverse c.loop-part.transcriber.closes.items)
    (subst (λ l. AreLevels bits binding inv.levels (reverse c.loop-part.transcriber.rounds.items) (reverse c.loop-part.transcriber.closes.items) l) nothing_left inv.is_at.agree) in
    let whole : written_by c.loop-part.transcriber ≡ written_of all = ends_whole c.loop-part.transcriber inv.levels all none inv.whole in
    let fault = c.in_err-build.field-0.0.fault in
    let failed : c.from_residual-in_err-build.result ≡ Err (Tree fault) = search rules in
    let wrong : IsTreeFault (under c.args.delimiter all.trees) fault =
    subst (λ root. IsTreeFault root fault) (built_is c.loop-part.transcriber all c.args.delimiter whole inv.top) c.in_err-build.ensures.fault in
    rw failed
    (limit_of_all c.args.limit c.args.delimiter all (ap (λ w. w.fault) whole) (ends_within c.args.limit c.loop-part.transcriber all whole inv.most) fault wrong, wrong)

pub returns-clause-ok : goal.returns-clause-ok
returns-clause-ok c =
    let parts = c.args.parts.now in
    let bits = map bit_of parts in
    let binding = binding_by (map where_of c.args.binders.now) (map note_of c.args.binding.marks.items) in
    let all = transcribed (whole_of parts) binding in
    let inv = c.loop-part.invariant in
    let beyond : length parts ≤ c.loop-part.next = search rules in
    let nothing_left : map bit_of (drop c.loop-part.next parts) ≡ [] = ap (map bit_of) (drop_of_length-le parts beyond) in
    let none : inv.levels ≡ [] =
    ends bits binding inv.levels (reverse c.loop-part.transcriber.rounds.items) (reverse c.loop-part.transcriber.closes.items)
    (subst (λ l. AreLevels bits binding inv.levels (reverse c.loop-part.transcriber.rounds.items) (reverse c.loop-part.transcriber.closes.items) l) nothing_left inv.is_at.agree) in
    let whole : written_by c.loop-part.transcriber ≡ written_of all = ends_whole c.loop-part.transcriber inv.levels all none inv.whole in
    record {
      sound = sym (ap (λ w. w.fault) whole);
      is = c.in_ok-build.ensures.ok ∙ built_is c.loop-part.transcriber all c.args.delimiter whole inv.top;
    }

pub returns-clause-within : goal.returns-clause-within
returns-clause-within c =
    let parts = c.args.parts.now in
    let bits = map bit_of parts in
    let binding = binding_by (map where_of c.args.binders.now) (map note_of c.args.binding.marks.items) in
    let all = transcribed (whole_of parts) binding in
    let inv = c.loop-part.invariant in
    let beyond : length parts ≤ c.loop-part.next = search rules in
    let nothing_left : map bit_of (drop c.loop-part.next parts) ≡ [] = ap (map bit_of) (drop_of_length-le parts beyond) in
    let none : inv.levels ≡ [] =
    ends bits binding inv.levels (reverse c.loop-part.transcriber.rounds.items) (reverse c.loop-part.transcriber.closes.items)
    (subst (λ l. AreLevels bits binding inv.levels (reverse c.loop-part.transcriber.rounds.items) (reverse c.loop-part.transcriber.closes.items) l) nothing_left inv.is_at.agree) in
    let whole : written_by c.loop-part.transcriber ≡ written_of all = ends_whole c.loop-part.transcriber inv.levels all none inv.whole in
    let is : c.in_ok-build.field-0 ≡ under c.args.delimiter all.trees = c.in_ok-build.ensures.ok ∙ built_is c.loop-part.transcriber all c.args.delimiter whole inv.top in
    subst (λ tree. IsWithin c.args.limit (size tree.children)) (sym is) (ends_within c.args.limit c.loop-part.transcriber all whole inv.most)
