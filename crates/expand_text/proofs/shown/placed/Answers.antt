use Rattle.std.proofs.Common.{rules, ◌≡◌, ◌+◌, ◌<◌, ◌++◌, ◌∷◌, [], map, take, length, get_or, ap, ap₂, sym, ◌∙◌, arith}
use Rattle.std.proofs.lemmas.List.{map-append, take_more, take_all}
use Rattle.tt.specs.Iters.{rest_of}
use Rattle.expand_text.specs.Shown.{shown_at}
use Rattle.mbe_rules.specs.declared.rules_error.ExpandError.{ExpandError}
use Rattle.mbe_rules.specs.declared.transcribe_error.TranscribeError.TheVariants.{StillRepeats}
use Rattle.expand_text.proofs.shown.placed.Goals as goal

pub loop-error-preserved : goal.loop-error-preserved
loop-error-preserved c =
    let errors = c.args.errors.now in
    let i = c.loop-error.error-index in
    let error : ExpandError = get_or errors i (record { arm = 0; fault = StillRepeats 0 }) in
    let f = shown_at (rest_of c.args.arms) c.args.behind in
    let lt : i < length errors = search rules in
    let more : take (i + 1) errors ≡ take i errors ++ error ∷ [] = take_more errors i (record { arm = 0; fault = StillRepeats 0 }) lt in
    let same : rest_of c.iter.result ≡ rest_of c.args.arms = search rules in
    let made : c.placed_at.result ≡ f error = c.placed_at.ensures ∙ ap (λ its. shown_at its c.args.behind error) same in
    let pushed : c.push.new.self.items ≡ c.loop-error.faults.items ++ c.placed_at.result ∷ [] = search rules in
    pushed ∙ ap₂ (λ l it. l ++ it ∷ []) c.loop-error.invariant made ∙ sym (map-append f (take i errors) (error ∷ [])) ∙ sym (ap (map f) more)

pub returns : goal.returns
returns c =
    let errors = c.args.errors.now in
    let f = shown_at (rest_of c.args.arms) c.args.behind in
    c.loop-error.invariant ∙ ap (map f) (take_all c.loop-error.error-index errors (omega arith))
