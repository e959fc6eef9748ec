use Rattle.std.proofs.Common.{◌≡◌, ap, sym, ◌∙◌}
use Rattle.std.specs.Prelude.{slice_get}
use Rattle.tt.specs.Forest.{flat}
use Rattle.tt.specs.Span.{start_of}
use Rattle.tt.specs.SubtreeViews.{flat_rest}
use Rattle.tt.specs.Views.{trees_of}
use Rattle.expand_text.specs.Places.{token_byte}
use Rattle.expand_text.proofs.Nth.{nth_is}
use Rattle.expand_text.proofs.places.start_at.Goals as goal

pub returns-in-Some : goal.returns-in-Some
returns-in-Some c =
    let found : c.nth.result ≡ slice_get (flat (trees_of c.args.trees)) c.args.place =
    nth_is (λ it. flat (flat_rest it)) c.iter_flat_tokens.result c.nth.new.self c.args.place c.nth.result c.nth.ensures.ran
    ∙ ap (λ f. slice_get (flat f) c.args.place) c.iter_flat_tokens.ensures in
    c.start_of.ensures ∙ ap (λ span. start_of span.range) c.first_span.ensures ∙ ap (λ it. token_byte it c.args.behind) (sym c.in-Some.is ∙ found)

pub returns-in-None : goal.returns-in-None
returns-in-None c =
    let found : c.nth.result ≡ slice_get (flat (trees_of c.args.trees)) c.args.place =
    nth_is (λ it. flat (flat_rest it)) c.iter_flat_tokens.result c.nth.new.self c.args.place c.nth.result c.nth.ensures.ran
    ∙ ap (λ f. slice_get (flat f) c.args.place) c.iter_flat_tokens.ensures in
    ap (λ it. token_byte it c.args.behind) (sym c.in-None.is ∙ found)
