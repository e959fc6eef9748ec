use Rattle.std.proofs.Common.{rules, ◌≡◌, ◌<◌, [], ◌∷◌, List, Some, length, refl, ap, ◌∙◌, arith}
use Rattle.tt.specs.Building.{append}
use Rattle.tt.specs.Iters.{rest_of}
use Rattle.tt.specs.Views.{trees_of}
use Rattle.expand_items.specs.declared.part.Part.{Part}
use Rattle.expand_items.specs.Parts.{AreParts}
use Rattle.expand_items.specs.Spreads.{spread, spread_if}
use Rattle.expand_items.proofs.spread.put_under.Goals as goal
use Rattle.expand_items.specs.Attributes.{conditions_of}

pub returns-clause-put : goal.returns-clause-put
returns-clause-put c =
    let trees = trees_of c.args.trees in
    let parts : List Part = c.in-Some.parts.items in
    let conditions = conditions_of (trees_of c.args.attributes) in
    let are : AreParts c.args.siblings trees (Some parts) = search rules in
    let all : c.as_slice.result.now ≡ parts = search rules in
    let whole : rest_of c.iter-2.result ≡ trees = search rules in
    let some : 0 < length parts = search (rules, arith) in
    record {
      put = Some (spread c.args.braces conditions 0 parts trees);
      under = (Some parts, are, one_more parts some);
      answer = refl;
      added = c.in_ok-add_parts.ensures.added ∙ ap (λ ps. append (spread c.args.braces conditions 0 ps (rest_of c.iter-2.result)) c.args.builder.now.stack) all
          ∙ ap (λ f. append (spread c.args.braces conditions 0 parts f) c.args.builder.now.stack) whole;
    }
  where
    one_more : (parts : List Part) → 0 < length parts
        → Some (spread c.args.braces (conditions_of (trees_of c.args.attributes)) 0 parts (trees_of c.args.trees))
        ≡ spread_if c.args.braces (conditions_of (trees_of c.args.attributes)) (Some parts) (trees_of c.args.trees)
    one_more [] some = absurd (omega (arith, some))
    one_more (first ∷ others) some = refl
