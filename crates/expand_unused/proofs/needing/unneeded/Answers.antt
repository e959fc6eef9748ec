use Rattle.std.proofs.Common.{◌≡◌, [], map, None, Some, Option, is_some, option_map, refl, sym, subst}
use Rattle.std.specs.Prelude.{bytes_eq}
use Rattle.indexmap.specs.IndexMap.{get}
use Rattle.expand_unused.specs.Needing.{IsRight, Needed}
use Rattle.expand_unused.specs.Parts.{part_of}
use Rattle.expand_unused.specs.Waiting.{waiting_in, words_outside, IsWaiting, IsBetween}
use Rattle.expand_unused.proofs.Finding.{first_between, last_right}
use Rattle.expand_unused.proofs.needing.unneeded.Goals as goal

pub returns : goal.returns
returns c =
    let parts = map part_of c.args.parts.now in
    let waiting : IsWaiting parts (waiting_in c.in_ok-waiting.waiting) = c.in_ok-waiting.ensures in
    let needed : c.in_ok-needed.needed.items ≡ words_outside parts = c.in_ok-needed.ensures in
    let begins : IsBetween parts (waiting_in c.in_ok-waiting.waiting) c.in_ok-needed.needed.items =
    subst (IsBetween parts (waiting_in c.in_ok-waiting.waiting)) (sym needed) (first_between parts (waiting_in c.in_ok-waiting.waiting) waiting) in
    let ends : IsBetween parts (waiting_in c.settle.new.waiting) [] = c.in_ok-settle.ensures parts begins in
    λ it among. subst (λ b. IsRight b (Needed parts it.name)) (some_map (λ words. words.items) (get bytes_eq c.settle.new.waiting it.name))
    (last_right parts (waiting_in c.settle.new.waiting) ends it among)
  where
    some_map : {A B : Type 0} (f : A → B) (found : Option A) → is_some (option_map f found) ≡ is_some found
    some_map f None = refl
    some_map f (Some it) = refl
