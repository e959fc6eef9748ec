use Rattle.std.proofs.Common.{rules, ◌≡◌, ◌++◌, ◌∷◌, [], ℕ, List, Some, cond, sym, subst, refl}
use Rattle.std.specs.Prelude.{bytes_eq}
use Rattle.expand_unused.specs.Parts.{part_of, rules_of}
use Rattle.expand_unused.specs.Waiting.{waiting_in, words_of, IsWaiting}
use Rattle.expand_unused.proofs.Finding.{waits_word, waits_rules}
use Rattle.expand_unused.proofs.needing.wait_part.Goals as goal

pub returns-in-Word : goal.returns-in-Word
returns-in-Word c parts waits = subst (λ p. IsWaiting (parts ++ part_of p ∷ []) (waiting_in c.args.waiting.now)) (sym c.in-Word.is) (waits_word parts (waiting_in c.args.waiting.now) waits _)

pub returns-in_ok-wait-in-Rules : goal.returns-in_ok-wait-in-Rules
returns-in_ok-wait-in-Rules c parts waits =
    let it = rules_of c.in-Rules.rules in
    let old = waiting_in c.args.waiting.now in
    let new = waiting_in c.wait.new.waiting in
    let same : c.in_ok-name-in-Rules.name ≡ it.name = search rules in
    let held : c.as_slice.result.now ≡ it.inside = search rules in
    let added : (other : List ℕ) → new other ≡ cond (bytes_eq it.name other) (Some (words_of (old it.name) ++ it.inside)) (old other) =
    subst (λ n. (other : List ℕ) → new other ≡ cond (bytes_eq n other) (Some (words_of (old n) ++ it.inside)) (old other)) same
    (subst (λ i. (other : List ℕ) → new other ≡ cond (bytes_eq c.in_ok-name-in-Rules.name other) (Some (words_of (old c.in_ok-name-in-Rules.name) ++ i)) (old other)) held c.in_ok-wait-in-Rules.ensures) in
    subst (λ p. IsWaiting (parts ++ part_of p ∷ []) new) (sym c.in-Rules.is) (waits_rules parts old waits it (words_of (old it.name) ++ it.inside) new refl added)
