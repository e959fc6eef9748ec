use Rattle.std.proofs.Common.{◌≡◌, ◌++◌, ℕ, List, take, drop, sym, ap, ◌∙◌, append_assoc, take-append-drop, rules}
use Rattle.std.proofs.lemmas.List.{take_rest}
use Rattle.std.proofs.KnownBytes.{Appends-trans}
use Rattle.app_console.proofs.noted.NotedWrite.write_all.Goals as goal

-- what was taken grows by the front of the rest
grows : (all taken rest : List ℕ) (n : ℕ) → all ≡ taken ++ rest → all ≡ (taken ++ take n rest) ++ drop n rest
grows all taken rest n cut = cut ∙ ap (λ l. taken ++ l) (sym (take-append-drop n rest)) ∙ sym (append_assoc taken (take n rest) (drop n rest))

pub writing-preserved : goal.writing-preserved
writing-preserved g c =
    let (taken, cut, took) = c.writing.invariant.0 in
    ((taken ++ take c.in_ok-n.n c.writing.rest.now, rw take_rest (grows _ taken c.writing.rest.now c.in_ok-n.n cut), Appends-trans _ _ _ taken _ took c.in_ok-n.ensures.bytes), search rules)
