use Rattle.std.proofs.Common.{◌≡◌, ◌≤◌, Bool, true, false, not, cond, ◌++◌, ◌∷◌, [], length, refl, take, get_or, ap, sym, subst, ◌∙◌, arith}
use Rattle.std.proofs.lemmas.Bool.{true≢false, not-true}
use Rattle.std.proofs.lemmas.List.{take_more, take_all}
use Rattle.std.specs.List.{IsDistinct, list_any}
use Rattle.tt_tables.specs.AstIds.{parts_with_ids}
use Rattle.tt_tables.specs.Uses.{same_part}
use Rattle.tt_tables.proofs.IdsStored.{length-parts_with_ids}
use Rattle.tt_tables.proofs.TokenTables.{part_sound, part_complete}
use Rattle.tt_pack.proofs.PutIds.{part_at, stands_twice}
use Rattle.tt_pack.proofs.packed.ids.are_apart.Goals as goal

was_there : (b : Bool) → not b ≡ false → b ≡ true
was_there true h = refl
was_there false h = absurd (true≢false h)

pub returns-then-not-branch : goal.returns-then-not-branch
returns-then-not-branch c =
    let ids = c.args.ids.now in
    let parts = c.args.parts.now in
    let index = c.loop-index.index in
    let new = parts_with_ids ids parts in
    let part = c.with_id.result in
    let long : length new ≡ length parts = length-parts_with_ids ids parts in
    let is : get_or new index part ≡ part = part_at ids parts index _ _ part (omega (arith, c.requires, c.loop-index-test.true)) (omega (arith, c.loop-index-test.true)) ∙ sym c.with_id.ensures in
    let there : list_any (same_part part) c.loop-index.found.keys ≡ true = was_there _ (sym c.in_ok-insert.ensures.added ∙ c.if-not-branch.true) in
    let twice : list_any (same_part (get_or new index part)) (take index new) ≡ true =
    subst (λ p. list_any (same_part p) (take index new) ≡ true) (sym is) (subst (λ l. list_any (same_part part) l ≡ true) c.loop-index.invariant.put there) in
    (λ no. absurd (true≢false (sym no)), λ once. absurd (stands_twice same_part part_sound part_complete new index part (omega (arith, long, c.loop-index-test.true)) twice once))

pub loop-index-preserved : goal.loop-index-preserved
loop-index-preserved c =
    let ids = c.args.ids.now in
    let parts = c.args.parts.now in
    let index = c.loop-index.index in
    let new = parts_with_ids ids parts in
    let part = c.with_id.result in
    let long : length new ≡ length parts = length-parts_with_ids ids parts in
    let is : get_or new index part ≡ part = part_at ids parts index _ _ part (omega (arith, c.requires, c.loop-index-test.true)) (omega (arith, c.loop-index-test.true)) ∙ sym c.with_id.ensures in
    let absent : list_any (same_part part) c.loop-index.found.keys ≡ false = not-true _ (sym c.in_ok-insert.ensures.added ∙ c.if-not-branch.false) in
    let added : c.insert.new.self.keys ≡ c.loop-index.found.keys ++ part ∷ [] =
    c.in_ok-insert.ensures.keys ∙ ap (λ t. cond t c.loop-index.found.keys (c.loop-index.found.keys ++ part ∷ [])) absent in
    record {
      put =
          added ∙ ap (λ l. l ++ part ∷ []) c.loop-index.invariant.put ∙ ap (λ p. take index new ++ p ∷ []) (sym is)
          ∙ sym (take_more new index part (omega (arith, long, c.loop-index-test.true)));
      once = c.in_ok-insert.ensures.unique;
    }

pub returns : goal.returns
returns c =
    let ids = c.args.ids.now in
    let parts = c.args.parts.now in
    let new = parts_with_ids ids parts in
    let all : length new ≤ c.loop-index.index = omega (arith, length-parts_with_ids ids parts, c.loop-index-test.false) in
    let once : IsDistinct same_part new =
    subst (IsDistinct same_part) (c.loop-index.invariant.put ∙ take_all c.loop-index.index new all) c.loop-index.invariant.once in
    (λ yes. once, λ h. refl)
