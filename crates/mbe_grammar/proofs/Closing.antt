-- The end of a name that took nothing.
use Rattle.std.proofs.Common.{◌≡◌, ℕ, suc, zero, true, List, [], ◌∷◌, length, map, take, refl, sym, ap, ◌∙◌, cond, arith}
use Rattle.std.proofs.lemmas.Bool.Decides.{nat_tests}
use Rattle.std.proofs.lemmas.List.{length-map}
use Rattle.std.specs.Prelude.{◌==◌}
use Rattle.tt.specs.Forest.{Forest}
use Rattle.tt.specs.Gluing.{after_trees}
use Rattle.mbe_grammar.specs.declared.entry.Entry.{Entry}
use Rattle.mbe_grammar.specs.Places.{entry, position_of}
use Rattle.mbe_grammar.specs.Positions.{Position, leaves, noted, cut, closed}
use Rattle.mbe_grammar.specs.Positions as positions

map_part : (n : ℕ) (log : List Entry) → map entry (take n log) ≡ take n (map entry log)
map_part zero log = refl
map_part (suc n) [] = refl
map_part (suc n) (it ∷ log) = ap (λ (t : List positions.Entry). entry it ∷ t) (map_part n log)

same_length : (n m : ℕ) → n ≡ m → (n == m) ≡ true
same_length n m e = grind (arith, nat_tests)

-- The log is cut back.
pub closed_cut : (since : ℕ) (old new : List Entry) → length old ≡ suc since → new ≡ take since old → (trees : Forest) (passed : ℕ) → position_of trees new passed ≡ closed true since (position_of trees old passed)
closed_cut since old new count is trees passed =
    ap (λ (log : List positions.Entry). record { passed = passed; rest = after_trees passed trees; log = log }) (ap (map entry) is ∙ map_part since old)
    ∙ sym (ap (λ b. cond b (cut since (position_of trees old passed)) (noted true (leaves ∷ []) (position_of trees old passed))) (same_length (length (map entry old)) (suc since) (length-map old entry ∙ count)))
