-- Positions that all know what is inside their first trees make a table.
use Rattle.std.proofs.Common.{◌≡◌, ◌+◌, ◌<◌, ℕ, zero, suc, List, [], ◌∷◌, map, length, get_or, refl, ap, sym, ◌∙◌, arith}
use Rattle.std.proofs.lemmas.List.{length-map}
use Rattle.std.proofs.lemmas.Option.{slice_get_read}
use Rattle.std.specs.Prelude.{slice_get, slice_index_or}
use Rattle.tt.specs.Forest.{Forest, size}
use Rattle.tt.specs.Views.{trees_of}
use Rattle.mbe_program.specs.Laying.{Spot, spot_of, spots_of, IsSpot, AreLaid}
use Rattle.mbe_program.specs.Program.{Instruction}
use Rattle.mbe_program.specs.Positions.{trees_in, outside_in, left_in, table_of}
use Rattle.mbe_program.specs.Tables.{IsTableOf}
use Rattle.mbe_program.specs.declared.positions.Position.{Position}
use Rattle.mbe_program.specs.declared.positions.Positions.{Positions}
use Rattle.mbe_program.proofs.Laid.{spot_within, spot_once}

-- the spot of that number, as the table has it
abbrev pub table_spot : Positions → (n : ℕ) → Spot
table_spot its n = record { trees = (table_of its).trees n; outside = (table_of its).outside n; left = (table_of its).left n }

listed : (items : List Position) (n : ℕ) → n < length items
    → IsSpot (map spot_of items) n (record { trees = trees_in (slice_get items n); outside = outside_in (slice_get items n); left = left_in (slice_get items n) })
listed [] n less = absurd (omega (arith, less))
listed (it ∷ items) zero less = refl
listed (it ∷ items) (suc n) less = listed items n (omega (arith, less))

-- The table has the spot of each number.
pub spot_at : (its : Positions) (n : ℕ) → n < length its.all.items → IsSpot (spots_of its) n (table_spot its n)
spot_at its n less = listed its.all.items n less

pub spots_count : (its : Positions) → length (spots_of its) ≡ length its.all.items
spots_count its = length-map its.all.items spot_of

pub in_table : (its : Positions) (n : ℕ) (it : Spot) → IsSpot (spots_of its) n it → n < length its.all.items
in_table its n it is = let less = spot_within (spots_of its) n it is in let count = spots_count its in omega (arith, less, count)

pub own_spot : (its : Positions) (n : ℕ) (it : Spot) → IsSpot (spots_of its) n it → table_spot its n ≡ it
own_spot its n it is = spot_once (spots_of its) n (table_spot its n) it (spot_at its n (in_table its n it is)) is

-- The position of that number, as the table has it.
pub position_is : (its : Positions) (n : ℕ) (it : Position) → n < length its.all.items → it ≡ get_or its.all.items n it
    → (trees_of it.trees ≡ (table_of its).trees n) × (it.left ≡ (table_of its).left n)
position_is its n it less is =
    let own = slice_get_read its.all.items (length its.all.items) n it refl less is in
    (ap trees_in (sym own), ap left_in (sym own))

pub trees_are : (its : Positions) (n : ℕ) (it : Spot) → IsSpot (spots_of its) n it → (table_of its).trees n ≡ it.trees
trees_are its n it is = ap (λ (it : Spot). it.trees) (own_spot its n it is)

pub outside_is : (its : Positions) (n : ℕ) (it : Spot) → IsSpot (spots_of its) n it → (table_of its).outside n ≡ it.outside
outside_is its n it is = ap (λ (it : Spot). it.outside) (own_spot its n it is)

pub left_is : (its : Positions) (n : ℕ) (it : Spot) → IsSpot (spots_of its) n it → (table_of its).left n ≡ it.left
left_is its n it is = ap (λ (it : Spot). it.left) (own_spot its n it is)

module _ (program : List Instruction) (input : Forest) (its : Positions) (laid : AreLaid program input (spots_of its) its.insides.items) (all : length its.insides.items ≡ length its.all.items) where
  -- All positions, looked into, are a table.
  pub laid_table : IsTableOf program input (table_of its)
  laid_table =
      record {
        some = in_table its 1 laid.first.0 laid.first.1;
        nowhere = trees_are its 0 laid.nowhere.0 laid.nowhere.1 ∙ laid.nowhere.2;
        none_left = left_is its 0 laid.nowhere.0 laid.nowhere.1 ∙ laid.nowhere.3;
        whole = trees_are its 1 laid.first.0 laid.first.1 ∙ laid.first.2;
        outmost = outside_is its 1 laid.first.0 laid.first.1 ∙ laid.first.3;
        next = λ n some less goes.
            let found = laid.next n (table_spot its n) some (spot_at its n less) goes in
            (in_table its (suc n) found.0 found.1, trees_are its (suc n) found.0 found.1 ∙ found.2, outside_is its (suc n) found.0 found.1 ∙ found.3);
        into = λ n some less kind enters node_is.
            let found = laid.into n (table_spot its n) some (omega (arith, less, all)) (spot_at its n less) kind enters node_is in
            let at = slice_index_or its.insides.items n 0 in
            (found.0, in_table its at found.1.0 found.1.1, trees_are its at found.1.0 found.1.1 ∙ found.1.2, outside_is its at found.1.0 found.1.1 ∙ found.1.3);
        out = λ n less.
            let found = laid.out n (table_spot its n) (spot_at its n less) in
            in_table its ((table_of its).outside n) found.0 found.1;
        left_is = λ n some less.
            let found = laid.out n (table_spot its n) (spot_at its n less) in
            found.2 some ∙ ap (λ k. size ((table_of its).trees n) + k) (sym (left_is its ((table_of its).outside n) found.0 found.1));
      }
