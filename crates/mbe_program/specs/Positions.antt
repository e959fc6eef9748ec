-- The table that positions make.
use Rattle.std.specs.Prelude.{ℕ, Option, None, Some, length, slice_get, slice_index_or}
use Rattle.tt.specs.Forest.{Forest, end}
use Rattle.tt.specs.Views.{trees_of}
use Rattle.mbe_program.specs.Tables.{Table}
use Rattle.mbe_program.specs.declared.positions.Position.{Position}
use Rattle.mbe_program.specs.declared.positions.Positions.{Positions}

-- what a position has; none at a number beyond all
abbrev pub trees_in : Option Position → Forest
trees_in None = end
trees_in (Some it) = trees_of it.trees

abbrev pub outside_in : Option Position → ℕ
outside_in None = 0
outside_in (Some it) = it.outside

abbrev pub left_in : Option Position → ℕ
left_in None = 0
left_in (Some it) = it.left

abbrev pub table_of : Positions → Table
table_of its =
    record {
      count = length its.all.items;
      trees = λ n. trees_in (slice_get its.all.items n);
      outside = λ n. outside_in (slice_get its.all.items n);
      inside = λ n. slice_index_or its.insides.items n 0;
      left = λ n. left_in (slice_get its.all.items n);
    }
