use Rattle.std.proofs.Common.{◌≡◌, ◌++◌}
use Rattle.std.specs.Prelude.{codes, string_bytes}
use Rattle.std.specs.List.{flat_map}
use Rattle.tt.specs.Pieces.{asks_by}
use Rattle.app_console.specs.Pieces.{is_punct, pieces}
use Rattle.app_console.specs.ViewText.{piece_size}
use Rattle.app_console.proofs.Splitting.{left_pieces}
use Rattle.app_console.proofs.pieces.piece_sizes.Given as goal

abbrev pub invariant-loop-piece : goal.invariant-loop-piece
invariant-loop-piece l =
    (goal.iterator-loop-piece).can_next l.piece-iterator
    × (goal.iterator-loop-piece).is_finite l.piece-iterator
    × (asks_by l.piece-iterator ≡ record { 0 = l.fn.char })
    × (string_bytes l.text ++ flat_map piece_size (left_pieces (is_punct l.fn.char) l.piece-iterator) ≡ codes "split" ++ flat_map piece_size (pieces l.fn.char l.tree.children))
