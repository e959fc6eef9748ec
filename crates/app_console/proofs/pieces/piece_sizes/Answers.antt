use Rattle.std.proofs.Common.{rules, of_calls, ◌≡◌, ◌++◌, [], cond, ap, ap₂, sym, ◌∙◌}
use Rattle.std.specs.Prelude.{codes, string_bytes}
use Rattle.std.specs.List.{flat_map, slice_split}
use Rattle.tt.specs.Pieces.{asks_by}
use Rattle.tt.specs.Siblings.{list_of}
use Rattle.tt.specs.Views.{trees_of}
use Rattle.app_console.specs.Pieces.{is_punct, pieces}
use Rattle.app_console.specs.ViewText.{piece_size}
use Rattle.app_console.proofs.Listing.{one_more}
use Rattle.app_console.proofs.Splitting.{left_pieces, piece_given, tokens_in-list_of}
use Rattle.app_console.proofs.pieces.piece_sizes.Goals as goal

pub loop-piece-init : goal.loop-piece-init
loop-piece-init c =
    let made = c.split-pieces.ensures in
    let starts = c.into_iter-piece-iterator.ensures.into_iter_gives in
    let text : string_bytes c.in_ok-text.text ≡ codes "split" = search (rules, c.in_ok-text.ensures.ok) in
    let all : left_pieces (is_punct c.args.char) c.into_iter-piece-iterator.result ≡ pieces c.args.char c.args.tree.now.children =
    ap (left_pieces (is_punct c.args.char)) starts
    ∙ ap₂ (λ done trees. cond done [] (slice_split (is_punct c.args.char) (list_of trees))) made.done (made.rest ∙ c.token_trees.ensures) in
    (search of_calls, tt, ap asks_by starts ∙ made.asks, ap₂ (λ front left. front ++ flat_map piece_size left) text all)

pub loop-piece-preserved : goal.loop-piece-preserved
loop-piece-preserved c =
    let given =
    piece_given _ (is_punct c.args.char) (record { 0 = c.args.char }) (λ element answer q k. search rules) c.loop-piece.piece-iterator c.in-Some.piece c.next.new.self
    c.loop-piece.invariant.2 c.in-Some.ensures.steps in
    let wrote : string_bytes c.write.new.self ≡ string_bytes c.loop-piece.text ++ piece_size (list_of (trees_of c.in-Some.piece)) =
    search (rules, tokens_in-list_of (trees_of c.in-Some.piece)) in
    let before = ap (λ left. string_bytes c.loop-piece.text ++ flat_map piece_size left) (sym given.0) ∙ c.loop-piece.invariant.3 in (
      search of_calls,
      tt,
      given.1,
      ap (λ text. text ++ flat_map piece_size (left_pieces (is_punct c.args.char) c.next.new.self)) wrote ∙ one_more piece_size _ _ _ _ before,
    )
