use Rattle.std.proofs.Common.{rules, ◌≡◌, [], ◌∷◌, ◌++◌, map, length, reverse, ap, sym, ◌∙◌}
use Rattle.std.proofs.lemmas.List.{length-map, map-append}
use Rattle.tt.specs.Iters.{rest_of}
use Rattle.mbe_pattern.specs.Placed.{pattern_of}
use Rattle.mbe_program.specs.Assembling.{Made, made_of, made_by}
use Rattle.mbe_program.specs.Moving.{instructions_of}
use Rattle.mbe_program.specs.Pieces.{bit_of, all_bits}
use Rattle.mbe_program.proofs.Built.{made_last, made_whole}
use Rattle.mbe_program.proofs.assemble.program_of.Goals as goal

pub loop-piece-preserved : goal.loop-piece-preserved
loop-piece-preserved c =
    let total = c.len-total.result in
    let popped = c.pop.new.self.items in
    let piece = c.in-Some.piece in
    let old = c.loop-piece.made in
    let was : c.loop-piece.pieces.items ≡ popped ++ piece ∷ [] = search rules in
    let bits : map bit_of c.loop-piece.pieces.items ≡ map bit_of popped ++ bit_of piece ∷ [] = ap (map bit_of) was ∙ map-append bit_of popped (piece ∷ []) in
    ap (made_by total (map bit_of popped)) c.in_ok-add.ensures
    ∙ sym (made_last total (map bit_of popped) (bit_of piece) (made_of old))
    ∙ ap (λ l. made_by total l (made_of old)) (sym bits)
    ∙ c.loop-piece.invariant

pub returns : goal.returns
returns c =
    let pattern = pattern_of (rest_of c.args.pattern) in
    let total = c.len-total.result in
    let made = c.loop-piece.made in
    let none : c.loop-piece.pieces.items ≡ [] = search rules in
    let turned : c.reverse.new.self.items ≡ reverse made.program.items = search rules in
    let pieces = c.in_ok-pieces.pieces.items in
    let counted : total ≡ length pieces = search rules in
    let count : total ≡ length (all_bits pattern) = counted ∙ sym (length-map pieces bit_of) ∙ ap length c.in_ok-pieces.ensures in
    ap instructions_of turned
    ∙ ap (λ (m : Made). m.program) (sym (ap (λ its. made_by total (map bit_of its) (made_of made)) none) ∙ c.loop-piece.invariant)
    ∙ made_whole total pattern count
