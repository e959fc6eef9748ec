use Rattle.std.proofs.Common.{rules, ◌≡◌, ◌<◌, ◌∷◌, ◌++◌, [], true, false, ap, sym, subst, ◌∙◌, arith, append_assoc, append-nil}
use Rattle.tt.specs.Forest.{size}
use Rattle.tt.specs.Iters.{rest_of}
use Rattle.tt.specs.Moves.{after_tree}
use Rattle.tt.specs.Siblings.{is_end}
use Rattle.mbe_program.specs.Laying.{level_spots, spot, spots_of}
use Rattle.mbe_program.proofs.Laid.{more_spots, level_first, more_next, more_none, next_less}
use Rattle.mbe_program.proofs.positions.Positions.add_level.Goals as goal

pub loop-rest-init : goal.loop-rest-init
loop-rest-init c =
    let trees = rest_of c.args.trees in
    let outside = c.args.outside in
    let behind = c.args.behind in
    let added = c.in_ok-add.ensures.spots ∙ ap (λ trees. spots_of c.args.self.now ++ spot outside behind trees ∷ []) c.remaining.ensures in
    let same : c.add.new.self.insides ≡ c.args.self.now.insides = c.add.ensures.insides in (
      ap (λ l. l ++ more_spots outside behind trees) added
          ∙ append_assoc (spots_of c.args.self.now) (spot outside behind trees ∷ []) (more_spots outside behind trees)
          ∙ ap (λ l. spots_of c.args.self.now ++ l) (sym (level_first outside behind trees)),
      same,
      c.requires,
    )

pub loop-rest-preserved : goal.loop-rest-preserved
loop-rest-preserved c =
    let old = rest_of c.loop-rest.rest in
    let trees = rest_of c.next_kind.new.self in
    let outside = c.args.outside in
    let behind = c.args.behind in
    let goes : is_end old ≡ false = search rules in
    let next : trees ≡ after_tree old = c.next_kind.ensures.rest in
    let less = next_less old goes in
    let sizes : size trees ≡ size (after_tree old) = ap size next in
    let bound = c.loop-rest.invariant.2 in
    let same : c.add-in-loop-rest.new.self.insides ≡ c.loop-rest.self.insides = c.add-in-loop-rest.ensures.insides in (
      ap (λ l. l ++ more_spots outside behind trees)
          (c.in_ok-add-2.ensures.spots ∙ ap (λ trees. spots_of c.loop-rest.self ++ spot outside behind trees ∷ []) c.remaining-in-loop-rest.ensures)
          ∙ append_assoc (spots_of c.loop-rest.self) (spot outside behind trees ∷ []) (more_spots outside behind trees)
          ∙ ap (λ l. spots_of c.loop-rest.self ++ l) (sym (level_first outside behind trees) ∙ ap (level_spots outside behind) next ∙ sym (more_next outside behind old goes))
          ∙ c.loop-rest.invariant.0,
      same ∙ c.loop-rest.invariant.1,
      omega (arith, less, sizes, bound),
    )

pub loop-rest-smaller : goal.loop-rest-smaller
loop-rest-smaller c =
    let old = rest_of c.loop-rest.rest in
    let goes : is_end old ≡ false = search rules in
    subst (λ trees. size trees < size old) (sym c.next_kind.ensures.rest) (next_less old goes)

pub add-requires-in-loop-rest : goal.add-requires-in-loop-rest
add-requires-in-loop-rest c =
    let sizes = ap size c.remaining-in-loop-rest.ensures in
    let old = rest_of c.loop-rest.rest in
    let goes : is_end old ≡ false = search rules in
    let less = next_less old goes in
    let next = ap size c.next_kind.ensures.rest in
    let bound = c.loop-rest.invariant.2 in
    omega (arith, sizes, next, less, bound)

pub returns-clause-spots : goal.returns-clause-spots
returns-clause-spots c =
    let trees = rest_of c.loop-rest.rest in
    let over : is_end trees ≡ true = search rules in
    sym (append-nil (spots_of c.loop-rest.self))
    ∙ ap (λ l. spots_of c.loop-rest.self ++ l) (sym (more_none c.args.outside c.args.behind trees over))
    ∙ c.loop-rest.invariant.0
