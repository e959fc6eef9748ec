use Rattle.std.proofs.Common.{rules, ◌≡◌, inl, inr, true}
use Rattle.mbe_program.specs.Searching.{ways_of, coming_of}
use Rattle.mbe_program.specs.Ways.{way_of}
use Rattle.mbe_program.specs.declared.search.Way.TheVariants as way
use Rattle.mbe_program.proofs.Putting.{put_alike, put_set, put_roomy, one_weighs, two_weigh}
use Rattle.mbe_program.proofs.Results.{on_both, on_ok}
use Rattle.mbe_program.proofs.search.Search.add.Goals as goal

pub returns-in-Unseen-clause-added : goal.returns-in-Unseen-clause-added
returns-in-Unseen-clause-added c =
    let it = c.args.arrival in
    let none : ways_of c.args.self.now it.cell ≡ way.Unseen = search rules in
    on_both c.put.result
    (λ cells log. inl (none, put_set c.args.self.now c.put.new.self it.cell (way_of it.is_many) c.requires.cell c.put.ensures.width cells, log))
    c.put.ensures.cells c.put.ensures.log

pub returns-in-Unseen-clause-now_roomy : goal.returns-in-Unseen-clause-now_roomy
returns-in-Unseen-clause-now_roomy c =
    let it = c.args.arrival in
    let none : ways_of c.args.self.now it.cell ≡ way.Unseen = search rules in
    on_both c.put.result
    (λ cells log. put_roomy c.args.self.now c.put.new.self it.cell (way_of it.is_many) c.requires.cell c.put.ensures.width cells (coming_of it) log (one_weighs it.is_many (ways_of c.args.self.now it.cell) none) c.requires.roomy)
    c.put.ensures.cells c.put.ensures.log

pub returns-in-Once-clause-added : goal.returns-in-Once-clause-added
returns-in-Once-clause-added c =
    let it = c.args.arrival in
    let one : ways_of c.args.self.now it.cell ≡ way.Once = search rules in
    on_both c.put-in-Once.result
    (λ cells log. inr (inl (one, put_set c.args.self.now c.put-in-Once.new.self it.cell way.Often c.requires.cell c.put-in-Once.ensures.width cells, log)))
    c.put-in-Once.ensures.cells c.put-in-Once.ensures.log

pub returns-in-Once-clause-now_roomy : goal.returns-in-Once-clause-now_roomy
returns-in-Once-clause-now_roomy c =
    let it = c.args.arrival in
    let one : ways_of c.args.self.now it.cell ≡ way.Once = search rules in
    on_both c.put-in-Once.result
    (λ cells log. put_roomy c.args.self.now c.put-in-Once.new.self it.cell way.Often c.requires.cell c.put-in-Once.ensures.width cells (record (coming_of it) { is_many = true }) log (two_weigh (ways_of c.args.self.now it.cell) one) c.requires.roomy)
    c.put-in-Once.ensures.cells c.put-in-Once.ensures.log

pub returns-in-Unseen-clause-alike : goal.returns-in-Unseen-clause-alike
returns-in-Unseen-clause-alike c =
    let it = c.args.arrival in
    on_ok c.put.result (λ cells. put_alike c.args.self.now c.put.new.self it.cell (way_of it.is_many) c.requires.cell c.put.ensures.width cells) c.put.ensures.cells

pub returns-in-Once-clause-alike : goal.returns-in-Once-clause-alike
returns-in-Once-clause-alike c =
    let it = c.args.arrival in
    on_ok c.put-in-Once.result (λ cells. put_alike c.args.self.now c.put-in-Once.new.self it.cell way.Often c.requires.cell c.put-in-Once.ensures.width cells) c.put-in-Once.ensures.cells
