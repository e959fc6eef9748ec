-- A step is one of the definition, with the waiting frames and the log.
use Rattle.std.proofs.Common.{rules, ◌≡◌, ◌∷◌, ◌++◌, [], reverse, Some, None, ap, ◌∙◌}
use Rattle.mbe_grammar.specs.Known.{glance_at}
use Rattle.mbe_grammar.specs.Places.{position_of, trees_in}
use Rattle.mbe_grammar.proofs.Floor.{floor_same, floor_pushed, floor_popped, kept_same, kept_popped}
use Rattle.mbe_grammar.proofs.Log.{room_same}
use Rattle.mbe_grammar.proofs.Stepping.{pushed, is_new, reads, pops, waits_none, waits_some, room_pushed, room_popped}
use Rattle.mbe_grammar.proofs.machine.step.Goals as goal

pub returns-in_ok-put-in-Reading-clause-step : goal.returns-in_ok-put-in-Reading-clause-step
returns-in_ok-put-in-Reading-clause-step c =
    let trees = trees_in c.args.units.now in
    let is : c.in_ok-state-in-Reading.field-0.waiting ≡ Some c.in-Some.it = search rules in
    let more : c.put.new.list.items ≡ c.args.frames.now.items ++ c.frame.result ∷ [] = search rules in
    let after : reverse c.put.new.list.items ≡ c.frame.result ∷ reverse c.args.frames.now.items = ap reverse more ∙ pushed c.args.frames.now.items c.frame.result in
    let new = is_new trees c.args.noting (glance_at c.args.table.known.now) c.args.table.rules.now c.args.log.now.items c.begin.new.log.items c.args.here.now c.begin.new.here c.in-Reading.at
    c.in_ok-state-in-Reading.field-0 c.in-Some.it c.frame.result c.in_ok-state-in-Reading.ensures.begun is c.frame.ensures.room in
    reads c.args.noting (glance_at c.args.table.known.now) c.args.table.rules.now trees c.args.log.now.items c.begin.new.log.items c.args.here.now c.begin.new.here c.args.state c.in-Reading.at c.in-Reading.is c.in_ok-state-in-Reading.field-0
    (reverse c.args.frames.now.items) (reverse c.put.new.list.items) c.in_ok-state-in-Reading.ensures.begun
    (waits_some trees c.args.log.now.items c.begin.new.log.items (position_of trees c.begin.new.log.items c.begin.new.here) c.in_ok-state-in-Reading.field-0.waiting c.in-Some.it c.frame.result
    (reverse c.args.frames.now.items) (reverse c.put.new.list.items) is after (c.frame.ensures.frame trees) new c.in_ok-state-in-Reading.ensures.log c.requires.room)

pub returns-in_ok-put-in-Reading-clause-room : goal.returns-in_ok-put-in-Reading-clause-room
returns-in_ok-put-in-Reading-clause-room c =
    let trees = trees_in c.args.units.now in
    let more : c.put.new.list.items ≡ c.args.frames.now.items ++ c.frame.result ∷ [] = search rules in
    let after : reverse c.put.new.list.items ≡ c.frame.result ∷ reverse c.args.frames.now.items = ap reverse more ∙ pushed c.args.frames.now.items c.frame.result in
    let is : c.in_ok-state-in-Reading.field-0.waiting ≡ Some c.in-Some.it = search rules in
    let new = is_new trees c.args.noting (glance_at c.args.table.known.now) c.args.table.rules.now c.args.log.now.items c.begin.new.log.items c.args.here.now c.begin.new.here c.in-Reading.at
    c.in_ok-state-in-Reading.field-0 c.in-Some.it c.frame.result c.in_ok-state-in-Reading.ensures.begun is c.frame.ensures.room in
    room_pushed c.args.log.now.items c.begin.new.log.items c.frame.result (reverse c.args.frames.now.items) (reverse c.put.new.list.items) after
    new c.in_ok-state-in-Reading.ensures.log c.requires.room

pub returns-in_default-clause-step : goal.returns-in_default-clause-step
returns-in_default-clause-step c =
    let trees = trees_in c.args.units.now in
    let is : c.in_ok-state-in-Reading.field-0.waiting ≡ None = search rules in
    reads c.args.noting (glance_at c.args.table.known.now) c.args.table.rules.now trees c.args.log.now.items c.begin.new.log.items c.args.here.now c.begin.new.here c.args.state c.in-Reading.at c.in-Reading.is c.in_ok-state-in-Reading.field-0
    (reverse c.args.frames.now.items) (reverse c.args.frames.now.items) c.in_ok-state-in-Reading.ensures.begun
    (waits_none trees c.args.log.now.items c.begin.new.log.items (position_of trees c.begin.new.log.items c.begin.new.here) c.in_ok-state-in-Reading.field-0.waiting
    (reverse c.args.frames.now.items) is c.in_ok-state-in-Reading.ensures.log c.requires.room)

pub returns-in_default-clause-room : goal.returns-in_default-clause-room
returns-in_default-clause-room c = room_same c.args.log.now.items c.begin.new.log.items (reverse c.args.frames.now.items) c.in_ok-state-in-Reading.ensures.log c.requires.room

pub returns-in_ok-resume-in-Some-pop-clause-step : goal.returns-in_ok-resume-in-Some-pop-clause-step
returns-in_ok-resume-in-Some-pop-clause-step c =
    let trees = trees_in c.args.units.now in
    let less : c.args.frames.now.items ≡ c.pop.new.self.items ++ c.in-Some-pop.frame ∷ [] = search rules in
    let was : reverse c.args.frames.now.items ≡ c.in-Some-pop.frame ∷ reverse c.pop.new.self.items = ap reverse less ∙ pushed c.pop.new.self.items c.in-Some-pop.frame in
    pops c.args.noting (glance_at c.args.table.known.now) c.args.table.rules.now trees c.args.log.now.items c.resume.new.log.items c.args.here.now c.resume.new.here c.args.state c.in-Answered.ends c.in-Answered.is c.in-Some-pop.frame
    (reverse c.args.frames.now.items) (reverse c.pop.new.self.items) was c.in_ok-resume-in-Some-pop.field-0 c.in_ok-resume-in-Some-pop.ensures.state c.in_ok-resume-in-Some-pop.ensures.log c.requires.room

pub returns-in_ok-resume-in-Some-pop-clause-room : goal.returns-in_ok-resume-in-Some-pop-clause-room
returns-in_ok-resume-in-Some-pop-clause-room c =
    let less : c.args.frames.now.items ≡ c.pop.new.self.items ++ c.in-Some-pop.frame ∷ [] = search rules in
    let was : reverse c.args.frames.now.items ≡ c.in-Some-pop.frame ∷ reverse c.pop.new.self.items = ap reverse less ∙ pushed c.pop.new.self.items c.in-Some-pop.frame in
    room_popped c.args.log.now.items c.resume.new.log.items c.in-Some-pop.frame (reverse c.args.frames.now.items) (reverse c.pop.new.self.items) was c.in_ok-resume-in-Some-pop.ensures.log c.requires.room

pub returns-in_err-state-in-Reading-clause-kept : goal.returns-in_err-state-in-Reading-clause-kept
returns-in_err-state-in-Reading-clause-kept c floor h =
    kept_same floor c.args.log.now.items c.begin.new.log.items (reverse c.args.frames.now.items) c.in_err-state-in-Reading.ensures.log c.requires.room h

pub returns-in_err-put-in-Reading-clause-kept : goal.returns-in_err-put-in-Reading-clause-kept
returns-in_err-put-in-Reading-clause-kept c floor h =
    kept_same floor c.args.log.now.items c.begin.new.log.items (reverse c.args.frames.now.items) c.in_ok-state-in-Reading.ensures.log c.requires.room h

pub returns-in_ok-put-in-Reading-clause-floor : goal.returns-in_ok-put-in-Reading-clause-floor
returns-in_ok-put-in-Reading-clause-floor c floor h =
    let trees = trees_in c.args.units.now in
    let more : c.put.new.list.items ≡ c.args.frames.now.items ++ c.frame.result ∷ [] = search rules in
    let after : reverse c.put.new.list.items ≡ c.frame.result ∷ reverse c.args.frames.now.items = ap reverse more ∙ pushed c.args.frames.now.items c.frame.result in
    let is : c.in_ok-state-in-Reading.field-0.waiting ≡ Some c.in-Some.it = search rules in
    let new = is_new trees c.args.noting (glance_at c.args.table.known.now) c.args.table.rules.now c.args.log.now.items c.begin.new.log.items c.args.here.now c.begin.new.here c.in-Reading.at
    c.in_ok-state-in-Reading.field-0 c.in-Some.it c.frame.result c.in_ok-state-in-Reading.ensures.begun is c.frame.ensures.room in
    floor_pushed floor c.args.log.now.items c.begin.new.log.items c.frame.result (reverse c.args.frames.now.items) (reverse c.put.new.list.items) after
    new c.in_ok-state-in-Reading.ensures.log h

pub returns-in_ok-put-in-Reading-clause-kept : goal.returns-in_ok-put-in-Reading-clause-kept
returns-in_ok-put-in-Reading-clause-kept c floor h =
    kept_same floor c.args.log.now.items c.begin.new.log.items (reverse c.args.frames.now.items) c.in_ok-state-in-Reading.ensures.log c.requires.room h

pub returns-in_default-clause-floor : goal.returns-in_default-clause-floor
returns-in_default-clause-floor c floor h =
    floor_same floor c.args.log.now.items c.begin.new.log.items (reverse c.args.frames.now.items) c.in_ok-state-in-Reading.ensures.log h

pub returns-in_default-clause-kept : goal.returns-in_default-clause-kept
returns-in_default-clause-kept c floor h =
    kept_same floor c.args.log.now.items c.begin.new.log.items (reverse c.args.frames.now.items) c.in_ok-state-in-Reading.ensures.log c.requires.room h

pub returns-in_err-resume-in-Some-pop-clause-kept : goal.returns-in_err-resume-in-Some-pop-clause-kept
returns-in_err-resume-in-Some-pop-clause-kept c floor h =
    let less : c.args.frames.now.items ≡ c.pop.new.self.items ++ c.in-Some-pop.frame ∷ [] = search rules in
    let was : reverse c.args.frames.now.items ≡ c.in-Some-pop.frame ∷ reverse c.pop.new.self.items = ap reverse less ∙ pushed c.pop.new.self.items c.in-Some-pop.frame in
    kept_popped floor c.args.log.now.items c.resume.new.log.items c.in-Some-pop.frame (reverse c.args.frames.now.items) (reverse c.pop.new.self.items) was c.in_err-resume-in-Some-pop.ensures.log c.requires.room h

pub returns-in_ok-resume-in-Some-pop-clause-floor : goal.returns-in_ok-resume-in-Some-pop-clause-floor
returns-in_ok-resume-in-Some-pop-clause-floor c floor h =
    let less : c.args.frames.now.items ≡ c.pop.new.self.items ++ c.in-Some-pop.frame ∷ [] = search rules in
    let was : reverse c.args.frames.now.items ≡ c.in-Some-pop.frame ∷ reverse c.pop.new.self.items = ap reverse less ∙ pushed c.pop.new.self.items c.in-Some-pop.frame in
    floor_popped floor c.args.log.now.items c.resume.new.log.items c.in-Some-pop.frame (reverse c.args.frames.now.items) (reverse c.pop.new.self.items) was c.in_ok-resume-in-Some-pop.ensures.log c.requires.room h

pub returns-in_ok-resume-in-Some-pop-clause-kept : goal.returns-in_ok-resume-in-Some-pop-clause-kept
returns-in_ok-resume-in-Some-pop-clause-kept c floor h =
    let less : c.args.frames.now.items ≡ c.pop.new.self.items ++ c.in-Some-pop.frame ∷ [] = search rules in
    let was : reverse c.args.frames.now.items ≡ c.in-Some-pop.frame ∷ reverse c.pop.new.self.items = ap reverse less ∙ pushed c.pop.new.self.items c.in-Some-pop.frame in
    kept_popped floor c.args.log.now.items c.resume.new.log.items c.in-Some-pop.frame (reverse c.args.frames.now.items) (reverse c.pop.new.self.items) was c.in_ok-resume-in-Some-pop.ensures.log c.requires.room h
