-- What is finally written of the rest of a template.
use Rattle.std.proofs.Common.{◌≡◌, ◌≤◌, List, [], ◌∷◌, Some, None, Option, refl, ap, ◌∙◌, arith}
use Rattle.tt.specs.Building.{Stack, append, tokens_held}
use Rattle.tt.specs.Forest.{end}
use Rattle.tt.specs.Siblings.{leaves}
use Rattle.tt_base.proofs.Appending.{append-end, append-join, held-append, held-close}
use Rattle.mbe_rules.specs.Transcribing.{TranscribeFault, Transcribed, all_transcribed, faulted, and_then, more_rounds, transcribed}
use Rattle.mbe_rules.specs.Writing.{Closing, last, shut, again, Level, Written, write, behind_end, finished}

-- a stack, and no fault
abbrev pub sound : Stack → Written
sound stack = record { stack = stack; fault = None }

-- a stack, and a fault
abbrev pub faulty : Stack → TranscribeFault → Written
faulty stack fault = record { stack = stack; fault = Some fault }

-- Nothing more is written.
pub write_nothing : (it : Written) → write (all_transcribed end) it ≡ it
write_nothing it = by it.fault it.stack
  where
    by : (fault : Option TranscribeFault) (stack : Stack) → write (all_transcribed end) (record { stack = stack; fault = fault }) ≡ record { stack = stack; fault = fault }
    by None stack = ap sound (append-end stack)
    by (Some fault) stack = refl

-- One is written, and then the other.
pub write_both : (a b : Transcribed) (it : Written) → write (and_then a b) it ≡ write b (write a it)
write_both a b it = by it.fault a.fault it.stack
  where
    by : (before fault : Option TranscribeFault) (stack : Stack)
        → write (and_then (record { trees = a.trees; fault = fault }) b) (record { stack = stack; fault = before })
        ≡ write b (write (record { trees = a.trees; fault = fault }) (record { stack = stack; fault = before }))
    by (Some f) fault stack = refl
    by None (Some f) stack = refl
    by None None stack = ap (λ s. record { stack = s; fault = b.fault }) (append-join a.trees b.trees stack)

-- No fewer tokens are held.
held-write : (it : Transcribed) (before : Written) → tokens_held before.stack ≤ tokens_held (write it before).stack
held-write it before = by before.fault before.stack
  where
    by : (fault : Option TranscribeFault) (stack : Stack) → tokens_held stack ≤ tokens_held (write it (record { stack = stack; fault = fault })).stack
    by None stack = omega (arith, held-append it.trees stack)
    by (Some fault) stack = omega arith

held-behind : (closing : Closing) (it : Written) → tokens_held it.stack ≤ tokens_held (behind_end closing it).stack
held-behind last it = omega arith
held-behind (shut span) it = omega (arith, held-close span it.stack)
held-behind (again body separator kind left others) it = held-write (more_rounds (transcribed body) (leaves separator) left others) it

pub held_less : (levels : List Level) (it : Written) → tokens_held it.stack ≤ tokens_held (finished levels it).stack
held_less [] it = omega arith
held_less (level ∷ outer) it =
    let next = write (transcribed level.rest level.binding) it in
    omega (arith, held-write (transcribed level.rest level.binding) it, held-behind level.closing next, held_less outer (behind_end level.closing next))

-- After a fault nothing more is written.
behind_fault : (closing : Closing) (stack : Stack) (fault : TranscribeFault) → (behind_end closing (faulty stack fault)).fault ≡ Some fault
behind_fault last stack fault = refl
behind_fault (shut span) stack fault = refl
behind_fault (again body separator kind left others) stack fault = refl

behind_held : (closing : Closing) (stack : Stack) (fault : TranscribeFault) → tokens_held (behind_end closing (faulty stack fault)).stack ≡ tokens_held stack
behind_held last stack fault = refl
behind_held (shut span) stack fault = held-close span stack
behind_held (again body separator kind left others) stack fault = refl

fault_stays : (levels : List Level) (it : Written) (fault : TranscribeFault) → it.fault ≡ Some fault → (finished levels it).fault ≡ Some fault
fault_stays [] it fault is = is
fault_stays (level ∷ outer) it fault is =
    ap (λ f. (finished outer (behind_end level.closing (write (transcribed level.rest level.binding) (record { stack = it.stack; fault = f })))).fault) is
    ∙ fault_stays outer (behind_end level.closing (faulty it.stack fault)) fault (behind_fault level.closing it.stack fault)

held_stays : (levels : List Level) (it : Written) (fault : TranscribeFault) → it.fault ≡ Some fault → tokens_held (finished levels it).stack ≡ tokens_held it.stack
held_stays [] it fault is = refl
held_stays (level ∷ outer) it fault is =
    ap (λ f. tokens_held (finished outer (behind_end level.closing (write (transcribed level.rest level.binding) (record { stack = it.stack; fault = f })))).stack) is
    ∙ held_stays outer (behind_end level.closing (faulty it.stack fault)) fault (behind_fault level.closing it.stack fault)
    ∙ behind_held level.closing it.stack fault

-- So a fault that nothing is written before is the fault of the whole.
pub fault_ends : (levels : List Level) (fault : TranscribeFault) (stack : Stack)
    → ((finished levels (write (faulted fault) (sound stack))).fault ≡ Some fault)
    × (tokens_held (finished levels (write (faulted fault) (sound stack))).stack ≡ tokens_held stack)
fault_ends levels fault stack =
    let written = faulty (append end stack) fault in (
      fault_stays levels written fault refl,
      held_stays levels written fault refl ∙ omega (arith, held-append end stack),
    )
