-- What is left to be filled of a template, level by level.
use Rattle.std.specs.Prelude.{ℕ, List, [], ◌∷◌, Option, None, Some}
use Rattle.tt.specs.Building.{Stack, append, close_innermost}
use Rattle.tt.specs.Siblings.{leaves}
use Rattle.tt.specs.Types.Leaf.{Leaf}
use Rattle.tt.specs.Types.Span.{Span}
use Rattle.mbe_pattern.specs.declared.pattern.RepeatKind.{RepeatKind}
use Rattle.mbe_matcher.specs.Bindings.{Binding}
use Rattle.mbe_rules.specs.declared.transcribe.Transcriber.{Transcriber}
use Rattle.mbe_rules.specs.Transcribing.{TranscribeFault, Transcribed, transcribed, more_rounds}
use Rattle.mbe_rules.specs.Parts.{Bit, leave, close}
use Rattle.mbe_rules.specs.Templates.{Template}

-- what follows the end of a level: nothing, the rest of what encloses a subtree, or that many more rounds and then what follows them
pub data Closing : Type 0 where
  last : Closing
  shut : Span → Closing
  again : (body : Template) → (separator : List Leaf) → RepeatKind → (left : ℕ) → (others : Binding) → Closing

-- what is left of a level, and what is bound there
pub record Level : Type 0 where
  pub rest : Template
  pub binding : Binding
  pub closing : Closing

-- the end of a level
abbrev pub end_of : Closing → Bit
end_of last = leave
end_of (shut span) = leave
end_of (again body separator kind left others) = close separator kind

-- what is written, and the first fault, if there is one
pub record Written : Type 0 where
  pub stack : Stack
  pub fault : Option TranscribeFault

abbrev pub written_by : Transcriber → Written
written_by transcriber = record { stack = transcriber.builder.stack; fault = None }

-- more is written if there was no fault
abbrev pub write_if : Option TranscribeFault → Transcribed → Stack → Written
write_if None it stack = record { stack = append it.trees stack; fault = it.fault }
write_if (Some fault) it stack = record { stack = stack; fault = Some fault }

abbrev pub write : Transcribed → Written → Written
write it before = write_if before.fault it before.stack

-- after the end of a level, a subtree is closed, or the rounds that are left are written
abbrev pub behind_end : Closing → Written → Written
behind_end last it = it
behind_end (shut span) it = record { stack = close_innermost span it.stack; fault = it.fault }
behind_end (again body separator kind left others) it = write (more_rounds (transcribed body) (leaves separator) left others) it

-- everything that is left is written, the innermost level first
abbrev pub finished : List Level → Written → Written
finished [] it = it
finished (level ∷ outer) it = finished outer (behind_end level.closing (write (transcribed level.rest level.binding) it))
