-- The stage of a session and its writer.
use Rattle.std.specs.Prelude.{ℕ, Bool, List, Option}
use Rattle.app_console.specs.declared.noted.Noted.{Noted}
use Rattle.app_console.specs.Noted.{noted_failed}
use Rattle.app_console.specs.Output.{text_reported}
use Rattle.app_console.specs.Progress.{Progress}
use Rattle.app_console.specs.State.{State}

-- the machine, the begun line, the number of lines answered, all that was put out, and whether the writer has failed
pub record Stage : Type 0 where
  pub machine : State
  pub begun : List ℕ
  pub count : ℕ
  pub reported : Option (List ℕ)
  pub failed : Bool

-- the stage of a session and its writer
abbrev pub stage_of : {W : Type 0} → (W → Option (List ℕ)) → Progress → Noted W → Stage
stage_of contents session writer = record {
  machine = session.machine;
  begun = session.begun;
  count = session.count;
  reported = text_reported contents writer session.pending;
  failed = noted_failed writer;
}
