-- The progress of a session.
use Rattle.std.specs.Coded.{Coded, code_by, coded×, coded_list, coded_ℕ}
use Rattle.std.specs.Prelude.{ℕ, List, [], refl}
use Rattle.app_console.specs.State.{State, start, state_code}

-- the machine, the begun line, the number of lines answered, and the answers that are not written yet
pub record Progress : Type 0 where
  pub machine : State
  pub begun : List ℕ
  pub count : ℕ
  pub pending : List ℕ

-- before the first byte
abbrev pub fresh : Progress
fresh = record { machine = start; begun = []; count = 0; pending = [] }

-- stored as its parts
abbrev pub progress_code : Coded Progress
progress_code =
    code_by ((State × List ℕ) × (ℕ × List ℕ)) (coded× (coded× state_code (coded_list coded_ℕ)) (coded× coded_ℕ (coded_list coded_ℕ)))
    (λ p. ((p.machine, p.begun), (p.count, p.pending))) (λ c. record { machine = c.0.0; begun = c.0.1; count = c.1.0; pending = c.1.1 }) (λ _. refl)
