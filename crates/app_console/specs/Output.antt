-- What a writer and the pending bytes amount to.
use Rattle.std.specs.Prelude.{ℕ, List, Option}
use Rattle.std.specs.Io.KnownBytes.{append_known}
use Rattle.app_console.specs.declared.noted.Noted.{Noted}
use Rattle.app_console.specs.Noted.{noted_inner}

-- all that was put out: what the writer took, and then what is pending
abbrev pub text_reported : {W : Type 0} → (W → Option (List ℕ)) → Noted W → List ℕ → Option (List ℕ)
text_reported contents writer pending = append_known (contents (noted_inner writer)) pending
