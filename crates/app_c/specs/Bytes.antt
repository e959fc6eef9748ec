-- Whether bytes are those of a tree.
use Rattle.std.specs.Prelude.{◌≡◌, ◌⊎◌, ℕ, List}
use Rattle.tt_base.specs.Forest.{Root}
use Rattle.tt_bytes.specs.declared.fault.BytesFault.{BytesFault}
use Rattle.tt_bytes.specs.Faults.{IsRefused}
use Rattle.tt_bytes.specs.Format.{AreBytesOf}
use Rattle.app_c.specs.declared.failure.Failure.{Failure}
use Rattle.app_c.specs.Failures.{bytes_failure, input_failure}
use Rattle.app_c.specs.Faults.{number_of}

-- the bytes are those of no tree, with the reason
abbrev pub AreOfNoTree : (bytes : List ℕ) → Failure → Type 0
AreOfNoTree bytes failure = (fault : BytesFault) × IsRefused bytes fault × (failure ≡ bytes_failure fault)

-- the same for the bytes of an input
abbrev pub IsNoInput : (bytes : List ℕ) → Failure → Type 0
IsNoInput bytes failure = (fault : BytesFault) × IsRefused bytes fault × (failure ≡ input_failure fault)

-- the bytes are those of a tree; or they are those of none, with the reason and the byte
abbrev pub IsChecked : (bytes : List ℕ) → (at result : ℕ) → Type 0
IsChecked bytes at result =
    ((root : Root) × AreBytesOf root bytes × (at ≡ 0) × (result ≡ 0))
    ⊎ ((failure : Failure) × AreOfNoTree bytes failure × (at ≡ failure.at) × (result ≡ number_of failure.fault))
