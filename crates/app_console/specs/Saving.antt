-- The answers of the commands that write a tree as one piece of bytes and read it, and the state after them.
use Rattle.hex.specs.Hex.{encode_lower}
use Rattle.std.specs.Prelude.{◌≡◌, ◌⊎◌, ℕ, List, Option, None, Some}
use Rattle.tt.specs.Forest.{Root}
use Rattle.tt_base.specs.declared.fault.TtFault.{TtFault}
use Rattle.tt_bytes.specs.declared.fault.BytesFault.{BytesFault}
use Rattle.tt_bytes.specs.Faults.{IsRefused}
use Rattle.tt_bytes.specs.Format.{AreBytesOf, IsRefusal}
use Rattle.app_console.specs.Answer.{line, ok_line, empty_line, fault_line, bytes_line}
use Rattle.app_console.specs.State.{State, with_tree}

-- the bytes of a slot's tree in hexadecimal digits, or why it has none
abbrev pub Saves : Option Root → List ℕ → Type 0
Saves None answer = answer ≡ empty_line
Saves (Some root) answer =
    ((bytes : List ℕ) × AreBytesOf root bytes × (answer ≡ line (encode_lower bytes)))
    ⊎ ((fault : TtFault) × IsRefusal root fault × (answer ≡ fault_line fault))

-- the tree of the bytes goes to the slot, or the answer says why they are those of none
abbrev pub Loads : State → (slot : ℕ) → (bytes : List ℕ) → List ℕ → State → Type 0
Loads old slot bytes answer new =
    ((root : Root) × AreBytesOf root bytes × (answer ≡ ok_line) × (new ≡ with_tree old slot root))
    ⊎ ((fault : BytesFault) × IsRefused bytes fault × (answer ≡ bytes_line fault) × (new ≡ old))
