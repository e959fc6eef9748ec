-- The answer of the command that writes a tree as Rust text.
use Rattle.std.specs.Prelude.{◌≡◌, ◌⊎◌, List, ℕ, ◌++◌, Option, None, Some, codes, decimal}
use Rattle.tt.specs.Forest.{Root, only}
use Rattle.tt_base.specs.declared.fault.TtFault.TheVariants.{Memory, TooManyBytes}
use Rattle.app_console.specs.Answer.{line, empty_line, fault_line}
use Rattle.syntax_unparse.specs.Text.{text_of}
use Rattle.syntax_unparse.specs.Writable.{IsWritable, IsWriteFault}
use Rattle.syntax_unparse.specs.declared.fault.WriteFault.{WriteFault}
use Rattle.syntax_unparse.specs.declared.fault.WriteFault.TheVariants as unwritten

-- why a tree is not written: the flat place of the first leaf that cannot be, or a text that is too long for spans
abbrev pub unwritten_line : WriteFault → List ℕ
unwritten_line (unwritten.NotWritable at) = line (codes "not writable " ++ decimal at)
unwritten_line unwritten.TooLong = fault_line TooManyBytes
unwritten_line unwritten.Memory = fault_line Memory

-- the text of a slot's tree, or why it has none
abbrev pub WritesText : Option Root → List ℕ → Type 0
WritesText None answer = answer ≡ empty_line
WritesText (Some root) answer =
    (IsWritable (only root) × (answer ≡ line (text_of (only root))))
    ⊎ ((fault : WriteFault) × IsWriteFault (only root) fault × (answer ≡ unwritten_line fault))
