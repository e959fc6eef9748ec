-- The lines of the machine's answers.
use Rattle.std.specs.Prelude.{ℕ, List, [], ◌∷◌, ◌++◌, codes, decimal}
use Rattle.tt_base.specs.Fault.{number_of}
use Rattle.tt_base.specs.declared.fault.TtFault.{TtFault}
use Rattle.tt_base.specs.declared.fault.TtFault.TheVariants.{Memory}
use Rattle.tt_bytes.specs.declared.fault.BytesFault.{BytesFault}
use Rattle.tt_bytes.specs.declared.fault.BytesFault.TheVariants as bytes
use Rattle.mbe_rule.specs.declared.fault.RuleFault.{RuleFault}
use Rattle.mbe_rule.specs.declared.fault.RuleFault.TheVariants as rule

-- a text and its line feed
abbrev pub line : List ℕ → List ℕ
line text = text ++ 10 ∷ []

-- the command was carried out
abbrev pub ok_line : List ℕ
ok_line = line (codes "ok")

-- a slot that a command reads contains no tree
abbrev pub empty_line : List ℕ
empty_line = line (codes "empty")

-- a command puts a slot's own tree into it
abbrev pub same_line : List ℕ
same_line = line (codes "same")

-- there is no builder
abbrev pub no_builder_line : List ℕ
no_builder_line = line (codes "no builder")

-- no subtree is open in the builder
abbrev pub none_open_line : List ℕ
none_open_line = line (codes "none open")

-- a subtree is open in the builder
abbrev pub still_open_line : List ℕ
still_open_line = line (codes "still open")

-- the answer to the command is yes
abbrev pub yes_line : List ℕ
yes_line = line (codes "yes")

-- the answer to the command is no
abbrev pub no_line : List ℕ
no_line = line (codes "no")

-- the command was refused, with this fault
abbrev pub fault_line : TtFault → List ℕ
fault_line fault = line (codes "fault " ++ decimal (number_of fault))

-- the input is no instance of the pattern
abbrev pub no_match_line : List ℕ
no_match_line = line (codes "no match")

-- the rule has this fault; if memory for it ran out, the command was refused
abbrev pub rule_line : RuleFault → List ℕ
rule_line rule.BadPattern = line (codes "rule 1")
rule_line rule.BadTemplate = line (codes "rule 2")
rule_line rule.DuplicateName = line (codes "rule 3")
rule_line rule.UnknownName = line (codes "rule 4")
rule_line rule.Memory = fault_line Memory

-- the bytes are those of no tree, which shows at that byte; if memory ran out, the command was refused
abbrev pub bytes_line : BytesFault → List ℕ
bytes_line bytes.Memory = fault_line Memory
bytes_line (bytes.TooShort at) = line (codes "bytes " ++ decimal at ++ codes " too short")
bytes_line (bytes.OtherFormat at) = line (codes "bytes " ++ decimal at ++ codes " another format")
bytes_line (bytes.NoText at) = line (codes "bytes " ++ decimal at ++ codes " no text")
bytes_line (bytes.NoTree at) = line (codes "bytes " ++ decimal at ++ codes " no tree")
bytes_line (bytes.StoredOtherwise at) = line (codes "bytes " ++ decimal at ++ codes " stored otherwise")
