-- The numbers and the texts of the faults.
use Rattle.std.specs.Prelude.{ℕ, List, codes}
use Rattle.tt_base.specs.declared.fault.TtFault.{TtFault}
use Rattle.tt_base.specs.declared.fault.TtFault.TheVariants.{Memory, NotOneSubtree, NoSuchPlace, NotALeaf, SuffixTooLong, BadScan, TooManyTokens, TooManySpanParts, TooManySymbols, TooManyBytes, PointsSpent}

-- the number of a fault
abbrev pub number_of : TtFault → ℕ
number_of Memory = 1
number_of NotOneSubtree = 2
number_of NoSuchPlace = 3
number_of NotALeaf = 4
number_of SuffixTooLong = 5
number_of BadScan = 6
number_of TooManyTokens = 7
number_of TooManySpanParts = 8
number_of TooManySymbols = 9
number_of TooManyBytes = 10
number_of PointsSpent = 11

-- what `Display` writes for a fault
abbrev pub fault_text : TtFault → List ℕ
fault_text Memory = codes "out of memory"
fault_text NotOneSubtree = codes "not one subtree"
fault_text NoSuchPlace = codes "no such place"
fault_text NotALeaf = codes "not a leaf"
fault_text SuffixTooLong = codes "suffix too long"
fault_text BadScan = codes "bad scan"
fault_text TooManyTokens = codes "too many tokens"
fault_text TooManySpanParts = codes "too many span parts"
fault_text TooManySymbols = codes "too many symbols"
fault_text TooManyBytes = codes "too many bytes"
fault_text PointsSpent = codes "points spent"
