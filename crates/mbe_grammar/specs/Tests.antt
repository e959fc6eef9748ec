-- Which units pass a test.
use Rattle.std.specs.Prelude.{◌==◌, ◌||◌, not, ℕ, Bool, true, false, Option, None, Some, List, [], ◌∷◌, codes, bytes_eq}
use Rattle.std.specs.List.{list_any}
use Rattle.tt.specs.Types.DelimiterKind.{DelimiterKind}
use Rattle.tt.specs.Types.DelimiterKind.TheVariants as delimiter
use Rattle.tt.specs.Types.LitKind.{LitKind}
use Rattle.tt.specs.Types.LitKind.TheVariants as lit
use Rattle.mbe_grammar.specs.contracts.unit.UnitPartialEq.TheImpl as unit_impl
use Rattle.mbe_grammar.specs.declared.test.Test.{Test}
use Rattle.mbe_grammar.specs.declared.test.Test.TheVariants as test
use Rattle.mbe_grammar.specs.declared.unit.Unit.{Unit}
use Rattle.mbe_grammar.specs.declared.unit.Unit.TheVariants as unit
use Rattle.mbe_grammar.specs.Units.{size_of_unit}
use Rattle.mbe_grammar.specs.Words.{is_reserved, is_path_segment, is_truth_value, begins_expression}
use Rattle.mbe_grammar.specs.declared.words.Word.{Word}

-- whether two units are the same
abbrev pub same_unit : Unit → Unit → Bool
same_unit = (unit_impl.ghosts).eq

-- the unit is a word of that kind
abbrev pub is_word : (Word → Bool) → Unit → Bool
is_word is_such (unit.Word it) = is_such it
is_word is_such _ = false

-- the unit is a literal
abbrev pub is_literal : Unit → Bool
is_literal (unit.Literal kind) = true
is_literal _ = false

-- the literal is a text
abbrev pub is_text_kind : LitKind → Bool
is_text_kind lit.Str = true
is_text_kind (lit.StrRaw hashes) = true
is_text_kind _ = false

-- the literal is a number
abbrev pub is_number_kind : LitKind → Bool
is_number_kind lit.Integer = true
is_number_kind lit.Float = true
is_number_kind _ = false

-- the unit is a literal of that kind
abbrev pub is_literal_of : (LitKind → Bool) → Unit → Bool
is_literal_of is_such (unit.Literal kind) = is_such kind
is_literal_of is_such _ = false

-- the subtree's delimiters are not printed
abbrev pub is_opaque_kind : DelimiterKind → Bool
is_opaque_kind delimiter.Parenthesis = false
is_opaque_kind delimiter.Brace = false
is_opaque_kind delimiter.Bracket = false
is_opaque_kind delimiter.Invisible = true
is_opaque_kind delimiter.InvisibleOpaque = true

-- the unit is a subtree of that kind
abbrev pub is_subtree_of : (DelimiterKind → Bool) → Unit → Bool
is_subtree_of is_such (unit.Subtree kind) = is_such kind
is_subtree_of is_such _ = false

-- the unit is this punct, or glued puncts that begin with it
abbrev pub has_front : (char : ℕ) → Unit → Bool
has_front char (unit.Punct one) = one == char
has_front char (unit.TwoPuncts one two) = one == char
has_front char (unit.ThreePuncts one two three) = one == char
has_front char _ = false

-- one, two or three puncts from a list
abbrev pub is_among : (ones : List ℕ) → (twos threes : List (List ℕ)) → Unit → Bool
is_among ones twos threes (unit.Punct one) = list_any (λ it. it == one) ones
is_among ones twos threes (unit.TwoPuncts one two) = list_any (λ it. bytes_eq it (one ∷ two ∷ [])) twos
is_among ones twos threes (unit.ThreePuncts one two three) = list_any (λ it. bytes_eq it (one ∷ two ∷ three ∷ [])) threes
is_among ones twos threes _ = false

-- an operator between two operands
abbrev pub is_binary_operator : Unit → Bool
is_binary_operator = is_among (codes "+-*/%^&|<>") (codes "<<" ∷ codes ">>" ∷ codes "==" ∷ codes "!=" ∷ codes "<=" ∷ codes ">=" ∷ codes "&&" ∷ codes "||" ∷ []) []

-- an operator that assigns
abbrev pub is_assignment_operator : Unit → Bool
is_assignment_operator =
    is_among (codes "=")
    (codes "+=" ∷ codes "-=" ∷ codes "*=" ∷ codes "/=" ∷ codes "%=" ∷ codes "^=" ∷ codes "&=" ∷ codes "|=" ∷ [])
    (codes "<<=" ∷ codes ">>=" ∷ [])

-- puncts that an expression begins with
abbrev pub are_first_puncts : Unit → Bool
are_first_puncts =
    is_among (codes "!-*|&<#") (codes "||" ∷ codes "&&" ∷ codes ".." ∷ codes "<<" ∷ codes "::" ∷ []) (codes "..=" ∷ codes "..." ∷ [])

-- the kind of a subtree, other than a block, that an expression begins with
abbrev pub is_first_kind : DelimiterKind → Bool
is_first_kind delimiter.Brace = false
is_first_kind _ = true

-- an expression other than a block may begin with the unit
abbrev pub may_begin_expression : Unit → Bool
may_begin_expression it =
    is_literal it || (same_unit it unit.Lifetime || (is_word begins_expression it || (is_subtree_of is_first_kind it || are_first_puncts it)))

-- the unit, which is not the end, passes the test
abbrev pub passes_test : Test → Unit → Bool
passes_test (test.Is wanted) it = same_unit it wanted
passes_test (test.Front char) it = has_front char it
passes_test test.Any it = true
passes_test test.Name it = is_word (λ word. not (is_reserved word)) it
passes_test test.PathSegment it = is_word is_path_segment it
passes_test test.TruthValue it = is_word is_truth_value it
passes_test test.Literal it = is_literal it
passes_test test.Text it = is_literal_of is_text_kind it
passes_test test.Number it = is_literal_of is_number_kind it
passes_test test.Delimited it = is_subtree_of (λ kind. not (is_opaque_kind kind)) it
passes_test test.Opaque it = is_subtree_of is_opaque_kind it
passes_test (test.Holding kind name) it = same_unit it (unit.Subtree kind)
passes_test (test.OpaqueHolding name) it = is_subtree_of is_opaque_kind it
passes_test test.BinaryOperator it = is_binary_operator it
passes_test test.AssignmentOperator it = is_assignment_operator it
passes_test test.BeginsExpression it = may_begin_expression it

-- the unit passes the test; the end passes none
abbrev pub passes : Test → Unit → Bool
passes wanted unit.End = false
passes wanted it = passes_test wanted it

-- how many trees are taken of a unit that passes the test
abbrev pub taken_size : Test → Unit → ℕ
taken_size (test.Front char) it = 1
taken_size _ it = size_of_unit it

-- the index of the expression that the trees of the subtree must be, for a test that names one
abbrev pub named : Test → Option ℕ
named (test.Holding kind name) = Some name
named (test.OpaqueHolding name) = Some name
named _ = None
