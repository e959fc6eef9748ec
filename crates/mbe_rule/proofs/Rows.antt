-- Worked rules: each holds by computation.
use Rattle.std.proofs.Common.{◌≡◌, ℕ, List, [], ◌∷◌, None, Some, codes, refl}
use Rattle.tt.specs.Forest.{Forest, end, leaf, node, join}
use Rattle.tt.specs.Token.{delimiter}
use Rattle.tt.specs.Types.DelimiterKind.TheVariants.{Parenthesis, Brace, Bracket, Invisible, InvisibleOpaque}
use Rattle.tt.specs.Types.IdentIsRaw.TheVariants.{No, Yes}
use Rattle.tt.specs.Types.Leaf.{Leaf}
use Rattle.tt.specs.Types.Leaf.TheVariants as leaf_of
use Rattle.tt.specs.Types.Spacing.TheVariants.{Alone, Joint}
use Rattle.tt_base.proofs.Samples.{span, punct, ident, subtree}
use Rattle.mbe_rule.specs.declared.fault.RuleFault.TheVariants.{BadPattern, BadTemplate, DuplicateName, UnknownName}
use Rattle.mbe_rule.specs.declared.variable.Name.{Name}
use Rattle.mbe_rule.specs.Faults.{rule_fault}
use Rattle.mbe_rule.specs.Instances.{Binding, IsInstance, pattern_of, filled}

-- the name x, and the raw one
abbrev plain : List ℕ → Name
plain text = record { text = text; is_raw = No }

-- a raw ident
abbrev raw : List ℕ → Leaf
raw text = leaf_of.Ident (record { sym = text; span = span 0 1; is_raw = Yes })

-- `$` and a name before other siblings
abbrev used : List ℕ → Forest → Forest
used text rest = leaf (punct 36 Alone) (leaf (ident text) rest)

-- a variable before other siblings
abbrev var : (name kind : List ℕ) → Forest → Forest
var name kind rest = used name (leaf (punct 58 Joint) (leaf (ident kind) rest))

-- an ident alone
abbrev one : List ℕ → Forest
one text = leaf (ident text) end

-- `$x:ident` makes `[b]` of `b` by `[$x]`.
ident_taken : IsInstance (pattern_of (var (codes "x") (codes "ident") end)) (one (codes "b")) ((plain (codes "x"), one (codes "b")) ∷ [])
ident_taken = ([], refl, refl, (refl, refl))

ident_placed : filled ((plain (codes "x"), one (codes "b")) ∷ []) (subtree Bracket (used (codes "x") end)) ≡ subtree Bracket (one (codes "b"))
ident_placed = refl

-- `_`, two idents and nothing are no instances of it.
no_underscore : (b : Binding) → IsInstance (pattern_of (var (codes "x") (codes "ident") end)) (one (codes "_")) b → ⊥
no_underscore b (more, taken, bound, rest) = cc taken

no_second : (b : Binding) → IsInstance (pattern_of (var (codes "x") (codes "ident") end)) (leaf (ident (codes "b")) (one (codes "b"))) b → ⊥
no_second b (more, taken, bound, rest) = cc rest.0

none_left : (b : Binding) → IsInstance (pattern_of (var (codes "x") (codes "ident") end)) end b → ⊥
none_left b (more, taken, bound, rest) = cc taken

-- A subtree is taken whole, and can be used twice.
tree_taken : IsInstance (pattern_of (var (codes "t") (codes "tt") end)) (subtree Parenthesis (one (codes "a"))) ((plain (codes "t"), subtree Parenthesis (one (codes "a"))) ∷ [])
tree_taken = ([], refl, refl, (refl, refl))

tree_placed : filled ((plain (codes "t"), subtree Parenthesis (one (codes "a"))) ∷ []) (used (codes "t") (used (codes "t") end))
    ≡ join (subtree Parenthesis (one (codes "a"))) (subtree Parenthesis (one (codes "a")))
tree_placed = refl

-- A truth value is a literal.
truth_taken : IsInstance (pattern_of (var (codes "l") (codes "literal") end)) (one (codes "true")) ((plain (codes "l"), one (codes "true")) ∷ [])
truth_taken = ([], refl, refl, (refl, refl))

-- Subtrees agree by kind.
in_parentheses : IsInstance (pattern_of (subtree Parenthesis (var (codes "x") (codes "tt") end))) (subtree Parenthesis (one (codes "a"))) ((plain (codes "x"), one (codes "a")) ∷ [])
in_parentheses = ((plain (codes "x"), one (codes "a")) ∷ [], [], refl, refl, ([], refl, refl, (refl, refl)), (refl, refl))

in_brackets : (b : Binding) → IsInstance (pattern_of (subtree Parenthesis end)) (subtree Bracket end) b → ⊥
in_brackets b (held, more, like, bound, below, rest) = cc like

-- An ident agrees by rawness too.
no_raw : (b : Binding) → IsInstance (pattern_of (one (codes "x"))) (leaf (raw (codes "x")) end) b → ⊥
no_raw b (like, rest) = cc like.1

-- A punct agrees by its character, with any spacing; an opaque subtree is no invisible one.
spaced : IsInstance (pattern_of (leaf (punct 61 Joint) end)) (leaf (punct 61 Alone) end) []
spaced = (refl, (refl, refl))

no_opaque : (b : Binding) → IsInstance (pattern_of (subtree Invisible end)) (subtree InvisibleOpaque end) b → ⊥
no_opaque b (held, more, like, bound, below, rest) = cc like

-- Each use takes the tree of its own name, and a use disappears with its name.
each_its_own : filled ((plain (codes "x"), one (codes "a")) ∷ (plain (codes "y"), one (codes "b")) ∷ []) (used (codes "y") (used (codes "x") (one (codes "c"))))
    ≡ join (one (codes "b")) (join (one (codes "a")) (one (codes "c")))
each_its_own = refl

-- Faults.
no_fault : rule_fault (var (codes "x") (codes "ident") end) (subtree Bracket (used (codes "x") end)) ≡ None
no_fault = refl

no_fragment : rule_fault (used (codes "x") end) (leaf (punct 36 Alone) end) ≡ Some BadPattern
no_fragment = refl

no_name : rule_fault (var (codes "x") (codes "tt") end) (leaf (punct 36 Alone) end) ≡ Some BadTemplate
no_name = refl

twice : rule_fault (var (codes "x") (codes "ident") (var (codes "x") (codes "tt") end)) (used (codes "x") end) ≡ Some DuplicateName
twice = refl

unknown : rule_fault (var (codes "x") (codes "tt") end) (used (codes "z") end) ≡ Some UnknownName
unknown = refl

unknown_raw : rule_fault (var (codes "x") (codes "tt") end) (leaf (punct 36 Alone) (leaf (raw (codes "x")) end)) ≡ Some UnknownName
unknown_raw = refl

no_underscore_name : rule_fault (var (codes "_") (codes "tt") end) end ≡ Some BadPattern
no_underscore_name = refl

-- The first fault in reading order: what a subtree holds comes before what follows it.
inner_first : rule_fault (node (delimiter Brace (span 0 1) (span 1 1)) (var (codes "x") (codes "tt") (var (codes "x") (codes "tt") end)) (leaf (punct 36 Alone) end)) end ≡ Some DuplicateName
inner_first = refl

-- A fragment in a subtree does not count.
apart : rule_fault (used (codes "x") (leaf (punct 58 Alone) (subtree Parenthesis (one (codes "tt"))))) end ≡ Some BadPattern
apart = refl
