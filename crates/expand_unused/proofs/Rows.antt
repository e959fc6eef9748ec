-- Worked parts and cuts. Each holds by computation.
use Rattle.std.proofs.Common.{◌≡◌, ℕ, List, [], ◌∷◌, None, Some, true, false, codes, refl}
use Rattle.std.specs.Prelude.{bytes_eq, ◌==◌, Bool}
use Rattle.tt.specs.Forest.{Forest, end, leaf, join}
use Rattle.tt.specs.Types.DelimiterKind.TheVariants.{Brace, Bracket}
use Rattle.tt.specs.Types.Leaf.TheVariants as leaf_of
use Rattle.tt.specs.Types.Spacing.TheVariants.{Alone}
use Rattle.tt_base.proofs.Samples.{span, subtree}
use Rattle.expand_unused.specs.declared.choice.Choice.{Choice}
use Rattle.expand_unused.specs.Parts.{Part, word, rules, parts_of}
use Rattle.expand_unused.specs.Without.{cuts}
use Rattle.mbe_pattern.proofs.Rows.{word as ident, alone}

-- `macro_rules! NAME`, and a subtree after it
abbrev definition : (name : List ℕ) → (arms rest : Forest) → Forest
definition name arms rest = ident (codes "macro_rules") (alone 33 (ident name (join (subtree Brace arms) rest)))

-- `#[a]`, whose `#` begins at a byte
abbrev attribute : (start : ℕ) → Forest → Forest
attribute start rest =
    leaf (leaf_of.Punct (record { char = 35; spacing = Alone; span = span start 1 })) (join (subtree Bracket (ident (codes "a") end)) rest)

-- any definition may go that is not exported
abbrev all_may_go : Choice
all_may_go = record { only = None; drops_exported = false }

-- the definition of `m`, whose arms contain only that word
abbrev m_rules : (start stop : ℕ) → Part
m_rules start stop = rules (record { name = codes "m"; start = start; end = stop; inside = codes "x" ∷ [] })

-- The definition of `m`, which is 5 tokens.
abbrev m_definition : (rest : Forest) → Forest
m_definition rest = definition (codes "m") (ident (codes "x") end) rest

-- definitions are at the places with so many tokens left
abbrev at_place : (place : ℕ) → ℕ → Bool
at_place place left = left == place

-- the parts of trees with a definition at one place
abbrev parts : Choice → (place : ℕ) → Forest → List Part
parts choice place trees = parts_of choice (at_place place) trees

-- `macro_rules! m { x } y`: the definition, and a word. If no definition is there, all are words.
definition_first : parts all_may_go 6 (m_definition (ident (codes "y") end)) ≡ m_rules 0 2 ∷ word (codes "y") ∷ []
definition_first = refl

no_definition : parts all_may_go 9 (m_definition (ident (codes "y") end))
    ≡ word (codes "macro_rules") ∷ word (codes "m") ∷ word (codes "x") ∷ word (codes "y") ∷ []
no_definition = refl

-- The same in braces, and after other words.
definition_below : parts all_may_go 5 (ident (codes "mod") (join (subtree Brace (m_definition end)) end)) ≡ word (codes "mod") ∷ m_rules 0 2 ∷ []
definition_below = refl

-- Behind a subtree of two tokens with a definition behind it.
definition_behind : parts all_may_go 5 (join (subtree Brace (ident (codes "y") end)) (m_definition end)) ≡ word (codes "y") ∷ m_rules 0 2 ∷ []
definition_behind = refl

-- The attributes go with it: it begins where the first of them does.
behind_attribute : parts all_may_go 8 (attribute 7 (m_definition end)) ≡ m_rules 7 2 ∷ []
behind_attribute = refl

behind_attributes : parts all_may_go 11 (attribute 7 (attribute 9 (m_definition end))) ≡ m_rules 7 2 ∷ []
behind_attributes = refl

-- Behind `#[macro_export]`, also with another attribute between, its name is a word outside; not if exported ones may go.
abbrev export : Forest → Forest
export rest = alone 35 (join (subtree Bracket (ident (codes "macro_export") end)) rest)

exported : parts all_may_go 11 (export (attribute 7 (m_definition end))) ≡ word (codes "m") ∷ m_rules 0 2 ∷ []
exported = refl

exported_may_go : parts (record { only = None; drops_exported = true }) 8 (export (m_definition end)) ≡ m_rules 0 2 ∷ []
exported_may_go = refl

-- A definition that may not go is words, as its attributes are.
may_not_go : parts (record { only = Some (codes "n"); drops_exported = false }) 8 (attribute 7 (m_definition end))
    ≡ word (codes "a") ∷ word (codes "macro_rules") ∷ word (codes "m") ∷ word (codes "x") ∷ []
may_not_go = refl

-- Two definitions of `m` go, and one of `n` stays.
two_go : cuts (bytes_eq (codes "m")) (m_rules 3 5 ∷ word (codes "m") ∷ rules (record { name = codes "n"; start = 6; end = 7; inside = [] }) ∷ m_rules 8 9 ∷ [])
    ≡ record { start = 3; end = 5; text = [] } ∷ record { start = 8; end = 9; text = [] } ∷ []
two_go = refl
