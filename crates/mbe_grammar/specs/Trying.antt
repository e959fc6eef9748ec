-- The units that an expression of a table tries, and those that it tries at the farthest place.
use Rattle.std.specs.Prelude.{◌≡◌, ◌<◌, ◌≤◌, ◌⊎◌, ℕ, zero, suc, false, List, [], ◌∷◌, length, Option, None, Some, slice_get}
use Rattle.std.specs.List.{AllByRecursion}
use Rattle.mbe_grammar.specs.declared.rule.Rule.{Rule}
use Rattle.mbe_grammar.specs.declared.rule.Rule.TheVariants as rule
use Rattle.mbe_grammar.specs.Parses.{Answering, Parses}
use Rattle.mbe_grammar.specs.Positions.{Position}

-- what expressions try: the expression, the place where it is read, the index of a unit rule whose test it tries, and how many trees are
-- passed there
abbrev pub Trying : Type 1
Trying = (at : ℕ) → (from : Position) → (unit : ℕ) → (passed : ℕ) → Type 0

-- the expression tries the unit there, if `P` gives the answers of its parts and `Q` what they try. The unit of a negation is not wanted
abbrev pub TriesBy : (P : Answering) → (Q : Trying) → (at : ℕ) → Option Rule → (from : Position) → (unit : ℕ) → (passed : ℕ) → Type 0
TriesBy P Q at None from unit passed = ⊥
TriesBy P Q at (Some rule.Empty) from unit passed = ⊥
TriesBy P Q at (Some (rule.Unit wanted)) from unit passed = (unit ≡ at) × (passed ≡ from.passed)
TriesBy P Q at (Some (rule.Name other)) from unit passed = Q other from unit passed
TriesBy P Q at (Some (rule.Sequence first second)) from unit passed =
    Q first from unit passed ⊎ ((middle : Position) × P first from (Some middle) × Q second middle unit passed)
TriesBy P Q at (Some (rule.Choice first other)) from unit passed = Q first from unit passed ⊎ (P first from None × Q other from unit passed)
TriesBy P Q at (Some (rule.ZeroOrMore part)) from unit passed =
    Q part from unit passed ⊎ ((middle : Position) × P part from (Some middle) × Q at middle unit passed)
TriesBy P Q at (Some (rule.Not part)) from unit passed = ⊥

-- the expression tries the unit there, by a derivation that is not deeper
abbrev pub TriesIn : List Rule → (depth : ℕ) → Trying
TriesIn rules zero at from unit passed = ⊥
TriesIn rules (suc depth) at from unit passed = TriesBy (Parses false rules) (TriesIn rules depth) at (slice_get rules at) from unit passed

-- the expression at that index of the table, read from there on, tries the unit after that many trees
unfoldable pub Tries : List Rule → Trying
Tries rules at from unit passed = (depth : ℕ) × TriesIn rules depth at from unit passed

-- the number is one of these
abbrev pub IsOneOf : List ℕ → ℕ → Type 0
IsOneOf [] it = ⊥
IsOneOf (this ∷ others) it = (this ≡ it) ⊎ IsOneOf others it

-- each number is less than all behind it
abbrev pub IsAscending : List ℕ → Type 0
IsAscending [] = Unit {0}
IsAscending (this ∷ others) = AllByRecursion (λ it. this < it) others × IsAscending others

-- the number is one of these, or they are eight and all less
abbrev pub IsListed : List ℕ → ℕ → Type 0
IsListed units it = IsOneOf units it ⊎ ((length units ≡ 8) × AllByRecursion (λ other. other < it) units)

-- the expression tries no unit after more trees and takes no more trees. After so many trees it tries these units; if it tries more than
-- eight there, these are the first eight of the table, and if it tries none, it ends there, or it fails at its start
pub record IsFarthest (rules : List Rule) (at : ℕ) (from : Position) (passed : ℕ) (units : List ℕ) : Type 0 where
  pub farthest : (unit other : ℕ) → Tries rules at from unit other → other ≤ passed
  pub stops : (to : Position) → Parses false rules at from (Some to) → to.passed ≤ passed
  pub tried : (unit : ℕ) → IsOneOf units unit → Tries rules at from unit passed
  pub listed : (unit : ℕ) → Tries rules at from unit passed → IsListed units unit
  pub ascending : IsAscending units
  pub few : length units ≤ 8
  pub nothing : units ≡ [] → (passed ≡ from.passed) ⊎ ((to : Position) × Parses false rules at from (Some to) × (passed ≡ to.passed))
