-- Worked parts under conditions. Each holds by computation.
use Rattle.std.proofs.Common.{◌≡◌, ℕ, true, false, List, [], ◌∷◌, Some, None, codes, refl}
use Rattle.tt.specs.Forest.{Forest, end, node}
use Rattle.tt.specs.Token.{delimiter}
use Rattle.tt.specs.Types.Delimiter.{Delimiter}
use Rattle.tt.specs.Types.DelimiterKind.TheVariants.{Brace, Bracket}
use Rattle.tt_base.proofs.Samples.{span}
use Rattle.expand_items.specs.declared.part.Part.{Part}
use Rattle.expand_items.specs.Parts.{is_at_let, statement_len}
use Rattle.expand_items.specs.Spreads.{spread, spread_if}
use Rattle.mbe_pattern.proofs.Rows.{word, alone}

-- `a ;` before others
abbrev statement : (text : List ℕ) → Forest → Forest
statement text rest = word text (alone 59 rest)

-- `#[text]` before others
abbrev attribute : (text : List ℕ) → Forest → Forest
attribute text rest = alone 35 (node (delimiter Bracket (span 0 1) (span 2 1)) (word text end) rest)

-- braces, and a condition
abbrev braces : Delimiter
braces = delimiter Brace (span 4 1) (span 6 1)

abbrev condition : Forest
condition = attribute (codes "cfg") end

-- a part of two trees
abbrev two : Part
two = record { len = 2; is_expression = false }

-- The `;` after a statement is a part of it, and another tree is not.
with_semicolon : statement_len 1 (statement (codes "a") end) ≡ 2
with_semicolon = refl

without_semicolon : statement_len 1 (word (codes "a") (word (codes "b") end)) ≡ 1
without_semicolon = refl

-- `let` comes first, also after an attribute, and not after a word.
let_is_there : is_at_let (attribute (codes "allow") (word (codes "let") end)) ≡ true
let_is_there = refl

let_second : is_at_let (word (codes "a") (word (codes "let") end)) ≡ false
let_second = refl

-- Nothing precedes the first part, and the condition precedes each other one.
both_parts : spread braces condition 0 (two ∷ two ∷ []) (statement (codes "a") (statement (codes "b") end))
    ≡ statement (codes "a") (attribute (codes "cfg") (statement (codes "b") end))
both_parts = refl

-- An expression goes into braces.
in_braces : spread braces condition 0 (record { len = 2; is_expression = true } ∷ []) (statement (codes "a") end) ≡ node braces (statement (codes "a") end) end
in_braces = refl

-- No parts, and no run of parts, are put nowhere.
no_parts : spread_if braces condition (Some []) end ≡ None
no_parts = refl

no_run : spread_if braces condition None (word (codes "a") end) ≡ None
no_run = refl
