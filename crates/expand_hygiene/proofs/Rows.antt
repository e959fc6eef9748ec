-- Worked mentions, bindings and captures. Each holds by computation.
use Rattle.std.proofs.Common.{◌≡◌, ◌++◌, ℕ, List, [], ◌∷◌, Option, None, Some, codes, refl}
use Rattle.tt.specs.Forest.{Forest, end, leaf, join}
use Rattle.tt.specs.Types.DelimiterKind.TheVariants.{Parenthesis, Brace, InvisibleOpaque}
use Rattle.tt.specs.Types.IdentIsRaw.TheVariants.{No, Yes}
use Rattle.tt.specs.Types.Leaf.TheVariants as leaf_of
use Rattle.tt.specs.Types.Spacing.TheVariants.{Alone, Joint}
use Rattle.tt_base.proofs.Samples.{span, punct, subtree}
use Rattle.mbe_grammar.specs.declared.event.Event.{Event}
use Rattle.mbe_grammar.specs.declared.event.Event.TheVariants.{Enter, Leave, Token, Open, Close}
use Rattle.mbe_grammar.specs.Names.{Name, start, identifier_pattern, binding, field_pattern, label, loop, let_statement, pattern_no_top_alt, expression}
use Rattle.expand_hygiene.specs.declared.captures.Capture.{Capture}
use Rattle.expand_hygiene.specs.declared.mention.BindingKind.{BindingKind}
use Rattle.expand_hygiene.specs.declared.mention.BindingKind.TheVariants.{Local, Label}
use Rattle.expand_hygiene.specs.declared.mention.Mention.{Mention}
use Rattle.expand_hygiene.specs.Binders.{binders_in}
use Rattle.expand_hygiene.specs.Captures.{first_capture}
use Rattle.expand_hygiene.specs.Mentions.{mentions_in}

-- an ident at a place, and one with `r#`, before other trees
abbrev word : (at : ℕ) → (text : List ℕ) → Forest → Forest
word at text rest = leaf (leaf_of.Ident (record { sym = text; span = span at 1; is_raw = No })) rest

abbrev raw_word : (at : ℕ) → (text : List ℕ) → Forest → Forest
raw_word at text rest = leaf (leaf_of.Ident (record { sym = text; span = span at 1; is_raw = Yes })) rest

-- a punct, and a `'`, before other trees
abbrev sign : (char : ℕ) → Forest → Forest
sign char rest = leaf (punct char Alone) rest

abbrev quote : Forest → Forest
quote rest = leaf (punct 39 Joint) rest

-- a mention of an ident at a place
abbrev mention : BindingKind → (at : ℕ) → (text : List ℕ) → Mention
mention kind at text = record { kind = kind; ident = record { sym = text; span = span at 1; is_raw = No } }

-- `x + f(y)`: idents at any depth; so in an opaque piece.
any_depth : mentions_in (word 1 (codes "x") (sign 43 (word 2 (codes "f") (subtree Parenthesis (word 3 (codes "y") end)))))
    ≡ mention Local 1 (codes "x") ∷ mention Local 2 (codes "f") ∷ mention Local 3 (codes "y") ∷ []
any_depth = refl

opaque_piece : mentions_in (subtree InvisibleOpaque (word 1 (codes "x") end)) ≡ mention Local 1 (codes "x") ∷ []
opaque_piece = refl

-- `break 'a x`: a label, and a local behind it; a keyword is no mention.
label_and_local : mentions_in (word 1 (codes "break") (quote (word 2 (codes "a") (word 3 (codes "x") end))))
    ≡ mention Label 2 (codes "a") ∷ mention Local 3 (codes "x") ∷ []
label_and_local = refl

-- `self.x = Some(MAX)`: `self` and what begins with an upper-case letter are none. `r#match` is.
no_locals : mentions_in (word 1 (codes "self") (sign 46 (word 2 (codes "x") (sign 61 (word 3 (codes "Some") (subtree Parenthesis (word 4 (codes "MAX") end)))))))
    ≡ mention Local 2 (codes "x") ∷ []
no_locals = refl

raw_keyword : mentions_in (raw_word 1 (codes "match") end) ≡ record { kind = Local; ident = record { sym = codes "match"; span = span 1 1; is_raw = Yes } } ∷ []
raw_keyword = refl

-- the events of a name that took one tree
abbrev one : Name → List Event
one name = Enter (start name) ∷ Token 1 ∷ Leave ∷ []

-- `let x = y`: the pattern binds `x`.
let_binds : binders_in (word 1 (codes "let") (word 2 (codes "x") (sign 61 (word 3 (codes "y") end))))
    (Enter (start let_statement) ∷ Token 1 ∷ one identifier_pattern ++ Token 1 ∷ one expression ++ Leave ∷ [])
    ≡ mention Local 2 (codes "x") ∷ []
let_binds = refl

-- `(x, Y)`: so in brackets; an upper-case letter begins a constant.
brackets_bind : binders_in (join (subtree Parenthesis (word 1 (codes "x") (sign 44 (word 2 (codes "Y") end)))) (word 3 (codes "z") end))
    (Enter (start pattern_no_top_alt) ∷ Open ∷ one identifier_pattern ++ Token 1 ∷ one identifier_pattern ++ Close ∷ Leave ∷ one identifier_pattern)
    ≡ mention Local 1 (codes "x") ∷ mention Local 3 (codes "z") ∷ []
brackets_bind = refl

-- `ref mut x @ y`: the keywords do not bind, and behind an inner name the outer one goes on.
keywords_do_not : binders_in (word 1 (codes "ref") (word 2 (codes "mut") (word 3 (codes "x") (sign 64 (word 4 (codes "y") (word 5 (codes "z") end))))))
    (Enter (start identifier_pattern) ∷ Token 1 ∷ Token 1 ∷ Token 1 ∷ Enter (start binding) ∷ Token 1 ∷ one identifier_pattern ++ Leave ∷ Token 1 ∷ Leave ∷ [])
    ≡ mention Local 3 (codes "x") ∷ mention Local 4 (codes "y") ∷ mention Local 5 (codes "z") ∷ []
keywords_do_not = refl

-- `'a: loop {x} y`: a label, and brackets that no name reads.
label_binds : binders_in (quote (word 1 (codes "a") (sign 58 (word 2 (codes "loop") (join (subtree Brace (word 3 (codes "x") end)) (word 4 (codes "y") end))))))
    (Enter (start label) ∷ Token 2 ∷ Token 1 ∷ Leave ∷ Enter (start loop) ∷ Token 1 ∷ Token 1 ∷ Leave ∷ one field_pattern)
    ≡ mention Label 1 (codes "a") ∷ mention Local 4 (codes "y") ∷ []
label_binds = refl

-- a capture of a name of one letter, bound at one place and captured at another
abbrev captures : BindingKind → (name : List ℕ) → (bound given : ℕ) → Option Capture
captures kind name bound given = Some (record { kind = kind; name = name; binding = span bound 1; captured = span given 1 })

-- The first binding with a name of the input captures the first ident there.
first_is_captured : first_capture (mention Local 5 (codes "y") ∷ mention Local 6 (codes "x") ∷ mention Local 7 (codes "x") ∷ [])
    (mention Local 1 (codes "z") ∷ mention Local 2 (codes "x") ∷ mention Local 3 (codes "y") ∷ [])
    ≡ captures Local (codes "x") 2 6
first_is_captured = refl

-- An ident of the input binds what the input means by it.
input_binds : first_capture (mention Local 5 (codes "x") ∷ mention Local 6 (codes "x") ∷ []) (mention Local 6 (codes "x") ∷ []) ≡ None
input_binds = refl

-- A label is no local.
label_is_no_local : first_capture (mention Label 5 (codes "a") ∷ []) (mention Local 1 (codes "a") ∷ []) ≡ None
label_is_no_local = refl

local_is_no_label : first_capture (mention Local 5 (codes "a") ∷ mention Label 6 (codes "a") ∷ []) (mention Label 1 (codes "a") ∷ []) ≡ captures Label (codes "a") 1 6
local_is_no_label = refl

-- A raw ident has the same name.
raw_is_the_same : first_capture (record { kind = Local; ident = record { sym = codes "x"; span = span 5 1; is_raw = Yes } } ∷ []) (mention Local 1 (codes "x") ∷ []) ≡ captures Local (codes "x") 1 5
raw_is_the_same = refl

nothing_is_captured : first_capture [] (mention Local 1 (codes "x") ∷ []) ≡ None
nothing_is_captured = refl
