-- The tokens of trees, next to rows worked out by hand. Each holds by computation.
use Rattle.std.proofs.Common.{◌≡◌, ℕ, List, [], ◌∷◌, ◌++◌, codes, refl}
use Rattle.tt_base.proofs.Samples.{ident, punct, span, subtree}
use Rattle.tt_base.specs.Forest.{Forest, end, leaf}
use Rattle.tt_base.specs.declared.delimiter.DelimiterKind.{DelimiterKind}
use Rattle.tt_base.specs.declared.delimiter.DelimiterKind.TheVariants.{Brace, Bracket, Invisible, InvisibleOpaque, Parenthesis}
use Rattle.tt_base.specs.declared.ident.IdentIsRaw.TheVariants.{Yes}
use Rattle.tt_base.specs.declared.leaf.Leaf.TheVariants as leaves
use Rattle.tt_base.specs.declared.punct.Spacing.TheVariants.{Alone, Joint, JointHidden}
use Rattle.app_c.specs.Tokens.{Seen, seen, seen_words, texts_of, words_of}

abbrev token : (sort kind : ℕ) → (text : List ℕ) → (start len : ℕ) → Seen
token sort kind text start len = record { sort = sort; kind = kind; text = text; span = span start len }

none : seen end ≡ []
none = refl

idents : (seen (leaf (ident (codes "ab")) end) ≡ token 3 0 (codes "ab") 0 1 ∷ [])
    × (seen (leaf (leaves.Ident (record { sym = codes "in"; span = span 2 4; is_raw = Yes })) end) ≡ token 3 1 (codes "r#in") 2 4 ∷ [])
idents = (refl, refl)

puncts : (seen (leaf (punct 59 Alone) end) ≡ token 4 0 (codes ";") 0 1 ∷ [])
    × (seen (leaf (punct 43 Joint) (leaf (punct 61 JointHidden) end)) ≡ token 4 1 (codes "+") 0 1 ∷ token 4 2 (codes "=") 0 1 ∷ [])
unfolding lib.Utf8.encode
puncts = (refl, refl)

-- What a subtree holds is between its brackets, if it has some.
abbrev around : DelimiterKind → List Seen
around kind = seen (subtree kind (leaf (ident (codes "a")) end))

subtrees : (around Parenthesis ≡ token 1 0 (codes "(") 0 1 ∷ token 3 0 (codes "a") 0 1 ∷ token 2 0 (codes ")") 1 1 ∷ [])
    × (around Brace ≡ token 1 1 (codes "{") 0 1 ∷ token 3 0 (codes "a") 0 1 ∷ token 2 1 (codes "}") 1 1 ∷ [])
    × (around Bracket ≡ token 1 2 (codes "[") 0 1 ∷ token 3 0 (codes "a") 0 1 ∷ token 2 2 (codes "]") 1 1 ∷ [])
    × (around Invisible ≡ token 1 3 [] 0 1 ∷ token 3 0 (codes "a") 0 1 ∷ token 2 3 [] 1 1 ∷ [])
    × (around InvisibleOpaque ≡ token 1 4 [] 0 1 ∷ token 3 0 (codes "a") 0 1 ∷ token 2 4 [] 1 1 ∷ [])
subtrees = (refl, refl, refl, refl, refl)

-- The sort, the kind, where the text is and how long it is, where the span begins and ends, its file, item and context.
words : seen_words 7 (token 5 4 (codes "\"a\"") 10 3) ≡ 5 ∷ 4 ∷ 7 ∷ 3 ∷ 10 ∷ 13 ∷ 0 ∷ 0 ∷ 0 ∷ []
words = refl

-- Texts are one behind the other.
abbrev two : List Seen
two = token 3 0 (codes "ab") 0 2 ∷ token 4 0 (codes ";") 2 1 ∷ []

several : (texts_of two ≡ codes "ab;") × (words_of 0 two ≡ 3 ∷ 0 ∷ 0 ∷ 2 ∷ 0 ∷ 2 ∷ 0 ∷ 0 ∷ 0 ∷ 4 ∷ 0 ∷ 2 ∷ 1 ∷ 2 ∷ 3 ∷ 0 ∷ 0 ∷ 0 ∷ [])
several = (refl, refl)
