-- Two puncts before a third that makes no operator with them.
use Rattle.std.proofs.Common.{◌≡◌, ℕ, false, [], ◌∷◌, Some, sym, ap, subst}
use Rattle.std.specs.Prelude.{if◌then◌else◌}
use Rattle.tt.specs.FirstKinds.{IsFirstKind}
use Rattle.tt.specs.Forest.{Forest, end, leaf, node}
use Rattle.tt.specs.Gluing.{first_punct, glued_three, glued_two, is_one_of, threes}
use Rattle.tt.specs.Types.Leaf.TheVariants as leaf_of
use Rattle.tt.specs.Types.Punct.{Punct}
use Rattle.tt.specs.Types.Spacing.{Spacing}
use Rattle.tt.specs.Types.TokenKind.TheVariants as kind
use Rattle.mbe_grammar.specs.Units.{unit_of_puncts}

-- They are glued without it.
pub two_of_three : (trees : Forest) (spacing : Spacing) (first second third : ℕ) (one two : Punct) → first ≡ one.char → second ≡ two.char
    → IsFirstKind trees (Some (kind.Punct third spacing)) → is_one_of threes (first ∷ second ∷ third ∷ []) ≡ false
    → unit_of_puncts (glued_two one two) ≡ unit_of_puncts (glued_three one two (first_punct trees))
two_of_three end spacing first second third one two is_one is_two shown none = absurd shown
two_of_three (leaf (leaf_of.Punct it) rest) spacing first second third one two is_one is_two shown none =
    let none_here : is_one_of threes (one.char ∷ two.char ∷ it.char ∷ []) ≡ false =
    subst (λ a. is_one_of threes (a ∷ two.char ∷ it.char ∷ []) ≡ false) is_one
    (subst (λ b. is_one_of threes (first ∷ b ∷ it.char ∷ []) ≡ false) is_two
    (subst (λ d. is_one_of threes (first ∷ second ∷ d ∷ []) ≡ false) shown.0 none)) in
    ap (λ three. unit_of_puncts (if three then one ∷ two ∷ it ∷ [] else glued_two one two)) (sym none_here)
two_of_three (leaf (leaf_of.Ident it) rest) spacing first second third one two is_one is_two shown none = absurd shown
two_of_three (leaf (leaf_of.Literal it) rest) spacing first second third one two is_one is_two shown none = absurd shown
two_of_three (node delimiter children rest) spacing first second third one two is_one is_two shown none = absurd shown
