-- The definitions on small trees, by the rows of `docs/FORMATS.md`.
use Rattle.std.proofs.Common.{◌≡◌, [], ◌∷◌, codes, refl, lit<, lit≤, not-le_of_lt}
use Rattle.tt_base.specs.declared.delimiter.DelimiterKind.TheVariants.{Parenthesis, Brace, Invisible, InvisibleOpaque}
use Rattle.tt_base.specs.declared.literal.LitKind.TheVariants as lit
use Rattle.tt_base.specs.declared.punct.Spacing.TheVariants.{Alone, Joint, JointHidden}
use Rattle.tt_base.specs.declared.token_tree.TokenTree.TheVariants as token
use Rattle.tt_base.specs.Token.{delimiter}
use Rattle.tt_base.specs.Forest.{Forest, end, leaf, node, flat, header}
use Rattle.tt_base.specs.LeafText.{leaf_text}
use Rattle.tt_base.specs.OneRoot.{stripped}
use Rattle.tt_base.specs.TreeText.{display, pretty}
use Rattle.tt_base.proofs.Samples.{span, punct, ident, literal, subtree}

abbrev a : Forest → Forest
a rest = leaf (ident (codes "a")) rest

abbrev b : Forest → Forest
b rest = leaf (ident (codes "b")) rest

first_run : display (subtree Parenthesis (a (leaf (punct 59 Alone) end))) ≡ codes "(a ;)"
unfolding display lib.Utf8.encode
first_run = refl

first_run_flat : flat (subtree Parenthesis (a (leaf (punct 59 Alone) end)))
    ≡ header (delimiter Parenthesis (span 0 1) (span 1 1)) 2 ∷ token.Leaf (ident (codes "a")) ∷ token.Leaf (punct 59 Alone) ∷ []
first_run_flat = refl

hidden_plus : display (a (leaf (punct 43 JointHidden) (b end))) ≡ codes "a +b"
unfolding display lib.Utf8.encode
hidden_plus = refl

hidden_plus_pretty : pretty (a (leaf (punct 43 JointHidden) (b end))) ≡ codes "a + b"
unfolding pretty lib.Utf8.encode
hidden_plus_pretty = refl

joint_plus_pretty : pretty (a (leaf (punct 43 Joint) (b end))) ≡ codes "a +b"
unfolding pretty lib.Utf8.encode
joint_plus_pretty = refl

two_spaces_pretty : pretty (a (node (delimiter Invisible (span 0 0) (span 0 0)) end (b end))) ≡ codes "a  b"
unfolding pretty
two_spaces_pretty = refl

two_spaces_of_opaque : display (a (node (delimiter InvisibleOpaque (span 0 0) (span 0 0)) end (b end))) ≡ codes "a  b"
unfolding display
two_spaces_of_opaque = refl

two_spaces_of_opaque_pretty : pretty (a (node (delimiter InvisibleOpaque (span 0 0) (span 0 0)) end (b end))) ≡ codes "a  b"
unfolding pretty
two_spaces_of_opaque_pretty = refl

-- an invisible subtree is stripped of its delimiter, an opaque one is not
invisible_stripped : stripped (subtree Invisible (a end)) ≡ a end
invisible_stripped = refl

opaque_not_stripped : stripped (subtree InvisibleOpaque (a end)) ≡ subtree InvisibleOpaque (a end)
opaque_not_stripped = refl

two_spaces : display (a (node (delimiter Invisible (span 0 0) (span 0 0)) end (b end))) ≡ codes "a  b"
unfolding display
two_spaces = refl

braces : display (subtree Brace (a (b end))) ≡ codes "{a b}"
unfolding display
braces = refl

raw_string : leaf_text (literal (codes "a") (lit.StrRaw 2) (lit≤ tt) (lit≤ tt, λ h. absurd (not-le_of_lt (lit< tt) h))) ≡ codes "r##\"a\"##"
raw_string = refl

raw_bytes : leaf_text (literal (codes "a") (lit.ByteStrRaw 0) (lit≤ tt) (lit≤ tt, λ h. absurd (not-le_of_lt (lit< tt) h))) ≡ codes "br\"a\""
raw_bytes = refl
