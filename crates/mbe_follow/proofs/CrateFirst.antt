-- Whether a pattern begins with `crate` shows at the first of its trees.
use Rattle.std.proofs.Common.{◌≡◌, ℕ, zero, suc, Bool, true, false, List, codes, refl}
use Rattle.tt.specs.Forest.{Forest, end, leaf, node, size}
use Rattle.tt.specs.Types.IdentIsRaw.{IdentIsRaw}
use Rattle.tt.specs.Types.IdentIsRaw.TheVariants.{No, Yes}
use Rattle.tt.specs.Types.Leaf.TheVariants as leaf_of
use Rattle.tt.specs.Types.Punct.{Punct}
use Rattle.mbe_pattern.specs.Placed.{plain, pattern_of}
use Rattle.mbe_pattern.specs.Spelling.{Dollar, is_crate, is_crate_in, is_dollar, dollar_in}
use Rattle.mbe_pattern.specs.Spelling as dollar
use Rattle.mbe_pattern.specs.Units.{is_word, unit_from, front_leaves}
use Rattle.mbe_pattern.proofs.FirstSteps.{begun}
use Rattle.mbe_follow.specs.Following.{begins_with_crate}
use Rattle.mbe_follow.specs.Tokens.{is_plain}

word_is_crate : (raw : IdentIsRaw) (text : List ℕ) → is_word (codes "crate") raw text ≡ is_crate raw text
word_is_crate No text = refl
word_is_crate Yes text = refl

no_word : (n : ℕ) (it : Punct) (rest : Forest) → is_plain (codes "crate") (front_leaves n (leaf (leaf_of.Punct it) rest)) ≡ false
no_word zero it rest = refl
no_word (suc n) it rest = refl

-- What a punct begins is no ident.
punct_first : (until : ℕ) (it : Punct) (rest : Forest) (is_sign : Bool) (sign : Dollar)
    → begins_with_crate (plain (begun until (leaf_of.Punct it) rest is_sign sign)) ≡ false
punct_first until it rest false sign = no_word (unit_from (leaf_of.Punct it) rest) it rest
punct_first until it rest true (dollar.variable found) = refl
punct_first until it rest true (dollar.repetition tail) = refl
punct_first until it rest true dollar.token = refl
punct_first until it rest true dollar.nothing = refl

pub crate_first : (trees : Forest) → begins_with_crate (pattern_of trees) ≡ is_crate_in trees
crate_first end = refl
crate_first (leaf (leaf_of.Literal it) rest) = refl
crate_first (leaf (leaf_of.Punct it) rest) = punct_first (size (leaf (leaf_of.Punct it) rest)) it rest (is_dollar (leaf_of.Punct it)) (dollar_in rest)
crate_first (leaf (leaf_of.Ident it) rest) = word_is_crate it.is_raw it.sym
crate_first (node delimiter children rest) = refl
