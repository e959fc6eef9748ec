-- How many puncts form one token.
use Rattle.std.proofs.Common.{◌≡◌, false, List, length, Some, ap, sym, ◌∙◌, cond, arith}
use Rattle.std.proofs.lemmas.Bool.Decides.{nat_tests}
use Rattle.std.specs.Prelude.{◌==◌}
use Rattle.tt.specs.Expectations.{first_leaf_as, as_punct}
use Rattle.tt.specs.Forest.{Forest, end, leaf, node}
use Rattle.tt.specs.Gluing.{glued, glued_from}
use Rattle.tt.specs.Types.Leaf.TheVariants as leaf_of
use Rattle.tt.specs.Types.Punct.{Punct}
use Rattle.mbe_pattern.specs.Units.{quote, is_at_ident, unit_size}

-- A punct other than `'` forms a token with the puncts that are glued to it.
pub glued_size : (trees : Forest) (punct : Punct) (puncts : List Punct) → Some punct ≡ first_leaf_as as_punct trees → (punct.char ≡ quote → ⊥) → Some puncts ≡ glued trees
    → length puncts ≡ unit_size trees
glued_size end punct puncts first other is = absurd (cc first)
glued_size (leaf (leaf_of.Literal it) rest) punct puncts first other is = absurd (cc first)
glued_size (leaf (leaf_of.Ident it) rest) punct puncts first other is = absurd (cc first)
glued_size (leaf (leaf_of.Punct it) rest) punct puncts first other is =
    let same : punct ≡ it = cc first in
    let size : puncts ≡ glued_from it rest = cc is in
    ap length size ∙ sym (ap (λ b. cond b (cond (is_at_ident rest) 2 1) (length (glued_from it rest))) (differs it (λ e. other (ap (λ (p : Punct). p.char) same ∙ e))))
  where
    differs : (it : Punct) → (it.char ≡ quote → ⊥) → (it.char == quote) ≡ false
    differs it apart = grind (arith, nat_tests, apart)
glued_size (node delimiter children rest) punct puncts first other is = absurd (cc first)
