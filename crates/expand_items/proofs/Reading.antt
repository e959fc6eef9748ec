-- Lists of predicates that are read one by one, and the lists around them.
use Rattle.std.proofs.Common.{◌≡◌, ◌+◌, ◌*◌, ◌≤◌, ℕ, suc, Bool, true, false, List, [], ◌∷◌, Option, None, Some, codes, refl, ap, sym, ◌∙◌, arith, cond}
use Rattle.std.proofs.lemmas.Bool.{false≢true}
use Rattle.std.specs.Prelude.{◌==◌, ◌||◌}
use Rattle.tt.specs.Expectations.{as_ident_or_underscore, first_leaf_as, is_at_node}
use Rattle.tt.specs.Forest.{Forest, end, leaf, node, size}
use Rattle.tt.specs.Iters.{rest_of}
use Rattle.tt.specs.Moves.{after_tree}
use Rattle.tt.specs.Types.Delimiter.{Delimiter}
use Rattle.tt.specs.Types.Ident.{Ident}
use Rattle.tt.specs.Types.Leaf.{Leaf}
use Rattle.tt.specs.Types.Leaf.TheVariants as leaf_of
use Rattle.expand_items.specs.Cfg.{Known}
use Rattle.expand_items.specs.Checking.{IsBelow, with_one}
use Rattle.expand_items.specs.Predicates.{applied_if, behind_word, is_sign, listed, operator_of, predicate, predicates, separator, value, word_says}
use Rattle.expand_items.specs.declared.predicate.Level.{Level}
use Rattle.expand_items.specs.declared.predicate.Operand.{Operand}
use Rattle.expand_items.specs.declared.predicate.Operand.TheVariants as operand
use Rattle.expand_items.proofs.Kleene.{gathered_if}
use Rattle.mbe_pattern.specs.Spelling.{is_parenthesis}
use Rattle.mbe_pattern.specs.Units.{is_at_punct}

-- what a list says in the end
abbrev pub level_says : Known → Level → Option Bool
level_says known level = gathered_if level.operator level.is_first level.says (predicates known predicate (rest_of level.rest))

-- what the outermost list says in the end, if the innermost says this
abbrev pub finished : Known → List Level → Option Bool → Option Bool
finished known [] it = it
finished known (level ∷ outer) it = finished known outer (level_says known (with_one it level))

-- how much is left to read
abbrev pub work_left : List Level → ℕ
work_left [] = 0
work_left (level ∷ outer) = suc (2 * size (rest_of level.rest) + work_left outer)

or_false : (b : Bool) → (b || false) ≡ b
or_false true = refl
or_false false = refl

-- A punct comes first if the first leaf is one.
pub sign_first : (char : ℕ) (it : Leaf) (rest : Forest) → is_at_punct (char ∷ []) (leaf it rest) ≡ is_sign char it
sign_first char (leaf_of.Literal it) rest = refl
sign_first char (leaf_of.Punct it) rest = or_false (it.char == char)
sign_first char (leaf_of.Ident it) rest = refl

-- A word without `=` and without a subtree behind it is a predicate.
pub word_alone : (known : Known) (word : Ident) (trees : Forest) → is_at_punct (codes "=") trees ≡ false → is_at_node trees ≡ false
    → predicates known (behind_word word) trees ≡ listed (word_says known word) (predicates known separator trees)
word_alone known word end none leaves = refl
word_alone known word (node delimiter children rest) none leaves = absurd (false≢true (sym leaves))
word_alone known word (leaf it rest) none leaves =
    ap (λ b. cond b (predicates known (value word.sym) rest) (cond (is_sign 44 it) (listed (word_says known word) (predicates known predicate rest)) None)) (sym (sign_first 61 it rest) ∙ none)
    ∙ by (is_sign 44 it)
  where
    by : (b : Bool) → cond b (listed (word_says known word) (predicates known predicate rest)) None ≡ listed (word_says known word) (cond b (predicates known predicate rest) None)
    by true = refl
    by false = refl

-- Behind a word and `=` the value comes.
pub key_first : (known : Known) (word : Ident) (trees : Forest) → is_at_punct (codes "=") trees ≡ true
    → predicates known (behind_word word) trees ≡ predicates known (value word.sym) (after_tree trees)
key_first known word end there = absurd (false≢true there)
key_first known word (node delimiter children rest) there = absurd (false≢true there)
key_first known word (leaf it rest) there =
    ap (λ b. cond b (predicates known (value word.sym) rest) (cond (is_sign 44 it) (listed (word_says known word) (predicates known predicate rest)) None))
    (sym (sign_first 61 it rest) ∙ there)

pub key_size : (trees : Forest) → is_at_punct (codes "=") trees ≡ true → size trees ≡ suc (size (after_tree trees))
key_size end there = absurd (false≢true there)
key_size (node delimiter children rest) there = absurd (false≢true there)
key_size (leaf it rest) there = refl

-- A word comes first.
pub word_first : (known : Known) (word : Ident) (trees : Forest) → first_leaf_as as_ident_or_underscore trees ≡ Some word
    → predicates known predicate trees ≡ predicates known (behind_word word) (after_tree trees)
word_first known word end is = absurd (cc is)
word_first known word (node delimiter children rest) is = absurd (cc is)
word_first known word (leaf (leaf_of.Literal it) rest) is = absurd (cc is)
word_first known word (leaf (leaf_of.Punct it) rest) is = absurd (cc is)
word_first known word (leaf (leaf_of.Ident it) rest) is = ap (λ w. predicates known (behind_word w) rest) (same is)
  where
    same : Some it ≡ Some word → it ≡ word
    same e = cc

pub word_size : (word : Ident) (trees : Forest) → first_leaf_as as_ident_or_underscore trees ≡ Some word → size trees ≡ suc (size (after_tree trees))
word_size word end is = absurd (cc is)
word_size word (node delimiter children rest) is = absurd (cc is)
word_size word (leaf it rest) is = refl

-- An operator comes before a list.
pub list_first : (known : Known) (word : Ident) (trees : Forest) (delimiter : Delimiter) (inside behind : Forest) → trees ≡ node delimiter inside behind → is_parenthesis delimiter.kind ≡ true
    → predicates known (behind_word word) trees ≡ listed (applied_if (operator_of word.sym) (predicates known predicate inside)) (predicates known separator behind)
list_first known word trees delimiter inside behind is there =
    ap (predicates known (behind_word word)) is
    ∙ ap (λ b. cond b (listed (applied_if (operator_of word.sym) (predicates known predicate inside)) (predicates known separator behind)) None) there

pub no_list_first : (known : Known) (word : Ident) (trees : Forest) (delimiter : Delimiter) (inside behind : Forest) → trees ≡ node delimiter inside behind → is_parenthesis delimiter.kind ≡ false
    → predicates known (behind_word word) trees ≡ None
no_list_first known word trees delimiter inside behind is other =
    ap (predicates known (behind_word word)) is
    ∙ ap (λ b. cond b (listed (applied_if (operator_of word.sym) (predicates known predicate inside)) (predicates known separator behind)) None) other

-- Less than some is less than more.
pub below_more : (it : Operand) (some more : ℕ) (left : Forest) → some ≤ more → IsBelow it some left → IsBelow it more left
below_more (operand.Value says) some more left at_most below = omega (arith, at_most, below)
below_more (operand.List its inside) some more left at_most below = omega (arith, at_most, below)
below_more (operand.End is_list) some more left at_most below = tt
