-- What attributes say, one after the other.
use Rattle.std.proofs.Common.{◌≡◌, ◌≤◌, suc, Bool, true, false, None, Some, codes, refl, ap, sym, ◌∙◌, arith, cond}
use Rattle.std.proofs.lemmas.Bool.{and_parts, false≢true}
use Rattle.std.specs.Prelude.{◌&&◌, ◌==◌}
use Rattle.tt.specs.Forest.{Forest, end, leaf, node, size}
use Rattle.tt.specs.Moves.{after_tree}
use Rattle.tt.specs.Siblings.{is_end}
use Rattle.tt.specs.Types.Delimiter.{Delimiter}
use Rattle.tt.specs.Types.Leaf.TheVariants as leaf_of
use Rattle.expand_items.specs.Attributes.{is_at_attribute}
use Rattle.expand_items.specs.Cfg.{Known}
use Rattle.expand_items.specs.Conditions.{attributes_say, brackets_say, cfg_attr_says, cfg_says, comma_at, condition_says, meta_says, metas_say}
use Rattle.expand_items.specs.Positions.{is_bracket}
use Rattle.expand_items.specs.Predicates.{both, check, either, negated}
use Rattle.expand_items.proofs.Reading.{sign_first}
use Rattle.mbe_pattern.specs.Spelling.{is_parenthesis}
use Rattle.mbe_pattern.specs.Units.{front_trees, is_at_punct}

-- A tree that is no `,` is one before the first `,`.
pub comma_later : (trees : Forest) → is_end trees ≡ false → is_at_punct (codes ",") trees ≡ false → comma_at trees ≡ suc (comma_at (after_tree trees))
comma_later end some other = absurd (false≢true (sym some))
comma_later (leaf it rest) some other = ap (λ b. cond b 0 (suc (comma_at rest))) (sym (sign_first 44 it rest) ∙ other)
comma_later (node delimiter children rest) some other = refl

-- At the end and at a `,` there is none.
pub comma_never : (trees : Forest) → is_end trees ≡ true → comma_at trees ≡ 0
comma_never end none = refl
comma_never (leaf it rest) none = absurd (false≢true none)
comma_never (node delimiter children rest) none = absurd (false≢true none)

pub comma_there : (trees : Forest) → is_at_punct (codes ",") trees ≡ true → comma_at trees ≡ 0
comma_there end there = refl
comma_there (leaf it rest) there = ap (λ b. cond b 0 (suc (comma_at rest))) (sym (sign_first 44 it rest) ∙ there)
comma_there (node delimiter children rest) there = absurd (false≢true there)

-- A tree that is passed existed.
pub tree_size : (trees : Forest) → is_end trees ≡ false → suc (size (after_tree trees)) ≤ size trees
tree_size end some = absurd (false≢true (sym some))
tree_size (leaf it rest) some = omega arith
tree_size (node delimiter children rest) some = omega arith

-- The first tree of a list of attributes, and then the others.
pub metas_first : (known : Known) (behind_comma : Bool) (trees : Forest) → is_end trees ≡ false
    → metas_say known behind_comma trees ≡ both (cond behind_comma (meta_says known trees) (Some true)) (metas_say known (is_at_punct (codes ",") trees) (after_tree trees))
metas_first known behind_comma end some = absurd (false≢true (sym some))
metas_first known true (leaf it rest) some = ap (λ b. both (meta_says known (leaf it rest)) (metas_say known b rest)) (sym (sign_first 44 it rest))
metas_first known false (leaf it rest) some = ap (λ b. metas_say known b rest) (sym (sign_first 44 it rest))
metas_first known true (node delimiter children rest) some = refl
metas_first known false (node delimiter children rest) some = refl

pub metas_none : (known : Known) (behind_comma : Bool) (trees : Forest) → is_end trees ≡ true → metas_say known behind_comma trees ≡ Some true
metas_none known behind_comma end none = refl
metas_none known behind_comma (leaf it rest) none = absurd (false≢true none)
metas_none known behind_comma (node delimiter children rest) none = absurd (false≢true none)

-- no brackets are there
no_brackets : (sign : Bool) → (sign && false) ≡ true → ⊥
no_brackets sign e = false≢true (and_parts sign false e).1

-- The first attribute, and then the others.
pub attributes_first : (known : Known) (trees : Forest) → is_at_attribute trees ≡ true
    → attributes_say known trees ≡ both (brackets_say known (after_tree trees)) (attributes_say known (after_tree (after_tree trees)))
attributes_first known end e = absurd (false≢true e)
attributes_first known (node delimiter children rest) e = absurd (false≢true e)
attributes_first known (leaf (leaf_of.Literal it) rest) e = absurd (false≢true e)
attributes_first known (leaf (leaf_of.Ident it) rest) e = absurd (false≢true e)
attributes_first known (leaf (leaf_of.Punct it) end) e = absurd (no_brackets (it.char == 35) e)
attributes_first known (leaf (leaf_of.Punct it) (leaf next rest)) e = absurd (no_brackets (it.char == 35) e)
attributes_first known (leaf (leaf_of.Punct it) (node delimiter children rest)) e =
    ap (λ b. cond b (both (condition_says known children) (attributes_say known rest)) (Some true)) e
    ∙ ap (λ b. both (cond b (condition_says known children) (Some true)) (attributes_say known rest)) (sym (and_parts (it.char == 35) (is_bracket delimiter.kind) e).1)

-- If no attribute comes first, the attributes say nothing.
pub attributes_none : (known : Known) (trees : Forest) → is_at_attribute trees ≡ false → attributes_say known trees ≡ Some true
attributes_none known end e = refl
attributes_none known (node delimiter children rest) e = refl
attributes_none known (leaf it end) e = refl
attributes_none known (leaf it (leaf next rest)) e = refl
attributes_none known (leaf (leaf_of.Literal it) (node delimiter children rest)) e = refl
attributes_none known (leaf (leaf_of.Ident it) (node delimiter children rest)) e = refl
attributes_none known (leaf (leaf_of.Punct it) (node delimiter children rest)) e =
    ap (λ b. cond b (both (condition_says known children) (attributes_say known rest)) (Some true)) e

-- An attribute is two trees that exist.
pub attributes_less : (trees : Forest) → is_at_attribute trees ≡ true → suc (size (after_tree (after_tree trees))) ≤ size trees
attributes_less end e = absurd (false≢true e)
attributes_less (node delimiter children rest) e = absurd (false≢true e)
attributes_less (leaf it end) e = omega arith
attributes_less (leaf it (leaf next rest)) e = omega arith
attributes_less (leaf it (node delimiter children rest)) e = omega arith

-- What the first subtree says, if it is in parentheses.
pub cfg_first : (known : Known) (trees : Forest) (delimiter : Delimiter) (inside behind : Forest) (is_list : Bool) → trees ≡ node delimiter inside behind → is_parenthesis delimiter.kind ≡ is_list
    → cfg_says known trees ≡ cond is_list (check known inside) None
cfg_first known trees delimiter inside behind is_list is kind = ap (cfg_says known) is ∙ ap (λ b. cond b (check known inside) None) kind

pub cfg_attr_first : (known : Known) (trees : Forest) (delimiter : Delimiter) (inside behind : Forest) (is_list : Bool) → trees ≡ node delimiter inside behind → is_parenthesis delimiter.kind ≡ is_list
    → cfg_attr_says known trees ≡ cond is_list (either (negated (check known (front_trees (comma_at inside) inside))) (metas_say known false inside)) None
cfg_attr_first known trees delimiter inside behind is_list is kind =
    ap (cfg_attr_says known) is ∙ ap (λ b. cond b (either (negated (check known (front_trees (comma_at inside) inside))) (metas_say known false inside)) None) kind

-- What the first subtree says, if it is brackets.
pub brackets_first : (known : Known) (trees : Forest) (delimiter : Delimiter) (inside behind : Forest) (is_attribute : Bool) → trees ≡ node delimiter inside behind → is_bracket delimiter.kind ≡ is_attribute
    → brackets_say known trees ≡ cond is_attribute (condition_says known inside) (Some true)
brackets_first known trees delimiter inside behind is_attribute is kind = ap (brackets_say known) is ∙ ap (λ b. cond b (condition_says known inside) (Some true)) kind
