-- What comes first at a position, if some of it may be under a false condition.
use Rattle.std.proofs.Common.{◌≡◌, ◌<◌, ◌∙◌, ℕ, suc, Bool, true, false, List, length, Option, None, Some, refl, ap, sym, cond, arith, true≢false}
use Rattle.std.specs.Prelude.{◌==◌, ◌&&◌, ◌||◌, not, option_map, codes}
use Rattle.tt.specs.Forest.{Forest, end, leaf, node, size}
use Rattle.tt.specs.Gluing.{after_trees}
use Rattle.tt.specs.Siblings.{list_of}
use Rattle.tt.specs.Types.Leaf.TheVariants as leaf_of
use Rattle.expand_items.proofs.Lengths.{less_behind}
use Rattle.expand_items.proofs.OnePart.{has_part, one_part}
use Rattle.expand_items.specs.Attributes.{item_at, item_behind, begins_attributes, attributes_len, is_at_attribute, with_attributes}
use Rattle.expand_items.specs.Cfg.{Known}
use Rattle.expand_items.specs.Inactive.{IsInactive, IsItemAt, verbatim, unless_inactive, elsewhere, active, rest as all_rest, part as one_of, begins_sign, is_part_inactive, is_rest_inactive, item_unless}
use Rattle.expand_items.specs.Conditions.{attributes_say, brackets_say, is_false}
use Rattle.expand_items.specs.Items.{Item, Definition, Call, defines, calls, inactive, other, call_in, definition_in, item_from, item_in}
use Rattle.expand_items.specs.Parts.{IsPart, item as an_item, no_item, statement, no_statement, statement_len}
use Rattle.expand_items.specs.Positions.{is_at_brackets, is_at_inner, is_statement}
use Rattle.expand_items.specs.declared.part.Part.{Part}
use Rattle.expand_items.specs.declared.position.Position.{Position}
use Rattle.expand_items.specs.declared.position.Siblings.{Siblings}
use Rattle.mbe_pattern.specs.Units.{is_at_punct}

-- A definition or a call that comes first is one without regard to conditions.
defines_unless : (len : Option ℕ) (found : Item) (it : Definition) → defines it ≡ item_unless len found → found ≡ defines it
defines_unless None found it is = sym is
defines_unless (Some len) found it is = absurd (cc is)

calls_unless : (len : Option ℕ) (found : Item) (it : Call) → calls it ≡ item_unless len found → found ≡ calls it
calls_unless None found it is = sym is
calls_unless (Some len) found it is = absurd (cc is)

pub defines_at : {known : Known} {root : List ℕ} {position : Position} {trees : Forest} {it : Definition} → IsItemAt known root position trees (defines it)
    → item_at root position trees ≡ defines it
defines_at (verbatim e is) = sym is
defines_at {root = root} {position = position} {trees = trees} {it = it} (unless_inactive len free there is) = defines_unless len (item_at root position trees) it is

pub calls_at : {known : Known} {root : List ℕ} {position : Position} {trees : Forest} {it : Call} → IsItemAt known root position trees (calls it)
    → item_at root position trees ≡ calls it
calls_at (verbatim e is) = sym is
calls_at {root = root} {position = position} {trees = trees} {it = it} (unless_inactive len free there is) = calls_unless len (item_at root position trees) it is

-- Without regard to conditions nothing is under a false one.
found_active : (definition : Option Definition) (call : Option Call) (len : ℕ) → item_from definition call ≡ inactive len → ⊥
found_active (Some it) call len e = cc e
found_active None (Some it) len e = cc e
found_active None None len e = cc e

behind_active : (position : Position) (attributes : ℕ) (trees : Forest) (found : Item) (len : ℕ) → item_behind position attributes trees found ≡ inactive len → ⊥
behind_active position attributes trees (defines it) len e = cc e
behind_active position attributes trees (inactive n) len e = cc e
behind_active position attributes trees other len e = cc e
behind_active position attributes trees (calls it) len e = by (is_statement attributes it.delimiter.kind (after_trees it.len trees) position) e
  where
    by : (b : Bool) → cond b (calls (with_attributes attributes it)) other ≡ inactive len → ⊥
    by true e = cc e
    by false e = cc e

item_active : (root : List ℕ) (position : Position) (trees : Forest) (len : ℕ) → item_at root position trees ≡ inactive len → ⊥
item_active root position trees len = by position.is_verbatim (begins_attributes position trees)
  where
    behind : Forest
    behind = after_trees (attributes_len trees) trees

    by : (verbatim b : Bool) → cond verbatim other (cond b (item_behind position (attributes_len trees) behind (item_in root behind)) (item_in root trees)) ≡ inactive len → ⊥
    by true b e = cc e
    by false true e = behind_active position (attributes_len trees) behind (item_in root behind) len e
    by false false e = found_active (definition_in trees) (call_in root trees) len e

-- No attribute begins at the end.
sign_end : (position : Position) → begins_sign position end ≡ false
sign_end position = by position.is_start position.is_attributed
  where
    by : (a b : Bool) → (a && (not b && false)) ≡ false
    by true true = refl
    by true false = refl
    by false b = refl

-- At the end nothing comes first.
item_end : (root : List ℕ) (position : Position) → item_at root position end ≡ other
item_end root position = by position.is_verbatim (begins_attributes position end)
  where
    by : (verbatim b : Bool) → cond verbatim other (cond b (item_behind position (attributes_len end) (after_trees (attributes_len end) end) (item_in root (after_trees (attributes_len end) end))) (item_in root end)) ≡ other
    by true b = refl
    by false true = refl
    by false false = refl

pub end_other : (known : Known) (root : List ℕ) (position : Position) → IsItemAt known root position end other
end_other known root position = by position.is_verbatim refl
  where
    by : (verbatim : Bool) → position.is_verbatim ≡ verbatim → IsItemAt known root position end other
    by true e = verbatim e (sym (item_end root position))
    by false e = unless_inactive None e (elsewhere (sign_end position)) (sym (item_end root position))

-- An inner attribute is none before a statement or an item.
never_both : (trees : Forest) → is_at_inner trees ≡ true → is_at_attribute trees ≡ true → ⊥
never_both end inner outer = true≢false (sym inner)
never_both (node delimiter children behind) inner outer = true≢false (sym inner)
never_both (leaf (leaf_of.Ident it) behind) inner outer = true≢false (sym outer)
never_both (leaf (leaf_of.Literal it) behind) inner outer = true≢false (sym outer)
never_both (leaf (leaf_of.Punct it) end) inner outer = true≢false (sym (right (it.char == 35) false outer))
  where
    right : (a b : Bool) → (a && b) ≡ true → b ≡ true
    right true b e = e
    right false b e = absurd (cc e)
never_both (leaf (leaf_of.Punct it) (leaf next behind)) inner outer = true≢false (sym (right (it.char == 35) false outer))
  where
    right : (a b : Bool) → (a && b) ≡ true → b ≡ true
    right true b e = e
    right false b e = absurd (cc e)
never_both (leaf (leaf_of.Punct it) (node delimiter children behind)) inner outer = true≢false (sym (both ((it.char == 35) || false) inner))
  where
    both : (a : Bool) → (a && (false && is_at_brackets behind)) ≡ true → false ≡ true
    both true e = e
    both false e = e

-- One number of trees is under a false condition.
left_true : (a b : Bool) → (a && b) ≡ true → a ≡ true
left_true true b e = refl
left_true false b e = absurd (cc e)

one_inactive : {known : Known} {position : Position} {trees : Forest} {a b : Option ℕ} → IsInactive known position trees a → IsInactive known position trees b → a ≡ b
one_inactive (elsewhere none) (elsewhere nothing) = refl
one_inactive (elsewhere none) (active a b) = refl
one_inactive (elsewhere none) (all_rest some is) = absurd (true≢false (sym some ∙ none))
one_inactive (elsewhere none) (one_of some is found) = absurd (true≢false (sym some ∙ none))
one_inactive (active a b) (elsewhere nothing) = refl
one_inactive (active a b) (active c d) = refl
one_inactive (active a b) (all_rest some is) = absurd (true≢false (sym is ∙ a))
one_inactive (active a b) (one_of some is found) = absurd (true≢false (sym is ∙ b))
one_inactive (all_rest some is) (elsewhere nothing) = absurd (true≢false (sym some ∙ nothing))
one_inactive (all_rest some is) (active a b) = absurd (true≢false (sym is ∙ a))
one_inactive (all_rest some is) (all_rest more was) = refl
one_inactive {known = known} {trees = trees} (all_rest some is) (one_of more was found) =
    absurd (never_both trees (left_true (is_at_inner trees) (is_false (brackets_say known (after_trees 2 trees))) is) (left_true (is_at_attribute trees) (is_false (attributes_say known trees)) was))
one_inactive (one_of some is found) (elsewhere nothing) = absurd (true≢false (sym some ∙ nothing))
one_inactive (one_of some is found) (active a b) = absurd (true≢false (sym is ∙ b))
one_inactive {known = known} {trees = trees} (one_of some is found) (all_rest more was) =
    absurd (never_both trees (left_true (is_at_inner trees) (is_false (brackets_say known (after_trees 2 trees))) was) (left_true (is_at_attribute trees) (is_false (attributes_say known trees)) is))
one_inactive (one_of some is found) (one_of more was that) = ap (option_map (λ it. it.len)) (one_part found that)

-- One thing comes first.
pub one_item : {known : Known} {root : List ℕ} {position : Position} {trees : Forest} {a b : Item} → IsItemAt known root position trees a → IsItemAt known root position trees b → a ≡ b
one_item (verbatim e is) (verbatim also was) = is ∙ sym was
one_item (verbatim e is) (unless_inactive len free there was) = absurd (true≢false (sym e ∙ free))
one_item (unless_inactive len free there is) (verbatim e was) = absurd (true≢false (sym e ∙ free))
one_item {root = root} {position = position} {trees = trees} (unless_inactive len free there is) (unless_inactive other_len also again was) =
    is ∙ ap (λ n. item_unless n (item_at root position trees)) (one_inactive there again) ∙ sym was

-- Something comes first.
has_inactive : (known : Known) (position : Position) (trees : Forest) → (len : Option ℕ) × IsInactive known position trees len
has_inactive known position trees = by (begins_sign position trees) (is_rest_inactive known trees) (is_part_inactive known trees) refl refl refl
  where
    by : (a b c : Bool) → begins_sign position trees ≡ a → is_rest_inactive known trees ≡ b → is_part_inactive known trees ≡ c → (len : Option ℕ) × IsInactive known position trees len
    by false b c is all one = (None, elsewhere is)
    by true false false is all one = (None, active all one)
    by true true c is all one = (Some (length (list_of trees)), all_rest is all)
    by true false true is all one = let found = has_part position.siblings trees in (option_map (λ it. it.len) found.0, one_of is one found.1)

pub has_item : (known : Known) (root : List ℕ) (position : Position) (trees : Forest) → (it : Item) × IsItemAt known root position trees it
has_item known root position trees = by position.is_verbatim refl
  where
    by : (verbatim : Bool) → position.is_verbatim ≡ verbatim → (it : Item) × IsItemAt known root position trees it
    by true e = (item_at root position trees, verbatim e refl)
    by false e = let found = has_inactive known position trees in (item_unless found.0 (item_at root position trees), unless_inactive found.0 e found.1 refl)

-- An item or a statement has at least one tree.
part_long : {its : Siblings} {trees : Forest} {found : Option Part} → IsPart its trees found → (n : ℕ) → option_map (λ it. it.len) found ≡ Some n → 0 < n
part_long (an_item {more = more} takes) n e =
    let same : suc more ≡ n = cc e in
    omega (arith, same)
part_long (no_item are takes) n e = absurd (cc e)
part_long (statement {trees = trees} {more = more} are is takes) n e =
    let same : statement_len (suc more) trees ≡ n = cc e in
    omega (arith, by (is_at_punct (codes ";") (after_trees (suc more) trees)), same)
  where
    by : (b : Bool) → 0 < cond b (suc (suc more)) (suc more)
    by true = omega arith
    by false = omega arith
part_long (no_statement are is takes) n e = absurd (cc e)

list_long : (trees : Forest) → (trees ≡ end → ⊥) → 0 < length (list_of trees)
list_long end some = absurd (some refl)
list_long (leaf it behind) some = omega arith
list_long (node delimiter children behind) some = omega arith

-- Trees under a false condition are at least one.
not_end : (position : Position) (trees : Forest) → begins_sign position trees ≡ true → trees ≡ end → ⊥
not_end position trees some none = true≢false (sym some ∙ ap (begins_sign position) none ∙ sign_end position)

inactive_long : {known : Known} {position : Position} {trees : Forest} {len : Option ℕ} → IsInactive known position trees len → (n : ℕ) → len ≡ Some n
    → (0 < n) × (trees ≡ end → ⊥)
inactive_long (elsewhere none) n e = absurd (cc e)
inactive_long (active a b) n e = absurd (cc e)
inactive_long {position = position} {trees = trees} (all_rest some is) n e =
    let same : length (list_of trees) ≡ n = cc e in
    (omega (arith, list_long trees (not_end position trees some), same), not_end position trees some)
inactive_long {position = position} {trees = trees} (one_of some is found) n e = (part_long found n e, not_end position trees some)

-- After them fewer tokens are left.
pub inactive_less : {known : Known} {root : List ℕ} {position : Position} {trees : Forest} {len : ℕ} → IsItemAt known root position trees (inactive len)
    → size (after_trees len trees) < size trees
inactive_less {root = root} {position = position} {trees = trees} {len = len} (verbatim e is) = absurd (item_active root position trees len (sym is))
inactive_less {root = root} {position = position} {trees = trees} {len = len} (unless_inactive None free there is) = absurd (item_active root position trees len (sym is))
inactive_less {root = root} {position = position} {trees = trees} {len = len} (unless_inactive (Some n) free there is) =
    let same : len ≡ n = cc is in
    let long = inactive_long there n refl in
    less_behind len trees (omega (arith, long.0, same)) long.1
