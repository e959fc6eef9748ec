-- One item or statement comes first.
use Rattle.std.proofs.Common.{◌≡◌, ℕ, zero, suc, Bool, true, false, Option, None, Some, refl, ap, ap₂, sym, ◌∙◌}
use Rattle.tt.specs.Forest.{Forest}
use Rattle.expand_items.proofs.OneSize.{taken_size, taken_is, takes_size}
use Rattle.expand_items.specs.declared.part.Part.{Part}
use Rattle.expand_items.specs.declared.position.Siblings.{Siblings}
use Rattle.expand_items.specs.Parts.{Takes, item_part, statement_part, IsPart, item, no_item, statement, no_statement}
use Rattle.expand_items.specs.Positions.{is_items}
use Rattle.mbe_pattern.specs.declared.pattern.GrammarFragment.TheVariants as fragment

-- the part of so many trees of an item, or else of a statement
abbrev part_of : (item_len : ℕ) → (are_items : Bool) → (statement_len : ℕ) → Forest → Option Part
part_of (suc n) are_items m trees = Some (item_part (suc n))
part_of zero true m trees = None
part_of zero false zero trees = None
part_of zero false (suc m) trees = Some (statement_part (suc m) trees)

-- the part that comes first
abbrev part_at : Siblings → Forest → Option Part
part_at its trees = part_of (taken_size fragment.Item trees) (is_items its) (taken_size fragment.Stmt trees) trees

-- What comes first is that part.
part_is : {its : Siblings} {trees : Forest} {part : Option Part} → IsPart its trees part → part ≡ part_at its trees
part_is (item {its = its} {trees = trees} {more = more} is) =
    ap (λ n. part_of n (is_items its) (taken_size fragment.Stmt trees) trees) (taken_is fragment.Item trees (suc more) is)
part_is (no_item {its = its} {trees = trees} are is) =
    ap₂ (λ n b. part_of n b (taken_size fragment.Stmt trees) trees) (taken_is fragment.Item trees zero is) (sym are)
part_is (statement {its = its} {trees = trees} {more = more} are is found) =
    ap₂ (λ n m. part_of n false m trees) (taken_is fragment.Item trees zero is) (taken_is fragment.Stmt trees (suc more) found)
    ∙ ap (λ b. part_of (taken_size fragment.Item trees) b (taken_size fragment.Stmt trees) trees) (sym are)
part_is (no_statement {its = its} {trees = trees} are is none) =
    ap₂ (λ n m. part_of n false m trees) (taken_is fragment.Item trees zero is) (taken_is fragment.Stmt trees zero none)
    ∙ ap (λ b. part_of (taken_size fragment.Item trees) b (taken_size fragment.Stmt trees) trees) (sym are)

-- So it is one part.
pub one_part : {its : Siblings} {trees : Forest} {a b : Option Part} → IsPart its trees a → IsPart its trees b → a ≡ b
one_part h k = part_is h ∙ sym (part_is k)

-- There is an answer.
pub has_part : (its : Siblings) (trees : Forest) → (found : Option Part) × IsPart its trees found
has_part its trees = by (taken_size fragment.Item trees) (taken_size fragment.Stmt trees) (is_items its) refl (takes_size fragment.Item trees) (takes_size fragment.Stmt trees)
  where
    by : (n m : ℕ) (are_items : Bool) → is_items its ≡ are_items → Takes fragment.Item trees n → Takes fragment.Stmt trees m → (found : Option Part) × IsPart its trees found
    by (suc n) m are e takes others = (Some (item_part (suc n)), item takes)
    by zero m true e takes others = (None, no_item e takes)
    by zero zero false e takes others = (None, no_statement e takes others)
    by zero (suc m) false e takes others = (Some (statement_part (suc m) trees), statement e takes others)
