-- Blocks among trees, and trees passed up to the end of a block and up to a `;` at the end.
use Rattle.std.proofs.Common.{◌≡◌, ◌+◌, ◌<◌, ◌≤◌, ℕ, suc, Bool, true, false, codes, refl, ap, sym, ◌∙◌, arith, cond}
use Rattle.std.proofs.lemmas.Bool.{false≢true}
use Rattle.std.specs.Prelude.{◌&&◌, ◌||◌, not}
use Rattle.tt.specs.Forest.{Forest, end, leaf, node, join, size}
use Rattle.tt.specs.Gluing.{after_trees}
use Rattle.tt.specs.Moves.{after_tree}
use Rattle.tt.specs.Siblings.{is_end}
use Rattle.tt.specs.Types.Delimiter.{Delimiter}
use Rattle.tt.specs.Types.DelimiterKind.{DelimiterKind}
use Rattle.tt.specs.Types.DelimiterKind.TheVariants as delimited
use Rattle.tt_base.proofs.Joins.{join-assoc}
use Rattle.expand_items.proofs.ManyTrees.{after_more}
use Rattle.expand_items.specs.Expressions.{begins_block, block_goes_on, ends_with_semicolon, has_no_block, has_semicolon, is_at_block, is_at_braces, is_invisible, is_last_semicolon, without_semicolon}
use Rattle.mbe_pattern.proofs.Passing.{front_is}
use Rattle.mbe_pattern.specs.Units.{front_trees, is_at_punct, is_at_word, is_brace}

-- the first tree is braces that end a block
abbrev pub ends_block : Forest → Bool
ends_block trees = is_at_braces trees && not (is_at_word (codes "else") (after_tree trees))

-- A subtree with brackets begins with a block if these are braces, and an invisible one if its children do.
pub bracketed_begins : (it : Delimiter) (children rest : Forest) → is_invisible it.kind ≡ false → begins_block (node it children rest) ≡ is_brace it.kind
bracketed_begins it children rest = by it.kind
  where
    by : (kind : DelimiterKind) → is_invisible kind ≡ false → (is_brace kind || (is_invisible kind && begins_block children)) ≡ is_brace kind
    by delimited.Parenthesis e = refl
    by delimited.Brace e = refl
    by delimited.Bracket e = refl
    by delimited.Invisible e = absurd (false≢true (sym e))
    by delimited.InvisibleOpaque e = absurd (false≢true (sym e))

pub invisible_begins : (it : Delimiter) (children rest : Forest) → is_invisible it.kind ≡ true → begins_block (node it children rest) ≡ begins_block children
invisible_begins it children rest = by it.kind
  where
    by : (kind : DelimiterKind) → is_invisible kind ≡ true → (is_brace kind || (is_invisible kind && begins_block children)) ≡ begins_block children
    by delimited.Parenthesis e = absurd (false≢true e)
    by delimited.Brace e = absurd (false≢true e)
    by delimited.Bracket e = absurd (false≢true e)
    by delimited.Invisible e = refl
    by delimited.InvisibleOpaque e = refl

-- A block ends the search for blocks; another tree goes on with it.
pub block_found : (trees : Forest) → is_at_block trees ≡ true → has_no_block trees ≡ false
block_found end e = absurd (false≢true e)
block_found (leaf it rest) e = ap (λ b. not b && has_no_block rest) e
block_found (node delimiter children rest) e = ap (λ b. not b && has_no_block rest) e

pub no_block_yet : (trees : Forest) → is_at_block trees ≡ false → is_end trees ≡ false → has_no_block trees ≡ has_no_block (after_tree trees)
no_block_yet end e some = absurd (false≢true (sym some))
no_block_yet (leaf it rest) e some = ap (λ b. not b && has_no_block rest) e
no_block_yet (node delimiter children rest) e some = ap (λ b. not b && has_no_block rest) e

pub none_found : (trees : Forest) → is_end trees ≡ true → has_no_block trees ≡ true
none_found end e = refl
none_found (leaf it rest) e = absurd (false≢true e)
none_found (node delimiter children rest) e = absurd (false≢true e)

-- A `;` ends the search for one; another tree goes on with it.
pub semicolon_found : (trees : Forest) → is_at_punct (codes ";") trees ≡ true → has_semicolon trees ≡ true
semicolon_found end e = absurd (false≢true e)
semicolon_found (leaf it rest) e = ap (λ b. b || has_semicolon rest) e
semicolon_found (node delimiter children rest) e = absurd (false≢true e)

pub no_semicolon_yet : (trees : Forest) → is_at_punct (codes ";") trees ≡ false → has_semicolon trees ≡ has_semicolon (after_tree trees)
no_semicolon_yet end e = refl
no_semicolon_yet (leaf it rest) e = ap (λ b. b || has_semicolon rest) e
no_semicolon_yet (node delimiter children rest) e = refl

pub no_semicolon : (trees : Forest) → is_end trees ≡ true → has_semicolon trees ≡ false
no_semicolon end e = refl
no_semicolon (leaf it rest) e = absurd (false≢true e)
no_semicolon (node delimiter children rest) e = absurd (false≢true e)

-- A `;` at the end ends the search for one; another tree goes on with it.
pub last_found : (trees : Forest) → is_last_semicolon trees ≡ true → ends_with_semicolon trees ≡ true
last_found end e = absurd (false≢true e)
last_found (leaf it rest) e = ap (λ b. b || ends_with_semicolon rest) e
last_found (node delimiter children rest) e = absurd (false≢true e)

pub not_last_yet : (trees : Forest) → is_last_semicolon trees ≡ false → ends_with_semicolon trees ≡ ends_with_semicolon (after_tree trees)
not_last_yet end e = refl
not_last_yet (leaf it rest) e = ap (λ b. b || ends_with_semicolon rest) e
not_last_yet (node delimiter children rest) e = refl

pub none_last : (trees : Forest) → is_end trees ≡ true → ends_with_semicolon trees ≡ false
none_last end e = refl
none_last (leaf it rest) e = absurd (false≢true e)
none_last (node delimiter children rest) e = absurd (false≢true e)

-- What follows other trees decides.
pub passed_on : (trees : Forest) → ends_block trees ≡ false → block_goes_on trees ≡ block_goes_on (after_tree trees)
passed_on end e = refl
passed_on (leaf it rest) e = refl
passed_on (node delimiter children rest) e = ap (λ b. cond b (not (is_end rest)) (block_goes_on rest)) e

-- What follows such braces is all that is left.
pub stopped_at : (trees : Forest) → ends_block trees ≡ true → block_goes_on trees ≡ not (is_end (after_tree trees))
stopped_at end e = absurd (false≢true e)
stopped_at (leaf it rest) e = absurd (false≢true e)
stopped_at (node delimiter children rest) e = ap (λ b. cond b (not (is_end rest)) (block_goes_on rest)) e

-- Passing a tree leaves less.
pub less_behind : (trees : Forest) → is_end trees ≡ false → size (after_tree trees) < size trees
less_behind end e = absurd (false≢true (sym e))
less_behind (leaf it rest) e = omega arith
less_behind (node delimiter children rest) e = omega arith

-- Nothing after trees leaves them as they are.
join_end : (trees : Forest) → join trees end ≡ trees
join_end end = refl
join_end (leaf it rest) = ap (leaf it) (join_end rest)
join_end (node delimiter children rest) = ap (node delimiter children) (join_end rest)

-- After a number of trees of a whole, these are left, and dropping a `;` at their end drops that of the whole.
pub record IsPassed (whole : Forest) (len : ℕ) (rest : Forest) : Type 0 where
  pub passed : Forest
  pub all : join passed rest ≡ whole
  pub left : after_trees len whole ≡ rest
  pub dropped : without_semicolon whole ≡ join passed (without_semicolon rest)
  pub fits : len + size rest ≤ size whole

-- Nothing is passed at first.
pub none_passed : (whole : Forest) → IsPassed whole 0 whole
none_passed whole = record { passed = end; all = refl; left = refl; dropped = refl; fits = omega arith }

module _ (whole : Forest) (len : ℕ) (rest : Forest) (is : IsPassed whole len rest) where
  -- One more tree is passed, unless it is a `;` at the end.
  pub more_passed : is_end rest ≡ false → is_last_semicolon rest ≡ false → IsPassed whole (len + 1) (after_tree rest)
  more_passed some e = by rest some e is.all is.left is.dropped is.fits
    where
      one_more : len + 1 ≡ suc len
      one_more = omega arith

      left : (trees : Forest) → after_trees len whole ≡ trees → after_trees (len + 1) whole ≡ after_tree trees
      left trees is = ap (λ n. after_trees n whole) one_more ∙ after_more len whole ∙ ap after_tree is

      by : (trees : Forest) → is_end trees ≡ false → is_last_semicolon trees ≡ false → join is.passed trees ≡ whole → after_trees len whole ≡ trees
          → without_semicolon whole ≡ join is.passed (without_semicolon trees) → len + size trees ≤ size whole → IsPassed whole (len + 1) (after_tree trees)
      by end some e all there dropped fits = absurd (false≢true (sym some))
      by (leaf it others) some e all there dropped fits = record {
        passed = join is.passed (leaf it end);
        all = join-assoc is.passed (leaf it end) others ∙ all;
        left = left (leaf it others) there;
        dropped = dropped ∙ ap (λ b. join is.passed (cond b end (leaf it (without_semicolon others)))) e
            ∙ sym (join-assoc is.passed (leaf it end) (without_semicolon others));
        fits = omega (arith, fits);
      }
      by (node delimiter children others) some e all there dropped fits = record {
        passed = join is.passed (node delimiter children end);
        all = join-assoc is.passed (node delimiter children end) others ∙ all;
        left = left (node delimiter children others) there;
        dropped = dropped ∙ sym (join-assoc is.passed (node delimiter children end) (without_semicolon others));
        fits = omega (arith, fits);
      }

  -- The trees that are passed are all but the `;`.
  pub all_passed : without_semicolon rest ≡ end → front_trees len whole ≡ without_semicolon whole
  all_passed none =
      sym (front_is len whole is.passed (ap (join is.passed) is.left ∙ is.all))
      ∙ sym dropped_all
    where
      dropped_all : without_semicolon whole ≡ is.passed
      dropped_all = is.dropped ∙ ap (join is.passed) none ∙ join_end is.passed

-- Nothing is left of no trees, and of a `;` at the end.
pub end_dropped : (trees : Forest) → is_end trees ≡ true → without_semicolon trees ≡ end
end_dropped end e = refl
end_dropped (leaf it rest) e = absurd (false≢true e)
end_dropped (node delimiter children rest) e = absurd (false≢true e)

pub semicolon_dropped : (trees : Forest) → is_last_semicolon trees ≡ true → without_semicolon trees ≡ end
semicolon_dropped end e = refl
semicolon_dropped (leaf it rest) e = ap (λ b. cond b end (leaf it (without_semicolon rest))) e
semicolon_dropped (node delimiter children rest) e = absurd (false≢true e)
