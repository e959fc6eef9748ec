-- Worked rows of what each fragment takes: each holds by computation.
use Rattle.std.proofs.Common.{◌≡◌, true, false, codes, refl, lit<, lit≤, not-le_of_lt}
use Rattle.tt.specs.Forest.{Forest, end, leaf, join}
use Rattle.tt.specs.Types.DelimiterKind.TheVariants.{Parenthesis, Brace, InvisibleOpaque}
use Rattle.tt.specs.Types.LitKind.TheVariants.{Integer, Str}
use Rattle.tt_base.proofs.Samples.{literal, subtree}
use Rattle.mbe_pattern.specs.declared.pattern.Fragment.TheVariants as fragment
use Rattle.mbe_matcher.specs.GrammarReach.{is_block}
use Rattle.mbe_matcher.specs.Fragments.{takes, taken, reach}
use Rattle.mbe_pattern.proofs.Rows.{word, raw_word, alone, joint, arrow, life, comma}

-- An ident takes an ident, raw or not, also a keyword, except `_`, and no lifetime and no `$crate`.
ident_takes : takes fragment.Ident (word (codes "a") end) ≡ true
ident_takes = refl

raw_taken : takes fragment.Ident (raw_word (codes "a") end) ≡ true
raw_taken = refl

keyword_taken : takes fragment.Ident (word (codes "self") end) ≡ true
keyword_taken = refl

truth_is_ident : takes fragment.Ident (word (codes "true") end) ≡ true
truth_is_ident = refl

crate_left : takes fragment.Ident (alone 36 (word (codes "crate") end)) ≡ false
crate_left = refl

underscore_left : takes fragment.Ident (word (codes "_") end) ≡ false
underscore_left = refl

lifetime_no_ident : takes fragment.Ident (life end) ≡ false
lifetime_no_ident = refl

-- A literal takes a truth value that is not raw, and either after `-`, which are two trees; no second `-` and no brackets.
truth_taken : takes fragment.Literal (word (codes "true") end) ≡ true
truth_taken = refl

falsehood_taken : takes fragment.Literal (word (codes "false") end) ≡ true
falsehood_taken = refl

raw_truth_left : takes fragment.Literal (raw_word (codes "true") end) ≡ false
raw_truth_left = refl

minus_truth_taken : taken fragment.Literal (alone 45 (word (codes "true") (comma end))) ≡ alone 45 (word (codes "true") end)
minus_truth_taken = refl

minus_truth_takes : takes fragment.Literal (alone 45 (word (codes "true") end)) ≡ true
minus_truth_takes = refl

minus_raw_left : takes fragment.Literal (alone 45 (raw_word (codes "true") end)) ≡ false
minus_raw_left = refl

underscore_no_literal : takes fragment.Literal (word (codes "_") end) ≡ false
underscore_no_literal = refl

lifetime_no_literal : takes fragment.Literal (life end) ≡ false
lifetime_no_literal = refl

only_minus_left : takes fragment.Literal (alone 45 end) ≡ false
only_minus_left = refl

minus_left : takes fragment.Literal (alone 45 (word (codes "a") end)) ≡ false
minus_left = refl

-- `3` and `-3` before others
abbrev three : Forest → Forest
three rest = leaf (literal (codes "3") Integer (lit≤ tt) (lit≤ tt, λ h. absurd (not-le_of_lt (lit< tt) h))) rest

abbrev minus_three : Forest → Forest
minus_three rest = alone 45 (three rest)

negative_takes : takes fragment.Literal (minus_three (comma end)) ≡ true
negative_takes = refl

negative_taken : taken fragment.Literal (minus_three (comma end)) ≡ minus_three end
negative_taken = refl

-- `- "s"` before others, and `- -3` and `-(3)`
abbrev minus_text : Forest → Forest
minus_text rest = alone 45 (leaf (literal (codes "s") Str (lit≤ tt) (lit≤ tt, λ h. absurd (not-le_of_lt (lit< tt) h))) rest)

text_takes : takes fragment.Literal (minus_text (comma end)) ≡ true
text_takes = refl

text_taken : taken fragment.Literal (minus_text (comma end)) ≡ minus_text end
text_taken = refl

two_minus_left : takes fragment.Literal (alone 45 (minus_three end)) ≡ false
two_minus_left = refl

minus_brackets_left : takes fragment.Literal (alone 45 (join (subtree Parenthesis (three end)) end)) ≡ false
minus_brackets_left = refl

-- It also takes an opaque subtree that holds such a literal and nothing else, as one tree.
abbrev in_opaque : Forest → Forest
in_opaque inside = subtree InvisibleOpaque inside

held_takes : takes fragment.Literal (in_opaque (minus_three end)) ≡ true
held_takes = refl

held_taken : taken fragment.Literal (join (in_opaque (minus_three end)) (comma end)) ≡ in_opaque (minus_three end)
held_taken = refl

three_held : takes fragment.Literal (in_opaque (three end)) ≡ true
three_held = refl

more_left : takes fragment.Literal (in_opaque (minus_three (comma end))) ≡ false
more_left = refl

name_left : takes fragment.Literal (in_opaque (alone 45 (word (codes "a") end))) ≡ false
name_left = refl

nothing_held_left : takes fragment.Literal (in_opaque end) ≡ false
nothing_held_left = refl

twice_held_left : takes fragment.Literal (in_opaque (in_opaque (three end))) ≡ false
twice_held_left = refl

brackets_left : takes fragment.Literal (subtree Parenthesis (minus_three end)) ≡ false
brackets_left = refl

module _ (rest : Forest) where
  -- A lifetime is a `'` and an ident, which may be `_`, a keyword or raw.
  lifetime_takes : takes fragment.Lifetime (life rest) ≡ true
  lifetime_takes = refl

  lifetime_taken : taken fragment.Lifetime (life rest) ≡ life end
  lifetime_taken = refl

underscore_lifetime : takes fragment.Lifetime (joint 39 (word (codes "_") end)) ≡ true
underscore_lifetime = refl

static_lifetime : takes fragment.Lifetime (joint 39 (word (codes "static") end)) ≡ true
static_lifetime = refl

raw_lifetime : takes fragment.Lifetime (joint 39 (raw_word (codes "a") end)) ≡ true
raw_lifetime = refl

ident_no_lifetime : takes fragment.Lifetime (word (codes "a") end) ≡ false
ident_no_lifetime = refl

quote_left : takes fragment.Lifetime (joint 39 (comma end)) ≡ false
quote_left = refl

-- A block is a subtree in braces with the contents of a block.
block_takes : takes fragment.Block (subtree Brace end) ≡ is_block end
block_takes = refl

parentheses_left : takes fragment.Block (subtree Parenthesis end) ≡ false
parentheses_left = refl

-- A visibility is `pub`, with or without a following `(crate)` or `(in ..)`, or nothing; `r#pub` is none, and `(a)` is not part of one.
visible : reach fragment.Vis (word (codes "pub") (comma end)) ≡ 1
visible = refl

visible_in_crate : reach fragment.Vis (word (codes "pub") (join (subtree Parenthesis (word (codes "crate") end)) end)) ≡ 2
visible_in_crate = refl

visible_in_path : reach fragment.Vis (word (codes "pub") (join (subtree Parenthesis (word (codes "in") (word (codes "a") end))) end)) ≡ 2
visible_in_path = refl

visible_before : reach fragment.Vis (word (codes "pub") (join (subtree Parenthesis (word (codes "a") end)) end)) ≡ 1
visible_before = refl

not_visible : reach fragment.Vis (raw_word (codes "pub") end) ≡ 0
not_visible = refl

-- It takes nothing only before a tree: not at the end of the input or of a subtree.
nothing_visible : takes fragment.Vis (comma end) ≡ true
nothing_visible = refl

nothing_before_end : takes fragment.Vis end ≡ false
nothing_before_end = refl

-- `tt` takes a token or a subtree; it takes nothing if there is nothing.
arrow_taken : taken fragment.Tt (arrow (comma end)) ≡ arrow end
arrow_taken = refl

life_taken : taken fragment.Tt (life (comma end)) ≡ life end
life_taken = refl

nothing_left : takes fragment.Tt end ≡ false
nothing_left = refl
