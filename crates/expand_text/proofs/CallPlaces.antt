-- Where a call lies in a text.
use Rattle.std.proofs.Common.{◌≡◌, ◌≤◌, ℕ, suc, Bool, true, false, List, refl, ap, sym, subst, ◌∙◌, arith, cond, codes}
use Rattle.std.specs.Prelude.{◌||◌, ◌==◌}
use Rattle.std.specs.Str.{IsCharBoundary}
use Rattle.tt.specs.Forest.{Forest, Root, end, leaf, node}
use Rattle.tt.specs.Gluing.{after_trees}
use Rattle.tt.specs.Moves.{after_tree}
use Rattle.tt.specs.Span.{start_of, end_of}
use Rattle.tt.specs.Types.Delimiter.{Delimiter}
use Rattle.tt.specs.Types.Leaf.TheVariants as leaf_of
use Rattle.tt.specs.Types.Span.{Span}
use Rattle.expand_text.specs.Meaning.{begin_in, behind_call, takes_in, end_in, rest_in}
use Rattle.syntax_edit.specs.Places.{begin_at}
use Rattle.expand_items.specs.Items.{Call, calls, item_in}
use Rattle.syntax_edit.specs.Laid.{Lies, Laid, lies_end, lies_leaf, lies_node}
use Rattle.expand_items.proofs.Shapes.{call_ends}
use Rattle.syntax_edit.proofs.LaidFacts.{laid_behind, laid_order, laid_past, starts_before}
use Rattle.expand_text.proofs.CallParts.{alone, begin_alone, end_alone, end_if, rest_alone, rest_if, semicolon_alone}
use Rattle.expand_items.proofs.ManyTrees.{after_more}
use Rattle.expand_items.proofs.Conditions.{IsCallBehind}
use Rattle.expand_items.specs.Attributes.{item_at}
use Rattle.mbe_pattern.proofs.Passing.{after_end}
use Rattle.expand_items.specs.declared.position.Position.{Position}
use Rattle.mbe_pattern.specs.Units.{is_at_punct}

-- A subtree that lies in a text after a byte closes after it, and the trees after the subtree lie there.
past_subtree : {text : List ℕ} {place to : ℕ} {delimiter : Delimiter} {children rest trees : Forest} → trees ≡ node delimiter children rest → Laid text place trees to
    → (place ≤ end_of delimiter.close.range) × IsCharBoundary text (end_of delimiter.close.range) × Laid text (end_of delimiter.close.range) rest to
past_subtree {text} {place} {to} {delimiter} {children} {rest} is laid = by (subst (λ f. Laid text place f to) is laid)
  where
    by : Laid text place (node delimiter children rest) to
        → (place ≤ end_of delimiter.close.range) × IsCharBoundary text (end_of delimiter.close.range) × Laid text (end_of delimiter.close.range) rest to
    by (lies_node opens inside closes behind) = (omega (arith, opens.after, laid_order inside, closes.order), closes.ends, behind)

-- If a subtree follows the first `suc n` trees: from the beginning of the trees to its close is a range, and the other trees lie after it.
to_subtree : {text : List ℕ} {from to : ℕ} (n : ℕ) (other : Span) {delimiter : Delimiter} {children rest trees : Forest} → Laid text from trees to
    → after_trees (suc n) trees ≡ node delimiter children rest
    → Lies text from (start_of (begin_at trees other).range) (end_of delimiter.close.range) × Laid text (end_of delimiter.close.range) rest to
to_subtree n other {delimiter} {children} {rest} (lies_end order) shape = absurd (no (sym (after_end n) ∙ shape))
  where
    no : end ≡ node delimiter children rest → ⊥
    no e = cc
to_subtree n other (lies_leaf {it = it} lies behind) shape =
    let (order, closes, others) = past_subtree shape (laid_behind n behind) in
    (record { after = lies.after; range = record { order = omega (arith, order, starts_before it lies.range.order); begins = lies.range.begins; ends = closes } }, others)
to_subtree n other (lies_node opens inside shuts behind) shape =
    let (order, closes, others) = past_subtree shape (laid_behind n (laid_past inside shuts behind)) in
    (record { after = opens.after; range = record { order = order; begins = opens.range.begins; ends = closes } }, others)

-- A call without its `;` is a range of the text, from where its first token begins to where
-- its subtree closes. The trees after it lie after that.
subtree_laid : {text : List ℕ} {from to : ℕ} (root : List ℕ) (trees : Forest) (it : Call) → item_in root trees ≡ calls it → Laid text from trees to
    → Lies text from (start_of (begin_at trees it.name.span).range) (end_of it.delimiter.close.range)
    × Laid text (end_of it.delimiter.close.range) (after_trees it.len trees) to
subtree_laid {text} {to = to} root trees it is laid =
    let call = call_ends root trees it is in
    let (lies, behind) = to_subtree call.before it.name.span laid call.shape in
    let left : after_trees it.len trees ≡ call.rest = ap (λ n. after_trees n trees) call.len ∙ after_more (suc call.before) trees ∙ ap after_tree call.shape in
    (lies, subst (λ f. Laid text (end_of it.delimiter.close.range) f to) (sym left) behind)

-- A range up to a byte and the `;` after it are one range, and the trees after both lie after the `;`.
with_semicolon : {text : List ℕ} {from start close to : ℕ} (other : Span) (rest : Forest) → is_at_punct (codes ";") rest ≡ true → Lies text from start close
    → Laid text close rest to
    → Lies text from start (end_of (begin_at rest other).range) × Laid text (end_of (begin_at rest other).range) (after_tree rest) to
with_semicolon other end is lies behind = absurd (cc is)
with_semicolon other (node delimiter children rest) is lies behind = absurd (cc is)
with_semicolon other (leaf (leaf_of.Literal it) rest) is lies behind = absurd (cc is)
with_semicolon other (leaf (leaf_of.Ident it) rest) is lies behind = absurd (cc is)
with_semicolon {text} {to = to} other (leaf (leaf_of.Punct it) rest) is lies (lies_leaf semicolon behind) = (
  record {
    after = lies.after;
    range = record {
      order = omega (arith, lies.range.order, semicolon.after, semicolon.range.order);
      begins = lies.range.begins;
      ends = semicolon.range.ends;
    };
  },
  subst (λ n. Laid text n rest to) (ap (λ b. cond b (end_of it.span.range) (start_of it.span.range)) there) behind,
)
  where
    there : (it.char == 59) ≡ true
    there = by (it.char == 59) is
      where
        by : (b : Bool) → (b || false) ≡ true → b ≡ true
        by true is = refl
        by false is = is

-- A call without attributes is a range of the text, from where its first token begins to
-- where it ends. The trees after it lie after that.
bare_laid : {text : List ℕ} {from to : ℕ} (root : List ℕ) (trees : Forest) (it : Call) (takes : Bool) → (takes ≡ true → is_at_punct (codes ";") (behind_call it trees) ≡ true)
    → item_in root trees ≡ calls it → Laid text from trees to
    → Lies text from (start_of (begin_at trees it.name.span).range) (end_of (end_if takes it trees).range)
    × Laid text (end_of (end_if takes it trees).range) (rest_if takes it trees) to
bare_laid root trees it true there is laid =
    let (lies, behind) = subtree_laid root trees it is laid in
    with_semicolon it.delimiter.close (behind_call it trees) (there refl) lies behind
bare_laid root trees it false there is laid = subtree_laid root trees it is laid

-- The same holds for a call after its attributes.
pub call_laid : {text : List ℕ} {from to : ℕ} (root : List ℕ) (trees : Forest) (it : Call) (position : Position) (tree : Root) → item_at root position trees ≡ calls it
    → Laid text from trees to
    → Lies text from (start_of (begin_in it trees).range) (end_of (end_in position it trees tree).range)
    × Laid text (end_of (end_in position it trees tree).range) (rest_in position it trees tree) to
call_laid {text} {from} {to} root trees it position tree is laid =
    let at : IsCallBehind root trees it = alone root position trees it is in
    let behind : Forest = after_trees it.attributes trees in
    let takes : Bool = takes_in position it trees tree in
    let (lies, rest) = bare_laid root behind at.bare takes (semicolon_alone root position trees it is tree) at.shape (laid_behind it.attributes laid) in (
      subst (λ s. Lies text from (start_of s.range) (end_of (end_if takes it trees).range)) (sym (begin_alone root position trees it is))
          (subst (λ s. Lies text from (start_of (begin_at behind at.bare.name.span).range) (end_of s.range)) (sym (end_alone root position trees it is takes)) lies),
      subst (λ f. Laid text (end_of (end_if takes it trees).range) f to) (sym (rest_alone root position trees it is takes))
          (subst (λ s. Laid text (end_of s.range) (rest_if takes at.bare behind) to) (sym (end_alone root position trees it is takes)) rest),
    )
