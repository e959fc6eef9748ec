-- The Rust text of trees is that of Display if both have the same spaces.
use Rattle.std.proofs.Common.{codes, ◌≡◌, ℕ, ◌+◌, Bool, true, false, ◌==◌, ◌&&◌, IsTrue, List, [], ◌∷◌, ◌++◌, None, Some, refl, sym, ap, ap₂, subst, inl, inr, ◌∙◌, append_assoc, append-nil, if◌then◌else◌}
use Rattle.std.proofs.lemmas.Bool.{false≢true}
use Rattle.tt_base.specs.Forest.{Forest, end, leaf, node, size}
use Rattle.tt_base.specs.LeafText.{ident_text, leaf_text}
use Rattle.tt_base.specs.TreeText.{closing_text, display, is_alone, opening_text, siblings_text, space_after, space_if}
use Rattle.tt_base.specs.declared.delimiter.Delimiter.{Delimiter}
use Rattle.tt_base.specs.declared.delimiter.DelimiterKind.{DelimiterKind}
use Rattle.tt_base.specs.declared.delimiter.DelimiterKind.TheVariants as delimits
use Rattle.tt_base.specs.declared.ident.Ident.{Ident}
use Rattle.tt_base.specs.declared.leaf.Leaf.{Leaf}
use Rattle.tt_base.specs.declared.leaf.Leaf.TheVariants as leaf_of
use Rattle.syntax_parse.specs.Role.{kind_of}
use Rattle.syntax_parse.specs.declared.bracket.Bracket.{Bracket}
use Rattle.syntax_parse.specs.declared.bracket.Bracket.TheVariants.{Parenthesis, Brace, Square}
use Rattle.syntax_unparse.specs.Displayed.{IsDisplayed, IsPlain, TakesSpace, behind_all, behind_subtree, has_brackets, is_lone_quote, touches_pound, with_nothing}
use Rattle.syntax_unparse.specs.Marks.{Mark, closing, brackets_of, closes, marks, opens, shown}
use Rattle.syntax_unparse.specs.Text.{behind_leaf, opens_apart, text_of, wants_space, written}
use Rattle.syntax_unparse.specs.declared.behind.Behind.{Behind}
use Rattle.syntax_unparse.specs.declared.behind.Behind.TheVariants.{Opening, Apart, Joint, Slash, Pound, Quote}

-- a leaf has a space before it exactly if a subtree there has one
space_same : (behind : Behind) (it : Leaf) → touches_pound behind it ≡ false → wants_space behind it ≡ opens_apart behind
space_same Opening it h = refl
space_same Apart it h = refl
space_same Joint it h = refl
space_same Slash it h = refl
space_same Pound it h = h
space_same Quote it h = refl

-- and a space after it exactly if Display has one
after_same : (it : Leaf) → is_lone_quote it ≡ false → opens_apart (behind_leaf it) ≡ space_after is_alone it
after_same (leaf_of.Literal literal) h = refl
after_same (leaf_of.Ident ident) h = refl
after_same (leaf_of.Punct punct) h = go (punct.char == 39) (is_alone punct.spacing) (punct.char == 47) (punct.char == 35) h
  where
    go : (q a s p : Bool) → (q && a) ≡ false → opens_apart (if q then Quote else (if a then Apart else (if s then Slash else (if p then Pound else Joint)))) ≡ a
    go true a s p k = sym k
    go false true s p k = refl
    go false false true p k = refl
    go false false false true k = refl
    go false false false false k = refl

-- the brackets of a kind are its texts
record HasBrackets (kind : DelimiterKind) (held : ℕ) : Type 0 where
  pub pair : Bracket
  pub are : brackets_of kind held ≡ Some pair
  pub of_kind : kind_of pair ≡ kind

brackets_there : (kind : DelimiterKind) (held : ℕ) → IsTrue (has_brackets kind) → HasBrackets kind held
brackets_there delimits.Parenthesis held h = record { pair = Parenthesis; are = refl; of_kind = refl }
brackets_there delimits.Brace held h = record { pair = Brace; are = refl; of_kind = refl }
brackets_there delimits.Bracket held h = record { pair = Square; are = refl; of_kind = refl }
brackets_there delimits.Invisible held h = absurd (false≢true h)
brackets_there delimits.InvisibleOpaque held h = absurd (false≢true h)

regrouped : (a b c d e : List Mark) → (a ++ (b ++ (c ++ d))) ++ e ≡ a ++ (b ++ (c ++ (d ++ e)))
regrouped a b c d e =
    append_assoc a (b ++ (c ++ d)) e ∙ ap (λ t. a ++ t) (append_assoc b (c ++ d) e ∙ ap (λ t. b ++ t) (append_assoc c d e))

grouped : (f c t r w : List ℕ) → f ++ (c ++ (t ++ (r ++ w))) ≡ (((f ++ c) ++ t) ++ r) ++ w
grouped f c t r w = sym (append_assoc ((f ++ c) ++ t) r w ∙ append_assoc (f ++ c) t (r ++ w) ∙ append_assoc f c (t ++ (r ++ w)))

-- a kind that is written without brackets has none in Display
bare : (kind : DelimiterKind) (held : ℕ) → brackets_of kind held ≡ None → (opening_text kind ≡ []) × (closing_text kind ≡ [])
bare delimits.Parenthesis held none = cc
bare delimits.Brace held none = cc
bare delimits.Bracket held none = cc
bare delimits.Invisible held none = (refl, refl)
bare delimits.InvisibleOpaque held none = (refl, refl)

-- a space before a subtree without brackets is a space before its first tree
space_first : (due : Bool) (trees : Forest) → TakesSpace due trees → space_if due ++ siblings_text is_alone false trees ≡ siblings_text is_alone due trees
space_first true end takes = absurd takes
space_first true (leaf it rest) takes = refl
space_first true (node delimiter children rest) takes = refl
space_first false trees takes = refl

ungrouped : (s o i c r w : List ℕ) → o ≡ [] → c ≡ [] → (s ++ i) ++ (r ++ w) ≡ ((((s ++ o) ++ i) ++ c) ++ r) ++ w
ungrouped s o i c r w no_opening no_closing =
    ap (λ t. (t ++ i) ++ (r ++ w)) (sym (append-nil s))
    ∙ sym (append_assoc ((s ++ []) ++ i) r w)
    ∙ ap (λ t. (t ++ r) ++ w) (sym (append-nil ((s ++ []) ++ i)))
    ∙ ap₂ (λ a b. ((((s ++ a) ++ i) ++ b) ++ r) ++ w) (sym no_opening) (sym no_closing)

-- the text of siblings, and of what follows them
written_all : (due : Bool) (behind : Behind) (at : ℕ) (trees : Forest) (more : List Mark) → IsDisplayed due behind trees
    → written behind (marks at trees ++ more) ≡ siblings_text is_alone due trees ++ written (behind_all behind trees) more
written_all due behind at end more h = refl
written_all due behind at (leaf it rest) more h =
    ap₂ (λ b t. (space_if b ++ leaf_text it) ++ t) h.0 (written_all (space_after is_alone it) (behind_leaf it) (at + 1) rest more h.1)
    ∙ sym (append_assoc (space_if due ++ leaf_text it) (siblings_text is_alone (space_after is_alone it) rest) (written (behind_all (behind_leaf it) rest) more))
written_all due behind at (node delimiter children rest) more (inl h) =
    let there = brackets_there delimiter.kind (shown children) h.0 in
    let pair = there.pair in
    let space = space_if due in
    let held = marks (at + 1) children in
    let others = marks ((at + 1) + size children) rest in
    let inside = siblings_text is_alone false children in
    let outside = siblings_text is_alone true rest in
    let left = written (behind_all Apart rest) more in
    ap (written behind) (regrouped (opens (brackets_of delimiter.kind (shown children))) held (closes (brackets_of delimiter.kind (shown children))) others more)
    ∙ ap (λ b. written behind (opens b ++ (held ++ (closes b ++ (others ++ more))))) there.are
    ∙ ap (λ s. (space_if s ++ opening_text (kind_of pair)) ++ written Opening (held ++ (closing pair ∷ (others ++ more)))) h.1
    ∙ ap (λ t. (space ++ opening_text (kind_of pair)) ++ t) (written_all false Opening (at + 1) children (closing pair ∷ (others ++ more)) h.2)
    ∙ ap (λ t. (space ++ opening_text (kind_of pair)) ++ (inside ++ (closing_text (kind_of pair) ++ t))) (written_all true Apart ((at + 1) + size children) rest more h.3)
    ∙ ap (λ k. (space ++ opening_text k) ++ (inside ++ (closing_text k ++ (outside ++ left)))) there.of_kind
    ∙ grouped (space ++ opening_text delimiter.kind) inside (closing_text delimiter.kind) outside left
    ∙ ap (λ b. ((((space ++ opening_text delimiter.kind) ++ inside) ++ closing_text delimiter.kind) ++ outside) ++ written (behind_all (behind_subtree b (behind_all behind children)) rest) more) (sym there.are)
written_all due behind at (node delimiter children rest) more (inr h) =
    let none = bare delimiter.kind (shown children) h.0 in
    let held = marks (at + 1) children in
    let others = marks ((at + 1) + size children) rest in
    let inside = siblings_text is_alone false children in
    let outside = siblings_text is_alone true rest in
    let left = written (behind_all (behind_all behind children) rest) more in
    ap (written behind) (regrouped (opens (brackets_of delimiter.kind (shown children))) held (closes (brackets_of delimiter.kind (shown children))) others more)
    ∙ ap (λ b. written behind (opens b ++ (held ++ (closes b ++ (others ++ more))))) h.0
    ∙ written_all due behind (at + 1) children (others ++ more) h.2
    ∙ ap (λ t. siblings_text is_alone due children ++ t) (written_all true (behind_all behind children) ((at + 1) + size children) rest more h.3)
    ∙ ap (λ t. t ++ (outside ++ left)) (sym (space_first due children h.1))
    ∙ ungrouped (space_if due) (opening_text delimiter.kind) inside (closing_text delimiter.kind) outside left none.0 none.1
    ∙ ap (λ b. ((((space_if due ++ opening_text delimiter.kind) ++ inside) ++ closing_text delimiter.kind) ++ outside) ++ written (behind_all (behind_subtree b (behind_all behind children)) rest) more) (sym h.0)

-- the whole text is that of Display
pub as_displayed : (trees : Forest) → IsDisplayed false Opening trees → text_of trees ≡ display trees
unfolding display
as_displayed trees h = ap (written Opening) (sym (append-nil (marks 0 trees))) ∙ written_all false Opening 0 trees [] h ∙ append-nil (siblings_text is_alone false trees)

plain_all : (behind : Behind) (trees : Forest) → IsPlain behind trees → IsDisplayed (opens_apart behind) behind trees
plain_all behind end h = tt
plain_all behind (leaf it rest) h = (space_same behind it h.1, subst (λ b. IsDisplayed b (behind_leaf it) rest) (after_same it h.0) (plain_all (behind_leaf it) rest h.2))
plain_all behind (node delimiter children rest) h = inl (h.0, refl, plain_all Opening children h.1, plain_all Apart rest h.2)

-- plain trees are written as Display writes them
pub plain_displayed : (trees : Forest) → IsPlain Opening trees → IsDisplayed false Opening trees
plain_displayed trees h = plain_all Opening trees h

-- Display shows an empty subtree without brackets as a space if one is due, and the Rust text does not
pub empty_subtree : (name : Ident) (delimiter : Delimiter) → (text_of (with_nothing name delimiter) ≡ ident_text name) × (display (with_nothing name delimiter) ≡ ident_text name ++ codes " ")
unfolding display
empty_subtree name delimiter = (append-nil (ident_text name), refl)
