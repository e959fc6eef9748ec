-- What replaces calls is woven into the pieces of the text.
use Rattle.std.proofs.Common.{◌≡◌, ◌<◌, ◌-◌, ◌++◌, ℕ, zero, suc, Bool, true, false, List, [], ◌∷◌, inl, inr, ◌⊎◌, max, Some, None, cond, codes, refl, ap, sym, subst, ◌∙◌, arith, append_assoc, append-nil}
use Rattle.std.proofs.Math.Nat.{le-max_left, le-max_right}
use Rattle.std.proofs.lemmas.Bool.{eqb-true, false≢true}
use Rattle.std.specs.Prelude.{◌==◌, ◌||◌, ◌&&◌, not}
use Rattle.tt.specs.Forest.{Forest, Root, end, leaf, node, join, size}
use Rattle.tt.specs.Gluing.{after_trees}
use Rattle.tt.specs.Span.{start_of, end_of}
use Rattle.tt.specs.Types.Delimiter.{Delimiter}
use Rattle.tt.specs.Types.DelimiterKind.{DelimiterKind}
use Rattle.tt.specs.Types.Leaf.{Leaf}
use Rattle.tt.specs.Types.Leaf.TheVariants as leaf_of
use Rattle.tt.specs.Types.Spacing.{Spacing}
use Rattle.syntax_edit.specs.Places.{begin_at}
use Rattle.expand_text.proofs.CallParts.{alone, attributes_alone, begin_alone, call_alone, closed_join, end_alone, end_if, ends_alone, len_if, semicolon_alone, split_in, whole_if}
use Rattle.expand_items.proofs.Conditions.{IsCallBehind, attributes_closed, definition_at}
use Rattle.expand_items.specs.Attributes.{item_at}
use Rattle.expand_items.proofs.Shapes.{EndsClosed, by_subtree, by_semicolon, BeginsWithName, call_begins, call_ends, call_closed, definition_closed, punct_first, ends_by_punct, ends_by_subtree}
use Rattle.expand_items.proofs.ItemsAt.{calls_at, defines_at, inactive_less}
use Rattle.expand_text.specs.Meaning.{ExpandsTo, ends, on_leaf, on_node, on_definition, on_inactive, on_other_call, into_other_call, into_attributes, on_faulty_call, on_call, on_kept_call, attributes_in, begin_in, behind_call, end_in, is_closing, named_behind, plain_behind, plain_behind_part, rest_in, takes_in, whole_in}
use Rattle.expand_text.specs.Contexts.{Config, Context, asks_for}
use Rattle.expand_text.specs.Macros.{called_by, named_by}
use Rattle.expand_text.specs.Outcomes.{Outcome}
use Rattle.expand_text.specs.Reading.{AreSplices, ended, passed, entered, stayed, became, sorts_left, splice}
use Rattle.expand_text.proofs.Splicing.{spelling_of}
use Rattle.expand_text.specs.Scopes.{Macro}
use Rattle.expand_items.specs.Items.{Call, calls, is_elsewhere, item_in}
use Rattle.expand_items.specs.declared.item.MacroPath.{MacroPath}
use Rattle.expand_items.specs.declared.item.MacroPath.TheVariants as path
use Rattle.expand_items.specs.declared.position.Position.{Position}
use Rattle.mbe_pattern.proofs.Passing.{front_joined}
use Rattle.mbe_pattern.specs.Units.{front_trees, is_at_punct}
use Rattle.syntax_edit.proofs.CallCuts.{behind_pieces}
use Rattle.syntax_edit.specs.Calls.{BeginsCall, EndsCall, IsTaken, IsWoven, ends as woven_end, keeps, gives_way, follows_value, may_begin}
use Rattle.syntax_edit.specs.Splices.{Splice}
use Rattle.syntax_parse.proofs.StackFacts.{spelled-join}
use Rattle.syntax_parse.specs.Spelled.{Piece, Sort, sign, opening, closing, at_span, piece_of, sort_of, spelled}
use Rattle.syntax_unparse.specs.Marks.{marks}
use Rattle.syntax_unparse.specs.Settled.{settled, sorts}

-- before a `.` after a literal two trees are taken as they are
abbrev pub BeforePoint : (before : List Sort) → Forest → (plain : ℕ) → Type 0
BeforePoint before trees plain = follows_value before ≡ true → is_at_punct (codes ".") trees ≡ true → 1 < plain

-- after these leaves and brackets, the latest first, no call begins at a place at which none may: so many trees are taken as they are
pub record IsHeld (before : List Sort) (trees : Forest) (plain : ℕ) : Type 0 where
  pub begins : plain ≡ 0 → may_begin before ≡ true
  pub point : BeforePoint before trees plain

-- After a punct no call begins at a place at which none may.
held_punct : (char : ℕ) (spacing : Spacing) (before : List Sort) (plain behind : ℕ) → ((char == 46) ≡ true → follows_value before ≡ true → 1 < plain) → ((char == 39) ≡ true → 0 < behind)
    → max (plain - 1) behind ≡ 0 → may_begin (sign char spacing ∷ before) ≡ true
held_punct char spacing before plain behind point quote none = by (char == 39) refl (char == 46) refl (follows_value before) refl
  where
    by : (q : Bool) → (char == 39) ≡ q → (p : Bool) → (char == 46) ≡ p → (v : Bool) → follows_value before ≡ v → not (q || (p && v)) ≡ true
    by true e p f v g = absurd (omega (arith, quote e, le-max_right (plain - 1) behind, none))
    by false e false f v g = refl
    by false e true f false g = refl
    by false e true f true g = absurd (omega (arith, point f g, le-max_left (plain - 1) behind, none))

-- After a leaf neither, since the trees that follow it are taken as they are.
held_leaf : (it : Leaf) (before : List Sort) (rest : Forest) (plain : ℕ) → IsHeld before (leaf it rest) plain → IsHeld (sort_of it ∷ before) rest (plain_behind it rest plain)
held_leaf (leaf_of.Ident it) before rest plain held = record { begins = λ none. refl; point = λ follows at. absurd (false≢true follows) }
held_leaf (leaf_of.Literal it) before rest plain held = record {
  begins = λ none. refl;
  point = λ follows at.
      let two : named_behind (leaf_of.Literal it) rest ≡ 2 = ap (λ b. cond b 2 0) at in
      omega (arith, two, le-max_right (plain - 1) (named_behind (leaf_of.Literal it) rest));
}
held_leaf (leaf_of.Punct it) before rest plain held = record {
  begins = λ none.
      held_punct it.char it.spacing before plain (named_behind (leaf_of.Punct it) rest)
      (λ at follows. held.point follows (ap (λ b. b || false) at))
      (λ quote. let one : named_behind (leaf_of.Punct it) rest ≡ 1 = ap (λ b. cond b 1 0) quote in omega (arith, one))
      none;
  point = λ follows at. absurd (false≢true follows);
}

-- After nothing and after a bracket any call may begin.
held_none : (trees : Forest) (plain : ℕ) → IsHeld [] trees plain
held_none trees plain = record { begins = λ none. refl; point = λ follows at. absurd (false≢true follows) }

held_opening : (kind : DelimiterKind) (before : List Sort) (trees : Forest) (plain : ℕ) → IsHeld (opening kind ∷ before) trees plain
held_opening kind before trees plain = record { begins = λ none. refl; point = λ follows at. absurd (false≢true follows) }

held_closing : (kind : DelimiterKind) (before : List Sort) (trees : Forest) (plain : ℕ) → IsHeld (closing kind ∷ before) trees plain
held_closing kind before trees plain = record { begins = λ none. refl; point = λ follows at. absurd (false≢true follows) }

-- After a `;` any call may begin.
held_semicolon : (char : ℕ) (spacing : Spacing) (before : List Sort) (trees : Forest) (plain : ℕ) → (char == 59) ≡ true → IsHeld (sign char spacing ∷ before) trees plain
held_semicolon char spacing before trees plain is =
    subst (λ c. IsHeld (sign c spacing ∷ before) trees plain) (sym (eqb-true char 59 is)) (record { begins = λ none. refl; point = λ follows at. absurd (false≢true follows) })

behind_last : (pieces : List Piece) (last : Piece) (before : List Sort) → behind_pieces (pieces ++ last ∷ []) before ≡ last.sort ∷ behind_pieces pieces before
behind_last [] last before = refl
behind_last (piece ∷ pieces) last before = behind_last pieces last (piece.sort ∷ before)

-- All pieces stay.
keeps_all : (pieces : List Piece) (before : List Sort) (more : List Piece) (others : List Splice) (woven : List Sort) → IsWoven (behind_pieces pieces before) more others woven
    → IsWoven before (pieces ++ more) others (sorts pieces ++ woven)
keeps_all [] before more others woven is = is
keeps_all (piece ∷ pieces) before more others woven is = keeps (keeps_all pieces (piece.sort ∷ before) more others woven is)

-- After trees that end with a subtree or a `;` any call may begin.
spelled_subtree : (front : Forest) (delimiter : Delimiter) (children : Forest)
    → spelled (join front (node delimiter children end))
    ≡ (spelled front ++ at_span (opening delimiter.kind) delimiter.open_span ∷ spelled children) ++ at_span (closing delimiter.kind) delimiter.close ∷ []
spelled_subtree front delimiter children =
    spelled-join front (node delimiter children end)
    ∙ sym (append_assoc (spelled front) (at_span (opening delimiter.kind) delimiter.open_span ∷ spelled children) (at_span (closing delimiter.kind) delimiter.close ∷ []))

held_closed : (closed : Forest) → EndsClosed closed → (before : List Sort) (trees : Forest) (plain : ℕ) → IsHeld (behind_pieces (spelled closed) before) trees plain
held_closed closed (by_subtree front delimiter children is) before trees plain =
    let pieces = spelled front ++ at_span (opening delimiter.kind) delimiter.open_span ∷ spelled children in
    let last = at_span (closing delimiter.kind) delimiter.close in
    let same : behind_pieces (spelled closed) before ≡ closing delimiter.kind ∷ behind_pieces pieces before =
    ap (λ ps. behind_pieces ps before) (ap spelled is ∙ spelled_subtree front delimiter children) ∙ behind_last pieces last before in
    subst (λ b. IsHeld b trees plain) (sym same) (held_closing delimiter.kind (behind_pieces pieces before) trees plain)
held_closed closed (by_semicolon front punct semicolon is) before trees plain =
    let last = piece_of (leaf_of.Punct punct) in
    let same : behind_pieces (spelled closed) before ≡ sign punct.char punct.spacing ∷ behind_pieces (spelled front) before =
    ap (λ ps. behind_pieces ps before) (ap spelled is ∙ spelled-join front (leaf (leaf_of.Punct punct) end)) ∙ behind_last (spelled front) last before in
    subst (λ b. IsHeld b trees plain) (sym same) (held_semicolon punct.char punct.spacing (behind_pieces (spelled front) before) trees plain semicolon)

-- the same pieces, splices and leaves
moved : {before : List Sort} {pieces pieces_too : List Piece} {others others_too : List Splice} {woven woven_too : List Sort}
    → pieces ≡ pieces_too → others ≡ others_too → woven ≡ woven_too → IsWoven before pieces others woven → IsWoven before pieces_too others_too woven_too
moved {before} {pieces} {pieces_too} {others} {others_too} {woven} {woven_too} ps os ws is =
    subst (λ x. IsWoven before x others_too woven_too) ps (subst (λ x. IsWoven before pieces x woven_too) os (subst (λ x. IsWoven before pieces others x) ws is))

-- the pieces of trees before others
spelled_front : (trees front rest : Forest) (more : List Piece) → trees ≡ join front rest → spelled front ++ (spelled rest ++ more) ≡ spelled trees ++ more
spelled_front trees front rest more is = sym (append_assoc (spelled front) (spelled rest) more) ∙ ap (λ ps. ps ++ more) (sym (spelled-join front rest) ∙ ap spelled (sym is))

-- A call without attributes ends with its subtree, or with its `;`.
module _ (root : List ℕ) (trees : Forest) (it : Call) (is : item_in root trees ≡ calls it) (takes : Bool) (semicolon : takes ≡ true → is_at_punct (codes ";") (behind_call it trees) ≡ true) where
  -- where it ends, and how
  bare_end : EndsClosed (whole_if takes it trees) × EndsCall (end_of (end_if takes it trees).range) (spelled (whole_if takes it trees))
  bare_end = by takes semicolon
    where
      by : (takes : Bool) → (takes ≡ true → is_at_punct (codes ";") (behind_call it trees) ≡ true)
          → EndsClosed (whole_if takes it trees) × EndsCall (end_of (end_if takes it trees).range) (spelled (whole_if takes it trees))
      by false there =
          let (front, same) = call_closed root trees it is in (
            by_subtree front it.delimiter it.input same,
            (spelled front ++ at_span (opening it.delimiter.kind) it.delimiter.open_span ∷ spelled it.input, at_span (closing it.delimiter.kind) it.delimiter.close, ap spelled same ∙ spelled_subtree front it.delimiter it.input, refl, refl),
          )
      by true there =
          let (punct, others, shape, same) = punct_first 59 (behind_call it trees) (there refl) in
          let front = front_trees it.len trees in
          let all = ends_by_punct it.len trees punct others shape in (
            by_semicolon front punct same all,
            (spelled front, piece_of (leaf_of.Punct punct), ap spelled all ∙ spelled-join front (leaf (leaf_of.Punct punct) end), ap (λ f. end_of (begin_at f it.delimiter.close).range) (sym shape), same),
          )

  -- Its pieces are taken.
  bare_taken : is_elsewhere it.path ≡ false → IsTaken (spelled (whole_if takes it trees)) (start_of (begin_at trees it.name.span).range) (end_of (end_if takes it trees).range)
  bare_taken here = record { trees = whole_if takes it trees; spelled = refl; begins = begun; ends = bare_end.1 }
    where
      begun : BeginsCall (start_of (begin_at trees it.name.span).range) (spelled (whole_if takes it trees))
      begun =
          let call = call_ends root trees it is in
          let name = call_begins root trees it is here in
          subst (λ n. BeginsCall (start_of (begin_at trees it.name.span).range) (spelled (front_trees n trees))) (long call.len) (by name)
        where
          long : {n : ℕ} → it.len ≡ suc (suc n) → suc (suc (len_if takes it - 2)) ≡ len_if takes it
          long {n} e = more takes
            where
              more : (takes : Bool) → suc (suc (cond takes (suc it.len) it.len - 2)) ≡ cond takes (suc it.len) it.len
              more true = omega (arith, e)
              more false = omega (arith, e)

          by : BeginsWithName trees → BeginsCall (start_of (begin_at trees it.name.span).range) (spelled (front_trees (suc (suc (len_if takes it - 2))) trees))
          by name =
              subst (λ f. BeginsCall (start_of (begin_at f it.name.span).range) (spelled (front_trees (suc (suc (len_if takes it - 2))) f))) (sym name.shape)
              (refl, refl, name.sign)

-- The same holds for a call after its attributes.
module _ (root : List ℕ) (trees : Forest) (position : Position) (it : Call) (tree : Root) (is : item_at root position trees ≡ calls it) where
  -- the call alone, what follows the attributes, and whether the `;` is a part of the call
  abbrev at : IsCallBehind root trees it
  at = alone root position trees it is

  abbrev behind : Forest
  behind = after_trees it.attributes trees

  abbrev takes : Bool
  takes = takes_in position it trees tree

  -- Its pieces after the attributes are taken.
  call_taken : is_elsewhere it.path ≡ false
      → IsTaken (spelled (after_trees it.attributes (whole_in position it trees tree))) (start_of (begin_in it trees).range) (end_of (end_in position it trees tree).range)
  call_taken here =
      let named : is_elsewhere at.bare.path ≡ false = ap (λ c. is_elsewhere c.path) (sym at.same) ∙ here in
      subst (λ f. IsTaken (spelled f) (start_of (begin_in it trees).range) (end_of (end_if takes it trees).range)) (sym (call_alone root position trees it is takes))
      (subst (λ s. IsTaken (spelled (whole_if takes at.bare behind)) (start_of s.range) (end_of (end_if takes it trees).range)) (sym (begin_alone root position trees it is))
      (subst (λ s. IsTaken (spelled (whole_if takes at.bare behind)) (start_of (begin_at behind at.bare.name.span).range) (end_of s.range)) (sym (end_alone root position trees it is takes))
      (bare_taken root behind at.bare at.shape takes (semicolon_alone root position trees it is tree) named)))

  -- All of its trees end with a subtree or a `;`.
  whole_closed : EndsClosed (whole_in position it trees tree)
  whole_closed =
      subst EndsClosed (sym (front_joined it.attributes (whole_in position it trees tree)))
      (closed_join (attributes_in position it trees tree) (after_trees it.attributes (whole_in position it trees tree))
      (subst EndsClosed (sym (call_alone root position trees it is takes)) (bare_end root behind at.bare at.shape takes (semicolon_alone root position trees it is tree)).0))

  -- After its attributes a call may begin if one may before them.
  held_attributes : (before : List Sort) → IsHeld before trees 0 → may_begin (behind_pieces (spelled (attributes_in position it trees tree)) before) ≡ true
  held_attributes before held = by (attributes_closed root position trees it is)
    where
      by : (it.attributes ≡ 0) ⊎ ((front : Forest) × (delimiter : Delimiter) × (children : Forest) × (front_trees it.attributes trees ≡ join front (node delimiter children end)))
          → may_begin (behind_pieces (spelled (attributes_in position it trees tree)) before) ≡ true
      by (inl none) = ap (λ n. may_begin (behind_pieces (spelled (front_trees n (whole_in position it trees tree))) before)) none ∙ held.begins refl
      by (inr (front, delimiter, children, same)) =
          (held_closed (attributes_in position it trees tree) (by_subtree front delimiter children (attributes_alone root position trees it is takes ∙ same)) before behind 0).begins refl

  -- The trees are its attributes, the rest of it, and the trees after it.
  spelled_parts : (more : List Piece)
      → spelled (attributes_in position it trees tree) ++ (spelled (after_trees it.attributes (whole_in position it trees tree)) ++ (spelled (rest_in position it trees tree) ++ more)) ≡ spelled trees ++ more
  spelled_parts more =
      spelled_front (whole_in position it trees tree) (attributes_in position it trees tree) (after_trees it.attributes (whole_in position it trees tree)) (spelled (rest_in position it trees tree) ++ more)
      (front_joined it.attributes (whole_in position it trees tree))
      ∙ spelled_front trees (whole_in position it trees tree) (rest_in position it trees tree) more (split_in position it trees tree)

-- A macro is called by its own name or with the crate's root, not by another path.
called_here : (config : Config) (context : Context) (it : Call) (macro : Macro) → called_by config context it ≡ Some macro → is_elsewhere it.path ≡ false
called_here config context it macro is = by it.path (asks_for config.only it.name.sym) is
  where
    by : (way : MacroPath) (asked : Bool) → cond asked (named_by way it.name.sym context) None ≡ Some macro → is_elsewhere way ≡ false
    by path.Name asked e = refl
    by path.Root asked e = refl
    by path.Other true e = absurd (cc e)
    by path.Other false e = absurd (cc e)

-- After an item or a statement no call begins at a place at which none may: behind a subtree or a `;` any may, and otherwise two trees are
-- taken as they are.
held_part : (len : ℕ) (trees : Forest) (before : List Sort) → size (after_trees len trees) < size trees
    → IsHeld (behind_pieces (spelled (front_trees len trees)) before) (after_trees len trees) (plain_behind_part len trees)
held_part zero trees before less = absurd (omega (arith, less))
held_part (suc n) trees before less =
    let one : suc n - 1 ≡ n = omega arith in
    subst (λ m. Held (cond (is_closing (after_trees m trees)) 0 2)) (sym one) (by (after_trees n trees) refl)
  where
    Held : ℕ → Type 0
    Held plain = IsHeld (behind_pieces (spelled (front_trees (suc n) trees)) before) (after_trees (suc n) trees) plain

    free : Held 2
    free = record { begins = λ none. absurd (cc none); point = λ follows at. omega arith }

    by_leaf : (it : Leaf) (rest : Forest) → after_trees n trees ≡ leaf it rest → (b : Bool) → is_at_punct (codes ";") (leaf it rest) ≡ b → Held (cond b 0 2)
    by_leaf it rest e true s =
        let (punct, behind, shape, same) = punct_first 59 (leaf it rest) s in
        held_closed (front_trees (suc n) trees) (by_semicolon (front_trees n trees) punct same (ends_by_punct n trees punct behind (e ∙ shape))) before (after_trees (suc n) trees) 0
    by_leaf it rest e false s = free

    by : (rest : Forest) → after_trees n trees ≡ rest → Held (cond (is_closing rest) 0 2)
    by end e = free
    by (leaf it rest) e = by_leaf it rest e (is_at_punct (codes ";") (leaf it rest)) refl
    by (node delimiter children rest) e =
        held_closed (front_trees (suc n) trees) (by_subtree (front_trees n trees) delimiter children (ends_by_subtree n trees delimiter children rest e)) before (after_trees (suc n) trees) 0

module _ (config : Config) where
  -- Trees that stay, and end with a subtree or a `;`, and then others.
  stays_woven : (trees front rest : Forest) → trees ≡ join front rest → EndsClosed front → (before : List Sort) (more : List Piece) (others : List Splice) (woven : List Sort)
      → ((behind : List Sort) → IsHeld behind rest 0 → IsWoven behind (spelled rest ++ more) others woven)
      → IsWoven before (spelled trees ++ more) others (sorts (spelled front) ++ woven)
  stays_woven trees front rest is closed before more others woven then =
      moved (spelled_front trees front rest more is) refl refl
      (keeps_all (spelled front) before (spelled rest ++ more) others woven (then (behind_pieces (spelled front) before) (held_closed front closed before rest 0)))

  -- What trees expand to is woven into their pieces.
  pub comes_woven : {one_line : Bool} {limit : ℕ} {position : Position} {plain : ℕ} {context after : Context} {trees : Forest} {outcome : Outcome} {splices : List Splice}
      → ExpandsTo config true limit position plain context trees after outcome → AreSplices one_line outcome splices → (before : List Sort) → IsHeld before trees plain → (more : List Piece) (others : List Splice) (woven : List Sort) → ((behind : List Sort) → IsWoven behind more others woven)
      → IsWoven before (spelled trees ++ more) (splices ++ others) (sorts_left outcome ++ woven)
  comes_woven ends ended before held more others woven then = then before
  comes_woven (on_leaf {plain = plain} {it = it} {rest = rest} is expands_to) (passed are) before held more others woven then =
      keeps (comes_woven expands_to are (sort_of it ∷ before) (held_leaf it before rest plain held) more others woven then)
  comes_woven (on_node {plain = plain} {delimiter = delimiter} {children = children} {rest = rest} {held = inside} {others = behind} is expands_to past) (entered {first = first} {second = second} are later) before held more others woven then =
      let opens = opening delimiter.kind in
      let close = closing delimiter.kind in
      let shut = at_span close delimiter.close in
      moved (ap (λ ps. at_span opens delimiter.open_span ∷ ps) (sym (append_assoc (spelled children) (shut ∷ spelled rest) more)))
      (sym (append_assoc first second others))
      (ap (λ ws. opens ∷ ws) (sym (append_assoc (sorts_left inside) (close ∷ sorts_left behind) woven)))
      (keeps (comes_woven expands_to are (opens ∷ before) (held_opening delimiter.kind before children 0) (shut ∷ (spelled rest ++ more)) (second ++ others) (close ∷ (sorts_left behind ++ woven))
      (λ b. keeps (comes_woven past later (close ∷ b) (held_closing delimiter.kind b rest (plain - 1)) more others woven then))))
  comes_woven (on_definition {position = position} {it = it} {trees = trees} {others = behind} inside goes_on is read expands_to) (stayed {splices = splices} are) before held more others woven then =
      moved refl refl (sym (append_assoc (sorts (spelled (front_trees it.len trees))) (sorts_left behind) woven))
      (stays_woven trees (front_trees it.len trees) (after_trees it.len trees) (front_joined it.len trees)
      (definition_closed config.root trees it (definition_at config.root position trees it (defines_at is))) before more (splices ++ others) (sorts_left behind ++ woven)
      (λ b h. comes_woven expands_to are b h more others woven then))
  comes_woven (on_inactive {len = len} {trees = trees} {others = behind} goes_on is expands_to) (stayed {splices = splices} are) before held more others woven then =
      let front = front_trees len trees in
      moved (spelled_front trees front (after_trees len trees) more (front_joined len trees)) refl (sym (append_assoc (sorts (spelled front)) (sorts_left behind) woven))
      (keeps_all (spelled front) before (spelled (after_trees len trees) ++ more) (splices ++ others) (sorts_left behind ++ woven)
      (comes_woven expands_to are (behind_pieces (spelled front) before) (held_part len trees before (inactive_less is)) more others woven then))
  comes_woven (on_other_call {position = position} {it = it} {trees = trees} {others = behind} goes_on is bare none out expands_to) (stayed {splices = splices} are) before held more others woven then =
      moved refl refl (sym (append_assoc (sorts (spelled (front_trees it.len trees))) (sorts_left behind) woven))
      (stays_woven trees (front_trees it.len trees) (after_trees it.len trees) (front_joined it.len trees) (ends_alone config.root position trees it (calls_at is)) before more (splices ++ others) (sorts_left behind ++ woven)
      (λ b h. comes_woven expands_to are b h more others woven then))
  comes_woven (into_other_call goes_on is bare none into expands_to) are before held more others woven then =
      comes_woven expands_to are before (record { begins = λ long. held.begins refl; point = λ follows at. omega (arith, held.point follows at) }) more others woven then
  comes_woven (into_attributes goes_on is some none expands_to) are before held more others woven then =
      comes_woven expands_to are before (record { begins = λ long. held.begins refl; point = λ follows at. omega (arith, held.point follows at) }) more others woven then
  comes_woven (on_faulty_call {position = position} {it = it} {trees = trees} {others = behind} at fault expected goes_on is called some wrong wanted expands_to) (stayed {splices = splices} are) before held more others woven then =
      moved refl refl (sym (append_assoc (sorts (spelled (front_trees it.len trees))) (sorts_left behind) woven))
      (stays_woven trees (front_trees it.len trees) (after_trees it.len trees) (front_joined it.len trees) (ends_alone config.root position trees it (calls_at is)) before more (splices ++ others) (sorts_left behind ++ woven)
      (λ b h. comes_woven expands_to are b h more others woven then))
  comes_woven {one_line = one_line} (on_call {position = position} {context = context} {it = it} {macro = macro} {trees = trees} {others = behind} tree put goes_on is called some makes noted expands_to so may past) (stayed (became {splices = splices} {text = text} spells are)) before held more others woven then =
      let at = calls_at is in
      let attributes = attributes_in position it trees tree in
      let call = after_trees it.attributes (whole_in position it trees tree) in
      let rest = rest_in position it trees tree in
      moved (spelled_parts config.root trees position it tree at more) refl
      (ap (λ ws. sorts (spelled attributes) ++ ws) (sym (append_assoc (settled (marks 0 put)) (sorts_left behind) woven))
      ∙ sym (append_assoc (sorts (spelled attributes)) (settled (marks 0 put) ++ sorts_left behind) woven))
      (keeps_all (spelled attributes) before (spelled call ++ (spelled rest ++ more)) (splice (begin_in it trees) (end_in position it trees tree) put text ∷ (splices ++ others))
      (settled (marks 0 put) ++ (sorts_left behind ++ woven))
      (gives_way (held_attributes config.root trees position it tree at before held) (call_taken config.root trees position it tree at (called_here config context it macro called)) (spelling_of one_line put text may.1 spells)
      (comes_woven past are [] (held_none rest 0) more others woven then)))
  comes_woven (on_kept_call {position = position} {it = it} {trees = trees} {others = behind} tree at fault goes_on is called some makes noted expands_to kept past) (stayed {splices = splices} are) before held more others woven then =
      moved refl refl (sym (append_assoc (sorts (spelled (whole_in position it trees tree))) (sorts_left behind) woven))
      (stays_woven trees (whole_in position it trees tree) (rest_in position it trees tree) (split_in position it trees tree) (whole_closed config.root trees position it tree (calls_at is)) before more (splices ++ others) (sorts_left behind ++ woven)
      (λ b h. comes_woven past are b h more others woven then))

  -- What a whole text expands to is woven into its pieces.
  pub text_woven : {one_line : Bool} {limit : ℕ} {position : Position} {context after : Context} (trees : Forest) (outcome : Outcome) (splices : List Splice) → ExpandsTo config true limit position 0 context trees after outcome
      → AreSplices one_line outcome splices → IsWoven [] (spelled trees) splices (sorts_left outcome)
  text_woven trees outcome splices expands_to are =
      moved (append-nil (spelled trees)) (append-nil splices) (append-nil (sorts_left outcome)) (comes_woven expands_to are [] (held_none trees 0) [] [] [] (λ behind. woven_end))
