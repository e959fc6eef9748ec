-- Pieces in the order of a text, and the trees that they spell.
use Rattle.std.specs.Prelude.{◌==◌, if◌then◌else◌}
use Rattle.std.proofs.Common.{◌≡◌, ◌≤◌, ◌++◌, ℕ, Bool, true, false, List, [], ◌∷◌, cond, refl, sym, subst, arith, append_assoc, append-nil}
use Rattle.tt.specs.Forest.{Forest, end, leaf, node}
use Rattle.tt.specs.Span.{start_of, end_of}
use Rattle.tt.specs.Token.{leaf_span}
use Rattle.tt.specs.Types.Leaf.{Leaf}
use Rattle.tt.specs.Types.Leaf.TheVariants as leaf_of
use Rattle.tt_base.specs.declared.span.SpanPart.{SpanPart}
use Rattle.syntax_edit.specs.Laid.{Lies, Laid, byte_behind, lies_end, lies_leaf, lies_node}
use Rattle.syntax_edit.specs.Texts.{IsRange}
use Rattle.syntax_edit.proofs.LaidFacts.{laid_to, lies_from}
use Rattle.syntax_parse.specs.Pieces.{placed}
use Rattle.syntax_parse.specs.Spelled.{Piece, Sort, name, sign, value, opening, closing, sort_of, at_span, spelled}

-- the first byte at which a piece may begin after one of this sort at these bytes
abbrev pub behind_sort : Sort → (start end : ℕ) → ℕ
behind_sort (name text raw) start stop = start
behind_sort (sign char spacing) start stop = if char == 59 then stop else start
behind_sort (value kind symbol suffix) start stop = start
behind_sort (opening kind) start stop = start
behind_sort (closing kind) start stop = stop

-- pieces in the order of a text, from a byte to another, as trees lie in it
pub data InOrder (text : List ℕ) : (from : ℕ) → List Piece → (to : ℕ) → Type 0 where
  none : {from to : ℕ} → from ≤ to → InOrder text from [] to
  first : {from to : ℕ} {piece : Piece} {pieces : List Piece}
      → Lies text from piece.start piece.end
      → InOrder text (behind_sort piece.sort piece.start piece.end) pieces to
      → InOrder text from (piece ∷ pieces) to

pub in_order_from : {text : List ℕ} {from place to : ℕ} {pieces : List Piece} → from ≤ place → InOrder text place pieces to → InOrder text from pieces to
in_order_from before (none order) = none (omega (arith, before, order))
in_order_from before (first lies others) = first (lies_from before lies) others

-- the first of them, and the others
parts : {text : List ℕ} {from to : ℕ} {piece : Piece} {pieces : List Piece} → InOrder text from (piece ∷ pieces) to
    → Lies text from piece.start piece.end × InOrder text (behind_sort piece.sort piece.start piece.end) pieces to
parts (first lies others) = (lies, others)

behind_leaf : (it : Leaf) → behind_sort (sort_of it) (start_of (leaf_span it).range) (end_of (leaf_span it).range) ≡ byte_behind it
behind_leaf (leaf_of.Literal it) = refl
behind_leaf (leaf_of.Punct it) = refl
behind_leaf (leaf_of.Ident it) = refl

-- Trees lie in the text if the first of some pieces in order spell them, and the others begin where the trees end.
laid_front : {text : List ℕ} {from to : ℕ} (trees : Forest) (more : List Piece) → InOrder text from (spelled trees ++ more) to
    → (place : ℕ) × Laid text from trees place × InOrder text place more to
laid_front {from = from} end more it = (from, lies_end (omega arith), it)
laid_front {text} {from} {to} (leaf it rest) more (first lies others) =
    let (place, laid, left) = laid_front {from = byte_behind it} rest more (subst (λ n. InOrder text n (spelled rest ++ more) to) (behind_leaf it) others) in
    (place, lies_leaf lies laid, left)
laid_front {text} {to = to} (node delimiter children rest) more (first opens others) =
    let close = at_span (closing delimiter.kind) delimiter.close in
    let split : (spelled children ++ close ∷ spelled rest) ++ more ≡ spelled children ++ close ∷ (spelled rest ++ more) = append_assoc (spelled children) (close ∷ spelled rest) more in
    let (middle, inside, left) = laid_front children (close ∷ (spelled rest ++ more)) (subst (λ ps. InOrder text (start_of delimiter.open_span.range) ps to) split others) in
    let (closes, behind) = parts left in
    let (place, laid, others) = laid_front rest more behind in
    (place, lies_node opens (laid_to closes.after inside) closes.range laid, others)

-- If all pieces spell trees, the trees lie in the text.
pub laid_of_pieces : {text : List ℕ} {from to : ℕ} (trees : Forest) → InOrder text from (spelled trees) to → Laid text from trees to
laid_of_pieces {text} {from} {to} trees it =
    let (place, laid, left) = laid_front trees [] (subst (λ ps. InOrder text from ps to) (sym (append-nil (spelled trees))) it) in
    laid_to (reaches left) laid
  where
    reaches : {place : ℕ} → InOrder text place [] to → place ≤ to
    reaches (none order) = order

-- one of two, by whether something is
abbrev Chosen : Bool → Type 0 → Type 0 → Type 0
Chosen true this that = this
Chosen false this that = that

-- no closing bracket and no `;` comes before the last
abbrev pub ClosesLast : List Sort → Type 0
ClosesLast [] = Unit {0}
ClosesLast (name text raw ∷ sorts) = ClosesLast sorts
ClosesLast (sign char spacing ∷ sorts) = Chosen (char == 59) (sorts ≡ []) (ClosesLast sorts)
ClosesLast (value kind symbol suffix ∷ sorts) = ClosesLast sorts
ClosesLast (opening kind ∷ sorts) = ClosesLast sorts
ClosesLast (closing kind ∷ sorts) = sorts ≡ []

-- All pieces with one span are in order, and then others after them.
pub placed_in_order : {text : List ℕ} {to : ℕ} (part : SpanPart) (start stop : ℕ) (sorts : List Sort) (more : List Piece) → ClosesLast sorts → IsRange text start stop
    → InOrder text stop more to → InOrder text start (placed part start stop sorts ++ more) to
placed_in_order {text} {to} part start stop sorts more last range behind = go sorts last
  where
    here : Lies text start start stop
    here = record { after = omega arith; range = range }

    go : (sorts : List Sort) → ClosesLast sorts → InOrder text start (placed part start stop sorts ++ more) to
    go [] last = in_order_from range.order behind
    go (name text raw ∷ sorts) last = first here (go sorts last)
    go (sign char spacing ∷ sorts) last = first here (by (go sorts) (char == 59) last)
      where
        by : (ClosesLast sorts → InOrder text start (placed part start stop sorts ++ more) to) → (is_end : Bool) → Chosen is_end (sorts ≡ []) (ClosesLast sorts)
            → InOrder text (cond is_end stop start) (placed part start stop sorts ++ more) to
        by goes true last = subst (λ ss. InOrder text stop (placed part start stop ss ++ more) to) (sym last) behind
        by goes false last = goes last
    go (value kind symbol suffix ∷ sorts) last = first here (go sorts last)
    go (opening kind ∷ sorts) last = first here (go sorts last)
    go (closing kind ∷ sorts) last = first here (subst (λ ss. InOrder text stop (placed part start stop ss ++ more) to) (sym last) behind)
