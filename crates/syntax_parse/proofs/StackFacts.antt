-- What the calls of a builder add to its pieces.
use Rattle.std.proofs.Common.{◌≡◌, ℕ, List, [], ◌∷◌, ◌++◌, refl, sym, ap, ◌∙◌, append_assoc, true, reverse}
use Rattle.tt_base.specs.Building.{Stack, lowest, above, append, close_innermost, open_kinds, bottom, IsAbove}
use Rattle.tt.specs.FlatHeld.{Held, IsOpen, closed, opened, pushed}
use Rattle.tt_base.specs.Forest.{Forest, end, leaf, node, join}
use Rattle.tt_base.specs.Token.{delimiter}
use Rattle.tt_base.specs.declared.delimiter.DelimiterKind.{DelimiterKind}
use Rattle.syntax_parse.specs.declared.bracket.Bracket.{Bracket}
use Rattle.syntax_parse.specs.declared.bracket.Bracket.TheVariants.{Parenthesis, Brace, Square}
use Rattle.tt_base.specs.declared.leaf.Leaf.{Leaf}
use Rattle.tt_base.specs.declared.span.Span.{Span}
use Rattle.tt_base.specs.Span.{start_of, end_of, part_of}
use Rattle.tt_base.specs.declared.span.SpanPart.{SpanPart}
use Rattle.syntax_parse.specs.Faults.{kinds_of}
use Rattle.syntax_parse.specs.Parsed.{Adds}
use Rattle.syntax_parse.specs.Pieces.{piece, placed}
use Rattle.syntax_parse.specs.Role.{kind_of, same_bracket}
use Rattle.syntax_parse.specs.declared.fault.Open.{Open}
use Rattle.syntax_parse.specs.Spelled.{Piece, Sort, all_at, at_span, opening, closing, piece_of, spelled, spelled_so_far}

pub spelled-join : (a b : Forest) → spelled (join a b) ≡ spelled a ++ spelled b
spelled-join end b = refl
spelled-join (leaf it rest) b = ap (λ xs. piece_of it ∷ xs) (spelled-join rest b)
spelled-join (node d children rest) b =
    ap (λ xs. at_span (opening d.kind) d.open_span ∷ (spelled children ++ at_span (closing d.kind) d.close ∷ xs)) (spelled-join rest b)
    ∙ ap (λ xs. at_span (opening d.kind) d.open_span ∷ xs) (sym (append_assoc (spelled children) (at_span (closing d.kind) d.close ∷ spelled rest) (spelled b)))

pub spelled_so_far-append : (more : Forest) (s : Stack) → spelled_so_far (append more s) ≡ spelled_so_far s ++ spelled more
spelled_so_far-append more (lowest trees) = spelled-join trees more
spelled_so_far-append more (above outer kind open_span trees) =
    ap (λ xs. spelled_so_far outer ++ at_span (opening kind) open_span ∷ xs) (spelled-join trees more)
    ∙ sym (append_assoc (spelled_so_far outer) (at_span (opening kind) open_span ∷ spelled trees) (spelled more))

pub open_kinds-append : (more : Forest) (s : Stack) → open_kinds (append more s) ≡ open_kinds s
open_kinds-append more (lowest trees) = refl
open_kinds-append more (above outer kind open_span trees) = refl

-- a leaf that is pushed
pub adds_leaf : (it : Leaf) (old new : Held) → new ≡ pushed it old → Adds (piece_of it ∷ []) old new
adds_leaf it old new is = record {
  holds = ap (λ s. spelled_so_far s.stack) is ∙ spelled_so_far-append (leaf it end) old.stack;
  opens = ap (λ s. open_kinds s.stack) is ∙ open_kinds-append (leaf it end) old.stack;
  top = ap (λ s. s.top) is;
}

-- if a subtree is open, there is a level above the lowest
pub is_above : (s : Stack) (kind : DelimiterKind) (kinds : List DelimiterKind) → open_kinds s ≡ kind ∷ kinds → IsAbove s
is_above (lowest trees) kind kinds h = absurd (cc)
is_above (above outer k open_span trees) kind kinds h = tt

pub close_holds : (s : Stack) (close_span : Span) (kind : DelimiterKind) (kinds : List DelimiterKind) → open_kinds s ≡ kind ∷ kinds
    → spelled_so_far (close_innermost close_span s) ≡ spelled_so_far s ++ at_span (closing kind) close_span ∷ []
close_holds (lowest trees) close_span kind kinds h = absurd (cc)
close_holds (above outer k open_span trees) close_span kind kinds h =
    let same : k ≡ kind = cc in
    spelled_so_far-append (node (delimiter k open_span close_span) trees end) outer
    ∙ sym (append_assoc (spelled_so_far outer) (at_span (opening k) open_span ∷ spelled trees) (at_span (closing k) close_span ∷ []))
    ∙ ap (λ x. (spelled_so_far outer ++ at_span (opening k) open_span ∷ spelled trees) ++ at_span (closing x) close_span ∷ []) same

pub close_opens : (s : Stack) (close_span : Span) (kind : DelimiterKind) (kinds : List DelimiterKind) → open_kinds s ≡ kind ∷ kinds
    → open_kinds (close_innermost close_span s) ≡ kinds
close_opens (lowest trees) close_span kind kinds h = absurd (cc)
close_opens (above outer k open_span trees) close_span kind kinds h =
    open_kinds-append (node (delimiter k open_span close_span) trees end) outer ∙ (let tail : open_kinds outer ≡ kinds = cc in tail)

same_bracket-is : (a b : Bracket) → same_bracket a b ≡ true → a ≡ b
same_bracket-is Parenthesis Parenthesis h = refl
same_bracket-is Brace Brace h = refl
same_bracket-is Square Square h = refl
same_bracket-is Parenthesis Brace h = absurd (cc)
same_bracket-is Parenthesis Square h = absurd (cc)
same_bracket-is Brace Parenthesis h = absurd (cc)
same_bracket-is Brace Square h = absurd (cc)
same_bracket-is Square Parenthesis h = absurd (cc)
same_bracket-is Square Brace h = absurd (cc)

-- a bracket of its kind closes the innermost subtree
pub close_step : (s t : Held) (close_span : Span) (bracket : Bracket) (last : Open) (old new : List Open) → t ≡ closed close_span s
    → kinds_of (reverse old) ≡ open_kinds s.stack → reverse old ≡ last ∷ reverse new → same_bracket last.bracket bracket ≡ true
    → spelled_so_far t.stack ≡ spelled_so_far s.stack ++ at_span (closing (kind_of bracket)) close_span ∷ []
close_step s t close_span bracket last old new is kinds popped pair =
    ap (λ b. spelled_so_far b.stack) is
    ∙ close_holds s.stack close_span (kind_of bracket) (kinds_of (reverse new))
    (sym kinds ∙ ap kinds_of popped ∙ ap (λ b. kind_of b ∷ kinds_of (reverse new)) (same_bracket-is last.bracket bracket pair))

-- a piece at a span, by the numbers of the span
pub at_piece : (sort : Sort) (span : Span) (part : SpanPart) (start stop : ℕ) → part_of span ≡ part → start_of span.range ≡ start → end_of span.range ≡ stop
    → at_span sort span ≡ piece part start stop sort
at_piece sort span part start stop p s e =
    ap (λ x. piece x (start_of span.range) (end_of span.range) sort) p ∙ ap (λ x. piece part x (end_of span.range) sort) s ∙ ap (λ x. piece part start x sort) e

-- if no subtree is open, the lowest level has all pieces
pub spelled-bottom : (s : Stack) → open_kinds s ≡ [] → spelled (bottom s) ≡ spelled_so_far s
spelled-bottom (lowest trees) h = refl
spelled-bottom (above outer kind open_span trees) h = absurd (cc)

-- if no subtree is open, no builder is open
pub none_open : (s : Held) → open_kinds s.stack ≡ [] → IsOpen s → ⊥
none_open s h = go s.stack h
  where
    go : (t : Stack) → open_kinds t ≡ [] → IsAbove t → ⊥
    go (lowest trees) h k = k
    go (above outer kind open_span trees) h k = cc

-- two additions, one after the other
pub adds_both : (ps qs : List Piece) (a b c : Held) → Adds ps a b → Adds qs b c → Adds (ps ++ qs) a c
adds_both ps qs a b c h k = record {
  holds = k.holds ∙ ap (λ xs. xs ++ qs) h.holds ∙ append_assoc (spelled_so_far a.stack) ps qs;
  opens = k.opens ∙ h.opens;
  top = k.top ∙ h.top;
}

-- pieces in brackets
pub adds_brackets : (kind : DelimiterKind) (span : Span) (ps : List Piece) (s t u v : Held) → t ≡ opened kind span s → Adds ps t u → v ≡ closed span u
    → Adds (at_span (opening kind) span ∷ (ps ++ at_span (closing kind) span ∷ [])) s v
adds_brackets kind span ps s t u v opens inside closes =
    let kinds : open_kinds u.stack ≡ kind ∷ open_kinds s.stack = inside.opens ∙ ap (λ b. open_kinds b.stack) opens in record {
      holds =
          ap (λ b. spelled_so_far b.stack) closes
          ∙ close_holds u.stack span kind (open_kinds s.stack) kinds
          ∙ ap (λ xs. xs ++ at_span (closing kind) span ∷ []) (inside.holds ∙ ap (λ b. spelled_so_far b.stack ++ ps) opens)
          ∙ append_assoc (spelled_so_far s.stack ++ at_span (opening kind) span ∷ []) ps (at_span (closing kind) span ∷ [])
          ∙ append_assoc (spelled_so_far s.stack) (at_span (opening kind) span ∷ []) (ps ++ at_span (closing kind) span ∷ []);
      opens = ap (λ b. open_kinds b.stack) closes ∙ close_opens u.stack span kind (open_kinds s.stack) kinds;
      top = ap (λ b. b.top) closes ∙ inside.top ∙ ap (λ b. b.top) opens;
    }

-- a builder with an open subtree can close it
pub can_close : (kind : DelimiterKind) (span : Span) (ps : List Piece) (s t u : Held) → t ≡ opened kind span s → Adds ps t u → IsOpen u
can_close kind span ps s t u opens inside = is_above u.stack kind (open_kinds s.stack) (inside.opens ∙ ap (λ b. open_kinds b.stack) opens)

-- pieces at one span, by the numbers of the span
pub all_placed : (sorts : List Sort) (span : Span) (part : SpanPart) (start stop : ℕ) → part_of span ≡ part → start_of span.range ≡ start → end_of span.range ≡ stop
    → all_at span sorts ≡ placed part start stop sorts
all_placed [] span part start stop p s e = refl
all_placed (sort ∷ sorts) span part start stop p s e = ap (λ x. x ∷ all_at span sorts) (at_piece sort span part start stop p s e) ∙ ap (λ xs. piece part start stop sort ∷ xs) (all_placed sorts span part start stop p s e)

-- two lists of pieces at one span
pub all_at-append : (span : Span) (sorts more : List Sort) → all_at span (sorts ++ more) ≡ all_at span sorts ++ all_at span more
all_at-append span [] more = refl
all_at-append span (sort ∷ sorts) more = ap (λ xs. at_span sort span ∷ xs) (all_at-append span sorts more)
