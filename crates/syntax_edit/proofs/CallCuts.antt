-- The shape of a token's pieces, and where a call begins among the chunks of a text.
use Rattle.std.proofs.Common.{◌≡◌, ◌+◌, ℕ, true, false, List, [], ◌∷◌, length, Option, None, Some, refl, ◌++◌, Bool, sym, ap, ap₂, ◌∙◌, arith, length-append}
use Rattle.std.proofs.lemmas.Bool.{and_parts, false≢true}
use Rattle.std.specs.Prelude.{◌&&◌, not}
use Rattle.syntax_edit.proofs.Sources.{head_of, tail_of}
use Rattle.syntax_edit.proofs.Placed.{pieces_in}
use Rattle.syntax_edit.proofs.Roles.{leaf_valid, literal_two}
use Rattle.syntax_edit.proofs.Seams.{AreSound}
use Rattle.syntax_edit.proofs.SortFits.{sorts-append}
use Rattle.syntax_edit.specs.Calls.{is_name, is_call_sign, is_last, follows_value, may_begin}
use Rattle.syntax_edit.specs.Kept.{is_number}
use Rattle.syntax_edit.specs.Splices.{begins_with_name, ends_in_point, is_dot}
use Rattle.syntax_lex.specs.declared.token.DocStyle.TheVariants.{Outer, Inner}
use Rattle.syntax_lex.specs.declared.token.DocStyle.{DocStyle}
use Rattle.syntax_lex.specs.declared.token.Token.{Token}
use Rattle.syntax_lex.specs.declared.token.TokenKind.TheVariants as kinds
use Rattle.syntax_lex.specs.declared.token.TokenKind.{TokenKind}
use Rattle.syntax_parse.specs.Doc.{block_text, line_text}
use Rattle.syntax_parse.specs.Parsed.{next_kind}
use Rattle.syntax_parse.specs.Pieces.{doc, leaves_of, pieces_as, pieces_of, placed, punct_char, puncts, spacing_before}
use Rattle.syntax_parse.specs.Role.{role_in}
use Rattle.syntax_parse.specs.Spelled.{Piece, sign, Sort}
use Rattle.syntax_parse.specs.declared.fault.BadToken.{BadToken}
use Rattle.syntax_parse.specs.declared.role.Role.TheVariants.{Bad, Nothing, Opens, Closes, Leaf}
use Rattle.syntax_parse.specs.declared.role.Role.{Role}
use Rattle.syntax_unparse.proofs.Chunks.{AreChunks, Chunk, joined, means_of, tokens_of}
use Rattle.syntax_unparse.specs.Settled.{sorts}
use Rattle.syntax_unparse.specs.Writable.{is_name as is_name_kind}
use Rattle.tt_base.specs.declared.punct.Spacing.{Spacing}
use Rattle.tt_base.specs.declared.span.SpanPart.{SpanPart}

-- no call begins among these pieces: no name comes before a `!` or a `:`, and the last is no name
abbrev pub NoCall : List Piece → Type 0
NoCall [] = Unit {0}
NoCall (piece ∷ []) = is_name piece.sort ≡ false
NoCall (piece ∷ next ∷ pieces) = ((is_name piece.sort && is_call_sign next.sort) ≡ false) × NoCall (next ∷ pieces)

-- no call ends before the last of them
abbrev pub NoEnd : List Piece → Type 0
NoEnd [] = Unit {0}
NoEnd (piece ∷ []) = Unit {0}
NoEnd (piece ∷ next ∷ pieces) = (is_last piece.sort ≡ false) × NoEnd (next ∷ pieces)

-- the last of them ends at a byte
abbrev pub LastEnds : (stop : ℕ) → List Piece → Type 0
LastEnds stop [] = Unit {0}
LastEnds stop (piece ∷ []) = piece.end ≡ stop
LastEnds stop (piece ∷ next ∷ pieces) = LastEnds stop (next ∷ pieces)

-- where a call may begin among the pieces of a token: at a name that is the whole token, or at the name of a lifetime, after its `'`
pub data Shape (kind : TokenKind) (at : ℕ) : List Piece → Type 0 where
  word : (piece : Piece) → is_name_kind kind ≡ true → piece.start ≡ at → Shape kind at (piece ∷ [])
  life : (quote piece : Piece) → (spacing : _) → quote.sort ≡ sign 39 spacing → Shape kind at (quote ∷ piece ∷ [])
  none : {pieces : List Piece} → NoCall pieces → Shape kind at pieces

-- facts about the pieces of a token
pub record Told (kind : TokenKind) (at : ℕ) (stop : ℕ) (pieces : List Piece) : Type 0 where
  pub shape : Shape kind at pieces
  pub ends : NoEnd pieces
  pub stops : LastEnds stop pieces

module _ (part : SpanPart) (next : Option TokenKind) (at : ℕ) (text : List ℕ) where
  one : (kind : TokenKind) (piece : Piece) → is_name piece.sort ≡ false → piece.end ≡ at + length text → Told kind at (at + length text) (piece ∷ [])
  one kind piece other stop = record { shape = none other; ends = tt; stops = stop }

  nothing : (kind : TokenKind) → Told kind at (at + length text) []
  nothing kind = record { shape = none tt; ends = tt; stops = tt }

  -- a punct, if there is one
  punct : (kind : TokenKind) (c : Option ℕ) (spacing : Spacing) → Told kind at (at + length text) (placed part at (at + length text) (puncts c spacing))
  punct kind None spacing = nothing kind
  punct kind (Some c) spacing = one kind _ refl refl

  -- a documenting comment
  documents : (kind : TokenKind) (style : DocStyle) (words : List ℕ) → Told kind at (at + length text) (placed part at (at + length text) (doc style words))
  documents kind Outer words = record { shape = none (refl, (refl, (refl, (refl, (refl, refl))))); ends = (refl, (refl, (refl, (refl, (refl, tt))))); stops = refl }
  documents kind Inner words = record { shape = none (refl, (refl, (refl, (refl, (refl, (refl, refl)))))); ends = (refl, (refl, (refl, (refl, (refl, (refl, tt)))))); stops = refl }

  -- The leaves of a token.
  leaves_told : (kind : TokenKind) → Told kind at (at + length text) (leaves_of part kind next at text)
  leaves_told (kinds.Lifetime digit) = record { shape = life _ _ _ refl; ends = (refl, tt); stops = refl }
  leaves_told kinds.RawLifetime = record { shape = life _ _ _ refl; ends = (refl, tt); stops = refl }
  leaves_told (kinds.LineComment (Some style)) = documents (kinds.LineComment (Some style)) style (line_text style text)
  leaves_told (kinds.BlockComment (Some style) terminated) = documents (kinds.BlockComment (Some style) terminated) style (block_text style text)
  leaves_told kinds.Ident = record { shape = word _ refl refl; ends = tt; stops = refl }
  leaves_told kinds.RawIdent = record { shape = word _ refl refl; ends = tt; stops = refl }
  leaves_told (kinds.Literal kind suffix_start) = one (kinds.Literal kind suffix_start) _ refl refl
  leaves_told kind = punct kind (punct_char kind) (spacing_before next)

  -- The pieces of a token.
  pub pieces_told : (kind : TokenKind) → Told kind at (at + length text) (pieces_of part kind next at text)
  pieces_told kind = by (role_in kind text)
    where
      by : (role : Role) → Told kind at (at + length text) (pieces_as role part kind next at text)
      by (Bad why) = nothing kind
      by Nothing = nothing kind
      by (Opens _) = one kind _ refl refl
      by (Closes _) = one kind _ refl refl
      by Leaf = leaves_told kind

-- the sorts before, after these pieces
abbrev pub behind_pieces : List Piece → (before : List Sort) → List Sort
behind_pieces [] before = before
behind_pieces (piece ∷ pieces) before = behind_pieces pieces (piece.sort ∷ before)

pub behind_both : (xs ys : List Piece) (before : List Sort) → behind_pieces (xs ++ ys) before ≡ behind_pieces ys (behind_pieces xs before)
behind_both [] ys before = refl
behind_both (x ∷ xs) ys before = behind_both xs ys (x.sort ∷ before)

-- A number that is not bad is a literal among the pieces, and no call begins after a point that follows it.
number_value : (part : SpanPart) (next : Option TokenKind) (at : ℕ) (kind : TokenKind) (text : List ℕ) (before : List Sort) → ((why : BadToken) → role_in kind text ≡ Bad why → ⊥) → is_number kind ≡ true
    → follows_value (behind_pieces (pieces_of part kind next at text) before) ≡ true
number_value part next at (kinds.Literal kind start) text before fine is =
    ap (λ r. follows_value (behind_pieces (pieces_as r part (kinds.Literal kind start) next at text) before))
    (leaf_valid (role_in (kinds.Literal kind start) text) (literal_two kind start text) fine)
number_value part next at kind text before fine is = absurd (false≢true is)

point_sign : (part : SpanPart) (next : Option TokenKind) (at : ℕ) (kind : TokenKind) (text : List ℕ) (before : List Sort) → is_dot kind ≡ true → follows_value before ≡ true
    → may_begin (behind_pieces (pieces_of part kind next at text) before) ≡ false
point_sign part next at kinds.Dot text before is follows = ap (λ b. not b) follows
point_sign part next at kind text before is follows = absurd (false≢true is)

-- whether the last of these tokens is a point right after a number; if there are none, whether that is so before them
abbrev pub point_behind : (number point : Bool) → List Token → Bool
point_behind number point [] = point
point_behind number point (token ∷ tokens) = point_behind (is_number token.kind) (number && is_dot token.kind) tokens

pub ends_as : (tokens : List Token) → ends_in_point tokens ≡ point_behind false false tokens
ends_as [] = refl
ends_as (a ∷ []) = refl
ends_as (a ∷ b ∷ []) = refl
ends_as (a ∷ b ∷ c ∷ tokens) = ends_as (b ∷ c ∷ tokens)

-- chunks that begin at a byte: those before a call, and those from its begin on
pub record FrontOf (part : SpanPart) (at : ℕ) (chunks : List Chunk) (number point : Bool) (kept : List Piece) (first : Piece) (more : List Piece) : Type 0 where
  pub before : List Chunk
  pub back : List Chunk
  pub parts : chunks ≡ before ++ back
  pub means : means_of before ≡ sorts kept
  pub named : begins_with_name (tokens_of back) ≡ true
  pub apart : point_behind number point (tokens_of before) ≡ false
  pub left : pieces_in part (at + length (joined before)) back ≡ first ∷ more
  pub begins : first.start ≡ at + length (joined before)

-- Pieces in which no call begins precede the call.
within : (pieces rest kept : List Piece) (first second : Piece) (more : List Piece) → NoCall pieces → is_name first.sort ≡ true → is_call_sign second.sort ≡ true
    → pieces ++ rest ≡ kept ++ (first ∷ second ∷ more) → (left : List Piece) × (kept ≡ pieces ++ left) × (rest ≡ left ++ (first ∷ second ∷ more))
within [] rest kept first second more free named signed e = (kept, refl, e)
within (p ∷ []) rest [] first second more free named signed e = absurd (false≢true (sym free ∙ ap (λ x. is_name x.sort) (head_of e) ∙ named))
within (p ∷ q ∷ pieces) rest [] first second more free named signed e =
    let both : (is_name first.sort && is_call_sign second.sort) ≡ false = ap₂ (λ x y. is_name x.sort && is_call_sign y.sort) (sym (head_of e)) (sym (head_of (tail_of e))) ∙ free.0 in
    absurd (false≢true (sym both ∙ ap₂ (λ a b. a && b) named signed))
within (p ∷ []) rest (k ∷ kept) first second more free named signed e =
    let (left, same, behind) = within [] rest kept first second more tt named signed (tail_of e) in
    (left, ap₂ (λ x xs. x ∷ xs) (sym (head_of e)) same, behind)
within (p ∷ q ∷ pieces) rest (k ∷ kept) first second more free named signed e =
    let (left, same, behind) = within (q ∷ pieces) rest kept first second more free.1 named signed (tail_of e) in
    (left, ap₂ (λ x xs. x ∷ xs) (sym (head_of e)) same, behind)

-- The chunk at which a call begins, with the others before it.
pub front : (part : SpanPart) (chunks : List Chunk) (at : ℕ) (before : List Sort) (number point : Bool) (kept : List Piece) (first second : Piece) (more : List Piece)
    → AreChunks chunks → AreSound chunks
    → (number ≡ true → follows_value before ≡ true) → (point ≡ true → may_begin before ≡ false)
    → is_name first.sort ≡ true → is_call_sign second.sort ≡ true → may_begin (behind_pieces kept before) ≡ true
    → pieces_in part at chunks ≡ kept ++ (first ∷ second ∷ more) → FrontOf part at chunks number point kept first (second ∷ more)
front part [] at before number point [] first second more chunks sound numbers points named signed may e = absurd (cc e)
front part [] at before number point (k ∷ kept) first second more chunks sound numbers points named signed may e = absurd (cc e)
front part (x ∷ xs) at before number point kept first second more are sound numbers points named signed may e =
    go (λ sorts left n p m others. front part xs (at + length x.text) sorts (is_number x.kind) (number && is_dot x.kind) left first second more are.1 sound.1 n p named signed m others)
    (pieces_of part x.kind (next_kind (tokens_of xs)) at x.text) kept (pieces_told part (next_kind (tokens_of xs)) at x.text x.kind).shape refl e may
  where
    rest : List Piece
    rest = pieces_in part (at + length x.text) xs

    -- if the call begins after the chunk, one more chunk precedes it
    Later : Type 0
    Later =
        (sorts : List Sort) (left : List Piece) → (is_number x.kind ≡ true → follows_value sorts ≡ true) → ((number && is_dot x.kind) ≡ true → may_begin sorts ≡ false)
        → may_begin (behind_pieces left sorts) ≡ true → rest ≡ left ++ (first ∷ second ∷ more) → FrontOf part (at + length x.text) xs (is_number x.kind) (number && is_dot x.kind) left first (second ∷ more)

    on : Later → (pieces kept left : List Piece) → pieces ≡ pieces_of part x.kind (next_kind (tokens_of xs)) at x.text → kept ≡ pieces ++ left → rest ≡ left ++ (first ∷ second ∷ more)
        → may_begin (behind_pieces kept before) ≡ true → FrontOf part at (x ∷ xs) number point kept first (second ∷ more)
    on later pieces kept left here same others may =
        let it =
        later (behind_pieces pieces before) left
        (λ is. ap (λ ps. follows_value (behind_pieces ps before)) here ∙ number_value part (next_kind (tokens_of xs)) at x.kind x.text before sound.0 is)
        (λ is. let (was, dot) = and_parts number (is_dot x.kind) is in ap (λ ps. may_begin (behind_pieces ps before)) here ∙ point_sign part (next_kind (tokens_of xs)) at x.kind x.text before dot (numbers was))
        (ap may_begin (sym (ap (λ ps. behind_pieces ps before) same ∙ behind_both pieces left before)) ∙ may) others in
        let place : (at + length x.text) + length (joined it.before) ≡ at + length (x.text ++ joined it.before) = omega (arith, length-append x.text (joined it.before)) in
        record {
          before = x ∷ it.before;
          back = it.back;
          parts = ap (λ cs. x ∷ cs) it.parts;
          means = ap₂ (λ a b. a ++ b) (sym (are.0.means part at) ∙ ap sorts (sym here)) it.means ∙ sym (ap sorts same ∙ sorts-append pieces left);
          named = it.named;
          apart = it.apart;
          left = ap (λ a. pieces_in part a it.back) (sym place) ∙ it.left;
          begins = it.begins ∙ place;
        }

    no_point : (b : Bool) → (b ≡ true → may_begin before ≡ false) → may_begin before ≡ true → b ≡ false
    no_point true h k = absurd (false≢true (sym (h refl) ∙ k))
    no_point false h k = refl

    go : Later → (pieces kept : List Piece) → Shape x.kind at pieces → pieces ≡ pieces_of part x.kind (next_kind (tokens_of xs)) at x.text
        → pieces ++ rest ≡ kept ++ (first ∷ second ∷ more) → may_begin (behind_pieces kept before) ≡ true → FrontOf part at (x ∷ xs) number point kept first (second ∷ more)
    go later (p ∷ []) [] (word _ is start) here e may =
        let none : at + 0 ≡ at = omega arith in
        record {
          before = [];
          back = x ∷ xs;
          parts = refl;
          means = refl;
          named = is;
          apart = no_point point points may;
          left = ap (λ a. pieces_in part a (x ∷ xs)) none ∙ ap (λ ps. ps ++ rest) (sym here) ∙ e;
          begins = ap (λ q. q.start) (sym (head_of e)) ∙ start ∙ sym none;
        }
    go later (p ∷ []) (k ∷ kept) (word _ is start) here e may = on later (p ∷ []) (k ∷ kept) kept here (ap (λ q. q ∷ kept) (sym (head_of e))) (tail_of e) may
    go later (q ∷ p ∷ []) [] (life _ _ spacing is) here e may = absurd (false≢true (sym (ap is_name is) ∙ ap (λ r. is_name r.sort) (head_of e) ∙ named))
    go later (q ∷ p ∷ []) (k ∷ []) (life _ _ spacing is) here e may = absurd (false≢true (sym (ap (λ r. may_begin (r ∷ before)) (ap (λ r. r.sort) (sym (head_of e)) ∙ is)) ∙ may))
    go later (q ∷ p ∷ []) (k ∷ k2 ∷ kept) (life _ _ spacing is) here e may =
        on later (q ∷ p ∷ []) (k ∷ k2 ∷ kept) kept here (ap₂ (λ r s. r ∷ s ∷ kept) (sym (head_of e)) (sym (head_of (tail_of e)))) (tail_of (tail_of e)) may
    go later pieces kept (none free) here e may =
        let (left, same, others) = within pieces rest kept first second more free named signed e in
        on later pieces kept left here same others may
