-- Where a call ends among the chunks of a text; calls that are woven among its pieces are cuts among its chunks.
use Rattle.std.proofs.Common.{◌≡◌, ◌+◌, ◌++◌, ◌⊎◌, inl, inr, ℕ, Bool, true, false, List, [], ◌∷◌, length, Option, Some, refl, sym, ap, ap₂, ◌∙◌, subst, arith, append_assoc, append-nil, length-append, if◌then◌else◌}
use Rattle.std.proofs.lemmas.Bool.{false≢true}
use Rattle.std.specs.Str.{IsUtf8}
use Rattle.syntax_edit.proofs.Seams.{match_cons, AreSound}
use Rattle.syntax_edit.proofs.CallCuts.{front, behind_pieces, ends_as, LastEnds, NoEnd, Told, pieces_told}
use Rattle.syntax_edit.proofs.Sources.{head_of, tail_of, are_back, parsed, sound_back}
use Rattle.syntax_edit.proofs.Placed.{pieces_in}
use Rattle.syntax_edit.proofs.Spliced.{Cuts, whole, cut, Reads, cuts_read, reads_back, reads_fine, pieces_mean}
use Rattle.syntax_edit.specs.Calls.{is_last, BeginsCall, IsTaken, IsWoven, ends, keeps, gives_way, is_call_sign, is_name, may_begin}
use Rattle.syntax_edit.specs.Splices.{IsSpelling, Splice, begins_with_name, replacements_of}
use Rattle.syntax_edit.specs.Texts.{begun, with_all}
use Rattle.syntax_lex.specs.declared.token.DocStyle.TheVariants.{Outer, Inner}
use Rattle.syntax_lex.specs.declared.token.TokenKind.TheVariants as kinds
use Rattle.syntax_lex.specs.declared.token.TokenKind.{TokenKind}
use Rattle.syntax_parse.specs.Faults.{kinds_of}
use Rattle.syntax_parse.specs.Parsed.{next_kind, IsParse}
use Rattle.syntax_parse.specs.Pieces.{leaves_of, pieces_as, pieces_of}
use Rattle.syntax_parse.specs.Refusal.{IsFaultOf}
use Rattle.syntax_parse.specs.Role.{kind_of, role_in, same_bracket}
use Rattle.syntax_parse.specs.Spelled.{Piece, Sort, name, sign, value, opening, closing, at_span, spelled}
use Rattle.syntax_parse.specs.declared.bracket.Bracket.TheVariants.{Parenthesis, Brace, Square}
use Rattle.syntax_parse.specs.declared.bracket.Bracket.{Bracket}
use Rattle.syntax_parse.specs.declared.fault.BadToken.{BadToken}
use Rattle.syntax_parse.specs.declared.fault.Open.{Open}
use Rattle.syntax_parse.specs.declared.fault.SyntaxFault.{SyntaxFault}
use Rattle.syntax_parse.specs.declared.role.Role.TheVariants.{Bad, Nothing, Opens, Closes, Leaf}
use Rattle.syntax_parse.specs.declared.role.Role.{Role}
use Rattle.syntax_unparse.proofs.Chunks.{AreChunks, Chunk, brackets, joined, match, match_as, tokens_of}
use Rattle.syntax_unparse.specs.Marks.{marks}
use Rattle.syntax_unparse.specs.Settled.{settled, sorts}
use Rattle.tt_base.specs.Forest.{Forest, end, leaf, node, Root}
use Rattle.tt_base.specs.declared.delimiter.DelimiterKind.{DelimiterKind}
use Rattle.tt_base.specs.declared.leaf.Leaf.TheVariants as leaf_of
use Rattle.tt_base.specs.declared.span.SpanPart.{SpanPart}

-- what holds after a piece if these brackets are open, innermost first
abbrev BehindSort : Sort → (opens : List DelimiterKind) → (holds : List DelimiterKind → Type 0) → Type 0
BehindSort (name text raw) opens holds = holds opens
BehindSort (sign char spacing) opens holds = holds opens
BehindSort (value kind symbol suffix) opens holds = holds opens
BehindSort (opening kind) opens holds = holds (kind ∷ opens)
BehindSort (closing kind) [] holds = ⊥
BehindSort (closing kind) (last ∷ opens) holds = (last ≡ kind) × holds opens

-- the brackets of these pieces match, if these are open
abbrev pub Balanced : (opens : List DelimiterKind) → List Piece → Type 0
Balanced opens [] = opens ≡ []
Balanced opens (piece ∷ pieces) = BehindSort piece.sort opens (λ next. Balanced next pieces)

-- The brackets of trees match.
pub balanced_trees : (trees : Forest) (opens : List DelimiterKind) (more : List Piece) → Balanced opens more → Balanced opens (spelled trees ++ more)
balanced_trees end opens more h = h
balanced_trees (leaf (leaf_of.Literal it) rest) opens more h = balanced_trees rest opens more h
balanced_trees (leaf (leaf_of.Punct it) rest) opens more h = balanced_trees rest opens more h
balanced_trees (leaf (leaf_of.Ident it) rest) opens more h = balanced_trees rest opens more h
balanced_trees (node delimiter children rest) opens more h =
    let close = at_span (closing delimiter.kind) delimiter.close in
    subst (Balanced (delimiter.kind ∷ opens)) (sym (append_assoc (spelled children) (close ∷ spelled rest) more))
    (balanced_trees children (delimiter.kind ∷ opens) (close ∷ (spelled rest ++ more)) (refl, balanced_trees rest opens more h))

-- The pieces of a leaf change no brackets.
leaves_balanced : (part : SpanPart) (next : Option TokenKind) (at : ℕ) (text : List ℕ) (kind : TokenKind) (opens : List DelimiterKind) (more : List Piece)
    → Balanced opens (leaves_of part kind next at text ++ more) → Balanced opens more
leaves_balanced part next at text (kinds.LineComment (Some Outer)) opens more h = h.1
leaves_balanced part next at text (kinds.LineComment (Some Inner)) opens more h = h.1
leaves_balanced part next at text (kinds.BlockComment (Some Outer) terminated) opens more h = h.1
leaves_balanced part next at text (kinds.BlockComment (Some Inner) terminated) opens more h = h.1
leaves_balanced part next at text kind opens more h = h

same_pair : (a b : Bracket) → kind_of a ≡ kind_of b → same_bracket a b ≡ true
same_pair Parenthesis Parenthesis e = refl
same_pair Brace Brace e = refl
same_pair Square Square e = refl
same_pair a b e = absurd (cc e)

-- the brackets of a chunk match if those of its pieces do
balances : (part : SpanPart) (next : Option TokenKind) (at : ℕ) (text : List ℕ) (kind : TokenKind) (role : Role) (more : List Piece) (fits : List Bracket → Bool) → ((why : BadToken) → role ≡ Bad why → ⊥)
    → ((held : List Open) → Balanced (kinds_of held) more → fits (brackets held) ≡ true)
    → (held : List Open) → Balanced (kinds_of held) (pieces_as role part kind next at text ++ more) → match_as (brackets held) role fits ≡ true
balances part next at text kind (Bad why) more fits sound tell held h = absurd (sound why refl)
balances part next at text kind Nothing more fits sound tell held h = tell held h
balances part next at text kind Leaf more fits sound tell held h = tell held (leaves_balanced part next at text kind (kinds_of held) more h)
balances part next at text kind (Opens pair) more fits sound tell held h = tell (record { bracket = pair; at = 0 } ∷ held) h
balances part next at text kind (Closes pair) more fits sound tell [] h = absurd h
balances part next at text kind (Closes pair) more fits sound tell (last ∷ held) h = ap (λ b. if b then fits (brackets held) else false) (same_pair last.bracket pair h.0) ∙ tell held h.1

-- These pieces end a call, or precede its last piece.
past_end : (pieces rest front : List Piece) (last : Piece) (behind : List Piece) → NoEnd pieces → is_last last.sort ≡ true → pieces ++ rest ≡ front ++ (last ∷ behind)
    → ((left : List Piece) × (front ≡ pieces ++ left) × (rest ≡ left ++ (last ∷ behind))) ⊎ ((pieces ≡ front ++ last ∷ []) × (rest ≡ behind))
past_end [] rest front last behind free is e = inl (front, refl, e)
past_end (p ∷ []) rest [] last behind free is e = inr (ap (λ x. x ∷ []) (head_of e), tail_of e)
past_end (p ∷ []) rest (f ∷ front) last behind free is e = inl (front, ap (λ x. x ∷ front) (sym (head_of e)), tail_of e)
past_end (p ∷ q ∷ pieces) rest [] last behind free is e = absurd (false≢true (sym free.0 ∙ ap (λ x. is_last x.sort) (head_of e) ∙ is))
past_end (p ∷ q ∷ pieces) rest (f ∷ front) last behind free is e = more (past_end (q ∷ pieces) rest front last behind free.1 is (tail_of e))
  where
    more : ((left : List Piece) × (front ≡ (q ∷ pieces) ++ left) × (rest ≡ left ++ (last ∷ behind))) ⊎ ((q ∷ pieces ≡ front ++ last ∷ []) × (rest ≡ behind))
        → ((left : List Piece) × (f ∷ front ≡ (p ∷ q ∷ pieces) ++ left) × (rest ≡ left ++ (last ∷ behind))) ⊎ ((p ∷ q ∷ pieces ≡ (f ∷ front) ++ last ∷ []) × (rest ≡ behind))
    more (inl (left, same, others)) = inl (left, ap₂ (λ x xs. x ∷ xs) (sym (head_of e)) same, others)
    more (inr (same, others)) = inr (ap₂ (λ x xs. x ∷ xs) (head_of e) same, others)

-- The last of them ends where they end.
last_ends : (pieces front : List Piece) (last : Piece) (stop : ℕ) → LastEnds stop pieces → pieces ≡ front ++ last ∷ [] → last.end ≡ stop
last_ends [] [] last stop stops e = absurd (cc e)
last_ends [] (f ∷ front) last stop stops e = absurd (cc e)
last_ends (p ∷ []) [] last stop stops e = ap (λ x. x.end) (sym (head_of e)) ∙ stops
last_ends (p ∷ []) (f ∷ front) last stop stops e = last_ends [] front last stop tt (tail_of e)
last_ends (p ∷ q ∷ pieces) [] last stop stops e = let none : q ∷ pieces ≡ [] = tail_of e in cc
last_ends (p ∷ q ∷ pieces) (f ∷ front) last stop stops e = last_ends (q ∷ pieces) front last stop stops (tail_of e)

none_open : (held : List Open) → Balanced (kinds_of held) [] → match (brackets held) [] ≡ true
none_open [] h = refl
none_open (last ∷ held) h = absurd (cc h)

-- the chunks of a call at the front of others, and those after the call
pub record EndOf (part : SpanPart) (at : ℕ) (chunks : List Chunk) (call : List Piece) (stop : ℕ) (pieces : List Piece) : Type 0 where
  pub inside : List Chunk
  pub behind : List Chunk
  pub parts : chunks ≡ inside ++ behind
  pub ends : stop ≡ at + length (joined inside)
  pub matched : (held : List Open) → Balanced (kinds_of held) call → match (brackets held) inside ≡ true
  pub left : pieces_in part (at + length (joined inside)) behind ≡ pieces

-- The last chunk of a call.
pub call_end : (part : SpanPart) (chunks : List Chunk) (at : ℕ) (front : List Piece) (last : Piece) (behind : List Piece) → AreChunks chunks → AreSound chunks → is_last last.sort ≡ true
    → pieces_in part at chunks ≡ front ++ (last ∷ behind) → EndOf part at chunks (front ++ last ∷ []) last.end behind
call_end part [] at [] last behind are sound is e = absurd (cc e)
call_end part [] at (f ∷ front) last behind are sound is e = absurd (cc e)
call_end part (x ∷ xs) at front last behind are sound is e = go (λ left others. call_end part xs (at + length x.text) left last behind are.1 sound.1 is others) (past_end pieces rest front last behind told.ends is e)
  where
    pieces : List Piece
    pieces = pieces_of part x.kind (next_kind (tokens_of xs)) at x.text

    rest : List Piece
    rest = pieces_in part (at + length x.text) xs

    told : Told x.kind at (at + length x.text) pieces
    told = pieces_told part (next_kind (tokens_of xs)) at x.text x.kind

    -- one more chunk is in the call
    one : (call left : List Piece) → call ≡ pieces ++ left → EndOf part (at + length x.text) xs left last.end behind → EndOf part at (x ∷ xs) call last.end behind
    one call left same it =
        let place : (at + length x.text) + length (joined it.inside) ≡ at + length (x.text ++ joined it.inside) = omega (arith, length-append x.text (joined it.inside)) in
        record {
          inside = x ∷ it.inside;
          behind = it.behind;
          parts = ap (λ cs. x ∷ cs) it.parts;
          ends = it.ends ∙ place;
          matched = λ held h.
              match_cons (brackets held) x it.inside
              ∙ ap (λ role. match_as (brackets held) role (λ next. match next it.inside)) (sym are.0.role)
              ∙ balances part (next_kind (tokens_of xs)) at x.text x.kind (role_in x.kind x.text) left (λ next. match next it.inside) sound.0 it.matched held (subst (Balanced (kinds_of held)) same h);
          left = ap (λ a. pieces_in part a it.behind) (sym place) ∙ it.left;
        }

    go : ((left : List Piece) → rest ≡ left ++ (last ∷ behind) → EndOf part (at + length x.text) xs (left ++ last ∷ []) last.end behind)
        → ((left : List Piece) × (front ≡ pieces ++ left) × (rest ≡ left ++ (last ∷ behind))) ⊎ ((pieces ≡ front ++ last ∷ []) × (rest ≡ behind)) → EndOf part at (x ∷ xs) (front ++ last ∷ []) last.end behind
    go later (inl (left, same, others)) =
        one (front ++ last ∷ []) (left ++ last ∷ []) (ap (λ ps. ps ++ last ∷ []) same ∙ append_assoc pieces left (last ∷ [])) (later left others)
    go later (inr (same, others)) =
        let none : (at + length x.text) + 0 ≡ at + length x.text = omega arith in
        one (front ++ last ∷ []) [] (sym same ∙ sym (append-nil pieces)) (record {
          inside = [];
          behind = xs;
          parts = refl;
          ends = last_ends pieces front last (at + length x.text) told.stops same ∙ sym none;
          matched = none_open;
          left = ap (λ a. pieces_in part a xs) none ∙ others;
        })

-- the first call among pieces that trees replace: the pieces before it, its pieces, those after it, and what is woven of these
abbrev First : (before : List Sort) (pieces : List Piece) (it : Splice) (others : List Splice) (all : List Sort) → Type 0
First before pieces it others all =
    (kept : List Piece) × (call : List Piece) × (rest : List Piece) × (later : List Sort) × (pieces ≡ kept ++ (call ++ rest)) × (may_begin (behind_pieces kept before) ≡ true)
    × IsTaken call it.start it.end × IsSpelling it.trees it.text × IsWoven [] rest others later × (all ≡ sorts kept ++ (settled (marks 0 it.trees) ++ later))

first_call : {before : List Sort} {pieces : List Piece} {it : Splice} {others : List Splice} {all : List Sort} → IsWoven before pieces (it ∷ others) all → First before pieces it others all
first_call (keeps {piece = piece} is) =
    let (kept, call, rest, later, parts, may, taken, spelling, behind, same) = first_call is in
    (piece ∷ kept, call, rest, later, ap (λ ps. piece ∷ ps) parts, may, taken, spelling, behind, ap (λ ss. piece.sort ∷ ss) same)
first_call (gives_way {call = call} {pieces = rest} {woven = later} may taken spelling is) = ([], call, rest, later, refl, may, taken, spelling, is, refl)

no_call : {before : List Sort} {pieces : List Piece} {all : List Sort} → IsWoven before pieces [] all → all ≡ sorts pieces
no_call ends = refl
no_call (keeps {piece = piece} is) = ap (λ ss. piece.sort ∷ ss) (no_call is)

-- a call begins with a name and a sign
begins_call : (start : ℕ) (call : List Piece) → BeginsCall start call → (first : Piece) × (second : Piece) × (more : List Piece) × (call ≡ first ∷ second ∷ more) × (first.start ≡ start) × (is_name first.sort ≡ true) × (is_call_sign second.sort ≡ true)
begins_call start [] h = absurd h
begins_call start (first ∷ []) h = absurd h
begins_call start (first ∷ second ∷ more) h = (first, second, more, refl, h.0, h.1, h.2)

-- Calls that are woven among pieces are cuts.
calls_cut : (part : SpanPart) (splices : List Splice) (at : ℕ) (chunks : List Chunk) (pieces : List Piece) (all : List Sort) → AreChunks chunks → AreSound chunks
    → pieces_in part at chunks ≡ pieces → IsWoven [] pieces splices all → Cuts splices at chunks all
calls_cut part [] at chunks pieces all are sound same is = subst (Cuts [] at chunks) (sym (pieces_mean part at chunks are) ∙ ap sorts same ∙ sym (no_call is)) whole
calls_cut part (it ∷ others) at chunks pieces all are sound same is =
    let (kept, call, rest, later, parts, may, taken, spelling, behind, whole_is) = first_call is in
    let (first, second, more, begins, start, named, signed) = begins_call it.start call taken.begins in
    let (fronts, last, whole_call, stops, closed) = taken.ends in
    let f = front part chunks at [] false false kept first second (more ++ rest) are sound (λ e. absurd (false≢true e)) (λ e. absurd (false≢true e)) named signed may
    (same ∙ parts ∙ ap (λ c. kept ++ (c ++ rest)) begins) in
    let backs = are_back f.before f.back (subst AreChunks f.parts are) in
    let sounds = sound_back f.before f.back (subst AreSound f.parts sound) in
    let e = call_end part f.back (at + length (joined f.before)) fronts last rest backs sounds closed
    (f.left ∙ ap (λ c. c ++ rest) (sym begins ∙ whole_call) ∙ append_assoc fronts (last ∷ []) rest) in
    let trees : Forest = taken.trees in
    let balanced : Balanced [] (fronts ++ last ∷ []) = subst (Balanced []) (append-nil (spelled trees) ∙ sym taken.spelled ∙ whole_call) (balanced_trees trees [] [] refl) in
    let begin : it.start ≡ at + length (joined f.before) = sym start ∙ f.begins in
    let stop : it.end ≡ (at + length (joined f.before)) + length (joined e.inside) = sym stops ∙ e.ends in
    let others_cut = calls_cut part others it.end e.behind rest later (are_back e.inside e.behind (subst AreChunks e.parts backs)) (sound_back e.inside e.behind (subst AreSound e.parts sounds))
    (ap (λ a. pieces_in part a e.behind) stop ∙ e.left) behind in
    subst (λ cs. Cuts (it ∷ others) at cs all) (sym (f.parts ∙ ap (λ cs. f.before ++ cs) e.parts))
    (subst (Cuts (it ∷ others) at (f.before ++ (e.inside ++ e.behind))) (ap (λ ss. ss ++ (settled (marks 0 it.trees) ++ later)) f.means ∙ sym whole_is)
    (cut f.before e.inside e.behind begin (stop ∙ ap (λ a. a + length (joined e.inside)) (sym begin)) (ap (λ cs. begins_with_name (tokens_of cs)) (sym e.parts) ∙ f.named) (e.matched [] balanced) (ends_as (tokens_of f.before) ∙ f.apart) spelling others_cut))

-- So a text in which trees replace such calls is read as what is woven, and has no fault of syntax.
calls_read : (part : SpanPart) (text : List ℕ) (root : Root) (splices : List Splice) (all : List Sort) → IsUtf8 text → IsParse part text root → IsWoven [] (spelled root.children) splices all
    → Reads (with_all (replacements_of splices) (begun text)) all
calls_read part text root splices all utf8 parse is =
    let it = parsed part text root utf8 parse in
    cuts_read part text parse.tokens root.children splices all it (calls_cut part splices 0 it.chunks (spelled root.children) all it.are it.sound (sym it.pieces) is)

pub read_woven : (part other : SpanPart) (text : List ℕ) (root again : Root) (splices : List Splice) (all : List Sort) → IsUtf8 text → IsParse part text root → IsWoven [] (spelled root.children) splices all
    → IsParse other (with_all (replacements_of splices) (begun text)) again → sorts (spelled again.children) ≡ all
read_woven part other text root again splices all utf8 parse is new = reads_back other _ again all (calls_read part text root splices all utf8 parse is) new

pub no_fault_woven : (part : SpanPart) (text : List ℕ) (root : Root) (splices : List Splice) (all : List Sort) (fault : SyntaxFault) → IsUtf8 text → IsParse part text root
    → IsWoven [] (spelled root.children) splices all → IsFaultOf (with_all (replacements_of splices) (begun text)) fault → ⊥
no_fault_woven part text root splices all fault utf8 parse is found = reads_fine _ all fault (calls_read part text root splices all utf8 parse is) found
