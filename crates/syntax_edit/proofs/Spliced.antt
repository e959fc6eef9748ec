-- The chunks of a text in which trees are spliced, and the reading of that text.
use Rattle.std.proofs.Common.{◌≡◌, ◌<◌, Bool, true, false, List, [], ◌∷◌, length, None, Some, refl, sym, ap, ◌∙◌, subst, arith, ℕ, ◌+◌, ◌-◌, ◌++◌, take, drop, Option, ap₂, append_assoc}
use Rattle.std.proofs.Math.Seq.{drop-append_seam, take-append_seam}
use Rattle.std.proofs.lemmas.Bool.{false≢true}
use Rattle.std.specs.Str.{chars, IsUtf8}
use Rattle.syntax_edit.proofs.Placed.{all_from, before_front, every_append, every_more, from_back, front_pieces, pieces_in, pieces_in-is}
use Rattle.syntax_edit.proofs.Connecting.{connected_assoc}
use Rattle.syntax_edit.proofs.Glued.{glue, match_same}
use Rattle.syntax_edit.proofs.Seams.{Made, AreSound, seam}
use Rattle.syntax_edit.proofs.Sources.{cut_chunks, front_not_line, joined-append, neutral, rest_text, bytes_are, split, Parsed, are_back, sound_back, sound_chunks, sound_front, match_front, parsed}
use Rattle.syntax_edit.proofs.Spelling.{spelled_chunks}
use Rattle.syntax_edit.specs.Kept.{ends_in_line}
use Rattle.syntax_edit.specs.Splices.{IsSpelling, Splice, begins_with_name, ends_in_point, replacements_of, ArePlaces, before_byte, from_byte, woven}
use Rattle.syntax_edit.specs.Texts.{begun, connected, joined as with_seam, with_all}
use Rattle.syntax_lex.proofs.TokenFacts.{one_list}
use Rattle.syntax_lex.specs.Reading.{AreTokensOf, bytes_of}
use Rattle.syntax_lex.specs.declared.token.Token.{Token}
use Rattle.syntax_parse.specs.Faults.{fault_from}
use Rattle.syntax_parse.specs.Parsed.{IsParse, pieces_from}
use Rattle.syntax_parse.specs.Refusal.{IsFaultOf}
use Rattle.syntax_parse.specs.Spelled.{Sort, spelled}
use Rattle.syntax_parse.specs.declared.fault.SyntaxFault.{SyntaxFault}
use Rattle.syntax_unparse.proofs.Chunks.{AreChunks, Chunk, joined, match, means_of, tokens_of, no_fault, pieces_are, tokens_are}
use Rattle.syntax_unparse.specs.Marks.{marks}
use Rattle.syntax_unparse.specs.Settled.{settled, sorts}
use Rattle.tt_base.specs.Forest.{Forest, Root}
use Rattle.tt_base.specs.declared.span.SpanPart.{SpanPart}

-- a text that begins at a byte, with trees spliced in; it reaches the end of the text, and not its beginning
abbrev pub spliced : List Splice → (at : ℕ) → List ℕ → List ℕ
spliced [] at t = t
spliced (it ∷ others) at t = connected false true (take (it.start - at) t) (connected false true it.text (spliced others it.end (drop (it.end - at) t)))

-- a text with trees spliced in
abbrev pub all_spliced : List Splice → List ℕ → List ℕ
all_spliced [] t = t
all_spliced (it ∷ others) t = connected true true (take (it.start - 0) t) (connected false true it.text (spliced others it.end (drop (it.end - 0) t)))

-- the spliced text is what is written
written_on : (splices : List Splice) (so_far rest : List ℕ) (at : ℕ) → with_all (replacements_of splices) (record { so_far = so_far; rest = rest; at = at; is_changed = true }) ≡ connected true true so_far (spliced splices at rest)
written_on [] so_far rest at = refl
written_on (it ∷ others) so_far rest at =
    let kept = take (it.start - at) rest in
    let more = spliced others it.end (drop (it.end - at) rest) in
    written_on others (connected true false (connected true false so_far kept) it.text) (drop (it.end - at) rest) it.end
    ∙ connected_assoc true true (connected true false so_far kept) it.text more
    ∙ connected_assoc true true so_far kept (connected false true it.text more)

pub written_all : (splices : List Splice) (text : List ℕ) → with_all (replacements_of splices) (begun text) ≡ all_spliced splices text
written_all [] text = refl
written_all (it ∷ others) text =
    let kept = take (it.start - 0) text in
    let rest = drop (it.end - 0) text in
    written_on others (connected true false kept it.text) rest it.end ∙ connected_assoc true true kept it.text (spliced others it.end rest)

-- chunks that begin at a byte, cut where trees are spliced in, and what is read then
pub data Cuts : List Splice → (at : ℕ) → List Chunk → List Sort → Type 0 where
  whole : {at : ℕ} {chunks : List Chunk} → Cuts [] at chunks (means_of chunks)
  cut : {it : Splice} {others : List Splice} {at : ℕ} (kept inside rest : List Chunk) {all : List Sort}
      → it.start ≡ at + length (joined kept)
      → it.end ≡ it.start + length (joined inside)
      → begins_with_name (tokens_of (inside ++ rest)) ≡ true
      → match [] inside ≡ true
      → ends_in_point (tokens_of kept) ≡ false
      → IsSpelling it.trees it.text
      → Cuts others it.end rest all
      → Cuts (it ∷ others) at (kept ++ (inside ++ rest)) (means_of kept ++ (settled (marks 0 it.trees) ++ all))

-- the chunks of a text with trees spliced in
abbrev pub Spliced : List Splice → (at : ℕ) → List Chunk → List Sort → Type 0
Spliced splices at chunks all = Made (spliced splices at (joined chunks)) all chunks

-- one splice, if the others are done
splice_one : (is_first : Bool) (it : Splice) (others : List Splice) (at : ℕ) (kept inside rest : List Chunk) (after : List Sort) → AreChunks (kept ++ (inside ++ rest)) → AreSound kept
    → it.start ≡ at + length (joined kept) → it.end ≡ it.start + length (joined inside) → begins_with_name (tokens_of (inside ++ rest)) ≡ true → match [] inside ≡ true → ends_in_point (tokens_of kept) ≡ false
    → IsSpelling it.trees it.text → Spliced others it.end rest after
    → Made (connected is_first true (take (it.start - at) (joined (kept ++ (inside ++ rest)))) (connected false true it.text (spliced others it.end (drop (it.end - at) (joined (kept ++ (inside ++ rest)))))))
    (means_of kept ++ (settled (marks 0 it.trees) ++ after)) (kept ++ (inside ++ rest))
splice_one is_first it others at kept inside rest after are sound start stop named matched apart spelling inner =
    let trees = spelled_chunks it.trees it.text spelling in
    let later = glue false true trees.chunks inner.new trees.are (sound_chunks [] trees.chunks trees.are trees.matched) trees.line inner.are in
    let all = glue is_first true kept later.new (cut_chunks kept (inside ++ rest) are sound named apart) sound (front_not_line kept (inside ++ rest) are named) later.are in
    let whole : joined (kept ++ (inside ++ rest)) ≡ joined kept ++ joined (inside ++ rest) = joined-append kept (inside ++ rest) in
    let front : take (it.start - at) (joined (kept ++ (inside ++ rest))) ≡ joined kept = ap₂ (λ n t. take n t) (omega (arith, start)) whole ∙ take-append_seam (joined kept) (joined (inside ++ rest)) in
    record {
      new = all.new;
      are = all.are;
      text_is =
          all.text_is
          ∙ ap₂ (λ t u. connected is_first true t u) (sym front)
          (later.text_is ∙ ap₂ (λ t u. connected false true t u) trees.text_is (inner.text_is ∙ ap (spliced others it.end) (sym (rest_text at it.start it.end kept inside rest start stop))));
      matches = λ before.
          all.matches before
          ∙ match_same kept later.new (inside ++ rest)
          (λ b. later.matches b ∙ neutral [] b trees.chunks inner.new trees.matched ∙ inner.matches b ∙ sym (neutral [] b inside rest matched)) before;
      means = all.means ∙ ap (λ t. means_of kept ++ t) (later.means ∙ ap₂ (λ a b. a ++ b) trees.means inner.means);
    }

-- all splices
splice_all : {splices : List Splice} {at : ℕ} {chunks : List Chunk} {all : List Sort} → Cuts splices at chunks all → AreChunks chunks → AreSound chunks → Spliced splices at chunks all
splice_all (whole {chunks = chunks}) are sound = record { new = chunks; are = are; text_is = refl; means = refl; matches = λ before. refl }
splice_all (cut {it = it} {others = others} {at = at} kept inside rest {all = all} start stop named matched apart spelling later) are sound =
    let inner = splice_all later (are_back inside rest (are_back kept (inside ++ rest) are)) (sound_back inside rest (sound_back kept (inside ++ rest) sound)) in
    splice_one false it others at kept inside rest all are (sound_front kept (inside ++ rest) sound) start stop named matched apart spelling inner

-- and the first is that of the text
splice_text : {splices : List Splice} {at : ℕ} {chunks : List Chunk} {all : List Sort} → at ≡ 0 → Cuts splices at chunks all → AreChunks chunks → AreSound chunks → Made (all_spliced splices (joined chunks)) all chunks
splice_text begins (whole {chunks = chunks}) are sound = record { new = chunks; are = are; text_is = refl; means = refl; matches = λ before. refl }
splice_text begins (cut {it = it} {others = others} {at = at} kept inside rest {all = all} start stop named matched apart spelling later) are sound =
    let chunks = kept ++ (inside ++ rest) in
    let inner = splice_all later (are_back inside rest (are_back kept (inside ++ rest) are)) (sound_back inside rest (sound_back kept (inside ++ rest) sound)) in
    subst (λ n. Made (connected true true (take (it.start - n) (joined chunks)) (connected false true it.text (spliced others it.end (drop (it.end - n) (joined chunks))))) (means_of kept ++ (settled (marks 0 it.trees) ++ all)) chunks) begins
    (splice_one true it others at kept inside rest all are (sound_front kept (inside ++ rest) sound) start stop named matched apart spelling inner)

-- the reading of a text, without a fault
pub record Reads (t : List ℕ) (all : List Sort) : Type 0 where
  pub tokens : List Token
  pub read : AreTokensOf tokens (chars t)
  pub fine : fault_from [] 0 t tokens ≡ None
  pub spells : (part : SpanPart) → sorts (pieces_from part 0 t tokens) ≡ all

-- the text of chunks whose brackets match is read as they are
pub chunks_read : (chunks : List Chunk) (t : List ℕ) (all : List Sort) → AreChunks chunks → match [] chunks ≡ true → joined chunks ≡ t → means_of chunks ≡ all → Reads t all
chunks_read chunks t all are matched is means = subst (λ u. Reads u all) is (record {
  tokens = tokens_of chunks;
  read = tokens_are chunks are;
  fine = no_fault [] 0 chunks are matched;
  spells = λ part. pieces_are part 0 chunks are ∙ means;
})

pub cuts_read : (part : SpanPart) (text : List ℕ) (tokens : List Token) (trees : Forest) (splices : List Splice) (all : List Sort) → (it : Parsed part text tokens trees) → Cuts splices 0 it.chunks all
    → Reads (with_all (replacements_of splices) (begun text)) all
cuts_read part text tokens trees splices all it cuts =
    let done = splice_text refl cuts it.are it.sound in
    chunks_read done.new (with_all (replacements_of splices) (begun text)) all done.are (done.matches [] ∙ it.matched)
    (done.text_is ∙ ap (all_spliced splices) it.text_is ∙ sym (written_all splices text)) done.means

-- so its trees are read, and it has no fault of syntax
pub reads_back : (part : SpanPart) (t : List ℕ) (root : Root) (all : List Sort) → Reads t all → IsParse part t root → sorts (spelled root.children) ≡ all
reads_back part t root all it parse = ap sorts (parse.spells ∙ ap (pieces_from part 0 t) (one_list parse.tokens it.tokens (chars t) parse.read it.read)) ∙ it.spells part

pub reads_fine : (t : List ℕ) (all : List Sort) (fault : SyntaxFault) → Reads t all → IsFaultOf t fault → ⊥
reads_fine t all fault it found =
    let both : ◌≡◌ {A = Option SyntaxFault} (Some fault) None = sym found.first ∙ ap (fault_from [] 0 t) (one_list found.tokens it.tokens (chars t) found.read it.read) ∙ it.fine in
    cc

-- the meaning of chunks is that of their pieces
pub pieces_mean : (part : SpanPart) (at : ℕ) (chunks : List Chunk) → AreChunks chunks → sorts (pieces_in part at chunks) ≡ means_of chunks
pieces_mean part at chunks are = ap sorts (sym (pieces_in-is part at chunks)) ∙ pieces_are part at chunks are

-- the result of weaving three parts
woven_parts : (it : Splice) (others : List Splice) (at : ℕ) (kept inside rest : List Chunk) (part : SpanPart) → AreChunks (kept ++ (inside ++ rest)) → it.start ≡ at + length (joined kept) → it.end ≡ it.start + length (joined inside)
    → woven (it ∷ others) (pieces_in part at (kept ++ (inside ++ rest))) ≡ means_of kept ++ (settled (marks 0 it.trees) ++ woven others (pieces_in part it.end rest))
woven_parts it others at kept inside rest part are start stop =
    let fore = front_pieces part at kept (inside ++ rest) are in
    let middle = front_pieces part it.start inside rest (are_back kept (inside ++ rest) are) in
    let behind = pieces_in part it.end rest in
    let parts : pieces_in part at (kept ++ (inside ++ rest)) ≡ fore.pieces ++ pieces_in part it.start (inside ++ rest) = fore.are ∙ ap (λ n. fore.pieces ++ pieces_in part n (inside ++ rest)) (sym start) in
    let more : pieces_in part it.start (inside ++ rest) ≡ middle.pieces ++ behind = middle.are ∙ ap (λ n. middle.pieces ++ pieces_in part n rest) (sym stop) in
    let before = ap (before_byte it.start) parts ∙ before_front it.start fore.pieces (pieces_in part it.start (inside ++ rest))
    (every_more _ (λ n. n < it.start) (λ n h. omega (arith, h, start)) fore.pieces fore.below) (all_from part it.start (inside ++ rest) (are_back kept (inside ++ rest) are)) in
    let later = ap (from_byte it.end) (parts ∙ ap (λ ps. fore.pieces ++ ps) more ∙ sym (append_assoc fore.pieces middle.pieces behind)) ∙ from_back it.end (fore.pieces ++ middle.pieces) behind
    (every_append (λ n. n < it.end) fore.pieces middle.pieces (every_more _ _ (λ n h. omega (arith, h, start, stop)) fore.pieces fore.below) (every_more _ _ (λ n h. omega (arith, h, stop)) middle.pieces middle.below))
    (all_from part it.end rest (are_back inside rest (are_back kept (inside ++ rest) are))) in
    ap₂ (λ a b. sorts a ++ (settled (marks 0 it.trees) ++ woven others b)) before later ∙ ap (λ t. t ++ (settled (marks 0 it.trees) ++ woven others behind)) fore.means

begins_front : (inside rest : List Chunk) → begins_with_name (tokens_of inside) ≡ true → begins_with_name (tokens_of (inside ++ rest)) ≡ true
begins_front [] rest h = absurd (false≢true h)
begins_front (x ∷ inside) rest h = h

-- places are cuts
places_cut : (part : SpanPart) (splices : List Splice) (at : ℕ) (chunks : List Chunk) → AreChunks chunks → ArePlaces splices at (joined chunks) (tokens_of chunks) → Cuts splices at chunks (woven splices (pieces_in part at chunks))
places_cut part [] at chunks are places = subst (Cuts [] at chunks) (sym (pieces_mean part at chunks are)) whole
places_cut part (it ∷ others) at chunks are (place, later) =
    let (kept, more, first, befores, mores) = split chunks place.before (place.inside ++ place.behind) place.parts in
    let (inside, rest, second, insides, behinds) = split more place.inside place.behind mores in
    let parts : chunks ≡ kept ++ (inside ++ rest) = first ∙ ap (λ t. kept ++ t) second in
    let all = subst AreChunks parts are in
    let start : it.start ≡ at + length (joined kept) = place.begins ∙ ap (λ n. at + n) (ap bytes_of (sym befores) ∙ bytes_are kept) in
    let stop : it.end ≡ it.start + length (joined inside) = place.ends ∙ ap (λ n. it.start + n) (ap bytes_of (sym insides) ∙ bytes_are inside) in
    let whole_text : joined chunks ≡ joined kept ++ joined (inside ++ rest) = ap joined parts ∙ joined-append kept (inside ++ rest) in
    let from : drop (bytes_of place.before) (joined chunks) ≡ joined (inside ++ rest) = ap₂ (λ n t. drop n t) (ap bytes_of (sym befores) ∙ bytes_are kept) whole_text ∙ drop-append_seam (joined kept) (joined (inside ++ rest)) in
    let left : drop (it.end - at) (joined chunks) ≡ joined rest = ap (λ cs. drop (it.end - at) (joined cs)) parts ∙ rest_text at it.start it.end kept inside rest start stop in
    let matched : match [] inside ≡ true = match_front [] 0 inside rest (are_back kept (inside ++ rest) all) (ap₂ (λ t ts. fault_from [] 0 t ts) (sym from) insides ∙ place.matched) in
    let inner = places_cut part others it.end rest (are_back inside rest (are_back kept (inside ++ rest) all)) (subst (λ ts. ArePlaces others it.end (joined rest) ts) (sym behinds) (subst (λ t. ArePlaces others it.end t place.behind) left later)) in
    subst (λ cs. Cuts (it ∷ others) at cs (woven (it ∷ others) (pieces_in part at cs))) (sym parts)
    (subst (Cuts (it ∷ others) at (kept ++ (inside ++ rest))) (sym (woven_parts it others at kept inside rest part all start stop))
    (cut kept inside rest start stop (begins_front inside rest (ap begins_with_name insides ∙ place.named)) matched (ap ends_in_point befores ∙ place.apart) place.spelling inner))

-- so a text that was read is read again with trees in these places
places_read : (part : SpanPart) (text : List ℕ) (root : Root) (splices : List Splice) (utf8 : IsUtf8 text) → (parse : IsParse part text root) → ArePlaces splices 0 text parse.tokens
    → Reads (with_all (replacements_of splices) (begun text)) (woven splices (spelled root.children))
places_read part text root splices utf8 parse places =
    let it = parsed part text root utf8 parse in
    cuts_read part text parse.tokens root.children splices _ it
    (subst (λ ps. Cuts splices 0 it.chunks (woven splices ps)) (sym it.pieces)
    (places_cut part splices 0 it.chunks it.are (subst (λ ts. ArePlaces splices 0 (joined it.chunks) ts) (sym it.tokens_are) (subst (λ t. ArePlaces splices 0 t parse.tokens) (sym it.text_is) places))))

-- the text is read as the pieces of the source, with the settled trees in place of each range
pub read_spliced : (part other : SpanPart) (text : List ℕ) (root again : Root) (splices : List Splice) → IsUtf8 text → (parse : IsParse part text root) → ArePlaces splices 0 text parse.tokens
    → IsParse other (with_all (replacements_of splices) (begun text)) again → sorts (spelled again.children) ≡ woven splices (spelled root.children)
read_spliced part other text root again splices utf8 parse places back = reads_back other _ again _ (places_read part text root splices utf8 parse places) back

-- and the text has no fault
pub no_fault_spliced : (part : SpanPart) (text : List ℕ) (root : Root) (splices : List Splice) (fault : SyntaxFault) → IsUtf8 text → (parse : IsParse part text root) → ArePlaces splices 0 text parse.tokens
    → IsFaultOf (with_all (replacements_of splices) (begun text)) fault → ⊥
no_fault_spliced part text root splices fault utf8 parse places found = reads_fine _ _ fault (places_read part text root splices utf8 parse places) found

-- two texts that are joined are read as both
pub read_joined : (part other again_part : SpanPart) (front back : List ℕ) (first second again : Root) → IsUtf8 front → IsUtf8 back → (parse : IsParse part front first) → IsParse other back second
    → ends_in_line parse.tokens ≡ false → IsParse again_part (with_seam front back) again → sorts (spelled again.children) ≡ sorts (spelled first.children) ++ sorts (spelled second.children)
read_joined part other again_part front back first second again utf8 fine parse parse2 line read =
    let it = parsed part front first utf8 parse in
    let behind = parsed other back second fine parse2 in
    let (done, begins) = seam it.chunks behind.chunks it.are it.sound (ap ends_in_line it.tokens_are ∙ line) behind.are in
    reads_back again_part (with_seam front back) again _
    (chunks_read done.new (with_seam front back) _ done.are (done.matches [] ∙ neutral [] [] it.chunks behind.chunks it.matched ∙ behind.matched)
    (done.text_is ∙ ap₂ (λ t u. with_seam t u) it.text_is behind.text_is)
    (done.means ∙ ap₂ (λ a b. a ++ b) (sym (ap sorts it.pieces ∙ pieces_mean part 0 it.chunks it.are)) (sym (ap sorts behind.pieces ∙ pieces_mean other 0 behind.chunks behind.are))))
    read
