-- Each chunk of written marks is one token of the text, so the text of the trees reads back.
use Rattle.std.proofs.Common.{◌≡◌, ℕ, Bool, true, false, ◌==◌, List, [], ◌∷◌, ◌++◌, None, Result, Ok, Err, String, Global, refl, sym, ap, ap₂, ◌∙◌, subst, append-nil, if◌then◌else◌}
use Rattle.std.proofs.lemmas.Bool.{eqb-true}
use Rattle.std.specs.Prelude.{IfOk, encode_utf8, string_bytes}
use Rattle.std.specs.Str.{chars}
use Rattle.tt_base.specs.Forest.{Forest}
use Rattle.tt_base.specs.LeafText.{ident_text, leaf_text}
use Rattle.tt_base.specs.TreeText.{is_alone}
use Rattle.tt_base.specs.declared.leaf.Leaf.{Leaf}
use Rattle.tt_base.specs.declared.leaf.Leaf.TheVariants as leaf_of
use Rattle.tt_base.specs.declared.punct.Punct.{Punct}
use Rattle.tt_base.specs.declared.punct.Spacing.{Spacing}
use Rattle.tt_base.specs.declared.punct.Spacing.TheVariants.{Alone, Joint as JointSpacing}
use Rattle.syntax_lex.specs.Front.{first}
use Rattle.syntax_lex.specs.Reading.{AreTokensOf, reading}
use Rattle.syntax_lex.proofs.SignFacts.{sign_read}
use Rattle.syntax_lex.specs.Stops.{is_glued}
use Rattle.syntax_parse.specs.Faults.{fault_from}
use Rattle.syntax_parse.specs.Parsed.{next_kind, pieces_from}
use Rattle.syntax_parse.specs.Pieces.{spacing_before}
use Rattle.syntax_parse.specs.Spelled.{sign}
use Rattle.syntax_parse.specs.declared.bracket.Bracket.{Bracket}
use Rattle.syntax_parse.specs.declared.bracket.Bracket.TheVariants.{Parenthesis, Brace, Square}
use Rattle.syntax_unparse.specs.Marks.{Mark, word, opening, closing, marks}
use Rattle.syntax_unparse.specs.Settled.{ReadsBack, joins, settled, settled_spacing, sorts}
use Rattle.syntax_unparse.specs.Text.{behind_leaf, behind_punct, opens_apart, text_of, wants_space}
use Rattle.syntax_unparse.specs.Writable.{IsWritable, ReadsAlone, first_kind}
use Rattle.syntax_unparse.specs.declared.behind.Behind.{Behind}
use Rattle.syntax_unparse.specs.declared.behind.Behind.TheVariants.{Opening, Apart, Joint, Slash, Pound, Quote}
use Rattle.syntax_unparse.specs.declared.fault.WriteFault.{WriteFault}
use Rattle.syntax_unparse.proofs.Chunks.{AreChunks, Chunk, IsChunk, joined, match, no_fault, pieces_are, tokens_are, tokens_of}
use Rattle.syntax_unparse.proofs.KindFacts.{punct_known}
use Rattle.syntax_unparse.proofs.WordFacts.{some_chars}
use Rattle.syntax_unparse.proofs.Written.{Fits, behind_quote, chunks_of, closing_chunk, fits, gap_if, joined_are, leaf_chunk, lifetime_chunk, match_are, matches, means_are, opening_chunk, quotes, trees_match, word_as}
use Rattle.syntax_unparse.proofs.Fronts.{closing_is, gap_are, glue_none, glue_other, known_chunk, lifetime_is, literal_known, name_known, opening_front, opening_is, plain_apart, pound_front, quote_next, reads_as, slash_front, stops_apart, text, word_front}

-- a punct and what touches it make no comment and no prefix
punct_apart : (char : ℕ) (spacing : Spacing) (rest : List Mark) → (char == 39) ≡ false → Fits (behind_punct char spacing) rest
    → is_glued char (first (text (chunks_of (behind_punct char spacing) rest))) ≡ false
punct_apart char spacing rest other f = go (is_alone spacing) refl (char == 47) refl (char == 35) refl
  where
    behind : behind_punct char spacing ≡ (if is_alone spacing then Apart else (if char == 47 then Slash else (if char == 35 then Pound else Joint)))
    behind = ap (λ b. if b then Quote else (if is_alone spacing then Apart else (if char == 47 then Slash else (if char == 35 then Pound else Joint)))) other

    of : (b : Behind) → behind_punct char spacing ≡ b → (Fits b rest → is_glued char (first (text (chunks_of b rest))) ≡ false) → is_glued char (first (text (chunks_of (behind_punct char spacing) rest))) ≡ false
    of b e h = ap (λ x. is_glued char (first (text (chunks_of x rest)))) e ∙ h (subst (λ x. Fits x rest) e f)

    go : (a : Bool) → is_alone spacing ≡ a → (s : Bool) → (char == 47) ≡ s → (p : Bool) → (char == 35) ≡ p → is_glued char (first (text (chunks_of (behind_punct char spacing) rest))) ≡ false
    go true ea s es p ep =
        of Apart (behind ∙ ap (λ b. if b then Apart else (if char == 47 then Slash else (if char == 35 then Pound else Joint))) ea)
        (λ g. let plain = plain_apart (text (chunks_of Apart rest)) (stops_apart rest g) in
        glue_none char (first (text (chunks_of Apart rest))) plain.no_slash plain.no_star plain.no_quote plain.no_hash)
    go false ea true es p ep =
        of Slash (behind ∙ ap₂ (λ b d. if b then Apart else (if d then Slash else (if char == 35 then Pound else Joint))) ea es)
        (λ g. ap (λ c. is_glued c (first (text (chunks_of Slash rest)))) (eqb-true char 47 es) ∙ slash_front rest g)
    go false ea false es true ep =
        of Pound (behind ∙ ap₂ (λ b d. if b then Apart else (if d then Slash else (if char == 35 then Pound else Joint))) ea es ∙ ap (λ b. if b then Pound else Joint) ep)
        (λ g. ap (λ c. is_glued c (first (text (chunks_of Pound rest)))) (eqb-true char 35 ep) ∙ pound_front rest g)
    go false ea false es false ep =
        of Joint (behind ∙ ap₂ (λ b d. if b then Apart else (if d then Slash else (if char == 35 then Pound else Joint))) ea es ∙ ap (λ b. if b then Pound else Joint) ep)
        (λ g. glue_other char (first (text (chunks_of Joint rest))) es ep)

-- the token after a space is no punct
gap_next : (due : Bool) (chunks : List Chunk) → spacing_before (next_kind (tokens_of chunks)) ≡ Alone → spacing_before (next_kind (tokens_of (gap_if due chunks))) ≡ Alone
gap_next true chunks h = refl
gap_next false chunks h = h

opening_next : (pair : Bracket) (chunks : List Chunk) → spacing_before (next_kind (tokens_of (opening_chunk pair ∷ chunks))) ≡ Alone
opening_next Parenthesis chunks = refl
opening_next Brace chunks = refl
opening_next Square chunks = refl

closing_next : (pair : Bracket) (chunks : List Chunk) → spacing_before (next_kind (tokens_of (closing_chunk pair ∷ chunks))) ≡ Alone
closing_next Parenthesis chunks = refl
closing_next Brace chunks = refl
closing_next Square chunks = refl

-- how a punct with a space after it is read
next_apart : (rest : List Mark) → Fits Apart rest → spacing_before (next_kind (tokens_of (chunks_of Apart rest))) ≡ Alone
next_apart [] f = refl
next_apart (word at it ∷ rest) f = refl
next_apart (opening pair ∷ rest) f = refl
next_apart (closing pair ∷ rest) f = closing_next pair (chunks_of Apart rest)

-- how a punct that touches what follows is read
next_touching : (behind : Behind) → quotes behind ≡ false → opens_apart behind ≡ false → ((punct : Punct) → wants_space behind (leaf_of.Punct punct) ≡ false) → (rest : List Mark) → Fits behind rest
    → spacing_before (next_kind (tokens_of (chunks_of behind rest))) ≡ (if joins rest then JointSpacing else Alone)
next_touching behind q o w [] f = refl
next_touching behind q o w (opening pair ∷ rest) f = gap_next (opens_apart behind) (opening_chunk pair ∷ chunks_of Opening rest) (opening_next pair (chunks_of Opening rest))
next_touching behind q o w (closing pair ∷ rest) f = closing_next pair (chunks_of Apart rest)
next_touching behind q o w (word at (leaf_of.Ident ident) ∷ rest) f =
    let it = leaf_of.Ident ident in
    let facts = reads_as it refl f.1 in
    let known = name_known ident (ident_text ident) (first_kind (ident_text ident)) facts.0.fine facts.1 in
    ap (λ b. spacing_before (next_kind (tokens_of (if b then lifetime_chunk it ∷ chunks_of Apart rest else gap_if (wants_space behind it) (leaf_chunk it rest ∷ chunks_of Apart rest))))) q
    ∙ gap_next (wants_space behind it) (leaf_chunk it rest ∷ chunks_of Apart rest) known.alone
next_touching behind q o w (word at (leaf_of.Literal literal) ∷ rest) f =
    let it = leaf_of.Literal literal in
    let facts = reads_as it refl f.1 in
    let known = literal_known literal (leaf_text it) (first_kind (leaf_text it)) facts.0.fine facts.1 in
    ap (λ b. spacing_before (next_kind (tokens_of (if b then lifetime_chunk it ∷ chunks_of Apart rest else gap_if (wants_space behind it) (leaf_chunk it rest ∷ chunks_of Apart rest))))) q
    ∙ gap_next (wants_space behind it) (leaf_chunk it rest ∷ chunks_of Apart rest) known.alone
next_touching behind q o w (word at (leaf_of.Punct punct) ∷ rest) f = first_step ∙ go (punct.char == 39) refl
  where
    it : Leaf
    it = leaf_of.Punct punct

    plain : List Chunk
    plain = leaf_chunk it rest ∷ chunks_of (behind_leaf it) rest

    first_step : spacing_before (next_kind (tokens_of (chunks_of behind (word at it ∷ rest)))) ≡ spacing_before (next_kind (tokens_of (if punct.char == 39 then chunks_of Quote rest else plain)))
    first_step =
        ap₂ (λ b d. spacing_before (next_kind (tokens_of (if b then lifetime_chunk it ∷ chunks_of (behind_leaf it) rest else gap_if d (if punct.char == 39 then chunks_of Quote rest else plain))))) q (w punct)

    go : (b : Bool) → (punct.char == 39) ≡ b → spacing_before (next_kind (tokens_of (if punct.char == 39 then chunks_of Quote rest else plain))) ≡ JointSpacing
    go true e =
        ap (λ b. spacing_before (next_kind (tokens_of (if b then chunks_of Quote rest else plain)))) e
        ∙ quote_next rest (subst (λ b. Fits b rest) (behind_quote it e) f.2)
    go false e =
        ap (λ b. spacing_before (next_kind (tokens_of (if b then chunks_of Quote rest else plain)))) e
        ∙ (punct_known (first_kind (encode_utf8 punct.char)) punct.char (reads_as it e f.1).1).joint

-- a punct is read with its settled spacing
settled_next : (char : ℕ) (spacing : Spacing) (rest : List Mark) → (char == 39) ≡ false → Fits (behind_punct char spacing) rest
    → spacing_before (next_kind (tokens_of (chunks_of (behind_punct char spacing) rest))) ≡ settled_spacing char spacing rest
settled_next char spacing rest other f = go (is_alone spacing) refl (char == 47) refl (char == 35) refl ∙ sym target
  where
    behind : behind_punct char spacing ≡ (if is_alone spacing then Apart else (if char == 47 then Slash else (if char == 35 then Pound else Joint)))
    behind = ap (λ b. if b then Quote else (if is_alone spacing then Apart else (if char == 47 then Slash else (if char == 35 then Pound else Joint)))) other

    target : settled_spacing char spacing rest ≡ (if is_alone spacing then Alone else (if joins rest then JointSpacing else Alone))
    target = ap (λ b. if b then JointSpacing else (if is_alone spacing then Alone else (if joins rest then JointSpacing else Alone))) other

    of : (b : Behind) → behind_punct char spacing ≡ b → (s : Spacing) → (Fits b rest → spacing_before (next_kind (tokens_of (chunks_of b rest))) ≡ s)
        → spacing_before (next_kind (tokens_of (chunks_of (behind_punct char spacing) rest))) ≡ s
    of b e s h = ap (λ x. spacing_before (next_kind (tokens_of (chunks_of x rest)))) e ∙ h (subst (λ x. Fits x rest) e f)

    go : (a : Bool) → is_alone spacing ≡ a → (s : Bool) → (char == 47) ≡ s → (p : Bool) → (char == 35) ≡ p
        → spacing_before (next_kind (tokens_of (chunks_of (behind_punct char spacing) rest))) ≡ (if is_alone spacing then Alone else (if joins rest then JointSpacing else Alone))
    go true ea s es p ep =
        of Apart (behind ∙ ap (λ b. if b then Apart else (if char == 47 then Slash else (if char == 35 then Pound else Joint))) ea) Alone (λ g. next_apart rest g)
        ∙ ap (λ b. if b then Alone else (if joins rest then JointSpacing else Alone)) (sym ea)
    go false ea true es p ep =
        of Slash (behind ∙ ap₂ (λ b d. if b then Apart else (if d then Slash else (if char == 35 then Pound else Joint))) ea es) (if joins rest then JointSpacing else Alone)
        (λ g. next_touching Slash refl refl (λ punct. refl) rest g)
        ∙ ap (λ b. if b then Alone else (if joins rest then JointSpacing else Alone)) (sym ea)
    go false ea false es true ep =
        of Pound (behind ∙ ap₂ (λ b d. if b then Apart else (if d then Slash else (if char == 35 then Pound else Joint))) ea es ∙ ap (λ b. if b then Pound else Joint) ep) (if joins rest then JointSpacing else Alone)
        (λ g. next_touching Pound refl refl (λ punct. refl) rest g)
        ∙ ap (λ b. if b then Alone else (if joins rest then JointSpacing else Alone)) (sym ea)
    go false ea false es false ep =
        of Joint (behind ∙ ap₂ (λ b d. if b then Apart else (if d then Slash else (if char == 35 then Pound else Joint))) ea es ∙ ap (λ b. if b then Pound else Joint) ep) (if joins rest then JointSpacing else Alone)
        (λ g. next_touching Joint refl refl (λ punct. refl) rest g)
        ∙ ap (λ b. if b then Alone else (if joins rest then JointSpacing else Alone)) (sym ea)

-- a punct before anything that may follow it
punct_chunk : (punct : Punct) (rest : List Mark) → (punct.char == 39) ≡ false → ReadsAlone (leaf_of.Punct punct) → Fits (behind_leaf (leaf_of.Punct punct)) rest
    → IsChunk (leaf_chunk (leaf_of.Punct punct) rest) (chunks_of (behind_leaf (leaf_of.Punct punct)) rest)
punct_chunk punct rest other reads f =
    let facts = reads_as (leaf_of.Punct punct) other reads in
    let bytes = encode_utf8 punct.char in
    let known = punct_known (first_kind bytes) punct.char facts.1 in
    let chunks = chunks_of (behind_punct punct.char punct.spacing) rest in
    let letters : chars bytes ≡ punct.char ∷ [] = ap chars known.bytes ∙ known.chars in
    record {
      utf8 = facts.0.utf8;
      some = some_chars bytes facts.0;
      reads =
          ap (λ t. reading (t ++ text chunks)) letters ∙ sign_read punct.char (text chunks) known.sign (punct_apart punct.char punct.spacing rest other f)
          ∙ ap (λ k. (k, text chunks)) known.symbol;
      role = facts.0.fine;
      means = λ part at. known.means part (next_kind (tokens_of chunks)) at bytes ∙ ap (λ s. sign punct.char s ∷ []) (settled_next punct.char punct.spacing rest other f);
    }

-- a leaf and what follows it
word_are : (it : Leaf) (rest : List Mark) → ReadsAlone it → Fits (behind_leaf it) rest → AreChunks (chunks_of (behind_leaf it) rest)
    → AreChunks (word_as it rest (chunks_of Quote rest) (chunks_of (behind_leaf it) rest))
word_are (leaf_of.Ident ident) rest reads f inner =
    let facts = reads_as (leaf_of.Ident ident) refl reads in
    (known_chunk (leaf_of.Ident ident) rest (chunks_of Apart rest) facts.0 (name_known ident (ident_text ident) (first_kind (ident_text ident)) facts.0.fine facts.1) (stops_apart rest f), inner)
word_are (leaf_of.Literal literal) rest reads f inner =
    let facts = reads_as (leaf_of.Literal literal) refl reads in
    let bytes = leaf_text (leaf_of.Literal literal) in
    (known_chunk (leaf_of.Literal literal) rest (chunks_of Apart rest) facts.0 (literal_known literal bytes (first_kind bytes) facts.0.fine facts.1) (stops_apart rest f), inner)
word_are (leaf_of.Punct punct) rest reads f inner = go (punct.char == 39) refl
  where
    it : Leaf
    it = leaf_of.Punct punct

    plain : List Chunk
    plain = leaf_chunk it rest ∷ chunks_of (behind_leaf it) rest

    go : (b : Bool) → (punct.char == 39) ≡ b → AreChunks (if punct.char == 39 then chunks_of Quote rest else plain)
    go true e = subst (λ b. AreChunks (if b then chunks_of Quote rest else plain)) (sym e) (subst (λ b. AreChunks (chunks_of b rest)) (behind_quote it e) inner)
    go false e = subst (λ b. AreChunks (if b then chunks_of Quote rest else plain)) (sym e) (punct_chunk punct rest e reads f, inner)

-- the chunks of marks that fit are the tokens of their text
pub chunks_are : (behind : Behind) (ms : List Mark) → Fits behind ms → AreChunks (chunks_of behind ms)
chunks_are behind [] f = tt
chunks_are behind (opening pair ∷ rest) f =
    gap_are (opens_apart behind) (opening_chunk pair ∷ chunks_of Opening rest) (opening_is pair (chunks_of Opening rest), chunks_are Opening rest f.1) (opening_front pair (chunks_of Opening rest))
chunks_are behind (closing pair ∷ rest) f = (closing_is pair (chunks_of Apart rest), chunks_are Apart rest f.1)
chunks_are Quote (word at (leaf_of.Ident ident) ∷ rest) f = (lifetime_is ident (chunks_of Apart rest) f.0 f.1 (stops_apart rest f.2), chunks_are Apart rest f.2)
chunks_are Quote (word at (leaf_of.Literal literal) ∷ rest) f = absurd f.0
chunks_are Quote (word at (leaf_of.Punct punct) ∷ rest) f = absurd f.0
chunks_are Opening (word at it ∷ rest) f =
    gap_are (wants_space Opening it) (word_as it rest (chunks_of Quote rest) (chunks_of (behind_leaf it) rest)) (word_are it rest f.1 f.2 (chunks_are (behind_leaf it) rest f.2)) (word_front it rest f.1 f.2)
chunks_are Apart (word at it ∷ rest) f =
    gap_are (wants_space Apart it) (word_as it rest (chunks_of Quote rest) (chunks_of (behind_leaf it) rest)) (word_are it rest f.1 f.2 (chunks_are (behind_leaf it) rest f.2)) (word_front it rest f.1 f.2)
chunks_are Joint (word at it ∷ rest) f =
    gap_are (wants_space Joint it) (word_as it rest (chunks_of Quote rest) (chunks_of (behind_leaf it) rest)) (word_are it rest f.1 f.2 (chunks_are (behind_leaf it) rest f.2)) (word_front it rest f.1 f.2)
chunks_are Slash (word at it ∷ rest) f =
    gap_are (wants_space Slash it) (word_as it rest (chunks_of Quote rest) (chunks_of (behind_leaf it) rest)) (word_are it rest f.1 f.2 (chunks_are (behind_leaf it) rest f.2)) (word_front it rest f.1 f.2)
chunks_are Pound (word at it ∷ rest) f =
    gap_are (wants_space Pound it) (word_as it rest (chunks_of Quote rest) (chunks_of (behind_leaf it) rest)) (word_are it rest f.1 f.2 (chunks_are (behind_leaf it) rest f.2)) (word_front it rest f.1 f.2)

-- the text of writable trees reads back
pub reads_back : (trees : Forest) → IsWritable trees → ReadsBack trees (text_of trees)
reads_back trees writable =
    let f = fits 0 Opening (marks 0 trees) writable in
    let chunks = chunks_of Opening (marks 0 trees) in
    let are = chunks_are Opening (marks 0 trees) f in
    let written_as : joined chunks ≡ text_of trees = joined_are Opening (marks 0 trees) f in
    let matched : match [] chunks ≡ true = match_are [] Opening (marks 0 trees) ∙ ap (matches []) (sym (append-nil (marks 0 trees))) ∙ trees_match [] 0 trees [] in
    record {
      tokens = tokens_of chunks;
      read = subst (λ t. AreTokensOf (tokens_of chunks) (chars t)) written_as (tokens_are chunks are);
      fine = subst (λ t. fault_from [] 0 t (tokens_of chunks) ≡ None) written_as (no_fault [] 0 chunks are matched);
      spells = λ part. subst (λ t. sorts (pieces_from part 0 t (tokens_of chunks)) ≡ settled (marks 0 trees)) written_as (pieces_are part 0 chunks are ∙ means_are Opening (marks 0 trees) f);
    }

-- so does each answer with that text
pub back_on : (trees : Forest) (answer : Result (String Global) WriteFault) → IfOk answer (λ bytes. string_bytes bytes ≡ text_of trees) → IfOk answer (λ bytes. IsWritable trees)
    → IfOk answer (λ bytes. ReadsBack trees (string_bytes bytes))
back_on trees (Ok bytes) is writable = subst (ReadsBack trees) (sym is) (reads_back trees writable)
back_on trees (Err fault) is writable = tt
