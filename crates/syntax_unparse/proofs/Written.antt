-- The chunks that write marks.
use Rattle.std.proofs.Common.{◌≡◌, ℕ, ◌+◌, Bool, true, false, ◌==◌, inl, inr, List, [], ◌∷◌, ◌++◌, Option, None, Some, refl, sym, ap, ap₂, ◌∙◌, subst, arith, append_assoc, if◌then◌else◌}
use Rattle.std.proofs.lemmas.Bool.{eqb-true, false≢true}
use Rattle.std.proofs.lemmas.Str.{encode_ascii}
use Rattle.std.specs.Prelude.{encode_utf8}
use Rattle.tt_base.specs.Forest.{Forest, end, leaf, node, size}
use Rattle.tt_base.specs.LeafText.{ident_text, leaf_text}
use Rattle.tt_base.specs.TreeText.{closing_text, is_alone, opening_text, space_if}
use Rattle.tt_base.specs.declared.leaf.Leaf.{Leaf}
use Rattle.tt_base.specs.declared.leaf.Leaf.TheVariants as leaf_of
use Rattle.tt_base.specs.declared.punct.Spacing.TheVariants.{Joint as JointSpacing}
use Rattle.syntax_lex.specs.declared.token.TokenKind.{TokenKind}
use Rattle.syntax_lex.specs.declared.token.TokenKind.TheVariants as kinds
use Rattle.syntax_parse.specs.Role.{kind_of, same_bracket}
use Rattle.syntax_parse.specs.Spelled.{Sort, sign, opening as opening_sort, closing as closing_sort, sort_of}
use Rattle.syntax_parse.specs.declared.bracket.Bracket.{Bracket}
use Rattle.syntax_parse.specs.declared.bracket.Bracket.TheVariants.{Parenthesis, Brace, Square}
use Rattle.syntax_parse.specs.declared.role.Role.TheVariants as roles
use Rattle.syntax_unparse.specs.Marks.{Mark, word, opening, closing, opens, closes, brackets_of, marks, shown}
use Rattle.syntax_unparse.specs.Settled.{settled, settled_leaf}
use Rattle.syntax_unparse.specs.Text.{behind_leaf, opens_apart, wants_space, written}
use Rattle.syntax_unparse.specs.Writable.{IsFirstRefused, MayEnd, MayFollow, ReadsAlone, first_kind, is_punct}
use Rattle.syntax_unparse.specs.declared.behind.Behind.{Behind}
use Rattle.syntax_unparse.specs.declared.behind.Behind.TheVariants.{Opening, Apart, Joint, Slash, Pound, Quote}
use Rattle.syntax_unparse.proofs.Chunks.{Chunk, joined, match, means_of}

-- all of the marks can be written
abbrev pub Fits : Behind → List Mark → Type 0
Fits behind [] = MayEnd behind
Fits behind (word at it ∷ rest) = MayFollow behind it × ReadsAlone it × Fits (behind_leaf it) rest
Fits behind (opening pair ∷ rest) = MayEnd behind × Fits Opening rest
Fits behind (closing pair ∷ rest) = MayEnd behind × Fits Apart rest

-- if no leaf is refused, all marks fit
pub fits : (last : ℕ) (behind : Behind) (ms : List Mark) → IsFirstRefused last behind ms None → Fits behind ms
fits last behind [] (inl h) = h.0
fits last behind [] (inr h) = absurd (cc)
fits last behind (word at it ∷ rest) (inl (follows, inl (reads, h))) = (follows, reads, fits at (behind_leaf it) rest h)
fits last behind (word at it ∷ rest) (inl (follows, inr h)) = absurd (cc)
fits last behind (word at it ∷ rest) (inr h) = absurd (cc)
fits last behind (opening pair ∷ rest) (inl h) = (h.0, fits last Opening rest h.1)
fits last behind (opening pair ∷ rest) (inr h) = absurd (cc)
fits last behind (closing pair ∷ rest) (inl h) = (h.0, fits last Apart rest h.1)
fits last behind (closing pair ∷ rest) (inr h) = absurd (cc)

-- a space
abbrev pub gap : Chunk
gap = record { text = 32 ∷ []; kind = kinds.Whitespace; role = roles.Nothing; means = [] }

-- a space, if one is due
abbrev pub gap_if : Bool → List Chunk → List Chunk
gap_if due chunks = if due then gap ∷ chunks else chunks

abbrev pub opening_kind : Bracket → TokenKind
opening_kind Parenthesis = kinds.OpenParen
opening_kind Brace = kinds.OpenBrace
opening_kind Square = kinds.OpenBracket

abbrev pub closing_kind : Bracket → TokenKind
closing_kind Parenthesis = kinds.CloseParen
closing_kind Brace = kinds.CloseBrace
closing_kind Square = kinds.CloseBracket

abbrev pub opening_chunk : Bracket → Chunk
opening_chunk pair = record { text = opening_text (kind_of pair); kind = opening_kind pair; role = roles.Opens pair; means = opening_sort (kind_of pair) ∷ [] }

abbrev pub closing_chunk : Bracket → Chunk
closing_chunk pair = record { text = closing_text (kind_of pair); kind = closing_kind pair; role = roles.Closes pair; means = closing_sort (kind_of pair) ∷ [] }

-- a leaf before these marks
abbrev pub leaf_chunk : Leaf → List Mark → Chunk
leaf_chunk it rest = record { text = leaf_text it; kind = first_kind (leaf_text it); role = roles.Leaf; means = settled_leaf it rest ∷ [] }

-- a `'` and a name
abbrev pub lifetime_chunk : Leaf → Chunk
lifetime_chunk it = record { text = 39 ∷ leaf_text it; kind = first_kind (39 ∷ leaf_text it); role = roles.Leaf; means = sign 39 JointSpacing ∷ sort_of it ∷ [] }

-- whether a `'` was written last; it is written with its name
abbrev pub quotes : Behind → Bool
quotes Quote = true
quotes _ = false

-- a leaf and what follows it: `quoted` after a `'`, and `plain` after any other leaf
abbrev pub word_as : Leaf → List Mark → (quoted plain : List Chunk) → List Chunk
word_as it rest quoted plain = if is_punct 39 it then quoted else leaf_chunk it rest ∷ plain

-- the chunks of marks
abbrev pub chunks_of : Behind → List Mark → List Chunk
chunks_of behind [] = []
chunks_of behind (word at it ∷ rest) =
    if quotes behind then lifetime_chunk it ∷ chunks_of (behind_leaf it) rest
    else gap_if (wants_space behind it) (word_as it rest (chunks_of Quote rest) (chunks_of (behind_leaf it) rest))
chunks_of behind (opening pair ∷ rest) = gap_if (opens_apart behind) (opening_chunk pair ∷ chunks_of Opening rest)
chunks_of behind (closing pair ∷ rest) = closing_chunk pair ∷ chunks_of Apart rest

-- the text of a `'` that is due
abbrev pub quote_if : Bool → List ℕ
quote_if due = if due then 39 ∷ [] else []

gap_joined : (due : Bool) (chunks : List Chunk) → joined (gap_if due chunks) ≡ space_if due ++ joined chunks
gap_joined true chunks = refl
gap_joined false chunks = refl

-- the name of a lifetime follows a `'`, and no other leaf
pub behind_quote : (it : Leaf) → is_punct 39 it ≡ true → behind_leaf it ≡ Quote
behind_quote (leaf_of.Punct punct) h = rw h refl
behind_quote (leaf_of.Literal literal) h = absurd (false≢true h)
behind_quote (leaf_of.Ident ident) h = absurd (false≢true h)

pub behind_other : (it : Leaf) → is_punct 39 it ≡ false → quotes (behind_leaf it) ≡ false
behind_other (leaf_of.Literal literal) h = refl
behind_other (leaf_of.Ident ident) h = refl
behind_other (leaf_of.Punct punct) h = rw h (go (is_alone punct.spacing) (punct.char == 47) (punct.char == 35))
  where
    go : (a b c : Bool) → quotes (if a then Apart else (if b then Slash else (if c then Pound else Joint))) ≡ false
    go true b c = refl
    go false true c = refl
    go false false true = refl
    go false false false = refl

quote_text : (it : Leaf) → is_punct 39 it ≡ true → leaf_text it ≡ 39 ∷ []
quote_text (leaf_of.Punct punct) h = ap encode_utf8 (eqb-true punct.char 39 h) ∙ encode_ascii 39 (omega arith)
quote_text (leaf_of.Literal literal) h = absurd (false≢true h)
quote_text (leaf_of.Ident ident) h = absurd (false≢true h)

word_joined : (it : Leaf) (rest : List Mark)
    → joined (chunks_of (behind_leaf it) rest) ≡ quote_if (quotes (behind_leaf it)) ++ written (behind_leaf it) rest
    → joined (word_as it rest (chunks_of Quote rest) (chunks_of (behind_leaf it) rest)) ≡ leaf_text it ++ written (behind_leaf it) rest
word_joined it rest plain = go (is_punct 39 it) refl
  where
    go : (b : Bool) → is_punct 39 it ≡ b
        → joined (word_as it rest (chunks_of Quote rest) (chunks_of (behind_leaf it) rest)) ≡ leaf_text it ++ written (behind_leaf it) rest
    go true e =
        let quoted : joined (chunks_of Quote rest) ≡ quote_if true ++ written Quote rest = subst (λ b. joined (chunks_of b rest) ≡ quote_if (quotes b) ++ written b rest) (behind_quote it e) plain in
        rw e (quoted ∙ ap₂ (λ t b. t ++ written b rest) (sym (quote_text it e)) (sym (behind_quote it e)))
    go false e = rw e (ap (λ t. leaf_text it ++ t) (plain ∙ ap (λ b. quote_if b ++ written (behind_leaf it) rest) (behind_other it e)))

plain_joined : (due : Bool) (it : Leaf) (rest : List Mark) (chunks : List Chunk) → joined chunks ≡ leaf_text it ++ written (behind_leaf it) rest
    → joined (gap_if due chunks) ≡ (space_if due ++ leaf_text it) ++ written (behind_leaf it) rest
plain_joined due it rest chunks are =
    gap_joined due chunks ∙ ap (λ t. space_if due ++ t) are ∙ sym (append_assoc (space_if due) (leaf_text it) (written (behind_leaf it) rest))

-- the chunks make up the text
pub joined_are : (behind : Behind) (ms : List Mark) → Fits behind ms → joined (chunks_of behind ms) ≡ quote_if (quotes behind) ++ written behind ms
joined_are Quote [] f = absurd f
joined_are Opening [] f = refl
joined_are Apart [] f = refl
joined_are Joint [] f = refl
joined_are Slash [] f = refl
joined_are Pound [] f = refl
joined_are Quote (word at (leaf_of.Ident ident) ∷ rest) f = ap (λ t. (39 ∷ ident_text ident) ++ t) (joined_are Apart rest f.2)
joined_are Quote (word at (leaf_of.Literal literal) ∷ rest) f = absurd f.0
joined_are Quote (word at (leaf_of.Punct punct) ∷ rest) f = absurd f.0
joined_are Quote (opening pair ∷ rest) f = absurd f.0
joined_are Quote (closing pair ∷ rest) f = absurd f.0
joined_are Opening (word at it ∷ rest) f =
    plain_joined (wants_space Opening it) it rest (word_as it rest (chunks_of Quote rest) (chunks_of (behind_leaf it) rest)) (word_joined it rest (joined_are (behind_leaf it) rest f.2))
joined_are Opening (opening pair ∷ rest) f = gap_joined (opens_apart Opening) (opening_chunk pair ∷ chunks_of Opening rest) ∙ ap (λ t. space_if (opens_apart Opening) ++ (opening_text (kind_of pair) ++ t)) (joined_are Opening rest f.1) ∙ sym (append_assoc (space_if (opens_apart Opening)) (opening_text (kind_of pair)) (written Opening rest))
joined_are Opening (closing pair ∷ rest) f = ap (λ t. closing_text (kind_of pair) ++ t) (joined_are Apart rest f.1)
joined_are Apart (word at it ∷ rest) f =
    plain_joined (wants_space Apart it) it rest (word_as it rest (chunks_of Quote rest) (chunks_of (behind_leaf it) rest)) (word_joined it rest (joined_are (behind_leaf it) rest f.2))
joined_are Apart (opening pair ∷ rest) f = gap_joined (opens_apart Apart) (opening_chunk pair ∷ chunks_of Opening rest) ∙ ap (λ t. space_if (opens_apart Apart) ++ (opening_text (kind_of pair) ++ t)) (joined_are Opening rest f.1) ∙ sym (append_assoc (space_if (opens_apart Apart)) (opening_text (kind_of pair)) (written Opening rest))
joined_are Apart (closing pair ∷ rest) f = ap (λ t. closing_text (kind_of pair) ++ t) (joined_are Apart rest f.1)
joined_are Joint (word at it ∷ rest) f =
    plain_joined (wants_space Joint it) it rest (word_as it rest (chunks_of Quote rest) (chunks_of (behind_leaf it) rest)) (word_joined it rest (joined_are (behind_leaf it) rest f.2))
joined_are Joint (opening pair ∷ rest) f = gap_joined (opens_apart Joint) (opening_chunk pair ∷ chunks_of Opening rest) ∙ ap (λ t. space_if (opens_apart Joint) ++ (opening_text (kind_of pair) ++ t)) (joined_are Opening rest f.1) ∙ sym (append_assoc (space_if (opens_apart Joint)) (opening_text (kind_of pair)) (written Opening rest))
joined_are Joint (closing pair ∷ rest) f = ap (λ t. closing_text (kind_of pair) ++ t) (joined_are Apart rest f.1)
joined_are Slash (word at it ∷ rest) f =
    plain_joined (wants_space Slash it) it rest (word_as it rest (chunks_of Quote rest) (chunks_of (behind_leaf it) rest)) (word_joined it rest (joined_are (behind_leaf it) rest f.2))
joined_are Slash (opening pair ∷ rest) f = gap_joined (opens_apart Slash) (opening_chunk pair ∷ chunks_of Opening rest) ∙ ap (λ t. space_if (opens_apart Slash) ++ (opening_text (kind_of pair) ++ t)) (joined_are Opening rest f.1) ∙ sym (append_assoc (space_if (opens_apart Slash)) (opening_text (kind_of pair)) (written Opening rest))
joined_are Slash (closing pair ∷ rest) f = ap (λ t. closing_text (kind_of pair) ++ t) (joined_are Apart rest f.1)
joined_are Pound (word at it ∷ rest) f =
    plain_joined (wants_space Pound it) it rest (word_as it rest (chunks_of Quote rest) (chunks_of (behind_leaf it) rest)) (word_joined it rest (joined_are (behind_leaf it) rest f.2))
joined_are Pound (opening pair ∷ rest) f = gap_joined (opens_apart Pound) (opening_chunk pair ∷ chunks_of Opening rest) ∙ ap (λ t. space_if (opens_apart Pound) ++ (opening_text (kind_of pair) ++ t)) (joined_are Opening rest f.1) ∙ sym (append_assoc (space_if (opens_apart Pound)) (opening_text (kind_of pair)) (written Opening rest))
joined_are Pound (closing pair ∷ rest) f = ap (λ t. closing_text (kind_of pair) ++ t) (joined_are Apart rest f.1)

-- a `'` that is due
abbrev pub quote_sorts : Bool → List Sort
quote_sorts due = if due then sign 39 JointSpacing ∷ [] else []

gap_means : (due : Bool) (chunks : List Chunk) → means_of (gap_if due chunks) ≡ means_of chunks
gap_means true chunks = refl
gap_means false chunks = refl

quote_settled : (it : Leaf) (rest : List Mark) → is_punct 39 it ≡ true → settled_leaf it rest ≡ sign 39 JointSpacing
quote_settled (leaf_of.Punct punct) rest h = rw h (ap (λ c. sign c JointSpacing) (eqb-true punct.char 39 h))
quote_settled (leaf_of.Literal literal) rest h = absurd (false≢true h)
quote_settled (leaf_of.Ident ident) rest h = absurd (false≢true h)

word_means : (it : Leaf) (rest : List Mark) → means_of (chunks_of (behind_leaf it) rest) ≡ quote_sorts (quotes (behind_leaf it)) ++ settled rest
    → means_of (word_as it rest (chunks_of Quote rest) (chunks_of (behind_leaf it) rest)) ≡ settled_leaf it rest ∷ settled rest
word_means it rest plain = go (is_punct 39 it) refl
  where
    go : (b : Bool) → is_punct 39 it ≡ b → means_of (word_as it rest (chunks_of Quote rest) (chunks_of (behind_leaf it) rest)) ≡ settled_leaf it rest ∷ settled rest
    go true e =
        let quoted : means_of (chunks_of Quote rest) ≡ quote_sorts true ++ settled rest = subst (λ b. means_of (chunks_of b rest) ≡ quote_sorts (quotes b) ++ settled rest) (behind_quote it e) plain in
        rw e (quoted ∙ ap (λ t. t ∷ settled rest) (sym (quote_settled it rest e)))
    go false e = rw e (ap (λ t. settled_leaf it rest ∷ t) (plain ∙ ap (λ b. quote_sorts b ++ settled rest) (behind_other it e)))

-- the chunks mean the settled marks
pub means_are : (behind : Behind) (ms : List Mark) → Fits behind ms → means_of (chunks_of behind ms) ≡ quote_sorts (quotes behind) ++ settled ms
means_are Quote [] f = absurd f
means_are Quote (word at (leaf_of.Ident ident) ∷ rest) f = ap (λ t. sign 39 JointSpacing ∷ sort_of (leaf_of.Ident ident) ∷ t) (means_are Apart rest f.2)
means_are Quote (word at (leaf_of.Literal literal) ∷ rest) f = absurd f.0
means_are Quote (word at (leaf_of.Punct punct) ∷ rest) f = absurd f.0
means_are Quote (opening pair ∷ rest) f = absurd f.0
means_are Quote (closing pair ∷ rest) f = absurd f.0
means_are Opening [] f = refl
means_are Opening (word at it ∷ rest) f =
    gap_means (wants_space Opening it) (word_as it rest (chunks_of Quote rest) (chunks_of (behind_leaf it) rest)) ∙ word_means it rest (means_are (behind_leaf it) rest f.2)
means_are Opening (opening pair ∷ rest) f = gap_means (opens_apart Opening) (opening_chunk pair ∷ chunks_of Opening rest) ∙ ap (λ t. opening_sort (kind_of pair) ∷ t) (means_are Opening rest f.1)
means_are Opening (closing pair ∷ rest) f = ap (λ t. closing_sort (kind_of pair) ∷ t) (means_are Apart rest f.1)
means_are Apart [] f = refl
means_are Apart (word at it ∷ rest) f =
    gap_means (wants_space Apart it) (word_as it rest (chunks_of Quote rest) (chunks_of (behind_leaf it) rest)) ∙ word_means it rest (means_are (behind_leaf it) rest f.2)
means_are Apart (opening pair ∷ rest) f = gap_means (opens_apart Apart) (opening_chunk pair ∷ chunks_of Opening rest) ∙ ap (λ t. opening_sort (kind_of pair) ∷ t) (means_are Opening rest f.1)
means_are Apart (closing pair ∷ rest) f = ap (λ t. closing_sort (kind_of pair) ∷ t) (means_are Apart rest f.1)
means_are Joint [] f = refl
means_are Joint (word at it ∷ rest) f =
    gap_means (wants_space Joint it) (word_as it rest (chunks_of Quote rest) (chunks_of (behind_leaf it) rest)) ∙ word_means it rest (means_are (behind_leaf it) rest f.2)
means_are Joint (opening pair ∷ rest) f = gap_means (opens_apart Joint) (opening_chunk pair ∷ chunks_of Opening rest) ∙ ap (λ t. opening_sort (kind_of pair) ∷ t) (means_are Opening rest f.1)
means_are Joint (closing pair ∷ rest) f = ap (λ t. closing_sort (kind_of pair) ∷ t) (means_are Apart rest f.1)
means_are Slash [] f = refl
means_are Slash (word at it ∷ rest) f =
    gap_means (wants_space Slash it) (word_as it rest (chunks_of Quote rest) (chunks_of (behind_leaf it) rest)) ∙ word_means it rest (means_are (behind_leaf it) rest f.2)
means_are Slash (opening pair ∷ rest) f = gap_means (opens_apart Slash) (opening_chunk pair ∷ chunks_of Opening rest) ∙ ap (λ t. opening_sort (kind_of pair) ∷ t) (means_are Opening rest f.1)
means_are Slash (closing pair ∷ rest) f = ap (λ t. closing_sort (kind_of pair) ∷ t) (means_are Apart rest f.1)
means_are Pound [] f = refl
means_are Pound (word at it ∷ rest) f =
    gap_means (wants_space Pound it) (word_as it rest (chunks_of Quote rest) (chunks_of (behind_leaf it) rest)) ∙ word_means it rest (means_are (behind_leaf it) rest f.2)
means_are Pound (opening pair ∷ rest) f = gap_means (opens_apart Pound) (opening_chunk pair ∷ chunks_of Opening rest) ∙ ap (λ t. opening_sort (kind_of pair) ∷ t) (means_are Opening rest f.1)
means_are Pound (closing pair ∷ rest) f = ap (λ t. closing_sort (kind_of pair) ∷ t) (means_are Apart rest f.1)

-- whether the brackets of marks match, if these are open, innermost first
abbrev pub matches : List Bracket → List Mark → Bool
matches [] [] = true
matches (last ∷ before) [] = false
matches before (word at it ∷ rest) = matches before rest
matches before (opening pair ∷ rest) = matches (pair ∷ before) rest
matches [] (closing pair ∷ rest) = false
matches (last ∷ before) (closing pair ∷ rest) = if same_bracket last pair then matches before rest else false

gap_match : (before : List Bracket) (due : Bool) (chunks : List Chunk) → match before (gap_if due chunks) ≡ match before chunks
gap_match [] true chunks = refl
gap_match (last ∷ before) true chunks = refl
gap_match before false chunks = refl

word_match : (before : List Bracket) (it : Leaf) (rest : List Mark) → match before (chunks_of (behind_leaf it) rest) ≡ matches before rest
    → match before (word_as it rest (chunks_of Quote rest) (chunks_of (behind_leaf it) rest)) ≡ matches before rest
word_match before it rest plain = go before (is_punct 39 it) refl plain
  where
    go : (opened : List Bracket) (b : Bool) → is_punct 39 it ≡ b → match opened (chunks_of (behind_leaf it) rest) ≡ matches opened rest
        → match opened (word_as it rest (chunks_of Quote rest) (chunks_of (behind_leaf it) rest)) ≡ matches opened rest
    go opened true e h = rw e (subst (λ b. match opened (chunks_of b rest) ≡ matches opened rest) (behind_quote it e) h)
    go [] false e h = rw e h
    go (last ∷ before) false e h = rw e h

-- the brackets of chunks match if those of the marks do
pub match_are : (before : List Bracket) (behind : Behind) (ms : List Mark) → match before (chunks_of behind ms) ≡ matches before ms
match_are [] behind [] = refl
match_are (last ∷ before) behind [] = refl
match_are [] Quote (word at it ∷ rest) = match_are [] (behind_leaf it) rest
match_are (last ∷ before) Quote (word at it ∷ rest) = match_are (last ∷ before) (behind_leaf it) rest
match_are before Opening (word at it ∷ rest) =
    gap_match before (wants_space Opening it) (word_as it rest (chunks_of Quote rest) (chunks_of (behind_leaf it) rest)) ∙ word_match before it rest (match_are before (behind_leaf it) rest)
match_are before Apart (word at it ∷ rest) =
    gap_match before (wants_space Apart it) (word_as it rest (chunks_of Quote rest) (chunks_of (behind_leaf it) rest)) ∙ word_match before it rest (match_are before (behind_leaf it) rest)
match_are before Joint (word at it ∷ rest) =
    gap_match before (wants_space Joint it) (word_as it rest (chunks_of Quote rest) (chunks_of (behind_leaf it) rest)) ∙ word_match before it rest (match_are before (behind_leaf it) rest)
match_are before Slash (word at it ∷ rest) =
    gap_match before (wants_space Slash it) (word_as it rest (chunks_of Quote rest) (chunks_of (behind_leaf it) rest)) ∙ word_match before it rest (match_are before (behind_leaf it) rest)
match_are before Pound (word at it ∷ rest) =
    gap_match before (wants_space Pound it) (word_as it rest (chunks_of Quote rest) (chunks_of (behind_leaf it) rest)) ∙ word_match before it rest (match_are before (behind_leaf it) rest)
match_are [] behind (opening pair ∷ rest) = gap_match [] (opens_apart behind) (opening_chunk pair ∷ chunks_of Opening rest) ∙ match_are (pair ∷ []) Opening rest
match_are (last ∷ before) behind (opening pair ∷ rest) = gap_match (last ∷ before) (opens_apart behind) (opening_chunk pair ∷ chunks_of Opening rest) ∙ match_are (pair ∷ last ∷ before) Opening rest
match_are [] behind (closing pair ∷ rest) = refl
match_are (last ∷ before) behind (closing pair ∷ rest) = ap (λ b. if same_bracket last pair then b else false) (match_are before Apart rest)

same_is : (pair : Bracket) → same_bracket pair pair ≡ true
same_is Parenthesis = refl
same_is Brace = refl
same_is Square = refl

round : (before : List Bracket) (pair : Option Bracket) (held rest : List Mark) → ((opened : List Bracket) (more : List Mark) → matches opened (held ++ more) ≡ matches opened more)
    → matches before (opens pair ++ (held ++ (closes pair ++ rest))) ≡ matches before rest
round before None held rest inner = inner before rest
round [] (Some pair) held rest inner = inner (pair ∷ []) (closing pair ∷ rest) ∙ rw (same_is pair) refl
round (last ∷ before) (Some pair) held rest inner = inner (pair ∷ last ∷ before) (closing pair ∷ rest) ∙ rw (same_is pair) refl

regrouped : (a b c d e : List Mark) → (a ++ (b ++ (c ++ d))) ++ e ≡ a ++ (b ++ (c ++ (d ++ e)))
regrouped a b c d e =
    append_assoc a (b ++ (c ++ d)) e ∙ ap (λ t. a ++ t) (append_assoc b (c ++ d) e ∙ ap (λ t. b ++ t) (append_assoc c d e))

-- the brackets of trees match
pub trees_match : (before : List Bracket) (at : ℕ) (trees : Forest) (rest : List Mark) → matches before (marks at trees ++ rest) ≡ matches before rest
trees_match before at end rest = refl
trees_match [] at (leaf it others) rest = trees_match [] (at + 1) others rest
trees_match (last ∷ before) at (leaf it others) rest = trees_match (last ∷ before) (at + 1) others rest
trees_match before at (node delimiter children others) rest =
    let pair = brackets_of delimiter.kind (shown children) in
    let behind = (at + 1) + size children in
    ap (matches before) (regrouped (opens pair) (marks (at + 1) children) (closes pair) (marks behind others) rest)
    ∙ round before pair (marks (at + 1) children) (marks behind others ++ rest) (λ opened more. trees_match opened (at + 1) children more)
    ∙ trees_match before behind others rest
