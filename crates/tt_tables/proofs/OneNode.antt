-- The tokens of one node: its header, and the tokens after it.
use Rattle.std.proofs.Common.{◌≡◌, ℕ, zero, suc, ◌-◌, ◌≤◌, false, Some, List, [], ◌∷◌, map, set, get_or, take, drop, length, bytes_eq, slice_get, refl, ap, ap₂, sym, subst, ◌∙◌, arith}
use Rattle.std.specs.List.{AllByRecursion, IsDistinct}
use Rattle.std.proofs.lemmas.List.{take_all}
use Rattle.std.proofs.lemmas.Option.{get_or_from_slice_get}
use Rattle.tt_base.specs.contracts.span.SpanPartEq.TheImpl.Laws as part_eq
use Rattle.tt_base.specs.declared.delimiter.Subtree.{Subtree}
use Rattle.tt_base.specs.declared.span.Span.{Span}
use Rattle.tt_base.specs.declared.span.SpanPart.{SpanPart}
use Rattle.tt_base.specs.declared.token_tree.TokenTree.{TokenTree}
use Rattle.tt_base.specs.declared.token_tree.TokenTree.TheVariants as token
use Rattle.tt_base.specs.Fits.{TokenInRange}
use Rattle.tt_base.specs.Forest.{header}
use Rattle.tt_base.specs.Span.{part_of}
use Rattle.tt_base.specs.Token.{delimiter}
use Rattle.tt_codec.specs.declared.entry.HeaderEntry.{HeaderEntry}
use Rattle.tt_tables.specs.declared.token.InternedToken.{InternedToken}
use Rattle.tt_tables.specs.declared.token.InternedToken.TheVariants as interned
use Rattle.tt_tables.specs.Counted.{AreOf}
use Rattle.tt_tables.specs.Held.{whole}
use Rattle.tt_tables.specs.declared.counted.CountedTokens.{CountedTokens}
use Rattle.tt_tables.specs.ListOf.{list_of}
use Rattle.tt_tables.specs.Names.{AllName}
use Rattle.tt_tables.proofs.Used.{one_if, uses-cons, all_at_place}
use Rattle.tt_tables.specs.Searches.{FindsSubtree}
use Rattle.tt_tables.specs.TableOrder.{different, uses_of}
use Rattle.tt_tables.specs.Tables.{Tables, tables_from}
use Rattle.tt_tables.specs.Uses.{same_part, part_uses, symbol_uses}
use Rattle.tt_tables.specs.OneNode.{IsOneNode, BeginsWith, IsSpanAt, HasUseAt}

-- ---- one use less

-- One more use of a part adds no use of other parts.
apart_uses : (part : SpanPart) (others parts : List SpanPart) → AllByRecursion (λ x. same_part part x ≡ false) parts
    → map (uses_of same_part (part ∷ others)) parts ≡ map (uses_of same_part others) parts
apart_uses part others [] apart = refl
apart_uses part others (x ∷ parts) apart = ap₂ ◌∷◌ first (apart_uses part others parts apart.1)
  where
    first : uses_of same_part (part ∷ others) x ≡ uses_of same_part others x
    first = omega (arith, uses-cons same_part part others x, ap one_if (part_eq.lawful.laws.symm x part ∙ apart.0))

-- The number at the place falls by one.
taken : (parts : List SpanPart) (place : ℕ) (part : SpanPart) (others : List SpanPart) (n m : ℕ) → IsDistinct same_part parts → slice_get parts place ≡ Some part
    → slice_get (map (uses_of same_part (part ∷ others)) parts) place ≡ Some n → m ≡ n - 1
    → set (map (uses_of same_part (part ∷ others)) parts) place m ≡ map (uses_of same_part others) parts
unfolding IsDistinct
taken [] place part others n m distinct there read less = absurd (cc there)
taken (x ∷ parts) zero part others n m distinct there read less = ap₂ ◌∷◌ first (apart_uses part others parts (subst (λ z. AllByRecursion (λ y. same_part z y ≡ false) parts) is distinct.0))
  where
    is : x ≡ part
    is = cc there

    number : uses_of same_part (part ∷ others) x ≡ n
    number = cc read

    first : m ≡ uses_of same_part others x
    first = omega (arith, less, number, uses-cons same_part part others x, ap one_if (ap (λ z. same_part z part) is ∙ part_eq.lawful.laws.refl part))
taken (x ∷ parts) (suc place) part others n m distinct there read less = ap₂ ◌∷◌ first (taken parts place part others n m distinct.1 there read less)
  where
    first : uses_of same_part (part ∷ others) x ≡ uses_of same_part others x
    first = omega (arith, uses-cons same_part part others x, ap one_if (all_at_place (λ z. same_part x z ≡ false) parts place part distinct.0 there))

-- The number at the place exists, and is above 0.
use_there : (parts : List SpanPart) (place : ℕ) (part : SpanPart) (others : List SpanPart) → slice_get parts place ≡ Some part
    → (n : ℕ) × (slice_get (map (uses_of same_part (part ∷ others)) parts) place ≡ Some (suc n))
use_there [] place part others there = absurd (cc there)
use_there (x ∷ parts) zero part others there = (uses_of same_part others x, ap Some number)
  where
    is : x ≡ part
    is = cc there

    number : uses_of same_part (part ∷ others) x ≡ suc (uses_of same_part others x)
    number = omega (arith, uses-cons same_part part others x, ap one_if (ap (λ z. same_part z part) is ∙ part_eq.lawful.laws.refl part))
use_there (x ∷ parts) (suc place) part others there = use_there parts place part others there

-- The same for the number among the counted uses.
pub has_use : (parts : List SpanPart) (place : ℕ) (others : List SpanPart) (numbers : List ℕ) → HasUseAt parts place others numbers
    → (n : ℕ) × (slice_get numbers place ≡ Some (suc n))
has_use parts place others numbers has =
    let (n, at) = use_there parts place has.part others has.there in
    (n, ap (λ l. slice_get l place) has.counted ∙ at)

-- This number is the one that is read there.
pub use_read : (parts : List SpanPart) (place : ℕ) (others : List SpanPart) (numbers : List ℕ) (m d : ℕ) → HasUseAt parts place others numbers → m ≡ get_or numbers place d
    → 1 ≤ m
use_read parts place others numbers m d has read =
    let (n, at) = has_use parts place others numbers has in
    omega (arith, read, get_or_from_slice_get numbers place (suc n) d at)

-- With one less at the place the numbers are those of the other uses.
pub use_taken : (parts : List SpanPart) (place : ℕ) (others : List SpanPart) (numbers : List ℕ) (m d : ℕ) → HasUseAt parts place others numbers → m ≡ get_or numbers place d
    → set numbers place (m - 1) ≡ map (uses_of same_part others) parts
use_taken parts place others numbers m d has read =
    let (n, at) = use_there parts place has.part others has.there in
    let number : m ≡ suc n = read ∙ get_or_from_slice_get numbers place (suc n) d (ap (λ l. slice_get l place) has.counted ∙ at) in
    ap (λ l. set l place (m - 1)) has.counted ∙ taken parts place has.part others (suc n) (m - 1) has.distinct has.there at (ap (λ k. k - 1) number)

-- ---- the header and the tokens after it

-- the meaning of tokens that begin with a header
pub record NamesNode (tables : Tables) (tokens : List InternedToken) (top : Subtree) (rest : List TokenTree) : Type 0 where
  pub entry : HeaderEntry
  pub below : List InternedToken
  pub begins : tokens ≡ interned.Header entry ∷ below
  pub header : FindsSubtree tables entry top
  pub range : TokenInRange (token.Subtree top)
  pub named : AllName tables below (map whole rest)

-- The first token names the header.
pub node_named : (tables : Tables) (tokens : List InternedToken) (top : Subtree) (rest : List TokenTree) → AllName tables tokens (map whole (token.Subtree top ∷ rest))
    → NamesNode tables tokens top rest
node_named tables [] top rest named = absurd named
node_named tables (interned.Leaf entry ∷ below) top rest named = absurd named.0
node_named tables (interned.Open kind numbers ∷ below) top rest named = absurd named.0
node_named tables (interned.Header entry ∷ below) top rest named =
    record { entry = entry; below = below; begins = refl; header = named.0.0; range = named.0.1; named = named.1 }

-- Any other token at the front names it too.
header_named : (tables : Tables) (tokens : List InternedToken) (top : Subtree) (rest : List TokenTree) (entry : HeaderEntry) → NamesNode tables tokens top rest
    → BeginsWith tokens entry → FindsSubtree tables entry top
header_named tables tokens top rest entry node first = subst (λ e. FindsSubtree tables e top) same node.header
  where
    both : interned.Header node.entry ∷ node.below ≡ interned.Header entry ∷ first.0
    both = sym node.begins ∙ first.1

    headers : interned.Header node.entry ≡ interned.Header entry
    headers = cc both

    same : node.entry ≡ entry
    same = cc headers

module _ (it : CountedTokens) (one : IsOneNode (list_of it)) where
  named_node : NamesNode (tables_from it.parts.now it.symbols.now) it.tokens.now one.top one.rest
  named_node =
      node_named (tables_from it.parts.now it.symbols.now) it.tokens.now one.top one.rest
      (subst (λ l. AllName (tables_from it.parts.now it.symbols.now) it.tokens.now (map whole l)) one.list it.list.1.named)

  rest_is : one.rest ≡ drop 1 (list_of it)
  rest_is = ap (drop 1) (sym one.list)

  list_is : list_of it ≡ token.Subtree one.top ∷ drop 1 (list_of it)
  list_is = one.list ∙ ap (λ l. token.Subtree one.top ∷ l) rest_is

  -- The tokens after the header mean the list after it.
  pub rest_of : (below : List InternedToken) (numbers : List ℕ) → below ≡ drop 1 it.tokens.now
      → numbers ≡ map (uses_of same_part (part_uses (drop 1 (list_of it)))) it.parts.now
      → AreOf below it.parts.now numbers it.symbols.now it.symbol_uses.now (drop 1 (list_of it))
  rest_of below numbers is counted = record {
    named =
        subst (λ l. AllName (tables_from it.parts.now it.symbols.now) l (map whole (drop 1 (list_of it)))) (ap (drop 1) (sym named_node.begins) ∙ sym is)
        (subst (λ l. AllName (tables_from it.parts.now it.symbols.now) named_node.below (map whole l)) rest_is named_node.named);
    distinct = it.list.1.distinct;
    parts_counted = counted;
    in_order = it.list.1.in_order ∙ ap (λ l. different bytes_eq (symbol_uses l)) list_is;
    symbols_counted = it.list.1.symbols_counted ∙ ap (λ l. map (uses_of bytes_eq (symbol_uses l)) it.symbols.now) list_is;
  }

  module _ (entry : HeaderEntry) (first : BeginsWith it.tokens.now entry) where
    named : FindsSubtree (tables_from it.parts.now it.symbols.now) entry one.top
    named = header_named (tables_from it.parts.now it.symbols.now) it.tokens.now one.top one.rest entry named_node first

    -- The numbers name the header's spans.
    pub opening_at : IsSpanAt it.parts.now entry.opening one.top.delimiter.open_span
    opening_at = (it.symbols.now, named.opening, named_node.range.0)

    pub closing_at : IsSpanAt it.parts.now entry.closing one.top.delimiter.close
    closing_at = (it.symbols.now, named.closing, named_node.range.1)

    -- A header with these spans is the first one.
    pub top_is : (opening closing : Span) → opening ≡ one.top.delimiter.open_span → closing ≡ one.top.delimiter.close
        → list_of it ≡ header (delimiter entry.kind opening closing) (length (drop 1 (list_of it))) ∷ drop 1 (list_of it)
    top_is opening closing open_is close_is =
        one.list
        ∙ ap₂ (λ t l. t ∷ l)
        (λ i. token.Subtree (record { delimiter = record { open_span = sym open_is i; close = sym close_is i; kind = sym named.kind i }; len = long i }))
        rest_is
      where
        long : one.top.len ≡ length (drop 1 (list_of it))
        long = one.counted ∙ ap length rest_is

    -- The uses are those of the header's two parts, and the others.
    pub opening_use : (numbers : List ℕ) → numbers ≡ it.part_uses.now
        → HasUseAt it.parts.now entry.opening.part (part_of one.top.delimiter.close ∷ part_uses (drop 1 (list_of it))) numbers
    opening_use numbers is = record {
      part = part_of one.top.delimiter.open_span;
      there = named.opening.part;
      distinct = it.list.1.distinct;
      counted = is ∙ it.list.1.parts_counted ∙ ap (λ l. map (uses_of same_part (part_uses l)) it.parts.now) list_is;
    }

    pub closing_use : (numbers : List ℕ) → numbers ≡ map (uses_of same_part (part_of one.top.delimiter.close ∷ part_uses (drop 1 (list_of it)))) it.parts.now
        → HasUseAt it.parts.now entry.closing.part (part_uses (drop 1 (list_of it))) numbers
    closing_use numbers counted = record { part = part_of one.top.delimiter.close; there = named.closing.part; distinct = it.list.1.distinct; counted = counted }

-- All items after the first.
pub all_behind : {X : Type 0} (l : List X) → take (length l - 1) (drop 1 l) ≡ drop 1 l
all_behind [] = take_all 0 [] (omega arith)
all_behind (x ∷ l) = take_all (length (x ∷ l) - 1) l (omega arith)
