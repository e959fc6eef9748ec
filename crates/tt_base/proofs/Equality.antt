-- The derived `==` is equality of tokens.
use Rattle.std.proofs.Common.{◌≡◌, nat_eq, ◌&&◌, ◌↔◌, ◌≤◌, ◌-◌, ℕ, List, Option, None, Some, bytes_eq, refl, true, length, ap, subst, rules}
use Rattle.std.proofs.lemmas.Bool.{and_from}
use Rattle.std.specs.Coded.{le_prop}
use Rattle.std.specs.Cmp.{first_so, second_so}
use Rattle.std.specs.Option.{option_eq}
use Rattle.std.specs.Str.{IsCharBoundary}
use Rattle.std.proofs.Props.{props}
use mathlib.Core.HLevel.{is_prop→PathP}
use Rattle.tt_base.specs.declared.delimiter.DelimSpan.{DelimSpan}
use Rattle.tt_base.specs.declared.delimiter.Delimiter.{Delimiter}
use Rattle.tt_base.specs.declared.delimiter.Subtree.{Subtree}
use Rattle.tt_base.specs.declared.fault.TtFault.{TtFault}
use Rattle.tt_base.specs.declared.ident.Ident.{Ident}
use Rattle.tt_base.specs.declared.leaf.Leaf.{Leaf}
use Rattle.tt_base.specs.declared.leaf.Leaf.TheVariants as leaf
use Rattle.tt_base.specs.declared.literal.Lit.{Lit}
use Rattle.tt_base.specs.declared.literal.LitKind.{LitKind}
use Rattle.tt_base.specs.declared.literal.Literal.{Literal}
use Rattle.tt_base.specs.declared.punct.Punct.{Punct}
use Rattle.tt_base.specs.declared.span.Span.{Span}
use Rattle.tt_base.specs.declared.span.SpanPart.{SpanPart}
use Rattle.tt_base.specs.declared.text_range.TextRange.{TextRange}
use Rattle.tt_base.specs.declared.token_tree.TokenTree.{TokenTree}
use Rattle.tt_base.specs.declared.token_tree.TokenTree.TheVariants as token
use Rattle.tt_base.specs.contracts.delimiter.DelimSpanPartialEq.TheImpl as delim_span_impl
use Rattle.tt_base.specs.contracts.delimiter.DelimiterKindPartialEq.TheImpl as kind_impl
use Rattle.tt_base.specs.contracts.delimiter.DelimiterPartialEq.TheImpl as delimiter_impl
use Rattle.tt_base.specs.contracts.delimiter.SubtreePartialEq.TheImpl as subtree_impl
use Rattle.tt_base.specs.contracts.fault.TtFaultEq.TheImpl.Laws as fault_eq
use Rattle.tt_base.specs.contracts.fault.TtFaultPartialEq.TheImpl as fault_impl
use Rattle.tt_base.specs.contracts.ident.IdentPartialEq.TheImpl as ident_impl
use Rattle.tt_base.specs.contracts.leaf.LeafPartialEq.TheImpl as leaf_impl
use Rattle.tt_base.specs.contracts.literal.LitKindEq.TheImpl.Laws as lit_kind_eq
use Rattle.tt_base.specs.contracts.literal.LitKindPartialEq.TheImpl as lit_kind_impl
use Rattle.tt_base.specs.contracts.literal.LitPartialEq.TheImpl as lit_impl
use Rattle.tt_base.specs.contracts.literal.LiteralPartialEq.TheImpl as literal_impl
use Rattle.tt_base.specs.contracts.punct.PunctPartialEq.TheImpl as punct_impl
use Rattle.tt_base.specs.contracts.span.SpanEq.TheImpl.Laws as span_eq
use Rattle.tt_base.specs.contracts.span.SpanPartEq.TheImpl.Laws as part_eq
use Rattle.tt_base.specs.contracts.span.SpanPartPartialEq.TheImpl as part_impl
use Rattle.tt_base.specs.contracts.span.SpanPartialEq.TheImpl as span_impl
use Rattle.tt_base.specs.contracts.text_range.TextRangePartialEq.TheImpl as range_impl
use Rattle.tt_base.specs.Equality.{same_token, same_token-equivalence}
use Rattle.tt_base.specs.Literal.{IsLiteral, symbol_of, span_of, kind_of, suffix_len_of}
use Rattle.tt_base.specs.Span.{start_of, end_of}
use Rattle.tt_base.proofs.Ranges.{same_range}

range_from_eq : (a b : TextRange) → (range_impl.ghosts).eq a b ≡ true → a ≡ b
range_from_eq a b h =
    let starts : start_of a ≡ start_of b = search rules in
    let ends : end_of a ≡ end_of b = search rules in
    same_range a b starts ends

span_from_eq : (a b : Span) → (span_impl.ghosts).eq a b ≡ true → a ≡ b
span_from_eq a b h =
    let range : a.range ≡ b.range = range_from_eq a.range b.range (search rules) in
    let anchor : a.anchor ≡ b.anchor = search rules in
    let ctx : a.ctx ≡ b.ctx = search rules in
    λ i. record { range = range i; anchor = anchor i; ctx = ctx i }

punct_from_eq : (a b : Punct) → (punct_impl.ghosts).eq a b ≡ true → a ≡ b
punct_from_eq a b h =
    let char : a.char ≡ b.char = search rules in
    let spacing : a.spacing ≡ b.spacing = search rules in
    let span : a.span ≡ b.span = span_from_eq a.span b.span (search rules) in
    λ i. record { char = char i; spacing = spacing i; span = span i }

ident_from_eq : (a b : Ident) → (ident_impl.ghosts).eq a b ≡ true → a ≡ b
ident_from_eq a b h =
    let sym : a.sym ≡ b.sym = search rules in
    let span : a.span ≡ b.span = span_from_eq a.span b.span (search rules) in
    let is_raw : a.is_raw ≡ b.is_raw = search rules in
    λ i. record { sym = sym i; span = span i; is_raw = is_raw i }

boundary_prop : (text : List ℕ) (i : ℕ) → IsProp (IsCharBoundary text i)
boundary_prop text i = hlevel props

-- Literals with the same symbol, span, kind and suffix length are equal.
pub same_literal : (a b : Literal) → IsLiteral a (symbol_of b) (span_of b) (kind_of b) (suffix_len_of b) → a ≡ b
same_literal a b same =
    λ i. record {
      symbol = same.symbol i;
      span = same.span i;
      kind = same.kind i;
      suffix_len = same.suffix_len i;
      fits = is_prop→PathP (λ j. same.suffix_len j ≤ length (same.symbol j)) (λ j. le_prop) a.fits b.fits i;
      cuts = is_prop→PathP (λ j. IsCharBoundary (same.symbol j) (length (same.symbol j) - same.suffix_len j)) (λ j. boundary_prop (same.symbol j) (length (same.symbol j) - same.suffix_len j)) a.cuts b.cuts i;
    }

lit_kind_from_eq : (a b : LitKind) → (lit_kind_impl.ghosts).eq a b ≡ true → a ≡ b
lit_kind_from_eq a b h = search rules

literal_from_eq : (a b : Literal) → (literal_impl.ghosts).eq a b ≡ true → a ≡ b
literal_from_eq a b h =
    let kinds = (lit_kind_impl.ghosts).eq a.kind b.kind in
    let lens = nat_eq a.suffix_len b.suffix_len in
    let below_symbol : ((span_impl.ghosts).eq a.span b.span && (kinds && lens)) ≡ true = second_so _ _ h in
    let below_span : (kinds && lens) ≡ true = second_so _ _ below_symbol in
    let same_lens : lens ≡ true = second_so _ _ below_span in
    same_literal a b (record {
      symbol = search rules;
      span = span_from_eq a.span b.span (first_so _ _ below_symbol);
      kind = lit_kind_from_eq a.kind b.kind (first_so _ _ below_span);
      suffix_len = search rules;
    })

leaf_from_eq : (a b : Leaf) → (leaf_impl.ghosts).eq a b ≡ true → a ≡ b
leaf_from_eq (leaf.Literal a) (leaf.Literal b) h = ap leaf.Literal (literal_from_eq a b (search rules))
leaf_from_eq (leaf.Punct a) (leaf.Punct b) h = ap leaf.Punct (punct_from_eq a b (search rules))
leaf_from_eq (leaf.Ident a) (leaf.Ident b) h = ap leaf.Ident (ident_from_eq a b (search rules))
leaf_from_eq a b h = search rules

delimiter_from_eq : (a b : Delimiter) → (delimiter_impl.ghosts).eq a b ≡ true → a ≡ b
delimiter_from_eq a b h =
    let kinds = (kind_impl.ghosts).eq a.kind b.kind in
    let below_open : ((span_impl.ghosts).eq a.close b.close && kinds) ≡ true = second_so _ _ h in
    let same_kinds : kinds ≡ true = second_so _ _ below_open in
    let opening = span_from_eq a.open_span b.open_span (first_so _ _ h) in
    let closing = span_from_eq a.close b.close (first_so _ _ below_open) in
    let kind : a.kind ≡ b.kind = search rules in
    λ i. record { open_span = opening i; close = closing i; kind = kind i }

subtree_from_eq : (a b : Subtree) → (subtree_impl.ghosts).eq a b ≡ true → a ≡ b
subtree_from_eq a b h =
    let delimiter = delimiter_from_eq a.delimiter b.delimiter (first_so _ _ h) in
    let lens : nat_eq a.len b.len ≡ true = second_so _ _ h in
    let len : a.len ≡ b.len = search rules in
    λ i. record { delimiter = delimiter i; len = len i }

token_from_eq : (a b : TokenTree) → same_token a b ≡ true → a ≡ b
token_from_eq (token.Leaf a) (token.Leaf b) h = ap token.Leaf (leaf_from_eq a b (search rules))
token_from_eq (token.Subtree a) (token.Subtree b) h = ap token.Subtree (subtree_from_eq a b (search rules))
token_from_eq a b h = search rules

-- `==` is true for two tokens exactly if they are equal.
pub same_token_iff : (a b : TokenTree) → (same_token a b ≡ true) ↔ (a ≡ b)
same_token_iff a b = (token_from_eq a b, λ same. subst (λ x. same_token a x ≡ true) same (same_token-equivalence.refl a))

-- `==` is true for two span parts exactly if they are equal.
pub same_part_iff : (a b : SpanPart) → ((part_impl.ghosts).eq a b ≡ true) ↔ (a ≡ b)
same_part_iff a b = (part_from_eq, λ same. subst (λ x. (part_impl.ghosts).eq a x ≡ true) same (part_eq.lawful.laws.refl a))
  where
    part_from_eq : (part_impl.ghosts).eq a b ≡ true → a ≡ b
    part_from_eq h = search rules

-- `==` is true for two faults exactly if they are equal.
pub same_fault_iff : (a b : TtFault) → ((fault_impl.ghosts).eq a b ≡ true) ↔ (a ≡ b)
same_fault_iff a b = (fault_from_eq, λ same. subst (λ x. (fault_impl.ghosts).eq a x ≡ true) same (fault_eq.lawful.laws.refl a))
  where
    fault_from_eq : (fault_impl.ghosts).eq a b ≡ true → a ≡ b
    fault_from_eq h = search rules

delim_span_from_eq : (a b : DelimSpan) → (delim_span_impl.ghosts).eq a b ≡ true → a ≡ b
delim_span_from_eq a b h =
    let opening = span_from_eq a.open_span b.open_span (first_so _ _ h) in
    let closing = span_from_eq a.close b.close (second_so _ _ h) in
    λ i. record { open_span = opening i; close = closing i }

delim_span_itself : (a : DelimSpan) → (delim_span_impl.ghosts).eq a a ≡ true
delim_span_itself a =
    and_from ((span_impl.ghosts).eq a.open_span a.open_span) ((span_impl.ghosts).eq a.close a.close)
    (span_eq.lawful.laws.refl a.open_span) (span_eq.lawful.laws.refl a.close)

-- `==` is true for two pairs of spans exactly if they are equal.
pub same_delim_span_iff : (a b : DelimSpan) → ((delim_span_impl.ghosts).eq a b ≡ true) ↔ (a ≡ b)
same_delim_span_iff a b =
    (delim_span_from_eq a b, λ same. subst (λ x. (delim_span_impl.ghosts).eq a x ≡ true) same (delim_span_itself a))

suffix_from_eq : (a b : Option (List ℕ)) → option_eq bytes_eq a b ≡ true → a ≡ b
suffix_from_eq None None h = refl
suffix_from_eq (Some a) (Some b) h =
    let texts : a ≡ b = search rules in
    ap Some texts
suffix_from_eq None (Some b) h = search rules
suffix_from_eq (Some a) None h = search rules

suffix_itself : (a : Option (List ℕ)) → option_eq bytes_eq a a ≡ true
suffix_itself None = refl
suffix_itself (Some a) = search rules

lit_from_eq : (a b : Lit) → (lit_impl.ghosts).eq a b ≡ true → a ≡ b
lit_from_eq a b h =
    let suffixes = option_eq bytes_eq a.suffix b.suffix in
    let below_kind : (bytes_eq a.symbol b.symbol && suffixes) ≡ true = second_so _ _ h in
    let same_suffixes : suffixes ≡ true = second_so _ _ below_kind in
    let kind : a.kind ≡ b.kind = lit_kind_from_eq a.kind b.kind (first_so _ _ h) in
    let symbol : a.symbol ≡ b.symbol = search rules in
    let suffix : a.suffix ≡ b.suffix = suffix_from_eq a.suffix b.suffix same_suffixes in
    λ i. record { kind = kind i; symbol = symbol i; suffix = suffix i }

lit_itself : (a : Lit) → (lit_impl.ghosts).eq a a ≡ true
lit_itself a =
    let symbols : bytes_eq a.symbol a.symbol ≡ true = search rules in
    and_from ((lit_kind_impl.ghosts).eq a.kind a.kind) (bytes_eq a.symbol a.symbol && option_eq bytes_eq a.suffix a.suffix)
    (lit_kind_eq.lawful.laws.refl a.kind)
    (and_from (bytes_eq a.symbol a.symbol) (option_eq bytes_eq a.suffix a.suffix) symbols (suffix_itself a.suffix))

-- `==` is true for two literals without a span exactly if they are equal.
pub same_lit_iff : (a b : Lit) → ((lit_impl.ghosts).eq a b ≡ true) ↔ (a ≡ b)
same_lit_iff a b = (lit_from_eq a b, λ same. subst (λ x. (lit_impl.ghosts).eq a x ≡ true) same (lit_itself a))
