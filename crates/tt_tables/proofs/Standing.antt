-- The tokens held at a place, and from a place on.
use Rattle.std.proofs.Common.{◌≡◌, ℕ, zero, suc, ◌-◌, ◌⊎◌, inl, inr, min, take, drop, length-drop, ◌<◌, ◌≤◌, bytes_eq, List, [], ◌∷◌, Some, length, get_or, slice_get, refl, ap, sym, subst, ◌∙◌, arith}
use Rattle.std.specs.Map.{keys_of}
use Rattle.tt_base.specs.declared.delimiter.DelimiterKind.{DelimiterKind}
use Rattle.tt_base.specs.declared.delimiter.Subtree.{Subtree}
use Rattle.tt_base.specs.declared.span.Span.{Span}
use Rattle.tt_base.specs.declared.span.SpanPart.{SpanPart}
use Rattle.tt_base.specs.declared.token_tree.TokenTree.TheVariants as token
use Rattle.tt_codec.specs.declared.entry.HeaderEntry.{HeaderEntry}
use Rattle.tt_codec.specs.declared.span.SpanNumbers.{SpanNumbers}
use Rattle.std.proofs.lemmas.Option.{slice_get_within, slice_get_read}
use Rattle.tt_tables.proofs.PlacesKept.{length-named, named_at}
use Rattle.tt_tables.proofs.Taking.{header_uses}
use Rattle.std.proofs.lemmas.List.{take_all}
use Rattle.tt_tables.proofs.Using.{uses_within, uses_cut}
use Rattle.tt_tables.specs.declared.token.InternedToken.{InternedToken}
use Rattle.tt_tables.specs.declared.token.InternedToken.TheVariants as interned
use Rattle.tt_tables.specs.Held.{HeldToken, whole, opened, counted_parts, counted_symbols, parts_in, symbols_in}
use Rattle.tt_tables.specs.Interned.{AreHeld, CanTakeAll, tables_of}
use Rattle.tt_tables.specs.Names.{Names, AllName}
use Rattle.tt_tables.proofs.Used.{uses-append}
use Rattle.tt_tables.specs.Counts.{number_in}
use Rattle.tt_tables.specs.TableOrder.{uses_of}
use Rattle.tt_tables.specs.Tables.{Tables}
use Rattle.tt_tables.specs.Uses.{same_part}

-- No token is held after the end of the list.
pub past_end : (tokens : List InternedToken) (parts : List (SpanPart × ℕ)) (symbols : List (List ℕ × ℕ)) (held : List HeldToken) (place : ℕ) (h : HeldToken) → AreHeld tokens parts symbols held
    → length tokens ≤ place → slice_get held place ≡ Some h → ⊥
past_end tokens parts symbols held place h is past at = omega (arith, length-named _ tokens held is.named, slice_get_within held place h at, past)

-- What a token at a place means.
pub held_at : (tokens : List InternedToken) (parts : List (SpanPart × ℕ)) (symbols : List (List ℕ × ℕ)) (held : List HeldToken) (place : ℕ) (t : InternedToken) → AreHeld tokens parts symbols held
    → slice_get tokens place ≡ Some t → (h : HeldToken) × (slice_get held place ≡ Some h) × Names (tables_of parts symbols) t h
held_at tokens parts symbols held place t is at = named_at (tables_of parts symbols) tokens held place t is.named at

-- an open header is at the place, and means one
pub record IsOpenAt (parts : List (SpanPart × ℕ)) (symbols : List (List ℕ × ℕ)) (held : List HeldToken) (place : ℕ) (kind_named : DelimiterKind) (numbers : SpanNumbers) : Type 0 where
  pub kind : DelimiterKind
  pub open_span : Span
  pub there : slice_get held place ≡ Some (opened kind open_span)
  pub named : Names (tables_of parts symbols) (interned.Open kind_named numbers) (opened kind open_span)

pub open_at : (tokens : List InternedToken) (parts : List (SpanPart × ℕ)) (symbols : List (List ℕ × ℕ)) (held : List HeldToken) (place : ℕ) (kind : DelimiterKind) (numbers : SpanNumbers)
    → AreHeld tokens parts symbols held → slice_get tokens place ≡ Some (interned.Open kind numbers) → IsOpenAt parts symbols held place kind numbers
open_at tokens parts symbols held place kind numbers is at = by_held (held_at tokens parts symbols held place (interned.Open kind numbers) is at)
  where
    by_held : (h : HeldToken) × (slice_get held place ≡ Some h) × Names (tables_of parts symbols) (interned.Open kind numbers) h → IsOpenAt parts symbols held place kind numbers
    by_held (opened k s, there, named) = record { kind = k; open_span = s; there = there; named = named }
    by_held (whole it, there, named) = absurd named

-- No other token means an open header.
pub not_open_at : (tokens : List InternedToken) (parts : List (SpanPart × ℕ)) (symbols : List (List ℕ × ℕ)) (held : List HeldToken) (place : ℕ) (t : InternedToken) (kind : DelimiterKind) (open_span : Span)
    → AreHeld tokens parts symbols held → slice_get tokens place ≡ Some t → slice_get held place ≡ Some (opened kind open_span)
    → (k : DelimiterKind) × ((numbers : SpanNumbers) × (t ≡ interned.Open k numbers))
not_open_at tokens parts symbols held place t kind open_span is at there = by_held (held_at tokens parts symbols held place t is at)
  where
    by_token : (t : InternedToken) → Names (tables_of parts symbols) t (opened kind open_span) → (k : DelimiterKind) × ((numbers : SpanNumbers) × (t ≡ interned.Open k numbers))
    by_token (interned.Open k numbers) named = (k, (numbers, refl))
    by_token (interned.Leaf entry) named = absurd named
    by_token (interned.Header entry) named = absurd named

    by_held : (h : HeldToken) × (slice_get held place ≡ Some h) × Names (tables_of parts symbols) t h → (k : DelimiterKind) × ((numbers : SpanNumbers) × (t ≡ interned.Open k numbers))
    by_held (h, here, named) =
        let both : Some h ≡ Some (opened kind open_span) = sym here ∙ there in
        let one : h ≡ opened kind open_span = cc both in
        by_token t (subst (Names (tables_of parts symbols) t) one named)

-- A token that is read at a place is there.
pub token_there : (tokens : List InternedToken) (place n : ℕ) (read t : InternedToken) → n ≡ length tokens → place < n → read ≡ get_or tokens place read → read ≡ t → slice_get tokens place ≡ Some t
token_there tokens place n read t counted within at is = slice_get_read tokens n place read counted within at ∙ ap Some is

-- A token that means a header is a header.
pub header_at : (tokens : List InternedToken) (parts : List (SpanPart × ℕ)) (symbols : List (List ℕ × ℕ)) (held : List HeldToken) (place : ℕ) (t : InternedToken) (it : Subtree)
    → AreHeld tokens parts symbols held → slice_get tokens place ≡ Some t → slice_get held place ≡ Some (whole (token.Subtree it)) → (entry : HeaderEntry) × (t ≡ interned.Header entry)
header_at tokens parts symbols held place t it is at there = by_held (held_at tokens parts symbols held place t is at)
  where
    by_token : (t : InternedToken) → Names (tables_of parts symbols) t (whole (token.Subtree it)) → (entry : HeaderEntry) × (t ≡ interned.Header entry)
    by_token (interned.Header entry) named = (entry, refl)
    by_token (interned.Leaf entry) named = absurd named
    by_token (interned.Open k numbers) named = absurd named

    by_held : (h : HeldToken) × (slice_get held place ≡ Some h) × Names (tables_of parts symbols) t h → (entry : HeaderEntry) × (t ≡ interned.Header entry)
    by_held (h, here, named) =
        let both : Some h ≡ Some (whole (token.Subtree it)) = sym here ∙ there in
        let one : h ≡ whole (token.Subtree it) = cc both in
        by_token t (subst (Names (tables_of parts symbols) t) one named)

-- A header at a place means a closed one.
pub closed_at : (tokens : List InternedToken) (parts : List (SpanPart × ℕ)) (symbols : List (List ℕ × ℕ)) (held : List HeldToken) (place : ℕ) (entry : HeaderEntry)
    → AreHeld tokens parts symbols held → slice_get tokens place ≡ Some (interned.Header entry) → (it : Subtree) × (slice_get held place ≡ Some (whole (token.Subtree it)))
closed_at tokens parts symbols held place entry is at = by_held (held_at tokens parts symbols held place (interned.Header entry) is at)
  where
    by_held : (h : HeldToken) × (slice_get held place ≡ Some h) × Names (tables_of parts symbols) (interned.Header entry) h → (it : Subtree) × (slice_get held place ≡ Some (whole (token.Subtree it)))
    by_held (whole (token.Subtree it), there, named) = (it, there)
    by_held (whole (token.Leaf it), there, named) = absurd named
    by_held (opened kind open_span, there, named) = absurd named

-- a header is at the place, with its parts, which have these uses
pub record HeaderThere (parts : List (SpanPart × ℕ)) (held : List HeldToken) (place : ℕ) (entry : HeaderEntry) : Type 0 where
  pub it : HeldToken
  pub there : slice_get held place ≡ Some it
  pub opening : SpanPart
  pub closing : SpanPart
  pub first_there : slice_get (keys_of parts) entry.opening.part ≡ Some opening
  pub second_there : slice_get (keys_of parts) entry.closing.part ≡ Some closing
  pub counted : counted_parts it ≡ opening ∷ closing ∷ []
  pub no_symbol : counted_symbols it ≡ []
  pub used : (x : SpanPart) → uses_of same_part (counted_parts it) x ≤ number_in same_part parts x

pub header_there : (tokens : List InternedToken) (parts : List (SpanPart × ℕ)) (symbols : List (List ℕ × ℕ)) (held : List HeldToken) (place : ℕ) (entry : HeaderEntry)
    → AreHeld tokens parts symbols held → slice_get tokens place ≡ Some (interned.Header entry) → HeaderThere parts held place entry
header_there tokens parts symbols held place entry is at =
    let (it, here, named) = held_at tokens parts symbols held place (interned.Header entry) is at in
    let (uses, none) = header_uses (tables_of parts symbols) entry it named in
    record {
      it = it;
      there = here;
      opening = uses.opening;
      closing = uses.closing;
      first_there = uses.first_there;
      second_there = uses.second_there;
      counted = uses.counted;
      no_symbol = none;
      used = λ x. omega (arith, is.parts_counted x, uses_within counted_parts same_part held place it x here);
    }

-- ---- all tokens from a place on

named-drop : (tables : Tables) (tokens : List InternedToken) (held : List HeldToken) (n : ℕ) → AllName tables tokens held → AllName tables (drop n tokens) (drop n held)
named-drop tables tokens held zero named = named
named-drop tables [] [] (suc n) named = tt
named-drop tables [] (h ∷ held) (suc n) named = absurd named
named-drop tables (t ∷ tokens) [] (suc n) named = absurd named
named-drop tables (t ∷ tokens) (h ∷ held) (suc n) named = named-drop tables tokens held n named.1

-- All items from a place on, taken by their number.
rest_taken : {X : Type 0} (n : ℕ) (xs : List X) → take (length xs - n) (drop n xs) ≡ drop n xs
rest_taken n xs = take_all (length xs - n) (drop n xs) (omega (arith, length-drop n xs))

-- The tokens from the place on have a meaning.
pub rest_named : (tokens seen_tokens : List InternedToken) (parts : List (SpanPart × ℕ)) (symbols : List (List ℕ × ℕ)) (held : List HeldToken) (n : ℕ) → AreHeld tokens parts symbols held → seen_tokens ≡ tokens
    → AllName (tables_of parts symbols) (take (length seen_tokens - n) (drop n seen_tokens)) (drop n held)
rest_named tokens seen_tokens parts symbols held n is same =
    subst (λ l. AllName (tables_of parts symbols) l (drop n held)) (sym (rest_taken n seen_tokens))
    (subst (λ l. AllName (tables_of parts symbols) (drop n l) (drop n held)) (sym same) (named-drop (tables_of parts symbols) tokens held n is.named))

-- So their uses can be removed.
pub can_take_rest : (tokens seen_tokens : List InternedToken) (parts : List (SpanPart × ℕ)) (symbols : List (List ℕ × ℕ)) (held : List HeldToken) (n : ℕ) → AreHeld tokens parts symbols held → seen_tokens ≡ tokens
    → CanTakeAll parts symbols (take (length seen_tokens - n) (drop n seen_tokens))
can_take_rest tokens seen_tokens parts symbols held n is same =
    record {
      held = drop n held;
      named = rest_named tokens seen_tokens parts symbols held n is same;
      parts_used = λ x.
          omega (
            arith,
            is.parts_counted x,
            ap (λ l. uses_of same_part l x) (uses_cut counted_parts held n),
            uses-append same_part (parts_in (take n held)) (parts_in (drop n held)) x,
          );
      symbols_used = λ x.
          omega (
            arith,
            is.symbols_counted x,
            ap (λ l. uses_of bytes_eq l x) (uses_cut counted_symbols held n),
            uses-append bytes_eq (symbols_in (take n held)) (symbols_in (drop n held)) x,
          );
    }

-- The first n tokens are the first ones up to the end of the list.
pub first_of_all : (tables : Tables) (tokens : List InternedToken) (held : List HeldToken) (n m : ℕ) → AllName tables tokens held → m ≡ min n (length tokens) → take m held ≡ take n held
first_of_all tables tokens held n m named e = ap (λ k. take k held) (e ∙ ap (min n) (length-named tables tokens held named)) ∙ first n held
  where
    first : (n : ℕ) (held : List HeldToken) → take (min n (length held)) held ≡ take n held
    first n held = by_order (less_or n (length held))
      where
        less_or : (a b : ℕ) → (a ≤ b) ⊎ (b < a)
        less_or zero b = inl (omega arith)
        less_or (suc a) zero = inr (omega arith)
        less_or (suc a) (suc b) = next (less_or a b)
          where
            next : (a ≤ b) ⊎ (b < a) → (suc a ≤ suc b) ⊎ (suc b < suc a)
            next (inl h) = inl (omega (arith, h))
            next (inr h) = inr (omega (arith, h))

        by_order : (n ≤ length held) ⊎ (length held < n) → take (min n (length held)) held ≡ take n held
        by_order (inl h) = ap (λ k. take k held) (omega (arith, h))
        by_order (inr h) = ap (λ k. take k held) (omega (arith, h)) ∙ take_all (length held) held (omega arith) ∙ sym (take_all n held (omega (arith, h)))
