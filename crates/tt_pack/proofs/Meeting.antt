-- The values of a list, token by token.
use Rattle.std.proofs.Common.{◌≡◌, ℕ, ◌+◌, ◌<◌, Bool, List, [], ◌∷◌, ◌++◌, get_or, take, length, length-append, length-take, ◌^◌, bytes_eq, refl, ap, sym, subst, ◌∙◌, append-nil, append_assoc, arith}
use Rattle.indexmap.proofs.SetLemmas.{AllZip-push}
use Rattle.std.proofs.lemmas.List.{take_more}
use Rattle.std.specs.Cmp.{IsEquivalence}
use Rattle.std.specs.List.{AllZip}
use Rattle.tt_base.specs.contracts.span.SpanPartEq.TheImpl.Laws as part_eq
use Rattle.tt_base.specs.contracts.symbol.SymbolEq.TheImpl.Laws as symbol_eq
use Rattle.tt_base.specs.declared.delimiter.Subtree.{Subtree}
use Rattle.tt_base.specs.declared.leaf.Leaf.TheVariants as leaf
use Rattle.tt_base.specs.declared.span.SpanPart.{SpanPart}
use Rattle.tt_base.specs.declared.token_tree.TokenTree.{TokenTree}
use Rattle.tt_base.specs.declared.token_tree.TokenTree.TheVariants as token
use Rattle.tt_base.specs.Span.{part_of}
use Rattle.tt_tables.specs.TableOrder.{different}
use Rattle.tt_tables.specs.Uses.{same_part, token_parts, token_symbols, part_uses, symbol_uses}
use Rattle.tt_pack.specs.declared.uses.TokenUses.{TokenUses}
use Rattle.tt_pack.specs.Meeting.{IsPartAt, IsSymbolAt, CanMeet, MeetsPart, MeetsToken}
use Rattle.tt_pack.specs.TablesOf.{StandsAt, AreUses}
use Rattle.tt_pack.proofs.Counting.{few_parts, few_symbols}
use Rattle.tt_pack.proofs.Noting.{different_more, stands_for_noted}
use Rattle.tt_pack.proofs.Paired.{paired_map}
use Rattle.tt_pack.proofs.UsesGrow.{uses_grow}

-- A value at an index of the different ones of some uses is there after more uses.
pub stands_with_more : {X : Type 0} (same : X → X → Bool) → IsEquivalence same → (uses more : List X) (i : ℕ) (x : X)
    → StandsAt (different same uses) i x → StandsAt (different same (uses ++ more)) i x
stands_with_more same laws uses more i x at =
    subst (λ values. StandsAt values i x) (different_more same laws uses more) (stands_for_noted same i x (different same uses) more at)

-- What follows for each part and each symbol follows for the values of a token.
pub uses_map : (P Q : ℕ → SpanPart → Type 0) (S R : ℕ → List ℕ → Type 0) (it : TokenTree) (uses : TokenUses)
    → ((i : ℕ) (x : SpanPart) → P i x → Q i x) → ((i : ℕ) (x : List ℕ) → S i x → R i x) → AreUses P S it uses → AreUses Q R it uses
uses_map P Q S R (token.Leaf (leaf.Literal it)) uses f g h = (f _ _ h.0, g _ _ h.1)
uses_map P Q S R (token.Leaf (leaf.Punct it)) uses f g h = f _ _ h
uses_map P Q S R (token.Leaf (leaf.Ident it)) uses f g h = (f _ _ h.0, g _ _ h.1)
uses_map P Q S R (token.Subtree it) uses f g h = (f _ _ h.0, f _ _ h.1)

-- ---- one token; `has_met` says which uses the values have had

module _ {V : Type 0} (has_met : V → List SpanPart → List (List ℕ) → Type 0) where
  -- One more part leaves room for one part less.
  pub can_meet_on : (old new : V) (x : SpanPart) (index a b : ℕ) → MeetsPart has_met old new x index → CanMeet has_met old (a + 1) b → CanMeet has_met new a b
  can_meet_on old new x index a b meets can = record {
    parts = can.parts ++ x ∷ [];
    symbols = can.symbols;
    met = (meets can.parts can.symbols can.met).0;
    few_parts = omega (arith, can.few_parts, length-append can.parts (x ∷ []));
    few_symbols = can.few_symbols;
  }

  -- A header has two parts.
  pub meets_header : (old between new : V) (it : Subtree) (uses : TokenUses) → MeetsPart has_met old between (part_of it.delimiter.open_span) uses.part
      → MeetsPart has_met between new (part_of it.delimiter.close) uses.other → MeetsToken has_met old new (token.Subtree it) uses
  meets_header old between new it uses opens closes parts symbols met =
      let x = part_of it.delimiter.open_span in
      let y = part_of it.delimiter.close in
      let (first, at) = opens parts symbols met in
      let (second, there) = closes (parts ++ x ∷ []) symbols first in
      let both : (parts ++ x ∷ []) ++ y ∷ [] ≡ parts ++ x ∷ y ∷ [] = append_assoc parts (x ∷ []) (y ∷ []) in (
        subst (λ l. has_met new (parts ++ x ∷ y ∷ []) l) (sym (append-nil symbols)) (subst (λ l. has_met new l symbols) both second),
        (
          subst (λ l. IsPartAt l uses.part x) both (stands_with_more same_part part_eq.lawful.laws (parts ++ x ∷ []) (y ∷ []) uses.part x at),
          subst (λ l. IsPartAt l uses.other y) both there,
        ),
      )

  -- ---- a list

  module _ (tokens : List TokenTree) (i : ℕ) where
    -- After the first tokens of a list, there is room for one more token.
    pub can_meet_token : (values : V) → i < length tokens → length tokens < 2 ^ 63 → has_met values (part_uses (take i tokens)) (symbol_uses (take i tokens)) → CanMeet has_met values 2 1
    can_meet_token values within few met = record {
      parts = part_uses (take i tokens);
      symbols = symbol_uses (take i tokens);
      met = met;
      few_parts = omega (arith, few_parts (take i tokens), length-take i tokens, within, few);
      few_symbols = omega (arith, few_symbols (take i tokens), length-take i tokens, within, few);
    }

    module _ (it : TokenTree) (within : i < length tokens) (here : it ≡ get_or tokens i it) where
      -- The parts of the first tokens and of the next one are those of one token more.
      more_parts : part_uses (take i tokens) ++ token_parts it ≡ part_uses (take (i + 1) tokens)
      more_parts = uses_grow token_parts tokens i it (part_uses (take i tokens)) (part_uses (take i tokens) ++ token_parts it) within here refl refl

      more_symbols : symbol_uses (take i tokens) ++ token_symbols it ≡ symbol_uses (take (i + 1) tokens)
      more_symbols = uses_grow token_symbols tokens i it (symbol_uses (take i tokens)) (symbol_uses (take i tokens) ++ token_symbols it) within here refl refl

      module _ (old new : V) (uses : TokenUses) (met : has_met old (part_uses (take i tokens)) (symbol_uses (take i tokens))) (meets : MeetsToken has_met old new it uses) where
        -- The values have had the uses of one more token.
        pub token_met : has_met new (part_uses (take (i + 1) tokens)) (symbol_uses (take (i + 1) tokens))
        token_met =
            subst (λ l. has_met new (part_uses (take (i + 1) tokens)) l) more_symbols
            (subst (λ l. has_met new l (symbol_uses (take i tokens) ++ token_symbols it)) more_parts (meets (part_uses (take i tokens)) (symbol_uses (take i tokens)) met).0)

        -- The indices of its values are kept.
        pub token_kept : (kept : List TokenUses) → AllZip (AreUses (IsPartAt (part_uses (take i tokens))) (IsSymbolAt (symbol_uses (take i tokens)))) (take i tokens) kept
            → AllZip (AreUses (IsPartAt (part_uses (take (i + 1) tokens))) (IsSymbolAt (symbol_uses (take (i + 1) tokens)))) (take (i + 1) tokens) (kept ++ uses ∷ [])
        token_kept kept before =
            subst (λ front. AllZip IsKept front (kept ++ uses ∷ [])) (sym more) (AllZip-push IsKept (take i tokens) kept it uses (paired_map _ _ (take i tokens) kept each before) found)
          where
            IsKept : TokenTree → TokenUses → Type 0
            IsKept = AreUses (IsPartAt (part_uses (take (i + 1) tokens))) (IsSymbolAt (symbol_uses (take (i + 1) tokens)))

            more : take (i + 1) tokens ≡ take i tokens ++ it ∷ []
            more = take_more tokens i it within ∙ ap (λ d. take i tokens ++ d ∷ []) (sym here)

            found : IsKept it uses
            found =
                uses_map _ _ _ _ it uses (λ j x at. subst (λ l. IsPartAt l j x) more_parts at) (λ j x at. subst (λ l. IsSymbolAt l j x) more_symbols at)
                (meets (part_uses (take i tokens)) (symbol_uses (take i tokens)) met).1

            each : (t : TokenTree) (u : TokenUses) → AreUses (IsPartAt (part_uses (take i tokens))) (IsSymbolAt (symbol_uses (take i tokens))) t u → IsKept t u
            each t u =
                uses_map _ _ _ _ t u
                (λ j x at. subst (λ l. IsPartAt l j x) more_parts (stands_with_more same_part part_eq.lawful.laws (part_uses (take i tokens)) (token_parts it) j x at))
                (λ j x at. subst (λ l. IsSymbolAt l j x) more_symbols (stands_with_more bytes_eq symbol_eq.lawful.laws (symbol_uses (take i tokens)) (token_symbols it) j x at))
