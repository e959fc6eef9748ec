-- Trees are equal exactly if the same is stored for them.
use Rattle.std.proofs.Common.{◌≡◌, ◌==◌, ℕ, Bool, true, false, bytes_eq, List, refl, ap, sym, ◌∙◌}
use Rattle.std.proofs.lemmas.Bool.{eqb-true, eq-eqb}
use Rattle.std.specs.Cmp.Lexicographic.{pointwise}
use Rattle.tt_base.specs.declared.span.SpanPart.{SpanPart}
use Rattle.tt_base.specs.Forest.{Root}
use Rattle.tt_tables.specs.Meaning.{IsStored}
use Rattle.tt_base.specs.Equality.{same_root}
use Rattle.tt_tables.specs.Stored.{packed}
use Rattle.tt_tables.specs.Uses.{same_part}
use Rattle.tt_base.proofs.Pointwise.{pointwise_sound, pointwise_complete}
use Rattle.tt_base.proofs.SameTree.{same_root_iff}
use Rattle.tt_tables.proofs.StoredAlike.{roots_alike}
use Rattle.tt_tables.proofs.TokenTables.{part_sound, part_complete, text_sound, text_complete}
use Rattle.tt_pack.specs.Packed.{stored_of}

-- two tests that are true together are equal
one_answer : (a b : Bool) → (a ≡ true → b ≡ true) → (b ≡ true → a ≡ true) → a ≡ b
one_answer true true f g = refl
one_answer true false f g = sym (f refl)
one_answer false true f g = g refl
one_answer false false f g = refl

module _ (a b : Root) (bytes bytes' : List ℕ) (parts parts' : List SpanPart) (symbols symbols' : List (List ℕ)) (len len' : ℕ)
    (is : IsStored (stored_of bytes parts symbols len) a) (is' : IsStored (stored_of bytes' parts' symbols' len') b) where
  -- Trees with the same bytes and tables are equal by the test.
  all_same : bytes ≡ bytes' → parts ≡ parts' → symbols ≡ symbols' → same_root a b ≡ true
  unfolding packed
  all_same e f g =
      (same_root_iff a b).1
      (roots_alike a b is.0 is.1 is'.0 is'.1
      (sym (ap (λ s. s.bytes) is.2) ∙ e ∙ ap (λ s. s.bytes) is'.2)
      (sym (ap (λ s. s.parts) is.2) ∙ f ∙ ap (λ s. s.parts) is'.2)
      (sym (ap (λ s. s.symbols) is.2) ∙ g ∙ ap (λ s. s.symbols) is'.2))

  stored_same : same_root a b ≡ true → stored_of bytes parts symbols len ≡ stored_of bytes' parts' symbols' len'
  stored_same e = is.2 ∙ ap packed ((same_root_iff a b).0 e) ∙ sym is'.2

  -- Trees with other bytes are not.
  pub other_bytes : pointwise ◌==◌ bytes bytes' ≡ false → false ≡ same_root a b
  other_bytes h = one_answer false (same_root a b) (λ e. cc e)
      (λ e. sym h ∙ pointwise_complete ◌==◌ (λ n. eq-eqb n n refl) bytes bytes' (ap (λ s. s.bytes) (stored_same e)))

  -- Trees with other parts are not.
  pub other_parts : pointwise same_part parts parts' ≡ false → false ≡ same_root a b
  other_parts h = one_answer false (same_root a b) (λ e. cc e)
      (λ e. sym h ∙ pointwise_complete same_part part_complete parts parts' (ap (λ s. s.parts) (stored_same e)))

  -- If the bytes and the parts are the same, the symbols decide.
  pub symbols_decide : pointwise ◌==◌ bytes bytes' ≡ true → pointwise same_part parts parts' ≡ true → pointwise bytes_eq symbols symbols' ≡ same_root a b
  symbols_decide e f =
      one_answer (pointwise bytes_eq symbols symbols') (same_root a b)
      (λ g. all_same (pointwise_sound ◌==◌ (λ m n. eqb-true m n) bytes bytes' e) (pointwise_sound same_part part_sound parts parts' f)
      (pointwise_sound bytes_eq text_sound symbols symbols' g))
      (λ g. pointwise_complete bytes_eq text_complete symbols symbols' (ap (λ s. s.symbols) (stored_same g)))
