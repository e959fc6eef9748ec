-- Texts may be connected in any order.
use Rattle.std.proofs.Common.{◌≡◌, ◌⊎◌, inl, inr, ⊎_elim, ℕ, Bool, true, false, ◌||◌, ◌&&◌, ◌==◌, not, List, [], ◌∷◌, ◌++◌, Option, None, Some, option_map, refl, sym, ap, ap₂, ◌∙◌, subst, append-nil, append_assoc}
use Rattle.std.proofs.lemmas.Bool.{and_parts, eqb-true, false≢true}
use Rattle.std.specs.List.{slice_get}
use Rattle.syntax_edit.proofs.Blanks.{are_blank, and-comm, Front, front_of, Back, back_of, behind_blank, behind_other, behind_feed, before_blank, before_other, before_feed, blank_both, feed, edge}
use Rattle.syntax_edit.proofs.Seams.{last_append}
use Rattle.syntax_edit.proofs.Touches.{last_of, last_snoc, snoc}
use Rattle.syntax_unparse.proofs.Fronts.{not_nil}
use Rattle.syntax_edit.specs.Lines.{is_blank, behind_line, before_line, without_line}
use Rattle.syntax_edit.specs.Texts.{is_apart, is_separator, is_sign, is_joined_before, wants_space, joined, connected}
use Rattle.tt_base.specs.TreeText.{space_if}

-- a text that is joined with an empty text is the text
seam_nil : (a : List ℕ) → joined a [] ≡ a
seam_nil a = by (last_of a)
  where
    by : (last : Option ℕ) → (a ++ space_if (wants_space last None)) ++ [] ≡ a
    by None = append-nil (a ++ []) ∙ append-nil a
    by (Some l) = append-nil (a ++ []) ∙ append-nil a

-- texts may be joined in any order
seam_assoc : (a b c : List ℕ) → joined (joined a b) c ≡ joined a (joined b c)
seam_assoc a [] c = ap (λ t. joined t c) (seam_nil a)
seam_assoc a (d ∷ bs) c =
    let b = d ∷ bs in
    let front = a ++ space_if (wants_space (last_of a) (Some d)) in
    let space = space_if (wants_space (last_of b) (slice_get c 0)) in
    ap (λ l. ((front ++ b) ++ space_if (wants_space l (slice_get c 0))) ++ c) (last_append front b (not_nil d bs))
    ∙ ap (λ t. t ++ c) (append_assoc front b space)
    ∙ append_assoc front (b ++ space) c

-- no line goes if one part is not there
pub no_line : (front back : Option (List ℕ)) (x : List ℕ) → (front ≡ None) ⊎ (back ≡ None) → without_line front back x ≡ x
no_line None back x h = refl
no_line (Some s) None x h = refl
no_line (Some s) (Some t) x (inl h) = absurd (cc h)
no_line (Some s) (Some t) x (inr h) = absurd (cc h)

none_more : (f : List ℕ → List ℕ) (o : Option (List ℕ)) → o ≡ None → option_map f o ≡ None
none_more f None h = refl
none_more f (Some x) h = absurd (cc h)

none_less : (f : List ℕ → List ℕ) (o : Option (List ℕ)) → option_map f o ≡ None → o ≡ None
none_less f None h = refl
none_less f (Some x) h = absurd (cc h)

-- something of each blank byte
pub one_blank : (P : ℕ → Type 0) (b : ℕ) → P 32 → P 9 → P 13 → is_blank b ≡ true → P b
one_blank P b space tab back is = by (b == 32) (b == 9) (b == 13) refl refl refl is
  where
    by : (p q r : Bool) → (b == 32) ≡ p → (b == 9) ≡ q → (b == 13) ≡ r → (p || (q || r)) ≡ true → P b
    by true q r e f g h = subst P (sym (eqb-true b 32 e)) space
    by false true r e f g h = subst P (sym (eqb-true b 9 f)) tab
    by false false true e f g h = subst P (sym (eqb-true b 13 g)) back
    by false false false e f g h = absurd (cc h)

blank_apart : (b : ℕ) → is_blank b ≡ true → is_apart b ≡ true
blank_apart b = one_blank (λ n. is_apart n ≡ true) b refl refl refl

-- no space is needed before a byte that is apart, nor behind one
wants_none : (last : Option ℕ) (x : ℕ) → is_apart x ≡ true → wants_space last (Some x) ≡ false
wants_none None x is = refl
wants_none (Some l) x is = by (is_apart l) (is_apart x) is
  where
    by : (p q : Bool) → q ≡ true → not (p || (q || ((is_separator x && not (is_sign l)) || (is_separator l && not (is_joined_before x))))) ≡ false
    by true q h = refl
    by false true h = refl
    by false false h = absurd (cc h)

pub none_behind : (last first : Option ℕ) (l : ℕ) → last ≡ Some l → is_apart l ≡ true → wants_space last first ≡ false
none_behind last first l e is = ap (λ o. wants_space o first) e ∙ by first
  where
    by : (first : Option ℕ) → wants_space (Some l) first ≡ false
    by None = refl
    by (Some x) = ap (λ p. not (p || (is_apart x || ((is_separator x && not (is_sign l)) || (is_separator l && not (is_joined_before x)))))) is

pub joined_tight : (a b : List ℕ) → wants_space (last_of a) (slice_get b 0) ≡ false → joined a b ≡ a ++ b
joined_tight a b none = ap (λ w. (a ++ space_if w) ++ b) none ∙ ap (λ u. u ++ b) (append-nil a)

-- nor before blank bytes or behind them
wants_nothing : (last : Option ℕ) → wants_space last None ≡ false
wants_nothing None = refl
wants_nothing (Some l) = refl

blank_behind : (a b : List ℕ) → are_blank b ≡ true → joined a b ≡ a ++ b
blank_behind a [] is = joined_tight a [] (wants_nothing (last_of a))
blank_behind a (x ∷ b) is = joined_tight a (x ∷ b) (wants_none (last_of a) x (blank_apart x (and_parts (is_blank x) (are_blank b) is).0))

blank_joined : (b c : List ℕ) → are_blank b ≡ true → joined b c ≡ b ++ c
blank_joined [] c is = joined_tight [] c refl
blank_joined (x ∷ b) c is =
    let (front, l, e) = snoc (x ∷ b) (not_nil x b) in
    let both = and_parts (are_blank front) (is_blank l && true) (sym (blank_both front (l ∷ [])) ∙ ap are_blank (sym e) ∙ is) in
    joined_tight (x ∷ b) c (none_behind (last_of (x ∷ b)) (slice_get c 0) l (ap last_of e ∙ last_snoc front l) (blank_apart l (and_parts (is_blank l) true both.1).0))

-- bytes with a line feed are not all blank
feed_other : (s r : List ℕ) → are_blank (s ++ 10 ∷ r) ≡ false
feed_other s r = blank_both s (10 ∷ r) ∙ and-comm (are_blank s) false

-- the first byte and the last byte of a text with a line feed
first_same : (s x y : List ℕ) → slice_get ((s ++ 10 ∷ []) ++ x) 0 ≡ slice_get ((s ++ 10 ∷ []) ++ y) 0
first_same [] x y = refl
first_same (d ∷ s) x y = refl

last_same : (p q t : List ℕ) → last_of ((p ++ 10 ∷ []) ++ t) ≡ last_of ((q ++ 10 ∷ []) ++ t)
last_same p q [] = ap last_of (append-nil (p ++ 10 ∷ [])) ∙ last_snoc p 10 ∙ sym (ap last_of (append-nil (q ++ 10 ∷ [])) ∙ last_snoc q 10)
last_same p q (x ∷ t) = last_append (p ++ 10 ∷ []) (x ∷ t) (not_nil x t) ∙ sym (last_append (q ++ 10 ∷ []) (x ∷ t) (not_nil x t))

-- a line feed before a text asks for no space behind it
wants_same : (q t : List ℕ) (first : Option ℕ) → wants_space (last_of t) first ≡ wants_space (last_of ((q ++ 10 ∷ []) ++ t)) first
wants_same q [] first = sym (none_behind (last_of ((q ++ 10 ∷ []) ++ [])) first 10 (ap last_of (append-nil (q ++ 10 ∷ [])) ∙ last_snoc q 10) refl)
wants_same q (x ∷ t) first = ap (λ o. wants_space o first) (sym (last_append (q ++ 10 ∷ []) (x ∷ t) (not_nil x t)))

module _ (is_first is_last : Bool) (a b c : List ℕ) where
  -- other bytes of the second decide of its first line, also if the third follows
  behind_joined : are_blank b ≡ false → behind_line is_last (joined b c) ≡ option_map (λ rest. rest ++ (space_if (wants_space (last_of b) (slice_get c 0)) ++ c)) (behind_line false b)
  behind_joined is =
      let space = space_if (wants_space (last_of b) (slice_get c 0)) in
      ap (behind_line is_last) (append_assoc b space c) ∙ behind_other is_last false b (space ++ c) is

  abbrev Connects : List ℕ → Type 0
  Connects front = connected is_first is_last front c ≡ connected is_first is_last a (connected false is_last b c)

  -- no line goes between the first two
  apart_first : (before_line is_first a ≡ None) ⊎ (behind_line false b ≡ None) → Connects (connected is_first false a b)
  apart_first apart = subst Connects (sym (no_line (before_line is_first a) (behind_line false b) (joined a b) apart)) (by (are_blank b) refl)
    where
      -- nothing else is in the second
      blank : are_blank b ≡ true → Connects (joined a b)
      blank is =
          let front : before_line is_first (joined a b) ≡ before_line is_first a = ap (before_line is_first) (blank_behind a b is) ∙ before_blank is_first a b is in
          let none : before_line false b ≡ None = before_blank false [] b is in
          let same : connected false is_last b c ≡ joined b c = no_line (before_line false b) (behind_line is_last c) (joined b c) (inl none) in
          let back : behind_line is_last (joined b c) ≡ behind_line is_last c = ap (behind_line is_last) (blank_joined b c is) ∙ behind_blank is_last b c is in
          ap₂ (λ o x. without_line o (behind_line is_last c) x) front (seam_assoc a b c)
          ∙ ap (λ o. without_line (before_line is_first a) o (joined a (joined b c))) (sym back)
          ∙ ap (connected is_first is_last a) (sym same)

      gap : List ℕ
      gap = a ++ space_if (wants_space (last_of a) (slice_get b 0))

      -- no line goes between the second and the third
      plain : are_blank b ≡ false → (before_line false b ≡ None) ⊎ (behind_line is_last c ≡ None) → Connects (joined a b)
      plain is none =
          no_line (before_line is_first (joined a b)) (behind_line is_last c) (joined (joined a b) c)
          (⊎_elim (λ h. inl (before_other is_first false gap b is ∙ none_more (λ front. gap ++ front) (before_line false b) h)) (λ h. inr h) none)
          ∙ seam_assoc a b c
          ∙ sym (no_line (before_line is_first a) (behind_line is_last (joined b c)) (joined a (joined b c))
          (⊎_elim (λ h. inl h) (λ h. inr (behind_joined is ∙ none_more _ (behind_line false b) h)) apart))
          ∙ ap (connected is_first is_last a) (sym (no_line (before_line false b) (behind_line is_last c) (joined b c) none))

      -- a line goes between these
      goes : are_blank b ≡ false → (l u : List ℕ) → before_line false b ≡ Some l → behind_line is_last c ≡ Some u → Back b l → Connects (joined a b)
      goes is l u e f (edge all none) = absurd (false≢true (sym is ∙ all))
      goes is l u e f (feed before blank all ends shape) =
          let parts : b ≡ l ++ blank = shape ∙ sym (append_assoc before (10 ∷ []) blank) ∙ ap (λ x. x ++ blank) (sym ends) in
          let other : are_blank l ≡ false = ap are_blank ends ∙ feed_other before [] in
          let first : slice_get b 0 ≡ slice_get (l ++ u) 0 =
          ap (λ x. slice_get x 0) parts ∙ ap (λ x. slice_get (x ++ blank) 0) ends ∙ first_same before blank u ∙ ap (λ x. slice_get (x ++ u) 0) (sym ends) in
          let none : (before_line is_first a ≡ None) ⊎ (behind_line is_last (l ++ u) ≡ None) =
          ⊎_elim (λ h. inl h)
          (λ h. inr (behind_other is_last false l u other ∙ none_more (λ rest. rest ++ u) (behind_line false l)
          (none_less (λ rest. rest ++ blank) (behind_line false l) (sym (behind_other false false l blank other) ∙ ap (behind_line false) (sym parts) ∙ h))))
          apart in
          ap₂ (λ o v. without_line o v (joined (joined a b) c)) (before_other is_first false gap b is ∙ ap (option_map (λ front. gap ++ front)) e) f
          ∙ append_assoc gap l u
          ∙ ap (λ o. (a ++ space_if (wants_space (last_of a) o)) ++ (l ++ u)) first
          ∙ sym (no_line (before_line is_first a) (behind_line is_last (l ++ u)) (joined a (l ++ u)) none)
          ∙ ap (connected is_first is_last a) (sym (ap₂ (λ o v. without_line o v (joined b c)) e f))

      other : are_blank b ≡ false → (l u : Option (List ℕ)) → before_line false b ≡ l → behind_line is_last c ≡ u → Connects (joined a b)
      other is None u e f = plain is (inl e)
      other is (Some l) None e f = plain is (inr f)
      other is (Some l) (Some u) e f = goes is l u e f (back_of false b l e)

      by : (is : Bool) → are_blank b ≡ is → Connects (joined a b)
      by true is = blank is
      by false is = other is (before_line false b) (behind_line is_last c) refl refl

  -- a line goes between the first two
  module _ (s t : List ℕ) (e : before_line is_first a ≡ Some s) (f : behind_line false b ≡ Some t) (w : List ℕ) (blank : are_blank w ≡ true) (shape : b ≡ w ++ 10 ∷ t) where
    goes_between : Back a s → Connects (s ++ t)
    goes_between ended = by (behind_line is_last c) (before_line false t) (are_blank t) refl refl refl
      where
        parts : b ≡ (w ++ 10 ∷ []) ++ t
        parts = shape ∙ sym (append_assoc w (10 ∷ []) t)

        is : are_blank b ≡ false
        is = ap are_blank shape ∙ feed_other w t

        -- the first part ends as it did
        again : Back a s → before_line is_first s ≡ Some s
        again (feed before others all ends whole) = ap (before_line is_first) ends ∙ before_feed is_first before [] refl ∙ ap Some (sym ends)
        again (edge all none) = ap (before_line is_first) none ∙ sym (before_blank is_first [] a all) ∙ e

        wants : Back a s → wants_space (last_of (s ++ t)) (slice_get c 0) ≡ wants_space (last_of b) (slice_get c 0)
        wants (feed before others all ends whole) = ap (λ o. wants_space o (slice_get c 0)) (ap (λ x. last_of (x ++ t)) ends ∙ last_same before w t ∙ ap last_of (sym parts))
        wants (edge all none) = ap (λ x. wants_space (last_of (x ++ t)) (slice_get c 0)) none ∙ wants_same w t (slice_get c 0) ∙ ap (λ x. wants_space (last_of x) (slice_get c 0)) (sym parts)

        -- no line goes between the second and the third
        plain : (before_line is_first (s ++ t) ≡ None) ⊎ (behind_line is_last c ≡ None) → (before_line false b ≡ None) ⊎ (behind_line is_last c ≡ None) → Connects (s ++ t)
        plain one two =
            let gap = space_if (wants_space (last_of b) (slice_get c 0)) in
            no_line (before_line is_first (s ++ t)) (behind_line is_last c) (joined (s ++ t) c) one
            ∙ ap (λ o. ((s ++ t) ++ space_if o) ++ c) (wants ended)
            ∙ append_assoc (s ++ t) gap c ∙ append_assoc s t (gap ++ c)
            ∙ sym (ap₂ (λ o v. without_line o v (joined a (joined b c))) e (behind_joined is ∙ ap (option_map (λ rest. rest ++ (gap ++ c))) f))
            ∙ ap (connected is_first is_last a) (sym (no_line (before_line false b) (behind_line is_last c) (joined b c) two))

        -- a line goes between these
        goes : (l u : List ℕ) → before_line is_first (s ++ t) ≡ Some (s ++ l) → before_line false b ≡ Some ((w ++ 10 ∷ []) ++ l) → behind_line is_last c ≡ Some u → Connects (s ++ t)
        goes l u p q r =
            let line = w ++ 10 ∷ [] in
            let back : behind_line is_last ((line ++ l) ++ u) ≡ Some (l ++ u) = ap (behind_line is_last) (append_assoc line l u ∙ append_assoc w (10 ∷ []) (l ++ u)) ∙ behind_feed is_last w (l ++ u) blank in
            ap₂ (λ o v. without_line o v (joined (s ++ t) c)) p r
            ∙ append_assoc s l u
            ∙ sym (ap₂ (λ o v. without_line o v (joined a ((line ++ l) ++ u))) e back)
            ∙ ap (connected is_first is_last a) (sym (ap₂ (λ o v. without_line o v (joined b c)) q r))

        by : (u l : Option (List ℕ)) (all : Bool) → behind_line is_last c ≡ u → before_line false t ≡ l → are_blank t ≡ all → Connects (s ++ t)
        by None l all r q n = plain (inr r) (inr r)
        by (Some u) l true r q n =
            goes [] u
            (before_blank is_first s t n ∙ again ended ∙ ap Some (sym (append-nil s)))
            (ap (before_line false) shape ∙ before_feed false w t n ∙ ap Some (sym (append-nil (w ++ 10 ∷ [])))) r
        by (Some u) None false r q n =
            plain (inl (before_other is_first false s t n ∙ none_more (λ front. s ++ front) (before_line false t) q))
            (inl (ap (before_line false) parts ∙ before_other false false (w ++ 10 ∷ []) t n ∙ none_more (λ front. (w ++ 10 ∷ []) ++ front) (before_line false t) q))
        by (Some u) (Some l) false r q n =
            goes l u (before_other is_first false s t n ∙ ap (option_map (λ front. s ++ front)) q)
            (ap (before_line false) parts ∙ before_other false false (w ++ 10 ∷ []) t n ∙ ap (option_map (λ front. (w ++ 10 ∷ []) ++ front)) q) r

  goes_first : (s t : List ℕ) → before_line is_first a ≡ Some s → behind_line false b ≡ Some t → Front b t → Connects (connected is_first false a b)
  goes_first s t e f (feed w blank shape) =
      subst Connects (sym (ap₂ (λ o v. without_line o v (joined a b)) e f)) (goes_between s t e f w blank shape (back_of is_first a s e))
  goes_first s t e f (edge all none) =
      let nothing : ◌≡◌ {A = Option (List ℕ)} None (Some t) = sym (behind_blank false b [] all) ∙ ap (behind_line false) (append-nil b) ∙ f in
      absurd (cc)

-- Texts may be connected in any order.
pub connected_assoc : (is_first is_last : Bool) (a b c : List ℕ) → connected is_first is_last (connected is_first false a b) c ≡ connected is_first is_last a (connected false is_last b c)
connected_assoc is_first is_last a b c = by (before_line is_first a) (behind_line false b) refl refl
  where
    by : (front back : Option (List ℕ)) → before_line is_first a ≡ front → behind_line false b ≡ back
        → connected is_first is_last (connected is_first false a b) c ≡ connected is_first is_last a (connected false is_last b c)
    by None back e f = apart_first is_first is_last a b c (inl e)
    by (Some s) None e f = apart_first is_first is_last a b c (inr f)
    by (Some s) (Some t) e f = goes_first is_first is_last a b c s t e f (front_of false b t f)
