-- Blank lines at the beginning and at the end of a text.
use Rattle.std.proofs.Common.{◌≡◌, ℕ, Bool, true, false, ◌&&◌, ◌==◌, List, [], ◌∷◌, ◌++◌, drop, Option, None, Some, option_map, reverse, refl, sym, ap, ap₂, ◌∙◌, append_assoc, if◌then◌else◌}
use Rattle.std.proofs.lemmas.Bool.{false≢true, and_parts, eqb-true}
use Rattle.std.proofs.lemmas.List.{reverse-append, reverse-reverse}
use Rattle.syntax_edit.specs.Lines.{is_blank, past_blanks, behind_line, before_line}

-- whether all bytes are blank
abbrev pub are_blank : List ℕ → Bool
are_blank [] = true
are_blank (byte ∷ text) = is_blank byte && are_blank text

and-assoc : (a b c : Bool) → (a && (b && c)) ≡ ((a && b) && c)
and-assoc true b c = refl
and-assoc false b c = refl

pub and-comm : (a b : Bool) → (a && b) ≡ (b && a)
and-comm true true = refl
and-comm true false = refl
and-comm false true = refl
and-comm false false = refl

pub blank_both : (a b : List ℕ) → are_blank (a ++ b) ≡ (are_blank a && are_blank b)
blank_both [] b = refl
blank_both (x ∷ a) b = ap (λ y. is_blank x && y) (blank_both a b) ∙ and-assoc (is_blank x) (are_blank a) (are_blank b)

reverse_cons : (x : ℕ) (t : List ℕ) → reverse (x ∷ t) ≡ reverse t ++ x ∷ []
reverse_cons x t = reverse-append (x ∷ []) t

blank_reverse : (t : List ℕ) → are_blank (reverse t) ≡ are_blank t
blank_reverse [] = refl
blank_reverse (x ∷ t) =
    ap are_blank (reverse_cons x t) ∙ blank_both (reverse t) (x ∷ []) ∙ and-comm (are_blank (reverse t)) (is_blank x && true) ∙ ap₂ (λ a b. a && b) (and-comm (is_blank x) true) (blank_reverse t)

-- a blank byte is no line feed
no_feed : (x : ℕ) → is_blank x ≡ true → (x == 10) ≡ false
no_feed x is = by (x == 10) refl
  where
    by : (b : Bool) → (x == 10) ≡ b → (x == 10) ≡ false
    by false e = e
    by true e = absurd (false≢true (ap is_blank (sym (eqb-true x 10 e)) ∙ is))

-- what a byte says of a text
abbrev past_as : (feed blank : Bool) → (text : List ℕ) → (past : Option (List ℕ)) → Option (List ℕ)
past_as feed blank text past = if feed then Some text else (if blank then past else None)

-- blank bytes before a text are passed
past_blank : (edge : Bool) (t x : List ℕ) → are_blank t ≡ true → past_blanks edge (t ++ x) ≡ past_blanks edge x
past_blank edge [] x is = refl
past_blank edge (y ∷ t) x is =
    let both = and_parts (is_blank y) (are_blank t) is in
    ap₂ (λ f b. past_as f b (y ∷ (t ++ x)) (past_blanks edge (t ++ x))) (no_feed y both.0) both.0 ∙ past_blank edge t x both.1

-- other bytes decide, whatever follows them, and whether they reach an edge or not
past_other : (edge other : Bool) (t x : List ℕ) → are_blank t ≡ false → past_blanks edge (t ++ x) ≡ option_map (λ rest. rest ++ x) (past_blanks other t)
past_other edge other [] x is = absurd (false≢true (sym is))
past_other edge other (y ∷ t) x is = by (y == 10) (is_blank y) (λ blank. past_other edge other t x (sym (ap (λ b. b && are_blank t) blank) ∙ is)) refl
  where
    by : (feed blank : Bool) → (is_blank y ≡ true → past_blanks edge (t ++ x) ≡ option_map (λ rest. rest ++ x) (past_blanks other t)) → is_blank y ≡ blank
        → past_as feed blank (y ∷ (t ++ x)) (past_blanks edge (t ++ x)) ≡ option_map (λ rest. rest ++ x) (past_as feed blank (y ∷ t) (past_blanks other t))
    by true blank more e = refl
    by false true more e = more e
    by false false more e = refl

-- a text that begins with blank bytes and a line feed, or is blank and reaches an edge
pub data Past (t past : List ℕ) : Type 0 where
  feed : (blank rest : List ℕ) → are_blank blank ≡ true → past ≡ 10 ∷ rest → t ≡ blank ++ 10 ∷ rest → Past t past
  edge : are_blank t ≡ true → past ≡ [] → Past t past

past_of : (is_edge : Bool) (t past : List ℕ) → past_blanks is_edge t ≡ Some past → Past t past
past_of true [] past e = edge refl (cc e)
past_of false [] past e = absurd (cc e)
past_of is_edge (y ∷ t) past e = by (y == 10) (is_blank y) (λ h. past_of is_edge t past h) refl refl e
  where
    more : is_blank y ≡ true → Past t past → Past (y ∷ t) past
    more b (feed blank rest is same parts) = feed (y ∷ blank) rest (ap₂ (λ p q. p && q) b is) same (ap (λ u. y ∷ u) parts)
    more b (edge is same) = edge (ap₂ (λ p q. p && q) b is) same

    by : (f b : Bool) → (past_blanks is_edge t ≡ Some past → Past t past) → (y == 10) ≡ f → is_blank y ≡ b → past_as f b (y ∷ t) (past_blanks is_edge t) ≡ Some past → Past (y ∷ t) past
    by true b later f k h =
        let same : y ∷ t ≡ past = cc h in
        let ten : y ∷ t ≡ 10 ∷ t = ap (λ c. c ∷ t) (eqb-true y 10 f) in
        feed [] t refl (sym same ∙ ten) ten
    by false true later f k h = more k (later h)
    by false false later f k h = absurd (cc h)

module _ (is_last : Bool) where
  -- blank bytes before a text change nothing
  pub behind_blank : (t x : List ℕ) → are_blank t ≡ true → behind_line is_last (t ++ x) ≡ behind_line is_last x
  behind_blank t x is = ap (option_map (λ back. drop 1 back)) (past_blank is_last t x is)

  -- a blank line and what follows it
  pub behind_feed : (w r : List ℕ) → are_blank w ≡ true → behind_line is_last (w ++ 10 ∷ r) ≡ Some r
  behind_feed w r is = behind_blank w (10 ∷ r) is

-- a text before a line feed and blank bytes
module _ (is_first : Bool) where
  -- blank bytes behind a text change nothing
  pub before_blank : (x t : List ℕ) → are_blank t ≡ true → before_line is_first (x ++ t) ≡ before_line is_first x
  before_blank x t is = ap (option_map (λ front. reverse front)) (ap (past_blanks is_first) (reverse-append x t) ∙ past_blank is_first (reverse t) (reverse x) (blank_reverse t ∙ is))

  pub before_feed : (s w : List ℕ) → are_blank w ≡ true → before_line is_first (s ++ 10 ∷ w) ≡ Some (s ++ 10 ∷ [])
  before_feed s w is =
      ap (before_line is_first) (sym (append_assoc s (10 ∷ []) w)) ∙ before_blank (s ++ 10 ∷ []) w is
      ∙ ap (option_map (λ front. reverse front)) (ap (past_blanks is_first) (reverse-append s (10 ∷ [])))
      ∙ ap Some (reverse_cons 10 (reverse s) ∙ ap (λ u. u ++ 10 ∷ []) (reverse-reverse s))

-- other bytes decide, whatever precedes them
pub before_other : (is_first other : Bool) (x t : List ℕ) → are_blank t ≡ false → before_line is_first (x ++ t) ≡ option_map (λ front. x ++ front) (before_line other t)
before_other is_first other x t is =
    ap (option_map (λ front. reverse front)) (ap (past_blanks is_first) (reverse-append x t) ∙ past_other is_first other (reverse t) (reverse x) (blank_reverse t ∙ is)) ∙ by (past_blanks other (reverse t))
  where
    by : (o : Option (List ℕ)) → option_map (λ front. reverse front) (option_map (λ rest. rest ++ reverse x) o) ≡ option_map (λ front. x ++ front) (option_map (λ front. reverse front) o)
    by None = refl
    by (Some r) = ap Some (reverse-append r (reverse x) ∙ ap (λ u. u ++ reverse r) (reverse-reverse x))

-- other bytes decide, whatever follows them
pub behind_other : (is_last other : Bool) (t x : List ℕ) → are_blank t ≡ false → behind_line is_last (t ++ x) ≡ option_map (λ rest. rest ++ x) (behind_line other t)
behind_other is_last other t x is = ap (option_map (λ back. drop 1 back)) (past_other is_last other t x is) ∙ by (past_blanks other t) refl
  where
    by : (o : Option (List ℕ)) → past_blanks other t ≡ o → option_map (λ back. drop 1 back) (option_map (λ rest. rest ++ x) o) ≡ option_map (λ rest. rest ++ x) (option_map (λ back. drop 1 back) o)
    by None e = refl
    by (Some past) e = here (past_of other t past e)
      where
        here : Past t past → Some (drop 1 (past ++ x)) ≡ Some (drop 1 past ++ x)
        here (feed blank rest is same parts) = ap (λ u. Some (drop 1 (u ++ x))) same ∙ sym (ap (λ u. Some (drop 1 u ++ x)) same)
        here (edge all same) = absurd (false≢true (sym is ∙ all))

-- what precedes a blank line: all of the text up to its last line feed, or nothing of a blank text
pub data Back (t front : List ℕ) : Type 0 where
  feed : (before blank : List ℕ) → are_blank blank ≡ true → front ≡ before ++ 10 ∷ [] → t ≡ before ++ 10 ∷ blank → Back t front
  edge : are_blank t ≡ true → front ≡ [] → Back t front

pub back_of : (is_first : Bool) (t front : List ℕ) → before_line is_first t ≡ Some front → Back t front
back_of is_first t front e = by (past_blanks is_first (reverse t)) refl e
  where
    told : (past : List ℕ) → reverse past ≡ front → Past (reverse t) past → Back t front
    told past same (feed blank rest is parts all) =
        feed (reverse rest) (reverse blank) (blank_reverse blank ∙ is) (sym same ∙ ap reverse parts ∙ reverse_cons 10 rest)
        (sym (reverse-reverse t) ∙ ap reverse all ∙ reverse-append blank (10 ∷ rest) ∙ ap (λ u. u ++ reverse blank) (reverse_cons 10 rest) ∙ append_assoc (reverse rest) (10 ∷ []) (reverse blank))
    told past same (edge is none) = edge (sym (blank_reverse t) ∙ is) (sym same ∙ ap reverse none)

    by : (o : Option (List ℕ)) → past_blanks is_first (reverse t) ≡ o → option_map (λ it. reverse it) o ≡ Some front → Back t front
    by None f h = absurd (cc h)
    by (Some past) f h = told past (cc h) (past_of is_first (reverse t) past f)

-- what follows a blank line, or nothing of a blank text
pub data Front (t rest : List ℕ) : Type 0 where
  feed : (blank : List ℕ) → are_blank blank ≡ true → t ≡ blank ++ 10 ∷ rest → Front t rest
  edge : are_blank t ≡ true → rest ≡ [] → Front t rest

pub front_of : (is_last : Bool) (t rest : List ℕ) → behind_line is_last t ≡ Some rest → Front t rest
front_of is_last t rest e = by (past_blanks is_last t) refl e
  where
    told : (past : List ℕ) → drop 1 past ≡ rest → Past t past → Front t rest
    told past same (feed blank others is parts all) = feed blank is (all ∙ ap (λ u. blank ++ 10 ∷ u) (sym (ap (λ u. drop 1 u) parts) ∙ same))
    told past same (edge is none) = edge is (sym same ∙ ap (λ u. drop 1 u) none)

    by : (o : Option (List ℕ)) → past_blanks is_last t ≡ o → option_map (λ it. drop 1 it) o ≡ Some rest → Front t rest
    by None f h = absurd (cc h)
    by (Some past) f h = told past (cc h) (past_of is_last t past f)
