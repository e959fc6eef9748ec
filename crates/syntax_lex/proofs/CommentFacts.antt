-- A closed comment has as many opening marks as closing marks.
use Rattle.std.proofs.Common.{◌≡◌, ℕ, zero, suc, ◌+◌, ◌-◌, ◌<◌, ◌≤◌, Bool, true, false, ◌==◌, cond, List, [], ◌∷◌, ◌++◌, length, refl, sym, ap, subst, ◌∙◌, ⊎_elim, arith}
use Rattle.std.proofs.lemmas.Bool.{false≢true, cases_Bool, cases_eq, eq-eqb, ne_eqb}
use Rattle.syntax_lex.specs.Closing.{behind_comment, closes_comment, opens_comment}
use Rattle.syntax_lex.specs.Front.{first, skip}
use Rattle.syntax_lex.specs.Grammar.{IsCommentText, closed, opened}

-- the marks of a text after its first mark, or after its first character
marks_opens : (c e : ℕ) (cs : List ℕ) → opens_comment c e ≡ true → (opened (c ∷ e ∷ cs) ≡ suc (opened cs)) × (closed (c ∷ e ∷ cs) ≡ closed cs)
marks_opens c e cs o = (rw o refl, rw o refl)

marks_closes : (c e : ℕ) (cs : List ℕ) → opens_comment c e ≡ false → closes_comment c e ≡ true → (opened (c ∷ e ∷ cs) ≡ opened cs) × (closed (c ∷ e ∷ cs) ≡ suc (closed cs))
marks_closes c e cs o k = (rw (o, k) refl, rw (o, k) refl)

marks_other : (c e : ℕ) (cs : List ℕ) → opens_comment c e ≡ false → closes_comment c e ≡ false → (opened (c ∷ e ∷ cs) ≡ opened (e ∷ cs)) × (closed (c ∷ e ∷ cs) ≡ closed (e ∷ cs))
marks_other c e cs o k = (rw (o, k) refl, rw (o, k) refl)

-- the two characters in front of equal texts
same_two : {c e x y : ℕ} {cs ds : List ℕ} (f : ℕ → ℕ → Bool) → c ∷ e ∷ cs ≡ x ∷ y ∷ ds → f x y ≡ f c e
same_two f is = ap (λ t. f (first t) (first (skip t))) (sym is)

positive : (n : ℕ) → (n ≡ 0 → ⊥) → 0 < n
positive zero some = absurd (some refl)
positive (suc n) some = omega arith

-- if a joined text is empty, its second part is empty
nil_right : (xs ys : List ℕ) → xs ++ ys ≡ [] → ys ≡ []
nil_right [] ys is = is
nil_right (x ∷ xs) ys is = absurd (omega (arith, ap length is))

-- a text with one more opening mark
text_opens : (n c e : ℕ) (body : List ℕ) → opens_comment c e ≡ true → IsCommentText (n + 1) body → IsCommentText n (c ∷ e ∷ body)
text_opens n c e body o text = record { closes = omega (arith, marks_opens c e body o, text.closes); before = go }
  where
    go : (front behind : List ℕ) → c ∷ e ∷ body ≡ front ++ behind → (behind ≡ [] → ⊥) → closed front ≤ opened front + n
    go [] behind is some = omega arith
    go (x ∷ []) behind is some = omega arith
    go (x ∷ y ∷ front) behind is some = omega (arith, text.before front behind (ap (λ t. skip (skip t)) is) some, marks_opens x y front (same_two opens_comment is ∙ o))

-- a text with one more mark that closes another comment
text_closes : (n c e : ℕ) (body : List ℕ) → opens_comment c e ≡ false → closes_comment c e ≡ true → (n ≡ 0 → ⊥) → IsCommentText (n - 1) body → IsCommentText n (c ∷ e ∷ body)
text_closes n c e body o k some_open text = record { closes = omega (arith, marks_closes c e body o k, text.closes, positive n some_open); before = go }
  where
    go : (front behind : List ℕ) → c ∷ e ∷ body ≡ front ++ behind → (behind ≡ [] → ⊥) → closed front ≤ opened front + n
    go [] behind is some = omega arith
    go (x ∷ []) behind is some = omega arith
    go (x ∷ y ∷ front) behind is some = omega (arith, text.before front behind (ap (λ t. skip (skip t)) is) some, marks_closes x y front (same_two opens_comment is ∙ o) (same_two closes_comment is ∙ k), positive n some_open)

-- the mark that closes the comment
text_ends : (c e : ℕ) → opens_comment c e ≡ false → closes_comment c e ≡ true → IsCommentText 0 (c ∷ e ∷ [])
text_ends c e o k = record { closes = omega (arith, marks_closes c e [] o k); before = go }
  where
    go : (front behind : List ℕ) → c ∷ e ∷ [] ≡ front ++ behind → (behind ≡ [] → ⊥) → closed front ≤ opened front + 0
    go [] behind is some = omega arith
    go (x ∷ []) behind is some = omega arith
    go (x ∷ y ∷ front) behind is some = absurd (some (nil_right front behind (sym (ap (λ t. skip (skip t)) is))))

-- a text with one more character that begins no mark
text_other : (n c e : ℕ) (body : List ℕ) → opens_comment c e ≡ false → closes_comment c e ≡ false → IsCommentText n (e ∷ body) → IsCommentText n (c ∷ e ∷ body)
text_other n c e body o k text = record { closes = omega (arith, marks_other c e body o k, text.closes); before = go }
  where
    go : (front behind : List ℕ) → c ∷ e ∷ body ≡ front ++ behind → (behind ≡ [] → ⊥) → closed front ≤ opened front + n
    go [] behind is some = omega arith
    go (x ∷ []) behind is some = omega arith
    go (x ∷ y ∷ front) behind is some = omega (arith, text.before (y ∷ front) behind (ap skip is) some, marks_other x y front (same_two opens_comment is ∙ o) (same_two closes_comment is ∙ k))

abbrev Form : (inner : ℕ) → (cs rest : List ℕ) → Type 0
Form inner cs rest = (body : List ℕ) × IsCommentText inner body × (cs ≡ body ++ rest)

-- the same, if the inside may begin with another character
form_other : (n c e : ℕ) (cs rest : List ℕ) → opens_comment c e ≡ false → closes_comment c e ≡ false → Form n (e ∷ cs) rest → Form n (c ∷ e ∷ cs) rest
form_other n c e cs rest o k ([], text, is) = absurd (omega (arith, text.closes))
form_other n c e cs rest o k (x ∷ body, text, is) =
    let same : e ≡ x = ap first is in
    (c ∷ x ∷ body, text_other n c x body (ap (λ t. opens_comment c t) (sym same) ∙ o) (ap (λ t. closes_comment c t) (sym same) ∙ k) text, ap (λ t. c ∷ t) is)

pub comment_form : (inner : ℕ) (cs rest : List ℕ) → behind_comment inner cs ≡ (true, rest) → Form inner cs rest
comment_form n [] rest h = absurd (false≢true (ap (λ p. p.0) h))
comment_form n (c ∷ []) rest h = absurd (false≢true (ap (λ p. p.0) h))
comment_form n (c ∷ e ∷ cs) rest h =
    let closing = cond (n == 0) (true, cs) (behind_comment (n - 1) cs) in
    let unopened = cond (closes_comment c e) closing (behind_comment n (e ∷ cs)) in
    ⊎_elim
    (λ o.
    let f = comment_form (n + 1) cs rest (ap (λ b. cond b (behind_comment (n + 1) cs) unopened) (sym o) ∙ h) in
    (c ∷ e ∷ f.0, text_opens n c e f.0 o f.1, ap (λ t. c ∷ e ∷ t) f.2))
    (λ o.
    let h1 : unopened ≡ (true, rest) = ap (λ b. cond b (behind_comment (n + 1) cs) unopened) (sym o) ∙ h in
    ⊎_elim
    (λ k.
    let h2 : closing ≡ (true, rest) = ap (λ b. cond b closing (behind_comment n (e ∷ cs))) (sym k) ∙ h1 in
    ⊎_elim
    (λ z.
    let h3 : (true, cs) ≡ (true, rest) = ap (λ b. cond b (true, cs) (behind_comment (n - 1) cs)) (sym (eq-eqb n 0 z)) ∙ h2 in
    (c ∷ e ∷ [], subst (λ m. IsCommentText m (c ∷ e ∷ [])) (sym z) (text_ends c e o k), ap (λ t. c ∷ e ∷ t) (ap (λ p. p.1) h3)))
    (λ nz.
    let f = comment_form (n - 1) cs rest (ap (λ b. cond b (true, cs) (behind_comment (n - 1) cs)) (sym (ne_eqb n 0 nz)) ∙ h2) in
    (c ∷ e ∷ f.0, text_closes n c e f.0 o k nz f.1, ap (λ t. c ∷ e ∷ t) f.2))
    (cases_eq n 0))
    (λ k. form_other n c e cs rest o k (comment_form n (e ∷ cs) rest (ap (λ b. cond b closing (behind_comment n (e ∷ cs))) (sym k) ∙ h1)))
    (cases_Bool (closes_comment c e)))
    (cases_Bool (opens_comment c e))

pub comment_closed : (cs rest : List ℕ) → behind_comment 0 cs ≡ (true, rest) → Form 0 cs rest
comment_closed cs rest h = comment_form 0 cs rest h

-- the inside after a mark that opens one more comment
inside_opened : (n c e : ℕ) (body : List ℕ) → opens_comment c e ≡ true → IsCommentText n (c ∷ e ∷ body) → IsCommentText (n + 1) body
inside_opened n c e body o text = record {
  closes = omega (arith, marks_opens c e body o, text.closes);
  before = λ front behind is some. omega (arith, marks_opens c e front o, text.before (c ∷ e ∷ front) behind (ap (λ t. c ∷ e ∷ t) is) some);
}

-- the inside after a mark that closes an inner comment
inside_closed : (n c e : ℕ) (body : List ℕ) → opens_comment c e ≡ false → closes_comment c e ≡ true → (n ≡ 0 → ⊥) → IsCommentText n (c ∷ e ∷ body) → IsCommentText (n - 1) body
inside_closed n c e body o k some_open text = record {
  closes = omega (arith, marks_closes c e body o k, text.closes, positive n some_open);
  before =
      λ front behind is some. omega (arith, marks_closes c e front o k, positive n some_open, text.before (c ∷ e ∷ front) behind (ap (λ t. c ∷ e ∷ t) is) some);
}

-- the inside after a character that begins no mark
inside_other : (n c e : ℕ) (body : List ℕ) → opens_comment c e ≡ false → closes_comment c e ≡ false → IsCommentText n (c ∷ e ∷ body) → IsCommentText n (e ∷ body)
inside_other n c e body o k text = record { closes = omega (arith, marks_other c e body o k, text.closes); before = go }
  where
    go : (front behind : List ℕ) → e ∷ body ≡ front ++ behind → (behind ≡ [] → ⊥) → closed front ≤ opened front + n
    go [] behind is some = omega arith
    go (x ∷ front) behind is some =
        let same : e ≡ x = ap first is in
        omega (
          arith,
          marks_other c x front (ap (λ t. opens_comment c t) (sym same) ∙ o) (ap (λ t. closes_comment c t) (sym same) ∙ k),
          text.before (c ∷ x ∷ front) behind (ap (λ t. c ∷ t) is) some,
        )

-- the mark that closes the comment is the last one
nothing_behind : (c e : ℕ) (body : List ℕ) → opens_comment c e ≡ false → closes_comment c e ≡ true → IsCommentText 0 (c ∷ e ∷ body) → body ≡ []
nothing_behind c e [] o k text = refl
nothing_behind c e (d ∷ body) o k text =
    absurd (omega (arith, marks_closes c e [] o k, text.before (c ∷ e ∷ []) (d ∷ body) refl (λ none. omega (arith, ap length none))))

pub comment_inside : (n : ℕ) (body rest : List ℕ) → IsCommentText n body → behind_comment n (body ++ rest) ≡ (true, rest)
comment_inside n [] rest text = absurd (omega (arith, text.closes))
comment_inside n (c ∷ []) rest text = absurd (omega (arith, text.closes))
comment_inside n (c ∷ e ∷ body) rest text =
    let opening = behind_comment (n + 1) (body ++ rest) in
    let closing = cond (n == 0) (true, body ++ rest) (behind_comment (n - 1) (body ++ rest)) in
    let other = behind_comment n (e ∷ (body ++ rest)) in
    ⊎_elim (λ o. ap (λ b. cond b opening (cond (closes_comment c e) closing other)) o ∙ comment_inside (n + 1) body rest (inside_opened n c e body o text))
    (λ o.
    let unopened = ap (λ b. cond b opening (cond (closes_comment c e) closing other)) o in
    ⊎_elim
    (λ k.
    let closes = unopened ∙ ap (λ b. cond b closing other) k in
    ⊎_elim
    (λ z.
    let ended : body ≡ [] = nothing_behind c e body o k (subst (λ m. IsCommentText m (c ∷ e ∷ body)) z text) in
    closes ∙ ap (λ b. cond b (true, body ++ rest) (behind_comment (n - 1) (body ++ rest))) (eq-eqb n 0 z) ∙ ap (λ t. (true, t ++ rest)) ended)
    (λ nz.
    closes ∙ ap (λ b. cond b (true, body ++ rest) (behind_comment (n - 1) (body ++ rest))) (ne_eqb n 0 nz)
    ∙ comment_inside (n - 1) body rest (inside_closed n c e body o k nz text))
    (cases_eq n 0))
    (λ k. unopened ∙ ap (λ b. cond b closing other) k ∙ comment_inside n (e ∷ body) rest (inside_other n c e body o k text))
    (cases_Bool (closes_comment c e)))
    (cases_Bool (opens_comment c e))

pub comment_read : (body rest : List ℕ) → IsCommentText 0 body → behind_comment 0 (body ++ rest) ≡ (true, rest)
comment_read body rest text = comment_inside 0 body rest text
