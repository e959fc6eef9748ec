-- The chunks of two texts, one after the other without the blank line in which they meet.
use Rattle.std.proofs.Common.{◌≡◌, ◌⊎◌, inl, inr, ℕ, Bool, false, List, [], ◌∷◌, ◌++◌, Option, None, Some, refl, sym, ap, ap₂, ◌∙◌, subst, append-nil}
use Rattle.std.specs.List.{slice_get}
use Rattle.syntax_edit.proofs.Blanks.{Back, Front, back_of, front_of, feed, edge}
use Rattle.syntax_edit.proofs.Connecting.{joined_tight, no_line, none_behind}
use Rattle.syntax_edit.proofs.LineCuts.{Cut, cut_all, cut_back, cut_front}
use Rattle.syntax_edit.proofs.Seams.{AreSound, Made, match_behind, seam}
use Rattle.syntax_edit.proofs.Touches.{last_of, last_snoc}
use Rattle.syntax_edit.specs.Kept.{ends_in_line}
use Rattle.syntax_edit.specs.Lines.{behind_line, before_line, without_line}
use Rattle.syntax_edit.specs.Texts.{connected, joined as with_seam, wants_space}
use Rattle.syntax_parse.specs.declared.bracket.Bracket.{Bracket}
use Rattle.syntax_unparse.proofs.Chunks.{AreChunks, Chunk, joined, match, means_of, tokens_of}

-- two lists of chunks that match the same open brackets also do so with the same chunks before them
pub match_same : (front xs ys : List Chunk) → ((before : List Bracket) → match before xs ≡ match before ys) → (before : List Bracket) → match before (front ++ xs) ≡ match before (front ++ ys)
match_same [] xs ys same before = same before
match_same (x ∷ front) xs ys same before = match_behind x (front ++ xs) (front ++ ys) (match_same front xs ys same) before

module _ (is_first is_last : Bool) (front back : List Chunk) (are : AreChunks front) (sound : AreSound front) (line : ends_in_line (tokens_of front) ≡ false) (fine : AreChunks back) where
  -- the first without its last line
  shorter : (s : List ℕ) → Back (joined front) s → Cut s front
  shorter s (feed before blank is ends parts) = let (it, begins) = cut_back front before blank are sound line is parts in subst (λ t. Cut t front) (sym ends) it
  shorter s (edge is none) =
      let (means, matches) = cut_all front are is in
      record { new = []; are = tt; sound = tt; text_is = sym none; means = sym means; line = refl; matches = λ before ys. sym (matches before ys) }

  -- the second without its first line
  later : (r : List ℕ) → Front (joined back) r → Made r (means_of back) back
  later r (feed blank is parts) = cut_front back blank r fine is parts
  later r (edge is none) =
      let (means, matches) = cut_all back fine is in
      record { new = []; are = tt; text_is = sym none; means = sym means; matches = λ before. sym (matches before []) ∙ ap (match before) (append-nil back) }

  -- no space is needed then
  tight : (s r : List ℕ) → Back (joined front) s → with_seam s r ≡ s ++ r
  tight s r (feed before blank is ends parts) = joined_tight s r (none_behind (last_of s) (slice_get r 0) 10 (ap last_of ends ∙ last_snoc before 10) refl)
  tight s r (edge is none) = joined_tight s r (ap (λ t. wants_space (last_of t) (slice_get r 0)) none)

  -- both without that line
  abbrev pub Glue : Type 0
  Glue = Made (connected is_first is_last (joined front) (joined back)) (means_of front ++ means_of back) (front ++ back)

  pub glue : Glue
  glue = by (before_line is_first (joined front)) (behind_line is_last (joined back)) refl refl
    where
      plain : (before_line is_first (joined front) ≡ None) ⊎ (behind_line is_last (joined back) ≡ None) → Glue
      plain none =
          subst (λ t. Made t (means_of front ++ means_of back) (front ++ back))
          (sym (no_line (before_line is_first (joined front)) (behind_line is_last (joined back)) (with_seam (joined front) (joined back)) none))
          (seam front back are sound line fine).0

      goes : (s r : List ℕ) → before_line is_first (joined front) ≡ Some s → behind_line is_last (joined back) ≡ Some r → Back (joined front) s → Front (joined back) r → Glue
      goes s r e f ended begun =
          let a = shorter s ended in
          let b = later r begun in
          let it = (seam a.new b.new a.are a.sound a.line b.are).0 in
          record {
            new = it.new;
            are = it.are;
            text_is =
                it.text_is ∙ ap₂ with_seam a.text_is b.text_is ∙ tight s r ended
                ∙ sym (ap₂ (λ o v. without_line o v (with_seam (joined front) (joined back))) e f);
            means = it.means ∙ ap₂ (λ x y. x ++ y) a.means b.means;
            matches = λ before. it.matches before ∙ a.matches before b.new ∙ match_same front b.new back b.matches before;
          }

      by : (o v : Option (List ℕ)) → before_line is_first (joined front) ≡ o → behind_line is_last (joined back) ≡ v → Glue
      by None v e f = plain (inl e)
      by (Some s) None e f = plain (inr f)
      by (Some s) (Some r) e f = goes s r e f (back_of is_first (joined front) s e) (front_of is_last (joined back) r f)
