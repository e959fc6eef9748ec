-- How the lists of the code represent the state of a rewriting.
use Rattle.std.proofs.Common.{◌≡◌, ℕ, ◌-◌, ◌<◌, Bool, true, false, List, [], ◌∷◌, ◌++◌, length, map, set, get_or, Some, refl, ap, ap₂, sym, ◌∙◌, subst, arith, length-append, append-nil}
use Rattle.std.proofs.Math.Seq.{set-append_seam, get_or-append_seam}
use Rattle.std.proofs.lemmas.List.{map-append}
use Rattle.tt_base.specs.declared.delimiter.Delimiter.{Delimiter}
use Rattle.tt_base.specs.declared.token_tree.TokenTree.{TokenTree}
use Rattle.tt_base.specs.Forest.{Forest, end, node, size, header, flat}
use Rattle.tt_base.specs.Unflat.{length-flat}
use Rattle.tt_base.specs.Moves.{first_token, after_tree}
use Rattle.tt.specs.declared.transform.Frame.{Frame}
use Rattle.tt.specs.Work.{Work, lowest, above, given, rest_of, taken, written, places_of, rests_of, IsTaken, IsListOf, place_of, behind, Stands, ComesToSame, counted}
use Rattle.tt.proofs.Working.{closed_same, comes_too_large, large_above, large_given, large_same, large_taken, one_given, one_taken, places_given, rests_given, rests_with, taken_of_one, written_given, written_rest}

-- Trees are written.
pub stands_given : (fits : Bool) (list now : List TokenTree) (frames : List Frame) (rest : Forest) (work : Work) (trees : Forest) → IsTaken work
    → (fits ≡ true → now ≡ list ++ flat trees) → Stands fits list frames rest work → Stands fits now frames rest (given trees work)
stands_given true list now frames rest work trees one adds is =
    record {
      list = (adds refl ∙ ap (λ l. l ++ flat trees) is.list.0 ∙ sym (written_given work trees), is.list.1 ∙ sym (places_given work trees));
      rests = is.rests ∙ sym (rests_given work trees).0;
      ahead = is.ahead ∙ sym (rests_given work trees).1;
      one = one_given work trees one;
    }
stands_given false list now frames rest work trees one adds is =
    record {
      list = large_given work trees one is.list;
      rests = is.rests ∙ sym (rests_given work trees).0;
      ahead = is.ahead ∙ sym (rests_given work trees).1;
      one = one_given work trees one;
    }

-- A header is written, and its node becomes a level.
pub stands_above : (fits : Bool) (list now : List TokenTree) (frames frames_now : List Frame) (frame : Frame) (rest below : Forest) (work : Work) (d : Delimiter) (n : ℕ) → IsTaken work
    → (fits ≡ true → now ≡ list ++ header d n ∷ []) → frames_now ≡ frames ++ frame ∷ [] → place_of frame ≡ length list → behind frame ≡ rest
    → Stands fits list frames rest work → Stands fits now frames_now below (above work d n end below)
stands_above true list now frames frames_now frame rest below work d n one adds pushed place back is =
    record {
      list = (
        adds refl ∙ ap (λ l. l ++ header d n ∷ []) is.list.0,
        ap (map place_of) pushed ∙ map-append place_of frames (frame ∷ []) ∙ ap₂ (λ l k. l ++ k ∷ []) is.list.1 (place ∙ ap length is.list.0),
      );
      rests = ap (map behind) pushed ∙ map-append behind frames (frame ∷ []) ∙ ap₂ (λ l k. l ++ k ∷ []) is.rests (back ∙ is.ahead);
      ahead = refl;
      one = one;
    }
stands_above false list now frames frames_now frame rest below work d n one adds pushed place back is =
    record {
      list = large_above work d n below one is.list;
      rests = ap (map behind) pushed ∙ map-append behind frames (frame ∷ []) ∙ ap₂ (λ l k. l ++ k ∷ []) is.rests (back ∙ is.ahead);
      ahead = refl;
      one = one;
    }

-- The next tree is taken.
pub stands_taken : (fits : Bool) (list : List TokenTree) (frames : List Frame) (rest left : Forest) (work : Work) (it : TokenTree) → first_token rest ≡ Some it
    → left ≡ after_tree rest → Stands fits list frames rest work → Stands fits list frames left (taken work)
stands_taken true list frames rest left work it first passed is =
    let kept_list = written_rest work (after_tree (rest_of work)) in
    let kept_rests = rests_with work (after_tree (rest_of work)) in
    record {
      list = (is.list.0 ∙ sym kept_list.0, is.list.1 ∙ sym kept_list.1);
      rests = is.rests ∙ sym kept_rests.0;
      ahead = passed ∙ ap after_tree is.ahead ∙ sym kept_rests.1;
      one = taken_of_one (taken work) (one_taken work it (ap first_token (sym is.ahead) ∙ first) is.one);
    }
stands_taken false list frames rest left work it first passed is =
    let kept_rests = rests_with work (after_tree (rest_of work)) in
    record {
      list = large_taken work it (ap first_token (sym is.ahead) ∙ first) is.list;
      rests = is.rests ∙ sym kept_rests.0;
      ahead = passed ∙ ap after_tree is.ahead ∙ sym kept_rests.1;
      one = taken_of_one (taken work) (one_taken work it (ap first_token (sym is.ahead) ∙ first) is.one);
    }

-- ---- closing

-- Equal lists with one more item at the end have equal items.
snoc_alike : {X : Type 0} (xs ys : List X) (x y : X) → xs ++ x ∷ [] ≡ ys ++ y ∷ [] → (xs ≡ ys) × (x ≡ y)
snoc_alike [] [] x y e = (refl, cc)
snoc_alike [] (b ∷ ys) x y e = absurd (omega (arith, ap length e, length-append ys (y ∷ [])))
snoc_alike (a ∷ xs) [] x y e = absurd (omega (arith, ap length e, length-append xs (x ∷ [])))
snoc_alike (a ∷ xs) (b ∷ ys) x y e =
    let rest : xs ++ x ∷ [] ≡ ys ++ y ∷ [] = cc in
    let first : a ≡ b = cc in
    let (same, last) = snoc_alike xs ys x y rest in
    (ap₂ ◌∷◌ first same, last)

-- the innermost node has no trees to read, and has this frame
pub record IsClosing (fits : Bool) (out : List TokenTree) (frames : List Frame) (frame : Frame) (work : Work) : Type 0 where
  pub outer : Work
  pub delimiter : Delimiter
  pub count : ℕ
  pub came : Forest
  pub is : work ≡ above outer delimiter count came end
  pub rests : map behind frames ≡ rests_of outer
  pub back : behind frame ≡ rest_of outer
  pub one : IsTaken outer
  pub list : IsListOf fits out (map place_of (frames ++ frame ∷ [])) (above outer delimiter count came end)

pub closing : (fits : Bool) (out : List TokenTree) (frames : List Frame) (frame : Frame) (work : Work) → Stands fits out (frames ++ frame ∷ []) end work → IsClosing fits out frames frame work
closing fits out frames frame (lowest came rest) is =
    absurd (omega (arith, ap length (sym (map-append behind frames (frame ∷ [])) ∙ is.rests), length-append (map behind frames) (behind frame ∷ [])))
closing fits out frames frame (above outer d n came rest) is =
    let (rests, back) = snoc_alike (map behind frames) (rests_of outer) (behind frame) (rest_of outer) (sym (map-append behind frames (frame ∷ [])) ∙ is.rests) in
    record {
      outer = outer;
      delimiter = d;
      count = n;
      came = came;
      is = ap (above outer d n came) (sym is.ahead);
      rests = rests;
      back = back;
      one = is.one;
      list = subst (λ r. IsListOf fits out (map place_of (frames ++ frame ∷ [])) (above outer d n came r)) (sym is.ahead) is.list;
    }

-- the place of its header
record IsHeaderAt (out : List TokenTree) (frames : List Frame) (frame : Frame) (outer : Work) (d : Delimiter) (n : ℕ) (came : Forest) : Type 0 where
  list : out ≡ written outer ++ header d n ∷ flat came
  places : map place_of frames ≡ places_of outer
  place : place_of frame ≡ length (written outer)
  sized : length out - place_of frame - 1 ≡ size came
  within : place_of frame < length out

header_at : (out : List TokenTree) (frames : List Frame) (frame : Frame) (outer : Work) (d : Delimiter) (n : ℕ) (came : Forest)
    → IsListOf true out (map place_of (frames ++ frame ∷ [])) (above outer d n came end) → IsHeaderAt out frames frame outer d n came
header_at out frames frame outer d n came (list, places) =
    let (fronts, place) = snoc_alike (map place_of frames) (places_of outer) (place_of frame) (length (written outer)) (sym (map-append place_of frames (frame ∷ [])) ∙ places) in
    record {
      list = list;
      places = fronts;
      place = place;
      sized = omega (arith, place, ap length list, length-append (written outer) (header d n ∷ flat came), length-flat came);
      within = omega (arith, place, ap length list, length-append (written outer) (header d n ∷ flat came));
    }

-- The header is one of the written tokens.
pub header_within : (out : List TokenTree) (frames : List Frame) (frame : Frame) (work : Work) → IsClosing true out frames frame work → place_of frame < length out
header_within out frames frame work it = (header_at out frames frame it.outer it.delimiter it.count it.came it.list).within

-- the fields represent work with the same result
abbrev pub Closed : (fits : Bool) (out : List TokenTree) (frames : List Frame) (frame : Frame) (work : Work) → Type 0
Closed fits out frames frame work = (next : Work) × Stands fits out frames (behind frame) next × ComesToSame work next

-- With its new count, the header is that of a written tree.
pub closed_fits : (out now : List TokenTree) (frames : List Frame) (frame : Frame) (work : Work) (n : ℕ) → n ≡ length out - place_of frame - 1
    → ((d : TokenTree) → now ≡ set out (place_of frame) (counted n (get_or out (place_of frame) d))) → IsClosing true out frames frame work → Closed true now frames frame work
closed_fits out now frames frame work n sized patched it =
    let at = header_at out frames frame it.outer it.delimiter it.count it.came it.list in
    let outer = it.outer in
    let x = it.delimiter in
    let came = it.came in
    let d : TokenTree = header x 0 in
    let next = given (node x came end) outer in
    let found : get_or out (place_of frame) d ≡ header x it.count =
    ap₂ (λ l i. get_or l i d) at.list at.place ∙ get_or-append_seam (written outer) (header x it.count) (flat came) d in
    let list : now ≡ written next =
    patched d ∙ ap₂ (λ i t. set out i t) at.place (ap₂ counted (sized ∙ at.sized) found)
    ∙ ap (λ l. set l (length (written outer)) (header x (size came))) at.list
    ∙ set-append_seam (written outer) (header x it.count) (flat came) (header x (size came))
    ∙ ap (λ l. written outer ++ header x (size came) ∷ l) (sym (append-nil (flat came)))
    ∙ sym (written_given outer (node x came end)) in (
      next,
      record {
        list = (list, at.places ∙ sym (places_given outer (node x came end)));
        rests = it.rests ∙ sym (rests_given outer (node x came end)).0;
        ahead = it.back ∙ sym (rests_given outer (node x came end)).1;
        one = one_given outer (node x came end) it.one;
      },
      subst (λ w. ComesToSame w next) (sym it.is) (closed_same outer x it.count came),
    )

-- If it has too many tokens below it, the result is too large.
pub closed_large : (out now : List TokenTree) (frames : List Frame) (frame : Frame) (work : Work) → 4294967295 < length out - place_of frame - 1
    → IsClosing true out frames frame work → Closed false now frames frame work
closed_large out now frames frame work many it =
    let at = header_at out frames frame it.outer it.delimiter it.count it.came it.list in
    let next = given (node it.delimiter it.came end) it.outer in
    let same = closed_same it.outer it.delimiter it.count it.came in (
      next,
      record {
        list = large_same (above it.outer it.delimiter it.count it.came end) next same
            (comes_too_large it.outer it.delimiter it.count it.came it.one (omega (arith, many, at.sized)));
        rests = it.rests ∙ sym (rests_given it.outer (node it.delimiter it.came end)).0;
        ahead = it.back ∙ sym (rests_given it.outer (node it.delimiter it.came end)).1;
        one = one_given it.outer (node it.delimiter it.came end) it.one;
      },
      subst (λ w. ComesToSame w next) (sym it.is) same,
    )

-- If the result is too large already, it stays too large.
pub closed_off : (out now : List TokenTree) (frames : List Frame) (frame : Frame) (work : Work) → IsClosing false out frames frame work → Closed false now frames frame work
closed_off out now frames frame work it =
    let next = given (node it.delimiter it.came end) it.outer in
    let same = closed_same it.outer it.delimiter it.count it.came in (
      next,
      record {
        list = large_same (above it.outer it.delimiter it.count it.came end) next same it.list;
        rests = it.rests ∙ sym (rests_given it.outer (node it.delimiter it.came end)).0;
        ahead = it.back ∙ sym (rests_given it.outer (node it.delimiter it.came end)).1;
        one = one_given it.outer (node it.delimiter it.came end) it.one;
      },
      subst (λ w. ComesToSame w next) (sym it.is) same,
    )
