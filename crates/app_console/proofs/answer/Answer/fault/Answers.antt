use Rattle.std.proofs.Common.{◌≡◌, ◌++◌, ◌∷◌, [], ap, ◌∙◌, lit<, lit≤, codes}
use Rattle.std.specs.Fmt.{decimal}
use Rattle.std.proofs.lemmas.Fmt.{decimal_digit, decimal_step}
use Rattle.app_console.proofs.answer.Answer.fault.Goals as goal
use Rattle.app_console.proofs.answer.Answer.fault.Goals.{in-Memory, in-NotOneSubtree, in-NoSuchPlace, in-NotALeaf, in-SuffixTooLong, in-BadScan, in-TooManyTokens, in-TooManySpanParts, in-TooManySymbols, in-TooManyBytes, in-PointsSpent}

ten : decimal 10 ≡ codes "10"
ten = decimal_step 10 (lit≤ tt) (lit< tt) ∙ ap (λ d. d ++ 48 ∷ []) (decimal_digit 1 (lit< tt))

eleven : decimal 11 ≡ codes "11"
eleven = decimal_step 11 (lit≤ tt) (lit< tt) ∙ ap (λ d. d ++ 49 ∷ []) (decimal_digit 1 (lit< tt))

pub returns : goal.returns
returns c =
    elim c.match-fault.branch [
      | in-Memory w ↦ rw (c.fixed.ensures, w.fixed-is, w.in-Memory.is, decimal_digit 1 (lit< tt))
      | in-NotOneSubtree w ↦ rw (c.fixed.ensures, w.fixed-is, w.in-NotOneSubtree.is, decimal_digit 2 (lit< tt))
      | in-NoSuchPlace w ↦ rw (c.fixed.ensures, w.fixed-is, w.in-NoSuchPlace.is, decimal_digit 3 (lit< tt))
      | in-NotALeaf w ↦ rw (c.fixed.ensures, w.fixed-is, w.in-NotALeaf.is, decimal_digit 4 (lit< tt))
      | in-SuffixTooLong w ↦ rw (c.fixed.ensures, w.fixed-is, w.in-SuffixTooLong.is, decimal_digit 5 (lit< tt))
      | in-BadScan w ↦ rw (c.fixed.ensures, w.fixed-is, w.in-BadScan.is, decimal_digit 6 (lit< tt))
      | in-TooManyTokens w ↦ rw (c.fixed.ensures, w.fixed-is, w.in-TooManyTokens.is, decimal_digit 7 (lit< tt))
      | in-TooManySpanParts w ↦ rw (c.fixed.ensures, w.fixed-is, w.in-TooManySpanParts.is, decimal_digit 8 (lit< tt))
      | in-TooManySymbols w ↦ rw (c.fixed.ensures, w.fixed-is, w.in-TooManySymbols.is, decimal_digit 9 (lit< tt))
      | in-TooManyBytes w ↦ rw (c.fixed.ensures, w.fixed-is, w.in-TooManyBytes.is, ten)
      | in-PointsSpent w ↦ rw (c.fixed.ensures, w.fixed-is, w.in-PointsSpent.is, eleven)
    ]
