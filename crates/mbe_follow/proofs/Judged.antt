-- Judged by its pieces from the last to the first, a pattern has its faults.
use Rattle.std.proofs.Common.{◌≡◌, ◌+◌, ℕ, Bool, true, false, List, [], ◌∷◌, ◌++◌, cond, option_to_list, refl, ap, sym, ◌∙◌, append_assoc, append-nil}
use Rattle.std.specs.Prelude.{◌&&◌, ◌||◌}
use Rattle.mbe_pattern.specs.Patterns.{Pattern, nothing, variable, token, subtree, repetition, may_be_none}
use Rattle.mbe_follow.specs.declared.judge.FollowFault.{FollowFault}
use Rattle.mbe_follow.specs.declared.layout.Piece.{Piece}
use Rattle.mbe_follow.specs.declared.layout.Piece.TheVariants as piece
use Rattle.mbe_follow.specs.declared.next.Next.{Next}
use Rattle.mbe_follow.specs.Following.{begins_with_crate, token_next, separator_next, subtree_next, variable_next, after_pattern, after_separator, may_be_passed, firsts, first_refused, fault_with, faults_before, follow_faults_of}
use Rattle.mbe_follow.specs.Judging.{Reach, before, all_before, Judged, judged, required, judged_with, judged_of}
use Rattle.mbe_follow.specs.Pieces.{pieces_of, all_pieces}

and_more : (a b c : Bool) → ((a && b) && c) ≡ (a && (b && c))
and_more true b c = refl
and_more false b c = refl

and_true : (b : Bool) → (b && true) ≡ b
and_true true = refl
and_true false = refl

-- Behind two tests, one in the other.
tests_apart : (p o : Bool) (a b : List Next) → cond p (a ++ cond o b []) [] ≡ cond p a [] ++ cond (p && o) b []
tests_apart true o a b = refl
tests_apart false o a b = refl

tests_joined : (p o : Bool) (b : List Next) → cond p (cond o b []) [] ≡ cond (p && o) b []
tests_joined true o b = refl
tests_joined false o b = refl

-- What comes behind a pattern may come first if the pattern may be passed.
pub firsts_more : (number : ℕ) (pattern : Pattern) (a b : List Next) → firsts number pattern (a ++ b) ≡ firsts number pattern a ++ cond (may_be_passed pattern) b []
firsts_more number nothing a b = refl
firsts_more number (variable it others) a b = refl
firsts_more number (token its others) a b = refl
firsts_more number (subtree kind inner others) a b = refl
firsts_more number (repetition inner separator op others) a b =
    let after = after_pattern (number + 1) inner in
    let next = after_separator after separator in
    let front = firsts (number + 1) inner [] ++ cond (may_be_passed inner) (option_to_list (separator_next after separator)) [] in
    let passed = may_be_none op || may_be_passed inner in
    ap (λ l. front ++ cond passed l []) (firsts_more next others a b)
    ∙ ap (λ l. front ++ l) (tests_apart passed (may_be_passed others) (firsts next others a) b)
    ∙ sym (append_assoc front (cond passed (firsts next others a) []) (cond (passed && may_be_passed others) b []))

-- a level, and all that was judged, before a pattern more
abbrev raised : (number : ℕ) → Pattern → Reach → Reach
raised number pattern level =
    record { firsts = firsts number pattern level.firsts; is_open = may_be_passed pattern && level.is_open; separator = level.separator }

abbrev judged_on : (number : ℕ) → Pattern → Judged → Judged
judged_on number pattern it =
    judged (faults_before number pattern (all_before (it.level ∷ it.outer)) ++ it.faults) (raised number pattern it.level) it.outer

-- What may come next before a pattern more.
before_raised : (number : ℕ) (pattern : Pattern) (level : Reach) (behind : List Next)
    → before (raised number pattern level) behind ≡ firsts number pattern (before level behind)
before_raised number pattern level behind =
    let end = option_to_list level.separator ++ behind in
    ap (λ l. firsts number pattern level.firsts ++ l) (sym (tests_joined (may_be_passed pattern) level.is_open end))
    ∙ sym (firsts_more number pattern level.firsts (cond level.is_open end []))

-- The pieces of a pattern, before others.
pub judged_pieces : (number : ℕ) (pattern : Pattern) (behind : List Piece) → judged_of (pieces_of number pattern behind) ≡ judged_on number pattern (judged_of behind)
judged_pieces number nothing behind = refl
judged_pieces number (variable it others) behind =
    let was = judged_of behind in
    let all = all_before (was.level ∷ was.outer) in
    let more = faults_before (number + 1) others all in
    let level = required (variable_next number it.fragment) was.level in
    let fault : List Next → List FollowFault = λ nexts. fault_with number it.fragment (first_refused it.fragment nexts) in
    ap (judged_with (piece.Variable number it.fragment)) (judged_pieces (number + 1) others behind)
    ∙ ap (λ nexts. judged (fault nexts ++ (more ++ was.faults)) level was.outer) (before_raised (number + 1) others was.level (all_before was.outer))
    ∙ ap (λ faults. judged faults level was.outer) (sym (append_assoc (fault (firsts (number + 1) others all)) more was.faults))
judged_pieces number (token its others) behind =
    ap (judged_with (piece.Token (token_next number its (begins_with_crate others)))) (judged_pieces (number + 1) others behind)
judged_pieces number (subtree kind inner others) behind =
    let was = judged_of behind in
    let after = after_pattern (number + 1) inner in
    let next = subtree_next number kind in
    let held = faults_before (number + 1) inner [] in
    let more = faults_before after others (all_before (was.level ∷ was.outer)) in
    ap (judged_with (piece.Enter next)) (judged_pieces (number + 1) inner (piece.Leave ∷ pieces_of after others behind))
    ∙ ap (λ it. judged_with (piece.Enter next) (judged_on (number + 1) inner (judged_with piece.Leave it))) (judged_pieces after others behind)
    ∙ ap (λ faults. judged faults (required next was.level) was.outer) (sym (append_assoc held more was.faults))
judged_pieces number (repetition inner separator op others) behind =
    let was = judged_of behind in
    let after = after_pattern (number + 1) inner in
    let next = after_separator after separator in
    let close = piece.Close (separator_next after separator) in
    let between = option_to_list (separator_next after separator) in
    let all = all_before (was.level ∷ was.outer) in
    let rest = judged_on next others was in
    let here = may_be_none op || may_be_passed inner in
    let level : Bool → Bool → Reach = λ passed is_open.
    record {
      firsts = firsts (number + 1) inner [] ++ cond passed between [] ++ cond (may_be_none op || passed) (firsts next others was.level.firsts) [];
      is_open = is_open;
      separator = was.level.separator;
    } in
    let made : List Next → Reach → Judged = λ nexts at. judged (faults_before (number + 1) inner (between ++ nexts) ++ rest.faults) at was.outer in
    let now = all_before (rest.level ∷ rest.outer) in
    let open_there = may_be_passed others && was.level.is_open in
    let end = level (may_be_passed inner) ((here && may_be_passed others) && was.level.is_open) in
    ap (judged_with (piece.Begin op)) (judged_pieces (number + 1) inner (close ∷ pieces_of next others behind))
    ∙ ap (λ it. judged_with (piece.Begin op) (judged_on (number + 1) inner (judged_with close it))) (judged_pieces next others behind)
    ∙ ap (λ passed. made now (level passed ((may_be_none op || passed) && open_there))) (and_true (may_be_passed inner))
    ∙ ap (λ is_open. made now (level (may_be_passed inner) is_open)) (sym (and_more here (may_be_passed others) was.level.is_open))
    ∙ ap (λ nexts. made nexts end) (before_raised next others was.level (all_before was.outer))
    ∙ ap (λ faults. judged faults end was.outer)
    (sym (append_assoc (faults_before (number + 1) inner (between ++ firsts next others all)) (faults_before next others all) was.faults))

-- The pieces of a whole pattern.
pub judged_whole : (pattern : Pattern) → (judged_of (all_pieces pattern)).faults ≡ follow_faults_of pattern
judged_whole pattern = ap (λ it. it.faults) (judged_pieces 0 pattern (piece.Leave ∷ [])) ∙ append-nil (follow_faults_of pattern)
