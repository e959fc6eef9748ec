-- Which limits leaves exceed when they are added, and a tree when it is built.
use Rattle.std.proofs.Common.{◌≡◌, ℕ, ◌<◌, List, [], ◌∷◌, ◌++◌, append_assoc, ap, ◌∙◌, ⊎_elim, sym, subst, arith}
use Rattle.tt_base.specs.Building.{most_held}
use Rattle.tt.specs.FlatHeld.{Held, IsGrowthFault}
use Rattle.tt_base.specs.Forest.{Root}
use Rattle.tt_base.specs.declared.fault.TtFault.{TtFault}
use Rattle.tt_base.specs.declared.fault.TtFault.TheVariants.{Memory, NotOneSubtree, NoSuchPlace, NotALeaf, SuffixTooLong, BadScan, TooManyTokens, TooManySpanParts, TooManySymbols, TooManyBytes, PointsSpent}
use Rattle.tt_base.specs.declared.leaf.Leaf.{Leaf}
use Rattle.tt_base.specs.declared.delimiter.DelimiterKind.{DelimiterKind}
use Rattle.tt_base.specs.declared.span.Span.{Span}
use Rattle.tt_base.specs.declared.span.SpanPart.{SpanPart}
use Rattle.syntax_parse.proofs.Counts.{token_count-append, token_count-held, token_count-spelled, tokens_of-leaf}
use Rattle.syntax_parse.specs.Limits.{HasManyTokens, IsAddFault, IsLimit, token_count}
use Rattle.syntax_parse.specs.Parsed.{IsParse}
use Rattle.syntax_parse.specs.Spelled.{Piece, at_span, opening, piece_of, spelled_so_far}
use Rattle.tt_view.specs.TreeFault.{IsTreeFault}

-- memory may run out, whatever is added
pub memory_fault : (ps : List Piece) (s : Held) (fault : TtFault) → fault ≡ Memory → IsAddFault ps s fault
memory_fault ps s fault is = subst (IsAddFault ps s) (sym is) tt

-- a leaf that does not fit
pub leaf_fault : (it : Leaf) (s : Held) (fault : TtFault) → IsGrowthFault s fault → IsAddFault (piece_of it ∷ []) s fault
leaf_fault it s fault h =
    ⊎_elim (λ m. memory_fault (piece_of it ∷ []) s fault m)
    (λ m.
    let held = token_count-held s.stack in
    let joined = token_count-append (spelled_so_far s.stack) (piece_of it ∷ []) in
    let one = tokens_of-leaf it in
    subst (IsAddFault (piece_of it ∷ []) s) (sym m.0) (omega (arith, m.1, held, joined, one)))
    h

-- an opening that does not fit
pub open_fault : (kind : DelimiterKind) (span : Span) (s : Held) (fault : TtFault) → IsGrowthFault s fault → IsAddFault (at_span (opening kind) span ∷ []) s fault
open_fault kind span s fault h =
    ⊎_elim (λ m. memory_fault (at_span (opening kind) span ∷ []) s fault m)
    (λ m.
    let held = token_count-held s.stack in
    let joined = token_count-append (spelled_so_far s.stack) (at_span (opening kind) span ∷ []) in
    subst (IsAddFault (at_span (opening kind) span ∷ []) s) (sym m.0) (omega (arith, m.1, held, joined)))
    h

-- pieces that do not fit do not fit with more after them
pub more_fault : (ps qs : List Piece) (s : Held) (fault : TtFault) → IsAddFault ps s fault → IsAddFault (ps ++ qs) s fault
more_fault ps qs s TooManyTokens h =
    let before = token_count-append (spelled_so_far s.stack) ps in
    let all = token_count-append (spelled_so_far s.stack) (ps ++ qs) in
    let both = token_count-append ps qs in omega (arith, h, before, all, both)
more_fault ps qs s Memory h = tt
more_fault ps qs s SuffixTooLong h = absurd h
more_fault ps qs s BadScan h = absurd h
more_fault ps qs s NotOneSubtree h = absurd h
more_fault ps qs s NoSuchPlace h = absurd h
more_fault ps qs s NotALeaf h = absurd h
more_fault ps qs s TooManySpanParts h = absurd h
more_fault ps qs s TooManySymbols h = absurd h
more_fault ps qs s TooManyBytes h = absurd h
more_fault ps qs s PointsSpent h = absurd h

-- pieces that do not fit after others do not fit together with them
pub behind_fault : (ps qs : List Piece) (s t : Held) (fault : TtFault) → spelled_so_far t.stack ≡ spelled_so_far s.stack ++ ps → IsAddFault qs t fault → IsAddFault (ps ++ qs) s fault
behind_fault ps qs s t TooManyTokens holds h =
    let e : spelled_so_far t.stack ++ qs ≡ spelled_so_far s.stack ++ (ps ++ qs) = ap (λ xs. xs ++ qs) holds ∙ append_assoc (spelled_so_far s.stack) ps qs in
    subst (λ xs. most_held < token_count xs) e h
behind_fault ps qs s t Memory holds h = tt
behind_fault ps qs s t SuffixTooLong holds h = absurd h
behind_fault ps qs s t BadScan holds h = absurd h
behind_fault ps qs s t NotOneSubtree holds h = absurd h
behind_fault ps qs s t NoSuchPlace holds h = absurd h
behind_fault ps qs s t NotALeaf holds h = absurd h
behind_fault ps qs s t TooManySpanParts holds h = absurd h
behind_fault ps qs s t TooManySymbols holds h = absurd h
behind_fault ps qs s t TooManyBytes holds h = absurd h
behind_fault ps qs s t PointsSpent holds h = absurd h

-- a text with these tokens, among them those that did not fit, has too many
pub limit_of_leaves : (part : SpanPart) (text : List ℕ) (ps : List Piece) (s : Held) (fault : TtFault)
    → (most_held < token_count (spelled_so_far s.stack ++ ps) → HasManyTokens part text) → IsAddFault ps s fault → IsLimit part text fault
limit_of_leaves part text ps s TooManyTokens many h = many h
limit_of_leaves part text ps s Memory many h = tt
limit_of_leaves part text ps s SuffixTooLong many h = absurd h
limit_of_leaves part text ps s BadScan many h = absurd h
limit_of_leaves part text ps s NotOneSubtree many h = absurd h
limit_of_leaves part text ps s NoSuchPlace many h = absurd h
limit_of_leaves part text ps s NotALeaf many h = absurd h
limit_of_leaves part text ps s TooManySpanParts many h = absurd h
limit_of_leaves part text ps s TooManySymbols many h = absurd h
limit_of_leaves part text ps s TooManyBytes many h = absurd h
limit_of_leaves part text ps s PointsSpent many h = absurd h

-- memory runs out
pub limit_of_memory : (part : SpanPart) (text : List ℕ) (fault : TtFault) → fault ≡ Memory → IsLimit part text fault
limit_of_memory part text fault is = subst (IsLimit part text) (sym is) tt

pub limit_of_tree : (part : SpanPart) (text : List ℕ) (root : Root) (fault : TtFault) → IsParse part text root → IsTreeFault root fault → IsLimit part text fault
limit_of_tree part text root TooManyTokens parse h =
    let count = token_count-spelled root.children in
    let spells = ap token_count parse.spells in
    record { tokens = parse.tokens; read = parse.read; many = omega (arith, h, count, spells) }
limit_of_tree part text root Memory parse h = tt
limit_of_tree part text root SuffixTooLong parse h = absurd h
limit_of_tree part text root BadScan parse h = absurd h
limit_of_tree part text root NotOneSubtree parse h = absurd h
limit_of_tree part text root NoSuchPlace parse h = absurd h
limit_of_tree part text root NotALeaf parse h = absurd h
limit_of_tree part text root TooManySpanParts parse h = (root, parse, h)
limit_of_tree part text root TooManySymbols parse h = (root, parse, h)
limit_of_tree part text root TooManyBytes parse h = (root, parse, h)
limit_of_tree part text root PointsSpent parse h = absurd h
