-- The places of the open headers have the kinds of the open subtrees.
use Rattle.std.proofs.Common.{◌≡◌, ℕ, zero, suc, ◌<◌, ◌≤◌, List, [], ◌∷◌, ◌++◌, length, get_or, map, Option, refl, ap, ap₂, sym, ◌∙◌, arith, append_assoc, append-nil}
use Rattle.std.specs.Prelude.{reverse}
use Rattle.std.proofs.lemmas.List.{map-append, reverse-append}
use Rattle.tt_base.specs.declared.delimiter.Delimiter.{Delimiter}
use Rattle.tt_base.specs.declared.delimiter.DelimiterKind.TheVariants.{Invisible}
use Rattle.tt_base.specs.declared.token_tree.TokenTree.{TokenTree}
use Rattle.tt_base.specs.Building.{Stack, lowest, above, open_kinds, tokens_held, BuilderState}
use Rattle.tt_base.specs.Forest.{flat}
use Rattle.tt.specs.declared.builder.standing.Standing.{Standing}
use Rattle.tt.specs.BuilderFields.{written, places, open_header, kind_of, kind_at, kinds_at, IsStateOf}
use Rattle.tt.specs.OneState.{length-written}

-- The kind at a place of the list.
pub kind_there : (tokens : List TokenTree) (place : ℕ) (d : TokenTree) → place < length tokens → kind_at tokens place ≡ kind_of (get_or tokens place d)
kind_there [] place d within = absurd (omega (arith, within))
kind_there (it ∷ tokens) zero d within = refl
kind_there (it ∷ tokens) (suc place) d within = kind_there tokens place d (omega (arith, within))

-- A place after the list has no kind.
pub no_kind : (tokens : List TokenTree) (place : ℕ) → length tokens ≤ place → kind_at tokens place ≡ Invisible
no_kind [] place past = refl
no_kind (it ∷ tokens) zero past = absurd (omega (arith, past))
no_kind (it ∷ tokens) (suc place) past = no_kind tokens place (omega (arith, past))

-- The kind at the last place comes first.
pub kinds_last : (tokens : List TokenTree) (outer : List ℕ) (place : ℕ) → kinds_at tokens (outer ++ place ∷ []) ≡ kind_at tokens place ∷ kinds_at tokens outer
kinds_last tokens outer place =
    ap reverse (map-append (kind_at tokens) outer (place ∷ [])) ∙ reverse-append (map (kind_at tokens) outer) (kind_at tokens place ∷ [])

-- The kind of an open header after a list.
kind_behind : (before : List TokenTree) (h : TokenTree) (after : List TokenTree) (place : ℕ) → place ≡ length before → kind_at (before ++ h ∷ after) place ≡ kind_of h
kind_behind [] h after zero here = refl
kind_behind [] h after (suc place) here = absurd (omega (arith, here))
kind_behind (b ∷ before) h after zero here = absurd (omega (arith, here))
kind_behind (b ∷ before) h after (suc place) here = kind_behind before h after place (omega (arith, here))

-- The headers of the list have the kinds of the open subtrees, whatever follows.
kinds_written : (top : Delimiter) (stack : Stack) (more : List TokenTree) → kinds_at (written top stack ++ more) (places stack) ≡ open_kinds stack
kinds_written top (lowest trees) more = refl
kinds_written top (above outer kind open_span trees) more =
    let all : written top (above outer kind open_span trees) ++ more ≡ written top outer ++ open_header kind open_span ∷ (flat trees ++ more) =
    append_assoc (written top outer) (open_header kind open_span ∷ flat trees) more in
    ap (λ l. kinds_at l (places outer ++ suc (tokens_held outer) ∷ [])) all
    ∙ kinds_last (written top outer ++ open_header kind open_span ∷ (flat trees ++ more)) (places outer) (suc (tokens_held outer))
    ∙ ap₂ ◌∷◌ (kind_behind (written top outer) (open_header kind open_span) (flat trees ++ more) (suc (tokens_held outer)) (sym (length-written top outer)))
    (kinds_written top outer (open_header kind open_span ∷ (flat trees ++ more)))

-- The fields show these kinds.
pub kinds_open : (tokens : List TokenTree) (headers : List ℕ) (mark : Option ℕ) (points : List Standing) (taken : ℕ) (s : BuilderState)
    → IsStateOf tokens headers mark points taken s → kinds_at tokens headers ≡ open_kinds s.stack
kinds_open tokens headers mark points taken s is =
    ap₂ kinds_at (is.list ∙ sym (append-nil (written s.top s.stack))) is.open_places ∙ kinds_written s.top s.stack []
