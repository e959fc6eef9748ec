-- Replacements that follow one another in a text fit into it.
use Rattle.std.proofs.Common.{◌≡◌, ◌≤◌, ◌-◌, ◌++◌, ℕ, List, [], ◌∷◌, drop, get_or, sym, ap, subst, ◌∙◌, arith}
use Rattle.std.proofs.lemmas.List.{drop-drop, get_or-drop, length-drop}
use Rattle.std.specs.Str.{IsCharBoundary}
use Rattle.syntax_edit.specs.Laid.{Lies}
use Rattle.syntax_edit.specs.Texts.{Replacement, Writing, replaced, FitAll}
use Rattle.syntax_edit.proofs.LaidFacts.{lies_from}

-- replacements follow one another in a text, from a byte to another
pub data Follow (text : List ℕ) : (from : ℕ) → List Replacement → (to : ℕ) → Type 0 where
  none : {from to : ℕ} → from ≤ to → Follow text from [] to
  next : {from to : ℕ} {it : Replacement} {others : List Replacement} → Lies text from it.start it.end → Follow text it.end others to → Follow text from (it ∷ others) to

module _ {text : List ℕ} where
  pub follow_from : {from place to : ℕ} {its : List Replacement} → from ≤ place → Follow text place its to → Follow text from its to
  follow_from before (none order) = none (omega (arith, before, order))
  follow_from before (next lies others) = next (lies_from before lies) others

  pub follow_both : {from middle place to : ℕ} {its others : List Replacement} → Follow text from its middle → middle ≤ place → Follow text place others to
      → Follow text from (its ++ others) to
  follow_both (none order) between behind = follow_from (omega (arith, order, between)) behind
  follow_both (next lies more) between behind = next lies (follow_both more between behind)

-- A place in a text that is in its rest is a place of the rest.
boundary_left : (text : List ℕ) (at place : ℕ) → at ≤ place → IsCharBoundary text place → IsCharBoundary (drop at text) (place - at)
boundary_left text at place before (within, begins) =
    let same : get_or (drop at text) (place - at) 0 ≡ get_or text place 0 =
    get_or-drop at text (place - at) 0 ∙ ap (λ n. get_or text n 0) (omega (arith, before)) in (
      omega (arith, within, before, length-drop at text),
      λ lt wide. omega (arith, same, begins (omega (arith, lt, before, length-drop at text)) (omega (arith, same, wide))),
    )

-- Replacements that follow one another in the rest of a text fit into it.
pub follow_fit : {text : List ℕ} {from to : ℕ} {its : List Replacement} (writing : Writing) → writing.rest ≡ drop writing.at text → writing.at ≤ from
    → Follow text from its to → FitAll its writing
follow_fit writing left before (none order) = tt
follow_fit {text} writing left before (next {it = it} lies others) =
    let start : writing.at ≤ it.start = omega (arith, before, lies.after) in
    let stop : writing.at ≤ it.end = omega (arith, start, lies.range.order) in
    let inside : (place : ℕ) → writing.at ≤ place → IsCharBoundary text place → IsCharBoundary writing.rest (place - writing.at) = λ place behind boundary.
    subst (λ t. IsCharBoundary t (place - writing.at)) (sym left) (boundary_left text writing.at place behind boundary) in
    let rest : drop (it.end - writing.at) writing.rest ≡ drop it.end text =
    ap (drop (it.end - writing.at)) left ∙ drop-drop (it.end - writing.at) writing.at text ∙ ap (λ n. drop n text) (omega (arith, stop)) in (
      record {
        left_start = start;
        left_end = stop;
        range = record {
          order = omega (arith, lies.range.order, start);
          begins = inside it.start start lies.range.begins;
          ends = inside it.end stop lies.range.ends;
        };
      },
      follow_fit (replaced it writing) rest (omega arith) others,
    )
