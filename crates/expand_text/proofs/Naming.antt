-- How a message names one part more.
use Rattle.std.proofs.Common.{◌≡◌, ◌++◌, ◌||◌, ◌==◌, ◌+◌, ◌<◌, ◌∙◌, ℕ, Bool, true, false, List, [], ◌∷◌, Option, None, Some, length, map, codes, inr, refl, ap, sym, subst, arith, append-nil, cond, if◌then◌else◌}
use Rattle.std.proofs.lemmas.Bool.{lt-ltb}
use Rattle.std.proofs.lemmas.List.Elements.{filter-append, filter_map-append}
use Rattle.std.specs.List.{filter, filter_map, list_any}
use Rattle.std.specs.Prelude.{bytes_eq, nat_lt, not}
use Rattle.expand_text.specs.Expecting.{added, different, name_of, part_added, part_text, parts_named, three_of}
use Rattle.expand_text.proofs.Alternatives.{not_added}
use Rattle.mbe_matcher.specs.Labels.{Label}
use Rattle.mbe_rules.specs.declared.macro_rules.ArmPart.{ArmPart}
use Rattle.mbe_rules.specs.Arms.{Arm}
use Rattle.mbe_rules.specs.Waiting.{part_in}
use Rattle.tt_tables.proofs.TokenTables.{text_sound}

-- one of the texts is that one
abbrev has : (text : List ℕ) → List (List ℕ) → Bool
has text texts = list_any (λ other. bytes_eq other text) texts

-- the texts other than one
abbrev without : (text : List ℕ) → List (List ℕ) → List (List ℕ)
without text texts = filter (λ other. not (bytes_eq text other)) texts

-- Texts without one that is another text have that one as before.
has_without : (text other : List ℕ) (texts : List (List ℕ)) → bytes_eq text other ≡ false → has other (without text texts) ≡ has other texts
has_without text other [] differs = refl
has_without text other (it ∷ texts) differs = by (has_without text other texts differs) (bytes_eq text it) refl
  where
    by : has other (without text texts) ≡ has other texts → (same : Bool) → bytes_eq text it ≡ same
        → has other (without text (it ∷ texts)) ≡ has other (it ∷ texts)
    by behind true is =
        let not_it : bytes_eq it other ≡ false = subst (λ t. bytes_eq t other ≡ false) (text_sound text it is) differs in
        ap (λ b. has other (cond (not b) (it ∷ without text texts) (without text texts))) is ∙ behind ∙ ap (λ b. b || has other texts) (sym not_it)
    by behind false is =
        ap (λ b. has other (cond (not b) (it ∷ without text texts) (without text texts))) is ∙ ap (λ b. bytes_eq it other || b) behind

-- Each text is one of the different ones.
has_different : (other : List ℕ) (texts : List (List ℕ)) → has other (different texts) ≡ has other texts
has_different other [] = refl
has_different other (text ∷ texts) = by (has_different other texts) (bytes_eq text other) refl
  where
    by : has other (different texts) ≡ has other texts → (same : Bool) → bytes_eq text other ≡ same
        → has other (different (text ∷ texts)) ≡ has other (text ∷ texts)
    by behind true is = ap (λ b. b || has other (without text (different texts))) is ∙ sym (ap (λ b. b || has other texts) is)
    by behind false is = ap (λ b. bytes_eq text other || b) (has_without text other (different texts) is ∙ behind)

-- a text behind others, unless it is there
abbrev with_new : (text : List ℕ) → (there : Bool) → List (List ℕ) → List (List ℕ)
with_new text there texts = if there then texts else texts ++ text ∷ []

-- One text more is one different text more, unless it is there.
different_more : (texts : List (List ℕ)) (text : List ℕ) → different (texts ++ text ∷ []) ≡ with_new text (has text texts) (different texts)
different_more [] text = refl
different_more (first ∷ texts) text =
    ap (λ its. first ∷ without first its) (different_more texts text) ∙ by (has text texts) (bytes_eq first text) refl
  where
    by : (there same : Bool) → bytes_eq first text ≡ same
        → first ∷ without first (with_new text there (different texts)) ≡ with_new text (bytes_eq first text || there) (first ∷ without first (different texts))
    by true true is = sym (ap (λ b. with_new text (b || true) (first ∷ without first (different texts))) is)
    by true false is = sym (ap (λ b. with_new text (b || true) (first ∷ without first (different texts))) is)
    by false true is =
        ap (λ its. first ∷ its) (filter-append (λ other. not (bytes_eq first other)) (different texts) (text ∷ []))
        ∙ ap (λ b. first ∷ (without first (different texts) ++ cond (not b) (text ∷ []) [])) is
        ∙ ap (λ its. first ∷ its) (append-nil (without first (different texts)))
        ∙ sym (ap (λ b. with_new text (b || false) (first ∷ without first (different texts))) is)
    by false false is =
        ap (λ its. first ∷ its) (filter-append (λ other. not (bytes_eq first other)) (different texts) (text ∷ []))
        ∙ ap (λ b. first ∷ (without first (different texts) ++ cond (not b) (text ∷ []) [])) is
        ∙ sym (ap (λ b. with_new text (b || false) (first ∷ without first (different texts))) is)

-- Three of either are either three.
three_of_either : (there : Bool) (text : List ℕ) (texts : List (List ℕ))
    → three_of (with_new text there texts) ≡ (if there then three_of texts else three_of (texts ++ text ∷ []))
three_of_either true text texts = refl
three_of_either false text texts = refl

or_none : (there : Bool) → there ≡ (there || false)
or_none true = refl
or_none false = refl

either : (there : Bool) (texts : List (List ℕ)) → (if there then texts else texts) ≡ texts
either true texts = refl
either false texts = refl

-- Of four or more, the first three are named, and that there are others.
three_of_many : (a b c d : List ℕ) (more : List (List ℕ)) → three_of (a ∷ b ∷ c ∷ d ∷ more) ≡ a ∷ b ∷ c ∷ codes "others" ∷ []
three_of_many a b c d more =
    ap (λ many. a ∷ b ∷ c ∷ (if many then codes "others" ∷ [] else [])) (lt-ltb 3 (length (a ∷ b ∷ c ∷ d ∷ more)) (omega arith))

-- Three of different texts with one more are three of them with it behind.
three_of_more : (texts : List (List ℕ)) (text : List ℕ) → three_of (with_new text (has text texts) texts) ≡ added (three_of texts) text
three_of_more [] text = refl
three_of_more (a ∷ []) text =
    three_of_either (has text (a ∷ [])) text (a ∷ []) ∙ ap (λ there. if there then a ∷ [] else a ∷ text ∷ []) (or_none (has text (a ∷ [])))
three_of_more (a ∷ b ∷ []) text =
    three_of_either (has text (a ∷ b ∷ [])) text (a ∷ b ∷ [])
    ∙ ap (λ there. if there then a ∷ b ∷ [] else a ∷ b ∷ text ∷ []) (or_none (has text (a ∷ b ∷ [])))
three_of_more (a ∷ b ∷ c ∷ []) text =
    three_of_either (has text (a ∷ b ∷ c ∷ [])) text (a ∷ b ∷ c ∷ [])
    ∙ ap (λ there. if there then a ∷ b ∷ c ∷ [] else a ∷ b ∷ c ∷ codes "others" ∷ []) (or_none (has text (a ∷ b ∷ c ∷ [])))
three_of_more (a ∷ b ∷ c ∷ d ∷ more) text =
    let texts = a ∷ b ∷ c ∷ d ∷ more in
    let named = a ∷ b ∷ c ∷ codes "others" ∷ [] in
    three_of_either (has text texts) text texts
    ∙ ap (λ its. if has text texts then its else three_of (texts ++ text ∷ [])) (three_of_many a b c d more)
    ∙ ap (λ its. if has text texts then named else its) (three_of_many a b c d (more ++ text ∷ []))
    ∙ either (has text texts) named ∙ not_added named text (inr refl) ∙ sym (ap (λ its. added its text) (three_of_many a b c d more))

-- One text more is named.
named_more : (texts : List (List ℕ)) (text : List ℕ) → three_of (different (texts ++ text ∷ [])) ≡ added (three_of (different texts)) text
named_more texts text =
    ap three_of (different_more texts text ∙ ap (λ there. with_new text there (different texts)) (sym (has_different text texts)))
    ∙ three_of_more (different texts) text

-- One part more is named.
pub part_named : (arms : List Arm) (parts : List ArmPart) (it : ArmPart)
    → parts_named arms (parts ++ it ∷ []) ≡ part_added (parts_named arms parts) it.arm (part_in arms it.arm it.part)
part_named arms parts it =
    ap (λ texts. three_of (different texts)) (filter_map-append (name_of arms) parts (it ∷ [])) ∙ by (part_in arms it.arm it.part) refl
  where
    texts : List (List ℕ)
    texts = filter_map (name_of arms) parts

    by : (label : Option Label) → part_in arms it.arm it.part ≡ label
        → three_of (different (texts ++ filter_map (name_of arms) (it ∷ []))) ≡ part_added (three_of (different texts)) it.arm (part_in arms it.arm it.part)
    by None is = rw is (ap (λ all. three_of (different all)) (append-nil texts))
    by (Some label) is = rw is (named_more texts (part_text it.arm label))
