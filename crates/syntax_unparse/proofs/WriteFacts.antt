-- The written text is that of the marks, as long as all of them can be written.
use Rattle.std.proofs.Common.{◌≡◌, ℕ, ◌≤◌, inl, inr, List, [], ◌∷◌, ◌++◌, length, Option, None, Some, refl, ap, sym, ◌∙◌, subst, append_assoc, length-append, arith}
use Rattle.tt_base.specs.Forest.{Forest}
use Rattle.tt_base.specs.LeafText.{leaf_text}
use Rattle.tt_base.specs.TreeText.{closing_text, opening_text, space_if}
use Rattle.tt_base.specs.declared.leaf.Leaf.{Leaf}
use Rattle.syntax_parse.specs.Role.{kind_of}
use Rattle.syntax_parse.specs.declared.bracket.Bracket.{Bracket}
use Rattle.syntax_unparse.specs.Marks.{Mark, word, opening, closing}
use Rattle.syntax_unparse.specs.Text.{behind_leaf, opens_apart, text_of, wants_space, written}
use Rattle.syntax_unparse.specs.Writable.{IsWriteFault, Refuses}
use Rattle.syntax_unparse.specs.Writing.{IsFaultBefore, IsLeafRefused, IsRefused, Refusing, Writes}
use Rattle.syntax_unparse.specs.declared.behind.Behind.{Behind}
use Rattle.syntax_unparse.specs.declared.fault.WriteFault.{WriteFault}
use Rattle.syntax_unparse.specs.declared.fault.WriteFault.TheVariants.{NotWritable, TooLong, Memory}
use Rattle.syntax_unparse.specs.declared.behind.Behind.TheVariants.{Opening, Apart}
use Rattle.syntax_unparse.specs.declared.write.Last.{Last}

-- a fault of the marks after a leaf is a fault of that leaf and them
leaf_refused : (before refused : Option ℕ) (last at : ℕ) (behind : Behind) (it : Leaf) (rest : List Mark) (answer : Option ℕ) → IsLeafRefused before last behind at it refused
    → IsRefused refused at (behind_leaf it) rest answer → IsRefused before last behind (word at it ∷ rest) answer
leaf_refused (Some place) refused last at behind it rest answer is h = subst (λ r. IsRefused r at (behind_leaf it) rest answer) is h
leaf_refused None refused last at behind it rest answer (inl (follows, inl (reads, is))) h = inl (follows, inl (reads, subst (λ r. IsRefused r at (behind_leaf it) rest answer) is h))
leaf_refused None refused last at behind it rest answer (inl (follows, inr (never, is))) h = inl (follows, inr (never, subst (λ r. IsRefused r at (behind_leaf it) rest answer) is h))
leaf_refused None refused last at behind it rest answer (inr (never, is)) h = inr (never, subst (λ r. IsRefused r at (behind_leaf it) rest answer) is h)

-- a fault of the marks after a bracket is a fault of what precedes it and them
opening_refused : (before refused : Option ℕ) (last : ℕ) (behind : Behind) (pair : Bracket) (rest : List Mark) (answer : Option ℕ) → IsRefused before last behind [] refused
    → IsRefused refused last Opening rest answer → IsRefused before last behind (opening pair ∷ rest) answer
opening_refused (Some place) refused last behind pair rest answer is h = subst (λ r. IsRefused r last Opening rest answer) is h
opening_refused None refused last behind pair rest answer (inl (may, is)) h = inl (may, subst (λ r. IsRefused r last Opening rest answer) is h)
opening_refused None refused last behind pair rest answer (inr (never, is)) h = inr (never, subst (λ r. IsRefused r last Opening rest answer) is h)

closing_refused : (before refused : Option ℕ) (last : ℕ) (behind : Behind) (pair : Bracket) (rest : List Mark) (answer : Option ℕ) → IsRefused before last behind [] refused
    → IsRefused refused last Apart rest answer → IsRefused before last behind (closing pair ∷ rest) answer
closing_refused (Some place) refused last behind pair rest answer is h = subst (λ r. IsRefused r last Apart rest answer) is h
closing_refused None refused last behind pair rest answer (inl (may, is)) h = inl (may, subst (λ r. IsRefused r last Apart rest answer) is h)
closing_refused None refused last behind pair rest answer (inr (never, is)) h = inr (never, subst (λ r. IsRefused r last Apart rest answer) is h)

-- a leaf
pub writes_leaf : (old new : List ℕ) (last : Last) (at : ℕ) (it : Leaf) (refused : Option ℕ) → IsLeafRefused last.refused last.at last.behind at it refused
    → new ≡ old ++ (space_if (wants_space last.behind it) ++ leaf_text it)
    → Writes old last (word at it ∷ []) new (record { at = at; behind = behind_leaf it; refused = refused })
writes_leaf old new last at it refused is wrote = record {
  text = λ rest. ap (λ t. t ++ written (behind_leaf it) rest) wrote ∙ append_assoc old (space_if (wants_space last.behind it) ++ leaf_text it) (written (behind_leaf it) rest);
  refused = λ rest answer h. leaf_refused last.refused refused last.at at last.behind it rest answer is h;
}

-- nothing
pub writes_nothing : (old : List ℕ) (last : Last) → Writes old last [] old last
writes_nothing old last = record {
  text = λ rest. refl;
  refused = λ rest answer h. h;
}

-- an opening bracket
pub writes_opening : (old new : List ℕ) (last : Last) (bracket : Bracket) (refused : Option ℕ) → Refusing last [] refused
    → new ≡ old ++ (space_if (opens_apart last.behind) ++ opening_text (kind_of bracket))
    → Writes old last (opening bracket ∷ []) new (record { at = last.at; behind = Opening; refused = refused })
writes_opening old new last bracket refused is wrote = record {
  text = λ rest. ap (λ t. t ++ written Opening rest) wrote ∙ append_assoc old (space_if (opens_apart last.behind) ++ opening_text (kind_of bracket)) (written Opening rest);
  refused = λ rest answer h. opening_refused last.refused refused last.at last.behind bracket rest answer is h;
}

-- a closing bracket
pub writes_closing : (old new : List ℕ) (last : Last) (bracket : Bracket) (refused : Option ℕ) → Refusing last [] refused → new ≡ old ++ closing_text (kind_of bracket)
    → Writes old last (closing bracket ∷ []) new (record { at = last.at; behind = Apart; refused = refused })
writes_closing old new last bracket refused is wrote = record {
  text = λ rest. ap (λ t. t ++ written Apart rest) wrote ∙ append_assoc old (closing_text (kind_of bracket)) (written Apart rest);
  refused = λ rest answer h. closing_refused last.refused refused last.at last.behind bracket rest answer is h;
}

-- more marks make a text no shorter
pub leaf_within : (last : Last) (at : ℕ) (it : Leaf) (rest : List Mark) → length (leaf_text it) ≤ length (written last.behind (word at it ∷ rest))
leaf_within last at it rest =
    let space = space_if (wants_space last.behind it) in
    omega (arith, length-append space (leaf_text it), length-append (space ++ leaf_text it) (written (behind_leaf it) rest))

-- this much of trees is written, and these marks are left
pub record IsWrittenTo (trees : Forest) (bytes : List ℕ) (last : Last) (left : List Mark) : Type 0 where
  pub text : bytes ++ written last.behind left ≡ text_of trees
  pub refused : (answer : Option ℕ) → Refusing last left answer → Refuses trees answer

-- the next marks are written
pub goes_on : (trees : Forest) (old new : List ℕ) (last next : Last) (left front rest : List Mark) → left ≡ front ++ rest → Writes old last front new next
    → IsWrittenTo trees old last left → IsWrittenTo trees new next rest
goes_on trees old new last next left front rest are wrote before = record {
  text = wrote.text rest ∙ ap (λ ms. old ++ written last.behind ms) (sym are) ∙ before.text;
  refused = λ answer h. before.refused answer (subst (λ ms. Refusing last ms answer) (sym are) (wrote.refused rest answer h));
}

-- a fault of the next marks is a fault of the trees
pub fault_in : (trees : Forest) (old : List ℕ) (last : Last) (left front rest : List Mark) (fault : WriteFault) → left ≡ front ++ rest → IsFaultBefore last front fault
    → IsWrittenTo trees old last left → IsWriteFault trees fault
fault_in trees old last left front rest (NotWritable at) are why before = absurd why
fault_in trees old last left front rest TooLong are why before =
    omega (arith, why rest, ap (λ ms. length (written last.behind ms)) are, ap length before.text, length-append old (written last.behind left))
fault_in trees old last left front rest Memory are why before = tt
