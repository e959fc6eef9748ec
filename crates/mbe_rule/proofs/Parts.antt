-- Literal siblings, and those of a variable or of a use.
use Rattle.std.proofs.Common.{◌≡◌, ◌≤◌, ◌==◌, if◌then◌else◌, ℕ, Bool, true, false, [], ◌∷◌, Option, None, Some, refl, ap, ◌∙◌, arith}
use Rattle.std.proofs.lemmas.Bool.Decides.{nat_tests}
use Rattle.std.specs.List.{list_any}
use Rattle.tt.specs.Expectations.{first_leaf_as}
use Rattle.tt.specs.Forest.{Forest, end, leaf, node, join, size}
use Rattle.tt.specs.Moves.{after_tree}
use Rattle.tt.specs.Types.Leaf.{Leaf}
use Rattle.tt.specs.Types.Leaf.TheVariants as leaf_of
use Rattle.mbe_rule.specs.declared.variable.Fragment.{Fragment}
use Rattle.mbe_rule.specs.declared.variable.Name.{Name}
use Rattle.mbe_rule.specs.declared.variable.Variable.{Variable}
use Rattle.mbe_rule.specs.Instances.{token, variable, other_parts, begin_part, pattern_of, Binding, bound_to, place_leaf, filled}
use Rattle.mbe_rule.specs.Variables.{is_dollar, as_fragment, name_in, is_colon_in, variable_from, variable_in, variable_at, use_at, behind_dollars}

-- the first sibling is a literal leaf
pub record IsPlain (siblings : Forest) : Type 0 where
  pub it : Leaf
  pub part : pattern_of siblings ≡ token it (pattern_of (after_tree siblings))
  pub kept : (binding : Binding) → filled binding siblings ≡ leaf it (filled binding (after_tree siblings))
  pub passed : behind_dollars siblings ≡ behind_dollars (after_tree siblings)

-- Any leaf other than `$` is literal.
plain_leaf : (it : Leaf) (rest : Forest) → is_dollar it ≡ false → IsPlain (leaf it rest)
plain_leaf it rest other =
    record {
      it = it;
      part = rw other refl;
      kept = λ binding. rw other refl;
      passed = rw other refl;
    }

-- A name is literal.
pub plain_name : (siblings : Forest) (name : Name) → name_in siblings ≡ Some name → IsPlain siblings
plain_name end name e = absurd (cc e)
plain_name (leaf (leaf_of.Literal it) rest) name e = absurd (cc e)
plain_name (leaf (leaf_of.Punct it) rest) name e = absurd (cc e)
plain_name (leaf (leaf_of.Ident it) rest) name e = plain_leaf (leaf_of.Ident it) rest refl
plain_name (node delimiter children rest) name e = absurd (cc e)

-- A colon is no dollar.
colon_no_dollar : (c : ℕ) → list_any (λ x. c == x) (58 ∷ []) ≡ true → (c == 36) ≡ false
colon_no_dollar c e = grind (arith, nat_tests)

-- A colon is literal.
pub plain_colon : (siblings : Forest) → is_colon_in siblings ≡ true → IsPlain siblings
plain_colon end e = absurd (cc e)
plain_colon (leaf (leaf_of.Literal it) rest) e = absurd (cc e)
plain_colon (leaf (leaf_of.Punct it) rest) e = plain_leaf (leaf_of.Punct it) rest (colon_no_dollar it.char e)
plain_colon (leaf (leaf_of.Ident it) rest) e = absurd (cc e)
plain_colon (node delimiter children rest) e = absurd (cc e)

-- A fragment is literal.
pub plain_fragment : (siblings : Forest) (kind : Fragment) → first_leaf_as as_fragment siblings ≡ Some kind → IsPlain siblings
plain_fragment end kind e = absurd (cc e)
plain_fragment (leaf (leaf_of.Literal it) rest) kind e = absurd (cc e)
plain_fragment (leaf (leaf_of.Punct it) rest) kind e = absurd (cc e)
plain_fragment (leaf (leaf_of.Ident it) rest) kind e = plain_leaf (leaf_of.Ident it) rest refl
plain_fragment (node delimiter children rest) kind e = absurd (cc e)

-- what a variable is made of
record IsMadeOf (name : Option Name) (colon : Bool) (kind : Option Fragment) (it : Variable) : Type 0 where
  named : name ≡ Some it.name
  parted : colon ≡ true
  takes : kind ≡ Some it.fragment

-- It has all three.
made_of : (name : Option Name) (colon : Bool) (kind : Option Fragment) (it : Variable) → variable_from name colon kind ≡ Some it → IsMadeOf name colon kind it
made_of None colon kind it e = absurd (cc e)
made_of (Some name) false kind it e = absurd (cc e)
made_of (Some name) true None it e = absurd (cc e)
made_of (Some name) true (Some kind) it e = record { named = cc; parted = refl; takes = cc }

-- the three siblings of a variable after its `$` are literal
pub record IsSpelled (siblings : Forest) : Type 0 where
  pub first : IsPlain siblings
  pub second : IsPlain (after_tree siblings)
  pub third : IsPlain (after_tree (after_tree siblings))

pub spelled : (siblings : Forest) (it : Variable) → variable_in siblings ≡ Some it → IsSpelled siblings
spelled siblings it e =
    let made = made_of (name_in siblings) (is_colon_in (after_tree siblings)) (first_leaf_as as_fragment (after_tree (after_tree siblings))) it e in
    record {
      first = plain_name siblings it.name made.named;
      second = plain_colon (after_tree siblings) made.parted;
      third = plain_fragment (after_tree (after_tree siblings)) it.fragment made.takes;
    }

-- The parts after a variable are those of the siblings after its four.
pub parts_behind : (siblings : Forest) → IsSpelled siblings
    → other_parts (other_parts (other_parts (pattern_of siblings))) ≡ pattern_of (after_tree (after_tree (after_tree siblings)))
parts_behind siblings is =
    ap (λ p. other_parts (other_parts (other_parts p))) is.first.part ∙ ap (λ p. other_parts (other_parts p)) is.second.part ∙ ap other_parts is.third.part

-- A leaf that begins a variable is `$`.
variable_of : (it : Leaf) (siblings : Forest) (found : Variable) → variable_at it siblings ≡ Some found → variable_in siblings ≡ Some found
variable_of it siblings found e = by (is_dollar it) e
  where
    by : (b : Bool) → (if b then variable_in siblings else None) ≡ Some found → variable_in siblings ≡ Some found
    by true p = p
    by false p = absurd (cc p)

-- A variable, and the parts after it.
pub variable_first : (it : Leaf) (siblings : Forest) (found : Variable) → variable_at it siblings ≡ Some found
    → pattern_of (leaf it siblings) ≡ variable found (pattern_of (after_tree (after_tree (after_tree siblings))))
variable_first it siblings found e =
    ap (λ o. begin_part it o (pattern_of siblings)) e ∙ ap (variable found) (parts_behind siblings (spelled siblings found (variable_of it siblings found e)))

-- A leaf that begins no variable is literal.
pub token_first : (it : Leaf) (siblings : Forest) → variable_at it siblings ≡ None → pattern_of (leaf it siblings) ≡ token it (pattern_of siblings)
token_first it siblings e = ap (λ o. begin_part it o (pattern_of siblings)) e

-- A leaf that begins a use is `$`.
name_used : (it : Leaf) (siblings : Forest) (name : Name) → use_at it siblings ≡ Some name → name_in siblings ≡ Some name
name_used it siblings name e = by (is_dollar it) e
  where
    by : (b : Bool) → (if b then name_in siblings else None) ≡ Some name → name_in siblings ≡ Some name
    by true p = p
    by false p = absurd (cc p)

-- A use is replaced, with its name.
pub use_first : (binding : Binding) (it : Leaf) (siblings : Forest) (name : Name) → use_at it siblings ≡ Some name
    → filled binding (leaf it siblings) ≡ join (bound_to name binding) (filled binding (after_tree siblings))
use_first binding it siblings name e =
    ap (λ o. place_leaf binding it o (filled binding siblings)) e
    ∙ ap (λ trees. join (bound_to name binding) (after_tree trees)) ((plain_name siblings name (name_used it siblings name e)).kept binding)

-- A leaf that begins no use stays.
pub leaf_first : (binding : Binding) (it : Leaf) (siblings : Forest) → use_at it siblings ≡ None
    → filled binding (leaf it siblings) ≡ join (leaf it end) (filled binding siblings)
leaf_first binding it siblings e = ap (λ o. place_leaf binding it o (filled binding siblings)) e

-- What is left after the first tree is no larger.
pub after_smaller : (trees : Forest) → size (after_tree trees) ≤ size trees
after_smaller end = omega arith
after_smaller (leaf it rest) = omega arith
after_smaller (node delimiter children rest) = omega arith
