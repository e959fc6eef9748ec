-- An instance has one binding: the names of the pattern, paired with the trees in their places.
use Rattle.std.proofs.Common.{◌≡◌, ◌+◌, suc, Bool, true, false, cond, List, [], ◌∷◌, ◌++◌, Option, None, Some, length, map, refl, ap, ap₂, sym, ◌∙◌, arith, length-append}
use Rattle.std.proofs.lemmas.List.{map-append}
use Rattle.std.specs.List.{zip}
use Rattle.tt.specs.Forest.{Forest, end, leaf, node}
use Rattle.tt.specs.Moves.{after_tree}
use Rattle.tt.specs.Siblings.{first_tree, children_of}
use Rattle.tt.specs.Types.Leaf.{Leaf}
use Rattle.mbe_rule.specs.declared.variable.Name.{Name}
use Rattle.mbe_rule.specs.declared.variable.Variable.{Variable}
use Rattle.mbe_rule.specs.Instances.{Pattern, nothing, variable, token, subtree, other_parts, begin_part, pattern_of, Binding, IsInstance}
use Rattle.mbe_rule.specs.Matching.{Matches, trees_bound}
use Rattle.mbe_rule.specs.Variables.{is_dollar, names_of, names_in, variable_in, behind_dollars}
use Rattle.mbe_rule.proofs.Parts.{IsSpelled, spelled}

-- the names of a pattern's variables
abbrev pub names : Pattern → List Name
names nothing = []
names (variable it others) = it.name ∷ names others
names (token it others) = names others
names (subtree kind inner others) = names inner ++ names others

-- There are as many bound trees as names.
pub as_many : (p : Pattern) (input : Forest) → length (names p) ≡ length (trees_bound p input)
as_many nothing input = refl
as_many (variable it others) input = ap suc (as_many others (after_tree input))
as_many (token it others) input = as_many others (after_tree input)
as_many (subtree kind inner others) input =
    length-append (names inner) (names others)
    ∙ ap₂ (λ m n. m + n) (as_many inner (children_of input)) (as_many others (after_tree input))
    ∙ sym (length-append (trees_bound inner (children_of input)) (trees_bound others (after_tree input)))

-- Two lists paired with two others of the same lengths.
zip-append : (ks ls : List Name) (xs ys : List Forest) → length ks ≡ length xs → zip (ks ++ ls) (xs ++ ys) ≡ zip ks xs ++ zip ls ys
zip-append [] ls [] ys e = refl
zip-append [] ls (x ∷ xs) ys e = absurd (omega (arith, e))
zip-append (k ∷ ks) ls [] ys e = absurd (omega (arith, e))
zip-append (k ∷ ks) ls (x ∷ xs) ys e = ap (λ z. (k, x) ∷ z) (zip-append ks ls xs ys (omega (arith, e)))

-- what is bound
abbrev pub binding_of : Pattern → (input : Forest) → Binding
binding_of p input = zip (names p) (trees_bound p input)

-- What is bound in the subtree, and after it.
binding_parts : (inner others : Pattern) (input : Forest)
    → zip (names inner ++ names others) (trees_bound inner (children_of input) ++ trees_bound others (after_tree input))
    ≡ binding_of inner (children_of input) ++ binding_of others (after_tree input)
binding_parts inner others input =
    zip-append (names inner) (names others) (trees_bound inner (children_of input)) (trees_bound others (after_tree input)) (as_many inner (children_of input))

-- An instance matches, and no other binding fits.
pub bound_so : (p : Pattern) (input : Forest) (binding : Binding) → IsInstance p input binding → Matches p input × (binding ≡ binding_of p input)
bound_so nothing input binding is = (is.0, is.1)
bound_so (variable it others) input binding (more, taken, bound, rest) =
    let next = bound_so others (after_tree input) more rest in
    ((taken, next.0), bound ∙ ap (λ b. (it.name, first_tree input) ∷ b) next.1)
bound_so (token it others) input binding (like, rest) =
    let next = bound_so others (after_tree input) binding rest in
    ((like, next.0), next.1)
bound_so (subtree kind inner others) input binding (held, more, like, bound, below, rest) =
    let inside = bound_so inner (children_of input) held below in
    let next = bound_so others (after_tree input) more rest in
    ((like, inside.0, next.0), bound ∙ ap₂ (λ a b. a ++ b) inside.1 next.1 ∙ sym (binding_parts inner others input))

-- Trees that match are an instance.
pub instance_of : (p : Pattern) (input : Forest) → Matches p input → IsInstance p input (binding_of p input)
instance_of nothing input m = (m, refl)
instance_of (variable it others) input m = (binding_of others (after_tree input), m.0, refl, instance_of others (after_tree input) m.1)
instance_of (token it others) input m = (m.0, instance_of others (after_tree input) m.1)
instance_of (subtree kind inner others) input m = (
  binding_of inner (children_of input),
  binding_of others (after_tree input),
  m.0,
  binding_parts inner others input,
  instance_of inner (children_of input) m.1,
  instance_of others (after_tree input) m.2,
)

-- The names of two lists.
names_of-append : (xs ys : List (Option Variable)) → names_of (xs ++ ys) ≡ names_of xs ++ names_of ys
names_of-append [] ys = refl
names_of-append (None ∷ xs) ys = names_of-append xs ys
names_of-append (Some it ∷ xs) ys = ap (λ n. it.name ∷ n) (names_of-append xs ys)

-- the names after the parts of a variable
names_behind : (siblings : Forest) → IsSpelled siblings → names (other_parts (other_parts (other_parts (pattern_of siblings)))) ≡ names (pattern_of siblings)
names_behind siblings is =
    ap (λ p. names (other_parts (other_parts (other_parts p)))) is.first.part
    ∙ ap (λ p. names (other_parts (other_parts p))) is.second.part
    ∙ ap (λ p. names (other_parts p)) is.third.part
    ∙ sym (ap names is.first.part ∙ ap names is.second.part ∙ ap names is.third.part)

-- The names of a leaf's part, if those after it are known.
names_of_leaf : (it : Leaf) (rest : Forest) → names_in rest ≡ names (pattern_of rest) → names_in (leaf it rest) ≡ names (pattern_of (leaf it rest))
names_of_leaf it rest same = by (is_dollar it)
  where
    behind : (o : Option Variable) → variable_in rest ≡ o → names_of (o ∷ map variable_in (behind_dollars rest)) ≡ names (begin_part it o (pattern_of rest))
    behind None e = same
    behind (Some found) e = ap (λ n. found.name ∷ n) (same ∙ sym (names_behind rest (spelled rest found e)))

    by : (b : Bool)
        → names_of (map variable_in (cond b (rest ∷ behind_dollars rest) (behind_dollars rest)))
        ≡ names (begin_part it (cond b (variable_in rest) None) (pattern_of rest))
    by true = behind (variable_in rest) refl
    by false = same

-- The names found after each `$` are those of the pattern.
pub names_found : (trees : Forest) → names_in trees ≡ names (pattern_of trees)
names_found end = refl
names_found (leaf it rest) = names_of_leaf it rest (names_found rest)
names_found (node delimiter children rest) =
    ap names_of (map-append variable_in (behind_dollars children) (behind_dollars rest))
    ∙ names_of-append (map variable_in (behind_dollars children)) (map variable_in (behind_dollars rest))
    ∙ ap₂ (λ a b. a ++ b) (names_found children) (names_found rest)
