-- What one more `$` does to the judging of a rule.
use Rattle.std.proofs.Common.{◌≡◌, Bool, true, false, List, [], ◌∷◌, ◌++◌, None, Some, map, if◌then◌else◌, ap, sym, ◌∙◌, append-nil, append_assoc}
use Rattle.std.specs.List.{list_any}
use Rattle.indexmap.specs.IndexSet.{insert_key}
use Rattle.tt.specs.Forest.{Forest}
use Rattle.mbe_rule.specs.declared.fault.RuleFault.TheVariants.{BadPattern, BadTemplate, DuplicateName, UnknownName}
use Rattle.mbe_rule.specs.declared.variable.Name.{Name}
use Rattle.mbe_rule.specs.declared.variable.Variable.{Variable}
use Rattle.mbe_rule.specs.contracts.variable.NamePartialEq.TheImpl as name_impl
use Rattle.mbe_rule.specs.Faults.{fault_of_variables, fault_of_uses}
use Rattle.mbe_rule.specs.Variables.{same_name, name_in, names_of, variable_in}
use Rattle.mbe_rule.proofs.SameNames.{name_eq}

-- `==` finds a name among others if it is there.
pub among_same : (name : Name) (names : List Name) → list_any ((name_impl.ghosts).eq name) names ≡ list_any (same_name name) names
among_same name names = ap (λ eq. list_any (eq name) names) name_eq

module _ (names : List Name) (siblings : Forest) (left behind : List Forest) (here : left ≡ siblings ∷ behind) where
  -- No variable is there.
  pub bad_pattern : variable_in siblings ≡ None → fault_of_variables names (map variable_in left) ≡ Some BadPattern
  bad_pattern none = ap (λ l. fault_of_variables names (map variable_in l)) here ∙ ap (λ o. fault_of_variables names (o ∷ map variable_in behind)) none

  module _ (it : Variable) (found : variable_in siblings ≡ Some it) where
    -- A variable is judged by its name.
    validated : (b : Bool) → list_any (same_name it.name) names ≡ b
        → fault_of_variables names (map variable_in left) ≡ (if b then Some DuplicateName else fault_of_variables (names ++ it.name ∷ []) (map variable_in behind))
    validated b e =
        ap (λ l. fault_of_variables names (map variable_in l)) here
        ∙ ap (λ o. fault_of_variables names (o ∷ map variable_in behind)) found
        ∙ ap (λ b. if b then Some DuplicateName else fault_of_variables (names ++ it.name ∷ []) (map variable_in behind)) e

    -- It has the name of an earlier one.
    pub duplicate : list_any ((name_impl.ghosts).eq it.name) names ≡ true → fault_of_variables names (map variable_in left) ≡ Some DuplicateName
    duplicate e = validated true (sym (among_same it.name names) ∙ e)

    -- Or it does not, and its name is noted.
    pub noted_name : (new : List Name) → list_any ((name_impl.ghosts).eq it.name) names ≡ false → new ≡ insert_key (name_impl.ghosts).eq names it.name
        → new ≡ names ++ it.name ∷ []
    noted_name new e noted = noted ∙ ap (λ b. if b then names else names ++ it.name ∷ []) e

    pub validated_on : (new : List Name) → list_any ((name_impl.ghosts).eq it.name) names ≡ false → new ≡ names ++ it.name ∷ []
        → fault_of_variables new (map variable_in behind) ≡ fault_of_variables names (map variable_in left)
    validated_on new e noted = ap (λ n. fault_of_variables n (map variable_in behind)) noted ∙ sym (validated false (sym (among_same it.name names) ∙ e))

    pub named_on : (new : List Name) → new ≡ names ++ it.name ∷ [] → new ++ names_of (map variable_in behind) ≡ names ++ names_of (map variable_in left)
    named_on new noted =
        ap (λ n. n ++ names_of (map variable_in behind)) noted
        ∙ append_assoc names (it.name ∷ []) (names_of (map variable_in behind))
        ∙ ap (λ n. names ++ n) (ap (λ o. names_of (o ∷ map variable_in behind)) (sym found) ∙ ap (λ l. names_of (map variable_in l)) (sym here))

  -- No use is there.
  pub bad_template : name_in siblings ≡ None → fault_of_uses names (map name_in left) ≡ Some BadTemplate
  bad_template none = ap (λ l. fault_of_uses names (map name_in l)) here ∙ ap (λ o. fault_of_uses names (o ∷ map name_in behind)) none

  module _ (name : Name) (found : name_in siblings ≡ Some name) where
    -- A use is judged by its name.
    used : (b : Bool) → list_any ((name_impl.ghosts).eq name) names ≡ b
        → fault_of_uses names (map name_in left) ≡ (if b then fault_of_uses names (map name_in behind) else Some UnknownName)
    used b e =
        ap (λ l. fault_of_uses names (map name_in l)) here
        ∙ ap (λ o. fault_of_uses names (o ∷ map name_in behind)) found
        ∙ ap (λ b. if b then fault_of_uses names (map name_in behind) else Some UnknownName) (sym (among_same name names) ∙ e)

    -- It is the name of no variable.
    pub unknown : list_any ((name_impl.ghosts).eq name) names ≡ false → fault_of_uses names (map name_in left) ≡ Some UnknownName
    unknown e = used false e

    -- Or it is the name of a variable.
    pub used_on : list_any ((name_impl.ghosts).eq name) names ≡ true → fault_of_uses names (map name_in behind) ≡ fault_of_uses names (map name_in left)
    used_on e = sym (used true e)

-- At the end there is no fault, and all names are noted.
pub validated_all : (names : List Name) (left : List Forest) → left ≡ [] → fault_of_variables names (map variable_in left) ≡ None
validated_all names left over = ap (λ l. fault_of_variables names (map variable_in l)) over

pub named_all : (names : List Name) (left : List Forest) → left ≡ [] → names ++ names_of (map variable_in left) ≡ names
named_all names left over = ap (λ l. names ++ names_of (map variable_in l)) over ∙ append-nil names

pub used_all : (names : List Name) (left : List Forest) → left ≡ [] → fault_of_uses names (map name_in left) ≡ None
used_all names left over = ap (λ l. fault_of_uses names (map name_in l)) over
