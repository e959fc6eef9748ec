-- What is wrong with a template's trees, part by part.
use Rattle.std.proofs.Common.{◌≡◌, ◌-◌, ℕ, zero, suc, Bool, true, false, List, [], ◌∷◌, length, Option, Some, None, refl, ap, ap₂, sym, ◌∙◌, cond}
use Rattle.tt.specs.Forest.{Forest, end, leaf, node, size}
use Rattle.tt.specs.Gluing.{after_trees}
use Rattle.tt.specs.Moves.{after_tree}
use Rattle.tt.specs.Types.Delimiter.{Delimiter}
use Rattle.tt.specs.Types.Leaf.{Leaf}
use Rattle.tt.specs.Types.Leaf.TheVariants as leaf_of
use Rattle.mbe_pattern.specs.declared.pattern.RepeatKind.{RepeatKind}
use Rattle.mbe_pattern.specs.Spelling.{Tail, as_repeat_kind, tail_from, tail_in, tail_length, tail_with, repetition_in, is_dollar, is_crate_in, is_parenthesis}
use Rattle.mbe_pattern.specs.Units.{front_leaves, first_unit, unit_size, is_at_punct}
use Rattle.mbe_matcher.specs.Grouping.{Where}
use Rattle.mbe_rules.specs.declared.error.TemplateError.{TemplateError}
use Rattle.mbe_rules.specs.declared.error.TemplateError.TheVariants as error
use Rattle.mbe_rules.specs.Spelling.{Mark, dollar_of, mark_from, mark_in, mark_or, variable_in}
use Rattle.mbe_rules.specs.Spelling as spelling
use Rattle.mbe_rules.specs.SpellingFaults.{or_else, own_length, dollar_fault, fault_behind, fault_until, IsFault}

-- The first fault is the fault that comes first.
pub fault_is : (first : Option TemplateError) (why : TemplateError) → first ≡ Some why → IsFault first why
fault_is first (error.BeginsNothing at) is = is
fault_is first (error.NoOperator at) is = is
fault_is first (error.NeedlessSeparator at) is = is
fault_is first error.Memory is = tt

-- One more tree is passed behind the others.
after_next : (n : ℕ) (trees : Forest) → after_tree (after_trees n trees) ≡ after_trees (suc n) trees
after_next zero trees = refl
after_next (suc n) trees = after_next n (after_tree trees)

-- A mark has the tail that follows.
tail_of_mark : (found : Option Tail) (crate_there : Bool) (variable : Option ℕ) (less_follows : Bool) (tail : Tail)
    → mark_from found crate_there variable less_follows ≡ spelling.repetition tail → found ≡ Some tail
tail_of_mark (Some it) crate_there variable less_follows tail is = let same : it ≡ tail = cc is in ap Some same
tail_of_mark None true variable less_follows tail is = absurd (cc is)
tail_of_mark None false None less_follows tail is = absurd (cc is)
tail_of_mark None false (Some it) less_follows tail is = absurd (cc is)

no_tail_of_use : (found : Option Tail) (crate_there : Bool) (variable : Option ℕ) (less_follows : Bool) (number : ℕ) (less : Bool)
    → mark_from found crate_there variable less_follows ≡ spelling.use_of number less → (found ≡ None) × (variable ≡ Some number)
no_tail_of_use (Some it) crate_there variable less_follows number less is = absurd (cc is)
no_tail_of_use None true variable less_follows number less is = absurd (cc is)
no_tail_of_use None false None less_follows number less is = absurd (cc is)
no_tail_of_use None false (Some it) less_follows number less is = let same : it ≡ number = cc is in (refl, ap Some same)

no_tail_of_nothing : (found : Option Tail) (crate_there : Bool) (variable : Option ℕ) (less_follows : Bool)
    → mark_from found crate_there variable less_follows ≡ spelling.nothing → found ≡ None
no_tail_of_nothing (Some it) crate_there variable less_follows is = absurd (cc is)
no_tail_of_nothing None crate_there variable less_follows is = refl

-- What is there on a condition is there.
if_some : (b : Bool) (found : Option Tail) (tail : Tail) → cond b found None ≡ Some tail → found ≡ Some tail
if_some true found tail is = is
if_some false found tail is = absurd (cc is)

-- what a `$` that is not before another begins
abbrev mark : Forest → List Where → Mark
mark rest variables = mark_from (repetition_in rest) (is_crate_in rest) (variable_in variables rest) (is_at_punct (60 ∷ []) (after_tree rest))

-- No other `$` follows a use, a repetition, or a `$` that begins nothing.
marked_use : (found : Option Leaf) (other : Mark) (number : ℕ) (less : Bool) → mark_or found other ≡ spelling.use_of number less → (found ≡ None) × (other ≡ spelling.use_of number less)
marked_use None other number less is = (refl, is)
marked_use (Some it) other number less is = absurd (cc is)

marked_repetition : (found : Option Leaf) (other : Mark) (tail : Tail) → mark_or found other ≡ spelling.repetition tail → (found ≡ None) × (other ≡ spelling.repetition tail)
marked_repetition None other tail is = (refl, is)
marked_repetition (Some it) other tail is = absurd (cc is)

marked_nothing : (found : Option Leaf) (other : Mark) → mark_or found other ≡ spelling.nothing → (found ≡ None) × (other ≡ spelling.nothing)
marked_nothing None other is = (refl, is)
marked_nothing (Some it) other is = absurd (cc is)

marked_second : (found : Option Leaf) (b : Bool) (variable : Option ℕ) (tail : Option Tail) (less : Bool) (it : Leaf)
    → mark_or found (mark_from tail b variable less) ≡ spelling.second it → found ≡ Some it
marked_second (Some other) b variable tail less it is = let same : other ≡ it = cc is in ap Some same
marked_second None b variable (Some its) less it is = absurd (cc is)
marked_second None true variable None less it is = absurd (cc is)
marked_second None false None None less it is = absurd (cc is)
marked_second None false (Some number) None less it is = absurd (cc is)

module _ (until : ℕ) where
  -- Leaves that are passed have no fault.
  leaves_passed : (n : ℕ) (trees : Forest)
      → fault_behind until (suc (length (front_leaves n trees))) trees ≡ fault_behind until 1 (after_trees (length (front_leaves n trees)) trees)
  leaves_passed zero trees = refl
  leaves_passed (suc n) end = refl
  leaves_passed (suc n) (leaf it rest) = leaves_passed n rest
  leaves_passed (suc n) (node delimiter children rest) = refl

  -- Neither has an operator.
  operator_passed : (trees : Forest) (kind : RepeatKind) → as_repeat_kind (first_unit trees) ≡ Some kind → fault_behind until 1 trees ≡ fault_until until (after_tree trees)
  operator_passed end kind is = refl
  operator_passed (leaf it rest) kind is = refl
  operator_passed (node delimiter children rest) kind is = absurd (cc is)

  -- So a tail has none.
  tail_passed : (trees : Forest) (tail : Tail) → tail_in trees ≡ Some tail → fault_behind until (tail_length tail) trees ≡ fault_until until (after_trees (tail_length tail) trees)
  tail_passed trees tail is = by (as_repeat_kind (first_unit trees)) refl is
    where
      separated : (kind : Option RepeatKind) → as_repeat_kind (first_unit (after_trees (length (first_unit trees)) trees)) ≡ kind
          → tail_with (first_unit trees) kind ≡ Some tail
          → fault_behind until (tail_length tail) trees ≡ fault_until until (after_trees (tail_length tail) trees)
      separated None there is = absurd (cc is)
      separated (Some kind) there is =
          let same : tail ≡ record { separator = first_unit trees; kind = kind } = cc is in
          let its : tail.separator ≡ first_unit trees = ap (λ (t : Tail). t.separator) same in
          let count : tail_length tail ≡ suc (length (first_unit trees)) = ap (λ l. suc (length l)) its in
          ap (λ n. fault_behind until n trees) count
          ∙ leaves_passed (unit_size trees) trees
          ∙ operator_passed (after_trees (length (first_unit trees)) trees) kind there
          ∙ ap (fault_until until) (after_next (length (first_unit trees)) trees)
          ∙ ap (λ n. fault_until until (after_trees n trees)) (sym count)

      some : (token : List Leaf) → first_unit trees ≡ token → tail_from None token trees ≡ Some tail
          → fault_behind until (tail_length tail) trees ≡ fault_until until (after_trees (tail_length tail) trees)
      some [] token is = absurd (cc is)
      some (it ∷ others) token is =
          separated (as_repeat_kind (first_unit (after_trees (length (first_unit trees)) trees))) refl
          (ap (λ l. tail_with l (as_repeat_kind (first_unit (after_trees (length l) trees)))) token ∙ is)

      by : (kind : Option RepeatKind) → as_repeat_kind (first_unit trees) ≡ kind → tail_from kind (first_unit trees) trees ≡ Some tail
          → fault_behind until (tail_length tail) trees ≡ fault_until until (after_trees (tail_length tail) trees)
      by None there is = some (first_unit trees) refl is
      by (Some kind) there is =
          let same : tail ≡ record { separator = []; kind = kind } = cc is in
          let none : tail.separator ≡ [] = ap (λ (t : Tail). t.separator) same in
          let count : tail_length tail ≡ 1 = ap (λ l. suc (length l)) none in
          ap (λ n. fault_behind until n trees) count
          ∙ operator_passed trees kind there
          ∙ ap (λ n. fault_until until (after_trees n trees)) (sym count)

  -- A leaf that is no `$` has no fault.
  pub token_sound : (it : Leaf) (rest : Forest) → is_dollar it ≡ false → fault_until until (leaf it rest) ≡ fault_until until rest
  token_sound it rest other =
      ap (λ b. cond b (or_else (dollar_fault until rest) (fault_behind until (own_length (dollar_of rest) (repetition_in rest)) rest)) (fault_until until rest)) other

  -- Neither has a name.
  name_sound : (variables : List Where) (trees : Forest) (number : ℕ) → variable_in variables trees ≡ Some number → fault_until until trees ≡ fault_until until (after_tree trees)
  name_sound variables end number is = refl
  name_sound variables (leaf (leaf_of.Literal it) rest) number is = refl
  name_sound variables (leaf (leaf_of.Punct it) rest) number is = absurd (cc is)
  name_sound variables (leaf (leaf_of.Ident it) rest) number is = refl
  name_sound variables (node delimiter children rest) number is = absurd (cc is)

  -- Another `$` is passed.
  second_passed : (trees : Forest) (it : Leaf) → dollar_of trees ≡ Some it → fault_behind until 1 trees ≡ fault_until until (after_tree trees)
  second_passed end it is = refl
  second_passed (leaf other rest) it is = refl
  second_passed (node delimiter children rest) it is = absurd (cc is)

  module _ (dollar : Leaf) (rest : Forest) (is : is_dollar dollar ≡ true) where
    -- the first fault, given that of the `$`
    begun : fault_until until (leaf dollar rest) ≡ or_else (dollar_fault until rest) (fault_behind until (own_length (dollar_of rest) (repetition_in rest)) rest)
    begun = ap (λ b. cond b (or_else (dollar_fault until rest) (fault_behind until (own_length (dollar_of rest) (repetition_in rest)) rest)) (fault_until until rest)) is

    -- A fault of the `$` comes first.
    pub dollar_wrong : (why : TemplateError) → dollar_fault until rest ≡ Some why → IsFault (fault_until until (leaf dollar rest)) why
    dollar_wrong why there =
        fault_is (fault_until until (leaf dollar rest)) why (begun ∙ ap (λ f. or_else f (fault_behind until (own_length (dollar_of rest) (repetition_in rest)) rest)) there)

    module _ (sound : dollar_fault until rest ≡ None) where
      -- Without one, the first fault is that of what follows.
      left : (second : Option Leaf) (found : Option Tail) → dollar_of rest ≡ second → repetition_in rest ≡ found
          → fault_until until (leaf dollar rest) ≡ fault_behind until (own_length second found) rest
      left second found other there =
          begun
          ∙ ap (λ f. or_else f (fault_behind until (own_length (dollar_of rest) (repetition_in rest)) rest)) sound
          ∙ ap₂ (λ o t. fault_behind until (own_length o t) rest) other there

      pub use_sound : (variables : List Where) (number : ℕ) (less : Bool) (behind : Forest) → mark_in variables rest ≡ spelling.use_of number less → behind ≡ after_tree rest
          → fault_until until (leaf dollar rest) ≡ fault_until until behind
      use_sound variables number less behind same passed =
          let (other, is_mark) = marked_use (dollar_of rest) (mark rest variables) number less same in
          let (none, named) = no_tail_of_use (repetition_in rest) (is_crate_in rest) (variable_in variables rest) (is_at_punct (60 ∷ []) (after_tree rest)) number less is_mark in
          left None None other none ∙ name_sound variables rest number named ∙ ap (fault_until until) (sym passed)

      pub second_sound : (variables : List Where) (it : Leaf) (behind : Forest) → mark_in variables rest ≡ spelling.second it → behind ≡ after_tree rest
          → fault_until until (leaf dollar rest) ≡ fault_until until behind
      second_sound variables it behind same passed =
          let there : dollar_of rest ≡ Some it = marked_second (dollar_of rest) (is_crate_in rest) (variable_in variables rest) (repetition_in rest) (is_at_punct (60 ∷ []) (after_tree rest)) it same in
          left (Some it) (repetition_in rest) there refl ∙ second_passed rest it there ∙ ap (fault_until until) (sym passed)

      pub nothing_sound : (variables : List Where) → mark_in variables rest ≡ spelling.nothing → fault_until until (leaf dollar rest) ≡ fault_until until rest
      nothing_sound variables same =
          let (other, is_mark) = marked_nothing (dollar_of rest) (mark rest variables) same in
          left None None other (no_tail_of_nothing (repetition_in rest) (is_crate_in rest) (variable_in variables rest) (is_at_punct (60 ∷ []) (after_tree rest)) is_mark)

      pub repetition_sound : (variables : List Where) (delimiter : Delimiter) (children others behind : Forest) (tail : Tail)
          → rest ≡ node delimiter children others → mark_in variables rest ≡ spelling.repetition tail → behind ≡ after_trees (length tail.separator) (after_tree others)
          → fault_until until (leaf dollar rest) ≡ or_else (fault_until (until - size others) children) (fault_until until behind)
      repetition_sound variables delimiter children others behind tail begins same passed =
          let (other, is_mark) = marked_repetition (dollar_of rest) (mark rest variables) tail same in
          let there : repetition_in rest ≡ Some tail = tail_of_mark (repetition_in rest) (is_crate_in rest) (variable_in variables rest) (is_at_punct (60 ∷ []) (after_tree rest)) tail is_mark in
          left None (Some tail) other there
          ∙ ap (fault_behind until (suc (tail_length tail))) begins
          ∙ ap (or_else (fault_until (until - size others) children)) (tail_passed others tail (if_some (is_parenthesis delimiter.kind) (tail_in others) tail (sym (ap repetition_in begins) ∙ there)) ∙ ap (fault_until until) (sym passed))
