-- The walk through the tokens of an expansion, step by step.
use Rattle.std.proofs.Common.{inl, inr, ◌≡◌, ◌+◌, ◌++◌, ◌∷◌, [], ℕ, zero, suc, Bool, true, false, cond, List, drop, Option, None, Some, option_map, option_to_list, refl, sym, ap, subst, ◌∙◌}
use Rattle.std.specs.Prelude.{◌==◌, ◌||◌, ◌⊎◌, MatchOption}
use Rattle.std.proofs.lemmas.List.{drop-drop}
use Rattle.std.specs.Option.{option_or}
use Rattle.tt.specs.Forest.{Forest, flat}
use Rattle.tt.specs.Token.{count_below}
use Rattle.tt.specs.Types.Ident.{Ident}
use Rattle.tt.specs.Types.Leaf.TheVariants as leaf
use Rattle.tt.specs.Types.TokenTree.{TokenTree}
use Rattle.tt.specs.Types.TokenTree.TheVariants as token
use Rattle.mbe_grammar.specs.declared.event.Event.{Event}
use Rattle.mbe_grammar.specs.declared.rule.Rule.{Rule}
use Rattle.mbe_grammar.specs.declared.event.Event.TheVariants as event
use Rattle.mbe_grammar.specs.Derivations.{Derives, Place, Refuses, whole}
use Rattle.mbe_grammar.specs.Names.{start, identifier_pattern, field_pattern, label}
use Rattle.mbe_grammar.specs.Table.{rust_rules}
use Rattle.mbe_grammar.specs.Words.{word_of, is_reserved}
use Rattle.expand_hygiene.specs.declared.captures.Capture.{Capture}
use Rattle.expand_hygiene.specs.declared.captures.ExpandTo.{ExpandTo}
use Rattle.expand_hygiene.specs.declared.given.Given.{Given}
use Rattle.expand_hygiene.specs.declared.mention.BindingKind.{BindingKind}
use Rattle.expand_hygiene.specs.declared.mention.BindingKind.TheVariants.{Local, Label}
use Rattle.expand_hygiene.specs.declared.mention.Mention.{Mention}
use Rattle.expand_hygiene.specs.Binders.{binders_in, binder_of, behind_trees, unit_binders, binders_among, innermost, outer}
use Rattle.expand_hygiene.specs.Captures.{captured_by, capture_of, first_capture, name_of, IsCapture}
use Rattle.expand_hygiene.specs.Mentions.{mention_of, begins_upper_case, mentions_in}
use Rattle.expand_hygiene.specs.Walks.{IsUncaptured, AreUncaptured, LeavesUnit, PassesTree, PassesUnit, PassesEvent, state}

pub option_or-assoc : {A : Type 0} (one two three : Option A) → option_or (option_or one two) three ≡ option_or one (option_or two three)
option_or-assoc None two three = refl
option_or-assoc (Some it) two three = refl

pub option_or-none : {A : Type 0} (it : Option A) → option_or it None ≡ it
option_or-none None = refl
option_or-none (Some it) = refl

-- What two lists of bindings capture is what the first does, or else what the second does.
pub capture-append : (input one two : List Mention) → first_capture input (one ++ two) ≡ option_or (first_capture input one) (first_capture input two)
capture-append input [] two = refl
capture-append input (it ∷ more) two =
    ap (option_or (capture_of input it)) (capture-append input more two) ∙ sym (option_or-assoc (capture_of input it) (first_capture input more) (first_capture input two))

-- Nothing is behind the last token.
pub unit-none : (name : Option ℕ) (count : ℕ) → unit_binders name count [] ≡ []
unit-none name zero = refl
unit-none name (suc count) = refl

pub behind-none : (count : ℕ) → behind_trees count [] ≡ []
behind-none zero = refl
behind-none (suc count) = refl

-- What tokens can capture that are left behind some.
pub uncaptured-drop : (input : List Mention) (count : ℕ) (tokens : List TokenTree) → AreUncaptured input tokens → AreUncaptured input (drop count tokens)
uncaptured-drop input zero tokens none = none
uncaptured-drop input (suc count) [] none = none
uncaptured-drop input (suc count) (it ∷ more) none = uncaptured-drop input count more none.1

pub uncaptured-behind : (input : List Mention) (count : ℕ) (tokens : List TokenTree) → AreUncaptured input tokens → AreUncaptured input (behind_trees count tokens)
uncaptured-behind input zero tokens none = none
uncaptured-behind input (suc count) [] none = none
uncaptured-behind input (suc count) (it ∷ more) none = uncaptured-behind input count (drop (count_below it) more) (uncaptured-drop input (count_below it) more none.1)

-- An ident that can capture nothing captures nothing as a local, nor as a label.
kinds : (input : List Mention) (kind : BindingKind) (it : Ident) → IsUncaptured input (token.Leaf (leaf.Ident it)) → captured_by input kind it ≡ None
kinds input Local it none = none.0
kinds input Label it none = none.1

abbrev ident_mention : (it : Ident) → BindingKind → Mention
ident_mention it kind = record { kind = kind; ident = it }

maybe_none : (input : List Mention) (it : Ident) (kind : Option BindingKind) → IsUncaptured input (token.Leaf (leaf.Ident it)) →
    first_capture input (option_to_list (option_map (ident_mention it) kind)) ≡ None
maybe_none input it None none = refl
maybe_none input it (Some kind) none =
    ap (λ found. option_or (option_map (λ span. record { kind = kind; name = it.sym; binding = it.span; captured = span }) found) None) (kinds input kind it none)

-- So a mention of it captures nothing.
pub mention_none : (input : List Mention) (quoted : Bool) (it : TokenTree) → IsUncaptured input it → first_capture input (option_to_list (mention_of quoted it)) ≡ None
mention_none input quoted (token.Leaf (leaf.Literal it)) none = refl
mention_none input quoted (token.Leaf (leaf.Punct it)) none = refl
mention_none input true (token.Leaf (leaf.Ident it)) none = maybe_none input it (Some Label) none
mention_none input false (token.Leaf (leaf.Ident it)) none = maybe_none input it (cond (is_reserved (word_of it) || begins_upper_case it.sym) None (Some Local)) none
mention_none input quoted (token.Subtree it) none = refl

choice_none : (input : List Mention) (b : Bool) (one two : Option Mention) → first_capture input (option_to_list one) ≡ None → first_capture input (option_to_list two) ≡ None →
    first_capture input (option_to_list (cond b one two)) ≡ None
choice_none input true one two first other = first
choice_none input false one two first other = other

pub binder_none : (input : List Mention) (name : Option ℕ) (it : TokenTree) → IsUncaptured input it → first_capture input (option_to_list (binder_of name it)) ≡ None
binder_none input None it none = refl
binder_none input (Some name) it none =
    let is_label = name == start label in
    let is_pattern = name == start identifier_pattern || name == start field_pattern in
    choice_none input is_label (mention_of true it) (cond is_pattern (mention_of false it) None) (mention_none input true it none)
    (choice_none input is_pattern (mention_of false it) None (mention_none input false it none) refl)

pub unit-uncaptured : (input : List Mention) (name : Option ℕ) (count : ℕ) (tokens : List TokenTree) → AreUncaptured input tokens →
    first_capture input (unit_binders name count tokens) ≡ None
unit-uncaptured input name zero tokens none = refl
unit-uncaptured input name (suc count) [] none = refl
unit-uncaptured input name (suc count) (it ∷ more) none =
    capture-append input (option_to_list (binder_of name it)) (unit_binders name count (drop (count_below it) more))
    ∙ (ap (λ found. option_or found (first_capture input (unit_binders name count (drop (count_below it) more)))) (binder_none input name it none.0)
    ∙ unit-uncaptured input name count (drop (count_below it) more) (uncaptured-drop input (count_below it) more none.1))

-- If no token can capture anything, then no binding does.
pub none_captured : (input : List Mention) (names : List ℕ) (tokens : List TokenTree) (events : List Event) → AreUncaptured input tokens →
    first_capture input (binders_among names tokens events) ≡ None
none_captured input names tokens [] none = refl
none_captured input names tokens (event.Enter name ∷ more) none = none_captured input (names ++ name ∷ []) tokens more none
none_captured input names tokens (event.Leave ∷ more) none = none_captured input (outer names) tokens more none
none_captured input names tokens (event.Token count ∷ more) none =
    capture-append input (unit_binders (innermost names) count tokens) (binders_among names (behind_trees count tokens) more)
    ∙ (ap (λ found. option_or found (first_capture input (binders_among names (behind_trees count tokens) more))) (unit-uncaptured input (innermost names) count tokens none)
    ∙ none_captured input names (behind_trees count tokens) more (uncaptured-behind input count tokens none))
none_captured input names tokens (event.Open ∷ more) none = none_captured input names (drop 1 tokens) more (uncaptured-drop input 1 tokens none)
none_captured input names tokens (event.Close ∷ more) none = none_captured input names tokens more none

-- One more token is passed.
next_is : (now : List TokenTree) (it : Option TokenTree) (new : List TokenTree) → MatchOption it ((now ≡ []) × (new ≡ [])) (λ first. now ≡ first ∷ new) → new ≡ drop 1 now
next_is now None new is = is.1 ∙ sym (ap (drop 1) is.0)
next_is now (Some first) new is = sym (ap (drop 1) is)

pub drop_next : (count : ℕ) (all now : List TokenTree) (it : Option TokenTree) (new : List TokenTree) → now ≡ drop count all →
    MatchOption it ((now ≡ []) × (new ≡ [])) (λ first. now ≡ first ∷ new) → new ≡ drop (count + 1) all
drop_next count all now it new left is = next_is now it new is ∙ (ap (drop 1) left ∙ drop-drop 1 count all)

-- One more tree of a unit is passed, and captures nothing, or something.
pub unit_step : (given : Given) (name : Option ℕ) (count left : ℕ) (old now new : List TokenTree) → LeavesUnit given name count (suc left) old now →
    PassesTree given name now None new → LeavesUnit given name count left old new
unit_step given name count left old now new leaves passes =
    record {
      captures = λ input is. sym (passes.captures input is left) ∙ leaves.captures input is;
      behind = sym (passes.behind left) ∙ leaves.behind;
    }

pub unit_found : (given : Given) (name : Option ℕ) (count left : ℕ) (old now new : List TokenTree) (found : Capture) → LeavesUnit given name count (suc left) old now →
    PassesTree given name now (Some found) new → PassesUnit given name count old (Some found) new
unit_found given name count left old now new found leaves passes =
    record { captures = λ input is. sym (passes.captures input is left) ∙ leaves.captures input is; behind = tt }

-- A unit is passed: the tokens behind it are left, or something is captured.
pub event_unit : (given : Given) (count : ℕ) (names : List ℕ) (old new : List TokenTree) (found : Option Capture) → PassesUnit given (innermost names) count old found new →
    PassesEvent given (event.Token count) (state names old) found (state names new)
event_unit given count names old new None passes input is more =
    capture-append input (unit_binders (innermost names) count old) (binders_among names (behind_trees count old) more)
    ∙ (ap (λ it. option_or it (first_capture input (binders_among names (behind_trees count old) more))) (sym (passes.captures input is))
    ∙ ap (λ tokens. first_capture input (binders_among names tokens more)) (sym passes.behind))
event_unit given count names old new (Some found) passes input is more =
    capture-append input (unit_binders (innermost names) count old) (binders_among names (behind_trees count old) more)
    ∙ ap (λ it. option_or it (first_capture input (binders_among names (behind_trees count old) more))) (sym (passes.captures input is))

-- An expansion in which no token can capture anything captures nothing.
pub judged : (to : ExpandTo) (input expansion : Forest) → AreUncaptured (mentions_in input) (flat expansion) →
    ((events : List Event) × Derives rust_rules (start (name_of to)) expansion events) ⊎ ((at : Place) × Refuses rust_rules (whole (start (name_of to)) expansion) at) →
    IsCapture to input expansion None
judged to input expansion none (inl (events, derives)) = inl (events, derives, sym (none_captured (mentions_in input) [] (flat expansion) events none))
judged to input expansion none (inr (at, refuses)) = inr (at, refuses, refl)

-- An expansion with a derivation captures what its bindings capture.
pub derived_captures : (to : ExpandTo) (input expansion trees : Forest) (rules : List Rule) (name : ℕ) (events : List Event) (found : Option Capture) → rules ≡ rust_rules →
    name ≡ start (name_of to) → trees ≡ expansion → Derives rules name trees events → found ≡ first_capture (mentions_in input) (binders_in trees events) →
    IsCapture to input expansion found
derived_captures to input expansion trees rules name events found table index whole derives is =
    let one : Derives rust_rules name trees events = subst (λ all. Derives all name trees events) table derives in
    let two : Derives rust_rules (start (name_of to)) trees events = subst (λ at. Derives rust_rules at trees events) index one in
    let three : Derives rust_rules (start (name_of to)) expansion events = subst (λ it. Derives rust_rules (start (name_of to)) it events) whole two in
    let same : found ≡ first_capture (mentions_in input) (binders_in expansion events) =
    subst (λ it. found ≡ first_capture (mentions_in input) (binders_in it events)) whole is in
    inl (events, three, same)

-- What an event captures is what all events capture, if those before it capture nothing.
pub event_found : (input : List Mention) (names : List ℕ) (tokens : List TokenTree) (now next : List Event) (all : List Mention) (found others : Option Capture) (it : Capture) →
    now ≡ next → found ≡ Some it → first_capture input (binders_among names tokens next) ≡ option_or found others →
    first_capture input (binders_among names tokens now) ≡ first_capture input all → Some it ≡ first_capture input all
event_found input names tokens now next all found others it same is passes left =
    sym (ap (λ one. option_or one others) is) ∙ (sym passes ∙ (sym (ap (λ events. first_capture input (binders_among names tokens events)) same) ∙ left))

-- An expansion without a derivation captures nothing.
pub refused_captures : (to : ExpandTo) (input expansion trees : Forest) (rules : List Rule) (name : ℕ) (at : Place) → rules ≡ rust_rules → name ≡ start (name_of to) → trees ≡ expansion
    → Refuses rules (whole name trees) at → IsCapture to input expansion None
refused_captures to input expansion trees rules name at table index same refuses =
    let one : Refuses rust_rules (whole name trees) at = subst (λ all. Refuses all (whole name trees) at) table refuses in
    let two : Refuses rust_rules (whole (start (name_of to)) trees) at = subst (λ n. Refuses rust_rules (whole n trees) at) index one in
    inr (at, subst (λ it. Refuses rust_rules (whole (start (name_of to)) it) at) same two, refl)
