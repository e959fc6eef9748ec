-- How trees expand, by what comes first.
use Rattle.std.proofs.Common.{◌≡◌, ◌⊎◌, ◌<◌, ◌-◌, ℕ, zero, suc, Bool, true, false, List, Option, None, Some, inl, inr, refl, ap, sym, subst, subst₂, ◌∙◌, arith}
use Rattle.tt.specs.Forest.{Forest, Root, end, leaf, node}
use Rattle.tt.specs.Gluing.{after_trees}
use Rattle.tt.specs.Span.{start_of}
use Rattle.expand_items.specs.declared.position.Position.{Position}
use Rattle.expand_items.specs.Conditions.{behind_leaf_under}
use Rattle.expand_items.specs.Inactive.{IsItemAt}
use Rattle.expand_items.specs.Items.{Item, Definition, Call, defines, calls, inactive, other}
use Rattle.expand_items.specs.Positions.{first_inside, behind, behind_subtree, keeps_macros}
use Rattle.expand_items.proofs.ItemsAt.{end_other, one_item}
use Rattle.expand_text.specs.Capturing.{IsCaptureFound}
use Rattle.expand_text.specs.declared.fault.MacroFault.{MacroFault}
use Rattle.expand_text.specs.CallSites.{PutIn, IsKept}
use Rattle.expand_text.specs.Contexts.{Config, Context, outside_call, tokens_left, with_finding}
use Rattle.expand_text.specs.Expecting.{IsExpectedFor}
use Rattle.expand_text.specs.Macros.{IsRead, IsCallFault, MayBePut, Writes, called_by, arms_of, found_expecting, found_of, context_behind}
use Rattle.expand_text.specs.Meaning.{ExpandsTo, ends, on_leaf, on_node, on_definition, on_inactive, on_other_call, into_other_call, into_attributes, on_faulty_call, on_call, on_kept_call, IsPlain, plain_behind, plain_behind_part, context_after, behind_call, rest_in, behind_in, begun_by, site_in, entered_in, begin_in, becomes_in, stays_in, body_in}
use Rattle.expand_text.specs.Outcomes.{Outcome, nothing, passes, enters, stays, trees_left}
use Rattle.expand_text.specs.Scopes.{Macro}
use Rattle.mbe_pattern.specs.Units.{front_trees, is_brace}
use Rattle.mbe_rules.specs.Arms.{Arm}

-- the item at a position, or nothing if no call is expanded any more
abbrev pub IsItemUnless : (is_over : Bool) → Config → Position → Forest → Item → Type 0
IsItemUnless true config position trees it = it ≡ other
IsItemUnless false config position trees it = IsItemAt config.known config.root position trees it

-- the item that comes first, if the first tree is not taken as it is
abbrev pub IsFirstItem : Config → Context → Position → (plain : ℕ) → Forest → Item → Type 0
IsFirstItem config context position zero trees it = IsItemUnless context.is_over config position trees it
IsFirstItem config context position (suc plain) trees it = it ≡ other

-- There is one.
pub one_first : (config : Config) (context : Context) (position : Position) (plain : ℕ) (trees : Forest) (a b : Item) → IsFirstItem config context position plain trees a
    → IsFirstItem config context position plain trees b → a ≡ b
one_first config context position (suc plain) trees a b is was = is ∙ sym was
one_first config context position zero trees a b is was = by context.is_over is was
  where
    by : (over : Bool) → IsItemUnless over config position trees a → IsItemUnless over config position trees b → a ≡ b
    by true is was = is ∙ sym was
    by false is was = one_item is was

-- It is none if the first tree is taken as it is.
pub plain_first : (config : Config) (context : Context) (position : Position) (plain : ℕ) (trees : Forest) → IsPlain config context position plain trees
    → IsFirstItem config context position plain trees other
plain_first config context position (suc plain) trees is = refl
plain_first config context position zero trees (inl over) = subst (λ b. IsItemUnless b config position trees other) (sym over) refl
plain_first config context position zero trees (inr (inl more)) = absurd (omega (arith, more))
plain_first config context position zero trees (inr (inr is)) = by context.is_over
  where
    by : (b : Bool) → IsItemUnless b config position trees other
    by true = refl
    by false = is

-- At the end nothing comes first.
pub end_first : (config : Config) (context : Context) (position : Position) (plain : ℕ) → IsFirstItem config context position plain end other
end_first config context position (suc plain) = refl
end_first config context position zero = plain_first config context position zero end (inr (inr (end_other config.known config.root position)))

-- Otherwise it is the item at the position.
pub item_first : (config : Config) (context : Context) (position : Position) (trees : Forest) (item : Item) → context.is_over ≡ false
    → IsItemAt config.known config.root position trees item → IsFirstItem config context position zero trees item
item_first config context position trees item going is = subst (λ b. IsItemUnless b config position trees item) (sym going) is

module _ (config : Config) (in_text : Bool) (limit : ℕ) (position : Position) (context after : Context) (outcome : Outcome) where
  -- the first tree is taken as it is
  abbrev pub GoesPlain : (plain : ℕ) → Forest → Type 0
  GoesPlain plain end = (after ≡ context) × (outcome ≡ nothing)
  GoesPlain plain (leaf it rest) =
      (others : Outcome) × ExpandsTo config in_text limit (behind_leaf_under config.known it rest position) (plain_behind it rest plain) context rest after others × (outcome ≡ passes it others)
  GoesPlain plain (node delimiter children rest) =
      (inside : Context) × (held : Outcome) × (others : Outcome)
      × ExpandsTo config in_text limit (first_inside delimiter.kind rest position) 0 context children inside held
      × ExpandsTo config in_text limit (behind_subtree delimiter.kind position) (plain - 1) (context_after (keeps_macros delimiter.kind children position) context inside) rest after others
      × (outcome ≡ enters delimiter held others)

  -- a definition is read
  abbrev pub GoesPast : Definition → Forest → Type 0
  GoesPast it trees =
      (inside : Context) × (others : Outcome) × IsRead config position it context inside
      × ExpandsTo config in_text limit (behind true position) 0 inside (after_trees it.len trees) after others
      × (outcome ≡ stays (front_trees it.len trees) others)

  -- an item or a statement under a false condition is passed
  abbrev pub GoesPart : (len : ℕ) → Forest → Type 0
  GoesPart len trees =
      (others : Outcome) × ExpandsTo config in_text limit (behind true position) (plain_behind_part len trees) context (after_trees len trees) after others
      × (outcome ≡ stays (front_trees len trees) others)

  -- a call that no macro expands is passed or entered, or its attributes are
  abbrev pub Leaves : (attributes : ℕ) → (everywhere : Bool) → Call → Forest → Type 0
  Leaves zero false it trees =
      (others : Outcome)
      × ExpandsTo config in_text limit (behind (is_brace it.delimiter.kind) position) 0 (context_behind config it context) (behind_call it trees) after others
      × (outcome ≡ stays (front_trees it.len trees) others)
  Leaves zero true it trees = ExpandsTo config in_text limit position it.len (context_behind config it context) trees after outcome
  Leaves (suc more) everywhere it trees = ExpandsTo config in_text limit position it.attributes context trees after outcome

  -- a call has a fault
  abbrev pub IsWrong : List Arm → Call → Forest → Type 0
  IsWrong arms it trees =
      (macro : Macro) × (at : ℕ) × (fault : MacroFault) × (others : Outcome) × (called_by config context it ≡ Some macro)
      × IsCallFault limit (tokens_left config context) arms it at fault
      × (expected : Option (List ℕ)) × IsExpectedFor arms it fault expected
      × ExpandsTo config in_text limit (behind (is_brace it.delimiter.kind) position) 0 (with_finding (found_expecting it macro at fault expected) context) (behind_call it trees) after others
      × (outcome ≡ stays (front_trees it.len trees) others)

  -- a call with that expansion is replaced
  abbrev pub Changes : (left : ℕ) → Call → Forest → Root → (noted inside : Context) → (held : Outcome) → Type 0
  Changes left it trees tree noted inside held =
      (put : Forest) × (others : Outcome) × PutIn in_text (site_in position it trees tree) (trees_left held) put × MayBePut in_text it.delimiter put
      × ExpandsTo config in_text (suc left) (behind_in position it trees tree) 0 (outside_call noted inside) (rest_in position it trees tree) after others
      × (outcome ≡ becomes_in position it trees tree put others)

  -- a call with that expansion stays
  abbrev pub Stays : (left : ℕ) → Call → Forest → Root → (noted inside : Context) → (held : Outcome) → Type 0
  Stays left it trees tree noted inside held =
      (macro : Macro) × (at : ℕ) × (fault : MacroFault) × (others : Outcome) × (called_by config context it ≡ Some macro)
      × IsKept in_text (site_in position it trees tree) (trees_left held) (start_of (begin_in it trees).range) at fault
      × ExpandsTo config in_text (suc left) (behind_in position it trees tree) 0 (with_finding (found_of it macro at fault) (outside_call noted inside)) (rest_in position it trees tree) after others
      × (outcome ≡ stays_in position it trees tree others)

  -- the one or the other
  abbrev pub Settles : (left : ℕ) → Call → Forest → Root → (noted inside : Context) → (held : Outcome) → Type 0
  Settles left it trees tree noted inside held = Changes left it trees tree noted inside held ⊎ Stays left it trees tree noted inside held

  -- a call is expanded
  abbrev pub Tries : (limit : ℕ) → List Arm → Call → Forest → Type 0
  Tries zero arms it trees = ⊥
  Tries (suc left) arms it trees =
      (tree : Root) × (macro : Macro) × (noted inside : Context) × (held : Outcome) × (called_by config context it ≡ Some macro)
      × Writes (tokens_left config context) arms it tree
      × IsCaptureFound macro.defined_at it (begun_by position it trees) (body_in position it trees tree) context noted
      × ExpandsTo config false left (begun_by position it trees) 0 (entered_in config it trees tree noted) (body_in position it trees tree) inside held
      × Settles left it trees tree noted inside held

  -- a call
  abbrev pub Calls : Option (List Arm) → Call → Forest → Type 0
  Calls None it trees = Leaves it.attributes config.everywhere it trees
  Calls (Some arms) it trees = IsWrong arms it trees ⊎ Tries limit arms it trees

  -- how trees expand by the item that comes first
  abbrev pub Goes : (plain : ℕ) → Item → Forest → Type 0
  Goes plain other trees = GoesPlain plain trees
  Goes plain (defines it) trees = GoesPast it trees
  Goes plain (inactive len) trees = GoesPart len trees
  Goes plain (calls it) trees = Calls (arms_of (called_by config context it)) it trees

  -- The attributes of a call are entered, if it has some.
  goes_in : (attributes : ℕ) (everywhere : Bool) (it : Call) (trees : Forest) → 0 < attributes → ExpandsTo config in_text limit position it.attributes context trees after outcome
      → Leaves attributes everywhere it trees
  goes_in zero everywhere it trees some behind = absurd (omega (arith, some))
  goes_in (suc more) everywhere it trees some behind = behind

  pub goes_out : (attributes : ℕ) (everywhere : Bool) (it : Call) (trees : Forest) → 0 < attributes → Leaves attributes everywhere it trees
      → ExpandsTo config in_text limit position it.attributes context trees after outcome
  goes_out zero everywhere it trees some behind = absurd (omega (arith, some))
  goes_out (suc more) everywhere it trees some behind = behind

  -- trees expand by the item that comes first
  abbrev pub IsBegun : (plain : ℕ) → Forest → Type 0
  IsBegun plain trees = (item : Item) × IsFirstItem config context position plain trees item × Goes plain item trees

  -- It is a call, and its arms are known.
  calls_by : (it : Call) (arms : Option (List Arm)) (trees : Forest) → context.is_over ≡ false → IsItemAt config.known config.root position trees (calls it)
      → arms_of (called_by config context it) ≡ arms → Calls arms it trees → IsBegun zero trees
  calls_by it arms trees going is expands goes =
      (calls it, item_first config context position trees (calls it) going is, subst (λ a. Calls a it trees) (sym expands) goes)

  -- It has no attributes, and such calls are entered or not.
  bare_by : (everywhere : Bool) (it : Call) (trees : Forest) → it.attributes ≡ 0 → config.everywhere ≡ everywhere → Leaves zero everywhere it trees
      → Leaves it.attributes config.everywhere it trees
  bare_by everywhere it trees bare is goes = subst₂ (λ n b. Leaves n b it trees) (sym bare) (sym is) goes

-- Trees expand as what comes first says.
begins : {config : Config} {in_text : Bool} {limit plain : ℕ} {position : Position} {context after : Context} {trees : Forest} {outcome : Outcome}
    → ExpandsTo config in_text limit position plain context trees after outcome
    → IsBegun config in_text limit position context after outcome plain trees
begins {config = config} (ends {in_text = in_text} {limit = limit} {plain = plain} {position = position} {context = context}) =
    (other, end_first config context position plain, (refl, refl))
begins {config = config} (on_leaf {in_text = in_text} {limit = limit} {plain = plain} {position = position} {context = context} {after = after} {it = it} {rest = rest} {others = others} is behind) =
    (other, plain_first config context position plain (leaf it rest) is, (others, behind, refl))
begins {config = config} (on_node {in_text = in_text} {limit = limit} {plain = plain} {position = position} {context = context} {inside = inside} {after = after} {delimiter = delimiter} {children = children} {rest = rest} {held = held} {others = others} is within behind) =
    (other, plain_first config context position plain (node delimiter children rest) is, (inside, held, others, within, behind, refl))
begins {config = config} (on_definition {in_text = in_text} {limit = limit} {position = position} {context = context} {after = after} {it = it} {trees = trees} {others = others} inside going is read behind) =
    (defines it, item_first config context position trees (defines it) going is, (inside, others, read, behind, refl))
begins {config = config} (on_inactive {in_text = in_text} {limit = limit} {len = len} {position = position} {context = context} {after = after} {trees = trees} {others = others} going is behind) =
    (inactive len, item_first config context position trees (inactive len) going is, (others, behind, refl))
begins {config = config} (on_other_call {in_text = in_text} {limit = limit} {position = position} {context = context} {after = after} {it = it} {trees = trees} {others = others} going is bare none not_into behind) =
    let outcome = stays (front_trees it.len trees) others in
    calls_by config in_text limit position context after outcome it None trees going is none
    (bare_by config in_text limit position context after outcome false it trees bare not_into (others, behind, refl))
begins {config = config} (into_other_call {in_text = in_text} {limit = limit} {position = position} {context = context} {after = after} {it = it} {trees = trees} {others = others} going is bare none into behind) =
    calls_by config in_text limit position context after others it None trees going is none (bare_by config in_text limit position context after others true it trees bare into behind)
begins {config = config} (into_attributes {in_text = in_text} {limit = limit} {position = position} {context = context} {after = after} {it = it} {trees = trees} {others = others} going is some none behind) =
    calls_by config in_text limit position context after others it None trees going is none
    (goes_in config in_text limit position context after others it.attributes config.everywhere it trees some behind)
begins {config = config} (on_faulty_call {in_text = in_text} {limit = limit} {position = position} {context = context} {after = after} {it = it} {macro = macro} {arms = arms} {trees = trees} {others = others} at fault expected going is called expands bad wanted behind) =
    calls_by config in_text limit position context after (stays (front_trees it.len trees) others) it (Some arms) trees going is (ap arms_of called ∙ expands)
    (inl (macro, at, fault, others, called, bad, expected, wanted, behind, refl))
begins {config = config} (on_call {in_text = in_text} {limit = left} {position = position} {context = context} {noted = noted} {inside = inside} {after = after} {it = it} {macro = macro} {arms = arms} {trees = trees} {held = held} {others = others} tree put going is called expands makes captures within so may behind) =
    calls_by config in_text (suc left) position context after (becomes_in position it trees tree put others) it (Some arms) trees going is (ap arms_of called ∙ expands)
    (inr (tree, macro, noted, inside, held, called, makes, captures, within, inl (put, others, so, may, behind, refl)))
begins {config = config} (on_kept_call {in_text = in_text} {limit = left} {position = position} {context = context} {noted = noted} {inside = inside} {after = after} {it = it} {macro = macro} {arms = arms} {trees = trees} {held = held} {others = others} tree at fault going is called expands makes captures within kept behind) =
    calls_by config in_text (suc left) position context after (stays_in position it trees tree others) it (Some arms) trees going is (ap arms_of called ∙ expands)
    (inr (tree, macro, noted, inside, held, called, makes, captures, within, inr (macro, at, fault, others, called, kept, behind, refl)))

-- The item that comes first is known.
pub begins_by : {config : Config} {in_text : Bool} {limit plain : ℕ} {position : Position} {context after : Context} {trees : Forest} {outcome : Outcome}
    → ExpandsTo config in_text limit position plain context trees after outcome → (item : Item) → IsFirstItem config context position plain trees item
    → Goes config in_text limit position context after outcome plain item trees
begins_by {config = config} {in_text = in_text} {limit = limit} {plain = plain} {position = position} {context = context} {after = after} {trees = trees} {outcome = outcome} expands_to item is =
    let (first, was, goes) = begins expands_to in
    subst (λ i. Goes config in_text limit position context after outcome plain i trees) (one_first config context position plain trees first item was is) goes

-- A call and its arms are known.
pub begins_call : {config : Config} {in_text : Bool} {limit : ℕ} {position : Position} {context after : Context} {trees : Forest} {outcome : Outcome}
    → ExpandsTo config in_text limit position 0 context trees after outcome → (it : Call) (arms : Option (List Arm)) → context.is_over ≡ false
    → IsItemAt config.known config.root position trees (calls it) → arms_of (called_by config context it) ≡ arms
    → Calls config in_text limit position context after outcome arms it trees
begins_call {config = config} {in_text = in_text} {limit = limit} {position = position} {context = context} {after = after} {trees = trees} {outcome = outcome} expands_to it arms going is expands =
    subst (λ a. Calls config in_text limit position context after outcome a it trees) expands
    (begins_by expands_to (calls it) (item_first config context position trees (calls it) going is))
