-- Trees expand to one thing, if no finding names a limit of trees.
use Rattle.std.proofs.Common.{◌≡◌, ◌⊎◌, ℕ, zero, suc, Bool, false, List, Option, None, Some, inl, inr, ap, ap₂, sym, subst, subst₂, refl, ◌∙◌}
use Rattle.tt.specs.Forest.{Forest, Root, leaf, node}
use Rattle.tt.specs.Span.{start_of}
use Rattle.expand_items.specs.declared.position.Position.{Position}
use Rattle.expand_items.specs.Items.{Call, defines, inactive, other}
use Rattle.expand_items.specs.Positions.{keeps_macros}
use Rattle.expand_text.specs.declared.fault.MacroFault.{MacroFault}
use Rattle.expand_text.specs.CallSites.{PutIn, IsKept}
use Rattle.expand_text.specs.Capturing.{IsCaptureFound}
use Rattle.expand_text.specs.Contexts.{Config, Context, outside_call, tokens_left, with_finding}
use Rattle.expand_text.specs.Limits.{names_limit, KeepLimits}
use Rattle.expand_text.specs.Expecting.{IsExpectedFor}
use Rattle.expand_text.specs.Macros.{IsCallFault, MayBePut, Writes, called_by, arms_of, found_expecting, found_of}
use Rattle.expand_text.specs.Meaning.{ExpandsTo, ends, on_leaf, on_node, on_definition, on_inactive, on_other_call, into_other_call, into_attributes, on_faulty_call, on_call, on_kept_call, context_after, begun_by, site_in, entered_in, begin_in, becomes_in, stays_in, body_in}
use Rattle.expand_text.specs.Outcomes.{Outcome, passes, enters, stays, trees_left}
use Rattle.expand_text.specs.Scopes.{Macro}
use Rattle.expand_text.proofs.Beginning.{plain_first, end_first, item_first, Leaves, IsWrong, Changes, Stays, Settles, Tries, goes_out, begins_by, begins_call}
use Rattle.expand_text.proofs.KeptLimits.{keep_found, keep_inside, keep_before}
use Rattle.expand_text.proofs.OneCapture.{one_capture}
use Rattle.expand_text.proofs.OneExpected.{one_expected}
use Rattle.expand_text.proofs.OneFault.{one_read, one_tree, no_fault, one_fault}
use Rattle.expand_text.proofs.OneKept.{one_kept, never_kept}
use Rattle.expand_text.proofs.OnePlacing.{one_shown}
use Rattle.mbe_pattern.specs.Units.{front_trees}
use Rattle.mbe_rules.specs.Arms.{Arm}

-- The same is known before.
moved : {config : Config} {in_text : Bool} {limit plain : ℕ} {position : Position} {a b after : Context} {trees : Forest} {outcome : Outcome} → a ≡ b
    → ExpandsTo config in_text limit position plain b trees after outcome → ExpandsTo config in_text limit position plain a trees after outcome
moved {config = config} {in_text = in_text} {limit = limit} {plain = plain} {position = position} {after = after} {trees = trees} {outcome = outcome} same it =
    subst (λ c. ExpandsTo config in_text limit position plain c trees after outcome) (sym same) it

-- A macro that a call names is one.
one_called : (config : Config) (context : Context) (it : Call) (a b : Macro) → called_by config context it ≡ Some a → called_by config context it ≡ Some b → a ≡ b
one_called config context it a b is was =
    let both : Some a ≡ Some b = sym is ∙ was in
    cc both

-- The same names are captured.
same_noted : (position : Position) (context : Context) (it : Call) (trees : Forest) (macro : Macro) (tree made : Root) (noted : Context) (its : Macro) (known : Context)
    → tree ≡ made → macro ≡ its → IsCaptureFound macro.defined_at it (begun_by position it trees) (body_in position it trees tree) context noted
    → IsCaptureFound its.defined_at it (begun_by position it trees) (body_in position it trees made) context known → noted ≡ known
same_noted position context it trees macro tree made noted its known filled one captures captured =
    one_capture macro.defined_at it (begun_by position it trees) (body_in position it trees tree) context noted known captures
    (subst (λ m. IsCaptureFound m.defined_at it (begun_by position it trees) (body_in position it trees tree) context known) (sym one)
    (subst (λ t. IsCaptureFound its.defined_at it (begun_by position it trees) (body_in position it trees t) context known) (sym filled) captured))

-- The same expansion expands to the same.
same_held : (config : Config) (left : ℕ) (position : Position) (it : Call) (trees : Forest) (tree made : Root) (noted known inside : Context) (held : Outcome) → tree ≡ made → noted ≡ known
    → ExpandsTo config false left (begun_by position it trees) 0 (entered_in config it trees made known) (body_in position it trees made) inside held
    → ExpandsTo config false left (begun_by position it trees) 0 (entered_in config it trees tree noted) (body_in position it trees tree) inside held
same_held config left position it trees tree made noted known inside held filled same within =
    moved (ap₂ (entered_in config it trees) filled same)
    (subst (λ t. ExpandsTo config false left (begun_by position it trees) 0 (entered_in config it trees made known) (body_in position it trees t) inside held) (sym filled) within)

-- The same finding makes the same known.
same_found : (it : Call) (context : Context) (a b : Macro) (at place : ℕ) (found wrong : MacroFault) (first second : Option (List ℕ)) → a ≡ b → (at ≡ place) × (found ≡ wrong) → first ≡ second
    → with_finding (found_expecting it a at found first) context ≡ with_finding (found_expecting it b place wrong second) context
same_found it context a b at place found wrong first second macro same expected =
    ap (λ m. with_finding (found_expecting it m at found first) context) macro
    ∙ ap₂ (λ n f. with_finding (found_expecting it b n f first) context) same.0 same.1
    ∙ ap (λ e. with_finding (found_expecting it b place wrong e) context) expected

module _ (config : Config) (in_text : Bool) (position : Position) (context after : Context) (outcome : Outcome) (arms : List Arm) (it : Call) (trees : Forest) where
  -- If a call has a fault, it is not expanded.
  wrong_only : (limit at : ℕ) (fault : MacroFault) → IsCallFault limit (tokens_left config context) arms it at fault → names_limit fault ≡ false
      → IsWrong config in_text limit position context after outcome arms it trees ⊎ Tries config in_text limit position context after outcome limit arms it trees
      → IsWrong config in_text limit position context after outcome arms it trees
  wrong_only limit at fault bad free (inl so) = so
  wrong_only zero at fault bad free (inr so) = absurd so
  wrong_only (suc left) at fault bad free (inr so) = absurd (no_fault (tokens_left config context) arms it so.0 at fault so.6 bad free)

  -- If a call is expanded, it has no fault.
  tries_only : (left : ℕ) (tree : Root) → Writes (tokens_left config context) arms it tree → KeepLimits after.findings
      → IsWrong config in_text (suc left) position context after outcome arms it trees ⊎ Tries config in_text (suc left) position context after outcome (suc left) arms it trees
      → Tries config in_text (suc left) position context after outcome (suc left) arms it trees
  tries_only left tree makes keep (inl so) =
      absurd (no_fault (tokens_left config context) arms it tree so.1 so.2 makes so.5 (keep_found (found_expecting it so.0 so.1 so.2 so.6) context (keep_before so.8 keep)).1)
  tries_only left tree makes keep (inr so) = so

  module _ (limit left : ℕ) (tree : Root) (noted inside : Context) (held : Outcome) where
    -- The findings of the expansion of a call name no limit.
    keep_held : KeepLimits after.findings → Settles config in_text limit position context after outcome left it trees tree noted inside held → KeepLimits inside.findings
    keep_held keep (inl so) = keep_before so.4 keep
    keep_held keep (inr so) = (keep_found (found_of it so.0 so.1 so.2) (outside_call noted inside) (keep_before so.6 keep)).0

    -- A call that may be replaced is.
    changes_only : (put : Forest) → PutIn in_text (site_in position it trees tree) (trees_left held) put → MayBePut in_text it.delimiter put → KeepLimits after.findings
        → Settles config in_text limit position context after outcome left it trees tree noted inside held
        → Changes config in_text limit position context after outcome left it trees tree noted inside held
    changes_only put fits may keep (inl so) = so
    changes_only put fits may keep (inr so) =
        absurd (never_kept (site_in position it trees tree) (trees_left held) in_text put (start_of (begin_in it trees).range) so.1 so.2 so.5 fits may
        (keep_found (found_of it so.0 so.1 so.2) (outside_call noted inside) (keep_before so.6 keep)).1)

    -- A call that has a reason to stay does.
    stays_only : (at : ℕ) (fault : MacroFault) → IsKept in_text (site_in position it trees tree) (trees_left held) (start_of (begin_in it trees).range) at fault → names_limit fault ≡ false
        → Settles config in_text limit position context after outcome left it trees tree noted inside held
        → Stays config in_text limit position context after outcome left it trees tree noted inside held
    stays_only at fault kept free (inl so) = absurd (never_kept (site_in position it trees tree) (trees_left held) in_text so.0 (start_of (begin_in it trees).range) at fault kept so.2 so.3 free)
    stays_only at fault kept free (inr so) = so

  -- The same tree, in which the same names are captured, and which expands to the same, settles alike.
  same_settled : (limit left : ℕ) (tree made : Root) (noted known inside within : Context) (held others : Outcome) → tree ≡ made → noted ≡ known → inside ≡ within → held ≡ others
      → Settles config in_text limit position context after outcome left it trees made known within others
      → Settles config in_text limit position context after outcome left it trees tree noted inside held
  same_settled limit left tree made noted known inside within held others filled same one that so =
      subst₂ (λ t n. Settles config in_text limit position context after outcome left it trees t n inside held) (sym filled) (sym same)
      (subst₂ (λ i h. Settles config in_text limit position context after outcome left it trees made known i h) (sym one) (sym that) so)

-- Trees expand to one thing, and one thing is known then.
pub one_outcome : {config : Config} {in_text : Bool} {limit plain : ℕ} {position : Position} {context after again : Context} {trees : Forest} {outcome that : Outcome}
    → ExpandsTo config in_text limit position plain context trees after outcome → ExpandsTo config in_text limit position plain context trees again that
    → KeepLimits after.findings → KeepLimits again.findings → (after ≡ again) × (outcome ≡ that)
one_outcome {config = config} (ends {plain = plain} {position = position} {context = context}) second x y =
    let go = begins_by second other (end_first config context position plain) in
    (sym go.0, sym go.1)
one_outcome {config = config} (on_leaf {plain = plain} {position = position} {context = context} {it = it} {rest = rest} is behind) second x y =
    let go = begins_by second other (plain_first config context position plain (leaf it rest) is) in
    let same = one_outcome behind go.1 x y in
    (same.0, ap (passes it) same.1 ∙ sym go.2)
one_outcome {config = config} (on_node {plain = plain} {position = position} {context = context} {inside = inside} {delimiter = delimiter} {children = children} {rest = rest} is within behind) second x y =
    let go = begins_by second other (plain_first config context position plain (node delimiter children rest) is) in
    let kept = keeps_macros delimiter.kind children position in
    let one = one_outcome within go.3 (keep_inside kept context inside (keep_before behind x)) (keep_inside kept context go.0 (keep_before go.4 y)) in
    let same = one_outcome behind (moved (ap (context_after kept context) one.0) go.4) x y in
    (same.0, ap₂ (enters delimiter) one.1 same.1 ∙ sym go.5)
one_outcome {config = config} (on_definition {position = position} {context = context} {it = it} {trees = trees} inside going is read behind) second x y =
    let go = begins_by second (defines it) (item_first config context position trees (defines it) going is) in
    let known = one_read config position it context inside go.0 read go.2 (keep_before behind x) (keep_before go.3 y) in
    let same = one_outcome behind (moved known go.3) x y in
    (same.0, ap (stays (front_trees it.len trees)) same.1 ∙ sym go.4)
one_outcome {config = config} (on_inactive {len = len} {position = position} {context = context} {trees = trees} going is behind) second x y =
    let go = begins_by second (inactive len) (item_first config context position trees (inactive len) going is) in
    let same = one_outcome behind go.1 x y in
    (same.0, ap (stays (front_trees len trees)) same.1 ∙ sym go.2)
one_outcome {config = config} {in_text = in_text} {limit = limit} {again = again} {that = that} (on_other_call {position = position} {context = context} {it = it} {trees = trees} going is bare none not_into behind) second x y =
    let go = subst₂ (λ n b. Leaves config in_text limit position context again that n b it trees) bare not_into (begins_call second it None going is none) in
    let same = one_outcome behind go.1 x y in
    (same.0, ap (stays (front_trees it.len trees)) same.1 ∙ sym go.2)
one_outcome {config = config} {in_text = in_text} {limit = limit} {again = again} {that = that} (into_other_call {position = position} {context = context} {it = it} {trees = trees} going is bare none into behind) second x y =
    let go = subst₂ (λ n b. Leaves config in_text limit position context again that n b it trees) bare into (begins_call second it None going is none) in
    one_outcome behind go x y
one_outcome {config = config} {in_text = in_text} {limit = limit} {again = again} {that = that} (into_attributes {position = position} {context = context} {it = it} {trees = trees} going is some none behind) second x y =
    let go = goes_out config in_text limit position context again that it.attributes config.everywhere it trees some (begins_call second it None going is none) in
    one_outcome behind go x y
one_outcome {config = config} {in_text = in_text} {limit = limit} {again = again} {that = that} (on_faulty_call {position = position} {context = context} {it = it} {macro = macro} {arms = arms} {trees = trees} at fault expected going is called expands bad wanted behind) second x y =
    let free = (keep_found (found_expecting it macro at fault expected) context (keep_before behind x)).1 in
    let go = wrong_only config in_text position context again that arms it trees limit at fault bad free (begins_call second it (Some arms) going is (ap arms_of called ∙ expands)) in
    let none = (keep_found (found_expecting it go.0 go.1 go.2 go.6) context (keep_before go.8 y)).1 in
    let one = one_fault (tokens_left config context) arms it limit at go.1 fault go.2 bad go.5 free none in
    let same_expected = one_expected arms it go.2 expected go.6 (subst (λ f. IsExpectedFor arms it f expected) one.1 wanted) go.7 in
    let known = same_found it context macro go.0 at go.1 fault go.2 expected go.6 (one_called config context it macro go.0 called go.4) one same_expected in
    let same = one_outcome behind (moved known go.8) x y in
    (same.0, ap (stays (front_trees it.len trees)) same.1 ∙ sym go.9)
one_outcome {config = config} {in_text = in_text} {again = again} {that = that} (on_call {limit = left} {position = position} {context = context} {noted = noted} {inside = inside} {it = it} {macro = macro} {arms = arms} {trees = trees} {held = held} tree put going is called expands makes captures within fits may behind) second x y =
    let go = tries_only config in_text position context again that arms it trees left tree makes y (begins_call second it (Some arms) going is (ap arms_of called ∙ expands)) in
    let filled = one_tree (tokens_left config context) arms it tree go.0 makes.0 go.6.0 in
    let same_there = same_noted position context it trees macro tree go.0 noted go.1 go.2 filled (one_called config context it macro go.1 called go.5) captures go.7 in
    let held_there = same_held config left position it trees tree go.0 noted go.2 go.3 go.4 filled same_there go.8 in
    let one = one_outcome within held_there (keep_before behind x) (keep_held config in_text position context again that arms it trees (suc left) left go.0 go.2 go.3 go.4 y go.9) in
    let so =
    changes_only config in_text position context again that arms it trees (suc left) left tree noted inside held put fits may y
    (same_settled config in_text position context again that arms it trees (suc left) left tree go.0 noted go.2 inside go.3 held go.4 filled same_there one.0 one.1 go.9) in
    let placed : put ≡ so.0 = one_shown in_text (site_in position it trees tree) (trees_left held) put so.0 fits so.2 in
    let same = one_outcome behind so.4 x y in
    (same.0, ap₂ (becomes_in position it trees tree) placed same.1 ∙ sym so.5)
one_outcome {config = config} {in_text = in_text} {again = again} {that = that} (on_kept_call {limit = left} {position = position} {context = context} {noted = noted} {inside = inside} {it = it} {macro = macro} {arms = arms} {trees = trees} {held = held} tree at fault going is called expands makes captures within kept behind) second x y =
    let go = tries_only config in_text position context again that arms it trees left tree makes y (begins_call second it (Some arms) going is (ap arms_of called ∙ expands)) in
    let filled = one_tree (tokens_left config context) arms it tree go.0 makes.0 go.6.0 in
    let same_there = same_noted position context it trees macro tree go.0 noted go.1 go.2 filled (one_called config context it macro go.1 called go.5) captures go.7 in
    let held_there = same_held config left position it trees tree go.0 noted go.2 go.3 go.4 filled same_there go.8 in
    let first = keep_found (found_of it macro at fault) (outside_call noted inside) (keep_before behind x) in
    let one = one_outcome within held_there first.0 (keep_held config in_text position context again that arms it trees (suc left) left go.0 go.2 go.3 go.4 y go.9) in
    let so =
    stays_only config in_text position context again that arms it trees (suc left) left tree noted inside held at fault kept first.1
    (same_settled config in_text position context again that arms it trees (suc left) left tree go.0 noted go.2 inside go.3 held go.4 filled same_there one.0 one.1 go.9) in
    let none = (keep_found (found_of it so.0 so.1 so.2) (outside_call noted inside) (keep_before so.6 y)).1 in
    let reason = one_kept (site_in position it trees tree) (trees_left held) in_text (start_of (begin_in it trees).range) at so.1 fault so.2 kept so.5 first.1 none in
    let known = same_found it (outside_call noted inside) macro so.0 at so.1 fault so.2 None None (one_called config context it macro so.0 called so.4) reason refl in
    let same = one_outcome behind (moved known so.6) x y in
    (same.0, ap (stays_in position it trees tree) same.1 ∙ sym so.7)
