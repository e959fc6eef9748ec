-- Texts in which no call of a macro in scope is left.
use Rattle.std.specs.Prelude.{◌≡◌, ℕ, Bool, false, None}
use Rattle.tt.specs.Forest.{Forest}
use Rattle.expand_items.specs.declared.position.Position.{Position}
use Rattle.expand_text.specs.Contexts.{Config, Context}
use Rattle.expand_text.specs.Macros.{called_by}
use Rattle.expand_text.specs.Meaning.{ExpandsTo, ends, on_leaf, on_node, on_definition, on_inactive, on_other_call, into_other_call, into_attributes, on_faulty_call, on_call, on_kept_call}
use Rattle.expand_text.specs.Outcomes.{Outcome}

-- no call of a macro in scope is left, neither in the trees nor in what a call expands to: a tree is passed only while calls are expanded,
-- a call that stays names no macro in scope, and each other call is replaced
abbrev pub NoneIsLeft : {config : Config} {in_text : Bool} {limit plain : ℕ} {position : Position} {context after : Context} {trees : Forest} {outcome : Outcome}
    → ExpandsTo config in_text limit position plain context trees after outcome → Type 0
NoneIsLeft ends = Unit {0}
NoneIsLeft (on_leaf {context = context} plain others) = (context.is_over ≡ false) × NoneIsLeft others
NoneIsLeft (on_node {context = context} plain held others) = (context.is_over ≡ false) × NoneIsLeft held × NoneIsLeft others
NoneIsLeft (on_definition inside going is read others) = NoneIsLeft others
NoneIsLeft (on_inactive going is others) = NoneIsLeft others
NoneIsLeft {config = config} (on_other_call {context = context} {it = it} going is bare unexpanded not_into others) =
    (called_by config context it ≡ None) × NoneIsLeft others
NoneIsLeft {config = config} (into_other_call {context = context} {it = it} going is bare unexpanded into others) =
    (called_by config context it ≡ None) × NoneIsLeft others
NoneIsLeft (into_attributes going is some unexpanded others) = NoneIsLeft others
NoneIsLeft (on_faulty_call at fault expected going is called some faulty wanted others) = ⊥
NoneIsLeft (on_call tree put going is called some expands noted held so may others) = NoneIsLeft held × NoneIsLeft others
NoneIsLeft (on_kept_call tree at fault going is called some expands noted held kept others) = ⊥
