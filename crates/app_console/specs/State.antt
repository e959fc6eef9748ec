-- The state of the machine as a plain value.
use Rattle.std.specs.Coded.{Coded, code_by, coded×, coded_list, coded_option}
use Rattle.std.specs.Prelude.{ℕ, List, [], Option, None, Some, refl, replicate, slice_index_or, slice_set}
use Rattle.tt.specs.Building.{BuilderState}
use Rattle.tt.specs.BuildingCode.{builder_code}
use Rattle.tt_base.specs.Forest.{Root}
use Rattle.tt_base.specs.Unflat.{root_code}
use Rattle.tt_base.specs.contracts.token_tree.TokenTree.{the_row as token_row}
use Rattle.tt_base.specs.declared.token_tree.TokenTree.{TokenTree}

-- the slots, each empty or a tree; the list of tokens; and a builder, if there is one
pub record State : Type 0 where
  pub slots : List (Option Root)
  pub list : List TokenTree
  pub builder : Option BuilderState

-- sixteen empty slots, an empty list, and no builder
abbrev pub start : State
start = record { slots = replicate 16 None; list = []; builder = None }

-- the tree in a slot, if there is one
abbrev pub tree_in : State → ℕ → Option Root
tree_in state slot = slice_index_or state.slots slot None

-- the state with that tree in the slot
abbrev pub with_tree : State → ℕ → Root → State
with_tree state slot root = record state { slots = slice_set state.slots slot (Some root) }

-- the state with that builder instead of any other
abbrev pub with_builder : State → BuilderState → State
with_builder state builder = record state { builder = Some builder }

-- a state is stored as its two lists and its builder
abbrev pub state_code : Coded State
state_code =
    code_by (List (Option Root) × (List TokenTree × Option BuilderState))
    (coded× (coded_list (coded_option root_code)) (coded× (coded_list token_row.coded) (coded_option builder_code))) (λ s. (s.slots, (s.list, s.builder)))
    (λ p. record { slots = p.0; list = p.1.0; builder = p.1.1 }) (λ _. refl)
