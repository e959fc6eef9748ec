-- Worked conditions, what is under them, and attributes of definitions. Each holds by computation.
use Rattle.std.proofs.Common.{◌≡◌, ℕ, true, false, None, Some, Bool, codes, refl}
use Rattle.tt.specs.Forest.{Forest, end, join}
use Rattle.tt.specs.Types.DelimiterKind.TheVariants.{Brace, Bracket}
use Rattle.tt.specs.Types.Spacing.TheVariants.{Alone}
use Rattle.tt_base.proofs.Samples.{punct, subtree}
use Rattle.expand_items.specs.Cfg.{Known}
use Rattle.expand_items.specs.Conditions.{attributes_say, behind_leaf_under, condition_says, is_open_condition}
use Rattle.expand_items.specs.Inactive.{IsInactive, active, elsewhere, is_part_inactive, is_rest_inactive, rest}
use Rattle.expand_items.specs.Positions.{begun, behind_subtree}
use Rattle.expand_items.specs.declared.position.Position.{Position}
use Rattle.expand_items.specs.declared.position.Siblings.TheVariants.{Items, Others}
use Rattle.expand_items.proofs.CfgRows.{all_known, list, loom, some_known, unix}
use Rattle.expand_items.proofs.Rows.{bang, behind_attribute, behind_word, m_item}
use Rattle.mbe_pattern.proofs.Rows.{word, alone, comma}

-- `cfg(..)` and `cfg_attr(..)` before others
abbrev cfg : Forest → Forest → Forest
cfg inside others = list (codes "cfg") inside others

abbrev cfg_attr : Forest → Forest → Forest
cfg_attr inside others = list (codes "cfg_attr") inside others

abbrev inline : Forest → Forest
inline others = word (codes "inline") others

-- `cfg` says what its predicate does. Another word is no condition, and `cfg` without parentheses is open.
true_condition : condition_says some_known (cfg (unix end) end) ≡ Some true
true_condition = refl

open_condition : condition_says some_known (cfg (loom end) end) ≡ None
open_condition = refl

false_condition : condition_says all_known (cfg (loom end) end) ≡ Some false
false_condition = refl

no_condition : condition_says all_known (inline end) ≡ Some true
no_condition = refl

bare_condition : condition_says all_known (word (codes "cfg") end) ≡ None
bare_condition = refl

-- `cfg_attr(unix, cfg(loom))` says what `cfg(loom)` does, and `cfg_attr(loom, cfg(loom))` what `any(not(loom), loom)` does.
attribute_applies : condition_says all_known (cfg_attr (unix (comma (cfg (loom end) end))) end) ≡ Some false
attribute_applies = refl

attribute_open : condition_says some_known (cfg_attr (unix (comma (cfg (loom end) end))) end) ≡ None
attribute_open = refl

attribute_left : condition_says all_known (cfg_attr (loom (comma (cfg (loom end) end))) end) ≡ Some true
attribute_left = refl

attribute_may_apply : condition_says some_known (cfg_attr (loom (comma (cfg (loom end) end))) end) ≡ None
attribute_may_apply = refl

attribute_true : condition_says some_known (cfg_attr (loom (comma (cfg (unix end) end))) end) ≡ Some true
attribute_true = refl

-- In `cfg_attr(unix, inline, cfg(loom))` the last counts; `cfg_attr(loom, inline)` and `cfg_attr(unix, doc(cfg(loom)))` are no conditions.
last_attribute : condition_says all_known (cfg_attr (unix (comma (inline (comma (cfg (loom end) end))))) end) ≡ Some false
last_attribute = refl

other_attribute : condition_says some_known (cfg_attr (loom (comma (inline end))) end) ≡ Some true
other_attribute = refl

inner_words : condition_says all_known (cfg_attr (unix (comma (list (codes "doc") (cfg (loom end) end) end))) end) ≡ Some true
inner_words = refl

-- A `cfg_attr` in another one is open if that applies. `cfg_attr` without parentheses is open, and so is one without a predicate.
attribute_in_attribute : condition_says all_known (cfg_attr (unix (comma (cfg_attr (loom (comma (inline end))) end))) end) ≡ None
attribute_in_attribute = refl

attribute_in_none : condition_says all_known (cfg_attr (loom (comma (cfg_attr (loom (comma (inline end))) end))) end) ≡ Some true
attribute_in_none = refl

bare_attribute : condition_says all_known (word (codes "cfg_attr") end) ≡ None
bare_attribute = refl

no_predicate : condition_says all_known (cfg_attr (comma (cfg (loom end) end)) end) ≡ None
no_predicate = refl

-- `#[..]` before others
abbrev outer : Forest → Forest → Forest
outer inside others = alone 35 (join (subtree Bracket inside) others)

-- Several attributes say what `all` makes of them, and no attribute says true; so does an inner one.
no_attribute : attributes_say all_known m_item ≡ Some true
no_attribute = refl

second_attribute : attributes_say all_known (outer (inline end) (outer (cfg (loom end) end) m_item)) ≡ Some false
second_attribute = refl

two_conditions : attributes_say some_known (outer (cfg (unix end) end) (outer (cfg (loom end) end) m_item)) ≡ None
two_conditions = refl

one_false : attributes_say some_known (outer (cfg (loom end) end) (outer (cfg (word (codes "false") end) end) m_item)) ≡ Some false
one_false = refl

inner_attribute : attributes_say all_known (alone 35 (bang (join (subtree Bracket (cfg (loom end) end)) m_item))) ≡ Some true
inner_attribute = refl

-- A condition that is not known to be true begins with the `#` of `#[cfg(loom)]`, not with those of `#[cfg(unix)]`, `#[inline]` and `#![cfg(loom)]`,
-- and not with another sign.
abbrev begins : Known → ℕ → Forest → Bool
begins known sign trees = is_open_condition known (punct sign Alone) trees

open_begins : begins some_known 35 (subtree Bracket (cfg (loom end) end)) ≡ true
open_begins = refl

false_begins : begins all_known 35 (subtree Bracket (cfg (loom end) end)) ≡ true
false_begins = refl

true_begins : begins some_known 35 (subtree Bracket (cfg (unix end) end)) ≡ false
true_begins = refl

inline_begins : begins some_known 35 (subtree Bracket (inline end)) ≡ false
inline_begins = refl

inner_begins : begins some_known 35 (bang (subtree Bracket (cfg (loom end) end))) ≡ false
inner_begins = refl

other_sign : begins some_known 59 (subtree Bracket (cfg (loom end) end)) ≡ false
other_sign = refl

-- After `#[cfg(unix)]` no condition is in force, and after `#[cfg(loom)]` one is.
abbrev behind_cfg : Forest → Position
behind_cfg inside = behind_subtree Bracket (behind_leaf_under some_known (punct 35 Alone) (subtree Bracket (cfg inside end)) (begun Items))

not_open : (behind_cfg (unix end)).is_open ≡ false
not_open = refl

still_open : (behind_cfg (loom end)).is_open ≡ true
still_open = refl

-- `#[macro_export]` and `#[rustc_builtin_macro(m)]` precede also with another attribute between, and not before a word.
exported : (behind_attribute (codes "inline") (behind_attribute (codes "macro_export") (begun Items))).is_exported ≡ true
exported = refl

exported_earlier : (behind_word (codes "a") (behind_attribute (codes "macro_export") (begun Items))).is_exported ≡ false
exported_earlier = refl

not_exported : (behind_attribute (codes "macro_use") (begun Items)).is_exported ≡ false
not_exported = refl

built_in : (behind_attribute (codes "rustc_builtin_macro") (begun Items)).is_built_in ≡ true
built_in = refl

built_in_list : (behind_subtree Bracket (behind_leaf_under some_known (punct 35 Alone) (subtree Bracket (list (codes "rustc_builtin_macro") (word (codes "m") end) end)) (begun Items))).is_built_in ≡ true
built_in_list = refl

built_in_earlier : (behind_subtree Brace (behind_attribute (codes "rustc_builtin_macro") (begun Items))).is_built_in ≡ false
built_in_earlier = refl

not_built_in : (behind_attribute (codes "macro_export") (begun Items)).is_built_in ≡ false
not_built_in = refl

-- `#[inline] #[cfg(loom)] m!();` is inactive if `loom` is false, and not if it is open.
part_inactive : is_part_inactive all_known (outer (inline end) (outer (cfg (loom end) end) m_item)) ≡ true
part_inactive = refl

part_open : is_part_inactive some_known (outer (cfg (loom end) end) m_item) ≡ false
part_open = refl

-- After `#![cfg(loom)]` all that is left is inactive if `loom` is false: seven trees of `#![cfg(loom)] m!();`. Else nothing is, and neither
-- is behind `#![inline]` or where no item begins.
abbrev inner : Forest → Forest
inner inside = alone 35 (bang (join (subtree Bracket inside) m_item))

rest_inactive : IsInactive all_known (begun Items) (inner (cfg (loom end) end)) (Some 7)
rest_inactive = rest refl refl

rest_open : IsInactive some_known (begun Items) (inner (cfg (loom end) end)) None
rest_open = active refl refl

rest_inline : is_rest_inactive all_known (inner (inline end)) ≡ false
rest_inline = refl

elsewhere_active : IsInactive all_known (begun Others) (inner (cfg (loom end) end)) None
elsewhere_active = elsewhere refl

-- Without an attribute, and behind the first of two, nothing is inactive.
bare_active : IsInactive all_known (begun Items) m_item None
bare_active = elsewhere refl

behind_active : IsInactive all_known (behind_attribute (codes "inline") (begun Items)) (outer (cfg (loom end) end) m_item) None
behind_active = elsewhere refl
