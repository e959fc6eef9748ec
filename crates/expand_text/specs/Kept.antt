-- How many macros stay in scope after a subtree.
use Rattle.std.specs.Prelude.{ℕ, Bool, true, false, Option, None, Some}

-- all, if they are kept, or those that were there before it
abbrev pub kept_behind : (are_kept : Bool) → (macros : ℕ) → Option ℕ
kept_behind true macros = None
kept_behind false macros = Some macros
