-- Worked contexts of calls in one another. Each holds by computation.
use Rattle.std.proofs.Common.{◌≡◌, ℕ, true, false, List, [], ◌∷◌, Option, None, Some, codes, refl}
use Rattle.expand_items.specs.Cfg.{unknown}
use Rattle.expand_text.specs.Contexts.{Config, Context, inside_call, new_context, outside_call, tokens_left, with_finding}
use Rattle.expand_text.specs.declared.caller.Caller.{Caller}
use Rattle.expand_text.specs.declared.fault.Finding.{Finding}
use Rattle.expand_text.specs.declared.fault.MacroFault.{MacroFault}
use Rattle.expand_text.specs.declared.fault.MacroFault.TheVariants as wrong

-- ten tokens may be written for a call of the text
abbrev config : Config
config = record { known = unknown; root = codes "crate"; everywhere = false; max_tokens = 10; only = None; one_line = false }

-- a call of `t` at byte 7, for which an arm wrote six tokens, and in that a call of `u` at byte 2 with three tokens
abbrev text : Context
text = new_context []

abbrev first : Context
first = inside_call config (codes "t") 7 6 text

abbrev second : Context
second = inside_call config (codes "u") 2 3 first

-- Ten tokens are left in the text itself, then four, then one.
all_left : tokens_left config text ≡ 10
all_left = refl

some_left : tokens_left config first ≡ 4
some_left = refl

one_left : tokens_left config second ≡ 1
one_left = refl

abbrev caller : List ℕ → (at : ℕ) → Option ℕ → Caller
caller name at by = record { name = name; at = at; caller = by }

abbrev finding : MacroFault → Option ℕ → Finding
finding fault by = record { name = codes "u"; at = 2; fault = fault; defined_at = None; expected = None; caller = by }

-- Each call is listed behind the one that wrote it.
listed : second.callers ≡ caller (codes "t") 7 None ∷ caller (codes "u") 2 (Some 0) ∷ []
listed = refl

-- A finding in the text itself has no caller, and ends nothing.
found_in_text : (with_finding (finding wrong.TooDeep None) text).findings ≡ finding wrong.TooDeep None ∷ []
found_in_text = refl

goes_on_in_text : (with_finding (finding wrong.TooDeep None) text).is_over ≡ false
goes_on_in_text = refl

-- A finding inside has the innermost call. Only some faults end the expansion of the call of the text.
found_inside : (with_finding (finding wrong.NoMatch None) second).findings ≡ finding wrong.NoMatch (Some 1) ∷ []
found_inside = refl

goes_on : (with_finding (finding wrong.NoMatch None) second).is_over ≡ false
goes_on = refl

ends : (with_finding (finding wrong.OverMaxTokens None) second).is_over ≡ true
ends = refl

-- Behind a call in which nothing was found, it is no caller; what was written counts on.
nothing_found : (outside_call first second).callers ≡ caller (codes "t") 7 None ∷ []
nothing_found = refl

caller_again : (outside_call first second).caller ≡ Some 0
caller_again = refl

counts_on : tokens_left config (outside_call first second) ≡ 1
counts_on = refl

-- Behind one in which something was found, it stays a caller, and what has ended stays so.
abbrev ended : Context
ended = outside_call first (with_finding (finding wrong.TooDeep None) second)

stays_caller : ended.callers ≡ caller (codes "t") 7 None ∷ caller (codes "u") 2 (Some 0) ∷ []
stays_caller = refl

still_over : ended.is_over ≡ true
still_over = refl

-- Behind a call of the text, calls are expanded again, with as many tokens as before.
goes_on_behind : (outside_call text ended).is_over ≡ false
goes_on_behind = refl

left_again : tokens_left config (outside_call text ended) ≡ 10
left_again = refl
