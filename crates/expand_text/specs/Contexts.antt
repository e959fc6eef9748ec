-- What is known in a walk, and its setting.
use Rattle.std.specs.Prelude.{◌≡◌, ◌++◌, ◌-◌, ◌||◌, ◌&&◌, ℕ, Bool, true, false, List, [], ◌∷◌, length, take, Option, None, Some, is_some, bytes_eq, nat_eq, if◌then◌else◌}
use Rattle.expand_items.specs.Cfg.{Known, known_of}
use Rattle.expand_text.specs.declared.caller.Caller.{Caller}
use Rattle.expand_text.specs.declared.fault.Finding.{Finding}
use Rattle.expand_text.specs.declared.context.Context as context_in_code
use Rattle.expand_text.specs.declared.context.Outside.{Outside}
use Rattle.expand_text.specs.declared.config.Config as config_in_code
use Rattle.expand_text.specs.Findings.{ends_call}
use Rattle.expand_text.specs.Scopes.{Macro, AreReady, kept_of}

-- what is known of conditions, the root's word, whether calls that are not expanded are entered, how many tokens arms may write for one call
-- of the text, the only name whose macros are read and expanded, if not all are, and whether each expansion is written on one line
pub record Config : Type 0 where
  pub known : Known
  pub root : List ℕ
  pub everywhere : Bool
  pub max_tokens : ℕ
  pub only : Option (List ℕ)
  pub one_line : Bool

-- macros of that name are read and expanded
abbrev pub asks_for : (only : Option (List ℕ)) → (name : List ℕ) → Bool
asks_for None name = true
asks_for (Some it) name = bytes_eq it name

-- the macros in scope, those that the crate exports, the findings so far in order, whether no other call is expanded in the result of the call
-- of the text, the calls that wrote what has findings or is expanded now, the number of the one that wrote what is expanded now (none in the
-- text itself), and how many tokens more may be written for the call of the text
pub record Context : Type 0 where
  pub macros : List Macro
  pub exported : List Macro
  pub findings : List Finding
  pub is_over : Bool
  pub callers : List Caller
  pub caller : Option ℕ
  pub left : ℕ

-- nothing is known but the macros that the crate exports
abbrev pub new_context : (exported : List Macro) → Context
new_context exported = record { macros = []; exported = exported; findings = []; is_over = false; callers = []; caller = None; left = 0 }

-- one more macro is in scope
abbrev pub with_macro : Macro → Context → Context
with_macro it context = record context { macros = context.macros ++ it ∷ [] }

-- one finding more, in what the caller wrote: some faults end the expansion of the call of the text
abbrev pub with_finding : Finding → Context → Context
with_finding it context =
    record context {
      findings = context.findings ++ record it { caller = context.caller } ∷ [];
      is_over = context.is_over || (ends_call it.fault && is_some context.caller);
    }

-- how many tokens an arm may write for the next call: for a call of the text the limit, and then what is left of it
abbrev pub tokens_by : (caller : Option ℕ) → (max_tokens left : ℕ) → ℕ
tokens_by None max_tokens left = max_tokens
tokens_by (Some caller) max_tokens left = left

abbrev pub tokens_left : Config → Context → ℕ
tokens_left config context = tokens_by context.caller config.max_tokens context.left

-- what is known inside the expansion of a call of a macro of that name that begins at a byte, for which an arm wrote so many tokens
abbrev pub inside_call : Config → (name : List ℕ) → (at tokens : ℕ) → Context → Context
inside_call config name at tokens context =
    record context {
      callers = context.callers ++ record { name = name; at = at; caller = context.caller } ∷ [];
      caller = Some (length context.callers);
      left = tokens_left config context - tokens;
    }

-- what is known behind it: the call is no caller if nothing was found inside, and behind a call of the text calls are expanded again
abbrev pub outside_call : (before inside : Context) → Context
outside_call before inside =
    record inside {
      callers = if nat_eq (length inside.findings) (length before.findings) then take (length before.callers) inside.callers else inside.callers;
      caller = before.caller;
      is_over = inside.is_over && is_some before.caller;
    }

-- the first so many macros stay in scope, or all
abbrev pub left_in_scope : Option ℕ → Context → Context
left_in_scope kept context = record context { macros = kept_of kept context.macros }

-- what the values of the code mean
abbrev pub config_of : config_in_code.Config → Config
config_of it = record { known = known_of it.cfg.now; root = it.root; everywhere = it.everywhere; max_tokens = it.max_tokens; only = it.only; one_line = it.one_line }

pub record IsContext (context : Context) (it : context_in_code.Context) : Type 0 where
  pub macros : AreReady context.macros it.scope.macros.items
  pub exported : AreReady context.exported it.exported.macros.items
  pub findings : it.findings.items ≡ context.findings
  pub is_over : it.is_over ≡ context.is_over
  pub callers : it.callers.items ≡ context.callers
  pub caller : it.caller ≡ context.caller
  pub left : it.left ≡ context.left

-- what the code keeps of what is known before a call
pub record IsOutside (context : Context) (it : Outside) : Type 0 where
  pub findings : it.findings ≡ length context.findings
  pub callers : it.callers ≡ length context.callers
  pub caller : it.caller ≡ context.caller

-- a call wrote what is expanded now
abbrev pub HasCaller : context_in_code.Context → Type 0
HasCaller it = (number : ℕ) × (it.caller ≡ Some number)

-- the same call writes, and as many tokens more may be written
abbrev pub IsSameBudget : (old new : context_in_code.Context) → Type 0
IsSameBudget old new = (new.left ≡ old.left) × (new.caller ≡ old.caller)

-- whatever is known before, something is known after, and this holds of both
abbrev pub Learns : (old new : context_in_code.Context) → (This : (before after : Context) → Type 0) → Type 0
Learns old new This = (before : Context) → IsContext before old → (after : Context) × IsContext after new × This before after
