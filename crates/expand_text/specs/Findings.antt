-- What findings are in the macros of a text.
use Rattle.std.specs.Prelude.{Bool, true, false}
use Rattle.expand_text.specs.declared.fault.MacroFault.{MacroFault}
use Rattle.expand_text.specs.declared.fault.MacroFault.TheVariants as wrong

-- a call has no fault, but is left as it is, or may mean something else than it did
abbrev pub is_warning : MacroFault → Bool
is_warning wrong.Left = true
is_warning wrong.BuiltIn = true
is_warning wrong.SeveralDefinitions = true
is_warning wrong.NotExported = true
is_warning (wrong.Captured binding) = true
is_warning wrong.Conditional = true
is_warning fault = false

-- no other call is expanded in the result of the call of the text
abbrev pub ends_call : MacroFault → Bool
ends_call wrong.TooDeep = true
ends_call wrong.OverMaxTokens = true
ends_call fault = false
