-- What is read so far, and what is left to read, are all.
use Rattle.std.proofs.Common.{[], drop}
use Rattle.std.specs.Prelude.{map}
use Rattle.expand_items.specs.Definitions.{defined_of}
use Rattle.expand_text.specs.Contexts.{Context, IsContext, new_context, config_of}
use Rattle.expand_text.specs.Exports.{AreRead}
use Rattle.expand_text.proofs.exports.exported_macros.Given as goal

abbrev pub invariant-definitions : goal.invariant-definitions
invariant-definitions l =
    (inside : Context) × IsContext inside l.context
    × ((after : Context) → AreRead (config_of l.fn.config) (map defined_of (drop l.place l.definitions.items)) inside after
    → AreRead (config_of l.fn.config) (map defined_of l.definitions.items) (new_context []) after)
