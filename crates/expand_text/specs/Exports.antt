-- The macros that a text exports.
use Rattle.std.specs.Prelude.{◌≡◌, Bool, true, false, List, [], ◌∷◌}
use Rattle.tt.specs.Forest.{Forest}
use Rattle.expand_items.specs.Definitions.{Defined, AreDefinitions}
use Rattle.expand_items.specs.Positions.{begun}
use Rattle.expand_items.specs.declared.position.Siblings.TheVariants.{Items}
use Rattle.expand_text.specs.Contexts.{Config, Context, new_context}
use Rattle.expand_text.specs.Macros.{IsRead}
use Rattle.expand_text.specs.Scopes.{Macro}

-- a definition is read if it exports its macro
abbrev pub IsReadIfExported : (is_exported : Bool) → Config → Defined → (before after : Context) → Type 0
IsReadIfExported true config it before after = IsRead config it.position it.definition before after
IsReadIfExported false config it before after = after ≡ before

-- the same for all of them, in order
abbrev pub AreRead : Config → List Defined → (before after : Context) → Type 0
AreRead config [] before after = after ≡ before
AreRead config (it ∷ others) before after =
    (inside : Context) × IsReadIfExported it.position.is_exported config it before inside × AreRead config others inside after

-- the macros that a text of these trees exports: its definitions under `#[macro_export]` define them
abbrev pub AreExported : Config → Forest → List Macro → Type 0
AreExported config trees macros =
    (found : List Defined) × (after : Context) × AreDefinitions config.known config.root (begun Items) 0 trees found
    × AreRead config found (new_context []) after × (macros ≡ after.macros)
