-- Messages without a place.
use Rattle.std.specs.Prelude.{◌≡◌, ℕ, List, [], None}
use Rattle.syntax_diagnostic.specs.Diagnostic.{diagnostic_text}
use Rattle.syntax_diagnostic.specs.declared.diagnostic.Diagnostic.{Diagnostic}
use Rattle.syntax_diagnostic.specs.declared.level.Level.{Level}
use Rattle.syntax_diagnostic.specs.declared.paint.Style.{Style}

-- the text of a message without a place
pub record IsPlainText (style : Style) (level : Level) (message written : List ℕ) : Type 0 where
  pub it : Diagnostic
  pub level_is : it.level ≡ level
  pub message_is : it.message.now ≡ message
  pub no_spot : it.spot ≡ None
  pub no_notes : it.notes.items ≡ []
  pub no_placed_notes : it.placed_notes.items ≡ []
  pub is : written ≡ diagnostic_text style it
