-- The command that each line spells. A later command is one more case of each definition.
use Rattle.hex.specs.Hex.{IsBytes, encode_lower}
use Rattle.std.specs.Prelude.{◌≡◌, ℕ, ◌<◌, ◌^◌, List, [], ◌∷◌, codes, decimal, encode_utf8, All, IsUtf8, map}
use Rattle.std.specs.Char.{IsScalar}
use Rattle.tt_base.specs.Fits.{LeafFits, SpanFits, TokenFits}
use Rattle.tt_base.specs.Span.{span_text}
use Rattle.app_language.specs.declared.command.Command.{Command}
use Rattle.app_language.specs.declared.command.Command.TheVariants as command
use Rattle.app_language.specs.Reading.{IsOneLine, line_of}
use Rattle.app_language.specs.Token.{action_word, ActionFits, kind_word, leaf_words, token_words}
use Rattle.app_language.specs.Verb.{view_word}

-- how a command is spelled
abbrev pub spell : Command → List ℕ
spell (command.Item token) = line_of (codes "item") (token_words token ∷ [])
spell command.Clear = line_of (codes "clear") []
spell (command.List slot) = line_of (codes "list") (decimal slot ∷ [])
spell (command.New delimiter) = line_of (codes "new") (kind_word delimiter.kind ∷ span_text delimiter.open_span ∷ span_text delimiter.close ∷ [])
spell (command.Open kind span) = line_of (codes "open") (kind_word kind ∷ span_text span ∷ [])
spell (command.Push leaf) = line_of (codes "push") (leaf_words leaf ∷ [])
spell (command.Close span) = line_of (codes "close") (span_text span ∷ [])
spell (command.Append slot) = line_of (codes "append") (decimal slot ∷ [])
spell (command.Alone slot) = line_of (codes "alone") (decimal slot ∷ [])
spell command.Unwrap = line_of (codes "unwrap") []
spell command.Point = line_of (codes "point") []
spell (command.Restore number) = line_of (codes "restore") (decimal number ∷ [])
spell command.Expected = line_of (codes "expected") []
spell command.Counts = line_of (codes "counts") []
spell (command.Build slot) = line_of (codes "build") (decimal slot ∷ [])
spell (command.Skip slot) = line_of (codes "skip") (decimal slot ∷ [])
spell (command.Copy to from) = line_of (codes "copy") (decimal to ∷ decimal from ∷ [])
spell (command.Kind slot kind) = line_of (codes "kind") (decimal slot ∷ kind_word kind ∷ [])
spell (command.Spans slot opens closes) = line_of (codes "spans") (decimal slot ∷ span_text opens ∷ span_text closes ∷ [])
spell (command.Set slot place leaf) = line_of (codes "set") (decimal slot ∷ decimal place ∷ leaf_words leaf ∷ [])
spell (command.Ids slot ids) = line_of (codes "ids") (decimal slot ∷ map decimal ids)
spell (command.Rewrite slot actions) = line_of (codes "rewrite") (decimal slot ∷ map action_word actions)
spell (command.Expand pattern template input to) = line_of (codes "expand") (decimal pattern ∷ decimal template ∷ decimal input ∷ decimal to ∷ [])
spell (command.Arms arms input to) = line_of (codes "arms") (decimal arms ∷ decimal input ∷ decimal to ∷ [])
spell (command.View view slot) = line_of (view_word view) (decimal slot ∷ [])
spell (command.Split slot char) = line_of (codes "split") (decimal slot ∷ encode_utf8 char ∷ [])
spell (command.Equal left right) = line_of (codes "equal") (decimal left ∷ decimal right ∷ [])
spell (command.Save slot) = line_of (codes "save") (decimal slot ∷ [])
spell (command.Load slot bytes) = line_of (codes "load") (decimal slot ∷ encode_lower bytes ∷ [])
spell (command.Read slot text) = line_of (codes "read") (decimal slot ∷ text ∷ [])
spell (command.Text slot) = line_of (codes "text") (decimal slot ∷ [])

-- a slot is below 16, a character is a character, a point's number has 64 bits, and other numbers and texts fit their types
abbrev pub CommandFits : Command → Type 0
CommandFits (command.Item token) = TokenFits token
CommandFits command.Clear = Unit {0}
CommandFits (command.List slot) = slot < 16
CommandFits (command.New delimiter) = SpanFits delimiter.open_span × SpanFits delimiter.close
CommandFits (command.Open kind span) = SpanFits span
CommandFits (command.Push leaf) = LeafFits leaf
CommandFits (command.Close span) = SpanFits span
CommandFits (command.Append slot) = slot < 16
CommandFits (command.Alone slot) = slot < 16
CommandFits command.Unwrap = Unit {0}
CommandFits command.Point = Unit {0}
CommandFits (command.Restore number) = number < 2 ^ 64
CommandFits command.Expected = Unit {0}
CommandFits command.Counts = Unit {0}
CommandFits (command.Build slot) = slot < 16
CommandFits (command.Skip slot) = slot < 16
CommandFits (command.Copy to from) = (to < 16) × (from < 16)
CommandFits (command.Kind slot kind) = slot < 16
CommandFits (command.Spans slot opens closes) = (slot < 16) × SpanFits opens × SpanFits closes
CommandFits (command.Set slot place leaf) = (slot < 16) × (place < 2 ^ 32) × LeafFits leaf
CommandFits (command.Ids slot ids) = (slot < 16) × All (λ id. id < 2 ^ 32) ids
CommandFits (command.Rewrite slot actions) = (slot < 16) × All ActionFits actions
CommandFits (command.Expand pattern template input to) = (pattern < 16) × (template < 16) × (input < 16) × (to < 16)
CommandFits (command.Arms arms input to) = (arms < 16) × (input < 16) × (to < 16)
CommandFits (command.View view slot) = slot < 16
CommandFits (command.Split slot char) = (slot < 16) × IsScalar char
CommandFits (command.Equal left right) = (left < 16) × (right < 16)
CommandFits (command.Save slot) = slot < 16
CommandFits (command.Load slot bytes) = (slot < 16) × IsBytes bytes
CommandFits (command.Read slot text) = (slot < 16) × IsUtf8 text
CommandFits (command.Text slot) = slot < 16

-- the line spells the command
pub record StandsFor (line : List ℕ) (command : Command) : Type 0 where
  pub one_line : IsOneLine line
  pub spelled : line ≡ spell command
  pub fits : CommandFits command

-- the line is no command
abbrev pub IsNoCommand : List ℕ → Type 0
IsNoCommand line = (command : Command) → StandsFor line command → ⊥
