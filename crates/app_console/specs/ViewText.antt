-- The text of a tree in its forms.
use Rattle.std.specs.Prelude.{ℕ, ◌/◌, ◌%◌, false, List, [], ◌∷◌, ◌++◌, Option, Some, None, codes, decimal}
use Rattle.std.specs.Fmt.{digit_glyph}
use Rattle.std.specs.List.{flat_map}
use Rattle.tt.specs.DebugText.{debug}
use Rattle.tt.specs.Forest.{Root, flat, flat_root, only}
use Rattle.tt.specs.Gluing.{glued_sizes}
use Rattle.tt.specs.Siblings.{Tree}
use Rattle.tt.specs.Stored.{packed}
use Rattle.tt.specs.TreeText.{display, pretty}
use Rattle.tt.specs.Walk.{Event, passes, opens, closes, walk}
use Rattle.tt_base.specs.declared.span.SpanPart.{SpanPart}
use Rattle.tt_base.specs.declared.token_tree.TokenTree.{TokenTree}
use Rattle.tt_base.specs.declared.token_tree.TokenTree.TheVariants as token
use Rattle.app_language.specs.Token.{token_words}
use Rattle.app_language.specs.declared.command.view.View.{View}
use Rattle.app_language.specs.declared.command.view.View.TheVariants as view
use Rattle.app_console.specs.Answer.{line}
use Rattle.app_console.specs.Pieces.{pieces, tokens_in}

-- one line for each item, and then `end`
abbrev pub listed : {A : Type 0} → (A → List ℕ) → List A → List ℕ
listed text items = flat_map (λ item. line (text item)) items ++ line (codes "end")

-- two hexadecimal digits
abbrev pub hex_pair : ℕ → List ℕ
hex_pair byte = digit_glyph false (byte / 16) ∷ digit_glyph false (byte % 16) ∷ []

-- file:ast#ctx
abbrev pub part_text : SpanPart → List ℕ
part_text part = decimal part.anchor.file_id.0 ++ codes ":" ++ decimal part.anchor.ast_id.0 ++ codes "#" ++ decimal part.ctx.0

-- what is here: a token, or the end of a subtree
abbrev pub here_words : Option TokenTree → List ℕ
here_words None = codes "close"
here_words (Some token) = token_words token

-- an event of a walk
abbrev pub event_words : Event → List ℕ
event_words (passes it) = token_words (token.Leaf it)
event_words (opens subtree) = token_words (token.Subtree subtree)
event_words (closes subtree) = codes "close"

-- a space, and how many puncts come as one, or `x` if there is no punct
abbrev pub glued_size : Option ℕ → List ℕ
glued_size None = codes " x"
glued_size (Some count) = 32 ∷ decimal count

-- a tree in each of its forms
abbrev pub view_text : View → Root → List ℕ
view_text view.Show root = line (display (only root))
view_text view.Pretty root = line (pretty (only root))
view_text view.Debug root = line (debug (only root)) ++ line (codes "end")
view_text view.Flat root = listed token_words (flat_root root)
view_text view.Siblings root = listed token_words (flat root.children)
view_text view.Walk root = listed event_words (walk (only root))
view_text view.Glue root = line (codes "glue" ++ flat_map glued_size (glued_sizes root.children))
view_text view.Bytes root = line (flat_map hex_pair (packed root).bytes)
view_text view.Parts root = listed part_text (packed root).parts
view_text view.Symbols root = listed (λ symbol. symbol) (packed root).symbols

-- a space, and how many tokens the piece has
abbrev pub piece_size : List Tree → List ℕ
piece_size piece = 32 ∷ decimal (tokens_in piece)

-- how many tokens each piece between puncts of that character has, below the top
abbrev pub split_text : ℕ → Root → List ℕ
split_text char root = line (codes "split" ++ flat_map piece_size (pieces char root.children))
