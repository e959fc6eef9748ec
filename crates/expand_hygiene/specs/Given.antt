-- What is known of the mentions of an input.
use Rattle.std.specs.Prelude.{◌≡◌, ◌||◌, ◌&&◌, ℕ, Bool, List, Option, None, Some, bytes_eq, if◌then◌else◌}
use Rattle.std.specs.Option.{option_or}
use Rattle.tt.specs.Types.Ident.{Ident}
use Rattle.tt.specs.Types.Span.{Span}
use Rattle.indexmap.specs.IndexMap.{get}
use Rattle.indexmap.specs.IndexSet.{contains}
use Rattle.expand_hygiene.specs.declared.given.Given.{Given}
use Rattle.expand_hygiene.specs.declared.mention.BindingKind.{BindingKind}
use Rattle.expand_hygiene.specs.declared.mention.BindingKind.TheVariants.{Local, Label}
use Rattle.expand_hygiene.specs.declared.mention.Mention.{Mention}
use Rattle.expand_hygiene.specs.Captures.{first_span, is_given, same_ident, same_kind}

-- the span that is noted for a name
abbrev pub noted_span : Given → BindingKind → (name : List ℕ) → Option Span
noted_span it Local name = get bytes_eq it.locals name
noted_span it Label name = get bytes_eq it.labels name

-- an ident is noted
abbrev pub is_noted : Given → Ident → Bool
is_noted it ident = contains same_ident it.idents ident

-- what is noted are these mentions
pub record IsGiven (it : Given) (mentions : List Mention) : Type 0 where
  pub spans : (kind : BindingKind) (name : List ℕ) → noted_span it kind name ≡ first_span mentions kind name
  pub idents : (ident : Ident) → is_noted it ident ≡ is_given mentions ident

-- what is noted, and then these mentions, are all
pub record IsPartGiven (it : Given) (others all : List Mention) : Type 0 where
  pub spans : (kind : BindingKind) (name : List ℕ) → option_or (noted_span it kind name) (first_span others kind name) ≡ first_span all kind name
  pub idents : (ident : Ident) → (is_noted it ident || is_given others ident) ≡ is_given all ident

-- the span was noted for the name of that kind, unless one was noted
pub record NotesSpan (old : Given) (kind : BindingKind) (name : List ℕ) (span : Span) (new : Given) : Type 0 where
  pub spans : (other : BindingKind) (text : List ℕ) →
      noted_span new other text ≡ option_or (noted_span old other text) (if same_kind kind other && bytes_eq name text then Some span else None)
  pub idents : new.idents ≡ old.idents
