-- The first binding of a template that captures a name of the input.
use Rattle.std.specs.Prelude.{◌≡◌, ◌⊎◌, ◌&&◌, ◌||◌, ℕ, Bool, true, false, List, [], ◌∷◌, Option, None, Some, option_map, bytes_eq, if◌then◌else◌}
use Rattle.std.specs.Option.{option_or}
use Rattle.tt.specs.Forest.{Forest}
use Rattle.tt.specs.Types.Ident.{Ident}
use Rattle.tt.specs.Types.Span.{Span}
use Rattle.tt_base.specs.contracts.ident.IdentPartialEq.TheImpl as ident_impl
use Rattle.mbe_grammar.specs.declared.event.Event.{Event}
use Rattle.mbe_grammar.specs.Derivations.{Derives, Place, Refuses, whole}
use Rattle.mbe_grammar.specs.Names.{Name, start, items, statements, expression}
use Rattle.mbe_grammar.specs.Table.{rust_rules}
use Rattle.expand_hygiene.specs.declared.captures.Capture.{Capture}
use Rattle.expand_hygiene.specs.declared.captures.ExpandTo.{ExpandTo}
use Rattle.expand_hygiene.specs.declared.captures.ExpandTo.TheVariants as to
use Rattle.expand_hygiene.specs.declared.mention.BindingKind.{BindingKind}
use Rattle.expand_hygiene.specs.declared.mention.BindingKind.TheVariants.{Local, Label}
use Rattle.expand_hygiene.specs.declared.mention.Mention.{Mention}
use Rattle.expand_hygiene.specs.Binders.{binders_in}
use Rattle.expand_hygiene.specs.Mentions.{mentions_in}

-- what an expansion is in the grammar
abbrev pub name_of : ExpandTo → Name
name_of to.Items = items
name_of to.Statements = statements
name_of to.Expr = expression

-- two idents have the same text and the same span
abbrev pub same_ident : Ident → Ident → Bool
same_ident = (ident_impl.ghosts).eq

-- the ident is one of the input
abbrev pub is_given : (input : List Mention) → Ident → Bool
is_given [] it = false
is_given (first ∷ more) it = same_ident first.ident it || is_given more it

abbrev pub same_kind : BindingKind → BindingKind → Bool
same_kind Local Local = true
same_kind Local Label = false
same_kind Label Local = false
same_kind Label Label = true

-- a mention has that kind and that name
abbrev pub names : BindingKind → (name : List ℕ) → Mention → Bool
names kind name it = same_kind it.kind kind && bytes_eq it.ident.sym name

-- the span of the first mention of a name
abbrev pub first_span : (input : List Mention) → BindingKind → (name : List ℕ) → Option Span
first_span [] kind name = None
first_span (first ∷ more) kind name = if names kind name first then Some first.ident.span else first_span more kind name

-- where the input has the name of an ident that the template wrote
abbrev pub captured_by : (input : List Mention) → BindingKind → Ident → Option Span
captured_by input kind it = if is_given input it then None else first_span input kind it.sym

-- what a binding captures
abbrev pub capture_of : (input : List Mention) → (binding : Mention) → Option Capture
capture_of input it =
    option_map (λ span. record { kind = it.kind; name = it.ident.sym; binding = it.ident.span; captured = span }) (captured_by input it.kind it.ident)

-- the first capture
abbrev pub first_capture : (input bindings : List Mention) → Option Capture
first_capture input [] = None
first_capture input (it ∷ more) = option_or (capture_of input it) (first_capture input more)

-- the first name of the input that the expansion captures. An expansion without a derivation captures none
abbrev pub IsCapture : ExpandTo → (input expansion : Forest) → Option Capture → Type 0
IsCapture to input expansion found =
    ((events : List Event) × Derives rust_rules (start (name_of to)) expansion events × (found ≡ first_capture (mentions_in input) (binders_in expansion events)))
    ⊎ ((at : Place) × Refuses rust_rules (whole (start (name_of to)) expansion) at × (found ≡ None))
