-- A mention is noted.
use Rattle.std.proofs.Common.{◌≡◌, ◌∷◌, [], ℕ, Bool, true, false, cond, List, Option, None, Some, refl, sym, ap, ◌∙◌}
use Rattle.std.specs.Prelude.{◌||◌}
use Rattle.std.specs.Option.{option_or}
use Rattle.tt.specs.Types.Span.{Span}
use Rattle.tt.specs.Types.Ident.{Ident}
use Rattle.expand_hygiene.specs.declared.given.Given.{Given}
use Rattle.expand_hygiene.specs.declared.mention.BindingKind.{BindingKind}
use Rattle.expand_hygiene.specs.declared.mention.BindingKind.TheVariants.{Local, Label}
use Rattle.expand_hygiene.specs.declared.mention.Mention.{Mention}
use Rattle.expand_hygiene.specs.Captures.{first_span, is_given, names, same_ident}
use Rattle.expand_hygiene.specs.Given.{IsGiven, IsPartGiven, noted_span, is_noted}
use Rattle.expand_hygiene.proofs.Walking.{option_or-none}

-- A name that is noted behind others is the first of the rest.
pub noted_first : (b : Bool) (span : Span) (before other : Option Span) → option_or (option_or before (cond b (Some span) None)) other ≡ option_or before (cond b (Some span) other)
noted_first true span None other = refl
noted_first false span None other = refl
noted_first true span (Some it) other = refl
noted_first false span (Some it) other = refl

pub noted_ident : (b before other : Bool) → (cond b true before || other) ≡ (before || (b || other))
noted_ident true true other = refl
noted_ident true false other = refl
noted_ident false true other = refl
noted_ident false false other = refl

pub or-false : (b : Bool) → (b || false) ≡ b
or-false true = refl
or-false false = refl

-- If nothing is left, all is noted.
pub all_noted : (it : Given) (all : List Mention) → IsPartGiven it [] all → IsGiven it all
all_noted it all part =
    record {
      spans = λ kind name. sym (option_or-none (noted_span it kind name)) ∙ part.spans kind name;
      idents = λ ident. sym (or-false (is_noted it ident)) ∙ part.idents ident;
    }

-- After a mention is noted, the others are left.
pub add_noted : (old new : Given) (it : Mention) (others all : List Mention) →
    ((kind : BindingKind) (name : List ℕ) →
    noted_span new kind name ≡ option_or (noted_span old kind name) (cond (names kind name it) (Some it.ident.span) None)) →
    ((ident : Ident) → is_noted new ident ≡ cond (same_ident it.ident ident) true (is_noted old ident)) → IsPartGiven old (it ∷ others) all → IsPartGiven new others all
add_noted old new it others all spans idents part =
    record {
      spans = λ kind name.
          ap (λ found. option_or found (first_span others kind name)) (spans kind name)
          ∙ (noted_first (names kind name it) it.ident.span (noted_span old kind name) (first_span others kind name) ∙ part.spans kind name);
      idents = λ ident.
          ap (λ found. found || is_given others ident) (idents ident)
          ∙ (noted_ident (same_ident it.ident ident) (is_noted old ident) (is_given others ident) ∙ part.idents ident);
    }

-- The spans do not depend on the idents.
pub add_same : (noted : Given) (idents : _) (kind : BindingKind) (name : List ℕ) → noted_span (record noted { idents = idents }) kind name ≡ noted_span noted kind name
add_same noted idents Local name = refl
add_same noted idents Label name = refl
