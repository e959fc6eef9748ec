-- A text in which other texts replace parts of it.
use Rattle.std.specs.Prelude.{◌≡◌, ◌⊎◌, ◌≤◌, ◌-◌, ◌++◌, ◌||◌, ◌&&◌, ◌==◌, ℕ, not, Bool, true, false, List, [], ◌∷◌, length, take, drop, slice_get, Option, None, Some, codes, string_bytes}
use Rattle.std.specs.List.{list_any}
use Rattle.std.specs.Str.{IsCharBoundary}
use Rattle.tt.specs.TreeText.{space_if}
use Rattle.syntax_edit.specs.Lines.{before_line, behind_line, without_line}
use Rattle.syntax_edit.specs.declared.output.Output.{Output}

-- white space and brackets: a token ends before such a byte, and one begins after it, whatever is around
abbrev pub apart_bytes : List ℕ
apart_bytes = codes " \t\n\r()[]{}"

-- a comma and a semicolon, and all puncts
abbrev pub separator_bytes : List ℕ
separator_bytes = codes ",;"

abbrev pub sign_bytes : List ℕ
sign_bytes = codes ",;.:@#~?$=!<>-&|+*/^%"

-- whether a byte is one of these
abbrev pub is_apart : ℕ → Bool
is_apart byte = list_any (λ it. it == byte) apart_bytes

abbrev pub is_separator : ℕ → Bool
is_separator byte = list_any (λ it. it == byte) separator_bytes

abbrev pub is_sign : ℕ → Bool
is_sign byte = list_any (λ it. it == byte) sign_bytes

-- whether a punct that touches a token with this first byte is joint: it is before a punct or a lifetime
abbrev pub is_joined_before : ℕ → Bool
is_joined_before byte = is_sign byte || (byte == 39)

-- whether two tokens that touch stay as they are, if one ends with the byte `last` and the other begins with the byte `first`
abbrev pub may_touch : (last first : ℕ) → Bool
may_touch last first =
    is_apart last || (is_apart first || ((is_separator first && not (is_sign last)) || (is_separator last && not (is_joined_before first))))

-- whether a space is needed between two texts, if one ends with a byte and the other begins with one
abbrev pub wants_space : Option ℕ → Option ℕ → Bool
wants_space None first = false
wants_space (Some last) None = false
wants_space (Some last) (Some first) = not (may_touch last first)

-- one text after the other, with a space between them if their tokens could become one, or a punct joint
abbrev pub joined : (before behind : List ℕ) → List ℕ
joined before behind = before ++ space_if (wants_space (slice_get before (length before - 1)) (slice_get behind 0)) ++ behind

-- One text after the other. If the line in which they meet is blank, it goes.
abbrev pub connected : (is_first is_last : Bool) → (before behind : List ℕ) → List ℕ
connected is_first is_last before behind = without_line (before_line is_first before) (behind_line is_last behind) (joined before behind)

-- what replaces the bytes from a place to another
pub record Replacement : Type 0 where
  pub start : ℕ
  pub end : ℕ
  pub text : List ℕ

-- the text that is written so far, the rest of the source, which begins at byte `at`, and whether a part was replaced
pub record Writing : Type 0 where
  pub so_far : List ℕ
  pub rest : List ℕ
  pub at : ℕ
  pub is_changed : Bool

-- the source up to a replacement is written as it is, and then the replacement
abbrev pub replaced : Replacement → Writing → Writing
replaced it writing =
    record {
      so_far = connected true false (connected writing.is_changed false writing.so_far (take (it.start - writing.at) writing.rest)) it.text;
      rest = drop (it.end - writing.at) writing.rest;
      at = it.end;
      is_changed = true;
    }

-- all of the source is written
abbrev pub finished : Writing → List ℕ
finished writing = connected writing.is_changed true writing.so_far writing.rest

-- a range of a text that splits no character
pub record IsRange (text : List ℕ) (start end : ℕ) : Type 0 where
  pub order : start ≤ end
  pub begins : IsCharBoundary text start
  pub ends : IsCharBoundary text end

-- the bytes from a place to another are in the rest, and no character is split there
pub record FitsIn (start end : ℕ) (writing : Writing) : Type 0 where
  pub left_start : writing.at ≤ start
  pub left_end : writing.at ≤ end
  pub range : IsRange writing.rest (start - writing.at) (end - writing.at)

-- nothing of a source is written
abbrev pub begun : (source : List ℕ) → Writing
begun source = record { so_far = []; rest = source; at = 0; is_changed = false }

-- a source with all these replacements
abbrev pub with_all : List Replacement → Writing → List ℕ
with_all [] writing = finished writing
with_all (it ∷ others) writing = with_all others (replaced it writing)

-- each replacement is in the rest of the source when its turn comes
abbrev pub FitAll : List Replacement → Writing → Type 0
FitAll [] writing = Unit {0}
FitAll (it ∷ others) writing = FitsIn it.start it.end writing × FitAll others (replaced it writing)

-- a replacement is written if it is in the rest of the source, and else nothing is
abbrev pub IsReplaced : Replacement → (old new : Writing) → Type 0
IsReplaced it old new = (FitsIn it.start it.end old × (new ≡ replaced it old)) ⊎ ((FitsIn it.start it.end old → ⊥) × (new ≡ old))

-- all these replacements are written, one by one
abbrev pub AreReplaced : List Replacement → (old new : Writing) → Type 0
AreReplaced [] old new = new ≡ old
AreReplaced (it ∷ others) old new = (next : Writing) × IsReplaced it old next × AreReplaced others next new

-- the meaning of the code's value
abbrev pub writing_of : Output → Writing
writing_of it = record { so_far = string_bytes it.text; rest = it.rest.now; at = it.at; is_changed = it.is_changed }
