-- What a line's first word says about its command. A later command is one more case of `part`, `make` and `taken_apart`.
use Rattle.std.proofs.Common.{◌≡◌, ◌<◌, ◌^◌, ℕ, List, ◌++◌, Option, Some, None, Result, Ok, Err, IfOk, IfSome, MatchOption, refl, sym, ap, subst, ◌∙◌, rules}
use Rattle.hex.specs.Hex.{IsBytes, encode_lower}
use Rattle.std.specs.Prelude.{decimal, encode_utf8, IsUtf8}
use Rattle.std.specs.Char.{IsScalar}
use Rattle.std.specs.Option.{option_map, IsSomeAnd}
use Rattle.tt_base.specs.declared.fault.TtFault.{TtFault}
use Rattle.tt_base.specs.Fits.{LeafFits, SpanFits, TokenFits}
use Rattle.tt_base.specs.Span.{span_text}
use Rattle.tt_base.specs.Token.{delimiter}
use Rattle.app_language.specs.declared.command.Command.{Command}
use Rattle.app_language.specs.declared.command.Command.TheVariants as command
use Rattle.app_language.specs.declared.command.verb.Verb.{Verb}
use Rattle.app_language.specs.declared.command.verb.Verb.TheVariants as verb
use Rattle.app_language.specs.Command.{CommandFits, IsNoCommand, StandsFor, spell}
use Rattle.app_language.specs.Reading.{IsOneLine, IsTail, Lacks, Reads, ReadsPieces, line_of, spaced}
use Rattle.app_language.specs.Token.{action_word, ActionFits, kind_word, leaf_words, token_words}
use Rattle.app_language.specs.Verb.{verb_word}
use Rattle.app_language.specs.WordLaws.{spaceless_action, spaceless_kind, spaceless_long_number, spaceless_number, spaceless_slot, spaceless_span, spaceless_verb}
use Rattle.app_language.proofs.Cutting.{IsTail-spaced, word_unique}
use Rattle.app_language.proofs.OneToOne.{one_action, one_character, one_digits, one_kind, one_leaf, one_long_number, one_number, one_slot, one_span, one_text, one_token, one_verb}
use Rattle.app_language.proofs.Parts.{Part, nothing, word_then, rest_of_line, words_of}

abbrev kind_then : Part → Part
kind_then = word_then kind_word (λ _. Unit {0}) (λ kind _. spaceless_kind kind) one_kind

abbrev span_then : Part → Part
span_then = word_then span_text SpanFits spaceless_span one_span

abbrev slot_then : Part → Part
slot_then = word_then decimal (λ slot. slot < 16) spaceless_slot one_slot

abbrev number_then : Part → Part
number_then = word_then decimal (λ n. n < 2 ^ 32) spaceless_number one_number

-- what follows the verb
abbrev pub part : Verb → Part
part verb.Item = rest_of_line token_words TokenFits one_token
part verb.Clear = nothing
part verb.List = slot_then nothing
part verb.New = kind_then (span_then (span_then nothing))
part verb.Open = kind_then (span_then nothing)
part verb.Push = rest_of_line leaf_words LeafFits one_leaf
part verb.Close = span_then nothing
part verb.Append = slot_then nothing
part verb.Alone = slot_then nothing
part verb.Unwrap = nothing
part verb.Point = nothing
part verb.Restore = word_then decimal (λ n. n < 2 ^ 64) spaceless_long_number one_long_number nothing
part verb.Expected = nothing
part verb.Counts = nothing
part verb.Build = slot_then nothing
part verb.Skip = slot_then nothing
part verb.Copy = slot_then (slot_then nothing)
part verb.Kind = slot_then (kind_then nothing)
part verb.Spans = slot_then (span_then (span_then nothing))
part verb.Set = slot_then (number_then (rest_of_line leaf_words LeafFits one_leaf))
part verb.Ids = slot_then (words_of decimal (λ n. n < 2 ^ 32) spaceless_number one_number)
part verb.Rewrite = slot_then (words_of action_word ActionFits spaceless_action one_action)
part verb.Expand = slot_then (slot_then (slot_then (slot_then nothing)))
part verb.Arms = slot_then (slot_then (slot_then nothing))
part verb.Split = slot_then (rest_of_line encode_utf8 IsScalar one_character)
part verb.Equal = slot_then (slot_then nothing)
part verb.Save = slot_then nothing
part verb.Load = slot_then (rest_of_line encode_lower IsBytes one_digits)
part verb.Read = slot_then (rest_of_line (λ text. text) IsUtf8 one_text)
part verb.Text = slot_then nothing
part (verb.View view) = slot_then nothing

-- the command of a verb and of the values that follow it
abbrev pub make : (v : Verb) → (part v).Values → Command
make verb.Item = command.Item
make verb.Clear = λ _. command.Clear
make verb.List = λ (slot, _). command.List slot
make verb.New = λ (kind, (open_span, (close, _))). command.New (delimiter kind open_span close)
make verb.Open = λ (kind, (span, _)). command.Open kind span
make verb.Push = command.Push
make verb.Close = λ (span, _). command.Close span
make verb.Append = λ (slot, _). command.Append slot
make verb.Alone = λ (slot, _). command.Alone slot
make verb.Unwrap = λ _. command.Unwrap
make verb.Point = λ _. command.Point
make verb.Restore = λ (number, _). command.Restore number
make verb.Expected = λ _. command.Expected
make verb.Counts = λ _. command.Counts
make verb.Build = λ (slot, _). command.Build slot
make verb.Skip = λ (slot, _). command.Skip slot
make verb.Copy = λ (a, (b, _)). command.Copy a b
make verb.Kind = λ (a, (k, _)). command.Kind a k
make verb.Spans = λ (a, (o, (c, _))). command.Spans a o c
make verb.Set = λ (a, (n, leaf)). command.Set a n leaf
make verb.Ids = λ (a, ids). command.Ids a ids
make verb.Rewrite = λ (a, actions). command.Rewrite a actions
make verb.Expand = λ (p, (t, (i, (o, _)))). command.Expand p t i o
make verb.Arms = λ (a, (i, (o, _))). command.Arms a i o
make verb.Split = λ (a, char). command.Split a char
make verb.Equal = λ (a, (b, _)). command.Equal a b
make verb.Save = λ (slot, _). command.Save slot
make verb.Load = λ (a, digits). command.Load a digits
make verb.Read = λ (a, text). command.Read a text
make verb.Text = λ (slot, _). command.Text slot
make (verb.View view) = λ (slot, _). command.View view slot

-- it is spelled like this
spells_right : (v : Verb) (a : (part v).Values) → spell (make v a) ≡ line_of (verb_word v) ((part v).pieces a)
spells_right verb.Item a = refl
spells_right verb.Push a = refl
spells_right v a = refl

-- and it fits if the values do
fits_right : (v : Verb) (a : (part v).Values) → (part v).Fits a → CommandFits (make v a)
fits_right verb.Item a p = p
fits_right verb.Push a p = p
fits_right v a p = search rules

-- the command is that of the verb and of values that fit
record IsMade (v : Verb) (c : Command) : Type 0 where
  value : (part v).Values
  fits : (part v).Fits value
  made : c ≡ make v value

-- every command that fits is one of these
taken_apart : (c : Command) → CommandFits c → (v : Verb) × IsMade v c
taken_apart (command.Item token) fits = (verb.Item, record { value = token; fits = fits; made = refl })
taken_apart command.Clear fits = (verb.Clear, record { value = tt; fits = tt; made = refl })
taken_apart (command.List slot) fits = (verb.List, record { value = (slot, tt); fits = (fits, tt); made = refl })
taken_apart (command.New d) fits = (verb.New, record { value = (d.kind, (d.open_span, (d.close, tt))); fits = (tt, (fits.0, (fits.1, tt))); made = refl })
taken_apart (command.Open kind span) fits = (verb.Open, record { value = (kind, (span, tt)); fits = (tt, (fits, tt)); made = refl })
taken_apart (command.Push leaf) fits = (verb.Push, record { value = leaf; fits = fits; made = refl })
taken_apart (command.Close span) fits = (verb.Close, record { value = (span, tt); fits = (fits, tt); made = refl })
taken_apart (command.Append slot) fits = (verb.Append, record { value = (slot, tt); fits = (fits, tt); made = refl })
taken_apart (command.Alone slot) fits = (verb.Alone, record { value = (slot, tt); fits = (fits, tt); made = refl })
taken_apart command.Unwrap fits = (verb.Unwrap, record { value = tt; fits = tt; made = refl })
taken_apart command.Point fits = (verb.Point, record { value = tt; fits = tt; made = refl })
taken_apart (command.Restore number) fits = (verb.Restore, record { value = (number, tt); fits = (fits, tt); made = refl })
taken_apart command.Expected fits = (verb.Expected, record { value = tt; fits = tt; made = refl })
taken_apart command.Counts fits = (verb.Counts, record { value = tt; fits = tt; made = refl })
taken_apart (command.Build slot) fits = (verb.Build, record { value = (slot, tt); fits = (fits, tt); made = refl })
taken_apart (command.Skip slot) fits = (verb.Skip, record { value = (slot, tt); fits = (fits, tt); made = refl })
taken_apart (command.Copy a b) fits = (verb.Copy, record { value = (a, (b, tt)); fits = (fits.0, (fits.1, tt)); made = refl })
taken_apart (command.Kind a k) fits = (verb.Kind, record { value = (a, (k, tt)); fits = (fits, (tt, tt)); made = refl })
taken_apart (command.Spans a o c) fits = (verb.Spans, record { value = (a, (o, (c, tt))); fits = (fits.0, (fits.1, (fits.2, tt))); made = refl })
taken_apart (command.Set a n leaf) fits = (verb.Set, record { value = (a, (n, leaf)); fits = (fits.0, (fits.1, fits.2)); made = refl })
taken_apart (command.Ids a ids) fits = (verb.Ids, record { value = (a, ids); fits = (fits.0, fits.1); made = refl })
taken_apart (command.Rewrite a actions) fits = (verb.Rewrite, record { value = (a, actions); fits = (fits.0, fits.1); made = refl })
taken_apart (command.Expand p t i o) fits = (verb.Expand, record { value = (p, (t, (i, (o, tt)))); fits = (fits.0, (fits.1, (fits.2, (fits.3, tt)))); made = refl })
taken_apart (command.Arms a i o) fits = (verb.Arms, record { value = (a, (i, (o, tt))); fits = (fits.0, (fits.1, (fits.2, tt))); made = refl })
taken_apart (command.Split a char) fits = (verb.Split, record { value = (a, char); fits = (fits.0, fits.1); made = refl })
taken_apart (command.Equal a b) fits = (verb.Equal, record { value = (a, (b, tt)); fits = (fits.0, (fits.1, tt)); made = refl })
taken_apart (command.Save slot) fits = (verb.Save, record { value = (slot, tt); fits = (fits, tt); made = refl })
taken_apart (command.Load a digits) fits = (verb.Load, record { value = (a, digits); fits = (fits.0, fits.1); made = refl })
taken_apart (command.Read a text) fits = (verb.Read, record { value = (a, text); fits = (fits.0, fits.1); made = refl })
taken_apart (command.Text slot) fits = (verb.Text, record { value = (slot, tt); fits = (fits, tt); made = refl })
taken_apart (command.View view slot) fits = (verb.View view, record { value = (slot, tt); fits = (fits, tt); made = refl })

spelled_as : (v : Verb) (c : Command) (is : IsMade v c) → spell c ≡ verb_word v ++ spaced ((part v).pieces is.value)
spelled_as v c is = ap spell is.made ∙ spells_right v is.value

-- the first word of a line determines the verb, and its tail the values
read_back : (line tail : List ℕ) (v : Verb) (c : Command) → IsTail tail → line ≡ verb_word v ++ tail → line ≡ spell c → CommandFits c
    → (is : IsMade v c) × (tail ≡ spaced ((part v).pieces is.value))
read_back line tail v c t e d fits =
    let (w, is) = taken_apart c fits in
    let u = word_unique _ _ _ _ (spaceless_verb w) (spaceless_verb v) (IsTail-spaced ((part w).pieces is.value)) t (sym (d ∙ spelled_as w c is) ∙ e) in
    let verbs : w ≡ v = one_verb w v tt tt u.0 in
    subst (λ (x : Verb). (made : IsMade x c) × (tail ≡ spaced ((part x).pieces made.value))) verbs (is, sym u.1)

pub StandsFor-unique : (line : List ℕ) (c d : Command) → StandsFor line c → StandsFor line d → c ≡ d
StandsFor-unique line c d s t =
    let (v, is) = taken_apart c s.fits in
    let (other, same) = read_back line (spaced ((part v).pieces is.value)) v d (IsTail-spaced ((part v).pieces is.value)) (s.spelled ∙ spelled_as v c is) t.spelled t.fits in
    is.made ∙ ap (make v) ((part v).one is.value other.value is.fits other.fits same) ∙ sym other.made

-- a line that begins with no verb is no command
pub no_verb : (line word tail : List ℕ) → line ≡ word ++ tail → IsTail tail → Lacks 32 word → ((v : Verb) → Unit {0} → word ≡ verb_word v → ⊥) → (c : Command) → CommandFits c → line ≡ spell c → ⊥
no_verb line word tail e t lacks none c fits d =
    let (v, is) = taken_apart c fits in
    let u = word_unique _ _ _ _ lacks (spaceless_verb v) t (IsTail-spaced ((part v).pieces is.value)) (sym e ∙ d ∙ spelled_as v c is) in
    none v tt u.0

-- what follows a verb is read as the command's values
pub command_read : (v : Verb) (tail : List ℕ) (r : Option (part v).Values) (found : Option Command) → IsTail tail
    → ReadsPieces (part v).pieces (part v).Fits tail r → found ≡ option_map (make v) r → Reads spell CommandFits (verb_word v ++ tail) found
command_read v tail None found t unread is =
    rw is
    (λ c fits d.
    let (made, same) = read_back (verb_word v ++ tail) tail v c t refl d fits in
    unread made.value made.fits same)
command_read v tail (Some a) found t (spelled, fits) is =
    rw is (ap (λ x. verb_word v ++ x) spelled ∙ sym (spells_right v a), fits_right v a fits)

-- an option is mapped, if the closure returns what the function returns
pub mapped : {A B : Type 0} (f : A → B) (o : Option A) (r : Option B) {P : A → B → Type 0} → MatchOption o (r ≡ None) (λ x. IsSomeAnd r (P x)) → ((x : A) (y : B) → P x y → y ≡ f x)
    → r ≡ option_map f o
mapped f None r is gives = is
mapped f (Some x) (Some y) is gives = ap Some (gives x y is)
mapped f (Some x) None is gives = elim is [ ]

-- what a line reads as is what it spells
pub line_read : (line : List ℕ) (found : Result (Option Command) TtFault) → IsOneLine line → IfOk found (Reads spell CommandFits line)
    → IfOk found (λ command. MatchOption command (IsNoCommand line) (StandsFor line))
line_read line (Err fault) one p = tt
line_read line (Ok None) one p = λ command meant. p command meant.fits meant.spelled
line_read line (Ok (Some command)) one (spelled, fits) = record { one_line = one; spelled = spelled; fits = fits }

-- a command was read from one line
pub one_line_read : (line : List ℕ) (found : Result (Option Command) TtFault) → IsOneLine line → IfOk found (λ command. IfSome command (λ _. IsOneLine line))
one_line_read line (Err fault) one = tt
one_line_read line (Ok None) one = tt
one_line_read line (Ok (Some command)) one = one
