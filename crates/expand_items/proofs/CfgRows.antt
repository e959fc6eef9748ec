-- Worked predicates. Each holds by computation.
use Rattle.std.proofs.Common.{◌≡◌, ℕ, true, false, List, None, Some, codes, refl, lit<, lit≤, not-le_of_lt}
use Rattle.tt.specs.Forest.{Forest, end, leaf, join}
use Rattle.tt.specs.Types.DelimiterKind.TheVariants.{Parenthesis, Bracket}
use Rattle.tt.specs.Types.LitKind.{LitKind}
use Rattle.tt.specs.Types.LitKind.TheVariants.{Str, StrRaw, ByteStr}
use Rattle.tt_base.proofs.Samples.{literal, subtree}
use Rattle.expand_items.specs.Cfg.{Known, complete, unknown, with_atom}
use Rattle.expand_items.specs.Predicates.{check}
use Rattle.expand_items.specs.declared.cfg.CfgAtom.TheVariants as atom
use Rattle.mbe_pattern.proofs.Rows.{word, raw_word, alone, comma}

-- `--cfg unix --cfg target_os="linux"`, by which others are open; and by which others are false
abbrev pub some_known : Known
some_known = with_atom (atom.KeyValue (codes "target_os") (codes "linux")) (with_atom (atom.Flag (codes "unix")) unknown)

abbrev pub all_known : Known
all_known = complete some_known

-- `unix`, which is true, and `loom`, which is not known, before others
abbrev pub unix : Forest → Forest
unix rest = word (codes "unix") rest

abbrev pub loom : Forest → Forest
loom rest = word (codes "loom") rest

-- a word and parentheses, before others
abbrev pub list : List ℕ → Forest → Forest → Forest
list name inside rest = word name (join (subtree Parenthesis inside) rest)

abbrev pub all : Forest → Forest → Forest
all inside rest = list (codes "all") inside rest

abbrev pub any : Forest → Forest → Forest
any inside rest = list (codes "any") inside rest

abbrev pub negation : Forest → Forest → Forest
negation inside rest = list (codes "not") inside rest

-- `NAME = "linux"`, `NAME = r"linux"`, `NAME = b"linux"`, `NAME = "a\b"`, `NAME = r"a\b"`, `NAME = 1`
abbrev linux : LitKind → Forest
linux kind = leaf (literal (codes "linux") kind (lit≤ tt) (lit≤ tt, λ h. absurd (not-le_of_lt (lit< tt) h))) end

abbrev escaped : LitKind → Forest
escaped kind = leaf (literal (codes "a\\b") kind (lit≤ tt) (lit≤ tt, λ h. absurd (not-le_of_lt (lit< tt) h))) end

abbrev key : List ℕ → Forest → Forest
key name value = word name (alone 61 value)

abbrev os : Forest → Forest
os value = key (codes "target_os") value

-- A name is true if it is given; another one is open, or false if all others are.
flag_given : check some_known (unix end) ≡ Some true
flag_given = refl

flag_open : check some_known (loom end) ≡ None
flag_open = refl

flag_false : check all_known (loom end) ≡ Some false
flag_false = refl

key_is_no_flag : check all_known (word (codes "target_os") end) ≡ Some false
key_is_no_flag = refl

raw_flag : check all_known (raw_word (codes "unix") end) ≡ Some true
raw_flag = refl

-- So is a key with a value, which may be a raw string.
key_given : check some_known (os (linux Str)) ≡ Some true
key_given = refl

raw_given : check some_known (os (linux (StrRaw 0))) ≡ Some true
raw_given = refl

other_value : check all_known (os (escaped (StrRaw 1))) ≡ Some false
other_value = refl

other_key : check all_known (key (codes "unix") (linux Str)) ≡ Some false
other_key = refl

value_open : check some_known (key (codes "target_arch") (linux Str)) ≡ None
value_open = refl

-- An escape, bytes and a word as a value are open, and so is no value.
escape_open : check all_known (os (escaped Str)) ≡ None
escape_open = refl

bytes_open : check all_known (os (linux ByteStr)) ≡ None
bytes_open = refl

word_open : check all_known (os (loom end)) ≡ None
word_open = refl

no_value : check all_known (os end) ≡ None
no_value = refl

-- `true` and `false` are what they are, and `r#true` is a name.
true_is : check unknown (word (codes "true") end) ≡ Some true
true_is = refl

false_is : check unknown (word (codes "false") end) ≡ Some false
false_is = refl

raw_true : check all_known (raw_word (codes "true") end) ≡ Some false
raw_true = refl

-- `all()`, `any()`, and those of several: false decides `all`, and true decides `any`.
all_of_none : check unknown (all end end) ≡ Some true
all_of_none = refl

any_of_none : check unknown (any end end) ≡ Some false
any_of_none = refl

all_true : check some_known (all (unix (comma (word (codes "true") end))) end) ≡ Some true
all_true = refl

all_open : check some_known (all (unix (comma (loom end))) end) ≡ None
all_open = refl

all_false : check some_known (all (loom (comma (word (codes "false") end))) end) ≡ Some false
all_false = refl

any_true : check some_known (any (loom (comma (unix end))) end) ≡ Some true
any_true = refl

any_open : check some_known (any (word (codes "false") (comma (loom end))) end) ≡ None
any_open = refl

any_false : check all_known (any (loom (comma (word (codes "false") end))) end) ≡ Some false
any_false = refl

-- `not` takes one predicate.
not_true : check some_known (negation (unix end) end) ≡ Some false
not_true = refl

not_false : check all_known (negation (loom end) end) ≡ Some true
not_false = refl

not_open : check some_known (negation (loom end) end) ≡ None
not_open = refl

not_nothing : check all_known (negation end end) ≡ None
not_nothing = refl

not_two : check all_known (negation (unix (comma (unix end))) end) ≡ None
not_two = refl

-- `all(any(loom, unix), not(loom),)`, and a `,` behind the whole.
nested : check all_known (all (any (loom (comma (unix end))) (comma (negation (loom end) (comma end)))) end) ≡ Some true
nested = refl

comma_behind : check some_known (unix (comma end)) ≡ Some true
comma_behind = refl

-- `version(unix)` has another operator: it is open, and so in `all` unless another predicate decides.
other_operator : check all_known (list (codes "version") (unix end) end) ≡ None
other_operator = refl

other_decided : check all_known (all (loom (comma (list (codes "version") (unix end) end))) end) ≡ Some false
other_decided = refl

-- Nothing, `unix unix`, `unix, unix`, `unix::loom`, `all[unix]`, `all(loom unix)`, `= ..` and `(unix)` are no predicates.
no_predicate : check all_known end ≡ None
no_predicate = refl

two_words : check all_known (loom (unix end)) ≡ None
two_words = refl

two_predicates : check all_known (loom (comma (loom end))) ≡ None
two_predicates = refl

path_is_none : check all_known (loom (alone 58 (alone 58 (unix end)))) ≡ None
path_is_none = refl

brackets_are_none : check all_known (word (codes "all") (subtree Bracket (loom end))) ≡ None
brackets_are_none = refl

no_list : check all_known (all (loom (unix end)) end) ≡ None
no_list = refl

sign_is_none : check all_known (alone 61 (linux Str)) ≡ None
sign_is_none = refl

subtree_is_none : check all_known (subtree Parenthesis (loom end)) ≡ None
subtree_is_none = refl
