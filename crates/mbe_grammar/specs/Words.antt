-- Which words the grammar names, and which are reserved.
use Rattle.std.specs.Prelude.{not, ◌||◌, ◌==◌, ℕ, Bool, true, false, List, Option, None, Some, slice_get, codes, bytes_eq, if◌then◌else◌}
use Rattle.tt.specs.Types.Ident.{Ident}
use Rattle.tt.specs.Types.IdentIsRaw.{IdentIsRaw}
use Rattle.tt.specs.Types.IdentIsRaw.TheVariants as raw
use Rattle.mbe_grammar.specs.declared.words.Word.{Word}
use Rattle.mbe_grammar.specs.declared.words.Word.TheVariants as word

-- the word of a text that begins with `a` or `b`
abbrev pub word_from_a_or_b : (text : List ℕ) → Word
word_from_a_or_b text =
    if bytes_eq text (codes "abstract") then word.Reserved else (
    if bytes_eq text (codes "as") then word.As else (
    if bytes_eq text (codes "async") then word.Async else (
    if bytes_eq text (codes "auto") then word.Auto else (
    if bytes_eq text (codes "await") then word.Await else (
    if bytes_eq text (codes "become") then word.Reserved else (
    if bytes_eq text (codes "box") then word.Box else (
    if bytes_eq text (codes "break") then word.Break else word.Name)))))))

-- the word of a text that begins with `c` or `d`
abbrev pub word_from_c_or_d : (text : List ℕ) → Word
word_from_c_or_d text =
    if bytes_eq text (codes "const") then word.Const else (
    if bytes_eq text (codes "continue") then word.Continue else (
    if bytes_eq text (codes "crate") then word.Crate else (
    if bytes_eq text (codes "default") then word.Default else (
    if bytes_eq text (codes "do") then word.Do else (
    if bytes_eq text (codes "dyn") then word.Dyn else word.Name)))))

-- the word of a text that begins with `e`, `f` or `g`
abbrev pub word_from_e_to_g : (text : List ℕ) → Word
word_from_e_to_g text =
    if bytes_eq text (codes "else") then word.Else else (
    if bytes_eq text (codes "enum") then word.Enum else (
    if bytes_eq text (codes "extern") then word.Extern else (
    if bytes_eq text (codes "false") then word.False else (
    if bytes_eq text (codes "final") then word.Reserved else (
    if bytes_eq text (codes "fn") then word.Fn else (
    if bytes_eq text (codes "for") then word.For else (
    if bytes_eq text (codes "gen") then word.Gen else word.Name)))))))

-- the word of a text that begins with `i` or `l`
abbrev pub word_from_i_or_l : (text : List ℕ) → Word
word_from_i_or_l text =
    if bytes_eq text (codes "if") then word.If else (
    if bytes_eq text (codes "impl") then word.Impl else (
    if bytes_eq text (codes "in") then word.In else (
    if bytes_eq text (codes "let") then word.Let else (
    if bytes_eq text (codes "loop") then word.Loop else word.Name))))

-- the word of a text that begins with `m`
abbrev pub word_from_m : (text : List ℕ) → Word
word_from_m text =
    if bytes_eq text (codes "macro") then word.Macro else (
    if bytes_eq text (codes "macro_rules") then word.MacroRules else (
    if bytes_eq text (codes "match") then word.Match else (
    if bytes_eq text (codes "mod") then word.Mod else (
    if bytes_eq text (codes "move") then word.Move else (
    if bytes_eq text (codes "mut") then word.Mut else word.Name)))))

-- the word of a text that begins with `o`, `p` or `r`
abbrev pub word_from_o_to_r : (text : List ℕ) → Word
word_from_o_to_r text =
    if bytes_eq text (codes "override") then word.Reserved else (
    if bytes_eq text (codes "priv") then word.Reserved else (
    if bytes_eq text (codes "pub") then word.Pub else (
    if bytes_eq text (codes "raw") then word.Raw else (
    if bytes_eq text (codes "ref") then word.Ref else (
    if bytes_eq text (codes "return") then word.Return else word.Name)))))

-- the word of a text that begins with `s`
abbrev pub word_from_s : (text : List ℕ) → Word
word_from_s text =
    if bytes_eq text (codes "safe") then word.Safe else (
    if bytes_eq text (codes "self") then word.SelfValue else (
    if bytes_eq text (codes "static") then word.Static else (
    if bytes_eq text (codes "struct") then word.Struct else (
    if bytes_eq text (codes "super") then word.Super else word.Name))))

-- the word of a text that begins with `t`
abbrev pub word_from_t : (text : List ℕ) → Word
word_from_t text =
    if bytes_eq text (codes "trait") then word.Trait else (
    if bytes_eq text (codes "true") then word.True else (
    if bytes_eq text (codes "try") then word.Try else (
    if bytes_eq text (codes "type") then word.Type else (
    if bytes_eq text (codes "typeof") then word.Reserved else word.Name))))

-- the word of a text that begins with `u`, `v`, `w` or `y`
abbrev pub word_from_u_to_y : (text : List ℕ) → Word
word_from_u_to_y text =
    if bytes_eq text (codes "union") then word.Union else (
    if bytes_eq text (codes "unsafe") then word.Unsafe else (
    if bytes_eq text (codes "unsized") then word.Reserved else (
    if bytes_eq text (codes "use") then word.Use else (
    if bytes_eq text (codes "virtual") then word.Reserved else (
    if bytes_eq text (codes "where") then word.Where else (
    if bytes_eq text (codes "while") then word.While else (
    if bytes_eq text (codes "yeet") then word.Yeet else (
    if bytes_eq text (codes "yield") then word.Yield else word.Name))))))))

-- the word of a text that begins with `S` or `_`
abbrev pub word_from_other : (text : List ℕ) → Word
word_from_other text =
    if bytes_eq text (codes "Self") then word.SelfType else (
    if bytes_eq text (codes "_") then word.Underscore else word.Name)

-- the word of a text that begins with that byte
abbrev pub word_beginning : (first : ℕ) → (text : List ℕ) → Word
word_beginning first text =
    if first == 97 || first == 98 then word_from_a_or_b text else (
    if first == 99 || first == 100 then word_from_c_or_d text else (
    if first == 101 || (first == 102 || first == 103) then word_from_e_to_g text else (
    if first == 105 || first == 108 then word_from_i_or_l text else (
    if first == 109 then word_from_m text else (
    if first == 111 || (first == 112 || first == 114) then word_from_o_to_r text else (
    if first == 115 then word_from_s text else (
    if first == 116 then word_from_t text else (
    if first == 117 || (first == 118 || (first == 119 || first == 121)) then word_from_u_to_y text else (
    if first == 83 || first == 95 then word_from_other text else word.Name)))))))))

-- the same, if there is a byte
abbrev pub word_behind : Option ℕ → (text : List ℕ) → Word
word_behind None text = word.Name
word_behind (Some first) text = word_beginning first text

-- the word of that text
abbrev pub word_named : (text : List ℕ) → Word
word_named text = word_behind (slice_get text 0) text

-- the word that an ident of that text is; after `r#` it is a name
abbrev pub word_as : IdentIsRaw → (text : List ℕ) → Word
word_as raw.No text = word_named text
word_as raw.Yes text = word.Name

-- the word that an ident is
abbrev pub word_of : Ident → Word
word_of ident = word_as ident.is_raw ident.sym

-- no name may be spelled like this word
abbrev pub is_reserved : Word → Bool
is_reserved word.Name = false
is_reserved word.Auto = false
is_reserved word.Default = false
is_reserved word.MacroRules = false
is_reserved word.Raw = false
is_reserved word.Safe = false
is_reserved word.Union = false
is_reserved word.Yeet = false
is_reserved _ = true

-- `self`, `Self`, `super` or `crate`
abbrev pub is_root_segment : Word → Bool
is_root_segment word.SelfValue = true
is_root_segment word.SelfType = true
is_root_segment word.Super = true
is_root_segment word.Crate = true
is_root_segment _ = false

-- a path may contain the word
abbrev pub is_path_segment : Word → Bool
is_path_segment it = not (is_reserved it) || is_root_segment it

-- `true` or `false`
abbrev pub is_truth_value : Word → Bool
is_truth_value word.True = true
is_truth_value word.False = true
is_truth_value _ = false

-- a keyword that an expression begins with
abbrev pub is_first_keyword : Word → Bool
is_first_keyword word.Async = true
is_first_keyword word.Do = true
is_first_keyword word.Box = true
is_first_keyword word.Break = true
is_first_keyword word.Const = true
is_first_keyword word.Continue = true
is_first_keyword word.For = true
is_first_keyword word.Gen = true
is_first_keyword word.If = true
is_first_keyword word.Let = true
is_first_keyword word.Loop = true
is_first_keyword word.Match = true
is_first_keyword word.Move = true
is_first_keyword word.Return = true
is_first_keyword word.Static = true
is_first_keyword word.Try = true
is_first_keyword word.Unsafe = true
is_first_keyword word.While = true
is_first_keyword word.Yield = true
is_first_keyword _ = false

-- an expression may begin with the word
abbrev pub begins_expression : Word → Bool
begins_expression it = is_path_segment it || (is_truth_value it || is_first_keyword it)
