-- What precedes a tree among its siblings, as far as it matters to an expression there.
use Rattle.std.specs.Prelude.{ℕ, ◌==◌, ◌||◌, ◌&&◌, not, Bool, true, false, List, codes, bytes_eq, if◌then◌else◌}
use Rattle.tt.specs.Types.DelimiterKind.{DelimiterKind}
use Rattle.tt.specs.Types.IdentIsRaw.{IdentIsRaw}
use Rattle.tt.specs.Types.IdentIsRaw.TheVariants as raw
use Rattle.tt.specs.Types.Punct.{Punct}
use Rattle.tt.specs.Types.Spacing.{Spacing}
use Rattle.tt.specs.Types.Spacing.TheVariants as spaced
use Rattle.expand_items.specs.declared.front.Front.{Front}
use Rattle.expand_items.specs.declared.front.Front.TheVariants as front
use Rattle.mbe_pattern.specs.Units.{is_brace}

-- the next punct may be a part of the last token
abbrev pub is_glued : Front → Bool
is_glued front.Free = false
is_glued front.Colon = false
is_glued front.Arrow = true
is_glued front.Start = false
is_glued front.Joint = true
is_glued front.Cast = false
is_glued front.Bound = false

-- an arrow has begun
abbrev pub is_arrow : Front → Bool
is_arrow front.Free = false
is_arrow front.Colon = false
is_arrow front.Arrow = true
is_arrow front.Start = false
is_arrow front.Joint = false
is_arrow front.Cast = false
is_arrow front.Bound = false

-- a statement, an arm or a type may begin
abbrev pub is_begun : Front → Bool
is_begun front.Free = false
is_begun front.Colon = false
is_begun front.Arrow = false
is_begun front.Start = true
is_begun front.Joint = false
is_begun front.Cast = false
is_begun front.Bound = false

-- a type or the value of a field comes
abbrev pub is_colon : Front → Bool
is_colon front.Free = false
is_colon front.Colon = true
is_colon front.Arrow = false
is_colon front.Start = false
is_colon front.Joint = false
is_colon front.Cast = false
is_colon front.Bound = false

-- `as` is before a type
abbrev pub is_cast : Front → Bool
is_cast front.Free = false
is_cast front.Colon = false
is_cast front.Arrow = false
is_cast front.Start = false
is_cast front.Joint = false
is_cast front.Cast = true
is_cast front.Bound = false

-- nothing before an expression takes a part of it
abbrev pub is_free : Front → Bool
is_free front.Free = true
is_free front.Colon = true
is_free front.Arrow = false
is_free front.Start = false
is_free front.Joint = false
is_free front.Cast = false
is_free front.Bound = false

-- one of two, by whether a punct is joint with the next
abbrev pub joint_front : Spacing → (glued single : Front) → Front
joint_front spaced.Joint glued single = glued
joint_front spaced.Alone glued single = single
joint_front spaced.JointHidden glued single = single

-- what precedes the tree after a punct: `,` leaves an expression free, and so does `=` alone; `:` alone is before a type or the value of a
-- field; a statement may begin after `;`; `=>` and `->` are arrows
abbrev pub front_behind : Punct → Front → Front
front_behind it before =
    if it.char == 44 then front.Free
    else (if it.char == 59 then front.Start
    else (if it.char == 61 && not (is_glued before) then joint_front it.spacing front.Arrow front.Free
    else (if it.char == 45 && not (is_glued before) then joint_front it.spacing front.Arrow front.Bound
    else (if it.char == 58 && not (is_glued before) then joint_front it.spacing front.Joint front.Colon
    else (if it.char == 62 && is_arrow before then front.Start else joint_front it.spacing front.Joint front.Bound)))))

-- after a word: an expression after one of these goes as far as it can; a type comes after `as`
abbrev pub introduces : (word : List ℕ) → Front
introduces word =
    if bytes_eq word (codes "return") || (bytes_eq word (codes "break") || (bytes_eq word (codes "if") || (bytes_eq word (codes "while")
    || (bytes_eq word (codes "match") || bytes_eq word (codes "in")))))
    then front.Free else (if bytes_eq word (codes "as") then front.Cast else front.Bound)

-- after an ident, which is a word if it is not raw
abbrev pub front_behind_ident : IdentIsRaw → (word : List ℕ) → Front
front_behind_ident raw.No word = introduces word
front_behind_ident raw.Yes word = front.Bound

-- after a subtree of a kind: a statement may begin after braces
abbrev pub front_behind_kind : DelimiterKind → Front
front_behind_kind kind = if is_brace kind then front.Start else front.Bound

-- an expression ends with the block that it begins with: at the beginning of a statement or an arm
abbrev pub is_at_start : (is_start : Bool) → Front → Bool
is_at_start is_start it = is_start || is_begun it

-- what precedes the first tree of the expansion of a call there
abbrev pub front_of_expansion : (is_start : Bool) → Front → Front
front_of_expansion is_start it = if is_at_start is_start it then front.Start else front.Free
