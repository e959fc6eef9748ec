-- How the trees of a call and of a definition begin and end.
use Rattle.std.proofs.Common.{◌≡◌, ℕ, zero, suc, Bool, true, false, List, [], ◌∷◌, Option, None, Some, refl, ap, sym, subst, ◌∙◌, arith, cond, codes}
use Rattle.std.proofs.lemmas.Bool.{and_parts, false≢true}
use Rattle.std.specs.Prelude.{◌&&◌, ◌||◌, ◌==◌}
use Rattle.tt.specs.Forest.{Forest, end, leaf, node, join}
use Rattle.tt.specs.Gluing.{after_trees}
use Rattle.tt.specs.Moves.{after_tree}
use Rattle.tt.specs.Types.Delimiter.{Delimiter}
use Rattle.tt.specs.Types.Ident.{Ident}
use Rattle.tt.specs.Types.Leaf.TheVariants as leaf_of
use Rattle.tt.specs.Types.Punct.{Punct}
use Rattle.expand_items.specs.Items.{Definition, Call, defines, calls, call_from, call_behind, call_behind_colons, call_in, defined_as, definition_from, definition_in, is_at_colons, is_at_root, is_at_root_path, is_elsewhere, item_from, item_in, name_in}
use Rattle.expand_items.specs.declared.item.MacroPath.{MacroPath}
use Rattle.expand_items.specs.declared.item.MacroPath.TheVariants as path
use Rattle.mbe_pattern.specs.Units.{front_trees, is_at_word, is_brace, is_at_punct, unit_size}
use Rattle.mbe_pattern.proofs.Passing.{after_end}

-- a call's subtree is the last of its trees, and follows two or more of them
pub record EndsWithSubtree (trees : Forest) (it : Call) : Type 0 where
  pub before : ℕ
  pub rest : Forest
  pub shape : after_trees (suc before) trees ≡ node it.delimiter it.input rest
  pub len : it.len ≡ suc (suc before)

abbrev EndsWith : Forest → Option Call → Type 0
EndsWith trees None = Unit {0}
EndsWith trees (Some it) = EndsWithSubtree trees it

ends_behind : (whole : Forest) (before : ℕ) (way : MacroPath) (trees : Forest) → after_trees (suc (suc before)) whole ≡ after_trees 2 trees
    → EndsWith whole (call_behind before way trees)
ends_behind whole before way trees same = by (name_in trees) (is_at_punct (codes "!") (after_tree trees)) (after_trees 2 trees) same
  where
    by : (name : Option Ident) (is_call : Bool) (behind : Forest) → after_trees (suc (suc before)) whole ≡ behind
        → EndsWith whole (call_from before way name is_call behind)
    by None is_call behind shape = tt
    by (Some name) false behind shape = tt
    by (Some name) true end shape = tt
    by (Some name) true (leaf it rest) shape = tt
    by (Some name) true (node delimiter children rest) shape = record { before = suc before; rest = rest; shape = shape; len = omega arith }

-- The call that comes first ends with its subtree.
pub call_ends : (root : List ℕ) (trees : Forest) (it : Call) → item_in root trees ≡ calls it → EndsWithSubtree trees it
call_ends root trees it is = found (definition_in trees) (call_in root trees) all is
  where
    by : (a b : Bool) → EndsWith trees (cond a (call_behind_colons root (after_trees 2 trees)) (cond b (call_behind 3 path.Root (after_trees 3 trees)) (call_behind 0 path.Name trees)))
    by true b = behind_colons (is_at_root_path root (after_trees 2 trees))
      where
        behind_colons : (c : Bool)
            → EndsWith trees (cond c (call_behind 5 path.Other (after_trees 3 (after_trees 2 trees))) (call_behind 2 path.Other (after_trees 2 trees)))
        behind_colons true = ends_behind trees 5 path.Other (after_trees 3 (after_trees 2 trees)) refl
        behind_colons false = ends_behind trees 2 path.Other (after_trees 2 trees) refl
    by false true = ends_behind trees 3 path.Root (after_trees 3 trees) refl
    by false false = ends_behind trees 0 path.Name trees refl

    all : EndsWith trees (call_in root trees)
    all = by (is_at_colons trees) (is_at_root_path root trees)

    found : (definition : Option Definition) (call : Option Call) → EndsWith trees call → item_from definition call ≡ calls it → EndsWithSubtree trees it
    found None None there e = absurd (cc e)
    found None (Some other) there e = subst (EndsWithSubtree trees) (same e) there
      where
        same : calls other ≡ calls it → other ≡ it
        same e = cc
    found (Some definition) call there e = absurd (cc e)

-- trees begin with an ident and a `!` or a `:`
pub record BeginsWithName (trees : Forest) : Type 0 where
  pub word : Ident
  pub punct : Punct
  pub rest : Forest
  pub shape : trees ≡ leaf (leaf_of.Ident word) (leaf (leaf_of.Punct punct) rest)
  pub sign : ((punct.char == 33) || (punct.char == 58)) ≡ true

-- A word that comes first is an ident.
word_first : (word : List ℕ) (trees : Forest) → is_at_word word trees ≡ true → (it : Ident) × (rest : Forest) × (trees ≡ leaf (leaf_of.Ident it) rest)
word_first word end is = absurd (false≢true is)
word_first word (node delimiter children rest) is = absurd (false≢true is)
word_first word (leaf (leaf_of.Literal it) rest) is = absurd (false≢true is)
word_first word (leaf (leaf_of.Punct it) rest) is = absurd (false≢true is)
word_first word (leaf (leaf_of.Ident it) rest) is = (it, rest, refl)

-- A `!`, a `:` or a `;` that comes first is a punct.
pub punct_first : (char : ℕ) (trees : Forest) → is_at_punct (char ∷ []) trees ≡ true → (it : Punct) × (rest : Forest) × (trees ≡ leaf (leaf_of.Punct it) rest) × ((it.char == char) ≡ true)
punct_first char end is = absurd (false≢true is)
punct_first char (node delimiter children rest) is = absurd (false≢true is)
punct_first char (leaf (leaf_of.Literal it) rest) is = absurd (false≢true is)
punct_first char (leaf (leaf_of.Ident it) rest) is = absurd (false≢true is)
punct_first char (leaf (leaf_of.Punct it) rest) is = (it, rest, refl, by (it.char == char) is)
  where
    by : (b : Bool) → (b || false) ≡ true → b ≡ true
    by true is = refl
    by false is = is

-- A name that may name a macro is an ident too.
name_first : (trees : Forest) (name : Ident) → name_in trees ≡ Some name → (rest : Forest) × (it : Ident) × (trees ≡ leaf (leaf_of.Ident it) rest)
name_first end name is = absurd (cc is)
name_first (node delimiter children rest) name is = absurd (cc is)
name_first (leaf (leaf_of.Literal it) rest) name is = absurd (cc is)
name_first (leaf (leaf_of.Punct it) rest) name is = absurd (cc is)
name_first (leaf (leaf_of.Ident it) rest) name is = (rest, it, refl)

-- If `::` comes first, a `:` does.
colons_first : (trees : Forest) → is_at_colons trees ≡ true → is_at_punct (codes ":") trees ≡ true
colons_first trees is = by (unit_size trees == 2) (is_at_punct (codes ":") trees) (is_at_punct (codes ":") (after_tree trees)) is
  where
    by : (two a b : Bool) → cond two (a && b) false ≡ true → a ≡ true
    by true true b is = refl
    by true false b is = is
    by false a b is = absurd (false≢true is)

-- An ident and a punct that come first are the beginning of a call.
begins : (trees : Forest) (word : Ident) (behind : Forest) (char : ℕ) → trees ≡ leaf (leaf_of.Ident word) behind → is_at_punct (char ∷ []) (after_tree trees) ≡ true
    → ((c : ℕ) → (c == char) ≡ true → ((c == 33) || (c == 58)) ≡ true) → BeginsWithName trees
begins trees word behind char is there one =
    let (punct, rest, shape, same) = punct_first char behind (ap (λ f. is_at_punct (char ∷ []) (after_tree f)) (sym is) ∙ there) in
    record { word = word; punct = punct; rest = rest; shape = is ∙ ap (leaf (leaf_of.Ident word)) shape; sign = one punct.char same }

-- whether a call that may be there begins with a name, if it is not looked for elsewhere
abbrev Begins : Forest → Option Call → Type 0
Begins trees None = Unit {0}
Begins trees (Some it) = is_elsewhere it.path ≡ false → BeginsWithName trees

-- A call that is not looked for elsewhere begins with an ident and a `!` or a `:`.
pub call_begins : (root : List ℕ) (trees : Forest) (it : Call) → item_in root trees ≡ calls it → is_elsewhere it.path ≡ false → BeginsWithName trees
call_begins root trees it is here = found (definition_in trees) (call_in root trees) all is
  where
    is_bang : (c : ℕ) → (c == 33) ≡ true → ((c == 33) || (c == 58)) ≡ true
    is_bang c e = rw e refl

    is_colon : (c : ℕ) → (c == 58) ≡ true → ((c == 33) || (c == 58)) ≡ true
    is_colon c e = by (c == 33)
      where
        by : (b : Bool) → (b || (c == 58)) ≡ true
        by true = refl
        by false = e

    elsewhere : (before : ℕ) (name : Option Ident) (there : Bool) (behind : Forest) → Begins trees (call_from before path.Other name there behind)
    elsewhere before None there behind = tt
    elsewhere before (Some name) false behind = tt
    elsewhere before (Some name) true end = tt
    elsewhere before (Some name) true (leaf l rest) = tt
    elsewhere before (Some name) true (node delimiter children rest) = λ e. absurd (false≢true (sym e))

    elsewhere_behind : (before : ℕ) (behind : Forest) → Begins trees (call_behind before path.Other behind)
    elsewhere_behind before behind = elsewhere before (name_in behind) (is_at_punct (codes "!") (after_tree behind)) (after_trees 2 behind)

    colons : (rest : Forest) → Begins trees (call_behind_colons root rest)
    colons rest = by (is_at_root_path root rest)
      where
        by : (c : Bool) → Begins trees (cond c (call_behind 5 path.Other (after_trees 3 rest)) (call_behind 2 path.Other rest))
        by true = elsewhere_behind 5 (after_trees 3 rest)
        by false = elsewhere_behind 2 rest

    given : BeginsWithName trees → (call : Option Call) → Begins trees call
    given begun None = tt
    given begun (Some call) = λ e. begun

    rooted : is_at_root_path root trees ≡ true → BeginsWithName trees
    rooted both =
        let (at_root, colons) = and_parts (is_at_root root trees) (is_at_colons (after_tree trees)) both in
        let (word, rest, shape) = word_of at_root in
        begins trees word rest 58 shape (colons_first (after_tree trees) colons) is_colon
      where
        word_of : is_at_root root trees ≡ true → (word : Ident) × (rest : Forest) × (trees ≡ leaf (leaf_of.Ident word) rest)
        word_of e = by (is_at_word (codes "crate") trees) refl e
          where
            by : (b : Bool) → is_at_word (codes "crate") trees ≡ b → (b || is_at_word root trees) ≡ true → (word : Ident) × (rest : Forest) × (trees ≡ leaf (leaf_of.Ident word) rest)
            by true is both = word_first (codes "crate") trees is
            by false is both = word_first root trees both

    named : (name : Option Ident) → name_in trees ≡ name → (there : Bool) → is_at_punct (codes "!") (after_tree trees) ≡ there → (behind : Forest)
        → Begins trees (call_from 0 path.Name name there behind)
    named None is there e behind = tt
    named (Some name) is false e behind = tt
    named (Some name) is true e end = tt
    named (Some name) is true e (leaf l rest) = tt
    named (Some name) is true e (node delimiter children rest) =
        let (behind, word, shape) = name_first trees name is in
        λ f. begins trees word behind 33 shape e is_bang

    by : (a b : Bool) → is_at_root_path root trees ≡ b
        → Begins trees (cond a (call_behind_colons root (after_trees 2 trees)) (cond b (call_behind 3 path.Root (after_trees 3 trees)) (call_behind 0 path.Name trees)))
    by true b e = colons (after_trees 2 trees)
    by false true e = given (rooted e) (call_behind 3 path.Root (after_trees 3 trees))
    by false false e = named (name_in trees) refl (is_at_punct (codes "!") (after_tree trees)) refl (after_trees 2 trees)

    all : Begins trees (call_in root trees)
    all = by (is_at_colons trees) (is_at_root_path root trees) refl

    found : (definition : Option Definition) (call : Option Call) → Begins trees call → item_from definition call ≡ calls it → BeginsWithName trees
    found None None there e = absurd (cc e)
    found None (Some other) there e = there (ap (λ c. is_elsewhere c.path) (same e) ∙ here)
      where
        same : calls other ≡ calls it → other ≡ it
        same e = cc
    found (Some definition) call there e = absurd (cc e)

-- the last of so many trees closes a subtree, or is a `;`
pub data EndsClosed (trees : Forest) : Type 0 where
  by_subtree : (front : Forest) (delimiter : Delimiter) (children : Forest) → trees ≡ join front (node delimiter children end) → EndsClosed trees
  by_semicolon : (front : Forest) (punct : Punct) → (punct.char == 59) ≡ true → trees ≡ join front (leaf (leaf_of.Punct punct) end) → EndsClosed trees

-- One tree more is the first of the trees that are left.
pub front_more : (n : ℕ) (trees : Forest) → front_trees (suc n) trees ≡ join (front_trees n trees) (front_trees 1 (after_trees n trees))
front_more zero trees = refl
front_more (suc n) end = ap (λ f. front_trees 1 f) (sym (after_end n))
front_more (suc n) (leaf it rest) = ap (leaf it) (front_more n rest)
front_more (suc n) (node delimiter children rest) = ap (node delimiter children) (front_more n rest)

-- So many trees and one more end so if the next tree is a subtree or a `;`.
pub ends_by_subtree : (n : ℕ) (trees : Forest) (delimiter : Delimiter) (children rest : Forest) → after_trees n trees ≡ node delimiter children rest
    → front_trees (suc n) trees ≡ join (front_trees n trees) (node delimiter children end)
ends_by_subtree n trees delimiter children rest is = front_more n trees ∙ ap (λ f. join (front_trees n trees) (front_trees 1 f)) is

pub ends_by_punct : (n : ℕ) (trees : Forest) (punct : Punct) (rest : Forest) → after_trees n trees ≡ leaf (leaf_of.Punct punct) rest
    → front_trees (suc n) trees ≡ join (front_trees n trees) (leaf (leaf_of.Punct punct) end)
ends_by_punct n trees punct rest is = front_more n trees ∙ ap (λ f. join (front_trees n trees) (front_trees 1 f)) is

-- A call ends with its subtree.
pub call_closed : (root : List ℕ) (trees : Forest) (it : Call) → item_in root trees ≡ calls it
    → (front : Forest) × (front_trees it.len trees ≡ join front (node it.delimiter it.input end))
call_closed root trees it is =
    let call = call_ends root trees it is in
    (front_trees (suc call.before) trees, ap (λ n. front_trees n trees) call.len ∙ ends_by_subtree (suc call.before) trees it.delimiter it.input call.rest call.shape)

-- whether a definition that may be there ends so
abbrev Closes : Forest → Option Definition → Type 0
Closes trees None = Unit {0}
Closes trees (Some it) = EndsClosed (front_trees it.len trees)

-- A definition ends with its subtree, or with the `;` after it.
pub definition_closed : (root : List ℕ) (trees : Forest) (it : Definition) → item_in root trees ≡ defines it → EndsClosed (front_trees it.len trees)
definition_closed root trees it is = found (definition_in trees) (call_in root trees) all is
  where
    third : Forest
    third = after_tree (after_tree (after_tree trees))

    named : (name : Ident) (behind : Forest) → third ≡ behind → Closes trees (defined_as name behind)
    named name end e = tt
    named name (leaf l rest) e = tt
    named name (node delimiter children rest) e = by (is_brace delimiter.kind) (is_at_punct (codes ";") rest) refl
      where
        whole : EndsClosed (front_trees 4 trees)
        whole = by_subtree (front_trees 3 trees) delimiter children (ends_by_subtree 3 trees delimiter children rest e)

        by : (brace semicolon : Bool) → is_at_punct (codes ";") rest ≡ semicolon → EndsClosed (front_trees (cond brace 4 (cond semicolon 5 4)) trees)
        by true semicolon s = whole
        by false false s = whole
        by false true s =
            let (punct, behind, shape, same) = punct_first 59 rest s in
            by_semicolon (front_trees 4 trees) punct same (ends_by_punct 4 trees punct behind (ap after_tree e ∙ shape))

    from : (name : Option Ident) → Closes trees (definition_from name third)
    from None = tt
    from (Some name) = named name third refl

    by : (a b : Bool) (name : Option Ident) → Closes trees (cond a (cond b (definition_from name third) None) None)
    by true true name = from name
    by true false name = tt
    by false b name = tt

    all : Closes trees (definition_in trees)
    all = by (is_at_word (codes "macro_rules") trees) (is_at_punct (codes "!") (after_tree trees)) (name_in (after_tree (after_tree trees)))

    found : (definition : Option Definition) (call : Option Call) → Closes trees definition → item_from definition call ≡ defines it → EndsClosed (front_trees it.len trees)
    found None None there e = absurd (cc e)
    found None (Some c) there e = absurd (cc e)
    found (Some definition) call there e = subst (λ d. EndsClosed (front_trees d.len trees)) (same e) there
      where
        same : defines definition ≡ defines it → definition ≡ it
        same e = cc
