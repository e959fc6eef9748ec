-- Which token the leaves of a part are.
use Rattle.std.specs.Prelude.{◌==◌, ◌&&◌, ◌||◌, ℕ, Bool, true, false, List, [], ◌∷◌, codes, not}
use Rattle.tt.specs.Types.Leaf.{Leaf}
use Rattle.tt.specs.Types.Leaf.TheVariants as leaf_of
use Rattle.mbe_pattern.specs.Units.{quote, is_word}

-- the token has exactly these puncts
abbrev pub is_spelled : (chars : List ℕ) → List Leaf → Bool
is_spelled [] [] = true
is_spelled [] (it ∷ others) = false
is_spelled (char ∷ chars) [] = false
is_spelled (char ∷ chars) (leaf_of.Literal it ∷ others) = false
is_spelled (char ∷ chars) (leaf_of.Punct it ∷ others) = is_spelled chars others && (it.char == char)
is_spelled (char ∷ chars) (leaf_of.Ident it ∷ others) = false

-- the token is an ident
abbrev pub is_ident : List Leaf → Bool
is_ident [] = false
is_ident (leaf_of.Literal it ∷ others) = false
is_ident (leaf_of.Punct it ∷ others) = false
is_ident (leaf_of.Ident it ∷ []) = true
is_ident (leaf_of.Ident it ∷ second ∷ others) = false

-- the token is the ident of that text, and is not raw
abbrev pub is_plain : (text : List ℕ) → List Leaf → Bool
is_plain text [] = false
is_plain text (leaf_of.Literal it ∷ others) = false
is_plain text (leaf_of.Punct it ∷ others) = false
is_plain text (leaf_of.Ident it ∷ []) = is_word text it.is_raw it.sym
is_plain text (leaf_of.Ident it ∷ second ∷ others) = false

-- the token is a `'` and an ident
abbrev pub is_lifetime : List Leaf → Bool
is_lifetime [] = false
is_lifetime (leaf_of.Literal it ∷ others) = false
is_lifetime (leaf_of.Punct it ∷ others) = is_ident others && (it.char == quote)
is_lifetime (leaf_of.Ident it ∷ others) = false

-- a type may begin with the token
abbrev pub begins_type : List Leaf → Bool
begins_type its =
    is_spelled (codes "!") its || is_spelled (codes "*") its || is_spelled (codes "&") its || is_spelled (codes "&&") its
    || is_spelled (codes "?") its || is_spelled (codes "<") its || is_spelled (codes "<<") its || is_spelled (codes "::") its
    || is_lifetime its

-- the token may come behind an expression or a statement
abbrev pub ends_expr : List Leaf → Bool
ends_expr its = is_spelled (codes "=>") its || is_spelled (codes ",") its || is_spelled (codes ";") its

-- it may come behind a pattern
abbrev pub ends_pat : List Leaf → Bool
ends_pat its =
    is_spelled (codes "=>") its || is_spelled (codes ",") its || is_spelled (codes "=") its || is_plain (codes "if") its || is_plain (codes "in") its

-- it may come behind a type or a path
abbrev pub ends_ty : List Leaf → Bool
ends_ty its =
    is_spelled (codes "=>") its || is_spelled (codes ",") its || is_spelled (codes ">") its || is_spelled (codes ">>") its
    || is_spelled (codes "=") its || is_spelled (codes ":") its || is_spelled (codes ";") its || is_spelled (codes "|") its
    || is_plain (codes "as") its || is_plain (codes "where") its

-- it may come behind a visibility
abbrev pub ends_vis : List Leaf → Bool
ends_vis its = is_spelled (codes ",") its || (is_ident its && not (is_plain (codes "priv") its)) || begins_type its
