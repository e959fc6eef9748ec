-- Lines of a text in which only white space is.
use Rattle.std.specs.Prelude.{◌++◌, ◌||◌, ◌==◌, ℕ, Bool, List, [], ◌∷◌, drop, Option, None, Some, option_map, reverse, if◌then◌else◌}

-- a space, a tab or a carriage return
abbrev pub is_blank : ℕ → Bool
is_blank byte = (byte == 32) || ((byte == 9) || (byte == 13))

-- a text from its first line feed on, if only blanks precede that. If the text ends at an edge of all text, it may also be blank up to there
abbrev pub past_blanks : (is_edge : Bool) → List ℕ → Option (List ℕ)
past_blanks is_edge [] = if is_edge then Some [] else None
past_blanks is_edge (byte ∷ text) = if byte == 10 then Some (byte ∷ text) else (if is_blank byte then past_blanks is_edge text else None)

-- what precedes the last line of a text, if that line is blank; `is_first` says that it may be the first line of all
abbrev pub before_line : (is_first : Bool) → List ℕ → Option (List ℕ)
before_line is_first text = option_map (λ front. reverse front) (past_blanks is_first (reverse text))

-- what follows the first line of a text, if that line is blank; `is_last` says that it may be the last line of all
abbrev pub behind_line : (is_last : Bool) → List ℕ → Option (List ℕ)
behind_line is_last text = option_map (λ back. drop 1 back) (past_blanks is_last text)

-- what precedes a line and what follows it, if both are there
abbrev pub without_line : (front back : Option (List ℕ)) → (otherwise : List ℕ) → List ℕ
without_line None back otherwise = otherwise
without_line (Some front) None otherwise = otherwise
without_line (Some front) (Some back) otherwise = front ++ back
