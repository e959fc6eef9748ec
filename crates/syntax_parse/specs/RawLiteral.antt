-- What is wrong with a raw literal that lacks its hashes.
use Rattle.std.specs.Prelude.{ℕ, ◌==◌, nat_lt, List, drop, if◌then◌else◌}
use Rattle.syntax_lex.specs.Closing.{hashes_of}
use Rattle.syntax_lex.specs.Front.{first}
use Rattle.syntax_parse.specs.declared.fault.BadToken.{BadToken}
use Rattle.syntax_parse.specs.declared.fault.BadToken.TheVariants as bad

-- why a raw literal is not valid, by the text after its letters: no quote follows its hashes, it has
-- more than 255 hashes, or nothing closes it
abbrev pub raw_fault : (text : List ℕ) → BadToken
raw_fault text =
    if first (drop (hashes_of text) text) == 34
    then (if nat_lt 255 (hashes_of text) then bad.TooManyHashes else bad.UnterminatedLiteral)
    else bad.RawWithoutQuote
