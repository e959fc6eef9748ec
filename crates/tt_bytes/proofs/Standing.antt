-- Tokens that the numbers at an offset name.
use Rattle.std.proofs.Common.{◌≡◌, Option, Some}
use Rattle.tt_base.specs.declared.token_tree.TokenTree.{TokenTree}
use Rattle.tt_base.specs.declared.token_tree.TokenTree.TheVariants as token
use Rattle.tt_base.specs.Fits.{TokenInRange}
use Rattle.tt_bytes.specs.Decoding.{GivesToken, Names}
use Rattle.tt_codec.specs.declared.entry.Entry.{Entry}
use Rattle.tt_codec.specs.declared.entry.Entry.TheVariants.{Leaf as of_leaf, Header as of_header}
use Rattle.tt_tables.specs.Tables.{Tables}

-- The result is the token in range that the numbers name.
pub gives_named : (tables : Tables) (entry : Entry) (result : Option TokenTree) → GivesToken tables entry result → (it : TokenTree) → Names tables entry it
    → TokenInRange it → result ≡ Some it
gives_named tables (of_leaf entry) result gives (token.Leaf it) named range = gives it named range
gives_named tables (of_leaf entry) result gives (token.Subtree it) named range = absurd named
gives_named tables (of_header entry) result gives (token.Leaf it) named range = absurd named
gives_named tables (of_header entry) result gives (token.Subtree it) named range = gives it named range
