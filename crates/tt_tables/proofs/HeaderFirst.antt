-- The bytes of a whole list that begins with a header.
use Rattle.std.proofs.Common.{◌≡◌, ◌+◌, ◌-◌, List, ◌∷◌, ◌++◌, length, drop, ap, ap₂, sym, ◌∙◌, arith, append_assoc, length-append}
use Rattle.tt_base.specs.declared.delimiter.Subtree.{Subtree}
use Rattle.tt_base.specs.declared.token_tree.TokenTree.{TokenTree}
use Rattle.tt_base.specs.declared.token_tree.TokenTree.TheVariants as token
use Rattle.tt_base.specs.Forest.{Forest, size, header, IsWhole}
use Rattle.tt_tables.specs.Stored.{bytes}
use Rattle.tt_tables.specs.Tables.{Tables, token_bytes}
use Rattle.tt_base.specs.Unflat.{front, behind, unflat}
use Rattle.tt_base.proofs.EndPieces.{join-front-behind, header_holds, unflat-drop}
use Rattle.tt_tables.proofs.Naming.{bytes-join}
use Rattle.tt_base.proofs.WholeLists.{end_piece}

-- The header counts the bytes of the tokens below it.
pub header_first : (tables : Tables) (s : Subtree) (tokens : List TokenTree) → IsWhole (token.Subtree s ∷ tokens)
    → bytes tables (unflat (token.Subtree s ∷ tokens))
    ≡ token_bytes tables (token.Subtree s) (length (bytes tables (unflat tokens)) - length (bytes tables (unflat (drop s.len tokens))))
    ++ bytes tables (unflat tokens)
unfolding bytes
header_first tables s tokens w =
    append_assoc (token_bytes tables (header s.delimiter (size children)) (length (bytes tables children))) (bytes tables children) (bytes tables others)
    ∙ ap₂ (λ n l. token_bytes tables (header s.delimiter n) (length (bytes tables children)) ++ l) holds
    (sym (bytes-join tables children others) ∙ ap (bytes tables) (join-front-behind s.len (unflat tokens)))
    ∙ ap (λ n. token_bytes tables (token.Subtree s) n ++ bytes tables (unflat tokens)) counted
  where
    children : Forest
    children = front s.len (unflat tokens)

    others : Forest
    others = behind s.len (unflat tokens)

    holds : size children ≡ s.len
    holds = header_holds s tokens w

    together : length (bytes tables (unflat tokens)) ≡ length (bytes tables children) + length (bytes tables others)
    together =
        ap (λ f. length (bytes tables f)) (sym (join-front-behind s.len (unflat tokens)))
        ∙ ap length (bytes-join tables children others)
        ∙ length-append (bytes tables children) (bytes tables others)

    left : length (bytes tables (unflat (drop s.len tokens))) ≡ length (bytes tables others)
    left = ap (λ f. length (bytes tables f)) (unflat-drop s.len tokens (end_piece 1 (token.Subtree s ∷ tokens) w) holds)

    counted : length (bytes tables children) ≡ length (bytes tables (unflat tokens)) - length (bytes tables (unflat (drop s.len tokens)))
    counted = omega (arith, together, left)
