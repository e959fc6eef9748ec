-- The tokens that a list of small tokens holds, and what its changes leave.
use Rattle.std.specs.Prelude.{◌≡◌, ℕ, ◌≤◌, List, ◌∷◌, [], ◌++◌, Some, slice_get, length, bytes_eq}
use Rattle.std.specs.Coded.{Coded, coded_list}
use Rattle.std.specs.List.{AllZip}
use Rattle.std.specs.Map.{keys_of}
use Rattle.tt_base.specs.contracts.token_tree.TokenTree.{the_row as token_row}
use Rattle.tt_base.specs.declared.delimiter.Subtree.{Subtree}
use Rattle.tt_base.specs.declared.leaf.Leaf.{Leaf}
use Rattle.tt_base.specs.declared.span.Span.{Span}
use Rattle.tt_base.specs.declared.span.SpanPart.{SpanPart}
use Rattle.tt_base.specs.declared.token_tree.TokenTree.{TokenTree}
use Rattle.tt_base.specs.declared.token_tree.TokenTree.TheVariants as token
use Rattle.tt_base.specs.Forest.{header}
use Rattle.tt_base.specs.Token.{delimiter}
use Rattle.tt_tables.specs.declared.small.Small.{Small}
use Rattle.tt_tables.specs.Counts.{CountsUses, CountsMore}
use Rattle.tt_tables.specs.SmallMeaning.{Means, AreRanked}
use Rattle.tt_tables.specs.TableOrder.{different}
use Rattle.tt_tables.specs.Tables.{Tables, tables_from}
use Rattle.tt_tables.specs.Uses.{symbol_uses}

-- the code of a list of tokens, which a model needs
abbrev pub tokens_code : Coded (List TokenTree)
tokens_code = coded_list token_row.coded

-- a header with its count and its close span; a leaf stays
abbrev pub closed_token : Span → ℕ → TokenTree → TokenTree
closed_token close_span len (token.Leaf it) = token.Leaf it
closed_token close_span len (token.Subtree s) = header (delimiter s.delimiter.kind s.delimiter.open_span close_span) len

-- the tables of one part and of these symbols
abbrev pub small_tables : SpanPart → (symbols : List (List ℕ × ℕ)) → Tables
small_tables part symbols = tables_from (part ∷ []) (keys_of symbols)

-- the tokens mean the list; symbols have their numbers of uses in it, and are in the order of first uses
pub record AreSmall (part : SpanPart) (tokens : List Small) (headers : List Subtree) (leaves : List Leaf) (symbols : List (List ℕ × ℕ)) (list : List TokenTree) : Type 0 where
  pub means : AllZip (Means (small_tables part symbols) headers leaves) tokens list
  pub ranked : AreRanked (length headers) tokens 0
  pub counted : CountsUses bytes_eq (symbol_uses list) symbols
  pub in_order : keys_of symbols ≡ different bytes_eq (symbol_uses list)
  pub few : length list ≤ 4294967296
  pub few_headers : length headers ≤ length list
  pub few_leaves : length leaves ≤ length list

-- the tokens mean some list
abbrev pub HasSmall : SpanPart → (tokens : List Small) (headers : List Subtree) (leaves : List Leaf) (symbols : List (List ℕ × ℕ)) → Type 0
HasSmall part tokens headers leaves symbols = (list : List TokenTree) × AreSmall part tokens headers leaves symbols list

-- the values keep their places, each of these symbols has one use more, and the order is still that of first uses
pub record CountsSymbols (old new : List (List ℕ × ℕ)) (used : List (List ℕ)) : Type 0 where
  pub stay : (i : ℕ) (x : List ℕ) → slice_get (keys_of old) i ≡ Some x → slice_get (keys_of new) i ≡ Some x
  pub more : CountsMore bytes_eq used old new
  pub in_order : (uses : List (List ℕ)) → keys_of old ≡ different bytes_eq uses → keys_of new ≡ different bytes_eq (uses ++ used)
