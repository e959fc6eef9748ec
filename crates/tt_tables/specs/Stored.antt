-- What is stored for a tree, and the limits of stored trees.
use Rattle.std.specs.Prelude.{ℕ, suc, ◌≤◌, true, List, [], ◌∷◌, ◌++◌, length}
use Rattle.std.specs.List.{AllByRecursion}
use Rattle.tt_base.specs.declared.span.SpanPart.{SpanPart}
use Rattle.tt_base.specs.Fits.{TokenInRange}
use Rattle.tt_base.specs.Forest.{Forest, end, leaf, node, Root, size, header, flat, flat_root}
use Rattle.tt_codec.specs.Header.{format_4, top_entry}
use Rattle.tt_base.specs.Span.{part_of}
use Rattle.tt_tables.specs.Tables.{Tables, tables_for, token_bytes}
use Rattle.tt_base.specs.declared.token_tree.TokenTree.TheVariants as token

-- the largest number of tokens below the top: a header counts them in 32 bits
abbrev pub most_tokens : ℕ
most_tokens = 4294967295

-- the largest number of span parts, with the top's two: an index of a part has 28 bits
abbrev pub most_parts : ℕ
most_parts = 268435456

-- the largest number of symbols: an index of a symbol has 29 bits
abbrev pub most_symbols : ℕ
most_symbols = 536870912

-- the largest number of bytes below the top: a header counts them in 32 bits
abbrev pub most_bytes : ℕ
most_bytes = 4294967295

-- the bytes of each token in reading order; a header counts the bytes of all tokens below it
unfoldable pub bytes : Tables → Forest → List ℕ
bytes tables end = []
bytes tables (leaf it rest) = token_bytes tables (token.Leaf it) 0 ++ bytes tables rest
bytes tables (node delimiter children rest) =
    token_bytes tables (header delimiter (size children)) (length (bytes tables children)) ++ bytes tables children ++ bytes tables rest

-- what is stored
pub record Stored : Type 0 where
  pub bytes : List ℕ
  pub parts : List SpanPart
  pub symbols : List (List ℕ)
  pub len : ℕ

-- the bytes of all tokens below the top
abbrev pub bytes_below : Forest → List ℕ
bytes_below trees = bytes (tables_for (flat trees)) trees

-- the top's header in its longest format, and then the bytes below it
abbrev pub root_bytes : Root → List ℕ
root_bytes root =
    format_4 true (top_entry (length (tables_for (flat root.children)).parts) root.delimiter (size root.children) (length (bytes_below root.children)))
    ++ bytes_below root.children

-- the parts that tokens below the top use, and two more: those of the top's two spans
abbrev pub root_parts : Root → List SpanPart
root_parts root =
    (tables_for (flat root.children)).parts ++ part_of root.delimiter.open_span ∷ part_of root.delimiter.close ∷ []

-- what is stored for a tree
unfoldable pub packed : Root → Stored
packed root =
    record {
      bytes = root_bytes root;
      parts = root_parts root;
      symbols = (tables_for (flat root.children)).symbols;
      len = suc (size root.children);
    }

-- the numbers of its tokens are in range
abbrev pub IsInRange : Root → Type 0
IsInRange root = AllByRecursion TokenInRange (flat_root root)

-- the tree is within its limits: its tokens and bytes below the top, its parts and its symbols
pub record IsWithinLimits (root : Root) : Type 0 where
  pub tokens : size root.children ≤ most_tokens
  pub parts : length (root_parts root) ≤ most_parts
  pub symbols : length (tables_for (flat root.children)).symbols ≤ most_symbols
  pub bytes : length (bytes_below root.children) ≤ most_bytes
