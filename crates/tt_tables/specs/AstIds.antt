-- New ids for the span parts of a tree, one for each entry of the table that is stored for it.
use Rattle.std.specs.List.{IsDistinct}
use Rattle.std.specs.Prelude.{ℕ, ◌+◌, List, [], ◌∷◌, length, map, get_or}
use Rattle.tt_base.specs.declared.span.ErasedFileAstId.{ErasedFileAstId}
use Rattle.tt_base.specs.declared.span.Span.{Span}
use Rattle.tt_base.specs.declared.span.SpanPart.{SpanPart}
use Rattle.tt_base.specs.declared.token_tree.TokenTree.{TokenTree}
use Rattle.tt_base.specs.declared.token_tree.TokenTree.TheVariants as token
use Rattle.tt_base.specs.Edits.{with_id, respanned, respanned_leaf, respanned_delimiter}
use Rattle.tt_base.specs.Forest.{Root, header, flat}
use Rattle.tt_base.specs.Span.{part_of}
use Rattle.tt_base.specs.Token.{delimiter}
use Rattle.tt_tables.specs.Stored.{Stored, root_parts}
use Rattle.tt_tables.specs.TableOrder.{index_in}
use Rattle.tt_tables.specs.Tables.{part_table}
use Rattle.tt_tables.specs.Uses.{same_part}

-- the ids of the stored parts, in order
abbrev pub stored_ids : Root → List ErasedFileAstId
stored_ids root = map (λ part. part.anchor.ast_id) (root_parts root)

-- the span with the id at that index; the same span if there is no such id
abbrev pub with_id_at : (ids : List ErasedFileAstId) → (index : ℕ) → Span → Span
with_id_at ids index span = with_id (get_or ids index span.anchor.ast_id) span

-- the tree with these ids in its spans, one for each entry of the table: below the top the one for the span's part, and for the top's
-- open and close span the last but one and the last
abbrev pub ids_changed : (ids : List ErasedFileAstId) → Root → Root
ids_changed ids root =
    let parts = part_table (flat root.children) in
    let top = root.delimiter in
    record {
      delimiter = delimiter top.kind (with_id_at ids (length parts) top.open_span) (with_id_at ids (length parts + 1) top.close);
      children = respanned (λ span. with_id_at ids (index_in (same_part (part_of span)) parts) span) root.children;
    }

-- the token with the value of f for each of its spans
abbrev pub respanned_token : (f : Span → Span) → TokenTree → TokenTree
respanned_token f (token.Leaf it) = token.Leaf (respanned_leaf f it)
respanned_token f (token.Subtree it) = header (respanned_delimiter f it.delimiter) it.len

-- the part with another id
abbrev pub part_with_id : ErasedFileAstId → SpanPart → SpanPart
part_with_id id part = record { anchor = record { file_id = part.anchor.file_id; ast_id = id }; ctx = part.ctx }

-- the entries of a table, each with the id at its index; an entry without such an id stays
abbrev pub parts_with_ids : (ids : List ErasedFileAstId) → List SpanPart → List SpanPart
parts_with_ids ids [] = []
parts_with_ids [] (part ∷ parts) = part ∷ parts
parts_with_ids (id ∷ ids) (part ∷ parts) = part_with_id id part ∷ parts_with_ids ids parts

-- all entries below the top are different with these ids
abbrev pub KeepApart : (ids : List ErasedFileAstId) → Root → Type 0
KeepApart ids root = IsDistinct same_part (parts_with_ids ids (part_table (flat root.children)))

-- the same bytes and symbols under other parts
abbrev pub under_parts : List SpanPart → Stored → Stored
under_parts parts stored = record { bytes = stored.bytes; parts = parts; symbols = stored.symbols; len = stored.len }
