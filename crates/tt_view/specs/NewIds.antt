-- The answers for the entries of a table, found again by part.
use Rattle.std.specs.Prelude.{List, [], ◌∷◌, Option, Some, None, unwrap_or, if◌then◌else◌}
use Rattle.tt_base.specs.declared.span.ErasedFileAstId.{ErasedFileAstId}
use Rattle.tt_base.specs.declared.span.Span.{Span}
use Rattle.tt_base.specs.declared.span.SpanPart.{SpanPart}
use Rattle.tt_base.specs.Asked.{AsksAll}
use Rattle.tt_base.specs.Edits.{with_id}
use Rattle.tt_base.specs.Forest.{Root}
use Rattle.tt_base.specs.Span.{part_of}
use Rattle.tt_tables.specs.AstIds.{stored_ids}
use Rattle.tt_tables.specs.Uses.{same_part}

-- the callback was called with the id of each stored part of the tree, in order, and returned these ids
pub record AnswersIds {F : Type 0} (call : F → ErasedFileAstId → ErasedFileAstId → F → Type 0) (first : F) (root : Root) (ids : List ErasedFileAstId) : Type 0 where
  pub last : F
  pub asked : AsksAll call first (stored_ids root) ids last

-- the id for the first entry that is this part, if there is one
abbrev pub id_for : List SpanPart → List ErasedFileAstId → SpanPart → Option ErasedFileAstId
id_for [] ids part = None
id_for (entry ∷ parts) [] part = None
id_for (entry ∷ parts) (id ∷ ids) part = if same_part part entry then Some id else id_for parts ids part

-- the span with the id for its part, or the span itself if there is no such id
abbrev pub span_with : (SpanPart → Option ErasedFileAstId) → Span → Span
span_with ids span = with_id (unwrap_or (ids (part_of span)) span.anchor.ast_id) span
