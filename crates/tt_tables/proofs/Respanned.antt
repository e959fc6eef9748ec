-- Tokens with other ids in their spans, and the values that such tokens use.
use Rattle.std.proofs.Common.{◌≡◌, suc, ◌+◌, List, [], ◌∷◌, ◌++◌, map, get_or, refl, ap, ap₂, sym, ◌∙◌}
use Rattle.std.proofs.lemmas.List.{map-append}
use Rattle.tt_base.specs.declared.leaf.Leaf.TheVariants as leaf_of
use Rattle.tt_base.specs.declared.span.ErasedFileAstId.{ErasedFileAstId}
use Rattle.tt_base.specs.declared.span.Span.{Span}
use Rattle.tt_base.specs.declared.span.SpanPart.{SpanPart}
use Rattle.tt_base.specs.declared.token_tree.TokenTree.{TokenTree}
use Rattle.tt_base.specs.declared.token_tree.TokenTree.TheVariants as token
use Rattle.tt_base.specs.Edits.{respanned_leaf, respanned_delimiter, respanned}
use Rattle.tt_base.specs.Forest.{Forest, end, leaf, node, size, header, flat}
use Rattle.tt_base.specs.Span.{part_of}
use Rattle.tt_tables.specs.AstIds.{with_id_at, part_with_id, respanned_token}
use Rattle.tt_tables.specs.TableOrder.{index_in}
use Rattle.tt_tables.specs.Uses.{same_part, token_parts, token_symbols, part_uses, symbol_uses}

-- There are as many tokens as before.
pub size-respanned : (f : Span → Span) (trees : Forest) → size (respanned f trees) ≡ size trees
size-respanned f end = refl
size-respanned f (leaf it rest) = ap suc (size-respanned f rest)
size-respanned f (node d children rest) = ap₂ (λ m n. suc (m + n)) (size-respanned f children) (size-respanned f rest)

-- Each token changes by itself.
pub flat-respanned : (f : Span → Span) (trees : Forest) → flat (respanned f trees) ≡ map (respanned_token f) (flat trees)
flat-respanned f end = refl
flat-respanned f (leaf it rest) = ap (λ l. token.Leaf (respanned_leaf f it) ∷ l) (flat-respanned f rest)
flat-respanned f (node d children rest) =
    ap₂ (λ n l. header (respanned_delimiter f d) n ∷ l) (size-respanned f children)
    (ap₂ ◌++◌ (flat-respanned f children) (flat-respanned f rest) ∙ sym (map-append (respanned_token f) (flat children) (flat rest)))

-- the part with the id for its entry
abbrev pub part_by : (ids : List ErasedFileAstId) → (parts : List SpanPart) → SpanPart → SpanPart
part_by ids parts part = part_with_id (get_or ids (index_in (same_part part) parts) part.anchor.ast_id) part

-- the new span, for these entries
abbrev pub span_by : (ids : List ErasedFileAstId) → (parts : List SpanPart) → Span → Span
span_by ids parts span = with_id_at ids (index_in (same_part (part_of span)) parts) span

module _ (ids : List ErasedFileAstId) (parts : List SpanPart) where
  parts_of_token : (it : TokenTree) → token_parts (respanned_token (span_by ids parts) it) ≡ map (part_by ids parts) (token_parts it)
  parts_of_token (token.Leaf (leaf_of.Literal it)) = refl
  parts_of_token (token.Leaf (leaf_of.Punct it)) = refl
  parts_of_token (token.Leaf (leaf_of.Ident it)) = refl
  parts_of_token (token.Subtree it) = refl

  symbols_of_token : (it : TokenTree) → token_symbols (respanned_token (span_by ids parts) it) ≡ token_symbols it
  symbols_of_token (token.Leaf (leaf_of.Literal it)) = refl
  symbols_of_token (token.Leaf (leaf_of.Punct it)) = refl
  symbols_of_token (token.Leaf (leaf_of.Ident it)) = refl
  symbols_of_token (token.Subtree it) = refl

  -- Each used part changes by itself.
  pub part_uses-respanned : (tokens : List TokenTree) → part_uses (map (respanned_token (span_by ids parts)) tokens) ≡ map (part_by ids parts) (part_uses tokens)
  part_uses-respanned [] = refl
  part_uses-respanned (it ∷ tokens) =
      ap₂ ◌++◌ (parts_of_token it) (part_uses-respanned tokens) ∙ sym (map-append (part_by ids parts) (token_parts it) (part_uses tokens))

  -- The used symbols stay.
  pub symbol_uses-respanned : (tokens : List TokenTree) → symbol_uses (map (respanned_token (span_by ids parts)) tokens) ≡ symbol_uses tokens
  symbol_uses-respanned [] = refl
  symbol_uses-respanned (it ∷ tokens) = ap₂ ◌++◌ (symbols_of_token it) (symbol_uses-respanned tokens)
