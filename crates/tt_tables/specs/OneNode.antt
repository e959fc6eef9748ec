-- The tokens of one node, and the values that its header names.
use Rattle.std.specs.Prelude.{◌≡◌, ℕ, List, ◌∷◌, Some, map, drop, length, slice_get}
use Rattle.std.specs.List.{IsDistinct}
use Rattle.tt_base.specs.declared.delimiter.Subtree.{Subtree}
use Rattle.tt_base.specs.declared.span.Span.{Span}
use Rattle.tt_base.specs.declared.span.SpanPart.{SpanPart}
use Rattle.tt_base.specs.declared.token_tree.TokenTree.{TokenTree}
use Rattle.tt_base.specs.declared.token_tree.TokenTree.TheVariants as token
use Rattle.tt_base.specs.Fits.{SpanInRange}
use Rattle.tt_codec.specs.declared.entry.HeaderEntry.{HeaderEntry}
use Rattle.tt_codec.specs.declared.span.SpanNumbers.{SpanNumbers}
use Rattle.tt_tables.specs.declared.counted.CountedTokens.{CountedTokens}
use Rattle.tt_tables.specs.declared.token.InternedToken.{InternedToken}
use Rattle.tt_tables.specs.declared.token.InternedToken.TheVariants as interned
use Rattle.tt_tables.specs.ListOf.{list_of, parts_of}
use Rattle.tt_tables.specs.Searches.{FindsSpan}
use Rattle.tt_tables.specs.TableOrder.{uses_of}
use Rattle.tt_tables.specs.Tables.{tables_from}
use Rattle.tt_tables.specs.Uses.{same_part, part_uses}

-- a header, and as many tokens after it as it counts
pub record IsOneNode (tokens : List TokenTree) : Type 0 where
  pub top : Subtree
  pub rest : List TokenTree
  pub list : tokens ≡ token.Subtree top ∷ rest
  pub counted : top.len ≡ length rest

-- the first token is that header
abbrev pub BeginsWith : List InternedToken → HeaderEntry → Type 0
BeginsWith tokens entry = (rest : List InternedToken) × (tokens ≡ interned.Header entry ∷ rest)

-- the numbers are those of a span in range, whose part is one of these
abbrev pub IsSpanAt : List SpanPart → SpanNumbers → Span → Type 0
IsSpanAt parts numbers span = (symbols : List (List ℕ)) × FindsSpan (tables_from parts symbols) numbers span × SpanInRange span

-- the numbers are those of some uses, and one of these uses is of the part at the place
pub record HasUseAt (parts : List SpanPart) (place : ℕ) (others : List SpanPart) (numbers : List ℕ) : Type 0 where
  pub part : SpanPart
  pub there : slice_get parts place ≡ Some part
  pub distinct : IsDistinct same_part parts
  pub counted : numbers ≡ map (uses_of same_part (part ∷ others)) parts

-- each part has that number of uses after the first token
abbrev pub AreUsedBehind : CountedTokens → List ℕ → Type 0
AreUsedBehind it numbers = numbers ≡ map (uses_of same_part (part_uses (drop 1 (list_of it)))) (parts_of it)
