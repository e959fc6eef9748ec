-- A derived hash gives the hasher at least one write.
use Rattle.std.proofs.Common.{◌≢◌, []}
use Rattle.tt_base.specs.contracts.delimiter.SubtreeHash.TheImpl as subtree_hash
use Rattle.tt_base.specs.contracts.ident.IdentHash.TheImpl as ident_hash
use Rattle.tt_base.specs.contracts.leaf.LeafHash.TheImpl as leaf_hash
use Rattle.tt_base.specs.contracts.literal.LiteralHash.TheImpl as literal_hash
use Rattle.tt_base.specs.contracts.punct.PunctHash.TheImpl as punct_hash
use Rattle.tt_base.specs.contracts.span.SpanHash.TheImpl as span_hash
use Rattle.tt_base.specs.contracts.span.SpanPartHash.TheImpl as part_hash
use Rattle.tt_base.specs.contracts.token_tree.TokenTreeHash.TheImpl as token_hash
use Rattle.tt_base.specs.declared.delimiter.Subtree.{Subtree}
use Rattle.tt_base.specs.declared.ident.Ident.{Ident}
use Rattle.tt_base.specs.declared.leaf.Leaf.{Leaf}
use Rattle.tt_base.specs.declared.leaf.Leaf.TheVariants as leaf
use Rattle.tt_base.specs.declared.literal.Literal.{Literal}
use Rattle.tt_base.specs.declared.punct.Punct.{Punct}
use Rattle.tt_base.specs.declared.span.Span.{Span}
use Rattle.tt_base.specs.declared.span.SpanPart.{SpanPart}
use Rattle.tt_base.specs.declared.token_tree.TokenTree.{TokenTree}
use Rattle.tt_base.specs.declared.token_tree.TokenTree.TheVariants as token

-- The hash of a span part does.
pub part_feeds : (part : SpanPart) → (part_hash.ghosts).hash_input part ≢ []
part_feeds part h = cc h

-- The hash of a span does.
pub span_feeds : (span : Span) → (span_hash.ghosts).hash_input span ≢ []
span_feeds span h = cc h

-- The hash of a punct does.
pub punct_feeds : (punct : Punct) → (punct_hash.ghosts).hash_input punct ≢ []
punct_feeds punct h = cc h

-- The hash of an ident does.
pub ident_feeds : (ident : Ident) → (ident_hash.ghosts).hash_input ident ≢ []
ident_feeds ident h = cc h

-- The hash of a literal does.
pub literal_feeds : (literal : Literal) → (literal_hash.ghosts).hash_input literal ≢ []
literal_feeds literal h = cc h

-- The hash of a header does.
pub subtree_feeds : (subtree : Subtree) → (subtree_hash.ghosts).hash_input subtree ≢ []
subtree_feeds subtree h = cc h

-- The hash of a leaf does.
pub leaf_feeds : (it : Leaf) → (leaf_hash.ghosts).hash_input it ≢ []
leaf_feeds (leaf.Literal it) h = cc h
leaf_feeds (leaf.Punct it) h = cc h
leaf_feeds (leaf.Ident it) h = cc h

-- The hash of a token does.
pub token_feeds : (it : TokenTree) → (token_hash.ghosts).hash_input it ≢ []
token_feeds (token.Leaf it) h = cc h
token_feeds (token.Subtree it) h = cc h
