-- The token that an interned token means.
use Rattle.std.specs.Prelude.{◌≡◌, List}
use Rattle.std.specs.List.{AllZip}
use Rattle.tt_base.specs.declared.token_tree.TokenTree.TheVariants as token
use Rattle.tt_base.specs.Fits.{SpanInRange, LeafInRange, TokenInRange}
use Rattle.tt_tables.specs.declared.token.InternedToken.{InternedToken}
use Rattle.tt_tables.specs.declared.token.InternedToken.TheVariants as interned
use Rattle.tt_tables.specs.Held.{HeldToken, whole, opened}
use Rattle.tt_tables.specs.Searches.{FindsSpan, FindsLeaf, FindsSubtree}
use Rattle.tt_tables.specs.Tables.{Tables}

-- under these tables, which may be longer than any stored ones, the interned token means the other one
abbrev pub Names : Tables → InternedToken → HeldToken → Type 0
Names tables (interned.Leaf entry) (whole (token.Leaf it)) = FindsLeaf tables entry it × LeafInRange it
Names tables (interned.Leaf entry) (whole (token.Subtree it)) = ⊥
Names tables (interned.Leaf entry) (opened kind open_span) = ⊥
Names tables (interned.Open kind numbers) (whole it) = ⊥
Names tables (interned.Open kind numbers) (opened other open_span) = (kind ≡ other) × FindsSpan tables numbers open_span × SpanInRange open_span
Names tables (interned.Header entry) (whole (token.Leaf it)) = ⊥
Names tables (interned.Header entry) (whole (token.Subtree it)) = FindsSubtree tables entry it × TokenInRange (token.Subtree it)
Names tables (interned.Header entry) (opened kind open_span) = ⊥

-- the same of all tokens, place by place
abbrev pub AllName : Tables → List InternedToken → List HeldToken → Type 0
AllName tables tokens held = AllZip (Names tables) tokens held
