-- A token that becomes alone.
use Rattle.tt_base.specs.declared.punct.Spacing.TheVariants.{Alone}
use Rattle.tt_codec.specs.declared.entry.LeafEntry.TheVariants.{Punct as punct, Ident as ident, Literal as literal}
use Rattle.tt_tables.specs.declared.token.InternedToken.{InternedToken}
use Rattle.tt_tables.specs.declared.token.InternedToken.TheVariants as interned

-- the token, alone if it is a punct
abbrev pub interned_alone : InternedToken → InternedToken
interned_alone (interned.Leaf (punct char spacing numbers)) = interned.Leaf (punct char Alone numbers)
interned_alone (interned.Leaf (ident symbol raw numbers)) = interned.Leaf (ident symbol raw numbers)
interned_alone (interned.Leaf (literal symbol kind suffix_len numbers)) = interned.Leaf (literal symbol kind suffix_len numbers)
interned_alone (interned.Open kind numbers) = interned.Open kind numbers
interned_alone (interned.Header entry) = interned.Header entry
