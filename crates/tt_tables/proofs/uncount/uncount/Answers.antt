use Rattle.std.proofs.Common.{◌≡◌, bytes_eq, ap, subst, ◌∙◌, rules, slice_get}
use Rattle.std.specs.Map.{keys_of}
use Rattle.tt_base.specs.contracts.span.SpanPartEq.TheImpl.Laws as part_eq
use Rattle.tt_base.specs.contracts.symbol.SymbolEq.TheImpl.Laws as symbol_eq
use Rattle.tt_codec.specs.declared.entry.LeafEntry.TheVariants.{Punct as punct, Ident as ident, Literal as literal}
use Rattle.tt_tables.specs.declared.token.InternedToken.TheVariants as interned
use Rattle.tt_tables.specs.Interned.{tables_of}
use Rattle.tt_tables.specs.Names.{Names}
use Rattle.tt_tables.proofs.Taking.{punct_uses, ident_uses, literal_uses, open_uses, header_uses, has_one, has_first, has_second, both_gone, one_gone}
use Rattle.tt_tables.specs.Interner.{entries_of}
use Rattle.tt_tables.specs.Uses.{same_part}
use Rattle.tt_tables.proofs.uncount.uncount.Goals as goal

pub take_at-requires-clause-some : goal.take_at-requires-clause-some
take_at-requires-clause-some c = λ x here.
    let token : c.args.token ≡ interned.Leaf (punct c.in-Leaf-Punct.field-0-0 c.in-Leaf-Punct.field-0-1 c.in-Leaf-Punct.numbers) = search rules in
    let named = subst (λ t. Names (tables_of (entries_of c.args.parts.now) (entries_of c.args.symbols.now)) t c.requires.it) token c.requires.named in
    let uses = punct_uses _ _ _ _ _ named in
    has_one same_part part_eq.lawful.laws (keys_of (entries_of c.args.parts.now)) c.in-Leaf-Punct.numbers.part _ _ _ x uses.0.there uses.0.counted c.requires.parts_used here

pub take_at-requires-in-Leaf-Ident-clause-some : goal.take_at-requires-in-Leaf-Ident-clause-some
take_at-requires-in-Leaf-Ident-clause-some c = λ x here.
    let token : c.args.token ≡ interned.Leaf (ident c.in-Leaf-Ident.symbol c.in-Leaf-Ident.field-0-1 c.in-Leaf-Ident.numbers) = search rules in
    let named = subst (λ t. Names (tables_of (entries_of c.args.parts.now) (entries_of c.args.symbols.now)) t c.requires.it) token c.requires.named in
    let uses = ident_uses _ _ _ _ _ named in
    has_one same_part part_eq.lawful.laws (keys_of (entries_of c.args.parts.now)) c.in-Leaf-Ident.numbers.part _ _ _ x uses.0.there uses.0.counted c.requires.parts_used here

pub take_at-requires-in-Leaf-Ident-2-clause-some : goal.take_at-requires-in-Leaf-Ident-2-clause-some
take_at-requires-in-Leaf-Ident-2-clause-some c = λ x here.
    let token : c.args.token ≡ interned.Leaf (ident c.in-Leaf-Ident.symbol c.in-Leaf-Ident.field-0-1 c.in-Leaf-Ident.numbers) = search rules in
    let named = subst (λ t. Names (tables_of (entries_of c.args.parts.now) (entries_of c.args.symbols.now)) t c.requires.it) token c.requires.named in
    let uses = ident_uses _ _ _ _ _ named in
    has_one bytes_eq symbol_eq.lawful.laws (keys_of (entries_of c.args.symbols.now)) c.in-Leaf-Ident.symbol _ _ _ x uses.1.there uses.1.counted c.requires.symbols_used here

pub take_at-requires-in-Leaf-Literal-clause-some : goal.take_at-requires-in-Leaf-Literal-clause-some
take_at-requires-in-Leaf-Literal-clause-some c = λ x here.
    let token : c.args.token ≡ interned.Leaf (literal c.in-Leaf-Literal.symbol c.in-Leaf-Literal.field-0-1 c.in-Leaf-Literal.field-0-2 c.in-Leaf-Literal.numbers) = search rules in
    let named = subst (λ t. Names (tables_of (entries_of c.args.parts.now) (entries_of c.args.symbols.now)) t c.requires.it) token c.requires.named in
    let uses = literal_uses _ _ _ _ _ _ named in
    has_one same_part part_eq.lawful.laws (keys_of (entries_of c.args.parts.now)) c.in-Leaf-Literal.numbers.part _ _ _ x uses.0.there uses.0.counted c.requires.parts_used here

pub take_at-requires-in-Leaf-Literal-2-clause-some : goal.take_at-requires-in-Leaf-Literal-2-clause-some
take_at-requires-in-Leaf-Literal-2-clause-some c = λ x here.
    let token : c.args.token ≡ interned.Leaf (literal c.in-Leaf-Literal.symbol c.in-Leaf-Literal.field-0-1 c.in-Leaf-Literal.field-0-2 c.in-Leaf-Literal.numbers) = search rules in
    let named = subst (λ t. Names (tables_of (entries_of c.args.parts.now) (entries_of c.args.symbols.now)) t c.requires.it) token c.requires.named in
    let uses = literal_uses _ _ _ _ _ _ named in
    has_one bytes_eq symbol_eq.lawful.laws (keys_of (entries_of c.args.symbols.now)) c.in-Leaf-Literal.symbol _ _ _ x uses.1.there uses.1.counted c.requires.symbols_used here

pub take_at-requires-in-Open-clause-some : goal.take_at-requires-in-Open-clause-some
take_at-requires-in-Open-clause-some c = λ x here.
    let token : c.args.token ≡ interned.Open c.in-Open.field-0 c.in-Open.opening = search rules in
    let named = subst (λ t. Names (tables_of (entries_of c.args.parts.now) (entries_of c.args.symbols.now)) t c.requires.it) token c.requires.named in
    let uses = open_uses _ _ _ _ named in
    has_one same_part part_eq.lawful.laws (keys_of (entries_of c.args.parts.now)) c.in-Open.opening.part _ _ _ x uses.0.there uses.0.counted c.requires.parts_used here

pub take_at-requires-in-Header-clause-some : goal.take_at-requires-in-Header-clause-some
take_at-requires-in-Header-clause-some c = λ x here.
    let token : c.args.token ≡ interned.Header c.in-Header.header = search rules in
    let named = subst (λ t. Names (tables_of (entries_of c.args.parts.now) (entries_of c.args.symbols.now)) t c.requires.it) token c.requires.named in
    let uses = header_uses _ _ _ named in
    has_first same_part part_eq.lawful.laws (keys_of (entries_of c.args.parts.now)) c.in-Header.header.opening.part _ _ _ _ x uses.0.first_there uses.0.counted c.requires.parts_used here

pub take_at-requires-in-Header-2-clause-some : goal.take_at-requires-in-Header-2-clause-some
take_at-requires-in-Header-2-clause-some c = λ x here.
    let token : c.args.token ≡ interned.Header c.in-Header.header = search rules in
    let named = subst (λ t. Names (tables_of (entries_of c.args.parts.now) (entries_of c.args.symbols.now)) t c.requires.it) token c.requires.named in
    let uses = header_uses _ _ _ named in
    let gone = c.take_at-in-Header.ensures.less _ uses.0.first_there in
    let closing = ap (λ l. slice_get l c.in-Header.header.closing.part) c.take_at-in-Header.ensures.values ∙ uses.0.second_there in
    has_second same_part part_eq.lawful.laws (keys_of (entries_of c.take_at-in-Header.new.self)) c.in-Header.header.closing.part _ _ _ _ _ x closing uses.0.counted c.requires.parts_used gone here

pub returns-in-Leaf-Punct-clause-parts : goal.returns-in-Leaf-Punct-clause-parts
returns-in-Leaf-Punct-clause-parts c = λ it given.
    let token : c.args.token ≡ interned.Leaf (punct c.in-Leaf-Punct.field-0-0 c.in-Leaf-Punct.field-0-1 c.in-Leaf-Punct.numbers) = search rules in
    let named = subst (λ t. Names (tables_of (entries_of c.args.parts.now) (entries_of c.args.symbols.now)) t it) token given in
    let uses = punct_uses _ _ _ _ _ named in
    one_gone same_part _ _ _ _ uses.0.counted (c.take_at.ensures.less _ uses.0.there)

pub returns-in-Leaf-Ident-clause-parts : goal.returns-in-Leaf-Ident-clause-parts
returns-in-Leaf-Ident-clause-parts c = λ it given.
    let token : c.args.token ≡ interned.Leaf (ident c.in-Leaf-Ident.symbol c.in-Leaf-Ident.field-0-1 c.in-Leaf-Ident.numbers) = search rules in
    let named = subst (λ t. Names (tables_of (entries_of c.args.parts.now) (entries_of c.args.symbols.now)) t it) token given in
    let uses = ident_uses _ _ _ _ _ named in
    one_gone same_part _ _ _ _ uses.0.counted (c.take_at-in-Leaf-Ident.ensures.less _ uses.0.there)

pub returns-in-Leaf-Literal-clause-parts : goal.returns-in-Leaf-Literal-clause-parts
returns-in-Leaf-Literal-clause-parts c = λ it given.
    let token : c.args.token ≡ interned.Leaf (literal c.in-Leaf-Literal.symbol c.in-Leaf-Literal.field-0-1 c.in-Leaf-Literal.field-0-2 c.in-Leaf-Literal.numbers) = search rules in
    let named = subst (λ t. Names (tables_of (entries_of c.args.parts.now) (entries_of c.args.symbols.now)) t it) token given in
    let uses = literal_uses _ _ _ _ _ _ named in
    one_gone same_part _ _ _ _ uses.0.counted (c.take_at-in-Leaf-Literal.ensures.less _ uses.0.there)

pub returns-in-Open-clause-parts : goal.returns-in-Open-clause-parts
returns-in-Open-clause-parts c = λ it given.
    let token : c.args.token ≡ interned.Open c.in-Open.field-0 c.in-Open.opening = search rules in
    let named = subst (λ t. Names (tables_of (entries_of c.args.parts.now) (entries_of c.args.symbols.now)) t it) token given in
    let uses = open_uses _ _ _ _ named in
    one_gone same_part _ _ _ _ uses.0.counted (c.take_at-in-Open.ensures.less _ uses.0.there)

pub returns-in-Header-clause-parts : goal.returns-in-Header-clause-parts
returns-in-Header-clause-parts c = λ it given.
    let token : c.args.token ≡ interned.Header c.in-Header.header = search rules in
    let named = subst (λ t. Names (tables_of (entries_of c.args.parts.now) (entries_of c.args.symbols.now)) t it) token given in
    let uses = header_uses _ _ _ named in
    let closing = ap (λ l. slice_get l c.in-Header.header.closing.part) c.take_at-in-Header.ensures.values ∙ uses.0.second_there in
    both_gone same_part part_eq.lawful.laws _ _ _ _ _ _ uses.0.counted (c.take_at-in-Header.ensures.less _ uses.0.first_there) (c.take_at-in-Header-2.ensures.less _ closing)
