use Rattle.std.proofs.Common.{◌≡◌, Some, slice_get, ap, sym, ◌∙◌, rules}
use Rattle.tt_base.specs.declared.token_tree.TokenTree.TheVariants as token
use Rattle.tt_base.specs.Token.{leaf_span}
use Rattle.tt_base.specs.Literal.{IsLiteral}
use Rattle.tt_tables.specs.TablesOf.{tables_of}
use Rattle.tt_tables.proofs.Found.{leaf_in_range, leaf_span_found, literal_made}
use Rattle.tt_tables.proofs.tables.Tables.literal.Goals as goal

pub returns-clause-gives : goal.returns-clause-gives
returns-clause-gives c it found range =
    let at : slice_get (tables_of c.args.self).symbols c.args.symbol ≡ Some c.in_ok-symbol.symbol = search rules in
    let was : c.span.result ≡ Some c.in_ok-span.span = search rules in
    let numbers = leaf_span_found (tables_of c.args.self) _ _ _ _ it found in
    let both : Some c.in_ok-span.span ≡ Some (leaf_span it) = sym was ∙ c.span.ensures.gives (leaf_span it) numbers (leaf_in_range it range) in
    let stands : c.in_ok-span.span ≡ leaf_span it = cc both in
    let is : IsLiteral c.in_ok-literal.literal c.in_ok-symbol.symbol c.in_ok-span.span c.args.kind c.args.suffix_len = search rules in
    ap (λ leaf. Some (token.Leaf leaf)) (literal_made (tables_of c.args.self) _ _ _ _ _ _ _ it at stands is found)
