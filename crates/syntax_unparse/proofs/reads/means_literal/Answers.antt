use Rattle.std.proofs.Common.{◌≡◌, Some, rules, subst, sym}
use Rattle.tt_base.specs.Scan.{FitsText, IsScanFault}
use Rattle.tt_base.specs.declared.fault.TtFault.TheVariants.{BadScan}
use Rattle.syntax_lex.specs.declared.token.TokenKind.TheVariants as kinds
use Rattle.syntax_parse.specs.Pieces.{scan_of}
use Rattle.syntax_parse.specs.Scanned.{IsScanned}
use Rattle.syntax_unparse.proofs.ReadFacts.{scanned_alone}
use Rattle.syntax_unparse.proofs.reads.means_literal.Goals as goal

pub unreachable-requires : goal.unreachable-requires
unreachable-requires c =
    let text = c.args.text.now in
    let kind = c.in-Literal.kind in
    let start = c.in-Literal.suffix_start in
    let is : c.args.kind ≡ kinds.Literal kind start = search rules in
    let fits : FitsText text (scan_of kind) start = subst (λ k. IsScanned k text) is (scanned_alone text c.args.kind c.requires.kind c.requires.one) in
    let scan : c.scan_of.result ≡ scan_of kind = search rules in
    let why : IsScanFault text (Some (c.scan_of.result, start)) BadScan = search rules in
    why (subst (λ s. FitsText text s start) (sym scan) fits)
