use Rattle.std.proofs.Common.{refl, sym, ap, ◌∙◌, subst}
use Rattle.tt_base.specs.Token.{delimiter}
use Rattle.tt_base.specs.declared.delimiter.DelimiterKind.TheVariants.{Invisible}
use Rattle.syntax_parse.specs.Parsed.{IsTop}
use Rattle.syntax_parse.specs.Spelled.{closing, opening}
use Rattle.syntax_parse.proofs.StackFacts.{at_piece}
use Rattle.syntax_parse.proofs.parse.top_of.Goals as goal

pub returns : goal.returns
returns c =
    subst (λ d. IsTop c.args.part c.args.len d)
    (sym (c.invisible_delim_spanned.ensures ∙ ap (λ s. delimiter Invisible s.open_span s.close) c.from_pair.ensures))
    (record {
      invisible = refl;
      opens = at_piece (opening Invisible) c.span_at.result c.args.part 0 0 c.span_at.ensures.part c.span_at.ensures.start c.span_at.ensures.end;
      closes = at_piece (closing Invisible) c.span_at-2.result c.args.part c.args.len c.args.len c.span_at-2.ensures.part c.span_at-2.ensures.start c.span_at-2.ensures.end;
    })
