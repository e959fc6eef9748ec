-- A text without a quote first or last is in no quotes.
use Rattle.std.proofs.Common.{None, Some, ap, sym, subst, drop, arith, ◌∙◌}
use Rattle.std.proofs.lemmas.Str.Pattern.{strip_prefix_char, strip_suffix_char}
use Rattle.app_files.specs.RecursionLimit.{IsNumberIn}
use Rattle.app_files.proofs.recursion_limit.number_in.Goals as goal

pub returns-in_err-behind : goal.returns-in_err-behind
returns-in_err-behind c =
    subst (λ limit. IsNumberIn c.args.literal.now limit) (sym c.from_residual.ensures)
    (λ text number is spells. strip_prefix_char 34 c.args.literal.now None c.in_err-behind.ensures.cases (omega arith) _ is)

pub returns-in_err-digits : goal.returns-in_err-digits
returns-in_err-digits c =
    subst (λ limit. IsNumberIn c.args.literal.now limit) (sym c.from_residual-in_err-digits.ensures)
    (λ text number is spells.
    strip_suffix_char 34 c.in_ok-behind.behind.now None c.in_err-digits.ensures.cases (omega arith) text
    (ap (drop 1) (sym (strip_prefix_char 34 c.args.literal.now (Some c.in_ok-behind.behind) c.in_ok-behind.ensures.cases (omega arith)) ∙ is)))
