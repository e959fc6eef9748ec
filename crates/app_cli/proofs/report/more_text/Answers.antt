use Rattle.std.proofs.Common.{rules, ◌≡◌, ◌++◌, ◌∷◌, [], sym, subst, arith}
use Rattle.std.specs.Prelude.{string_bytes}
use Rattle.app_cli.proofs.MoreText.{more_written}
use Rattle.app_cli.proofs.report.more_text.Goals as goal
use Rattle.app_files.specs.Plain.{IsPlainText}
use Rattle.app_cli.specs.Reports.{more_message, IsMoreText}
use Rattle.syntax_diagnostic.specs.declared.level.Level.TheVariants.{Warning}

pub returns : goal.returns
returns c =
    let line = string_bytes c.in_ok-text.text in
    let message : c.as_str.result.now ≡ more_message c.args.more = search rules in
    let grown : string_bytes c.push_str.new.self ≡ line ++ 10 ∷ [] = search rules in
    subst (IsMoreText c.args.style c.args.more) (sym grown)
    (more_written c.args.style c.args.more line (λ none. omega (arith, none, c.if-more-eq0.false))
    (subst (λ m. IsPlainText c.args.style Warning m line) message c.in_ok-text.ensures))
