use Rattle.std.proofs.Common.{rules, ◌≡◌, ◌++◌, ◌∷◌, [], ap, ◌∙◌}
use Rattle.mbe_rules.proofs.Growing.{on_ok}
use Rattle.mbe_rules.proofs.transcribe.Transcriber.enter.Goals as goal

pub returns-clause-ok : goal.returns-clause-ok
returns-clause-ok c =
    let pushed : c.push.new.self.items ≡ c.args.self.now.closes.items ++ c.args.delimiter.now.close ∷ [] = search rules in
    on_ok c.open.result
    (λ opens.
    record {
      builder = opens.builder;
      room = opens.room;
      most = opens.most;
      rounds = opens.rounds;
      closes = ap (λ spans. spans.items) opens.closes ∙ pushed;
    }) c.open.ensures.ok
