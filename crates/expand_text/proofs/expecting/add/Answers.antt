use Rattle.std.proofs.Common.{rules, ◌≡◌, ◌<◌, ◌∙◌, true, inl, inr, length, map, sym, ap, arith}
use Rattle.std.proofs.lemmas.Bool.{lt-ltb}
use Rattle.std.proofs.lemmas.List.{length-map}
use Rattle.std.specs.List.{list_any}
use Rattle.std.specs.Prelude.{bytes_eq, nat_lt, string_bytes}
use Rattle.expand_text.proofs.Alternatives.{among, not_added}
use Rattle.expand_text.proofs.expecting.add.Goals as goal
use Rattle.expand_text.proofs.expecting.add.Goals.{then-contains-via-then-contains, then-contains-via-else-contains+then-len-gt-MOST_NAMED}

pub returns-then-contains : goal.returns-then-contains
returns-then-contains c =
    let texts = c.args.texts.now.items in
    let text = string_bytes c.args.text in
    elim c.then-contains.branch [
      | then-contains-via-then-contains w ↦
          let there : list_any (λ other. bytes_eq (string_bytes other) text) texts ≡ true = search rules in
          not_added (map string_bytes texts) text (inl (sym (among text texts) ∙ there))
      | then-contains-via-else-contains+then-len-gt-MOST_NAMED w ↦
          let many : 3 < length texts = search (rules, arith) in
          not_added (map string_bytes texts) text (inr (ap (nat_lt 3) (length-map texts string_bytes) ∙ lt-ltb 3 (length texts) many))
    ]
