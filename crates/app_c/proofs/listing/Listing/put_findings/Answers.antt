use Rattle.std.proofs.Common.{◌≡◌, ◌∙◌, ◌+◌, ◌∷◌, ap, drop, sym}
use Rattle.std.proofs.lemmas.List.{drop_more}
use Rattle.app_c.proofs.Listed.{finding_name, finding_put}
use Rattle.app_c.proofs.listing.Listing.put_findings.Goals as goal

pub loop-finding-preserved : goal.loop-finding-preserved
loop-finding-preserved c =
    let its = c.args.findings.now in
    let index = c.loop-finding.finding-index in
    let it = c.finding-item.result in
    let old = c.loop-finding.self in
    let new = c.put_finding.new.self in
    let next : drop index its ≡ it ∷ drop (index + 1) its =
    drop_more its index it c.loop-finding-test.true ∙ ap (λ first. first ∷ drop (index + 1) its) (sym c.finding-item.is) in
    record {
      bytes =
          finding_name old.bytes.items new.bytes.items it (drop index its) (drop (index + 1) its) next c.in_ok-put_finding.ensures.bytes ∙ c.loop-finding.invariant.bytes;
      words =
          finding_put old.bytes.items new.bytes.items old.words.items new.words.items it (drop index its) (drop (index + 1) its) next
          c.in_ok-put_finding.ensures.bytes c.in_ok-put_finding.ensures.words
          ∙ c.loop-finding.invariant.words;
    }
