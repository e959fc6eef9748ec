use Rattle.std.proofs.Common.{◌≡◌, ◌∙◌, ◌+◌, ◌∷◌, ap, drop, sym}
use Rattle.std.proofs.lemmas.List.{drop_more}
use Rattle.app_c.proofs.Listed.{caller_name, caller_put}
use Rattle.app_c.proofs.listing.Listing.put_callers.Goals as goal

pub loop-caller-preserved : goal.loop-caller-preserved
loop-caller-preserved c =
    let its = c.args.callers.now in
    let index = c.loop-caller.caller-index in
    let it = c.caller-item.result in
    let old = c.loop-caller.self in
    let new = c.put_caller.new.self in
    let next : drop index its ≡ it ∷ drop (index + 1) its =
    drop_more its index it c.loop-caller-test.true ∙ ap (λ first. first ∷ drop (index + 1) its) (sym c.caller-item.is) in
    record {
      bytes =
          caller_name old.bytes.items new.bytes.items it (drop index its) (drop (index + 1) its) next c.in_ok-put_caller.ensures.bytes ∙ c.loop-caller.invariant.bytes;
      words =
          caller_put old.bytes.items new.bytes.items old.words.items new.words.items it (drop index its) (drop (index + 1) its) next
          c.in_ok-put_caller.ensures.bytes c.in_ok-put_caller.ensures.words
          ∙ c.loop-caller.invariant.words;
    }
