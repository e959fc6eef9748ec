use Rattle.std.proofs.Common.{◌≡◌, ◌<◌, ◌+◌, ◌++◌, false, drop, get_or, ap, sym, ◌∙◌, rules, arith}
use Rattle.std.specs.Prelude.{string_bytes}
use Rattle.std.specs.List.{flat_map}
use Rattle.std.proofs.lemmas.Fmt.{hex_byte}
use Rattle.std.proofs.lemmas.List.{at_drop_more}
use Rattle.app_console.specs.ViewText.{hex_pair}
use Rattle.app_console.proofs.Listing.{one_more}
use Rattle.app_console.proofs.stored_lines.stored_bytes.Goals as goal

pub loop-byte-preserved : goal.loop-byte-preserved
loop-byte-preserved c =
    let items = c.packed_bytes-byte-items.result.now in
    let index = c.loop-byte.byte-index in
    let byte = get_or items index 0 in
    let is = c.packed_bytes-byte-items.ensures.value in
    let small : byte < 256 = omega (arith, c.type_inv.byte-items index) in
    let wrote : string_bytes c.write.new.self ≡ string_bytes c.loop-byte.text ++ hex_pair byte = search (rules, hex_byte false byte small) in
    let before = ap (λ bytes. string_bytes c.loop-byte.text ++ flat_map hex_pair (drop index bytes)) is ∙ c.loop-byte.invariant in
    let on = sym (at_drop_more (λ bytes. string_bytes c.loop-byte.text ++ flat_map hex_pair bytes) items index 0 c.loop-byte-test.true) ∙ before in
    ap (λ bytes. string_bytes c.write.new.self ++ flat_map hex_pair (drop (index + 1) bytes)) (sym is)
    ∙ ap (λ text. text ++ flat_map hex_pair (drop (index + 1) items)) wrote
    ∙ one_more hex_pair _ _ byte (drop (index + 1) items) on
