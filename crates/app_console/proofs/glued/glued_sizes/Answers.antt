use Rattle.std.proofs.Common.{rules, ◌≡◌, ◌∷◌, ◌++◌, false, length, ap, ap₂, sym, ◌∙◌, arith}
use Rattle.std.specs.Prelude.{option_map, string_bytes}
use Rattle.std.specs.List.{flat_map}
use Rattle.tt.specs.Gluing.{glued, after_trees, passed_by, glued_sizes}
use Rattle.tt.specs.Iters.{rest_of}
use Rattle.tt.specs.Siblings.{is_end, list_of}
use Rattle.tt_base.proofs.Gluing.{one_call, fewer_left}
use Rattle.app_console.specs.ViewText.{glued_size}
use Rattle.app_console.proofs.Listing.{one_more}
use Rattle.app_console.proofs.glued.glued_sizes.Goals as goal

pub loop-siblings-smaller : goal.loop-siblings-smaller
loop-siblings-smaller c =
    let trees = rest_of c.loop-siblings.siblings in
    let more : is_end trees ≡ false = search rules in
    let after : rest_of c.next_size.new.siblings ≡ after_trees (passed_by (glued trees)) trees = search rules in
    omega (arith, fewer_left trees more, ap (λ t. length (list_of t)) after)

pub loop-siblings-preserved : goal.loop-siblings-preserved
loop-siblings-preserved c =
    let trees = rest_of c.loop-siblings.siblings in
    let more : is_end trees ≡ false = search rules in
    let after : rest_of c.next_size.new.siblings ≡ after_trees (passed_by (glued trees)) trees = search rules in
    let size : c.next_size.result ≡ option_map length (glued trees) = search rules in
    let wrote : string_bytes c.write_size.new.text ≡ string_bytes c.loop-siblings.text ++ glued_size c.next_size.result = search rules in
    let left = glued_sizes (after_trees (passed_by (glued trees)) trees) in
    let sizes = ap (λ s. s ∷ left) size ∙ sym (one_call trees more) in
    ap₂ (λ text t. text ++ flat_map glued_size (glued_sizes t)) wrote after
    ∙ one_more glued_size (string_bytes c.loop-siblings.text) _ c.next_size.result left (ap (λ l. string_bytes c.loop-siblings.text ++ flat_map glued_size l) sizes ∙ c.loop-siblings.invariant)
