use Rattle.std.proofs.Common.{rules, ◌≡◌, ◌++◌, false, true, codes, ap₂, ◌∙◌}
use Rattle.std.specs.Prelude.{string_bytes}
use Rattle.tt.specs.Walk.{events_ahead, is_over, one_on}
use Rattle.app_console.specs.Answer.{line}
use Rattle.app_console.specs.ViewText.{listed, event_words, here_words}
use Rattle.app_console.proofs.Walking.{one_place, last_line}
use Rattle.app_console.proofs.walk_lines.walk_lines.Goals as goal

pub loop-text-preserved : goal.loop-text-preserved
loop-text-preserved c =
    let at = c.loop-text.cursor in
    let more : is_over (events_ahead at) ≡ false = search rules in
    let wrote : string_bytes c.write_here.new.text ≡ string_bytes c.loop-text.text ++ line (here_words c.token_tree.result) = search rules in
    let moved : c.bump_or_end.new.self ≡ one_on at = search rules in
    ap₂ (λ text place. text ++ listed event_words (events_ahead place)) wrote moved
    ∙ one_place at c.token_tree.result (string_bytes c.loop-text.text) _ c.token_tree.ensures more c.loop-text.invariant

pub returns : goal.returns
returns c =
    let over : is_over (events_ahead c.loop-text.cursor) ≡ true = search rules in
    let wrote : string_bytes c.push_str.new.self ≡ string_bytes c.loop-text.text ++ codes "end\n" = search rules in
    wrote ∙ last_line c.loop-text.cursor (string_bytes c.loop-text.text) _ over c.loop-text.invariant
