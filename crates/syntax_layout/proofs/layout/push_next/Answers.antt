use Rattle.std.proofs.Common.{◌≡◌, ◌++◌, [], List, ap, append-nil, sym, true, ◌∙◌, rules}
use Rattle.std.specs.Prelude.{OnOk, string_bytes}
use Rattle.syntax_layout.proofs.Ahead.{on_ok, unasked}
use Rattle.syntax_layout.specs.Layout.{joins, put_before, touched}
use Rattle.syntax_lex.specs.declared.token.Token.{Token}
use Rattle.syntax_layout.proofs.layout.push_next.Goals as goal

pub returns : goal.returns
returns c =
    let last = c.args.last in
    let word = c.args.word.now in
    let put = put_before last.is_none last.touches (joins last.kind c.args.kind) last.text.now c.args.before.now in
    let wrote : OnOk c.push_word-2.result (string_bytes c.push_word-2.new.laid ≡ string_bytes c.args.laid.now ++ (put (word ++ []) ++ word)) = search rules in
    let same : (tokens : List Token) → put (word ++ []) ≡ put (word ++ touched true c.args.kind word c.args.gap.now c.args.behind.now tokens) =
    λ tokens. ap put (append-nil word) ∙ unasked last.is_none last.touches (joins last.kind c.args.kind) last.text.now c.args.before.now word _ c.requires.next (sym c.asks_ahead.ensures ∙ c.if-asks_ahead.false) in
    on_ok c.push_word-2.result (λ is tokens are. is ∙ ap (λ p. string_bytes c.args.laid.now ++ (p ++ word)) (same tokens)) wrote
