use Rattle.std.proofs.Common.{◌≡◌, ◌+◌, ◌-◌, ◌*◌, ◌/◌, length, take, drop, vec_len, min, ap, ◌∙◌, rules, arith}
use Rattle.std.proofs.lemmas.List.{length-take, take_min}
use Rattle.std.proofs.lemmas.List.FromFn.{length-map-range_with_len}
use Rattle.syntax_diagnostic.proofs.PlaceFacts.{line_small, column_small, from_mark, mark_kept}
use Rattle.std.specs.List.{fold}
use Rattle.syntax_diagnostic.specs.Place.{place_behind, place_of, next_place}
use Rattle.syntax_diagnostic.specs.Marks.{mark}
use Rattle.syntax_diagnostic.proofs.places.Places.place.Goals as goal

pub index-requires : goal.index-requires
index-requires c =
    let marks = c.args.self.now.marks in
    let text = c.args.self.now.text.now in
    let counted : vec_len marks ≡ length marks.items = search rules in
    omega (arith, counted, ap length c.args.self.now.marked, length-map-range_with_len (mark text) 0 (length text / 64 + 1), c.min-at.ensures, c.as_bytes-bytes.ensures.len)

pub past-requires-clause-line : goal.past-requires-clause-line
past-requires-clause-line c =
    let at = c.min-at.result in
    let text = c.args.self.now.text.now in
    let taken = length-take (at - at / 64 * 64) (drop (at / 64 * 64) c.as_bytes-bytes.result.now) in
    let kept = mark_kept c.args.self.now.text.now c.args.self.now.marks.items c.min-at.result c.index.result.now (omega (arith, c.min-at.ensures, c.as_bytes-bytes.ensures.len)) c.args.self.now.marked c.index.ensures in
    omega (arith, line_small text (at / 64 * 64), ap (λ place. place.line) kept, taken, c.min-at.ensures, c.as_bytes-bytes.ensures.len)

pub past-requires-clause-column : goal.past-requires-clause-column
past-requires-clause-column c =
    let at = c.min-at.result in
    let text = c.args.self.now.text.now in
    let taken = length-take (at - at / 64 * 64) (drop (at / 64 * 64) c.as_bytes-bytes.result.now) in
    let kept = mark_kept c.args.self.now.text.now c.args.self.now.marks.items c.min-at.result c.index.result.now (omega (arith, c.min-at.ensures, c.as_bytes-bytes.ensures.len)) c.args.self.now.marked c.index.ensures in
    omega (arith, column_small text (at / 64 * 64), ap (λ place. place.column) kept, taken, c.min-at.ensures, c.as_bytes-bytes.ensures.len)

pub returns : goal.returns
returns c =
    let at = c.min-at.result in
    let text = c.args.self.now.text.now in
    let kept = mark_kept c.args.self.now.text.now c.args.self.now.marks.items c.min-at.result c.index.result.now (omega (arith, c.min-at.ensures, c.as_bytes-bytes.ensures.len)) c.args.self.now.marked c.index.ensures in
    let of_end : place_of text at ≡ place_of text c.args.at = ap (λ n. place_of text n) (c.min-at.ensures ∙ ap (min c.args.at) c.as_bytes-bytes.ensures.len) ∙ ap place_behind (take_min c.args.at text) in
    let found : fold next_place c.index.result.now (take (at - at / 64 * 64) (drop (at / 64 * 64) c.as_bytes-bytes.result.now)) ≡ place_of text at
    = rw (kept, c.as_bytes-bytes.ensures.value) (from_mark text at) in
    c.past.ensures ∙ found ∙ of_end
