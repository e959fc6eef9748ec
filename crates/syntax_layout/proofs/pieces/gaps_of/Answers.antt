use Rattle.std.proofs.Common.{◌≡◌, [], ◌∷◌, ◌++◌, map, ap, sym, ◌∙◌, subst}
use Rattle.std.proofs.lemmas.List.{map-append}
use Rattle.syntax_layout.proofs.GapChunks.{gaps_more}
use Rattle.syntax_layout.specs.Gap.{AreGaps}
use Rattle.syntax_layout.proofs.pieces.gaps_of.Goals as goal

pub loop-piece-preserved : goal.loop-piece-preserved
loop-piece-preserved c =
    let items = c.loop-piece.all.items in
    let more : map (λ g. g.now) c.push.new.self.items ≡ map (λ g. g.now) items ++ c.gap_of.result.now ∷ [] =
    ap (map (λ g. g.now)) c.in_ok-push.ensures.items ∙ map-append (λ g. g.now) items (c.gap_of.result ∷ []) in
    subst AreGaps (sym more) (gaps_more (map (λ g. g.now) items) c.gap_of.result.now c.loop-piece.invariant c.gap_of.ensures.gap c.gap_of.ensures.short)
