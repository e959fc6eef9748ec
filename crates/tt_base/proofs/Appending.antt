-- Trees appended to the innermost open subtree of a stack.
use Rattle.std.proofs.Common.{◌≡◌, ◌+◌, refl, ap, sym, ◌∙◌, arith}
use Rattle.tt_base.proofs.Joins.{join-assoc, size-join}
use Rattle.tt_base.specs.Building.{Stack, lowest, above, append, close_innermost, tokens_held}
use Rattle.tt_base.specs.Forest.{Forest, end, node, join, size}
use Rattle.tt_base.specs.Unflat.{join-end}
use Rattle.tt_base.specs.declared.span.Span.{Span}

-- No change if no trees are appended.
pub append-end : (stack : Stack) → append end stack ≡ stack
append-end (lowest trees) = ap lowest (join-end trees)
append-end (above outer kind open_span trees) = ap (above outer kind open_span) (join-end trees)

-- Appending trees and then others appends both.
pub append-join : (f g : Forest) (stack : Stack) → append (join f g) stack ≡ append g (append f stack)
append-join f g (lowest trees) = ap lowest (sym (join-assoc trees f g))
append-join f g (above outer kind open_span trees) = ap (above outer kind open_span) (sym (join-assoc trees f g))

-- The stack then holds their tokens too.
pub held-append : (f : Forest) (stack : Stack) → tokens_held (append f stack) ≡ tokens_held stack + size f
held-append f (lowest trees) = size-join trees f
held-append f (above outer kind open_span trees) = omega (arith, size-join trees f)

-- Closing the innermost subtree changes no number of tokens.
pub held-close : (span : Span) (stack : Stack) → tokens_held (close_innermost span stack) ≡ tokens_held stack
held-close span (lowest trees) = refl
held-close span (above outer kind open_span trees) =
    held-append (node (record { open_span = open_span; close = span; kind = kind }) trees end) outer ∙ omega arith
