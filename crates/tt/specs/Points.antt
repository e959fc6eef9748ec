-- The number of a restore point, and the kinds that an iterator over open subtrees has left.
use Rattle.std.specs.Prelude.{ℕ, List}
use Rattle.tt_base.specs.declared.delimiter.DelimiterKind.{DelimiterKind}
use Rattle.tt.specs.declared.builder.expected.ExpectedDelimiters.{ExpectedDelimiters}
use Rattle.tt.specs.declared.builder.standing.SubtreeBuilderRestorePoint.{SubtreeBuilderRestorePoint}
use Rattle.tt.specs.InternedKinds.{named_kinds_at}

-- the number of a point
abbrev pub number_of : SubtreeBuilderRestorePoint → ℕ
number_of point = point.number

-- the kinds that the iterator has not returned yet
abbrev pub kinds_left : ExpectedDelimiters → List DelimiterKind
kinds_left kinds = named_kinds_at kinds.tokens.now kinds.places.now
