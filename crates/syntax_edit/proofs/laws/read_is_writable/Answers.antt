use Rattle.syntax_edit.proofs.Writings.{read_is_writable}
use Rattle.syntax_edit.proofs.laws.read_is_writable.Goals as goal

pub returns : goal.returns
returns c = read_is_writable
