-- The text of a tree is that of the trees below its top.
use Rattle.std.proofs.Common.{◌≡◌, ℕ, List, subst}
use Rattle.tt_base.specs.Forest.{Forest, Root}
use Rattle.app_c.specs.Texts.{IsTextOf}
use Rattle.syntax_edit.specs.Splices.{IsSpelling}
use Rattle.syntax_layout.specs.Spaces.{IsSpacedText}
use Rattle.syntax_unparse.specs.Writable.{IsWritable}

-- The text of these trees is the text of the tree.
pub is_text : (root : Root) (trees : Forest) (text : List ℕ) → trees ≡ root.children → IsWritable trees → IsSpacedText trees text → IsSpelling trees text
    → IsTextOf root text
is_text root trees text same writable is spells =
    record {
      writable = subst IsWritable same writable;
      is = subst (λ t. IsSpacedText t text) same is;
      spells = subst (λ t. IsSpelling t text) same spells;
    }
