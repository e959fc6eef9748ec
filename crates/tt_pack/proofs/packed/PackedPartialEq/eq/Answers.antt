use Rattle.std.proofs.Common.{◌≡◌, ◌==◌, true, false, bytes_eq, ◌↔◌, sym, subst, ◌∙◌, rules}
use Rattle.std.specs.Cmp.Lexicographic.{pointwise}
use Rattle.tt_tables.specs.Meaning.{IsStored}
use Rattle.tt_tables.specs.Uses.{same_part}
use Rattle.tt_base.proofs.SameTree.{same_root_iff}
use Rattle.tt_pack.proofs.SameStored.{other_bytes, other_parts, symbols_decide}
use Rattle.tt_pack.proofs.packed.PackedPartialEq.eq.Goals as goal

pub returns-then-ne-clause-value : goal.returns-then-ne-clause-value
returns-then-ne-clause-value c =
    let differ : pointwise ◌==◌ c.self.inside.bytes.items c.other.inside.bytes.items ≡ false = search rules in
    other_bytes c.args.self.now c.args.other.now _ _ _ _ _ _ _ _ (subst (IsStored _) c.self.view_is c.self.inside.meaning.1)
    (subst (IsStored _) c.other.view_is c.other.inside.meaning.1) differ

pub returns-then-ne-2-clause-value : goal.returns-then-ne-2-clause-value
returns-then-ne-2-clause-value c =
    let differ : pointwise same_part c.self.inside.parts.items c.other.inside.parts.items ≡ false = search rules in
    other_parts c.args.self.now c.args.other.now _ _ _ _ _ _ _ _ (subst (IsStored _) c.self.view_is c.self.inside.meaning.1)
    (subst (IsStored _) c.other.view_is c.other.inside.meaning.1) differ

pub returns-clause-value : goal.returns-clause-value
returns-clause-value c =
    let bytes : pointwise ◌==◌ c.self.inside.bytes.items c.other.inside.bytes.items ≡ true = search rules in
    let parts : pointwise same_part c.self.inside.parts.items c.other.inside.parts.items ≡ true = search rules in
    let symbols : c.eq.result ≡ pointwise bytes_eq c.self.inside.symbols.items c.other.inside.symbols.items = search rules in
    symbols ∙ symbols_decide c.args.self.now c.args.other.now _ _ _ _ _ _ _ _ (subst (IsStored _) c.self.view_is c.self.inside.meaning.1)
    (subst (IsStored _) c.other.view_is c.other.inside.meaning.1) bytes parts

pub returns-then-ne-2-clause-tree : goal.returns-then-ne-2-clause-tree
returns-then-ne-2-clause-tree c =
    subst (λ answer. (answer ≡ true) ↔ (c.args.self.now ≡ c.args.other.now)) (sym (returns-then-ne-2-clause-value c))
    (same_root_iff c.args.self.now c.args.other.now)

pub returns-clause-tree : goal.returns-clause-tree
returns-clause-tree c =
    subst (λ answer. (answer ≡ true) ↔ (c.args.self.now ≡ c.args.other.now)) (sym (returns-clause-value c))
    (same_root_iff c.args.self.now c.args.other.now)
