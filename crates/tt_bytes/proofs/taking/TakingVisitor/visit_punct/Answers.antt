use Rattle.std.proofs.Common.{rules, ◌≡◌, ◌++◌, ◌∷◌, []}
use Rattle.tt_codec.specs.declared.entry.LeafEntry.TheVariants.{Punct as punct}
use Rattle.tt_tables.specs.declared.token.InternedToken.TheVariants as interned
use Rattle.tt_bytes.proofs.Taken.{taken_punct}
use Rattle.tt_bytes.proofs.taking.TakingVisitor.visit_punct.Goals as goal

pub invariant_of-self-2 : goal.invariant_of-self-2
invariant_of-self-2 c =
    let grown : c.put.new.tokens.items ≡ c.args.self.now.tokens.items ++ interned.Leaf (punct c.args.char c.args.spacing c.args.span) ∷ [] = search (rules, c.put.ensures) in
    record {
      list = λ e. taken_punct _ _ _ _ _ _ _ _ _ _ (c.args.self.now.list e) (λ before are. c.use_span.ensures _ before are (search rules)) (search rules) grown;
      long = c.args.self.now.long;
      placed = c.args.self.now.placed;
      distinct = c.args.self.now.distinct;
    }
