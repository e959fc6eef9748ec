use Rattle.std.proofs.Common.{rules, ◌≡◌, ◌++◌, ◌∷◌, []}
use Rattle.tt_tables.specs.declared.token.InternedToken.TheVariants as interned
use Rattle.tt_bytes.proofs.Taken.{taken_header}
use Rattle.tt_bytes.proofs.taking.TakingVisitor.visit_header.Goals as goal

pub invariant_of-self-2 : goal.invariant_of-self-2
invariant_of-self-2 c =
    let grown : c.put.new.tokens.items ≡ c.args.self.now.tokens.items ++ interned.Header c.args.header ∷ [] = search (rules, c.put.ensures) in
    record {
      list = λ e. taken_header _ _ _ _ _ _ _ _ _ (c.args.self.now.list e) (λ before are. c.use_span.ensures _ before are (search rules)) (λ before are. c.use_span-2.ensures _ before are (search rules)) grown;
      long = c.args.self.now.long;
      placed = c.args.self.now.placed;
      distinct = c.args.self.now.distinct;
    }
