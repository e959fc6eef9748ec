use Rattle.std.proofs.Common.{rules, ◌≡◌, ◌++◌, ◌∷◌, []}
use Rattle.tt_codec.specs.declared.entry.LeafEntry.TheVariants.{Literal as literal}
use Rattle.tt_tables.specs.declared.token.InternedToken.TheVariants as interned
use Rattle.tt_bytes.proofs.Taken.{taken_literal}
use Rattle.tt_bytes.proofs.taking.TakingVisitor.visit_literal.Goals as goal

pub invariant_of-self-2 : goal.invariant_of-self-2
invariant_of-self-2 c =
    let grown : c.put.new.tokens.items ≡ c.args.self.now.tokens.items ++ interned.Leaf (literal c.in-Some.place c.args.kind c.args.suffix_len c.args.span) ∷ [] = search (rules, c.put.ensures) in
    record {
      list = λ e. (taken_literal _ _ _ _ _ _ _ _ _ _ _ _ _ (λ text at. c.is_cut.ensures (search rules) text at) c.args.self.now.distinct (c.args.self.now.long e) (c.args.self.now.placed e) (c.args.self.now.list e) (λ before are. c.use_span.ensures _ before are (search rules)) c.in-Some.ensures grown).0;
      long = λ e. (taken_literal _ _ _ _ _ _ _ _ _ _ _ _ _ (λ text at. c.is_cut.ensures (search rules) text at) c.args.self.now.distinct (c.args.self.now.long e) (c.args.self.now.placed e) (c.args.self.now.list e) (λ before are. c.use_span.ensures _ before are (search rules)) c.in-Some.ensures grown).1;
      placed = λ e. (taken_literal _ _ _ _ _ _ _ _ _ _ _ _ _ (λ text at. c.is_cut.ensures (search rules) text at) c.args.self.now.distinct (c.args.self.now.long e) (c.args.self.now.placed e) (c.args.self.now.list e) (λ before are. c.use_span.ensures _ before are (search rules)) c.in-Some.ensures grown).2;
      distinct = c.args.self.now.distinct;
    }
