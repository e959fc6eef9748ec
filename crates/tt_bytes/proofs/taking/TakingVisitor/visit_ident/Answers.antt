use Rattle.std.proofs.Common.{rules, ◌≡◌, ◌++◌, ◌∷◌, []}
use Rattle.tt_codec.specs.declared.entry.LeafEntry.TheVariants.{Ident as ident}
use Rattle.tt_tables.specs.declared.token.InternedToken.TheVariants as interned
use Rattle.tt_bytes.proofs.Taken.{taken_ident}
use Rattle.tt_bytes.proofs.taking.TakingVisitor.visit_ident.Goals as goal

pub invariant_of-self-2 : goal.invariant_of-self-2
invariant_of-self-2 c =
    let grown : c.put.new.tokens.items ≡ c.args.self.now.tokens.items ++ interned.Leaf (ident c.in-Some.place c.args.is_raw c.args.span) ∷ [] = search (rules, c.put.ensures) in
    record {
      list = λ e. (taken_ident _ _ _ _ _ _ _ _ _ _ _ _ c.args.self.now.distinct (c.args.self.now.long e) (c.args.self.now.placed e) (c.args.self.now.list e) (λ before are. c.use_span.ensures _ before are (search rules)) c.in-Some.ensures grown).0;
      long = λ e. (taken_ident _ _ _ _ _ _ _ _ _ _ _ _ c.args.self.now.distinct (c.args.self.now.long e) (c.args.self.now.placed e) (c.args.self.now.list e) (λ before are. c.use_span.ensures _ before are (search rules)) c.in-Some.ensures grown).1;
      placed = λ e. (taken_ident _ _ _ _ _ _ _ _ _ _ _ _ c.args.self.now.distinct (c.args.self.now.long e) (c.args.self.now.placed e) (c.args.self.now.list e) (λ before are. c.use_span.ensures _ before are (search rules)) c.in-Some.ensures grown).2;
      distinct = c.args.self.now.distinct;
    }
