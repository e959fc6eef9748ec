-- What the expression of a level took is left to read, or its trees are refused.
use Rattle.std.proofs.Common.{rules, ◌≡◌, ◌+◌, ◌^◌, ◌<◌, ◌≤◌, ◌++◌, true, List, drop, length, take, Some, None, IfOk, ap, sym, subst, ◌∙◌, arith}
use Rattle.std.proofs.lemmas.List.{length-drop}
use Rattle.std.specs.Prelude.{option_map}
use Rattle.tt.specs.Gluing.{after_trees}
use Rattle.tt.specs.Siblings.{is_end}
use Rattle.tt.specs.Views.{trees_of}
use Rattle.mbe_grammar.specs.declared.derivation.Open.{Open}
use Rattle.mbe_grammar.specs.Derivations.{place}
use Rattle.mbe_grammar.specs.Deriving.{IsRead}
use Rattle.mbe_grammar.specs.Left.{ahead_in, around, stopped}
use Rattle.mbe_grammar.specs.Parses.{Parses}
use Rattle.mbe_grammar.specs.Places.{position_of, trees_in}
use Rattle.mbe_grammar.proofs.Ahead.{entries_added, added_length}
use Rattle.mbe_grammar.proofs.Deriving.{onto, refuses_failed, read_level}
use Rattle.mbe_grammar.proofs.Prefixed.{read_none, read_more, what_is_more}
use Rattle.mbe_grammar.proofs.derivation.read.Goals as goal

pub returns-in-Ok-None : goal.returns-in-Ok-None
returns-in-Ok-None c =
    let rules_of = c.args.table.rules.now in
    let trees = trees_of c.args.it.trees in
    let old = c.args.log.now.items in
    let new = c.parse-taken.new.log.items in
    let log : c.reserve.new.self.items ≡ old = search rules in
    let same : trees_in c.restart.new.self ≡ trees = c.restart.ensures in
    let parses = subst (λ r. IfOk r (λ answer. Parses true rules_of c.args.it.name (position_of (trees_in c.restart.new.self) c.reserve.new.self.items 0) (option_map (position_of (trees_in c.restart.new.self) new) answer))) c.in-Ok-None.is c.parse-taken.ensures.parses in
    let none : c.in-Ok-None.field-0 ≡ None = search rules in
    let failed = subst (λ f. Parses true rules_of c.args.it.name (position_of (trees_in c.restart.new.self) c.reserve.new.self.items 0) (option_map (position_of (trees_in c.restart.new.self) new) f)) none parses in
    let there : Parses true rules_of c.args.it.name (position_of trees old 0) None =
    subst (λ t. Parses true rules_of c.args.it.name (position_of t old 0) None) same (subst (λ l. Parses true rules_of c.args.it.name (position_of (trees_in c.restart.new.self) l 0) None) log failed) in
    let refused = refuses_failed rules_of (place c.args.it) (read_none rules_of c.args.it.name trees old there) in
    record { fits = λ older. tt; read = λ older. refused; err = tt }

pub returns-in-Ok-Some : goal.returns-in-Ok-Some
returns-in-Ok-Some c =
    let rules_of = c.args.table.rules.now in
    let trees = trees_of c.args.it.trees in
    let old = c.args.log.now.items in
    let new = c.parse-taken.new.log.items in
    let more = drop (length old) new in
    let taken = c.in-Ok-Some.to in
    let log : c.reserve.new.self.items ≡ old = search rules in
    let same : trees_in c.restart.new.self ≡ trees = c.restart.ensures in
    let parses = subst (λ r. IfOk r (λ answer. Parses true rules_of c.args.it.name (position_of (trees_in c.restart.new.self) c.reserve.new.self.items 0) (option_map (position_of (trees_in c.restart.new.self) new) answer))) c.in-Ok-Some.is c.parse-taken.ensures.parses in
    let some : c.in-Ok-Some.field-0 ≡ Some taken = search rules in
    let took = subst (λ f. Parses true rules_of c.args.it.name (position_of (trees_in c.restart.new.self) c.reserve.new.self.items 0) (option_map (position_of (trees_in c.restart.new.self) new) f)) some parses in
    let there : Parses true rules_of c.args.it.name (position_of trees old 0) (Some (position_of trees new taken)) =
    subst (λ t. Parses true rules_of c.args.it.name (position_of t old 0) (Some (position_of t new taken))) same
    (subst (λ l. Parses true rules_of c.args.it.name (position_of (trees_in c.restart.new.self) l 0) (Some (position_of (trees_in c.restart.new.self) new taken))) log took) in
    let added : new ≡ old ++ more = what_is_more old new (subst (λ l. take (length l) new ≡ l) log c.parse-taken.ensures.log) in
    let to = read_more rules_of c.args.it.name trees old new more taken added there in
    let ended : c.is_at_end.result ≡ is_end (after_trees taken trees) = c.is_at_end.ensures ∙ ap (λ t. is_end (after_trees taken t)) (c.parse-taken.ensures.same ∙ same) in
    let ends : is_end to.0.rest ≡ c.is_at_end.result = ap is_end to.2 ∙ sym ended in
    let first : c.len-since.result ≡ length old = search rules in
    let short : length more < 2 ^ 64 = omega (arith, length-drop (length old) new, c.len-taken.type_inv, c.len-taken.ensures, c.parse-taken.new.log.ok) in
    let stop = c.stop_of-stop.result in
    let left : (older : List Open) → ahead_in new c.len-since.result c.len-since.result stop older ≡ onto rules_of more (stopped stop (around old older)) =
    λ older. entries_added old more new c.len-since.result stop older added first in
    record {
      fits = λ older. subst (λ l. length l ≤ length (around old older) + 2 ^ 64) (sym (left older)) (omega (arith, added_length more stop (around old older), short));
      read = λ older. subst (λ l. IsRead rules_of (place c.args.it) (around old older) (Some l)) (sym (left older))
          (subst (λ s. IsRead rules_of (place c.args.it) (around old older) (Some (onto rules_of more (stopped s (around old older))))) (sym c.stop_of-stop.ensures)
          (read_level rules_of c.args.it more (around old older) to.0 to.1 to.3 c.is_at_end.result ends));
      err = tt;
    }
