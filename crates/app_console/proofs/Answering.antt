-- Lines that are answered one after another.
use Rattle.std.proofs.Common.{List, [], ◌∷◌, ◌++◌, ◌∙◌, ℕ, ap, append-nil, refl, subst, sym}
use Rattle.std.specs.List.{AllZip, concat}
use Rattle.std.proofs.lemmas.List.Folds.{concat-append}
use Rattle.app_language.specs.declared.command.Command.{Command}
use Rattle.app_console.specs.State.{State}
use Rattle.app_language.specs.Command.{StandsFor}
use Rattle.app_console.specs.Machine.{Step, Run}
use Rattle.app_console.specs.Run.{Answered}

-- two runs, one after the other, are a run
Run-append : (a b c : State) (cs ds : List Command) (xs ys : List (List ℕ)) → Run a cs xs b → Run b ds ys c → Run a (cs ++ ds) (xs ++ ys) c
Run-append a b c [] ds [] ys p q = subst (λ s. Run s ds ys c) p q
Run-append a b c [] ds (x ∷ xs) ys p q = absurd p
Run-append a b c (d ∷ cs) ds [] ys p q = absurd p
Run-append a b c (d ∷ cs) ds (x ∷ xs) ys p q = (p.0, p.1, Run-append p.0 b c cs ds xs ys p.2 q)

AllZip-append : {A B : Type 0} (R : A → B → Type 0) (xs ys : List A) (us vs : List B) → AllZip R xs us → AllZip R ys vs → AllZip R (xs ++ ys) (us ++ vs)
AllZip-append R [] ys [] vs p q = q
AllZip-append R [] ys (u ∷ us) vs p q = absurd p
AllZip-append R (x ∷ xs) ys [] vs p q = absurd p
AllZip-append R (x ∷ xs) ys (u ∷ us) vs p q = (p.0, AllZip-append R xs ys us vs p.1 q)

-- no lines have no answers
pub Answered-none : (state : State) → Answered state [] [] state
Answered-none state = record { commands = []; answers = []; each = tt; run = refl; reported = refl }

-- one line has the answer of one step
pub Answered-one : (old new : State) (line : List ℕ) (command : Command) (answer : List ℕ) → StandsFor line command → Step old command answer new → Answered old (line ∷ []) answer new
Answered-one old new line command answer meant step = record {
  commands = command ∷ [];
  answers = answer ∷ [];
  each = (meant, tt);
  run = (new, step, refl);
  reported = sym (append-nil answer);
}

-- some lines were answered, and then further lines
pub Answered-trans : (a b c : State) (lines more : List (List ℕ)) (text next : List ℕ) → Answered a lines text b → Answered b more next c → Answered a (lines ++ more) (text ++ next) c
Answered-trans a b c lines more text next p q = record {
  commands = p.commands ++ q.commands;
  answers = p.answers ++ q.answers;
  each = AllZip-append StandsFor lines more p.commands q.commands p.each q.each;
  run = Run-append a b c p.commands q.commands p.answers q.answers p.run q.run;
  reported = ap (λ x. x ++ next) p.reported ∙ ap (λ x. concat p.answers ++ x) q.reported ∙ sym (concat-append p.answers q.answers);
}
