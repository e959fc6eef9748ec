-- A trace that is read back from its last arrival.
use Rattle.std.proofs.Common.{◌≡◌, ℕ, suc, List, [], ◌++◌, refl, sym, subst, append-nil, append_assoc}
use Rattle.mbe_program.specs.Ways.{Coming, IsAt, Traces}

module _ (Cell Note : Type 0) where
  -- notes that are traced to a number, before these, are traced to the last
  abbrev pub LeadsOn : (log : List (Coming Cell Note)) → (number last : ℕ) → (more : List Note) → Type 0
  LeadsOn log number last more = (n : ℕ) → (notes : List Note) → Traces Cell Note log n number notes → (m : ℕ) × Traces Cell Note log m last (notes ++ more)

  pub leads_to_itself : (log : List (Coming Cell Note)) (last : ℕ) → LeadsOn log last last []
  leads_to_itself log last n notes traces = (n, subst (Traces Cell Note log n last) (sym (append-nil notes)) traces)

  -- One arrival further back.
  pub leads_back : (log : List (Coming Cell Note)) (k number last : ℕ) (it : Coming Cell Note) (more : List Note) → number ≡ suc k → IsAt Cell Note log k it → LeadsOn log number last more
      → LeadsOn log it.before last (it.notes ++ more)
  leads_back log k number last it more same there leads n before traces =
      let further = leads (suc n) (before ++ it.notes) (k, it, before, same, there, traces, refl) in
      (further.0, subst (Traces Cell Note log further.0 last) (append_assoc before it.notes more) further.1)

  -- The whole trace, if none is left.
  pub leads_all : (log : List (Coming Cell Note)) (number last : ℕ) (more : List Note) → number ≡ 0 → LeadsOn log number last more → (m : ℕ) × Traces Cell Note log m last more
  leads_all log number last more none leads = leads 0 [] (none, refl)
