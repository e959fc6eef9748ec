-- A list of tokens grows to that of a tree.
use Rattle.std.proofs.Common.{◌≡◌, List, [], ◌∷◌, ◌++◌, length, append_assoc, append-nil, ap, sym, ◌∙◌, arith}
use Rattle.tt_base.specs.Forest.{Root, only, flat, flat_root, header, size}

-- If no tokens are to come, all are there.
pub all_taken : {X : Type 0} (taken whole ahead : List X) → length ahead ≡ 0 → taken ++ ahead ≡ whole → taken ≡ whole
all_taken taken whole [] none e = sym (append-nil taken) ∙ e
all_taken taken whole (x ∷ ahead) none e = absurd (omega (arith, none))

-- One more is taken.
pub one_more : {X : Type 0} (taken more ahead behind whole : List X) (x y : X) → more ≡ taken ++ x ∷ [] → x ≡ y → ahead ≡ y ∷ behind → taken ++ ahead ≡ whole
    → more ++ behind ≡ whole
one_more taken more ahead behind whole x y is same front e =
    ap (λ l. l ++ behind) is ∙ append_assoc taken (x ∷ []) behind ∙ ap (λ z. taken ++ z ∷ behind) same ∙ ap (λ l. taken ++ l) (sym front) ∙ e

-- With no tokens after it, a list is the whole one.
pub with_none : {X : Type 0} (taken ahead whole : List X) → ahead ≡ [] → taken ++ ahead ≡ whole → taken ≡ whole
with_none taken ahead whole none e = all_taken taken whole ahead (ap length none) e

-- The list of one tree is the flat list of its root.
pub of_only : (root : Root) → flat (only root) ≡ flat_root root
of_only root = ap (λ l. header root.delimiter (size root.children) ∷ l) (append-nil (flat root.children))
