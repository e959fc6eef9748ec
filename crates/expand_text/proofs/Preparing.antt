-- What is built of arms as they are read, and what is left of them.
use Rattle.std.proofs.Common.{◌≡◌, ◌<◌, ◌≤◌, ℕ, zero, suc, Bool, true, false, List, [], ◌∷◌, map, refl, ap, ap₂, sym, ◌∙◌, arith, if◌then◌else◌}
use Rattle.std.proofs.lemmas.Bool.{lt-ltb}
use Rattle.std.specs.Prelude.{nat_lt}
use Rattle.tt.specs.Building.{BuilderState, Stack, lowest, above, append, close_innermost, IsGrowthFault}
use Rattle.tt.specs.Forest.{Forest, end, leaf, node, size}
use Rattle.tt.specs.Gluing.{after_trees}
use Rattle.tt.specs.Iters.{rest_of}
use Rattle.tt.specs.Moves.{after_tree}
use Rattle.tt.specs.TreeFault.{under, IsTreeFault}
use Rattle.tt.specs.Types.Delimiter.{Delimiter}
use Rattle.tt.specs.Types.Leaf.{Leaf}
use Rattle.tt.specs.Types.Subtree.{Subtree}
use Rattle.tt.specs.Types.TtFault.{TtFault}
use Rattle.tt_base.proofs.Appending.{append-end}
use Rattle.expand_items.proofs.Rebuilding as built
use Rattle.expand_text.specs.declared.prepared.ArmPart.{ArmPart}
use Rattle.expand_text.specs.declared.prepared.Level.{Level}
use Rattle.expand_text.specs.Prepared.{after_leaf, inside, is_crate_root, left_out, prepared_behind, rooted_leaf}

-- what is known of a level: of which part its trees are
abbrev open_of : Level → built.Open ArmPart
open_of it = record { before = it.part; rest = rest_of it.rest; close = it.close }

-- the trees of a part as they are read
abbrev changed : (root : List ℕ) → ArmPart → Forest → Forest
changed root this trees = prepared_behind root this 0 trees

-- what is built once the rest of all levels is
abbrev pub finished : (root : List ℕ) → List Level → ArmPart → Forest → Stack → Stack
finished root outer this rest stack = built.finished (changed root) (map open_of outer) this rest stack

-- how much is left to do
abbrev pub work_left : List Level → ℕ
work_left outer = built.work_left (map open_of outer)

-- Trees that are passed leave nothing.
passed_is : (root : List ℕ) (this : ArmPart) (n : ℕ) (trees : Forest) → prepared_behind root this n trees ≡ changed root this (after_trees n trees)
passed_is root this zero trees = refl
passed_is root this (suc n) end = passed_is root this n end
passed_is root this (suc n) (leaf it rest) = passed_is root this n rest
passed_is root this (suc n) (node delimiter children rest) = passed_is root this n rest

-- After a leaf that stays, the trees that are left are read.
after_is : (root : List ℕ) (this : ArmPart) (it : Leaf) (rest : Forest) → prepared_behind root this (if is_crate_root it rest then 1 else 0) rest ≡ changed root this (after_leaf it rest)
after_is root this it rest = by (is_crate_root it rest)
  where
    by : (there : Bool) → prepared_behind root this (if there then 1 else 0) rest ≡ changed root this (if there then after_tree rest else rest)
    by true = passed_is root this 1 rest
    by false = refl

-- whether a number is more than none
none_is : (n : ℕ) → n ≡ 0 → nat_lt 0 n ≡ false
none_is n is = ap (nat_lt 0) is

more_is : (n : ℕ) → 0 < n → nat_lt 0 n ≡ true
more_is n some = lt-ltb 0 n some

-- A leaf that stays is built.
pub finished_leaf : (root : List ℕ) (outer : List Level) (this : ArmPart) (trees behind others : Forest) (it word : Leaf) (stack : Stack) → trees ≡ leaf it behind
    → left_out this it behind ≡ 0 → others ≡ after_leaf it behind → word ≡ rooted_leaf root it behind
    → finished root outer this trees stack ≡ finished root outer this others (append (leaf word end) stack)
finished_leaf root outer this trees behind others it word stack begins stays left is =
    built.finished_step (changed root) (map open_of outer) this this trees others (leaf word end) stack (
    ap (changed root this) begins
    ∙ ap (λ b. if b then prepared_behind root this (left_out this it behind) behind
    else leaf (rooted_leaf root it behind) (prepared_behind root this (if is_crate_root it behind then 1 else 0) behind)) (none_is (left_out this it behind) stays)
    ∙ ap₂ leaf (sym is) (after_is root this it behind ∙ ap (changed root this) (sym left))
    )

-- A comment is left out.
pub finished_comment : (root : List ℕ) (outer : List Level) (this : ArmPart) (trees behind others : Forest) (it : Leaf) (stack : Stack) → trees ≡ leaf it behind
    → 0 < left_out this it behind → others ≡ after_trees (left_out this it behind) behind
    → finished root outer this trees stack ≡ finished root outer this others stack
finished_comment root outer this trees behind others it stack begins goes left =
    built.finished_step (changed root) (map open_of outer) this this trees others end stack (
    ap (changed root this) begins
    ∙ ap (λ b. if b then prepared_behind root this (left_out this it behind) behind
    else leaf (rooted_leaf root it behind) (prepared_behind root this (if is_crate_root it behind then 1 else 0) behind)) (more_is (left_out this it behind) goes)
    ∙ passed_is root this (left_out this it behind) behind
    ∙ ap (changed root this) (sym left)
    )
    ∙ ap (built.finished (changed root) (map open_of outer) this others) (append-end stack)

-- A subtree is opened.
pub finished_node : (root : List ℕ) (outer : List Level) (this inner : ArmPart) (trees held : Forest) (level : Level) (header : Subtree) (stack : Stack)
    → trees ≡ node header.delimiter held (rest_of level.rest) → level.close ≡ header.delimiter.close → level.part ≡ this → inner ≡ inside this (rest_of level.rest)
    → finished root outer this trees stack ≡ finished root (level ∷ outer) inner held (above stack header.delimiter.kind header.delimiter.open_span end)
finished_node root outer this inner trees held level header stack begins close same holds =
    built.finished_node (changed root) (map open_of outer) this inner trees held (open_of level) header.delimiter.open_span header.delimiter.kind stack (
    ap (changed root this) begins
    ∙ ap₂ (λ i c. node (record { open_span = header.delimiter.open_span; close = c; kind = header.delimiter.kind }) (changed root i held) (changed root this (rest_of level.rest))) (sym holds) (sym close)
    ∙ ap (λ p. node (record { open_span = header.delimiter.open_span; close = level.close; kind = header.delimiter.kind }) (changed root inner held) (changed root p (rest_of level.rest))) (sym same)
    )

-- A subtree is closed.
pub finished_end : (root : List ℕ) (outer : List Level) (this : ArmPart) (trees : Forest) (level : Level) (stack : Stack) → trees ≡ end
    → finished root (level ∷ outer) this trees stack ≡ finished root outer level.part (rest_of level.rest) (close_innermost level.close stack)
finished_end root outer this trees level stack none = built.finished_end (changed root) (λ u. refl) (map open_of outer) this trees (open_of level) stack none

-- All is built.
pub finished_all : (root : List ℕ) (this : ArmPart) (trees all : Forest) (stack : Stack) → trees ≡ end → finished root [] this trees stack ≡ lowest all → stack ≡ lowest all
finished_all root this trees all stack none is = built.finished_all (changed root) (λ u. refl) this trees all stack none is

-- If there is no room for one token more, the whole is too large.
module _ (root : List ℕ) (outer : List Level) (this : ArmPart) (trees all : Forest) (it : BuilderState) (fault : TtFault) (wrong : IsGrowthFault 1 it fault)
    (delimiter : Delimiter) (whole : finished root outer this trees it.stack ≡ lowest all) where
  no_room : 1 ≤ size (changed root this trees) → IsTreeFault (under delimiter all) fault
  no_room some = built.no_room (changed root) (map open_of outer) this trees all it fault wrong delimiter whole some

  pub leaf_no_room : (word : Leaf) (behind : Forest) → trees ≡ leaf word behind → left_out this word behind ≡ 0 → IsTreeFault (under delimiter all) fault
  leaf_no_room word behind begins stays =
      no_room (omega (
        arith,
        ap (λ f. size (changed root this f)) begins
            ∙ ap (λ b. size (if b then prepared_behind root this (left_out this word behind) behind
            else leaf (rooted_leaf root word behind) (prepared_behind root this (if is_crate_root word behind then 1 else 0) behind))) (none_is (left_out this word behind) stays),
      ))

  pub node_no_room : (header : Delimiter) (held behind : Forest) → trees ≡ node header held behind → IsTreeFault (under delimiter all) fault
  node_no_room header held behind begins = no_room (omega (arith, ap (λ f. size (changed root this f)) begins))
