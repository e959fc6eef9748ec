-- If a word is not in the table of a tree's symbols, it is nowhere in the tree, and with `macro_export` nowhere no macro is exported.
use Rattle.std.proofs.Common.{◌≡◌, ◌-◌, ◌++◌, ℕ, zero, suc, Bool, true, false, List, [], ◌∷◌, length, codes, cond, refl, ap, ap₂, sym, subst, arith, true≢false}
use Rattle.std.proofs.lemmas.Grind.{flat_map-append}
use Rattle.std.proofs.lemmas.Slice.Eq.{bytes_eq-Decides}
use Rattle.std.specs.List.{AllByRecursion, list_any}
use Rattle.std.specs.Prelude.{◌==◌, ◌&&◌, ◌||◌, bytes_eq}
use Rattle.tt.specs.Forest.{Forest, end, leaf, node, flat}
use Rattle.tt.specs.Types.IdentIsRaw.{IdentIsRaw}
use Rattle.tt.specs.Types.IdentIsRaw.TheVariants as raw
use Rattle.tt.specs.Types.Leaf.{Leaf}
use Rattle.tt.specs.Types.Leaf.TheVariants as leaf_of
use Rattle.tt_tables.specs.TableOrder.{IsIn, index_in}
use Rattle.tt_tables.specs.Uses.{leaf_symbols, symbol_uses, token_symbols}
use Rattle.tt.specs.Types.DelimiterKind.{DelimiterKind}
use Rattle.expand_items.proofs.OneList.{has_list}
use Rattle.expand_items.specs.Cfg.{Known}
use Rattle.expand_items.specs.Conditions.{behind_leaf_under, is_open_condition}
use Rattle.expand_items.specs.Definitions.{Defined, AreDefinitions, Unless, defined_by, passed_by}
use Rattle.expand_items.specs.Items.{Item, defines, calls, inactive, other}
use Rattle.expand_items.specs.Positions.{angles_behind, begun, behind, behind_attribute_sign, behind_subtree, first_in, is_at_attribute_of, is_bracket}
use Rattle.expand_items.specs.declared.position.Position.{Position}
use Rattle.expand_items.specs.declared.position.Siblings.TheVariants.{Items}
use Rattle.expand_text.specs.Contexts.{Config, Context, new_context}
use Rattle.expand_text.specs.Exports.{AreExported, AreRead, IsReadIfExported}
use Rattle.expand_text.specs.Lacking.{Lacks}
use Rattle.mbe_pattern.specs.Spelling.{is_parenthesis}
use Rattle.mbe_pattern.specs.Units.{is_at_word, is_brace}

-- The uses of two lists of tokens are those of each.
all_parts : (P : List ℕ → Type 0) (a b : List (List ℕ)) → AllByRecursion P (a ++ b) → AllByRecursion P a × AllByRecursion P b
all_parts P [] b all = (tt, all)
all_parts P (x ∷ a) b all = let (first, second) = all_parts P a b all.1 in ((all.0, first), second)

module _ (word : List ℕ) (table : List (List ℕ)) (none : list_any (λ it. bytes_eq word it) table ≡ false) where
  no_index : (its : List (List ℕ)) → list_any (λ it. bytes_eq word it) its ≡ false → index_in (bytes_eq word) its ≡ length its
  no_index [] e = refl
  no_index (it ∷ its) e = by (bytes_eq word it) (no_index its) e
    where
      by : (b : Bool) → (list_any (λ x. bytes_eq word x) its ≡ false → index_in (bytes_eq word) its ≡ length its) → (b || list_any (λ x. bytes_eq word x) its) ≡ false
          → cond b 0 (suc (index_in (bytes_eq word) its)) ≡ suc (length its)
      by true others e = absurd (true≢false e)
      by false others e = ap suc (others e)

  -- A symbol in the table is another word.
  other_word : (symbol : List ℕ) → IsIn bytes_eq table symbol → bytes_eq symbol word ≡ false
  other_word symbol is = by (bytes_eq symbol word) refl
    where
      by : (b : Bool) → bytes_eq symbol word ≡ b → b ≡ false
      by false e = refl
      by true e =
          let same : symbol ≡ word = (bytes_eq-Decides symbol word).0 e in
          absurd (omega (arith, subst (IsIn bytes_eq table) same is, no_index table none))

  lacks_first : (it : Leaf) (rest : Forest) → AllByRecursion (IsIn bytes_eq table) (leaf_symbols it) → is_at_word word (leaf it rest) ≡ false
  lacks_first (leaf_of.Literal it) rest all = refl
  lacks_first (leaf_of.Punct it) rest all = refl
  lacks_first (leaf_of.Ident it) rest all = by it.is_raw (other_word it.sym all.0)
    where
      by : (is_raw : IdentIsRaw) → bytes_eq it.sym word ≡ false → is_at_word word (leaf (leaf_of.Ident (record it { is_raw = is_raw })) rest) ≡ false
      by raw.No e = e
      by raw.Yes e = refl

  pub lacks_all : (trees : Forest) → AllByRecursion (IsIn bytes_eq table) (symbol_uses (flat trees)) → Lacks word trees
  lacks_all end all = tt
  lacks_all (leaf it rest) all =
      let (first, others) = all_parts (IsIn bytes_eq table) (leaf_symbols it) (symbol_uses (flat rest)) all in
      (lacks_first it rest first, lacks_all rest others)
  lacks_all (node delimiter children rest) all =
      let (inside, behind) = all_parts (IsIn bytes_eq table) (symbol_uses (flat children)) (symbol_uses (flat rest))
      (subst (AllByRecursion (IsIn bytes_eq table)) (flat_map-append token_symbols (flat children) (flat rest)) all) in
      (lacks_all children inside, lacks_all rest behind)

-- The first tree is not the word.
pub lacks_word : (word : List ℕ) (trees : Forest) → Lacks word trees → is_at_word word trees ≡ false
lacks_word word end lacks = refl
lacks_word word (leaf it rest) lacks = lacks.0
lacks_word word (node delimiter children rest) lacks = refl

abbrev export : List ℕ
export = codes "macro_export"

-- No attribute comes first that exports a macro.
no_export : (trees : Forest) → Lacks export trees → is_at_attribute_of export trees ≡ false
no_export end lacks = refl
no_export (leaf it rest) lacks = refl
no_export (node delimiter children rest) lacks = by (is_bracket delimiter.kind)
  where
    by : (b : Bool) → (b && is_at_word export children) ≡ false
    by true = lacks_word export children lacks.0
    by false = refl

-- After a tree none is in force.
leaf_unexported : (known : Known) (it : Leaf) (rest : Forest) (position : Position) → position.is_exported ≡ false → Lacks export rest
    → (behind_leaf_under known it rest position).is_exported ≡ false
leaf_unexported known (leaf_of.Literal it) rest position none lacks = refl
leaf_unexported known (leaf_of.Ident it) rest position none lacks = refl
leaf_unexported known (leaf_of.Punct it) rest position none lacks = by (it.char == 35) ((it.char == 33) && position.is_attribute)
  where
    is_open : Bool
    is_open = is_open_condition known (leaf_of.Punct it) rest

    by : (a b : Bool) → (cond a (behind_attribute_sign is_open rest position) (cond b position (record (behind (it.char == 59) position) { angles = angles_behind it.char position }))).is_exported ≡ false
    by true b = ap₂ (λ x y. x || y) none (no_export rest lacks)
    by false true = none
    by false false = refl

subtree_unexported : (kind : DelimiterKind) (position : Position) → position.is_exported ≡ false → (behind_subtree kind position).is_exported ≡ false
subtree_unexported kind position none = by position.is_attribute
  where
    by : (b : Bool) → (cond b (record position { is_attribute = false }) (record (behind (is_brace kind && (position.angles == 0)) position) { is_used = position.is_used && is_parenthesis kind })).is_exported ≡ false
    by true = none
    by false = refl

-- none of these definitions exports its macro
abbrev AreUnexported : List Defined → Type 0
AreUnexported [] = Unit {0}
AreUnexported (it ∷ others) = (it.position.is_exported ≡ false) × AreUnexported others

both_unexported : (a b : List Defined) → AreUnexported a → AreUnexported b → AreUnexported (a ++ b)
both_unexported [] b are were = were
both_unexported (it ∷ a) b (none, are) were = (none, both_unexported a b are were)

first_unexported : (position : Position) (first : Item) → position.is_exported ≡ false → AreUnexported (defined_by position first)
first_unexported position (defines it) none = (none, tt)
first_unexported position (calls it) none = tt
first_unexported position (inactive len) none = tt
first_unexported position other none = tt

all_unexported : (known : Known) (root : List ℕ) (position : Position) (passed : ℕ) (trees : Forest) (found : List Defined) → position.is_exported ≡ false → Lacks export trees
    → AreDefinitions known root position passed trees found → AreUnexported found
all_unexported known root position passed end found none lacks are = subst AreUnexported (sym are) tt
all_unexported known root position passed (leaf it rest) found none lacks (first, others, is, behind_it, same) =
    subst AreUnexported (sym same)
    (both_unexported (defined_by position first) others (first_unexported position first none)
    (all_unexported known root (behind_leaf_under known it rest position) (passed_by passed first - 1) rest others (leaf_unexported known it rest position none lacks.1) lacks.1 behind_it))
all_unexported known root position passed (node delimiter children rest) found none lacks (inside, others, held, behind_it, same) =
    subst AreUnexported (sym same)
    (both_unexported inside others (by passed (all_unexported known root (first_in delimiter.kind position) 0 children inside refl lacks.0) held)
    (all_unexported known root (behind_subtree delimiter.kind position) (passed - 1) rest others (subtree_unexported delimiter.kind position none) lacks.1 behind_it))
  where
    Are : List Defined → Type 0
    Are = AreDefinitions known root (first_in delimiter.kind position) 0 children

    by : (passed : ℕ) → (Are inside → AreUnexported inside) → Unless passed Are inside → AreUnexported inside
    by zero all are = all are
    by (suc passed) all nothing = subst AreUnexported (sym nothing) tt

none_read : (config : Config) (found : List Defined) (context : Context) → AreUnexported found → AreRead config found context context
none_read config [] context are = refl
none_read config (it ∷ others) context (none, are) =
    (context, subst (λ b. IsReadIfExported b config it context context) (sym none) refl, none_read config others context are)

-- So no macro is exported.
pub none_exported : (config : Config) (trees : Forest) → Lacks export trees → AreExported config trees []
none_exported config trees lacks =
    let (found, are) = has_list config.known config.root (begun Items) 0 trees in
    (found, new_context [], are, none_read config found (new_context []) (all_unexported config.known config.root (begun Items) 0 trees found refl lacks are), refl)
