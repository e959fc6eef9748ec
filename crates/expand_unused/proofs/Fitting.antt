-- The cuts of a text fit into it.
use Rattle.std.proofs.Common.{◌≡◌, ◌<◌, ◌≤◌, ◌+◌, ◌-◌, ◌++◌, ℕ, zero, suc, Bool, true, false, List, [], ◌∷◌, length, Option, None, Some, map, option_map, refl, ap, sym, subst, ◌∙◌, arith, cond, codes}
use Rattle.std.proofs.lemmas.List.{append_assoc}
use Rattle.std.specs.Prelude.{◌||◌, ◌==◌}
use Rattle.std.specs.Str.{IsCharBoundary, IsUtf8}
use Rattle.tt.specs.Forest.{Forest, Root, end, leaf, node, size}
use Rattle.tt.specs.Gluing.{after_trees}
use Rattle.tt.specs.Moves.{after_tree}
use Rattle.tt.specs.Span.{start_of, end_of}
use Rattle.tt.specs.Token.{leaf_span}
use Rattle.tt.specs.Types.Delimiter.{Delimiter}
use Rattle.tt.specs.Types.Ident.{Ident}
use Rattle.tt.specs.Types.Leaf.{Leaf}
use Rattle.tt.specs.Types.Leaf.TheVariants as leaf_of
use Rattle.tt.specs.Types.Span.{Span}
use Rattle.tt.specs.Types.SpanPart.{SpanPart}
use Rattle.expand_unused.specs.declared.choice.Choice.{Choice}
use Rattle.expand_unused.specs.Parts.{Part, word, rules, leaf_words, last_span, exported_words, first_at, first_in, first_parts, if_may_go, may_go, parts_in, passed_by, rules_from}
use Rattle.syntax_edit.specs.Places.{begin_at}
use Rattle.expand_unused.specs.Without.{cut_of, cuts, AreParts}
use Rattle.syntax_edit.specs.Laid.{Laid, byte_behind, lies_leaf, lies_node}
use Rattle.syntax_edit.specs.Texts.{begun, FitAll}
use Rattle.syntax_edit.proofs.Following.{Follow, none, next, follow_from, follow_both, follow_fit}
use Rattle.syntax_edit.proofs.LaidFacts.{laid_behind, laid_order, starts_before}
use Rattle.syntax_edit.proofs.ParsedOrder.{parsed_laid}
use Rattle.expand_items.specs.Attributes.{attributes_len}
use Rattle.expand_items.specs.Items.{Definition, definition_from, definition_in, definition_len, defined_as, name_in}
use Rattle.expand_items.specs.MacroRulesItems.{MacroRulesItem, behind_attributes, macro_rules_item_in}
use Rattle.expand_items.proofs.Attributes.{attributes_fit}
use Rattle.expand_items.proofs.ManyTrees.{after_both}
use Rattle.mbe_pattern.proofs.Passing.{after_end}
use Rattle.mbe_pattern.specs.Units.{is_at_word, is_brace, is_at_punct}
use Rattle.syntax_parse.specs.Parsed.{IsParse}

-- The cuts of two lists of parts, one after the other, are those of both.
cuts_both : (goes : List ℕ → Bool) (these others : List Part) → cuts goes (these ++ others) ≡ cuts goes these ++ cuts goes others
cuts_both goes [] others = refl
cuts_both goes (word it ∷ more) others = cuts_both goes more others
cuts_both goes (rules it ∷ more) others = by (goes it.name) (cuts_both goes more others)
  where
    by : (b : Bool) → cuts goes (more ++ others) ≡ cuts goes more ++ cuts goes others
        → cond b (cut_of it ∷ cuts goes (more ++ others)) (cuts goes (more ++ others)) ≡ cond b (cut_of it ∷ cuts goes more) (cuts goes more) ++ cuts goes others
    by true same = ap (λ l. cut_of it ∷ l) same
    by false same = same

-- Words cut nothing.
cuts_words : (goes : List ℕ → Bool) (words : List (List ℕ)) (others : List Part) → cuts goes (map word words ++ others) ≡ cuts goes others
cuts_words goes [] others = refl
cuts_words goes (it ∷ more) others = cuts_words goes more others

-- a definition is four trees, the last of which is a subtree, and a `;` may follow
pub record EndsWithSubtree (trees : Forest) (it : Definition) : Type 0 where
  pub rest : Forest
  pub shape : after_trees 3 trees ≡ node it.delimiter it.arms rest
  pub len : it.len ≡ definition_len it.delimiter.kind rest

abbrev EndsWith : Forest → Option Definition → Type 0
EndsWith trees None = Unit {0}
EndsWith trees (Some it) = EndsWithSubtree trees it

definition_ends : (trees : Forest) → EndsWith trees (definition_in trees)
definition_ends trees = by (is_at_word (codes "macro_rules") trees) (is_at_punct (codes "!") (after_tree trees)) (name_in (after_tree (after_tree trees)))
  where
    named : (name : Ident) (behind : Forest) → after_trees 3 trees ≡ behind → EndsWith trees (defined_as name behind)
    named name end is = tt
    named name (leaf it rest) is = tt
    named name (node delimiter children rest) is = record { rest = rest; shape = is; len = refl }

    by : (a b : Bool) (name : Option Ident) → EndsWith trees (cond a (cond b (definition_from name (after_trees 3 trees)) None) None)
    by true true None = tt
    by true true (Some name) = named name (after_trees 3 trees) refl
    by true false name = tt
    by false b name = tt

-- the definition behind the attributes that come first ends so
record IsEnded (trees : Forest) (it : MacroRulesItem) : Type 0 where
  attributes : it.attributes ≡ attributes_len trees
  ends : EndsWithSubtree (after_trees it.attributes trees) it.definition

item_ends : (trees : Forest) (it : MacroRulesItem) → macro_rules_item_in trees ≡ Some it → IsEnded trees it
item_ends trees it is = by (definition_in (after_trees len trees)) (definition_ends (after_trees len trees)) is
  where
    len : ℕ
    len = attributes_len trees

    by : (found : Option Definition) → EndsWith (after_trees len trees) found → option_map (behind_attributes len) found ≡ Some it → IsEnded trees it
    by None there e = absurd (cc e)
    by (Some d) there e = let same : behind_attributes len d ≡ it = cc e in subst (IsEnded trees) same (record { attributes = refl; ends = there })

-- The definition that comes first behind attributes, and may go, ends with its subtree, or with a `;` after it.
first_ends : (choice : Choice) (trees : Forest) (it : MacroRulesItem) → first_in choice trees ≡ Some it → EndsWithSubtree (after_trees it.attributes trees) it.definition
first_ends choice trees it is = by (macro_rules_item_in trees) (item_ends trees) is
  where
    kept : (item : MacroRulesItem) (may : Bool) → cond may (Some item) None ≡ Some it → item ≡ it
    kept item true e = cc e
    kept item false e = absurd (cc e)

    by : (found : Option MacroRulesItem) → ((item : MacroRulesItem) → found ≡ Some item → IsEnded trees item) → if_may_go choice found ≡ Some it
        → EndsWithSubtree (after_trees it.attributes trees) it.definition
    by None all e = absurd (cc e)
    by (Some item) all e = (all it (ap Some (kept item (may_go choice.only item.definition.name.sym) e))).ends

-- Behind so many trees so many tokens less are left, if any are.
fewer_by : (n : ℕ) (trees : Forest) → 0 < size (after_trees n trees) → n + size (after_trees n trees) ≤ size trees
fewer_by zero trees some = omega arith
fewer_by (suc n) end some = absurd (omega (arith, some, ap size (after_end n)))
fewer_by (suc n) (leaf it rest) some = omega (arith, fewer_by n rest some)
fewer_by (suc n) (node delimiter children rest) some = omega (arith, fewer_by n rest some)

-- A definition has no more trees than there are tokens.
definition_fits : (trees : Forest) (it : Definition) → EndsWithSubtree trees it → it.len ≤ size trees
definition_fits trees it ends = by (is_brace it.delimiter.kind) (is_at_punct (codes ";") ends.rest) ends.rest refl refl ends.len
  where
    held : ℕ
    held = size it.arms

    subtree : size (after_trees 3 trees) ≡ suc (held + size ends.rest)
    subtree = ap size ends.shape

    four : 4 + size ends.rest ≤ size trees
    four = omega (arith, fewer_by 3 trees (omega (arith, subtree)), subtree)

    by : (brace semicolon : Bool) (rest : Forest) → is_at_punct (codes ";") rest ≡ semicolon → rest ≡ ends.rest → it.len ≡ cond brace 4 (cond semicolon 5 4) → it.len ≤ size trees
    by true semicolon rest there same len = omega (arith, len, four)
    by false false rest there same len = omega (arith, len, four)
    by false true end there same len = absurd (cc there)
    by false true (node delimiter children rest) there same len = absurd (cc there)
    by false true (leaf first rest) there same len = omega (arith, len, four, ap size same)

-- With its attributes too.
pub item_fits : (trees : Forest) (it : MacroRulesItem) → macro_rules_item_in trees ≡ Some it → it.attributes + it.definition.len ≤ size trees
item_fits trees it is =
    let ended = item_ends trees it is in
    let behind : size (after_trees it.attributes trees) ≡ size (after_trees (attributes_len trees) trees) = ap (λ n. size (after_trees n trees)) ended.attributes in
    omega (arith, ended.attributes, behind, attributes_fit trees, definition_fits (after_trees it.attributes trees) it.definition ended.ends)

-- where a definition ends
pub record EndsAt (text : List ℕ) (from : ℕ) (trees : Forest) (it : Definition) (to : ℕ) : Type 0 where
  pub order : from ≤ end_of (last_span it trees).range
  pub boundary : IsCharBoundary text (end_of (last_span it trees).range)
  pub behind : Laid text (end_of (last_span it trees).range) (after_trees it.len trees) to
  pub some : suc (it.len - 1) ≡ it.len

module _ {text : List ℕ} {to : ℕ} where
  -- A definition ends with its subtree.
  subtree_ends : {from : ℕ} (it : Definition) (rest : Forest) → Laid text from (node it.delimiter it.arms rest) to
      → (from ≤ end_of it.delimiter.close.range) × IsCharBoundary text (end_of it.delimiter.close.range) × Laid text (end_of it.delimiter.close.range) rest to
  subtree_ends it rest (lies_node opens inside closes behind) = (omega (arith, opens.after, laid_order inside, closes.order), closes.ends, behind)

  -- A `;` ends where it ends.
  semicolon_ends : {from : ℕ} (other : Span) (rest : Forest) → is_at_punct (codes ";") rest ≡ true → Laid text from rest to
      → (from ≤ end_of (begin_at rest other).range) × IsCharBoundary text (end_of (begin_at rest other).range) × Laid text (end_of (begin_at rest other).range) (after_tree rest) to
  semicolon_ends other end is laid = absurd (cc is)
  semicolon_ends other (node delimiter children rest) is laid = absurd (cc is)
  semicolon_ends other (leaf (leaf_of.Literal it) rest) is laid = absurd (cc is)
  semicolon_ends other (leaf (leaf_of.Ident it) rest) is laid = absurd (cc is)
  semicolon_ends other (leaf (leaf_of.Punct it) rest) is (lies_leaf semicolon behind) = (
    omega (arith, semicolon.after, semicolon.range.order),
    semicolon.range.ends,
    subst (λ n. Laid text n rest to) (ap (λ b. cond b (end_of it.span.range) (start_of it.span.range)) (there (it.char == 59) is)) behind,
  )
    where
      there : (b : Bool) → (b || false) ≡ true → b ≡ true
      there true is = refl
      there false is = is

  definition_ends_at : {from : ℕ} (trees : Forest) (it : Definition) → EndsWithSubtree trees it → Laid text from trees to → EndsAt text from trees it to
  definition_ends_at {from} trees it ends laid = by (is_brace it.delimiter.kind) (is_at_punct (codes ";") ends.rest) refl refl
    where
      close : Span
      close = it.delimiter.close

      subtree : (from ≤ end_of close.range) × IsCharBoundary text (end_of close.range) × Laid text (end_of close.range) ends.rest to
      subtree = subtree_ends it ends.rest (subst (λ f. Laid text from f to) ends.shape (laid_behind 3 laid))

      four : after_trees 4 trees ≡ ends.rest
      four = after_four trees ∙ ap after_tree ends.shape
        where
          after_four : (trees : Forest) → after_trees 4 trees ≡ after_tree (after_trees 3 trees)
          after_four trees = refl

      at_close : it.len ≡ 4 → EndsAt text from trees it to
      at_close len =
          let last : last_span it trees ≡ close = ap (λ n. cond (n == 5) (begin_at (after_trees 4 trees) close) close) len in
          record {
            order = subst (λ s. from ≤ end_of s.range) (sym last) subtree.0;
            boundary = subst (λ s. IsCharBoundary text (end_of s.range)) (sym last) subtree.1;
            behind = subst (λ s. Laid text (end_of s.range) (after_trees it.len trees) to) (sym last)
                (subst (λ f. Laid text (end_of close.range) f to) (sym (ap (λ n. after_trees n trees) len ∙ four)) subtree.2);
            some = omega (arith, len);
          }

      at_semicolon : is_at_punct (codes ";") ends.rest ≡ true → it.len ≡ 5 → EndsAt text from trees it to
      at_semicolon there len =
          let (order, boundary, behind) = semicolon_ends close ends.rest there subtree.2 in
          let last : last_span it trees ≡ begin_at ends.rest close =
          ap (λ n. cond (n == 5) (begin_at (after_trees 4 trees) close) close) len ∙ ap (λ f. begin_at f close) four in
          record {
            order = subst (λ s. from ≤ end_of s.range) (sym last) (omega (arith, subtree.0, order));
            boundary = subst (λ s. IsCharBoundary text (end_of s.range)) (sym last) boundary;
            behind = subst (λ s. Laid text (end_of s.range) (after_trees it.len trees) to) (sym last)
                (subst (λ f. Laid text (end_of (begin_at ends.rest close).range) f to) (sym (ap (λ n. after_trees n trees) len ∙ after_five trees ∙ ap after_tree four)) behind);
            some = omega (arith, len);
          }
        where
          after_five : (trees : Forest) → after_trees 5 trees ≡ after_tree (after_trees 4 trees)
          after_five trees = refl

      by : (brace semicolon : Bool) → is_brace it.delimiter.kind ≡ brace → is_at_punct (codes ";") ends.rest ≡ semicolon → EndsAt text from trees it to
      by true semicolon a b = at_close (ends.len ∙ ap (λ x. cond x 4 (cond (is_at_punct (codes ";") ends.rest) 5 4)) a)
      by false true a b = at_semicolon b (ends.len ∙ ap (λ x. cond x 4 (cond (is_at_punct (codes ";") ends.rest) 5 4)) a ∙ ap (λ x. cond x 5 4) b)
      by false false a b = at_close (ends.len ∙ ap (λ x. cond x 4 (cond (is_at_punct (codes ";") ends.rest) 5 4)) a ∙ ap (λ x. cond x 5 4) b)

-- trees lie in a text, and so many of the first of them are part of a definition that ends before the others
abbrev IsReady : (text : List ℕ) → (from to : ℕ) → (passed : ℕ) → Forest → Type 0
IsReady text from to passed trees = Laid text from (after_trees passed trees) to

module _ (text : List ℕ) (choice : Choice) (defined : ℕ → Bool) (goes : List ℕ → Bool) where
  -- the cuts of trees follow one another, wherever the trees lie
  abbrev AllFollow : Forest → Type 0
  AllFollow trees = (passed left from to : ℕ) → IsReady text from to passed trees → Follow text from (cuts goes (parts_in choice defined passed left trees)) to

  words_follow : {from to : ℕ} (words : List (List ℕ)) (parts : List Part) → Follow text from (cuts goes parts) to → Follow text from (cuts goes (map word words ++ parts)) to
  words_follow {from} {to} words parts follow = subst (λ its. Follow text from its to) (sym (cuts_words goes words parts)) follow

  -- The definition that comes first is cut, or not, and then other definitions follow.
  rules_follow : {from to : ℕ} (it : MacroRulesItem) (first : Leaf) (rest : Forest) (left : ℕ) → AllFollow rest → first_in choice (leaf first rest) ≡ Some it
      → Laid text from (leaf first rest) to
      → Follow text from (cuts goes (rules (rules_from it first (leaf first rest)) ∷ parts_in choice defined (passed_by (Some it)) left rest)) to
  rules_follow {from} {to} it first rest left follow is (lies_leaf lies behind) = by (goes it.definition.name.sym)
    where
      start : ℕ
      start = start_of (leaf_span first).range

      trees : Forest
      trees = leaf first rest

      definition : Forest
      definition = after_trees it.attributes trees

      laid : Laid text start trees to
      laid = lies_leaf (record { after = omega arith; range = lies.range }) behind

      ends : EndsAt text start definition it.definition to
      ends = definition_ends_at definition it.definition (first_ends choice trees it is) (laid_behind it.attributes laid)

      stop : ℕ
      stop = end_of (last_span it.definition definition).range

      passed : after_trees it.definition.len definition ≡ after_trees (passed_by (Some it)) rest
      passed = sym (after_both it.attributes it.definition.len trees) ∙ ap (λ n. after_trees n trees) more
        where
          more : it.attributes + it.definition.len ≡ suc (it.attributes + it.definition.len - 1)
          more = omega (arith, ends.some)

      others : Follow text stop (cuts goes (parts_in choice defined (passed_by (Some it)) left rest)) to
      others = follow (passed_by (Some it)) left stop to (subst (λ f. Laid text stop f to) passed ends.behind)

      by : (b : Bool) → Follow text from
          (cond b (cut_of (rules_from it first trees) ∷ cuts goes (parts_in choice defined (passed_by (Some it)) left rest)) (cuts goes (parts_in choice defined (passed_by (Some it)) left rest))) to
      by true = next (record { after = lies.after; range = record { order = ends.order; begins = lies.range.begins; ends = ends.boundary } }) others
      by false = follow_from (omega (arith, lies.after, ends.order)) others

  leaf_follow : (left from to : ℕ) (it : Leaf) (rest : Forest) → AllFollow rest → Laid text from (leaf it rest) to
      → Follow text from (cuts goes (parts_in choice defined 0 left (leaf it rest))) to
  leaf_follow left from to it rest follow laid = by (first_at choice (defined left) (leaf it rest)) (found (defined left)) laid
    where
      found : (b : Bool) (item : MacroRulesItem) → first_at choice b (leaf it rest) ≡ Some item → first_in choice (leaf it rest) ≡ Some item
      found true item is = is
      found false item is = absurd (cc is)

      by : (first : Option MacroRulesItem) → ((item : MacroRulesItem) → first ≡ Some item → first_in choice (leaf it rest) ≡ Some item) → Laid text from (leaf it rest) to
          → Follow text from (cuts goes (first_parts choice first it (leaf it rest) ++ parts_in choice defined (passed_by first) (left - 1) rest)) to
      by None is (lies_leaf lies behind) =
          words_follow (leaf_words it) (parts_in choice defined 0 (left - 1) rest)
          (follow_from (omega (arith, lies.after, starts_before it lies.range.order)) (follow 0 (left - 1) (byte_behind it) to behind))
      by (Some item) is laid =
          let names = map word (exported_words choice item (leaf it rest)) in
          let goer = rules (rules_from item it (leaf it rest)) in
          let more = parts_in choice defined (passed_by (Some item)) (left - 1) rest in
          subst (λ parts. Follow text from (cuts goes parts) to) (sym (append_assoc names (goer ∷ []) more))
          (words_follow (exported_words choice item (leaf it rest)) (goer ∷ more) (rules_follow item it rest (left - 1) follow (is item refl) laid))

  node_follow : (left from to : ℕ) (delimiter : Delimiter) (inside rest : Forest) → AllFollow inside → AllFollow rest → Laid text from (node delimiter inside rest) to
      → Follow text from (cuts goes (parts_in choice defined 0 left (node delimiter inside rest))) to
  node_follow left from to delimiter inside rest held_follow follow (lies_node opens within closes behind) =
      let start = start_of delimiter.open_span.range in
      let stop = end_of delimiter.close.range in
      let inner = held_follow 0 (left - 1) start (start_of delimiter.close.range) within in
      let outer = follow 0 (left - 1 - size inside) stop to behind in
      subst (λ its. Follow text from its to) (sym (cuts_both goes (parts_in choice defined 0 (left - 1) inside) (parts_in choice defined 0 (left - 1 - size inside) rest)))
      (follow_both (follow_from opens.after inner) closes.order outer)

  -- The cuts of trees that lie in a text follow one another.
  parts_follow : (trees : Forest) → AllFollow trees
  parts_follow end zero left from to laid = none (laid_order laid)
  parts_follow end (suc passed) left from to laid = none (laid_order laid)
  parts_follow (leaf it rest) (suc passed) left from to laid = parts_follow rest passed (left - 1) from to laid
  parts_follow (node delimiter inside rest) (suc passed) left from to laid = parts_follow rest passed (left - 1 - size inside) from to laid
  parts_follow (leaf it rest) zero left from to laid = leaf_follow left from to it rest (parts_follow rest) laid
  parts_follow (node delimiter inside rest) zero left from to laid = node_follow left from to delimiter inside rest (parts_follow inside) (parts_follow rest) laid

-- The cuts of the parts of a text fit into it.
pub cuts_fit : (choice : Choice) (goes : List ℕ → Bool) (part : SpanPart) (text : List ℕ) (root : Root) (parts : List Part) → IsUtf8 text → IsParse part text root
    → AreParts choice root.children parts → FitAll (cuts goes parts) (begun text)
cuts_fit choice goes part text root parts utf8 parse (defined, at, are) =
    let start : 0 ≤ 0 = omega arith in
    subst (λ its. FitAll (cuts goes its) (begun text)) (sym are)
    (follow_fit (begun text) refl start
    (parts_follow text choice defined goes root.children 0 (size root.children) 0 (length text) (parsed_laid part text root utf8 parse)))
