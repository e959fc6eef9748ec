-- What becomes of the trees that come first.
use Rattle.std.proofs.Common.{◌≡◌, ◌<◌, ℕ, suc, Bool, List, ◌∷◌, true, false, None, Some, cond, refl, ap, ap₂, sym, subst, ◌∙◌, arith}
use Rattle.tt.specs.Forest.{Forest, Root, size}
use Rattle.tt.specs.Gluing.{after_trees}
use Rattle.tt.specs.Span.{start_of}
use Rattle.tt.specs.Types.Span.{Span}
use Rattle.expand_text.specs.declared.fault.Finding.{Finding}
use Rattle.expand_text.specs.declared.fault.MacroFault.{MacroFault}
use Rattle.expand_text.specs.declared.invocation.Invocation.{Invocation}
use Rattle.expand_text.specs.declared.next.Choice.TheVariants as choice
use Rattle.expand_text.specs.declared.part.Part.{Part}
use Rattle.expand_text.specs.declared.walk.Level as rust
use Rattle.expand_text.specs.Calling.{IsFaulty, IsExpanded}
use Rattle.expand_text.specs.Choices.{IsChosen}
use Rattle.expand_text.specs.Events.{GoesPast, IsExpandedAt}
use Rattle.expand_text.specs.Invocations.{IsInvocation, body_of, call_part, entered_by, found_by, site_of}
use Rattle.expand_text.specs.Meaning.{begin_in, begun_by, body_in, end_in, entered_in, site_in, takes_in, whole_in, plain_behind_part, ExpandsTo}
use Rattle.expand_items.specs.Items.{Call, Definition, calls, defines, inactive}
use Rattle.expand_items.specs.Positions.{behind}
use Rattle.expand_text.specs.Contexts.{Config, Context, inside_call, outside_call, with_finding}
use Rattle.expand_text.specs.Macros.{IsRead, MayBePut, called_by, arms_of, found_of, context_behind}
use Rattle.expand_text.specs.Outcomes.{Outcome, trees_left}
use Rattle.expand_text.specs.CallSites.{CallSite, PutIn, IsKept}
use Rattle.expand_text.specs.Capturing.{IsCaptureFound}
use Rattle.expand_text.specs.Walks.{Level, level_at, front_in, past_in, past_call, first_stay, first_becomes, Leads, work_in, IsAtItem}
use Rattle.expand_text.proofs.CallParts.{rest_behind}
use Rattle.expand_text.proofs.Leading.{leads_definition, leads_inactive, leads_other, leads_faulty, leads_call, leads_kept}
use Rattle.expand_items.proofs.Lengths.{fewer_behind}
use Rattle.expand_items.proofs.ManyTrees.{after_more}

-- a definition, and an item or a statement under a false condition, as parts
abbrev pub plain_part : Level → (len plain : ℕ) → Part
plain_part level len plain = record { len = len; semicolon = false; position = behind true level.position; plain = plain }

module _ (config : Config) (in_text : Bool) (limit : ℕ) (level : Level) (outer : List Level) (context : Context) where
  -- A definition stays.
  pub chosen_definition : (it : Definition) (others : Context) (part : Part) → IsAtItem (defines it) config level context → IsRead config level.position it context others
      → part ≡ plain_part level it.len level.plain → IsChosen config in_text limit (level ∷ outer) context (choice.Stays part) others
  chosen_definition it others part there read is =
      subst (λ p. IsChosen config in_text limit (level ∷ outer) context (choice.Stays p) others) (sym is)
      (leads_definition config in_text limit level outer context there.first there.goes_on it others there.item read)

  -- An item or a statement under a false condition stays.
  pub chosen_inactive : (len : ℕ) (part : Part) → IsAtItem (inactive len) config level context → part ≡ plain_part level len (plain_behind_part len level.rest)
      → IsChosen config in_text limit (level ∷ outer) context (choice.Stays part) context
  chosen_inactive len part there is =
      subst (λ p. IsChosen config in_text limit (level ∷ outer) context (choice.Stays p) context) (sym is)
      (leads_inactive config in_text limit level outer context there.first there.goes_on len there.item)

-- a call at a level of the code
module _ (config : Config) (in_text : Bool) (limit : ℕ) (rest : Forest) (now : rust.Level) (outer : List Level) (context : Context) (it : Call)
    (there : IsAtItem (calls it) config (level_at rest now) context) where
  abbrev level : Level
  level = level_at rest now

  -- The call stays if no macro expands it.
  pub chosen_other : (part : Part) → part ≡ call_part now it false → it.attributes ≡ 0 → arms_of (called_by config context it) ≡ None → config.everywhere ≡ false
      → IsChosen config in_text limit (level ∷ outer) context (choice.Stays part) (context_behind config it context)
  chosen_other part is bare none not_into =
      subst (λ p. IsChosen config in_text limit (level ∷ outer) context (choice.Stays p) (context_behind config it context)) (sym is)
      (leads_other config in_text limit level outer context there.first there.goes_on it there.item bare none not_into)

  -- The call stays if it has a fault.
  pub chosen_faulty : (part : Part) (others : Context) → part ≡ call_part now it false → IsFaulty config limit it context others
      → IsChosen config in_text limit (level ∷ outer) context (choice.Stays part) others
  chosen_faulty part others is wrong =
      subst (λ p. IsChosen config in_text limit (level ∷ outer) context (choice.Stays p) others) (sym is)
      (leads_faulty config in_text limit level outer context there.first there.goes_on it there.item others wrong)

  -- The call expands to a tree.
  pub chosen_expanded : (i : Invocation) (same others : Context) (tree : Root) (defined_at : ℕ) → IsExpanded config limit it tree defined_at context same
      → IsInvocation now rest it tree defined_at i → IsCaptureFound i.defined_at it i.position (body_of i tree) same others
      → IsExpandedAt config in_text limit (level ∷ outer) context i tree (level ∷ outer) others
  chosen_expanded i same others tree defined_at from is captures = record { left = from.left; fits = from.fits; goes = by }
    where
      whole : Forest
      whole = front_in i.part (level ∷ outer)

      whole_is : whole ≡ whole_in now.position it rest tree
      whole_is = ap (λ p. front_in p (level ∷ outer)) is.part

      site_is : site_of whole i ≡ site_in now.position it rest tree
      site_is = is.site whole whole_is

      begin : Span
      begin = begin_in it rest

      end : Span
      end = end_in now.position it rest tree

      site : CallSite
      site = site_in now.position it rest tree

      nexts : List Level
      nexts = past_call it tree level ∷ outer

      passed : (takes : Bool) → past_in (call_part now it takes) (level ∷ outer)
          ≡ record level {
            rest = after_trees (cond takes (suc it.len) it.len) rest;
            position = (call_part now it takes).position;
          } ∷ outer
      passed takes = refl

      nexts_are : past_in i.part (level ∷ outer) ≡ nexts
      nexts_are =
          ap (λ p. past_in p (level ∷ outer)) is.part ∙ passed (takes_in now.position it rest tree)
          ∙ ap (λ f. record level { rest = f; position = (call_part now it (takes_in now.position it rest tree)).position } ∷ outer) (sym (rest_behind now.position it rest tree))

      found : (at : ℕ) (fault : MacroFault) → found_by i at fault ≡ found_of it from.macro at fault
      found at fault = ap₂ finding is.name (is.defined ∙ sym from.defined)
        where
          finding : List ℕ → ℕ → Finding
          finding name place = record { name = name; at = at; fault = fault; defined_at = Some place; expected = None; caller = None }

      entered : entered_by config i tree others ≡ entered_in config it rest tree others
      entered =
          ap (λ name. inside_call config name (start_of i.first_span.range) (size tree.children) others) is.name
          ∙ ap (λ first. inside_call config it.name.sym (start_of first.range) (size tree.children) others) is.first

      by : (inside : Context) (held : Outcome) → ExpandsTo config false from.left i.position 0 (entered_by config i tree others) (body_of i tree) inside held
          → GoesPast config in_text limit (level ∷ outer) context i whole (trees_left held) (past_in i.part (level ∷ outer)) (outside_call others inside)
      by inside held expands_to = subst (λ ls. GoesPast config in_text limit (level ∷ outer) context i whole (trees_left held) ls (outside_call others inside)) (sym nexts_are) (record { puts = puts; stays = stays })
        where
          body : Forest
          body = body_in now.position it rest tree

          after_it : Context
          after_it = outside_call others inside

          noted : IsCaptureFound from.macro.defined_at it (begun_by now.position it rest) body context others
          noted =
              subst (λ n. IsCaptureFound n it (begun_by now.position it rest) body context others) (is.defined ∙ sym from.defined)
              (subst (λ k. IsCaptureFound i.defined_at it (begun_by now.position it rest) body k others) from.context
              (subst (λ f. IsCaptureFound i.defined_at it (begun_by now.position it rest) f same others) is.makes
              (subst (λ p. IsCaptureFound i.defined_at it p (body_of i tree) same others) is.begins captures)))

          came : ExpandsTo config false from.left (begun_by now.position it rest) 0 (entered_in config it rest tree others) body inside held
          came =
              subst (λ f. ExpandsTo config false from.left (begun_by now.position it rest) 0 (entered_in config it rest tree others) f inside held) is.makes
              (subst (λ p. ExpandsTo config false from.left p 0 (entered_in config it rest tree others) (body_of i tree) inside held) is.begins
              (subst (λ k. ExpandsTo config false from.left i.position 0 k (body_of i tree) inside held) entered expands_to))

          puts : (put : Forest) → PutIn in_text (site_of whole i) (trees_left held) put → MayBePut in_text i.delimiter put
              → Leads config in_text limit (level ∷ outer) context (first_becomes (site_of whole i).attributes i.first_span i.last_span put) nexts after_it
          puts put so may =
              subst (λ s. Leads config in_text limit (level ∷ outer) context (first_becomes s.attributes i.first_span i.last_span put) nexts after_it) (sym site_is)
              (subst (λ s. Leads config in_text limit (level ∷ outer) context (first_becomes site.attributes s i.last_span put) nexts after_it) (sym is.first)
              (subst (λ s. Leads config in_text limit (level ∷ outer) context (first_becomes site.attributes begin s put) nexts after_it) (sym is.last)
              (subst (λ n. Leads config in_text n (level ∷ outer) context (first_becomes site.attributes begin end put) nexts after_it) (sym from.fits)
              (leads_call config in_text from.left level outer context there.first there.goes_on it from.macro from.arms tree there.item
              from.called from.expands from.makes others inside held noted came put
              (subst (λ s. PutIn in_text s (trees_left held) put) site_is so) (subst (λ s. MayBePut in_text s.delimiter put) site_is may)))))

          stays : (at : ℕ) (fault : MacroFault) → IsKept in_text (site_of whole i) (trees_left held) (start_of i.first_span.range) at fault
              → Leads config in_text limit (level ∷ outer) context (first_stay whole) nexts (with_finding (found_by i at fault) after_it)
          stays at fault kept =
              subst (λ f. Leads config in_text limit (level ∷ outer) context (first_stay f) nexts (with_finding (found_by i at fault) after_it)) (sym whole_is)
              (subst (λ n. Leads config in_text n (level ∷ outer) context (first_stay (whole_in now.position it rest tree)) nexts (with_finding (found_by i at fault) after_it)) (sym from.fits)
              (subst (λ f. Leads config in_text (suc from.left) (level ∷ outer) context (first_stay (whole_in now.position it rest tree)) nexts (with_finding f after_it)) (sym (found at fault))
              (leads_kept config in_text from.left level outer context there.first there.goes_on it from.macro from.arms tree there.item
              from.called from.expands from.makes others inside held noted came at fault
              (subst (λ s. IsKept in_text site (trees_left held) (start_of s.range) at fault) is.first
              (subst (λ s. IsKept in_text s (trees_left held) (start_of i.first_span.range) at fault) site_is kept)))))

-- Behind a part that comes first less is left to do.
module _ (level : Level) (outer : List Level) (len : ℕ) (less : size (after_trees len level.rest) < size level.rest) where
  pub advances : (part : Part) → part.len ≡ len → (semicolon : Bool) → part.semicolon ≡ semicolon → suc (work_in (past_in part (level ∷ outer))) < work_in (level ∷ outer)
  advances part is true more =
      let all : past_in part (level ∷ outer) ≡ record level { rest = after_trees (suc len) level.rest; position = part.position; plain = part.plain } ∷ outer =
      ap₂ (λ n s. record level { rest = after_trees (cond s (suc n) n) level.rest; position = part.position; plain = part.plain } ∷ outer) is more in
      omega (arith, less, fewer_behind 1 (after_trees len level.rest), ap size (after_more len level.rest), ap work_in all)
  advances part is false more =
      let all : past_in part (level ∷ outer) ≡ record level { rest = after_trees len level.rest; position = part.position; plain = part.plain } ∷ outer =
      ap₂ (λ n s. record level { rest = after_trees (cond s (suc n) n) level.rest; position = part.position; plain = part.plain } ∷ outer) is more in
      omega (arith, less, ap work_in all)
