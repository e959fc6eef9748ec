-- How levels lead to others.
use Rattle.std.proofs.Common.{◌≡◌, ◌<◌, ◌-◌, ℕ, suc, Bool, true, false, List, [], ◌∷◌, length, None, Some, refl, sym, subst}
use Rattle.tt.specs.Forest.{Forest, Root, end, leaf, node}
use Rattle.tt.specs.Gluing.{after_trees}
use Rattle.tt.specs.Moves.{after_tree}
use Rattle.tt.specs.Span.{start_of}
use Rattle.tt.specs.Types.Delimiter.{Delimiter}
use Rattle.tt.specs.Types.Leaf.{Leaf}
use Rattle.expand_text.specs.declared.fault.MacroFault.{MacroFault}
use Rattle.expand_text.specs.Scopes.{Macro}
use Rattle.expand_text.specs.declared.next.Event.{Event}
use Rattle.expand_text.specs.declared.next.Event.TheVariants as event
use Rattle.expand_text.specs.Calling.{IsFaulty}
use Rattle.expand_text.specs.Meaning.{IsPlain, ExpandsTo, ends, on_leaf, on_node, on_definition, on_inactive, on_other_call, into_other_call, into_attributes, on_faulty_call, on_call, on_kept_call, attributes_in, begin_in, begun_by, behind_in, end_in, entered_in, rest_in, site_in, whole_in, context_after, body_in}
use Rattle.expand_items.specs.Inactive.{IsItemAt}
use Rattle.expand_items.specs.Items.{Definition, Call, defines, calls, inactive}
use Rattle.expand_text.specs.Capturing.{IsCaptureFound}
use Rattle.expand_text.specs.Contexts.{Config, Context, with_finding, left_in_scope, outside_call, tokens_left}
use Rattle.expand_text.specs.Macros.{IsRead, MayBePut, Writes, called_by, arms_of, found_of, context_behind}
use Rattle.expand_text.specs.Outcomes.{Outcome, nothing, passes, enters, stays, becomes, trees_left}
use Rattle.expand_text.specs.CallSites.{PutIn, IsKept}
use Rattle.expand_items.specs.Positions.{behind as past_end, behind_subtree, keeps_macros}
use Rattle.expand_text.specs.Events.{IsNext}
use Rattle.expand_text.specs.Invocations.{site_of}
use Rattle.expand_text.specs.Kept.{kept_behind}
use Rattle.expand_text.specs.Walks.{Level, front_in, past_leaf, past_subtree, past, past_call, past_part, inside, Leads, first_leaf, first_subtree, first_stay, first_becomes}
use Rattle.mbe_rules.specs.Arms.{Arm}
use Rattle.mbe_pattern.specs.Units.{front_trees, is_brace}

module _ (config : Config) (in_text : Bool) (limit : ℕ) (level : Level) (outer : List Level) (context : Context) where
  -- Passes a leaf.
  pub leads_leaf : (it : Leaf) → level.rest ≡ leaf it (after_tree level.rest) → IsPlain config context level.position level.plain level.rest
      → Leads config in_text limit (level ∷ outer) context (first_leaf it) (past_leaf config.known it level ∷ outer) context
  leads_leaf it begins plain after [] e = absurd e
  leads_leaf it begins plain after (others ∷ more) (within, expands_to, behind) = (
    within,
    subst (λ f. ExpandsTo config in_text limit level.position level.plain context f within (passes it others)) (sym begins)
        (on_leaf (subst (IsPlain config context level.position level.plain) begins plain) expands_to),
    behind,
  )

  -- Enters a subtree.
  pub leads_subtree : (delimiter : Delimiter) (children : Forest) → level.rest ≡ node delimiter children (after_tree level.rest) → IsPlain config context level.position level.plain level.rest
      → Leads config in_text limit (level ∷ outer) context (first_subtree delimiter)
      (inside delimiter children (after_tree level.rest) level.position (kept_behind (keeps_macros delimiter.kind children level.position) (length context.macros)) ∷ past_subtree delimiter.kind level ∷ outer) context
  leads_subtree delimiter children begins plain after [] e = absurd e
  leads_subtree delimiter children begins plain after (held ∷ []) (within, expands_to, e) = absurd e
  leads_subtree delimiter children begins plain after (held ∷ others ∷ more) (within, expands_to, (behind, then, rest)) = (
    behind,
    subst (λ f. ExpandsTo config in_text limit level.position level.plain context f behind (enters delimiter held others)) (sym begins)
        (on_node (subst (IsPlain config context level.position level.plain) begins plain) expands_to
        (subst (λ k. ExpandsTo config in_text limit (behind_subtree delimiter.kind level.position) (level.plain - 1) k (after_tree level.rest) behind others) (same (keeps_macros delimiter.kind children level.position)) then)),
    rest,
  )
    where
      same : (are_kept : Bool) → left_in_scope (kept_behind are_kept (length context.macros)) within ≡ context_after are_kept context within
      same true = refl
      same false = refl

  -- Leaves a level.
  pub leads_end : level.rest ≡ end → Leads config in_text limit (level ∷ outer) context (λ outcomes. nothing ∷ outcomes) outer (left_in_scope level.kept context)
  leads_end none after outcomes e = (
    context,
    subst (λ f. ExpandsTo config in_text limit level.position level.plain context f context nothing) (sym none) ends,
    e,
  )

  module _ (first : level.plain ≡ 0) (goes_on : context.is_over ≡ false) where
    -- Passes a definition.
    pub leads_definition : (it : Definition) (others : Context) → IsItemAt config.known config.root level.position level.rest (defines it) → IsRead config level.position it context others
        → Leads config in_text limit (level ∷ outer) context (first_stay (front_trees it.len level.rest)) (past it.len true level ∷ outer) others
    leads_definition it others there is after [] e = absurd e
    leads_definition it others there is after (left ∷ more) (within, expands_to, behind) = (
      within,
      subst (λ n. ExpandsTo config in_text limit level.position n context level.rest within (stays (front_trees it.len level.rest) left)) (sym first)
          (on_definition others goes_on there is (subst (λ n. ExpandsTo config in_text limit (past_end true level.position) n others (after_trees it.len level.rest) within left) first expands_to)),
      behind,
    )

    -- Passes an item or a statement under a false condition.
    pub leads_inactive : (len : ℕ) → IsItemAt config.known config.root level.position level.rest (inactive len)
        → Leads config in_text limit (level ∷ outer) context (first_stay (front_trees len level.rest)) (past_part len level ∷ outer) context
    leads_inactive len there after [] e = absurd e
    leads_inactive len there after (left ∷ more) (within, expands_to, behind) = (
      within,
      subst (λ n. ExpandsTo config in_text limit level.position n context level.rest within (stays (front_trees len level.rest) left)) (sym first)
          (on_inactive goes_on there expands_to),
      behind,
    )

    module _ (it : Call) (there : IsItemAt config.known config.root level.position level.rest (calls it)) where
      -- Passes a call that is not expanded.
      pub leads_other : it.attributes ≡ 0 → arms_of (called_by config context it) ≡ None → config.everywhere ≡ false
          → Leads config in_text limit (level ∷ outer) context (first_stay (front_trees it.len level.rest)) (past it.len (is_brace it.delimiter.kind) level ∷ outer)
          (context_behind config it context)
      leads_other bare none not_into after [] e = absurd e
      leads_other bare none not_into after (others ∷ more) (within, expands_to, behind) = (
        within,
        subst (λ n. ExpandsTo config in_text limit level.position n context level.rest within (stays (front_trees it.len level.rest) others)) (sym first)
            (on_other_call goes_on there bare none not_into
            (subst (λ n. ExpandsTo config in_text limit (past_end (is_brace it.delimiter.kind) level.position) n (context_behind config it context) (after_trees it.len level.rest) within others) first expands_to)),
        behind,
      )

      -- Enters a call that is not expanded.
      pub leads_into : it.attributes ≡ 0 → arms_of (called_by config context it) ≡ None → config.everywhere ≡ true
          → Leads config in_text limit (level ∷ outer) context (λ outcomes. outcomes) (record level { plain = it.len } ∷ outer) (context_behind config it context)
      leads_into bare none into after [] e = absurd e
      leads_into bare none into after (others ∷ more) (within, expands_to, behind) = (
        within,
        subst (λ n. ExpandsTo config in_text limit level.position n context level.rest within others) (sym first) (into_other_call goes_on there bare none into expands_to),
        behind,
      )

      -- Enters the attributes before a call.
      pub leads_attributes : 0 < it.attributes → arms_of (called_by config context it) ≡ None
          → Leads config in_text limit (level ∷ outer) context (λ outcomes. outcomes) (record level { plain = it.attributes } ∷ outer) context
      leads_attributes some none after [] e = absurd e
      leads_attributes some none after (others ∷ more) (within, expands_to, behind) = (
        within,
        subst (λ n. ExpandsTo config in_text limit level.position n context level.rest within others) (sym first) (into_attributes goes_on there some none expands_to),
        behind,
      )

      -- Passes a call with a fault.
      pub leads_faulty : (then : Context) → IsFaulty config limit it context then
          → Leads config in_text limit (level ∷ outer) context (first_stay (front_trees it.len level.rest)) (past it.len (is_brace it.delimiter.kind) level ∷ outer) then
      leads_faulty then is after [] e = absurd e
      leads_faulty then is after (others ∷ more) (within, expands_to, behind) = (
        within,
        subst (λ n. ExpandsTo config in_text limit level.position n context level.rest within (stays (front_trees it.len level.rest) others)) (sym first)
            (on_faulty_call is.at is.fault is.expected goes_on there is.called is.expands is.wrong is.wanted
            (subst (λ k. ExpandsTo config in_text limit (past_end (is_brace it.delimiter.kind) level.position) 0 k (after_trees it.len level.rest) within others) is.found
            (subst (λ n. ExpandsTo config in_text limit (past_end (is_brace it.delimiter.kind) level.position) n then (after_trees it.len level.rest) within others) first expands_to))),
        behind,
      )

-- Passes a call that expands to a tree, which expands to `held` in turn.
module _ (config : Config) (in_text : Bool) (left : ℕ) (level : Level) (outer : List Level) (context : Context) (first : level.plain ≡ 0) (goes_on : context.is_over ≡ false) (it : Call)
    (macro : Macro) (arms : List Arm) (tree : Root) (there : IsItemAt config.known config.root level.position level.rest (calls it)) (called : called_by config context it ≡ Some macro)
    (expands : macro.arms ≡ Some arms) (makes : Writes (tokens_left config context) arms it tree) (noted within : Context) (held : Outcome)
    (captures : IsCaptureFound macro.defined_at it (begun_by level.position it level.rest) (body_in level.position it level.rest tree) context noted)
    (expands_to : ExpandsTo config false left (begun_by level.position it level.rest) 0 (entered_in config it level.rest tree noted) (body_in level.position it level.rest tree) within held) where
  -- The expansion takes the place of the call.
  pub leads_call : (put : Forest) → PutIn in_text (site_in level.position it level.rest tree) (trees_left held) put → MayBePut in_text it.delimiter put
      → Leads config in_text (suc left) (level ∷ outer) context
      (first_becomes (attributes_in level.position it level.rest tree) (begin_in it level.rest) (end_in level.position it level.rest tree) put) (past_call it tree level ∷ outer) (outside_call noted within)
  leads_call put so may after [] e = absurd e
  leads_call put so may after (others ∷ more) (beyond, then, behind) = (
    beyond,
    subst (λ n. ExpandsTo config in_text (suc left) level.position n context level.rest beyond
        (stays (attributes_in level.position it level.rest tree) (becomes (begin_in it level.rest) (end_in level.position it level.rest tree) put others))) (sym first)
        (on_call tree put goes_on there called expands makes captures expands_to so may
        (subst (λ n. ExpandsTo config in_text (suc left) (behind_in level.position it level.rest tree) n (outside_call noted within) (rest_in level.position it level.rest tree) beyond others) first then)),
    behind,
  )

  -- The call stays, if the expansion does not fit there or is not written.
  pub leads_kept : (at : ℕ) (fault : MacroFault) → IsKept in_text (site_in level.position it level.rest tree) (trees_left held) (start_of (begin_in it level.rest).range) at fault
      → Leads config in_text (suc left) (level ∷ outer) context (first_stay (whole_in level.position it level.rest tree)) (past_call it tree level ∷ outer) (with_finding (found_of it macro at fault) (outside_call noted within))
  leads_kept at fault kept after [] e = absurd e
  leads_kept at fault kept after (others ∷ more) (beyond, then, behind) = (
    beyond,
    subst (λ n. ExpandsTo config in_text (suc left) level.position n context level.rest beyond (stays (whole_in level.position it level.rest tree) others)) (sym first)
        (on_kept_call tree at fault goes_on there called expands makes captures expands_to kept
        (subst (λ n. ExpandsTo config in_text (suc left) (behind_in level.position it level.rest tree) n (with_finding (found_of it macro at fault) (outside_call noted within)) (rest_in level.position it level.rest tree) beyond others) first then)),
    behind,
  )

-- The next event of other levels to which these lead is the next event of these.
module _ (config : Config) (in_text : Bool) (limit : ℕ) (levels others : List Level) (context then : Context) (leads : Leads config in_text limit levels context (λ outcomes. outcomes) others then) where
  pub next_by : (it : Event) (here : List Level) (behind : Context) → IsNext config in_text limit others then it here behind → IsNext config in_text limit levels context it here behind
  next_by event.End here behind is = leads behind (nothing ∷ []) is
  next_by (event.Leaf it) here behind is = λ after outcomes e. leads after (first_leaf it outcomes) (is after outcomes e)
  next_by (event.Opens header) here behind is = λ after outcomes e. leads after (first_subtree header.delimiter outcomes) (is after outcomes e)
  next_by (event.Closes close) here behind is = λ after outcomes e. leads after (nothing ∷ outcomes) (is after outcomes e)
  next_by (event.Stays part) here behind is = λ after outcomes e. leads after (first_stay (front_in part here) outcomes) (is after outcomes e)
  next_by (event.Invocation it tree) here behind is =
      record {
        left = is.left;
        fits = is.fits;
        goes = λ inside held expands_to.
            let past = is.goes inside held expands_to in
            record {
              puts = λ put so may after outcomes e.
                  leads after (first_becomes (site_of (front_in it.part here) it).attributes it.first_span it.last_span put outcomes) (past.puts put so may after outcomes e);
              stays = λ at fault kept after outcomes e. leads after (first_stay (front_in it.part here) outcomes) (past.stays at fault kept after outcomes e);
            };
      }
