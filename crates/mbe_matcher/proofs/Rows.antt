-- Worked patterns with repetitions, and inputs: each holds by computation.
use Rattle.std.proofs.Common.{◌≡◌, inl, inr, ◌≤◌, ℕ, [], ◌∷◌, None, Some, codes, refl, sym, ◌∙◌, arith}
use Rattle.tt.specs.Forest.{Forest, end, join}
use Rattle.tt.specs.Types.DelimiterKind.TheVariants.{Parenthesis, Brace}
use Rattle.tt_base.proofs.Samples.{subtree}
use Rattle.mbe_pattern.specs.declared.pattern.Fragment.{Fragment}
use Rattle.mbe_pattern.specs.declared.pattern.Fragment.TheVariants as fragment
use Rattle.mbe_pattern.specs.declared.pattern.Variable.{Variable}
use Rattle.mbe_matcher.specs.Bindings.{one, none, first, binding_of, bound_to}
use Rattle.mbe_matcher.specs.Grouping.{variables_of, binding_by}
use Rattle.mbe_matcher.specs.Marks.{taken as took_by, begun, ended, notes_of}
use Rattle.mbe_matcher.specs.Fronts.{ComesTo, HasLeft, StopsAt, Waits}
use Rattle.mbe_pattern.specs.Patterns.{Pattern}
use Rattle.mbe_matcher.specs.Readings.{Reading, done, took, held, round, over, IsInstance, IsNoInstance, IsReadBy, IsAmbiguous}
use Rattle.mbe_pattern.specs.Placed.{pattern_of}
use Rattle.mbe_pattern.proofs.Rows.{word, alone, joint, arrow, life, comma, var, rounds, listed}

-- variables
abbrev x_of : Fragment → Variable
x_of which = record { name = codes "x"; fragment = which }

abbrev underscore : Variable
underscore = record { name = codes "_"; fragment = fragment.Tt }

-- `a, b,` is an instance of `$($x:ident),* $(,)?`; the last comma is the second repetition's.
abbrev a_b : Forest
a_b = word (codes "a") (comma (word (codes "b") (comma end)))

abbrev a_b_reading : Reading
a_b_reading = round (took (word (codes "a") end) done) (round (took (word (codes "b") end) done) (over (round done (over done))))

listed_instance : IsInstance (pattern_of listed) a_b a_b_reading
listed_instance = (_, (done, refl, refl, (refl, refl)), (_, _, refl, ((refl, (refl, tt)), refl), (done, refl, refl, (refl, refl)), (_, ((refl, (refl, tt)), (refl, refl)), (refl, refl))))

-- It binds to `x` the list of both.
listed_binds : binding_of (pattern_of listed) a_b_reading ≡ record { variable = x_of fragment.Ident; bound = first (one (word (codes "a") end)) (first (one (word (codes "b") end)) none) } ∷ []
listed_binds = refl

-- Its notes: two rounds of the first repetition, which 4 steps follow, and one round of the other, which one step follows.
listed_notes : notes_of (pattern_of listed) a_b_reading
    ≡ begun 4 ∷ took_by 5 (word (codes "a") end) ∷ begun 4 ∷ took_by 5 (word (codes "b") end) ∷ ended 4 ∷ begun 1 ∷ ended 1 ∷ []
listed_notes = refl

listed_variables : variables_of (pattern_of listed) 1 ≡ record { variable = x_of fragment.Ident; number = 5; nest = 4 ∷ [] } ∷ []
listed_variables = refl

-- With no round, an empty list is bound.
listed_none : binding_of (pattern_of listed) (over (over done)) ≡ record { variable = x_of fragment.Ident; bound = none } ∷ []
listed_none = refl

-- A variable in a subtree, and one written as `_`.
abbrev in_brace : Pattern
in_brace = pattern_of (join (subtree Brace (var (codes "x") (codes "tt") end)) (var (codes "_") (codes "tt") end))

brace_binds : binding_of in_brace (held (took (arrow end) done) (took (life end) done))
    ≡ record { variable = x_of fragment.Tt; bound = one (arrow end) } ∷ record { variable = underscore; bound = one (life end) } ∷ []
brace_binds = refl

-- A list in a list: `$( $($x:ident)+ );*` on `a b; c` binds `a` and `b` in the first round, and `c` in the second.
abbrev nested : Pattern
nested = pattern_of (rounds (rounds (var (codes "x") (codes "ident") end) (alone 43 end)) (joint 59 (alone 42 end)))

abbrev nested_reading : Reading
nested_reading =
    round (round (took (word (codes "a") end) done) (round (took (word (codes "b") end) done) (over done))) (round (round (took (word (codes "c") end) done) (over done)) (over done))

nested_binds : binding_of nested nested_reading
    ≡ record {
      variable = x_of fragment.Ident;
      bound = first (first (one (word (codes "a") end)) (first (one (word (codes "b") end)) none)) (first (first (one (word (codes "c") end)) none) none);
    } ∷ []
nested_binds = refl

nested_noted : binding_by (variables_of nested 1) (notes_of nested nested_reading) ≡ binding_of nested nested_reading
nested_noted = refl

-- Of two variables of one name the first is found; for an unknown name none is.
twice_bound : bound_to (codes "x")
    (record { variable = underscore; bound = none } ∷ record { variable = x_of fragment.Tt; bound = one end } ∷ record { variable = x_of fragment.Tt; bound = none } ∷ []) ≡ Some (one end)
twice_bound = refl

none_bound : bound_to (codes "y") (record { variable = x_of fragment.Tt; bound = one end } ∷ []) ≡ None
none_bound = refl

underscore_bound : bound_to (codes "_") (record { variable = underscore; bound = none } ∷ []) ≡ Some none
underscore_bound = refl

-- `+` requires a round.
abbrev plus : Pattern
plus = pattern_of (rounds (comma end) (alone 43 end))

plus_of_none : IsNoInstance plus end
plus_of_none (round this others) (rest, takes, more) = takes.0.1.0
plus_of_none (over more) is = cc is.0
plus_of_none done is = is
plus_of_none (took trees more) is = is
plus_of_none (held inside more) is = is

-- `$(,)? $(,)?` takes one comma in two ways.
abbrev maybe_twice : Pattern
maybe_twice = pattern_of (rounds (comma end) (alone 63 (rounds (comma end) (alone 63 end))))

twice_ambiguous : IsAmbiguous maybe_twice (comma end)
twice_ambiguous =
    record {
      one = round done (over (over done));
      other = over (round done (over done));
      differ = λ e. cc e;
      one_holds = (_, ((refl, (refl, tt)), (refl, refl)), (refl, (refl, refl)));
      other_holds = (refl, (_, ((refl, (refl, tt)), (refl, refl)), (refl, refl)));
    }

-- `a $x:ident (b c)` stops before its second part if there is no name, and in its subtree if there is no `c`.
abbrev grouped : Pattern
grouped = pattern_of (word (codes "a") (var (codes "x") (codes "ident") (join (subtree Parenthesis (word (codes "b") (word (codes "c") end))) end)))

abbrev group : (inside rest : Forest) → Forest
group inside rest = word (codes "a") (word (codes "d") (join (subtree Parenthesis inside) rest))

stops_before_name : StopsAt grouped (word (codes "a") (comma end)) 1
stops_before_name = record { left = 1; comes = inl (inr ((refl, ((refl, refl), tt)), inl refl)); least = least; place = refl }
  where
    least : (other : ℕ) → ComesTo (HasLeft other) grouped (word (codes "a") (comma end)) → 1 ≤ other
    least other (inl (inl is)) = omega (arith, is)
    least other (inl (inr (a, inl is))) = omega (arith, is)
    least other (inl (inr (a, inr (name, more)))) = absurd (cc name)
    least other (inr (reading, rest, (a, (more, is, name, takes)), next)) = absurd (cc name)

stops_in_group : StopsAt grouped (group (word (codes "b") (comma end)) end) 4
stops_in_group =
    record {
      left = 1;
      comes = inl (inr ((refl, ((refl, refl), tt)), inr (refl, inr (refl, inl (inl (inr ((refl, ((refl, refl), tt)), inl refl)))))));
      least = least;
      place = refl;
    }
  where
    least : (other : ℕ) → ComesTo (HasLeft other) grouped (group (word (codes "b") (comma end)) end) → 1 ≤ other
    least other (inl (inl is)) = omega (arith, is)
    least other (inl (inr (a, inl is))) = omega (arith, is)
    least other (inl (inr (a, inr (name, inl is)))) = omega (arith, is)
    least other (inl (inr (a, inr (name, inr (node, inl (inl (inl is))))))) = omega (arith, is)
    least other (inl (inr (a, inr (name, inr (node, inl (inl (inr (b, inl is)))))))) = omega (arith, is)
    least other (inl (inr (a, inr (name, inr (node, inl (inl (inr (b, inr (c, more))))))))) = absurd c.1.0
    least other (inl (inr (a, inr (name, inr (node, inl (inr (inside, rest, (b, (c, all)), next))))))) = absurd c.1.0
    least other (inl (inr (a, inr (name, inr (node, inr (inside, (b, (c, all)), more)))))) = absurd c.1.0
    least other (inr (reading, rest, (a, (more, is, name, (inside, further, same, node, (b, (c, all)), others))), next)) = absurd c.1.0

-- It comes to the subtree's end, and beyond it.
abbrev beyond_c : Forest
beyond_c = group (word (codes "b") (word (codes "c") (comma end))) end

abbrev beyond_group : Forest
beyond_group = group (word (codes "b") (word (codes "c") end)) (comma end)

comes_to_end : ComesTo (HasLeft 1) grouped beyond_c
comes_to_end =
    inl (inr ((refl, ((refl, refl), tt)), inr (refl, inr (refl, inl (inr (done, comma end, ((refl, ((refl, refl), tt)), ((refl, ((refl, refl), tt)), (refl, refl))), refl))))))

comes_behind : ComesTo (HasLeft 1) grouped beyond_group
comes_behind =
    inr (_, comma end, ((refl, ((refl, refl), tt)), (_, refl, refl, (done, done, refl, refl, ((refl, ((refl, refl), tt)), ((refl, ((refl, refl), tt)), (refl, refl))), (refl, refl)))), refl)

-- There its parts wait: the name is the part 1, `(` is 2, `b` is 3, `c` is 4, `)` is 5, and the end of the input is 6.
name_waits : Waits grouped (word (codes "a") (comma end)) 1 1
name_waits = (1, refl, inl (inr ((refl, ((refl, refl), tt)), inl (refl, refl, λ name. cc name))))

subtree_waits : Waits grouped (word (codes "a") (word (codes "d") (comma end))) 2 2
subtree_waits = (1, refl, inl (inr ((refl, ((refl, refl), tt)), inr (refl, inl (refl, refl, λ node. node)))))

token_waits : Waits grouped (group (word (codes "b") (comma end)) end) 4 4
token_waits = (1, refl, inl (inr ((refl, ((refl, refl), tt)), inr (refl, inr (refl, inl (inl (inr ((refl, ((refl, refl), tt)), inl (refl, refl, λ c. c.1.0)))))))))

subtree_end_waits : Waits grouped beyond_c 5 5
subtree_end_waits =
    (1, refl, inl (inr ((refl, ((refl, refl), tt)), inr (refl, inr (refl, inl (inr (done, comma end, ((refl, ((refl, refl), tt)), ((refl, ((refl, refl), tt)), (refl, refl))), (refl, refl, λ ended. cc ended))))))))

end_waits : Waits grouped beyond_group 5 6
end_waits =
    (1, refl, inr (_, comma end, ((refl, ((refl, refl), tt)), (_, refl, refl, (done, done, refl, refl, ((refl, ((refl, refl), tt)), ((refl, ((refl, refl), tt)), (refl, refl))), (refl, refl)))), (refl, refl, λ ended. cc ended)))

-- The `)` that is there does not wait.
subtree_end_there : Waits grouped beyond_group 5 5 → ⊥
subtree_end_there (left, place, inl (inl (is, at, stuck))) = cc is
subtree_end_there (left, place, inl (inr (a, inl (is, at, stuck)))) = cc is
subtree_end_there (left, place, inl (inr (a, inr (name, inl (is, at, stuck))))) = cc is
subtree_end_there (left, place, inl (inr (a, inr (name, inr (node, inl (inl (inl (is, at, stuck)))))))) = cc is
subtree_end_there (left, place, inl (inr (a, inr (name, inr (node, inl (inl (inr (b, inl (is, at, stuck))))))))) = cc is
subtree_end_there (left, place, inl (inr (a, inr (name, inr (node, inl (inl (inr (b, inr (c, more))))))))) = absurd more
subtree_end_there (left, place, inl (inr (a, inr (name, inr (node, inl (inr (inside, rest, (b, (c, (finished, all))), (is, at, stuck)))))))) =
    stuck all
subtree_end_there (left, place, inl (inr (a, inr (name, inr (node, inr (inside, all, more)))))) = absurd more
subtree_end_there (left, place, inr (reading, rest, whole, (is, at, stuck))) = cc is

-- `$($x:ident +),*` comes beyond a separator, and into a round.
abbrev added : Pattern
added = pattern_of (rounds (var (codes "x") (codes "ident") (alone 43 end)) (comma (alone 42 end)))

comes_behind_separator : ComesTo (HasLeft 1) added (word (codes "a") (alone 43 (comma (comma end))))
comes_behind_separator = inl (inl (inr (1, _, (_, (_, refl, refl, ((refl, (refl, tt)), (refl, refl)))), (_, refl, ((refl, (refl, tt)), refl), inl (inl refl)))))

comes_into_round : ComesTo (HasLeft 1) added (word (codes "a") (alone 43 (comma (word (codes "b") (comma end)))))
comes_into_round = inl (inl (inr (1, _, (_, (_, refl, refl, ((refl, (refl, tt)), (refl, refl)))), (_, refl, ((refl, (refl, tt)), refl), inl (inr (refl, inl refl))))))

-- After a separator another round waits with its first part. After a round wait the separator, which is the part 2, and the end of the input.
round_waits : Waits added (word (codes "a") (alone 43 (comma (comma end)))) 3 0
round_waits =
    (1, refl, inl (inl (inr (1, _, (_, (_, refl, refl, ((refl, (refl, tt)), (refl, refl)))), (_, refl, ((refl, (refl, tt)), refl), inl (inl (refl, refl, λ name. cc name)))))))

separator_waits : Waits added (word (codes "a") (alone 43 (word (codes "b") end))) 2 2
separator_waits = (1, refl, inl (inl (inr (0, _, (_, (_, refl, refl, ((refl, (refl, tt)), (refl, refl)))), inl (refl, (refl, refl, λ comma. comma.1.0))))))

rounds_end : Waits added (word (codes "a") (alone 43 (word (codes "b") end))) 2 3
rounds_end = (1, refl, inr (round _ (over done), _, (_, (_, refl, refl, ((refl, (refl, tt)), (refl, refl))), (refl, refl)), (refl, refl, λ ended. cc ended)))

-- `$($x:ident)* +`: after a round without a separator wait its first part and what follows.
abbrev named : Pattern
named = pattern_of (rounds (var (codes "x") (codes "ident") end) (alone 42 (alone 43 end)))

again_waits : Waits named (word (codes "a") (comma end)) 1 0
again_waits = (1, refl, inl (inl (inr (1, _, (_, (_, refl, refl, (refl, refl))), (_, refl, refl, inl (inl (refl, refl, λ name. cc name)))))))

behind_waits : Waits named (word (codes "a") (comma end)) 1 1
behind_waits = (1, refl, inl (inl (inr (0, _, (_, (_, refl, refl, (refl, refl))), inr (inl (refl, refl, λ plus. cc plus.1.0))))))

-- A fragment that fails after its first tree waits before it: `$l:literal` before `-a`.
literal_waits : Waits (pattern_of (var (codes "l") (codes "literal") end)) (alone 45 (word (codes "a") end)) 0 0
literal_waits = (2, refl, inl (inl (refl, refl, λ literal. cc literal)))

-- A visibility that takes nothing does not wait, and what follows it does: `$v:vis $x:ident` before `,`.
abbrev viewed : Pattern
viewed = pattern_of (var (codes "v") (codes "vis") (var (codes "x") (codes "ident") end))

behind_nothing_waits : Waits viewed (comma end) 0 1
behind_nothing_waits = (1, refl, inl (inr (refl, inl (refl, refl, λ name. cc name))))

nothing_taken : Waits viewed (comma end) 0 0 → ⊥
nothing_taken (left, place, inl (inl (is, at, stuck))) = stuck refl
nothing_taken (left, place, inl (inr (vis, inl (is, at, stuck)))) = cc is
nothing_taken (left, place, inl (inr (vis, inr (name, more)))) = more
nothing_taken (left, place, inr (reading, rest, (more, same, vis, (others, alike, name, further)), next)) = cc

-- At the end of the input it waits itself.
visibility_waits : Waits viewed end 0 0
visibility_waits = (0, refl, inl (inl (refl, refl, λ vis. cc vis)))

behind_visibility_not : Waits viewed end 0 1 → ⊥
behind_visibility_not (left, place, inl (inl (is, at, stuck))) = cc is
behind_visibility_not (left, place, inl (inr (vis, more))) = cc vis
behind_visibility_not (left, place, inr (reading, rest, (more, same, vis, others), next)) = cc vis

-- No two of the three answers can hold of one input.
module _ (pattern : Pattern) (input : Forest) where
  none_or_one : IsNoInstance pattern input → (reading : Reading) → IsReadBy pattern input reading → ⊥
  none_or_one never reading by = never reading by.holds

  none_or_two : IsNoInstance pattern input → IsAmbiguous pattern input → ⊥
  none_or_two never two = never two.one two.one_holds

  one_or_two : (reading : Reading) → IsReadBy pattern input reading → IsAmbiguous pattern input → ⊥
  one_or_two reading by two = two.differ (by.alone two.one two.one_holds ∙ sym (by.alone two.other two.other_holds))
