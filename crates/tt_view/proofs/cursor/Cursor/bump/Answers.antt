use Rattle.std.proofs.Common.{rules, ◌≡◌, ◌-◌, Some, false, true, ◌∷◌, ◌++◌, [], reverse, refl, ap, sym, subst, ◌∙◌, arith}
use Rattle.std.proofs.lemmas.List.{reverse-append}
use Rattle.tt_base.specs.declared.delimiter.Subtree.{Subtree}
use Rattle.tt_base.specs.declared.token_tree.TokenTree.TheVariants as token
use Rattle.tt_base.specs.Forest.{Forest, size}
use Rattle.tt_base.specs.Moves.{first_token, after_token}
use Rattle.tt_base.specs.Walk.{Walked, events_ahead, is_at_close, is_at_open, one_on}
use Rattle.tt_base.proofs.Moves.{one_less}
use Rattle.tt_base.proofs.Walks.{opens_at}
use Rattle.tt_view.specs.declared.cursor.Cursor.TheInside.{Inside}
use Rattle.tt_view.specs.declared.cursor.Frame.{Frame}
use Rattle.tt_view.specs.Views.{trees_of}
use Rattle.tt_view.specs.Frames.{events_left, frames_of, left, Stands, walked}
use Rattle.tt_view.proofs.Places.{at, ahead_is, moved, held_within, token_ahead, gone_plain, gone_node}
use Rattle.tt_view.proofs.cursor.Cursor.bump.Goals as goal
use Rattle.tt_view.proofs.cursor.Cursor.bump.Goals.{in-Some+in_ok-push, in_default}

pub overflow_sub-len : goal.overflow_sub-len
overflow_sub-len c =
    let a = c.self.inside in
    let first : first_token a.ahead ≡ Some (token.Subtree c.in-Some.header) = search rules in
    omega (arith, one_less _ _ first, c.len.ensures)

pub overflow_sub-len-in-Some : goal.overflow_sub-len-in-Some
overflow_sub-len-in-Some c =
    let a = c.self.inside in
    let first : first_token a.ahead ≡ Some (token.Subtree c.in-Some.header) = search rules in
    omega (arith, one_less _ _ first, held_within _ _ first, c.len.ensures, c.usize_len.ensures.value)

pub returns-in_err-push-clause-opens : goal.returns-in_err-push-clause-opens
returns-in_err-push-clause-opens c =
    let a = c.self.inside in
    let whole : events_ahead c.args.self.now ≡ events_left a = ahead_is a _ c.self.invariant c.self.view_is in
    let no : is_at_close (events_left a) ≡ false = sym (ap is_at_close whole) ∙ c.requires in
    let first : first_token a.ahead ≡ Some (token.Subtree c.in-Some.header) = search rules in
    let open_ : is_at_open (events_ahead c.args.self.now) ≡ true =
    ap is_at_open whole ∙ opens_at _ c.in-Some.header (sym first ∙ token_ahead _ _ _ c.self.invariant no) in
    search (rules, open_)

-- after the first token ahead, the cursor with these frames is one place further
abbrev IsOneOn : Walked → Inside → (rest : Forest) → Type 0
IsOneOn old inside rest =
    rest ≡ after_token inside.ahead
    → Stands (trees_of inside.origin) (frames_of inside) rest × (at (trees_of inside.origin) (left (frames_of inside) rest) ≡ one_on old)

-- after a leaf the frames are the same; after a header there is one more
one_place_on : (c : goal.After-pass) → IsOneOn (walked c.self.inside) c.match-header.self-inside c.pass.new.self
one_place_on c =
    let a = c.self.inside in
    let whole : events_ahead c.args.self.now ≡ events_left a = ahead_is a _ c.self.invariant c.self.view_is in
    let no : is_at_close (events_left a) ≡ false = sym (ap is_at_close whole) ∙ c.requires in
    elim c.match-header.branch [
      | in-Some+in_ok-push w ↦
          let first : first_token a.ahead ≡ Some (token.Subtree w.in-Some.header) = search rules in
          let frame : Frame = record { header = w.in-Some.header; behind = w.len.result - 1 - w.usize_len.result } in
          let push : w.push.new.self.items ≡ a.stack.items ++ (frame ∷ []) = search rules in
          let more : reverse w.push.new.self.items ≡ frame ∷ frames_of a = ap reverse push ∙ reverse-append a.stack.items (frame ∷ []) in
          subst (λ inside. IsOneOn (walked a) inside c.pass.new.self) (sym w.self-inside-is)
          (λ rest.
          let behind_is : frame.behind ≡ size c.pass.new.self - w.in-Some.header.len =
          omega (arith, one_less _ _ first, ap size rest, w.len.ensures, w.usize_len.ensures.value) in
          let gone = gone_node _ _ _ frame a.ahead _ w.in-Some.header c.self.invariant no first rest refl behind_is more in
          (gone.stands, moved _ _ _ _ _ _ c.self.invariant gone.stands gone.is))
      | in_default w ↦
          let other : (it : Subtree) → first_token a.ahead ≡ Some (token.Subtree it) → ⊥ = search rules in
          subst (λ inside. IsOneOn (walked a) inside c.pass.new.self) (sym w.self-inside-is)
          (λ rest. gone_plain _ _ a.ahead _ c.self.invariant no other rest)
    ]

pub invariant_of-self-2 : goal.invariant_of-self-2
invariant_of-self-2 c = (one_place_on c c.pass.ensures).0

pub returns-clause-ok : goal.returns-clause-ok
returns-clause-ok c = (one_place_on c c.pass.ensures).1 ∙ ap one_on c.self.view_is
