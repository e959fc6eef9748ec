-- A walk that has the thread's token in hand, with which it may open an invariant. Assumes `Logic`.
--     with_token       the clauses, with the token in the `requires` and in the `ensures`
--     token_proved     a walk over these meets the contract, which does not mention the token
--     follows_arm      what runs after an arm inside a block: the rest of the block, and then the code after it
use Rattle.std.proofs.Common.{List, subst}
use seplogic.Ra.Ura.{Ura}
use base.Logic.{SProp, ent, via, fst∗, snd∗}
use base.Mask.{every}
use contract.Beside.{Carries}
use contract.Monad.{fact_use}
use contract.Named.{bare_unfolds}
use contract.Running.{Running, tables_of, bare_tables}
use mir.Syntax.{Fn, Callee, Body}
use prog.Model.{Model}
use prog.Routine.{over, ◌≼⁺◌}
use prog.Wp.{Env, Calls, Loops, Wp, WpFn, Tables, after_block, after_seq}
use sound.WpLaws.{WpFn-mono}
use types.Kit.{Post, any_q, post}
use types.Logic.{Logic, sem}
use denote.Laws.{Are, Ises, owns_show, showss}
use denote.RattleType.{RattleType, owns}
use denote.Signature.{types_at}
use denote.Triple.Clauses.{Ended, Clauses, closing}
use denote.Triple.Entry.{alive, on_entry}
use denote.Triple.Handed.{holding, hands}
use denote.Triple.Spec.{Meets, triple_of}
use denote.Triple.Statement.{Contract}
use denote.Triple.Table.{entered}
use denote.Triple.Walked.{Stays, AllGo, walk_of, walk_Meets}

module _ {M : Type 1} {𝓤 : Ura M} (𝓛 : Logic 𝓤) where
  open 𝓛 use {H, A}

  abbrev pub follows_arm : Calls 𝓤 H → Loops 𝓤 H → Env 𝓤 H → Body → Post 𝓤 H → Post 𝓤 H
  follows_arm C Λ E rest q = any_q (after_block 𝓤 H (after_seq 𝓤 H (Wp 𝓤 H C Λ E rest (post 𝓤 H q)) (post 𝓤 H q)))

  module _ (T : Ended) (hs : Stays T.signature.params T.kept) (c : Clauses 𝓤 T) where
    abbrev pub with_token : Clauses 𝓤 T
    with_token = holding 𝓤 T (A.tok every) c

    abbrev W : Contract 𝓤
    W = walk_of 𝓛 T hs with_token

    abbrev Rows : W.Ghost → List RattleType
    Rows y = types_at T.signature.params y.0.0

    abbrev Relations : W.Ghost → Type 0
    Relations y = Are (Rows y) (Ises (Rows y)) y.0.3 y.0.4

    -- what the parameters own shows how their values are stored
    shown : (y : W.Ghost) (Q : SProp 𝓤) → (Relations y → ent 𝓤 (W.pre y) Q) → ent 𝓤 (W.pre y) Q
    shown y Q = let On : SProp 𝓤 = on_entry 𝓛 T.signature y.0.0 y.0.1 y.0.3 y.0.4 in let Owned : SProp 𝓤 = sem 𝓛 (owns (Rows y) y.0.3 y.0.4) in
        fact_use 𝓤 (Relations y) (via 𝓤 On (fst∗ 𝓤 On ((with_token y.0.0 y.0.3).requires y.1)) (via 𝓤 Owned (snd∗ 𝓤 (alive 𝓛 T.signature y.0.0 y.0.1) Owned)
        (owns_show 𝓛 (Rows y) (Ises (Rows y)) (showss 𝓛 (Rows y)) y.0.3 y.0.4)))

    pub token_proved : (𝓜 : Model 𝓤 H) (𝓡 : Running 𝓤 H 𝓜) → AllGo 𝓛 T.signature.lifetimes T.signature.params T.kept hs → (k : Callee) (e : Fn) → over 𝓡.env e ≼⁺ 𝓡.env k
        → ((C : Calls 𝓤 H) (Λ : Loops 𝓤 H) (y : W.Ghost) → Relations y → ent 𝓤 (W.pre y) (WpFn 𝓤 H C Λ e (W.args y) (W.post y))) → Meets 𝓛 T.signature (𝓡.run (𝓡.env k)) (closing 𝓛 T c)
    unfolding tables_of
    token_proved 𝓜 𝓡 go k e unfolds walk =
        let carries : Carries 𝓤 H 𝓜 (A.tok every) = subst (Carries 𝓤 H 𝓜) 𝓛.turn_is 𝓡.carries in
        let 𝓣 : Tables 𝓤 H = tables_of 𝓤 H carries.inner (bare_tables 𝓤 H carries.inner 𝓡.allowed 𝓡.how 𝓡.env) in
        let Run = WpFn 𝓤 H 𝓣.C 𝓣.Λ e in
        hands 𝓛 T (A.tok every) c 𝓜 carries 𝓡 (𝓡.env k)
        (entered 𝓤 H (triple_of 𝓛 T.signature (closing 𝓛 T with_token)) 𝓣.C 𝓣.Λ k e (bare_unfolds 𝓤 H carries.inner 𝓡.allowed 𝓡.how 𝓡.env k e unfolds)
        (walk_Meets 𝓛 T hs go with_token Run (WpFn-mono 𝓤 H 𝓛.laws 𝓣 e) (λ y. shown y (Run (W.args y) (W.post y)) (walk 𝓣.C 𝓣.Λ y))))
