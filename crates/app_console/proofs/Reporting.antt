-- From the bytes that were fed to a session to the outcome of a run.
use Rattle.std.proofs.Common.{◌≡◌, ◌≢◌, ◌≤◌, ℕ, length, List, [], ◌∷◌, ◌++◌, Option, None, Some, Result, Ok, Err, false, take, sym, ap, ◌∙◌, subst, refl, append_assoc, append-nil, zero-add, IfSome, lit<, lit≤, arith}
use Rattle.std.proofs.lemmas.List.Elements.{All-nil}
use Rattle.std.specs.Io.KnownBytes.{Consumes, Keeps, IsAtEnd, append_known}
use Rattle.std.proofs.KnownBytes.{Appends-nil, Appends-trans, Appends-kept, Keeps-trans, Consumes-nil, Consumes-kept, Consumes-trans, Consumes-whole}
use Rattle.app_console.specs.declared.outcome.RunFault.{RunFault}
use Rattle.app_console.specs.declared.outcome.RunFault.TheVariants.{Read, Write, Memory}
use Rattle.app_console.specs.declared.outcome.End.{End}
use Rattle.app_console.specs.declared.outcome.End.TheVariants.{Clean, BadLine}
use Rattle.app_console.specs.declared.output.TheConstants.{BLOCK}
use Rattle.app_console.specs.declared.noted.Noted.{Noted}
use Rattle.app_console.specs.Noted.{noted_inner, noted_failed}
use Rattle.app_console.specs.Output.{text_reported}
use Rattle.app_console.specs.Progress.{Progress, fresh}
use Rattle.app_console.specs.Stage.{Stage, stage_of}
use Rattle.app_console.specs.State.{start}
use Rattle.app_language.specs.Reading.{IsOneLine}
use Rattle.app_console.specs.Lines.{lines_of, ended_lines}
use Rattle.app_console.specs.Run.{AreAnswers, PrecedesBadLine, bad_line, StopsWithin, Reports}
use Rattle.app_console.specs.Session.{Follows, Breaks, Answers, Feeds, Finishes}
use Rattle.app_console.proofs.Answering.{Answered-none, Answered-trans}
use Rattle.app_console.proofs.Feeding.{Follows-none, Follows-written, Follows-Breaks, Feeds-after}
use Rattle.app_console.proofs.InHand.{InHand, first_line, behind_within}
use Rattle.app_console.proofs.LineCuts.{lines_of-line, lines_of-last, lines_of-ended}

-- if nothing is pending, all that was put out is written
Keeps-nil : (w : Option (List ℕ)) → Keeps w (append_known w [])
Keeps-nil None = tt
Keeps-nil (Some x) = append-nil x

-- what holds for all that begins with what was read holds for the input
input_begins : (a b : Option (List ℕ)) (bs : List ℕ) (P : List ℕ → Type 0) → Consumes a b bs → ((rest : List ℕ) → P (bs ++ rest)) → IfSome a P
input_begins None b bs P p f = tt
input_begins (Some xs) None bs P p f = absurd p
input_begins (Some xs) (Some ys) bs P p f = subst P (sym p) (f ys)

-- if no line has begun, none is left to answer
pub Finishes-none : (b : Stage) → b.begun ≡ [] → b.failed ≡ false → Finishes b (Ok Clean) b
Finishes-none b empty sound = (([], Appends-nil b.reported, rw empty (Answered-none b.machine)), sound)

-- bytes without a line feed are one line, if there are any
lines_of-one : (line : List ℕ) → line ≢ [] → IsOneLine line → lines_of line ≡ line ∷ []
lines_of-one [] some one = absurd (some refl)
lines_of-one (byte ∷ bytes) some one = lines_of-last byte bytes one

-- the last line was answered
pub Finishes-line : (b c : Stage) → b.begun ≢ [] → IsOneLine b.begun → Answers b b.begun (Ok None) c → Finishes b (Ok Clean) c
Finishes-line b c some one p = ((p.0.0, p.0.1, rw (lines_of-one b.begun some one) p.0.2), p.2)

-- the last line is no command
pub Finishes-bad_line : (b c : Stage) (number : ℕ) → b.begun ≢ [] → IsOneLine b.begun → Answers b b.begun (Ok (Some number)) c → Finishes b (Ok (BadLine number)) c
Finishes-bad_line b c number some one p = (p.0, lines_of-one b.begun some one, p.1, p.2, p.3)

-- before the first byte, with so much written
abbrev opening : Option (List ℕ) → Stage
opening written = record { machine = start; begun = []; count = 0; reported = written; failed = false }

-- what was read was fed to a session, whose writer had taken so much before
pub record Reads (session : Stage) (input left written : Option (List ℕ)) : Type 0 where
  pub taken : List ℕ
  pub took : Consumes input left taken
  pub follows : Follows (opening written) taken session

pub Reads-none : {W : Type 0} (contents : W → Option (List ℕ)) (session : Progress) (writer : Noted W) (r : Option (List ℕ))
    → session ≡ fresh → Reads (stage_of contents session writer) r r (contents (noted_inner writer))
Reads-none contents session writer r is =
    let w = contents (noted_inner writer) in rw is (record {
      taken = [];
      took = Consumes-nil r;
      follows = Follows-none (opening w) (append_known w []) (noted_failed writer) (Keeps-nil w) (All-nil (λ c. c ≢ 10)) (lit< tt);
    })

-- what was pending is written
pub Reads-written : {W : Type 0} (contents : W → Option (List ℕ)) (old new : Progress) (before after : Noted W) (r s w : Option (List ℕ))
    → Reads (stage_of contents old before) r s w → Keeps (text_reported contents before old.pending) (contents (noted_inner after))
    → new ≡ record old { pending = [] } → Reads (stage_of contents new after) r s w
Reads-written contents old new before after r s w p kept empty =
    let y = contents (noted_inner after) in
    let b = stage_of contents old before in rw empty (record {
      taken = p.taken;
      took = p.took;
      follows = Follows-written (opening w) b p.taken (append_known y []) (noted_failed after) p.follows
          (Keeps-trans b.reported y (append_known y []) kept (Keeps-nil y));
    })

-- more was read, and fed to the session
pub Reads-more : (b c : Stage) (bytes : List ℕ) (r s t w : Option (List ℕ)) → Reads b r s w → Consumes s t bytes → Feeds b bytes (Ok None) c → Reads c r t w
Reads-more b c bytes r s t w p took q =
    let more = Feeds-after (opening w) b c p.taken bytes (Ok None) p.follows q in
    record { taken = p.taken ++ bytes; took = Consumes-trans r s t p.taken bytes p.took took; follows = more.0 }

-- the begun line is the current line, and nothing lies behind it
StopsWithin-begun : (b : Stage) (r s w : Option (List ℕ)) → (p : Reads b r s w) → StopsWithin r s p.follows.text []
StopsWithin-begun b r s w p = record {
  before = p.follows.lines;
  hand = b.begun;
  answers = (b.machine, p.follows.answered);
  whole = p.follows.whole;
  one_line = p.follows.begun;
  read = subst (Consumes r s) (p.follows.cut ∙ ap (λ l. ended_lines p.follows.lines ++ l) (sym (append-nil b.begun))) p.took;
}

-- a read returned nothing
abbrev Reads-kept : (b : Stage) (r s t w : Option (List ℕ)) → Reads b r s w → Keeps s t → Reads b r t w
Reads-kept b r s t w p kept = record { taken = p.taken; took = Consumes-kept r s t p.taken p.took kept; follows = p.follows }

-- a read failed
pub Reports-unread : (b : Stage) (r s t w : Option (List ℕ)) → Reads b r s w → Keeps s t → Reports (Err Read) r t w b.reported
Reports-unread b r s t w p kept = (p.follows.text, p.follows.reported, StopsWithin-begun b r t w (Reads-kept b r s t w p kept))

-- a read returned no byte
Reads-end : (b : Stage) (buffer : List ℕ) (n : ℕ) (r s t w : Option (List ℕ)) → Reads b r s w → Consumes s t (take n buffer) → n ≡ 0 → Reads b r t w
Reads-end b buffer n r s t w p none zero =
    let none' : Consumes s t [] = rw zero at none in
    let both : Consumes r t (p.taken ++ []) = Consumes-trans r s t p.taken [] p.took none' in
    record { taken = p.taken; took = rw append-nil at both; follows = p.follows }

-- the input ended
Reports-at_end : (b c : Stage) (result : Result End RunFault) (r s w : Option (List ℕ)) → Reads b r s w → IsAtEnd s → Finishes b result c → Reports result r s w c.reported
Reports-at_end b c (Ok Clean) r s w reads ended q =
    let p = reads.follows in
    let text = p.text ++ q.0.0 in
    let cut : lines_of reads.taken ≡ p.lines ++ lines_of b.begun = ap lines_of p.cut ∙ lines_of-ended p.lines b.begun p.whole in
    let holds : AreAnswers (lines_of reads.taken) text =
    (c.machine, rw cut (Answered-trans start b.machine c.machine p.lines (lines_of b.begun) p.text q.0.0 p.answered q.0.2)) in (
      text,
      Appends-trans w b.reported c.reported p.text q.0.0 p.reported q.0.1,
      record { at_end = ended; answers = Consumes-whole r s reads.taken (λ bytes. AreAnswers (lines_of bytes) text) reads.took ended holds },
    )
Reports-at_end b c (Ok (BadLine number)) r s w reads ended q =
    let p = reads.follows in
    let cut : lines_of reads.taken ≡ p.lines ++ b.begun ∷ [] =
    ap lines_of p.cut ∙ lines_of-ended p.lines b.begun p.whole ∙ ap (λ l. p.lines ++ l) q.1 in
    let stops : PrecedesBadLine p.lines reads.taken = (b.begun, [], cut, q.2) in (
      p.text,
      Appends-trans w b.reported c.reported p.text (bad_line number) p.reported q.0,
      record {
        before = p.lines;
        answers = (b.machine, p.answered);
        counted = omega (arith, p.counted, q.3);
        first_bad = Consumes-whole r s reads.taken (PrecedesBadLine p.lines) reads.took ended stops;
      },
    )
Reports-at_end b c (Err Memory) r s w reads ended q = (
  reads.follows.text,
  Appends-kept w b.reported c.reported reads.follows.text reads.follows.reported q.0,
  ([], StopsWithin-begun b r s w reads, tt, lit≤ tt),
)
Reports-at_end b c (Err Write) r s w reads ended q = tt
Reports-at_end b c (Err Read) r s w reads ended q = absurd q

pub Reports-finish : (b c : Stage) (buffer : List ℕ) (n : ℕ) (result : Result End RunFault) (r s t w : Option (List ℕ)) → Reads b r s w
    → Consumes s t (take n buffer) → n ≡ 0 → IsAtEnd t → Finishes b result c → Reports result r t w c.reported
Reports-finish b c buffer n result r s t w p none zero ended q =
    Reports-at_end b c result r t w (Reads-end b buffer n r s t w p none zero) ended q

-- a line that ended is no command
pub Reports-bad_line : (b c : Stage) (bytes : List ℕ) (number : ℕ) (r s t w : Option (List ℕ)) → Reads b r s w → Consumes s t bytes
    → Feeds b bytes (Ok (Some number)) c → Reports (Ok (BadLine number)) r t w c.reported
Reports-bad_line b c bytes number r s t w p took q =
    let all = p.taken ++ bytes in
    let fed = Feeds-after (opening w) b c p.taken bytes (Ok (Some number)) p.follows q in
    let halts = fed.0 in
    let stops : (rest : List ℕ) → PrecedesBadLine halts.lines (all ++ rest) = λ rest. (
      halts.bad,
      lines_of (halts.rest ++ rest),
      ap (λ l. lines_of (l ++ rest)) halts.cut ∙ ap lines_of (append_assoc (ended_lines halts.lines) (halts.bad ++ 10 ∷ halts.rest) rest)
          ∙ lines_of-ended halts.lines ((halts.bad ++ 10 ∷ halts.rest) ++ rest) halts.whole
          ∙ ap (λ l. halts.lines ++ lines_of l) (append_assoc halts.bad (10 ∷ halts.rest) rest)
          ∙ ap (λ l. halts.lines ++ l) (lines_of-line halts.bad (halts.rest ++ rest) halts.one_line),
      halts.is_bad,
    ) in (
      halts.text,
      halts.reported,
      record {
        before = halts.lines;
        answers = (halts.state, halts.answered);
        counted = rw zero-add at halts.counted;
        first_bad = input_begins r t all (PrecedesBadLine halts.lines) (Consumes-trans r s t p.taken bytes p.took took) stops;
      },
    )

-- a session could not take the bytes that were read
pub Reports-fault : (b c : Stage) (bytes : List ℕ) (fault : RunFault) (r s t w : Option (List ℕ)) → Reads b r s w → Consumes s t bytes
    → length bytes ≤ BLOCK → Feeds b bytes (Err fault) c → Reports (Err fault) r t w c.reported
Reports-fault b c bytes Memory r s t w p took fits q =
    let (rest, breaks) = q.0 in
    let all = Follows-Breaks (opening w) b c p.taken bytes rest p.follows breaks in
    let line = first_line rest in (
      all.text,
      all.reported,
      (
        line.behind,
        record {
          before = all.lines;
          hand = line.hand;
          answers = (all.state, all.answered);
          whole = all.whole;
          one_line = line.one_line;
          read = subst (Consumes r t) (all.cut ∙ ap (λ l. ended_lines all.lines ++ l) line.is) (Consumes-trans r s t p.taken bytes p.took took);
        },
        line.ends,
        within line breaks,
      ),
    )
  where
    within : {rest : List ℕ} → (line : InHand rest) → Breaks b bytes rest c → length line.behind ≤ BLOCK
    within line breaks =
        let cut = breaks.cut ∙ ap (λ l. ended_lines breaks.lines ++ l) line.is in
        omega (arith, behind_within b.begun bytes breaks.lines line.hand line.behind p.follows.begun line.ends cut)
Reports-fault b c bytes Write r s t w p took fits q = tt
Reports-fault b c bytes Read r s t w p took fits q = absurd q
