-- Bytes that are fed to a session one part after another.
use Rattle.std.proofs.Common.{◌≡◌, ◌≢◌, ℕ, ◌+◌, ◌-◌, ◌^◌, ◌<◌, min, List, [], ◌∷◌, ◌++◌, length, sym, ap, ◌∙◌, append_assoc, append-nil, length-append, Option, Result, Ok, Err, None, Some, Bool, refl, subst, arith}
use Rattle.std.proofs.lemmas.List.Concat.{flat_map-append}
use Rattle.std.proofs.lemmas.List.Elements.{All-append, All-push, All-nil}
use Rattle.std.specs.Io.KnownBytes.{Appends, Keeps}
use Rattle.std.proofs.KnownBytes.{Appends-nil, Appends-trans, Appends-kept}
use Rattle.app_console.specs.declared.outcome.RunFault.{RunFault}
use Rattle.app_console.specs.declared.outcome.RunFault.TheVariants.{Read, Write, Memory}
use Rattle.app_console.specs.Stage.{Stage}
use Rattle.app_language.specs.Reading.{IsOneLine}
use Rattle.app_console.specs.Lines.{ended_lines}
use Rattle.app_console.specs.Run.{bad_line}
use Rattle.app_console.specs.Session.{Follows, Halts, Breaks, Answers, Feeds}
use Rattle.app_console.proofs.Answering.{Answered-none, Answered-trans}

-- the cut of the first bytes, and then the cut of the next bytes
cuts_on : (h c : List ℕ) (ls : List (List ℕ)) (m d : List ℕ) (ms : List (List ℕ)) (rest : List ℕ)
    → h ++ c ≡ ended_lines ls ++ m → m ++ d ≡ ended_lines ms ++ rest → h ++ (c ++ d) ≡ ended_lines (ls ++ ms) ++ rest
cuts_on h c ls m d ms rest p q =
    sym (append_assoc h c d) ∙ ap (λ x. x ++ d) p ∙ append_assoc (ended_lines ls) m d ∙ ap (λ x. ended_lines ls ++ x) q
    ∙ sym (append_assoc (ended_lines ls) (ended_lines ms) rest) ∙ ap (λ x. x ++ rest) (sym (flat_map-append (λ line. line ++ 10 ∷ []) ls ms))

-- counts that are bounded by `big` add up
counts_on : (a b c m n big : ℕ) → b ≡ min (a + m) big → c ≡ min (b + n) big → c ≡ min (a + (m + n)) big
counts_on a b c m n big p q = omega arith

numbers_on : (a b m n number big : ℕ) → b ≡ min (a + m) big → number ≡ min (b + n + 1) big → number ≡ min (a + (m + n) + 1) big
numbers_on a b m n number big p q = omega arith

-- a cut extends to the bytes behind it
cuts_before : (h c last d : List ℕ) (ls : List (List ℕ)) → h ++ c ≡ ended_lines ls ++ last → h ++ (c ++ d) ≡ ended_lines ls ++ (last ++ d)
cuts_before h c last d ls p = sym (append_assoc h c d) ∙ ap (λ x. x ++ d) p ∙ append_assoc (ended_lines ls) last d

pub Follows-none : (a : Stage) (reported : Option (List ℕ)) (failed : Bool) → Keeps a.reported reported → IsOneLine a.begun → a.count < 2 ^ 64
    → Follows a [] (record a { reported = reported; failed = failed })
Follows-none a reported failed kept begun fits = record {
  lines = [];
  text = [];
  reported = Appends-kept a.reported a.reported reported [] (Appends-nil a.reported) kept;
  answered = Answered-none a.machine;
  cut = append-nil a.begun;
  whole = All-nil IsOneLine;
  begun = begun;
  counted = omega arith;
}

pub Follows-fits : (a b : Stage) (bytes : List ℕ) → Follows a bytes b → b.count < 2 ^ 64
Follows-fits a b bytes p = omega (arith, p.counted)

-- bytes without a line feed lengthen the begun line
pub Follows-longer : (a : Stage) (bytes : List ℕ) → IsOneLine a.begun → IsOneLine bytes → a.count < 2 ^ 64
    → Follows a bytes (record a { begun = a.begun ++ bytes })
Follows-longer a bytes begun one fits = record {
  lines = [];
  text = [];
  reported = Appends-nil a.reported;
  answered = Answered-none a.machine;
  cut = refl;
  whole = All-nil IsOneLine;
  begun = All-append (λ c. c ≢ 10) a.begun bytes begun one;
  counted = omega arith;
}

Follows-trans : (a b c : Stage) (bs cs : List ℕ) → Follows a bs b → Follows b cs c → Follows a (bs ++ cs) c
Follows-trans a b c bs cs p q = record {
  lines = p.lines ++ q.lines;
  text = p.text ++ q.text;
  reported = Appends-trans a.reported b.reported c.reported p.text q.text p.reported q.reported;
  answered = Answered-trans a.machine b.machine c.machine p.lines q.lines p.text q.text p.answered q.answered;
  cut = cuts_on a.begun bs p.lines b.begun cs q.lines c.begun p.cut q.cut;
  whole = All-append IsOneLine p.lines q.lines p.whole q.whole;
  begun = q.begun;
  counted = rw length-append (counts_on a.count b.count c.count (length p.lines) (length q.lines) (2 ^ 64 - 1) p.counted q.counted);
}

Follows-Halts : (a b c : Stage) (bs cs : List ℕ) (number : ℕ) → Follows a bs b → Halts b cs number c → Halts a (bs ++ cs) number c
Follows-Halts a b c bs cs number p q = record {
  lines = p.lines ++ q.lines;
  bad = q.bad;
  rest = q.rest;
  text = p.text ++ q.text;
  state = q.state;
  reported = subst (Appends a.reported c.reported) (sym (append_assoc p.text q.text (bad_line number)))
      (Appends-trans a.reported b.reported c.reported p.text (q.text ++ bad_line number) p.reported q.reported);
  answered = Answered-trans a.machine b.machine q.state p.lines q.lines p.text q.text p.answered q.answered;
  cut = cuts_on a.begun bs p.lines b.begun cs q.lines (q.bad ++ 10 ∷ q.rest) p.cut q.cut;
  whole = All-append IsOneLine p.lines q.lines p.whole q.whole;
  one_line = q.one_line;
  is_bad = q.is_bad;
  counted = rw length-append (numbers_on a.count b.count (length p.lines) (length q.lines) number (2 ^ 64 - 1) p.counted q.counted);
}

pub Follows-Breaks : (a b c : Stage) (bs cs rest : List ℕ) → Follows a bs b → Breaks b cs rest c → Breaks a (bs ++ cs) rest c
Follows-Breaks a b c bs cs rest p q = record {
  lines = p.lines ++ q.lines;
  text = p.text ++ q.text;
  state = q.state;
  reported = Appends-trans a.reported b.reported c.reported p.text q.text p.reported q.reported;
  answered = Answered-trans a.machine b.machine q.state p.lines q.lines p.text q.text p.answered q.answered;
  cut = cuts_on a.begun bs p.lines b.begun cs q.lines rest p.cut q.cut;
  whole = All-append IsOneLine p.lines q.lines p.whole q.whole;
}

-- what was pending is written
pub Follows-written : (a b : Stage) (bytes : List ℕ) (reported : Option (List ℕ)) (failed : Bool) → Follows a bytes b → Keeps b.reported reported
    → Follows a bytes (record b { reported = reported; failed = failed })
Follows-written a b bytes reported failed p kept = record {
  lines = p.lines;
  text = p.text;
  reported = Appends-kept a.reported b.reported reported p.text p.reported kept;
  answered = p.answered;
  cut = p.cut;
  whole = p.whole;
  begun = p.begun;
  counted = p.counted;
}

-- some bytes were fed, and then further bytes
pub Feeds-after : (a b c : Stage) (bs cs : List ℕ) (result : Result (Option ℕ) RunFault) → Follows a bs b → Feeds b cs result c → Feeds a (bs ++ cs) result c
Feeds-after a b c bs cs (Ok None) p q = (Follows-trans a b c bs cs p q.0, q.1)
Feeds-after a b c bs cs (Ok (Some number)) p q = (Follows-Halts a b c bs cs number p q.0, q.1)
Feeds-after a b c bs cs (Err Memory) p q = ((q.0.0, Follows-Breaks a b c bs cs q.0.0 p q.0.1), q.1)
Feeds-after a b c bs cs (Err Write) p q = q
Feeds-after a b c bs cs (Err Read) p q = absurd q

-- the session takes no further bytes
abbrev pub Stops : Result (Option ℕ) RunFault → Type 0
Stops (Ok None) = ⊥
Stops (Ok (Some number)) = Unit {0}
Stops (Err fault) = Unit {0}

-- a session that stops leaves the bytes behind
pub Feeds-before : (a b : Stage) (bs rest : List ℕ) (result : Result (Option ℕ) RunFault) → Stops result → Feeds a bs result b → Feeds a (bs ++ rest) result b
Feeds-before a b bs rest (Ok None) stops p = absurd stops
Feeds-before a b bs rest (Ok (Some number)) stops p =
    let halts = p.0 in (
      record {
        lines = halts.lines;
        bad = halts.bad;
        rest = halts.rest ++ rest;
        text = halts.text;
        state = halts.state;
        reported = halts.reported;
        answered = halts.answered;
        cut = cuts_before a.begun bs (halts.bad ++ 10 ∷ halts.rest) rest halts.lines halts.cut
            ∙ ap (λ l. ended_lines halts.lines ++ l) (append_assoc halts.bad (10 ∷ halts.rest) rest);
        whole = halts.whole;
        one_line = halts.one_line;
        is_bad = halts.is_bad;
        counted = halts.counted;
      },
      p.1,
    )
Feeds-before a b bs rest (Err Memory) stops p =
    let (begins, breaks) = p.0 in (
      (
        begins ++ rest,
        record {
          lines = breaks.lines;
          text = breaks.text;
          state = breaks.state;
          reported = breaks.reported;
          answered = breaks.answered;
          cut = cuts_before a.begun bs begins rest breaks.lines breaks.cut;
          whole = breaks.whole;
        },
      ),
      p.1,
    )
Feeds-before a b bs rest (Err Write) stops p = p
Feeds-before a b bs rest (Err Read) stops p = absurd p

-- some bytes were fed, and at the next part the session stops
pub Feeds-stop : (a b c : Stage) (all fed part more : List ℕ) (result : Result (Option ℕ) RunFault)
    → all ≡ (fed ++ part) ++ more → Follows a fed b → Stops result → Feeds b part result c → Feeds a all result c
Feeds-stop a b c all fed part more result cut p stops q =
    subst (λ l. Feeds a l result c) (sym cut) (Feeds-before a c (fed ++ part) more result stops (Feeds-after a b c fed part result p q))

-- no line was answered
pub Breaks-none : (a b : Stage) (bytes : List ℕ) → Keeps a.reported b.reported → Breaks a bytes (a.begun ++ bytes) b
Breaks-none a b bytes kept = record {
  lines = [];
  text = [];
  state = a.machine;
  reported = Appends-kept a.reported a.reported b.reported [] (Appends-nil a.reported) kept;
  answered = Answered-none a.machine;
  cut = refl;
  whole = All-nil IsOneLine;
}

-- a line that began before the bytes ended in them, and was answered
pub Feeds-line : (a b : Stage) (bytes : List ℕ) (result : Result (Option ℕ) RunFault)
    → IsOneLine a.begun → IsOneLine bytes → Answers a (a.begun ++ bytes) result b → b.begun ≡ [] → Feeds a (bytes ++ 10 ∷ []) result b
Feeds-line a b bytes (Ok None) begun one p empty = (
  record {
    lines = (a.begun ++ bytes) ∷ [];
    text = p.0.0;
    reported = p.0.1;
    answered = p.0.2;
    cut = rw empty (simp append-nil (sym (append_assoc a.begun bytes (10 ∷ []))));
    whole = All-push IsOneLine [] (a.begun ++ bytes) (All-nil IsOneLine) (All-append (λ c. c ≢ 10) a.begun bytes begun one);
    begun = rw empty (All-nil (λ c. c ≢ 10));
    counted = omega arith;
  },
  p.2,
)
Feeds-line a b bytes (Ok (Some number)) begun one p empty = (
  record {
    lines = [];
    bad = a.begun ++ bytes;
    rest = [];
    text = [];
    state = a.machine;
    reported = p.0;
    answered = Answered-none a.machine;
    cut = sym (append_assoc a.begun bytes (10 ∷ []));
    whole = All-nil IsOneLine;
    one_line = All-append (λ c. c ≢ 10) a.begun bytes begun one;
    is_bad = p.1;
    counted = omega arith;
  },
  p.3,
)
Feeds-line a b bytes (Err Memory) begun one p empty = ((_, Breaks-none a b (bytes ++ 10 ∷ []) p.0), p.1)
Feeds-line a b bytes (Err Write) begun one p empty = p
Feeds-line a b bytes (Err Read) begun one p empty = absurd p

-- a line that lies completely in the bytes was answered
pub Feeds-whole_line : (a b : Stage) (bytes : List ℕ) (result : Result (Option ℕ) RunFault)
    → a.begun ≡ [] → IsOneLine a.begun → IsOneLine bytes → Answers a bytes result b → b.begun ≡ a.begun → Feeds a (bytes ++ 10 ∷ []) result b
Feeds-whole_line a b bytes result empty begun one p kept =
    let whole : a.begun ++ bytes ≡ bytes = ap (λ l. l ++ bytes) empty in
    Feeds-line a b bytes result begun one (subst (λ l. Answers a l result b) (sym whole) p) (kept ∙ empty)
