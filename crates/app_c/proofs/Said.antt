-- The texts that were read, and those of the rest.
use Rattle.std.proofs.Common.{◌≡◌, ◌∙◌, ◌++◌, ◌+◌, ◌<◌, ◌≤◌, ◌==◌, ℕ, Bool, true, false, List, [], ◌∷◌, None, Some, ap, ap₂, append_assoc, arith, drop, inr, length, length-append, map, refl, suc, sym, take}
use Rattle.std.proofs.lemmas.List.{length-drop, map-append}
use Rattle.std.specs.List.{after_first, before_first, position_or_len}
use Rattle.app_c.specs.Conditions.{atom_in, begun_by, texts_in, IsNotSaid, Say}
use Rattle.app_c.specs.Failures.{at_place}
use Rattle.app_c.specs.declared.fault.Fault.TheVariants.{NoCfg}
use Rattle.expand_items.specs.Cfg.{Known, with_atom}
use Rattle.expand_items.specs.declared.cfg.CfgAtom.{CfgAtom}

-- the texts before the rest say what is true so far, and there are that many
pub record HaveSaid (cfg rest : List ℕ) (known : Known) (count : ℕ) : Type 0 where
  pub front : List (List ℕ)
  pub are : texts_in cfg ≡ front ++ texts_in rest
  pub say : Say front known.atoms
  pub open_else : known.is_complete ≡ false
  pub counted : count ≡ length front
  pub short : count + length rest ≤ length cfg

-- whether a byte ends a text
abbrev is_end : ℕ → Bool
is_end byte = byte == 0

-- One byte more before a first text.
further : (n byte : ℕ) (bytes : List ℕ)
    → begun_by byte (take n bytes ∷ texts_in (drop (n + 1) bytes)) ≡ take (1 + n) (byte ∷ bytes) ∷ texts_in (drop (1 + n + 1) (byte ∷ bytes))
further n byte bytes =
    let one : 1 + n ≡ suc n = omega arith in
    let two : 1 + n + 1 ≡ suc (n + 1) = omega arith in
    rw (two, one)

-- The same, if the byte ends no text.
longer : (byte : ℕ) (bytes : List ℕ) → (byte == 0) ≡ false → texts_in bytes ≡ before_first is_end bytes ∷ texts_in (after_first is_end bytes)
    → texts_in (byte ∷ bytes) ≡ before_first is_end (byte ∷ bytes) ∷ texts_in (after_first is_end (byte ∷ bytes))
longer byte bytes is later = rw is (ap (begun_by byte) later ∙ further (position_or_len is_end bytes) byte bytes)

-- The texts of bytes: the first, and those of what is behind it.
pub next_text : (bytes : List ℕ) → 0 < length bytes → texts_in bytes ≡ before_first is_end bytes ∷ texts_in (after_first is_end bytes)
next_text [] some = absurd (omega (arith, some))
next_text (byte ∷ []) some = by (byte == 0) refl
  where
    by : (test : Bool) → (byte == 0) ≡ test → texts_in (byte ∷ []) ≡ before_first is_end (byte ∷ []) ∷ texts_in (after_first is_end (byte ∷ []))
    by true is = rw is
    by false is = rw is
next_text (byte ∷ next ∷ more) some = by (next_text (next ∷ more) (omega arith)) (byte == 0) refl
  where
    by : texts_in (next ∷ more) ≡ before_first is_end (next ∷ more) ∷ texts_in (after_first is_end (next ∷ more)) → (test : Bool)
        → (byte == 0) ≡ test
        → texts_in (byte ∷ next ∷ more) ≡ before_first is_end (byte ∷ next ∷ more) ∷ texts_in (after_first is_end (byte ∷ next ∷ more))
    by later true is = rw is
    by later false is = longer byte (next ∷ more) is later

-- The next text says nothing.
pub said_nothing : (cfg rest text : List ℕ) (known : Known) (count : ℕ) → HaveSaid cfg rest known count → 0 < length rest → text ≡ before_first is_end rest
    → atom_in text ≡ None → IsNotSaid cfg (at_place NoCfg count)
said_nothing cfg rest text known count said some is none =
    inr
    (record {
      front = said.front;
      text = text;
      behind = texts_in (after_first is_end rest);
      are = said.are ∙ ap (λ texts. said.front ++ texts) (next_text rest some ∙ ap (λ it. it ∷ texts_in (after_first is_end rest)) (sym is));
      atoms = known.atoms;
      say = said.say;
      none = none;
      failure_is = ap (at_place NoCfg) said.counted;
    })

-- The next text says that an atom is true.
pub said_more : (cfg rest text behind : List ℕ) (known new : Known) (atom : CfgAtom) (count : ℕ) → HaveSaid cfg rest known count → 0 < length rest
    → text ≡ before_first is_end rest → behind ≡ after_first is_end rest → atom_in text ≡ Some atom → new ≡ with_atom atom known
    → HaveSaid cfg behind new (count + 1)
said_more cfg rest text behind known new atom count said some is behind_is says added =
    record {
      front = said.front ++ text ∷ [];
      are =
          said.are
          ∙ ap (λ texts. said.front ++ texts) (next_text rest some ∙ ap₂ (λ it more. it ∷ texts_in more) (sym is) (sym behind_is))
          ∙ sym (append_assoc said.front (text ∷ []) (texts_in behind));
      say =
          map-append atom_in said.front (text ∷ [])
          ∙ ap₂ (λ before it. before ++ it ∷ []) said.say says
          ∙ sym (map-append Some known.atoms (atom ∷ []))
          ∙ ap (λ it. map Some it.atoms) (sym added);
      open_else = ap (λ it. it.is_complete) added ∙ said.open_else;
      counted = let more = length-append said.front (text ∷ []) in omega (arith, said.counted, more);
      short =
          let dropped = length-drop (position_or_len is_end rest + 1) rest in
          let left = ap length behind_is in
          omega (arith, said.short, some, dropped, left);
    }
