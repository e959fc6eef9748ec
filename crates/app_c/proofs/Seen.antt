-- The tokens that are listed, and those of the rest of the walk.
use Rattle.std.proofs.Common.{◌≡◌, ◌∙◌, ◌++◌, ◌∷◌, List, [], Some, false, ap, append_assoc, length, length-append, map, refl, sym}
use Rattle.tt_base.proofs.Walks.{event_passed}
use Rattle.tt_base.specs.Forest.{Forest}
use Rattle.tt_base.specs.Walk.{Event, Walked, closes, events_ahead, is_at_close, one_on, opens, passes, token_at}
use Rattle.tt_base.specs.declared.token_tree.TokenTree.{TokenTree}
use Rattle.tt_base.specs.declared.token_tree.TokenTree.TheVariants as token
use Rattle.app_c.specs.Tokens.{seen, seen_at, seen_first, seen_words, texts_of, words_of, IsPut}
use Rattle.app_c.specs.declared.listing.Listing.{Listing}

-- what is listed, and the tokens ahead, make all
pub record IsListedUpTo (trees : Forest) (walked : Walked) (listing : Listing) : Type 0 where
  pub texts : listing.bytes.items ++ texts_of (map seen_at (events_ahead walked)) ≡ texts_of (seen trees)
  pub words : listing.words.items ++ words_of (length listing.bytes.items) (map seen_at (events_ahead walked)) ≡ words_of 0 (seen trees)

-- One token more is listed, and the walk is one place further.
pub one_more : (trees : Forest) (walked next : Walked) (old new : Listing) (event : Event) (events : List Event) → events_ahead walked ≡ event ∷ events
    → next ≡ one_on walked → IsPut (seen_at event) old new → IsListedUpTo trees walked old → IsListedUpTo trees next new
one_more trees walked next old new event events same next_is put before =
    let it = seen_at event in
    let rest = map seen_at events in
    let ahead : events_ahead next ≡ events = ap events_ahead next_is ∙ event_passed walked event events same in
    record {
      texts =
          ap (λ its. new.bytes.items ++ texts_of (map seen_at its)) ahead
          ∙ ap (λ bytes. bytes ++ texts_of rest) put.bytes_are
          ∙ append_assoc old.bytes.items it.text (texts_of rest)
          ∙ ap (λ its. old.bytes.items ++ texts_of (map seen_at its)) (sym same)
          ∙ before.texts;
      words =
          ap (λ its. new.words.items ++ words_of (length new.bytes.items) (map seen_at its)) ahead
          ∙ ap (λ words. words ++ words_of (length new.bytes.items) rest) put.words_are
          ∙ append_assoc old.words.items (seen_words (length old.bytes.items) it) (words_of (length new.bytes.items) rest)
          ∙ ap (λ n. old.words.items ++ (seen_words (length old.bytes.items) it ++ words_of n rest))
          (ap length put.bytes_are ∙ length-append old.bytes.items it.text)
          ∙ ap (λ its. old.words.items ++ words_of (length old.bytes.items) (map seen_at its)) (sym same)
          ∙ before.words;
    }

-- If a token comes next, the walk passes it or enters it.
pub first_event : (events : List Event) (it : TokenTree) → Some it ≡ token_at events
    → (event : Event) × (others : List Event) × (events ≡ event ∷ others) × (seen_first it ≡ seen_at event)
first_event [] it is = cc
first_event (passes found ∷ others) it is = let same : it ≡ token.Leaf found = cc in (passes found, others, refl, ap seen_first same)
first_event (opens found ∷ others) it is = let same : it ≡ token.Subtree found = cc in (opens found, others, refl, ap seen_first same)
first_event (closes found ∷ others) it is = cc

-- Then no subtree ends here.
pub not_at_close : (events : List Event) (it : TokenTree) → Some it ≡ token_at events → is_at_close events ≡ false
not_at_close [] it is = cc
not_at_close (passes found ∷ others) it is = refl
not_at_close (opens found ∷ others) it is = refl
not_at_close (closes found ∷ others) it is = cc
