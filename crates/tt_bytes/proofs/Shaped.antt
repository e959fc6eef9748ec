-- Only the kind and the count of a token decide whether it fits among those of open subtrees.
use Rattle.std.proofs.Common.{◌≡◌, ℕ, zero, suc, ◌+◌, ◌-◌, ◌<◌, ◌≤◌, ◌⊎◌, inl, inr, Bool, true, false, ◌↔◌, List, [], ◌∷◌, Some, map, length, drop, slice_get, Result, Ok, Err, IfOk, refl, ap, sym, subst, ◌∙◌, arith}
use Rattle.std.proofs.lemmas.List.{length-map, drop_all}
use Rattle.std.proofs.lemmas.Option.{slice_get_within, get_or_from_slice_get}
use Rattle.tt_base.specs.declared.delimiter.Delimiter.{Delimiter}
use Rattle.tt_base.specs.declared.delimiter.Subtree.{Subtree}
use Rattle.tt_base.specs.declared.leaf.Leaf.{Leaf}
use Rattle.tt_base.specs.declared.token_tree.TokenTree.{TokenTree}
use Rattle.tt_base.specs.declared.token_tree.TokenTree.TheVariants as token
use Rattle.tt_base.specs.Forest.{IsWhole, AreLevels}
use Rattle.tt_base.specs.Levels.{TakesToken}
use Rattle.tt_base.proofs.CutLists.{one_level, done_level, leaf_level, node_level, too_long, walk_on}
use Rattle.tt_bytes.specs.Shape.{IsALeaf}
use Rattle.tt_codec.specs.declared.entry.HeaderEntry.{HeaderEntry}
use Rattle.tt_codec.specs.declared.entry.LeafEntry.{LeafEntry}
use Rattle.tt_tables.specs.declared.token.InternedToken.{InternedToken}
use Rattle.tt_tables.specs.declared.token.InternedToken.TheVariants as interned
use Rattle.tt_tables.specs.Held.{whole}
use Rattle.tt_tables.specs.Names.{Names, AllName}
use Rattle.tt_tables.proofs.PlacesKept.{length-named}
use Rattle.tt_tables.specs.Tables.{Tables}

-- A leaf in the place of another.
leaf_same : (a b : Leaf) (tokens : List TokenTree) (levels : List ℕ) → AreLevels (token.Leaf a ∷ tokens) levels → AreLevels (token.Leaf b ∷ tokens) levels
leaf_same a b tokens [] is = absurd (cc is)
leaf_same a b tokens (zero ∷ ns) is = (done_level (token.Leaf b ∷ tokens) ns).1 (leaf_same a b tokens ns ((done_level (token.Leaf a ∷ tokens) ns).0 is))
leaf_same a b tokens (suc n ∷ ns) is = (leaf_level b tokens n ns).1 ((leaf_level a tokens n ns).0 is)

less_or : (a b : ℕ) → (a ≤ b) ⊎ (b < a)
less_or zero b = inl (omega arith)
less_or (suc a) zero = inr (omega arith)
less_or (suc a) (suc b) = next (less_or a b)
  where
    next : (a ≤ b) ⊎ (b < a) → (suc a ≤ suc b) ⊎ (suc b < suc a)
    next (inl h) = inl (omega (arith, h))
    next (inr h) = inr (omega (arith, h))

-- A header in the place of another with the same count.
node_same : (s t : Subtree) → s.len ≡ t.len → (tokens : List TokenTree) (levels : List ℕ) → AreLevels (token.Subtree s ∷ tokens) levels → AreLevels (token.Subtree t ∷ tokens) levels
node_same s t e tokens [] is = absurd (cc is)
node_same s t e tokens (zero ∷ ns) is = (done_level (token.Subtree t ∷ tokens) ns).1 (node_same s t e tokens ns ((done_level (token.Subtree s ∷ tokens) ns).0 is))
node_same s t e tokens (suc n ∷ ns) is = by_order (less_or s.len n)
  where
    by_order : (s.len ≤ n) ⊎ (n < s.len) → AreLevels (token.Subtree t ∷ tokens) (suc n ∷ ns)
    by_order (inl fits) =
        let within : t.len ≤ n = omega (arith, e, fits) in
        (node_level t tokens n ns within).1 (subst (λ k. AreLevels tokens (k ∷ (n - k) ∷ ns)) e ((node_level s tokens n ns fits).0 is))
    by_order (inr long) = absurd (too_long s tokens n ns long is)

-- If one token can take the place of another, both do the same.
takes_same : (a b : TokenTree) (old new : List ℕ) (fits : Bool) → ((tokens : List TokenTree) (levels : List ℕ) → AreLevels (a ∷ tokens) levels → AreLevels (b ∷ tokens) levels)
    → ((tokens : List TokenTree) (levels : List ℕ) → AreLevels (b ∷ tokens) levels → AreLevels (a ∷ tokens) levels) → TakesToken old a new fits → TakesToken old b new fits
takes_same a b old new true there back takes = λ tokens. (λ levels. (takes tokens).0 (back tokens old levels), λ levels. there tokens old ((takes tokens).1 levels))
takes_same a b old new false there back takes = λ tokens levels. takes tokens (back tokens old levels)

-- A header does the same as any with its count.
pub header_as : (tables : Tables) (entry : HeaderEntry) (it : TokenTree) (delimiter : Delimiter) (old new : List ℕ) (fits : Bool) → Names tables (interned.Header entry) (whole it)
    → TakesToken old (token.Subtree (record { delimiter = delimiter; len = entry.len })) new fits → TakesToken old it new fits
header_as tables entry (token.Leaf it) delimiter old new fits named takes = absurd named
header_as tables entry (token.Subtree it) delimiter old new fits named takes =
    let any : Subtree = record { delimiter = delimiter; len = entry.len } in
    takes_same (token.Subtree any) (token.Subtree it) old new fits (node_same any it named.0.len) (node_same it any (sym named.0.len)) takes

-- A leaf does the same as any other.
pub leaf_as : (tables : Tables) (entry : LeafEntry) (it any : TokenTree) (old new : List ℕ) (fits : Bool) → Names tables (interned.Leaf entry) (whole it) → IsALeaf any
    → TakesToken old any new fits → TakesToken old it new fits
leaf_as tables entry (token.Subtree it) any old new fits named is takes = absurd named
leaf_as tables entry (token.Leaf it) any old new fits named (leaf, is) takes =
    takes_same (token.Leaf leaf) (token.Leaf it) old new fits (leaf_same leaf it) (leaf_same it leaf) (subst (λ t. TakesToken old t new fits) is takes)

-- What follows from a fact about a value holds for each success with that fact.
pub if_ok : {X E : Type 0} {P Q : X → Type 0} → (r : Result X E) → ((x : X) → P x → Q x) → IfOk r P → IfOk r Q
if_ok (Ok x) follows p = follows x p
if_ok (Err e) follows p = p

-- The token that an interned token at a place means.
token_named : (tables : Tables) (tokens : List InternedToken) (list : List TokenTree) (i : ℕ) (t : InternedToken) → AllName tables tokens (map whole list) → slice_get tokens i ≡ Some t
    → (it : TokenTree) × (slice_get list i ≡ Some it) × Names tables t (whole it)
token_named tables [] list i t named at = absurd (cc at)
token_named tables (s ∷ tokens) [] i t named at = absurd named
token_named tables (s ∷ tokens) (it ∷ list) zero t named at =
    let is : s ≡ t = cc at in
    (it, refl, subst (λ x. Names tables x (whole it)) is named.0)
token_named tables (s ∷ tokens) (it ∷ list) (suc i) t named at = token_named tables tokens list i t named.1 at

-- There are as many tokens as interned ones.
pub long_as : (tables : Tables) (tokens : List InternedToken) (list : List TokenTree) → AllName tables tokens (map whole list) → length tokens ≡ length list
long_as tables tokens list named = length-named tables tokens (map whole list) named ∙ length-map list whole

-- the tokens that these mean are whole exactly if those from an index on complete the levels
abbrev pub AsksLevels : (tokens : List InternedToken) (index : ℕ) (levels : List ℕ) → Type 0
AsksLevels tokens index levels =
    (tables : Tables) (list : List TokenTree) → AllName tables tokens (map whole list) → IsWhole list ↔ AreLevels (drop index list) levels

-- The same at the first one.
pub asks_first : (tokens : List InternedToken) (levels : List ℕ) → levels ≡ length tokens ∷ [] → AsksLevels tokens 0 levels
asks_first tokens levels is tables list named =
    let one = one_level list in
    subst (λ ls. IsWhole list ↔ AreLevels list ls) (sym (is ∙ ap (λ n. n ∷ []) (long_as tables tokens list named))) (one.1, one.0)

-- The same after one that fits.
pub asks_next : (tokens : List InternedToken) (index : ℕ) (t : InternedToken) (old new : List ℕ) → slice_get tokens index ≡ Some t → AsksLevels tokens index old
    → ((tables : Tables) (it : TokenTree) → Names tables t (whole it) → TakesToken old it new true) → AsksLevels tokens (index + 1) new
asks_next tokens index t old new at asks takes tables list named =
    let (it, there, one) = token_named tables tokens list index t named at in
    walk_on list index it old new (slice_get_within list index it there) (sym (get_or_from_slice_get list index it it there)) (asks tables list named) (takes tables it one)

-- The same at the end.
pub asks_last : (tokens : List InternedToken) (index : ℕ) (levels : List ℕ) → length tokens ≤ index → AsksLevels tokens index levels → AreLevels [] levels
    → (tables : Tables) (list : List TokenTree) → AllName tables tokens (map whole list) → IsWhole list
asks_last tokens index levels ended asks done tables list named =
    (asks tables list named).1 (subst (λ l. AreLevels l levels) (sym (drop_all index list (omega (arith, long_as tables tokens list named, ended)))) done)
