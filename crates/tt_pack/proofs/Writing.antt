-- Steps of the writer, from the last token to the first.
use Rattle.std.proofs.Common.{◌≡◌, ◌⊎◌, inl, inr, ℕ, zero, suc, ◌+◌, ◌-◌, ◌<◌, ◌≤◌, List, [], ◌∷◌, ◌++◌, length, drop, get_or, refl, ap, ap₂, sym, subst, ◌∙◌, arith, length-append}
use Rattle.std.specs.List.{AllByRecursion}
use Rattle.std.proofs.lemmas.List.{get_or_append_left, get_or_push, drop_more}
use Rattle.tt_base.specs.declared.delimiter.Subtree.{Subtree}
use Rattle.tt_base.specs.declared.fault.TtFault.{TtFault}
use Rattle.tt_base.specs.declared.fault.TtFault.TheVariants.{Memory, TooManyBytes}
use Rattle.tt_base.specs.declared.token_tree.TokenTree.{TokenTree}
use Rattle.tt_base.specs.declared.token_tree.TokenTree.TheVariants as token
use Rattle.tt_codec.specs.declared.entry.Entry.{Entry}
use Rattle.tt_codec.specs.Entry.{entry_bytes}
use Rattle.tt_base.specs.Fits.{TokenInRange}
use Rattle.tt_base.specs.Forest.{IsWhole}
use Rattle.tt_tables.specs.Stored.{bytes}
use Rattle.tt_tables.specs.Tables.{Tables, entry_of, token_bytes}
use Rattle.tt_base.specs.Unflat.{unflat}
use Rattle.tt_tables.proofs.HeaderFirst.{header_first}
use Rattle.tt_base.proofs.EndPieces.{header_within}
use Rattle.tt_base.proofs.WholeLists.{end_piece}
use Rattle.tt_pack.specs.Writing.{byte_count, child_bytes, first_child_bytes, byte_sums, CanHold, held_bytes, IsEntryAt, IsWritten}

-- The bytes of a whole list are those of its first token, and then of the others.
pub first_written : (tables : Tables) (it : TokenTree) (others : List TokenTree) → IsWhole (it ∷ others)
    → bytes tables (unflat (it ∷ others)) ≡ token_bytes tables it (child_bytes tables it others) ++ bytes tables (unflat others)
unfolding bytes
first_written tables (token.Leaf it) others w = refl
first_written tables (token.Subtree it) others w = header_first tables it others w

-- There is a sum for the last n tokens for each n, also for none.
pub byte_sums-length : (tables : Tables) (tokens : List TokenTree) → length (byte_sums tables tokens) ≡ suc (length tokens)
byte_sums-length tables [] = refl
byte_sums-length tables (it ∷ others) =
    omega (arith, length-append (byte_sums tables others) (byte_count tables (it ∷ others) ∷ []), byte_sums-length tables others)

-- The sum for the tokens after the first n.
pub sum_behind : (tables : Tables) (tokens : List TokenTree) (n : ℕ) → n ≤ length tokens
    → get_or (byte_sums tables tokens) (length tokens - n) 0 ≡ byte_count tables (drop n tokens)
unfolding bytes
sum_behind tables [] zero h =
    let index : 0 - 0 ≡ 0 = omega arith in
    ap (λ i. get_or (0 ∷ []) i 0) index
sum_behind tables [] (suc n) h = absurd (omega arith)
sum_behind tables (it ∷ others) zero h =
    let index : suc (length others) - 0 ≡ suc (length others) = omega arith in
    ap (λ i. get_or (byte_sums tables others ++ byte_count tables (it ∷ others) ∷ []) i 0) index
    ∙ get_or_push (byte_sums tables others) (byte_count tables (it ∷ others)) 0 (suc (length others)) (byte_sums-length tables others)
sum_behind tables (it ∷ others) (suc n) h =
    let index : suc (length others) - suc n ≡ length others - n = omega arith in
    ap (λ i. get_or (byte_sums tables others ++ byte_count tables (it ∷ others) ∷ []) i 0) index
    ∙ get_or_append_left (byte_sums tables others) (byte_count tables (it ∷ others) ∷ []) 0 (length others - n)
    (omega (arith, byte_sums-length tables others))
    ∙ sum_behind tables others n (omega arith)

-- One more token takes no fewer bytes.
pub sum_grows : (tables : Tables) (it : TokenTree) (others : List TokenTree) → IsWhole (it ∷ others)
    → byte_count tables others ≤ byte_count tables (it ∷ others)
sum_grows tables it others w =
    omega (
      arith,
      ap length (first_written tables it others w),
      length-append (token_bytes tables it (child_bytes tables it others)) (bytes tables (unflat others)),
    )

-- The last tokens take no more bytes than the list.
pub piece_within : (tables : Tables) (n : ℕ) (tokens : List TokenTree) → IsWhole tokens → byte_count tables (drop n tokens) ≤ byte_count tables tokens
piece_within tables zero tokens w = omega arith
piece_within tables (suc n) [] w = omega arith
piece_within tables (suc n) (it ∷ others) w =
    omega (arith, piece_within tables n others (end_piece 1 (it ∷ others) w), sum_grows tables it others w)

-- The token at an index comes before all after it.
pub piece_at : (tokens : List TokenTree) (index : ℕ) (it : TokenTree) → index < length tokens → it ≡ get_or tokens index it
    → drop index tokens ≡ it ∷ drop (index + 1) tokens
piece_at tokens index it h e = drop_more tokens index it h ∙ ap (λ first. first ∷ drop (index + 1) tokens) (sym e)

-- All tokens below a header are written, and take as many bytes as are counted.
pub header_holds : (tables : Tables) (tokens : List TokenTree) (index : ℕ) (it : Subtree) (counts : List ℕ) → index < length tokens → IsWhole (drop index tokens)
    → token.Subtree it ≡ get_or tokens index (token.Subtree it) → counts ≡ byte_sums tables (drop (index + 1) tokens)
    → CanHold counts it.len × (held_bytes counts it.len ≡ first_child_bytes tables (drop index tokens))
header_holds tables tokens index it counts h w read sums = (
  (omega (arith, long, within), omega (arith, last, earlier, piece_within tables it.len others (end_piece 1 (token.Subtree it ∷ others) whole))),
  ap₂ ◌-◌ last earlier ∙ sym (ap (first_child_bytes tables) here),
)
  where
    others : List TokenTree
    others = drop (index + 1) tokens

    here : drop index tokens ≡ token.Subtree it ∷ others
    here = piece_at tokens index (token.Subtree it) h read

    whole : IsWhole (token.Subtree it ∷ others)
    whole = subst IsWhole here w

    within : it.len ≤ length others
    within = header_within it others whole

    long : length counts ≡ suc (length others)
    long = ap length sums ∙ byte_sums-length tables others

    last : get_or counts (length counts - 1) 0 ≡ byte_count tables others
    last = ap₂ (λ l i. get_or l i 0) sums (omega (arith, long)) ∙ sum_behind tables others 0 (omega arith)

    earlier : get_or counts (length counts - 1 - it.len) 0 ≡ byte_count tables (drop it.len others)
    earlier = ap₂ (λ l i. get_or l i 0) sums (omega (arith, long)) ∙ sum_behind tables others it.len within

-- why a token is not written
abbrev pub IsWriteFault : ℕ → TtFault → Type 0
IsWriteFault count fault = (fault ≡ Memory) ⊎ ((fault ≡ TooManyBytes) × (4294967295 < count))

-- Bytes that are too many for the last tokens are too many for the list.
pub too_many_in_all : (tables : Tables) (n : ℕ) (tokens : List TokenTree) (fault : TtFault) → IsWhole tokens
    → IsWriteFault (byte_count tables (drop n tokens)) fault → IsWriteFault (byte_count tables tokens) fault
too_many_in_all tables n tokens fault w (inl e) = inl e
too_many_in_all tables n tokens fault w (inr (e, over)) = inr (e, omega (arith, over, piece_within tables n tokens w))

-- The token at an index is put before those after it, which are written.
module _ (tables : Tables) (tokens : List TokenTree) (index : ℕ) (entry : Entry) (within : index < length tokens) (whole : IsWhole (drop index tokens)) (at : IsEntryAt tables tokens index entry)
    (before sums : List ℕ) (written : IsWritten tables (drop (index + 1) tokens) before sums) where
  here : drop index tokens ≡ at.it ∷ drop (index + 1) tokens
  here = piece_at tokens index at.it within at.read

  -- The bytes are then those of the tokens from the index on.
  all : entry_bytes entry ++ before ≡ bytes tables (unflat (drop index tokens))
  all =
      ap₂ ◌++◌ (ap entry_bytes (at.named.is ∙ ap (λ l. entry_of tables at.it (first_child_bytes tables l)) here)) written.bytes
      ∙ sym (ap (λ l. bytes tables (unflat l)) here ∙ first_written tables at.it (drop (index + 1) tokens) (subst IsWhole here whole))

  -- These tokens are then written.
  pub one_put : (after sums' : List ℕ) → after ≡ entry_bytes entry ++ before → length after ≤ 4294967295 → sums' ≡ sums ++ length after ∷ []
      → IsWritten tables (drop index tokens) after sums'
  one_put after sums' is few counted = record {
    bytes = is ∙ all;
    sums = counted ∙ ap₂ (λ l n. l ++ n ∷ []) written.sums (ap length (is ∙ all) ∙ ap (byte_count tables) here) ∙ sym (ap (byte_sums tables) here);
    range = subst (AllByRecursion TokenInRange) (sym here) (at.named.range, written.range);
    few = few;
  }

  -- If the token cannot be put, these tokens cannot be written.
  pub put_fault : (fault : TtFault) → IsWriteFault (length (entry_bytes entry ++ before)) fault → IsWriteFault (byte_count tables (drop index tokens)) fault
  put_fault fault (inl e) = inl e
  put_fault fault (inr (e, over)) = inr (e, omega (arith, over, ap length all))
