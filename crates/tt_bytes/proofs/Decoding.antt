-- The tokens that are decoded in the packed bytes of a tree.
use Rattle.std.proofs.Common.{◌≡◌, ℕ, ◌+◌, ◌<◌, List, length, drop, Option, Some, ap, ap₂, sym, subst, arith}
use Rattle.std.proofs.lemmas.List.{take_all}
use Rattle.tt_base.specs.declared.span.SpanPart.{SpanPart}
use Rattle.tt_base.specs.declared.token_tree.TokenTree.{TokenTree}
use Rattle.tt_base.specs.Forest.{Forest, Root, only}
use Rattle.tt_base.specs.Moves.{first_token, after_token}
use Rattle.tt_bytes.specs.Decoding.{GivesToken}
use Rattle.tt_codec.specs.declared.entry.Entry.{Entry}
use Rattle.tt_codec.specs.declared.entry.Entry.TheVariants.{Leaf as of_leaf, Header as of_header}
use Rattle.tt_codec.specs.Entry.{entry_at}
use Rattle.tt_tables.specs.Meaning.{IsAhead}
use Rattle.tt_tables.specs.Searches.{first_entries}
use Rattle.tt_tables.specs.Stored.{packed, IsInRange, IsWithinLimits}
use Rattle.tt_tables.specs.Tables.{Tables, tables_from}
use Rattle.tt_tables.proofs.Ahead.{leaf_is_ahead, node_is_ahead}
use Rattle.tt_pack.proofs.Moves.{leaf_in_range_ahead, node_in_range_ahead, start_is_ahead}

-- the token that was decoded at an offset is the first one ahead
pub record IsFirstAt (tables : Tables) (all : List ℕ) (offset : ℕ) (trees : Forest) (rest : List ℕ) (result : Option TokenTree) : Type 0 where
  pub it : TokenTree
  pub found : result ≡ Some it
  pub first : first_token trees ≡ Some it
  pub passed : offset + length rest < length all
  pub behind : (next : ℕ) → next + length rest ≡ length all → IsAhead tables all next (after_token trees)

-- Numbers that are read take some bytes, if trees are ahead.
pub passes : (tables : Tables) (all : List ℕ) (offset : ℕ) (trees : Forest) → IsAhead tables all offset trees → (entry : Entry) (rest : List ℕ)
    → entry_at (drop offset all) ≡ Some (entry, rest) → offset + length rest < length all
passes tables all offset trees ahead (of_leaf entry) rest e = (leaf_is_ahead tables all offset trees entry rest ahead e).passed
passes tables all offset trees ahead (of_header entry) rest e = (node_is_ahead tables all offset trees entry rest ahead e).passed

-- They are the numbers of the first token.
pub first_at : (tables : Tables) (all : List ℕ) (offset : ℕ) (trees : Forest) → IsAhead tables all offset trees → (entry : Entry) (rest : List ℕ) (result : Option TokenTree)
    → entry_at (drop offset all) ≡ Some (entry, rest) → GivesToken tables entry result → IsFirstAt tables all offset trees rest result
first_at tables all offset trees ahead (of_leaf entry) rest result e gives =
    let l = leaf_is_ahead tables all offset trees entry rest ahead e in
    let range = (leaf_in_range_ahead tables all offset l.it l.behind (subst (IsAhead tables all offset) l.is ahead)).0 in
    record {
      it = _;
      found = gives l.it l.finds range;
      first = ap first_token l.is;
      passed = l.passed;
      behind = λ next moved. subst (IsAhead tables all next) (sym (ap after_token l.is)) (l.after next moved);
    }
first_at tables all offset trees ahead (of_header entry) rest result e gives =
    let n = node_is_ahead tables all offset trees entry rest ahead e in
    let range = (node_in_range_ahead tables all offset n.delimiter n.children n.behind (subst (IsAhead tables all offset) n.is ahead)).0 in
    record {
      it = _;
      found = gives _ n.finds range;
      first = ap first_token n.is;
      passed = n.passed;
      behind = λ next moved. subst (IsAhead tables all next) (sym (ap after_token n.is)) (n.inside next moved);
    }

-- The tables of a tree have no more entries than indices can name.
pub root_ahead : (root : Root) (all : List ℕ) (parts : List SpanPart) (symbols : List (List ℕ)) → IsInRange root → IsWithinLimits root
    → parts ≡ (packed root).parts → symbols ≡ (packed root).symbols → all ≡ (packed root).bytes → IsAhead (first_entries parts symbols) all 0 (only root)
unfolding packed
root_ahead root all parts symbols range limits same_parts same_symbols same_bytes =
    subst (λ t. IsAhead t all 0 (only root)) (sym few) (start_is_ahead root all parts symbols range limits same_bytes same_parts same_symbols)
  where
    few : first_entries parts symbols ≡ tables_from parts symbols
    few =
        ap₂ tables_from (take_all 268435456 parts (omega (arith, limits.parts, ap length same_parts)))
        (take_all 536870912 symbols (omega (arith, limits.symbols, ap length same_symbols)))
