-- The largest number of bytes that tokens can take. The code takes this room before it writes them.
use Rattle.std.specs.Prelude.{◌≡◌, ◌⊎◌, ℕ, ◌+◌, ◌-◌, ◌<◌, ◌≤◌, ◌^◌, List, [], min, false}
use Rattle.std.specs.List.{sum_by}
use Rattle.tt_base.specs.declared.fault.TtFault.{TtFault}
use Rattle.tt_base.specs.declared.fault.TtFault.TheVariants.{Memory, NotOneSubtree}
use Rattle.tt_base.specs.declared.leaf.Leaf.TheVariants as leaf
use Rattle.tt_base.specs.declared.token_tree.TokenTree.{TokenTree}
use Rattle.tt_base.specs.declared.token_tree.TokenTree.TheVariants as token
use Rattle.tt_base.specs.Levels.{TakesToken}
use Rattle.tt_codec.specs.Leaf.{most_punct_bytes}

-- the largest number of bytes that a token can take, with any tables
abbrev pub most_token_bytes : TokenTree → ℕ
most_token_bytes (token.Leaf (leaf.Literal it)) = 19
most_token_bytes (token.Leaf (leaf.Punct it)) = most_punct_bytes it.char
most_token_bytes (token.Leaf (leaf.Ident it)) = 16
most_token_bytes (token.Subtree it) = 33

-- the largest number of bytes that tokens can take
abbrev pub most_list_bytes : List TokenTree → ℕ
most_list_bytes tokens = sum_by most_token_bytes tokens

-- the tokens have room in a block of this size, or no block can have this size
abbrev pub HasRoomForAll : List TokenTree → ℕ → Type 0
HasRoomForAll tokens size = size < 2 ^ 63 → most_list_bytes tokens ≤ size

-- the room grows by the largest number of bytes that the token can take, up to the largest `usize`
abbrev pub TakesRoom : TokenTree → (old new : ℕ) → Type 0
TakesRoom token old new = new ≡ min (old + most_token_bytes token) (2 ^ 64 - 1)

-- why a token is not counted: memory runs out, or it does not fit the levels
abbrev pub IsTakeFault : (levels : List ℕ) → TokenTree → TtFault → Type 0
IsTakeFault levels token fault = (fault ≡ Memory) ⊎ ((fault ≡ NotOneSubtree) × TakesToken levels token [] false)
