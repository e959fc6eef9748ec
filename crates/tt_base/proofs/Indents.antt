-- How the indentation of a line grows.
use Rattle.std.proofs.Common.{◌≡◌, ℕ, zero, suc, ◌+◌, [], ◌∷◌, ◌++◌, refl, ap, sym, ◌∙◌, add-one}
use Rattle.tt_base.specs.DebugText.{indent}

-- One level more is two spaces more, at the end too.
pub indent_more : (depth : ℕ) → indent depth ++ (32 ∷ 32 ∷ []) ≡ indent (depth + 1)
indent_more zero = refl
indent_more (suc depth) = ap (λ spaces. 32 ∷ 32 ∷ spaces) (indent_more depth ∙ ap indent (add-one depth)) ∙ ap indent (sym (add-one (suc depth)))
