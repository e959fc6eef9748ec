-- What a contract reads of a `Noted`.
use Rattle.std.specs.Prelude.{Bool, ℕ}
use Rattle.app_console.specs.declared.noted.Noted.{Noted}

-- the reader or writer inside
abbrev pub noted_inner : {T : Type 0} → Noted T → T
noted_inner n = n.inner

-- `n.failed()`
abbrev pub noted_failed : {T : Type 0} → Noted T → Bool
noted_failed n = n.failed

-- how many more reads may succeed
abbrev pub reads_left : {T : Type 0} → Noted T → ℕ
reads_left n = n.left
