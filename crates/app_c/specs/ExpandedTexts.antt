-- What a text expands to with the usual options.
use Rattle.std.specs.Prelude.{◌≡◌, ◌⊎◌, ℕ, false, List, None, IsUtf8, codes, string_bytes}
use Rattle.app_c.specs.Failures.{expand_text_failure}
use Rattle.app_c.specs.Texts.{IsNoText}
use Rattle.app_c.specs.declared.failure.Failure.{Failure}
use Rattle.expand_items.specs.Cfg.{known_of, unknown}
use Rattle.expand_text.specs.Expansion.{IsExpanded, IsExpandTextError, first_fault}
use Rattle.expand_text.specs.declared.fault.ExpandTextError.{ExpandTextError}
use Rattle.expand_text.specs.declared.options.ExpandOptions.{ExpandOptions}
use Rattle.expand_text.specs.declared.text.Expanded.{Expanded}

-- all macros are expanded, at most 128 nested and with 4,000,000 tokens for a call, and no condition is known; `$crate` becomes `crate`,
-- other calls stay as they are, and expansions are laid out
pub record IsUsual (options : ExpandOptions) : Type 0 where
  pub cfg : known_of options.cfg.now ≡ unknown
  pub limit : options.limit ≡ 128
  pub max_tokens : options.max_tokens ≡ 4000000
  pub root : options.root.now ≡ codes "crate"
  pub others : options.everywhere ≡ false
  pub all : options.only ≡ None
  pub laid_out : options.one_line ≡ false

-- the text is that of an expansion without faults
pub record IsTextIn (options : ExpandOptions) (source text : List ℕ) : Type 0 where
  pub expanded : Expanded
  pub is : IsExpanded options source expanded
  pub fine : first_fault expanded.findings.items ≡ None
  pub made : text ≡ string_bytes expanded.text

-- a text expands to this
abbrev pub IsExpandedText : (source text : List ℕ) → Type 0
IsExpandedText source text = IsUtf8 source × ((options : ExpandOptions) × IsUsual options × IsTextIn options source text)

-- an expansion fails, with the reason
abbrev pub IsExpansionFailure : ExpandOptions → (source : List ℕ) → Failure → Type 0
IsExpansionFailure options source failure = (error : ExpandTextError) × IsExpandTextError options source error × (failure ≡ expand_text_failure error)

-- a text expands to nothing, with the reason
abbrev pub IsNotExpanded : (source : List ℕ) → Failure → Type 0
IsNotExpanded source failure = IsNoText source failure ⊎ ((options : ExpandOptions) × IsUsual options × IsExpansionFailure options source failure)
