-- The expansion of a text, for the bytes that spell the text.
use Rattle.std.proofs.Common.{◌≡◌, ◌⊎◌, ℕ, List, None, inl, inr, refl, subst}
use Rattle.std.specs.Prelude.{IsUtf8, string_bytes}
use Rattle.app_c.specs.ExpandedTexts.{IsExpandedText, IsNotExpanded, IsUsual}
use Rattle.app_c.specs.Conditions.{IsNotSaid}
use Rattle.app_c.specs.Failures.{expand_text_failure, placeless}
use Rattle.app_c.specs.Listings.{AreAsked, IsListed, IsListingOf, IsNotListed}
use Rattle.app_c.specs.declared.asked.Asked.{Asked}
use Rattle.app_c.specs.declared.failure.Failure.{Failure}
use Rattle.app_c.specs.declared.fault.Fault.TheVariants as answer
use Rattle.expand_text.specs.Expansion.{IsExpanded, IsExpandTextError, IsLenientError, first_fault}
use Rattle.expand_text.specs.declared.fault.ExpandTextError.{ExpandTextError}
use Rattle.expand_text.specs.declared.options.ExpandOptions.{ExpandOptions}
use Rattle.expand_text.specs.declared.text.Expanded.{Expanded}

-- A text is expanded with the usual options.
pub is_expanded : (options : ExpandOptions) (source text : List ℕ) (expanded : Expanded) → IsUsual options → text ≡ source → IsUtf8 source
    → IsExpanded options text expanded → first_fault expanded.findings.items ≡ None → IsExpandedText source (string_bytes expanded.text)
is_expanded options source text expanded usual same utf8 is fine =
    (utf8, (options, usual, record { expanded = expanded; is = subst (λ t. IsExpanded options t expanded) same is; fine = fine; made = refl }))

-- A text is not expanded with the usual options.
pub not_expanded : (options : ExpandOptions) (source text : List ℕ) (error : ExpandTextError) (failure : Failure) → IsUsual options → text ≡ source
    → IsExpandTextError options text error → failure ≡ expand_text_failure error → IsNotExpanded source failure
not_expanded options source text error failure usual same is made =
    inr (options, usual, (error, subst (λ t. IsExpandTextError options t error) same is, made))

-- A text is expanded with the options of a caller.
pub is_listed : (asked : Asked) (options : ExpandOptions) (source text bytes words : List ℕ) (expanded : Expanded) → text ≡ source → IsUtf8 source
    → IsUtf8 asked.root.now → IsUtf8 asked.only.now → IsUtf8 asked.cfg.now → AreAsked asked options → IsExpanded options text expanded
    → IsListingOf expanded bytes words → IsListed source asked bytes words
is_listed asked options source text bytes words expanded same source_utf8 root_utf8 only_utf8 cfg_utf8 are is listing =
    record {
      source_utf8 = source_utf8;
      root_utf8 = root_utf8;
      only_utf8 = only_utf8;
      cfg_utf8 = cfg_utf8;
      options = options;
      are = are;
      expanded = expanded;
      is = subst (λ t. IsExpanded options t expanded) same is;
      listing = listing;
    }

-- A text is not read as trees, or memory runs out.
pub not_read : (asked : Asked) (options : ExpandOptions) (source text : List ℕ) (error : ExpandTextError) (failure : Failure) → text ≡ source → AreAsked asked options
    → IsLenientError options text error → failure ≡ expand_text_failure error → IsNotListed source asked failure
not_read asked options source text error failure same are is made =
    inr (inr (inr (options, are, (error, subst (λ t. IsLenientError options t error) same is, made))))

-- Memory runs out.
pub no_memory : (asked : Asked) (source : List ℕ) (failure : Failure) → failure ≡ placeless answer.Memory → IsNotListed source asked failure
no_memory asked source failure is = inl is

-- Nothing is said of conditions.
pub not_said : (asked : Asked) (source : List ℕ) (failure : Failure) → IsUtf8 source → IsUtf8 asked.root.now → IsUtf8 asked.only.now
    → IsNotSaid asked.cfg.now failure ⊎ (failure ≡ placeless answer.Memory) → IsNotListed source asked failure
not_said asked source failure source_utf8 root_utf8 only_utf8 (inl none) = inr (inr (inl (source_utf8, root_utf8, only_utf8, none)))
not_said asked source failure source_utf8 root_utf8 only_utf8 (inr memory) = no_memory asked source failure memory
