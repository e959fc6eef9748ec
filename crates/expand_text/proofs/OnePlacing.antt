-- An expansion is put into its place in one way.
use Rattle.std.proofs.Common.{◌≡◌, ℕ, zero, suc, Bool, true, false, List, ◌∷◌, Option, Some, option_map, refl, ap, ap₂, sym, subst, ◌∙◌, true≢false}
use Rattle.tt.specs.Forest.{Forest}
use Rattle.tt.specs.Gluing.{after_trees}
use Rattle.tt.specs.Types.Delimiter.{Delimiter}
use Rattle.expand_items.proofs.OnePart.{one_part}
use Rattle.expand_items.specs.declared.part.Part.{Part}
use Rattle.expand_items.specs.declared.position.Siblings.{Siblings}
use Rattle.expand_items.specs.Attributes.{conditions_of}
use Rattle.expand_items.specs.Loosening.{loosened, place_of}
use Rattle.expand_items.specs.Parts.{AreParts, ends, stops, goes_on}
use Rattle.expand_items.specs.Spreads.{spread_if, AreUnder}
use Rattle.expand_text.specs.CallSites.{CallSite, IsShown, PutUnder, PutAs, PutIn}

-- Trees are split into parts in one way.
one_split : {its : Siblings} {trees : Forest} {a b : Option (List Part)} → AreParts its trees a → AreParts its trees b → a ≡ b
one_split ends ends = refl
one_split ends (stops some part) = absurd (true≢false some)
one_split ends (goes_on some part others) = absurd (true≢false some)
one_split (stops none part) ends = absurd (true≢false none)
one_split (stops none part) (stops some other) = refl
one_split (stops none part) (goes_on {part = it} some other others) = absurd (cc (one_part part other))
one_split (goes_on none part others) ends = absurd (true≢false none)
one_split (goes_on {part = it} none part others) (stops some other) = absurd (cc (one_part other part))
one_split {its = its} {trees = trees} (goes_on {part = it} none part others) (goes_on {part = that} {others = more} some other behind) =
    let both : Some it ≡ Some that = one_part part other in
    let same : it ≡ that = cc both in
    ap₂ (λ p ps. option_map (λ parts. p ∷ parts) ps) same (one_split others (subst (λ p. AreParts its (after_trees p.len trees) more) (sym same) behind))

-- Trees are put under conditions in one way.
one_under : (its : Siblings) (braces : Delimiter) (conditions trees : Forest) (a b : Option Forest) → AreUnder its braces conditions trees a → AreUnder its braces conditions trees b → a ≡ b
one_under its braces conditions trees a b (parts, are, is) (others, again, was) =
    is ∙ ap (λ ps. spread_if braces conditions ps trees) (one_split are again) ∙ sym was

-- An expansion becomes one thing in its place.
pub one_put : (it : CallSite) (trees : Forest) (a b : Option Forest) → PutAs it trees a → PutAs it trees b → a ≡ b
one_put it trees a b = by it.len
  where
    by : (len : ℕ) → PutUnder len it trees a → PutUnder len it trees b → a ≡ b
    by zero x y = x ∙ sym y
    by (suc more) x y = one_under it.position.siblings it.delimiter (conditions_of it.attributes) trees a b x.1 y.1

-- and is shown in one way.
pub one_shown : (in_text : Bool) (it : CallSite) (trees a b : Forest) → PutIn in_text it trees a → PutIn in_text it trees b → a ≡ b
one_shown in_text it trees a b (put, so, is) (that, thus, was) = by in_text is was
  where
    same : put ≡ that
    same =
        let both = one_put it trees (Some put) (Some that) so thus in
        cc both

    by : (in_text : Bool) → IsShown in_text it put a → IsShown in_text it that b → a ≡ b
    by false x y = x ∙ same ∙ sym y
    by true x y = x.1 ∙ ap (loosened (place_of it.enclosure it.position)) same ∙ sym y.1
