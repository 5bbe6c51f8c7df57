-- The first via that joins two layers.
use Rattle.std.proofs.Common.{◌≡◌, ℕ, ◌+◌, ◌<◌, ◌≤◌, ◌⊎◌, inl, inr, true, false, List, Contains, length, get_or, Option, None, Some, slice_get, refl, sym, ap, ◌∙◌, arith}
use Rattle.std.proofs.lemmas.Option.{same_Some, slice_get-get_or, slice_get_within, slice_get_read}
use Rattle.std.proofs.lemmas.Bool.{cases_order}
use Rattle.leg_lib_records.specs.Records.{LibraryModel, ViaModel}
use Rattle.leg_rules.specs.Route.Between.{JoinsLayers, JoinsByDefault, IsFirst, IsVia}
use Rattle.leg_route_grid.specs.Steps.Grid.{IsViaIfAny}
use Rattle.leg_route_grid.specs.Steps.Joining.{IsFirstIfAny}

pub via_read : (vias : List ViaModel) (i : ℕ) (via : ViaModel) → i < length vias → via ≡ get_or vias i via → slice_get vias i ≡ Some via
via_read vias i via within is = slice_get_read vias (length vias) i via refl within is

module _ (Holds : ViaModel → Type 0) (vias : List ViaModel) where
  -- of none of the first vias does it hold
  abbrev pub NoneBelow : ℕ → Type 0
  NoneBelow i = (j : ℕ) (other : ViaModel) → j < i → slice_get vias j ≡ Some other → ¬ Holds other

  pub none_more : (i : ℕ) (via : ViaModel) → slice_get vias i ≡ Some via → ¬ Holds via → NoneBelow i → NoneBelow (i + 1)
  none_more i via there other none j via' below at_j = by (cases_order j i) at_j where
    by : (j ≡ i) ⊎ ((j < i) ⊎ (i < j)) → slice_get vias j ≡ Some via' → ¬ Holds via'
    by (inl same) at_j = let is : via ≡ via' = same_Some via via' (sym there ∙ ap (slice_get vias) (sym same) ∙ at_j) in rw (← is) other
    by (inr (inl less)) at_j = none j via' less at_j
    by (inr (inr more)) at_j = absurd (omega (arith, below, more))

  pub none_at_all : (i : ℕ) → length vias ≤ i → NoneBelow i → (via : ViaModel) → Contains vias via → ¬ Holds via
  none_at_all i all none via there = none there.0 via (omega (arith, all, there.1)) (slice_get-get_or vias there.0 via there.1 ∙ ap Some there.2)

  -- there is one first
  pub one_first : (k j : ℕ) → IsFirst Holds vias k → IsFirst Holds vias j → k ≡ j
  one_first k j first other = by (cases_order k j) where
    by : (k ≡ j) ⊎ ((k < j) ⊎ (j < k)) → k ≡ j
    by (inl same) = same
    by (inr (inl less)) = absurd (other.none_before k first.via less first.there first.holds)
    by (inr (inr more)) = absurd (first.none_before j other.via more other.there other.holds)

  pub first_is_there : (k : ℕ) → (first : IsFirst Holds vias k) → Contains vias first.via
  first_is_there k first = let within = slice_get_within vias k first.via first.there in
      (k, within, let e : Some (get_or vias k first.via) ≡ Some first.via = sym (slice_get-get_or vias k first.via within) ∙ first.there in same_Some _ _ e)

module _ (library : LibraryModel) (low high : ℕ) where
  -- one via leads from one layer to the other
  pub one_via : (k j : ℕ) → IsVia library low high k → IsVia library low high j → k ≡ j
  one_via k j (inl first) (inl other) = one_first (JoinsByDefault library low high) library.vias k j first other
  one_via k j (inl first) (inr other) = absurd (other.no_default first.via (first_is_there (JoinsByDefault library low high) library.vias k first) first.holds)
  one_via k j (inr first) (inl other) = absurd (first.no_default other.via (first_is_there (JoinsByDefault library low high) library.vias j other) other.holds)
  one_via k j (inr first) (inr other) = one_first (JoinsLayers library low high) library.vias k j first.first other.first

  pub first_default : (k : ℕ) (first : Option ℕ) → first ≡ Some k → IsFirstIfAny library low high true first → IsVia library low high k
  first_default k first is found = inl (rw is at found)

  pub first_of_all : (found : Option ℕ) → ((via : ViaModel) → Contains library.vias via → ¬ JoinsByDefault library low high via)
      → IsFirstIfAny library low high false found → IsViaIfAny library low high found
  first_of_all None no_default none = λ k. by k where
    by : (k : ℕ) → ¬ IsVia library low high k
    by k (inl first) = no_default first.via (first_is_there (JoinsByDefault library low high) library.vias k first) first.holds
    by k (inr first) = none first.first.via (first_is_there (JoinsLayers library low high) library.vias k first.first) first.first.holds
  first_of_all (Some k) no_default first = inr (record { no_default = no_default; first = first })
