-- Numbers of nets.
use Rattle.std.proofs.Common.{◌≡◌, ℕ, ◌+◌, ◌<◌, nat_lt, Bool, true, false, List, [], ◌∷◌, ◌++◌, length, length-append, get_or, slice_get, Option, None, Some, Fits, w32, refl, sym, ap, ◌∙◌, arith}
use Rattle.std.proofs.lemmas.Bool.Decides.{nat_tests}
use Rattle.std.proofs.lemmas.List.{get_or_append_left, length-map}
use Rattle.std.proofs.lemmas.Option.{get_or_from_slice_get, slice_get-get_or}
use Rattle.std.proofs.Math.Seq.{get_or-append_seam}
use Rattle.leg_lex.specs.NameLookup.{place_of}
use Rattle.leg_lex.proofs.NameLookup.{place_stands}
use Rattle.leg_design_records.specs.Records.{DesignModel, NetModel, net_names}
use Rattle.leg_design_records.specs.WellFormedNets.{HasNets}
use Rattle.leg_rules.specs.Metal.Nets.{number_of_special}

-- each is below the number of all entries
pub number_within : (design : DesignModel) (k : ℕ) (net : NetModel) → k < length design.special
    → number_of_special design k net < length design.nets + length design.special
number_within design k net less = by (place_of net.name (net_names design.nets)) refl where
  by : (o : Option ℕ) → place_of net.name (net_names design.nets) ≡ o → number_of_special design k net < length design.nets + length design.special
  by None none = rw none (omega arith)
  by (Some i) found =
      let stands = place_stands net.name (net_names design.nets) i found in
      rw found (omega (arith, stands.within, length-map design.nets (λ (n : NetModel). n.name)))

pub number_fits : (design : DesignModel) (k : ℕ) (net : NetModel) (n : ℕ) → HasNets design → k < length design.special → n ≡ number_of_special design k net
    → Fits w32 n
number_fits design k net n has less is =
    rw is (omega (arith, number_within design k net less, has.few))

-- one more entry's
pub number_more : (design : DesignModel) (numbers : List ℕ) (k n : ℕ) (net : NetModel) → length numbers ≡ k
    → ((j : ℕ) (other : NetModel) → j < k → slice_get design.special j ≡ Some other → slice_get numbers j ≡ Some (number_of_special design j other))
    → net ≡ get_or design.special k net → n ≡ number_of_special design k net → (j : ℕ) (other : NetModel) → j < k + 1
    → slice_get design.special j ≡ Some other → slice_get (numbers ++ n ∷ []) j ≡ Some (number_of_special design j other)
number_more design numbers k n net count each there is j other less at = by (nat_lt j k) refl where
  within : j < length (numbers ++ n ∷ [])
  within = omega (arith, length-append numbers (n ∷ []))

  by : (before : Bool) → nat_lt j k ≡ before → slice_get (numbers ++ n ∷ []) j ≡ Some (number_of_special design j other)
  by true before =
      let below : j < k = grind (arith, nat_tests, before) in
      let inside : j < length numbers = omega arith in
      slice_get-get_or (numbers ++ n ∷ []) j 0 within
      ∙ ap Some (get_or_append_left numbers (n ∷ []) 0 j inside)
      ∙ sym (slice_get-get_or numbers j 0 inside)
      ∙ each j other below at
  by false last =
      let here : j ≡ k = grind (arith, nat_tests, last) in
      let it : other ≡ net = sym (get_or_from_slice_get design.special j other net at) ∙ rw here (sym there) in
      let end : j ≡ length numbers = here ∙ sym count in
      slice_get-get_or (numbers ++ n ∷ []) j 0 within
      ∙ ap Some (rw end (get_or-append_seam numbers n [] 0) ∙ is ∙ rw (it, here) refl)
