-- Open nets that are left, by their places in the list of all of them.
use Rattle.std.proofs.Common.{◌≡◌, ◌≢◌, ◌<◌, ◌≤◌, ℕ, zero, suc, List, [], ◌∷◌, All, AllPairs, length, get_or, refl, ap, subst, ◌∙◌, arith}
use Rattle.std.specs.List.{AllZip}
use Rattle.std.proofs.lemmas.List.Elements.{All-get_or, AllZip-get_or, length_all_zip}
use Rattle.std.proofs.lemmas.Option.{slice_get_within, get_or_from_slice_get}
use Rattle.leg_design_records.specs.Records.{DesignModel}
use Rattle.leg_rules.specs.Metal.Flat.{FlatModel}
use Rattle.leg_rules.specs.Joins.Violations.{IsOpenNet}
use Rattle.leg_finish.specs.declared.groups.OpenNet.{OpenNet}
use Rattle.leg_rules.specs.Finish.Reach.{AreReachable}
use Rattle.leg_rules.specs.Finish.Refusal.{AreUnfinished}
use Rattle.leg_finish.specs.Steps.OpenNets.{IsOpenWith, AreOpenNets}
use Rattle.leg_finish.specs.Steps.Places.{ArePlacesIn, IsNetAt}

module _ {A : Type 0} (design : DesignModel) (flat : FlatModel) (nets : List (OpenNet A)) (are : AreOpenNets design flat nets) where
  -- there are no more open nets than entries
  at_least : (k : ℕ) (d : OpenNet A) → k < length nets → k ≤ (get_or nets k d).net
  at_least zero d low = omega arith
  at_least (suc k) d low =
      let before = at_least k d (omega (arith, low)) in
      let next = are.increasing k (suc k) d (omega arith) low in
      omega (arith, before, next)

  open_at : (k : ℕ) (d : OpenNet A) → k < length nets → IsOpenNet design flat (get_or nets k d).net
  open_at k d low = (All-get_or (IsOpenWith design flat) nets k d low are.each).is_open

  pub few_open : length nets ≤ length design.nets
  few_open = by nets refl where
    by : (all : List (OpenNet A)) → nets ≡ all → length nets ≤ length design.nets
    by [] is = rw is (omega arith)
    by (first ∷ rest) is =
        let long : length nets ≡ suc (length rest) = ap length is in
        let low : length rest < length nets = omega (arith, long) in
        let least = at_least (length rest) first low in
        let entry = (open_at (length rest) first low).1.net in
        omega (arith, long, least, entry)

  module _ (places numbers : List ℕ) (places_are : ArePlacesIn (length nets) places) (all : AllZip (IsNetAt nets) places numbers) where
    same_length : length places ≡ length numbers
    same_length = length_all_zip (IsNetAt nets) places numbers all

    at : (k d : ℕ) → k < length numbers → IsNetAt nets (get_or places k d) (get_or numbers k d)
    at k d low = AllZip-get_or (IsNetAt nets) places numbers k d d all (omega (arith, low, same_length))

    some : (ps ns : List ℕ) → AllZip (IsNetAt nets) ps ns → ps ≢ [] → ns ≢ []
    some [] ns zip is_some = absurd (is_some refl)
    some (p ∷ ps) [] zip is_some = absurd zip
    some (p ∷ ps) (n ∷ ns) zip is_some = λ same. let e : ⊥ = cc in e

    increasing : AllPairs (λ a b. a < b) numbers
    increasing i j d less low =
        let a = at i d (omega (arith, less, low)) in
        let b = at j d low in
        let before = places_are.increasing i j d less (omega (arith, low, same_length)) in
        let within = slice_get_within nets (get_or places j d) b.one b.there in
        let order = are.increasing (get_or places i d) (get_or places j d) a.one before within in
        let first : get_or nets (get_or places i d) a.one ≡ a.one = get_or_from_slice_get nets (get_or places i d) a.one a.one a.there in
        let second : get_or nets (get_or places j d) a.one ≡ b.one = get_or_from_slice_get nets (get_or places j d) b.one a.one b.there in
        let order : a.one.net < b.one.net = rw (first, second) at order in
        rw (← a.is, ← b.is) order

    open_all : All (IsOpenNet design flat) numbers
    open_all k d low =
        let a = at k d low in
        let within = slice_get_within nets (get_or places k d) a.one a.there in
        let here = open_at (get_or places k d) a.one within in
        let is : get_or nets (get_or places k d) a.one ≡ a.one = get_or_from_slice_get nets (get_or places k d) a.one a.one a.there in
        subst (IsOpenNet design flat) (ap (λ (one : OpenNet A). one.net) is ∙ a.is) here

    pub are_unfinished : AreReachable design flat → AreUnfinished design flat numbers
    are_unfinished reachable = record {
      some = some places numbers all places_are.some;
      increasing = increasing;
      are_open = open_all;
      reachable = reachable;
    }
