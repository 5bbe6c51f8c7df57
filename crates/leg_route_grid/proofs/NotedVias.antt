-- The first vias that lead from each routing layer to the next one above, noted while the vias are gone through.
use Rattle.std.proofs.Common.{◌≡◌, ℕ, ◌+◌, ◌<◌, ◌≤◌, inl, inr, Bool, true, false, List, length, get_or, set, Option, None, Some, slice_get, refl, sym, ap, ◌∙◌, arith}
use Rattle.std.specs.Option.{unwrap_or, option_or}
use Rattle.std.proofs.lemmas.Bool.{cases_eq}
use Rattle.std.proofs.lemmas.List.{length-set, get_or-set_same, get_or-set_other}
use Rattle.std.proofs.lemmas.Option.{same_Some, slice_get_within, slice_get-get_or, get_or_from_slice_get}
use Rattle.leg_lib_records.specs.Records.{LibraryModel, ViaModel}
use Rattle.leg_route_grid.specs.declared.layers.RoutingLayer.{RoutingLayer}
use Rattle.leg_route_grid.specs.Steps.Grid.{IsViaIfAny}
use Rattle.leg_route_grid.specs.Steps.Joining.{JoinsNodes, JoinsAt, IsFirstBelow, IsFirstIfAny, AreFirstVias}
use Rattle.leg_route_grid.proofs.FirstVia.{none_more, none_at_all, first_default, first_of_all}

-- one via more, of which it doesn't hold
skipped : (Holds : ViaModel → Type 0) (vias : List ViaModel) (n : ℕ) (via : ViaModel) (first : Option ℕ) → slice_get vias n ≡ Some via → ¬ Holds via
    → IsFirstBelow Holds vias n first → IsFirstBelow Holds vias (n + 1) first
skipped Holds vias n via None there other none = none_more Holds vias n via there other none
skipped Holds vias n via (Some k) there other first = first

-- or of which it does
noted : (Holds : ViaModel → Type 0) (vias : List ViaModel) (n : ℕ) (via : ViaModel) (first : Option ℕ) → slice_get vias n ≡ Some via → Holds via
    → IsFirstBelow Holds vias n first → IsFirstBelow Holds vias (n + 1) (Some (unwrap_or first n))
noted Holds vias n via None there holds none = record { via = via; there = there; holds = holds; none_before = none }
noted Holds vias n via (Some k) there holds first = first

module _ (library : LibraryModel) (layers : List RoutingLayer) (only_default : Bool) where
  -- all vias were looked at
  pub all_noted : (n : ℕ) (firsts : List (Option ℕ)) → length library.vias ≤ n → AreFirstVias library layers only_default n firsts
      → AreFirstVias library layers only_default (length library.vias) firsts
  all_noted n firsts most are = record {
    count = are.count;
    each = λ k first at. by k first (are.each k first at);
  } where
    by : (k : ℕ) (first : Option ℕ) → IsFirstBelow (λ via. JoinsAt library layers only_default via k) library.vias n first
        → IsFirstBelow (λ via. JoinsAt library layers only_default via k) library.vias (length library.vias) first
    by k None none = λ j via below at. none j via (omega (arith, below, most)) at
    by k (Some j) first = first

  module _ (n : ℕ) (via : ViaModel) (there : slice_get library.vias n ≡ Some via) (firsts : List (Option ℕ))
      (are : AreFirstVias library layers only_default n firsts) where
    -- a via that joins no two layers
    pub via_skipped : ((k : ℕ) → ¬ JoinsAt library layers only_default via k) → AreFirstVias library layers only_default (n + 1) firsts
    via_skipped none = record {
      count = are.count;
      each = λ k first at. skipped (λ v. JoinsAt library layers only_default v k) library.vias n via first there (none k) (are.each k first at);
    }

    -- one that joins the layer at this place and the next one above
    pub via_noted : (place : ℕ) → place < length firsts → JoinsAt library layers only_default via place
        → ((k : ℕ) → JoinsAt library layers only_default via k → k ≡ place)
        → AreFirstVias library layers only_default (n + 1) (set firsts place (Some (unwrap_or (get_or firsts place None) n)))
    via_noted place within joins only = record {
      count = length-set firsts place (Some (unwrap_or (get_or firsts place None) n)) ∙ are.count;
      each = λ k first at. elim (cases_eq k place) [
        | inl same ↦
            let old : Option ℕ = get_or firsts place None in
            let new : Option ℕ = Some (unwrap_or old n) in
            let here : IsFirstBelow (λ v. JoinsAt library layers only_default v place) library.vias (n + 1) new =
            noted (λ v. JoinsAt library layers only_default v place) library.vias n via old there joins
            (are.each place old (slice_get-get_or firsts place None within)) in
            let is : new ≡ first =
            sym (get_or-set_same firsts place new None within) ∙ ap (λ m. get_or (set firsts place new) m None) (sym same)
            ∙ get_or_from_slice_get (set firsts place new) k first None at in
            rw (same, ← is) here
        | inr differ ↦
            let low : k < length firsts = let upto = slice_get_within (set firsts place (Some (unwrap_or (get_or firsts place None) n))) k first at in
            omega (arith, upto, length-set firsts place (Some (unwrap_or (get_or firsts place None) n))) in
            let is : get_or firsts k None ≡ first =
            sym (get_or-set_other firsts place k (Some (unwrap_or (get_or firsts place None) n)) None differ)
            ∙ get_or_from_slice_get (set firsts place (Some (unwrap_or (get_or firsts place None) n))) k first None at in
            skipped (λ v. JoinsAt library layers only_default v k) library.vias n via first there (λ also. differ (only k also))
            (are.each k first (slice_get-get_or firsts k None low ∙ ap Some is))
      ];
    }

  module _ (k : ℕ) (low high : RoutingLayer) (at_low : slice_get layers k ≡ Some low) (at_high : slice_get layers (k + 1) ≡ Some high) where
    joins_here : (via : ViaModel) → JoinsAt library layers only_default via k → JoinsNodes library low.number high.number only_default via
    joins_here via at =
        let is_low : at.low ≡ low = same_Some at.low low (sym at.at_low ∙ at_low) in
        let is_high : at.high ≡ high = same_Some at.high high (sym at.at_high ∙ at_high) in
        rw (is_low, is_high) at at.joins

    joins_there : (via : ViaModel) → JoinsNodes library low.number high.number only_default via → JoinsAt library layers only_default via k
    joins_there via joins = record { low = low; high = high; at_low = at_low; at_high = at_high; joins = joins }

    -- the first of all vias
    pub first_there : (first : Option ℕ) → IsFirstBelow (λ via. JoinsAt library layers only_default via k) library.vias (length library.vias) first
        → IsFirstIfAny library low.number high.number only_default first
    first_there None none =
        λ via there joins. none_at_all (λ v. JoinsAt library layers only_default v k) library.vias (length library.vias) (omega arith) none via there
        (joins_there via joins)
    first_there (Some j) first = record {
      via = first.via;
      there = first.there;
      holds = joins_here first.via first.holds;
      none_before = λ i other before at joins. first.none_before i other before at (joins_there other joins);
    }

module _ (library : LibraryModel) (layers : List RoutingLayer) (defaults others : List (Option ℕ))
    (are_defaults : AreFirstVias library layers true (length library.vias) defaults)
    (are_others : AreFirstVias library layers false (length library.vias) others) where
  -- the first default via, or the first one of all
  pub via_of_both : (k : ℕ) (default_via other : Option ℕ) → slice_get defaults k ≡ Some default_via → slice_get others k ≡ Some other
      → (low high : RoutingLayer) → slice_get layers k ≡ Some low → slice_get layers (k + 1) ≡ Some high
      → IsViaIfAny library low.number high.number (option_or default_via other)
  via_of_both k default_via other default_at other_at low high at_low at_high =
      either default_via (first_there library layers true k low high at_low at_high default_via (are_defaults.each k default_via default_at)) where
        first : IsFirstIfAny library low.number high.number false other
        first = first_there library layers false k low high at_low at_high other (are_others.each k other other_at)

        either : (found : Option ℕ) → IsFirstIfAny library low.number high.number true found → IsViaIfAny library low.number high.number (option_or found other)
        either None none = first_of_all library low.number high.number other none first
        either (Some j) is = first_default library low.number high.number j (Some j) refl is
