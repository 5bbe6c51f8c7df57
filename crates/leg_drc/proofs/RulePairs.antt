-- The pairs of shapes of which the rules hold, from those that the search finds.
use Rattle.std.proofs.Common.{◌≡◌, ◌<◌, ℕ, List, [], map, length, get_or, Option, None, Some, slice_get, All, unsigned_abs, refl, arith}
use Rattle.std.proofs.lemmas.List.Elements.{All-nil, All-weaker}
use Rattle.std.proofs.lemmas.Option.{slice_get_within}
use Rattle.leg_lemmas.proofs.RisingLists.{AllPairs-nil}
use Rattle.leg_geom.specs.Pairs.{IsPair}
use Rattle.leg_sweep.specs.Pairs.{Before, ArePairs}
use Rattle.leg_lib_records.specs.declared.records.Layer.{Layer}
use Rattle.leg_lib_records.specs.declared.records.LayerKind.{LayerKind}
use Rattle.leg_lib_records.specs.declared.records.LayerKind.TheVariants.{Routing, Cut, Other}
use Rattle.leg_lib_records.specs.Records.{LibraryModel}
use Rattle.leg_rules.specs.declared.shape.Shape.{Shape}
use Rattle.leg_drc_rules.specs.Records.{LayerRulesModel, DeckModel}
use Rattle.leg_drc.specs.Table.{AreNearerThanTable}
use Rattle.leg_drc.specs.Cuts.{AreNearCuts}
use Rattle.leg_drc.specs.declared.candidate.Candidate.{Candidate}
use Rattle.leg_drc.specs.declared.candidate.Owners.TheVariants.{Each, Nets}
use Rattle.leg_drc.specs.Steps.Reach.{table_reach_on, cut_reach}
use Rattle.leg_drc.specs.Steps.NearRule.{greatest, nearer_above, reach_within}
use Rattle.leg_drc.specs.Steps.Candidates.{AreCandidates, numbers_in}
use Rattle.leg_drc.specs.Steps.CutRule.{AreCutsWithin, cuts_back, cuts_candidate}
use Rattle.leg_drc.specs.Steps.TableRule.{AreTableReaches, table_back, table_candidate}
use Rattle.leg_drc.proofs.CandidatePairs.{pairs_of_candidates}

-- where the rule holds of no two items there are no pairs
no_pairs : {Item : Type 0} (Holds : Item → Item → Type 0) (items : List Item) → ((a b : Item) → ¬ Holds a b) → ArePairs Holds items []
no_pairs Holds items never = record {
  increasing = AllPairs-nil Before;
  each = All-nil (IsPair Holds items);
  all = λ p pair. absurd (never pair.a pair.b pair.holds);
}

-- two rules that hold of the same items have the same pairs
pair_alike : {Item : Type 0} (P Q : Item → Item → Type 0) (items : List Item) → ((a b : Item) → P a b → Q a b) → (p : ℕ × ℕ) → IsPair P items p →
    IsPair Q items p
pair_alike P Q items into p pair = record {
  a = pair.a;
  b = pair.b;
  a_at = pair.a_at;
  b_at = pair.b_at;
  in_order = pair.in_order;
  holds = into pair.a pair.b pair.holds;
}

pairs_alike : {Item : Type 0} (P Q : Item → Item → Type 0) (items : List Item) → ((a b : Item) → P a b → Q a b) → ((a b : Item) → Q a b → P a b)
    → (found : List (ℕ × ℕ)) → ArePairs P items found → ArePairs Q items found
pairs_alike P Q items into back found are = record {
  increasing = are.increasing;
  each = All-weaker (IsPair P items) (IsPair Q items) (pair_alike P Q items into) found are.each;
  all = λ p pair. are.all p (pair_alike Q P items back p pair);
}

-- the numbers of a pair are those of items
module _ {Item : Type 0} (Holds : Item → Item → Type 0) (items : List Item) (found : List (ℕ × ℕ)) (are : ArePairs Holds items found) where
  pub first_within : All (λ p. p.0 < length items) found
  first_within = All-weaker (IsPair Holds items) (λ p. p.0 < length items) (λ p pair. slice_get_within items p.0 pair.a pair.a_at) found are.each

  pub second_within : All (λ p. p.1 < length items) found
  second_within = All-weaker (IsPair Holds items) (λ p. p.1 < length items) (λ p pair. slice_get_within items p.1 pair.b pair.b_at) found are.each

module _ (library : LibraryModel) (deck : DeckModel) (reaches : List ℕ) (shapes : List Shape) where
  module _ (exact : (layer : ℕ) → get_or reaches layer 0 ≡ table_reach_on deck layer) where
    pub bound : AreTableReaches deck reaches
    bound layer = omega (arith, exact layer)

    pub no_table_pairs : greatest reaches ≡ 0 → ArePairs (AreNearerThanTable library deck) shapes []
    no_table_pairs none =
        no_pairs (AreNearerThanTable library deck) shapes
        (λ a b h.
        let candidate = table_candidate library deck a b h reaches bound in
        omega (arith, candidate.reach, reach_within reaches a.layer, none))

    pub table_pairs_of : (candidates : List Candidate) → AreCandidates Each reaches shapes (length shapes) candidates → (found : List (ℕ × ℕ))
        → ArePairs (λ (a b : Candidate). AreNearerThanTable library deck a.shape b.shape) candidates found
        → ArePairs (AreNearerThanTable library deck) shapes (map (numbers_in candidates) found)
    table_pairs_of candidates are found pairs =
        pairs_of_candidates Each reaches shapes candidates are (AreNearerThanTable library deck) (table_back library deck)
        (λ a b h. table_candidate library deck a b h reaches bound) found pairs

  module _ (exact : (layer : ℕ) → get_or reaches layer 0 ≡ cut_reach library deck layer) where
    -- a cut's reach is the spacing within a net of its layer
    within_of : (a b : Shape) → AreNearCuts library deck a b → AreCutsWithin reaches a b
    within_of a b h =
        let reach : get_or reaches a.layer 0 ≡ unsigned_abs h.rules.net_spacing = rw (exact a.layer, h.cuts.has_layer, h.cuts.cut, h.has_rules) refl in
        record {
          one = record { net = h.net; is_a = h.of_net.of_a; is_b = h.of_net.of_b };
          layer = h.layer;
          differ = h.differ;
          near = rw reach h.near;
        }

    module _ (a b : Shape) (h : AreCutsWithin reaches a b) where
      above : ¬ (cut_reach library deck a.layer ≡ 0)
      above none = let more = nearer_above (get_or reaches a.layer 0) a.rect b.rect h.near in omega (arith, more, exact a.layer, none)

      of_rules : (layer : Layer) → slice_get library.layers a.layer ≡ Some layer → layer.kind ≡ Cut → (o : Option LayerRulesModel)
          → slice_get deck.layers a.layer ≡ o → AreNearCuts library deck a b
      of_rules layer there cut None none = absurd (above (rw (there, cut, none) refl))
      of_rules layer there cut (Some rules) has =
          let reach : get_or reaches a.layer 0 ≡ unsigned_abs rules.net_spacing = rw (exact a.layer, there, cut, has) refl in
          record {
            net = h.one.net;
            rules = rules;
            of_net = record { of_a = h.one.is_a; of_b = h.one.is_b };
            layer = h.layer;
            cuts = record { layer = layer; has_layer = there; cut = cut };
            differ = h.differ;
            has_rules = has;
            near = rw reach at h.near;
          }

      of_kind : (layer : Layer) → slice_get library.layers a.layer ≡ Some layer → (kind : LayerKind) → layer.kind ≡ kind → AreNearCuts library deck a b
      of_kind layer there Cut cut = of_rules layer there cut (slice_get deck.layers a.layer) refl
      of_kind layer there (Routing direction width) other = absurd (above (rw (there, other) refl))
      of_kind layer there Other other = absurd (above (rw (there, other) refl))

      near_of_layer : (o : Option Layer) → slice_get library.layers a.layer ≡ o → AreNearCuts library deck a b
      near_of_layer None none = absurd (above (rw none refl))
      near_of_layer (Some layer) there = of_kind layer there layer.kind refl

      near_of : AreNearCuts library deck a b
      near_of = near_of_layer (slice_get library.layers a.layer) refl

    pub no_cut_pairs : greatest reaches ≡ 0 → ArePairs (AreNearCuts library deck) shapes []
    no_cut_pairs none =
        no_pairs (AreNearCuts library deck) shapes
        (λ a b h.
        let candidate = cuts_candidate reaches a b (within_of a b h) in
        omega (arith, candidate.reach, reach_within reaches a.layer, none))

    pub cut_pairs_of : (candidates : List Candidate) → AreCandidates Nets reaches shapes (length shapes) candidates → (found : List (ℕ × ℕ))
        → ArePairs (λ (a b : Candidate). AreCutsWithin reaches a.shape b.shape) candidates found
        → ArePairs (AreNearCuts library deck) shapes (map (numbers_in candidates) found)
    cut_pairs_of candidates are found pairs =
        pairs_alike (AreCutsWithin reaches) (AreNearCuts library deck) shapes near_of within_of (map (numbers_in candidates) found)
        (pairs_of_candidates Nets reaches shapes candidates are (AreCutsWithin reaches) (cuts_back reaches) (cuts_candidate reaches) found pairs)
