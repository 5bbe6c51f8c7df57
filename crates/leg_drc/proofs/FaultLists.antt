-- The list of all violations, kind by kind.
use Rattle.std.proofs.Common.{◌≡◌, ℕ, ◌+◌, ◌<◌, List, [], ◌++◌, map, All, AllPairs, Contains, inl, inr, refl, arith}
use Rattle.std.proofs.lemmas.Bool.{cases_lt}
use Rattle.std.proofs.lemmas.List.Elements.{All-nil, All-append, All-map, All-weaker, Contains-append_left, Contains-append_right}
use Rattle.leg_lemmas.proofs.Contents.{Contains-map}
use Rattle.leg_lemmas.proofs.RisingLists.{AllPairs-nil, AllPairs-append_by, AllPairs-map}
use Rattle.leg_geom.specs.Pairs.{IsPair}
use Rattle.leg_sweep.specs.Pairs.{Before, ArePairs}
use Rattle.leg_design_records.specs.Records.{DesignModel}
use Rattle.leg_rules.specs.Metal.Flat.{FlatModel}
use Rattle.leg_drc_rules.specs.Records.{DeckModel}
use Rattle.leg_drc.specs.declared.fault.DrcFault.{DrcFault}
use Rattle.leg_drc.specs.declared.shape_kind.ShapeKind.{ShapeKind}
use Rattle.leg_drc.specs.declared.shape_kind.ShapeKind.TheVariants.{MinWidth, OffGrid, OutDie}
use Rattle.leg_drc.specs.declared.pair_kind.PairKind.{PairKind}
use Rattle.leg_drc.specs.declared.pair_kind.PairKind.TheVariants.{Supply, Table, CutNear}
use Rattle.leg_drc.specs.Table.{AreNearerThanTable}
use Rattle.leg_drc.specs.Cuts.{AreNearCuts}
use Rattle.leg_drc.specs.Supply.{IsCutOffSupply}
use Rattle.leg_drc.specs.Violations.{IsShapeWith, IsDrcViolation}
use Rattle.leg_drc.specs.Violations.IsDrcViolation.{supply, min_width, table, cut_near, off_grid, out_die}
use Rattle.leg_drc.specs.InOrder.{kind_number, ComesBefore, IsDrcListOf}
use Rattle.leg_drc.specs.Steps.Kinds.{IsWrongShape, shape_fault, pair_fault}
use Rattle.leg_drc.specs.Steps.Numbers.{AreNumbersWhere}
use Rattle.leg_drc.specs.Steps.CutOff.{AreCutOff}

-- the places of the kinds among all
abbrev kind_of_shapes : ShapeKind → ℕ
kind_of_shapes kind = kind_number (shape_fault kind 0)

abbrev kind_of_pairs : PairKind → ℕ
kind_of_pairs kind = kind_number (pair_fault kind 0 0)

-- violations of one kind keep the order of what they name
shapes_in_order : (kind : ShapeKind) (i j : ℕ) → i < j → ComesBefore (shape_fault kind i) (shape_fault kind j)
shapes_in_order MinWidth i j less = record { kind = omega arith; first = λ _. omega (arith, less); second = λ _ same. absurd (omega (arith, less, same)) }
shapes_in_order OffGrid i j less = record { kind = omega arith; first = λ _. omega (arith, less); second = λ _ same. absurd (omega (arith, less, same)) }
shapes_in_order OutDie i j less = record { kind = omega arith; first = λ _. omega (arith, less); second = λ _ same. absurd (omega (arith, less, same)) }

pairs_in_order : (kind : PairKind) (p q : ℕ × ℕ) → Before p q → ComesBefore (pair_fault kind p.0 p.1) (pair_fault kind q.0 q.1)
pairs_in_order Supply p q before = record { kind = omega arith; first = λ _. before.first; second = λ _ same. before.second same }
pairs_in_order Table p q before = record { kind = omega arith; first = λ _. before.first; second = λ _ same. before.second same }
pairs_in_order CutNear p q before = record { kind = omega arith; first = λ _. before.first; second = λ _ same. before.second same }

-- those of a lower kind come first
lower_first : (v w : DrcFault) → kind_number v < kind_number w → ComesBefore v w
lower_first v w lower = record {
  kind = omega (arith, lower);
  first = λ same. absurd (omega (arith, lower, same));
  second = λ same. absurd (omega (arith, lower, same));
}

module _ (design : DesignModel) (deck : DeckModel) (flat : FlatModel) where
  -- a violation holds, and its kind has this place
  pub record IsOfKind (kind : ℕ) (v : DrcFault) : Type 0 where
    pub holds : IsDrcViolation design deck flat v
    pub is : kind_number v ≡ kind

  -- or a place before this one
  pub record IsBelowKind (kind : ℕ) (v : DrcFault) : Type 0 where
    pub holds : IsDrcViolation design deck flat v
    pub below : kind_number v < kind

  pub none_below : IsDrcListOf (IsBelowKind 0) []
  none_below = record {
    increasing = AllPairs-nil ComesBefore;
    each = All-nil (IsBelowKind 0);
    all = λ v is. absurd (omega (arith, is.below));
  }

  -- the violations of one more kind
  pub kind_more : (kind : ℕ) (before more : List DrcFault) → IsDrcListOf (IsBelowKind kind) before → IsDrcListOf (IsOfKind kind) more
      → IsDrcListOf (IsBelowKind (kind + 1)) (before ++ more)
  kind_more kind before more done these = record {
    increasing =
        AllPairs-append_by ComesBefore (IsBelowKind kind) (IsOfKind kind) (λ v w low here. lower_first v w (omega (arith, low.below, here.is)))
        before more done.each these.each done.increasing these.increasing;
    each =
        All-append (IsBelowKind (kind + 1)) before more
        (All-weaker (IsBelowKind kind) (IsBelowKind (kind + 1)) (λ v low. record { holds = low.holds; below = omega (arith, low.below) }) before done.each)
        (All-weaker (IsOfKind kind) (IsBelowKind (kind + 1)) (λ v here. record { holds = here.holds; below = omega (arith, here.is) }) more these.each);
    all = λ v is. elim (cases_lt (kind_number v) kind) [
      | inl low ↦ Contains-append_left before more v (done.all v (record { holds = is.holds; below = low }))
      | inr late ↦ Contains-append_right before more v (these.all v (record { holds = is.holds; is = omega (arith, late, is.below) }))
    ];
  }

  kind_below : (v : DrcFault) → IsDrcViolation design deck flat v → kind_number v < 6
  kind_below v (supply h) = omega arith
  kind_below v (min_width h) = omega arith
  kind_below v (table h) = omega arith
  kind_below v (cut_near h) = omega arith
  kind_below v (off_grid h) = omega arith
  kind_below v (out_die h) = omega arith

  -- there is no further kind
  pub kinds_all : (found : List DrcFault) → IsDrcListOf (IsBelowKind 6) found → IsDrcListOf (IsDrcViolation design deck flat) found
  kinds_all found done = record {
    increasing = done.increasing;
    each = All-weaker (IsBelowKind 6) (IsDrcViolation design deck flat) (λ v is. is.holds) found done.each;
    all = λ v holds. done.all v (record { holds = holds; below = kind_below v holds });
  }

  -- what is named in order, told as violations of one kind
  module _ {X : Type 0} (Earlier : X → X → Type 0) (Holds : X → Type 0) (told : X → DrcFault) (kind : ℕ)
      (in_order : (x y : X) → Earlier x y → ComesBefore (told x) (told y))
      (onward : (x : X) → Holds x → IsOfKind kind (told x))
      (back : (v : DrcFault) → IsOfKind kind v → (x : X) × Holds x × (v ≡ told x)) where
    listing_told : (xs : List X) → AllPairs Earlier xs → All Holds xs → ((x : X) → Holds x → Contains xs x) → IsDrcListOf (IsOfKind kind) (map told xs)
    listing_told xs increasing each all = record {
      increasing = AllPairs-map Earlier ComesBefore told in_order xs increasing;
      each = All-map (IsOfKind kind) told xs (All-weaker Holds (λ x. IsOfKind kind (told x)) onward xs each);
      all = λ v is. (let from = back v is in rw from.2 (Contains-map told xs from.0 (all from.0 from.1)));
    }

  shape_told : (kind : ShapeKind) (i : ℕ) → IsShapeWith (IsWrongShape kind design deck flat) flat i → IsOfKind (kind_of_shapes kind) (shape_fault kind i)
  shape_told MinWidth i h = record { holds = min_width h; is = refl }
  shape_told OffGrid i h = record { holds = off_grid h; is = refl }
  shape_told OutDie i h = record { holds = out_die h; is = refl }

  shape_of : (kind : ShapeKind) (v : DrcFault) → IsOfKind (kind_of_shapes kind) v
      → (i : ℕ) × IsShapeWith (IsWrongShape kind design deck flat) flat i × (v ≡ shape_fault kind i)
  shape_of kind v is = by kind v is.holds is.is where
    by : (kind : ShapeKind) (v : DrcFault) → IsDrcViolation design deck flat v → kind_number v ≡ kind_of_shapes kind
        → (i : ℕ) × IsShapeWith (IsWrongShape kind design deck flat) flat i × (v ≡ shape_fault kind i)
    by MinWidth v (min_width {i = i} h) same = (i, h, refl)
    by OffGrid v (off_grid {i = i} h) same = (i, h, refl)
    by OutDie v (out_die {i = i} h) same = (i, h, refl)
    by kind v other same = absurd (omega (arith, same))

  -- the shapes with which something is wrong
  pub shapes_listed : (kind : ShapeKind) (numbers : List ℕ) → AreNumbersWhere (IsWrongShape kind design deck flat) flat numbers
      → IsDrcListOf (IsOfKind (kind_of_shapes kind)) (map (shape_fault kind) numbers)
  shapes_listed kind numbers are =
      listing_told (λ j k. j < k) (IsShapeWith (IsWrongShape kind design deck flat) flat) (shape_fault kind) (kind_of_shapes kind) (shapes_in_order kind)
      (shape_told kind) (shape_of kind) numbers are.increasing are.each are.all

  abbrev Names : PairKind → ℕ × ℕ → Type 0
  Names Supply p = IsCutOffSupply design flat p.0 p.1
  Names Table p = IsPair (AreNearerThanTable design.library deck) flat.shapes p
  Names CutNear p = IsPair (AreNearCuts design.library deck) flat.shapes p

  pair_told : (kind : PairKind) (p : ℕ × ℕ) → Names kind p → IsOfKind (kind_of_pairs kind) (pair_fault kind p.0 p.1)
  pair_told Supply p h = record { holds = supply h; is = refl }
  pair_told Table p h = record { holds = table h; is = refl }
  pair_told CutNear p h = record { holds = cut_near h; is = refl }

  pair_of : (kind : PairKind) (v : DrcFault) → IsOfKind (kind_of_pairs kind) v → (p : ℕ × ℕ) × Names kind p × (v ≡ pair_fault kind p.0 p.1)
  pair_of kind v is = by kind v is.holds is.is where
    by : (kind : PairKind) (v : DrcFault) → IsDrcViolation design deck flat v → kind_number v ≡ kind_of_pairs kind
        → (p : ℕ × ℕ) × Names kind p × (v ≡ pair_fault kind p.0 p.1)
    by Supply v (supply {n = n} {k = k} h) same = ((n, k), h, refl)
    by Table v (table {i = i} {j = j} h) same = ((i, j), h, refl)
    by CutNear v (cut_near {i = i} {j = j} h) same = ((i, j), h, refl)
    by kind v other same = absurd (omega (arith, same))

  pairs_listed : (kind : PairKind) (pairs : List (ℕ × ℕ)) → AllPairs Before pairs → All (Names kind) pairs → ((p : ℕ × ℕ) → Names kind p → Contains pairs p)
      → IsDrcListOf (IsOfKind (kind_of_pairs kind)) (map (λ p. pair_fault kind p.0 p.1) pairs)
  pairs_listed kind =
      listing_told Before (Names kind) (λ p. pair_fault kind p.0 p.1) (kind_of_pairs kind) (pairs_in_order kind) (pair_told kind) (pair_of kind)

  -- the six lists, one behind the other
  pub all_kinds : (cut_off spaced cuts : List (ℕ × ℕ)) (narrow off out : List ℕ) → AreCutOff design flat cut_off
      → AreNumbersWhere (IsWrongShape MinWidth design deck flat) flat narrow
      → ArePairs (AreNearerThanTable design.library deck) flat.shapes spaced
      → ArePairs (AreNearCuts design.library deck) flat.shapes cuts
      → AreNumbersWhere (IsWrongShape OffGrid design deck flat) flat off
      → AreNumbersWhere (IsWrongShape OutDie design deck flat) flat out
      → IsDrcListOf (IsDrcViolation design deck flat)
      ([] ++ map (λ p. pair_fault Supply p.0 p.1) cut_off ++ map (shape_fault MinWidth) narrow ++ map (λ p. pair_fault Table p.0 p.1) spaced
      ++ map (λ p. pair_fault CutNear p.0 p.1) cuts ++ map (shape_fault OffGrid) off ++ map (shape_fault OutDie) out)
  all_kinds cut_off spaced cuts narrow off out s w t n g d =
      kinds_all _
      (kind_more 5 _ (map (shape_fault OutDie) out)
      (kind_more 4 _ (map (shape_fault OffGrid) off)
      (kind_more 3 _ (map (λ p. pair_fault CutNear p.0 p.1) cuts)
      (kind_more 2 _ (map (λ p. pair_fault Table p.0 p.1) spaced)
      (kind_more 1 _ (map (shape_fault MinWidth) narrow)
      (kind_more 0 _ (map (λ p. pair_fault Supply p.0 p.1) cut_off) none_below (pairs_listed Supply cut_off s.increasing s.each s.all))
      (shapes_listed MinWidth narrow w))
      (pairs_listed Table spaced t.increasing t.each t.all))
      (pairs_listed CutNear cuts n.increasing n.each n.all))
      (shapes_listed OffGrid off g))
      (shapes_listed OutDie out d))
