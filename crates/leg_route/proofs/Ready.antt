-- What is kept beside a flat, at first and when a net has got a wire.
use Rattle.std.proofs.Common.{◌≡◌, ◌≢◌, ◌==◌, ◌+◌, ◌-◌, ◌<◌, ℕ, Bool, true, false, List, [], ◌∷◌, ◌++◌, length, take, drop, get_or, Option, IfSome, slice_set, refl, ap, ◌∙◌, arith}
use Rattle.std.specs.List.{range_with_len}
use Rattle.std.proofs.Math.Seq.{drop-append_seam}
use Rattle.std.proofs.lemmas.Bool.Decides.{nat_tests}
use Rattle.std.proofs.lemmas.List.{length-drop, take_all, length-set, get_or-set_same, get_or-set_other}
use Rattle.leg_design_records.specs.declared.records.Wire.{Wire}
use Rattle.leg_design_records.specs.Records.{DesignModel}
use Rattle.leg_rules.specs.declared.shape.Shape.{Shape}
use Rattle.leg_rules.specs.Metal.Flat.{FlatModel, pieces_with}
use Rattle.leg_rules.specs.Metal.MoreWires.{HasOneMoreWire}
use Rattle.leg_wire.specs.NetShapes.{AreNumbersOf}
use Rattle.leg_wire.specs.Joins.{JoinsModel}
use Rattle.leg_route_search.specs.declared.mark.Mark.{Mark}
use Rattle.leg_route_access.specs.declared.slot_access.SlotAccess.{SlotAccess}
use Rattle.leg_route_grid.specs.Steps.Grid.{GridModel}
use Rattle.leg_route_laws.specs.Growth.{Grows, of_net}
use Rattle.leg_route.specs.Steps.JoinedPart.{PartModel}
use Rattle.leg_route.proofs.JoinedParts.{part_grows}
use Rattle.leg_route.proofs.KeptJoins.{kept_with, given_with}
use Rattle.leg_route.specs.Steps.Ready.{AreNumbersByNet, HasSlotsOf, IsReadyGround, IsWithWire}

abbrev pub OwnNumbersGrow : Type 0
OwnNumbersGrow =
    (design : DesignModel) (net : ℕ) (wires : List Wire) (before after : FlatModel) (numbers : List ℕ)
    → Grows design (of_net net wires) before after → AreNumbersOf before.shapes net numbers
    → AreNumbersOf after.shapes net (numbers ++ range_with_len (length before.shapes) (length after.shapes - length before.shapes))

abbrev pub OtherNumbersStay : Type 0
OtherNumbersStay =
    (design : DesignModel) (net other : ℕ) (wires : List Wire) (before after : FlatModel) (numbers : List ℕ)
    → Grows design (of_net net wires) before after → other ≢ net → AreNumbersOf before.shapes other numbers → AreNumbersOf after.shapes other numbers

-- the shapes behind the first ones
abbrev rest_behind : List Shape → List Shape → List Shape
rest_behind first all = take (length all - length first) (drop (length first) all)

-- The shapes behind the first ones, which the net got with a wire, are noted: the slots are told of them, their numbers have come to those of
-- the net, and what is kept of the net's pieces, if anything is, has the piece of these shapes more.
pub record AreNoted (grid : GridModel) (net : ℕ) (first all : List Shape) (slots slots_then : List SlotAccess) (had own : List ℕ)
    (joins joins_then : Option JoinsModel) : Type 0 where
  pub told : (shapes : List Shape) → HasSlotsOf grid shapes slots → HasSlotsOf grid (shapes ++ rest_behind first all) slots_then
  pub numbers : own ≡ had ++ range_with_len (length first) (length all - length first)
  pub kept : IfSome joins_then (IsWithWire joins net (rest_behind first all))

module _ (design : DesignModel) (net : ℕ) (wire : Wire) (before after : FlatModel) (more : HasOneMoreWire design net wire before after) where
  grows : Grows design (of_net net (wire ∷ [])) before after
  grows = (after, more, refl)

  -- the shapes that the wire has
  added_are : drop (length before.shapes) after.shapes ≡ more.added
  added_are = rw more.shapes (drop-append_seam before.shapes more.added)

  -- the same, cut out of all shapes
  rest_are : (all first : List Shape) → all ≡ after.shapes → first ≡ before.shapes → rest_behind first all ≡ more.added
  rest_are all first all_is first_is =
      rw (all_is, first_is)
      (take_all (length after.shapes - length before.shapes) (drop (length before.shapes) after.shapes)
      (omega (arith, length-drop (length before.shapes) after.shapes)) ∙ added_are)

  module _ (own_law : OwnNumbersGrow) (other_law : OtherNumbersStay) (nets : ℕ) (lists : List (List ℕ)) (own : List ℕ) (low : net < nets)
      (own_is : own ≡ get_or lists net [] ++ range_with_len (length before.shapes) (length after.shapes - length before.shapes))
      (are : AreNumbersByNet nets before lists) where
    numbers_of : (other : ℕ) → other < nets → (test : Bool) → (other == net) ≡ test
        → AreNumbersOf after.shapes other (get_or (slice_set lists net own) other [])
    numbers_of other within true test =
        let same : other ≡ net = grind (arith, nat_tests, test) in
        rw (same, get_or-set_same lists net own [] (rw are.one_each low), own_is)
        (own_law design net (wire ∷ []) before after (get_or lists net []) grows (are.each net low))
    numbers_of other within false test =
        let differ : other ≢ net = grind (arith, nat_tests, test) in
        rw (get_or-set_other lists net other own [] differ)
        (other_law design net other (wire ∷ []) before after (get_or lists other []) grows differ (are.each other within))

    numbers_more : AreNumbersByNet nets after (slice_set lists net own)
    numbers_more = record {
      one_each = length-set lists net own ∙ are.one_each;
      each = λ other within. numbers_of other within (other == net) refl;
    }

  -- all is ready still when the net has the wire, where what is new is noted
  pub ready_more : OwnNumbersGrow → OtherNumbersStay → (grid : GridModel) (slots slots_then : List SlotAccess) (lists : List (List ℕ)) (had own : List ℕ)
      (marks : List Mark) (part : PartModel) (joins joins_then : Option JoinsModel) (all first : List Shape)
      → all ≡ after.shapes → first ≡ before.shapes → net < length design.nets → IsReadyGround design grid before slots lists marks part joins
      → had ≡ get_or lists net [] → AreNoted grid net first all slots slots_then had own joins joins_then
      → IsReadyGround design grid after slots_then (slice_set lists net own) marks part joins_then
  ready_more own_law other_law grid slots slots_then lists had own marks part joins joins_then all first all_is first_is low ready had_is noted =
      let rest = rest_are all first all_is first_is in
      let then : HasSlotsOf grid (before.shapes ++ more.added) slots_then = rw rest at (noted.told before.shapes ready.told) in
      let own_then : own ≡ get_or lists net [] ++ range_with_len (length before.shapes) (length after.shapes - length before.shapes) =
      rw (all_is, first_is, had_is) at noted.numbers in
      record {
        of_design = ready.of_design;
        told = rw more.shapes then;
        within = rw (ap length more.pieces ∙ length-set before.pieces net (pieces_with more.terminals (more.wires + 1))) ready.within;
        numbers = numbers_more own_law other_law (length design.nets) lists own low own_then ready.numbers;
        count = ready.count;
        part_is = part_grows design net wire before after more grid part ready.part_is;
        joins_are = kept_with design net wire before after more joins joins_then ready.joins_are (rw rest at noted.kept);
        given_are = given_with part joins joins_then net (rest_behind first all) ready.given_are noted.kept;
      }
