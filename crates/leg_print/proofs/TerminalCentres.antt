-- The boxes of terminals, and their centres.
use Rattle.std.proofs.Common.{◌≡◌, ℕ, ℤ, List, Option, None, Some, Contains, slice_get, subst, arith}
use Rattle.std.proofs.lemmas.Int.{ints}
use Rattle.leg_geom.specs.Plane.{PointModel, RectModel, HasPoint, IsCentre}
use Rattle.leg_geom.specs.declared.place.Place.{Place}
use Rattle.leg_lib_records.specs.Measure.{ExtentModel}
use Rattle.leg_lib_records.specs.declared.records.Shape.{Shape}
use Rattle.leg_lib_records.specs.Records.{MasterModel, MasterPinModel}
use Rattle.leg_design_records.specs.declared.records.Component.{Component}
use Rattle.leg_design_records.specs.declared.records.Terminal.{Terminal}
use Rattle.leg_design_records.specs.declared.records.Terminal.TheVariants.{Comp, Pin}
use Rattle.leg_design_records.specs.Records.{DesignModel, PortModel, PinModel}
use Rattle.leg_rules.specs.Metal.Metal.{OnLayer, drawn, ports_outlines}
use Rattle.leg_rules.specs.Metal.Pieces.{IsOfComponentPin}
use Rattle.leg_rules.specs.Wirelength.{IsLeastBox, IsLeastBoxIfAny, HasTerminalPoint, IsTerminalCentre, IsCentreAmong}
use Rattle.leg_print.specs.Steps.Wirelength.{IsOfSome, IsOfShape, IsOfPort, point_box}
use Rattle.leg_print.proofs.LeastBoxes.{least_same, none_least, one_least}
use Rattle.leg_print.proofs.DrawnPoints.{shapes_drawn, drawn_shapes, ports_drawn, drawn_ports}

some_same : {X : Type 0} (o : Option X) (x y : X) → o ≡ Some x → o ≡ Some y → x ≡ y
some_same o x y is also = cc

none_some : {X : Type 0} (o : Option X) (x : X) → o ≡ None → o ≡ Some x → ⊥
none_some o x none some = cc

-- a pin of the design
module _ (design : DesignModel) (p : ℕ) where
  pub design_pin_least : (pin : PinModel) (box : Option RectModel) → slice_get design.pins p ≡ Some pin
      → IsLeastBoxIfAny (IsOfSome PortModel IsOfPort pin.ports) box → IsLeastBoxIfAny (HasTerminalPoint design (Pin p)) box
  design_pin_least pin box there = least_same _ _ to back box where
    to : (q : PointModel) → IsOfSome PortModel IsOfPort pin.ports q → HasTerminalPoint design (Pin p) q
    to q has =
        let of = ports_drawn q pin.ports has in
        record { metal = of.one; draws = (pin, there, of.there); in_metal = of.has }

    back : (q : PointModel) → HasTerminalPoint design (Pin p) q → IsOfSome PortModel IsOfPort pin.ports q
    back q has =
        let same : has.draws.0 ≡ pin = some_same _ has.draws.0 pin has.draws.1 there in
        let listed = subst (λ (said : PinModel). Contains (ports_outlines said.ports) has.metal) same has.draws.2 in
        drawn_ports q pin.ports (record { one = has.metal; there = listed; has = has.in_metal })

-- a pin of a component
module _ (design : DesignModel) (c k : ℕ) where
  module _ (component : Component) (there : slice_get design.components c ≡ Some component) where
    same_component : (metal : OnLayer) (of : IsOfComponentPin design c k metal) → of.component ≡ component
    same_component metal of = some_same _ of.component component of.has_component there

    module _ (master : MasterModel) (made : slice_get design.library.masters component.master ≡ Some master) where
      same_master : (metal : OnLayer) (of : IsOfComponentPin design c k metal) → of.master ≡ master
      same_master metal of =
          let same = same_component metal of in
          some_same _ of.master master (rw same at of.has_master) made

      pub no_pin : slice_get master.pins k ≡ None → IsLeastBoxIfAny (HasTerminalPoint design (Comp c k)) None
      no_pin none q has =
          let same = same_master has.metal has.draws in
          none_some _ has.draws.pin none (rw same at has.draws.has_pin)

      pub component_pin_least : (place : Place) (pin : MasterPinModel) (box : Option RectModel) → component.place ≡ Some place
          → slice_get master.pins k ≡ Some pin → IsLeastBoxIfAny (IsOfSome Shape (IsOfShape place master.size) pin.shapes) box
          → IsLeastBoxIfAny (HasTerminalPoint design (Comp c k)) box
      component_pin_least place pin box stands drawn_ = least_same _ _ to back box where
        to : (q : PointModel) → IsOfSome Shape (IsOfShape place master.size) pin.shapes q → HasTerminalPoint design (Comp c k) q
        to q has =
            let of = shapes_drawn place master.size q pin.shapes has in
            record {
              metal = of.one;
              draws = record {
                component = component;
                place = place;
                master = master;
                pin = pin;
                has_component = there;
                has_place = stands;
                has_master = made;
                has_pin = drawn_;
                draws = of.there;
              };
              in_metal = of.has;
            }

        back : (q : PointModel) → HasTerminalPoint design (Comp c k) q → IsOfSome Shape (IsOfShape place master.size) pin.shapes q
        back q has =
            let of = has.draws in
            let as_component = same_component has.metal of in
            let as_master = same_master has.metal of in
            let as_place : of.place ≡ place = some_same _ of.place place (rw as_component at of.has_place) stands in
            let as_pin : of.pin ≡ pin = some_same _ of.pin pin (rw as_master at of.has_pin) drawn_ in
            let at_place = subst (λ (at : Place). Contains (drawn at of.master.size of.pin.shapes) has.metal) as_place of.draws in
            let at_master = subst (λ (m : MasterModel). Contains (drawn place m.size of.pin.shapes) has.metal) as_master at_place in
            let at_pin = subst (λ (s : MasterPinModel). Contains (drawn place master.size s.shapes) has.metal) as_pin at_master in
            drawn_shapes place master.size q pin.shapes (record { one = has.metal; there = at_pin; has = has.in_metal })

-- the centre of a terminal
module _ (design : DesignModel) (terminal : Terminal) where
  pub no_centre : IsLeastBoxIfAny (HasTerminalPoint design terminal) None → IsLeastBoxIfAny (IsTerminalCentre design terminal) None
  no_centre none q centre = none_least (HasTerminalPoint design terminal) centre.box none centre.least

  one_centre : (box : RectModel) (p q : PointModel) → IsCentre box p → IsCentre box q → HasPoint (point_box p) q
  one_centre box p q first second =
      let x1 = first.x in
      let x2 = second.x in
      let y1 = first.y in
      let y2 = second.y in
      record { left = omega (arith, ints); right = omega (arith, ints); bottom = omega (arith, ints); top = omega (arith, ints) }

  in_point : (other : RectModel) (p q : PointModel) → HasPoint other p → HasPoint (point_box p) q → HasPoint other q
  in_point other p q has at = record { left = omega (arith, ints); right = omega (arith, ints); bottom = omega (arith, ints); top = omega (arith, ints) }

  pub centre_least : (box centre : RectModel) → IsLeastBox (HasTerminalPoint design terminal) box
      → ((p : PointModel) × (centre ≡ point_box p) × IsCentre box p) → IsLeastBox (IsTerminalCentre design terminal) centre
  centre_least box centre least is =
      rw is.1
      (record {
        wide = omega (arith, ints);
        high = omega (arith, ints);
        around = λ q has.
            let same : has.box ≡ box = one_least (HasTerminalPoint design terminal) has.box box has.least least in
            one_centre box is.0 q is.2 (rw same at has.middle);
        least = λ other holds q at. in_point other is.0 q (holds is.0 (record { box = box; least = least; middle = is.2 })) at;
      })

-- the centres of some terminals
pub centres_among : (design : DesignModel) (terminals : List Terminal) (box : Option RectModel)
    → IsLeastBoxIfAny (IsOfSome Terminal (IsTerminalCentre design) terminals) box → IsLeastBoxIfAny (IsCentreAmong design terminals) box
centres_among design terminals =
    least_same _ _
    (λ q has. record { terminal = has.one; listed = has.there; centre = has.has })
    (λ q has. record { one = has.terminal; there = has.listed; has = has.centre })

-- the box of shapes, by the width and the height of what they are of
pub sized_least : (place : Place) (width height : ℤ) (size : ExtentModel) (read shapes : List Shape) (box : Option RectModel) → width ≡ size.width
    → height ≡ size.height → read ≡ shapes → IsLeastBoxIfAny (IsOfSome Shape (IsOfShape place (record { width = width; height = height })) read) box
    → IsLeastBoxIfAny (IsOfSome Shape (IsOfShape place size) shapes) box
sized_least place width height size read shapes box w h same least =
    let sized = subst (λ (z : ℤ). IsLeastBoxIfAny (IsOfSome Shape (IsOfShape place (record { width = z; height = height })) read) box) w least in
    let both = subst (λ (z : ℤ). IsLeastBoxIfAny (IsOfSome Shape (IsOfShape place (record { width = size.width; height = z })) read) box) h sized in
    subst (λ (s : List Shape). IsLeastBoxIfAny (IsOfSome Shape (IsOfShape place size) s) box) same both
