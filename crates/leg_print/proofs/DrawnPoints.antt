-- The points of shapes that are drawn are those of their metal.
use Rattle.std.proofs.Common.{◌≡◌, ◌⊎◌, inl, inr, ℕ, suc, zero, ◌<◌, List, [], ◌∷◌, ◌++◌, get_or, Contains, Option, Some, refl, sym, subst, arith}
use Rattle.std.proofs.lemmas.List.Elements.{Contains-append_left, Contains-append_right, Contains-append_cases}
use Rattle.leg_geom.specs.Plane.{PointModel, RectModel}
use Rattle.leg_geom.specs.declared.place.Place.{Place}
use Rattle.leg_lib_records.specs.Measure.{ExtentModel}
use Rattle.leg_lib_records.specs.declared.records.Shape.{Shape}
use Rattle.leg_design_records.specs.Records.{PortModel}
use Rattle.leg_rules.specs.Metal.Metal.{OnLayer, drawn, no_size, port_outlines, ports_outlines}
use Rattle.leg_rules.specs.Wirelength.{IsLeastBoxIfAny}
use Rattle.leg_print.specs.Steps.Wirelength.{IsOfSome, IsOfShape, IsPointOfMetal, IsOfPort}
use Rattle.leg_print.proofs.LeastBoxes.{least_same}

module _ (X : Type 0) (P : X → PointModel → Type 0) (p : PointModel) where
  pub of_none : IsOfSome X P [] p → ⊥
  of_none has = let far = has.there.1 in omega arith

  pub of_head : (x : X) (xs : List X) → P x p → IsOfSome X P (x ∷ xs) p
  of_head x xs has = record { one = x; there = (0, omega arith, refl); has = has }

  pub of_tail : (x : X) (xs : List X) → IsOfSome X P xs p → IsOfSome X P (x ∷ xs) p
  of_tail x xs has = record { one = has.one; there = Contains-append_right (x ∷ []) xs has.one has.there; has = has.has }

  pub of_cons : (x : X) (xs : List X) → IsOfSome X P (x ∷ xs) p → (P x p ⊎ IsOfSome X P xs p)
  of_cons x xs has = by (Contains-append_cases (x ∷ []) xs has.one has.there) where
    at_one : (k : ℕ) → k < 1 → get_or (x ∷ []) k has.one ≡ has.one → P x p
    at_one zero less is = subst (λ (one : X). P one p) (sym is) has.has
    at_one (suc k) less is = absurd (omega arith)

    by : (Contains (x ∷ []) has.one ⊎ Contains xs has.one) → (P x p ⊎ IsOfSome X P xs p)
    by (inl here) = inl (at_one here.0 here.1 here.2)
    by (inr there) = inr (record { one = has.one; there = there; has = has.has })

  pub of_left : (xs ys : List X) → IsOfSome X P xs p → IsOfSome X P (xs ++ ys) p
  of_left xs ys has = record { one = has.one; there = Contains-append_left xs ys has.one has.there; has = has.has }

  pub of_right : (xs ys : List X) → IsOfSome X P ys p → IsOfSome X P (xs ++ ys) p
  of_right xs ys has = record { one = has.one; there = Contains-append_right xs ys has.one has.there; has = has.has }

  pub of_append : (xs ys : List X) → IsOfSome X P (xs ++ ys) p → (IsOfSome X P xs p ⊎ IsOfSome X P ys p)
  of_append xs ys has = by (Contains-append_cases xs ys has.one has.there) where
    by : (Contains xs has.one ⊎ Contains ys has.one) → (IsOfSome X P xs p ⊎ IsOfSome X P ys p)
    by (inl there) = inl (record { one = has.one; there = there; has = has.has })
    by (inr there) = inr (record { one = has.one; there = there; has = has.has })

module _ (place : Place) (size : ExtentModel) (p : PointModel) where
  pub shapes_drawn : (shapes : List Shape) → IsOfSome Shape (IsOfShape place size) shapes p → IsOfSome OnLayer IsPointOfMetal (drawn place size shapes) p
  shapes_drawn [] has = absurd (of_none Shape (IsOfShape place size) p has)
  shapes_drawn (shape ∷ shapes) has = elim (of_cons Shape (IsOfShape place size) p shape shapes has) [
    | inl here ↦ of_head OnLayer IsPointOfMetal p _ (drawn place size shapes) here
    | inr there ↦ of_tail OnLayer IsPointOfMetal p _ (drawn place size shapes) (shapes_drawn shapes there)
  ]

  pub drawn_shapes : (shapes : List Shape) → IsOfSome OnLayer IsPointOfMetal (drawn place size shapes) p → IsOfSome Shape (IsOfShape place size) shapes p
  drawn_shapes [] has = absurd (of_none OnLayer IsPointOfMetal p has)
  drawn_shapes (shape ∷ shapes) has = elim (of_cons OnLayer IsPointOfMetal p _ (drawn place size shapes) has) [
    | inl here ↦ of_head Shape (IsOfShape place size) p shape shapes here
    | inr there ↦ of_tail Shape (IsOfShape place size) p shape shapes (drawn_shapes shapes there)
  ]

module _ (p : PointModel) where
  pub ports_drawn : (ports : List PortModel) → IsOfSome PortModel IsOfPort ports p → IsOfSome OnLayer IsPointOfMetal (ports_outlines ports) p
  unfolding ports_outlines
  ports_drawn [] has = absurd (of_none PortModel IsOfPort p has)
  ports_drawn (port ∷ ports) has = elim (of_cons PortModel IsOfPort p port ports has) [
    | inl here ↦ of_left OnLayer IsPointOfMetal p (port_outlines port.place port.shapes) (ports_outlines ports) here
    | inr there ↦ of_right OnLayer IsPointOfMetal p (port_outlines port.place port.shapes) (ports_outlines ports) (ports_drawn ports there)
  ]

  pub drawn_ports : (ports : List PortModel) → IsOfSome OnLayer IsPointOfMetal (ports_outlines ports) p → IsOfSome PortModel IsOfPort ports p
  unfolding ports_outlines
  drawn_ports [] has = absurd (of_none OnLayer IsPointOfMetal p has)
  drawn_ports (port ∷ ports) has = elim (of_append OnLayer IsPointOfMetal p (port_outlines port.place port.shapes) (ports_outlines ports) has) [
    | inl here ↦ of_head PortModel IsOfPort p port ports here
    | inr there ↦ of_tail PortModel IsOfPort p port ports (drawn_ports ports there)
  ]

-- the box of a port's shapes, once it has a place
pub port_least : (port : PortModel) (place : Place) (box : Option RectModel) → port.place ≡ Some place
    → IsLeastBoxIfAny (IsOfSome Shape (IsOfShape place no_size) port.shapes) box → IsLeastBoxIfAny (IsOfPort port) box
port_least port place box is least =
    rw is (least_same _ _ (λ p. shapes_drawn place no_size p port.shapes) (λ p. drawn_shapes place no_size p port.shapes) box least)
