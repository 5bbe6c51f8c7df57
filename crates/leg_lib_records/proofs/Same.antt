-- What `==` says of the records of a library.
use Rattle.std.proofs.Common.{◌≡◌, ℕ, ℤ, Bool, ◌&&◌, List, Option, None, Some, Decides, eqb, int_eq, ap, refl}
use Rattle.std.proofs.lemmas.Bool.Decides.{Decides-and, Decides-like, Decides-eqb, Decides-int_eq}
use Rattle.std.specs.Cmp.{booleans_Decides}
use Rattle.std.specs.Bool.{beq}
use Rattle.std.specs.Option.{option_eq}
use Rattle.std.proofs.lemmas.Option.{same_Some}
use Rattle.std.specs.Cmp.Lexicographic.{pointwise}
use Rattle.std.specs.Str.{bytes_eq}
use Rattle.std.proofs.lemmas.Slice.Eq.{bytes_eq-Decides, slice_eq-Decides}
use Rattle.leg_lib_records.specs.declared.records.Direction.{Direction}
use Rattle.leg_lib_records.specs.declared.records.Direction.TheVariants.{Horizontal, Vertical}
use Rattle.leg_lib_records.specs.declared.records.LayerKind.{LayerKind}
use Rattle.leg_lib_records.specs.declared.records.LayerKind.TheVariants.{Routing, Cut, Other}
use Rattle.leg_lib_records.specs.declared.records.Layer.{Layer}
use Rattle.leg_lib_records.specs.declared.records.Site.{Site}
use Rattle.leg_lib_records.specs.declared.records.Shape.{Shape}
use Rattle.leg_lib_records.specs.declared.records.RuleWidth.{RuleWidth}
use Rattle.leg_lib_records.specs.declared.records.Supply.{Supply}
use Rattle.leg_lib_records.specs.declared.records.Supply.TheVariants.{NoSupply, Power, Ground}
use Rattle.leg_lib_records.specs.Records.{ViaModel, MasterPinModel, MasterModel, RuleModel}
use Rattle.leg_lib_records.specs.contracts.records.DirectionPartialEq.TheImpl as direction_eq
use Rattle.leg_lib_records.specs.contracts.records.LayerKindPartialEq.TheImpl as kind_eq
use Rattle.leg_lib_records.specs.contracts.records.LayerPartialEq.TheImpl as layer_eq
use Rattle.leg_lib_records.specs.contracts.records.SitePartialEq.TheImpl as site_eq
use Rattle.leg_lib_records.specs.contracts.records.ShapePartialEq.TheImpl as shape_eq
use Rattle.leg_lib_records.specs.contracts.records.SupplyPartialEq.TheImpl as supply_eq
use Rattle.leg_lib_records.specs.contracts.records.RuleWidthPartialEq.TheImpl as width_eq

direction_decides : (a b : Direction) → Decides (direction_eq.ghosts.eq a b) (a ≡ b)
direction_decides Horizontal Horizontal = (λ _. refl, λ _. refl)
direction_decides Horizontal Vertical = (λ e. absurd (cc), λ e. absurd (cc))
direction_decides Vertical Horizontal = (λ e. absurd (cc), λ e. absurd (cc))
direction_decides Vertical Vertical = (λ _. refl, λ _. refl)

routing_decides : (a b : Direction) (v w : ℤ) → Decides (kind_eq.ghosts.eq (Routing a v) (Routing b w)) (Routing a v ≡ Routing b w)
routing_decides a b v w = Decides-like _ (λ p. cc) (λ e. (cc, cc)) (Decides-and _ _ (direction_decides a b) (Decides-int_eq v w))

kind_decides : (a b : LayerKind) → Decides (kind_eq.ghosts.eq a b) (a ≡ b)
kind_decides (Routing a v) (Routing b w) = routing_decides a b v w
kind_decides (Routing a v) Cut = (λ e. absurd (cc), λ e. absurd (cc))
kind_decides (Routing a v) Other = (λ e. absurd (cc), λ e. absurd (cc))
kind_decides Cut (Routing b w) = (λ e. absurd (cc), λ e. absurd (cc))
kind_decides Cut Cut = (λ _. refl, λ _. refl)
kind_decides Cut Other = (λ e. absurd (cc), λ e. absurd (cc))
kind_decides Other (Routing b w) = (λ e. absurd (cc), λ e. absurd (cc))
kind_decides Other Cut = (λ e. absurd (cc), λ e. absurd (cc))
kind_decides Other Other = (λ _. refl, λ _. refl)

pub layer_decides : (a b : Layer) → Decides (layer_eq.ghosts.eq a b) (a ≡ b)
layer_decides a b =
    Decides-like _ (λ p. λ i. record { name = p.0 i; kind = p.1.0 i; spacing = p.1.1 i })
    (λ e. (ap (λ (l : Layer). l.name) e, (ap (λ (l : Layer). l.kind) e, ap (λ (l : Layer). l.spacing) e)))
    (Decides-and _ _ (bytes_eq-Decides a.name b.name) (Decides-and _ _ (kind_decides a.kind b.kind) (Decides-int_eq a.spacing b.spacing)))

pub site_decides : (a b : Site) → Decides (site_eq.ghosts.eq a b) (a ≡ b)
site_decides a b =
    Decides-like _
    (λ p. λ i. record { name = p.0 i; size = record { width = p.1.0 i; height = p.1.1 i } })
    (λ e. (ap (λ (s : Site). s.name) e, (ap (λ (s : Site). s.size.width) e, ap (λ (s : Site). s.size.height) e)))
    (Decides-and _ _ (bytes_eq-Decides a.name b.name) (Decides-and _ _ (Decides-int_eq a.size.width b.size.width) (Decides-int_eq a.size.height b.size.height)))

shape_decides : (a b : Shape) → Decides (shape_eq.ghosts.eq a b) (a ≡ b)
shape_decides a b =
    Decides-like _
    (λ p. λ i. record { layer = p.0 i; rect = record { x1 = p.1.0.0 i; y1 = p.1.1.0 i; x2 = p.1.0.1 i; y2 = p.1.1.1 i } })
    (λ e. (
      ap (λ (s : Shape). s.layer) e,
      (
        (ap (λ (s : Shape). s.rect.x1) e, ap (λ (s : Shape). s.rect.x2) e),
        (ap (λ (s : Shape). s.rect.y1) e, ap (λ (s : Shape). s.rect.y2) e),
      ),
    ))
    (Decides-and _ _ (Decides-eqb a.layer b.layer)
    (Decides-and _ _
    (Decides-and _ _ (Decides-int_eq a.rect.x1 b.rect.x1) (Decides-int_eq a.rect.x2 b.rect.x2))
    (Decides-and _ _ (Decides-int_eq a.rect.y1 b.rect.y1) (Decides-int_eq a.rect.y2 b.rect.y2))))

abbrev same_shapes : List Shape → List Shape → Bool
same_shapes xs ys = pointwise shape_eq.ghosts.eq xs ys

shapes_decide : (xs ys : List Shape) → Decides (same_shapes xs ys) (xs ≡ ys)
shapes_decide xs ys = slice_eq-Decides shape_decides xs ys (same_shapes xs ys) refl

supply_decides : (a b : Supply) → Decides (supply_eq.ghosts.eq a b) (a ≡ b)
supply_decides NoSupply NoSupply = (λ _. refl, λ _. refl)
supply_decides NoSupply Power = (λ e. absurd (cc), λ e. absurd (cc))
supply_decides NoSupply Ground = (λ e. absurd (cc), λ e. absurd (cc))
supply_decides Power NoSupply = (λ e. absurd (cc), λ e. absurd (cc))
supply_decides Power Power = (λ _. refl, λ _. refl)
supply_decides Power Ground = (λ e. absurd (cc), λ e. absurd (cc))
supply_decides Ground NoSupply = (λ e. absurd (cc), λ e. absurd (cc))
supply_decides Ground Power = (λ e. absurd (cc), λ e. absurd (cc))
supply_decides Ground Ground = (λ _. refl, λ _. refl)

abbrev pub same_via : ViaModel → ViaModel → Bool
same_via a b = bytes_eq a.name b.name && (beq a.default_via b.default_via && (beq a.good b.good && same_shapes a.shapes b.shapes))

pub via_decides : (a b : ViaModel) → Decides (same_via a b) (a ≡ b)
via_decides a b =
    Decides-like _
    (λ p. λ i. record { name = p.0 i; default_via = p.1.0 i; good = p.1.1.0 i; shapes = p.1.1.1 i })
    (λ e. (ap (λ (v : ViaModel). v.name) e, (ap (λ (v : ViaModel). v.default_via) e, (ap (λ (v : ViaModel). v.good) e, ap (λ (v : ViaModel). v.shapes) e))))
    (Decides-and _ _ (bytes_eq-Decides a.name b.name)
    (Decides-and _ _ (booleans_Decides a.default_via b.default_via)
    (Decides-and _ _ (booleans_Decides a.good b.good)
    (shapes_decide a.shapes b.shapes))))

abbrev same_pin : MasterPinModel → MasterPinModel → Bool
same_pin a b = bytes_eq a.name b.name && (supply_eq.ghosts.eq a.supply b.supply && same_shapes a.shapes b.shapes)

pin_decides : (a b : MasterPinModel) → Decides (same_pin a b) (a ≡ b)
pin_decides a b =
    Decides-like _
    (λ p. λ i. record { name = p.0 i; supply = p.1.0 i; shapes = p.1.1 i })
    (λ e. (ap (λ (v : MasterPinModel). v.name) e, (ap (λ (v : MasterPinModel). v.supply) e, ap (λ (v : MasterPinModel). v.shapes) e)))
    (Decides-and _ _ (bytes_eq-Decides a.name b.name)
    (Decides-and _ _ (supply_decides a.supply b.supply)
    (shapes_decide a.shapes b.shapes)))

abbrev same_pins : List MasterPinModel → List MasterPinModel → Bool
same_pins xs ys = pointwise same_pin xs ys

pins_decide : (xs ys : List MasterPinModel) → Decides (same_pins xs ys) (xs ≡ ys)
pins_decide xs ys = slice_eq-Decides pin_decides xs ys (same_pins xs ys) refl

number_decides : (x y : Option ℕ) → Decides (option_eq eqb x y) (x ≡ y)
number_decides None None = (λ _. refl, λ _. refl)
number_decides None (Some n) = (λ e. absurd (cc), λ e. absurd (cc))
number_decides (Some m) None = (λ e. absurd (cc), λ e. absurd (cc))
number_decides (Some m) (Some n) = Decides-like _ (λ e. ap Some e) (λ e. same_Some m n e) (Decides-eqb m n)

abbrev pub same_master : MasterModel → MasterModel → Bool
same_master a b =
    bytes_eq a.name b.name
    && ((int_eq a.size.width b.size.width && int_eq a.size.height b.size.height)
    && (beq a.y_symmetric b.y_symmetric
    && (option_eq eqb a.site b.site
    && (same_pins a.pins b.pins && same_shapes a.obstructions b.obstructions))))

pub master_decides : (a b : MasterModel) → Decides (same_master a b) (a ≡ b)
master_decides a b =
    Decides-like _
    (λ p. λ i. record {
      name = p.0 i;
      size = record { width = p.1.0.0 i; height = p.1.0.1 i };
      y_symmetric = p.1.1.0 i;
      site = p.1.1.1.0 i;
      pins = p.1.1.1.1.0 i;
      obstructions = p.1.1.1.1.1 i;
    })
    (λ e. (
      ap (λ (m : MasterModel). m.name) e,
      (
        (ap (λ (m : MasterModel). m.size.width) e, ap (λ (m : MasterModel). m.size.height) e),
        (
          ap (λ (m : MasterModel). m.y_symmetric) e,
          (
            ap (λ (m : MasterModel). m.site) e,
            (ap (λ (m : MasterModel). m.pins) e, ap (λ (m : MasterModel). m.obstructions) e),
          ),
        ),
      ),
    ))
    (Decides-and _ _ (bytes_eq-Decides a.name b.name)
    (Decides-and _ _ (Decides-and _ _ (Decides-int_eq a.size.width b.size.width) (Decides-int_eq a.size.height b.size.height))
    (Decides-and _ _ (booleans_Decides a.y_symmetric b.y_symmetric)
    (Decides-and _ _ (number_decides a.site b.site)
    (Decides-and _ _ (pins_decide a.pins b.pins) (shapes_decide a.obstructions b.obstructions))))))

width_decides : (a b : RuleWidth) → Decides (width_eq.ghosts.eq a b) (a ≡ b)
width_decides a b =
    Decides-like _
    (λ p. λ i. record { layer = p.0 i; width = p.1 i })
    (λ e. (ap (λ (w : RuleWidth). w.layer) e, ap (λ (w : RuleWidth). w.width) e))
    (Decides-and _ _ (Decides-eqb a.layer b.layer) (Decides-int_eq a.width b.width))

abbrev same_widths : List RuleWidth → List RuleWidth → Bool
same_widths xs ys = pointwise width_eq.ghosts.eq xs ys

widths_decide : (xs ys : List RuleWidth) → Decides (same_widths xs ys) (xs ≡ ys)
widths_decide xs ys = slice_eq-Decides width_decides xs ys (same_widths xs ys) refl

abbrev pub same_rule : RuleModel → RuleModel → Bool
same_rule a b = bytes_eq a.name b.name && same_widths a.widths b.widths

pub rule_decides : (a b : RuleModel) → Decides (same_rule a b) (a ≡ b)
rule_decides a b =
    Decides-like _
    (λ p. λ i. record { name = p.0 i; widths = p.1 i })
    (λ e. (ap (λ (r : RuleModel). r.name) e, ap (λ (r : RuleModel). r.widths) e))
    (Decides-and _ _ (bytes_eq-Decides a.name b.name) (widths_decide a.widths b.widths))
