-- What holds of every library in database units.
use Rattle.std.proofs.Common.{ℕ, ◌*◌, ◌≤◌, List, [], ◌∷◌, All, subst, sym, ℤ, pos, unsigned_abs, ◌*ℤ◌, ◌-ℤ◌, ◌≤ℤ◌, ◌<ℤ◌, arith}
use Rattle.std.proofs.lemmas.Int.{ints}
use Rattle.std.proofs.lemmas.List.Elements.{All-nil, All-cons, All-head, All-tail}
use Rattle.leg_lex.specs.declared.limits.TheConstants.{NUMBER_LIMIT, UNITS_LIMIT}
use Rattle.leg_lex.specs.Number.{IsNumber}
use Rattle.leg_geom.specs.Plane.{PointModel}
use Rattle.leg_lib_records.specs.declared.raw.RawKind.{RawKind}
use Rattle.leg_lib_records.specs.declared.raw.RawKind.TheVariants as raw
use Rattle.leg_lib_records.specs.declared.raw.RawLayer.{RawLayer}
use Rattle.leg_lib_records.specs.declared.raw.RawSite.{RawSite}
use Rattle.leg_lib_records.specs.declared.raw.RawShape.{RawShape}
use Rattle.leg_lib_records.specs.declared.raw.RawRuleWidth.{RawRuleWidth}
use Rattle.leg_lib_records.specs.declared.records.LayerKind.{LayerKind}
use Rattle.leg_lib_records.specs.declared.records.LayerKind.TheVariants.{Routing, Cut, Other}
use Rattle.leg_lib_records.specs.declared.records.Layer.{Layer}
use Rattle.leg_lib_records.specs.declared.records.Site.{Site}
use Rattle.leg_lib_records.specs.declared.records.Shape.{Shape}
use Rattle.leg_lib_records.specs.declared.records.RuleWidth.{RuleWidth}
use Rattle.leg_lib_records.specs.Measure.{ExtentModel, HasArea, IsExtent}
use Rattle.leg_lib_records.specs.Records.{RawLibraryModel, RawViaModel, RawMasterModel, RawRuleModel, ViaModel, MasterModel, RuleModel, LibraryModel}
use Rattle.leg_lib_records.specs.Scale.{IsLengthAt, IsSizeAt, IsSpotAt, IsShapeAt, IsKindAt, IsLayerAt, IsSiteAt, IsViaAt, IsPinAt, IsMasterAt, IsRuleWidthAt, IsRuleAt, OneForOne, IsLibraryAt, no_shift}
use Rattle.leg_lib_records.specs.LibraryNames.{AreNames}
use Rattle.leg_lib_records.specs.Sound.{HasRawWidth, IsSoundRawLayer, IsSoundRawRule, IsSoundRaw, HasWidth, IsSoundLayer, AreWithin, AreShapesWithin, IsSoundVia, IsSoundMaster, IsRuleWidth, IsSoundRule, IsSound}
use Rattle.leg_lib_records.proofs.References.{refers_at}
use Rattle.leg_lib_records.proofs.Scaling.{layers_named, sites_named, vias_named, masters_named, rules_named}

wide_at : (n : ℕ) (m u : ℤ) → 1 ≤ n → pos 0 <ℤ m → IsLengthAt n m u → pos 0 <ℤ u
wide_at n m u some wide at =
    let e : pos 0 <ℤ (m *ℤ pos n) = grind (arith, ints) in
    let p = at.exact in
    omega (arith, ints, e, p)

not_less_at : (n : ℕ) (m u : ℤ) → pos 0 ≤ℤ m → IsLengthAt n m u → pos 0 ≤ℤ u
not_less_at n m u least at =
    let e : pos 0 ≤ℤ (m *ℤ pos n) = grind (arith, ints) in
    let p = at.exact in
    omega (arith, ints, e, p)

-- a coordinate that was moved
near : (n : ℕ) (m u s : ℤ) → IsNumber s → IsLengthAt n m (u -ℤ s) → unsigned_abs u ≤ 2 * NUMBER_LIMIT
near n m u s moved at =
    let p : IsNumber (u -ℤ s) = at.within in
    omega (arith, ints, p, moved)

unmoved_near : (n : ℕ) (m u : ℤ) → IsLengthAt n m (u -ℤ pos 0) → unsigned_abs u ≤ NUMBER_LIMIT
unmoved_near n m u at =
    let p : IsNumber (u -ℤ pos 0) = at.within in
    omega (arith, ints, p)

kind_at : (n : ℕ) (kind : RawKind) (scaled : LayerKind) → 1 ≤ n → HasRawWidth kind → IsKindAt n kind scaled → HasWidth scaled
kind_at n (raw.Routing direction width) (Routing way u) some wide at =
    let exact : IsLengthAt n width u = at.1 in
    record { above = wide_at n width u some wide exact; within = exact.within; even = at.2 }
kind_at n kind Cut some wide at = tt
kind_at n kind Other some wide at = tt
kind_at n raw.Cut (Routing way u) some wide at = absurd at
kind_at n raw.Other (Routing way u) some wide at = absurd at

layers_at : (n : ℕ) (raw : List RawLayer) (layers : List Layer) → 1 ≤ n → All IsSoundRawLayer raw → OneForOne (IsLayerAt n) raw layers → All IsSoundLayer layers
layers_at n [] [] some sound at = All-nil IsSoundLayer
layers_at n [] (layer ∷ layers) some sound at = absurd at
layers_at n (r ∷ raw) [] some sound at = absurd at
layers_at n (r ∷ raw) (layer ∷ layers) some sound at =
    let first : IsSoundRawLayer r = All-head IsSoundRawLayer r raw sound in
    let scaled : IsLayerAt n r layer = at.0 in
    let here : IsSoundLayer layer = record {
      width = kind_at n r.kind layer.kind some first.width scaled.kind;
      spacing = record { least = not_less_at n r.spacing layer.spacing first.spacing scaled.spacing; within = scaled.spacing.within };
    } in
    All-cons IsSoundLayer layer layers here (layers_at n raw layers some (All-tail IsSoundRawLayer r raw sound) at.1)

-- what holds of all that stands one for one for something
all_at : {X Y : Type 0} (R : X → Y → Type 0) (P : Y → Type 0) → ((x : X) (y : Y) → R x y → P y) → (xs : List X) (ys : List Y) → OneForOne R xs ys → All P ys
all_at R P each [] [] at = All-nil P
all_at R P each [] (y ∷ ys) at = absurd at
all_at R P each (x ∷ xs) [] at = absurd at
all_at R P each (x ∷ xs) (y ∷ ys) at = All-cons P y ys (each x y at.0) (all_at R P each xs ys at.1)

via_at : (n : ℕ) (r : RawViaModel) (via : ViaModel) → IsViaAt n r via → IsSoundVia via
via_at n r via at =
    all_at (IsShapeAt n no_shift) (λ shape. AreWithin NUMBER_LIMIT shape.rect) (λ shape scaled is. record {
      x1 = unmoved_near n shape.rect.x1 scaled.rect.x1 is.rect.x1;
      y1 = unmoved_near n shape.rect.y1 scaled.rect.y1 is.rect.y1;
      x2 = unmoved_near n shape.rect.x2 scaled.rect.x2 is.rect.x2;
      y2 = unmoved_near n shape.rect.y2 scaled.rect.y2 is.rect.y2;
    }) r.shapes via.shapes at.shapes

shapes_at : (n : ℕ) (origin shift : PointModel) (raw : List RawShape) (shapes : List Shape) → IsSpotAt n origin shift
    → OneForOne (IsShapeAt n shift) raw shapes → AreShapesWithin (2 * NUMBER_LIMIT) shapes
shapes_at n origin shift raw shapes moved at =
    all_at (IsShapeAt n shift) (λ shape. AreWithin (2 * NUMBER_LIMIT) shape.rect) (λ shape scaled is. record {
      x1 = near n shape.rect.x1 scaled.rect.x1 shift.x moved.x.within is.rect.x1;
      y1 = near n shape.rect.y1 scaled.rect.y1 shift.y moved.y.within is.rect.y1;
      x2 = near n shape.rect.x2 scaled.rect.x2 shift.x moved.x.within is.rect.x2;
      y2 = near n shape.rect.y2 scaled.rect.y2 shift.y moved.y.within is.rect.y2;
    }) raw shapes at

master_at : (n : ℕ) (r : RawMasterModel) (master : MasterModel) → IsMasterAt n r master → IsSoundMaster master
master_at n r master at = record {
  pins = all_at (IsPinAt n at.shift) (λ pin. AreShapesWithin (2 * NUMBER_LIMIT) pin.shapes)
      (λ pin scaled is. shapes_at n r.origin at.shift pin.shapes scaled.shapes at.origin is.shapes) r.pins master.pins at.pins;
  obstructions = shapes_at n r.origin at.shift r.obstructions master.obstructions at.origin at.obstructions;
}

pub extent_at : (n : ℕ) (raw size : ExtentModel) → 1 ≤ n → HasArea raw → IsSizeAt n raw size → IsExtent size
extent_at n raw size some area at = record {
  width = at.width.within;
  height = at.height.within;
  area = record {
    wide = wide_at n raw.width size.width some area.wide at.width;
    high = wide_at n raw.height size.height some area.high at.height;
  };
}

sites_at : (n : ℕ) (raw : List RawSite) (sites : List Site) → 1 ≤ n → All (λ site. HasArea site.size) raw → OneForOne (IsSiteAt n) raw sites
    → All (λ site. IsExtent site.size) sites
sites_at n [] [] some sound at = All-nil (λ site. IsExtent site.size)
sites_at n [] (site ∷ sites) some sound at = absurd at
sites_at n (r ∷ raw) [] some sound at = absurd at
sites_at n (r ∷ raw) (site ∷ sites) some sound at =
    let first : HasArea r.size = All-head (λ s. HasArea s.size) r raw sound in
    All-cons (λ s. IsExtent s.size) site sites (extent_at n r.size site.size some first at.0.size)
    (sites_at n raw sites some (All-tail (λ s. HasArea s.size) r raw sound) at.1)

rule_widths_at : (n : ℕ) (raw : List RawRuleWidth) (widths : List RuleWidth) → 1 ≤ n → All (λ w. pos 0 <ℤ w.width) raw
    → OneForOne (IsRuleWidthAt n) raw widths → All (λ w. IsRuleWidth w.width) widths
rule_widths_at n [] [] some sound at = All-nil (λ w. IsRuleWidth w.width)
rule_widths_at n [] (width ∷ widths) some sound at = absurd at
rule_widths_at n (r ∷ raw) [] some sound at = absurd at
rule_widths_at n (r ∷ raw) (width ∷ widths) some sound at =
    let first : pos 0 <ℤ r.width = All-head (λ w. pos 0 <ℤ w.width) r raw sound in
    let here : IsRuleWidth width.width = record { above = wide_at n r.width width.width some first at.0.width; within = at.0.width.within } in
    All-cons (λ w. IsRuleWidth w.width) width widths here
    (rule_widths_at n raw widths some (All-tail (λ w. pos 0 <ℤ w.width) r raw sound) at.1)

rules_at : (n : ℕ) (raw : List RawRuleModel) (rules : List RuleModel) → 1 ≤ n → All IsSoundRawRule raw → OneForOne (IsRuleAt n) raw rules → All IsSoundRule rules
rules_at n [] [] some sound at = All-nil IsSoundRule
rules_at n [] (rule ∷ rules) some sound at = absurd at
rules_at n (r ∷ raw) [] some sound at = absurd at
rules_at n (r ∷ raw) (rule ∷ rules) some sound at =
    All-cons IsSoundRule rule rules (rule_widths_at n r.widths rule.widths some (All-head IsSoundRawRule r raw sound) at.0.widths)
    (rules_at n raw rules some (All-tail IsSoundRawRule r raw sound) at.1)

-- A sound library is sound in database units.
pub sound_at : (n : ℕ) (raw : RawLibraryModel) (library : LibraryModel) → 1 ≤ n → n ≤ UNITS_LIMIT → IsSoundRaw raw → IsLibraryAt n raw library → IsSound library
sound_at n raw library some most sound at = record {
  least_units = subst (λ u. 1 ≤ u) (sym at.units) some;
  most_units = subst (λ u. u ≤ UNITS_LIMIT) (sym at.units) most;
  layers = layers_at n raw.layers library.layers some sound.layers at.layers;
  sites = sites_at n raw.sites library.sites some sound.sites at.sites;
  vias = all_at (IsViaAt n) IsSoundVia (via_at n) raw.vias library.vias at.vias;
  masters = all_at (IsMasterAt n) IsSoundMaster (master_at n) raw.masters library.masters at.masters;
  rules = rules_at n raw.rules library.rules some sound.rules at.rules;
  names = record {
    layers = subst AreNames (sym (layers_named n raw.layers library.layers at.layers)) sound.names.layers;
    sites = subst AreNames (sym (sites_named n raw.sites library.sites at.sites)) sound.names.sites;
    vias = subst AreNames (sym (vias_named n raw.vias library.vias at.vias)) sound.names.vias;
    masters = subst AreNames (sym (masters_named n raw.masters library.masters at.masters)) sound.names.masters;
    rules = subst AreNames (sym (rules_named n raw.rules library.rules at.rules)) sound.names.rules;
  };
  references = refers_at n raw library some sound.references at;
}
