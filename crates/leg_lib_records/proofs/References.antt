-- What the records of a library refer to is there when one more record is added, and in database units.
use Rattle.std.proofs.Common.{◌≡◌, ℕ, ◌≤◌, ◌<◌, List, [], ◌∷◌, ◌++◌, length, length-append, map, All, IfSome, Option, None, Some, refl, sym, subst, ap, ◌∙◌, arith}
use Rattle.std.proofs.lemmas.List.Elements.{All-nil, All-cons, All-head, All-tail, All-weaker}
use Rattle.leg_geom.specs.Plane.{PointModel}
use Rattle.leg_lib_records.specs.declared.raw.RawLayer.{RawLayer}
use Rattle.leg_lib_records.specs.declared.raw.RawSite.{RawSite}
use Rattle.leg_lib_records.specs.declared.raw.RawShape.{RawShape}
use Rattle.leg_lib_records.specs.declared.raw.RawRuleWidth.{RawRuleWidth}
use Rattle.leg_lib_records.specs.declared.records.Shape.{Shape}
use Rattle.leg_lib_records.specs.Records.{RawLibraryModel, RawViaModel, RawPinModel, RawMasterModel, RawRuleModel, ViaModel, MasterPinModel, MasterModel, RuleModel, LibraryModel}
use Rattle.leg_lib_records.specs.GoodVia.{is_good_via}
use Rattle.leg_lib_records.specs.Scale.{IsShapeAt, IsLayerAt, IsSiteAt, IsViaAt, IsPinAt, IsMasterAt, IsRuleWidthAt, IsRuleAt, OneForOne, IsLibraryAt, no_shift}
use Rattle.leg_lib_records.specs.LibraryNames.{AreNames}
use Rattle.leg_lib_records.specs.References.{AreRawShapesOn, AreShapesOn, IsRawViaOf, IsRawMasterOf, IsRawRuleOf, HasRawReferences, IsViaOf, IsMasterOf, IsRuleOf, HasReferences}
use Rattle.leg_lib_records.proofs.MoreLayers.{good_with_more}
use Rattle.leg_lib_records.proofs.SameJoins.{good_at}

on_more : (few many : ℕ) → few ≤ many → (shapes : List RawShape) → AreRawShapesOn few shapes → AreRawShapesOn many shapes
on_more few many fewer shapes on = All-weaker (λ shape. shape.layer < few) (λ shape. shape.layer < many) (λ shape less. omega (arith, less)) shapes on

via_with_layer : (layers : List RawLayer) (layer : RawLayer) (via : RawViaModel) → IsRawViaOf layers via → IsRawViaOf (layers ++ layer ∷ []) via
via_with_layer layers layer via of = record {
  on_layers = on_more (length layers) (length (layers ++ layer ∷ [])) (omega (arith, length-append layers (layer ∷ []))) via.shapes of.on_layers;
  good = of.good ∙ sym (good_with_more layers (layer ∷ []) via.name via.shapes of.on_layers);
}

site_within : (few many : ℕ) → few ≤ many → (site : Option ℕ) → IfSome site (λ k. k < few) → IfSome site (λ k. k < many)
site_within few many fewer None within = tt
site_within few many fewer (Some k) within = omega (arith, within)

master_with_more : (layers more : List RawLayer) (sites others : List RawSite) → length layers ≤ length more → length sites ≤ length others
    → (master : RawMasterModel) → IsRawMasterOf layers sites master → IsRawMasterOf more others master
master_with_more layers more sites others longer wider master of = record {
  site = site_within (length sites) (length others) wider master.site of.site;
  pin_names = of.pin_names;
  pins = All-weaker (λ pin. AreRawShapesOn (length layers) pin.shapes) (λ pin. AreRawShapesOn (length more) pin.shapes)
      (λ pin on. on_more (length layers) (length more) longer pin.shapes on) master.pins of.pins;
  obstructions = on_more (length layers) (length more) longer master.obstructions of.obstructions;
}

rule_with_layer : (layers : List RawLayer) (layer : RawLayer) (rule : RawRuleModel) → IsRawRuleOf layers rule → IsRawRuleOf (layers ++ layer ∷ []) rule
rule_with_layer layers layer rule of =
    All-weaker (λ width. width.layer < length layers) (λ width. width.layer < length (layers ++ layer ∷ []))
    (λ (width : RawRuleWidth) less. omega (arith, less, length-append layers (layer ∷ []))) rule.widths of

pub refers_with_layer : (library : RawLibraryModel) (layer : RawLayer) → HasRawReferences library
    → HasRawReferences (record library { layers = library.layers ++ layer ∷ [] })
refers_with_layer library layer of = record {
  vias = All-weaker (IsRawViaOf library.layers) (IsRawViaOf (library.layers ++ layer ∷ [])) (via_with_layer library.layers layer) library.vias of.vias;
  masters =
      All-weaker (IsRawMasterOf library.layers library.sites) (IsRawMasterOf (library.layers ++ layer ∷ []) library.sites)
      (master_with_more library.layers (library.layers ++ layer ∷ []) library.sites library.sites (omega (arith, length-append library.layers (layer ∷ [])))
      (omega arith)) library.masters of.masters;
  rules = All-weaker (IsRawRuleOf library.layers) (IsRawRuleOf (library.layers ++ layer ∷ [])) (rule_with_layer library.layers layer) library.rules of.rules;
}

pub refers_with_site : (library : RawLibraryModel) (site : RawSite) → HasRawReferences library
    → HasRawReferences (record library { sites = library.sites ++ site ∷ [] })
refers_with_site library site of = record {
  vias = of.vias;
  masters =
      All-weaker (IsRawMasterOf library.layers library.sites) (IsRawMasterOf library.layers (library.sites ++ site ∷ []))
      (master_with_more library.layers library.layers library.sites (library.sites ++ site ∷ []) (omega arith)
      (omega (arith, length-append library.sites (site ∷ [])))) library.masters of.masters;
  rules = of.rules;
}

-- what stands one for one is as long
as_long : {X Y : Type 0} (R : X → Y → Type 0) (xs : List X) (ys : List Y) → OneForOne R xs ys → length ys ≡ length xs
as_long R [] [] at = refl
as_long R [] (y ∷ ys) at = absurd at
as_long R (x ∷ xs) [] at = absurd at
as_long R (x ∷ xs) (y ∷ ys) at = let e = as_long R xs ys at.1 in omega (arith, e)

-- what holds of all that stands one for one for something of which something holds
all_from : {X Y : Type 0} (R : X → Y → Type 0) (P : X → Type 0) (Q : Y → Type 0) → ((x : X) (y : Y) → P x → R x y → Q y) → (xs : List X) (ys : List Y)
    → All P xs → OneForOne R xs ys → All Q ys
all_from R P Q each [] [] all at = All-nil Q
all_from R P Q each [] (y ∷ ys) all at = absurd at
all_from R P Q each (x ∷ xs) [] all at = absurd at
all_from R P Q each (x ∷ xs) (y ∷ ys) all at =
    All-cons Q y ys (each x y (All-head P x xs all) at.0) (all_from R P Q each xs ys (All-tail P x xs all) at.1)

on_at : (n : ℕ) (shift : PointModel) (few many : ℕ) → many ≡ few → (raw : List RawShape) (shapes : List Shape) → AreRawShapesOn few raw
    → OneForOne (IsShapeAt n shift) raw shapes → AreShapesOn many shapes
on_at n shift few many same raw shapes on at =
    all_from (IsShapeAt n shift) (λ shape. shape.layer < few) (λ shape. shape.layer < many)
    (λ shape scaled less is. let e = is.layer in omega (arith, less, e, same)) raw shapes on at

pins_named : (n : ℕ) (shift : PointModel) (raw : List RawPinModel) (pins : List MasterPinModel) → OneForOne (IsPinAt n shift) raw pins
    → map (λ pin. pin.name) pins ≡ map (λ pin. pin.name) raw
pins_named n shift [] [] all = refl
pins_named n shift [] (x ∷ pins) all = absurd all
pins_named n shift (r ∷ raw) [] all = absurd all
pins_named n shift (r ∷ raw) (x ∷ pins) all = rw (all.0.name, pins_named n shift raw pins all.1) refl

via_at : (n : ℕ) (raw : RawLibraryModel) (library : LibraryModel) → 1 ≤ n → IsLibraryAt n raw library → (r : RawViaModel) (via : ViaModel)
    → IsRawViaOf raw.layers r → IsViaAt n r via → IsViaOf library via
via_at n raw library some at r via of is = record {
  on_layers =
      on_at n no_shift (length raw.layers) (length library.layers)
      (as_long (IsLayerAt n) raw.layers library.layers at.layers) r.shapes via.shapes of.on_layers is.shapes;
  good = is.good ∙ of.good ∙ sym (good_at n raw.layers library r.name r.shapes via.shapes some at.layers is.shapes)
      ∙ ap (λ name. is_good_via library name via.shapes) (sym is.name);
}

master_at : (n : ℕ) (raw : RawLibraryModel) (library : LibraryModel) → IsLibraryAt n raw library → (r : RawMasterModel) (master : MasterModel)
    → IsRawMasterOf raw.layers raw.sites r → IsMasterAt n r master → IsMasterOf library master
master_at n raw library at r master of is =
    let layers = as_long (IsLayerAt n) raw.layers library.layers at.layers in
    let sites = as_long (IsSiteAt n) raw.sites library.sites at.sites in
    record {
      site = subst (λ site. IfSome site (λ k. k < length library.sites)) (sym is.site)
          (site_within (length raw.sites) (length library.sites) (omega (arith, sites)) r.site of.site);
      pin_names = subst AreNames (sym (pins_named n is.shift r.pins master.pins is.pins)) of.pin_names;
      pins = all_from (IsPinAt n is.shift) (λ pin. AreRawShapesOn (length raw.layers) pin.shapes) (λ pin. AreShapesOn (length library.layers) pin.shapes)
          (λ pin scaled on same. on_at n is.shift (length raw.layers) (length library.layers) layers pin.shapes scaled.shapes on same.shapes) r.pins
          master.pins of.pins is.pins;
      obstructions = on_at n is.shift (length raw.layers) (length library.layers) layers r.obstructions master.obstructions of.obstructions is.obstructions;
    }

rule_at : (n : ℕ) (raw : RawLibraryModel) (library : LibraryModel) → IsLibraryAt n raw library → (r : RawRuleModel) (rule : RuleModel)
    → IsRawRuleOf raw.layers r → IsRuleAt n r rule → IsRuleOf library rule
rule_at n raw library at r rule of is =
    let layers = as_long (IsLayerAt n) raw.layers library.layers at.layers in
    all_from (IsRuleWidthAt n) (λ width. width.layer < length raw.layers) (λ width. width.layer < length library.layers)
    (λ width scaled less same. let e = same.layer in omega (arith, less, e, layers)) r.widths rule.widths of is.widths

-- What is there in millionths of a micron is there in database units.
pub refers_at : (n : ℕ) (raw : RawLibraryModel) (library : LibraryModel) → 1 ≤ n → HasRawReferences raw → IsLibraryAt n raw library → HasReferences library
refers_at n raw library some of at = record {
  vias = all_from (IsViaAt n) (IsRawViaOf raw.layers) (IsViaOf library) (via_at n raw library some at) raw.vias library.vias of.vias at.vias;
  masters =
      all_from (IsMasterAt n) (IsRawMasterOf raw.layers raw.sites) (IsMasterOf library)
      (master_at n raw library at) raw.masters library.masters of.masters at.masters;
  rules = all_from (IsRuleAt n) (IsRawRuleOf raw.layers) (IsRuleOf library) (rule_at n raw library at) raw.rules library.rules of.rules at.rules;
}
