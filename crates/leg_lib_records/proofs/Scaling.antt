-- ExtentModel in database units, and lists whose elements stand one for one for those of another.
use Rattle.std.proofs.Common.{◌≡◌, ◌≢◌, ℕ, suc, zero, ◌+◌, ◌/◌, ◌%◌, ◌<◌, ◌≤◌, Bool, List, [], ◌∷◌, ◌++◌, length, get_or, take, map, Option, ℤ, pos, negsuc, neg_ℤ, unsigned_abs, ◌*ℤ◌, ◌+ℤ◌, ◌-ℤ◌, ◌<ℤ◌, refl, sym, ap, ◌∙◌, subst, arith}
use Rattle.std.proofs.lemmas.List.{take_all, take_more}
use Rattle.std.proofs.lemmas.Int.{ints}
use Rattle.leg_lex.specs.Number.{IsUnits}
use Rattle.leg_geom.specs.Plane.{PointModel, RectModel}
use Rattle.leg_lib_records.specs.declared.raw.RawLayer.{RawLayer}
use Rattle.leg_lib_records.specs.declared.raw.RawKind.{RawKind}
use Rattle.leg_lib_records.specs.declared.raw.RawKind.TheVariants as raw
use Rattle.leg_lib_records.specs.declared.raw.RawSite.{RawSite}
use Rattle.leg_lib_records.specs.declared.raw.RawShape.{RawShape}
use Rattle.leg_lib_records.specs.declared.raw.RawRuleWidth.{RawRuleWidth}
use Rattle.leg_lib_records.specs.declared.records.Supply.{Supply}
use Rattle.leg_lib_records.specs.declared.records.LayerKind.{LayerKind}
use Rattle.leg_lib_records.specs.declared.records.LayerKind.TheVariants.{Routing, Cut, Other}
use Rattle.leg_lib_records.specs.declared.records.Layer.{Layer}
use Rattle.leg_lib_records.specs.declared.records.Site.{Site}
use Rattle.leg_lib_records.specs.declared.records.Shape.{Shape}
use Rattle.leg_lib_records.specs.declared.records.RuleWidth.{RuleWidth}
use Rattle.leg_lib_records.specs.Measure.{ExtentModel}
use Rattle.leg_lib_records.specs.Records.{RawViaModel, RawPinModel, RawMasterModel, RawRuleModel, RawLibraryModel, ViaModel, MasterPinModel, MasterModel, RuleModel, LibraryModel}
use Rattle.leg_lib_records.specs.Scale.{IsLengthAt, IsSizeAt, IsSpotAt, IsRectAt, IsShapeAt, IsEven, IsKindAt, IsLayerAt, IsSiteAt, IsViaAt, IsPinAt, IsMasterAt, IsRuleWidthAt, IsRuleAt, OneForOne, IsLibraryAt, no_shift}
use Rattle.leg_lib_records.proofs.OneEach.{push_pair}

module _ {X Y : Type 0} (R : X → Y → Type 0) where
  -- one more element
  pub pair_more : (xs : List X) (ys : List Y) (i : ℕ) (x : X) (y : Y) → i < length xs → x ≡ get_or xs i x → OneForOne R (take i xs) ys → R x y
      → OneForOne R (take (i + 1) xs) (ys ++ y ∷ [])
  pair_more xs ys i x y less is before same =
      let more : take (i + 1) xs ≡ take i xs ++ x ∷ [] = take_more xs i x less ∙ ap (λ z. take i xs ++ z ∷ []) (sym is) in
      rw more (push_pair R (take i xs) ys x y before same)

  -- no element is left
  pub pair_all : (xs : List X) (ys : List Y) (i : ℕ) → length xs ≤ i → OneForOne R (take i xs) ys → OneForOne R xs ys
  pair_all xs ys i past before = subst (λ zs. OneForOne R zs ys) (take_all i xs past) before

  -- an element that nothing stands for
  pub pair_none : (xs : List X) (i : ℕ) (x : X) → i < length xs → x ≡ get_or xs i x → ((y : Y) → ¬ R x y) → (ys : List Y) → ¬ OneForOne R xs ys
  pair_none [] i x less is none ys = absurd (omega arith)
  pair_none (w ∷ xs) i x less is none [] = λ all. all
  pair_none (w ∷ xs) zero x less is none (y ∷ ys) = λ all. none y (rw is all.0)
  pair_none (w ∷ xs) (suc i) x less is none (y ∷ ys) = λ all. pair_none xs i x (omega arith) is none ys all.1

  -- where each element has one that stands for it, a list has one list
  pub pair_one : ((x : X) (y z : Y) → R x y → R x z → y ≡ z) → (xs : List X) (ys zs : List Y) → OneForOne R xs ys → OneForOne R xs zs → ys ≡ zs
  pair_one one [] [] [] all every = refl
  pair_one one [] [] (z ∷ zs) all every = absurd every
  pair_one one [] (y ∷ ys) zs all every = absurd all
  pair_one one (x ∷ xs) [] zs all every = absurd all
  pair_one one (x ∷ xs) (y ∷ ys) [] all every = absurd every
  pair_one one (x ∷ xs) (y ∷ ys) (z ∷ zs) all every =
      ap (λ w. w ∷ ys) (one x y z all.0 every.0) ∙ ap (λ ws. z ∷ ws) (pair_one one xs ys zs all.1 every.1)

more_times : (n : ℕ) (m k : ℤ) → 1 ≤ n → m <ℤ k → (m *ℤ pos n) <ℤ (k *ℤ pos n)
more_times n m k some longer = grind (arith, ints)

-- what is longer has more units
pub more_units : (n : ℕ) (m k u v : ℤ) → 1 ≤ n → m <ℤ k → IsUnits m n u → IsUnits k n v → u <ℤ v
more_units n m k u v some longer p q =
    let e : (m *ℤ pos n) <ℤ (k *ℤ pos n) = more_times n m k some longer in
    omega (arith, ints, e, p, q)

pub one_length : (n : ℕ) (m u v : ℤ) → IsLengthAt n m u → IsLengthAt n m v → u ≡ v
one_length n m u v p q =
    let same : u *ℤ pos 1000000 ≡ v *ℤ pos 1000000 = p.exact ∙ sym q.exact in
    omega (arith, ints, same)

-- what is longer is longer when both are moved
pub moved_more : (n : ℕ) (m k u v s : ℤ) → 1 ≤ n → m <ℤ k → IsLengthAt n m (u -ℤ s) → IsLengthAt n k (v -ℤ s) → u <ℤ v
moved_more n m k u v s some longer p q =
    let more : (u -ℤ s) <ℤ (v -ℤ s) = more_units n m k (u -ℤ s) (v -ℤ s) some longer p.exact q.exact in
    omega (arith, ints, more)

-- a length that is moved, less the shift
pub shifted : (n : ℕ) (m u s : ℤ) → IsLengthAt n m u → IsLengthAt n m ((u +ℤ s) -ℤ s)
shifted n m u s at = let back : (u +ℤ s) -ℤ s ≡ u = omega (arith, ints) in rw back at

-- an even width has a half
pub even_width : (u : ℤ) → unsigned_abs u % 2 ≡ 0 → IsEven u
even_width (pos a) even = (pos (a / 2), omega (arith, ints))
even_width (negsuc a) even = (neg_ℤ (pos (suc a / 2)), omega (arith, ints))

odd_has_none : (u half : ℤ) → unsigned_abs u % 2 ≢ 0 → u ≡ half +ℤ half → ⊥
odd_has_none u half odd is = absurd (omega (arith, ints))

-- where a width is odd, it says no even one
pub odd_width : (n : ℕ) (m u v : ℤ) → IsLengthAt n m u → unsigned_abs u % 2 ≢ 0 → IsLengthAt n m v → IsEven v → ⊥
odd_width n m u v p odd q even = odd_has_none u even.0 odd (one_length n m u v p q ∙ even.1)

pub one_spot : (n : ℕ) (raw a b : PointModel) → IsSpotAt n raw a → IsSpotAt n raw b → a ≡ b
one_spot n raw a b p q =
    let at : ℤ → ℤ → PointModel = λ x y. record { x = x; y = y } in
    ap (λ x. at x a.y) (one_length n raw.x a.x b.x p.x q.x)
    ∙ ap (λ y. at b.x y) (one_length n raw.y a.y b.y p.y q.y)

-- a macro whose pins, or whose obstructions, say nothing at its origin says nothing
module _ (n : ℕ) (raw : RawMasterModel) (shift : PointModel) (at : IsSpotAt n raw.origin shift) where
  pub no_pins : ((pins : List MasterPinModel) → ¬ OneForOne (IsPinAt n shift) raw.pins pins) → (m : MasterModel) → ¬ IsMasterAt n raw m
  no_pins none m = λ is. none m.pins (subst (λ s. OneForOne (IsPinAt n s) raw.pins m.pins) (one_spot n raw.origin is.shift shift is.origin at) is.pins)

  pub no_obstructions : ((shapes : List Shape) → ¬ OneForOne (IsShapeAt n shift) raw.obstructions shapes) → (m : MasterModel) → ¬ IsMasterAt n raw m
  no_obstructions none m =
      λ is. none m.obstructions (subst (λ s. OneForOne (IsShapeAt n s) raw.obstructions m.obstructions)
      (one_spot n raw.origin is.shift shift is.origin at) is.obstructions)

-- what stands for records has their names
pub layers_named : (n : ℕ) (raw : List RawLayer) (layers : List Layer) → OneForOne (IsLayerAt n) raw layers → map (λ x. x.name) layers ≡ map (λ x. x.name) raw
layers_named n [] [] all = refl
layers_named n [] (x ∷ layers) all = absurd all
layers_named n (r ∷ raw) [] all = absurd all
layers_named n (r ∷ raw) (x ∷ layers) all = rw (all.0.name, layers_named n raw layers all.1) refl

pub sites_named : (n : ℕ) (raw : List RawSite) (sites : List Site) → OneForOne (IsSiteAt n) raw sites → map (λ x. x.name) sites ≡ map (λ x. x.name) raw
sites_named n [] [] all = refl
sites_named n [] (x ∷ sites) all = absurd all
sites_named n (r ∷ raw) [] all = absurd all
sites_named n (r ∷ raw) (x ∷ sites) all = rw (all.0.name, sites_named n raw sites all.1) refl

pub vias_named : (n : ℕ) (raw : List RawViaModel) (vias : List ViaModel) → OneForOne (IsViaAt n) raw vias → map (λ x. x.name) vias ≡ map (λ x. x.name) raw
vias_named n [] [] all = refl
vias_named n [] (x ∷ vias) all = absurd all
vias_named n (r ∷ raw) [] all = absurd all
vias_named n (r ∷ raw) (x ∷ vias) all = rw (all.0.name, vias_named n raw vias all.1) refl

pub masters_named : (n : ℕ) (raw : List RawMasterModel) (masters : List MasterModel) → OneForOne (IsMasterAt n) raw masters
    → map (λ x. x.name) masters ≡ map (λ x. x.name) raw
masters_named n [] [] all = refl
masters_named n [] (x ∷ masters) all = absurd all
masters_named n (r ∷ raw) [] all = absurd all
masters_named n (r ∷ raw) (x ∷ masters) all = rw (all.0.name, masters_named n raw masters all.1) refl

pub rules_named : (n : ℕ) (raw : List RawRuleModel) (rules : List RuleModel) → OneForOne (IsRuleAt n) raw rules
    → map (λ x. x.name) rules ≡ map (λ x. x.name) raw
rules_named n [] [] all = refl
rules_named n [] (x ∷ rules) all = absurd all
rules_named n (r ∷ raw) [] all = absurd all
rules_named n (r ∷ raw) (x ∷ rules) all = rw (all.0.name, rules_named n raw rules all.1) refl

-- what is read is one thing in database units at most
one_size : (n : ℕ) (raw : ExtentModel) (a b : ExtentModel) → IsSizeAt n raw a → IsSizeAt n raw b → a ≡ b
one_size n raw a b p q =
    let at : ℤ → ℤ → ExtentModel = λ width height. record { width = width; height = height } in
    ap (λ v. at v a.height) (one_length n raw.width a.width b.width p.width q.width)
    ∙ ap (λ v. at b.width v) (one_length n raw.height a.height b.height p.height q.height)

unmoved : (a b s : ℤ) → a -ℤ s ≡ b -ℤ s → a ≡ b
unmoved a b s same = omega (arith, ints, same)

one_rect : (n : ℕ) (shift : PointModel) (raw : RectModel) (a b : RectModel) → IsRectAt n shift raw a → IsRectAt n shift raw b → a ≡ b
one_rect n shift raw a b p q =
    let at : ℤ → ℤ → ℤ → ℤ → RectModel = λ x1 y1 x2 y2. record { x1 = x1; y1 = y1; x2 = x2; y2 = y2 } in
    ap (λ v. at v a.y1 a.x2 a.y2) (unmoved a.x1 b.x1 shift.x (one_length n raw.x1 (a.x1 -ℤ shift.x) (b.x1 -ℤ shift.x) p.x1 q.x1))
    ∙ ap (λ v. at b.x1 v a.x2 a.y2) (unmoved a.y1 b.y1 shift.y (one_length n raw.y1 (a.y1 -ℤ shift.y) (b.y1 -ℤ shift.y) p.y1 q.y1))
    ∙ ap (λ v. at b.x1 b.y1 v a.y2) (unmoved a.x2 b.x2 shift.x (one_length n raw.x2 (a.x2 -ℤ shift.x) (b.x2 -ℤ shift.x) p.x2 q.x2))
    ∙ ap (λ v. at b.x1 b.y1 b.x2 v) (unmoved a.y2 b.y2 shift.y (one_length n raw.y2 (a.y2 -ℤ shift.y) (b.y2 -ℤ shift.y) p.y2 q.y2))

one_shape : (n : ℕ) (shift : PointModel) (raw : RawShape) (a b : Shape) → IsShapeAt n shift raw a → IsShapeAt n shift raw b → a ≡ b
one_shape n shift raw a b p q =
    let at : ℕ → RectModel → Shape = λ layer rect. record { layer = layer; rect = rect } in
    ap (λ v. at v a.rect) (p.layer ∙ sym q.layer)
    ∙ ap (λ v. at b.layer v) (one_rect n shift raw.rect a.rect b.rect p.rect q.rect)

one_kind : (n : ℕ) (kind : RawKind) (a b : LayerKind) → IsKindAt n kind a → IsKindAt n kind b → a ≡ b
one_kind n (raw.Routing direction width) (Routing way u) (Routing other v) p q =
    ap (λ d. Routing d u) (p.0 ∙ sym q.0) ∙ ap (Routing other) (one_length n width u v p.1 q.1)
one_kind n (raw.Routing direction width) (Routing way u) Cut p q = absurd q
one_kind n (raw.Routing direction width) (Routing way u) Other p q = absurd q
one_kind n (raw.Routing direction width) Cut b p q = absurd p
one_kind n (raw.Routing direction width) Other b p q = absurd p
one_kind n raw.Cut (Routing way u) b p q = absurd p
one_kind n raw.Cut Cut (Routing way u) p q = absurd q
one_kind n raw.Cut Cut Cut p q = refl
one_kind n raw.Cut Cut Other p q = absurd q
one_kind n raw.Cut Other b p q = absurd p
one_kind n raw.Other (Routing way u) b p q = absurd p
one_kind n raw.Other Cut b p q = absurd p
one_kind n raw.Other Other (Routing way u) p q = absurd q
one_kind n raw.Other Other Cut p q = absurd q
one_kind n raw.Other Other Other p q = refl

one_layer : (n : ℕ) (raw : RawLayer) (a b : Layer) → IsLayerAt n raw a → IsLayerAt n raw b → a ≡ b
one_layer n raw a b p q =
    let at : List ℕ → LayerKind → ℤ → Layer = λ name kind spacing. record { name = name; kind = kind; spacing = spacing } in
    ap (λ v. at v a.kind a.spacing) (p.name ∙ sym q.name)
    ∙ ap (λ v. at b.name v a.spacing) (one_kind n raw.kind a.kind b.kind p.kind q.kind)
    ∙ ap (λ v. at b.name b.kind v) (one_length n raw.spacing a.spacing b.spacing p.spacing q.spacing)

one_site : (n : ℕ) (raw : RawSite) (a b : Site) → IsSiteAt n raw a → IsSiteAt n raw b → a ≡ b
one_site n raw a b p q =
    let at : List ℕ → ExtentModel → Site = λ name size. record { name = name; size = size } in
    ap (λ v. at v a.size) (p.name ∙ sym q.name)
    ∙ ap (λ v. at b.name v) (one_size n raw.size a.size b.size p.size q.size)

one_via : (n : ℕ) (raw : RawViaModel) (a b : ViaModel) → IsViaAt n raw a → IsViaAt n raw b → a ≡ b
one_via n raw a b p q =
    let at : List ℕ → Bool → Bool → List Shape → ViaModel =
    λ name default_via good shapes. record { name = name; default_via = default_via; good = good; shapes = shapes } in
    ap (λ v. at v a.default_via a.good a.shapes) (p.name ∙ sym q.name)
    ∙ ap (λ v. at b.name v a.good a.shapes) (p.default_via ∙ sym q.default_via)
    ∙ ap (λ v. at b.name b.default_via v a.shapes) (p.good ∙ sym q.good)
    ∙ ap (λ v. at b.name b.default_via b.good v) (pair_one (IsShapeAt n no_shift) (one_shape n no_shift) raw.shapes a.shapes b.shapes p.shapes q.shapes)

one_pin : (n : ℕ) (shift : PointModel) (raw : RawPinModel) (a b : MasterPinModel) → IsPinAt n shift raw a → IsPinAt n shift raw b → a ≡ b
one_pin n shift raw a b p q =
    let at : List ℕ → Supply → List Shape → MasterPinModel = λ name supply shapes. record { name = name; supply = supply; shapes = shapes } in
    ap (λ v. at v a.supply a.shapes) (p.name ∙ sym q.name)
    ∙ ap (λ v. at b.name v a.shapes) (p.supply ∙ sym q.supply)
    ∙ ap (λ v. at b.name b.supply v) (pair_one (IsShapeAt n shift) (one_shape n shift) raw.shapes a.shapes b.shapes p.shapes q.shapes)

one_master : (n : ℕ) (raw : RawMasterModel) (a b : MasterModel) → IsMasterAt n raw a → IsMasterAt n raw b → a ≡ b
one_master n raw a b p q =
    let same : q.shift ≡ p.shift = one_spot n raw.origin q.shift p.shift q.origin p.origin in
    let at : List ℕ → ExtentModel → Bool → Option ℕ → List MasterPinModel → List Shape → MasterModel =
    λ name size y_symmetric site pins obstructions.
    record { name = name; size = size; y_symmetric = y_symmetric; site = site; pins = pins; obstructions = obstructions } in
    ap (λ v. at v a.size a.y_symmetric a.site a.pins a.obstructions) (p.name ∙ sym q.name)
    ∙ ap (λ v. at b.name v a.y_symmetric a.site a.pins a.obstructions) (one_size n raw.size a.size b.size p.size q.size)
    ∙ ap (λ v. at b.name b.size v a.site a.pins a.obstructions) (p.y_symmetric ∙ sym q.y_symmetric)
    ∙ ap (λ v. at b.name b.size b.y_symmetric v a.pins a.obstructions) (p.site ∙ sym q.site)
    ∙ ap (λ v. at b.name b.size b.y_symmetric b.site v a.obstructions)
    (pair_one (IsPinAt n p.shift) (one_pin n p.shift) raw.pins a.pins b.pins p.pins (subst (λ s. OneForOne (IsPinAt n s) raw.pins b.pins) same q.pins))
    ∙ ap (λ v. at b.name b.size b.y_symmetric b.site b.pins v)
    (pair_one (IsShapeAt n p.shift) (one_shape n p.shift) raw.obstructions a.obstructions b.obstructions p.obstructions
    (subst (λ s. OneForOne (IsShapeAt n s) raw.obstructions b.obstructions) same q.obstructions))

one_rule_width : (n : ℕ) (raw : RawRuleWidth) (a b : RuleWidth) → IsRuleWidthAt n raw a → IsRuleWidthAt n raw b → a ≡ b
one_rule_width n raw a b p q =
    let at : ℕ → ℤ → RuleWidth = λ layer width. record { layer = layer; width = width } in
    ap (λ v. at v a.width) (p.layer ∙ sym q.layer)
    ∙ ap (λ v. at b.layer v) (one_length n raw.width a.width b.width p.width q.width)

one_rule : (n : ℕ) (raw : RawRuleModel) (a b : RuleModel) → IsRuleAt n raw a → IsRuleAt n raw b → a ≡ b
one_rule n raw a b p q =
    let at : List ℕ → List RuleWidth → RuleModel = λ name widths. record { name = name; widths = widths } in
    ap (λ v. at v a.widths) (p.name ∙ sym q.name)
    ∙ ap (λ v. at b.name v) (pair_one (IsRuleWidthAt n) (one_rule_width n) raw.widths a.widths b.widths p.widths q.widths)

-- what is read is one library in database units at most
pub one_library : (n : ℕ) (raw : RawLibraryModel) (a b : LibraryModel) → IsLibraryAt n raw a → IsLibraryAt n raw b → a ≡ b
one_library n raw a b p q =
    let at : ℕ → List Layer → List Site → List ViaModel → List MasterModel → List RuleModel → LibraryModel =
    λ units layers sites vias masters rules.
    record { units = units; layers = layers; sites = sites; vias = vias; masters = masters; rules = rules } in
    ap (λ v. at v a.layers a.sites a.vias a.masters a.rules) (p.units ∙ sym q.units)
    ∙ ap (λ v. at b.units v a.sites a.vias a.masters a.rules) (pair_one (IsLayerAt n) (one_layer n) raw.layers a.layers b.layers p.layers q.layers)
    ∙ ap (λ v. at b.units b.layers v a.vias a.masters a.rules) (pair_one (IsSiteAt n) (one_site n) raw.sites a.sites b.sites p.sites q.sites)
    ∙ ap (λ v. at b.units b.layers b.sites v a.masters a.rules) (pair_one (IsViaAt n) (one_via n) raw.vias a.vias b.vias p.vias q.vias)
    ∙ ap (λ v. at b.units b.layers b.sites b.vias v a.rules) (pair_one (IsMasterAt n) (one_master n) raw.masters a.masters b.masters p.masters q.masters)
    ∙ ap (λ v. at b.units b.layers b.sites b.vias b.masters v) (pair_one (IsRuleAt n) (one_rule n) raw.rules a.rules b.rules p.rules q.rules)
