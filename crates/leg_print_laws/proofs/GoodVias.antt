-- A good via joins two routing layers, of which the lowest of its layers is the lower one.
use Rattle.std.proofs.Common.{◌≡◌, ℕ, ◌+◌, ◌<◌, ◌≤◌, min, fold, Bool, true, false, not, ◌&&◌, ◌||◌, ◌==◌, nat_lt, is_some, List, [], ◌∷◌, All, Contains, get_or, map, slice_get, Option, None, Some, option_map, refl, sym, ap, ◌∙◌, arith}
use Rattle.std.specs.List.{list_any, list_all, find, slice_range}
use Rattle.std.proofs.lemmas.Bool.{false≢true, and_parts}
use Rattle.std.proofs.lemmas.Bool.Decides.{nat_tests}
use Rattle.std.proofs.lemmas.Option.{slice_get-map}
use Rattle.std.proofs.lemmas.List.Folds.{list_all-map}
use Rattle.std.proofs.lemmas.List.Elements.{All-head, All-tail, All-nil, All-cons}
use Rattle.leg_lib_records.specs.declared.joins.ViaPart.{ViaPart}
use Rattle.leg_lib_records.specs.declared.records.LayerKind.{LayerKind}
use Rattle.leg_lib_records.specs.declared.records.LayerKind.TheVariants.{Routing, Cut, Other}
use Rattle.leg_lib_records.specs.declared.records.Layer.{Layer}
use Rattle.leg_lib_records.specs.declared.records.Shape.{Shape}
use Rattle.leg_lib_records.specs.Joins as joins
use Rattle.leg_lib_records.specs.Joins.{is_wiring_word, has_wires, is_cut, is_part, join, join_layers}
use Rattle.leg_lib_records.specs.GoodVia.{use_of, uses_of, holds_origin, parts_of, is_good_via}
use Rattle.leg_lib_records.specs.Records.{LibraryModel, ViaModel}
use Rattle.leg_design_records.specs.Layers.{is_routing, wire_width}
use Rattle.leg_design_records.proofs.SameTerminal.{Passes, passes_from, some_passes, number_itself}
use Rattle.leg_grammar.specs.Def.NetScope.{NetScopeModel, via_numbered}
use Rattle.leg_grammar.specs.Def.Path.{across}
use Rattle.leg_output.specs.Text.Wires.{lowest_layer}

all_pass : {X : Type 0} (p : X → Bool) (xs : List X) → list_all p xs ≡ true → All (λ x. p x ≡ true) xs
all_pass p [] all = All-nil (λ x. p x ≡ true)
all_pass p (x ∷ xs) all = All-cons (λ y. p y ≡ true) x xs (and_parts (p x) (list_all p xs) all).0 (all_pass p xs (and_parts (p x) (list_all p xs) all).1)

-- tests of what is made of each element
any_map : {X Y : Type 0} (p : Y → Bool) (f : X → Y) (xs : List X) → list_any p (map f xs) ≡ list_any (λ x. p (f x)) xs
any_map p f [] = refl
any_map p f (x ∷ xs) = ap (λ later. p (f x) || later) (any_map p f xs)

-- the first element that passes
found_first : {X : Type 0} (p : X → Bool) (xs : List X) → list_any p xs ≡ true → (x : X) × (find p xs ≡ Some x)
found_first p [] some = absurd (false≢true some)
found_first {X} p (x ∷ xs) some = by (p x) refl (found_first p xs) where
  by : (here : Bool) → p x ≡ here → (list_any p xs ≡ true → (y : X) × (find p xs ≡ Some y)) → (y : X) × (find p (x ∷ xs) ≡ Some y)
  by true is later = (x, rw is refl)
  by false is later = let there = later (rw is at some) in (there.0, rw is there.1)

abbrev part_of : Shape → ViaPart
part_of shape = record { layer = shape.layer; holds_origin = holds_origin shape.rect }

-- The layers that a good via joins: each of its shapes lies on one of them, and there is one on each.
pub record JoinsTwo (library : LibraryModel) (shapes : List Shape) (low high : ℕ) : Type 0 where
  pub cut : ℕ
  pub below : low < cut
  pub above : cut < high
  pub low_routes : is_routing library low ≡ true
  pub high_routes : is_routing library high ≡ true
  pub on_low : list_any (λ shape. shape.layer == low) shapes ≡ true
  pub on_high : list_any (λ shape. shape.layer == high) shapes ≡ true
  pub each : All (λ shape. low ≤ shape.layer) shapes

-- wires run on a layer just where vias find so
same_use : (kind : LayerKind) → has_wires (use_of kind) ≡ true → is_some (wire_width kind) ≡ true
same_use (Routing direction width) has = refl
same_use Cut has = absurd (false≢true has)
same_use Other has = absurd (false≢true has)

routes_too : (library : LibraryModel) (k : ℕ) → joins.is_routing (uses_of library.layers) k ≡ true → is_routing library k ≡ true
routes_too library k routes = by (slice_get library.layers k) refl where
  same : slice_get (uses_of library.layers) k ≡ option_map (λ (l : Layer). use_of l.kind) (slice_get library.layers k)
  same = slice_get-map (λ (l : Layer). use_of l.kind) library.layers k

  by : (found : Option Layer) → slice_get library.layers k ≡ found → is_routing library k ≡ true
  by None is = absurd (false≢true (rw (same, is) at routes))
  by (Some layer) is = rw is (same_use layer.kind (rw (same, is) at routes))

on_least : (low cut high layer : ℕ) (holds : Bool) → low < cut → cut < high → (layer == cut || ((layer == low || layer == high) && holds)) ≡ true → low ≤ layer
on_least low cut high layer holds below above is = grind (arith, nat_tests)

less_from : (a b : ℕ) → nat_lt a b ≡ true → a < b
less_from a b is = grind (arith, nat_tests)

-- the facts that a test of three layers says
module _ (library : LibraryModel) (shapes : List Shape) where
  layers_join : (a b c : Shape) → join (uses_of library.layers) a.layer b.layer c.layer (parts_of shapes) ≡ true → Contains shapes a → Contains shapes c
      → JoinsTwo library shapes a.layer c.layer
  layers_join a b c joined there here =
      let uses = uses_of library.layers in
      let last =
      and_parts (joins.is_routing uses a.layer && is_cut uses b.layer && joins.is_routing uses c.layer && nat_lt a.layer b.layer && nat_lt b.layer c.layer &&
      not
      (list_any has_wires (slice_range uses (a.layer + 1) c.layer)))
      (list_all (is_part a.layer b.layer c.layer) (parts_of shapes)) joined in
      let five =
      and_parts (joins.is_routing uses a.layer && is_cut uses b.layer && joins.is_routing uses c.layer && nat_lt a.layer b.layer && nat_lt b.layer c.layer)
      (not (list_any has_wires (slice_range uses (a.layer + 1) c.layer))) last.0 in
      let four =
      and_parts (joins.is_routing uses a.layer && is_cut uses b.layer && joins.is_routing uses c.layer && nat_lt a.layer b.layer)
      (nat_lt b.layer c.layer) five.0 in
      let three = and_parts (joins.is_routing uses a.layer && is_cut uses b.layer && joins.is_routing uses c.layer) (nat_lt a.layer b.layer) four.0 in
      let two = and_parts (joins.is_routing uses a.layer && is_cut uses b.layer) (joins.is_routing uses c.layer) three.0 in
      let one = and_parts (joins.is_routing uses a.layer) (is_cut uses b.layer) two.0 in
      let below = less_from a.layer b.layer three.1 in
      let above = less_from b.layer c.layer four.1 in
      let parts =
      all_pass (λ shape. is_part a.layer b.layer c.layer (part_of shape)) shapes
      (sym (list_all-map (is_part a.layer b.layer c.layer) part_of shapes) ∙ last.1) in record {
        cut = b.layer;
        below = below;
        above = above;
        low_routes = routes_too library a.layer one.0;
        high_routes = routes_too library c.layer two.1;
        on_low = some_passes (λ shape. shape.layer == a.layer) shapes a there (number_itself a.layer);
        on_high = some_passes (λ shape. shape.layer == c.layer) shapes c here (number_itself c.layer);
        each = λ k d less. on_least a.layer b.layer c.layer (get_or shapes k d).layer (holds_origin (get_or shapes k d).rect) below above (parts k d less);
      }

  -- the tests of one, of two and of three of the shapes
  abbrev third : ℕ → ℕ → ViaPart → Bool
  third low cut part = join (uses_of library.layers) low cut part.layer (parts_of shapes)

  abbrev second : ℕ → ViaPart → Bool
  second low part = list_any (third low part.layer) (parts_of shapes)

  abbrev first : ViaPart → Bool
  first part = list_any (second part.layer) (parts_of shapes)

  -- a part that passes is that of a shape
  passing : (test : ViaPart → Bool) → list_any test (parts_of shapes) ≡ true → Passes (λ shape. test (part_of shape)) shapes
  passing test some = passes_from (λ shape. test (part_of shape)) shapes (sym (any_map test part_of shapes) ∙ some)

  pub good_joins : (name : List ℕ) → is_good_via library name shapes ≡ true → (low : ℕ) × (high : ℕ) × JoinsTwo library shapes low high
  unfolding is_good_via
  good_joins name good =
      let joined : join_layers (uses_of library.layers) (parts_of shapes) ≡ true =
      (and_parts (not (is_wiring_word name)) (join_layers (uses_of library.layers) (parts_of shapes)) good).1 in
      let a = passing first joined in
      let b = passing (second a.it.layer) a.passes in
      let c = passing (third a.it.layer b.it.layer) b.passes in
      (a.it.layer, c.it.layer, layers_join a.it b.it c.it c.passes a.in_list c.in_list)

-- the lowest layer
stays_above : (low start : ℕ) (shapes : List Shape) → low ≤ start → All (λ shape. low ≤ shape.layer) shapes
    → low ≤ fold (λ lowest other. min lowest other.layer) start shapes
stays_above low start [] le each = le
stays_above low start (shape ∷ shapes) le each =
    stays_above low (min start shape.layer) shapes (above le (All-head (λ s. low ≤ s.layer) shape shapes each))
    (All-tail (λ s. low ≤ s.layer) shape shapes each) where
      above : low ≤ start → low ≤ shape.layer → low ≤ min start shape.layer
      above a b = omega arith

falls_to : (low start : ℕ) (shapes : List Shape) → start ≤ low → fold (λ lowest other. min lowest other.layer) start shapes ≤ low
falls_to low start [] le = le
falls_to low start (shape ∷ shapes) le = falls_to low (min start shape.layer) shapes (omega arith)

reaches : (low start : ℕ) (shapes : List Shape) → list_any (λ shape. shape.layer == low) shapes ≡ true
    → fold (λ lowest other. min lowest other.layer) start shapes ≤ low
reaches low start [] some = absurd (false≢true some)
reaches low start (shape ∷ shapes) some = by (shape.layer == low) refl (reaches low (min start shape.layer) shapes) where
  by : (here : Bool) → (shape.layer == low) ≡ here
      → (list_any (λ s. s.layer == low) shapes ≡ true → fold (λ lowest other. min lowest other.layer) (min start shape.layer) shapes ≤ low)
      → fold (λ lowest other. min lowest other.layer) (min start shape.layer) shapes ≤ low
  by true is later = falls_to low (min start shape.layer) shapes (least (equal is)) where
    equal : (shape.layer == low) ≡ true → shape.layer ≡ low
    equal same = grind (arith, nat_tests)

    least : shape.layer ≡ low → min start shape.layer ≤ low
    least same = omega arith
  by false is later = later (rw is at some)

pub lowest_is : (low : ℕ) (shapes : List Shape) → list_any (λ shape. shape.layer == low) shapes ≡ true → All (λ shape. low ≤ shape.layer) shapes
    → lowest_layer shapes ≡ low
lowest_is low [] some each = absurd (false≢true some)
lowest_is low (shape ∷ shapes) some each = omega (arith, up, down) where
  up : low ≤ fold (λ lowest other. min lowest other.layer) shape.layer shapes
  up = stays_above low shape.layer shapes (All-head (λ s. low ≤ s.layer) shape shapes each) (All-tail (λ s. low ≤ s.layer) shape shapes each)

  down : fold (λ lowest other. min lowest other.layer) shape.layer shapes ≤ low
  down = by (shape.layer == low) refl where
    by : (here : Bool) → (shape.layer == low) ≡ here → fold (λ lowest other. min lowest other.layer) shape.layer shapes ≤ low
    by true is = falls_to low shape.layer shapes (grind (arith, nat_tests))
    by false is = reaches low shape.layer shapes (rw is at some)

-- A good via leads from its lower routing layer to the other.
pub across_good : (scope : NetScopeModel) (number : ℕ) (via : ViaModel) (low high : ℕ) → via_numbered scope number ≡ Some via → via.good ≡ true
    → JoinsTwo scope.library via.shapes low high → (other : ℕ) × (across scope number low ≡ Some other)
unfolding across
across_good scope number via low high is good joined =
    let other = found_first (λ shape. is_routing scope.library shape.layer && not (shape.layer == low)) via.shapes some in
    (other.0.layer, rw (is, good, joined.on_low, other.1) refl) where
      high_one : Passes (λ shape. shape.layer == high) via.shapes
      high_one = passes_from (λ shape. shape.layer == high) via.shapes joined.on_high

      equal : (a b : ℕ) → (a == b) ≡ true → a ≡ b
      equal a b same = grind (arith, nat_tests)

      apart : (a : ℕ) → a ≡ high → (a == low) ≡ false
      apart a same = let below = joined.below in let above = joined.above in grind (arith, nat_tests)

      some : list_any (λ shape. is_routing scope.library shape.layer && not (shape.layer == low)) via.shapes ≡ true
      some = some_passes (λ shape. is_routing scope.library shape.layer && not (shape.layer == low)) via.shapes high_one.it high_one.in_list
          (let same = equal high_one.it.layer high high_one.passes in rw (apart high_one.it.layer same, same, joined.high_routes) refl)
