-- Good vias: the three layers that the shapes join are the lowest, the highest and another.
use Rattle.std.proofs.Common.{◌≡◌, ◌≢◌, ℕ, ◌+◌, ◌-◌, ◌<◌, ◌≤◌, min, max, ◌⊎◌, ◌↔◌, inl, inr, ⊎_elim, pos, ℤ, ◌<ℤ◌, int_lt, nat_lt, Bool, true, false, not, ◌&&◌, ◌||◌, ◌==◌, IsTrue, List, [], ◌∷◌, map, length, take, drop, get_or, Option, Some, None, slice_get, refl, sym, subst, ◌∙◌, arith, length-take, length-drop}
use Rattle.std.specs.Bool.{Decides}
use Rattle.std.specs.List.{All, Any, list_any, list_all, slice_range}
use Rattle.std.proofs.lemmas.Bool.{cases_lt, false_from_ne_true, true≢false, not_from_false, not-true}
use Rattle.std.proofs.lemmas.Bool.Decides.{Decides-and, Decides-or, Decides-eqb, Decides-ltb, Decides-by_and}
use Rattle.std.proofs.lemmas.List.{take-map, drop-map, take_all, get_or-take, get_or-drop, get_or_default}
use Rattle.std.proofs.lemmas.List.Elements.{All-nil, All-more}
use Rattle.std.proofs.lemmas.List.Folds.{Any-from_list_any, list_any-from_Any, list_any_none, list_any_at}
use Rattle.std.proofs.lemmas.Option.{slice_get-get_or, slice_get_within, get_or_from_slice_get}
use Rattle.std.proofs.lemmas.Int.{ints}
use Rattle.leg_geom.specs.Plane.{RectModel}
use Rattle.leg_lib_records.specs.declared.joins.LayerUse.{LayerUse}
use Rattle.leg_lib_records.specs.declared.joins.ViaPart.{ViaPart}
use Rattle.leg_lib_records.specs.GoodVia.{holds_origin}
use Rattle.leg_lib_records.specs.Joins.{has_wires, is_routing, is_cut, is_part, join, join_layers}
use Rattle.leg_lib_records.specs.JoinLaw.{IsUsed, HoldsOrigin, IsPart, Joins}
use Rattle.leg_lib_records.specs.Steps.ShapeLayers.{AreOuter, IsThird, OnTwo}

-- an element of which both hold
both_at : {X : Type 0} (P Q : X → Type 0) (xs : List X) → All P xs → Any Q xs → (x : X) × P x × Q x
both_at P Q xs all some = (some.1, subst P some.3 (all some.0 some.1 some.2), some.4)

lt_is : (a b : ℤ) → Decides (int_lt a b) (a <ℤ b)
lt_is a b = (λ is. grind (arith, ints), λ less. grind (arith, ints))

pub holds_is : (r : RectModel) → Decides (holds_origin r) (HoldsOrigin r)
holds_is r =
    let all =
    Decides-and (int_lt r.x1 (pos 0) && int_lt (pos 0) r.x2 && int_lt r.y1 (pos 0)) (int_lt (pos 0) r.y2)
    (Decides-and (int_lt r.x1 (pos 0) && int_lt (pos 0) r.x2) (int_lt r.y1 (pos 0))
    (Decides-and (int_lt r.x1 (pos 0)) (int_lt (pos 0) r.x2) (lt_is r.x1 (pos 0)) (lt_is (pos 0) r.x2)) (lt_is r.y1 (pos 0))) (lt_is (pos 0) r.y2) in (
      λ is.
          let facts = all.0 is in
          record { left = facts.0.0.0; right = facts.0.0.1; bottom = facts.0.1; top = facts.1 },
      λ holds. all.1 (((holds.left, holds.right), holds.bottom), holds.top),
    )

same_is : (b : Bool) → Decides b (b ≡ true)
same_is b = (λ is. is, λ is. is)

part_is : (low cut high : ℕ) (shape : ViaPart) → Decides (is_part low cut high shape) (IsPart low cut high shape)
part_is low cut high shape =
    Decides-or (shape.layer == cut) _ (Decides-eqb shape.layer cut)
    (Decides-and (shape.layer == low || shape.layer == high) _
    (Decides-or (shape.layer == low) _ (Decides-eqb shape.layer low) (Decides-eqb shape.layer high))
    (same_is shape.holds_origin))

parts_are : (low cut high : ℕ) (shapes : List ViaPart) → Decides (list_all (is_part low cut high) shapes) (All (IsPart low cut high) shapes)
parts_are low cut high shapes =
    Decides-by_and (is_part low cut high) (IsPart low cut high) (list_all (is_part low cut high)) (part_is low cut high) refl (λ shape others. refl) shapes

abbrev between : List LayerUse → ℕ → ℕ → Bool
between layers low high = list_any has_wires (slice_range layers (low + 1) high)

-- a routing layer is one of the layers
routing_layer : (layers : List LayerUse) (k : ℕ) → is_routing layers k ≡ true
    → (layer : LayerUse) × (slice_get layers k ≡ Some layer) × (has_wires layer ≡ true)
routing_layer layers k routes = by (slice_get layers k) refl where
  by : (o : Option LayerUse) → slice_get layers k ≡ o → (layer : LayerUse) × (slice_get layers k ≡ Some layer) × (has_wires layer ≡ true)
  by None is = absurd (let e : ⊥ = cc (rw is at routes) in e)
  by (Some layer) is = (layer, is, rw is at routes)

-- where no layer between the two routes, none of these numbers is that of a routing layer
none_routes : (layers : List LayerUse) (low high k : ℕ) → between layers low high ≡ false → low < k → k < high → is_routing layers k ≡ true → ⊥
none_routes layers low high k none above below routes =
    let found = routing_layer layers k routes in
    let within = slice_get_within layers k found.0 found.1 in
    let i = k - (low + 1) in
    let front = get_or-take (high - (low + 1)) (drop (low + 1) layers) i found.0 (omega arith) in
    let back = get_or-drop (low + 1) layers i found.0 in
    let place : low + 1 + i ≡ k = omega arith in
    let there : get_or (slice_range layers (low + 1) high) i found.0 ≡ found.0 =
    front ∙ back ∙ rw place (get_or_from_slice_get layers k found.0 found.0 found.1) in
    let long : length (slice_range layers (low + 1) high) ≡ min (high - (low + 1)) (length layers - (low + 1)) =
    length-take (high - (low + 1)) (drop (low + 1) layers) ∙ rw (length-drop (low + 1) layers) refl in
    let some = list_any_at has_wires (slice_range layers (low + 1) high) i found.0 (omega arith) (rw there found.2) in
    true≢false (sym some ∙ none)

-- and the other way round
between_none : (layers : List LayerUse) (low high : ℕ) → ((k : ℕ) → low < k → k < high → is_routing layers k ≡ false) → between layers low high ≡ false
between_none layers low high none =
    list_any_none has_wires (slice_range layers (low + 1) high) (λ i d less.
    let long : length (slice_range layers (low + 1) high) ≡ min (high - (low + 1)) (length layers - (low + 1)) =
    length-take (high - (low + 1)) (drop (low + 1) layers) ∙ rw (length-drop (low + 1) layers) refl in
    let front = get_or-take (high - (low + 1)) (drop (low + 1) layers) i d (omega arith) in
    let back = get_or-drop (low + 1) layers i d in
    let there = slice_get-get_or layers (low + 1 + i) d (omega arith) in
    let other : is_routing layers (low + 1 + i) ≡ false = none (low + 1 + i) (omega arith) (omega arith) in
    rw (front, back) (rw there at other))

abbrev NoneBetween : List LayerUse → ℕ → ℕ → Type 0
NoneBetween layers low high = (k : ℕ) → low < k → k < high → is_routing layers k ≡ false

between_is : (layers : List LayerUse) (low high : ℕ) → Decides (not (between layers low high)) (NoneBetween layers low high)
between_is layers low high = (
  λ is. λ k above below. false_from_ne_true (is_routing layers k) (none_routes layers low high k (not-true (between layers low high) is) above below),
  λ none. not_from_false (between layers low high) (between_none layers low high none),
)

-- what the test of three layers says
pub record Meets (layers : List LayerUse) (low cut high : ℕ) (shapes : List ViaPart) : Type 0 where
  pub low_routes : is_routing layers low ≡ true
  pub cut_cuts : is_cut layers cut ≡ true
  pub high_routes : is_routing layers high ≡ true
  pub above : low < cut
  pub below : cut < high
  pub none_between : NoneBetween layers low high
  pub parts : All (IsPart low cut high) shapes

join_is : (layers : List LayerUse) (low cut high : ℕ) (shapes : List ViaPart) → Decides (join layers low cut high shapes) (Meets layers low cut high shapes)
join_is layers low cut high shapes =
    let a = is_routing layers low in
    let b = is_cut layers cut in
    let c = is_routing layers high in
    let d = nat_lt low cut in
    let e = nat_lt cut high in
    let f = not (between layers low high) in
    let g = list_all (is_part low cut high) shapes in
    let ab = Decides-and a b (same_is a) (same_is b) in
    let abc = Decides-and (a && b) c ab (same_is c) in
    let abcd = Decides-and (a && b && c) d abc (Decides-ltb low cut) in
    let abcde = Decides-and (a && b && c && d) e abcd (Decides-ltb cut high) in
    let abcdef = Decides-and (a && b && c && d && e) f abcde (between_is layers low high) in
    let all = Decides-and (a && b && c && d && e && f) g abcdef (parts_are low cut high shapes) in (
      λ is.
          let facts = all.0 is in
          record {
            low_routes = facts.0.0.0.0.0.0;
            cut_cuts = facts.0.0.0.0.0.1;
            high_routes = facts.0.0.0.0.1;
            above = facts.0.0.0.1;
            below = facts.0.0.1;
            none_between = facts.0.1;
            parts = facts.1;
          },
      λ meets. all.1 ((((((meets.low_routes, meets.cut_cuts), meets.high_routes), meets.above), meets.below), meets.none_between), meets.parts),
    )

-- an element whose layer passes a test
used : (shapes : List ViaPart) (p : ℕ → Bool) → list_any (λ s. p s.layer) shapes ≡ true → (n : ℕ) × IsUsed shapes n × (p n ≡ true)
used shapes p some =
    let s = Any-from_list_any (λ s. p s.layer) shapes some in
    (s.1.layer, (s.0, s.1, s.2, s.3, refl), s.4)

-- the three layers of a good via
three : (layers : List LayerUse) (shapes : List ViaPart) → join_layers layers shapes ≡ true
    → (low : ℕ) × (cut : ℕ) × (high : ℕ) × Joins layers shapes low cut high
three layers shapes joined =
    let a = used shapes (λ low. list_any (λ b. list_any (λ c. join layers low b.layer c.layer shapes) shapes) shapes) joined in
    let b = used shapes (λ cut. list_any (λ c. join layers a.0 cut c.layer shapes) shapes) a.2 in
    let c = used shapes (λ high. join layers a.0 b.0 high shapes) b.2 in
    let meets = (join_is layers a.0 b.0 c.0 shapes).0 c.2 in (
      a.0,
      b.0,
      c.0,
      record {
        low_used = a.1;
        cut_used = b.1;
        high_used = c.1;
        low_routes = meets.low_routes;
        cut_cuts = meets.cut_cuts;
        high_routes = meets.high_routes;
        above = meets.above;
        below = meets.below;
        none_between = meets.none_between;
        each = meets.parts;
      },
    )

some_on : (shapes : List ViaPart) (n : ℕ) (p : ℕ → Bool) → IsUsed shapes n → p n ≡ true → list_any (λ s. p s.layer) shapes ≡ true
some_on shapes n p is_used holds =
    list_any-from_Any (λ s. p s.layer) shapes (is_used.0, is_used.1, is_used.2, is_used.3, rw is_used.4 holds)

-- a test that holds at the layers of three of the shapes
joined_by : (layers : List LayerUse) (shapes : List ViaPart) (low cut high : ℕ) → IsUsed shapes low → IsUsed shapes cut → IsUsed shapes high
    → join layers low cut high shapes ≡ true → join_layers layers shapes ≡ true
joined_by layers shapes low cut high a b c joined =
    some_on shapes low (λ a. list_any (λ b. list_any (λ c. join layers a b.layer c.layer shapes) shapes) shapes) a
    (some_on shapes cut (λ b. list_any (λ c. join layers low b c.layer shapes) shapes) b
    (some_on shapes high (λ c. join layers low cut c shapes) c joined))

joins_is : (layers : List LayerUse) (shapes : List ViaPart) (low cut high : ℕ) → Joins layers shapes low cut high → join layers low cut high shapes ≡ true
joins_is layers shapes low cut high joins = (join_is layers low cut high shapes).1 (record {
  low_routes = joins.low_routes;
  cut_cuts = joins.cut_cuts;
  high_routes = joins.high_routes;
  above = joins.above;
  below = joins.below;
  none_between = joins.none_between;
  parts = joins.each;
})

-- each shape of a good via lies on one of its three layers
one_of_three : (layers : List LayerUse) (shapes : List ViaPart) (low cut high n : ℕ) → Joins layers shapes low cut high → IsUsed shapes n
    → (n ≡ cut) ⊎ ((n ≡ low) ⊎ (n ≡ high))
one_of_three layers shapes low cut high n joins is_used =
    let at = both_at (IsPart low cut high) (λ s. s.layer ≡ n) shapes joins.each is_used in
    ⊎_elim (λ on. inl (sym at.2 ∙ on)) (λ on. inr (⊎_elim (λ is. inl (sym at.2 ∙ is)) (λ is. inr (sym at.2 ∙ is)) on.0)) at.1

-- the lowest layer is no higher than that of any shape
is_least : (shapes : List ViaPart) (low high n : ℕ) → AreOuter shapes low high → IsUsed shapes n → low ≤ n
is_least shapes low high n outer is_used =
    let at = both_at (λ s. low ≤ s.layer) (λ s. s.layer ≡ n) shapes outer.above is_used in
    rw (← at.2) at.1

is_most : (shapes : List ViaPart) (low high n : ℕ) → AreOuter shapes low high → IsUsed shapes n → n ≤ high
is_most shapes low high n outer is_used =
    let at = both_at (λ s. s.layer ≤ high) (λ s. s.layer ≡ n) shapes outer.below is_used in
    rw (← at.2) at.1

outer_is_low : (layers : List LayerUse) (shapes : List ViaPart) (a b c low high : ℕ) → Joins layers shapes a b c → AreOuter shapes low high → a ≡ low
outer_is_low layers shapes a b c low high joins outer =
    let least = is_least shapes low high a outer joins.low_used in
    let up = joins.above in
    let over = joins.below in
    ⊎_elim (λ (is : low ≡ b). omega arith) (λ (on : (low ≡ a) ⊎ (low ≡ c)). ⊎_elim (λ (is : low ≡ a). sym is) (λ (is : low ≡ c). omega arith) on)
    (one_of_three layers shapes a b c low joins outer.low_used)

outer_is_high : (layers : List LayerUse) (shapes : List ViaPart) (a b c low high : ℕ) → Joins layers shapes a b c → AreOuter shapes low high → c ≡ high
outer_is_high layers shapes a b c low high joins outer =
    let most = is_most shapes low high c outer joins.high_used in
    let up = joins.above in
    let over = joins.below in
    ⊎_elim (λ (is : high ≡ b). omega arith) (λ (on : (high ≡ a) ⊎ (high ≡ c)). ⊎_elim (λ (is : high ≡ a). omega arith) (λ (is : high ≡ c). sym is) on)
    (one_of_three layers shapes a b c high joins outer.high_used)

third_is_cut : (layers : List LayerUse) (shapes : List ViaPart) (a b c low high cut : ℕ) → Joins layers shapes a b c → AreOuter shapes low high
    → IsThird shapes low high cut → b ≡ cut
third_is_cut layers shapes a b c low high cut joins outer third =
    let at_low = outer_is_low layers shapes a b c low high joins outer in
    let at_high = outer_is_high layers shapes a b c low high joins outer in
    ⊎_elim (λ (is : cut ≡ b). sym is) (λ (on : (cut ≡ a) ⊎ (cut ≡ c)). ⊎_elim (λ (is : cut ≡ a). absurd (third.not_low (is ∙ at_low)))
    (λ (is : cut ≡ c). absurd (third.not_high (is ∙ at_high))) on) (one_of_three layers shapes a b c cut joins third.used)

joins_these : (layers : List LayerUse) (shapes : List ViaPart) (low cut high : ℕ) → AreOuter shapes low high → IsThird shapes low high cut
    → join_layers layers shapes ≡ true → join layers low cut high shapes ≡ true
joins_these layers shapes low cut high outer third joined =
    let t = three layers shapes joined in
    let at_low = outer_is_low layers shapes t.0 t.1 t.2 low high t.3 outer in
    let at_cut = third_is_cut layers shapes t.0 t.1 t.2 low high cut t.3 outer third in
    let at_high = outer_is_high layers shapes t.0 t.1 t.2 low high t.3 outer in
    let is = joins_is layers shapes t.0 t.1 t.2 t.3 in
    subst (λ (n : ℕ). join layers low cut n shapes ≡ true) at_high
    (subst (λ (n : ℕ). join layers low n t.2 shapes ≡ true) at_cut (subst (λ (n : ℕ). join layers n t.1 t.2 shapes ≡ true) at_low is))

-- The one test of the lowest, the highest and another layer is the test of all.
pub tested_once : (layers : List LayerUse) (shapes : List ViaPart) (low cut high : ℕ) → AreOuter shapes low high → IsThird shapes low high cut
    → join layers low cut high shapes ≡ join_layers layers shapes
tested_once layers shapes low cut high outer third = by (join layers low cut high shapes) refl where
  by : (b : Bool) → join layers low cut high shapes ≡ b → join layers low cut high shapes ≡ join_layers layers shapes
  by true is = is ∙ sym (joined_by layers shapes low cut high outer.low_used third.used outer.high_used is)
  by false is =
      is ∙ sym (false_from_ne_true (join_layers layers shapes) (λ joined. true≢false (sym (joins_these layers shapes low cut high outer third joined) ∙ is)))

-- Shapes on two layers join none.
pub two_join_none : (layers : List LayerUse) (shapes : List ViaPart) (low high : ℕ) → AreOuter shapes low high → OnTwo shapes low high
    → join_layers layers shapes ≡ false
two_join_none layers shapes low high outer two = false_from_ne_true (join_layers layers shapes) (λ joined.
    let t = three layers shapes joined in
    let at_low = outer_is_low layers shapes t.0 t.1 t.2 low high t.3 outer in
    let at_high = outer_is_high layers shapes t.0 t.1 t.2 low high t.3 outer in
    let on = both_at (λ s. (s.layer ≡ low) ⊎ (s.layer ≡ high)) (λ s. s.layer ≡ t.1) shapes two t.3.cut_used in
    let up = t.3.above in
    let over = t.3.below in
    ⊎_elim (λ (is : on.0.layer ≡ low). let at = on.2 in let e : ⊥ = omega arith in e)
    (λ (is : on.0.layer ≡ high). let at = on.2 in let e : ⊥ = omega arith in e) on.1)

-- the lowest and the highest layer of the first i shapes
pub record OuterSoFar (shapes : List ViaPart) (i low high : ℕ) : Type 0 where
  pub low_used : IsUsed shapes low
  pub high_used : IsUsed shapes high
  pub above : All (λ shape. low ≤ shape.layer) (take i shapes)
  pub below : All (λ shape. shape.layer ≤ high) (take i shapes)

pub outer_start : (shapes : List ViaPart) (x : ViaPart) → 0 < length shapes → x ≡ get_or shapes 0 x → OuterSoFar shapes 0 x.layer x.layer
outer_start shapes x some is = record {
  low_used = (0, x, some, sym is, refl);
  high_used = (0, x, some, sym is, refl);
  above = All-nil (λ shape. x.layer ≤ shape.layer);
  below = All-nil (λ shape. shape.layer ≤ x.layer);
}

-- one more shape
outer_next : (shapes : List ViaPart) (i low high : ℕ) (x : ViaPart) → i < length shapes → x ≡ get_or shapes i x → OuterSoFar shapes i low high
    → OuterSoFar shapes (i + 1) (min low x.layer) (max high x.layer)
outer_next shapes i low high x less is before = record {
  low_used =
      ⊎_elim (λ (lower : low < x.layer). let e : min low x.layer ≡ low = omega arith in rw e before.low_used)
      (λ (lower : x.layer ≤ low). let e : min low x.layer ≡ x.layer = omega arith in rw e (i, x, less, sym is, refl)) (cases_lt low x.layer);
  high_used =
      ⊎_elim (λ (lower : high < x.layer). let e : max high x.layer ≡ x.layer = omega arith in rw e (i, x, less, sym is, refl))
      (λ (lower : x.layer ≤ high). let e : max high x.layer ≡ high = omega arith in rw e before.high_used) (cases_lt high x.layer);
  above = All-more (λ shape. min low x.layer ≤ shape.layer) shapes i x less (λ k d l. let known = before.above k d l in omega arith) (rw (← is) (omega arith));
  below = All-more (λ shape. shape.layer ≤ max high x.layer) shapes i x less (λ k d l. let known = before.below k d l in omega arith) (rw (← is) (omega arith));
}

pub outer_more : (shapes : List ViaPart) (i low high : ℕ) (d : ViaPart) → i < length shapes → OuterSoFar shapes i low high
    → OuterSoFar shapes (i + 1) (min low (get_or shapes i d).layer) (max high (get_or shapes i d).layer)
outer_more shapes i low high d less before =
    outer_next shapes i low high (get_or shapes i d) less (get_or_default shapes i d (get_or shapes i d) less) before

-- no shape is left
pub outer_all : (shapes : List ViaPart) (i low high : ℕ) → length shapes ≤ i → OuterSoFar shapes i low high → AreOuter shapes low high
outer_all shapes i low high past before = record {
  low_used = before.low_used;
  high_used = before.high_used;
  above = subst (λ (xs : List ViaPart). All (λ shape. low ≤ shape.layer) xs) (take_all i shapes past) before.above;
  below = subst (λ (xs : List ViaPart). All (λ shape. shape.layer ≤ high) xs) (take_all i shapes past) before.below;
}

-- the first i shapes lie on two layers
pub record TwoSoFar (shapes : List ViaPart) (i low high : ℕ) : Type 0 where
  pub two : OnTwo (take i shapes) low high

pub two_start : (shapes : List ViaPart) (low high : ℕ) → TwoSoFar shapes 0 low high
two_start shapes low high = record { two = All-nil (λ shape. (shape.layer ≡ low) ⊎ (shape.layer ≡ high)) }

pub low_more : (shapes : List ViaPart) (i low high : ℕ) (x : ViaPart) → i < length shapes → x ≡ get_or shapes i x → x.layer ≡ low → TwoSoFar shapes i low high
    → TwoSoFar shapes (i + 1) low high
low_more shapes i low high x less is on before = record {
  two = All-more (λ shape. (shape.layer ≡ low) ⊎ (shape.layer ≡ high)) shapes i x less before.two (rw (← is) (inl on));
}

pub high_more : (shapes : List ViaPart) (i low high : ℕ) (x : ViaPart) → i < length shapes → x ≡ get_or shapes i x → x.layer ≡ high
    → TwoSoFar shapes i low high → TwoSoFar shapes (i + 1) low high
high_more shapes i low high x less is on before = record {
  two = All-more (λ shape. (shape.layer ≡ low) ⊎ (shape.layer ≡ high)) shapes i x less before.two (rw (← is) (inr on));
}

pub two_all : (shapes : List ViaPart) (i low high : ℕ) → length shapes ≤ i → TwoSoFar shapes i low high → OnTwo shapes low high
two_all shapes i low high past before =
    subst (λ (xs : List ViaPart). OnTwo xs low high) (take_all i shapes past) before.two

-- a shape on neither of them
pub third_there : (shapes : List ViaPart) (i low high : ℕ) (x : ViaPart) → i < length shapes → x ≡ get_or shapes i x → x.layer ≢ low → x.layer ≢ high
    → IsThird shapes low high x.layer
third_there shapes i low high x less is not_low not_high = record {
  used = (i, x, less, sym is, refl);
  not_low = not_low;
  not_high = not_high;
}

-- what the parts of a good via join, both ways
pub good_vias_join : (layers : List LayerUse) (shapes : List ViaPart)
    → IsTrue (join_layers layers shapes) ↔ ((low : ℕ) × (cut : ℕ) × (high : ℕ) × Joins layers shapes low cut high)
good_vias_join layers shapes = (
  three layers shapes,
  λ found. joined_by layers shapes found.0 found.1 found.2 found.3.low_used found.3.cut_used found.3.high_used
      (joins_is layers shapes found.0 found.1 found.2 found.3),
)

-- whether one of some layers has wires, asked of the layers themselves
list_any-map : {X : Type 0} (use_of : X → LayerUse) (layers : List X)
    → list_any has_wires (map use_of layers) ≡ list_any (λ layer. has_wires (use_of layer)) layers
list_any-map use_of [] = refl
list_any-map use_of (layer ∷ layers) = rw (list_any-map use_of layers) refl

pub any_in_range : {X : Type 0} (use_of : X → LayerUse) (layers : List X) (a b : ℕ)
    → list_any (λ layer. has_wires (use_of layer)) (slice_range layers a b) ≡ list_any has_wires (slice_range (map use_of layers) a b)
any_in_range use_of layers a b =
    sym (rw (drop-map use_of a layers, take-map use_of (b - a) (drop a layers)) (list_any-map use_of (slice_range layers a b)))
