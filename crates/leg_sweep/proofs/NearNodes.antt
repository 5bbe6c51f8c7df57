-- What a walk through the nodes of an index finds: groups whose bounds don't meet those of a window are passed over.
use Rattle.std.proofs.Common.{◌≡◌, ℕ, zero, suc, ◌≤◌, ◌<◌, ℤ, pos, negsuc, ◌+ℤ◌, ◌-ℤ◌, ◌≤ℤ◌, ◌<ℤ◌, Bool, true, false, leb, cond, ap, List, [], ◌∷◌, ◌++◌, length, take, drop, get_or, Option, None, Some, slice_get, All, inl, inr, refl, sym, ◌∙◌, arith, length-append}
use Rattle.std.specs.List.{filter}
use Rattle.std.specs.Prelude.{int_le}
use Rattle.std.proofs.lemmas.Bool.{cases_lt, leb-true, le-leb, and_parts, and_from, false_from_ne_true, true≢false}
use Rattle.std.proofs.lemmas.Int.{ints}
use Rattle.std.proofs.lemmas.Option.{slice_get_past}
use Rattle.std.proofs.lemmas.List.{take-append-le}
use Rattle.std.proofs.lemmas.List.Elements.{All-head, All-tail, All-drop, All-weaker, filter-append, filter_passes}
use Rattle.leg_lemmas.proofs.Integers.{le_test}
use Rattle.leg_lemmas.proofs.Contents.{Contains-filter}
use Rattle.leg_geom.specs.Plane.{RectModel, IsRect}
use Rattle.leg_geom.specs.Gap.{gap_between, x_gap, y_gap}
use Rattle.leg_sweep.specs.declared.bounds.Bounds.{Bounds}
use Rattle.leg_sweep.specs.declared.bounds.Window.{Window}
use Rattle.leg_sweep.specs.declared.node.Content.{Content}
use Rattle.leg_sweep.specs.declared.node.Content.TheVariants.{Group, Rect}
use Rattle.leg_sweep.specs.declared.node.Node.{Node}
use Rattle.leg_sweep.specs.Counts.{near_along_both}
use Rattle.leg_sweep.specs.Near.{IsNear, AreNear}
use Rattle.leg_sweep.specs.NearNumbers.{is_near, number_in, numbers_of, near_numbers}
use Rattle.leg_sweep.specs.Steps.Bounds.{step_of, bounds_around, meet, IsWithin, IsWindow}
use Rattle.leg_sweep.specs.Steps.Nodes.{members_of, IsForest, IsRightAt, IsRight, IsSearch, AreNodesFrom}

-- what lies within bounds that don't meet others doesn't meet them either
meet_within : (w inner outer : Bounds) → IsWithin inner outer → meet w outer ≡ false → meet w inner ≡ false
meet_within w inner outer within far =
    let left = within.left in
    let bottom = within.bottom in
    let right = within.right in
    let top = within.top in
    grind (arith, ints)

-- the nodes behind some keep their members
forest_drop : (n : ℕ) (nodes : List Node) → IsForest nodes → IsForest (drop n nodes)
forest_drop zero nodes forest = forest
forest_drop (suc n) [] forest = forest
forest_drop (suc n) (node ∷ nodes) forest = forest_drop n nodes forest.2

-- two lists of nodes, one behind the other
pub forest_append : (xs ys : List Node) → IsForest xs → IsForest ys → IsForest (xs ++ ys)
forest_append [] ys first second = second
forest_append (node ∷ xs) ys first second =
    let count = length-append xs ys in
    let few : members_of node.content ≤ length xs = first.0 in
    let same : take (members_of node.content) (xs ++ ys) ≡ take (members_of node.content) xs = take-append-le (members_of node.content) xs ys few in
    (omega (arith, few, count), rw same first.1, forest_append xs ys first.2 second)

-- along an axis a gap is at most the reach only where the one interval, with the reach on both sides, meets the other
gap_reaches : (a1 a2 b1 b2 : ℤ) (reach : ℕ) → a1 <ℤ a2 → b1 <ℤ b2 → gap_between a1 a2 b1 b2 ≤ reach → (b1 ≤ℤ (a2 +ℤ pos reach)) × ((a1 -ℤ pos reach) ≤ℤ b2)
gap_reaches a1 a2 b1 b2 reach wide other near = (grind (arith, ints), grind (arith, ints))

-- of two coordinates the greater one does not lie in an earlier step
step_rises : (a b : ℤ) → a ≤ℤ b → step_of a ≤ℤ step_of b
step_rises (pos a) (pos b) below = omega (arith, ints)
step_rises (pos a) (negsuc b) below = absurd (let e : ⊥ = omega (arith, ints) in e)
step_rises (negsuc a) (pos b) below = omega (arith, ints)
step_rises (negsuc a) (negsuc b) below = omega (arith, ints)

steps_meet : (a b : ℤ) → a ≤ℤ b → int_le (step_of a) (step_of b) ≡ true
steps_meet a b below = le_test (step_of a) (step_of b) (step_rises a b below)

-- a number with a rectangle is below the count
pub number_below : (rects : List RectModel) (rect : RectModel) (number : ℕ) → slice_get rects number ≡ Some rect → number < length rects
number_below rects rect number there = elim (cases_lt number (length rects)) [
  | inl below ↦ below
  | inr past ↦ let none = slice_get_past rects number past in cc
]

-- the number of a node's rectangle is below the count
content_below : (rects : List RectModel) (bounds : Bounds) (content : Content) → IsRightAt rects bounds content
    → All (λ number. number < length rects) (number_in content)
content_below rects bounds (Group members) right = λ k d within. absurd (omega arith)
content_below rects bounds (Rect number) right = λ k d within. first k d (omega arith) where
  first : (k d : ℕ) → k ≡ 0 → get_or (number ∷ []) k d < length rects
  first k d is = rw is (number_below rects right.rect number right.there)

module _ (rects : List RectModel) (rect : RectModel) (reach : ℕ) where
  abbrev near : ℕ → Bool
  near = is_near rects rect reach

  -- the test is that of the definition
  pub near_is : (number : ℕ) → near number ≡ true → IsNear rects rect reach number
  near_is number test = by (slice_get rects number) refl where
    by : (found : Option RectModel) → slice_get rects number ≡ found → IsNear rects rect reach number
    by None is = absurd (true≢false (sym test ∙ rw is refl))
    by (Some other) is =
        let passes : near_along_both reach rect other ≡ true = rw is at test in
        let parts = and_parts (leb (x_gap rect other) reach) (leb (y_gap rect other) reach) passes in
        record { other = other; there = is; x = leb-true (x_gap rect other) reach parts.0; y = leb-true (y_gap rect other) reach parts.1 }

  pub is_near_passes : (number : ℕ) → IsNear rects rect reach number → near number ≡ true
  is_near_passes number is = rw is.there (and_from _ _ (le-leb (x_gap rect is.other) reach is.x) (le-leb (y_gap rect is.other) reach is.y))

  pub near_of_nodes : (nodes : List Node) → AreNodesFrom rects 0 nodes → AreNear rects rect reach (near_numbers rects rect reach nodes)
  near_of_nodes nodes are = record {
    each = All-weaker (λ number. near number ≡ true) (IsNear rects rect reach) near_is (filter near (numbers_of nodes)) (filter_passes near (numbers_of nodes));
    all = λ number is. Contains-filter near number (numbers_of nodes) (is_near_passes number is)
        (are.all number (omega arith) (number_below rects is.other number is.there));
  }

module _ (rects : List RectModel) (w : Window) (is : IsWindow w) where
  abbrev in_window : ℕ → Bool
  in_window = is_near rects w.rect w.reach

  -- what is near has bounds that meet those of the window
  near_meets : (other : RectModel) → IsRect other → x_gap w.rect other ≤ w.reach → y_gap w.rect other ≤ w.reach → meet w.bounds (bounds_around other 0) ≡ true
  near_meets other proper x y =
      let along_x = gap_reaches w.rect.x1 w.rect.x2 other.x1 other.x2 w.reach is.proper.wide proper.wide x in
      let along_y = gap_reaches w.rect.y1 w.rect.y2 other.y1 other.y2 w.reach is.proper.high proper.high y in
      rw (
        is.bounds,
        steps_meet (other.x1 -ℤ pos 0) (w.rect.x2 +ℤ pos w.reach) (omega (arith, ints, along_x.0)),
        steps_meet (w.rect.x1 -ℤ pos w.reach) (other.x2 +ℤ pos 0) (omega (arith, ints, along_x.1)),
        steps_meet (other.y1 -ℤ pos 0) (w.rect.y2 +ℤ pos w.reach) (omega (arith, ints, along_y.0)),
        steps_meet (w.rect.y1 -ℤ pos w.reach) (other.y2 +ℤ pos 0) (omega (arith, ints, along_y.1)),
      ) refl

  -- so a node whose bounds don't meet those of the window gives nothing
  far_here : (bounds : Bounds) (content : Content) → IsRightAt rects bounds content → meet w.bounds bounds ≡ false → filter in_window (number_in content) ≡ []
  far_here bounds (Group members) right far = refl
  far_here bounds (Rect number) right far = ap (λ b. cond b (number ∷ []) []) (false_from_ne_true (in_window number) not_near) where
    not_near : in_window number ≡ true → ⊥
    not_near test =
        let passes = near_is rects w.rect w.reach number test in
        let same : passes.other ≡ right.rect = cc (passes.there, right.there) in
        let x : x_gap w.rect right.rect ≤ w.reach = rw (← same) passes.x in
        let y : y_gap w.rect right.rect ≤ w.reach = rw (← same) passes.y in
        true≢false (sym (near_meets right.rect right.proper x y) ∙ sym (ap (λ b. meet w.bounds b) right.are) ∙ far)

  far_node : (node : Node) (nodes : List Node) → IsRight rects node → meet w.bounds node.bounds ≡ false
      → near_numbers rects w.rect w.reach (node ∷ nodes) ≡ near_numbers rects w.rect w.reach nodes
  far_node node nodes right far = rw (filter-append in_window (number_in node.content) (numbers_of nodes), far_here node.bounds node.content right far) refl

  -- members of bounds that don't meet those of the window give nothing
  far_members : (outer : Bounds) (n : ℕ) (nodes : List Node) → All (IsRight rects) nodes → All (λ node. IsWithin node.bounds outer) (take n nodes)
      → meet w.bounds outer ≡ false
      → near_numbers rects w.rect w.reach nodes ≡ near_numbers rects w.rect w.reach (drop n nodes)
  far_members outer zero nodes right within far = refl
  far_members outer (suc n) [] right within far = refl
  far_members outer (suc n) (node ∷ nodes) right within far =
      let here = meet_within w.bounds node.bounds outer (All-head (λ (m : Node). IsWithin m.bounds outer) node (take n nodes) within) far in
      far_node node nodes (All-head (IsRight rects) node nodes right) here
      ∙ far_members outer n nodes (All-tail (IsRight rects) node nodes right) (All-tail (λ (m : Node). IsWithin m.bounds outer) node (take n nodes) within) far

-- what is left of a search behind its first node
pub search_rest : (rects : List RectModel) (w : Window) (node : Node) (nodes : List Node) → IsSearch rects w (node ∷ nodes) → IsSearch rects w nodes
search_rest rects w node nodes search = record { forest = search.forest.2; right = All-tail (IsRight rects) node nodes search.right; window = search.window }

search_drop : (rects : List RectModel) (w : Window) (n : ℕ) (nodes : List Node) → IsSearch rects w nodes → IsSearch rects w (drop n nodes)
search_drop rects w n nodes search =
    record { forest = forest_drop n nodes search.forest; right = All-drop (IsRight rects) n nodes search.right; window = search.window }

-- A group that can't reach into the window is passed over with its members.
pub passed_over : (rects : List RectModel) (w : Window) (node : Node) (nodes : List Node) → IsSearch rects w (node ∷ nodes) → meet w.bounds node.bounds ≡ false
    → (near_numbers rects w.rect w.reach (node ∷ nodes) ≡ near_numbers rects w.rect w.reach (drop (members_of node.content) nodes))
    × IsSearch rects w (drop (members_of node.content) nodes)
passed_over rects w node nodes search far =
    let rest = search_rest rects w node nodes search in (
      far_node rects w search.window node nodes (All-head (IsRight rects) node nodes search.right) far
          ∙ far_members rects w search.window node.bounds (members_of node.content) nodes rest.right search.forest.1 far,
      search_drop rects w (members_of node.content) nodes rest,
    )

-- the number of the first node's rectangle is below the count
pub first_below : (rects : List RectModel) (w : Window) (node : Node) (nodes : List Node) → IsSearch rects w (node ∷ nodes)
    → All (λ number. number < length rects) (number_in node.content)
first_below rects w node nodes search = content_below rects node.bounds node.content (All-head (IsRight rects) node nodes search.right)

-- a node that gives nothing
pub gives_nothing : (rects : List RectModel) (rect : RectModel) (reach : ℕ) (node : Node) (nodes : List Node)
    → filter (is_near rects rect reach) (number_in node.content) ≡ [] → near_numbers rects rect reach (node ∷ nodes) ≡ near_numbers rects rect reach nodes
gives_nothing rects rect reach node nodes none = rw (filter-append (is_near rects rect reach) (number_in node.content) (numbers_of nodes), none) refl
