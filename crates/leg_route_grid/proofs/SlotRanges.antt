-- Slots of a grid by ranges of rows and columns.
use Rattle.std.proofs.Common.{◌≡◌, ℕ, ◌+◌, ◌<◌, ◌≤◌, inl, inr, true, false, List, [], ◌∷◌, ◌++◌, Contains, All, AllPairs, Some, length, get_or, slice_get, sym, ap, ◌∙◌, arith}
use Rattle.std.specs.Prelude.{ltb}
use Rattle.std.specs.List.Sorted.{IsPartitionPoint}
use Rattle.std.proofs.lemmas.Bool.{cases_eq, cases_lt, cases_order}
use Rattle.std.proofs.lemmas.Option.{same_Some, slice_get_within, slice_get-get_or, get_or_from_slice_get}
use Rattle.std.proofs.lemmas.List.Elements.{Contains-append_left, Contains-push, Contains-push_cases}
use Rattle.leg_geom.specs.Plane.{RectModel}
use Rattle.leg_route_grid.specs.declared.layers.RoutingLayer.{RoutingLayer}
use Rattle.leg_rules.specs.declared.node.Node.{Node}
use Rattle.leg_route_grid.specs.declared.slot.Slot.{Slot}
use Rattle.leg_route_grid.specs.Steps.Grid.{GridModel, IsDesignGrid, IsSlot, IsNumberOf, slot_total}
use Rattle.leg_route_grid.specs.Steps.NodesInRect.{LiesInRect}
use Rattle.leg_route_grid.specs.Steps.NodeNumbers.{IsOneOf}
use Rattle.leg_geom.specs.Line.{ArePlaces}
use Rattle.leg_route_grid.specs.Steps.SlotRanges.{IsRoutingLayerAt, IsSlotAmong, IsInRows, HaveGot}
use Rattle.leg_route_grid.proofs.GridSlots.{one_place}
use Rattle.leg_route_grid.proofs.Slots.{by_number}
use Rattle.leg_route_grid.proofs.StepsAt.{point_in}

-- one layer has a number
pub one_layer : (layers : List RoutingLayer) → AllPairs (λ a b. a.number < b.number) layers → (number k m : ℕ) → IsRoutingLayerAt layers number k
    → IsRoutingLayerAt layers number m → k ≡ m
one_layer layers rising number k m at_k at_m = elim (cases_order k m) [
  | inl same ↦ same
  | inr (inl less) ↦ absurd (apart k m at_k at_m less)
  | inr (inr more) ↦ absurd (apart m k at_m at_k more)
] where
  apart : (k m : ℕ) → IsRoutingLayerAt layers number k → IsRoutingLayerAt layers number m → k < m → ⊥
  apart k m at_k at_m less =
      let more = rising k m at_k.layer less (slice_get_within layers m at_m.layer at_m.there) in
      let low = get_or_from_slice_get layers k at_k.layer at_k.layer at_k.there in
      let high = get_or_from_slice_get layers m at_m.layer at_k.layer at_m.there in
      let rises : at_k.layer.number < at_m.layer.number = rw (low, high) at more in
      omega (arith, rises, at_k.is, at_m.is)

-- no layer has the number, where the first one that isn't below it has another
pub no_layer : (layers : List RoutingLayer) (number point : ℕ) → AllPairs (λ a b. a.number < b.number) layers
    → IsPartitionPoint (λ (own : RoutingLayer). ltb own.number number ≡ true) (λ (own : RoutingLayer). ltb own.number number ≡ false) layers point
    → ((own : RoutingLayer) → slice_get layers point ≡ Some own → ¬ (own.number ≡ number)) → (k : ℕ) → ¬ IsRoutingLayerAt layers number k
no_layer layers number point rising is_point other k at_k = elim (cases_lt k point) [
  | inl early ↦ let test = is_point.0 k at_k.layer (omega arith) early in
      below (get_or layers k at_k.layer).number number test (ap (λ (l : RoutingLayer). l.number) here ∙ at_k.is)
  | inr late ↦ elim (cases_eq k point) [
    | inl same ↦ other at_k.layer (ap (slice_get layers) (sym same) ∙ at_k.there) at_k.is
    | inr differ ↦
        let low : point < length layers = omega (arith, within, late) in
        let test = is_point.1 point at_k.layer (omega arith) low in
        let more = rising point k at_k.layer (omega (arith, late, differ)) within in
        above (get_or layers point at_k.layer).number (get_or layers k at_k.layer).number number test more (ap (λ (l : RoutingLayer). l.number) here ∙ at_k.is)
  ]
] where
  within : k < length layers
  within = slice_get_within layers k at_k.layer at_k.there

  here : get_or layers k at_k.layer ≡ at_k.layer
  here = get_or_from_slice_get layers k at_k.layer at_k.layer at_k.there

  below : (a b : ℕ) → ltb a b ≡ true → a ≡ b → ⊥
  below a b test same = grind arith

  above : (a b c : ℕ) → ltb a c ≡ false → a < b → b ≡ c → ⊥
  above a b c test more same = grind arith

module _ (At : ℕ → ℕ → Type 0) (first : ℕ) (before : List ℕ) where
  pub none_more : HaveGot (IsSlotAmong At first first) before before
  none_more n = (λ there. inl there, elim [ inl there ↦ there | inr among ↦ absurd (let from = among.from in let below = among.below in omega arith) ])

  pub one_more : (k : ℕ) (mid after : List ℕ) → first ≤ k → HaveGot (IsSlotAmong At first k) before mid → HaveGot (At k) mid after
      → HaveGot (IsSlotAmong At first (k + 1)) before after
  one_more k mid after from got more n = (
    λ there. elim ((more n).0 there) [
      | inl earlier ↦ elim ((got n).0 earlier) [
        | inl old ↦ inl old
        | inr among ↦ inr (record { k = among.k; from = among.from; below = (let below = among.below in omega arith); is = among.is })
      ]
      | inr is ↦ inr (record { k = k; from = from; below = omega arith; is = is })
    ],
    elim [
      | inl old ↦ (more n).1 (inl ((got n).1 (inl old)))
      | inr among ↦ elim (cases_eq among.k k) [
        | inl same ↦ (more n).1 (inr (rw same at among.is))
        | inr differ ↦
            (more n).1 (inl ((got n).1 (inr (record {
              k = among.k;
              from = among.from;
              below = (let below = among.below in omega (arith, differ));
              is = among.is;
            }))))
      ]
    ],
  )

  pub all_got : (k end : ℕ) (after : List ℕ) → ¬ (k < end) → ((j : ℕ) → first ≤ j → j < k → j < end) → HaveGot (IsSlotAmong At first k) before after
      → HaveGot (IsSlotAmong At first end) before after
  all_got k end after done inside got n = (
    λ there. elim ((got n).0 there) [
      | inl old ↦ inl old
      | inr among ↦ inr (record { k = among.k; from = among.from; below = inside among.k among.from among.below; is = among.is })
    ],
    elim [
      | inl old ↦ (got n).1 (inl old)
      | inr among ↦ (got n).1 (inr (record { k = among.k; from = among.from; below = (let below = among.below in omega (arith, done)); is = among.is }))
    ],
  )

-- one number that is added, and one that is listed
pub got_added : (m : ℕ) (before after : List ℕ) → after ≡ before ++ m ∷ [] → HaveGot (λ n. n ≡ m) before after
got_added m before after is n = rw is (
  λ there. elim (Contains-push_cases before m n there) [ inl old ↦ inl old | inr same ↦ inr (sym same) ],
  elim [ inl old ↦ Contains-append_left before (m ∷ []) n old | inr same ↦ rw same (Contains-push before m) ],
)

pub got_listed : (m : ℕ) (list : List ℕ) → Contains list m → HaveGot (λ n. n ≡ m) list list
got_listed m list there n = (λ old. inl old, elim [ inl old ↦ old | inr same ↦ rw same there ])

-- the number of one slot
pub one_slot : (grid : GridModel) (m k j i : ℕ) (before after : List ℕ) → IsSlot grid m k j i → HaveGot (λ n. n ≡ m) before after
    → HaveGot (λ n. IsSlot grid n k j i) before after
one_slot grid m k j i before after slot got n = (
  λ there. elim ((got n).0 there) [ inl old ↦ inl old | inr same ↦ inr (rw same slot) ],
  elim [ inl old ↦ (got n).1 (inl old) | inr also ↦ (got n).1 (inr (also.is ∙ sym slot.is)) ],
)

module _ (grid : GridModel) (is_grid : IsDesignGrid grid) (layer : ℕ) (rect : RectModel) where
  abbrev pub InRect : ℕ → Type 0
  InRect n = IsOneOf (IsNumberOf grid) (LiesInRect layer rect) n

  pub none_on_layer : (before : List ℕ) → ((k : ℕ) → ¬ IsRoutingLayerAt grid.layers layer k) → HaveGot InRect before before
  none_on_layer before none n = (
    λ there. inl there,
    elim [
      | inl there ↦ there
      | inr one ↦ absurd (none one.is.k (record { layer = one.is.lies.layer; there = one.is.lies.there; is = sym one.is.lies.on ∙ one.holds.on_layer }))
    ],
  )

  module _ (k c0 c1 r0 r1 : ℕ) (on : IsRoutingLayerAt grid.layers layer k) (columns : ArePlaces grid.xs rect.x1 rect.x2 c0 c1)
      (rows : ArePlaces grid.ys rect.y1 rect.y2 r0 r1) where
    pub in_rect : (n : ℕ) → IsInRows grid k (r0, r1) (c0, c1) n → InRect n
    in_rect n row =
        let column = row.is in
        let slot = column.is in
        let s : Slot = record { layer = k; row = row.k; column = column.k } in
        let point = point_in grid s (record { layer = slot.layer; row = slot.row; column = slot.column }) in
        let same : point.lies.layer ≡ on.layer = same_Some point.lies.layer on.layer (sym point.lies.there ∙ on.there) in
        record {
          node = point.node;
          is = record { k = k; j = row.k; i = column.k; slot = slot; lies = point.lies };
          holds = record {
            on_layer = point.lies.on ∙ ap (λ (l : RoutingLayer). l.number) same ∙ on.is;
            inside = record {
              left = columns.low_in column.k point.node.at.x point.lies.x column.from;
              right = columns.high_in column.k point.node.at.x point.lies.x column.below;
              bottom = rows.low_in row.k point.node.at.y point.lies.y row.from;
              top = rows.high_in row.k point.node.at.y point.lies.y row.below;
            };
          };
        }

    pub from_rect : (n : ℕ) → InRect n → IsInRows grid k (r0, r1) (c0, c1) n
    from_rect n one =
        let number = one.is in
        let lies = number.lies in
        let inside = one.holds.inside in
        let same : lies.layer.number ≡ on.layer.number = sym lies.on ∙ one.holds.on_layer ∙ sym on.is in
        let at_k : number.k ≡ k =
        one_place (λ a b. a.number < b.number) grid.layers number.k k lies.layer on.layer is_grid.layers_are.increasing lies.there on.there
        (λ less. omega (arith, less, same)) (λ more. omega (arith, more, same)) in
        let slot : IsSlot grid n k number.j number.i = rw at_k at number.slot in
        record {
          k = number.j;
          from = rows.first_in number.j one.node.at.y lies.y inside.bottom;
          below = rows.end_in number.j one.node.at.y lies.y inside.top;
          is = record {
            k = number.i;
            from = columns.first_in number.i one.node.at.x lies.x inside.left;
            below = columns.end_in number.i one.node.at.x lies.x inside.right;
            is = slot;
          };
        }

    pub all_in_rect : (before after : List ℕ) → HaveGot (IsInRows grid k (r0, r1) (c0, c1)) before after → HaveGot InRect before after
    all_in_rect before after got n = (
      λ there. elim ((got n).0 there) [ inl old ↦ inl old | inr is ↦ inr (in_rect n is) ],
      elim [ inl old ↦ (got n).1 (inl old) | inr is ↦ (got n).1 (inr (from_rect n is)) ],
    )

-- a slot's number is below their count
pub below_total : (grid : GridModel) (n : ℕ) (node : Node) → IsNumberOf grid n node → n < slot_total grid
below_total grid n node number =
    let slot = number.slot in
    let by = by_number (length grid.layers) (length grid.ys) (length grid.xs) number.k number.j number.i slot.layer slot.row slot.column in
    rw slot.is by.below

pub all_below : (grid : GridModel) (P : Node → Type 0) (before after : List ℕ) → HaveGot (IsOneOf (IsNumberOf grid) P) before after
    → All (λ n. n < slot_total grid) before → All (λ n. n < slot_total grid) after
all_below grid P before after got all i d within = elim ((got (get_or after i d)).0 (i, within, get_or_same)) [
  | inl old ↦ rw old.2 at (all old.0 (get_or after i d) old.1)
  | inr one ↦ below_total grid (get_or after i d) one.node one.is
] where
  get_or_same : get_or after i (get_or after i d) ≡ get_or after i d
  get_or_same = get_or_from_slice_get after i (get_or after i d) (get_or after i d) (slice_get-get_or after i d within)
