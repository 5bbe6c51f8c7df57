-- Slots that are kept while a shape is added, some of them after others.
use Rattle.std.proofs.Common.{◌≡◌, ℕ, ◌+◌, ◌-◌, ◌*◌, ◌<◌, ◌≤◌, ◌⊎◌, inl, inr, ℤ, pos, ◌+ℤ◌, ◌-ℤ◌, Bool, true, List, [], ◌∷◌, ◌++◌, ◌/◌, ◌%◌, length, take, get_or, Contains, None, Some, slice_get, refl, sym, ap, subst, ◌∙◌, append_assoc, arith, length-take, get_or-take}
use Rattle.std.specs.Prelude.{Option}
use Rattle.std.proofs.lemmas.Bool.{cases_eq, cases_lt}
use Rattle.std.proofs.lemmas.Nat.{same_from_place}
use Rattle.std.proofs.lemmas.List.{take_more}
use Rattle.std.proofs.lemmas.List.Elements.{Contains-append_right}
use Rattle.std.proofs.lemmas.Option.{same_Some, slice_get_within, get_or_from_slice_get}
use Rattle.leg_lib_records.specs.Sound.{IsSound}
use Rattle.leg_rules.specs.declared.shape.Shape.{Shape}
use Rattle.leg_rules.specs.Metal.Flat.{FlatModel}
use Rattle.leg_route_access.specs.declared.slot_access.SlotAccess.{SlotAccess}
use Rattle.leg_route_grid.specs.Steps.Grid.{GridModel, IsDesignGrid, IsSlot, slot_total}
use Rattle.leg_route_access.specs.Steps.AccessTable.{IsSlotAccess, IsAccessTable}
use Rattle.leg_route_access.specs.Steps.Reaches.{ReachesMetal, AreNearLayers, AreAlong, clear_at}
use Rattle.leg_route_grid.specs.Steps.SlotRanges.{IsSlotAmong, IsInRow, IsInRows}
use Rattle.leg_route_access.specs.Steps.AccessUpdates.{HasShape, IsAccessAfter, AreAccessAfter, ArePlacesNear, IsSlotOnLayer}
use Rattle.leg_route_grid.proofs.Slots.{by_division}
use Rattle.leg_route_grid.proofs.StepsAt.{some_at}
use Rattle.leg_route_access.proofs.FarSlots.{IsPast, IsSlotPast}
use Rattle.leg_route_access.proofs.FarAccess.{far_access}
use Rattle.leg_route_access.proofs.GrownSlots.{tells_far, tells_again}

-- a number is that of one slot
pub record IsSameSlot (k j i l r c : ℕ) : Type 0 where
  pub layer : k ≡ l
  pub row : j ≡ r
  pub column : i ≡ c

pub same_slot : (grid : GridModel) (n k j i l r c : ℕ) → IsSlot grid n k j i → IsSlot grid n l r c → IsSameSlot k j i l r c
same_slot grid n k j i l r c slot other =
    let lines = same_from_place (k * length grid.ys + j) i (l * length grid.ys + r) c (length grid.xs) slot.column other.column (sym slot.is ∙ other.is) in
    let rows = same_from_place k j l r (length grid.ys) slot.row other.row lines.0 in
    record { layer = rows.0; row = rows.1; column = lines.1 }

-- no place near, and past all that are
record IsOut (values : List ℤ) (along : Bool) (low high : ℤ) (first end i : ℕ) : Type 0 where
  pub past : IsPast values along i low high
  pub out : first ≤ i → i < end → ⊥

-- steps lead along both axes, for all that is asked
pub all_along : (grid : GridModel) (k layer : ℕ) → AreAlong grid k layer true true
all_along grid k layer = record { x = λ own there number direction. refl; y = λ own there number direction. refl }

module _ (grid : GridModel) (shape : Shape) where
  abbrev Told : (ℕ → Type 0) → List SlotAccess → List SlotAccess → Type 0
  Told P before after = AreAccessAfter grid shape P before after

  -- none are told
  pub none_told : (P : ℕ → Type 0) (slots : List SlotAccess) → ((n : ℕ) → ¬ P n) → Told P slots slots
  none_told P slots none = record { count = refl; told = λ n is. absurd (none n is); others = λ n other. refl }

  -- first those of P, and then those of Q
  told_then : (P Q R : ℕ → Type 0) (a b c : List SlotAccess) → ((n : ℕ) → P n → Q n → ⊥) → ((n : ℕ) → R n → P n ⊎ Q n) → ((n : ℕ) → P n → R n)
      → ((n : ℕ) → Q n → R n) → Told P a b → Told Q b c → Told R a c
  told_then P Q R a b c differ from left right first then = record {
    count = then.count ∙ first.count;
    told = λ n is. by n (from n is);
    others = λ n other. then.others n (λ q. other (right n q)) ∙ first.others n (λ p. other (left n p));
  } where
    by : (n : ℕ) → P n ⊎ Q n → IsAccessAfter grid shape n a c
    by n (inl p) =
        record {
          told = λ flat grown slot has at tells new there. (first.told n p).told flat grown slot has at tells new
              (sym (then.others n (λ q. differ n p q)) ∙ there);
        }
    by n (inr q) =
        record {
          told = λ flat grown slot has at tells new there. (then.told n q).told flat grown slot has
              (first.others n (λ p. differ n p q) ∙ at) tells new there;
        }

  -- the same slots said otherwise
  pub told_as : (P Q : ℕ → Type 0) (a b : List SlotAccess) → ((n : ℕ) → Q n → P n) → ((n : ℕ) → P n → Q n) → Told P a b → Told Q a b
  told_as P Q a b from to are = record {
    count = are.count;
    told = λ n q. are.told n (from n q);
    others = λ n other. are.others n (λ p. other (to n p));
  }

  module _ (At : ℕ → ℕ → Type 0) (first : ℕ) (before : List SlotAccess) where
    pub none_among : Told (IsSlotAmong At first first) before before
    none_among = none_told (IsSlotAmong At first first) before (λ n among. let from = among.from in let below = among.below in omega arith)

    pub one_among : (k : ℕ) (mid after : List SlotAccess) → ((l m n : ℕ) → At l n → At m n → l ≡ m) → first ≤ k → Told (IsSlotAmong At first k) before mid
        → Told (At k) mid after → Told (IsSlotAmong At first (k + 1)) before after
    one_among k mid after one_place from got more =
        told_then (IsSlotAmong At first k) (At k) (IsSlotAmong At first (k + 1)) before mid after
        (λ n among at_k. let below = among.below in let same : among.k ≡ k = one_place among.k k n among.is at_k in omega (arith, same))
        (λ n among. elim (cases_eq among.k k) [
          | inl same ↦ inr (rw same at among.is)
          | inr differ ↦ inl (record { k = among.k; from = among.from; below = (let below = among.below in omega (arith, differ)); is = among.is })
        ])
        (λ n among. record { k = among.k; from = among.from; below = (let below = among.below in omega arith); is = among.is })
        (λ n at_k. record { k = k; from = from; below = omega arith; is = at_k })
        got more

    pub all_among : (k end : ℕ) (after : List SlotAccess) → ¬ (k < end) → ((j : ℕ) → first ≤ j → j < k → j < end) → Told (IsSlotAmong At first k) before after
        → Told (IsSlotAmong At first end) before after
    all_among k end after done inside got =
        told_as (IsSlotAmong At first k) (IsSlotAmong At first end) before after
        (λ n among. record { k = among.k; from = among.from; below = (let below = among.below in omega (arith, done)); is = among.is })
        (λ n among. record { k = among.k; from = among.from; below = inside among.k among.from among.below; is = among.is })
        got

  module _ (is_grid : IsDesignGrid grid) (sound : IsSound grid.design.library) (k : ℕ) (reach : Option ℤ) (reaches : ReachesMetal grid k shape.layer reach)
      (along_x along_y : Bool) (along : AreAlong grid k shape.layer along_x along_y) where
    abbrev distance : ℕ
    distance = clear_at grid.design.library shape.layer

    far_told : (before after : List SlotAccess) (n j i : ℕ) → IsSlot grid n k j i → IsSlotPast grid along_x along_y j i shape.rect reach distance
        → slice_get after n ≡ slice_get before n → IsAccessAfter grid shape n before after
    far_told before after n j i slot past same = record {
      told = λ flat grown old has at tells new there.
          let is : old ≡ new = same_Some old new (sym at ∙ sym same ∙ there) in
          let P : SlotAccess → Type 0 = λ s. IsSlotAccess grid grown n s in
          subst P is (tells_far grid is_grid n shape flat grown has old
          (λ net. far_access grid is_grid sound shape n k j i slot reach reaches along_x along_y along past flat net) tells);
    }

    -- where no metal of the layer's slots lies on the shape's layer
    pub none_reached : (slots : List SlotAccess) → reach ≡ None → Told (IsSlotOnLayer grid k) slots slots
    none_reached slots none = record {
      count = refl;
      told = λ n on. far_told slots slots n on.j on.i on.slot (rw none tt) refl;
      others = λ n other. refl;
    }

    module _ (r : ℤ) (c0 c1 r0 r1 : ℕ) (is : reach ≡ Some r)
        (columns : ArePlacesNear grid.xs along_x (shape.rect.x1 -ℤ (r +ℤ pos distance)) (shape.rect.x2 +ℤ (r +ℤ pos distance)) c0 c1)
        (rows : ArePlacesNear grid.ys along_y (shape.rect.y1 -ℤ (r +ℤ pos distance)) (shape.rect.y2 +ℤ (r +ℤ pos distance)) r0 r1) where
      abbrev InRows : ℕ → Type 0
      InRows = IsInRows grid k (r0, r1) (c0, c1)

      past : (j i : ℕ) → IsPast grid.xs along_x i (shape.rect.x1 -ℤ (r +ℤ pos distance)) (shape.rect.x2 +ℤ (r +ℤ pos distance))
          ⊎ IsPast grid.ys along_y j (shape.rect.y1 -ℤ (r +ℤ pos distance)) (shape.rect.y2 +ℤ (r +ℤ pos distance))
          → IsSlotPast grid along_x along_y j i shape.rect reach distance
      past j i far = rw is far

      -- a place that isn't among those near
      placed : (values : List ℤ) (back : Bool) (low high : ℤ) (first end i : ℕ) → ArePlacesNear values back low high first end
          → IsOut values back low high first end i ⊎ ((first ≤ i) × (i < end))
      placed values back low high first end i near = elim (cases_lt i first) [
        | inl before ↦ inl (record { past = inl (λ m z upto there. near.before i m z before upto there); out = λ from below. omega (arith, before, from) })
        | inr from ↦ elim (cases_lt i end) [
          | inl below ↦ inr (from, below)
          | inr behind ↦ inl (record { past = inr (λ z there. near.behind i z behind there); out = λ from below. omega (arith, behind, below) })
        ]
      ]

      in_rows : (n j i : ℕ) → IsSlot grid n k j i → (r0 ≤ j) × (j < r1) → (c0 ≤ i) × (i < c1) → InRows n
      in_rows n j i slot row column = record { k = j; from = row.0; below = row.1; is = record { k = i; from = column.0; below = column.1; is = slot } }

      -- a slot of those rows and columns, or one that is past them
      near_or_past : (n j i : ℕ) → IsSlot grid n k j i → InRows n ⊎ ((¬ InRows n) × IsSlotPast grid along_x along_y j i shape.rect reach distance)
      near_or_past n j i slot = elim (placed grid.xs along_x (shape.rect.x1 -ℤ (r +ℤ pos distance)) (shape.rect.x2 +ℤ (r +ℤ pos distance)) c0 c1 i columns) [
        | inl out ↦ inr (
          λ row.
              let same = same_slot grid n k row.k row.is.k k j i row.is.is slot in
              let column = same.column in
              let from = row.is.from in
              let below = row.is.below in
              out.out (omega (arith, column, from)) (omega (arith, column, below)),
          past j i (inl out.past),
        )
        | inr column ↦ elim (placed grid.ys along_y (shape.rect.y1 -ℤ (r +ℤ pos distance)) (shape.rect.y2 +ℤ (r +ℤ pos distance)) r0 r1 j rows) [
          | inl out ↦ inr (
            λ row.
                let same = same_slot grid n k row.k row.is.k k j i row.is.is slot in
                let line = same.row in
                let from = row.from in
                let below = row.below in
                out.out (omega (arith, line, from)) (omega (arith, line, below)),
            past j i (inr out.past),
          )
          | inr row ↦ inl (in_rows n j i slot row column)
        ]
      ]

      on_layer : (n : ℕ) → InRows n → IsSlotOnLayer grid k n
      on_layer n row = record { j = row.k; i = row.is.k; slot = row.is.is }

      pub rows_told : (before after : List SlotAccess) → Told InRows before after → Told (IsSlotOnLayer grid k) before after
      rows_told before after got = record {
        count = got.count;
        told = λ n on. by n on (near_or_past n on.j on.i on.slot);
        others = λ n other. got.others n (λ row. other (on_layer n row));
      } where
        by : (n : ℕ) (on : IsSlotOnLayer grid k n) → InRows n ⊎ ((¬ InRows n) × IsSlotPast grid along_x along_y on.j on.i shape.rect reach distance)
            → IsAccessAfter grid shape n before after
        by n on (inl row) = got.told n row
        by n on (inr far) = far_told before after n on.j on.i on.slot far.1 (got.others n far.0)

-- in all slots, of layers near the shape and of others
pub all_told : (grid : GridModel) → IsDesignGrid grid → IsSound grid.design.library → (shape : Shape) (first end : ℕ)
    → AreNearLayers grid shape.layer first end → (before after : List SlotAccess)
    → AreAccessAfter grid shape (IsSlotAmong (IsSlotOnLayer grid) first end) before after → (flat grown : FlatModel) → HasShape shape flat grown
    → IsAccessTable grid flat before → IsAccessTable grid grown after
all_told grid is_grid sound shape first end near before after got flat grown has tells = record {
  count = got.count ∙ tells.count;
  each = λ n new there.
      let within = slice_get_within after n new there in
      let below : n < slot_total grid = omega (arith, within, got.count, tells.count) in
      let divided = by_division (length grid.layers) (length grid.ys) (length grid.xs) n below in
      let old = some_at before n (omega (arith, below, tells.count)) in
      let slot : IsSlot grid n (n / length grid.xs / length grid.ys) (n / length grid.xs % length grid.ys) (n % length grid.xs) =
      record { layer = divided.layer; row = divided.row; column = divided.column; is = divided.is } in
      (told n _ _ _ slot (placed (n / length grid.xs / length grid.ys))).told flat grown old.value has old.there (tells.each n old.value old.there) new there;
} where
  placed : (k : ℕ) → ((first ≤ k) × (k < end)) ⊎ ((k < first) ⊎ (end ≤ k))
  placed k = grind arith

  off : (n k j i : ℕ) → IsSlot grid n k j i → (k < first) ⊎ (end ≤ k) → ¬ IsSlotAmong (IsSlotOnLayer grid) first end n
  off n k j i slot out among =
      let same = (same_slot grid n among.k among.is.j among.is.i k j i among.is.slot slot).layer in
      let from = among.from in
      let below = among.below in
      elim out [ inl early ↦ omega (arith, same, from, early) | inr late ↦ omega (arith, same, below, late) ]

  told : (n k j i : ℕ) → IsSlot grid n k j i → ((first ≤ k) × (k < end)) ⊎ ((k < first) ⊎ (end ≤ k)) → IsAccessAfter grid shape n before after
  told n k j i slot (inl (from, below)) = got.told n (record { k = k; from = from; below = below; is = record { j = j; i = i; slot = slot } })
  told n k j i slot (inr (inl early)) =
      far_told grid shape is_grid sound k None (near.before k early) true true (all_along grid k shape.layer) before after n j i slot tt
      (got.others n (off n k j i slot (inl early)))
  told n k j i slot (inr (inr late)) =
      far_told grid shape is_grid sound k None (near.behind k late) true true (all_along grid k shape.layer) before after n j i slot tt
      (got.others n (off n k j i slot (inr late)))

-- the one slot, by its place
pub one_slot_told : (grid : GridModel) (shape : Shape) (number k j i : ℕ) (before after : List SlotAccess) → IsSlot grid number k j i
    → AreAccessAfter grid shape (λ n. n ≡ number) before after → AreAccessAfter grid shape (λ n. IsSlot grid n k j i) before after
one_slot_told grid shape number k j i before after slot got =
    let P : ℕ → Type 0 = λ n. IsSlot grid n k j i in
    told_as grid shape (λ n. n ≡ number) (λ n. IsSlot grid n k j i) before after (λ n other. other.is ∙ sym slot.is) (λ n same. subst P (sym same) slot) got

pub one_column : (grid : GridModel) (k j l m n : ℕ) → IsSlot grid n k j l → IsSlot grid n k j m → l ≡ m
one_column grid k j l m n slot other = (same_slot grid n k j l k j m slot other).column

pub one_row : (grid : GridModel) (k : ℕ) (columns : ℕ × ℕ) (l m n : ℕ) → IsInRow grid k l columns n → IsInRow grid k m columns n → l ≡ m
one_row grid k columns l m n row other = (same_slot grid n k l row.k k m other.k row.is other.is).row

pub one_layer : (grid : GridModel) (l m n : ℕ) → IsSlotOnLayer grid l n → IsSlotOnLayer grid m n → l ≡ m
one_layer grid l m n on other = (same_slot grid n l on.j on.i m other.j other.i on.slot other.slot).layer

module _ (grid : GridModel) (shapes : List Shape) (i : ℕ) (shape : Shape) (at : slice_get shapes i ≡ Some shape) (before : List Shape) (flat : FlatModel)
    (are : flat.shapes ≡ before ++ take (i + 1) shapes) where
  -- the flat without the shape
  abbrev pub without_it : FlatModel
  without_it = record { shapes = before ++ take i shapes; pieces = [] }

  has_it : HasShape shape without_it flat
  has_it =
      let read : get_or shapes i shape ≡ shape = get_or_from_slice_get shapes i shape shape at in
      let longer : take (i + 1) shapes ≡ take i shapes ++ shape ∷ [] = take_more shapes i shape (slice_get_within shapes i shape at) ∙ rw read refl in
      are ∙ ap (λ (more : List Shape). before ++ more) longer ∙ sym (append_assoc before (take i shapes) (shape ∷ []))

  -- the shape is added
  pub told_next : (old new : List SlotAccess) → ((f g : FlatModel) → HasShape shape f g → IsAccessTable grid f old → IsAccessTable grid g new)
      → IsAccessTable grid without_it old → IsAccessTable grid flat new
  told_next old new told tells = told without_it flat has_it tells

  -- it is among those before it
  pub told_again : IsDesignGrid grid → Contains (take i shapes) shape → (slots : List SlotAccess) → IsAccessTable grid without_it slots
      → IsAccessTable grid flat slots
  told_again is_grid there slots tells = record {
    count = tells.count;
    each = λ n slot slot_at. tells_again grid is_grid n shape without_it flat has_it slot (Contains-append_right before (take i shapes) shape there)
        (tells.each n slot slot_at);
  }

-- a shape that is the one before it is among those before it
pub among_before : (shapes : List Shape) (k : ℕ) (a shape : Shape) → 0 < k → k < length shapes → slice_get shapes (k - 1) ≡ Some a → a ≡ shape
    → Contains (take k shapes) shape
among_before shapes k a shape some within at same =
    let low : k - 1 < length (take k shapes) = omega (arith, some, within, length-take k shapes) in
    let here : get_or (take k shapes) (k - 1) shape ≡ shape =
    get_or-take k shapes (k - 1) shape (omega (arith, some)) ∙ get_or_from_slice_get shapes (k - 1) a shape at ∙ same in
    (k - 1, low, here)
