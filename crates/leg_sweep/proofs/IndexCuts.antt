-- An index that grows, and whose last rectangles are grouped.
use Rattle.std.proofs.Common.{◌≡◌, ℕ, zero, suc, ◌-◌, ◌^◌, ◌≤◌, ◌<◌, List, [], ◌∷◌, ◌++◌, length, take, drop, get_or, Some, slice_get, All, AllPairs, Contains, inl, inr, refl, sym, subst, arith, length-append, take-append-drop}
use Rattle.std.proofs.lemmas.Bool.{cases_lt}
use Rattle.std.proofs.lemmas.List.{take-append-le, take-take, take_all, length-take-le, get_or-take}
use Rattle.std.proofs.lemmas.List.Concat.{flat_map-append}
use Rattle.std.proofs.lemmas.List.Elements.{All-nil, All-cons, All-append, All-weaker, All-from_get_or, Contains-append_left, Contains-append_right}
use Rattle.leg_lemmas.proofs.RisingLists.{AllPairs-append}
use Rattle.leg_geom.specs.Plane.{RectModel, IsRect}
use Rattle.leg_sweep.specs.declared.bin_index.Cut.{Cut}
use Rattle.leg_sweep.specs.declared.bounds.Bounds.{Bounds}
use Rattle.leg_sweep.specs.declared.node.Content.{Content}
use Rattle.leg_sweep.specs.declared.node.Content.TheVariants.{Group, Rect}
use Rattle.leg_sweep.specs.declared.node.Node.{Node}
use Rattle.leg_sweep.specs.Steps.Bounds.{bounds_around, IsWithin}
use Rattle.leg_sweep.specs.NearNumbers.{number_in, numbers_of}
use Rattle.leg_sweep.specs.Steps.Nodes.{HasBoundsOf, IsRightAt, IsRight, AreNodesFrom}
use Rattle.leg_sweep.specs.Steps.Index.{IsCut, IsIndex}
use Rattle.leg_sweep.proofs.NearNodes.{forest_append}

-- an element keeps its place where others come behind
get_before : (xs ys : List RectModel) (number : ℕ) (rect : RectModel) → slice_get xs number ≡ Some rect → slice_get (xs ++ ys) number ≡ Some rect
get_before [] ys number rect at = absurd (cc)
get_before (x ∷ xs) ys zero rect at = at
get_before (x ∷ xs) ys (suc number) rect at = get_before xs ys number rect at

get_last : (xs : List RectModel) (rect : RectModel) → slice_get (xs ++ rect ∷ []) (length xs) ≡ Some rect
get_last [] rect = refl
get_last (x ∷ xs) rect = get_last xs rect

-- a node is right where others come behind its rectangle
right_before : (xs ys : List RectModel) (bounds : Bounds) (content : Content) → IsRightAt xs bounds content → IsRightAt (xs ++ ys) bounds content
right_before xs ys bounds (Group members) right = right
right_before xs ys bounds (Rect number) right =
    record { rect = right.rect; there = get_before xs ys number right.rect right.there; proper = right.proper; are = right.are }

rights_before : (xs ys : List RectModel) (nodes : List Node) → All (IsRight xs) nodes → All (IsRight (xs ++ ys)) nodes
rights_before xs ys nodes right = All-weaker (IsRight xs) (IsRight (xs ++ ys)) (λ node is. right_before xs ys node.bounds node.content is) nodes right

numbers_before : (xs ys : List Node) (number : ℕ) → Contains (numbers_of xs) number → Contains (numbers_of (xs ++ ys)) number
numbers_before xs ys number has =
    rw (flat_map-append (λ (node : Node). number_in node.content) xs ys) (Contains-append_left (numbers_of xs) (numbers_of ys) number has)

numbers_behind : (xs ys : List Node) (number : ℕ) → Contains (numbers_of ys) number → Contains (numbers_of (xs ++ ys)) number
numbers_behind xs ys number has =
    rw (flat_map-append (λ (node : Node). number_in node.content) xs ys) (Contains-append_right (numbers_of xs) (numbers_of ys) number has)

-- the nodes of the first rectangles and those of the others
nodes_joined : (rects : List RectModel) (first : ℕ) (front back : List Node) → first ≤ length rects → AreNodesFrom (take first rects) 0 front
    → AreNodesFrom rects first back → AreNodesFrom rects 0 (front ++ back)
nodes_joined rects first front back within a b = record {
  forest = forest_append front back a.forest b.forest;
  right = All-append (IsRight rects) front back (rw (take-append-drop first rects) at
      (rights_before (take first rects) (drop first rects) front a.right)) b.right;
  all = λ number low high. elim (cases_lt number first) [
    | inl early ↦ numbers_before front back number (a.all number low (rw (length-take-le first rects within) early))
    | inr late ↦ numbers_behind front back number (b.all number late high)
  ];
}

-- one more rectangle
nodes_grown : (rects : List RectModel) (nodes : List Node) (rect : RectModel) (bounds : Bounds) → AreNodesFrom rects 0 nodes → bounds ≡ bounds_around rect 0
    → IsRect rect
    → AreNodesFrom (rects ++ rect ∷ []) 0 (nodes ++ (record { bounds = bounds; content = Rect (length rects) }) ∷ [])
nodes_grown rects nodes rect bounds a is proper =
    let node : Node = record { bounds = bounds; content = Rect (length rects) } in
    let right : HasBoundsOf (rects ++ rect ∷ []) (length rects) bounds = record { rect = rect; there = get_last rects rect; proper = proper; are = is } in
    record {
      forest = forest_append nodes (node ∷ []) a.forest (omega arith, All-nil (λ (member : Node). IsWithin member.bounds bounds), tt);
      right = All-append (IsRight (rects ++ rect ∷ [])) nodes (node ∷ []) (rights_before rects (rect ∷ []) nodes a.right)
          (All-cons (IsRight (rects ++ rect ∷ [])) node [] right (All-nil (IsRight (rects ++ rect ∷ []))));
      all = λ number low high. elim (cases_lt number (length rects)) [
        | inl early ↦ numbers_before nodes (node ∷ []) number (a.all number low early)
        | inr late ↦
            let last : length rects ≡ number = omega (arith, late, high, length-append rects (rect ∷ [])) in
            numbers_behind nodes (node ∷ []) number (zero, omega arith, last)
      ];
    }

cut_grown : (rects more : List RectModel) (nodes others : List Node) (cut : Cut) → IsCut rects nodes cut → IsCut (rects ++ more) (nodes ++ others) cut
cut_grown rects more nodes others cut is = record {
  rects_in = omega (arith, is.rects_in, length-append rects more);
  nodes_in = omega (arith, is.nodes_in, length-append nodes others);
  are = rw (take-append-le cut.rects rects more is.rects_in, take-append-le cut.nodes nodes others is.nodes_in) is.are;
}

pub index_grown : (rects : List RectModel) (nodes : List Node) (cuts : List Cut) (rect : RectModel) (bounds : Bounds) → IsIndex rects nodes cuts
    → length rects < 2 ^ 32 - 1 → bounds ≡ bounds_around rect 0 → IsRect rect
    → IsIndex (rects ++ rect ∷ []) (nodes ++ (record { bounds = bounds; content = Rect (length rects) }) ∷ []) cuts
index_grown rects nodes cuts rect bounds index room is proper =
    let node : Node = record { bounds = bounds; content = Rect (length rects) } in
    record {
      few = omega (arith, room, length-append rects (rect ∷ []));
      are = nodes_grown rects nodes rect bounds index.are is proper;
      some = index.some;
      each = All-weaker (IsCut rects nodes) (IsCut (rects ++ rect ∷ []) (nodes ++ node ∷ []))
          (λ cut at. cut_grown rects (rect ∷ []) nodes (node ∷ []) cut at) cuts index.each;
      rising = index.rising;
    }

module _ (rects : List RectModel) (nodes : List Node) (cuts : List Cut) (kept : ℕ) (cut : Cut) (fresh : List Node)
    (index : IsIndex rects nodes cuts) (some : 0 < kept) (within : kept ≤ length cuts) (at : cut ≡ get_or cuts (kept - 1) cut)
    (are : AreNodesFrom rects cut.rects fresh) where
  abbrev grouped : List Node
  grouped = take cut.nodes nodes ++ fresh

  abbrev whole : Cut
  whole = record { rects = length rects; nodes = length grouped }

  here : IsCut rects nodes cut
  here = rw at (index.each (kept - 1) cut (omega (arith, some, within)))

  front_length : length (take cut.nodes nodes) ≡ cut.nodes
  front_length = length-take-le cut.nodes nodes here.nodes_in

  -- the cuts before it end no later
  earlier : (k : ℕ) → k < kept → (get_or cuts k cut).nodes ≤ cut.nodes
  earlier k below = elim (cases_lt k (kept - 1)) [
    | inl before ↦ let rise = index.rising k (kept - 1) cut before (omega (arith, some, within)) in
        subst (λ (c : Cut). (get_or cuts k cut).nodes ≤ c.nodes) (sym at) rise
    | inr last ↦ let same : k ≡ kept - 1 = omega (arith, last, below) in rw (same, ← at) (omega arith)
  ]

  kept_cut : (c : Cut) → IsCut rects nodes c → c.nodes ≤ cut.nodes → IsCut rects grouped c
  kept_cut c is low = record {
    rects_in = is.rects_in;
    nodes_in = omega (arith, low, front_length, length-append (take cut.nodes nodes) fresh);
    are = rw (take-append-le c.nodes (take cut.nodes nodes) fresh (omega (arith, low, front_length)), take-take c.nodes cut.nodes nodes low) is.are;
  }

  all_nodes : AreNodesFrom rects 0 grouped
  all_nodes = nodes_joined rects cut.rects (take cut.nodes nodes) fresh here.rects_in here.are are

  at_kept : (k : ℕ) → k < length (take kept cuts) → (k < kept) × (get_or (take kept cuts) k cut ≡ get_or cuts k cut)
  at_kept k below =
      let count = length-take-le kept cuts within in
      (omega (arith, below, count), get_or-take kept cuts k cut (omega (arith, below, count)))

  kept_cuts_are : All (IsCut rects grouped) (take kept cuts)
  kept_cuts_are = All-from_get_or (IsCut rects grouped) (take kept cuts) cut (λ k below.
      let known = at_kept k below in
      rw known.1 (kept_cut (get_or cuts k cut) (index.each k cut (omega (arith, known.0, within))) (earlier k known.0)))

  kept_are_low : All (λ (c : Cut). c.nodes ≤ whole.nodes) (take kept cuts)
  kept_are_low = All-from_get_or (λ (c : Cut). c.nodes ≤ whole.nodes) (take kept cuts) cut (λ k below.
      let known = at_kept k below in
      rw known.1 (omega (arith, earlier k known.0, front_length, length-append (take cut.nodes nodes) fresh)))

  kept_rise : AllPairs (λ (a b : Cut). a.nodes ≤ b.nodes) (take kept cuts)
  kept_rise i j d before below =
      let count = length-take-le kept cuts within in
      rw (get_or-take kept cuts i d (omega (arith, before, below, count)), get_or-take kept cuts j d (omega (arith, below, count)))
      (index.rising i j d before (omega (arith, below, count, within)))

  whole_is_cut : IsCut rects grouped whole
  whole_is_cut = record {
    rects_in = omega arith;
    nodes_in = omega arith;
    are = rw (take_all (length rects) rects (omega arith), take_all (length grouped) grouped (omega arith)) all_nodes;
  }

  pub index_grouped : IsIndex rects grouped (take kept cuts ++ whole ∷ [])
  index_grouped =
      let Low : Cut → Cut → Type 0 = λ a b. a.nodes ≤ b.nodes in
      record {
        few = index.few;
        are = all_nodes;
        some = omega (arith, length-append (take kept cuts) (whole ∷ []));
        each = All-append (IsCut rects grouped) (take kept cuts) (whole ∷ []) kept_cuts_are
            (All-cons (IsCut rects grouped) whole [] whole_is_cut (All-nil (IsCut rects grouped)));
        rising = AllPairs-append Low (take kept cuts) (whole ∷ []) kept_rise (λ i j d before below. absurd (omega arith))
            (All-weaker (λ (c : Cut). c.nodes ≤ whole.nodes) (λ (c : Cut). All (Low c) (whole ∷ []))
            (λ c low. All-cons (Low c) whole [] low (All-nil (Low c))) (take kept cuts) kept_are_low);
      }
