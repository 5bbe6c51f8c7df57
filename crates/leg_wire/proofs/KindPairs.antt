-- The pairs of shapes that pairs of kinds stand for.
use Rattle.std.proofs.Common.{◌≡◌, ℕ, ◌<◌, min, max, List, [], ◌∷◌, length, get_or, map, AllPairs, Contains, None, Some, slice_get, inl, inr, refl, sym, ap, ◌∙◌, arith}
use Rattle.std.specs.List.{flat_map}
use Rattle.std.proofs.lemmas.Bool.{cases_lt, cases_eq}
use Rattle.std.proofs.lemmas.List.Elements.{All-contains, Contains-append_left, Contains-append_right, Contains-append_cases}
use Rattle.std.proofs.lemmas.Option.{same_Some, slice_get_within, get_or_from_slice_get, slice_get-get_or, none-some}
use Rattle.leg_lemmas.proofs.Places.{comes_from}
use Rattle.leg_sweep.specs.Pairs.{Before, ArePairs}
use Rattle.leg_geom.specs.Pairs.{IsPair}
use Rattle.leg_sweep.specs.Steps.Sweep.{ordered}
use Rattle.leg_sweep.proofs.Lists.{Contains-nil, Contains-here, Contains-there, Contains-cons_cases, Contains-map, All-from_contains}
use Rattle.leg_sweep.proofs.Turns.{ordered_below}
use Rattle.leg_lib_records.specs.Records.{LibraryModel}
use Rattle.leg_rules.specs.declared.shape.Shape.{Shape}
use Rattle.leg_wire_spacing.proofs.RequiredSpacing.{HaveSamePoints, required_alike}
use Rattle.leg_wire.specs.Steps.TooCloseRule.{AreClose, AreClose-symmetric}
use Rattle.leg_wire.specs.Steps.Kinds.{AreAlike, IsOfKind, AreKinds, AreMembers, pairs_between, pairs_among}

-- an element of the lists that a function makes of the elements of a list
pub Contains-flat_map : {X Y : Type 0} (f : X → List Y) (xs : List X) (x : X) (y : Y) → Contains xs x → Contains (f x) y → Contains (flat_map f xs) y
Contains-flat_map f [] x y has there = absurd (Contains-nil x has)
Contains-flat_map f (z ∷ xs) x y has there = elim (Contains-cons_cases z xs x has) [
  | inl same ↦ Contains-append_left (f z) (flat_map f xs) y (rw same there)
  | inr later ↦ Contains-append_right (f z) (flat_map f xs) y (Contains-flat_map f xs x y later there)
]

pub from_flat_map : {X Y : Type 0} (f : X → List Y) (xs : List X) (y : Y) → Contains (flat_map f xs) y → (x : X) × Contains xs x × Contains (f x) y
from_flat_map f [] y has = absurd (Contains-nil y has)
from_flat_map f (z ∷ xs) y has = elim (Contains-append_cases (f z) (flat_map f xs) y has) [
  | inl here ↦ (z, Contains-here z xs, here)
  | inr later ↦ let rest = from_flat_map f xs y later in (rest.0, Contains-there z xs rest.0 rest.1, rest.2)
]

-- two numbers, one of each list
record IsBetween (firsts seconds : List ℕ) (p : ℕ × ℕ) : Type 0 where
  i : ℕ
  j : ℕ
  i_in : Contains firsts i
  j_in : Contains seconds j
  is : ordered i j ≡ p

between_from : (firsts seconds : List ℕ) (p : ℕ × ℕ) → Contains (pairs_between firsts seconds) p → IsBetween firsts seconds p
between_from firsts seconds p has =
    let first = from_flat_map (λ i. map (ordered i) seconds) firsts p has in
    let second = comes_from (ordered first.0) seconds p first.2 in
    record { i = first.0; j = second.0; i_in = first.1; j_in = second.1; is = second.2 }

between_has : (firsts seconds : List ℕ) (i j : ℕ) → Contains firsts i → Contains seconds j → Contains (pairs_between firsts seconds) (ordered i j)
between_has firsts seconds i j i_in j_in =
    Contains-flat_map (λ n. map (ordered n) seconds) firsts i (ordered i j) i_in (Contains-map (ordered i) seconds j j_in)

ordered-back : (i j : ℕ) → ordered i j ≡ ordered j i
ordered-back i j =
    let low : min i j ≡ min j i = omega arith in
    let high : max i j ≡ max j i = omega arith in
    rw (low, high) refl

-- a shape and its kind have the same points
same_points : (a kind : Shape) → AreAlike a kind → HaveSamePoints a kind
same_points a kind is = record {
  layer = is.layer;
  owner = is.owner;
  component = is.component;
  points = λ p. (λ has. rw is.rect at has, λ has. rw is.rect has);
}

module _ (library : LibraryModel) where
  abbrev pub Close : Shape → Shape → Type 0
  Close = AreClose library

  -- shapes of one kind are not compared with one another
  one_kind : (a b kind : Shape) → AreAlike a kind → AreAlike b kind → Close a b → ⊥
  one_kind a b kind a_is b_is close = close.comparable.owners (a_is.owner ∙ sym b_is.owner)

  -- shapes are too close where their kinds are
  close_shapes : (a b c d : Shape) → AreAlike a c → AreAlike b d → Close c d → Close a b
  close_shapes a b c d a_is b_is close = record {
    comparable = record {
      layer = a_is.layer ∙ close.comparable.layer ∙ sym b_is.layer;
      owners = λ same. close.comparable.owners (sym a_is.owner ∙ same ∙ b_is.owner);
      apart = λ one. close.comparable.apart (record { component = one.component; of_a = sym a_is.component ∙ one.of_a; of_b = sym b_is.component ∙ one.of_b });
      metal = λ first second. close.comparable.metal (rw a_is.owner at first) (rw b_is.owner at second);
    };
    close = rw (required_alike library a b c d (same_points a c a_is) (same_points b d b_is), a_is.rect, b_is.rect) close.close;
  }

  module _ (shapes kinds : List Shape) (numbers : List ℕ) (members : List (List ℕ)) (close : List (ℕ × ℕ))
      (are_kinds : AreKinds AreAlike shapes kinds numbers) (are_members : AreMembers numbers (length kinds) members) (are : ArePairs Close kinds close) where
    -- a shape and its kind
    record HasKind (k kind : ℕ) : Type 0 where
      shape : Shape
      at : slice_get shapes k ≡ Some shape
      of : IsOfKind AreAlike kinds kind shape

    member_shape : (unused : Shape) (kind k : ℕ) → kind < length kinds → Contains (get_or members kind []) k → HasKind k kind
    member_shape unused kind k below has =
        let at : slice_get numbers k ≡ Some kind = (are_members.each kind k below).0 has in
        let within : k < length shapes = let low = slice_get_within numbers k kind at in omega (arith, low, are_kinds.count) in
        by k kind at (slice_get shapes k) refl within
      where
        by : (k kind : ℕ) → slice_get numbers k ≡ Some kind → (o : _) → slice_get shapes k ≡ o → k < length shapes → HasKind k kind
        by k kind at (Some shape) is within =
            let same : get_or numbers k 0 ≡ kind = get_or_from_slice_get numbers k kind 0 at in
            record { shape = shape; at = is; of = rw same at (are_kinds.each k shape is) }
        by k kind at None is within = absurd (none-some (get_or shapes k unused) (sym is ∙ slice_get-get_or shapes k unused within))

    -- what is found is a pair
    each_is : (p : ℕ × ℕ) → Contains (pairs_among members close) p → IsPair Close shapes p
    each_is p has =
        let found = from_flat_map (λ q. pairs_between (get_or members q.0 []) (get_or members q.1 [])) close p has in
        let q = found.0 in
        let pair = All-contains (IsPair Close kinds) close q are.each found.1 in
        let between = between_from (get_or members q.0 []) (get_or members q.1 []) p found.2 in
        let first_in : q.0 < length kinds = slice_get_within kinds q.0 pair.a pair.a_at in
        let second_in : q.1 < length kinds = slice_get_within kinds q.1 pair.b pair.b_at in
        let i = between.i in
        let j = between.j in
        let s = member_shape pair.a q.0 i first_in between.i_in in
        let t = member_shape pair.b q.1 j second_in between.j_in in
        let s_kind : s.of.kind ≡ pair.a = same_Some s.of.kind pair.a (sym s.of.at ∙ pair.a_at) in
        let t_kind : t.of.kind ≡ pair.b = same_Some t.of.kind pair.b (sym t.of.at ∙ pair.b_at) in
        let holds : Close s.shape t.shape = close_shapes s.shape t.shape pair.a pair.b (rw s_kind at s.of.alike) (rw t_kind at t.of.alike) pair.holds in
        let i_kind : slice_get numbers i ≡ Some q.0 = (are_members.each q.0 i first_in).0 between.i_in in
        let j_kind : slice_get numbers j ≡ Some q.1 = (are_members.each q.1 j second_in).0 between.j_in in
        elim (cases_lt i j) [
          | inl less ↦
              let is : (i, j) ≡ p = sym (ordered_below i j less) ∙ between.is in
              rw (← is) (record { a = s.shape; b = t.shape; a_at = s.at; b_at = t.at; in_order = less; holds = holds })
          | inr more ↦ elim (cases_eq i j) [
            | inl same ↦
                let one : q.0 ≡ q.1 = same_Some q.0 q.1 (sym i_kind ∙ ap (slice_get numbers) same ∙ j_kind) in
                absurd (omega (arith, one, pair.in_order))
            | inr differ ↦
                let less : j < i = omega (arith, more, differ) in
                let is : (j, i) ≡ p = sym (ordered_below j i less) ∙ ordered-back j i ∙ between.is in
                rw (← is) (record {
                  a = t.shape;
                  b = s.shape;
                  a_at = t.at;
                  b_at = s.at;
                  in_order = less;
                  holds = AreClose-symmetric library s.shape t.shape holds;
                })
          ]
        ]

    -- the numbers of a pair's kinds
    kind_in : (k : ℕ) (shape : Shape) → slice_get shapes k ≡ Some shape → slice_get numbers k ≡ Some (get_or numbers k 0)
    kind_in k shape at = slice_get-get_or numbers k 0 (let low = slice_get_within shapes k shape at in omega (arith, low, are_kinds.count))

    -- each pair is found, here of two kinds in this order
    found_by : (i j : ℕ) (a b : Shape) → slice_get shapes i ≡ Some a → slice_get shapes j ≡ Some b → Close a b
        → get_or numbers i 0 < get_or numbers j 0 → Contains (pairs_among members close) (ordered i j)
    found_by i j a b a_at b_at holds less =
        let c = are_kinds.each i a a_at in
        let d = are_kinds.each j b b_at in
        let near : Close c.kind d.kind = close_shapes c.kind d.kind a b (alike_back a c.kind c.alike) (alike_back b d.kind d.alike) holds in
        let q : ℕ × ℕ = (get_or numbers i 0, get_or numbers j 0) in
        let has : Contains close q = are.all q (record { a = c.kind; b = d.kind; a_at = c.at; b_at = d.at; in_order = less; holds = near }) in
        let first_in = slice_get_within kinds q.0 c.kind c.at in
        let second_in = slice_get_within kinds q.1 d.kind d.at in
        Contains-flat_map (λ q. pairs_between (get_or members q.0 []) (get_or members q.1 [])) close q (ordered i j) has
        (between_has (get_or members q.0 []) (get_or members q.1 []) i j ((are_members.each q.0 i first_in).1 (kind_in i a a_at))
        ((are_members.each q.1 j second_in).1 (kind_in j b b_at)))
      where
        alike_back : (s t : Shape) → AreAlike s t → AreAlike t s
        alike_back s t h = record { layer = sym h.layer; rect = sym h.rect; owner = sym h.owner; component = sym h.component }

    all_found : (p : ℕ × ℕ) → IsPair Close shapes p → Contains (pairs_among members close) p
    all_found (i, j) pair =
        let m = get_or numbers i 0 in
        let n = get_or numbers j 0 in
        let here : ordered i j ≡ (i, j) = ordered_below i j pair.in_order in
        elim (cases_lt m n) [
          | inl less ↦ rw here at (found_by i j pair.a pair.b pair.a_at pair.b_at pair.holds less)
          | inr more ↦ elim (cases_eq m n) [
            | inl same ↦
                let c = are_kinds.each i pair.a pair.a_at in
                let d = are_kinds.each j pair.b pair.b_at in
                let one : d.kind ≡ c.kind = same_Some d.kind c.kind (sym d.at ∙ ap (slice_get kinds) (sym same) ∙ c.at) in
                absurd (one_kind pair.a pair.b c.kind c.alike (rw one at d.alike) pair.holds)
            | inr differ ↦
                let back =
                found_by j i pair.b pair.a pair.b_at pair.a_at (AreClose-symmetric library pair.a pair.b pair.holds) (omega (arith, more, differ)) in
                rw (ordered-back j i, here) at back
          ]
        ]

    -- the pairs that were found, in order
    pub pairs_of_kinds : (found : List (ℕ × ℕ)) → AllPairs Before found → ((p : ℕ × ℕ) → Contains found p → Contains (pairs_among members close) p)
        → ((p : ℕ × ℕ) → Contains (pairs_among members close) p → Contains found p) → ArePairs Close shapes found
    pairs_of_kinds found rising into back = record {
      increasing = rising;
      each = All-from_contains (IsPair Close shapes) found (λ p has. each_is p (into p has));
      all = λ p pair. back p (all_found p pair);
    }
