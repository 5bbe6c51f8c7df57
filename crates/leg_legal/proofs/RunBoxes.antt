-- How the boxes that are taken away go with the components that have taken their places.
use Rattle.std.proofs.Common.{◌≡◌, ◌≢◌, ◌↔◌, ℕ, ◌+◌, ◌<◌, ◌≤◌, List, [], ◌∷◌, ◌++◌, take, drop, length, get_or, AllPairs, Contains, Some, slice_get, refl, sym, ap, subst, append_assoc, ◌∙◌, inl, inr, arith}
use Rattle.std.proofs.Math.ListN.{get_or-map}
use Rattle.std.proofs.lemmas.Bool.{cases_lt, cases_eq}
use Rattle.std.proofs.lemmas.List.{take_more, take_all, take-append-drop, length-map, length-append, append-nil, get_or_append_left}
use Rattle.std.proofs.lemmas.List.Elements.{All-take, All-push, All-nil, Contains-push, Contains-push_cases, Contains-append_left, Contains-append_right, Contains-append_cases}
use Rattle.std.proofs.lemmas.Option.{same_Some, slice_get_within}
use Rattle.leg_lemmas.proofs.Contents.{Contains-nil}
use Rattle.leg_geom.specs.Plane.{RectModel}
use Rattle.leg_geom.specs.declared.place.Place.{Place}
use Rattle.leg_lib_records.specs.Records.{MasterModel}
use Rattle.leg_design_records.specs.Records.{DesignModel, placement_rects}
use Rattle.leg_design_records.specs.WellFormedParts.{IsPosition}
use Rattle.leg_design_records.specs.declared.records.Component.{Component}
use Rattle.leg_rules.specs.Placement.Box.{box_of, placed_box, HasBox}
use Rattle.leg_rules.specs.declared.position.Candidate.{Candidate}
use Rattle.leg_legal_sites.specs.Steps.FreeLists.{RowLists, AreFreeLists}
use Rattle.leg_legal.specs.declared.fault.LegalFault.{LegalFault}
use Rattle.leg_legal.specs.declared.fault.LegalFault.TheVariants.{FixedIllegal, NoSite, NoRoom, Memory}
use Rattle.leg_legal.specs.declared.taken.Taken.{Taken}
use Rattle.leg_legal.specs.declared.turns.TurnKey.{TurnKey}
use Rattle.leg_design_records.specs.Movable.{IsMovable}
use Rattle.leg_rules.specs.Legalise.Free.{IsSettled, HasSettled, IsTaken, IsFree, TakesBest}
use Rattle.leg_rules.specs.Legalise.Run.{placed_at, moved_to, LegaliseRun}
use Rattle.leg_rules.specs.Legalise.Run.LegaliseRun.{none, one}
use Rattle.leg_legal.specs.Steps.AfterPlaces.{CanTake, placed_all}
use Rattle.leg_legal.specs.Steps.Seats.{IsFreeOf}
use Rattle.leg_legal.specs.Steps.TurnKeys.{IsTurnKeyOf, numbers, AreInOrder}
use Rattle.leg_legal.specs.Steps.Boxes.{IsStayingIn, IsStayingBelow, KnowStaying, KnowBlockages, KnowTaken, IsSeated, HasNoSeat, IsSeatFault, IsTakingFault, IsUnderWay, AreAllTaken, IsStuckAt}
use Rattle.leg_legal.proofs.OneMove.{here, elsewhere, box_here, movable_before, taken_before}
use Rattle.leg_legal.proofs.RunSoFar.{AreMovable, IsSoFar, so_far, earlier_movable, last_movable, last_fresh}
use Rattle.leg_legal.proofs.TheOrder.{order_movable}
use Rattle.leg_legal.proofs.AfterPlaces.{placed_last}

-- the boxes of components that stay, one component after the other
module _ (design : DesignModel) where
  pub staying_none : (free : RowLists) → AreFreeLists design [] free → KnowStaying design 0 free
  staying_none free known = record {
    boxes = [];
    known = known;
    staying = λ box. (λ has. absurd (Contains-nil box has), λ s. absurd (omega (arith, s.below)));
  }

  staying_up : (i : ℕ) (box : RectModel) → IsStayingBelow design i box → IsStayingBelow design (i + 1) box
  staying_up i box s = record { d = s.d; below = omega (arith, s.below); staying = s.staying }

  -- one more component has no box that stays
  pub staying_skip : (free : RowLists) (i : ℕ) → ((box : RectModel) → IsStayingIn design i box → ⊥) → KnowStaying design i free
      → KnowStaying design (i + 1) free
  staying_skip free i never k = record {
    boxes = k.boxes;
    known = k.known;
    staying = λ box. (
      λ has. staying_up i box ((k.staying box).0 has),
      λ s. elim (cases_lt s.d i) [
        | inl earlier ↦ (k.staying box).1 (record { d = s.d; below = earlier; staying = s.staying })
        | inr late ↦ let is : s.d ≡ i = omega (arith, s.below, late) in absurd (never box (rw is at s.staying))
      ],
    );
  }

  -- or it has this one
  pub staying_more : (free after : RowLists) (i : ℕ) (component : Component) (rect : RectModel) → slice_get design.components i ≡ Some component
      → box_of design.library component ≡ Some rect → (IsMovable design i → ⊥) → (k : KnowStaying design i free)
      → AreFreeLists design (k.boxes ++ rect ∷ []) after → KnowStaying design (i + 1) after
  staying_more free after i component rect there is stays k known = record {
    boxes = k.boxes ++ rect ∷ [];
    known = known;
    staying = λ box. (
      λ has. elim (Contains-push_cases k.boxes rect box has) [
        | inl earlier ↦ staying_up i box ((k.staying box).0 earlier)
        | inr same ↦ record {
          d = i;
          below = omega arith;
          staying = record { stays = stays; stands = record { component = component; there = there; placed = is ∙ ap (λ b. Some b) same } };
        }
      ],
      λ s. elim (cases_lt s.d i) [
        | inl earlier ↦ Contains-append_left k.boxes (rect ∷ []) box ((k.staying box).1 (record { d = s.d; below = earlier; staying = s.staying }))
        | inr late ↦
            let here_is : s.d ≡ i = omega (arith, s.below, late) in
            let in_box : HasBox design i box = rw here_is at s.staying.stands in
            let one_is : in_box.component ≡ component = same_Some in_box.component component (sym in_box.there ∙ there) in
            let told : box_of design.library component ≡ Some box = subst (λ (x : Component). box_of design.library x ≡ Some box) one_is in_box.placed in
            let same : rect ≡ box = same_Some rect box (sym is ∙ told) in
            subst (λ (b : RectModel). Contains (k.boxes ++ rect ∷ []) b) same (Contains-push k.boxes rect)
      ],
    );
  }

  -- the rectangles of blockages, after the boxes of all that stay
  pub blockages_none : (free : RowLists) → KnowStaying design (length design.components) free → KnowBlockages design [] free
  blockages_none free k = record { boxes = k.boxes; known = rw (append-nil k.boxes) k.known; staying = k.staying }

  pub blockages_more : (free after : RowLists) (rects more : List RectModel) → (k : KnowBlockages design rects free)
      → AreFreeLists design ((k.boxes ++ rects) ++ more) after → KnowBlockages design (rects ++ more) after
  blockages_more free after rects more k known = record { boxes = k.boxes; known = rw append_assoc at known; staying = k.staying }

  -- those of all placement blockages are taken before any component's turn has come
  pub blockages_all : (free : RowLists) → KnowBlockages design (placement_rects design.blockages) free → KnowTaken design design [] free
  blockages_all free k = record {
    boxes = k.boxes ++ placement_rects design.blockages;
    known = k.known;
    taken = λ box. (is_taken box, in_boxes box);
  }
    where
      is_taken : (box : RectModel) → Contains (k.boxes ++ placement_rects design.blockages) box → IsTaken design [] box
      is_taken box has = elim (Contains-append_cases k.boxes (placement_rects design.blockages) box has) [
        | inl stays ↦ let s = (k.staying box).0 stays in inl (record { d = s.d; settled = inl s.staying.stays; stands = s.staying.stands })
        | inr blocks ↦ inr blocks
      ]

      in_front : (box : RectModel) → HasSettled design [] box → Contains k.boxes box
      in_front box t = elim t.settled [
        | inl stays ↦ (k.staying box).1 (record {
          d = t.d;
          below = slice_get_within design.components t.d t.stands.component t.stands.there;
          staying = record { stays = stays; stands = t.stands };
        })
        | inr has ↦ absurd (Contains-nil t.d has)
      ]

      in_boxes : (box : RectModel) → IsTaken design [] box → Contains (k.boxes ++ placement_rects design.blockages) box
      in_boxes box (inl t) = Contains-append_left k.boxes (placement_rects design.blockages) box (in_front box t)
      in_boxes box (inr blocks) = Contains-append_right k.boxes (placement_rects design.blockages) box blocks

-- the first of elements in order
pairs_front : {X : Type 0} (R : X → X → Type 0) (xs ys : List X) → AllPairs R (xs ++ ys) → AllPairs R xs
pairs_front R xs ys pairs i j d below within =
    let first : get_or (xs ++ ys) i d ≡ get_or xs i d = get_or_append_left xs ys d i (omega arith) in
    let second : get_or (xs ++ ys) j d ≡ get_or xs j d = get_or_append_left xs ys d j within in
    rw (first, second) at (pairs i j d below (omega (arith, length-append xs ys)))

are_movable_front : (design : DesignModel) (k : ℕ) (order : List ℕ) → AreMovable design order → AreMovable design (take k order)
are_movable_front design k order are = record {
  each = All-take (IsMovable design) k order are.each;
  apart =
      let whole : take k order ++ drop k order ≡ order = take-append-drop k order in
      let apart : AllPairs (λ c d. c ≢ d) (take k order ++ drop k order) = rw whole are.apart in
      pairs_front (λ c d. c ≢ d) (take k order) (drop k order) apart;
}

-- one more component takes its place
module _ (design : DesignModel) (done : List ℕ) (now : DesignModel) (run : LegaliseRun design done now) (c : ℕ)
    (are : AreMovable design (done ++ c ∷ [])) (free : RowLists) (known : KnowTaken design now done free) where
  so : IsSoFar design done now
  so = so_far design done now run (earlier_movable design done c are)

  fresh : Contains done c → ⊥
  fresh = last_fresh design done c are

  movable_now : IsMovable now c
  movable_now = so.movable c (last_movable design done c are)

  abbrev alike : DesignModel
  alike = record design { components = now.components }

  taken_alike : (box : RectModel) → Contains known.boxes box ↔ IsTaken alike done box
  taken_alike = subst (λ (d : DesignModel). (box : RectModel) → Contains known.boxes box ↔ IsTaken d done box) so.rest known.taken

  free_alike : (k : Candidate) (place : Place) → IsFreeOf design known.boxes c k place → IsFree alike done c k place
  free_alike k place f = record {
    stands = record {
      component = f.stands.component;
      there = so.waiting c fresh ∙ f.stands.there;
      master = f.stands.master;
      is_master = f.stands.is_master;
      row = f.stands.row;
      is_row = f.stands.is_row;
      same = f.stands.same;
      site = f.stands.site;
      is_site = f.stands.is_site;
      high = f.stands.high;
      many = f.stands.many;
      some = f.stands.some;
      wide = f.stands.wide;
      within = f.stands.within;
      at = f.stands.at;
      takes = f.stands.takes;
      distance = f.stands.distance;
      turned = f.stands.turned;
    };
    clear = record { inside = f.clear.inside; alone = λ other t. f.clear.alone other ((taken_alike other).1 t) };
  }

  free_of_alike : (k : Candidate) (place : Place) → IsFree alike done c k place → IsFreeOf design known.boxes c k place
  free_of_alike k place f = record {
    stands = record {
      component = f.stands.component;
      there = sym (so.waiting c fresh) ∙ f.stands.there;
      master = f.stands.master;
      is_master = f.stands.is_master;
      row = f.stands.row;
      is_row = f.stands.is_row;
      same = f.stands.same;
      site = f.stands.site;
      is_site = f.stands.is_site;
      high = f.stands.high;
      many = f.stands.many;
      some = f.stands.some;
      wide = f.stands.wide;
      within = f.stands.within;
      at = f.stands.at;
      takes = f.stands.takes;
      distance = f.stands.distance;
      turned = f.stands.turned;
    };
    clear = record { inside = f.clear.inside; alone = λ other has. f.clear.alone other ((taken_alike other).0 has) };
  }

  free_now : (k : Candidate) (place : Place) → IsFreeOf design known.boxes c k place → IsFree now done c k place
  free_now k place f = subst (λ (d : DesignModel). IsFree d done c k place) (sym so.rest) (free_alike k place f)

  free_before : (k : Candidate) (place : Place) → IsFree now done c k place → IsFreeOf design known.boxes c k place
  free_before k place f = free_of_alike k place (subst (λ (d : DesignModel). IsFree d done c k place) so.rest f)

  -- no position is free for it
  pub full_now : HasNoSeat design known.boxes c → (position : Candidate) (place : Place) → IsFree now done c position place → ⊥
  full_now never position place f = never position place (free_before position place f)

  -- it has got the best one
  module _ (place : Place) (after : RowLists) (s : IsSeated design known.boxes c place after) where
    abbrev component : Component
    component = s.best.free.stands.component

    abbrev master : MasterModel
    master = s.best.free.stands.master

    abbrev rect : RectModel
    rect = placed_box master.size place

    pub there_now : slice_get now.components c ≡ Some s.best.free.stands.component
    there_now = so.waiting c fresh ∙ s.best.free.stands.there

    takes : TakesBest now done c place
    takes = record {
      position = s.best.position;
      free = free_now s.best.position place s.best.free;
      best = λ other at f. s.best.best other at (free_before other at f);
    }

    pub run_more : LegaliseRun design (done ++ c ∷ []) (moved_to now c s.best.free.stands.component place)
    run_more = one run there_now takes

    is_master : slice_get now.library.masters component.master ≡ Some master
    is_master = ap (λ (d : DesignModel). slice_get d.library.masters component.master) so.rest ∙ s.best.free.stands.is_master

    abbrev moved : DesignModel
    moved = moved_to now c component place

    stands_here : (box : RectModel) → rect ≡ box → HasBox moved c box
    stands_here box same = record {
      component = placed_at component place;
      there = here now c component place there_now;
      placed = let told : box_of now.library (placed_at component place) ≡ Some rect = rw is_master refl in told ∙ ap (λ b. Some b) same;
    }

    -- one that was settled is another component
    other_settled : (d : ℕ) → IsSettled now done d → d ≡ c → ⊥
    other_settled d (inl stays) same = stays (rw same movable_now)
    other_settled d (inr has) same = fresh (rw same at has)

    settled_after : (d : ℕ) → IsSettled now done d → IsSettled moved (done ++ c ∷ []) d
    settled_after d (inl stays) = inl (λ m. stays (movable_before now c component place there_now movable_now d m))
    settled_after d (inr has) = inr (Contains-append_left done (c ∷ []) d has)

    taken_after : (box : RectModel) → IsTaken now done box → IsTaken moved (done ++ c ∷ []) box
    taken_after box (inl t) = inl (record {
      d = t.d;
      settled = settled_after t.d t.settled;
      stands = record {
        component = t.stands.component;
        there = elsewhere now c component place there_now t.d (other_settled t.d t.settled) ∙ t.stands.there;
        placed = t.stands.placed;
      };
    })
    taken_after box (inr blocks) = inr blocks

    in_boxes : (box : RectModel) → IsTaken moved (done ++ c ∷ []) box → Contains (known.boxes ++ rect ∷ []) box
    in_boxes box (inl t) =
        elim (cases_eq t.d c) [
          | inl same ↦
              let in_box : HasBox moved c box = rw same at t.stands in
              let is : box ≡ rect = box_here now c component place there_now master box is_master in_box in
              rw is (Contains-push known.boxes rect)
          | inr apart ↦
              Contains-append_left known.boxes (rect ∷ []) box
              ((known.taken box).1 (taken_before now c component place there_now movable_now done t.d box apart t.settled t.stands))
        ]
    in_boxes box (inr blocks) = Contains-append_left known.boxes (rect ∷ []) box ((known.taken box).1 (inr blocks))

    pub known_more : KnowTaken design (moved_to now c s.best.free.stands.component place) (done ++ c ∷ []) after
    known_more = record {
      boxes = known.boxes ++ rect ∷ [];
      known = s.known;
      taken = λ box. (
        λ has. elim (Contains-push_cases known.boxes rect box has) [
          | inl earlier ↦ taken_after box ((known.taken box).0 earlier)
          | inr same ↦ inl (record { d = c; settled = inr (Contains-push done c); stands = stands_here box same })
        ],
        in_boxes box,
      );
    }

-- the loop over the keys
module _ (design : DesignModel) (keys : List TurnKey) (order : AreInOrder design keys) where
  number_at : (i : ℕ) (key : TurnKey) → i < length keys → key ≡ get_or keys i key → key.number ≡ get_or (numbers keys) i key.number
  number_at i key within is = ap (λ (k : TurnKey). k.number) is ∙ sym (get_or-map (λ (k : TurnKey). k.number) keys i key)

  pub number_taken : (i : ℕ) (key : TurnKey) → i < length keys → key ≡ get_or keys i key
      → take (i + 1) (numbers keys) ≡ take i (numbers keys) ++ key.number ∷ []
  number_taken i key within is =
      take_more (numbers keys) i key.number (rw length-map within)
      ∙ ap (λ (n : ℕ). take i (numbers keys) ++ n ∷ []) (sym (number_at i key within is))

  pub key_movable : (i : ℕ) (key : TurnKey) → i < length keys → key ≡ get_or keys i key → IsMovable design key.number
  key_movable i key within is = let told : IsTurnKeyOf design (get_or keys i key) = order.each i key within in
      (subst (λ (k : TurnKey). IsTurnKeyOf design k) (sym is) told).movable

  are_movable : (i : ℕ) (key : TurnKey) → i < length keys → key ≡ get_or keys i key → AreMovable design (take i (numbers keys) ++ key.number ∷ [])
  are_movable i key within is =
      let front : AreMovable design (take (i + 1) (numbers keys)) =
      are_movable_front design (i + 1) (numbers keys) (order_movable design (numbers keys) order.order) in
      rw (number_taken i key within is) at front

  pub begin_taking : (free : RowLists) → KnowTaken design design [] free → IsUnderWay design keys 0 [] free
  begin_taking free known = record { can = All-nil (CanTake design); run = none; known = known }

  module _ (i : ℕ) (key : TurnKey) (within : i < length keys) (is : key ≡ get_or keys i key) (taken : List Taken) (free : RowLists)
      (u : IsUnderWay design keys i taken free) where
    pub next_taken : (place : Place) (after : RowLists) → IsPosition place.at → IsSeated design u.known.boxes key.number place after
        → IsUnderWay design keys (i + 1) (taken ++ record { number = key.number; place = place } ∷ []) after
    next_taken place after position s =
        let next : Taken = record { number = key.number; place = place } in
        let now = placed_all design taken in
        let done = take i (numbers keys) in
        let are = are_movable i key within is in
        let m = key_movable i key within is in
        let there = there_now design done now u.run key.number are free u.known place after s in
        let last : placed_all design (taken ++ next ∷ []) ≡ moved_to now key.number s.best.free.stands.component place =
        placed_last design taken next s.best.free.stands.component there in
        record {
          can = All-push (CanTake design) taken next u.can
              (record { number = slice_get_within design.components key.number m.component m.there; place = position });
          run = rw (number_taken i key within is, last) (run_more design done now u.run key.number are free u.known place after s);
          known = rw (number_taken i key within is, last) (known_more design done now u.run key.number are free u.known place after s);
        }

    pub stuck_at : HasNoSeat design u.known.boxes key.number → IsStuckAt design (numbers keys) key.number
    stuck_at none_free = record {
      done = take i (numbers keys);
      rest = drop (i + 1) (numbers keys);
      is =
          sym (take-append-drop (i + 1) (numbers keys))
          ∙ ap (λ (front : List ℕ). front ++ drop (i + 1) (numbers keys)) (number_taken i key within is)
          ∙ append_assoc (take i (numbers keys)) (key.number ∷ []) (drop (i + 1) (numbers keys));
      now = placed_all design taken;
      run = u.run;
      full = full_now design (take i (numbers keys)) (placed_all design taken) u.run key.number (are_movable i key within is) free u.known none_free;
    }

    pub taking_fault_of : {A : Type 0} (fault : LegalFault A) → IsSeatFault design u.known.boxes key.number fault → IsTakingFault design (numbers keys) fault
    taking_fault_of (FixedIllegal faults) f = absurd f
    taking_fault_of (NoSite d) f = absurd f
    taking_fault_of (NoRoom d) f = rw f.0 (stuck_at f.1)
    taking_fault_of Memory f = tt

  pub all_taken : (i : ℕ) (taken : List Taken) (free : RowLists) → length keys ≤ i → IsUnderWay design keys i taken free → AreAllTaken design keys taken
  all_taken i taken free last u = record {
    can = u.can;
    run = let all : take i (numbers keys) ≡ numbers keys = take_all i (numbers keys) (rw length-map last) in rw all at u.run;
  }
