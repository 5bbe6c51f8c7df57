-- What is kept of the ends of a net: for other reasons, when more is known, when boxes come, and when groups come near.
use Rattle.std.proofs.Common.{◌≡◌, ◌↔◌, ◌<◌, ◌≤◌, ℕ, Bool, false, List, ◌++◌, length, min, get_or, All, Contains, inl, inr, sym, ap, subst, ◌∙◌, arith}
use Rattle.std.proofs.Math.Nat.{min-le_right}
use Rattle.std.proofs.lemmas.Bool.{cases_lt}
use Rattle.std.proofs.lemmas.List.{get_or_read}
use Rattle.std.proofs.lemmas.List.Elements.{Contains-get_or}
use Rattle.std.proofs.lemmas.Option.{slice_get_within}
use Rattle.leg_sweep.proofs.Lists.{All-from_contains}
use Rattle.leg_rules.specs.declared.node.Node.{Node}
use Rattle.leg_rules.specs.Metal.Flat.{FlatModel}
use Rattle.leg_rules.specs.Joins.Touch.{piece_count, AreJoined}
use Rattle.leg_wire.specs.PieceMarks.{AreMarks}
use Rattle.leg_wire.specs.Steps.NumberSets.{AreTogether}
use Rattle.leg_route_grid.specs.declared.slot_box.SlotBox.{SlotBox}
use Rattle.leg_route_grid.specs.Steps.WalkBounds.{bound_at, slot_of}
use Rattle.leg_route_grid.specs.Steps.Grid.{GridModel, IsDesignGrid, slot_total}
use Rattle.leg_route_grid.proofs.Bounds.{min_least}
use Rattle.leg_lemmas.proofs.Places.{contains_at}
use Rattle.leg_route.specs.declared.end_slots.EndSlot.{EndSlot}
use Rattle.leg_route.specs.declared.net_ends.EndGroup.{EndGroup}
use Rattle.leg_route.specs.Steps.EndSlots.{IsApart, IsOpenSlot, IsBoundFrom, IsFarSlot, IsEndSlot, AreEndSlots, AreSameEnds, end_at, end_from, AreEndsLeft}
use Rattle.leg_route.specs.Steps.NetEnds.{EndsModel, IsInGroup, AreGroups, HasEnd, IsFarEnd, AreNetEnds, AreKept, IsGroupFrom, AreGroupsFrom, IsEndFrom, IsWithin, HaveGrownNear}
use Rattle.leg_route.proofs.EndSlots.{apart_too}
use Rattle.leg_route.proofs.FarSlots.{far_by_boxes, far_joined, far_fewer}
use Rattle.leg_route.proofs.JoinedSlots.{one_as}

-- the same ends for other reasons
pub net_ends_as : (grid : GridModel) (flat flat2 : FlatModel) (net : ℕ) (joined : List Bool) (Meets Meets2 : ℕ → Node → Type 0) (Far Far2 : ℕ → ℕ → Type 0)
    (ends : EndsModel)
    → ((piece : ℕ) (node : Node) → piece < length joined → Meets piece node ↔ Meets2 piece node)
    → ((steps n : ℕ) → Far steps n → Far2 steps n) → ((n : ℕ) → IsOpenSlot grid flat2 net n → IsOpenSlot grid flat net n)
    → ((a b : ℕ) → AreJoined flat net a b → AreJoined flat2 net a b) → AreNetEnds grid flat net joined Meets Far ends
    → AreNetEnds grid flat2 net joined Meets2 Far2 ends
net_ends_as grid flat flat2 net joined Meets Meets2 Far Far2 ends meets far opens joins are = record {
  near = λ end has.
      let is = are.near end has in
      let low = slice_get_within joined end.piece false is.apart in
      record {
        apart = is.apart;
        meets = one_as grid (Meets end.piece) (Meets2 end.piece) (λ node holds. (meets end.piece node low).0 holds) end.slot is.meets;
        within = is.within;
        least = far end.least end.slot is.least;
      };
  grouped = are.grouped;
  far = λ group end has is_in.
      let is = are.far group end has is_in in
      record {
        marked = is.marked;
        meets = one_as grid (Meets end.piece) (Meets2 end.piece) (λ node holds. (meets end.piece node is.marked).0 holds) end.slot is.meets;
        far = far group.least end.slot is.far;
      };
  all = λ piece n apart one is_open.
      let low = slice_get_within joined piece false apart in
      let old = are.all piece n apart (one_as grid (Meets2 piece) (Meets piece) (λ node holds. (meets piece node low).1 holds) n one) (opens n is_open) in
      record { end = old.end; is = old.is; joined = joins old.end.piece piece old.joined; of_slot = old.of_slot };
}

-- the near ends are of slots of the grid, and no nearer than is noted
pub near_ends_within : (grid : GridModel) (flat : FlatModel) (net : ℕ) (joined : List Bool) (Meets : ℕ → Node → Type 0) (Far : ℕ → ℕ → Type 0)
    (ends : EndsModel) → AreNetEnds grid flat net joined Meets Far ends → All (λ (end : EndSlot). end.slot < slot_total grid) ends.near
near_ends_within grid flat net joined Meets Far ends are =
    All-from_contains (λ (end : EndSlot). end.slot < slot_total grid) ends.near (λ end has. (are.near end has).within)

pub near_ends_far : (grid : GridModel) (flat : FlatModel) (net : ℕ) (joined : List Bool) (Meets : ℕ → Node → Type 0) (Far : ℕ → ℕ → Type 0)
    (ends : EndsModel) → AreNetEnds grid flat net joined Meets Far ends → All (λ (end : EndSlot). Far end.least end.slot) ends.near
near_ends_far grid flat net joined Meets Far ends are =
    All-from_contains (λ (end : EndSlot). Far end.least end.slot) ends.near (λ end has. (are.near end has).least)

-- where all ends of a list are kept, which were so far by their boxes
pub ends_kept_all : (grid : GridModel) (flat : FlatModel) (net : ℕ) (joined : List Bool) (Meets : ℕ → Node → Type 0) (Open : ℕ → Type 0)
    (boxes : List SlotBox) (firsts : List ℕ) (ends : List EndSlot) (kept : EndsModel) → IsDesignGrid grid
    → ((n : ℕ) → IsOpenSlot grid flat net n → Open n) → ((a b : ℕ) → AreTogether firsts a b → AreJoined flat net a b)
    → AreEndSlots grid (IsApart joined) Meets Open (IsBoundFrom grid boxes) firsts ends → AreKept grid ends kept
    → AreNetEnds grid flat net joined Meets (IsFarSlot grid flat net boxes) kept
ends_kept_all grid flat net joined Meets Open boxes firsts ends kept is_grid opens joins are had = record {
  near = λ end has.
      let is = are.each end (had.near end has) in
      record { apart = is.apart; meets = is.meets; within = is.within; least = far_by_boxes grid flat net is_grid boxes end.least end.slot is.least };
  grouped = had.grouped;
  far = λ group end has is_in.
      let is = are.each end (had.listed end (contains_at kept.listed is_in.k end is_in.there)) in
      record {
        marked = slice_get_within joined end.piece false is.apart;
        meets = is.meets;
        far = far_fewer grid flat net boxes end.least group.least end.slot (had.least group has end is_in)
            (far_by_boxes grid flat net is_grid boxes end.least end.slot is.least);
      };
  all = λ piece n apart one is_open.
      let old = are.all piece n apart one (opens n is_open) in
      record { end = old.end; is = had.all old.end old.has; joined = joins old.end.piece piece old.together; of_slot = old.of_slot };
}

-- another end in the piece, of the slot
like_end : (grid : GridModel) (joined : List Bool) (Meets : ℕ → Node → Type 0) (Far : ℕ → ℕ → Type 0) (old end : EndSlot) → end.piece ≡ old.piece
    → end.slot ≡ old.slot → Far end.least end.slot → IsEndSlot grid (IsApart joined) Meets Far old → IsEndSlot grid (IsApart joined) Meets Far end
like_end grid joined Meets Far old end piece slot far is = record {
  apart = rw piece is.apart;
  meets = rw (piece, slot) is.meets;
  within = rw slot is.within;
  least = far;
}

-- the same ends, of which other numbers of steps are known
module _ (near after : List EndSlot) (same : AreSameEnds near after) where
  none : EndSlot
  none = record { piece = 0; slot = 0; least = 0 }

  -- the end that stood at the place of this one
  record WasEnd (end : EndSlot) : Type 0 where
    pub old : EndSlot
    pub has : Contains near old
    pub piece : end.piece ≡ old.piece
    pub slot : end.slot ≡ old.slot

  was_end : (end : EndSlot) → Contains after end → WasEnd end
  was_end end has =
      let k = has.0 in
      let low : k < length near = omega (arith, has.1, same.one_each) in
      let is_after : get_or after k none ≡ end = sym (get_or_read after k end has.1 (sym has.2) none) in
      record {
        old = get_or near k none;
        has = Contains-get_or near k none low;
        piece = sym (ap (λ (e : EndSlot). e.piece) is_after) ∙ same.piece k none low;
        slot = sym (ap (λ (e : EndSlot). e.slot) is_after) ∙ same.slot k none low;
      }

  -- and the one that stands there now
  record IsEndNow (old : EndSlot) : Type 0 where
    pub end : EndSlot
    pub has : Contains after end
    pub piece : end.piece ≡ old.piece
    pub slot : end.slot ≡ old.slot

  end_now : (old : EndSlot) → Contains near old → IsEndNow old
  end_now old has =
      let k = has.0 in
      let is_old : get_or near k none ≡ old = sym (get_or_read near k old has.1 (sym has.2) none) in
      record {
        end = get_or after k none;
        has = Contains-get_or after k none (omega (arith, has.1, same.one_each));
        piece = same.piece k none has.1 ∙ ap (λ (e : EndSlot). e.piece) is_old;
        slot = same.slot k none has.1 ∙ ap (λ (e : EndSlot). e.slot) is_old;
      }

  pub near_again : (grid : GridModel) (flat : FlatModel) (net : ℕ) (joined : List Bool) (Meets : ℕ → Node → Type 0) (Far : ℕ → ℕ → Type 0)
      (listed : List EndSlot) (far : List EndGroup) → ((end : EndSlot) → Contains after end → Far end.least end.slot)
      → AreNetEnds grid flat net joined Meets Far (record { near = near; listed = listed; far = far })
      → AreNetEnds grid flat net joined Meets Far (record { near = after; listed = listed; far = far })
  near_again grid flat net joined Meets Far listed far known are = record {
    near = λ end has.
        let was = was_end end has in
        like_end grid joined Meets Far was.old end was.piece was.slot (known end has) (are.near was.old was.has);
    grouped = are.grouped;
    far = are.far;
    all = λ piece n apart one is_open.
        let old = are.all piece n apart one is_open in
        elim old.is [
          | inl has ↦
              let now = end_now old.end has in
              record { end = now.end; is = inl now.has; joined = rw now.piece old.joined; of_slot = now.slot ∙ old.of_slot }
          | inr is ↦ record { end = old.end; is = inr is; joined = old.joined; of_slot = old.of_slot }
        ];
  }

-- the same groups, to which boxes have come
module _ (boxes : List SlotBox) (before after : List EndGroup) (are : AreGroupsFrom boxes before after) where
  no_group : EndGroup
  no_group = record {
    first = 0;
    count = 0;
    within = record { low = record { layer = 0; row = 0; column = 0 }; high = record { layer = 0; row = 0; column = 0 } };
    least = 0;
  }

  -- the group that stood at the place of this one
  pub record WasGroup (group : EndGroup) : Type 0 where
    pub old : EndGroup
    pub has : Contains before old
    pub from : IsGroupFrom boxes old group

  pub was_group : (group : EndGroup) → Contains after group → WasGroup group
  was_group group has =
      let k = has.0 in
      let low : k < length before = omega (arith, has.1, are.one_each) in
      let is_after : get_or after k no_group ≡ group = sym (get_or_read after k group has.1 (sym has.2) no_group) in
      record {
        old = get_or before k no_group;
        has = Contains-get_or before k no_group low;
        from = subst (λ (g : EndGroup). IsGroupFrom boxes (get_or before k no_group) g) is_after (are.each k no_group low);
      }

  -- and the one that stands there now
  pub record IsGroupNow (old : EndGroup) : Type 0 where
    pub group : EndGroup
    pub has : Contains after group
    pub from : IsGroupFrom boxes old group

  pub group_now : (old : EndGroup) → Contains before old → IsGroupNow old
  group_now old has =
      let k = has.0 in
      let is_old : get_or before k no_group ≡ old = sym (get_or_read before k old has.1 (sym has.2) no_group) in
      record {
        group = get_or after k no_group;
        has = Contains-get_or after k no_group (omega (arith, has.1, are.one_each));
        from = subst (λ (g : EndGroup). IsGroupFrom boxes g (get_or after k no_group)) is_old (are.each k no_group has.1);
      }

-- its ends are the same
in_old : (boxes : List SlotBox) (listed : List EndSlot) (old group : EndGroup) (end : EndSlot) → IsGroupFrom boxes old group → IsInGroup listed group end
    → IsInGroup listed old end
in_old boxes listed old group end from is_in =
    let first = from.first in
    let count = from.count in
    let low = is_in.from in
    let below = is_in.below in
    record { k = is_in.k; from = omega (arith, first, low); below = omega (arith, first, count, below); there = is_in.there }

in_new : (boxes : List SlotBox) (listed : List EndSlot) (old group : EndGroup) (end : EndSlot) → IsGroupFrom boxes old group → IsInGroup listed old end
    → IsInGroup listed group end
in_new boxes listed old group end from is_in =
    let first = from.first in
    let count = from.count in
    let low = is_in.from in
    let below = is_in.below in
    record { k = is_in.k; from = omega (arith, first, low); below = omega (arith, first, count, below); there = is_in.there }

-- boxes have come to those of the joined part
module _ (grid : GridModel) (flat : FlatModel) (net : ℕ) (is_grid : IsDesignGrid grid) (before joined : List Bool) (Meets : ℕ → Node → Type 0)
    (old come : List SlotBox) (ends : EndsModel) (left : List EndSlot) (far : List EndGroup)
    (marks : AreMarks (AreJoined flat net 0) (piece_count flat net) joined)
    (was : (piece : ℕ) → IsApart joined piece → IsApart before piece) (long : length before ≤ length joined)
    (had : AreNetEnds grid flat net before Meets (IsFarSlot grid flat net old) ends) (near_are : AreEndsLeft grid joined come ends.near left)
    (groups_are : AreGroupsFrom come ends.far far) where
  near_left : (end : EndSlot) → Contains left end → IsEndSlot grid (IsApart joined) Meets (IsFarSlot grid flat net (old ++ come)) end
  near_left end has =
      let from = near_are.each end has in
      let b = from.0 in
      let one = had.near b from.1 in
      let then : IsEndSlot grid (IsApart joined) Meets (IsFarSlot grid flat net (old ++ come)) (end_from grid come b) = record {
        apart = from.2;
        meets = one.meets;
        within = one.within;
        least = far_joined grid flat net is_grid old come b.least b.slot one.least;
      } in
      subst (λ (e : EndSlot). IsEndSlot grid (IsApart joined) Meets (IsFarSlot grid flat net (old ++ come)) e) (sym from.3) then

  still_grouped : AreGroups grid ends.listed far
  still_grouped group has =
      let then = was_group come ends.far far groups_are group has in
      let is = had.grouped then.old then.has in
      let room = is.room in
      let first = then.from.first in
      let count = then.from.count in
      record {
        room = omega (arith, room, first, count);
        each = λ end is_in.
            rw then.from.within (is.each end (in_old come ends.listed then.old group end then.from is_in));
      }

  far_left : (group : EndGroup) (end : EndSlot) → Contains far group → IsInGroup ends.listed group end
      → IsFarEnd grid joined Meets (IsFarSlot grid flat net (old ++ come)) group.least end
  far_left group end has is_in =
      let then = was_group come ends.far far groups_are group has in
      let in_group = in_old come ends.listed then.old group end then.from is_in in
      let is = had.far then.old end then.has in_group in
      let inside = ((had.grouped then.old then.has).each end in_group).inside in
      let marked = is.marked in
      let upto : group.least ≤ min then.old.least (bound_at grid come end.slot) =
      min_least group.least then.old.least (bound_at grid come end.slot) then.from.least (then.from.near (slot_of grid end.slot) inside) in
      record {
        marked = omega (arith, marked, long);
        meets = is.meets;
        far = far_fewer grid flat net (old ++ come) (min then.old.least (bound_at grid come end.slot)) group.least end.slot upto
            (far_joined grid flat net is_grid old come then.old.least end.slot is.far);
      }

  pub ends_grown : (boxes : List SlotBox) → boxes ≡ old ++ come
      → AreNetEnds grid flat net joined Meets (IsFarSlot grid flat net boxes) (record { near = left; listed = ends.listed; far = far })
  ends_grown boxes are =
      rw are
      (record {
        near = near_left;
        grouped = still_grouped;
        far = far_left;
        all = λ piece n apart one is_open.
            let one_old = had.all piece n (was piece apart) one is_open in
            elim one_old.is [
              | inl has ↦
                  let marked = slice_get_within before one_old.end.piece false (had.near one_old.end has).apart in
                  let end_apart =
                  apart_too flat net joined marks one_old.end.piece piece one_old.joined (omega (arith, marked, long)) apart in
                  record {
                    end = end_from grid come one_old.end;
                    is = inl (near_are.all one_old.end has end_apart);
                    joined = one_old.joined;
                    of_slot = one_old.of_slot;
                  }
              | inr far_old ↦
                  let then = group_now come ends.far far groups_are far_old.group far_old.has in
                  let is_in = in_new come ends.listed far_old.group then.group one_old.end then.from far_old.is_in in
                  record {
                    end = one_old.end;
                    is = inr (record { group = then.group; has = then.has; is_in = is_in });
                    joined = one_old.joined;
                    of_slot = one_old.of_slot;
                  }
            ];
      })

-- groups have come near
module _ (grid : GridModel) (flat : FlatModel) (net : ℕ) (is_grid : IsDesignGrid grid) (joined : List Bool)
    (marks : AreMarks (AreJoined flat net 0) (piece_count flat net) joined) (Meets : ℕ → Node → Type 0) (boxes : List SlotBox) (reach : ℕ)
    (before after : EndsModel) (grown : HaveGrownNear grid joined boxes reach before after)
    (are : AreNetEnds grid flat net joined Meets (IsFarSlot grid flat net boxes) before) where
  come_near : (end : EndSlot) → IsEndFrom grid joined boxes (IsWithin before.listed before.far reach) end
      → IsEndSlot grid (IsApart joined) Meets (IsFarSlot grid flat net boxes) end
  come_near end new =
      let old = new.old in
      let from = new.from in
      let is = are.far from.group old from.has from.is_in in
      let slot = (are.grouped from.group from.has).each old from.is_in in
      let then : IsEndSlot grid (IsApart joined) Meets (IsFarSlot grid flat net boxes) (end_at grid boxes old.piece old.slot) = record {
        apart = new.apart;
        meets = is.meets;
        within = slot.within;
        least = far_by_boxes grid flat net is_grid boxes (min 4294967295 (bound_at grid boxes old.slot)) old.slot
            (min-le_right 4294967295 (bound_at grid boxes old.slot));
      } in
      subst (λ (e : EndSlot). IsEndSlot grid (IsApart joined) Meets (IsFarSlot grid flat net boxes) e) (sym new.is) then

  had_group : (group : EndGroup) → Contains after.far group → Contains before.far group
  had_group group has = ((grown.far group).0 has).0

  now_there : (piece n : ℕ) → IsApart joined piece → HasEnd flat net before piece n → HasEnd flat net after piece n
  now_there piece n apart old = elim old.is [
    | inl has ↦ record { end = old.end; is = inl (grown.near.still old.end has); joined = old.joined; of_slot = old.of_slot }
    | inr far_old ↦ elim (cases_lt reach far_old.group.least) [
      | inl beyond ↦ record {
        end = old.end;
        is = inr (record {
          group = far_old.group;
          has = (grown.far far_old.group).1 (far_old.has, beyond);
          is_in = rw grown.listed far_old.is_in;
        });
        joined = old.joined;
        of_slot = old.of_slot;
      }
      | inr low ↦
          let marked = (are.far far_old.group old.end far_old.has far_old.is_in).marked in
          let end_apart = apart_too flat net joined marks old.end.piece piece old.joined marked apart in
          record {
            end = end_at grid boxes old.end.piece old.end.slot;
            is = inl (grown.near.all old.end (record { group = far_old.group; has = far_old.has; low = low; is_in = far_old.is_in }) end_apart);
            joined = old.joined;
            of_slot = old.of_slot;
          }
    ]
  ]

  pub ends_near : AreNetEnds grid flat net joined Meets (IsFarSlot grid flat net boxes) after
  ends_near = record {
    near = λ end has. elim (grown.near.each end has) [ inl old ↦ are.near end old | inr new ↦ come_near end new ];
    grouped = rw grown.listed (λ group has. are.grouped group (had_group group has));
    far = rw grown.listed (λ group end has is_in. are.far group end (had_group group has) is_in);
    all = λ piece n apart one is_open. now_there piece n apart (are.all piece n apart one is_open);
  }
