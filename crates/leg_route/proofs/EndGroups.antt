-- Groups of ends: made from a list, told of boxes that come, and brought near, one after another.
use Rattle.std.proofs.Common.{◌≡◌, ◌⊎◌, ◌+◌, ◌<◌, ◌≤◌, ℕ, Bool, List, [], ◌∷◌, ◌++◌, length, get_or, Contains, Some, slice_get, inl, inr, refl, sym, ap, subst, ◌∙◌, arith}
use Rattle.std.proofs.lemmas.Bool.{cases_lt}
use Rattle.std.proofs.lemmas.List.Elements.{Contains-append_left, Contains-push, Contains-push_cases}
use Rattle.std.proofs.lemmas.Option.{same_Some, slice_get_within, slice_get_read}
use Rattle.leg_sweep.proofs.Lists.{Contains-nil}
use Rattle.leg_route_grid.specs.declared.slot.Slot.{Slot}
use Rattle.leg_route_grid.specs.declared.slot_box.SlotBox.{SlotBox}
use Rattle.leg_route_grid.specs.Steps.WalkBounds.{slot_of, IsInBox}
use Rattle.leg_route_grid.specs.Steps.Grid.{GridModel, IsSlot, slot_total}
use Rattle.leg_route_grid.proofs.Bounds.{slot_is}
use Rattle.leg_route.specs.declared.end_slots.EndSlot.{EndSlot}
use Rattle.leg_route.specs.declared.net_ends.EndGroup.{EndGroup}
use Rattle.leg_route.specs.Steps.EndSlots.{IsApart, end_at}
use Rattle.leg_route.specs.Steps.NetEnds.{IsBetween, IsInGroup, IsSlotWithin, IsGroupOf, HasLeast, AreKept, AreGroupsTo, IsGroupFrom, IsEndFrom, HaveComeNear, IsWithin, AreBeyond}

abbrev pub no_end : EndSlot
no_end = record { piece = 0; slot = 0; least = 0 }

abbrev pub no_group : EndGroup
no_group = record {
  first = 0;
  count = 0;
  within = record { low = record { layer = 0; row = 0; column = 0 }; high = record { layer = 0; row = 0; column = 0 } };
  least = 0;
}

-- a slot of the grid that lies in a box
pub slot_in : (grid : GridModel) (ends : SlotBox) (n : ℕ) (s : Slot) → n < slot_total grid → IsSlot grid n s.layer s.row s.column → IsInBox ends s
    → IsSlotWithin grid ends n
slot_in grid ends n s within slot inside =
    let is = slot_is grid n s.layer s.row s.column slot in
    record { within = within; inside = rw (is.layer, is.row, is.column) inside }

-- one end more in a group
module _ (grid : GridModel) (listed : List EndSlot) (group : EndGroup) (k : ℕ) (end : EndSlot) (next : group.first + group.count ≡ k)
    (there : slice_get listed k ≡ Some end) (wide : SlotBox) (least : ℕ) where
  abbrev grown : EndGroup
  grown = record { first = group.first; count = group.count + 1; within = wide; least = least }

  old_or_new : (other : EndSlot) → IsInGroup listed grown other → IsInGroup listed group other ⊎ (end ≡ other)
  old_or_new other is_in =
      let below = is_in.below in
      elim (cases_lt is_in.k (group.first + group.count)) [
        | inl low ↦ inl (record { k = is_in.k; from = is_in.from; below = low; there = is_in.there })
        | inr high ↦
            let same : k ≡ is_in.k = omega (arith, next, below, high) in
            inr (same_Some end other (sym there ∙ rw same is_in.there))
      ]

  pub group_more : IsGroupOf grid listed group → IsSlotWithin grid wide end.slot → ((s : Slot) → IsInBox group.within s → IsInBox wide s)
      → IsGroupOf grid listed grown
  group_more is here still = record {
    room = let low = slice_get_within listed k end there in omega (arith, low, next);
    each = λ other is_in. elim (old_or_new other is_in) [
      | inl old ↦
          let was = is.each other old in
          record { within = was.within; inside = still (slot_of grid other.slot) was.inside }
      | inr same ↦ subst (λ (e : EndSlot). IsSlotWithin grid wide e.slot) same here
    ];
  }

  pub least_more : HasLeast listed group → least ≤ group.least → least ≤ end.least → HasLeast listed grown
  least_more is upto upto_end other is_in = elim (old_or_new other is_in) [
    | inl old ↦ let was = is other old in omega (arith, was, upto)
    | inr same ↦ subst (λ (e : EndSlot). least ≤ e.least) same upto_end
  ]

-- a group of one end
module _ (grid : GridModel) (listed : List EndSlot) (first : ℕ) (end : EndSlot) (there : slice_get listed first ≡ Some end) (ends : SlotBox) where
  abbrev one : EndGroup
  one = record { first = first; count = 1; within = ends; least = end.least }

  only : (other : EndSlot) → IsInGroup listed one other → end ≡ other
  only other is_in =
      let from = is_in.from in
      let below = is_in.below in
      let same : first ≡ is_in.k = omega (arith, from, below) in
      same_Some end other (sym there ∙ rw same is_in.there)

  pub group_one : IsSlotWithin grid ends end.slot → IsGroupOf grid listed one
  group_one here = record {
    room = let low = slice_get_within listed first end there in omega (arith, low);
    each = λ other is_in. subst (λ (e : EndSlot). IsSlotWithin grid ends e.slot) (only other is_in) here;
  }

  pub least_one : HasLeast listed one
  least_one other is_in = subst (λ (e : EndSlot). end.least ≤ e.least) (only other is_in) (omega arith)

-- one group more of a list
pub groups_more : (grid : GridModel) (listed : List EndSlot) (far : List EndGroup) (first count : ℕ) (group : EndGroup) → AreGroupsTo grid listed first far
    → group.first ≡ first → group.count ≡ count → IsGroupOf grid listed group → HasLeast listed group
    → AreGroupsTo grid listed (first + count) (far ++ group ∷ [])
groups_more grid listed far first count group so_far first_is count_is is least = record {
  grouped = λ other has. elim (Contains-push_cases far group other has) [
    | inl old ↦ so_far.grouped other old
    | inr same ↦ subst (λ (g : EndGroup). IsGroupOf grid listed g) same is
  ];
  least = λ other has. elim (Contains-push_cases far group other has) [
    | inl old ↦ so_far.least other old
    | inr same ↦ subst (λ (g : EndGroup). HasLeast listed g) same least
  ];
  all = λ end is_in.
      let below = is_in.below in
      elim (cases_lt is_in.k first) [
        | inl low ↦
            let old = so_far.all end (record { k = is_in.k; from = is_in.from; below = low; there = is_in.there }) in
            record { group = old.group; has = Contains-append_left far (group ∷ []) old.group old.has; is_in = old.is_in }
        | inr high ↦ record {
          group = group;
          has = Contains-push far group;
          is_in = record { k = is_in.k; from = omega (arith, high, first_is); below = omega (arith, below, first_is, count_is); there = is_in.there };
        }
      ];
}

-- all ends are kept in groups, in some order
pub kept_far : (grid : GridModel) (ends listed : List EndSlot) (far : List EndGroup) → ((end : EndSlot) → Contains listed end → Contains ends end)
    → ((end : EndSlot) → Contains ends end → Contains listed end) → AreGroupsTo grid listed (length listed) far
    → AreKept grid ends (record { near = []; listed = listed; far = far })
kept_far grid ends listed far from to are = record {
  near = λ end has. absurd (Contains-nil end has);
  listed = from;
  grouped = are.grouped;
  least = are.least;
  all = λ end has.
      let now = to end has in
      inr (are.all end (record { k = now.0; from = omega arith; below = now.1; there = slice_get_read listed _ now.0 end refl now.1 (sym now.2) }));
}

-- groups that are told of boxes, one after another
module _ (boxes : List SlotBox) (before : List EndGroup) where
  -- those before this place are told
  pub record AreTold (far : List EndGroup) (k : ℕ) : Type 0 where
    pub one_each : length far ≡ length before
    pub done : (j : ℕ) (d : EndGroup) → j < k → IsGroupFrom boxes (get_or before j d) (get_or far j d)
    pub rest : (j : ℕ) (d : EndGroup) → k ≤ j → get_or far j d ≡ get_or before j d

-- the ends of a group come near, one after another
module _ (grid : GridModel) (joined : List Bool) (boxes : List SlotBox) (listed : List EndSlot) where
  module _ (first k : ℕ) (end : EndSlot) (low : first ≤ k) (there : slice_get listed k ≡ Some end) (before after : List EndSlot)
      (so_far : HaveComeNear grid joined boxes (IsBetween listed first k) before after) where
    longer : (other : EndSlot) → IsBetween listed first k other → IsBetween listed first (k + 1) other
    longer other is_in = let below = is_in.below in record { k = is_in.k; from = is_in.from; below = omega (arith, below); there = is_in.there }

    here : IsBetween listed first (k + 1) end
    here = record { k = k; from = low; below = omega arith; there = there }

    before_or_here : (other : EndSlot) → IsBetween listed first (k + 1) other → IsBetween listed first k other ⊎ (end ≡ other)
    before_or_here other is_in =
        let below = is_in.below in
        elim (cases_lt is_in.k k) [
          | inl less ↦ inl (record { k = is_in.k; from = is_in.from; below = less; there = is_in.there })
          | inr high ↦
              let same : k ≡ is_in.k = omega (arith, below, high) in
              inr (same_Some end other (sym there ∙ rw same is_in.there))
        ]

    so_each : (other : EndSlot) → Contains after other → Contains before other ⊎ IsEndFrom grid joined boxes (IsBetween listed first (k + 1)) other
    so_each other has = elim (so_far.each other has) [
      | inl old ↦ inl old
      | inr new ↦ inr (record { old = new.old; from = longer new.old new.from; apart = new.apart; is = new.is })
    ]

    pub come_more : (then : List EndSlot) → then ≡ after ++ end_at grid boxes end.piece end.slot ∷ [] → IsApart joined end.piece
        → HaveComeNear grid joined boxes (IsBetween listed first (k + 1)) before then
    come_more then is apart =
        let new = end_at grid boxes end.piece end.slot in
        rw is
        (record {
          each = λ other has. elim (Contains-push_cases after new other has) [
            | inl old ↦ so_each other old
            | inr same ↦ inr (record { old = end; from = here; apart = apart; is = sym same })
          ];
          still = λ other has. Contains-append_left after (new ∷ []) other (so_far.still other has);
          all = λ other is_in is_apart. elim (before_or_here other is_in) [
            | inl early ↦ Contains-append_left after (new ∷ []) (end_at grid boxes other.piece other.slot) (so_far.all other early is_apart)
            | inr same ↦
                subst (λ (e : EndSlot). Contains (after ++ new ∷ []) (end_at grid boxes e.piece e.slot)) same (Contains-push after new)
          ];
        })

    pub come_skip : (IsApart joined end.piece → ⊥) → HaveComeNear grid joined boxes (IsBetween listed first (k + 1)) before after
    come_skip none = record {
      each = so_each;
      still = so_far.still;
      all = λ other is_in is_apart. elim (before_or_here other is_in) [
        | inl early ↦ so_far.all other early is_apart
        | inr same ↦ absurd (none (subst (λ (e : EndSlot). IsApart joined e.piece) (sym same) is_apart))
      ];
    }

  -- and groups, one after another
  module _ (reach : ℕ) (far : List EndGroup) (group : EndGroup) (before between : List EndSlot)
      (so_far : HaveComeNear grid joined boxes (IsWithin listed far reach) before between) where
    earlier : (end : EndSlot) → IsWithin listed far reach end → IsWithin listed (far ++ group ∷ []) reach end
    earlier end is_in = record {
      group = is_in.group;
      has = Contains-append_left far (group ∷ []) is_in.group is_in.has;
      low = is_in.low;
      is_in = is_in.is_in;
    }

    still_each : (end : EndSlot) → Contains between end → Contains before end ⊎ IsEndFrom grid joined boxes (IsWithin listed (far ++ group ∷ []) reach) end
    still_each end has = elim (so_far.each end has) [
      | inl old ↦ inl old
      | inr new ↦ inr (record { old = new.old; from = earlier new.old new.from; apart = new.apart; is = new.is })
    ]

    -- the group is within reach
    pub within_more : (after : List EndSlot) → group.least ≤ reach → HaveComeNear grid joined boxes (IsInGroup listed group) between after
        → HaveComeNear grid joined boxes (IsWithin listed (far ++ group ∷ []) reach) before after
    within_more after low next = record {
      each = λ end has. elim (next.each end has) [
        | inl old ↦ still_each end old
        | inr new ↦
            inr
            (record {
              old = new.old;
              from = record { group = group; has = Contains-push far group; low = low; is_in = new.from };
              apart = new.apart;
              is = new.is;
            })
      ];
      still = λ end has. next.still end (so_far.still end has);
      all = λ end is_in apart. elim (Contains-push_cases far group is_in.group is_in.has) [
        | inl old ↦
            next.still (end_at grid boxes end.piece end.slot)
            (so_far.all end (record { group = is_in.group; has = old; low = is_in.low; is_in = is_in.is_in }) apart)
        | inr same ↦ next.all end (rw same is_in.is_in) apart
      ];
    }

    -- or not
    pub within_skip : reach < group.least → HaveComeNear grid joined boxes (IsWithin listed (far ++ group ∷ []) reach) before between
    within_skip beyond = record {
      each = still_each;
      still = so_far.still;
      all = λ end is_in apart. elim (Contains-push_cases far group is_in.group is_in.has) [
        | inl old ↦ so_far.all end (record { group = is_in.group; has = old; low = is_in.low; is_in = is_in.is_in }) apart
        | inr same ↦
            let low = is_in.low in
            let least : group.least ≡ is_in.group.least = ap (λ (g : EndGroup). g.least) same in
            absurd (omega (arith, low, beyond, least))
      ];
    }

-- the groups that are left
module _ (reach : ℕ) (far left : List EndGroup) (group : EndGroup) (so_far : AreBeyond reach far left) where
  pub beyond_more : (after : List EndGroup) → after ≡ left ++ group ∷ [] → reach < group.least → AreBeyond reach (far ++ group ∷ []) after
  beyond_more after is beyond =
      rw is (λ other. (
        λ has. elim (Contains-push_cases left group other has) [
          | inl old ↦ let was = (so_far other).0 old in (Contains-append_left far (group ∷ []) other was.0, was.1)
          | inr same ↦
              subst (λ (g : EndGroup). Contains (far ++ group ∷ []) g × (reach < g.least)) same (Contains-push far group, beyond)
        ],
        λ is_one. elim (Contains-push_cases far group other is_one.0) [
          | inl old ↦ Contains-append_left left (group ∷ []) other ((so_far other).1 (old, is_one.1))
          | inr same ↦ subst (λ (g : EndGroup). Contains (left ++ group ∷ []) g) same (Contains-push left group)
        ],
      ))

  pub beyond_skip : group.least ≤ reach → AreBeyond reach (far ++ group ∷ []) left
  beyond_skip low other = (
    λ has. let was = (so_far other).0 has in (Contains-append_left far (group ∷ []) other was.0, was.1),
    λ is_one. elim (Contains-push_cases far group other is_one.0) [
      | inl old ↦ (so_far other).1 (old, is_one.1)
      | inr same ↦
          let beyond = is_one.1 in
          let least : group.least ≡ other.least = ap (λ (g : EndGroup). g.least) same in
          absurd (omega (arith, low, beyond, least))
    ],
  )

-- the least of groups
pub least_next : (far : List EndGroup) (group : EndGroup) (least now : ℕ) → ((other : EndGroup) → Contains far other → least ≤ other.least)
    → now ≤ least → now ≤ group.least → (other : EndGroup) → Contains (far ++ group ∷ []) other → now ≤ other.least
least_next far group least now so_far upto here other has = elim (Contains-push_cases far group other has) [
  | inl old ↦ let was = so_far other old in omega (arith, was, upto)
  | inr same ↦ subst (λ (g : EndGroup). now ≤ g.least) same here
]
