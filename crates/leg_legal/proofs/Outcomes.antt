-- Each design has an outcome.
use Rattle.std.proofs.lemmas.List.{append-nil}
use Rattle.std.proofs.Common.{◌≡◌, ◌⊎◌, ℕ, zero, suc, ◌<◌, List, [], ◌∷◌, ◌++◌, length, Some, slice_get, inl, inr, refl, sym, append_assoc, ◌∙◌, arith, ◌<ℤ◌}
use Rattle.std.proofs.lemmas.Bool.{cases_lt}
use Rattle.std.proofs.lemmas.Int.{ints, by_lt_z}
use Rattle.std.proofs.lemmas.List.Elements.{All-head, All-contains, Contains-append_right}
use Rattle.std.proofs.lemmas.Option.{slice_get_within}
use Rattle.leg_lemmas.proofs.Places.{all_at}
use Rattle.leg_lemmas.proofs.Contents.{Contains-nil, Contains-here}
use Rattle.leg_lib_records.specs.Measure.{IsExtent, HasArea}
use Rattle.leg_lib_records.specs.Records.{MasterModel}
use Rattle.leg_lib_records.specs.Sound.{IsSound}
use Rattle.leg_design_records.specs.Records.{DesignModel}
use Rattle.leg_design_records.specs.WellFormed.{IsWellFormed}
use Rattle.leg_design_records.specs.Violation.{IsListOf}
use Rattle.leg_design_records.specs.declared.fault.Fault.{Fault}
use Rattle.leg_rules.specs.Placement.Violations.{IsPlacementViolation, IsLegallyPlaced}
use Rattle.leg_legal.specs.declared.fault.LegalFault.TheVariants.{FixedIllegal, NoSite, NoRoom}
use Rattle.leg_design_records.specs.Movable.{IsMovable}
use Rattle.leg_rules.specs.Legalise.Start.{start_of}
use Rattle.leg_rules.specs.Legalise.Turns.{Turn, IsEarlier, HasTurn, IsTakenBefore, IsOrderOfTaking}
use Rattle.leg_rules.specs.Legalise.Run.{moved_to, LegaliseRun}
use Rattle.leg_rules.specs.Legalise.Run.LegaliseRun.{none, one}
use Rattle.leg_rules.specs.Legalise.Refusals.{IsStayingViolation, NoneStaying, IsUnsuited, IsLeastUnsuited, AreSuited}
use Rattle.leg_legal.specs.FreePlaces.{HasMacroSizes}
use Rattle.leg_legal.specs.Outcome.{HasOutcome}
use Rattle.leg_legal.specs.Steps.Boxes.{IsStuckAt}
use Rattle.leg_legal.proofs.OnRow.{HasSoundRows}
use Rattle.leg_design_records.proofs.MovableOrNot.{movable_or_not}
use Rattle.leg_legal.proofs.Misfits.{told, numbered}
use Rattle.leg_legal.proofs.RunSoFar.{AreMovable, IsSoFar, so_far}
use Rattle.leg_legal.proofs.TheOrder.{taken_before_trans, order_movable}
use Rattle.leg_legal.proofs.TheRun.{run_legal}
use Rattle.leg_legal.proofs.FreePlaces.{front_movable, rows_now, sizes_now}
use Rattle.leg_legal.proofs.Decisions.{HoldsOrNot, least_below}
use Rattle.leg_legal.proofs.Listings.{HasListing, listing_of_none, listing_same, listing_with}
use Rattle.leg_legal.proofs.RowTests.{row_for_or_not}
use Rattle.leg_legal.proofs.FaultTests.{holds_or_not, of_staying_or_not}
use Rattle.leg_legal.proofs.FaultLists.{list_of}
use Rattle.leg_legal.proofs.BestFree.{takes_or_full}

-- of two turns of different components one is earlier
earlier_or : (a b : Turn) → (a.number ≡ b.number → ⊥) → IsEarlier a b ⊎ IsEarlier b a
earlier_or a b apart =
    by_lt_z b.width a.width
    (λ wider. inl (first_wider a b wider))
    (λ upto. by_lt_z a.width b.width
    (λ narrower. inr (first_wider b a narrower))
    (λ as_wide.
    let wide : a.width ≡ b.width = omega (arith, ints, upto, as_wide) in
    by_lt_z a.x b.x
    (λ left. inl (first_left a b wide left))
    (λ from. by_lt_z b.x a.x
    (λ right. inr (first_left b a (sym wide) right))
    (λ both.
    let here : a.x ≡ b.x = omega (arith, ints, from, both) in
    elim (cases_lt a.number b.number) [
      | inl below ↦ inl (first_number a b wide here below)
      | inr above ↦ inr (first_number b a (sym wide) (sym here) (omega (arith, above, apart)))
    ])))) where
      first_wider : (a b : Turn) → b.width <ℤ a.width → IsEarlier a b
      first_wider a b wider = record {
        width = omega (arith, ints, wider);
        x = λ same. absurd (omega (arith, ints, wider, same));
        number = λ same alike. absurd (omega (arith, ints, wider, same));
      }

      first_left : (a b : Turn) → a.width ≡ b.width → a.x <ℤ b.x → IsEarlier a b
      first_left a b wide left = record {
        width = omega (arith, ints, wide);
        x = λ same. omega (arith, ints, left);
        number = λ same alike. absurd (omega (arith, ints, left, alike));
      }

      first_number : (a b : Turn) → a.width ≡ b.width → a.x ≡ b.x → a.number < b.number → IsEarlier a b
      first_number a b wide here below = record {
        width = omega (arith, ints, wide);
        x = λ same. omega (arith, ints, here);
        number = λ same alike. below;
      }

module _ (design : DesignModel) where
  abbrev turn_of : (c : ℕ) → IsMovable design c → Turn
  turn_of c m = record { width = m.master.size.width; x = (start_of design.die m.component.place).x; number = c }

  -- of two movable components one is taken before the other
  taken_before_or : (c d : ℕ) → IsMovable design c → IsMovable design d → (c ≡ d → ⊥) → IsTakenBefore design c d ⊎ IsTakenBefore design d c
  taken_before_or c d m n apart =
      elim (earlier_or (turn_of c m) (turn_of d n) apart) [
        | inl first ↦ inl (record { turn_c = turn_of c m; turn_d = turn_of d n; has_c = has_turn c m; has_d = has_turn d n; earlier = first })
        | inr second ↦ inr (record { turn_c = turn_of d n; turn_d = turn_of c m; has_c = has_turn d n; has_d = has_turn c m; earlier = second })
      ] where
        has_turn : (c : ℕ) (m : IsMovable design c) → HasTurn design c (turn_of c m)
        has_turn c m = record { component = m.component; there = m.there; master = m.master; is_master = m.is_master; is = refl }

  -- the movable components of numbers below the end
  record IsMovableBelow (end c : ℕ) : Type 0 where
    below : c < end
    movable : IsMovable design c

  order_below : (end : ℕ) → HasListing (IsTakenBefore design) (IsMovableBelow end)
  order_below zero = listing_of_none (IsTakenBefore design) (IsMovableBelow zero) (λ c is. let below = is.below in omega arith)
  order_below (suc end) =
      elim (movable_or_not design end) [
        | inr stays ↦
            listing_same (IsTakenBefore design) (IsMovableBelow end) (IsMovableBelow (suc end))
            (λ c is. up end c is)
            (λ c is. record {
              below = elim (cases_lt c end) [
                | inl earlier ↦ earlier
                | inr late ↦ let same : c ≡ end = (let below = is.below in omega arith) in absurd (stays (rw same at is.movable))
              ];
              movable = is.movable;
            })
            (order_below end)
        | inl movable ↦
            listing_with (IsTakenBefore design) (taken_before_trans design) end (IsMovableBelow (suc end)) (IsMovableBelow end)
            (record { below = omega arith; movable = movable })
            (λ c is. up end c is)
            (λ c is. elim (cases_lt c end) [
              | inl earlier ↦ inr (record { below = earlier; movable = is.movable })
              | inr late ↦ inl (let below = is.below in omega arith)
            ])
            (λ c is. taken_before_or end c movable is.movable (λ same. let below = is.below in omega arith))
            (order_below end)
      ] where
        up : (end c : ℕ) → IsMovableBelow end c → IsMovableBelow (suc end) c
        up end c is = record { below = (let below = is.below in omega arith); movable = is.movable }

  -- there is an order in which they are taken
  order_is : (order : List ℕ) × IsOrderOfTaking design order
  order_is =
      let found = order_below (length design.components) in (
        found.0,
        record {
          in_order = found.1.rising;
          each = λ k d within. (found.1.each k d within).movable;
          all = λ c m. found.1.all c (record { below = slice_get_within design.components c m.component m.there; movable = m });
        },
      )

-- the components take their places one after the other, up to one for which none is free
module _ (before : DesignModel) (proper : IsWellFormed before) (sound : IsSound before.library) (sized : HasMacroSizes before.library)
    (order : List ℕ) (is_order : IsOrderOfTaking before order) where
  run_on : (done rest : List ℕ) (now : DesignModel) → order ≡ done ++ rest → LegaliseRun before done now
      → ((after : DesignModel) × LegaliseRun before order after) ⊎ ((c : ℕ) × IsStuckAt before order c)
  run_on done [] now is run = inl (now, (let all : order ≡ done = is ∙ append-nil done in rw all run))
  run_on done (c ∷ rest) now is run =
      let are : AreMovable before (done ++ c ∷ rest) = rw is at (order_movable before order is_order) in
      let so : IsSoFar before done now = so_far before done now run (front_movable before done (c ∷ rest) are) in
      let movable : IsMovable now c = so.movable c (movable_at done c rest are) in
      elim (takes_or_full now (rows_now before proper sound sized done now so) (sizes_now before proper sound sized done now so) done c movable) [
        | inr full ↦ inr (c, record { done = done; rest = rest; is = is; now = now; run = run; full = full })
        | inl (place, takes) ↦
            run_on (done ++ c ∷ []) rest (moved_to now c movable.component place) (is ∙ sym (append_assoc done (c ∷ []) rest)) (one run movable.there takes)
      ] where
        movable_at : (done : List ℕ) (c : ℕ) (rest : List ℕ) → AreMovable before (done ++ c ∷ rest) → IsMovable before c
        movable_at done c rest are =
            All-contains (IsMovable before) (done ++ c ∷ rest) c are.each (Contains-append_right done (c ∷ rest) c (Contains-here c rest))

module _ (design : DesignModel) (proper : IsWellFormed design) (sound : IsSound design.library) (sized : HasMacroSizes design.library) where
  rows : HasSoundRows design
  rows = record { sites = sound.sites; rows = proper.rows }

  macro_area : (m : ℕ) (master : MasterModel) → slice_get design.library.masters m ≡ Some master → HasArea master.size
  macro_area m master is = (all_at (λ (x : MasterModel). IsExtent x.size) design.library.masters m master sized is).area

  -- a component is unsuited or not
  unsuited_or_not : (c : ℕ) → HoldsOrNot (IsUnsuited design c)
  unsuited_or_not c =
      elim (movable_or_not design c) [
        | inr stays ↦ inr (λ u. stays u.movable)
        | inl m ↦ elim (row_for_or_not design rows m.master.size (macro_area m.component.master m.master m.is_master) m.number) [
          | inr never ↦ inl (record { movable = m; misfit = never })
          | inl h ↦ inr (λ u.
              let alike : u.movable.master ≡ m.master = told design c m.component m.master m.number m.there m.is_master m.site u.movable in
              let same : u.movable.number ≡ m.number = numbered design c m.component m.master m.number m.there m.is_master m.site u.movable in
              u.misfit (rw (alike, same) h))
        ]
      ]

  suited_or_least : AreSuited design ⊎ ((c : ℕ) × IsLeastUnsuited design c)
  suited_or_least =
      elim (least_below (IsUnsuited design) unsuited_or_not (length design.components)) [
        | inr all ↦ inl (λ c u. all c (slice_get_within design.components c u.movable.component u.movable.there) u)
        | inl (c, is) ↦ inr (
          c,
          record {
            unsuited = is.holds;
            least = λ d u. elim (cases_lt d c) [
              | inl earlier ↦ absurd (is.least d earlier u)
              | inr upto ↦ upto
            ];
          },
        )
      ]

  legal_from_none : (faults : List Fault) → IsListOf (IsPlacementViolation design) faults → HoldsOrNot (IsLegallyPlaced design)
  legal_from_none [] list = inl (λ fault holds. Contains-nil fault (list.all fault holds))
  legal_from_none (fault ∷ faults) list = inr (λ legal. legal fault (All-head (IsPlacementViolation design) fault faults list.each))

  legal_or_not : HoldsOrNot (IsLegallyPlaced design)
  legal_or_not =
      let found = list_of design (IsPlacementViolation design) (λ fault h. h) (holds_or_not design rows) in
      legal_from_none found.0 found.1

  module _ {A : Type 0} where
    module _ (illegal : IsLegallyPlaced design → ⊥) (staying : NoneStaying design) where
      by_run : (order : List ℕ) → IsOrderOfTaking design order → AreSuited design
          → ((after : DesignModel) × LegaliseRun design order after) ⊎ ((c : ℕ) × IsStuckAt design order c) → HasOutcome A design
      by_run order is_order suited (inl (after, run)) = inl (record {
        after = after;
        legal = run_legal design after order is_order run rows staying;
        legalised = inr (illegal, record { order = order; is_order = is_order; run = run });
      })
      by_run order is_order suited (inr (c, stuck)) = inr (record {
        fault = NoRoom c;
        no_memory = λ same. cc;
        refusal = (
          staying,
          suited,
          record {
            illegal = illegal;
            done = stuck.done;
            rest = stuck.rest;
            is_order = rw stuck.is at is_order;
            now = stuck.now;
            run = stuck.run;
            full = stuck.full;
          },
        );
      })

      by_suited : AreSuited design ⊎ ((c : ℕ) × IsLeastUnsuited design c) → HasOutcome A design
      by_suited (inr (c, least)) = inr (record { fault = NoSite c; no_memory = λ same. cc; refusal = (illegal, staying, least) })
      by_suited (inl suited) =
          let order = order_is design in
          by_run order.0 order.1 suited (run_on design proper sound sized order.0 order.1 [] order.0 design refl none)

    by_staying : (IsLegallyPlaced design → ⊥) → (faults : List Fault) → IsListOf (IsStayingViolation design) faults → HasOutcome A design
    by_staying illegal [] list = by_suited illegal (λ fault h. Contains-nil fault (list.all fault h)) suited_or_least
    by_staying illegal (fault ∷ faults) list = inr (record {
      fault = FixedIllegal (fault ∷ faults);
      no_memory = λ same. cc;
      refusal = (list, λ same. cc);
    })

    -- a design has an outcome
    pub outcome : HasOutcome A design
    outcome =
        elim legal_or_not [
          | inl legal ↦ inl (record { after = design; legal = legal; legalised = inl (legal, refl) })
          | inr illegal ↦
              let found = list_of design (IsStayingViolation design) (λ fault h. h.holds) (of_staying_or_not design rows) in
              by_staying illegal found.0 found.1
        ]
