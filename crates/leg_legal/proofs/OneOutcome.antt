-- A design is legalised in one way or refused for one cause, and not both.
use Rattle.std.proofs.Common.{◌≡◌, ◌≢◌, ℕ, ◌<◌, ℤ, pos, List, [], ◌∷◌, ◌++◌, length, get_or, Some, slice_get, All, Contains, inl, inr, refl, sym, ap, subst, ◌∙◌, arith}
use Rattle.std.proofs.lemmas.List.{same_lists}
use Rattle.std.proofs.lemmas.List.Elements.{All-head, All-tail, Contains-push_cases}
use Rattle.std.proofs.lemmas.Option.{same_Some, get_or_from_slice_get}
use Rattle.leg_lemmas.proofs.Places.{contains_at, there_is}
use Rattle.leg_lemmas.proofs.Contents.{Contains-nil}
use Rattle.leg_geom.specs.Plane.{RectModel}
use Rattle.leg_geom.specs.declared.place.Place.{Place}
use Rattle.leg_design_records.specs.Records.{DesignModel}
use Rattle.leg_design_records.specs.declared.fault.Fault.{Fault}
use Rattle.leg_design_records.specs.Violation.{components_of, IsListOf}
use Rattle.leg_design_records.specs.declared.records.Component.{Component}
use Rattle.leg_rules.specs.Placement.Box.{HasBox}
use Rattle.leg_rules.specs.Placement.Violations.{IsPlacementViolation, IsLegallyPlaced}
use Rattle.leg_rules.specs.Placement.Violations.IsPlacementViolation.{unplaced, outside, off_site, overlap, blocked}
use Rattle.leg_rules.specs.declared.position.Candidate.{Candidate}
use Rattle.leg_legal.specs.declared.fault.LegalFault.{LegalFault}
use Rattle.leg_legal.specs.declared.fault.LegalFault.TheVariants.{FixedIllegal, NoSite, NoRoom, Memory}
use Rattle.leg_design_records.specs.Movable.{IsMovable}
use Rattle.leg_rules.specs.Legalise.Start.{moved_by}
use Rattle.leg_rules.specs.Legalise.Places.{IsPlacedOn}
use Rattle.leg_rules.specs.Legalise.Run.{LegaliseRun, IsRunOfAll, IsLegalised}
use Rattle.leg_rules.specs.Legalise.Run.LegaliseRun.{none, one}
use Rattle.leg_rules.specs.Legalise.SameButForPlaces.{IsSameButForPlaces}
use Rattle.leg_rules.specs.Legalise.Moves.{total_of, greatest_of, AreMoves}
use Rattle.leg_legal.specs.Refusals.{IsLegaliseRefusal}
use Rattle.leg_rules.specs.Legalise.Refusals.{IsStayingViolation, NoneStaying, HasRowFor, IsLeastUnsuited, AreSuited, IsStuck}
use Rattle.leg_legal.proofs.RunSoFar.{AreMovable, IsSoFar, so_far, earlier_movable, last_fresh}
use Rattle.leg_legal.proofs.TheOrder.{order_unique, order_movable}
use Rattle.leg_legal.proofs.TheRun.{run_same}
use Rattle.leg_legal.proofs.OneList.{one_list}
use Rattle.leg_legal.proofs.OneRun.{meets, one_run, HasTaken, turn_in}

-- what comes of a design is one
pub one_design : (before a b : DesignModel) → IsLegalised before a → IsLegalised before b → a ≡ b
one_design before a b (inl kept) (inl also) = kept.1 ∙ sym also.1
one_design before a b (inl kept) (inr anew) = absurd (anew.0 kept.0)
one_design before a b (inr anew) (inl kept) = absurd (anew.0 kept.0)
one_design before a b (inr anew) (inr also) =
    one_run before anew.1.order also.1.order a b anew.1.run also.1.run
    (order_unique before anew.1.order also.1.order anew.1.is_order also.1.is_order)

-- and so is how far components have moved
module _ (before after : DesignModel) (count : length after.components ≡ length before.components)
    (each others : List ℤ) (total sum greatest most : ℤ)
    (are : AreMoves before after each total greatest) (also : AreMoves before after others sum most) where
  told : (k : ℕ) → k < length before.components → (list : List ℤ) (all far : ℤ) → AreMoves before after list all far
      → (old new : Component) → slice_get before.components k ≡ Some old → slice_get after.components k ≡ Some new
      → (d : ℤ) → get_or list k d ≡ pos (moved_by before.die old new)
  told k below list all far moves old new was is d =
      get_or_from_slice_get list k (pos (moved_by before.die old new)) d (moves.distances k old new was is)

  same_distance : (k : ℕ) (d : ℤ) → k < length each → get_or each k d ≡ get_or others k d
  same_distance k d within =
      let below : k < length before.components = omega (arith, are.count, within) in
      let old = there_is before.components k below in
      let new = there_is after.components k (omega (arith, count, below)) in
      told k below each total greatest are old.0 new.0 old.1 new.1 d ∙ sym (told k below others sum most also old.0 new.0 old.1 new.1 d)

  same_each : each ≡ others
  same_each = same_lists each others (are.count ∙ sym also.count) same_distance

  pub one_list_of_moves : (each ≡ others) × (total ≡ sum) × (greatest ≡ most)
  one_list_of_moves = (
    same_each,
    are.is_total ∙ ap total_of same_each ∙ sym also.is_total,
    are.is_greatest ∙ ap greatest_of same_each ∙ sym also.is_greatest,
  )

-- a list of violations of components that stay, not empty, has one
pub some_staying : (design : DesignModel) (faults : List Fault) → IsListOf (IsStayingViolation design) faults → faults ≢ [] → NoneStaying design → ⊥
some_staying design [] list some staying = some refl
some_staying design (v ∷ vs) list some staying = staying v (All-head (IsStayingViolation design) v vs list.each)

-- a violation of components that stay holds whatever the others do
module _ (before : DesignModel) (components : List Component)
    (stays : (c : ℕ) → (IsMovable before c → ⊥) → slice_get components c ≡ slice_get before.components c) where
  abbrev others_moved : DesignModel
  others_moved = record before { components = components }

  stands_still : (c : ℕ) (box : RectModel) → (IsMovable before c → ⊥) → HasBox before c box → HasBox others_moved c box
  stands_still c box still s = record { component = s.component; there = stays c still ∙ s.there; placed = s.placed }

  abbrev Stays : ℕ → Type 0
  Stays c = IsMovable before c → ⊥

  holds_still : (v : Fault) → IsPlacementViolation before v → All Stays (components_of v) → IsPlacementViolation (record before { components = components }) v
  holds_still v (unplaced {c = c} h) still =
      unplaced (record { component = h.component; there = stays c (All-head Stays c [] still) ∙ h.there; unplaced = h.unplaced })
  holds_still v (outside {c = c} h) still =
      outside (record {
        box = h.box;
        stands = stands_still c h.box (All-head Stays c [] still) h.stands;
        square = h.square;
        inside = h.inside;
        outside = h.outside;
      })
  holds_still v (off_site {c = c} h) still =
      off_site (record {
        component = h.component;
        there = stays c (All-head Stays c [] still) ∙ h.there;
        place = h.place;
        placed = h.placed;
        master = h.master;
        is_master = h.is_master;
        number = h.number;
        site = h.site;
        none = h.none;
      })
  holds_still v (overlap {a = a} {b = b} h) still =
      overlap (record {
        in_order = h.in_order;
        box_a = h.box_a;
        box_b = h.box_b;
        stands_a = stands_still a h.box_a (All-head Stays a (b ∷ []) still) h.stands_a;
        stands_b = stands_still b h.box_b (All-head Stays b [] (All-tail Stays a (b ∷ []) still)) h.stands_b;
        shared = h.shared;
      })
  holds_still v (blocked {c = c} h) still = absurd (All-head Stays c [] still h.movable)

-- so a design with such a violation is not legally placed by moving others
never_legal : (before after : DesignModel) → IsSameButForPlaces before after → IsLegallyPlaced after → NoneStaying before
never_legal before after same legal v h =
    legal v
    (subst (λ (d : DesignModel). IsPlacementViolation d v) (sym same.rest)
    (holds_still before after.components same.stays v h.holds h.staying))

-- a movable component that stands on sites fits a row, wherever others are
row_of_standing : (before : DesignModel) (components : List Component) (c : ℕ) (position : Candidate) (place : Place)
    → slice_get components c ≡ slice_get before.components c → (m : IsMovable before c)
    → IsPlacedOn (record before { components = components }) c position place → HasRowFor before m.master.size m.number
row_of_standing before components c position place waits m s =
    let component : s.component ≡ m.component = same_Some s.component m.component (sym s.there ∙ waits ∙ m.there) in
    let is_master : slice_get before.library.masters m.component.master ≡ Some s.master = rw component at s.is_master in
    let master : s.master ≡ m.master = same_Some s.master m.master (sym is_master ∙ m.is_master) in
    let number : s.row.site ≡ m.number = same_Some s.row.site m.number (sym (rw master at s.same) ∙ m.site) in
    record {
      site = s.site;
      is_site = rw number at s.is_site;
      fits = record { high = rw master at s.high; many = s.many; wide = rw master at s.wide };
      row = s.row;
      has = contains_at before.rows position.row s.row s.is_row;
      same = number;
    }

-- so each component of a run fits one
all_taken_fit : (before : DesignModel) (done : List ℕ) (now : DesignModel) → LegaliseRun before done now → AreMovable before done
    → (c : ℕ) (m : IsMovable before c) → Contains done c → HasRowFor before m.master.size m.number
all_taken_fit before _ _ none are c m has = absurd (Contains-nil c has)
all_taken_fit before _ _ (one {done = done} {now = now} {c = d} {place = place} run there takes) are c m has =
    let earlier : AreMovable before done = earlier_movable before done d are in
    elim (Contains-push_cases done d c has) [
      | inl in_front ↦ all_taken_fit before done now run earlier c m in_front
      | inr here ↦
          let fresh : Contains done c → ⊥ = rw here at (last_fresh before done d are) in
          let stands : IsPlacedOn now c takes.position place = rw here at takes.free.stands in
          let so : IsSoFar before done now = so_far before done now run earlier in
          row_of_standing before now.components c takes.position place (so.waiting c fresh) m (rw so.rest at stands)
    ]

-- where all movable components have taken their places, each fits a row
run_suited : (before after : DesignModel) → IsRunOfAll before after → AreSuited before
run_suited before after all c unsuited =
    unsuited.misfit
    (all_taken_fit before all.order after all.run (order_movable before all.order all.is_order) c unsuited.movable (all.is_order.all c unsuited.movable))

-- and none was without room
module _ (before : DesignModel) (c : ℕ) (stuck : IsStuck before c) where
  not_taken : HasTaken before stuck.done c → ⊥
  not_taken taken =
      let same : taken.now ≡ stuck.now = one_run before stuck.done stuck.done taken.now stuck.now taken.run stuck.run refl in
      stuck.full taken.takes.position taken.place (rw same at taken.takes.free)

  run_not_stuck : (after : DesignModel) → IsRunOfAll before after → ⊥
  run_not_stuck after all =
      not_taken (turn_in before all.order after all.run stuck.done c stuck.rest
      (order_unique before all.order (stuck.done ++ c ∷ stuck.rest) all.is_order stuck.is_order))

-- one component is the first without room
one_stuck : (before : DesignModel) (c d : ℕ) → IsStuck before c → IsStuck before d → c ≡ d
one_stuck before c d stuck also =
    let orders : stuck.done ++ c ∷ stuck.rest ≡ also.done ++ d ∷ also.rest =
    order_unique before (stuck.done ++ c ∷ stuck.rest) (also.done ++ d ∷ also.rest) stuck.is_order also.is_order in
    elim (meets stuck.done also.done c d stuck.rest also.rest orders) [
      | inl both ↦ both.1
      | inr (inl early) ↦ absurd (not_taken before c stuck (turn_in before also.done also.now also.run stuck.done c early.rest early.is))
      | inr (inr late) ↦ absurd (not_taken before d also (turn_in before stuck.done stuck.now stuck.run also.done d late.rest late.is))
    ]

one_unsuited : (design : DesignModel) (c d : ℕ) → IsLeastUnsuited design c → IsLeastUnsuited design d → c ≡ d
one_unsuited design c d least also = omega (arith, least.least d also.unsuited, also.least c least.unsuited)

module _ {A : Type 0} (design : DesignModel) where
  -- two causes of refusal are the same, byte for byte
  pub one_cause : (fault other : LegalFault A) → IsLegaliseRefusal design fault → IsLegaliseRefusal design other → fault ≢ Memory → other ≢ Memory
      → fault ≡ other
  one_cause Memory other p q told also = absurd (told refl)
  one_cause fault Memory p q told also = absurd (also refl)
  one_cause (FixedIllegal xs) (FixedIllegal ys) p q told also = ap FixedIllegal (one_list (IsStayingViolation design) xs ys p.0 q.0)
  one_cause (FixedIllegal xs) (NoSite d) p q told also = absurd (some_staying design xs p.0 p.1 q.1)
  one_cause (FixedIllegal xs) (NoRoom d) p q told also = absurd (some_staying design xs p.0 p.1 q.0)
  one_cause (NoSite c) (FixedIllegal ys) p q told also = absurd (some_staying design ys q.0 q.1 p.1)
  one_cause (NoSite c) (NoSite d) p q told also = ap NoSite (one_unsuited design c d p.2 q.2)
  one_cause (NoSite c) (NoRoom d) p q told also = absurd (q.1 c p.2.unsuited)
  one_cause (NoRoom c) (FixedIllegal ys) p q told also = absurd (some_staying design ys q.0 q.1 p.0)
  one_cause (NoRoom c) (NoSite d) p q told also = absurd (p.1 d q.2.unsuited)
  one_cause (NoRoom c) (NoRoom d) p q told also = ap NoRoom (one_stuck design c d p.2 q.2)

  -- a design that is refused is not legalised
  pub no_outcome : (after : DesignModel) (fault : LegalFault A) → IsLegaliseRefusal design fault → fault ≢ Memory → IsLegalised design after
      → IsLegallyPlaced after → ⊥
  no_outcome after Memory p told made legal = told refl
  no_outcome after (FixedIllegal faults) p told (inl kept) legal = some_staying design faults p.0 p.1 (λ v h. kept.0 v h.holds)
  no_outcome after (FixedIllegal faults) p told (inr anew) legal =
      some_staying design faults p.0 p.1
      (never_legal design after (run_same design after anew.1.order anew.1.is_order anew.1.run) legal)
  no_outcome after (NoSite c) p told (inl kept) legal = p.0 kept.0
  no_outcome after (NoSite c) p told (inr anew) legal = run_suited design after anew.1 c p.2.unsuited
  no_outcome after (NoRoom c) p told (inl kept) legal = p.2.illegal kept.0
  no_outcome after (NoRoom c) p told (inr anew) legal = run_not_stuck design c p.2 after anew.1
