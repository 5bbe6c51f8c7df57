-- Components that take their places in one order come to one design.
use Rattle.std.proofs.Common.{◌≡◌, ◌⊎◌, ℕ, suc, ◌+◌, pos, ◌+ℤ◌, ◌*ℤ◌, Bool, Option, None, Some, List, [], ◌∷◌, ◌++◌, length, slice_get, inl, inr, refl, sym, ap, ◌∙◌, arith, length-append}
use Rattle.std.specs.Cmp.{both_ways}
use Rattle.std.proofs.lemmas.List.{same_from_push}
use Rattle.std.proofs.lemmas.Option.{same_Some}
use Rattle.leg_geom.specs.declared.orient.Orient.{Orient}
use Rattle.leg_geom.specs.declared.place.Place.{Place}
use Rattle.leg_design_records.specs.Records.{DesignModel}
use Rattle.leg_design_records.specs.declared.records.Component.{Component}
use Rattle.leg_rules.specs.declared.position.Candidate.{Candidate}
use Rattle.leg_rules.specs.Legalise.Preference.{IsNoWorse}
use Rattle.leg_rules.specs.Legalise.Places.{orient_if_placed, Takes, IsPlacedOn}
use Rattle.leg_rules.specs.Legalise.Free.{TakesBest}
use Rattle.leg_rules.specs.Legalise.Run.{moved_to, LegaliseRun}
use Rattle.leg_rules.specs.Legalise.Run.LegaliseRun.{none, one}

-- of two positions of which neither is worse there is one
same_position : (a b : Candidate) → IsNoWorse a b → IsNoWorse b a → a ≡ b
same_position a b ab ba =
    let near : a.distance ≡ b.distance = omega (arith, ab.distance, ba.distance) in
    let turned : a.turned ≡ b.turned = both_ways a.turned b.turned (ab.turned near) (ba.turned (sym near)) in
    let row : a.row ≡ b.row = omega (arith, ab.row near turned, ba.row (sym near) (sym turned)) in
    let first : a.first ≡ b.first = omega (arith, ab.first near turned row, ba.first (sym near) (sym turned) (sym row)) in
    λ i. record { distance = near i; turned = turned i; row = row i; first = first i }

-- one orientation is taken
pub one_orient : (row : Orient) (symmetric : Bool) (old : Option Orient) (a b : Orient) → Takes row symmetric old a → Takes row symmetric old b → a ≡ b
one_orient row symmetric None a b s t = s ∙ sym t
one_orient row symmetric (Some old) a b (inl s) (inl t) = s.1 ∙ sym t.1
one_orient row symmetric (Some old) a b (inl s) (inr t) = absurd (t.0 s.0)
one_orient row symmetric (Some old) a b (inr s) (inl t) = absurd (s.0 t.0)
one_orient row symmetric (Some old) a b (inr s) (inr t) = s.1 ∙ sym t.1

-- a component has one place at a position
module _ (design : DesignModel) (c : ℕ) (position : Candidate) (a b : Place) (s : IsPlacedOn design c position a) (t : IsPlacedOn design c position b) where
  one_component : t.component ≡ s.component
  one_component = same_Some t.component s.component (sym t.there ∙ s.there)

  one_master : t.master ≡ s.master
  one_master =
      let told : slice_get design.library.masters s.component.master ≡ Some t.master = rw one_component at t.is_master in
      same_Some t.master s.master (sym told ∙ s.is_master)

  one_row : t.row ≡ s.row
  one_row = same_Some t.row s.row (sym t.is_row ∙ s.is_row)

  one_site : t.site ≡ s.site
  one_site =
      let told : slice_get design.library.sites s.row.site ≡ Some t.site = rw one_row at t.is_site in
      same_Some t.site s.site (sym told ∙ s.is_site)

  one_spot : a.at ≡ b.at
  one_spot = sym (t.at ∙ (λ i. record { x = (one_row i).at.x +ℤ pos position.first *ℤ (one_site i).size.width; y = (one_row i).at.y }) ∙ sym s.at)

  one_turn : a.orient ≡ b.orient
  one_turn =
      let takes : Takes s.row.orient s.master.y_symmetric (orient_if_placed s.component.place) b.orient = rw (one_row, one_master, one_component) at t.takes in
      one_orient s.row.orient s.master.y_symmetric (orient_if_placed s.component.place) a.orient b.orient s.takes takes

  place_at : a ≡ b
  place_at = λ i. record { at = one_spot i; orient = one_turn i }

-- and one best place
best_place : (design : DesignModel) (done : List ℕ) (c : ℕ) (a b : Place) → TakesBest design done c a → TakesBest design done c b → a ≡ b
best_place design done c a b s t =
    let same : t.position ≡ s.position = same_position t.position s.position (t.best s.position a s.free) (s.best t.position b t.free) in
    let stands : IsPlacedOn design c s.position b = rw same at t.free.stands in
    place_at design c s.position a b s.free.stands stands

-- where an element stands of one of two equal lists, and where one does of the other
module _ {X : Type 0} where
  pub record IsWithin (front : List X) (x : X) (whole : List X) : Type 0 where
    pub rest : List X
    pub is : whole ≡ front ++ x ∷ rest

  pub meets : (xs ys : List X) (x y : X) (after beyond : List X) → xs ++ x ∷ after ≡ ys ++ y ∷ beyond
      → ((xs ≡ ys) × (x ≡ y)) ⊎ (IsWithin xs x ys ⊎ IsWithin ys y xs)
  meets [] [] x y after beyond same = inl (refl, cc)
  meets [] (z ∷ ys) x y after beyond same = let first : x ≡ z = cc in inr (inl (record { rest = ys; is = ap (λ w. w ∷ ys) (sym first) }))
  meets (z ∷ xs) [] x y after beyond same = let first : z ≡ y = cc in inr (inr (record { rest = xs; is = ap (λ w. w ∷ xs) first }))
  meets (z ∷ xs) (w ∷ ys) x y after beyond same =
      let first : z ≡ w = cc in
      let rest : xs ++ x ∷ after ≡ ys ++ y ∷ beyond = cc in
      elim (meets xs ys x y after beyond rest) [
        | inl (fronts, here) ↦ inl ((let tails : xs ≡ ys = fronts in cc), here)
        | inr (inl early) ↦ inr (inl (record { rest = early.rest; is = (let tails : ys ≡ xs ++ x ∷ early.rest = early.is in cc) }))
        | inr (inr late) ↦ inr (inr (record { rest = late.rest; is = (let tails : xs ≡ ys ++ y ∷ late.rest = late.is in cc) }))
      ]

  -- what stands in front of the last element is no longer than what stands in front of any
  pub not_behind_last : (front whole : List X) (x y : X) (rest : List X) → front ++ x ∷ [] ≡ whole ++ y ∷ rest → IsWithin front x whole → ⊥
  not_behind_last front whole x y rest same behind =
      let all : length front + 1 ≡ length whole + suc (length rest) = sym (length-append front (x ∷ [])) ∙ ap length same ∙ length-append whole (y ∷ rest) in
      let part : length whole ≡ length front + suc (length behind.rest) = ap length behind.is ∙ length-append front (x ∷ behind.rest) in
      omega arith

  pub no_end : (xs : List X) (x : X) (rest : List X) → [] ≡ xs ++ x ∷ rest → ⊥
  no_end xs x rest empty =
      let long : length (xs ++ x ∷ rest) ≡ length xs + suc (length rest) = length-append xs (x ∷ rest) in
      let short : 0 ≡ length (xs ++ x ∷ rest) = ap length empty in
      omega arith

-- two steps from one design
module _ (now other : DesignModel) (done others : List ℕ) (c d : ℕ) (component old : Component) (place new : Place)
    (there : slice_get now.components c ≡ Some component) (is : slice_get other.components d ≡ Some old)
    (takes : TakesBest now done c place) (also : TakesBest other others d new) where
  one_step : other ≡ now → others ≡ done → d ≡ c → moved_to now c component place ≡ moved_to other d old new
  one_step designs lists numbers =
      let here : slice_get now.components c ≡ Some old = rw (designs, numbers) at is in
      let components : component ≡ old = same_Some component old (sym there ∙ here) in
      let best : TakesBest now done c new = rw (designs, lists, numbers) at also in
      let places : place ≡ new = best_place now done c place new takes best in
      λ i. moved_to (sym designs i) (sym numbers i) (components i) (places i)

-- a run of one list comes to one design
pub one_run : (before : DesignModel) (xs ys : List ℕ) (a b : DesignModel) → LegaliseRun before xs a → LegaliseRun before ys b → xs ≡ ys → a ≡ b
one_run before _ _ _ _ none none same = refl
one_run before _ _ _ _ none (one {done = ys} {c = d} also is best) same = absurd (no_end ys d [] same)
one_run before _ _ _ _ (one {done = xs} {c = c} run there takes) none same = absurd (no_end xs c [] (sym same))
one_run before _ _ _ _ (one {done = xs} {now = now} {c = c} {component = x} {place = p} run there takes)
    (one {done = ys} {now = other} {c = d} {component = y} {place = q} also is best) same =
    let ends = same_from_push xs ys c d same in
    let designs : now ≡ other = one_run before xs ys now other run also ends.0 in
    one_step now other xs ys c d x y p q there is takes best (sym designs) (sym ends.0) (sym ends.1)

-- the turn of a component in a run: those before it have taken their places, and it has taken its own
pub record HasTaken (before : DesignModel) (done : List ℕ) (c : ℕ) : Type 0 where
  pub now : DesignModel
  pub run : LegaliseRun before done now
  pub place : Place
  pub takes : TakesBest now done c place

pub turn_in : (before : DesignModel) (xs : List ℕ) (after : DesignModel) → LegaliseRun before xs after
    → (done : List ℕ) (c : ℕ) (rest : List ℕ) → xs ≡ done ++ c ∷ rest → HasTaken before done c
turn_in before _ _ none done c rest is = absurd (no_end done c rest is)
turn_in before _ _ (one {done = earlier} {now = now} {c = d} {place = place} run there takes) done c rest is =
    elim (meets earlier done d c [] rest is) [
      | inl (lists, numbers) ↦ record {
        now = now;
        run = rw lists at run;
        place = place;
        takes = rw (lists, numbers) at takes;
      }
      | inr (inl behind) ↦ absurd (not_behind_last earlier done d c rest is behind)
      | inr (inr within) ↦ turn_in before earlier now run done c within.rest within.is
    ]
