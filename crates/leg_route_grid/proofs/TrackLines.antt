-- The lines of tracks, gathered one after another.
use Rattle.std.proofs.Common.{◌≡◌, ℕ, ◌+◌, ◌<◌, ◌⊎◌, ◌↔◌, inl, inr, ℤ, pos, ◌+ℤ◌, ◌*ℤ◌, ◌<ℤ◌, unsigned_abs, List, [], ◌∷◌, ◌++◌, Contains, length, take, get_or, refl, sym, ◌∙◌, arith}
use Rattle.std.proofs.lemmas.Int.{ints}
use Rattle.std.proofs.lemmas.List.{take_more}
use Rattle.std.proofs.lemmas.List.Elements.{Contains-append_left, Contains-push, Contains-push_cases}
use Rattle.std.proofs.lemmas.Bool.{cases_order}
use Rattle.leg_lib_records.specs.declared.records.Direction.{Direction}
use Rattle.leg_lib_records.specs.Records.{LibraryModel}
use Rattle.leg_design_records.specs.declared.records.Axis.{Axis}
use Rattle.leg_design_records.specs.Records.{TrackModel}
use Rattle.leg_rules.specs.Route.Tracks.{IsLineOf}
use Rattle.leg_route_grid.specs.Steps.Lines.{HasLines, IsLineFor, IsLineAlong}

-- line j of the tracks
abbrev pub line_at : TrackModel → ℕ → ℤ
line_at track j = track.start +ℤ (pos j *ℤ track.step)

-- z is one of the first k lines of the tracks
pub record IsLineBelow (track : TrackModel) (k : ℕ) (z : ℤ) : Type 0 where
  pub j : ℕ
  pub below : j < k
  pub is : z ≡ line_at track j

-- the first k lines of the tracks have come to these values
pub record HasFirstLines (track : TrackModel) (before : List ℤ) (k : ℕ) (values : List ℤ) : Type 0 where
  pub kept : (z : ℤ) → Contains before z → Contains values z
  pub new : (z : ℤ) → Contains values z → Contains before z ⊎ IsLineBelow track k z
  pub lines : (j : ℕ) → j < k → Contains values (line_at track j)

pub no_lines : (track : TrackModel) (before : List ℤ) → HasFirstLines track before 0 before
no_lines track before = record { kept = λ z there. there; new = λ z there. inl there; lines = λ j below. absurd (omega arith) }

pub one_line_more : (track : TrackModel) (before : List ℤ) (k : ℕ) (values more : List ℤ) → HasFirstLines track before k values
    → more ≡ values ++ line_at track k ∷ [] → HasFirstLines track before (k + 1) more
one_line_more track before k values more has is = rw is (record {
  kept = λ z there. Contains-append_left values (line_at track k ∷ []) z (has.kept z there);
  new = λ z there. elim (Contains-push_cases values (line_at track k) z there) [
    | inl old ↦ elim (has.new z old) [
      | inl earlier ↦ inl earlier
      | inr line ↦ inr (record { j = line.j; below = omega (arith, line.below); is = line.is })
    ]
    | inr same ↦ inr (record { j = k; below = omega arith; is = sym same })
  ];
  lines = λ j below. by j below (cases_order j k);
}) where
  by : (j : ℕ) → j < k + 1 → (j ≡ k) ⊎ ((j < k) ⊎ (k < j)) → Contains (values ++ line_at track k ∷ []) (line_at track j)
  by j below (inl same) = rw same (Contains-push values (line_at track k))
  by j below (inr (inl less)) = Contains-append_left values (line_at track k ∷ []) (line_at track j) (has.lines j less)
  by j below (inr (inr more)) = absurd (omega (arith, below, more))

pub all_lines : (track : TrackModel) (before : List ℤ) (k : ℕ) (values : List ℤ) → HasLines track → k ≡ unsigned_abs track.count
    → HasFirstLines track before k values → (z : ℤ) → Contains values z ↔ (Contains before z ⊎ IsLineOf track z)
all_lines track before k values lines is has z = (
  λ there. elim (has.new z there) [
    | inl earlier ↦ inl earlier
    | inr line ↦ inr (record { k = line.j; within = inside line.j line.below; is = line.is })
  ],
  elim [ inl earlier ↦ has.kept z earlier | inr line ↦ rw line.is (has.lines line.k (outside line.k line.within)) ],
) where
  inside : (j : ℕ) → j < k → pos j <ℤ track.count
  inside j below = let some = lines.some in omega (arith, ints)

  outside : (j : ℕ) → pos j <ℤ track.count → j < k
  outside j below = let some = lines.some in omega (arith, ints)

module _ (library : LibraryModel) (direction : Direction) (axis : Axis) where
  -- the values are the lines of the first tracks
  abbrev pub AreLines : List TrackModel → List ℤ → Type 0
  AreLines tracks values = (z : ℤ) → Contains values z ↔ IsLineAlong library tracks direction axis z

  pub one_track_more : (tracks : List TrackModel) (i : ℕ) (track : TrackModel) (values more : List ℤ) → i < length tracks → get_or tracks i track ≡ track
      → AreLines (take i tracks) values → ((z : ℤ) → Contains more z ↔ (Contains values z ⊎ IsLineFor library direction axis track z))
      → AreLines (take (i + 1) tracks) more
  one_track_more tracks i track values more within is are adds z = rw longer (
    λ there. elim ((adds z).0 there) [
      | inl old ↦ let line = (are z).0 old in
          record { track = line.track; given = Contains-append_left (take i tracks) (track ∷ []) line.track line.given; is = line.is }
      | inr line ↦ record { track = track; given = Contains-push (take i tracks) track; is = line }
    ],
    λ line. (adds z).1 (elim (Contains-push_cases (take i tracks) track line.track line.given) [
      | inl old ↦ inl ((are z).1 (record { track = line.track; given = old; is = line.is }))
      | inr same ↦ inr (rw same line.is)
    ]),
  ) where
    longer : take (i + 1) tracks ≡ take i tracks ++ track ∷ []
    longer = take_more tracks i track within ∙ rw is refl
