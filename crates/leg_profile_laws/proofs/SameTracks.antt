-- What TRACKS say in the narrow profile they say in each: they have no mask.
use Rattle.std.proofs.Common.{◌≡◌, ℕ, Bool, true, false, List, [], ◌∷◌, map, Option, None, Some, codes, pos, refl}
use Rattle.std.specs.Prelude.{int_le, ◌+ℤ◌, ◌-ℤ◌, ◌*ℤ◌}
use Rattle.std.specs.Char.{to_ascii_lowercase}
use Rattle.leg_lex.specs.Words.{Words, ◌>>=◌, is_at, keyword_at, next_at, whole_at}
use Rattle.leg_lex.specs.Statements.{statement_at}
use Rattle.leg_lex.proofs.NameLookup.{same_name}
use Rattle.leg_lib_records.specs.Records.{LibraryModel}
use Rattle.leg_design_records.specs.Records.{TrackModel}
use Rattle.leg_grammar.specs.declared.profile.Profile.{Profile}
use Rattle.leg_grammar.specs.declared.profile.Profile.TheVariants.{Narrow, Wide}
use Rattle.leg_grammar.specs.declared.profile.Masks.TheVariants.{Refused, Dropped}
use Rattle.leg_grammar.specs.Def.Guard.{when, is_within}
use Rattle.leg_grammar.specs.Def.TrackMask.{past_track_mask}
use Rattle.leg_grammar.specs.Def.Track.{axis_at, layers_in, track_in, track_at}
use Rattle.leg_profile_laws.proofs.Keeps.{Keeps, keeps_none, keeps_itself, keeps_bind}

-- MASK isn't LAYER.
no_mask : (library : LibraryModel) (words : Words) → is_at (codes "MASK") words ≡ true → layers_in library words ≡ None
unfolding layers_in keyword_at next_at
no_mask library [] there = absurd (let e : ⊥ = cc in e)
no_mask library (word ∷ words) there =
    let same : map to_ascii_lowercase word ≡ map to_ascii_lowercase (codes "MASK") =
    same_name (map to_ascii_lowercase word) (map to_ascii_lowercase (codes "MASK")) there in
    rw same refl

masked_same : (profile : Profile) (library : LibraryModel) (words : Words) (next : List ℕ → Option TrackModel)
    → Keeps (layers_in library words >>= next) (past_track_mask profile words >>= λ mask. layers_in library mask.1 >>= next)
unfolding past_track_mask
masked_same Narrow library words next = keeps_itself (layers_in library words >>= next)
masked_same (Wide Refused soft) library words next = keeps_itself (layers_in library words >>= next)
masked_same (Wide Dropped soft) library words next = by (is_at (codes "MASK") words) refl where
  by : (test : Bool) → is_at (codes "MASK") words ≡ test → Keeps (layers_in library words >>= next)
      (past_track_mask (Wide Dropped soft) words >>= λ mask. layers_in library mask.1 >>= next)
  by true there = rw (no_mask library words there) (keeps_none _)
  by false there = rw there (keeps_itself (layers_in library words >>= next))

module _ (profile : Profile) (library : LibraryModel) where
  track_same : (statement : Words) → Keeps (track_in Narrow library statement) (track_in profile library statement)
  unfolding track_in past_track_mask
  track_same statement =
      keeps_bind (keeps_itself (keyword_at (codes "TRACKS") statement)) (λ first.
      keeps_bind (keeps_itself (axis_at first.1)) (λ axis.
      keeps_bind (keeps_itself (whole_at axis.1)) (λ start.
      keeps_bind (keeps_itself (keyword_at (codes "DO") start.1)) (λ do_.
      keeps_bind (keeps_itself (whole_at do_.1)) (λ count.
      keeps_bind (keeps_itself (when (int_le (pos 1) count.0))) (λ some.
      keeps_bind (keeps_itself (keyword_at (codes "STEP") count.1)) (λ step_.
      keeps_bind (keeps_itself (whole_at step_.1)) (λ step.
      keeps_bind (keeps_itself (when (int_le (pos 1) step.0))) (λ apart.
      keeps_bind (keeps_itself (when (is_within (start.0 +ℤ (count.0 -ℤ pos 1) *ℤ step.0)))) (λ end.
      masked_same profile library step.1 (λ layers. Some (record { axis = axis.0; start = start.0; count = count.0; step = step.0; layers = layers }))))))))))))

  -- What a statement says in the narrow profile.
  pub track_keeps : (words : Words) → Keeps (track_at Narrow library words) (track_at profile library words)
  unfolding track_at
  track_keeps words =
      keeps_bind (keeps_itself (statement_at words)) (λ statement.
      keeps_bind (track_same statement.0) (λ track.
      keeps_itself (Some (track, statement.1))))
