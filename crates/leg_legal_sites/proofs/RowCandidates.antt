-- The positions in one row.
use Rattle.std.proofs.Common.{◌≡◌, ◌↔◌, ℕ, ◌+◌, pos, ◌+ℤ◌, ◌*ℤ◌, ◌≤◌, List, [], length, None, Some, slice_get, IsTrue, sym, ap, ◌∙◌, subst, arith}
use Rattle.std.proofs.lemmas.Option.{same_Some, slice_get_within}
use Rattle.leg_geom.specs.Gap.{apart}
use Rattle.leg_design_records.specs.declared.records.Row.{Row}
use Rattle.leg_legal_sites.specs.declared.stretch.Stretch.{Stretch}
use Rattle.leg_legal_sites.specs.declared.nearest.Pitch.{Pitch}
use Rattle.leg_legal_sites.specs.declared.candidate.Wanted.{Wanted}
use Rattle.leg_rules.specs.declared.position.Candidate.{Candidate}
use Rattle.leg_legal_sites.specs.Steps.Stretches.{AreFreeSites}
use Rattle.leg_legal_sites.specs.Steps.BestPosition.{AreReady, IsBestOf}
use Rattle.leg_rules.specs.Legalise.Preference.{IsTurned}
use Rattle.leg_legal_sites.specs.Steps.Nearest.{x_away, BeginWithin, IsLeastOf}
use Rattle.leg_legal_sites.specs.Steps.RowPositions.{IsCandidateOf}

-- where the sites of a row begin, and where the component starts
abbrev pub pitch_in : Row → Wanted → Pitch
pitch_in row wanted = record { left = row.at.x; width = wanted.site_width; start = wanted.start.x }

module _ (rows : List Row) (free : List (List Stretch)) (wanted : Wanted) (number : ℕ) (row : Row) (stretches : List Stretch)
    (there : slice_get rows number ≡ Some row) (known : slice_get free number ≡ Some stretches) where
  pub begin_within : AreReady rows free wanted → row.site ≡ wanted.site → BeginWithin (pitch_in row wanted) stretches
  begin_within ready same k site = ready.within number row stretches there same known k site

  -- a position in the row of this number is one of this row and of its free sites
  row_same : (d : Candidate) (of : IsCandidateOf rows free wanted number d) → of.candidate.row ≡ row
  row_same d of =
      same_Some of.candidate.row row (sym of.candidate.there ∙ ap (slice_get rows) of.row ∙ there)

  sites_of : (d : Candidate) → IsCandidateOf rows free wanted number d → AreFreeSites stretches wanted.many d.first
  sites_of d of =
      let one : of.candidate.stretches ≡ stretches = same_Some of.candidate.stretches stretches (sym of.candidate.known ∙ ap (slice_get free) of.row ∙ known) in
      let P : List Stretch → Type 0 = λ s. AreFreeSites s wanted.many d.first in
      subst P one of.candidate.sites

  distance_of : (d : Candidate) → IsCandidateOf rows free wanted number d → d.distance ≡ x_away (pitch_in row wanted) d.first + apart row.at.y wanted.start.y
  distance_of d of =
      of.candidate.distance
      ∙ ap (λ (r : Row). apart (r.at.x +ℤ pos d.first *ℤ wanted.site_width) wanted.start.x + apart r.at.y wanted.start.y) (row_same d of)

  pub none_of_other_site : (row.site ≡ wanted.site → ⊥) → IsBestOf (IsCandidateOf rows free wanted number) None
  none_of_other_site other d of =
      other (ap (λ (r : Row). r.site) (sym (row_same d of)) ∙ of.candidate.same)

  pub none_free : ((k : ℕ) → ¬ AreFreeSites stretches wanted.many k) → IsBestOf (IsCandidateOf rows free wanted number) None
  none_free never d of = never d.first (sites_of d of)

  pub none_of_nothing : stretches ≡ [] → 1 ≤ wanted.many → IsBestOf (IsCandidateOf rows free wanted number) None
  none_of_nothing none some d of =
      let site = sites_of d of d.first (omega arith) (omega (arith, some)) in
      let length_none : length stretches ≡ 0 = ap length none in
      omega (arith, length_none, slice_get_within stretches site.number site.stretch site.there)

  pub best_there : (c : Candidate) → c.row ≡ number → row.site ≡ wanted.site
      → c.distance ≡ x_away (pitch_in row wanted) c.first + apart row.at.y wanted.start.y
      → IsTrue c.turned ↔ IsTurned row.orient wanted.y_symmetric wanted.orient
      → IsLeastOf (x_away (pitch_in row wanted)) (AreFreeSites stretches wanted.many) c.first → IsBestOf (IsCandidateOf rows free wanted number) (Some c)
  best_there c at same distance turned least = (
    record {
      candidate = record {
        row = row;
        there = ap (slice_get rows) at ∙ there;
        same = same;
        stretches = stretches;
        known = ap (slice_get free) at ∙ known;
        sites = least.holds;
        distance = distance;
        turned = turned;
      };
      row = at;
    },
    λ d of.
        let far = distance_of d of in
        let near = least.near d.first (sites_of d of) in
        let place = of.row in
        record {
          distance = omega arith;
          turned = λ tie t.
              let P : Row → Type 0 = λ r. IsTurned r.orient wanted.y_symmetric wanted.orient in
              of.candidate.turned.1 (subst P (sym (row_same d of)) (turned.0 t));
          row = λ tie turn. omega arith;
          first = λ tie turn level. least.first d.first (sites_of d of) (omega arith);
        },
  )
