-- Metal stays clean when clean metal is added.
use Rattle.std.proofs.Common.{◌≡◌, ℕ, ◌<◌, List, ◌++◌, ◌⊎◌, inl, inr, slice_get, Contains, sym, ap, ◌∙◌}
use Rattle.std.proofs.lemmas.Bool.{cases_order}
use Rattle.std.proofs.lemmas.Option.{same_Some}
use Rattle.std.proofs.lemmas.List.Elements.{Contains-append_cases}
use Rattle.leg_lemmas.proofs.Places.{place_of_contained, contains_at, HasPlace}
use Rattle.leg_geom.proofs.Gaps.{SharePoint-symmetric}
use Rattle.leg_geom.specs.Pairs.{IsPair}
use Rattle.leg_lib_records.specs.Records.{LibraryModel}
use Rattle.leg_design_records.specs.declared.fault.Fault.TheVariants.{Short, TooNear}
use Rattle.leg_rules.specs.declared.owner.Owner.TheVariants.{Net}
use Rattle.leg_rules.specs.declared.shape.Shape.{Shape}
use Rattle.leg_rules.specs.Metal.Flat.{FlatModel}
use Rattle.leg_rules.specs.Spacing.Comparable.{AreComparable}
use Rattle.leg_rules.specs.Spacing.Violations.{AreShort, AreTooNear}
use Rattle.leg_rules.specs.Spacing.Violations.IsSpacingViolation.{short, too_near}
use Rattle.leg_rules.specs.Spacing.Clean.{net_metal, IsClean}
use Rattle.leg_wire_spacing.proofs.CloserShapes.{comparable_back, too_near_back, too_near_is_closer}
use Rattle.leg_route_laws.specs.CleanWire.{HasNoSpacingFault}

pub short_back : (a b : Shape) → AreShort a b → AreShort b a
short_back a b h = record { comparable = comparable_back a b h.comparable; shared = SharePoint-symmetric a.rect b.rect h.shared }

-- two shapes are neither short nor too near
pub record AreClear (library : LibraryModel) (a b : Shape) : Type 0 where
  pub no_short : ¬ AreShort a b
  pub far : ¬ AreTooNear library a b

-- each two shapes are clear of one another
abbrev pub AllAreClear : LibraryModel → List Shape → Type 0
AllAreClear library shapes = (a b : Shape) → Contains shapes a → Contains shapes b → AreClear library a b

-- two shapes of a list for which a relation holds that goes both ways and wants different owners
module _ (R : Shape → Shape → Type 0) (back : (a b : Shape) → R a b → R b a) (apart : (a b : Shape) → R a b → AreComparable a b) where
  pub pair_of : (shapes : List Shape) (a b : Shape) → Contains shapes a → Contains shapes b → R a b → (i : ℕ) × (j : ℕ) × IsPair R shapes (i, j)
  pair_of shapes a b a_there b_there holds = by (cases_order first.k second.k) where
    first : HasPlace shapes a
    first = place_of_contained shapes a a_there

    second : HasPlace shapes b
    second = place_of_contained shapes b b_there

    by : (first.k ≡ second.k) ⊎ ((first.k < second.k) ⊎ (second.k < first.k)) → (i : ℕ) × (j : ℕ) × IsPair R shapes (i, j)
    by (inl same) =
        let one : a ≡ b = same_Some a b (sym first.there ∙ ap (slice_get shapes) same ∙ second.there) in
        absurd ((apart a b holds).owners (ap (λ (s : Shape). s.owner) one))
    by (inr (inl less)) = (first.k, second.k, record { a = a; b = b; a_at = first.there; b_at = second.there; in_order = less; holds = holds })
    by (inr (inr more)) = (second.k, first.k, record { a = b; b = a; a_at = second.there; b_at = first.there; in_order = more; holds = back a b holds })

module _ (library : LibraryModel) where
  -- no violation is the same as each two shapes being clear
  pub clear_from_no_fault : (flat : FlatModel) → HasNoSpacingFault library flat → AllAreClear library flat.shapes
  clear_from_no_fault flat none a b a_there b_there = record {
    no_short = λ h.
        let pair = pair_of AreShort short_back (λ x y r. r.comparable) flat.shapes a b a_there b_there h in
        none (Short pair.0 pair.1) (short pair.2);
    far = λ h.
        let pair = pair_of (AreTooNear library) (too_near_back library) (λ x y r. r.comparable) flat.shapes a b a_there b_there h in
        none (TooNear pair.0 pair.1) (too_near pair.2);
  }

  pub no_fault_from_clear : (flat : FlatModel) → AllAreClear library flat.shapes → HasNoSpacingFault library flat
  no_fault_from_clear flat clear fault (short {i = i} {j = j} pair) =
      (clear pair.a pair.b (contains_at flat.shapes i pair.a pair.a_at) (contains_at flat.shapes j pair.b pair.b_at)).no_short pair.holds
  no_fault_from_clear flat clear fault (too_near {i = i} {j = j} pair) =
      (clear pair.a pair.b (contains_at flat.shapes i pair.a pair.a_at) (contains_at flat.shapes j pair.b pair.b_at)).far pair.holds

  pub clear_back : (a b : Shape) → AreClear library a b → AreClear library b a
  clear_back a b h = record {
    no_short = λ bad. h.no_short (short_back b a bad);
    far = λ bad. h.far (too_near_back library b a bad);
  }

  -- shapes of one owner are clear
  pub clear_own : (a b : Shape) → a.owner ≡ b.owner → AreClear library a b
  clear_own a b same = record { no_short = λ bad. bad.comparable.owners same; far = λ bad. bad.comparable.owners same }

  -- metal of a net that is of no component counts as the same without its piece
  comparable_as : (net : ℕ) (a b : Shape) → a.owner ≡ Net net → AreComparable a b → AreComparable (net_metal net a.layer a.rect) b
  comparable_as net a b owner h = record {
    layer = h.layer;
    owners = λ same. h.owners (owner ∙ same);
    apart = λ one. absurd (let e : ⊥ = cc (one.of_a) in e);
    metal = λ none. absurd none;
  }

  pub clear_clean : (flat : FlatModel) (net : ℕ) (a b : Shape) → a.owner ≡ Net net → IsClean library flat net a.layer a.rect → Contains flat.shapes b
      → AreClear library a b
  clear_clean flat net a b owner clean there = record {
    no_short = λ bad. clean.far b there (record { comparable = comparable_as net a b owner bad.comparable; close = inl bad.shared });
    far = λ bad.
        let closer = too_near_is_closer library a b bad in
        clean.far b there (record { comparable = comparable_as net a b owner closer.comparable; close = closer.close });
  }

  -- metal of a net behind a flat in which it is clean
  pub clear_more : (flat : FlatModel) (net : ℕ) (more : List Shape) → AllAreClear library flat.shapes
      → ((shape : Shape) → Contains more shape → (shape.owner ≡ Net net) × IsClean library flat net shape.layer shape.rect)
      → AllAreClear library (flat.shapes ++ more)
  clear_more flat net more clear clean a b a_there b_there =
      by (Contains-append_cases flat.shapes more a a_there) (Contains-append_cases flat.shapes more b b_there) where
        by : Contains flat.shapes a ⊎ Contains more a → Contains flat.shapes b ⊎ Contains more b → AreClear library a b
        by (inl a_old) (inl b_old) = clear a b a_old b_old
        by (inl a_old) (inr b_new) = let new = clean b b_new in clear_back b a (clear_clean flat net b a new.0 new.1 a_old)
        by (inr a_new) (inl b_old) = let new = clean a a_new in clear_clean flat net a b new.0 new.1 b_old
        by (inr a_new) (inr b_new) = clear_own a b ((clean a a_new).0 ∙ sym (clean b b_new).0)
