-- Counts of shapes that go no further than one beyond the limit.
use Rattle.std.proofs.Common.{◌≡◌, ℕ, ◌+◌, ◌<◌, ◌≤◌, List, [], ◌++◌, length, length-append, get_or, take, Some, slice_get, sym, ap, ◌∙◌, add-one, zero-add, arith}
use Rattle.std.proofs.lemmas.List.{length-map, take_all}
use Rattle.std.proofs.lemmas.Option.{slice_get_within, get_or_from_slice_get}
use Rattle.leg_geom.specs.declared.place.Place.{Place}
use Rattle.leg_lib_records.specs.declared.records.Shape.{Shape}
use Rattle.leg_lib_records.specs.Measure.{ExtentModel}
use Rattle.leg_design_records.specs.declared.limits.TheConstants.{PART_LIMIT}
use Rattle.leg_design_records.specs.Records.{DesignModel}
use Rattle.leg_rules.specs.Metal.Outline.Outline.{Drawn}
use Rattle.leg_rules.specs.Metal.Metal.{OnLayer, Belonging, Metal, belonging, drawn, metal_parts, metal_of}
use Rattle.leg_flat.specs.Steps.ShapeCount.{counted}
use Rattle.leg_flat.proofs.MoreMetal.{walk, walk_more}
use Rattle.leg_flat.proofs.Parts.{AreSteps, step_on}

-- what belongs to something has as many shapes as are drawn
pub belonging_length : (belongs : Belonging) (outlines : List OnLayer) → length (belonging belongs outlines) ≡ length outlines
belonging_length belongs outlines = length-map outlines (λ (m : OnLayer). record { metal = m; belongs = belongs })

pub drawn_length : (belongs : Belonging) (place : Place) (size : ExtentModel) (shapes : List Shape)
    → length (belonging belongs (drawn place size shapes)) ≡ length shapes
drawn_length belongs place size shapes =
    belonging_length belongs (drawn place size shapes) ∙ length-map shapes (λ (s : Shape). record { layer = s.layer; outline = Drawn place size s.rect })

-- more and then more
pub counted_both : (start n m total count after : ℕ) → count ≡ counted start n → after ≡ counted count m → total ≡ n + m → after ≡ counted start total
counted_both start n m total count after first second all = omega arith

-- a loop over a list that counts what each element gives
module _ {X Y : Type 0} (f : ℕ → X → List Y) (k : ℕ) (xs : List X) (start : ℕ) where
  pub counts_more : (i j : ℕ) (x : X) (count after more : ℕ) → j ≡ k + i → i < length xs → x ≡ get_or xs i x
      → count ≡ counted start (length (walk f k (take i xs))) → after ≡ counted count more → more ≡ length (f j x)
      → after ≡ counted start (length (walk f k (take (i + 1) xs)))
  counts_more i j x count after more number less is before one many =
      let grown : length (walk f k (take (i + 1) xs)) ≡ length (walk f k (take i xs)) + length (f j x) =
      rw (add-one, number) (ap length (walk_more f k xs i x less is) ∙ length-append (walk f k (take i xs)) (f (k + i) x)) in
      counted_both start (length (walk f k (take i xs))) more _ count after before one (rw many grown)

  -- the same where the element is known to stand there
  pub counts_at : (i j : ℕ) (x : X) (count after more : ℕ) → j ≡ k + i → slice_get xs i ≡ Some x → count ≡ counted start (length (walk f k (take i xs)))
      → after ≡ counted count more → more ≡ length (f j x) → after ≡ counted start (length (walk f k (take (i + 1) xs)))
  counts_at i j x count after more number there before one many =
      counts_more i j x count after more number (slice_get_within xs i x there) (sym (get_or_from_slice_get xs i x x there)) before one many

  pub counts_all : (i before count : ℕ) (metal : List Y) → length xs ≤ i → start ≡ counted before 0 → metal ≡ walk f k xs
      → count ≡ counted start (length (walk f k (take i xs))) → count ≡ counted before (length metal)
  counts_all i before count metal past first is so_far =
      let all : length (walk f k (take i xs)) ≡ length metal = ap (λ ys. length (walk f k ys)) (take_all i xs past) ∙ ap length (sym is) in
      counted_both before 0 (length metal) (length metal) start count first (rw (← all) so_far) (sym (zero-add (length metal)))

-- the count goes on by a part
abbrev pub IsCounted : List Metal → ℕ → ℕ → Type 0
IsCounted part before after = after ≡ counted before (length part)

counted_parts : (a b : List Metal) (s t u : ℕ) → IsCounted a s t → IsCounted b t u → IsCounted (a ++ b) s u
counted_parts a b s t u first second = counted_both s (length a) (length b) (length (a ++ b)) t u first second (length-append a b)

-- the shapes of a design, part by part
pub metal_counted : (design : DesignModel) (count : ℕ) → AreSteps IsCounted (metal_parts design) 0 count → count ≡ counted 0 (length (metal_of design))
unfolding metal_of
metal_counted design count steps = step_on IsCounted counted_parts (metal_parts design) [] 0 0 count (omega arith) steps

-- a count within the limit is of so few
pub counted_within : (n count : ℕ) → count ≡ counted 0 n → count ≤ PART_LIMIT → n ≤ PART_LIMIT
counted_within n count is within = omega arith
