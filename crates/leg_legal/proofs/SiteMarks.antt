-- Which sites rows have, by marks.
use Rattle.std.proofs.Common.{◌≡◌, ◌↔◌, ℕ, ◌+◌, ◌<◌, Bool, true, false, IsTrue, List, length, set, get_or, Some, slice_get, refl, sym, ap, ◌∙◌, inl, inr, arith}
use Rattle.std.proofs.Math.ListN.{replicate}
use Rattle.std.proofs.lemmas.Bool.{false≢true, cases_lt, cases_eq}
use Rattle.std.proofs.lemmas.List.{length-set, length-replicate, get_or-replicate}
use Rattle.std.proofs.lemmas.Option.{same_Some, slice_get-get_or, slice_get_within, slice_get_read, get_or_from_slice_get}
use Rattle.leg_lemmas.proofs.Places.{contains_at, set_here, set_elsewhere}
use Rattle.leg_design_records.specs.Records.{DesignModel}
use Rattle.leg_design_records.specs.declared.records.Row.{Row}
use Rattle.leg_legal.specs.Steps.SiteMarks.{HasRow, HasRowBelow, AreSiteMarksBelow, AreSiteMarks}

-- no mark is set among equal ones
none_set : (n number : ℕ) → slice_get (replicate n false) number ≡ Some true → ⊥
none_set n number at =
    let below : number < length (replicate n false) = slice_get_within (replicate n false) number true at in
    let is : get_or (replicate n false) number true ≡ false = get_or-replicate n number false true (omega (arith, below, length-replicate n false)) in
    false≢true (sym is ∙ get_or_from_slice_get (replicate n false) number true true at)

module _ (design : DesignModel) where
  pub marks_of_none : (marks : List Bool) → marks ≡ replicate (length design.library.sites) false → AreSiteMarksBelow design 0 marks
  marks_of_none marks is = rw is (record {
    count = length-replicate (length design.library.sites) false;
    each = λ number. (λ at. absurd (none_set (length design.library.sites) number at), λ has. absurd (omega (arith, has.below)));
  })

  module _ (i : ℕ) (row : Row) (there : slice_get design.rows i ≡ Some row) (marks : List Bool) (known : AreSiteMarksBelow design i marks) where
    here : HasRowBelow design.rows (i + 1) row.site
    here = record { place = i; below = omega arith; row = row; there = there; same = refl }

    later : (number : ℕ) → HasRowBelow design.rows i number → HasRowBelow design.rows (i + 1) number
    later number has = record { place = has.place; below = omega (arith, has.below); row = has.row; there = has.there; same = has.same }

    earlier : (number : ℕ) → (number ≡ row.site → ⊥) → HasRowBelow design.rows (i + 1) number → HasRowBelow design.rows i number
    earlier number differs has =
        elim (cases_lt has.place i) [
          | inl before ↦ record { place = has.place; below = before; row = has.row; there = has.there; same = has.same }
          | inr late ↦
              let last : has.place ≡ i = omega (arith, late, has.below) in
              let one : has.row ≡ row = same_Some has.row row (sym has.there ∙ ap (slice_get design.rows) last ∙ there) in
              absurd (differs (sym has.same ∙ ap (λ (r : Row). r.site) one))
        ]

    -- the site of one more row is marked
    pub marks_of_more : row.site < length design.library.sites → AreSiteMarksBelow design (i + 1) (set marks row.site true)
    marks_of_more within =
        let marked : row.site < length marks = omega (arith, within, known.count) in
        record {
          count = length-set marks row.site true ∙ known.count;
          each = λ number. elim (cases_eq number row.site) [
            | inl same ↦ rw same (λ at. here, λ has. set_here marks row.site (get_or marks row.site true) true (slice_get-get_or marks row.site true marked))
            | inr differs ↦
                let stays : slice_get (set marks row.site true) number ≡ slice_get marks number =
                set_elsewhere marks row.site number true (λ same. differs (sym same)) in
                rw stays (λ at. later number ((known.each number).0 at), λ has. (known.each number).1 (earlier number differs has))
          ];
        }

  -- the sites of all rows are marked
  pub marks_of_all : (marks : List Bool) (end : ℕ) → end ≡ length design.rows → AreSiteMarksBelow design end marks → AreSiteMarks design marks
  marks_of_all marks end all known = record {
    count = known.count;
    each = λ number. (
      λ at. let has = (known.each number).0 at in record { row = has.row; has = contains_at design.rows has.place has.row has.there; same = has.same },
      λ has.
          let there : slice_get design.rows has.has.0 ≡ Some has.row =
          slice_get_read design.rows (length design.rows) has.has.0 has.row refl has.has.1 (sym has.has.2) in
          (known.each number).1 (record { place = has.has.0; below = omega (arith, has.has.1, all); row = has.row; there = there; same = has.same }),
    );
  }

  -- a mark tells whether a row has the site
  pub marked : (marks : List Bool) (number : ℕ) (mark : Bool) → AreSiteMarks design marks → slice_get marks number ≡ Some mark
      → IsTrue mark ↔ HasRow design.rows number
  marked marks number mark known at = (
    λ t. (known.each number).0 (at ∙ ap Some t),
    λ has. same_Some mark true (sym at ∙ (known.each number).1 has),
  )
