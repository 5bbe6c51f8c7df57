-- Where a needle stands, as places and as lists.
use Rattle.std.proofs.Common.{◌≡◌, ℕ, ◌+◌, ◌≤◌, List, ◌++◌, length, take, drop, refl, sym, ap, ◌∙◌, arith, length-append, inl, inr}
use Rattle.std.proofs.lemmas.Bool.{cases_lt}
use Rattle.std.proofs.lemmas.List.{append_assoc, take-append-drop, drop_at, take_at, length-take-le}
use Rattle.std.proofs.lemmas.List.Prefix.{at_from_reads, at_reads}
use Rattle.memchr.specs.Find.{OccursAt, Nowhere, NoneBefore}

-- a needle that occurs behind the front of the text stands there
pub stands_from_occurs : (text needle : List ℕ) (k : ℕ) → OccursAt text needle k → text ≡ take k text ++ needle ++ drop (k + length needle) text
stands_from_occurs text needle k occurs =
    sym (take-append-drop k text)
    ∙ ap (λ back. take k text ++ back) (at_from_reads 0 text needle k occurs.fits occurs.reads)
    ∙ sym (append_assoc (take k text) needle (drop (k + length needle) text))

-- the text up to where an occurrence ends
pub front_from_occurs : (text needle : List ℕ) (k : ℕ) → OccursAt text needle k → take (k + length needle) text ≡ take k text ++ needle
front_from_occurs text needle k occurs =
    let short : k ≤ length text = omega (arith, occurs.fits) in
    let size = length-append (take k text) needle ∙ ap (λ n. n + length needle) (length-take-le k text short) in
    ap (take (k + length needle)) (stands_from_occurs text needle k occurs) ∙ take_at (take k text ++ needle) _ (k + length needle) size

-- a needle that stands behind a front occurs at the front's length
pub occurs_from_stands : (text needle before after : List ℕ) → text ≡ before ++ needle ++ after → OccursAt text needle (length before)
occurs_from_stands text needle before after stands =
    let whole = stands ∙ append_assoc before needle after in
    record {
      fits = omega (arith, simp length-append at (ap length stands));
      reads = at_reads 0 text needle (length before) after (ap (drop (length before)) whole ∙ drop_at before (needle ++ after) (length before) refl);
    }

-- a needle that occurs nowhere stands nowhere
pub stands_nowhere : (text needle : List ℕ) → Nowhere (OccursAt text needle) 0 (length text + 1) → (before after : List ℕ)
    → text ≡ before ++ needle ++ after → ⊥
stands_nowhere text needle nowhere before after stands =
    nowhere (length before) (omega arith) (omega (arith, simp length-append at (ap length stands))) (occurs_from_stands text needle before after stands)

-- a needle stands behind no shorter front than where it occurs first
pub stands_no_earlier : (text needle : List ℕ) (k : ℕ) → NoneBefore (OccursAt text needle) 0 (length text + 1) k → (before after : List ℕ)
    → text ≡ before ++ needle ++ after → k ≤ length before
stands_no_earlier text needle k first before after stands =
    elim (cases_lt (length before) k) [
      | inl earlier ↦ absurd (first.before (length before) (omega arith) earlier (occurs_from_stands text needle before after stands))
      | inr later ↦ later
    ]
