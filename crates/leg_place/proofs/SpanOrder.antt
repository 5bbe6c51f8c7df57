-- The order of spans of sites, and which of them have all sites of another one.
use Rattle.std.proofs.Common.{◌≡◌, true, false, IsTrue, ℤ, ◌≤ℤ◌, ◌<ℤ◌, Ordering, Less, Equal, Greater, refl, sym, ap, ◌∙◌, arith}
use Rattle.std.specs.Ordering.{is_eq, is_lt, is_gt, is_le, ordering_reverse, ordering_then, int_cmp, int_eq}
use Rattle.std.specs.Cmp.{IsTotalOrder}
use Rattle.std.proofs.lemmas.Bool.{true≢false, false≢true, and_parts, and_from, eqb-true, eq-eqb}
use Rattle.std.proofs.lemmas.Cmp.{upto, tied_itself, nat_cmp_total, int_cmp_total, on_total, then_total}
use Rattle.std.proofs.lemmas.Int.{ints, by_lt_z}
use Rattle.std.proofs.lemmas.Map.Lookups.{exact_unsigned, exact_signed}
use Rattle.leg_lemmas.proofs.Integers.{le_test, le_from_test, eq_from_test}
use Rattle.leg_place.specs.declared.site_span.SiteLine.{SiteLine}
use Rattle.leg_place.specs.declared.site_span.SiteSpan.{SiteSpan}
use Rattle.leg_place.specs.Steps.SiteSpan.{is_same_line, covers, line_cmp, begins_by}
use Rattle.leg_place.specs.Steps.RowSpans.{Precedes}

-- lines are in a total order, and so are the places where spans begin
pub line_total : IsTotalOrder line_cmp
line_total =
    then_total (on_total (λ (l : SiteLine). l.site) nat_cmp_total)
    (then_total (on_total (λ (l : SiteLine). l.orient) nat_cmp_total)
    (then_total (on_total (λ (l : SiteLine). l.bottom) int_cmp_total) (on_total (λ (l : SiteLine). l.shift) int_cmp_total)))

abbrev pub begin_cmp : SiteSpan → SiteSpan → Ordering
begin_cmp a b = ordering_then (line_cmp a.line b.line) (int_cmp a.left b.left)

pub begin_total : IsTotalOrder begin_cmp
begin_total = then_total (on_total (λ (s : SiteSpan). s.line) line_total) (on_total (λ (s : SiteSpan). s.left) int_cmp_total)

-- how spans are sorted
abbrev pub span_cmp : SiteSpan → SiteSpan → Ordering
span_cmp a b = ordering_then (line_cmp a.line b.line) (ordering_then (int_cmp a.left b.left) (int_cmp a.right b.right))

pub span_total : IsTotalOrder span_cmp
span_total =
    then_total (on_total (λ (s : SiteSpan). s.line) line_total)
    (then_total (on_total (λ (s : SiteSpan). s.left) int_cmp_total) (on_total (λ (s : SiteSpan). s.right) int_cmp_total))

-- what tests of an answer say
le_not_gt : (o : Ordering) → is_le o ≡ true → is_gt o ≡ false
le_not_gt Less t = refl
le_not_gt Equal t = refl
le_not_gt Greater t = absurd (false≢true t)

not_gt_le : (o : Ordering) → is_gt o ≡ false → is_le o ≡ true
not_gt_le Less t = refl
not_gt_le Equal t = refl
not_gt_le Greater t = absurd (true≢false t)

not_lt_le : (o p : Ordering) → p ≡ ordering_reverse o → is_lt o ≡ false → is_le p ≡ true
not_lt_le Less p e t = absurd (true≢false t)
not_lt_le Equal p e t = ap is_le e
not_lt_le Greater p e t = ap is_le e

both_not_gt : (o p : Ordering) → p ≡ ordering_reverse o → is_gt o ≡ false → is_gt p ≡ false → o ≡ Equal
both_not_gt Less p e t u = absurd (true≢false (sym (ap is_gt e) ∙ u))
both_not_gt Equal p e t u = refl
both_not_gt Greater p e t u = absurd (true≢false t)

-- the first part of an answer that isn't greater isn't greater
then_first : (o p : Ordering) → is_le (ordering_then o p) ≡ true → is_gt o ≡ false
then_first Less p t = refl
then_first Equal p t = refl
then_first Greater p t = absurd (false≢true t)

then_second : (o p : Ordering) → o ≡ Equal → is_le (ordering_then o p) ≡ true → is_le p ≡ true
then_second o p e t = sym (ap (λ q. is_le (ordering_then q p)) e) ∙ t

then_equal : (o p : Ordering) → ordering_then o p ≡ Equal → (o ≡ Equal) × (p ≡ Equal)
then_equal Less p e = absurd cc
then_equal Equal p e = (refl, e)
then_equal Greater p e = absurd cc

-- an answer of three parts that isn't less, by its first two
then_begin : (o p q : Ordering) → is_lt (ordering_then o (ordering_then p q)) ≡ false → is_lt (ordering_then o p) ≡ false
then_begin Less p q t = absurd (true≢false t)
then_begin Equal Less q t = absurd (true≢false t)
then_begin Equal Equal q t = refl
then_begin Equal Greater q t = refl
then_begin Greater p q t = refl

int_eq-same : (x y : ℤ) → x ≡ y → int_eq x y ≡ true
int_eq-same x y e = ap is_eq (ap (int_cmp x) (sym e) ∙ tied_itself int_cmp_total x)

upto_from_answer : (a b : ℤ) → is_le (int_cmp a b) ≡ true → a ≤ℤ b
upto_from_answer a b test = grind (arith, ints)

upto_answer : (a b : ℤ) → a ≤ℤ b → is_le (int_cmp a b) ≡ true
upto_answer a b upto = grind (arith, ints)

-- lines of equal parts are one
pub same_parts : (a b : SiteLine) → a.site ≡ b.site → a.orient ≡ b.orient → a.bottom ≡ b.bottom → a.shift ≡ b.shift → a ≡ b
same_parts a b site orient bottom shift = λ i. record { site = site i; orient = orient i; bottom = bottom i; shift = shift i }

same_line : (a b : SiteLine) → is_same_line a b ≡ true → a ≡ b
same_line a b test =
    let site = and_parts _ _ test in
    let orient = and_parts _ _ site.1 in
    let rest = and_parts _ _ orient.1 in
    same_parts a b (eqb-true a.site b.site site.0) (eqb-true a.orient b.orient orient.0) (eq_from_test a.bottom b.bottom rest.0)
    (eq_from_test a.shift b.shift rest.1)

same_line_test : (a b : SiteLine) → a ≡ b → is_same_line a b ≡ true
same_line_test a b same =
    and_from _ _ (eq-eqb a.site b.site (ap (λ l. l.site) same))
    (and_from _ _ (eq-eqb a.orient b.orient (ap (λ l. l.orient) same))
    (and_from _ _ (int_eq-same a.bottom b.bottom (ap (λ l. l.bottom) same)) (int_eq-same a.shift b.shift (ap (λ l. l.shift) same))))

line_tied : (a b : SiteLine) → line_cmp a b ≡ Equal → a ≡ b
line_tied a b e =
    let site = then_equal _ _ e in
    let orient = then_equal _ _ site.1 in
    let rest = then_equal _ _ orient.1 in
    same_parts a b (exact_unsigned a.site b.site site.0) (exact_unsigned a.orient b.orient orient.0) (exact_signed a.bottom b.bottom rest.0)
    (exact_signed a.shift b.shift rest.1)

-- what it means that a span has all sites of another
pub record Reaches (a b : SiteSpan) : Type 0 where
  pub line : a.line ≡ b.line
  pub left : a.left ≤ℤ b.left
  pub right : b.right ≤ℤ a.right

pub reaches_from_covers : (a b : SiteSpan) → IsTrue (covers a b) → Reaches a b
reaches_from_covers a b test =
    let right = and_parts _ _ test in
    let left = and_parts _ _ right.0 in
    record { line = same_line a.line b.line left.0; left = le_from_test a.left b.left left.1; right = le_from_test b.right a.right right.1 }

pub covers_from_reaches : (a b : SiteSpan) → Reaches a b → IsTrue (covers a b)
covers_from_reaches a b r =
    and_from _ _ (and_from _ _ (same_line_test a.line b.line r.line) (le_test a.left b.left r.left)) (le_test b.right a.right r.right)

pub covers-itself : (a : SiteSpan) → IsTrue (covers a a)
covers-itself a = covers_from_reaches a a (record { line = refl; left = omega (arith, ints); right = omega (arith, ints) })

pub covers-trans : (a b c : SiteSpan) → IsTrue (covers a b) → IsTrue (covers b c) → IsTrue (covers a c)
covers-trans a b c ab bc =
    let r = reaches_from_covers a b ab in
    let s = reaches_from_covers b c bc in
    covers_from_reaches a c (record { line = r.line ∙ s.line; left = omega (arith, ints, r.left, s.left); right = omega (arith, ints, r.right, s.right) })

-- where spans begin
pub begins_by-itself : (a : SiteSpan) → IsTrue (begins_by a a)
begins_by-itself a = ap is_le (tied_itself begin_total a)

pub begins_by-trans : (a b c : SiteSpan) → IsTrue (begins_by a b) → IsTrue (begins_by b c) → IsTrue (begins_by a c)
begins_by-trans a b c ab bc = not_gt_le (begin_cmp a c) (upto begin_total a b c (le_not_gt (begin_cmp a b) ab) (le_not_gt (begin_cmp b c) bc))

pub begins_from_sort : (a b : SiteSpan) → is_lt (span_cmp b a) ≡ false → IsTrue (begins_by a b)
begins_from_sort a b test =
    not_lt_le (begin_cmp b a) (begin_cmp a b) (begin_total.antisymm a b)
    (then_begin (line_cmp b.line a.line) (int_cmp b.left a.left) (int_cmp b.right a.right) test)

-- within a line it is told by the left edges
pub begins_left : (a b : SiteSpan) → a.line ≡ b.line → IsTrue (begins_by a b) → a.left ≤ℤ b.left
begins_left a b same begins =
    let tied : line_cmp a.line b.line ≡ Equal = ap (line_cmp a.line) (sym same) ∙ tied_itself line_total a.line in
    upto_from_answer a.left b.left (then_second (line_cmp a.line b.line) (int_cmp a.left b.left) tied begins)

pub begins_from_left : (a b : SiteSpan) → a.line ≡ b.line → a.left ≤ℤ b.left → IsTrue (begins_by a b)
begins_from_left a b same left =
    let tied : line_cmp a.line b.line ≡ Equal = ap (line_cmp a.line) (sym same) ∙ tied_itself line_total a.line in
    ap (λ o. is_le (ordering_then o (int_cmp a.left b.left))) tied ∙ upto_answer a.left b.left left

-- what lies between two spans of one line is of that line
pub line_between : (a b c : SiteSpan) → IsTrue (begins_by a b) → IsTrue (begins_by b c) → a.line ≡ c.line → a.line ≡ b.line
line_between a b c ab bc same =
    let up : is_gt (line_cmp a.line b.line) ≡ false = then_first (line_cmp a.line b.line) (int_cmp a.left b.left) ab in
    let down : is_gt (line_cmp b.line c.line) ≡ false = then_first (line_cmp b.line c.line) (int_cmp b.left c.left) bc in
    let back : is_gt (line_cmp b.line a.line) ≡ false = ap (λ l. is_gt (line_cmp b.line l)) same ∙ down in
    line_tied a.line b.line (both_not_gt (line_cmp a.line b.line) (line_cmp b.line a.line) (line_total.antisymm b.line a.line) up back)

-- a span that begins later in the line and isn't covered reaches further
beyond : (a b : SiteSpan) → a.line ≡ b.line → a.left ≤ℤ b.left → covers a b ≡ false → a.right <ℤ b.right
beyond a b same left out =
    by_lt_z a.right b.right (λ further. further)
    (λ within. absurd (false≢true (sym out ∙ covers_from_reaches a b (record { line = same; left = left; right = within }))))

pub Precedes-itself : (a : SiteSpan) → Precedes a a
Precedes-itself a = record { begins = begins_by-itself a; reaches = λ same. omega (arith, ints) }

-- a span that another one before it doesn't cover comes before what the later one precedes
pub precedes_through : (a b c : SiteSpan) → IsTrue (begins_by a b) → covers a b ≡ false → Precedes b c → Precedes a c
precedes_through a b c begins out next = record {
  begins = begins_by-trans a b c begins next.begins;
  reaches = λ same.
      let first = line_between a b c begins next.begins same in
      let further : a.right <ℤ b.right = beyond a b first (begins_left a b first begins) out in
      let on = next.reaches (sym first ∙ same) in
      omega (arith, ints, further, on);
}
