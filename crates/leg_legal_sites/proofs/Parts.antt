-- The free sites of a row in parts.
use Rattle.std.proofs.Common.{◌≡◌, ◌↔◌, ◌⊎◌, ℕ, zero, suc, ◌+◌, ◌-◌, ◌<◌, ◌≤◌, List, [], ◌∷◌, ◌++◌, length, get_or, set, None, Some, slice_get, All, Contains, inl, inr, refl, sym, ap, ◌∙◌, arith, length-set, length-append, append_assoc, get_or-append-add}
use Rattle.std.specs.List.{insert, filter}
use Rattle.std.proofs.lemmas.List.{get_or_append_left}
use Rattle.std.proofs.lemmas.Bool.{cases_lt, cases_eq, cases_order}
use Rattle.std.proofs.lemmas.List.Elements.{Contains-append_left, Contains-append_right, Contains-append_cases}
use Rattle.std.proofs.lemmas.Option.{same_Some, none-some, slice_get_within, slice_get_past, slice_get-get_or, get_or_from_slice_get, slice_get_read}
use Rattle.leg_lemmas.proofs.Places.{set_elsewhere}
use Rattle.leg_legal_sites.specs.declared.stretch.Stretch.{Stretch}
use Rattle.leg_legal_sites.specs.Steps.Stretches.{IsWithout, IsFreeSite, AreFreeSites, AreFreeStretches}
use Rattle.leg_legal_sites.specs.Steps.Parts.{all_of, AreInRow, AreNoMoreThan, AreMeasured, IsPartSpan, LosesSites, AreFewer, AreLostUpTo, AreAllFewer, has_any, DoEndBy, DoBeginBeyond, LieBefore, LieBeyond, NoneFitsBefore, NoneFitsFrom}
use Rattle.leg_legal_sites.specs.Steps.Nearest.{FitsFrom, FitsUpTo, IsFirstFit, IsLast}
use Rattle.leg_legal_sites.proofs.OneStretch.{apart_at, long_at, one_stretch}
use Rattle.leg_legal_sites.proofs.ListPlaces.{slice_get-set_same, slice_get-set_other, set_there}

-- a stretch of the list has the site
pub site_of : (free : List Stretch) (s : Stretch) (k : ℕ) → Contains free s → s.from ≤ k → k < s.end → IsFreeSite free k
site_of free s k (i, within, is) above below =
    record { number = i; stretch = s; there = slice_get_read free _ i s refl within (sym is); above = above; below = below }

has_stretch : (free : List Stretch) (k : ℕ) (site : IsFreeSite free k) → Contains free site.stretch
has_stretch free k site =
    (site.number, slice_get_within free site.number site.stretch site.there, get_or_from_slice_get free site.number site.stretch site.stretch site.there)

pub free_left : (p q : List Stretch) (k : ℕ) → IsFreeSite p k → IsFreeSite (p ++ q) k
free_left p q k site = site_of (p ++ q) site.stretch k (Contains-append_left p q site.stretch (has_stretch p k site)) site.above site.below

pub free_right : (p q : List Stretch) (k : ℕ) → IsFreeSite q k → IsFreeSite (p ++ q) k
free_right p q k site = site_of (p ++ q) site.stretch k (Contains-append_right p q site.stretch (has_stretch q k site)) site.above site.below

pub free_either : (p q : List Stretch) (k : ℕ) → IsFreeSite (p ++ q) k → IsFreeSite p k ⊎ IsFreeSite q k
free_either p q k site = elim (Contains-append_cases p q site.stretch (has_stretch (p ++ q) k site)) [
  | inl left ↦ inl (site_of p site.stretch k left site.above site.below)
  | inr right ↦ inr (site_of q site.stretch k right site.above site.below)
]

-- a site is free in a part
pub record IsFreeInPart (parts : List (List Stretch)) (k : ℕ) : Type 0 where
  pub number : ℕ
  pub part : List Stretch
  pub there : slice_get parts number ≡ Some part
  pub site : IsFreeSite part k

pub in_part : (parts : List (List Stretch)) (k : ℕ) → IsFreeSite (all_of parts) k → IsFreeInPart parts k
in_part [] k site = absurd (none-some site.stretch site.there)
in_part (p ∷ ps) k site = elim (free_either p (all_of ps) k site) [
  | inl here ↦ record { number = 0; part = p; there = refl; site = here }
  | inr later ↦ let rest = in_part ps k later in record { number = suc rest.number; part = rest.part; there = rest.there; site = rest.site }
]

pub from_part : (parts : List (List Stretch)) (k number : ℕ) (part : List Stretch) → slice_get parts number ≡ Some part → IsFreeSite part k
    → IsFreeSite (all_of parts) k
from_part [] k number part there site = absurd (none-some part there)
from_part (p ∷ ps) k zero part there site = let one : part ≡ p = same_Some part p (sym there) in free_left p (all_of ps) k (rw one at site)
from_part (p ∷ ps) k (suc n) part there site = free_right p (all_of ps) k (from_part ps k n part there site)

-- a free run of sites lies in one part
pub record AreInOnePart (parts : List (List Stretch)) (many first : ℕ) : Type 0 where
  pub number : ℕ
  pub part : List Stretch
  pub there : slice_get parts number ≡ Some part
  pub sites : AreFreeSites part many first

module _ (parts : List (List Stretch)) (in_row : AreInRow parts) where
  next_in : (i : ℕ) (p : List Stretch) (k : ℕ) → slice_get parts i ≡ Some p → IsFreeSite p k → IsFreeSite (all_of parts) (k + 1) → IsFreeSite p (k + 1)
  next_in i p k at site next =
      let other = in_part parts (k + 1) next in
      elim (cases_order i other.number) [
        | inl same ↦ let one : other.part ≡ p = same_Some other.part p (sym other.there ∙ ap (slice_get parts) (sym same) ∙ at) in rw one at other.site
        | inr differ ↦ elim differ [
          | inl before ↦ absurd (omega (arith, in_row i other.number p other.part k (k + 1) before at other.there site other.site))
          | inr after ↦ absurd (omega (arith, in_row other.number i other.part p (k + 1) k after other.there at other.site site))
        ]
      ]

  all_in : (i : ℕ) (p : List Stretch) (many first : ℕ) → slice_get parts i ≡ Some p → IsFreeSite p first → AreFreeSites (all_of parts) many first → (n : ℕ)
      → n < many → IsFreeSite p (first + n)
  all_in i p many first at site sites zero below = let same : first + 0 ≡ first = omega arith in rw same site
  all_in i p many first at site sites (suc n) below =
      let next : first + suc n ≡ first + n + 1 = omega arith in
      rw next (next_in i p (first + n) at (all_in i p many first at site sites n (omega (arith, below)))
      (sites (first + n + 1) (omega arith) (omega (arith, below))))

  pub one_part : (many first : ℕ) → 1 ≤ many → AreFreeSites (all_of parts) many first → AreInOnePart parts many first
  one_part many first some sites =
      let at = in_part parts first (sites first (omega arith) (omega (arith, some))) in record {
        number = at.number;
        part = at.part;
        there = at.there;
        sites = λ k above below.
            let is : first + (k - first) ≡ k = omega (arith, above) in
            rw is at (all_in at.number at.part many first at.there at.site sites (k - first) (omega (arith, above, below)));
      }

  -- fewer free sites are in a row too
  pub in_row_fewer : (new : List (List Stretch)) → AreAllFewer parts new → AreInRow new
  in_row_fewer new fewer i j p q k m order at_i at_j free_k free_m =
      let was_i = fewer i p at_i in
      let was_j = fewer j q at_j in
      in_row i j was_i.0 was_j.0 k m order was_i.1 was_j.1 (was_i.2 k free_k) (was_j.2 m free_m)

-- no stretch is longer
pub measured : (free : List Stretch) (most : ℕ) → AreFreeStretches free → All (λ s. s.end - s.from ≤ most) free → AreNoMoreThan most free
measured free most are each many first sites =
    elim (cases_eq many 0) [
      | inl none ↦ omega (arith, none)
      | inr some ↦
          let lie = one_stretch free many first are (omega (arith, some)) sites in
          let s : Stretch = lie.1.stretch in
          let within = slice_get_within free lie.0 s lie.1.there in
          let is : get_or free lie.0 s ≡ s = get_or_from_slice_get free lie.0 s s lie.1.there in
          let long : s.end - s.from ≤ most = let h = each lie.0 s within in rw is at h in
          omega (arith, long, lie.1.above, lie.1.below)
    ]

-- the first and the last stretch have the first and the last free site
module _ (free : List Stretch) (are : AreFreeStretches free) (first last : Stretch) (at_first : slice_get free 0 ≡ Some first)
    (at_last : slice_get free (length free - 1) ≡ Some last) where
  pub from_first : (k : ℕ) → IsFreeSite free k → first.from ≤ k
  from_first k site =
      elim (cases_eq site.number 0) [
        | inl same ↦
            let one : site.stretch ≡ first = same_Some site.stretch first (sym site.there ∙ ap (slice_get free) same ∙ at_first) in
            let from : site.stretch.from ≡ first.from = ap (λ (s : Stretch). s.from) one in
            omega (arith, from, site.above)
        | inr later ↦
            let long = long_at free are 0 first at_first in
            let apart = apart_at free are 0 site.number first site.stretch at_first site.there (omega (arith, later)) in
            omega (arith, long, apart, site.above)
      ]

  pub below_last : (k : ℕ) → IsFreeSite free k → k < last.end
  below_last k site =
      let within = slice_get_within free site.number site.stretch site.there in
      elim (cases_eq site.number (length free - 1)) [
        | inl same ↦
            let one : site.stretch ≡ last = same_Some site.stretch last (sym site.there ∙ ap (slice_get free) same ∙ at_last) in
            let end : site.stretch.end ≡ last.end = ap (λ (s : Stretch). s.end) one in
            omega (arith, end, site.below)
        | inr earlier ↦
            let long = long_at free are (length free - 1) last at_last in
            let apart = apart_at free are site.number (length free - 1) site.stretch last site.there at_last (omega (arith, earlier, within)) in
            omega (arith, long, apart, site.below)
      ]

  -- all lie beside what is taken
  pub beside_kept : (from end : ℕ) → (end ≤ first.from) ⊎ (last.end ≤ from) → LosesSites free from end free
  beside_kept from end side k = (
    λ site.
        let above = from_first k site in
        let below = below_last k site in (
          site,
          elim side [
            | inl later ↦ inr (omega (arith, later, above))
            | inr earlier ↦ inl (omega (arith, earlier, below))
          ],
        ),
    λ both. both.0,
  )

  pub ends_by : (site : ℕ) → last.end ≤ site → DoEndBy free site
  ends_by site upto =
      let long = long_at free are (length free - 1) last at_last in record {
        one = last.from;
        there = record { number = length free - 1; stretch = last; there = at_last; above = omega arith; below = long };
        before = λ k free_k. let below = below_last k free_k in omega (arith, below, upto);
      }

  pub begins_beyond : (site : ℕ) → site < first.from → DoBeginBeyond free site
  begins_beyond site under =
      let long = long_at free are 0 first at_first in record {
        one = first.from;
        there = record { number = 0; stretch = first; there = at_first; above = omega arith; below = long };
        beyond = λ k free_k. let above = from_first k free_k in omega (arith, above, under);
      }

  pub span_is : (most : ℕ) → AreNoMoreThan most free → IsPartSpan free (record { from = first.from; end = last.end; longest = most })
  span_is most longest =
      let begins = long_at free are 0 first at_first in
      let ends = long_at free are (length free - 1) last at_last in record {
        first = record { number = 0; stretch = first; there = at_first; above = omega arith; below = begins };
        last = record { number = length free - 1; stretch = last; there = at_last; above = omega (arith, ends); below = omega (arith, ends) };
        some = omega (arith, ends);
        above = from_first;
        below = below_last;
        longest = longest;
      }

pub none_free : (free : List Stretch) → length free ≡ 0 → (k : ℕ) → ¬ IsFreeSite free k
none_free free none k site = omega (arith, none, slice_get_within free site.number site.stretch site.there)

pub none_loses : (free : List Stretch) (from end : ℕ) → length free ≡ 0 → LosesSites free from end free
none_loses free from end none k = (λ site. absurd (none_free free none k site), λ both. both.0)

-- the same, told of what follows one another
abbrev InRow : List (List Stretch) → Type 0
InRow [] = Unit {0}
InRow (p ∷ ps) = ((k m : ℕ) → IsFreeSite p k → IsFreeSite (all_of ps) m → k + 1 < m) × InRow ps

one_by_one : (parts : List (List Stretch)) → AreInRow parts → InRow parts
one_by_one [] in_row = tt
one_by_one (p ∷ ps) in_row = (
  λ k m first rest. let at = in_part ps m rest in in_row 0 (suc at.number) p at.part k m (omega arith) refl at.there first at.site,
  one_by_one ps (λ i j q r k m order at_i at_j. in_row (suc i) (suc j) q r k m (omega (arith, order)) at_i at_j),
)

by_number : (parts : List (List Stretch)) → InRow parts → AreInRow parts
by_number [] in_row i j q r k m order at_i at_j free_q free_r = absurd (none-some q at_i)
by_number (p ∷ ps) in_row i zero q r k m order at_i at_j free_q free_r = absurd (omega (arith, order))
by_number (p ∷ ps) in_row zero (suc j) q r k m order at_i at_j free_q free_r =
    let one : q ≡ p = same_Some q p (sym at_i) in
    in_row.0 k m (rw one at free_q) (from_part ps m j r at_j free_r)
by_number (p ∷ ps) in_row (suc i) (suc j) q r k m order at_i at_j free_q free_r =
    by_number ps in_row.1 i j q r k m (omega (arith, order)) at_i at_j free_q free_r

-- one part is cut into two
abbrev cut_at : List (List Stretch) → ℕ → List Stretch → List Stretch → List (List Stretch)
cut_at [] i a b = []
cut_at (p ∷ ps) zero a b = a ∷ b ∷ ps
cut_at (p ∷ ps) (suc i) a b = p ∷ cut_at ps i a b

all_of_cut : (ps : List (List Stretch)) (i : ℕ) (p a b : List Stretch) → slice_get ps i ≡ Some p → a ++ b ≡ p → all_of (cut_at ps i a b) ≡ all_of ps
all_of_cut [] i p a b at both = refl
all_of_cut (q ∷ ps) zero p a b at both =
    let one : q ≡ p = same_Some q p at in
    sym (append_assoc a b (all_of ps)) ∙ ap (λ l. l ++ all_of ps) (both ∙ sym one)
all_of_cut (q ∷ ps) (suc i) p a b at both = ap (λ l. q ++ l) (all_of_cut ps i p a b at both)

-- the stretches of the two halves of a list lie apart
halves_apart : (a b : List Stretch) → AreFreeStretches (a ++ b) → (k m : ℕ) → IsFreeSite a k → IsFreeSite b m → k + 1 < m
halves_apart a b are k m first second =
    let i = first.number in
    let j = length a + second.number in
    let within = slice_get_within a i first.stretch first.there in
    let beyond = slice_get_within b second.number second.stretch second.there in
    let at_i : slice_get (a ++ b) i ≡ Some first.stretch =
    slice_get_read (a ++ b) _ i first.stretch refl (omega (arith, within, length-append a b))
    (sym (get_or_append_left a b first.stretch i within ∙ get_or_from_slice_get a i first.stretch first.stretch first.there)) in
    let at_j : slice_get (a ++ b) j ≡ Some second.stretch =
    slice_get_read (a ++ b) _ j second.stretch refl (omega (arith, beyond, length-append a b))
    (sym (get_or-append-add a b second.number second.stretch ∙ get_or_from_slice_get b second.number second.stretch second.stretch second.there)) in
    let apart = apart_at (a ++ b) are i j first.stretch second.stretch at_i at_j (omega (arith, within)) in
    omega (arith, first.below, second.above, apart)

in_row_cut : (ps : List (List Stretch)) (i : ℕ) (p a b : List Stretch) → slice_get ps i ≡ Some p → a ++ b ≡ p → AreFreeStretches p → InRow ps
    → InRow (cut_at ps i a b)
in_row_cut [] i p a b at both are in_row = tt
in_row_cut (q ∷ ps) zero p a b at both are in_row =
    let one : q ≡ p = same_Some q p at in
    let whole : q ≡ a ++ b = one ∙ sym both in (
      λ k m first rest. elim (free_either b (all_of ps) m rest) [
        | inl second ↦ halves_apart a b (rw both are) k m first second
        | inr later ↦ in_row.0 k m (rw whole (free_left a b k first)) later
      ],
      (λ k m second later. in_row.0 k m (rw whole (free_right a b k second)) later, in_row.1),
    )
in_row_cut (q ∷ ps) (suc i) p a b at both are in_row = (
  λ k m first rest. in_row.0 k m first (let same = all_of_cut ps i p a b at both in rw same at rest),
  in_row_cut ps i p a b at both are in_row.1,
)

insert_is : (ps : List (List Stretch)) (i : ℕ) (p a b : List Stretch) → slice_get ps i ≡ Some p → insert (set ps i a) (i + 1) b ≡ cut_at ps i a b
insert_is [] i p a b at = absurd (none-some p at)
insert_is (q ∷ ps) zero p a b at = refl
insert_is (q ∷ ps) (suc i) p a b at =
    let next : suc i + 1 ≡ suc (i + 1) = omega arith in
    rw next (ap (λ l. q ∷ l) (insert_is ps i p a b at))

module _ (ps : List (List Stretch)) (i : ℕ) (p a b : List Stretch) (at : slice_get ps i ≡ Some p) (both : a ++ b ≡ p) where
  pub cut_all : all_of (insert (set ps i a) (i + 1) b) ≡ all_of ps
  cut_all = ap all_of (insert_is ps i p a b at) ∙ all_of_cut ps i p a b at both

  pub cut_in_row : AreFreeStretches p → AreInRow ps → AreInRow (insert (set ps i a) (i + 1) b)
  cut_in_row are in_row =
      let is = insert_is ps i p a b at in
      rw is (by_number (cut_at ps i a b) (in_row_cut ps i p a b at both are (one_by_one ps in_row)))

-- parts before a place that lie before the sites have none to lose
pub lost_none : (from end first : ℕ) (parts : List (List Stretch)) → LieBefore parts first from → AreLostUpTo from end first parts parts
lost_none from end first parts before = record {
  count = refl;
  same = λ n upto. refl;
  each = λ n p below at. (p, at, λ k. (λ site. (site, inl (before n k p below at site)), λ both. both.0));
}

-- parts that have lost sites
module _ (from end : ℕ) (old new : List (List Stretch)) where
  -- nor have those from a place on that lie beyond the sites
  pub lost_rest : (last i : ℕ) → last ≤ i → LieBeyond old last end → AreLostUpTo from end i old new → AreLostUpTo from end (length old) old new
  lost_rest last i upto beyond lost = record {
    count = lost.count;
    same = λ n late. slice_get_past new n (let count = lost.count in omega (arith, late, count)) ∙ sym (slice_get_past old n late);
    each = λ n p below at. elim (cases_lt n i) [
      | inl early ↦ lost.each n p early at
      | inr late ↦ (
        p,
        lost.same n late ∙ at,
        λ k. (λ site. (site, inr (let far = beyond n k p (omega (arith, upto, late)) at site in omega (arith, far))), λ both. both.0),
      )
    ];
  }

  -- what a part was that has lost sites
  lost_part : (i n : ℕ) (q : List Stretch) → AreLostUpTo from end i old new → n < i → slice_get new n ≡ Some q
      → (p : List Stretch) × (slice_get old n ≡ Some p) × LosesSites p from end q
  lost_part i n q lost before at =
      let within = slice_get_within new n q at in
      let p : List Stretch = get_or old n q in
      let was : slice_get old n ≡ Some p = slice_get-get_or old n q (omega (arith, within, lost.count)) in
      let each = lost.each n p before was in
      let one : each.0 ≡ q = same_Some each.0 q (sym each.1 ∙ at) in
      (p, was, rw one at each.2)

  pub lost_fewer : (i : ℕ) → AreLostUpTo from end i old new → AreAllFewer old new
  lost_fewer i lost n q at = elim (cases_lt n i) [
    | inl before ↦ let was = lost_part i n q lost before at in (was.0, was.1, λ k site. ((was.2 k).0 site).0)
    | inr from ↦ (q, sym (lost.same n from) ∙ at, λ k site. site)
  ]

  pub lost_all : AreLostUpTo from end (length old) old new → LosesSites (all_of old) from end (all_of new)
  lost_all lost k = (
    λ site.
        let at = in_part new k site in
        let within = slice_get_within new at.number at.part at.there in
        let was = lost_part (length old) at.number at.part lost (omega (arith, within, lost.count)) at.there in
        let both = (was.2 k).0 at.site in
        (from_part old k at.number was.0 was.1 both.0, both.1),
    λ both.
        let at = in_part old k both.0 in
        let each = lost.each at.number at.part (slice_get_within old at.number at.part at.there) at.there in
        from_part new k at.number each.0 each.1 ((each.2 k).1 (at.site, both.1)),
  )

-- one more part has lost sites
pub lost_more : (from end i : ℕ) (old mid : List (List Stretch)) (p q : List Stretch) → slice_get mid i ≡ Some p → LosesSites p from end q
    → AreLostUpTo from end i old mid → AreLostUpTo from end (i + 1) old (set mid i q)
lost_more from end i old mid p q at loses lost = record {
  count = length-set mid i q ∙ lost.count;
  same = λ n upto. set_elsewhere mid i n q (λ same. omega (arith, upto, same)) ∙ lost.same n (omega (arith, upto));
  each = λ n r before was. elim (cases_eq n i) [
    | inl same ↦
        let here : slice_get mid n ≡ Some p = ap (slice_get mid) same ∙ at in
        let one : r ≡ p = same_Some r p (sym was ∙ sym (lost.same n (omega (arith, same))) ∙ here) in
        (q, set_there mid i n p q same here, rw one loses)
    | inr differ ↦
        let each = lost.each n r (omega (arith, before, differ)) was in
        (each.0, set_elsewhere mid i n q (λ same. differ (sym same)) ∙ each.1, each.2)
  ];
}

-- one more part lies beside what is taken
pub lost_beside : (from end i : ℕ) (old mid : List (List Stretch)) (p : List Stretch) → slice_get mid i ≡ Some p → LosesSites p from end p
    → AreLostUpTo from end i old mid → AreLostUpTo from end (i + 1) old mid
lost_beside from end i old mid p at loses lost = record {
  count = lost.count;
  same = λ n upto. lost.same n (omega (arith, upto));
  each = λ n r before was. elim (cases_eq n i) [
    | inl same ↦
        let here : slice_get mid n ≡ Some p = ap (slice_get mid) same ∙ at in
        let one : r ≡ p = same_Some r p (sym was ∙ sym (lost.same n (omega (arith, same))) ∙ here) in
        (p, here, rw one loses)
    | inr differ ↦ lost.each n r (omega (arith, before, differ)) was
  ];
}

-- the parts in which none fits
module _ (parts : List (List Stretch)) (in_row : AreInRow parts) (many : ℕ) (some : 1 ≤ many) where
  pub first_in_all : (least i first : ℕ) (p : List Stretch) → NoneFitsBefore parts many least i → slice_get parts i ≡ Some p
      → IsFirstFit (FitsFrom p many least) (Some first) → IsFirstFit (FitsFrom (all_of parts) many least) (Some first)
  first_in_all least i first p none at is = (
    record { sites = λ k above below. from_part parts k i p at (is.0.sites k above below); above = is.0.above },
    λ k fits.
        let one = one_part parts in_row many k some fits.sites in
        elim (cases_order i one.number) [
          | inl same ↦
              let here : one.part ≡ p = same_Some one.part p (sym one.there ∙ ap (slice_get parts) (sym same) ∙ at) in
              is.1 k (record { sites = rw here at one.sites; above = fits.above })
          | inr differ ↦ elim differ [
            | inl before ↦
                let apart =
                in_row i one.number p one.part first k before at one.there (is.0.sites first (omega arith) (omega (arith, some)))
                (one.sites k (omega arith) (omega (arith, some))) in
                omega (arith, apart)
            | inr after ↦ absurd (none one.number k one.part after one.there (record { sites = one.sites; above = fits.above }))
          ]
        ],
  )

  pub none_in_all : (least i : ℕ) → length parts ≤ i → NoneFitsBefore parts many least i → IsFirstFit (FitsFrom (all_of parts) many least) None
  none_in_all least i all none k fits =
      let one = one_part parts in_row many k some fits.sites in
      none one.number k one.part (let within = slice_get_within parts one.number one.part one.there in omega (arith, within, all)) one.there
      (record { sites = one.sites; above = fits.above })

  pub last_in_all : (most i last : ℕ) (p : List Stretch) → NoneFitsFrom parts many most (i + 1) → slice_get parts i ≡ Some p
      → IsLast (FitsUpTo p many most) (Some last) → IsLast (FitsUpTo (all_of parts) many most) (Some last)
  last_in_all most i last p none at is = (
    record { sites = λ k above below. from_part parts k i p at (is.0.sites k above below); upto = is.0.upto },
    λ k fits.
        let one = one_part parts in_row many k some fits.sites in
        elim (cases_order i one.number) [
          | inl same ↦
              let here : one.part ≡ p = same_Some one.part p (sym one.there ∙ ap (slice_get parts) (sym same) ∙ at) in
              is.1 k (record { sites = rw here at one.sites; upto = fits.upto })
          | inr differ ↦ elim differ [
            | inl before ↦ absurd (none one.number k one.part (omega (arith, before)) one.there (record { sites = one.sites; upto = fits.upto }))
            | inr after ↦
                let apart =
                in_row one.number i one.part p k last after one.there at (one.sites k (omega arith) (omega (arith, some)))
                (is.0.sites last (omega arith) (omega (arith, some))) in
                omega (arith, apart)
          ]
        ],
  )

  pub none_last_in_all : (most : ℕ) → NoneFitsFrom parts many most 0 → IsLast (FitsUpTo (all_of parts) many most) None
  none_last_in_all most none k fits =
      let one = one_part parts in_row many k some fits.sites in
      none one.number k one.part (omega arith) one.there (record { sites = one.sites; upto = fits.upto })

module _ (parts : List (List Stretch)) (many i : ℕ) (p : List Stretch) (at : slice_get parts i ≡ Some p) where
  pub none_more : (least : ℕ) → ((k : ℕ) → ¬ FitsFrom p many least k) → NoneFitsBefore parts many least i → NoneFitsBefore parts many least (i + 1)
  none_more least here none n first q before there fits = elim (cases_lt n i) [
    | inl earlier ↦ none n first q earlier there fits
    | inr late ↦
        let same : n ≡ i = omega (arith, before, late) in
        let one : q ≡ p = same_Some q p (sym there ∙ ap (slice_get parts) same ∙ at) in
        here first (rw one at fits)
  ]

  pub none_less : (most : ℕ) → ((k : ℕ) → ¬ FitsUpTo p many most k) → NoneFitsFrom parts many most (i + 1) → NoneFitsFrom parts many most i
  none_less most here none n first q upto there fits = elim (cases_eq n i) [
    | inl same ↦
        let one : q ≡ p = same_Some q p (sym there ∙ ap (slice_get parts) same ∙ at) in
        here first (rw one at fits)
    | inr differ ↦ none n first q (omega (arith, upto, differ)) there fits
  ]

-- the two halves of a list of stretches
module _ (most : ℕ) (a b : List Stretch) (whole : AreMeasured most (a ++ b)) where
  pub left_measured : AreMeasured most a
  left_measured = record {
    are = record {
      long = λ i d within.
          let e : get_or (a ++ b) i d ≡ get_or a i d = get_or_append_left a b d i within in
          let h = whole.are.long i d (omega (arith, within, length-append a b)) in rw e at h;
      apart = λ i j d order within.
          let e : get_or (a ++ b) i d ≡ get_or a i d = get_or_append_left a b d i (omega (arith, order, within)) in
          let f : get_or (a ++ b) j d ≡ get_or a j d = get_or_append_left a b d j within in
          let h = whole.are.apart i j d order (omega (arith, within, length-append a b)) in rw (e, f) at h;
    };
    longest = λ many first sites. whole.longest many first (λ k above below. free_left a b k (sites k above below));
  }

  pub right_measured : AreMeasured most b
  right_measured = record {
    are = record {
      long = λ i d within.
          let e : get_or (a ++ b) (length a + i) d ≡ get_or b i d = get_or-append-add a b i d in
          let h = whole.are.long (length a + i) d (omega (arith, within, length-append a b)) in rw e at h;
      apart = λ i j d order within.
          let e : get_or (a ++ b) (length a + i) d ≡ get_or b i d = get_or-append-add a b i d in
          let f : get_or (a ++ b) (length a + j) d ≡ get_or b j d = get_or-append-add a b j d in
          let h = whole.are.apart (length a + i) (length a + j) d (omega (arith, order)) (omega (arith, within, length-append a b)) in rw (e, f) at h;
    };
    longest = λ many first sites. whole.longest many first (λ k above below. free_right a b k (sites k above below));
  }

-- parts without a stretch are let go
pub all_of_some : (parts : List (List Stretch)) → all_of (filter has_any parts) ≡ all_of parts
all_of_some [] = refl
all_of_some ([] ∷ parts) = all_of_some parts
all_of_some ((s ∷ p) ∷ parts) = ap (λ l. (s ∷ p) ++ l) (all_of_some parts)

some_in_row : (parts : List (List Stretch)) → InRow parts → InRow (filter has_any parts)
some_in_row [] in_row = tt
some_in_row ([] ∷ parts) in_row = some_in_row parts in_row.1
some_in_row ((s ∷ p) ∷ parts) in_row = (
  λ k m first rest. in_row.0 k m first (let same = all_of_some parts in rw same at rest),
  some_in_row parts in_row.1,
)

pub in_row_some : (parts : List (List Stretch)) → AreInRow parts → AreInRow (filter has_any parts)
in_row_some parts in_row = by_number (filter has_any parts) (some_in_row parts (one_by_one parts in_row))

-- one part has fewer sites
pub set_fewer : (ps : List (List Stretch)) (i : ℕ) (p a : List Stretch) → slice_get ps i ≡ Some p → AreFewer p a → AreAllFewer ps (set ps i a)
set_fewer ps i p a at fewer n q there = elim (cases_eq n i) [
  | inl same ↦
      let one : q ≡ a = slice_get-set_same ps i n a q same there in
      (p, ap (slice_get ps) same ∙ at, rw one fewer)
  | inr differ ↦ (q, slice_get-set_other ps i n a q differ there, λ k site. site)
]

pub fewer_then : (old mid new : List (List Stretch)) → AreAllFewer old mid → AreAllFewer mid new → AreAllFewer old new
fewer_then old mid new first then n q at =
    let m = then n q at in
    let p = first n m.0 m.1 in
    (p.0, p.1, λ k site. p.2 k (m.2 k site))

pub loses_kept : (from end : ℕ) (a b c : List Stretch) → LosesSites a from end b → ((k : ℕ) → IsFreeSite c k ↔ IsFreeSite b k) → LosesSites a from end c
loses_kept from end a b c loses kept k = (λ site. (loses k).0 ((kept k).0 site), λ both. (kept k).1 ((loses k).1 both))

pub only_part : (p : List Stretch) (k : ℕ) → IsFreeSite (all_of (p ∷ [])) k ↔ IsFreeSite p k
only_part p k = (
  λ site. elim (free_either p [] k site) [ inl here ↦ here | inr none ↦ absurd (none-some none.stretch none.there) ],
  λ site. free_left p [] k site,
)

-- what is left of stretches is no longer than they were
pub measured_less : (most from end : ℕ) (old new : List Stretch) → AreMeasured most old → IsWithout old from end new → AreMeasured most new
measured_less most from end old new was without = record {
  are = without.are;
  longest = λ many first sites. was.longest many first (λ k above below. ((without.sites k).0 (sites k above below)).0);
}
