-- Whether a macro stands on the sites of some row, by the spans of the rows.
use Rattle.std.proofs.Common.{◌≡◌, ◌↔◌, ◌≤◌, ℕ, Bool, true, false, not, IsTrue, List, Some, None, slice_get, length, refl, sym, ap, ◌∙◌, arith}
use Rattle.std.proofs.lemmas.Bool.{false≢true}
use Rattle.std.proofs.lemmas.List.Elements.{All-contains}
use Rattle.std.proofs.lemmas.Option.{same_Some, none-some, slice_get_within}
use Rattle.leg_geom.specs.Plane.{RectModel}
use Rattle.leg_geom.specs.declared.orient.Orient.{Orient}
use Rattle.leg_geom.specs.declared.place.Place.{Place}
use Rattle.leg_lib_records.specs.declared.records.Site.{Site}
use Rattle.leg_lib_records.specs.Measure.{ExtentModel, HasArea}
use Rattle.leg_lib_records.specs.Records.{MasterModel}
use Rattle.leg_design_records.specs.Records.{DesignModel}
use Rattle.leg_design_records.specs.declared.records.Component.{Component}
use Rattle.leg_design_records.specs.declared.records.Row.{Row}
use Rattle.leg_rules.specs.Placement.Box.{placed_box}
use Rattle.leg_rules.specs.Placement.Sites.{IsOnSites, IsOffSite}
use Rattle.leg_place.specs.declared.site_span.SiteSpan.{SiteSpan}
use Rattle.leg_place.specs.Steps.SiteSpan.{span_of, row_box, covers}
use Rattle.leg_place.specs.Steps.RowSpans.{IsRowSpan, IsOfSomeRow, AreRowSpans, IsWhole, IsCovered, HasSites, IsOnSomeRow}
use Rattle.leg_place.proofs.OnSites.{IsWide}
use Rattle.leg_place.proofs.RowSites.{whole_on_sites, covers_on_sites, orient_of_covering, on_covering}
use Rattle.leg_place.proofs.SpanOrder.{covers-trans, reaches_from_covers}

-- what is covered by a row's sites is of its site
site_of_span : (row : Row) (size : ExtentModel) (number : ℕ) (orient : Orient) (box : RectModel) (other : ExtentModel)
    → IsTrue (covers (span_of row.site size row.orient (row_box row size)) (span_of number other orient box)) → row.site ≡ number
site_of_span row size number orient box other all =
    ap (λ l. l.site) (reaches_from_covers (span_of row.site size row.orient (row_box row size)) (span_of number other orient box) all).line

-- what has all sites of a span has those of what that one covers
covered_through : (spans : List SiteSpan) (span wanted : SiteSpan) → IsCovered spans span → IsTrue (covers span wanted) → IsCovered spans wanted
covered_through spans span wanted covered all =
    record { span = covered.span; has = covered.has; has_all = covers-trans covered.span span wanted covered.has_all all }

-- a macro of the site of this number, at a place; the sites of the rows are given
module _ (design : DesignModel) (master : MasterModel) (number : ℕ) (place : Place) (site : Site) (there : slice_get design.library.sites number ≡ Some site)
    (area : HasArea site.size) (proper : IsWide (placed_box master.size place))
    (spans : List SiteSpan) (spans_are : AreRowSpans design.library design.rows spans) where
  -- where it stands on a row it is whole, and the row has its sites, in an orientation that fits
  pub whole_on_row : IsOnSomeRow design master number place → IsWhole site.size (placed_box master.size place)
  whole_on_row some =
      let on = some.on in
      let same : on.site ≡ site = same_Some on.site site (sym on.there ∙ there) in
      whole_on_sites some.row site.size (placed_box master.size place) area proper (rw same at on.sites)

  pub sites_on_row : IsOnSomeRow design master number place → HasSites spans number site.size (placed_box master.size place) place.orient master.y_symmetric
  sites_on_row some =
      let on = some.on in
      let same : on.site ≡ site = same_Some on.site site (sym on.there ∙ there) in
      let sites : IsOnSites some.row site.size (placed_box master.size place) = rw same at on.sites in
      let row_span = span_of some.row.site site.size some.row.orient (row_box some.row site.size) in
      let told : IsRowSpan design.library some.row row_span = record { site = site; there = rw on.same there; is = refl } in
      let wanted = span_of some.row.site site.size some.row.orient (placed_box master.size place) in
      let covered : IsCovered spans wanted =
      covered_through spans row_span wanted (spans_are.all some.row row_span some.has told)
      (covers_on_sites some.row site.size (placed_box master.size place) area proper sites) in
      record { row_orient = some.row.orient; fits = on.fits; covered = rw on.same at covered }

  -- and the other way round
  pub on_row_of_sites : IsWhole site.size (placed_box master.size place)
      → HasSites spans number site.size (placed_box master.size place) place.orient master.y_symmetric → IsOnSomeRow design master number place
  on_row_of_sites whole sites =
      let covered = sites.covered in
      let of_row = All-contains (IsOfSomeRow design.library design.rows) spans covered.span spans_are.each covered.has in
      let row = of_row.row in
      let told = of_row.is in
      let wanted = span_of number site.size sites.row_orient (placed_box master.size place) in
      let all : IsTrue (covers (span_of row.site told.site.size row.orient (row_box row told.site.size)) wanted) = rw told.is at covered.has_all in
      let number_is : row.site ≡ number = site_of_span row told.site.size number sites.row_orient (placed_box master.size place) site.size all in
      let same : told.site ≡ site = same_Some told.site site (sym told.there ∙ ap (slice_get design.library.sites) number_is ∙ there) in
      let all_here : IsTrue (covers (span_of row.site site.size row.orient (row_box row site.size)) wanted) = rw same at all in
      let orient_is : row.orient ≡ sites.row_orient =
      orient_of_covering row site.size (placed_box master.size place) area proper number sites.row_orient all_here in
      record {
        row = row;
        has = of_row.has;
        on = record {
          same = number_is;
          site = site;
          there = there;
          fits = rw orient_is sites.fits;
          sites = on_covering row site.size (placed_box master.size place) area proper number sites.row_orient all_here of_row.some whole;
        };
      }

-- nor does a macro stand on a row whose site the library doesn't have
pub on_no_row : (design : DesignModel) (master : MasterModel) (number : ℕ) (place : Place) → length design.library.sites ≤ number
    → IsOnSomeRow design master number place → ⊥
on_no_row design master number place beyond some = omega (arith, beyond, slice_get_within design.library.sites number some.on.site some.on.there)

module _ (design : DesignModel) (c : ℕ) (component : Component) (there : slice_get design.components c ≡ Some component) where
  placed_of : (off : IsOffSite design c) → component.place ≡ Some off.place
  placed_of off =
      let same : off.component ≡ component = same_Some off.component component (sym off.there ∙ there) in
      rw same at off.placed

-- whether a component is off its sites, by its macro
module _ (design : DesignModel) (c : ℕ) (component : Component) (there : slice_get design.components c ≡ Some component)
    (master : MasterModel) (is_master : slice_get design.library.masters component.master ≡ Some master) where
  master_of : (off : IsOffSite design c) → off.master ≡ master
  master_of off =
      let same : off.component ≡ component = same_Some off.component component (sym off.there ∙ there) in
      same_Some off.master master (sym (rw same at off.is_master) ∙ is_master)

  -- where the macro has a site, by a test of the rows
  pub off_site_test : (place : Place) (number : ℕ) (b : Bool) → component.place ≡ Some place → master.site ≡ Some number
      → IsTrue b ↔ IsOnSomeRow design master number place → IsTrue (not b) ↔ IsOffSite design c
  off_site_test place number true placed site test = (
    λ t. absurd (false≢true t),
    λ off.
        let some = test.0 refl in
        let same_place : off.place ≡ place = same_Some off.place place (sym (placed_of design c component there off) ∙ placed) in
        let same_master : off.master ≡ master = master_of off in
        let same_number : off.number ≡ number = same_Some off.number number (sym (rw same_master at off.site) ∙ site) in
        absurd (off.none some.row some.has (rw (same_master, same_number, same_place) some.on)),
  )
  off_site_test place number false placed site test = (
    λ t. record {
      component = component;
      there = there;
      place = place;
      placed = placed;
      master = master;
      is_master = is_master;
      number = number;
      site = site;
      none = λ row has on. false≢true (test.1 (record { row = row; has = has; on = on }));
    },
    λ off. refl,
  )

  -- a component of a macro without a site isn't
  pub on_no_site : master.site ≡ None → IsOffSite design c → ⊥
  on_no_site none off = none-some off.number (sym none ∙ (rw (master_of off) at off.site))
