-- The bounds lie within the rectangle along y, as far as sites are high.
use Rattle.std.proofs.Common.{◌≡◌, ◌<◌, ◌-ℤ◌, ◌<ℤ◌, true, get_or, length, None, pos, slice_get, Some, FitsSigned, w64, to_z, of_z, int_lt, inr, refl, sym, ap, ◌∙◌, arith, rules}
use Rattle.std.specs.Prelude.{is_some, not}
use Rattle.std.proofs.lemmas.Int.{ints, fits_signed_from_abs, to_z-of_z}
use Rattle.std.proofs.lemmas.Option.{same_Some, slice_get_read, slice_get_within, slice_get-get_or}
use Rattle.leg_lemmas.proofs.Integers.{lt_from_test}
use Rattle.leg_lemmas.proofs.Places.{all_at}
use Rattle.leg_geom.specs.Plane.{IsCoordinate}
use Rattle.leg_design_records.specs.WellFormedParts.{IsRow}
use Rattle.leg_lib_records.specs.declared.records.Site.{Site}
use Rattle.leg_legal_sites.specs.declared.bounds.Bounds.{Bounds}
use Rattle.leg_legal_sites.specs.Steps.FreeLists.{IsRowAt}
use Rattle.leg_legal_sites.proofs.MetSites.{coordinate_passed}
use Rattle.leg_legal_sites.proofs.RowPlaces.{some_is, alike_rows}
use Rattle.leg_legal_sites.proofs.SharedLists.{node_read}
use Rattle.leg_legal_sites.proofs.rows_taken.is_met_throughout.Goals as goal

abbrev none : Bounds
none = record { least_row = 0; least_site = 0; most_site = 0; low = pos 0; high = pos 0; top = pos 0; left = pos 0; right = pos 0; corner = pos 0; longest = 0 }

pub row_beneath-requires-clause-there : goal.row_beneath-requires-clause-there
row_beneath-requires-clause-there g c =
    let nodes = c.requires.rows.nodes.count in
    let there = c.requires.there in
    omega (arith, nodes, there)

pub overflow_sub-result : goal.overflow_sub-result
overflow_sub-result g c =
    let height = c.height-height.ensures.proper.height in
    let h : IsCoordinate c.height-height.result = rw c.height-height.ensures.is (omega (arith, height)) in
    let y : IsCoordinate c.y1.result = rw c.y1.ensures.is c.y1.ensures.proper.y1 in
    rw (coordinate_passed c.y1.result y, coordinate_passed c.height-height.result h)
    (fits_signed_from_abs w64 (c.y1.result -ℤ c.height-height.result) (omega (arith, ints, y, h)))

pub returns-then-bounds-y2-clause-met : goal.returns-then-bounds-y2-clause-met
returns-then-bounds-y2-clause-met g c t =
    let design = c.args.design.now in
    let nodes = c.args.nodes.now in
    let node = c.args.node in
    let lists = c.args.lists.now in
    let number = c.row_beneath.result in
    let rep = c.index-rows-row_beneath.result in
    let sited = c.index-sites-row.result in
    let key = c.row_beneath.ensures.leaf.0 in
    let at_rep : slice_get design.rows number ≡ Some rep =
    rw (← c.rows.ensures.is) (slice_get_read c.rows.result.now _ number rep refl
    (rw c.rows.ensures.is c.row_beneath.ensures.within) c.index-rows-row_beneath.is) in
    let is_row = all_at (IsRow design.library) design.rows number rep c.rows.ensures.proper.rows at_rep in
    let same : c.sites.result.now ≡ design.library.sites = c.sites.ensures ∙ ap (λ l. l.sites) c.library.ensures.is in
    let within : rep.site < length c.sites.result.now = rw same (slice_get_within design.library.sites rep.site is_row.site is_row.there) in
    let there_site : slice_get design.library.sites rep.site ≡ Some sited =
    rw (← same) (slice_get_read c.sites.result.now _ rep.site sited refl within c.index-sites-row.is) in
    let is : IsRowAt design key.row rep sited = rw c.row_beneath.ensures.leaf.2 (record { there = at_rep; sited = there_site }) in
    let tall : c.height-height.result ≡ sited.size.height = rw (← c.index-sites-row.is) at c.height-height.ensures.is in
    let height = c.height-height.ensures.proper.height in
    let h : IsCoordinate c.height-height.result = rw c.height-height.ensures.is (omega (arith, height)) in
    let y : IsCoordinate c.y1.result = rw c.y1.ensures.is c.y1.ensures.proper.y1 in
    let y2 : IsCoordinate c.y2.result = rw c.y2.ensures.is c.y2.ensures.proper.y2 in
    let fits : FitsSigned w64 (c.y1.result -ℤ c.height-height.result) =
    fits_signed_from_abs w64 (c.y1.result -ℤ c.height-height.result) (omega (arith, ints, y, h)) in
    let l : Bounds = get_or nodes node none in
    let low : to_z w64 (of_z w64 l.low) ≡ l.low = search rules in
    let high : to_z w64 (of_z w64 l.high) ≡ l.high = search rules in
    let lower : int_lt (c.y1.result -ℤ c.height-height.result) l.low ≡ true =
    rw (coordinate_passed c.y1.result y, coordinate_passed c.height-height.result h, to_z-of_z w64 (c.y1.result -ℤ c.height-height.result) fits, low) at t in
    let below : (c.y1.result -ℤ c.height-height.result) <ℤ l.low = lt_from_test (c.y1.result -ℤ c.height-height.result) l.low lower in
    let higher : int_lt l.high c.y2.result ≡ true = rw (coordinate_passed c.y2.result y2, high) at c.if-bounds-y2.true in
    let above : l.high <ℤ c.y2.result = lt_from_test l.high c.y2.result higher in
    let has : is_some (get_or lists node None) ≡ true =
    ap is_some (node_read lists node c.requires.list c.index-lists-node.result c.index-lists-node.is) ∙ c.is_none.ensures ∙ ap not c.if-is_none.false in
    let own = some_is (get_or lists node None) has in
    inr (
      has,
      λ bounds there.
          let one : bounds ≡ l = same_Some bounds l (sym there ∙ slice_get-get_or nodes node none c.requires.there) in
          rw one (record {
            high = omega (arith, ints, above, c.y2.ensures.is);
            low = λ k row site leaf at.
                let alike =
                alike_rows design c.args.order.now node key k rep row sited site c.requires.rows.order
                (c.requires.shared.alike node own.0 c.requires.first own.1) c.row_beneath.ensures.leaf.1 leaf is at in
                let as_tall : site.size.height ≡ sited.size.height = ap (λ (s : Site). s.size.height) alike.1 in
                omega (arith, ints, below, c.y1.ensures.is, tall, as_tall);
          }),
    )
