-- The rows beneath the node have lost what the rectangle meets, and the node bounds what is left.
use Rattle.std.proofs.Common.{◌≡◌, ◌<◌, [], length, get_or, set, None, pos, slice_get, Some, refl, ap, ◌∙◌, arith}
use Rattle.std.specs.Prelude.{unwrap_or, is_some}
use Rattle.std.proofs.lemmas.Option.{slice_get_read, slice_get_within, slice_get-get_or}
use Rattle.std.proofs.lemmas.Grind.{get_or-set_at}
use Rattle.std.proofs.lemmas.List.{get_or_default}
use Rattle.leg_lemmas.proofs.Places.{all_at}
use Rattle.leg_lib_records.specs.Measure.{IsExtent}
use Rattle.leg_design_records.specs.WellFormedParts.{IsRow}
use Rattle.leg_legal_sites.specs.declared.bounds.Bounds.{Bounds}
use Rattle.leg_legal_sites.specs.Steps.FreeLists.{IsRowAt}
use Rattle.leg_legal_sites.specs.Steps.Bounds.{DoBoundAlike}
use Rattle.leg_legal_sites.specs.Steps.SharedLists.{LosesShared}
use Rattle.leg_legal_sites.proofs.BoxAtNode.{taken_shared, taken_before, taken_alone, taken_at_node, left_within, rows_kept, rows_at_node}
use Rattle.leg_legal_sites.proofs.SharedLists.{node_has}
use Rattle.leg_legal_sites.proofs.rows_taken.take_at.Goals as goal

abbrev none : Bounds
none = record { least_row = 0; least_site = 0; most_site = 0; low = pos 0; high = pos 0; top = pos 0; left = pos 0; right = pos 0; corner = pos 0; longest = 0 }

pub row_beneath-requires-clause-order : goal.row_beneath-requires-clause-order
row_beneath-requires-clause-order g c = c.requires.rows.order

pub bounds-sites-row : goal.bounds-sites-row
bounds-sites-row g c =
    let design = c.args.design.now in
    let number = c.row_beneath.result in
    let row = c.index-rows-row_beneath.result in
    let at : slice_get design.rows number ≡ Some row =
    rw (← c.rows.ensures.is) (slice_get_read c.rows.result.now _ number row refl
    (rw c.rows.ensures.is c.row_beneath.ensures.within) c.index-rows-row_beneath.is) in
    let is_row = all_at (IsRow design.library) design.rows number row c.rows.ensures.proper.rows at in
    let same : c.sites.result.now ≡ design.library.sites = c.sites.ensures ∙ ap (λ l. l.sites) c.library.ensures.is in
    rw same (slice_get_within design.library.sites row.site is_row.site is_row.there)

pub offset_bounds-sites-row : goal.offset_bounds-sites-row
offset_bounds-sites-row g c =
    let design = c.args.design.now in
    let number = c.row_beneath.result in
    let row = c.index-rows-row_beneath.result in
    let at : slice_get design.rows number ≡ Some row =
    rw (← c.rows.ensures.is) (slice_get_read c.rows.result.now _ number row refl
    (rw c.rows.ensures.is c.row_beneath.ensures.within) c.index-rows-row_beneath.is) in
    let is_row = all_at (IsRow design.library) design.rows number row c.rows.ensures.proper.rows at in
    let same : c.sites.result.now ≡ design.library.sites = c.sites.ensures ∙ ap (λ l. l.sites) c.library.ensures.is in
    let below : row.site < length c.sites.result.now = rw same (slice_get_within design.library.sites row.site is_row.site is_row.there) in
    omega (arith, below)

pub returns-in_err-take_from_list-clause-shared : goal.returns-in_err-take_from_list-clause-shared
returns-in_err-take_from_list-clause-shared g c =
    let lists = c.args.lists.now in
    let node = c.args.node in
    let rest = c.take_from_list.new.list in
    let kept : is_some rest ≡ is_some (get_or lists node None) =
    node_has lists node c.requires.list c.index-lists-node-2.result (is_some rest) c.in_err-take_from_list.ensures.kept in
    taken_shared c.args.design.now c.args.rect.now c.args.order.now lists rest c.args.nodes.now node c.requires.shared c.requires.first c.requires.list kept

pub returns-in_err-take_from_list-clause-before : goal.returns-in_err-take_from_list-clause-before
returns-in_err-take_from_list-clause-before g c =
    let lists = c.args.lists.now in
    let node = c.args.node in
    let rest = c.take_from_list.new.list in
    let kept : is_some rest ≡ is_some (get_or lists node None) =
    node_has lists node c.requires.list c.index-lists-node-2.result (is_some rest) c.in_err-take_from_list.ensures.kept in
    taken_before c.args.design.now c.args.rect.now c.args.order.now lists rest c.args.nodes.now node c.requires.shared c.requires.first c.requires.list kept

pub bounds_of_list-requires-clause-within : goal.bounds_of_list-requires-clause-within
bounds_of_list-requires-clause-within g c =
    let lists = c.args.lists.now in
    let node = c.args.node in
    let order = c.args.order.now in
    let design = c.args.design.now in
    let nodes = c.args.nodes.now in
    let number = c.row_beneath.result in
    let row = c.index-rows-row_beneath.result in
    let site = c.index-sites-row.result in
    let key = c.row_beneath.ensures.leaf.0 in
    let at : slice_get design.rows number ≡ Some row =
    rw (← c.rows.ensures.is) (slice_get_read c.rows.result.now _ number row refl
    (rw c.rows.ensures.is c.row_beneath.ensures.within) c.index-rows-row_beneath.is) in
    let is_row = all_at (IsRow design.library) design.rows number row c.rows.ensures.proper.rows at in
    let same : c.sites.result.now ≡ design.library.sites = c.sites.ensures ∙ ap (λ l. l.sites) c.library.ensures.is in
    let within : row.site < length c.sites.result.now = rw same (slice_get_within design.library.sites row.site is_row.site is_row.there) in
    let there : slice_get design.library.sites row.site ≡ Some site =
    rw (← same) (slice_get_read c.sites.result.now _ row.site site refl within c.index-sites-row.is) in
    let is : IsRowAt design key.row row site = rw c.row_beneath.ensures.leaf.2 (record { there = at; sited = there }) in
    let extent : IsExtent site.size = rw (← c.index-sites-row.is) at c.height-height.ensures.proper in
    let rest = c.take_from_list.new.list in
    let kept : is_some rest ≡ is_some (get_or lists node None) =
    node_has lists node c.requires.list c.index-lists-node-2.result (is_some rest) c.in_ok-take_from_list.ensures.kept in
    let had : get_or lists node c.index-lists-node-2.result ≡ get_or lists node None =
    get_or_default lists node c.index-lists-node-2.result None c.requires.list in
    let loses : LosesShared c.args.rect.now row site.size (unwrap_or (get_or lists node None) []) (unwrap_or rest []) =
    rw (← c.index-sites-row.is, had) at c.in_ok-take_from_list.ensures.taken in
    let now : get_or (set lists node rest) node c.index-lists-node-4.result ≡ rest =
    get_or-set_at lists node node rest c.index-lists-node-4.result refl c.requires.list in
    let bounds : Bounds = get_or nodes node none in
    let at_node : slice_get nodes node ≡ Some bounds = slice_get-get_or nodes node none c.requires.there in
    rw (now, ← c.index-sites-row.is) (left_within design c.args.rect.now order lists rest nodes node c.requires.shared c.requires.first c.requires.list kept
    c.requires.rows c.requires.alone c.requires.met bounds at_node key c.row_beneath.ensures.leaf.1 row site is loses extent.area c.rows.ensures.proper.die)

pub returns-then-eq : goal.returns-then-eq
returns-then-eq g c =
    let lists = c.args.lists.now in
    let node = c.args.node in
    let order = c.args.order.now in
    let design = c.args.design.now in
    let nodes = c.args.nodes.now in
    let number = c.row_beneath.result in
    let row = c.index-rows-row_beneath.result in
    let site = c.index-sites-row.result in
    let key = c.row_beneath.ensures.leaf.0 in
    let at : slice_get design.rows number ≡ Some row =
    rw (← c.rows.ensures.is) (slice_get_read c.rows.result.now _ number row refl
    (rw c.rows.ensures.is c.row_beneath.ensures.within) c.index-rows-row_beneath.is) in
    let is_row = all_at (IsRow design.library) design.rows number row c.rows.ensures.proper.rows at in
    let same : c.sites.result.now ≡ design.library.sites = c.sites.ensures ∙ ap (λ l. l.sites) c.library.ensures.is in
    let within : row.site < length c.sites.result.now = rw same (slice_get_within design.library.sites row.site is_row.site is_row.there) in
    let there : slice_get design.library.sites row.site ≡ Some site =
    rw (← same) (slice_get_read c.sites.result.now _ row.site site refl within c.index-sites-row.is) in
    let is : IsRowAt design key.row row site = rw c.row_beneath.ensures.leaf.2 (record { there = at; sited = there }) in
    let extent : IsExtent site.size = rw (← c.index-sites-row.is) at c.height-height.ensures.proper in
    let rest = c.take_from_list.new.list in
    let kept : is_some rest ≡ is_some (get_or lists node None) =
    node_has lists node c.requires.list c.index-lists-node-2.result (is_some rest) c.in_ok-take_from_list.ensures.kept in
    let had : get_or lists node c.index-lists-node-2.result ≡ get_or lists node None =
    get_or_default lists node c.index-lists-node-2.result None c.requires.list in
    let loses : LosesShared c.args.rect.now row site.size (unwrap_or (get_or lists node None) []) (unwrap_or rest []) =
    rw (← c.index-sites-row.is, had) at c.in_ok-take_from_list.ensures.taken in
    let bounds : Bounds = get_or nodes node none in
    let at_node : slice_get nodes node ≡ Some bounds = slice_get-get_or nodes node none c.requires.there in
    record {
      shared = taken_shared design c.args.rect.now order lists rest nodes node c.requires.shared c.requires.first c.requires.list kept;
      rows = rows_kept design c.args.rect.now order lists rest nodes node c.requires.shared c.requires.first c.requires.list kept c.requires.rows
          c.requires.alone c.requires.met bounds at_node key c.row_beneath.ensures.leaf.1 row site is loses extent.area;
      taken = taken_at_node design c.args.rect.now order lists rest nodes node c.requires.shared c.requires.first c.requires.list kept c.requires.rows
          c.requires.alone c.requires.met bounds at_node key c.row_beneath.ensures.leaf.1 row site is loses extent.area;
      alone = taken_alone design c.args.rect.now order lists rest nodes node c.requires.shared c.requires.first c.requires.list kept c.requires.rows
          c.requires.alone c.requires.met bounds at_node key c.row_beneath.ensures.leaf.1 row site is;
      before = taken_before design c.args.rect.now order lists rest nodes node c.requires.shared c.requires.first c.requires.list kept;
    }

pub returns : goal.returns
returns g c =
    let lists = c.args.lists.now in
    let node = c.args.node in
    let order = c.args.order.now in
    let design = c.args.design.now in
    let nodes = c.args.nodes.now in
    let number = c.row_beneath.result in
    let row = c.index-rows-row_beneath.result in
    let site = c.index-sites-row.result in
    let key = c.row_beneath.ensures.leaf.0 in
    let at : slice_get design.rows number ≡ Some row =
    rw (← c.rows.ensures.is) (slice_get_read c.rows.result.now _ number row refl
    (rw c.rows.ensures.is c.row_beneath.ensures.within) c.index-rows-row_beneath.is) in
    let is_row = all_at (IsRow design.library) design.rows number row c.rows.ensures.proper.rows at in
    let same : c.sites.result.now ≡ design.library.sites = c.sites.ensures ∙ ap (λ l. l.sites) c.library.ensures.is in
    let within : row.site < length c.sites.result.now = rw same (slice_get_within design.library.sites row.site is_row.site is_row.there) in
    let there : slice_get design.library.sites row.site ≡ Some site =
    rw (← same) (slice_get_read c.sites.result.now _ row.site site refl within c.index-sites-row.is) in
    let is : IsRowAt design key.row row site = rw c.row_beneath.ensures.leaf.2 (record { there = at; sited = there }) in
    let extent : IsExtent site.size = rw (← c.index-sites-row.is) at c.height-height.ensures.proper in
    let rest = c.take_from_list.new.list in
    let kept : is_some rest ≡ is_some (get_or lists node None) =
    node_has lists node c.requires.list c.index-lists-node-2.result (is_some rest) c.in_ok-take_from_list.ensures.kept in
    let had : get_or lists node c.index-lists-node-2.result ≡ get_or lists node None =
    get_or_default lists node c.index-lists-node-2.result None c.requires.list in
    let loses : LosesShared c.args.rect.now row site.size (unwrap_or (get_or lists node None) []) (unwrap_or rest []) =
    rw (← c.index-sites-row.is, had) at c.in_ok-take_from_list.ensures.taken in
    let now : get_or (set lists node rest) node c.index-lists-node-4.result ≡ rest =
    get_or-set_at lists node node rest c.index-lists-node-4.result refl c.requires.list in
    let bounds : Bounds = get_or nodes node none in
    let at_node : slice_get nodes node ≡ Some bounds = slice_get-get_or nodes node none c.requires.there in
    let fits : DoBoundAlike bounds row site.size (unwrap_or rest []) c.bounds_of_list.result = rw (← c.index-sites-row.is, now) at c.bounds_of_list.ensures in
    record {
      shared = taken_shared design c.args.rect.now order lists rest nodes node c.requires.shared c.requires.first c.requires.list kept;
      rows = rows_at_node design c.args.rect.now order lists rest nodes node c.requires.shared c.requires.first c.requires.list kept c.requires.rows
          c.requires.alone c.requires.met bounds at_node key c.row_beneath.ensures.leaf.1 row site is loses extent.area c.rows.ensures.proper.rows
          c.bounds_of_list.result fits;
      taken = taken_at_node design c.args.rect.now order lists rest nodes node c.requires.shared c.requires.first c.requires.list kept c.requires.rows
          c.requires.alone c.requires.met bounds at_node key c.row_beneath.ensures.leaf.1 row site is loses extent.area;
      alone = taken_alone design c.args.rect.now order lists rest nodes node c.requires.shared c.requires.first c.requires.list kept c.requires.rows
          c.requires.alone c.requires.met bounds at_node key c.row_beneath.ensures.leaf.1 row site is;
      before = taken_before design c.args.rect.now order lists rest nodes node c.requires.shared c.requires.first c.requires.list kept;
    }
