-- One more group is no longer.
use Rattle.std.proofs.Common.{◌≡◌, ◌+◌, ◌*◌, ◌≤◌, length, get_or, slice_get, Some, arith}
use Rattle.std.proofs.lemmas.Option.{slice_get-get_or}
use Rattle.leg_legal_sites.specs.declared.part_groups.TheConstants.{GROUP}
use Rattle.leg_legal_sites.specs.Steps.Parts.{AreNoLonger}
use Rattle.leg_legal_sites.proofs.PartPlaces.{no_longer_joined, no_longer_raised}
use Rattle.leg_legal_sites.proofs.part_ends.longest_of_all.Goals as goal

pub loop-i-preserved : goal.loop-i-preserved
loop-i-preserved g c =
    let parts = c.args.parts.now in
    let groups = c.args.groups.now in
    let i = c.loop-i.i in
    let most = get_or groups i 0 in
    let at : slice_get groups i ≡ Some most = slice_get-get_or groups i 0 (omega arith) in
    let next : GROUP * (i + 1) ≡ GROUP * i + GROUP = omega arith in
    let more : c.loop-i.longest ≤ c.max-longest.result = omega arith in
    let too : most ≤ c.max-longest.result = omega arith in record {
      first =
          rw next (no_longer_joined parts 0 (GROUP * i) (GROUP * i + GROUP) c.loop-i.longest most c.max-longest.result c.loop-i.invariant.first
          (c.requires.each i most at) more too);
      rest =
          no_longer_raised parts (GROUP * length groups) (length parts) c.loop-i.longest c.max-longest.result more c.loop-i.invariant.rest;
    }

pub returns : goal.returns
returns g c =
    let parts = c.args.parts.now in
    let groups = c.args.groups.now in
    let longest = c.loop-i.longest in
    let all : c.loop-i.i ≡ length groups = omega arith in
    let first : AreNoLonger parts 0 (GROUP * length groups) longest = rw all at c.loop-i.invariant.first in
    no_longer_joined parts 0 (GROUP * length groups) (length parts) longest longest longest first c.loop-i.invariant.rest (omega arith) (omega arith)
