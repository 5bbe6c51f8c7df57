use Rattle.leg_lib.proofs.SoundNames.{site_is_named, site_has_area}
use Rattle.leg_lib.proofs.site.site_form.Goals as goal

pub push_site-requires-clause-named : goal.push_site-requires-clause-named
push_site-requires-clause-named g c = site_is_named c.args.words.now _ c.in_ok-site.site c.in_ok-site.ensures

pub push_site-requires-clause-sound : goal.push_site-requires-clause-sound
push_site-requires-clause-sound g c = site_has_area c.args.words.now _ c.in_ok-site.site c.in_ok-site.ensures
