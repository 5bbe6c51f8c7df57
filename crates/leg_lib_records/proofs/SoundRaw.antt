-- What holds of every library as texts write it, when one more record is added.
use Rattle.std.proofs.Common.{◌≡◌, [], ◌∷◌, ◌++◌, IsTrue, None}
use Rattle.std.proofs.lemmas.List.Elements.{All-nil, All-push}
use Rattle.leg_lex.specs.Words.{is_name}
use Rattle.leg_lex.specs.NameLookup.{place_of}
use Rattle.leg_lib_records.specs.declared.raw.RawLayer.{RawLayer}
use Rattle.leg_lib_records.specs.declared.raw.RawSite.{RawSite}
use Rattle.leg_lib_records.specs.Measure.{HasArea}
use Rattle.leg_lib_records.specs.Records.{RawLibraryModel, RawViaModel, RawMasterModel, RawRuleModel, empty_library, raw_layer_names, raw_site_names, raw_via_names, raw_master_names, raw_rule_names}
use Rattle.leg_lib_records.specs.References.{IsRawViaOf, IsRawMasterOf, IsRawRuleOf}
use Rattle.leg_lib_records.specs.Sound.{IsSoundRawLayer, IsSoundRawRule, IsSoundRaw}
use Rattle.leg_lib_records.proofs.LibraryNames.{no_names, names_push}
use Rattle.leg_lib_records.proofs.References.{refers_with_layer, refers_with_site}

pub empty_sound : IsSoundRaw empty_library
empty_sound = record {
  layers = All-nil IsSoundRawLayer;
  sites = All-nil (λ site. HasArea site.size);
  rules = All-nil IsSoundRawRule;
  names = record { layers = no_names; sites = no_names; vias = no_names; masters = no_names; rules = no_names };
  references = record { vias = All-nil (IsRawViaOf []); masters = All-nil (IsRawMasterOf [] []); rules = All-nil (IsRawRuleOf []) };
}

pub sound_with_layer : (library : RawLibraryModel) (layer : RawLayer) → IsSoundRaw library → IsSoundRawLayer layer → IsTrue (is_name layer.name)
    → place_of layer.name (raw_layer_names library) ≡ None → IsSoundRaw (record library { layers = library.layers ++ layer ∷ [] })
sound_with_layer library layer sound proper named new = record {
  layers = All-push IsSoundRawLayer library.layers layer sound.layers proper;
  sites = sound.sites;
  rules = sound.rules;
  names = record {
    layers = names_push (λ l. l.name) library.layers layer sound.names.layers named new;
    sites = sound.names.sites;
    vias = sound.names.vias;
    masters = sound.names.masters;
    rules = sound.names.rules;
  };
  references = refers_with_layer library layer sound.references;
}

pub sound_with_site : (library : RawLibraryModel) (site : RawSite) → IsSoundRaw library → HasArea site.size → IsTrue (is_name site.name)
    → place_of site.name (raw_site_names library) ≡ None → IsSoundRaw (record library { sites = library.sites ++ site ∷ [] })
sound_with_site library site sound proper named new = record {
  layers = sound.layers;
  sites = All-push (λ s. HasArea s.size) library.sites site sound.sites proper;
  rules = sound.rules;
  names = record {
    layers = sound.names.layers;
    sites = names_push (λ s. s.name) library.sites site sound.names.sites named new;
    vias = sound.names.vias;
    masters = sound.names.masters;
    rules = sound.names.rules;
  };
  references = refers_with_site library site sound.references;
}

pub sound_with_via : (library : RawLibraryModel) (via : RawViaModel) → IsSoundRaw library → IsRawViaOf library.layers via → IsTrue (is_name via.name)
    → place_of via.name (raw_via_names library) ≡ None → IsSoundRaw (record library { vias = library.vias ++ via ∷ [] })
sound_with_via library via sound refers named new = record {
  layers = sound.layers;
  sites = sound.sites;
  rules = sound.rules;
  names = record {
    layers = sound.names.layers;
    sites = sound.names.sites;
    vias = names_push (λ v. v.name) library.vias via sound.names.vias named new;
    masters = sound.names.masters;
    rules = sound.names.rules;
  };
  references = record { vias = All-push (IsRawViaOf library.layers) library.vias via sound.references.vias refers; masters = sound.references.masters; rules = sound.references.rules };
}

pub sound_with_master : (library : RawLibraryModel) (master : RawMasterModel) → IsSoundRaw library → IsRawMasterOf library.layers library.sites master
    → IsTrue (is_name master.name) → place_of master.name (raw_master_names library) ≡ None
    → IsSoundRaw (record library { masters = library.masters ++ master ∷ [] })
sound_with_master library master sound refers named new = record {
  layers = sound.layers;
  sites = sound.sites;
  rules = sound.rules;
  names = record {
    layers = sound.names.layers;
    sites = sound.names.sites;
    vias = sound.names.vias;
    masters = names_push (λ m. m.name) library.masters master sound.names.masters named new;
    rules = sound.names.rules;
  };
  references =
      record {
        vias = sound.references.vias;
        masters = All-push
            (IsRawMasterOf library.layers library.sites) library.masters master sound.references.masters refers;
        rules = sound.references.rules;
      };
}

pub sound_with_rule : (library : RawLibraryModel) (rule : RawRuleModel) → IsSoundRaw library → IsSoundRawRule rule → IsRawRuleOf library.layers rule
    → IsTrue (is_name rule.name) → place_of rule.name (raw_rule_names library) ≡ None → IsSoundRaw (record library { rules = library.rules ++ rule ∷ [] })
sound_with_rule library rule sound proper refers named new = record {
  layers = sound.layers;
  sites = sound.sites;
  rules = All-push IsSoundRawRule library.rules rule sound.rules proper;
  names = record {
    layers = sound.names.layers;
    sites = sound.names.sites;
    vias = sound.names.vias;
    masters = sound.names.masters;
    rules = names_push (λ r. r.name) library.rules rule sound.names.rules named new;
  };
  references = record {
    vias = sound.references.vias;
    masters = sound.references.masters;
    rules = All-push (IsRawRuleOf library.layers) library.rules rule sound.references.rules refers;
  };
}
