-- Whether a macro can stand on some row, and which movable component is the first that can't.
use Rattle.std.proofs.Common.{◌≡◌, ◌↔◌, ℕ, ◌+◌, ◌*◌, ◌/◌, ◌%◌, ◌<◌, ◌≤◌, pos, ◌*ℤ◌, Bool, true, false, not, eqb, IsTrue, Some, None, slice_get, length, unsigned_abs, refl, sym, ◌∙◌, inl, inr, arith}
use Rattle.std.proofs.Math.IntN.{pos-*ℤ-pos}
use Rattle.std.proofs.Math.Nat.{mul-mod_left, mod-eq-sub-div-mul, div-mul-le_self}
use Rattle.std.proofs.lemmas.Bool.{false≢true, cases_lt, eqb-true, eq-eqb}
use Rattle.std.proofs.lemmas.Int.{ints}
use Rattle.std.proofs.lemmas.Option.{same_Some, none-some, slice_get_within}
use Rattle.leg_lib_records.specs.Records.{MasterModel}
use Rattle.leg_lib_records.specs.declared.records.Site.{Site}
use Rattle.leg_lib_records.specs.Measure.{ExtentModel, HasArea}
use Rattle.leg_design_records.specs.Records.{DesignModel}
use Rattle.leg_design_records.specs.declared.records.Component.{Component}
use Rattle.leg_design_records.specs.Movable.{IsMovable}
use Rattle.leg_rules.specs.Legalise.Refusals.{FitsSites, HasRowFor, IsUnsuited, IsLeastUnsuited, AreSuited}

-- a width is a number of sites just where nothing is left over
module _ (site size : ExtentModel) (area : HasArea site) (has_area : HasArea size) where
  abbrev n : ℕ
  n = unsigned_abs site.width

  product_is : (many : ℕ) → pos many *ℤ site.width ≡ pos (many * n)
  product_is many =
      let wide : site.width ≡ pos n = omega (arith, ints, area.wide) in
      rw wide (pos-*ℤ-pos many n)

  pub fits_from_rest : size.height ≡ site.height → unsigned_abs size.width % unsigned_abs site.width ≡ 0 → FitsSites site size
  fits_from_rest high rest =
      let many : ℕ = unsigned_abs size.width / n in
      let parts : unsigned_abs size.width ≡ many * n =
      omega (arith, mod-eq-sub-div-mul (unsigned_abs size.width) n, rest, div-mul-le_self (unsigned_abs size.width) n) in
      let product : pos many *ℤ site.width ≡ pos (many * n) = product_is many in
      record { high = high; many = many; wide = omega (arith, ints, has_area.wide, parts, product) }

  pub rest_from_fits : FitsSites site size → unsigned_abs size.width % unsigned_abs site.width ≡ 0
  rest_from_fits fits =
      let product : pos fits.many *ℤ site.width ≡ pos (fits.many * n) = product_is fits.many in
      let is : unsigned_abs size.width ≡ fits.many * n = omega (arith, ints, fits.wide, product) in
      rw is (mul-mod_left fits.many n)

  pub fits_test : (rest : ℕ) → size.height ≡ site.height → rest ≡ unsigned_abs size.width % unsigned_abs site.width → IsTrue (eqb rest 0) ↔ FitsSites site size
  fits_test rest high is = (
    λ t. fits_from_rest high (sym is ∙ eqb-true rest 0 t),
    λ fits. eq-eqb rest 0 (is ∙ rest_from_fits fits),
  )

-- a macro can stand on some row, by its site
module _ (design : DesignModel) (size : ExtentModel) (number : ℕ) where
  pub no_row_beyond : length design.library.sites ≤ number → HasRowFor design size number → ⊥
  no_row_beyond beyond h = omega (arith, beyond, slice_get_within design.library.sites number h.site h.is_site)

  module _ (site : Site) (there : slice_get design.library.sites number ≡ Some site) where
    pub no_row_unfit : (FitsSites site.size size → ⊥) → HasRowFor design size number → ⊥
    no_row_unfit unfit h = let same : h.site ≡ site = same_Some h.site site (sym h.is_site ∙ there) in unfit (rw same at h.fits)

-- a movable component's macro has a site
pub has_site : (design : DesignModel) (c : ℕ) (component : Component) (master : MasterModel) → slice_get design.components c ≡ Some component
    → slice_get design.library.masters component.master ≡ Some master → IsMovable design c → master.site ≡ None → ⊥
has_site design c component master there is_master m none =
    let one : m.component ≡ component = same_Some m.component component (sym m.there ∙ there) in
    let same : m.master ≡ master = same_Some m.master master (sym (rw one at m.is_master) ∙ is_master) in
    none-some m.number (sym none ∙ (rw same at m.site))

-- whether a component is unsuited, by its macro
module _ (design : DesignModel) (c : ℕ) (component : Component) (master : MasterModel) (number : ℕ)
    (there : slice_get design.components c ≡ Some component) (is_master : slice_get design.library.masters component.master ≡ Some master)
    (site : master.site ≡ Some number) where
  pub told : (m : IsMovable design c) → m.master ≡ master
  told m =
      let one : m.component ≡ component = same_Some m.component component (sym m.there ∙ there) in
      same_Some m.master master (sym (rw one at m.is_master) ∙ is_master)

  pub numbered : (m : IsMovable design c) → m.number ≡ number
  numbered m =
      let alike : m.master ≡ master = told m in
      same_Some m.number number (sym (rw alike at m.site) ∙ site)

  pub unsuited_just_where : (b : Bool) → IsMovable design c → IsTrue b ↔ HasRowFor design master.size number → IsTrue (not b) ↔ IsUnsuited design c
  unsuited_just_where true movable test = (
    λ t. absurd (false≢true t),
    λ u.
        let alike : u.movable.master ≡ master = told u.movable in
        let same : u.movable.number ≡ number = numbered u.movable in
        absurd (u.misfit (rw (alike, same) (test.0 refl))),
  )
  unsuited_just_where false movable test = (
    λ t. record {
      movable = movable;
      misfit = λ h.
          let alike : movable.master ≡ master = told movable in
          let same : movable.number ≡ number = numbered movable in
          false≢true (test.1 (rw (alike, same) at h));
    },
    λ u. refl,
  )

-- no component below end is unsuited
abbrev pub NoneUnsuitedBelow : DesignModel → ℕ → Type 0
NoneUnsuitedBelow design end = (c : ℕ) → c < end → IsUnsuited design c → ⊥

pub none_unsuited_more : (design : DesignModel) (i : ℕ) → (IsUnsuited design i → ⊥) → NoneUnsuitedBelow design i → NoneUnsuitedBelow design (i + 1)
none_unsuited_more design i here none c below u =
    elim (cases_lt c i) [
      | inl earlier ↦ none c earlier u
      | inr late ↦ let is : c ≡ i = omega arith in here (rw is at u)
    ]

pub all_suited : (design : DesignModel) → NoneUnsuitedBelow design (length design.components) → AreSuited design
all_suited design none c u = none c (slice_get_within design.components c u.movable.component u.movable.there) u

at_least : (design : DesignModel) (c d : ℕ) → NoneUnsuitedBelow design c → IsUnsuited design d → c ≤ d
at_least design c d none u = elim (cases_lt d c) [ inl below ↦ absurd (none d below u) | inr above ↦ above ]

pub least_is : (design : DesignModel) (c : ℕ) → NoneUnsuitedBelow design c → IsUnsuited design c → IsLeastUnsuited design c
least_is design c none u = record { unsuited = u; least = λ d v. at_least design c d none v }
