-- Memory is cut and glued, and made into room for a type and back. Assumes `Logic`.
use Rattle.leg_c_memory.proofs.Steps.{◌≡◌, ℕ, zero, suc, ◌+◌, ◌-◌, ◌%◌, ◌≤◌, [], ◌∷◌, refl, sym, ap, subst, ◌∙◌, arith, Ty, SProp, ent, sep, wand, apply∗, fat, froom, full_share, size, align, Logic, sem, ‵, raw, ◌⊛◌, ◌$◌, ◌∵◌, !, qed, by, join, use1, use2, split, frame, rewrite, done, Ptr}
use Rattle.std.proofs.Common.{◌/◌, ◌*◌, max}
use seplogic.Ra.Ura.{Ura}
use mir.Syntax.{Tys, w8, w128, tnil, tcons, ty_int, ty_array, ty_struct}
use native.Mathlib.Nat.{mod_self, sub-zero}
use prog.Memory.{pad, up, end_of}
use prog.Model.{rooms_at}
use prog.Align.{Dv, dv→, dv_zero, dv_one, dv_mul, align_pos}
use types.Kit.{assume}
use denote.RawPtr.Room.{room_cut, room_glue, past}
use Rattle.leg_c_memory.specs.Sizes.{Span}
use Rattle.leg_c_memory.specs.Ownership.{units_of, hole_type, hole_val, behind}

abbrev one_unit : Ty
one_unit = ty_int w128

past_units : (k o : ℕ) → past one_unit k o ≡ o + k * 16
past_units zero o = omega arith
past_units (suc k) o = past_units k (o + 16) ∙ omega arith

-- a size that is a multiple of the alignment needs no padding
flush : (a n : ℕ) → Dv a n → up a n ≡ n
flush a n d =
    let gone : pad a n ≡ 0 = ap (λ (r : ℕ). (a - r) % a) (dv→ a n d) ∙ ap (λ (r : ℕ). r % a) (sub-zero a) ∙ mod_self a in
    ap (λ (r : ℕ). n + r) gone ∙ omega arith

module _ {M : Type 1} {𝓤 : Ura M} (𝓛 : Logic 𝓤) (b : ℕ) where
  open 𝓛 use {H}

  abbrev bytes : ℕ → ℕ → SProp 𝓤
  bytes x n = H.room (units_of n) b x

  module _ (x m n : ℕ) (whole : m % 16 ≡ 0) where
    sum : (m + n) / 16 ≡ m / 16 + n / 16
    sum = omega arith

    far : past one_unit (m / 16) x ≡ x + m
    far = past_units (m / 16) x ∙ omega arith

    pub cuts : ent 𝓤 (bytes x (m + n)) (sep 𝓤 (bytes x m) (bytes (x + m) n))
    cuts = qed 𝓛 (raw (bytes x (m + n)) ∷ []) ∵ rewrite ! 0 (λ (k : ℕ). raw (H.room (ty_array one_unit k) b x)) sum refl $
        use1 𝓛 (raw (bytes x m) ⊛ raw (bytes (past one_unit (m / 16) x) n)) (room_cut 𝓛 one_unit (m / 16) (n / 16) b x) $ split ! $
        rewrite ! 1 (λ (d : ℕ). raw (bytes d n)) far refl $ done !

    pub glues : ent 𝓤 (sep 𝓤 (bytes x m) (bytes (x + m) n)) (bytes x (m + n))
    glues = qed 𝓛 (raw (bytes x m) ∷ raw (bytes (x + m) n) ∷ []) ∵ rewrite ! 1 (λ (d : ℕ). raw (bytes d n)) (sym far) refl $
        use2 𝓛 (raw (H.room (ty_array one_unit (m / 16 + n / 16)) b x)) (room_glue 𝓛 one_unit (m / 16) (n / 16) b x) $
        rewrite ! 0 (λ (k : ℕ). raw (H.room (ty_array one_unit k) b x)) (sym sum) refl $ done !

  pub resized : (x m n : ℕ) → m ≡ n → ent 𝓤 (bytes x m) (bytes x n)
  resized x m n same = qed 𝓛 (raw (bytes x m) ∷ []) ∵ rewrite ! 0 (λ (k : ℕ). raw (bytes x k)) same refl $ done !

  -- n bytes are room for a type that they can hold, as a struct of it and of the bytes after it
  pub retyped : (τ : Ty) (x n : ℕ) → n % 16 ≡ 0 → size τ ≤ n → Dv (align τ) 16 → ent 𝓤 (bytes x n) (sep 𝓤 (H.room τ b x) (wand 𝓤 (H.room τ b x) (bytes x n)))
  retyped τ x n whole fits dv =
      let tail : Tys = tcons (ty_array (ty_int w8) (n - size τ)) tnil in
      let ω : Ty = ty_struct [] (tcons τ tail) in
      let one : max (align τ) 1 ≡ align τ = omega (arith, align_pos τ) in
      let start : up (align τ) 0 ≡ 0 = flush (align τ) 0 (dv_zero (align τ)) in
      let ends : end_of zero (tcons τ tail) ≡ n / 16 * 16 =
      ap (λ (k : ℕ). k + (n - size τ) * 1) (flush 1 (up (align τ) 0 + size τ) (dv_one (up (align τ) 0 + size τ)) ∙ ap (λ (k : ℕ). k + size τ) start)
      ∙ omega arith in
      let same : size ω ≡ n / 16 * 16 = (λ i. up (one i) (ends i)) ∙ flush (align τ) (n / 16 * 16) (dv_mul (align τ) 16 (n / 16) dv) in
      let front : x + up (align τ) 0 ≡ x = ap (λ (k : ℕ). x + k) start ∙ omega arith in
      let Rest : SProp 𝓤 = rooms_at 𝓤 H tail (up (align τ) 0 + size τ) b x in
      let Front : SProp 𝓤 = H.room τ b (x + up (align τ) 0) in
      subst (λ (d : ℕ). ent 𝓤 (bytes x n) (sep 𝓤 (H.room τ b d) (wand 𝓤 (H.room τ b d) (bytes x n)))) front
      (qed 𝓛 (raw (bytes x n) ∷ []) ∵
      use1 𝓛 (raw (H.room ω b x) ⊛ raw (wand 𝓤 (H.room ω b x) (bytes x n))) (𝓛.laws.room_as (units_of n) ω b x same (subst (λ (k : ℕ). Dv k 16) (sym one) dv)) $
      split ! $
      use1 𝓛 ((raw Front ⊛ raw Rest) ⊛ raw (wand 𝓤 (sep 𝓤 Front Rest) (H.room ω b x))) (𝓛.laws.room_fields [] (tcons τ tail) b x) $ split ! $ split ! $
      frame ! $ assume ! (raw Front) $ join ! $
      use2 𝓛 (raw (H.room ω b x)) (apply∗ 𝓤 (sep 𝓤 Front Rest) (H.room ω b x)) $ by ! (apply∗ 𝓤 (H.room ω b x) (bytes x n)))

  -- a hole's header is room for it
  pub formed : (h : Span) → 16 ≤ h.1 → h.1 % 16 ≡ 0 → ent 𝓤 (bytes h.0 h.1) (sep 𝓤 (H.room hole_type b h.0) (sem 𝓛 (behind b h)))
  formed h large even = retyped hole_type h.0 h.1 even large tt

  pub dissolved : (h : Span) (next : Ptr) → ent 𝓤 (sep 𝓤 (H.at full_share hole_type b h.0 (hole_val h.1 next)) (sem 𝓛 (behind b h))) (bytes h.0 h.1)
  dissolved h next = qed 𝓛 (‵ (fat full_share hole_type b h.0 (hole_val h.1 next)) ∷ ‵ (behind b h) ∷ []) ∵
      use1 𝓛 (‵ (froom hole_type b h.0)) (𝓛.laws.at_room hole_type b h.0 (hole_val h.1 next)) $ by ! (apply∗ 𝓤 (H.room hole_type b h.0) (bytes h.0 h.1))
