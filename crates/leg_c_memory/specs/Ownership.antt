-- What memory and a list of its free parts own (lefdef's own rule). b is the object that they lie in.
use Rattle.std.specs.Prelude.{ℕ, ◌/◌, List, [], ◌∷◌}
use mir.Syntax.{Ty, w64, w128, ty_int, ty_ptr, ty_array, ty_struct, tcons, tnil}
use mir.Val.{Val, vint, vstruct, vcons, vnil}
use base.Fraction.{full_share}
use prog.Memory.{size}
use base.Fml.{Lft, Fml, ffalse, ftrue, fsep, fex, fwand, fat, froom}
use denote.RattleType.{RattleType}
use denote.Memory.{cell_at}
use denote.RawPtr.{Ptr, block_ptr, null_ptr, ptr_val, room_for}
use denote.Sharing.{said}
use denote.Hidden.{guarded}
use Rattle.leg_c_memory.specs.Sizes.{Span, IsSpan, IsBlock, block_size}

-- n bytes, as units of 16 that are aligned to 16
abbrev pub units_of : ℕ → Ty
units_of n = ty_array (ty_int w128) (n / 16)

-- room for them at p
abbrev pub bytes_at : Ptr → ℕ → Fml
bytes_at p n = room_for (units_of n) p

-- `Hole`, as it lies in memory
abbrev pub hole_type : Ty
hole_type = ty_struct [] (tcons (ty_int w64) (tcons ty_ptr tnil))

-- its machine value
abbrev pub hole_val : ℕ → Ptr → Val
hole_val n next = vstruct (vcons (vint w64 n) (vcons (ptr_val next) vnil))

module _ (b : ℕ) where
  -- with the room of its header, all the bytes of the hole
  abbrev pub behind : Span → Fml
  behind h = fwand (froom hole_type b h.0) (froom (units_of h.1) b h.0)

  -- the hole h, whose header points to next
  abbrev pub hole : Span → Ptr → Fml
  hole h next = fex (IsSpan h) (λ _. fsep (fat full_share hole_type b h.0 (hole_val h.1 next)) (behind h))

  -- the first of the holes, or null
  abbrev pub first_of : List Span → Ptr
  first_of [] = null_ptr
  first_of (h ∷ hs) = block_ptr b h.0

  -- holes, each of which points to the next
  abbrev pub holes : List Span → Fml
  holes [] = ftrue
  holes (h ∷ hs) = fsep (hole h (first_of hs)) (holes hs)

-- the right to give the block for a τ at p back to a heap over the object b
abbrev pub block_token : ℕ → Ty → Ptr → Fml
block_token b τ p = fex (IsBlock b p (block_size (size τ))) (λ _. fwand (room_for τ p) (bytes_at p (block_size (size τ))))

module _ (F : RattleType) (I : F.Denot → Fml) where
  -- fields of which I holds, in memory
  abbrev pub fields_with : ℕ → ℕ → Fml
  fields_with b o = fex (List Val) (λ vs. fsep (cell_at full_share F.mir vs b o) (fex F.Denot (λ i. fsep (F.own_val i vs) (I i))))

  -- they are reached with the thread's token, and I holds again afterwards
  abbrev pub behind_a_ref : Ptr → Lft → Fml
  behind_a_ref (block_ptr b o) = guarded (b, o) (fields_with b o)
  behind_a_ref null_ptr = said ffalse
