-- The names that the walks cite, passed on from one place, and the parts of a body that is walked.
pub use Rattle.std.proofs.Common.{◌≡◌, ℕ, zero, suc, ◌+◌, ◌-◌, ◌*◌, ◌/◌, ◌%◌, ◌^◌, ◌<◌, ◌≤◌, Bool, true, false, List, [], ◌∷◌, ◌++◌, refl, sym, ap, subst, ◌∙◌, arith, lit<, eqb→eq, w64, IfSome, None, Some, Ok, Err}
pub use mir.Syntax.{Ty, Fn, Body, skip, seq, assign, block, loop, cond, switch, exit, return, call, call_v, unreachable, lend_static}
pub use mir.Val.{Val, vint, vptr, vbool, vunit, vcons, vnil}
pub use base.Fraction.{full_share}
pub use base.Logic.{SProp, ent, sep, wand, emp, never, id⊢, apply∗}
pub use base.Fml.{Lft, Share, Fml, ftrue, fsep, fex, fwand, fat, froom, flft, ftok}
pub use prog.Memory.{size, align, capped}
pub use prog.Wp.{Env, WpFn, Calls, Loops, Wp, after_seq, after_block}
pub use contract.Monad.{fact, fact_i}
pub use contract.Running.{tables}
pub use types.Logic.{Logic, sem}
pub use types.Kit.{Item, Goal, Seq, Post, any_q, post, ‵, raw, ◌⊛◌, some, later, prop, at_ret, ◌$◌, ◌∵◌, !, qed, by, move, keep, drop, use0, use1, use2, use3, split, split3, join, pick, frame, rewrite, regoal, fsplit, fsplit3, fjoin, fpick, fpack, feq_l, feq_i, flt_i, await, done}
pub use types.Part.{whole, sub, agg, look_in, store_in}
pub use types.Match.{live, vrt, in_variant}
pub use types.Run.{stop, fld, load, init, lit, bin, un, unit_lit, of_opd, no_more, and_then, assigns, assigns_last, first, blocks, skips, branches, switches_on, exec, returns, returns_within, enter, jumps}
pub use types.ByLocal.{alloc_all, pass_all, free_all, look_at, get, get_in, get_tag, through, sets, sets_last, lands_as, is, env}
pub use denote.Builtin.{usize, bool, unit}
pub use denote.Memory.{lone}
pub use denote.Param.{layout}
pub use denote.RattleType.{RattleType, owns}
pub use denote.RawPtr.{Ptr, block_ptr, null_ptr, ptr_val, block_of, count_of, in_a_block, room_for, tests_same, tests_null, tests_order}
pub use denote.Signature.{Slot, plain, types_at, type_at}
pub use denote.Steps.{nothing, heard, only}
pub use denote.Struct.Tuple.{Tuple}
pub use denote.Triple.Call.{calls_at, calls_from}
pub use denote.Triple.Clauses.{Lasts, lasts}
pub use denote.Triple.Entry.{alive}
pub use denote.Triple.Spec.{triple_of}
pub use denote.Triple.Walked.{Stays, stay_dropped, walk_of, Goes-dropped}
pub use Rattle.core.proofs.alloc.Calls.{Goes-blank}
pub use Rattle.core.proofs.alloc.Shapes.{after, head, inside}
pub use Rattle.std_alloc.proofs.Pairs.{pair_of, pair_val}
pub use Rattle.std_alloc.proofs.ResultValues.{and_tt, ok_of, err_of}
pub use Rattle.std.proofs.raw_atomic.Walks.{proved_at, leaves}

-- the type of the parameter k
abbrev pub slot_at : {n : ℕ} → ℕ → List (Slot n) → Slot n
slot_at k [] = plain (λ _. unit)
slot_at zero (s ∷ ss) = s
slot_at (suc k) (s ∷ ss) = slot_at k ss

-- a list is empty, or it is not
pub by_list : {X : Type 1} {Y : Type 0} (l : List Y) → (l ≡ [] → X) → ((h : Y) (hs : List Y) → l ≡ h ∷ hs → X) → X
by_list [] none more = none refl
by_list (h ∷ hs) none more = more h hs refl

-- what runs once the arm of a branch, or a block, has ended
module _ {M : Type 1} {𝓤 : seplogic.Ra.Ura.Ura M} (𝓛 : Logic 𝓤) where
  open 𝓛 use {H}

  abbrev pub then_runs : Calls 𝓤 H → Loops 𝓤 H → Env 𝓤 H → Body → Post 𝓤 H → Post 𝓤 H
  then_runs C Λ E b q = any_q (after_seq 𝓤 H (Wp 𝓤 H C Λ E b (post 𝓤 H q)) (post 𝓤 H q))

  abbrev pub out_of_block : Post 𝓤 H → Post 𝓤 H
  out_of_block q = any_q (after_block 𝓤 H (post 𝓤 H q))
