-- Pieces that are joined are so both ways, and onward.
use Rattle.std.proofs.Common.{ℕ}
use Rattle.leg_rules.specs.Metal.Flat.{FlatModel}
use Rattle.leg_rules.specs.Joins.Touch.{Touch, Joined, AreJoined}
use Rattle.leg_rules.specs.Joins.Touch.Joined.{itself, through}

module _ (Meet : ℕ → ℕ → Type 0) where
  pub Joined-onward : (a b c : ℕ) → Joined Meet a b → Joined Meet b c → Joined Meet a c
  Joined-onward a b c first itself = first
  Joined-onward a b c first (through {b = d} second meet) = through (Joined-onward a b d first second) meet

  -- where the relation goes both ways
  pub Joined-symmetric : ((a b : ℕ) → Meet a b → Meet b a) → (a b : ℕ) → Joined Meet a b → Joined Meet b a
  Joined-symmetric back a b itself = itself
  Joined-symmetric back a b (through {b = d} joined meet) = Joined-onward b d a (through itself (back d b meet)) (Joined-symmetric back a d joined)

Touch-symmetric : (flat : FlatModel) (net a b : ℕ) → Touch flat net a b → Touch flat net b a
Touch-symmetric flat net a b t = record {
  layer = t.layer;
  p = t.p;
  q = t.q;
  differ = t.differ;
  p_in_a = t.p_in_b;
  p_in_b = t.p_in_a;
  q_in_a = t.q_in_b;
  q_in_b = t.q_in_a;
}

pub AreJoined-symmetric : (flat : FlatModel) (net a b : ℕ) → AreJoined flat net a b → AreJoined flat net b a
AreJoined-symmetric flat net a b joined = Joined-symmetric (Touch flat net) (Touch-symmetric flat net) a b joined
