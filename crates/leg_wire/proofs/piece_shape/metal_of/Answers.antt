-- The shapes of the piece stand between those of lower pieces and those of higher ones.
use Rattle.std.proofs.Common.{rules, ltb, leb, arith}
use Rattle.std.proofs.lemmas.List.Sorted.{IsPartitionPoint-from_clause, IsPartitionedBy-ltb, IsPartitionedBy-leb}
use Rattle.leg_wire.specs.declared.piece_shape.PieceShape.{PieceShape}
use Rattle.leg_wire.proofs.PieceOrder.{first_before, between}
use Rattle.leg_wire.proofs.piece_shape.metal_of.Goals as goal

pub prove-unreachable-requires : goal.prove-unreachable-requires
prove-unreachable-requires c =
    let metal = c.args.metal.now in
    let piece = c.args.piece in
    let order =
    first_before metal piece c.partition_point-first.result c.partition_point-end.result
    (IsPartitionPoint-from_clause (λ (shape : PieceShape). ltb shape.piece piece) metal _ c.partition_point-first.ensures.partitioned
    (IsPartitionedBy-ltb (λ (shape : PieceShape). shape.piece) metal piece c.requires) (λ a r q called. search rules))
    (IsPartitionPoint-from_clause (λ (shape : PieceShape). leb shape.piece piece) metal _ c.partition_point-end.ensures.partitioned
    (IsPartitionedBy-leb (λ (shape : PieceShape). shape.piece) metal piece c.requires) (λ a r q called. search rules))
    c.partition_point-first.ensures.bound c.partition_point-end.ensures.bound in
    omega (arith, order, c.if-prove.true)

pub returns : goal.returns
returns c =
    let metal = c.args.metal.now in
    let piece = c.args.piece in
    between metal piece c.partition_point-first.result c.partition_point-end.result
    (IsPartitionPoint-from_clause (λ (shape : PieceShape). ltb shape.piece piece) metal _ c.partition_point-first.ensures.partitioned
    (IsPartitionedBy-ltb (λ (shape : PieceShape). shape.piece) metal piece c.requires) (λ a r q called. search rules))
    (IsPartitionPoint-from_clause (λ (shape : PieceShape). leb shape.piece piece) metal _ c.partition_point-end.ensures.partitioned
    (IsPartitionedBy-leb (λ (shape : PieceShape). shape.piece) metal piece c.requires) (λ a r q called. search rules))
    c.partition_point-first.ensures.bound c.partition_point-end.ensures.bound
