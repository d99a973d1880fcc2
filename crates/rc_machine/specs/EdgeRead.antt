-- What a Read asks of its edge.
use Rattle.std.specs.Prelude.{◌≡◌, ◌<◌, List, length}
use Rattle.rc_machine.specs.Imports.{IsSealed, class_at, class_of, edge_table, EdgeShape, IsResolvedEdge}
use Rattle.rc_machine.specs.declared.edge_read.EdgeRead.{EdgeRead}

-- what it has of the edge is the specification's
pub record IsResolved (r : EdgeRead) : Type 0 where
  pub class : r.class.now ≡ class_at r.spec.now (class_of r.spec.now r.edge)
  pub edge : IsResolvedEdge r.spec.now r.edge r.resolved.now

-- it is of an edge of an accepted specification, over fragments with its edge table
pub record IsReadOver (shapes : List EdgeShape) (r : EdgeRead) : Type 0 where
  pub sealed : IsSealed r.spec.now
  pub known : r.edge < length r.spec.now.edges
  pub resolved : IsResolved r
  pub table : shapes ≡ edge_table r.spec.now
