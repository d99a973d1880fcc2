-- What the judge's relation is.
use Rattle.std.specs.Prelude.{◌≡◌, List, [], Result, Ok, Err}
use Rattle.rc_audit.specs.Imports.{Pairs, Memory, Call, Reply, Spec, plain, IsOfRelation, held_from}
use Rattle.rc_audit.specs.declared.relation.Relation.{Relation}

-- its instance is of these tuples, and no stripe is held
pub record Keeps (spec : Spec) (relation : Relation) (r : List Pairs) : Type 0 where
  pub free : held_from 0 relation.instance ≡ []
  pub of_relation : IsOfRelation spec relation.instance r

-- the reply is the plain step's, and so is the relation after it
abbrev pub HasMade : Spec → List Pairs → Call → Relation → Result Reply Memory → Type 0
HasMade spec r call relation (Ok reply) = (reply ≡ (plain spec r call).reply) × Keeps spec relation (plain spec r call).relation
HasMade spec r call relation (Err memory) = Unit {0}
