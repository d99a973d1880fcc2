use Rattle.std.proofs.Common.{◌<◌, length, subst, sym}
use Rattle.rc_machine.proofs.Imports.{Within, cols_of, class_at}
use Rattle.rc_machine.proofs.ReadLemmas.{class_known}
use Rattle.rc_machine.proofs.StripeLemmas.{class_within}
use Rattle.rc_machine.proofs.places.place_class.Goals as goal

pub push_place-requires-clause-known : goal.push_place-requires-clause-known
push_place-requires-clause-known c =
    let spec = c.args.compiled.now.spec in subst (λ z. z < length spec.classes) (sym c.edge.ensures.class) (class_known spec c.requires.sealed c.args.edge c.requires.known)

pub push_place-requires-clause-within : goal.push_place-requires-clause-within
push_place-requires-clause-within c =
    let spec = c.args.compiled.now.spec in
    subst (λ z. Within (class_at spec z).cols (cols_of c.args.tuple.now)) (sym c.edge.ensures.class) (class_within spec c.requires.sealed c.args.tuple.now c.requires.whole c.args.edge c.requires.known)
