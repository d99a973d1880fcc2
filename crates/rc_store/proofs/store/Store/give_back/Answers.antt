use Rattle.rc_store.proofs.Imports.{refl, reverted_at_rest, reverted_of_row}
use Rattle.rc_store.proofs.store.Store.give_back.Goals as goal

pub release_all-requires-clause-pass : goal.release_all-requires-clause-pass
release_all-requires-clause-pass g c =
    reverted_of_row c.args.self.now.row c.args.self.now.row c.args.pass.now c.revert.new.self refl c.revert.ensures
    c.requires

pub release_all-requires-clause-rest : goal.release_all-requires-clause-rest
release_all-requires-clause-rest g c = reverted_at_rest c.args.pass.now c.revert.new.self c.revert.ensures
