use Rattle.rc_maps.proofs.Imports.{rules, answers_always, IsSearched, searched}
use Rattle.rc_maps.proofs.block.place.Goals as goal
use Rattle.rc_maps.proofs.block.place.Goals.{After-binary_search_by_key}

-- what the search says of the rows, by their keys
of_search : (g : _) (c : After-binary_search_by_key g) → IsSearched c.args.rows.now c.args.key c.binary_search_by_key.result
of_search g c =
    let facts = c.binary_search_by_key.ensures in
    searched c.args.rows.now c.args.key c.binary_search_by_key.result c.requires facts.bound
    (facts.position (λ row. row.key) (answers_always _ _ _ (λ f a r g called. search rules)))

pub returns-clause-found : goal.returns-clause-found
returns-clause-found g c = (of_search g (goal.at.returns-clause-found g c).After-binary_search_by_key).found

pub returns-clause-gap : goal.returns-clause-gap
returns-clause-gap g c = (of_search g (goal.at.returns-clause-gap g c).After-binary_search_by_key).gap
