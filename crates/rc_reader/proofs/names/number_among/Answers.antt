use Rattle.std.proofs.Common.{◌∙◌, map, rules, tests}
use Rattle.std.specs.Str.{bytes_eq}
use Rattle.std.proofs.lemmas.Iterator.{YieldsList-from_map_by, YieldsList-from_slice}
use Rattle.std.proofs.lemmas.Iterator.Adapters.{position_from-zero}
use Rattle.std.proofs.lemmas.Iterator.Search.{position_from_yields_List}
use Rattle.rc_reader.proofs.names.number_among.Goals as goal

pub returns-clause-number : goal.returns-clause-number
returns-clause-number g c =
    position_from_yields_List (λ name. bytes_eq name c.args.word.now) _ _ c.position.result c.position.ensures.ran
    (YieldsList-from_map_by _ (λ name. name.now) g.T.Named.name_of (YieldsList-from_slice c.args.items.now cc) c.map.ensures.closure (λ x r q k. search rules))
    (λ x b q k. search (rules, tests))
    ∙ position_from-zero (λ name. bytes_eq name c.args.word.now) (map g.T.Named.name_of c.args.items.now)
