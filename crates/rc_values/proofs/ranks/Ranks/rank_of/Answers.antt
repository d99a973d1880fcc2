use Rattle.std.proofs.Common.{◌≡◌, length, ap, ◌∙◌, rules}
use Rattle.std.proofs.lemmas.Fn.{always_returns_same}
use Rattle.rc_values.specs.Ranks.{text_cmp, rank_of}
use Rattle.rc_values.proofs.RankLemmas.{searched}
use Rattle.rc_values.proofs.ranks.Ranks.rank_of.Goals as goal

pub returns-clause-rank : goal.returns-clause-rank
returns-clause-rank c =
    let text = c.args.text.now in
    let place = c.binary_search_by-place in
    let same : c.map.result ≡ c.ok.result = search rules in
    let ends = place.ensures.position (λ u. text_cmp u text) (always_returns_same _ _ _ (λ a r f k. search rules)) in
    same ∙ c.ok.ensures.value
    ∙ searched c.self.inside.texts.items text place.result c.self.invariant (rw (ap length c.deref.ensures.value) at place.ensures.bound) (rw c.deref.ensures.value at ends)
    ∙ ap (λ texts. rank_of texts text) c.self.view_is
