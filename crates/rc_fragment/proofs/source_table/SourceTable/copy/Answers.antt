use Rattle.std.proofs.Common.{◌≡◌, Some, sym, ap, subst, ◌∙◌}
use Rattle.rc_fragment.proofs.Imports.{option_map, containers_of, AreSeenAlike, seen_container, Root}
use Rattle.rc_fragment.proofs.SourceTableLemmas.{root-alike}
use Rattle.rc_fragment.proofs.source_table.SourceTable.copy.Goals as goal
use Rattle.rc_fragment.proofs.source_table.SourceTable.copy.Goals.{Joined-place, in-None, in-Some+in_ok-copy-in-Some}

-- what is copied is seen as it is
alike : (c : Joined-place) → option_map seen_container c.match-place.copy ≡ option_map seen_container c.in-Root.place
alike c =
    elim c.match-place.branch [
      | in-Some+in_ok-copy-in-Some w ↦
          let same = w.in_ok-copy-in-Some.ensures in
          ap (option_map seen_container) w.copy-is ∙ ap Some (λ j. (same.rows j, same.form j)) ∙ sym (ap (option_map seen_container) w.in-Some.is)
      | in-None w ↦ ap (option_map seen_container) (w.copy-is ∙ sym w.in-None.is)
    ]

pub returns-after-place-clause-seen : goal.returns-after-place-clause-seen
returns-after-place-clause-seen c =
    subst (λ t. AreSeenAlike (containers_of t) (containers_of (Root c.match-place.copy))) (sym c.in-Root.is) (root-alike c.in-Root.place c.match-place.copy (alike c))
