use Rattle.std.proofs.Common.{Vec, Global, refl, sym, ap, ◌∙◌}
use Rattle.rc_fragment.proofs.Imports.{Keyed, containers_of, Container, Root}
use Rattle.rc_fragment.proofs.SourceTableLemmas.{none-apart, none-entries, one-apart, one-entries}
use Rattle.rc_fragment.proofs.source_table.SourceTable.keyed.Goals as goal
use Rattle.rc_fragment.proofs.source_table.SourceTable.keyed.Goals.{in_default, in-Some+in_ok-push-in-Root}

pub returns-after-place-clause-apart : goal.returns-after-place-clause-apart
returns-after-place-clause-apart c =
    let none = c.new-all.ensures.items in
    elim c.match-place.branch [
      | in-Some+in_ok-push-in-Root w ↦ one-apart _ _ _ (ap (λ (v : Vec (Keyed Container) Global). v.items) w.all-is ∙ w.in_ok-push-in-Root.ensures.items) none
      | in_default w ↦ none-apart _ (ap (λ (v : Vec (Keyed Container) Global). v.items) w.all-is ∙ none)
    ]

pub returns-after-place-clause-entries : goal.returns-after-place-clause-entries
returns-after-place-clause-entries c =
    let none = c.new-all.ensures.items in
    let seen = ap containers_of (sym c.in-Root.is) in
    elim c.match-place.branch [
      | in-Some+in_ok-push-in-Root w ↦
          one-entries _ _ _ (ap (λ (v : Vec (Keyed Container) Global). v.items) w.all-is ∙ w.in_ok-push-in-Root.ensures.items) none refl
          ∙ ap (λ place. containers_of (Root place)) (sym w.in-Some.is) ∙ seen
      | in_default w ↦
          none-entries _ (ap (λ (v : Vec (Keyed Container) Global). v.items) w.all-is ∙ none)
          ∙ ap (λ place. containers_of (Root place)) (sym w.in_default.is) ∙ seen
    ]
