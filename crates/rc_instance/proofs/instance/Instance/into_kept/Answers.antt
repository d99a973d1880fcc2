use Rattle.std.proofs.Common.{◌≡◌, ◌≤◌, arith, length, map, sym, ap, ◌∙◌}
use Rattle.rc_instance.proofs.Imports.{List, KeptRows, kept_rows, Stripe, held_from, kept_stripe}
use Rattle.rc_instance.proofs.KeptLemmas.{free_at_rest, fragments_kept, kept_again, many_fragments}
use Rattle.rc_instance.proofs.instance.Instance.into_kept.Goals as goal

pub kept_in-requires-clause-rest : goal.kept_in-requires-clause-rest
kept_in-requires-clause-rest c = free_at_rest 0 c.self.inside.fragments.items c.self.inside.held
    (ap (held_from 0) c.self.view_is ∙ c.requires.free) c.self.invariant.stripes.free

pub kept_in-requires-clause-room : goal.kept_in-requires-clause-room
kept_in-requires-clause-room c =
    let many : length c.args.self ≡ length c.self.inside.fragments.items = ap (λ (ss : List Stripe). length ss) (sym c.self.view_is) ∙ many_fragments c.self.inside.fragments.items c.self.inside.held in
    let room = c.requires.room.1 in
    (c.requires.room.0, omega (arith, many, room))

pub returns-clause-kept : goal.returns-clause-kept
returns-clause-kept c = c.kept_in.ensures ∙ fragments_kept c.self.inside.fragments.items c.self.inside.held ∙ ap (map (λ (s : Stripe). kept_rows s.fragment)) c.self.view_is

pub returns-clause-inverse : goal.returns-clause-inverse
returns-clause-inverse c = λ kept is.
    c.kept_in.ensures ∙ fragments_kept c.self.inside.fragments.items c.self.inside.held
    ∙ ap (map (λ (s : Stripe). kept_rows s.fragment)) (c.self.view_is ∙ is) ∙ kept_again kept
