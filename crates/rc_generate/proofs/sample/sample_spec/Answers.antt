use Rattle.std.proofs.Common.{◌≡◌, ◌∙◌, sym, subst}
use Rattle.rc_spec.specs.declared.spec.Spec.{Spec}
use Rattle.rc_spec.specs.Acceptance.{IsAccepted}
use Rattle.rc_spec.specs.InRange.{IsInRange, HasColumnAndNode}
use Rattle.rc_spec.specs.Names.{IsWellNamed}
use Rattle.rc_generate.specs.Sample.{sample_graph}
use Rattle.rc_generate.specs.SampleLaws.{sample_is_in_range, sample_is_well_named, sample_has_column_and_node}
use Rattle.rc_generate.specs.SampleAcceptance.{sample_is_accepted}
use Rattle.rc_generate.proofs.sample.sample_spec.Goals.{In_ok-ops}
use Rattle.rc_generate.proofs.sample.sample_spec.Goals as goal

same_spec : (c : In_ok-ops)
    → (let s : Spec = record {
      columns = c.in_ok-columns.field-0;
      deps = c.in_ok-deps.field-0;
      nodes = c.in_ok-nodes.field-0;
      edges = c.in_ok-edges.field-0;
      classes = c.in_ok-classes.field-0;
      places = c.in_ok-places.field-0;
      ops = c.in_ok-ops.field-0;
      most_rows = 256;
    } in sample_graph ≡ s)
same_spec c i = record {
  columns = (sym c.in_ok-columns.ensures) i;
  deps = (sym c.in_ok-deps.ensures) i;
  nodes = (sym c.in_ok-nodes.ensures) i;
  edges = (sym c.in_ok-edges.ensures) i;
  classes = (sym c.in_ok-classes.ensures) i;
  places = (sym c.in_ok-places.ensures) i;
  ops = (sym c.in_ok-ops.ensures) i;
  most_rows = 256;
}

pub new-requires : goal.new-requires
new-requires c =
    let sample = subst IsInRange (same_spec c) sample_is_in_range in
    let populated = subst HasColumnAndNode (same_spec c) sample_has_column_and_node in
    record { in_range = sample; populated = populated }

pub returns-clause-value : goal.returns-clause-value
returns-clause-value c = c.new.ensures ∙ sym (same_spec (goal.at.returns-clause-value c).In_ok-ops)

pub returns-clause-named : goal.returns-clause-named
returns-clause-named c =
    subst IsWellNamed (same_spec (goal.at.returns-clause-named c).In_ok-ops ∙ sym c.new.ensures) sample_is_well_named

pub returns-clause-accepted : goal.returns-clause-accepted
returns-clause-accepted c =
    subst IsAccepted (same_spec (goal.at.returns-clause-accepted c).In_ok-ops ∙ sym c.new.ensures) sample_is_accepted
