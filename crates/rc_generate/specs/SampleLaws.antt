-- Laws of the sample: since it is what a text is read as, it is in range and well named; and the source of an edge shares its calls out.
use Rattle.std.proofs.Common.{inl, refl, arith}
use Rattle.rc_generate.specs.Imports.{In, each_in, Dep, printed_lines, Op, IsInRange, HasColumnAndNode, IsWellNamed, text_keeps, in_range-keeps, in_range-empty, well_named-keeps, well_named-empty}
use Rattle.rc_generate.specs.Shards.{IsSharded}
use Rattle.rc_generate.specs.Sample.{sample_graph}
use Rattle.rc_generate.specs.SampleText.{sample_lines, sample_is_read}

pub sample_is_sharded : IsSharded sample_graph 0
sample_is_sharded = record {
  patterns = each_in (λ (op : Op). In 0 op.pattern) sample_graph.ops (inl refl, (inl refl, (inl refl, (inl refl, tt))));
  deps = each_in (λ (dep : Dep). In 0 dep.left) sample_graph.deps (inl refl, tt);
}

pub sample_is_in_range : IsInRange sample_graph
sample_is_in_range = text_keeps IsInRange in_range-keeps in_range-empty (printed_lines sample_lines) sample_graph sample_is_read

pub sample_is_well_named : IsWellNamed sample_graph
sample_is_well_named = text_keeps IsWellNamed well_named-keeps well_named-empty (printed_lines sample_lines) sample_graph sample_is_read

pub sample_has_column_and_node : HasColumnAndNode sample_graph
sample_has_column_and_node = record { column = omega arith; node = omega arith }
