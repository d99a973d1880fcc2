use Rattle.std.proofs.Common.{◌≡◌, ◌≤◌, length, map, replicate, None, sym, ap, subst, ◌∙◌, arith}
use Rattle.rc_instance.proofs.Imports.{List, length-map, KeptRows, at_rest, IsInstance, stripes_of}
use Rattle.rc_instance.proofs.NumberLemmas.{numbers-free}
use Rattle.rc_instance.proofs.StripesOfLemmas.{instance_of, kept_one_table, kept_rest, stripes_of-kept}
use Rattle.rc_instance.proofs.instance.Instance.from_kept.Goals as goal

pub invariant_of-result : goal.invariant_of-result
invariant_of-result c =
    let ks : List KeptRows = c.args.kept.items in
    let is : c.with_kept.result.items ≡ map at_rest ks = c.with_kept.ensures in
    record {
      stripes = subst (λ z. IsInstance (stripes_of z (replicate 256 None))) (sym is)
          (instance_of (map at_rest ks) (replicate 256 None) (kept_one_table ks c.requires.table) (kept_rest ks));
      few = subst (λ z. length z ≤ 256) (sym is) (omega (arith, length-map ks at_rest, c.requires.stripes, c.room.invariant.few));
      numbers_held = c.none.ensures ∙ sym (numbers-free c.with_kept.result.items 256);
    }

pub returns : goal.returns
returns c =
    ap (λ z. stripes_of z (replicate 256 None)) c.with_kept.ensures ∙ stripes_of-kept c.args.kept.items 256
