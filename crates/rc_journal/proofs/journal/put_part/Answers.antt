use Rattle.std.proofs.Common.{◌≡◌, ◌<◌, [], ◌∷◌, length, sym, ap, subst, ◌∙◌, inl, inr, refl, arith}
use Rattle.rc_journal.proofs.Imports.{into_iter_items, length-set, nil_from_length, In, with_all}
use Rattle.rc_journal.proofs.journal.put_part.Goals as goal

pub loop-placed-init : goal.loop-placed-init
loop-placed-init c =
    let all = c.into_iter-placed-iterator.ensures.into_iter_gives.0 in
    let len = c.into_iter-placed-iterator.ensures.into_iter_gives.1 in record {
      rest = refl;
      count = len ∙ c.args.part.ok.0 ∙ sym (ap length all);
      below = λ w m. c.requires w (subst (In w) all m);
    }

pub put_entry-requires : goal.put_entry-requires
put_entry-requires c = c.loop-placed.invariant.below c.in-Some.placed (subst (In c.in-Some.placed) (sym c.in-Some.ensures.steps.0) (inl refl))

pub loop-placed-preserved : goal.loop-placed-preserved
loop-placed-preserved c =
    let at = c.loop-placed in
    let w = c.in-Some.placed in
    let steps : into_iter_items at.placed-iterator ≡ w ∷ into_iter_items c.next.new.self = c.in-Some.ensures.steps.0 in
    let same : length c.put_entry.new.entries ≡ length at.entries = ap length c.put_entry.ensures ∙ length-set at.entries w.place w.entry in record {
      rest = ap (λ l. with_all l (into_iter_items c.next.new.self)) c.put_entry.ensures ∙ ap (with_all at.entries) (sym steps) ∙ at.invariant.rest;
      count = let gone = c.in-Some.ensures.steps.1 in
          let was = at.invariant.count in
          let short = ap length steps in
          omega arith;
      below = λ v m. subst (λ n. v.place < n) (sym same) (at.invariant.below v (subst (In v) (sym steps) (inr m)));
    }

pub returns : goal.returns
returns c =
    let at = c.loop-placed in
    let empty : into_iter_items at.placed-iterator ≡ [] = nil_from_length (into_iter_items at.placed-iterator) (sym at.invariant.count ∙ c.in-None.ensures.steps.0) in
    ap (with_all at.entries) (sym empty) ∙ at.invariant.rest ∙ ap (with_all c.args.entries.now) c.into_iter-placed-iterator.ensures.into_iter_gives.0
