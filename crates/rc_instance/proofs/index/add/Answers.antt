use Rattle.std.proofs.Common.{◌≡◌, rules, sym, ap, subst, ◌∙◌, Some, None}
use Rattle.std.specs.Prelude.{◌++◌, [], ◌∷◌}
use Rattle.rc_instance.proofs.Imports.{Pairs, Entries, IsAdded, found_at, tuples_in, tuples_of}
use Rattle.rc_instance.proofs.IndexLemmas.{added, found, tuples_of-more}
use Rattle.rc_instance.proofs.index.add.Goals as goal

pub returns-in-Some : goal.returns-in-Some
returns-in-Some c =
    let es : Entries = c.args.index.now.entries in
    let w = c.push.new.self in
    let u = (c.get_mut.follows.holds w).3 (search rules) in
    let set : Entries = (c.get_mut.follows.lender w).entries in
    added c.args.key.now c.args.tuple.now w es set u.3 u.1
    (ap tuples_of c.in_ok-push.ensures.items ∙ tuples_of-more c.in-Some.tuples.now.items c.args.tuple
    ∙ ap (λ o. tuples_in o ++ c.args.tuple.now ∷ []) (sym (found c.args.key.now (Some c.in-Some.tuples.now) es c.in-Some.ensures.value)))

pub returns : goal.returns
returns c =
    let es : Entries = c.args.index.now.entries in
    let left : Entries = c.get_mut.follows.lender-at-none.entries in
    let same : left ≡ es = ap (λ z. z.entries) c.get_mut.follows.holds-at-none in
    let key : Pairs = c.in_ok-from_slice.field-0.items in
    let is : key ≡ c.args.key.now = c.in_ok-from_slice.ensures.items in
    let u = c.in_ok-insert.ensures.updates in
    let none : found_at left key ≡ [] = (λ i. found_at (same i) (is i)) ∙ ap tuples_in (found c.args.key.now None es c.in_default.ensures.value) in
    let more : IsAdded key c.args.tuple.now left c.insert.new.self.entries =
    added key c.args.tuple.now c.push-2.new.self left c.insert.new.self.entries u.3 u.1 (ap tuples_of (c.in_ok-push-2.ensures.items ∙ ap (λ ts. ts ++ c.args.tuple ∷ []) c.new-tuples.ensures.items) ∙ ap (λ ts. ts ++ c.args.tuple.now ∷ []) (sym none)) in
    subst (λ k. IsAdded k c.args.tuple.now es c.insert.new.self.entries) is (subst (λ (o : Entries). IsAdded key c.args.tuple.now o c.insert.new.self.entries) same more)
