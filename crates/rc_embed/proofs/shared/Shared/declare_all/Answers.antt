use Rattle.std.proofs.Common.{◌≡◌, ◌<◌, ◌≤◌, ℕ, List, All, length, map, take, length-set, sym, ap, ◌∙◌, subst, arith}
use Rattle.rc_embed.proofs.Imports.{length-map, take-take, take_all, Call, HasOperation, spec_of, AskedCall, declared_by, declared_call, pattern_at}
use Rattle.rc_embed.proofs.DeclaringLemmas.{declared_here, declared_known, one_declared, pattern_few}
use Rattle.rc_embed.proofs.shared.Shared.declare_all.Goals as goal

pub values-requires : goal.values-requires
values-requires g c =
    let asked = g.A.Asks.asked in
    let spec = spec_of c.args.self.now.row in
    let one = asked c.index-declared-at.result in
    let here = declared_here asked spec c.args.declared.now c.loop-at.at c.index-declared-at.result
    c.loop-at-test.true c.index-declared-at.is c.requires in
    let few = pattern_few spec c.spec.ensures.known one.op here.0 in
    let count = here.1 in
    omega (arith, few, count)

pub declare_call-requires : goal.declare_call-requires
declare_call-requires g c =
    let asked = g.A.Asks.asked in
    let spec = spec_of c.args.self.now.row in
    let here = declared_here asked spec c.args.declared.now c.loop-at.at c.index-declared-at.result
    c.loop-at-test.true c.index-declared-at.is c.requires in
    record {
      known = subst (λ (k : ℕ). k < length spec.ops) (sym c.op.ensures) here.0;
      few =
          subst (λ (k : ℕ). k ≤ length (pattern_at spec c.op.result)) (sym c.values.ensures.count)
          (subst (λ (k : ℕ). (asked c.index-declared-at.result).count ≤ length (pattern_at spec k)) (sym c.op.ensures) here.1);
    }

pub loop-at-preserved : goal.loop-at-preserved
loop-at-preserved g c =
    let asked = g.A.Asks.asked in
    let spec = spec_of c.args.self.now.row in
    let xs = c.args.declared.now in
    let calls = c.loop-at.calls.items in
    let at = c.loop-at.at in
    let x = c.index-declared-at.result in
    let made = c.declare_call.new.call in
    let call : made ≡ declared_call spec (asked x).op (asked x).values =
    c.in_ok-declare_call.ensures
    ∙ ap (λ (k : ℕ). declared_call spec k c.values.result.now) c.op.ensures
    ∙ ap (declared_call spec (asked x).op) c.values.ensures.values in
    let same = length-set calls at made in
    let room = c.loop-at.invariant.0 in
    let below = c.loop-at-test.true in
    let within : at < length calls = omega (arith, room, below) in (
      omega (arith, same, room),
      one_declared asked spec xs at x below c.index-declared-at.is calls made within c.loop-at.invariant.1 call,
    )

pub returns-clause-known : goal.returns-clause-known
returns-clause-known g c =
    let asked = g.A.Asks.asked in
    let spec = spec_of c.args.self.now.row in
    let xs = c.args.declared.now in
    let calls = c.loop-at.calls.items in
    let at = c.loop-at.at in
    let all : List Call = declared_by spec (map asked xs) in
    let some = length-map xs asked in
    let many = length-map (map asked xs) (λ (one : AskedCall). declared_call spec one.op one.values) in
    let end = c.loop-at-test.false in
    let filled : take (length xs) calls ≡ all =
    sym (take-take (length xs) at calls (omega (arith, end)))
    ∙ ap (take (length xs)) (c.loop-at.invariant.1 ∙ take_all at all (omega (arith, end, some, many)))
    ∙ take_all (length xs) all (omega (arith, some, many)) in
    subst (λ (cs : List Call). All (HasOperation spec) cs) (sym filled) (declared_known spec (map asked xs) c.requires)
