use Rattle.std.proofs.Common.{◌≡◌}
use Rattle.rc_row.proofs.Imports.{Shared, core_of, with_standing, KeepsOut, turned_away}
use Rattle.rc_row.proofs.FoundLemmas.{some_of}
use Rattle.rc_row.proofs.WaitLemmas.{waited_first, waited_above, waited_more}
use Rattle.rc_row.proofs.row.Row.wait_share.Goals as goal

pub loop-init : goal.loop-init
loop-init g c = (c.requires.pass, waited_first Shared c.args.self.now.key.passes c.args.stripe c.args.pass.now)

pub try_share-requires-clause-above : goal.try_share-requires-clause-above
try_share-requires-clause-above g c = waited_above Shared c.args.self.now.key.passes c.args.stripe c.args.pass.now c.loop.pass c.loop.pass c.loop.invariant.1 c.args.stripe c.requires.above

pub loop-preserved : goal.loop-preserved
loop-preserved g c = (
  c.try_share.ensures.pass,
  waited_more Shared c.args.self.now.key.passes c.args.stripe c.args.pass.now c.loop.pass c.try_share.new.pass c.loop.invariant.1 c.in-Ok-Some.field-0-0
      (some_of c.in-Ok-Some.field-0 c.in-Ok-Some.field-0-0 (KeepsOut Shared c.args.self.now.key.passes (core_of c.loop.pass).number) c.in-Ok-Some.field-0-is c.in-Ok-Some.ensures.found)
      (some_of c.in-Ok-Some.field-0 c.in-Ok-Some.field-0-0 (λ found. c.try_share.new.pass ≡ with_standing (turned_away Shared c.loop.pass.standing c.args.stripe found) c.loop.pass) c.in-Ok-Some.field-0-is c.in-Ok-Some.ensures.refused),
)

pub loop-preserved-in-Ok-Some-Latch : goal.loop-preserved-in-Ok-Some-Latch
loop-preserved-in-Ok-Some-Latch g c = (
  c.try_share.ensures.pass,
  waited_more Shared c.args.self.now.key.passes c.args.stripe c.args.pass.now c.loop.pass c.try_share.new.pass c.loop.invariant.1 c.in-Ok-Some-Latch.field-0-0
      (some_of c.in-Ok-Some-Latch.field-0 c.in-Ok-Some-Latch.field-0-0 (KeepsOut Shared c.args.self.now.key.passes (core_of c.loop.pass).number) c.in-Ok-Some-Latch.field-0-is c.in-Ok-Some-Latch.ensures.found)
      (some_of c.in-Ok-Some-Latch.field-0 c.in-Ok-Some-Latch.field-0-0 (λ found. c.try_share.new.pass ≡ with_standing (turned_away Shared c.loop.pass.standing c.args.stripe found) c.loop.pass) c.in-Ok-Some-Latch.field-0-is c.in-Ok-Some-Latch.ensures.refused),
)
