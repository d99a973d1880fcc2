-- The codes of faults aren't that of what is done.
use Rattle.std.specs.Prelude.{◌≡◌}
use Rattle.std.proofs.Common.{arith}
use Rattle.rc_embed.specs.declared.fault.OpenFault.{OpenFault}
use Rattle.rc_embed.specs.declared.fault.OpenFault.TheVariants as opens
use Rattle.rc_embed.specs.declared.fault.ResumeFault.{ResumeFault}
use Rattle.rc_embed.specs.declared.fault.ResumeFault.TheVariants.{Refused, Sessions, Limit, Other}
use Rattle.rc_embed.specs.Codes as codes
use Rattle.rc_embed.specs.OpenFrames.{open_code}
use Rattle.rc_embed.specs.ResumedFrames.{resume_code}

pub open_isnt_done : (fault : OpenFault) → open_code fault ≡ codes.done → ⊥
open_isnt_done opens.Memory is = omega (arith, is)
open_isnt_done opens.Options is = omega (arith, is)
open_isnt_done opens.TooLong is = omega (arith, is)
open_isnt_done (opens.Line rule line) is = omega (arith, is)
open_isnt_done (opens.Rule spec refusal) is = omega (arith, is)
open_isnt_done (opens.ShapeLine rule line) is = omega (arith, is)
open_isnt_done (opens.PlanLine rule line) is = omega (arith, is)
open_isnt_done (opens.Plan spec op refusal) is = omega (arith, is)

pub isnt_done : (fault : ResumeFault) → resume_code fault ≡ codes.done → ⊥
isnt_done (Refused fault) is = open_isnt_done fault is
isnt_done Sessions is = omega (arith, is)
isnt_done Limit is = omega (arith, is)
isnt_done Other is = omega (arith, is)
