-- The body of an arm, which a walk names.
use Rattle.std.proofs.Common.{ℕ, zero, suc}
use mir.Syntax.{Body, Arms, skip, seq, assign, block, loop, cond, switch, exit, return, call, call_v, unreachable, lend_static, arm, default, no_default}

abbrev arms_of : Body → Arms
arms_of skip = no_default
arms_of (seq first rest) = no_default
arms_of (assign to value) = no_default
arms_of (block body) = no_default
arms_of (loop body) = no_default
arms_of (cond x₀ x₁ x₂) = no_default
arms_of (switch tag arms) = arms
arms_of (exit depth) = no_default
arms_of return = no_default
arms_of (call callee values to) = no_default
arms_of (call_v x₀ x₁ x₂ x₃) = no_default
arms_of unreachable = no_default
arms_of (lend_static x₀ x₁ x₂) = no_default

abbrev nth_arm : Arms → ℕ → Body
nth_arm (arm tags body rest) zero = body
nth_arm (arm tags body rest) (suc k) = nth_arm rest k
nth_arm (default body) zero = body
nth_arm (default body) (suc k) = body
nth_arm no_default zero = skip
nth_arm no_default (suc k) = skip

abbrev pub arm_body : ℕ → Body → Body
arm_body k body = nth_arm (arms_of body) k
