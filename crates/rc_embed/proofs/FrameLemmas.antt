-- What frames are told.
use Rattle.std.proofs.Common.{◌≡◌, ℕ, zero, suc, ◌+◌, ◌<◌, ◌≤◌, List, [], ◌∷◌, ◌++◌, length, map, take, drop, get_or, set, Some, None, refl, sym, ap, ◌∙◌, arith}
use Rattle.rc_embed.proofs.Imports.{slice_get, get_or_default, map_over_more, same_Some, Reply, Frame, with_replies, with_reply}

-- so many frames are told their replies
abbrev pub told_so_far : List Reply → List Frame → ℕ → List Frame
told_so_far replies frames at = with_replies (take at replies) (take at frames) ++ drop at frames

-- the next frame is as it was
told_here : (replies : List Reply) (frames : List Frame) (at : ℕ) (d : Frame) → at < length frames → at ≤ length replies
    → get_or (told_so_far replies frames at) at d ≡ get_or frames at d
told_here replies [] at d below within = absurd (omega (arith, below))
told_here replies (frame ∷ frames) zero d below within = refl
told_here [] (frame ∷ frames) (suc at) d below within = absurd (omega (arith, within))
told_here (reply ∷ replies) (frame ∷ frames) (suc at) d below within = told_here replies frames at d (omega (arith, below)) (omega (arith, within))

told_next : (replies : List Reply) (frames : List Frame) (at : ℕ) (reply : Reply) (d : Frame) → at < length frames → slice_get replies at ≡ Some reply
    → set (told_so_far replies frames at) at (with_reply reply (get_or frames at d)) ≡ told_so_far replies frames (suc at)
told_next replies [] at reply d below there = absurd (omega (arith, below))
told_next [] (frame ∷ frames) at reply d below there = absurd cc
told_next (r ∷ replies) (frame ∷ frames) zero reply d below there =
    ap (λ (x : Reply). with_reply x frame ∷ frames) (sym (same_Some r reply there))
told_next (r ∷ replies) (frame ∷ frames) (suc at) reply d below there =
    ap (λ (l : List Frame). with_reply r frame ∷ l) (told_next replies frames at reply d (omega (arith, below)) there)

next : (k : ℕ) → suc k ≡ k + 1
next k = omega arith

-- one frame more is told
pub told_more : (replies : List Reply) (frames now : List Frame) (at : ℕ) (reply : Reply) (d : Frame)
    → length replies ≡ length frames → at < length frames → slice_get replies at ≡ Some reply
    → now ≡ told_so_far replies frames at
    → set now at (with_reply reply (get_or now at d)) ≡ told_so_far replies frames (at + 1)
told_more replies frames now at reply d same below there is =
    ap (λ (l : List Frame). set l at (with_reply reply (get_or l at d))) is
    ∙ ap (λ (f : Frame). set (told_so_far replies frames at) at (with_reply reply f))
    (told_here replies frames at d below (omega (arith, below, same)))
    ∙ told_next replies frames at reply d below there
    ∙ ap (told_so_far replies frames) (next at)

-- and one more its place
pub placed_more : (f : Frame → Frame) (frames now : List Frame) (at : ℕ) (d : Frame) → at < length frames → length now ≡ length frames
    → now ≡ map f (take at frames) ++ drop at frames
    → set now at (f (get_or now at d)) ≡ map f (take (at + 1) frames) ++ drop (at + 1) frames
placed_more f frames now at d below same is =
    map_over_more f frames now at (get_or now at d) below is
    (get_or_default now at d (get_or now at d) (omega (arith, below, same)))

-- each frame has a reply
pub told_none : (replies : List Reply) (frames : List Frame) (at : ℕ) → length replies ≡ length frames → at < length frames
    → slice_get replies at ≡ None → ⊥
told_none [] [] at same below none = omega (arith, below)
told_none [] (frame ∷ frames) at same below none = omega (arith, same)
told_none (reply ∷ replies) [] at same below none = omega (arith, same)
told_none (reply ∷ replies) (frame ∷ frames) zero same below none = cc
told_none (reply ∷ replies) (frame ∷ frames) (suc at) same below none = told_none replies frames at (omega (arith, same)) (omega (arith, below)) none

-- all are told
pub told_all : (replies : List Reply) (frames : List Frame) (at : ℕ) → length replies ≡ length frames → at ≡ length frames
    → told_so_far replies frames at ≡ with_replies replies frames
told_all [] [] zero same all = refl
told_all [] [] (suc at) same all = absurd (omega (arith, all))
told_all [] (frame ∷ frames) at same all = absurd (omega (arith, same))
told_all (reply ∷ replies) [] at same all = absurd (omega (arith, same))
told_all (reply ∷ replies) (frame ∷ frames) zero same all = absurd (omega (arith, all))
told_all (reply ∷ replies) (frame ∷ frames) (suc at) same all =
    ap (λ (l : List Frame). with_reply reply frame ∷ l) (told_all replies frames at (omega (arith, same)) (omega (arith, all)))

-- ---- one frame
