-- Reads and writes one after another, and what they say of told bytes.
use Rattle.std.specs.Prelude.{◌≡◌, ℕ, ◌+◌, ◌≤◌, List, [], ◌++◌, length, take, Option, None, Some, unwrap_or}
use Rattle.std.proofs.Common.{refl, sym, ap, ◌∙◌, arith}
use Rattle.std.specs.Io.KnownBytes.{prepend_known, append_known}
use Rattle.std.proofs.lemmas.List.{append_assoc, append-nil, length-append, take-append-le}
use Rattle.std.proofs.Math.Seq.{take-length, take-append-add}
use Rattle.rc_io.specs.Bytes.{Takes, IsEmpty, Adds, AddsPrefix}

prepend-prepend : (xs ys : List ℕ) (o : Option (List ℕ)) → prepend_known xs (prepend_known ys o) ≡ prepend_known (xs ++ ys) o
prepend-prepend xs ys None = refl
prepend-prepend xs ys (Some zs) = ap Some (sym (append_assoc xs ys zs))

append-append : (o : Option (List ℕ)) (xs ys : List ℕ) → append_known (append_known o xs) ys ≡ append_known o (xs ++ ys)
append-append None xs ys = refl
append-append (Some zs) xs ys = ap Some (append_assoc zs xs ys)

pub takes_more : (a b c : Option (List ℕ)) (xs ys : List ℕ) → Takes a xs b → Takes b ys c → Takes a (xs ++ ys) c
takes_more a b c xs ys first then_ = first ∙ ap (prepend_known xs) then_ ∙ prepend-prepend xs ys c

-- of told bytes, those that were taken are the first, and the rest is told
pub takes_first : (bytes xs : List ℕ) (new : Option (List ℕ)) → Takes (Some bytes) xs new
    → (rest : List ℕ) × (bytes ≡ xs ++ rest) × (new ≡ Some rest)
takes_first bytes xs None taken = absurd (cc)
takes_first bytes xs (Some rest) taken = (rest, ap (λ o. unwrap_or o []) taken, refl)

-- where nothing is left then, all of them were taken
pub takes_all : (bytes xs : List ℕ) (new : Option (List ℕ)) → Takes (Some bytes) xs new → IsEmpty new
    → (xs ≡ bytes) × (new ≡ Some [])
takes_all bytes xs None taken empty = absurd (cc)
takes_all bytes xs (Some rest) taken empty =
    (sym (ap (λ o. unwrap_or o []) taken ∙ ap (λ l. xs ++ l) empty ∙ append-nil xs), ap Some empty)

-- no more are taken than are told
pub takes_at_most : (bytes xs : List ℕ) (new : Option (List ℕ)) → Takes (Some bytes) xs new → length xs ≤ length bytes
takes_at_most bytes xs new taken =
    let first = takes_first bytes xs new taken in
    rw first.1 (omega (arith, length-append xs first.0))

pub adds_none : (o : Option (List ℕ)) → Adds o [] o
adds_none None = refl
adds_none (Some xs) = ap Some (sym (append-nil xs))

pub adds_more : (a b c : Option (List ℕ)) (xs ys : List ℕ) → Adds a xs b → Adds b ys c → Adds a (xs ++ ys) c
adds_more a b c xs ys first then_ = then_ ∙ ap (λ o. append_known o ys) first ∙ append-append a xs ys

-- no bytes are a prefix
pub adds_prefix_none : (o : Option (List ℕ)) (xs : List ℕ) → AddsPrefix o xs o
adds_prefix_none o xs = (0, omega arith, adds_none o)

-- all bytes are a prefix
pub adds_prefix_all : (a b : Option (List ℕ)) (xs : List ℕ) → Adds a xs b → AddsPrefix a xs b
adds_prefix_all a b xs all = (length xs, omega arith, rw (take-length xs) all)

-- a prefix is one of a longer text too
pub adds_prefix_longer : (a b : Option (List ℕ)) (xs ys : List ℕ) → AddsPrefix a xs b → AddsPrefix a (xs ++ ys) b
adds_prefix_longer a b xs ys (n, within, part) =
    (n, omega (arith, length-append xs ys), rw (take-append-le n xs ys within) part)

-- a whole text, and then a prefix of the next one
pub adds_prefix_more : (a b c : Option (List ℕ)) (xs ys : List ℕ) → Adds a xs b → AddsPrefix b ys c → AddsPrefix a (xs ++ ys) c
adds_prefix_more a b c xs ys first (n, within, part) =
    (length xs + n, omega (arith, length-append xs ys), rw (take-append-add xs ys n) (adds_more a b c xs (take n ys) first part))
