-- One piece more of a read to the end, and of a write of all.
use Rattle.std.proofs.Common.{◌≡◌, ℕ, ◌+◌, ◌-◌, ◌<◌, ◌≤◌, List, ◌++◌, length, take, drop, Option, sym, subst, arith}
use Rattle.std.proofs.lemmas.List.{length-append, length-take, take_rest}
use Rattle.std.proofs.Math.Seq.{take-add}
use Rattle.rc_io.specs.Bytes.{Takes, Adds}
use Rattle.rc_io.specs.BytesLaws.{takes_more, adds_more}

-- the next bytes of a list, after its first i
pub adds_next : (a b c : Option (List ℕ)) (xs : List ℕ) (i n : ℕ) → Adds a (take i xs) b → Adds b (take n (take (length xs - i) (drop i xs))) c → Adds a (take (i + n) xs) c
adds_next a b c xs i n before piece =
    subst (λ l. Adds a l c) (sym (take-add i n xs))
    (adds_more a b c (take i xs) (take n (drop i xs)) before (subst (λ l. Adds b (take n l) c) (take_rest xs i) piece))

-- a piece that passes the limit, of which one byte more was asked for than the limit leaves
pub passed_limit : (a b c : Option (List ℕ)) (xs buf : List ℕ) (n limit : ℕ) → Takes a xs b → Takes b (take n buf) c → length xs ≤ limit → limit - length xs < n → n ≤ length buf → length buf ≤ limit - length xs + 1
    → (bytes : List ℕ) × (length bytes ≡ limit + 1) × Takes a bytes c
passed_limit a b c xs buf n limit before piece within over fits room =
    (xs ++ take n buf, omega (arith, length-append xs (take n buf), length-take n buf), takes_more a b c xs (take n buf) before piece)

-- a piece within the limit
pub within_limit : (a b c : Option (List ℕ)) (xs buf : List ℕ) (n limit : ℕ) → Takes a xs b → Takes b (take n buf) c → length xs ≤ limit → n ≤ limit - length xs
    → (bytes : List ℕ) × (length bytes ≤ limit) × Takes a bytes c
within_limit a b c xs buf n limit before piece within fits =
    (xs ++ take n buf, omega (arith, length-append xs (take n buf), length-take n buf), takes_more a b c xs (take n buf) before piece)
