-- What is kept at a source and a key, and what is there.
use Rattle.std.specs.Prelude.{◌≡◌, ℕ, ◌<◌, Bool, true, false, cond, ◌&&◌, Option, None, Some, IsSome, List, nat_lt}
use Rattle.rc_fragment.proofs.Imports.{slice_get, option_and_then, ltb-false, Values, values_eq, Counted, count_of, one_less, present, get-current, present_is, kept_in, now_in, found_by, found_of, IsFiled, IsStored, IsSetAt, found_in, kept_at, now_at, Container, EdgeRows}
use Rattle.std.proofs.Common.{refl, sym, ap, ◌∙◌, arith}

-- what is kept, where its count is at least 1
abbrev pub there : Option Counted → Option Counted
there o = option_and_then present o

pub there_is : (o : Option Counted) (c : Counted) → there o ≡ Some c → (o ≡ Some c) × (0 < c.1)
there_is None c h = absurd (cc)
there_is (Some d) c h = let q : (c ≡ d) × (0 < c.1) = present_is d c h in (ap Some (sym q.0), q.1)

-- what has a count is there
pub there_with : (c : Counted) → 0 < c.1 → present c ≡ Some c
there_with c l = go (nat_lt 0 c.1) refl
  where
    go : (b : Bool) → nat_lt 0 c.1 ≡ b → cond b (Some c) None ≡ Some c
    go true t = refl
    go false t = let k = ltb-false 0 c.1 t in absurd (omega (arith, k, l))

-- what is there is there
pub there_again : (o : Option Counted) → there (there o) ≡ there o
there_again None = refl
there_again (Some c) = go (present c) refl
  where
    go : (o : Option Counted) → present c ≡ o → there o ≡ o
    go None e = refl
    go (Some d) e = there_with d (present_is c d e).1

-- it has the count of what is kept
pub count_there : (o : Option Counted) → count_of (there o) ≡ count_of o
count_there None = refl
count_there (Some c) = go (nat_lt 0 c.1) refl
  where
    go : (b : Bool) → nat_lt 0 c.1 ≡ b → count_of (cond b (Some c) None) ≡ c.1
    go true t = refl
    go false t = let k = ltb-false 0 c.1 t in omega (arith, k)

pub kept_some : (o : Option Counted) → IsSome (there o) → IsSome o
kept_some None h = h
kept_some (Some c) h = refl

pub less_some : (o : Option Counted) → IsSome o → IsSome (one_less o)
less_some None h = h
less_some (Some c) h = refl

-- ---- where it is found

pub there_in : (o : Option Container) (k : Values) → found_in now_in o k ≡ there (found_in kept_in o k)
there_in None k = refl
there_in (Some c) k = get-current (kept_in c) k

pub there_at : (x : EdgeRows) (s k : Values) → now_at x s k ≡ there (kept_at x s k)
there_at x s k = there_in _ k

pub there_by : (edges : List EdgeRows) (e : ℕ) (s k : Values) → found_by now_in edges e s k ≡ there (found_by kept_in edges e s k)
there_by edges e s k = go (slice_get edges e)
  where
    go : (o : Option EdgeRows) → found_of now_in o s k ≡ there (found_of kept_in o s k)
    go None = refl
    go (Some x) = there_at x s k

-- what is kept at one source and key is what is there at them
pub set_there : (old new : EdgeRows) (source key : Values) (w : Option Counted) → IsSetAt (kept_at old) (kept_at new) source key w → IsSetAt (now_at old) (now_at new) source key (there w)
set_there old new source key w h s k = there_at new s k ∙ ap there (h s k) ∙ go (values_eq s source) (values_eq k key)
  where
    go : (b d : Bool) → there (cond (b && d) w (kept_at old s k)) ≡ cond (b && d) (there w) (now_at old s k)
    go true true = refl
    go true false = sym (there_at old s k)
    go false d = sym (there_at old s k)

-- ---- rows that are stored

pub filed_there : (x : EdgeRows) → IsStored x → IsFiled now_in x
filed_there x h = record {
  values = λ s k c there_now. h.values s k c (there_is (kept_at x s k) c (sym (there_at x s k) ∙ there_now)).0;
  counts = λ s k c there_now. (there_is (kept_at x s k) c (sym (there_at x s k) ∙ there_now)).1;
}
