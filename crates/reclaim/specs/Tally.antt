-- Counting the numbers below n that pass a test.
use Rattle.std.specs.Prelude.{◌≡◌, ℕ, zero, suc, ◌+◌, ◌<◌, ◌≤◌, Bool, true, false, ◌||◌, ◌==◌, nat_eq, refl}
use Rattle.std.proofs.Common.{ap, subst, ⊎_elim, arith}
use Rattle.std.proofs.lemmas.Bool.{cases_eq, eq-eqb, ne_eqb}
use Rattle.reclaim.specs.Model.{tally}

pub tally_same : (p q : ℕ → Bool) (n : ℕ) → ((k : ℕ) → k < n → p k ≡ q k) → tally p n ≡ tally q n
tally_same p q zero h = refl
tally_same p q (suc n) h =
    let e : p n ≡ q n = h n (omega arith) in
    let i : tally p n ≡ tally q n = tally_same p q n (λ k l. h k (omega arith)) in
    cc

pub tally_none : (n : ℕ) → tally (λ _. false) n ≡ 0
tally_none zero = refl
tally_none (suc n) = omega (arith, tally_none n)

pub tally_most : (p : ℕ → Bool) (n : ℕ) → tally p n ≤ n
tally_most p zero = omega arith
tally_most p (suc n) = let i = tally_most p n in grind arith

-- one number more
pub tally_more : (p : ℕ → Bool) (x n : ℕ) → x < n → p x ≡ false → tally (λ c. (x == c) || p c) n ≡ tally p n + 1
tally_more p x zero l h = absurd (omega arith)
tally_more p x (suc n) l h =
    ⊎_elim
    (λ (e : x ≡ n).
    let t : nat_eq x n ≡ true = eq-eqb x n e in
    let f : p n ≡ false = subst (λ (k : ℕ). p k ≡ false) e h in
    let s : tally (λ c. (x == c) || p c) n ≡ tally p n = tally_same (λ c. (x == c) || p c) p n (λ k m. let z : nat_eq x k ≡ false = ne_eqb x k (λ q. omega arith) in ap (λ b. b || p k) z) in
    simp (t, f) (omega arith))
    (λ (ne : x ≡ n → ⊥).
    let t : nat_eq x n ≡ false = ne_eqb x n ne in
    let i : tally (λ c. (x == c) || p c) n ≡ tally p n + 1 = tally_more p x n (omega arith) h in
    simp t (omega arith))
    (cases_eq x n)
