-- a map as a function
use Rattle.std.proofs.Common.{◌≡◌, ℕ, zero, suc, ◌+◌, ◌<◌, ◌≤◌, true, eqb, ◌⊎◌, List, [], ◌∷◌, map, length, Some, None, Option, sym, refl, ap, ◌∙◌, inl, inr, arith}
use Rattle.std.proofs.lemmas.Bool.{eqb-true, eq-eqb, ne_eqb, cond-true, cond-false, cases_eq}
use Rattle.machine.specs.Machine.{put, same, begins, decides, completes, Trace}
use Rattle.machine.proofs.Trace.{outside, under, decided, settle, status}
use Rattle.machine.proofs.Scene.{Place, nowhere, free_at, held_now, link_at, fresh_of, on_list, kind, Stacked, Chain, is_link, total}
use Rattle.machine.specs.declared.word.Op.{Op}
use Rattle.machine.specs.declared.answer.Answer.{Answer}

pub put_here : {X : Type 0} (f : ℕ → X) (k : ℕ) (v : X) → put f k v k ≡ v
unfolding put
put_here f k v = cond-true (eqb k k) v (f k) (eq-eqb k k refl)

pub put_apart : {X : Type 0} (f : ℕ → X) (k : ℕ) (v : X) (q : ℕ) → (q ≡ k → ⊥) → put f k v q ≡ f q
unfolding put
put_apart f k v q ne = cond-false (eqb q k) v (f q) (ne_eqb q k ne)

pub same_eq : (a b : Option ℕ) → same a b ≡ true → a ≡ b
same_eq None None e = refl
same_eq None (Some b) e = cc
same_eq (Some a) None e = cc
same_eq (Some a) (Some b) e = ap Some (eqb-true a b e)

-- the places tell cells apart
pub apart : (P : ℕ → Place) {a b : Place} (c d : ℕ) → P c ≡ a → P d ≡ b → (kind a ≡ kind b → ⊥) → d ≡ c → ⊥
apart P {a} {b} c d p q ne e = ne (ap kind (sym p) ∙ (ap kind (ap P (sym e)) ∙ ap kind q))

-- what an event is to another session
pub status_begins : (s t : ℕ) (op : Op) (tr : Trace) → (t ≡ s → ⊥) → status t (begins s op ∷ tr) ≡ status t tr
unfolding status
status_begins s t op tr ne = cond-false (eqb t s) (under op) (status t tr) (ne_eqb t s ne)

pub status_begun : (s : ℕ) (op : Op) (tr : Trace) → status s (begins s op ∷ tr) ≡ under op
unfolding status
status_begun s op tr = cond-true (eqb s s) (under op) (status s tr) (eq-eqb s s refl)

pub status_decides : (s t : ℕ) (a : Answer) (tr : Trace) → (t ≡ s → ⊥) → status t (decides s a ∷ tr) ≡ status t tr
unfolding status
status_decides s t a tr ne = cond-false (eqb t s) (settle (status t tr) a) (status t tr) (ne_eqb t s ne)

pub status_decided : (s : ℕ) (op : Op) (a : Answer) (tr : Trace) → status s tr ≡ under op → status s (decides s a ∷ tr) ≡ decided op a
unfolding status
status_decided s op a tr e =
    cond-true (eqb s s) (settle (status s tr) a) (status s tr) (eq-eqb s s refl) ∙ ap (λ x. settle x a) e

pub status_completes : (s t : ℕ) (a : Answer) (tr : Trace) → (t ≡ s → ⊥) → status t (completes s a ∷ tr) ≡ status t tr
unfolding status
status_completes s t a tr ne = cond-false (eqb t s) outside (status t tr) (ne_eqb t s ne)

pub status_completed : (s : ℕ) (a : Answer) (tr : Trace) → status s (completes s a ∷ tr) ≡ outside
unfolding status
status_completed s a tr = cond-true (eqb s s) outside (status s tr) (eq-eqb s s refl)

-- lists under a change of places
pub stacked_frame : (P Q : ℕ → Place) (l : List ℕ) → ((c k : ℕ) → P c ≡ free_at k → k < length l → Q c ≡ free_at k)
    → Stacked P l → Stacked Q l
unfolding Stacked
stacked_frame P Q [] f t = tt
stacked_frame P Q (c ∷ l) f t =
    (f c (length l) t.0 (omega arith), stacked_frame P Q l (λ d k e h. f d k e (omega arith)) t.1)

pub chain_frame : (P Q : ℕ → Place) (k j : ℕ → Option ℕ) (h : Option ℕ) (l : List ℕ)
    → ((c n : ℕ) → P c ≡ link_at n → n < length l → Q c ≡ link_at n)
    → ((c n : ℕ) → P c ≡ link_at n → n < length l → j c ≡ k c)
    → Chain P k h l → Chain Q j h l
unfolding Chain
chain_frame P Q k j h [] f g t = t
chain_frame P Q k j h (c ∷ l) f g t = (
  t.0,
  f c (length l) t.1 (omega arith),
  rw (g c (length l) t.1 (omega arith))
      (chain_frame P Q k j (k c) l (λ d n e m. f d n e (omega arith)) (λ d n e m. g d n e (omega arith)) t.2),
)

pub map_frame : (P : ℕ → Place) (k : ℕ → Option ℕ) (i j : ℕ → ℕ) (h : Option ℕ) (l : List ℕ)
    → ((c n : ℕ) → P c ≡ link_at n → j c ≡ i c)
    → Chain P k h l → map j l ≡ map i l
unfolding Chain
map_frame P k i j h [] g t = refl
map_frame P k i j h (c ∷ l) g t =
    let a : j c ≡ i c = g c (length l) t.1 in
    let b : map j l ≡ map i l = map_frame P k i j (k c) l g t.2 in
    cc

-- counting
pub total_frame : (P Q : ℕ → Place) (n : ℕ) → ((c : ℕ) → c < n → is_link (Q c) ≡ is_link (P c)) → total Q n ≡ total P n
unfolding total
total_frame P Q zero f = refl
total_frame P Q (suc n) f =
    let a = f n (omega arith) in
    let b = total_frame P Q n (λ c h. f c (omega arith)) in
    cc

pub total_put : (P : ℕ → Place) (c : ℕ) (v : Place) (n : ℕ) → c < n → total (put P c v) n + is_link (P c) ≡ total P n + is_link v
unfolding total
total_put P c v zero h = omega arith
total_put P c v (suc n) h = go (λ m. total_put P c v n m) (cases_eq n c)
  where
    go : (c < n → total (put P c v) n + is_link (P c) ≡ total P n + is_link v) → (n ≡ c) ⊎ (n ≡ c → ⊥) → is_link (put P c v n) + total (put P c v) n + is_link (P c) ≡ is_link (P n) + total P n + is_link v
    go ih (inl e) =
        let a : total (put P c v) n ≡ total P n =
        total_frame P (put P c v) n (λ d m. ap is_link (put_apart P c v d (λ q. omega arith))) in
        let b : put P c v n ≡ v = ap (put P c v) e ∙ put_here P c v in
        let b' : is_link (put P c v n) ≡ is_link v = ap is_link b in
        let d : is_link (P c) ≡ is_link (P n) = ap (λ x. is_link (P x)) (sym e) in
        omega arith
    go ih (inr ne) =
        let a = ih (omega arith) in
        let b : is_link (put P c v n) ≡ is_link (P n) = ap is_link (put_apart P c v n ne) in
        omega arith

pub total_full : (P : ℕ → Place) (n : ℕ) → ((c : ℕ) → c < n → is_link (P c) ≡ 1) → total P n ≡ n
unfolding total
total_full P zero f = refl
total_full P (suc n) f =
    let a = f n (omega arith) in
    let b = total_full P n (λ c h. f c (omega arith)) in
    omega arith

is_link_small : (p : Place) → is_link p ≤ 1
is_link_small nowhere = omega arith
is_link_small (free_at k) = omega arith
is_link_small held_now = omega arith
is_link_small (link_at k) = omega arith
is_link_small (fresh_of s) = omega arith
is_link_small on_list = omega arith

pub total_small : (P : ℕ → Place) (n : ℕ) → total P n ≤ n
unfolding total
total_small P zero = omega arith
total_small P (suc n) =
    let a = total_small P n in
    let b = is_link_small (P n) in
    omega arith

pub full_each : (P : ℕ → Place) (n : ℕ) → total P n ≡ n → (c : ℕ) → c < n → is_link (P c) ≡ 1
unfolding total
full_each P zero e c h = omega arith
full_each P (suc n) e c h =
    go (λ q m. full_each P n q c m) (cases_eq c n)
  where
    go : (total P n ≡ n → c < n → is_link (P c) ≡ 1) → (c ≡ n) ⊎ (c ≡ n → ⊥) → is_link (P c) ≡ 1
    go ih (inl q) =
        let a = total_small P n in
        let b = is_link_small (P n) in
        let d : is_link (P c) ≡ is_link (P n) = ap (λ x. is_link (P x)) q in
        omega arith
    go ih (inr ne) =
        let a = total_small P n in
        let b = is_link_small (P n) in
        ih (omega arith) (omega arith)
