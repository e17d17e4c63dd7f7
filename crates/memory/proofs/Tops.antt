-- The free stack: a list with the top last, and the same with the top first.
use Rattle.std.proofs.Common.{◌≡◌, ℕ, suc, ◌+◌, ◌-◌, ◌<◌, ◌≤◌, cond, ltb, ◌⊎◌, List, [], ◌∷◌, ◌++◌, reverse, length, get_or, take, Some, None, sym, refl, ap, ◌∙◌, inl, inr, arith}
use lib.ListN.{length-reverse}
use Rattle.std.proofs.lemmas.List.{take_more, take_all, reverse-append}
use Rattle.std.proofs.lemmas.Bool.{cases_lt, lt-ltb, le-ltb, cond-true, cond-false}
use Rattle.machine.specs.Machine.{shelve, counting}
use Rattle.memory.specs.Fresh.{top_of, under_top}

split : (xs : List ℕ) → 0 < length xs → reverse xs ≡ get_or xs (length xs - 1) 0 ∷ reverse (take (length xs - 1) xs)
split xs h =
    let n = length xs - 1 in
    let all : take (n + 1) xs ≡ xs = take_all (n + 1) xs (omega arith) in
    ap reverse (sym all ∙ take_more xs n 0 (omega arith)) ∙ reverse-append (take n xs) (get_or xs n 0 ∷ [])

none : (xs : List ℕ) → length xs ≤ 0 → xs ≡ []
none [] h = refl
none (x ∷ xs) h = absurd (omega arith)

pub top_first : (xs : List ℕ) → top_of (reverse xs) ≡ cond (ltb 0 (length xs)) (Some (get_or xs (length xs - 1) 0)) None
top_first xs = go (cases_lt 0 (length xs))
  where
    go : (0 < length xs) ⊎ (length xs ≤ 0) → top_of (reverse xs) ≡ cond (ltb 0 (length xs)) (Some (get_or xs (length xs - 1) 0)) None
    go (inl h) = ap top_of (split xs h) ∙ sym (cond-true (ltb 0 (length xs)) _ None (lt-ltb 0 (length xs) h))
    go (inr h) = ap (λ l. top_of (reverse l)) (none xs h) ∙ sym (cond-false (ltb 0 (length xs)) _ None (le-ltb 0 (length xs) h))

pub under_first : (xs : List ℕ) → under_top (reverse xs) ≡ reverse (take (length xs - 1) xs)
under_first xs = go (cases_lt 0 (length xs))
  where
    go : (0 < length xs) ⊎ (length xs ≤ 0) → under_top (reverse xs) ≡ reverse (take (length xs - 1) xs)
    go (inl h) = ap under_top (split xs h)
    go (inr h) = ap (λ l. under_top (reverse l)) (none xs h) ∙ sym (ap (λ l. reverse (take (length l - 1) l)) (none xs h))

pub put_room : (xs ys : List ℕ) (c : ℕ) → ys ≡ xs ++ c ∷ [] → length xs < 256 → reverse ys ≡ shelve c (reverse xs)
unfolding shelve
put_room xs ys c e h =
    let n = length-reverse xs in
    ap reverse e ∙ (reverse-append xs (c ∷ []) ∙ sym (cond-true (ltb (length (reverse xs)) 256) _ _ (lt-ltb (length (reverse xs)) 256 (omega arith))))

pub put_full : (xs : List ℕ) (c : ℕ) → 256 ≤ length xs → reverse xs ≡ shelve c (reverse xs)
unfolding shelve
put_full xs c h =
    let n = length-reverse xs in
    sym (cond-false (ltb (length (reverse xs)) 256) _ _ (le-ltb (length (reverse xs)) 256 (omega arith)))

pub counting_start : (c : ℕ) → [] ≡ counting c (c - c)
unfolding counting
counting_start c = let e : c - c ≡ 0 = omega arith in sym (ap (counting c) e)

counting_at : (k n m : ℕ) → n ≡ suc m → counting k n ≡ k ∷ counting (suc k) m
unfolding counting
counting_at k n m e = ap (counting k) e

pub counting_more : (xs ys : List ℕ) (c cells : ℕ) → 0 < c → c ≤ cells → ys ≡ xs ++ (c - 1) ∷ [] → reverse xs ≡ counting c (cells - c)
    → reverse ys ≡ counting (c - 1) (cells - (c - 1))
counting_more xs ys c cells h l e inv =
    let s : suc (c - 1) ≡ c = omega arith in
    ap reverse e
    ∙ (reverse-append xs ((c - 1) ∷ [])
    ∙ (ap (λ r. (c - 1) ∷ r) (inv ∙ ap (λ k. counting k (cells - c)) (sym s)) ∙ sym (counting_at (c - 1) (cells - (c - 1)) (cells - c) (omega arith))))
