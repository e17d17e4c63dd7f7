-- Lists of things that each stand for a cell: joined, with one thing more, with one thing less, and changed thing by thing.
use Rattle.std.specs.Prelude.{◌≡◌, ℕ, zero, suc, ◌+◌, ◌<◌, ◌≤◌, Bool, true, false, cond, not, ◌&&◌, ◌||◌, ltb, List, [], ◌∷◌, ◌++◌, map, length, take, drop, Some, None, ◌==◌, ◌≢◌, nat_eq, nat_lt, slice_index_or, refl}
use Rattle.std.proofs.Common.{sym, ap, ◌∙◌, ⊎_elim, arith, add-one}
use Rattle.std.specs.List.{remove, list_all}
use Rattle.std.proofs.lemmas.Bool.{cases_Bool, eq-eqb, ne_eqb, eqb-true, eqb-false, and_parts, and_from, or_parts, or_cases, ltb-true, lt-ltb}
use Rattle.std.proofs.lemmas.List.{take-append-drop, drop_more, at_drop_more, at_drop_all}
use Rattle.std.proofs.lemmas.List.Folds.{list_all-append}
use Rattle.reclaim.specs.Model.{tally}
use Rattle.reclaim.specs.Cells.{has, has_with, distinct, all_below, oldest, without, cell_of, Found}
use Rattle.reclaim.specs.Tally.{tally_none, tally_most, tally_more}

clash : ◌≡◌ {A = ℕ} 0 1 → ⊥
clash e = omega arith

module _ {X : Type 0} (cell : X → ℕ) where
  pub counted : (xs : List X) (n : ℕ) → distinct cell xs ≡ true → all_below cell n xs ≡ true → length xs ≡ tally (has cell xs) n
  counted [] n d b = sym (tally_none n)
  counted (x ∷ xs) n d b =
      let dp = and_parts (not (has cell xs (cell x))) (distinct cell xs) d in
      let bp = and_parts (nat_lt (cell x) n) (all_below cell n xs) b in
      let f : has cell xs (cell x) ≡ false = grind arith in
      let i = counted xs n dp.1 bp.1 in
      let m = tally_more (has cell xs) (cell x) n (ltb-true (cell x) n bp.0) f in
      omega arith

  -- at most all cells are there
  pub few : (xs : List X) (n : ℕ) → distinct cell xs ≡ true → all_below cell n xs ≡ true → length xs ≤ n
  few xs n d b = let e = counted xs n d b in let t = tally_most (has cell xs) n in omega arith

  -- and fewer where one is not
  pub room : (xs : List X) (n c : ℕ) → distinct cell xs ≡ true → all_below cell n xs ≡ true → c < n → has cell xs c ≡ false → length xs < n
  room xs n c d b l h =
      let e = counted xs n d b in
      let m = tally_more (has cell xs) c n l h in
      let t = tally_most (λ k. (c == k) || has cell xs k) n in
      omega arith

  pub has_below : (xs : List X) (n c : ℕ) → all_below cell n xs ≡ true → has cell xs c ≡ true → c < n
  has_below [] n c b h = absurd (grind arith)
  has_below (x ∷ xs) n c b h =
      let bp = and_parts (nat_lt (cell x) n) (all_below cell n xs) b in
      let l = ltb-true (cell x) n bp.0 in
      ⊎_elim (λ (e : nat_eq (cell x) c ≡ true). let q = eqb-true (cell x) c e in omega arith)
      (λ (e : nat_eq (cell x) c ≡ false). has_below xs n c bp.1 (grind arith))
      (cases_Bool (cell x == c))

  -- joined lists
  pub has-++ : (xs ys : List X) (c : ℕ) → has cell (xs ++ ys) c ≡ (has cell xs c || has cell ys c)
  has-++ [] ys c = refl
  has-++ (x ∷ xs) ys c = let i = has-++ xs ys c in grind arith

  pub with-++ : (test : X → Bool) (xs ys : List X) (c : ℕ) → has_with cell test (xs ++ ys) c ≡ (has_with cell test xs c || has_with cell test ys c)
  with-++ test [] ys c = refl
  with-++ test (x ∷ xs) ys c = let i = with-++ test xs ys c in grind arith

  pub below-++ : (xs ys : List X) (n : ℕ) → all_below cell n (xs ++ ys) ≡ (all_below cell n xs && all_below cell n ys)
  below-++ [] ys n = refl
  below-++ (x ∷ xs) ys n = let i = below-++ xs ys n in grind arith

  -- one thing more
  pub distinct_push : (xs : List X) (y : X) → distinct cell xs ≡ true → has cell xs (cell y) ≡ false → distinct cell (xs ++ y ∷ []) ≡ true
  distinct_push [] y d h = refl
  distinct_push (x ∷ xs) y d h =
      let dp = and_parts (not (has cell xs (cell x))) (distinct cell xs) d in
      let hp = or_parts (cell x == cell y) (has cell xs (cell y)) h in
      let i = distinct_push xs y dp.1 hp.1 in
      let p = has-++ xs (y ∷ []) (cell x) in
      let ne : nat_eq (cell y) (cell x) ≡ false = ne_eqb (cell y) (cell x) (λ e. eqb-false (cell x) (cell y) hp.0 (sym e)) in
      grind arith

  pub below_push : (xs : List X) (y : X) (n : ℕ) → all_below cell n xs ≡ true → cell y < n → all_below cell n (xs ++ y ∷ []) ≡ true
  below_push xs y n b l = let t = lt-ltb (cell y) n l in let e = below-++ xs (y ∷ []) n in grind arith

  pub pushed : (xs ys : List X) (y : X) (n : ℕ) → ys ≡ xs ++ y ∷ [] → all_below cell n xs ≡ true → distinct cell xs ≡ true → cell y < n → has cell xs (cell y) ≡ false
      → (all_below cell n ys ≡ true) × (distinct cell ys ≡ true)
  pushed xs ys y n e b d l h = (ap (all_below cell n) e ∙ below_push xs y n b l, ap (distinct cell) e ∙ distinct_push xs y d h)

  -- things that pass a test
  pub with_has : (test : X → Bool) (xs : List X) (c : ℕ) → has_with cell test xs c ≡ true → has cell xs c ≡ true
  with_has test [] c h = absurd (grind arith)
  with_has test (x ∷ xs) c h =
      ⊎_elim
      (λ (p : (cell x == c && test x) ≡ true). let q = (and_parts (cell x == c) (test x) p).0 in grind arith)
      (λ (p : has_with cell test xs c ≡ true). let i = with_has test xs c p in grind arith)
      (or_cases (cell x == c && test x) (has_with cell test xs c) h)

  pub with_none : (test : X → Bool) (xs : List X) (c : ℕ) → has cell xs c ≡ false → has_with cell test xs c ≡ false
  with_none test [] c h = refl
  with_none test (x ∷ xs) c h = let p = or_parts (cell x == c) (has cell xs c) h in let i = with_none test xs c p.1 in let e = p.0 in grind arith

  pub with_weaker : (test more : X → Bool) → ((x : X) → test x ≡ true → more x ≡ true) → (xs : List X) (c : ℕ) → has_with cell test xs c ≡ true → has_with cell more xs c ≡ true
  with_weaker test more w [] c h = h
  with_weaker test more w (x ∷ xs) c h =
      ⊎_elim
      (λ (p : (cell x == c && test x) ≡ true). let q = and_parts (cell x == c) (test x) p in let a = q.0 in let b = w x q.1 in grind arith)
      (λ (p : has_with cell test xs c ≡ true). let i = with_weaker test more w xs c p in grind arith)
      (or_cases (cell x == c && test x) (has_with cell test xs c) h)

  -- one thing less
  distinct_gone : (xs : List X) (x : X) (ys : List X) → distinct cell (xs ++ x ∷ ys) ≡ true → (has cell (xs ++ ys) (cell x) ≡ false) × (distinct cell (xs ++ ys) ≡ true)
  distinct_gone [] x ys d = let p = and_parts (not (has cell ys (cell x))) (distinct cell ys) d in let q = p.0 in ((grind arith), p.1)
  distinct_gone (y ∷ xs) x ys d =
      let p = and_parts (not (has cell (xs ++ x ∷ ys) (cell y))) (distinct cell (xs ++ x ∷ ys)) d in
      let a = p.0 in
      let i = distinct_gone xs x ys p.1 in
      let e = has-++ xs (x ∷ ys) (cell y) in
      let f = has-++ xs ys (cell y) in
      let n : nat_eq (cell x) (cell y) ≡ false = grind arith in
      let m : nat_eq (cell y) (cell x) ≡ false = ne_eqb (cell y) (cell x) (λ q. eqb-false (cell x) (cell y) n (sym q)) in
      let j = i.0 in
      let k = i.1 in
      ((grind arith), (grind arith))

pub pass_map : {X : Type 0} (test : X → Bool) (f : X → X) → ((x : X) → test x ≡ true → test (f x) ≡ true) → (xs : List X) → list_all test xs ≡ true → list_all test (map f xs) ≡ true
pass_map test f k [] h = refl
pass_map test f k (x ∷ xs) h = let p = and_parts (test x) (list_all test xs) h in let i = pass_map test f k xs p.1 in let e = k x p.0 in grind arith

pub pass_at : {X : Type 0} (test : X → Bool) (xs : List X) (i : ℕ) (d : X) → i < length xs → list_all test xs ≡ true → test (slice_index_or xs i d) ≡ true
pass_at test [] i d l h = absurd (omega arith)
pass_at test (x ∷ xs) zero d l h = (and_parts (test x) (list_all test xs) h).0
pass_at test (x ∷ xs) (suc i) d l h = pass_at test xs i d (omega arith) (and_parts (test x) (list_all test xs) h).1

pub pass_all : {X : Type 0} (test : X → Bool) (xs : List X) (d : X) → ((i : ℕ) → i < length xs → test (slice_index_or xs i d) ≡ true) → list_all test xs ≡ true
pass_all test [] d h = refl
pass_all test (x ∷ xs) d h = and_from (test x) (list_all test xs) (h 0 (omega arith)) (pass_all test xs d (λ i l. h (suc i) (omega arith)))

-- x stands in xs, and ys are the others
pub record Gone {X : Type 0} (xs : List X) (x : X) (ys : List X) : Type 0 where
  pub front : List X
  pub back : List X
  pub whole : xs ≡ front ++ x ∷ back
  pub rest : ys ≡ front ++ back

module _ {X : Type 0} (cell : X → ℕ) (xs : List X) (x : X) (ys : List X) (g : Gone xs x ys) where
  whole_has : (c : ℕ) → has cell xs c ≡ (has cell g.front c || (cell x == c || has cell g.back c))
  whole_has c = ap (λ l. has cell l c) g.whole ∙ has-++ cell g.front (x ∷ g.back) c

  rest_has : (c : ℕ) → has cell ys c ≡ (has cell g.front c || has cell g.back c)
  rest_has c = ap (λ l. has cell l c) g.rest ∙ has-++ cell g.front g.back c

  whole_with : (test : X → Bool) (c : ℕ) → has_with cell test xs c ≡ (has_with cell test g.front c || ((cell x == c && test x) || has_with cell test g.back c))
  whole_with test c = ap (λ l. has_with cell test l c) g.whole ∙ with-++ cell test g.front (x ∷ g.back) c

  rest_with : (test : X → Bool) (c : ℕ) → has_with cell test ys c ≡ (has_with cell test g.front c || has_with cell test g.back c)
  rest_with test c = ap (λ l. has_with cell test l c) g.rest ∙ with-++ cell test g.front g.back c

  apart_gone : distinct cell xs ≡ true → (has cell ys (cell x) ≡ false) × (distinct cell ys ≡ true)
  apart_gone d =
      let r = distinct_gone cell g.front x g.back (sym (ap (distinct cell) g.whole) ∙ d) in
      (ap (λ l. has cell l (cell x)) g.rest ∙ r.0, ap (distinct cell) g.rest ∙ r.1)

  pub gone_was : has cell xs (cell x) ≡ true
  gone_was = let e = whole_has (cell x) in let q = eq-eqb (cell x) (cell x) refl in grind arith

  pub gone_left : distinct cell xs ≡ true → (d : ℕ) → has cell ys d ≡ (not (cell x == d) && has cell xs d)
  gone_left k d =
      let a = whole_has d in
      let b = rest_has d in
      ⊎_elim
      (λ (t : nat_eq (cell x) d ≡ true). let n = ap (has cell ys) (sym (eqb-true (cell x) d t)) ∙ (apart_gone k).0 in grind arith)
      (λ (t : nat_eq (cell x) d ≡ false). grind arith)
      (cases_Bool (cell x == d))

  pub gone_apart : distinct cell xs ≡ true → distinct cell ys ≡ true
  gone_apart k = (apart_gone k).1

  pub gone_below : (n : ℕ) → all_below cell n xs ≡ true → all_below cell n ys ≡ true
  gone_below n b =
      let e = ap (all_below cell n) g.whole ∙ below-++ cell g.front (x ∷ g.back) n in
      let f = ap (all_below cell n) g.rest ∙ below-++ cell g.front g.back n in
      grind arith

  pub gone_pass : (test : X → Bool) → list_all test xs ≡ true → list_all test ys ≡ true
  gone_pass test h =
      let e = ap (list_all test) g.whole ∙ list_all-append test g.front (x ∷ g.back) in
      let f = ap (list_all test) g.rest ∙ list_all-append test g.front g.back in
      grind arith

  -- another cell passes as before, what passes now passed before, and x passes no more than its own test
  pub gone_kept : (test : X → Bool) (d : ℕ) → (cell x ≢ d) → has_with cell test xs d ≡ true → has_with cell test ys d ≡ true
  gone_kept test d n h = let a = whole_with test d in let b = rest_with test d in let q = ne_eqb (cell x) d n in grind arith

  pub gone_sub : (test : X → Bool) (d : ℕ) → has_with cell test ys d ≡ true → has_with cell test xs d ≡ true
  gone_sub test d h = let a = whole_with test d in let b = rest_with test d in grind arith

  pub gone_free : (test : X → Bool) → distinct cell xs ≡ true → test x ≡ false → has_with cell test xs (cell x) ≡ false
  gone_free test k f =
      let a = whole_with test (cell x) in
      let b = rest_with test (cell x) in
      let n = with_none cell test ys (cell x) (apart_gone k).0 in
      grind arith

-- the oldest thing that is not busy
module _ {X : Type 0} (cell : X → ℕ) (busy : X → Bool) where
  oldest_step : (b : Bool) (y : X) (xs : List X) (x : X) → busy y ≡ b → cond b (oldest busy xs) (Some y) ≡ Some x
      → (oldest busy xs ≡ Some x → Gone xs x (without busy xs) × (busy x ≡ false)) → Gone (y ∷ xs) x (cond b (y ∷ without busy xs) xs) × (busy x ≡ false)
  oldest_step true y xs x q e ih =
      let r = ih e in
      let g = r.0 in
      (record { front = y ∷ g.front; back = g.back; whole = ap (λ l. y ∷ l) g.whole; rest = ap (λ l. y ∷ l) g.rest }, r.1)
  oldest_step false y xs x q e ih = let p : y ≡ x = cc in (record { front = []; back = xs; whole = ap (λ z. z ∷ xs) p; rest = refl }, ap busy (sym p) ∙ q)

  pub oldest_gone : (xs : List X) (x : X) → oldest busy xs ≡ Some x → Gone xs x (without busy xs) × (busy x ≡ false)
  oldest_gone [] x e = absurd (clash cc)
  oldest_gone (y ∷ xs) x e = oldest_step (busy y) y xs x refl e (oldest_gone xs x)

  none_step : (b : Bool) (x : X) (xs : List X) → busy x ≡ b → cond b (oldest busy xs) (Some x) ≡ None
      → (oldest busy xs ≡ None → without busy xs ≡ xs) → (busy x ≡ true) × (cond b (x ∷ without busy xs) xs ≡ (x ∷ xs))
  none_step true x xs q e ih = (q, ap (λ l. x ∷ l) (ih e))
  none_step false x xs q e ih = absurd (clash cc)

  pub none_stays : (xs : List X) → oldest busy xs ≡ None → without busy xs ≡ xs
  none_stays [] e = refl
  none_stays (x ∷ xs) e = (none_step (busy x) x xs refl e (none_stays xs)).1

  pub none_busy : (x : X) (xs : List X) → oldest busy (x ∷ xs) ≡ None → busy x ≡ true
  none_busy x xs e = (none_step (busy x) x xs refl e (none_stays xs)).0

  -- a search from the first on that stops at i, or comes to the end
  pub found_at : (xs : List X) (i : ℕ) (d : X) → i < length xs → ((k : ℕ) → k < i → busy (slice_index_or xs k d) ≡ true) → busy (slice_index_or xs i d) ≡ false → Found cell busy xs (Some i)
  found_at [] i d l w f = absurd (omega arith)
  found_at (x ∷ xs) zero d l w f = (l, ap (λ b. cell_of cell (cond b (oldest busy xs) (Some x))) f, ap (λ b. cond b (x ∷ without busy xs) xs) f)
  found_at (x ∷ xs) (suc i) d l w f =
      let t = w 0 (omega arith) in
      let r = found_at xs i d (omega arith) (λ k m. w (suc k) (omega arith)) f in
      (l, ap (λ b. cell_of cell (cond b (oldest busy xs) (Some x))) t ∙ r.1, ap (λ b. cond b (x ∷ without busy xs) xs) t ∙ ap (λ l. x ∷ l) r.2)

  pub none_at : (xs : List X) (d : X) → ((k : ℕ) → k < length xs → busy (slice_index_or xs k d) ≡ true) → Found cell busy xs None
  none_at [] d w = (refl, refl)
  none_at (x ∷ xs) d w =
      let t = w 0 (omega arith) in
      let r = none_at xs d (λ k m. w (suc k) (omega arith)) in
      (ap (λ b. cell_of cell (cond b (oldest busy xs) (Some x))) t ∙ r.0, ap (λ b. cond b (x ∷ without busy xs) xs) t ∙ ap (λ l. x ∷ l) r.1)

-- a thing taken out by its index
pub removed_gone : {X : Type 0} (xs ys : List X) (i : ℕ) (d : X) → i < length xs → ys ≡ remove xs i → Gone xs (slice_index_or xs i d) ys
removed_gone xs ys i d l e = record {
  front = take i xs;
  back = drop (suc i) xs;
  whole = sym (take-append-drop i xs) ∙ ap (λ y. take i xs ++ y) (drop_more xs i d l ∙ ap (λ k. slice_index_or xs i d ∷ drop k xs) (add-one i));
  rest = e;
}

-- a change of each thing that keeps its cell
module _ {X : Type 0} (cell : X → ℕ) (f : X → X) (same : (x : X) → cell (f x) ≡ cell x) where
  pub has_map : (xs : List X) (c : ℕ) → has cell (map f xs) c ≡ has cell xs c
  has_map [] c = refl
  has_map (x ∷ xs) c = let i = has_map xs c in let e = ap (λ k. nat_eq k c) (same x) in grind arith

  pub distinct_map : (xs : List X) → distinct cell (map f xs) ≡ distinct cell xs
  distinct_map [] = refl
  distinct_map (x ∷ xs) =
      let i = distinct_map xs in
      let e : has cell (map f xs) (cell (f x)) ≡ has cell xs (cell x) = has_map xs (cell (f x)) ∙ ap (has cell xs) (same x) in
      grind arith

  pub below_map : (xs : List X) (n : ℕ) → all_below cell n (map f xs) ≡ all_below cell n xs
  below_map [] n = refl
  below_map (x ∷ xs) n = let i = below_map xs n in let e = ap (λ k. ltb k n) (same x) in grind arith

  pub with_map : (test : X → Bool) (xs : List X) (c : ℕ) → has_with cell test (map f xs) c ≡ has_with cell (λ x. test (f x)) xs c
  with_map test [] c = refl
  with_map test (x ∷ xs) c = let i = with_map test xs c in let e = ap (λ k. nat_eq k c) (same x) in grind arith

-- a search for a cell from the first on
module _ {X : Type 0} (cell : X → ℕ) (xs : List X) (i c : ℕ) (inv : has cell (drop i xs) c ≡ has cell xs c) where
  pub has_on : (x : X) → i < length xs → x ≡ slice_index_or xs i x → (cell x ≢ c) → has cell (drop (i + 1) xs) c ≡ has cell xs c
  has_on x l is n = let e = at_drop_more (λ y. has cell y c) xs i x l in let q = ne_eqb (cell (slice_index_or xs i x)) c (λ p. n (ap cell is ∙ p)) in grind arith

  pub has_hit : (ys : List X) (x : X) → xs ≡ ys → i < length xs → x ≡ slice_index_or xs i x → cell x ≡ c → true ≡ has cell ys c
  has_hit ys x same l is n =
      let e = at_drop_more (λ y. has cell y c) xs i x l in
      let q = eq-eqb (cell (slice_index_or xs i x)) c (ap cell (sym is) ∙ n) in
      let s = ap (λ y. has cell y c) same in
      grind arith

  pub has_end : (ys : List X) → xs ≡ ys → length xs ≤ i → false ≡ has cell ys c
  has_end ys same l = sym (at_drop_all (λ y. has cell y c) xs i l) ∙ inv ∙ ap (λ y. has cell y c) same
