-- A turn of tidy, and its end.
use Rattle.std.proofs.Common.{◌≡◌, ℕ, suc, ◌+◌, ◌-◌, ◌≤◌, [], Some, None, sym, ap, ◌∙◌, subst, arith}
use Rattle.reclaim.specs.Model.{Model, Lawful, Collected, Gave, GaveNone}
use Rattle.reclaim.proofs.Counts.{gave_count, none_count}
use Rattle.machine.specs.Machine.{Memory, Tidied, stop, gone, collected, collected_as, tidying}

-- what tidy has still to do
abbrev pub left_over : {S : Type 0} → Model S → Memory S → Tidied S
left_over M m = tidying M (suc (M.count m.reclaimer)) m

module _ {S : Type 0} (M : Model S) (law : Lawful M) where
  pub falls : (x : S) (c : ℕ) → M.good x → M.picks x ≡ Some c → M.count (M.collects x) + 1 ≡ M.count x
  falls x c g e =
      let v : Gave M x c (M.collects x) = subst (λ o. Collected M x o (M.collects x)) e (law.collect x g) in
      gave_count M x (M.collects x) c (law.sound x g) (law.sound (M.collects x) v.sizes.good) v

  pub stays : (x : S) → M.good x → M.picks x ≡ None → M.count (M.collects x) ≡ M.count x
  stays x g e =
      let v : GaveNone M x (M.collects x) = subst (λ o. Collected M x o (M.collects x)) e (law.collect x g) in
      none_count M x (M.collects x) (law.sound x g) (law.sound (M.collects x) v.sizes.good) v

  more : (k c : ℕ) (h : Memory S) → M.picks h.reclaimer ≡ Some c → tidying M (suc k) h ≡ gone M (tidying M k (collected_as M (Some c) h)) (Some c)
  unfolding tidying
  more k c h e =
      ap (λ o. stop M o (record { memory = collected M h; seen = []; given = 0 }) (gone M (tidying M k (collected_as M o h)) o)) e

  end : (k : ℕ) (h : Memory S) → M.picks h.reclaimer ≡ None → tidying M (suc k) h ≡ record { memory = collected M h; seen = []; given = 0 }
  unfolding tidying
  end k h e =
      ap (λ o. stop M o (record { memory = collected M h; seen = []; given = 0 }) (gone M (tidying M k (collected_as M o h)) o)) e

  -- one cell given back
  pub turn : (m next : Memory S) (c held : ℕ) (all : Memory S) (n : ℕ) → M.good m.reclaimer → M.picks m.reclaimer ≡ Some c
      → next ≡ (collected_as M (Some c) m)
      → ((left_over M m).memory ≡ all) × ((left_over M m).given + (held - M.count m.reclaimer) ≡ n) × (M.count m.reclaimer ≤ held)
      → ((left_over M next).memory ≡ all) × ((left_over M next).given + (held - M.count next.reclaimer) ≡ n) × (M.count next.reclaimer ≤ held)
  turn m next c held all n g e is (a, b, l) =
      let f = falls m.reclaimer c g e in
      let h = collected_as M (Some c) m in
      let k : suc (M.count h.reclaimer) ≡ M.count m.reclaimer = omega arith in
      let t : left_over M m ≡ gone M (left_over M (h)) (Some c) =
      more (M.count m.reclaimer) c m e ∙ ap (λ q. gone M (tidying M q h) (Some c)) (sym k) in
      let b₁ = ap (λ r. r.given) t in
      rw is (
        ap (λ r. r.memory) (sym t) ∙ a,
        omega (arith, b, b₁, l, k),
        omega (arith, l, k),
      )

  pub ends : (m next : Memory S) (held : ℕ) (all : Memory S) (n : ℕ) → M.good m.reclaimer → M.picks m.reclaimer ≡ None
      → next ≡ (collected M m)
      → ((left_over M m).memory ≡ all) × ((left_over M m).given + (held - M.count m.reclaimer) ≡ n) × (M.count m.reclaimer ≤ held)
      → (next ≡ all) × (held - M.count next.reclaimer ≡ n) × (M.count next.reclaimer ≤ held)
  ends m next held all n g e is (a, b, l) =
      let f = stays m.reclaimer g e in
      let t = end (M.count m.reclaimer) m e in
      let b₁ = ap (λ r. r.given) t in
      rw is (
        sym (ap (λ r. r.memory) t) ∙ a,
        omega (arith, b, b₁, f),
        omega (arith, l, f),
      )
