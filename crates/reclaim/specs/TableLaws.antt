-- The laws that every scheme's table obeys, from a few facts of the scheme.
use Rattle.std.specs.Prelude.{◌≡◌, ℕ, zero, suc, ◌<◌, ◌≤◌, Bool, true, false, cond, not, ◌&&◌, ◌||◌, ◌⊎◌, List, [], ◌∷◌, length, Some, None, Option, ◌==◌, ◌≢◌, slice_index_or, slice_set, refl}
use Rattle.std.proofs.Common.{sym, ap, subst, ◌∙◌, inl, inr, ⊎_elim, arith, length-set}
use Rattle.std.proofs.lemmas.Bool.{cases_eq, cases_lt, eq-eqb, ne_eqb, and_parts, and_from, and_left, both_ways}
use Rattle.std.proofs.lemmas.List.{get_or-set_same, get_or-set_other}
use Rattle.reclaim.specs.declared.held.HeldCell.{HeldCell}
use Rattle.reclaim.specs.Cells.{has, has_with, distinct, all_below, oldest, without, cell_of}
use Rattle.reclaim.specs.Model.{Model, Sound, SameSizes, GoesOn, Entered, Left, Protected, Retired, Gave, Collected}
use Rattle.reclaim.specs.Table.{Table, Scheme, Fits, cell, at, put, with_held, hold, model}
use Rattle.reclaim.specs.CellLemmas.{counted, has_below, has-++, with-++, distinct_push, below_push, with_has, Gone, gone_was, gone_left, gone_apart, gone_below, gone_kept, gone_free, oldest_gone, none_stays, none_busy}

-- an element after a write
pub set_reads : {X : Type 0} (l : List X) (s t : ℕ) (v d : X) → s < length l → slice_index_or (slice_set l s v) t d ≡ cond (s == t) v (slice_index_or l t d)
set_reads l s t v d h =
    ⊎_elim
    (λ (e : s ≡ t). let q = eq-eqb s t e in simp q (subst (λ (k : ℕ). slice_index_or (slice_set l s v) k d ≡ v) e (get_or-set_same l s v d h)))
    (λ (n : s ≡ t → ⊥). let q = ne_eqb s t n in simp q (get_or-set_other l s t v d (λ e. n (sym e))))
    (cases_eq s t)

-- what holds of the new element and of the old ones holds of each after the write
pub set_each : {X : Type 0} (Q : X → Type 0) (l : List X) (s t : ℕ) (v d : X) → Q v → Q (slice_index_or l t d) → Q (slice_index_or (slice_set l s v) t d)
set_each Q [] s t v d a b = b
set_each Q (x ∷ l) zero zero v d a b = a
set_each Q (x ∷ l) zero (suc t) v d a b = b
set_each Q (x ∷ l) (suc s) zero v d a b = b
set_each Q (x ∷ l) (suc s) (suc t) v d a b = set_each Q l s t v d a b

-- nothing changes
pub goes_on : {S : Type 0} (m : Model S) (st : S) (t i c : ℕ) → GoesOn m st st t i c
goes_on m st t i c = record { names = λ h. h; keeps = λ h. h }

pub same_sizes : {S : Type 0} (m : Model S) (st : S) → m.good st → SameSizes m st st
same_sizes m st g = record { good = g; sessions = refl; cells = refl }

-- a call that changes nothing, where the slot names the cell already
pub same_protected : {S : Type 0} (m : Model S) (st : S) (s i c : ℕ) → m.good st → ((j : ℕ) → m.keeps st s j c ≡ true → m.keeps st s i c ≡ true) → m.names st s i c ≡ true → Protected m st s i c st
same_protected m st s i c g k n = record {
  sizes = same_sizes m st g;
  inside = λ t. refl;
  held = λ d. refl;
  named = n;
  kept = k;
  slots = λ t j d _. goes_on m st t j d;
}

in_or : {P : Type 0} (inside : P → Bool) (b : Bool) (p q : P) → inside p ≡ true → inside (cond b p q) ≡ (b || inside q)
in_or inside true p q h = h
in_or inside false p q h = refl

in_and : {P : Type 0} (inside : P → Bool) (b : Bool) (p q : P) → inside p ≡ false → inside (cond b p q) ≡ (not b && inside q)
in_and inside true p q h = h
in_and inside false p q h = refl

-- the slots of a session outside name nothing
abbrev pub Silent : {P N : Type 0} → Scheme P N → Table P N → Type 0
Silent sc t = (s i c : ℕ) → sc.inside (at sc t s) ≡ false → sc.names (at sc t s) i c ≡ false

module _ {P N : Type 0} (sc : Scheme P N) where
  -- the notes of the cells that a session keeps
  abbrev pub clings : Table P N → ℕ → HeldCell N → Bool
  clings t s h = sc.keeps s (at sc t s) h.note

  pub sound : (t : Table P N) → Fits sc t → Silent sc t → Sound (model sc) t
  sound t f silent = record {
    inside_below = λ s h. ⊎_elim (λ (l : s < t.sessions). l) (λ (l : t.sessions ≤ s). absurd (both_ways (sc.inside (at sc t s)) (f.past s l) h)) (cases_lt s t.sessions);
    held_below = λ c h. has_below cell t.held t.cells c f.below h;
    counted = counted cell t.held t.cells f.apart f.below;
    outside_names = silent;
    outside_keeps = λ s i c h. and_left (sc.names (at sc t s) i c) (has_with cell (clings t s) t.held c) (silent s i c h);
    kept_held = λ s i c h. with_has cell (clings t s) t.held c (and_parts (sc.names (at sc t s) i c) (has_with cell (clings t s) t.held c) h).1;
  }

  -- one place changes, and the held cells may
  pub put_fits : (t : Table P N) (s : ℕ) (p : P) (hs : List (HeldCell N)) → Fits sc t → s < t.sessions
      → all_below cell t.cells hs ≡ true → distinct cell hs ≡ true → sc.good (with_held (put t s p) hs) → Fits sc (with_held (put t s p) hs)
  put_fits t s p hs f l b d g = record {
    few = f.few;
    eight = length-set t.places s p ∙ f.eight;
    past = λ k m. ap sc.inside (get_or-set_other t.places s k p sc.beyond (λ e. omega arith)) ∙ f.past k m;
    below = b;
    apart = d;
    more = g;
  }

  put_reads : (t : Table P N) (s : ℕ) (p : P) (u : ℕ) → Fits sc t → s < t.sessions → slice_index_or (slice_set t.places s p) u sc.beyond ≡ cond (s == u) p (at sc t u)
  put_reads t s p u f l = set_reads t.places s u p sc.beyond (omega (arith, f.few, f.eight))

  -- the slots of the other sessions go on
  pub others : (t : Table P N) (s : ℕ) (p : P) (hs : List (HeldCell N)) (u i c : ℕ) → (s ≢ u)
      → (has_with cell (clings t u) t.held c ≡ true → has_with cell (clings t u) hs c ≡ true) → GoesOn (model sc) t (with_held (put t s p) hs) u i c
  others t s p hs u i c n k =
      let e : at sc (with_held (put t s p) hs) u ≡ at sc t u = get_or-set_other t.places s u p sc.beyond (λ q. n (sym q)) in
      record {
        names = λ h. ap (λ q. sc.names q i c) e ∙ h;
        keeps = λ h.
            let a = and_parts (sc.names (at sc t u) i c) (has_with cell (clings t u) t.held c) h in
            ap (λ q. sc.names q i c && has_with cell (λ x. sc.keeps u q x.note) hs c) e ∙ and_from _ _ a.0 (k a.1);
      }

  pub entered : (t : Table P N) (s : ℕ) (p : P) → Fits sc t → s < t.sessions → sc.inside p ≡ true → ((i c : ℕ) → sc.names (at sc t s) i c ≡ false)
      → sc.good (put t s p) → Entered (model sc) t s (put t s p)
  entered t s p f l q silent g = record {
    sizes = record { good = put_fits t s p t.held f l f.below f.apart g; sessions = refl; cells = refl };
    inside = λ u. ap sc.inside (put_reads t s p u f l) ∙ in_or sc.inside (s == u) p (at sc t u) q;
    held = λ c. refl;
    slots = λ u i c.
        ⊎_elim
        (λ (e : s ≡ u).
        let z : sc.names (at sc t u) i c ≡ false = ap (λ k. sc.names (at sc t k) i c) (sym e) ∙ silent i c in
        record {
          names = λ h. absurd (both_ways _ z h);
          keeps = λ h. absurd (both_ways _ z (and_parts (sc.names (at sc t u) i c) (has_with cell (clings t u) t.held c) h).0);
        })
        (λ (n : s ≡ u → ⊥). others t s p t.held u i c n (λ h. h))
        (cases_eq s u);
  }

  pub left : (t : Table P N) (s : ℕ) (p : P) (hs : List (HeldCell N)) → Fits sc t → s < t.sessions → sc.inside p ≡ false
      → ((c : ℕ) → has cell hs c ≡ has cell t.held c) → all_below cell t.cells hs ≡ true → distinct cell hs ≡ true
      → ((u c : ℕ) → (s ≢ u) → has_with cell (clings t u) t.held c ≡ true → has_with cell (clings t u) hs c ≡ true)
      → sc.good (with_held (put t s p) hs) → Left (model sc) t s (with_held (put t s p) hs)
  left t s p hs f l q same b d k g = record {
    sizes = record { good = put_fits t s p hs f l b d g; sessions = refl; cells = refl };
    inside = λ u. ap sc.inside (put_reads t s p u f l) ∙ in_and sc.inside (s == u) p (at sc t u) q;
    held = same;
    slots = λ u i c n. others t s p hs u i c n (k u c n);
  }

  pub retired : (t : Table P N) (c : ℕ) (n : N) → Fits sc t → c < t.cells → has cell t.held c ≡ false
      → ((u i : ℕ) → sc.names (at sc t u) i c ≡ true → sc.keeps u (at sc t u) n ≡ true) → sc.good (hold t c n) → Retired (model sc) t c (hold t c n)
  retired t c n f l free k g =
      let x : HeldCell N = record { cell = c; note = n } in
      record {
        sizes = record {
          good = record { few = f.few; eight = f.eight; past = f.past; below = below_push cell t.held x t.cells f.below l; apart = distinct_push cell t.held x f.apart free; more = g };
          sessions = refl;
          cells = refl;
        };
        inside = λ u. refl;
        held = λ d. let e = has-++ cell t.held (x ∷ []) d in grind arith;
        kept = λ u i h. and_from _ _ h (let e = with-++ cell (clings t u) t.held (x ∷ []) c in let z = eq-eqb c c refl in let y = k u i h in grind arith);
        slots = λ u i d. record {
          names = λ h. h;
          keeps = λ h.
              let a = and_parts (sc.names (at sc t u) i d) (has_with cell (clings t u) t.held d) h in
              and_from _ _ a.0 (let e = with-++ cell (clings t u) t.held (x ∷ []) d in let y = a.1 in grind arith);
        };
      }

  -- a cell is given back that no slot keeps
  pub gave : (t : Table P N) (x : HeldCell N) (hs : List (HeldCell N)) → Fits sc t → Gone t.held x hs
      → ((u i : ℕ) → (sc.names (at sc t u) i x.cell && sc.keeps u (at sc t u) x.note) ≡ false)
      → sc.good (with_held t hs) → Gave (model sc) t x.cell (with_held t hs)
  gave t x hs f gone free g = record {
    sizes = record {
      good = record { few = f.few; eight = f.eight; past = f.past; below = gone_below cell t.held x hs gone t.cells f.below; apart = gone_apart cell t.held x hs gone f.apart; more = g };
      sessions = refl;
      cells = refl;
    };
    inside = λ u. refl;
    was_held = gone_was cell t.held x hs gone;
    not_kept = λ u i.
        by (sc.names (at sc t u) i x.cell) (sc.keeps u (at sc t u) x.note) (has_with cell (clings t u) t.held x.cell) (free u i)
        (gone_free cell t.held x hs gone (clings t u) f.apart);
    held = gone_left cell t.held x hs gone f.apart;
    named = λ u i d h. h;
    kept = λ u i d n h.
        let a = and_parts (sc.names (at sc t u) i d) (has_with cell (clings t u) t.held d) h in
        and_from _ _ a.0 (gone_kept cell t.held x hs gone (clings t u) d n a.1);
  }
    where
      by : (a b k : Bool) → (a && b) ≡ false → (b ≡ false → k ≡ false) → (a && k) ≡ false
      by true b k z w = w z
      by false b k z w = refl

  -- the oldest cell that is not busy, if there is one
  pub collected : (busy : HeldCell N → Bool) (t : Table P N) → Fits sc t
      → ((x : HeldCell N) → busy x ≡ false → (u i : ℕ) → (sc.names (at sc t u) i x.cell && sc.keeps u (at sc t u) x.note) ≡ false)
      → ((x : HeldCell N) (hs : List (HeldCell N)) → t.held ≡ (x ∷ hs) → busy x ≡ true → (s : ℕ) × (sc.inside (at sc t s) ≡ true))
      → ((x : HeldCell N) (hs : List (HeldCell N)) → Gone t.held x hs → sc.good (with_held t hs))
      → Collected (model sc) t (cell_of cell (oldest busy t.held)) (with_held t (without busy t.held))
  collected busy t f free who g = by (oldest busy t.held) refl
    where
      why : (hs : List (HeldCell N)) → t.held ≡ hs → oldest busy hs ≡ None → ((c : ℕ) → has cell hs c ≡ false) ⊎ ((s : ℕ) × (sc.inside (at sc t s) ≡ true))
      why [] e o = inl (λ c. refl)
      why (x ∷ hs) e o = inr (who x hs e (none_busy cell busy x hs o))

      by : (o : Option (HeldCell N)) → oldest busy t.held ≡ o → Collected (model sc) t (cell_of cell o) (with_held t (without busy t.held))
      by (Some x) e = let r = oldest_gone cell busy t.held x e in gave t x (without busy t.held) f r.0 (free x r.1) (g x (without busy t.held) r.0)
      by None e =
          let w = none_stays cell busy t.held e in
          record {
            sizes = record { good = subst (λ (l : List (HeldCell N)). Fits sc (with_held t l)) (sym w) f; sessions = refl; cells = refl };
            inside = λ u. refl;
            held = λ d. ap (λ l. has cell l d) w;
            slots = λ u i d. record {
              names = λ h. h;
              keeps = λ h. ap (λ l. sc.names (at sc t u) i d && has_with cell (clings t u) l d) w ∙ h;
            };
            why = why t.held refl e;
          }
