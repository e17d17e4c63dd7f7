-- Epochs are lawful.
use Rattle.std.specs.Prelude.{◌≡◌, ℕ, zero, suc, ◌+◌, ◌-◌, ◌<◌, ◌≤◌, Bool, true, false, cond, not, ◌&&◌, ltb, ◌⊎◌, List, [], ◌∷◌, ◌++◌, map, get_or, is_some, Some, None, ◌==◌, nat_le, nat_lt, slice_index_or, refl}
use Rattle.std.proofs.Common.{sym, ap, ◌∙◌, inl, inr, ⊎_elim, arith}
use Rattle.std.specs.List.{remove, list_all}
use Rattle.std.proofs.lemmas.Bool.{cases_eq, cases_Bool, eqb-true, eqb-false, leb-true, le-leb, lt-leb, ltb-true, lt-ltb, le-ltb, and_parts, and_from, both_ways}
use Rattle.std.proofs.lemmas.List.{length-map}
use Rattle.reclaim.specs.Cells.{has, has_with}
use Rattle.reclaim.specs.Model.{SameSizes, GoesOn, Gave, GaveNone, Collected, Lawful}
use Rattle.reclaim.specs.Table.{Fits, cell}
use Rattle.reclaim.specs.Epochs.{Lag, Aged, LagTable, epochs, scheme, first_age, may_advance, ready, later, older, advance, settle, settled, ripe, without_ripe, gives, within, low, aging, youngest}
use Rattle.reclaim.specs.CellLemmas.{has_map, distinct_map, below_map, with_map, with_weaker}
use Rattle.reclaim.specs.TableLaws.{set_each, goes_on, same_sizes, same_protected, sound, entered, left, retired, gave}

-- ages along the list
youngest_low : (n : ℕ) (x : Aged) (hs : List Aged) → aging n (x ∷ hs) ≡ true → youngest (x ∷ hs) ≤ n
youngest_low n x [] a = leb-true x.note n (and_parts (nat_le x.note n) true a).0
youngest_low n x (y ∷ hs) a =
    let p = and_parts (nat_le x.note n) (aging x.note (y ∷ hs)) a in
    let l = leb-true x.note n p.0 in
    let r = youngest_low x.note y hs p.1 in
    omega arith

pub aging_push : (n : ℕ) (hs : List Aged) (h : Aged) → h.note ≤ n → h.note ≤ youngest hs → aging n hs ≡ true → aging n (hs ++ h ∷ []) ≡ true
aging_push n [] h m y a = let z = le-leb h.note n m in grind arith
aging_push n (x ∷ []) h m y a = let z = le-leb h.note x.note y in grind arith
aging_push n (x ∷ (k ∷ hs)) h m y a =
    let p = and_parts (nat_le x.note n) (aging x.note (k ∷ hs)) a in
    let q = p.0 in
    let l = youngest_low x.note k hs p.1 in
    let i = aging_push x.note (k ∷ hs) h (omega arith) y p.1 in
    grind arith

aging_more : (m n : ℕ) (hs : List Aged) → m ≤ n → aging m hs ≡ true → aging n hs ≡ true
aging_more m n [] l h = refl
aging_more m n (x ∷ hs) l h =
    let p = and_parts (nat_le x.note m) (aging x.note hs) h in
    let e = le-leb x.note n (let z = leb-true x.note m p.0 in omega arith) in
    let q = p.1 in
    grind arith

pub aging_tail : (n : ℕ) (x : Aged) (hs : List Aged) → aging n (x ∷ hs) ≡ true → aging n hs ≡ true
aging_tail n x hs h = let p = and_parts (nat_le x.note n) (aging x.note hs) h in aging_more x.note n hs (leb-true x.note n p.0) p.1

-- the list of a table with one cell more or less
pub aging_held : (hs ks : List Aged) (h : Aged) → ks ≡ hs ++ h ∷ [] → h.note ≤ youngest hs → aging 2 hs ≡ true → aging 2 ks ≡ true
aging_held [] ks h e y a = ap (aging 2) e ∙ aging_push 2 [] h y y a
aging_held (x ∷ hs) ks h e y a = let l = youngest_low 2 x hs a in ap (aging 2) e ∙ aging_push 2 (x ∷ hs) h (omega arith) y a

aging_without : (n : ℕ) (hs : List Aged) (i : ℕ) → aging n hs ≡ true → aging n (remove hs i) ≡ true
aging_without n [] zero a = refl
aging_without n [] (suc i) a = refl
aging_without n (x ∷ hs) zero a = aging_tail n x hs a
aging_without n (x ∷ hs) (suc i) a =
    let p = and_parts (nat_le x.note n) (aging x.note hs) a in
    and_from (nat_le x.note n) (aging x.note (remove hs i)) p.0 (aging_without x.note hs i p.1)

pub aging_removed : (n : ℕ) (hs ks : List Aged) (i : ℕ) → ks ≡ remove hs i → aging n hs ≡ true → aging n ks ≡ true
aging_removed n hs ks i e a = ap (aging n) e ∙ aging_without n hs i a

aging_older : (n : ℕ) (hs : List Aged) → aging n hs ≡ true → aging (n + 1) (map older hs) ≡ true
aging_older n [] h = refl
aging_older n (x ∷ hs) h =
    let p = and_parts (nat_le x.note n) (aging x.note hs) h in
    let e = le-leb (x.note + 1) (n + 1) (let z = leb-true x.note n p.0 in omega arith) in
    let i = aging_older x.note hs p.1 in
    grind arith

aging_below : (hs : List Aged) → aging 2 hs ≡ true → first_age hs < 2 → aging 1 hs ≡ true
aging_below [] h l = refl
aging_below (x ∷ hs) h l =
    let p = (and_parts (nat_le x.note 2) (aging x.note hs) h).1 in
    let e = le-leb x.note 1 (omega arith) in
    grind arith

pub age_at : (n : ℕ) (hs : List Aged) (i : ℕ) (d : Aged) → d.note ≤ n → aging n hs ≡ true → (get_or hs i d).note ≤ n
age_at n [] i d l h = l
age_at n (x ∷ hs) zero d l h = leb-true x.note n (and_parts (nat_le x.note n) (aging x.note hs) h).0
age_at n (x ∷ hs) (suc i) d l h = age_at n hs i d l (aging_tail n x hs h)

-- what an advance leaves
later_reads : (ls : List Lag) (t : ℕ) → slice_index_or (map later ls) t None ≡ later (slice_index_or ls t None)
later_reads [] t = refl
later_reads (l ∷ ls) zero = refl
later_reads (l ∷ ls) (suc t) = later_reads ls t

later_some : (o : Lag) → is_some (later o) ≡ is_some o
later_some None = refl
later_some (Some n) = refl

later_low : (o : Lag) → may_advance o ≡ true → low o ≡ true → low (later o) ≡ true
later_low None a b = refl
later_low (Some n) a b =
    let ne = eqb-false n 1 (grind arith) in
    let le = leb-true n 1 b in
    le-leb (n + 1) 1 (⊎_elim (λ (e : n ≡ 1). absurd (ne e)) (λ (e : n ≡ 1 → ⊥). omega arith) (cases_eq n 1))

may_at : (ls : List Lag) (t : ℕ) → list_all may_advance ls ≡ true → may_advance (slice_index_or ls t None) ≡ true
may_at [] t h = refl
may_at (l ∷ ls) zero h = (and_parts (may_advance l) (list_all may_advance ls) h).0
may_at (l ∷ ls) (suc t) h = may_at ls t (and_parts (may_advance l) (list_all may_advance ls) h).1

-- a session inside that lets no advance pass
held_up : (ls : List Lag) → list_all may_advance ls ≡ false → (s : ℕ) × (is_some (slice_index_or ls s None) ≡ true)
held_up [] h = absurd (grind arith)
held_up (None ∷ ls) h = let r = held_up ls h in (suc r.0, r.1)
held_up (Some n ∷ ls) h = (0, refl)

older_within : (o : Lag) (age : ℕ) → within o age ≡ true → within (later o) (age + 1) ≡ true
older_within None age h = h
older_within (Some lag) age h = le-leb (age + 1) (lag + 1) (let z = leb-true age lag h in omega arith)

-- who is inside and what is held stay, and the slots go on
pub record Calm (t next : LagTable) : Type 0 where
  pub sizes : SameSizes epochs t next
  pub inside : (s : ℕ) → is_some (slice_index_or next.places s None) ≡ is_some (slice_index_or t.places s None)
  pub held : (d : ℕ) → has cell next.held d ≡ has cell t.held d
  pub slots : (s i d : ℕ) → GoesOn epochs t next s i d

calm_same : (t : LagTable) → Fits scheme t → Calm t t
calm_same t f = record { sizes = same_sizes epochs t f; inside = λ s. refl; held = λ d. refl; slots = goes_on epochs t }

calm_then : (a b c : LagTable) → Calm a b → Calm b c → Calm a c
calm_then a b c p q = record {
  sizes = record { good = q.sizes.good; sessions = q.sizes.sessions ∙ p.sizes.sessions; cells = q.sizes.cells ∙ p.sizes.cells };
  inside = λ s. q.inside s ∙ p.inside s;
  held = λ d. q.held d ∙ p.held d;
  slots = λ s i d. record { names = λ h. (q.slots s i d).names ((p.slots s i d).names h); keeps = λ h. (q.slots s i d).keeps ((p.slots s i d).keeps h) };
}

pub calm_advance : (t : LagTable) → Fits scheme t → ready t ≡ true → Calm t (advance t)
calm_advance t f r =
    let p = and_parts (nat_lt (first_age t.held) 2) (list_all may_advance t.places) r in
    let some : (s : ℕ) → is_some (slice_index_or (map later t.places) s None) ≡ is_some (slice_index_or t.places s None) =
    λ s. ap is_some (later_reads t.places s) ∙ later_some (slice_index_or t.places s None) in
    record {
      sizes = record {
        good = record {
          few = f.few;
          eight = length-map t.places later ∙ f.eight;
          past = λ s l. some s ∙ f.past s l;
          below = below_map cell older (λ x. refl) t.held t.cells ∙ f.below;
          apart = distinct_map cell older (λ x. refl) t.held ∙ f.apart;
          more = (
            (λ s. ap low (later_reads t.places s) ∙ later_low (slice_index_or t.places s None) (may_at t.places s p.1) (f.more.0 s)),
            aging_older 1 t.held (aging_below t.held f.more.1 (ltb-true (first_age t.held) 2 p.0)),
          );
        };
        sessions = refl;
        cells = refl;
      };
      inside = some;
      held = has_map cell older (λ x. refl) t.held;
      slots = λ s i d. record {
        names = λ h. some s ∙ h;
        keeps = λ h.
            let a = and_parts (is_some (slice_index_or t.places s None)) (has_with cell (λ x. within (slice_index_or t.places s None) x.note) t.held d) h in
            and_from _ _ (some s ∙ a.0)
            (ap (λ (o : Lag). has_with cell (λ x. within o x.note) (map older t.held) d) (later_reads t.places s)
            ∙ with_map cell older (λ x. refl) (λ x. within (later (slice_index_or t.places s None)) x.note) t.held d
            ∙ with_weaker cell (λ x. within (slice_index_or t.places s None) x.note) (λ x. within (later (slice_index_or t.places s None)) (x.note + 1))
            (λ x k. older_within (slice_index_or t.places s None) x.note k) t.held d a.1);
      };
    }

older_age : (hs : List Aged) → first_age hs < 2 → first_age (map older hs) ≡ first_age hs + 1
older_age [] l = absurd (omega arith)
older_age (x ∷ hs) l = refl

-- advances as long as the table is ready
calm_settle : (n : ℕ) (t : LagTable) → Fits scheme t → Calm t (settle n t)
calm_settle zero t f = calm_same t f
calm_settle (suc n) t f = by (ready t) refl (calm_settle n (advance t))
  where
    by : (b : Bool) → ready t ≡ b → (Fits scheme (advance t) → Calm (advance t) (settle n (advance t))) → Calm t (cond b (settle n (advance t)) t)
    by true e k = let a = calm_advance t f e in calm_then t (advance t) (settle n (advance t)) a (k a.sizes.good)
    by false e k = calm_same t f

first_young : (t : LagTable) → ready t ≡ true → first_age t.held < 2
first_young t r = ltb-true (first_age t.held) 2 (and_parts (nat_lt (first_age t.held) 2) (list_all may_advance t.places) r).0

settle_done : (n : ℕ) (t : LagTable) → 2 - first_age t.held ≤ n → ready (settle n t) ≡ false
settle_done zero t l = let z = le-ltb (first_age t.held) 2 (omega arith) in ap (λ b. b && list_all may_advance t.places) z
settle_done (suc n) t l = by (ready t) refl (settle_done n (advance t))
  where
    by : (b : Bool) → ready t ≡ b → (2 - first_age (map older t.held) ≤ n → ready (settle n (advance t)) ≡ false) → ready (cond b (settle n (advance t)) t) ≡ false
    by true e k = let y = first_young t e in let o = older_age t.held y in k (omega arith)
    by false e k = e

pub settle_still : (n : ℕ) (t : LagTable) → ready t ≡ false → settle n t ≡ t
settle_still zero t e = refl
settle_still (suc n) t e = ap (λ b. cond b (settle n (advance t)) t) e

pub settle_on : (t : LagTable) → ready t ≡ true → settled (advance t) ≡ settled t
settle_on t r =
    let k = first_young t r in
    let o = older_age t.held k in
    let m : ℕ = 2 - first_age (map older t.held) in
    let q : 2 - first_age t.held ≡ suc m = omega arith in
    sym (ap (λ n. settle n t) q ∙ ap (λ b. cond b (settle m (advance t)) t) r)

pub ages_fall : (t : LagTable) → ready t ≡ true → 2 - first_age (map older t.held) < 2 - first_age t.held
ages_fall t r = let k = first_young t r in let o = older_age t.held k in omega arith

-- a cell of age 2 is within no lag
ripe_gone : (o : Lag) (age : ℕ) → low o ≡ true → age ≡ 2 → (is_some o && within o age) ≡ false
ripe_gone None age l a = refl
ripe_gone (Some lag) age l a = lt-leb age lag (let k = leb-true lag 1 l in omega arith)

none_given : (t mid : LagTable) → Calm t mid → (((c : ℕ) → has cell mid.held c ≡ false) ⊎ ((s : ℕ) × (is_some (slice_index_or mid.places s None) ≡ true))) → GaveNone epochs t mid
none_given t mid k w = record {
  sizes = k.sizes;
  inside = k.inside;
  held = k.held;
  slots = k.slots;
  why = ⊎_elim
      (λ (n : (c : ℕ) → has cell mid.held c ≡ false). inl (λ c. sym (k.held c) ∙ n c))
      (λ (i : (s : ℕ) × (is_some (slice_index_or mid.places s None) ≡ true)). inr (i.0, sym (k.inside i.0) ∙ i.1)) w;
}

-- what is given back from the settled table is given back from the table
calm_gave : (t mid : LagTable) (c : ℕ) (next : LagTable) → Calm t mid → Gave epochs mid c next → Gave epochs t c next
calm_gave t mid c next k v = record {
  sizes = record { good = v.sizes.good; sessions = v.sizes.sessions ∙ k.sizes.sessions; cells = v.sizes.cells ∙ k.sizes.cells };
  inside = λ s. v.inside s ∙ k.inside s;
  was_held = sym (k.held c) ∙ v.was_held;
  not_kept = λ s i.
      ⊎_elim
      (λ (h : epochs.keeps t s i c ≡ true). absurd (both_ways (epochs.keeps mid s i c) (v.not_kept s i) ((k.slots s i c).keeps h)))
      (λ (h : epochs.keeps t s i c ≡ false). h)
      (cases_Bool (epochs.keeps t s i c));
  held = λ d. v.held d ∙ ap (λ b. not (c == d) && b) (k.held d);
  named = λ s i d h. v.named s i d ((k.slots s i d).names h);
  kept = λ s i d n h. v.kept s i d n ((k.slots s i d).keeps h);
}

-- the settled table gives back its oldest cell, or somebody holds it up
settled_gives : (t : LagTable) (se ce : ℕ) (ls : List Lag) (hs : List Aged) → Calm t (record { sessions = se; cells = ce; places = ls; held = hs })
    → ready (record { sessions = se; cells = ce; places = ls; held = hs }) ≡ false
    → Collected epochs t (ripe 2 hs) (record { sessions = se; cells = ce; places = ls; held = without_ripe 2 hs })
settled_gives t se ce ls [] k r = none_given t (record { sessions = se; cells = ce; places = ls; held = [] }) k (inl (λ c. refl))
settled_gives t se ce ls (x ∷ hs) k r = by (x.note == 2) refl
  where
    by : (b : Bool) → (x.note == 2) ≡ b
        → Collected epochs t (cond b (Some x.cell) None) (record { sessions = se; cells = ce; places = ls; held = cond b hs (x ∷ hs) })
    by true e =
        let f = k.sizes.good in
        calm_gave t (record { sessions = se; cells = ce; places = ls; held = x ∷ hs }) x.cell (record { sessions = se; cells = ce; places = ls; held = hs }) k
        (gave scheme (record { sessions = se; cells = ce; places = ls; held = x ∷ hs }) x hs f (record { front = []; back = hs; whole = refl; rest = refl })
        (λ s i. ripe_gone (slice_index_or ls s None) x.note (f.more.0 s) (eqb-true x.note 2 e)) (f.more.0, aging_tail 2 x hs f.more.1))
    by false e =
        let l = leb-true x.note 2 (and_parts (nat_le x.note 2) (aging x.note hs) k.sizes.good.more.1).0 in
        let n = eqb-false x.note 2 e in
        let y : ltb x.note 2 ≡ true = lt-ltb x.note 2 (⊎_elim (λ (q : x.note ≡ 2). absurd (n q)) (λ (q : x.note ≡ 2 → ⊥). omega arith) (cases_eq x.note 2)) in
        none_given t (record { sessions = se; cells = ce; places = ls; held = x ∷ hs }) k (inr (held_up ls (grind arith)))

epoch_collect : (t : LagTable) → Fits scheme t → Collected epochs t (ripe 2 (settled t).held) (gives 2 (settled t))
epoch_collect t f =
    settled_gives t (settled t).sessions (settled t).cells (settled t).places (settled t).held (calm_settle (2 - first_age t.held) t f)
    (settle_done (2 - first_age t.held) t (omega arith))

pub epoch_lawful : Lawful epochs
epoch_lawful = record {
  sound = λ t f. sound scheme t f (λ s i c h. h);
  enter = λ t s f l o. entered scheme t s (Some 0) f l refl (λ i c. o) ((λ u. set_each (λ (q : Lag). low q ≡ true) t.places s u (Some 0) None refl (f.more.0 u)), f.more.1);
  leave = λ t s f h.
      left scheme t s None t.held f ((sound scheme t f (λ s i c h. h)).inside_below s h) refl (λ c. refl) f.below f.apart (λ u c n k. k)
      ((λ u. set_each (λ (q : Lag). low q ≡ true) t.places s u None None refl (f.more.0 u)), f.more.1);
  protect = λ t s i c f h li lc. same_protected epochs t s i c f (λ j k. k) h;
  retire = λ t c f l free.
      retired scheme t c 0 f l free (λ u i. new_within (slice_index_or t.places u None))
      (f.more.0, aging_push 2 t.held (record { cell = c; note = 0 }) (omega arith) (omega arith) f.more.1);
  collect = epoch_collect;
}
  where
    new_within : (o : Lag) → is_some o ≡ true → within o 0 ≡ true
    new_within None h = h
    new_within (Some lag) h = le-leb 0 lag (omega arith)
