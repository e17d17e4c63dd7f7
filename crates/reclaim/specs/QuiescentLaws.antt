-- Quiescent states are lawful.
use Rattle.std.specs.Prelude.{◌≡◌, ℕ, zero, suc, ◌<◌, Bool, true, false, not, List, [], ◌∷◌, ◌++◌, map, length, get_or, ◌≢◌, slice_index_or, slice_set, refl}
use Rattle.std.proofs.Common.{sym, ap, ◌∙◌, ⊎_elim, arith, length-set}
use Rattle.std.specs.List.{remove, list_all}
use Rattle.std.proofs.lemmas.Bool.{cases_eq, eq-eqb, eqb-true, and_parts, and_right, or_cases, both_ways, not-true, not-false}
use Rattle.std.proofs.lemmas.List.{get_or-set_other}
use Rattle.std.proofs.lemmas.List.Folds.{list_all-append}
use Rattle.reclaim.specs.Cells.{has_with}
use Rattle.reclaim.specs.Model.{Lawful}
use Rattle.reclaim.specs.Table.{cell}
use Rattle.reclaim.specs.QuiescentStates.{Waiting, quiescent, scheme, waits, recorded, strike, InsideStill, full}
use Rattle.reclaim.specs.CellLemmas.{has_map, distinct_map, below_map, with_map, with-++, with_weaker, pass_map, Gone, gone_sub, gone_pass, removed_gone}
use Rattle.reclaim.specs.TableLaws.{set_each, same_protected, sound, entered, left, retired, collected}

-- an empty record has nobody, and another has somebody
nobody_at : (bs : List Bool) (s : ℕ) → list_all not bs ≡ true → slice_index_or bs s false ≡ false
nobody_at [] s h = refl
nobody_at (b ∷ bs) zero h = not-true b (and_parts (not b) (list_all not bs) h).0
nobody_at (b ∷ bs) (suc s) h = nobody_at bs s (and_parts (not b) (list_all not bs) h).1

somebody : (bs : List Bool) → list_all not bs ≡ false → (s : ℕ) × (slice_index_or bs s false ≡ true)
somebody [] h = absurd (grind arith)
somebody (true ∷ bs) h = (0, refl)
somebody (false ∷ bs) h = let r = somebody bs h in (suc r.0, r.1)

-- a record that a session is struck from
struck_off : (bs : List Bool) (s : ℕ) → slice_index_or (slice_set bs s false) s false ≡ false
struck_off [] s = refl
struck_off (b ∷ bs) zero = refl
struck_off (b ∷ bs) (suc s) = struck_off bs s

-- a session is in a record that was struck where it was, and the struck one in none
pub out_of_all : (s : ℕ) (hs : List Waiting) (c : ℕ) → has_with cell (recorded s) (map (strike s) hs) c ≡ false
out_of_all s [] c = refl
out_of_all s (h ∷ hs) c = let i = out_of_all s hs c in let e = struck_off h.note s in grind arith

others_stay : (s u : ℕ) (hs : List Waiting) (c : ℕ) → (s ≢ u) → has_with cell (recorded u) hs c ≡ true → has_with cell (recorded u) (map (strike s) hs) c ≡ true
others_stay s u hs c n h =
    with_map cell (strike s) (λ x. refl) (recorded u) hs c
    ∙ with_weaker cell (recorded u) (λ x. recorded u (strike s x)) (λ x k. get_or-set_other x.note s u false false (λ e. n (sym e)) ∙ k) hs c h

struck_was : (s u : ℕ) (hs : List Waiting) (c : ℕ) → has_with cell (recorded u) (map (strike s) hs) c ≡ true → has_with cell (recorded u) hs c ≡ true
struck_was s u hs c h =
    with_weaker cell (λ x. recorded u (strike s x)) (recorded u) (λ x k. was x.note k) hs c (sym (with_map cell (strike s) (λ x. refl) (recorded u) hs c) ∙ h)
  where
    was : (bs : List Bool) → slice_index_or (slice_set bs s false) u false ≡ true → slice_index_or bs u false ≡ true
    was bs k =
        ⊎_elim
        (λ (e : s ≡ u). absurd (both_ways (slice_index_or (slice_set bs s false) u false) (ap (λ v. get_or (slice_set bs s false) v false) (sym e) ∙ struck_off bs s) k))
        (λ (n : s ≡ u → ⊥). sym (get_or-set_other bs s u false false (λ e. n (sym e))) ∙ k)
        (cases_eq s u)

-- the records of a table where a session was struck, where a cell came and where one went
pub struck_good : (bs : List Bool) (hs ks : List Waiting) (s : ℕ) → ks ≡ map (strike s) hs → InsideStill bs hs → list_all full hs ≡ true → InsideStill bs ks × (list_all full ks ≡ true)
struck_good bs hs ks s e i f = (
  (λ c u h. i c u (struck_was s u hs c (ap (λ l. has_with cell (recorded u) l c) (sym e) ∙ h))),
  ap (list_all full) e ∙ pass_map full (strike s) (λ x h. eq-eqb (length (slice_set x.note s false)) 8 (length-set x.note s false ∙ eqb-true (length x.note) 8 h)) hs f,
)

pub held_good : (bs : List Bool) (hs ks : List Waiting) (h : Waiting) → ks ≡ hs ++ h ∷ [] → length h.note ≡ 8 → ((s : ℕ) → slice_index_or h.note s false ≡ true → slice_index_or bs s false ≡ true)
    → InsideStill bs hs → list_all full hs ≡ true → InsideStill bs ks × (list_all full ks ≡ true)
held_good bs hs ks h e n w i f = (
  (λ c s k.
      ⊎_elim (λ (a : has_with cell (recorded s) hs c ≡ true). i c s a)
      (λ (a : has_with cell (recorded s) (h ∷ []) c ≡ true). w s (let q = a in grind arith))
      (or_cases (has_with cell (recorded s) hs c) (has_with cell (recorded s) (h ∷ []) c) (sym (ap (λ l. has_with cell (recorded s) l c) e ∙ with-++ cell (recorded s) hs (h ∷ []) c) ∙ k))),
  (let a = ap (list_all full) e ∙ list_all-append full hs (h ∷ []) in let b = eq-eqb (length h.note) 8 n in grind arith),
)

gone_good : (bs : List Bool) (hs : List Waiting) (x : Waiting) (ks : List Waiting) → Gone hs x ks → InsideStill bs hs × (list_all full hs ≡ true) → InsideStill bs ks × (list_all full ks ≡ true)
gone_good bs hs x ks g good = ((λ c s h. good.0 c s (gone_sub cell hs x ks g (recorded s) c h)), gone_pass cell hs x ks g full good.1)

pub removed_good : (bs : List Bool) (hs ks : List Waiting) (i : ℕ) (d : Waiting) → i < length hs → ks ≡ remove hs i → InsideStill bs hs → list_all full hs ≡ true → InsideStill bs ks × (list_all full ks ≡ true)
removed_good bs hs ks i d l e s f = gone_good bs hs (slice_index_or hs i d) ks (removed_gone hs ks i d l e) (s, f)

pub quiescent_lawful : Lawful quiescent
quiescent_lawful = record {
  sound = λ t f. sound scheme t f (λ s i c h. h);
  enter = λ t s f l o. entered scheme t s true f l refl (λ i c. o) ((λ c u h. set_each (λ b. b ≡ true) t.places s u true false refl (f.more.0 c u h)), f.more.1);
  leave = λ t s f h.
      let g = struck_good t.places t.held (map (strike s) t.held) s refl f.more.0 f.more.1 in
      left scheme t s false (map (strike s) t.held) f ((sound scheme t f (λ s i c h. h)).inside_below s h) refl
      (has_map cell (strike s) (λ x. refl) t.held) (below_map cell (strike s) (λ x. refl) t.held t.cells ∙ f.below) (distinct_map cell (strike s) (λ x. refl) t.held ∙ f.apart)
      (λ u c n. others_stay s u t.held c n) (
        (λ c u k.
            ⊎_elim
            (λ (e : s ≡ u). absurd (both_ways (has_with cell (recorded u) (map (strike s) t.held) c) (ap (λ v. has_with cell (recorded v) (map (strike s) t.held) c) (sym e) ∙ out_of_all s t.held c) k))
            (λ (n : s ≡ u → ⊥). get_or-set_other t.places s u false false (λ e. n (sym e)) ∙ g.0 c u k)
            (cases_eq s u)),
        g.1,
      );
  protect = λ t s i c f h li lc. same_protected quiescent t s i c f (λ j k. k) h;
  retire = λ t c f l free.
      retired scheme t c t.places f l free (λ u i h. h)
      (held_good t.places t.held _ (record { cell = c; note = t.places }) refl f.eight (λ s h. h) f.more.0 f.more.1);
  collect = λ t f.
      collected scheme waits t f
      (λ x b u i. and_right (slice_index_or t.places u false) (slice_index_or x.note u false) (nobody_at x.note u (not-false (list_all not x.note) b)))
      (λ x hs e b.
      let r = somebody x.note (not-true (list_all not x.note) b) in (
        r.0,
        f.more.0 x.cell r.0
            (ap (λ l. has_with cell (recorded r.0) l x.cell) e ∙ (let a = eq-eqb x.cell x.cell refl in let k = r.1 in grind arith)),
      ))
      (λ x hs g. gone_good t.places t.held x hs g f.more);
}
