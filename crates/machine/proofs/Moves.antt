-- The moves of the memory part: each keeps it sound, and is calm to every other session.
use Rattle.std.proofs.Common.{◌≡◌, ℕ, ◌<◌, ◌≤◌, true, false, ◌⊎◌, List, ◌∷◌, length, Some, None, sym, refl, ap, ◌∙◌, subst, inl, inr, arith}
use Rattle.std.proofs.lemmas.Bool.{cases_eq, cases_lt}
use Rattle.reclaim.specs.Model.{Model, after_enter, after_leave, after_protect}
use Rattle.machine.proofs.Rules.{Meaning, Rules, SameHeld, Protected}
use Rattle.machine.proofs.Rules.{Order}
use Rattle.machine.specs.Machine.{put, Event, begins, touches, clears, decides, completes, Trace, with_reclaimer, taken}
use Rattle.machine.proofs.Trace.{outside, under, decided, status, Cleared, Orderly, deed, deeds, played, Truthful}
use Rattle.machine.specs.Serial.{serve}
use Rattle.machine.proofs.Scene.{Place, nowhere, free_at, link_at, fresh_of, on_list, kind, Stacked, In, is_link, Scene, OnStack, OnList, means, There, Safe, Calm, key, Sound}
use Rattle.machine.proofs.Frames.{put_here, put_apart, apart, status_begins, status_decides, status_completes, stacked_frame, chain_frame, map_frame, total_put}
use Rattle.machine.proofs.Lists
use Rattle.machine.specs.declared.word.Op.{Op}
use Rattle.machine.specs.declared.answer.Answer.{Answer}

abbrev pub quiet : {State : Type 0} {M : Model State} {sessions cells : ℕ} (L : Rules M sessions cells) → Scene State → State → Trace → Scene State
quiet {M = M} L A x tr = record { memory = with_reclaimer M A.memory x; place = A.place; chain = A.chain; line = A.line; seen = tr }

-- a put at a cell of another kind than what is looked at changes nothing there
pub put_kind : (P : ℕ → Place) (c : ℕ) (v : Place) {w : Place} (d : ℕ) → P d ≡ w → (kind (P c) ≡ kind w → ⊥) → put P c v d ≡ w
put_kind P c v {w} d e ne = put_apart P c v d (λ q. ne (ap (λ x. kind (P x)) (sym q) ∙ ap kind e)) ∙ e

pub put_kind_back : (P : ℕ → Place) (c : ℕ) (v : Place) {w : Place} (d : ℕ) → put P c v d ≡ w → (kind v ≡ kind w → ⊥) → P d ≡ w
put_kind_back P c v {w} d e ne = go (cases_eq d c)
  where
    go : (d ≡ c) ⊎ (d ≡ c → ⊥) → P d ≡ w
    go (inl q) = absurd (ne (ap kind (sym (put_here P c v) ∙ (ap (put P c v) (sym q) ∙ e))))
    go (inr n) = sym (put_apart P c v d n) ∙ e

pub bound_put : (cells : ℕ) (P : ℕ → Place) (c : ℕ) (v : Place) → c < cells → ((d : ℕ) → cells ≤ d → P d ≡ nowhere)
    → (d : ℕ) → cells ≤ d → put P c v d ≡ nowhere
bound_put cells P c v lc a d h = put_apart P c v d (λ e. omega arith) ∙ a d h

pub within_put : (cells : ℕ) (P : ℕ → Place) (c : ℕ) (v : Place) → (v ≡ nowhere → ⊥) → ((d : ℕ) → d < cells → P d ≡ nowhere → ⊥)
    → (d : ℕ) → d < cells → put P c v d ≡ nowhere → ⊥
within_put cells P c v nv a d h e = go (cases_eq d c)
  where
    go : (d ≡ c) ⊎ (d ≡ c → ⊥) → ⊥
    go (inl q) = nv (sym (put_here P c v) ∙ (ap (put P c v) (sym q) ∙ e))
    go (inr ne) = a d h (sym (put_apart P c v d ne) ∙ e)

pub deeds_decides : (s : ℕ) (op : Op) (r : Answer) (tr : Trace) → status s tr ≡ under op → deeds (decides s r ∷ tr) ≡ (op, r) ∷ deeds tr
unfolding deeds
deeds_decides s op r tr e = ap (λ x. deed x r (deeds tr)) e

module _ {State : Type 0} {M : Model State} {sessions cells : ℕ} (L : Rules M sessions cells) where
  pub there_on : (A B : Scene State) (t i c : ℕ) → ((means L A).keeps t i c → (means L B).keeps t i c) → B.place c ≡ A.place c
      → There L A t i c → There L B t i c
  there_on A B t i c k e (inl p) = inl (p.0, e ∙ p.1)
  there_on A B t i c k e (inr (inl p)) = inr (inl (e ∙ p))
  there_on A B t i c k e (inr (inr p)) = inr (inr (e ∙ p.0, k p.1))

  pub safe_on : (A B : Scene State) (t i c : ℕ) → ((means L A).names t i c → (means L B).names t i c)
      → ((means L A).keeps t i c → (means L B).keeps t i c) → B.place c ≡ A.place c → Safe L A t i c → Safe L B t i c
  safe_on A B t i c n k e s = record { named = n s.named; there = there_on A B t i c k e s.there }

  pub calm_quiet : (t : ℕ) (A : Scene State) (x : State) (tr : Trace)
      → ((means L A).inside t → (L.meaning x).inside t)
      → ((L.meaning x).inside t → (means L A).inside t)
      → status t tr ≡ status t A.seen
      → ((i c : ℕ) → (means L A).names t i c → (L.meaning x).names t i c)
      → ((i c : ℕ) → (means L A).keeps t i c → (L.meaning x).keeps t i c)
      → ((c : ℕ) → Cleared t c A.seen → Cleared t c tr)
      → Calm L t A (quiet L A x tr)
  calm_quiet t A x tr on back st names keeps cl =
      record {
        in_on = on;
        in_back = back;
        status = st;
        fresh = λ f h. h;
        fresh_link = λ f h. refl;
        fresh_item = λ f h. refl;
        fresh_back = λ f h. h;
        names = names;
        safe = λ i c h. safe_on A (quiet L A x tr) t i c (names i c) (keeps i c) refl h;
        safe_item = λ i c h. refl;
        safe_stack = λ i c h o. (o, refl);
        safe_list = λ i c h o. o;
        safe_dead = λ i c h o m. (m, refl);
        cleared = λ i c h. cl c;
      }

  -- a move that changes one cell's place
  abbrev pub Alike : Scene State → Scene State → ℕ → Type 0
  Alike A B d = (B.memory.link d ≡ A.memory.link d) × (B.memory.item d ≡ A.memory.item d) × (B.memory.mark d ≡ A.memory.mark d)

  abbrev pub Listed : Scene State → Scene State → ℕ → Type 0
  Listed A B d =
      (B.memory.item d ≡ A.memory.item d)
      × (A.memory.mark d ≡ true → (B.memory.mark d ≡ true) × (B.memory.link d ≡ A.memory.link d))

  abbrev pub Stays : ℕ → ℕ → Scene State → Scene State → ℕ → Type 0
  Stays t i A B c =
      Safe L B t i c
      × (B.memory.item c ≡ A.memory.item c)
      × (OnStack A c → OnStack B c × (B.memory.link c ≡ A.memory.link c))
      × (OnList A c → OnList B c)
      × (OnList A c → A.memory.mark c ≡ true → (B.memory.mark c ≡ true) × (B.memory.link c ≡ A.memory.link c))

  pub record Turn (t : ℕ) (A B : Scene State) (c : ℕ) : Type 0 where
    pub in_on : (means L A).inside t → (means L B).inside t
    pub in_back : (means L B).inside t → (means L A).inside t
    pub status : status t B.seen ≡ status t A.seen
    pub elsewhere : (d : ℕ) → (d ≡ c → ⊥) → B.place d ≡ A.place d
    pub mine : A.place c ≡ fresh_of t → ⊥
    pub made : B.place c ≡ fresh_of t → ⊥
    pub still : (d : ℕ) → (d ≡ c → ⊥) → (kind (A.place d) ≡ 5 → ⊥) → Alike A B d
    pub listed : (d : ℕ) → (d ≡ c → ⊥) → A.place d ≡ on_list → Listed A B d
    pub names : (i d : ℕ) → (means L A).names t i d → (means L B).names t i d
    pub keeps : (i d : ℕ) → (d ≡ c → ⊥) → (means L A).keeps t i d → (means L B).keeps t i d
    pub here : (i : ℕ) → Safe L A t i c → Stays t i A B c
    pub cleared : (i d : ℕ) → Safe L A t i d → Cleared t d A.seen → Cleared t d B.seen

  pub turn_calm : (t : ℕ) (A B : Scene State) (c : ℕ) → Turn t A B c → Calm L t A B
  turn_calm t A B c u =
      record {
        in_on = u.in_on;
        in_back = u.in_back;
        status = u.status;
        fresh = λ f h. u.elsewhere f (other f h) ∙ h;
        fresh_link = λ f h. (u.still f (other f h) (λ z. let k = ap kind h in omega arith)).0;
        fresh_item = λ f h. (u.still f (other f h) (λ z. let k = ap kind h in omega arith)).1;
        fresh_back = λ f h. sym (u.elsewhere f (new f h)) ∙ h;
        names = u.names;
        safe = λ i d h. (safes i d (cases_eq d c) h).0;
        safe_item = λ i d h. (safes i d (cases_eq d c) h).1;
        safe_stack = λ i d h. (safes i d (cases_eq d c) h).2;
        safe_list = λ i d h. (safes i d (cases_eq d c) h).3;
        safe_dead = λ i d h. (safes i d (cases_eq d c) h).4;
        cleared = u.cleared;
      }
    where
      other : (f : ℕ) → A.place f ≡ fresh_of t → f ≡ c → ⊥
      other f h e = u.mine (ap A.place (sym e) ∙ h)

      new : (f : ℕ) → B.place f ≡ fresh_of t → f ≡ c → ⊥
      new f h e = u.made (ap B.place (sym e) ∙ h)

      item : (i d : ℕ) → (d ≡ c → ⊥) → There L A t i d → B.memory.item d ≡ A.memory.item d
      item i d ne (inl p) = (u.still d ne (λ z. let k = ap kind p.1 in omega arith)).1
      item i d ne (inr (inl p)) = (u.listed d ne p).0
      item i d ne (inr (inr p)) = (u.still d ne (λ z. let k = ap kind p.0 in omega arith)).1

      stack : (d : ℕ) → (d ≡ c → ⊥) → OnStack A d → OnStack B d × (B.memory.link d ≡ A.memory.link d)
      stack d ne (inl p) =
          (inl (p.0, u.elsewhere d ne ∙ p.1), (u.still d ne (λ z. let k = ap kind p.1 in omega arith)).0)
      stack d ne (inr p) = (inr (u.elsewhere d ne ∙ p), (u.still d ne (λ z. let k = ap kind p in omega arith)).0)

      list : (d : ℕ) → (d ≡ c → ⊥) → OnList A d → OnList B d
      list d ne (inl p) = inl (u.elsewhere d ne ∙ p)
      list d ne (inr p) =
          inr (u.elsewhere d ne ∙ p.0, (u.still d ne (λ z. let k = ap kind p.0 in omega arith)).2 ∙ p.1)

      dead : (d : ℕ) → (d ≡ c → ⊥) → OnList A d → A.memory.mark d ≡ true → (B.memory.mark d ≡ true) × (B.memory.link d ≡ A.memory.link d)
      dead d ne (inl p) m = (u.listed d ne p).1 m
      dead d ne (inr p) m =
          let a = u.still d ne (λ z. let k = ap kind p.0 in omega arith) in
          (a.2 ∙ m, a.0)

      safes : (i d : ℕ) → (d ≡ c) ⊎ (d ≡ c → ⊥) → Safe L A t i d → Stays t i A B d
      safes i d (inl e) = subst (λ x. Safe L A t i x → Stays t i A B x) (sym e) (u.here i)
      safes i d (inr ne) =
          λ h. (safe_on A B t i d (u.names i d) (u.keeps i d ne) (u.elsewhere d ne) h, item i d ne h.there, stack d ne, list d ne, dead d ne)

  -- a cell that is safe is linked, in the list or held
  pub safe_kind : (A : Scene State) (t i c : ℕ) → Safe L A t i c
      → (kind (A.place c) ≡ 3) ⊎ ((kind (A.place c) ≡ 5) ⊎ (kind (A.place c) ≡ 2))
  safe_kind A t i c h = go h.there
    where
      go : There L A t i c → (kind (A.place c) ≡ 3) ⊎ ((kind (A.place c) ≡ 5) ⊎ (kind (A.place c) ≡ 2))
      go (inl p) = inl (ap kind p.1)
      go (inr (inl p)) = inr (inl (ap kind p))
      go (inr (inr p)) = inr (inr (ap kind p.0))

  module _ {V : Type 0} (O : Order V) (val : ℕ → V) where
    pub sound_quiet : (A : Scene State) (x : State) (tr : Trace) → L.fit x → SameHeld (means L A) (L.meaning x)
        → played O.cmp val (deeds tr) ≡ played O.cmp val (deeds A.seen) → Orderly tr → Truthful O.cmp val (deeds tr)
        → Sound L O val A → Sound L O val (quiet L A x tr)
    sound_quiet A x tr fx h p o t a =
        record {
          fit = fx;
          free = a.free;
          free_back = a.free_back;
          held_on = λ c m. a.held_on c (h.back c m);
          held_back = λ c m. h.on c (a.held_back c m);
          chain = a.chain;
          line = a.line;
          line_back = a.line_back;
          linked = a.linked;
          sorted = a.sorted;
          stack = a.stack ∙ ap (λ z. z.stack) (sym p);
          set = a.set ∙ ap (λ z. z.set) (sym p);
          bound = a.bound;
          within = a.within;
          count = a.count;
          orderly = o;
          truthful = t;
        }

    -- enter
    abbrev pub enter_scene : Scene State → ℕ → Op → Scene State
    enter_scene A s op = quiet L A (after_enter M A.memory.reclaimer s) (begins s op ∷ A.seen)

    pub enter_sound : (A : Scene State) (s : ℕ) (op : Op) → s < sessions → ((means L A).inside s → ⊥)
        → status s A.seen ≡ outside → Sound L O val A → Sound L O val (enter_scene A s op)
    unfolding deeds Orderly
    enter_sound A s op lt out st a =
        sound_quiet A (after_enter M A.memory.reclaimer s) (begins s op ∷ A.seen) (L.fits_enters A.memory.reclaimer s a.fit) (L.entering A.memory.reclaimer s a.fit lt out).held refl (st, a.orderly) a.truthful a

    pub enter_calm : (A : Scene State) (s : ℕ) (op : Op) → L.fit A.memory.reclaimer → s < sessions → ((means L A).inside s → ⊥)
        → (t : ℕ) → (t ≡ s → ⊥) → Calm L t A (enter_scene A s op)
    unfolding Cleared
    enter_calm A s op fx lt out t ne =
        let e = L.entering A.memory.reclaimer s fx lt out in
        calm_quiet t A (after_enter M A.memory.reclaimer s) (begins s op ∷ A.seen)
        (e.on t) (λ h. e.back t h ne) (status_begins s t op A.seen ne)
        (e.slots.names t) (e.slots.keeps t) (λ c h. (λ q. ne (sym q), h))

    pub enter_in : (A : Scene State) (s : ℕ) (op : Op) → L.fit A.memory.reclaimer → s < sessions → ((means L A).inside s → ⊥) → (means L (enter_scene A s op)).inside s
    enter_in A s op fx lt out = (L.entering A.memory.reclaimer s fx lt out).self

    -- leave
    abbrev pub leave_scene : Scene State → ℕ → Answer → Scene State
    leave_scene A s a = quiet L A (after_leave M A.memory.reclaimer s) (completes s a ∷ A.seen)

    pub leave_sound : (A : Scene State) (s : ℕ) (op : Op) (r : Answer) → s < sessions → (means L A).inside s
        → status s A.seen ≡ decided op r → Sound L O val A → Sound L O val (leave_scene A s r)
    unfolding deeds Orderly
    leave_sound A s op r lt in₁ st a =
        sound_quiet A (after_leave M A.memory.reclaimer s) (completes s r ∷ A.seen) (L.fits_leaves A.memory.reclaimer s a.fit) (L.leaving A.memory.reclaimer s a.fit lt in₁).held refl ((op, st), a.orderly) a.truthful a

    pub leave_calm : (A : Scene State) (s : ℕ) (r : Answer) → L.fit A.memory.reclaimer → s < sessions → (means L A).inside s
        → (t : ℕ) → (t ≡ s → ⊥) → Calm L t A (leave_scene A s r)
    unfolding Cleared
    leave_calm A s r fx lt in₁ t ne =
        let e = L.leaving A.memory.reclaimer s fx lt in₁ in
        calm_quiet t A (after_leave M A.memory.reclaimer s) (completes s r ∷ A.seen)
        (e.on t ne) (e.back t) (status_completes s t r A.seen ne)
        (λ i c. e.names t i c ne) (λ i c. e.keeps t i c ne) (λ c h. h)

    -- protect
    abbrev pub protect_scene : Scene State → ℕ → ℕ → ℕ → Scene State
    protect_scene A s i c = quiet L A (after_protect M A.memory.reclaimer s i c) A.seen

    module _ (A : Scene State) (s i c : ℕ) (fx : L.fit A.memory.reclaimer) (lt : s < sessions) (in₁ : (means L A).inside s) (i3 : i < 3) (lc : c < cells) where
      shield : Protected s i c (means L A) (means L (protect_scene A s i c))
      shield = L.protecting A.memory.reclaimer s i c fx lt in₁ i3 lc

      pub protect_sound : Sound L O val A → Sound L O val (protect_scene A s i c)
      protect_sound a =
          sound_quiet A (after_protect M A.memory.reclaimer s i c) A.seen (L.fits_protects A.memory.reclaimer s i c fx) shield.held refl a.orderly a.truthful a

      pub protect_calm : (t : ℕ) → (t ≡ s → ⊥) → Calm L t A (protect_scene A s i c)
      protect_calm t ne =
          calm_quiet t A (after_protect M A.memory.reclaimer s i c) A.seen
          (shield.inside.on t) (shield.inside.back t) refl
          (λ j d. shield.names t j d (λ q. ne q.0)) (λ j d. shield.keeps t j d (λ q. ne q.0)) (λ d h. h)

      pub protect_in : (means L (protect_scene A s i c)).inside s
      protect_in = shield.inside.on s in₁

      pub protect_names : (means L (protect_scene A s i c)).names s i c
      protect_names = shield.self

      -- the slots of s other than i
      pub protect_other : (j d : ℕ) → (j ≡ i → ⊥) → Safe L A s j d → Safe L (protect_scene A s i c) s j d
      protect_other j d ne h =
          safe_on A (protect_scene A s i c) s j d (shield.names s j d (λ q. ne q.1)) (shield.keeps s j d (λ q. ne q.1)) refl h

      pub protect_moved : (j : ℕ) → Safe L A s j c → Safe L (protect_scene A s i c) s i c
      protect_moved j h = record { named = shield.self; there = go h.there }
        where
          go : There L A s j c → There L (protect_scene A s i c) s i c
          go (inl p) = inl p
          go (inr (inl p)) = inr (inl p)
          go (inr (inr p)) = inr (inr (p.0, shield.moved j p.1))

    -- events
    abbrev pub sees : Scene State → Event → Scene State
    sees A e = quiet L A A.memory.reclaimer (e ∷ A.seen)

    pub same_held : (m : Meaning) → SameHeld m m
    same_held m = record { on = λ c h. h; back = λ c h. h }

    pub clear_sound : (A : Scene State) (s c : ℕ) → Sound L O val A → Sound L O val (sees A (clears s c))
    unfolding deeds Orderly
    clear_sound A s c a = sound_quiet A A.memory.reclaimer (clears s c ∷ A.seen) a.fit (same_held (means L A)) refl a.orderly a.truthful a

    pub clear_calm : (A : Scene State) (s c t : ℕ) → Calm L t A (sees A (clears s c))
    unfolding status Cleared
    clear_calm A s c t =
        calm_quiet t A A.memory.reclaimer (clears s c ∷ A.seen) (λ h. h) (λ h. h) refl (λ i d h. h) (λ i d h. h) (λ d h. inr h)

    pub clear_now : (A : Scene State) (s c : ℕ) → Cleared s c (clears s c ∷ A.seen)
    unfolding Cleared
    clear_now A s c = inl (refl, refl)

    pub touch_sound : (A : Scene State) (s c : ℕ) → Cleared s c A.seen → Sound L O val A → Sound L O val (sees A (touches s c))
    unfolding deeds Orderly
    touch_sound A s c k a = sound_quiet A A.memory.reclaimer (touches s c ∷ A.seen) a.fit (same_held (means L A)) refl (k, a.orderly) a.truthful a

    pub touch_calm : (A : Scene State) (s c t : ℕ) → Calm L t A (sees A (touches s c))
    unfolding status Cleared
    touch_calm A s c t =
        calm_quiet t A A.memory.reclaimer (touches s c ∷ A.seen) (λ h. h) (λ h. h) refl (λ i d h. h) (λ i d h. h) (λ d h. h)

    -- an operation is decided that changes nothing
    pub judge_sound : (A : Scene State) (s : ℕ) (op : Op) (r : Answer) → status s A.seen ≡ under op
        → serve O.cmp val op (played O.cmp val (deeds A.seen)) ≡ (played O.cmp val (deeds A.seen), r)
        → Sound L O val A → Sound L O val (sees A (decides s r))
    unfolding Orderly played Truthful
    judge_sound A s op r st e a =
        let d : deeds (decides s r ∷ A.seen) ≡ (op, r) ∷ deeds A.seen = deeds_decides s op r A.seen st in
        sound_quiet A A.memory.reclaimer (decides s r ∷ A.seen) a.fit (same_held (means L A))
        (ap (played O.cmp val) d ∙ ap (λ x. x.0) e) ((op, st), a.orderly)
        (subst (Truthful O.cmp val) (sym d) (sym (ap (λ x. x.1) e), a.truthful)) a

    pub decide_calm : (A : Scene State) (s t : ℕ) (r : Answer) → (t ≡ s → ⊥) → Calm L t A (sees A (decides s r))
    unfolding Cleared
    decide_calm A s t r ne =
        calm_quiet t A A.memory.reclaimer (decides s r ∷ A.seen) (λ h. h) (λ h. h) (status_decides s t r A.seen ne)
        (λ i d h. h) (λ i d h. h) (λ d h. h)

    pub in_bounds : (A : Scene State) → Sound L O val A → (c : ℕ) → (kind (A.place c) ≡ 0 → ⊥) → c < cells
    in_bounds A a c ne = go (cases_lt c cells)
      where
        go : (c < cells) ⊎ (cells ≤ c) → c < cells
        go (inl h) = h
        go (inr h) = absurd (ne (ap kind (a.bound c h)))

    pub in_line : (A : Scene State) → Sound L O val A → (c : ℕ) → In c A.line → A.place c ≡ on_list
    in_line A a c i = Lists.seg_in A.place A.memory.link A.memory.front A.line None a.line c i

    pub off_line : (A : Scene State) → Sound L O val A → (f : ℕ) → (kind (A.place f) ≡ 5 → ⊥) → (c : ℕ) → In c A.line → c ≡ f → ⊥
    off_line A a f ne c i e = ne (ap (λ x. kind (A.place x)) (sym e) ∙ ap kind (in_line A a c i))

    -- take a cell off the free stack, for s
    abbrev pub take_scene : Scene State → ℕ → ℕ → List ℕ → ℕ → Scene State
    take_scene A s f rest p =
        record {
          memory = taken M A.memory f rest p;
          place = put A.place f (fresh_of s);
          chain = A.chain;
          line = A.line;
          seen = A.seen;
        }

    module _ (A : Scene State) (s f : ℕ) (rest : List ℕ) (p : ℕ) (e : A.memory.free ≡ f ∷ rest) (a : Sound L O val A) where
      pub top : (A.place f ≡ free_at (length rest)) × Stacked A.place rest
      unfolding Stacked
      top = subst (Stacked A.place) e a.free

      pub take_in : f < cells
      take_in = in_bounds A a f (λ q. let k = ap kind top.0 in omega arith)

      take_link : (c n : ℕ) → A.place c ≡ link_at n → c ≡ f → ⊥
      take_link c n q = apart A.place f c top.0 q (λ z. omega arith)

      take_line : (c : ℕ) → In c A.line → c ≡ f → ⊥
      take_line = off_line A a f (λ z. let k = ap kind top.0 in omega arith)

      pub take_sound : Sound L O val (take_scene A s f rest p)
      take_sound =
          record {
            fit = a.fit;
            free =
                stacked_frame A.place (put A.place f (fresh_of s)) rest
                (λ c k q h. put_apart A.place f (fresh_of s) c
                (λ z. let w : free_at k ≡ free_at (length rest) = sym q ∙ (ap A.place z ∙ top.0) in
                let w' : k ≡ length rest = cc in
                omega arith)
                ∙ q)
                top.1;
            free_back = λ c k q. still c k q (subst (In c) e (a.free_back c k (put_kind_back A.place f (fresh_of s) c q (λ z. omega arith))));
            held_on = λ c h. put_kind A.place f (fresh_of s) c (a.held_on c h) (λ z. let k = ap kind top.0 in omega arith);
            held_back = λ c h. a.held_back c (put_kind_back A.place f (fresh_of s) c h (λ z. omega arith));
            chain =
                chain_frame A.place (put A.place f (fresh_of s)) A.memory.link (put A.memory.link f None) A.memory.head A.chain
                (λ c n q h. put_apart A.place f (fresh_of s) c (take_link c n q) ∙ q)
                (λ c n q h. put_apart A.memory.link f None c (take_link c n q))
                a.chain;
            line =
                Lists.seg_frame A.place (put A.place f (fresh_of s)) A.memory.link (put A.memory.link f None) A.memory.front A.line None
                (λ c i q. put_apart A.place f (fresh_of s) c (take_line c i) ∙ q)
                (λ c i q. put_apart A.memory.link f None c (take_line c i))
                a.line;
            line_back = λ c q. a.line_back c (put_kind_back A.place f (fresh_of s) c q (λ z. omega arith));
            linked = λ c n q. took c n q (cases_eq c f);
            sorted =
                Lists.sorted_frame O (key L O val A) (key L O val (take_scene A s f rest p)) A.line
                (λ c i. ap val (put_apart A.memory.item f p c (take_line c i)))
                a.sorted;
            stack =
                map_frame A.place A.memory.link A.memory.item (put A.memory.item f p) A.memory.head A.chain
                (λ c n q. put_apart A.memory.item f p c (take_link c n q))
                a.chain
                ∙ a.stack;
            set =
                Lists.live_frame O A.memory.mark (put A.memory.mark f false) (key L O val A) (key L O val (take_scene A s f rest p)) A.line
                (λ c i. put_apart A.memory.mark f false c (take_line c i))
                (λ c i. ap val (put_apart A.memory.item f p c (take_line c i)))
                ∙ a.set;
            bound = bound_put cells A.place f (fresh_of s) take_in a.bound;
            within = within_put cells A.place f (fresh_of s) (λ z. let k = ap kind z in omega arith) a.within;
            count =
                let t = total_put A.place f (fresh_of s) cells take_in in
                let u : is_link (A.place f) ≡ 0 = ap is_link top.0 in
                let c = a.count in
                omega arith;
            orderly = a.orderly;
            truthful = a.truthful;
          }
        where
          took : (c n : ℕ) → put A.memory.link f None c ≡ Some n → (c ≡ f) ⊎ (c ≡ f → ⊥) → n < cells
          took c n q (inl z) =
              let w : None ≡ Some n = sym (put_here A.memory.link f None) ∙ (ap (put A.memory.link f None) (sym z) ∙ q) in
              let y : ◌≡◌ {A = ℕ} 0 1 = cc in
              absurd (omega arith)
          took c n q (inr ne) = a.linked c n (sym (put_apart A.memory.link f None c ne) ∙ q)

          still : (c k : ℕ) → put A.place f (fresh_of s) c ≡ free_at k → In c (f ∷ rest) → In c rest
          still c k q (inl z) =
              let w = ap kind (sym (put_here A.place f (fresh_of s)) ∙ (ap (put A.place f (fresh_of s)) (sym z) ∙ q)) in
              absurd (omega arith)
          still c k q (inr i) = i

      pub take_calm : (t : ℕ) → (t ≡ s → ⊥) → Calm L t A (take_scene A s f rest p)
      take_calm t ne =
          turn_calm t A (take_scene A s f rest p) f
          (record {
            in_on = λ h. h;
            in_back = λ h. h;
            status = refl;
            elsewhere = λ d n. put_apart A.place f (fresh_of s) d n;
            mine = λ h. let k = ap kind (sym top.0 ∙ h) in omega arith;
            made = λ h. let k : fresh_of s ≡ fresh_of t = sym (put_here A.place f (fresh_of s)) ∙ h in
                let k' : t ≡ s = cc in
                ne k';
            still = λ d n z. (put_apart A.memory.link f None d n, put_apart A.memory.item f p d n, put_apart A.memory.mark f false d n);
            listed = λ d n z. (put_apart A.memory.item f p d n, λ m. (put_apart A.memory.mark f false d n ∙ m, put_apart A.memory.link f None d n));
            names = λ i d h. h;
            keeps = λ i d n h. h;
            here = λ i h. absurd (no_safe (safe_kind A t i f h));
            cleared = λ i d h k. k;
          })
        where
          no_safe : (kind (A.place f) ≡ 3) ⊎ ((kind (A.place f) ≡ 5) ⊎ (kind (A.place f) ≡ 2)) → ⊥
          no_safe h = let k = ap kind top.0 in omega arith
