-- More moves: of fresh cells, of the stack, and of collect.
use Rattle.std.proofs.Common.{◌≡◌, ℕ, suc, ◌<◌, false, ◌⊎◌, List, [], ◌∷◌, map, length, Some, None, Option, sym, refl, ap, ◌∙◌, subst, inl, inr, arith}
use Rattle.std.proofs.lemmas.Bool.{cases_eq}
use Rattle.reclaim.specs.Model.{Model}
use Rattle.machine.proofs.Rules.{Rules, Retired, Given, Withheld, Collected}
use Rattle.machine.proofs.Rules.{Order}
use Rattle.machine.specs.Machine.{put, gives, decides, Memory, written, headed, retired}
use Rattle.machine.proofs.Trace.{under, status, Cleared, Orderly, deeds, played, Truthful}
use Rattle.machine.specs.Serial.{pushed, popped}
use Rattle.machine.proofs.Scene.{Place, free_at, held_now, link_at, fresh_of, kind, Stacked, In, Chain, Seg, is_link, Scene, OnList, means, There, Safe, Calm, key, Sound}
use Rattle.machine.proofs.Frames.{put_here, put_apart, apart, status_decides, stacked_frame, chain_frame, total_put}
use Rattle.machine.proofs.Lists
use Rattle.machine.proofs.Moves.{quiet, put_kind, put_kind_back, bound_put, within_put, deeds_decides, turn_calm, safe_kind, calm_quiet, sound_quiet, off_line, in_bounds}
use Rattle.machine.specs.declared.word.Op.TheVariants.{Push, Pop}
use Rattle.machine.specs.Answers.{yes}

module _ {State : Type 0} {M : Model State} {sessions cells : ℕ} (L : Rules M sessions cells) {V : Type 0} (O : Order V) (val : ℕ → V) where
  -- s writes the link of its fresh cell
  abbrev pub write_scene : Scene State → ℕ → Option ℕ → Scene State
  write_scene A f l = record { memory = written M A.memory f l; place = A.place; chain = A.chain; line = A.line; seen = A.seen }

  module _ (A : Scene State) (s f : ℕ) (l : Option ℕ) (e : A.place f ≡ fresh_of s) (in-l : (n : ℕ) → l ≡ Some n → n < cells) (a : Sound L O val A) where
    write_line : (c : ℕ) → In c A.line → c ≡ f → ⊥
    write_line = off_line L O val A a f (λ z. let k = ap kind e in omega arith)

    pub write_sound : Sound L O val (write_scene A f l)
    write_sound =
        record {
          fit = a.fit;
          free = a.free;
          free_back = a.free_back;
          held_on = a.held_on;
          held_back = a.held_back;
          chain =
              chain_frame A.place A.place A.memory.link (put A.memory.link f l) A.memory.head A.chain
              (λ c n q h. q)
              (λ c n q h. put_apart A.memory.link f l c (apart A.place f c e q (λ z. omega arith)))
              a.chain;
          line =
              Lists.seg_frame A.place A.place A.memory.link (put A.memory.link f l) A.memory.front A.line None
              (λ c i q. q)
              (λ c i q. put_apart A.memory.link f l c (write_line c i))
              a.line;
          line_back = a.line_back;
          linked = λ c n q. wrote c n q (cases_eq c f);
          sorted = a.sorted;
          stack = a.stack;
          set =
              Lists.live_frame O A.memory.mark (put A.memory.mark f false) (key L O val A) (key L O val A) A.line
              (λ c i. put_apart A.memory.mark f false c (write_line c i))
              (λ c i. refl)
              ∙ a.set;
          bound = a.bound;
          within = a.within;
          count = a.count;
          orderly = a.orderly;
          truthful = a.truthful;
        }
      where
        wrote : (c n : ℕ) → put A.memory.link f l c ≡ Some n → (c ≡ f) ⊎ (c ≡ f → ⊥) → n < cells
        wrote c n q (inl z) = in-l n (sym (put_here A.memory.link f l) ∙ (ap (put A.memory.link f l) (sym z) ∙ q))
        wrote c n q (inr ne) = a.linked c n (sym (put_apart A.memory.link f l c ne) ∙ q)

    pub write_calm : (t : ℕ) → (t ≡ s → ⊥) → Calm L t A (write_scene A f l)
    write_calm t ne =
        turn_calm L t A (write_scene A f l) f
        (record {
          in_on = λ h. h;
          in_back = λ h. h;
          status = refl;
          elsewhere = λ d n. refl;
          mine = λ h. let k : fresh_of s ≡ fresh_of t = sym e ∙ h in let k' : t ≡ s = cc in ne k';
          made = λ h. let k : fresh_of s ≡ fresh_of t = sym e ∙ h in let k' : t ≡ s = cc in ne k';
          still = λ d n z. (put_apart A.memory.link f l d n, refl, put_apart A.memory.mark f false d n);
          listed = λ d n z. (refl, λ m. (put_apart A.memory.mark f false d n ∙ m, put_apart A.memory.link f l d n));
          names = λ i d h. h;
          keeps = λ i d n h. h;
          here = λ i h. absurd (no_safe (safe_kind L A t i f h));
          cleared = λ i d h k. k;
        })
      where
        no_safe : (kind (A.place f) ≡ 3) ⊎ ((kind (A.place f) ≡ 5) ⊎ (kind (A.place f) ≡ 2)) → ⊥
        no_safe h = let k = ap kind e in omega arith

  -- a cell goes onto the free stack
  abbrev pub returned : Memory State → ℕ → Memory State
  returned h f = record { reclaimer = h.reclaimer; head = h.head; front = h.front; free = f ∷ h.free; link = h.link; mark = h.mark; item = h.item }

  -- s puts its fresh cell back
  abbrev pub back_scene : Scene State → ℕ → Scene State
  back_scene A f =
      record {
        memory = returned A.memory f;
        place = put A.place f (free_at (length A.memory.free));
        chain = A.chain;
        line = A.line;
        seen = A.seen;
      }

  -- s links its fresh cell at the head, and the push is decided
  abbrev pub link_scene : Scene State → ℕ → ℕ → Scene State
  link_scene A s f =
      record {
        memory = headed M A.memory (Some f);
        place = put A.place f (link_at (length A.chain));
        chain = f ∷ A.chain;
        line = A.line;
        seen = decides s (yes 0) ∷ A.seen;
      }

  -- the list under a put at a cell that is not of it and comes not into it
  pub line_put : (A : Scene State) (a : Sound L O val A) (f : ℕ) (v : Place) → (kind (A.place f) ≡ 5 → ⊥)
      → Seg (put A.place f v) A.memory.link A.memory.front A.line None
  line_put A a f v ne =
      Lists.seg_frame A.place (put A.place f v) A.memory.link A.memory.link A.memory.front A.line None
      (λ c i q. put_kind A.place f v c q ne) (λ c i q. refl) a.line

  pub free_put : (A : Scene State) (a : Sound L O val A) (f : ℕ) (v : Place) → (kind (A.place f) ≡ 1 → ⊥)
      → Stacked (put A.place f v) A.memory.free
  free_put A a f v ne =
      stacked_frame A.place (put A.place f v) A.memory.free (λ c k q h. put_kind A.place f v c q ne) a.free

  pub chain_put : (A : Scene State) (a : Sound L O val A) (f : ℕ) (v : Place) → (kind (A.place f) ≡ 3 → ⊥)
      → Chain (put A.place f v) A.memory.link A.memory.head A.chain
  chain_put A a f v ne =
      chain_frame A.place (put A.place f v) A.memory.link A.memory.link A.memory.head A.chain
      (λ c n q h. put_kind A.place f v c q ne) (λ c n q h. refl) a.chain

  module _ (A : Scene State) (s f : ℕ) (e : A.place f ≡ fresh_of s) (a : Sound L O val A) where
    -- a fresh cell's kind
    not : (n : ℕ) → (n ≡ 4 → ⊥) → kind (A.place f) ≡ n → ⊥
    not n ne q = let k = ap kind e in ne (sym q ∙ k)

    pub fresh_in : f < cells
    fresh_in = in_bounds L O val A a f (not 0 (λ z. omega arith))

    unsafe : (t i : ℕ) → Safe L A t i f → ⊥
    unsafe t i h = go (safe_kind L A t i f h)
      where
        go : (kind (A.place f) ≡ 3) ⊎ ((kind (A.place f) ≡ 5) ⊎ (kind (A.place f) ≡ 2)) → ⊥
        go h = let k = ap kind e in omega arith

    pub back_sound : Sound L O val (back_scene A f)
    unfolding Stacked
    back_sound =
        let v = free_at (length A.memory.free) in
        record {
          fit = a.fit;
          free = (put_here A.place f v, free_put A a f v (not 1 (λ z. omega arith)));
          free_back = λ d k q. shelf d k q (cases_eq d f);
          held_on = λ c h. put_kind A.place f v c (a.held_on c h) (not 2 (λ z. omega arith));
          held_back = λ c h. a.held_back c (put_kind_back A.place f v c h (λ z. omega arith));
          chain = chain_put A a f v (not 3 (λ z. omega arith));
          line = line_put A a f v (not 5 (λ z. omega arith));
          line_back = λ c q. a.line_back c (put_kind_back A.place f v c q (λ z. omega arith));
          linked = a.linked;
          sorted = a.sorted;
          stack = a.stack;
          set = a.set;
          bound = bound_put cells A.place f v fresh_in a.bound;
          within = within_put cells A.place f v (λ z. let k = ap kind z in omega arith) a.within;
          count =
              let t = total_put A.place f v cells fresh_in in
              let u : is_link (A.place f) ≡ 0 = ap is_link e in
              let c = a.count in
              omega arith;
          orderly = a.orderly;
          truthful = a.truthful;
        }
      where
        shelf : (d k : ℕ) → put A.place f (free_at (length A.memory.free)) d ≡ free_at k → (d ≡ f) ⊎ (d ≡ f → ⊥)
            → In d (f ∷ A.memory.free)
        shelf d k q (inl z) = inl z
        shelf d k q (inr ne) = inr (a.free_back d k (sym (put_apart A.place f (free_at (length A.memory.free)) d ne) ∙ q))

    pub back_calm : (t : ℕ) → (t ≡ s → ⊥) → Calm L t A (back_scene A f)
    back_calm t ne =
        let v = free_at (length A.memory.free) in
        turn_calm L t A (back_scene A f) f
        (record {
          in_on = λ h. h;
          in_back = λ h. h;
          status = refl;
          elsewhere = λ d n. put_apart A.place f v d n;
          mine = λ h. let k : fresh_of s ≡ fresh_of t = sym e ∙ h in let k' : t ≡ s = cc in ne k';
          made = λ h. let k = ap kind (sym (put_here A.place f v) ∙ h) in omega arith;
          still = λ d n z. (refl, refl, refl);
          listed = λ d n z. (refl, λ m. (m, refl));
          names = λ i d h. h;
          keeps = λ i d n h. h;
          here = λ i h. absurd (unsafe t i h);
          cleared = λ i d h k. k;
        })

    module _ (at : A.memory.link f ≡ A.memory.head) (st : status s A.seen ≡ under (Push (A.memory.item f))) where
      link_deeds : deeds (decides s (yes 0) ∷ A.seen) ≡ (Push (A.memory.item f), yes 0) ∷ deeds A.seen
      link_deeds = deeds_decides s (Push (A.memory.item f)) (yes 0) A.seen st

      link_played : played O.cmp val (deeds (decides s (yes 0) ∷ A.seen))
          ≡ pushed (played O.cmp val (deeds A.seen)).set (A.memory.item f ∷ (played O.cmp val (deeds A.seen)).stack)
      unfolding played
      link_played = ap (played O.cmp val) link_deeds

      pub link_sound : Sound L O val (link_scene A s f)
      unfolding Chain Orderly Truthful
      link_sound =
          let v = link_at (length A.chain) in
          record {
            fit = a.fit;
            free = free_put A a f v (not 1 (λ z. omega arith));
            free_back = λ c k q. a.free_back c k (put_kind_back A.place f v c q (λ z. omega arith));
            held_on = λ c h. put_kind A.place f v c (a.held_on c h) (not 2 (λ z. omega arith));
            held_back = λ c h. a.held_back c (put_kind_back A.place f v c h (λ z. omega arith));
            chain = (
              refl,
              put_here A.place f v,
              subst (λ x. Chain (put A.place f v) A.memory.link x A.chain) (sym at) (chain_put A a f v (not 3 (λ z. omega arith))),
            );
            line = line_put A a f v (not 5 (λ z. omega arith));
            line_back = λ c q. a.line_back c (put_kind_back A.place f v c q (λ z. omega arith));
            linked = a.linked;
            sorted = a.sorted;
            stack = ap (λ x. A.memory.item f ∷ x) a.stack ∙ sym (ap (λ z. z.stack) link_played);
            set = a.set ∙ sym (ap (λ z. z.set) link_played);
            bound = bound_put cells A.place f v fresh_in a.bound;
            within = within_put cells A.place f v (λ z. let k = ap kind z in omega arith) a.within;
            count =
                let t = total_put A.place f v cells fresh_in in
                let u : is_link (A.place f) ≡ 0 = ap is_link e in
                let c = a.count in
                omega arith;
            orderly = ((Push (A.memory.item f), st), a.orderly);
            truthful = subst (Truthful O.cmp val) (sym link_deeds) (refl, a.truthful);
          }

      pub link_calm : (t : ℕ) → (t ≡ s → ⊥) → Calm L t A (link_scene A s f)
      unfolding Cleared
      link_calm t ne =
          let v = link_at (length A.chain) in
          turn_calm L t A (link_scene A s f) f
          (record {
            in_on = λ h. h;
            in_back = λ h. h;
            status = status_decides s t (yes 0) A.seen ne;
            elsewhere = λ d n. put_apart A.place f v d n;
            mine = λ h. let k : fresh_of s ≡ fresh_of t = sym e ∙ h in let k' : t ≡ s = cc in ne k';
            made = λ h. let k = ap kind (sym (put_here A.place f v) ∙ h) in omega arith;
            still = λ d n z. (refl, refl, refl);
            listed = λ d n z. (refl, λ m. (m, refl));
            names = λ i d h. h;
            keeps = λ i d n h. h;
            here = λ i h. absurd (unsafe t i h);
            cleared = λ i d h k. k;
          })

  -- s unlinks the head, and the pop is decided
  abbrev pub unlink_scene : Scene State → ℕ → ℕ → List ℕ → Scene State
  unlink_scene A s c rest =
      record {
        memory = retired M (headed M A.memory (A.memory.link c)) c;
        place = put A.place c held_now;
        chain = rest;
        line = A.line;
        seen = decides s (yes (A.memory.item c)) ∷ A.seen;
      }

  pub empty_chain : (A : Scene State) → A.memory.head ≡ None → Sound L O val A → A.chain ≡ []
  unfolding Chain
  empty_chain A e a = go A.chain a.chain
    where
      go : (l : List ℕ) → Chain A.place A.memory.link A.memory.head l → l ≡ []
      go [] h = refl
      go (c ∷ l) h = let p : A.memory.head ≡ Some c = h.0 in cc

  pub head_chain : (A : Scene State) (c : ℕ) → A.memory.head ≡ Some c → Sound L O val A → (rest : List ℕ) × (A.chain ≡ c ∷ rest)
  unfolding Chain
  head_chain A c e a = go A.chain a.chain
    where
      go : (l : List ℕ) → Chain A.place A.memory.link A.memory.head l → (rest : List ℕ) × (l ≡ c ∷ rest)
      go [] h = let p : A.memory.head ≡ None = h in let z : ◌≡◌ {A = ℕ} 0 1 = cc in absurd (omega arith)
      go (d ∷ l) h = let p : A.memory.head ≡ Some d = h.0 in let q : d ≡ c = cc in (l, ap (λ x. x ∷ l) q)

  pub head_in : (A : Scene State) (c : ℕ) → A.memory.head ≡ Some c → Sound L O val A → c < cells
  unfolding Chain
  head_in A c e a =
      let r = head_chain A c e a in
      let p : A.place c ≡ link_at (length r.0) = (subst (Chain A.place A.memory.link A.memory.head) r.1 a.chain).1 in
      in_bounds L O val A a c (λ z. let k = ap kind p in omega arith)

  module _ (A : Scene State) (s c : ℕ) (rest : List ℕ) (ch : A.chain ≡ c ∷ rest)
      (st : status s A.seen ≡ under Pop) (a : Sound L O val A) where
    pub first : (A.memory.head ≡ Some c) × (A.place c ≡ link_at (length rest)) × Chain A.place A.memory.link (A.memory.link c) rest
    unfolding Chain
    first = subst (Chain A.place A.memory.link A.memory.head) ch a.chain

    head_not : (n : ℕ) → (n ≡ 3 → ⊥) → kind (A.place c) ≡ n → ⊥
    head_not n ne q = let k = ap kind first.1 in ne (sym q ∙ k)

    pub unlink_in : c < cells
    unlink_in = in_bounds L O val A a c (head_not 0 (λ z. omega arith))

    unheld : (means L A).held c → ⊥
    unheld h = let k = ap kind (sym first.1 ∙ a.held_on c h) in omega arith

    law : Retired c (means L A) (means L (unlink_scene A s c rest))
    law = L.retiring A.memory.reclaimer c a.fit unlink_in unheld

    unlink_stack : (played O.cmp val (deeds A.seen)).stack ≡ A.memory.item c ∷ map A.memory.item rest
    unlink_stack = sym a.stack ∙ ap (map A.memory.item) ch

    unlink_deeds : deeds (decides s (yes (A.memory.item c)) ∷ A.seen) ≡ (Pop, yes (A.memory.item c)) ∷ deeds A.seen
    unlink_deeds = deeds_decides s Pop (yes (A.memory.item c)) A.seen st

    unlink_played : played O.cmp val (deeds (decides s (yes (A.memory.item c)) ∷ A.seen))
        ≡ pushed (played O.cmp val (deeds A.seen)).set (map A.memory.item rest)
    unfolding played
    unlink_played = ap (played O.cmp val) unlink_deeds ∙ ap (λ x. (popped (played O.cmp val (deeds A.seen)).set x).0) unlink_stack

    pub unlink_sound : Sound L O val (unlink_scene A s c rest)
    unfolding Orderly Truthful
    unlink_sound =
        record {
          fit = L.fits_retires A.memory.reclaimer c a.fit;
          free = free_put A a c held_now (head_not 1 (λ z. omega arith));
          free_back = λ d k q. a.free_back d k (put_kind_back A.place c held_now d q (λ z. omega arith));
          held_on = λ d h. on d h (cases_eq d c);
          held_back = λ d h. back d h (cases_eq d c);
          chain =
              chain_frame A.place (put A.place c held_now) A.memory.link A.memory.link (A.memory.link c) rest
              (λ d n q h. put_apart A.place c held_now d
              (λ z. let w : link_at n ≡ link_at (length rest) = sym q ∙ (ap A.place z ∙ first.1) in
              let w' : n ≡ length rest = cc in
              omega arith)
              ∙ q)
              (λ d n q h. refl)
              first.2;
          line = line_put A a c held_now (head_not 5 (λ z. omega arith));
          line_back = λ d q. a.line_back d (put_kind_back A.place c held_now d q (λ z. omega arith));
          linked = a.linked;
          sorted = a.sorted;
          stack = sym (ap (λ z. z.stack) unlink_played);
          set = a.set ∙ sym (ap (λ z. z.set) unlink_played);
          bound = bound_put cells A.place c held_now unlink_in a.bound;
          within = within_put cells A.place c held_now (λ z. let k = ap kind z in omega arith) a.within;
          count =
              let t = total_put A.place c held_now cells unlink_in in
              let u : is_link (A.place c) ≡ 1 = ap is_link first.1 in
              let n = a.count in
              let m : length A.chain ≡ suc (length rest) = ap length ch in
              omega arith;
          orderly = ((Pop, st), a.orderly);
          truthful =
              subst (Truthful O.cmp val) (sym unlink_deeds)
              (sym (ap (λ x. (popped (played O.cmp val (deeds A.seen)).set x).1) unlink_stack), a.truthful);
        }
      where
        on : (d : ℕ) → (means L (unlink_scene A s c rest)).held d → (d ≡ c) ⊎ (d ≡ c → ⊥) → put A.place c held_now d ≡ held_now
        on d h (inl e) = ap (put A.place c held_now) e ∙ put_here A.place c held_now
        on d h (inr ne) = put_apart A.place c held_now d ne ∙ a.held_on d (law.back d h ne)

        back : (d : ℕ) → put A.place c held_now d ≡ held_now → (d ≡ c) ⊎ (d ≡ c → ⊥) → (means L (unlink_scene A s c rest)).held d
        back d h (inl e) = subst (λ x. (means L (unlink_scene A s c rest)).held x) (sym e) law.self
        back d h (inr ne) = law.on d (a.held_back d (sym (put_apart A.place c held_now d ne) ∙ h))

    pub unlink_calm : (t : ℕ) → (t ≡ s → ⊥) → Calm L t A (unlink_scene A s c rest)
    unfolding Cleared
    unlink_calm t ne =
        turn_calm L t A (unlink_scene A s c rest) c
        (record {
          in_on = law.inside.on t;
          in_back = law.inside.back t;
          status = status_decides s t (yes (A.memory.item c)) A.seen ne;
          elsewhere = λ d n. put_apart A.place c held_now d n;
          mine = λ h. let k = ap kind (sym first.1 ∙ h) in omega arith;
          made = λ h. let k = ap kind (sym (put_here A.place c held_now) ∙ h) in omega arith;
          still = λ d n z. (refl, refl, refl);
          listed = λ d n z. (refl, λ m. (m, refl));
          names = law.slots.names t;
          keeps = λ i d n h. law.slots.keeps t i d h;
          here =
              λ i h. (
                record {
                  named = law.slots.names t i c h.named;
                  there = inr (inr (put_here A.place c held_now, law.kept t i h.named));
                },
                refl,
                λ o. (inr (put_here A.place c held_now), refl),
                λ o. absurd (no_list o),
                λ o m. (m, refl),
              );
          cleared = λ i d h k. k;
        })
      where
        no_list : OnList A c → ⊥
        no_list (inl p) = head_not 5 (λ z. omega arith) (ap kind p)
        no_list (inr p) = head_not 2 (λ z. omega arith) (ap kind p.0)

    pub unlink_inside : (means L A).inside s → (means L (unlink_scene A s c rest)).inside s
    unlink_inside h = law.inside.on s h

  -- collect answers none
  abbrev pub none_scene : Scene State → Scene State
  none_scene A = quiet L A (M.collects A.memory.reclaimer) A.seen

  pub none_sound : (A : Scene State) → M.picks A.memory.reclaimer ≡ None → Sound L O val A → Sound L O val (none_scene A)
  none_sound A e a =
      let w : Withheld (means L A) (means L (none_scene A)) =
      subst (λ x. Collected x (means L A) (means L (none_scene A))) e (L.collecting A.memory.reclaimer a.fit) in
      sound_quiet L O val A (M.collects A.memory.reclaimer) A.seen (L.fits_collects A.memory.reclaimer a.fit) w.held refl a.orderly a.truthful a

  pub none_calm : (A : Scene State) → L.fit A.memory.reclaimer → M.picks A.memory.reclaimer ≡ None → (t : ℕ) → Calm L t A (none_scene A)
  none_calm A fx e t =
      let w : Withheld (means L A) (means L (none_scene A)) =
      subst (λ x. Collected x (means L A) (means L (none_scene A))) e (L.collecting A.memory.reclaimer fx) in
      calm_quiet L t A (M.collects A.memory.reclaimer) A.seen
      (w.inside.on t) (w.inside.back t) refl (w.slots.names t) (w.slots.keeps t) (λ c h. h)

  -- collect gives c back, and it goes onto the free stack
  abbrev pub give_scene : Scene State → ℕ → Scene State
  give_scene A c =
      record {
        memory =
            record {
              reclaimer = M.collects A.memory.reclaimer;
              head = A.memory.head;
              front = A.memory.front;
              free = c ∷ A.memory.free;
              link = A.memory.link;
              mark = A.memory.mark;
              item = A.memory.item;
            };
        place = put A.place c (free_at (length A.memory.free));
        chain = A.chain;
        line = A.line;
        seen = gives c ∷ A.seen;
      }

  module _ (A : Scene State) (c : ℕ) (e : M.picks A.memory.reclaimer ≡ Some c) (a : Sound L O val A) where
    gift : Given c (means L A) (means L (give_scene A c))
    gift = subst (λ x. Collected x (means L A) (means L (give_scene A c))) e (L.collecting A.memory.reclaimer a.fit)

    pub was : A.place c ≡ held_now
    was = a.held_on c gift.was

    held_not : (n : ℕ) → (n ≡ 2 → ⊥) → kind (A.place c) ≡ n → ⊥
    held_not n ne q = let k = ap kind was in ne (sym q ∙ k)

    pub give_in : c < cells
    give_in = in_bounds L O val A a c (held_not 0 (λ z. omega arith))

    pub give_sound : Sound L O val (give_scene A c)
    unfolding Stacked deeds Orderly
    give_sound =
        let v = free_at (length A.memory.free) in
        record {
          fit = L.fits_collects A.memory.reclaimer a.fit;
          free = (put_here A.place c v, free_put A a c v (held_not 1 (λ z. omega arith)));
          free_back = λ d k q. shelf d k q (cases_eq d c);
          held_on = λ d h. put_apart A.place c v d (λ q. gift.gone (subst (λ x. (means L (give_scene A c)).held x) q h)) ∙ a.held_on d (gift.back d h);
          held_back =
              λ d h.
              gift.on d (λ q. let k = ap kind (sym (put_here A.place c v) ∙ (ap (put A.place c v) (sym q) ∙ h)) in omega arith)
              (a.held_back d (put_kind_back A.place c v d h (λ z. omega arith)));
          chain = chain_put A a c v (held_not 3 (λ z. omega arith));
          line = line_put A a c v (held_not 5 (λ z. omega arith));
          line_back = λ d q. a.line_back d (put_kind_back A.place c v d q (λ z. omega arith));
          linked = a.linked;
          sorted = a.sorted;
          stack = a.stack;
          set = a.set;
          bound = bound_put cells A.place c v give_in a.bound;
          within = within_put cells A.place c v (λ z. let k = ap kind z in omega arith) a.within;
          count =
              let t = total_put A.place c v cells give_in in
              let u : is_link (A.place c) ≡ 0 = ap is_link was in
              let n = a.count in
              omega arith;
          orderly = a.orderly;
          truthful = a.truthful;
        }
      where
        shelf : (d k : ℕ) → put A.place c (free_at (length A.memory.free)) d ≡ free_at k → (d ≡ c) ⊎ (d ≡ c → ⊥)
            → In d (c ∷ A.memory.free)
        shelf d k q (inl z) = inl z
        shelf d k q (inr ne) = inr (a.free_back d k (sym (put_apart A.place c (free_at (length A.memory.free)) d ne) ∙ q))

    pub give_calm : (t : ℕ) → Calm L t A (give_scene A c)
    unfolding Cleared status
    give_calm t =
        let v = free_at (length A.memory.free) in
        turn_calm L t A (give_scene A c) c
        (record {
          in_on = gift.inside.on t;
          in_back = gift.inside.back t;
          status = refl;
          elsewhere = λ d n. put_apart A.place c v d n;
          mine = λ h. let k = ap kind (sym was ∙ h) in omega arith;
          made = λ h. let k = ap kind (sym (put_here A.place c v) ∙ h) in omega arith;
          still = λ d n z. (refl, refl, refl);
          listed = λ d n z. (refl, λ m. (m, refl));
          names = gift.names t;
          keeps = λ i d n h. gift.keeps t i d n h;
          here = λ i h. absurd (never i h);
          cleared = λ i d h k. (λ q. never i (subst (λ x. Safe L A t i x) (sym q) h), k);
        })
      where
        never : (i : ℕ) → Safe L A t i c → ⊥
        never i h = go h.there
          where
            go : There L A t i c → ⊥
            go (inl p) = held_not 3 (λ z. omega arith) (ap kind p.1)
            go (inr (inl p)) = held_not 5 (λ z. omega arith) (ap kind p)
            go (inr (inr p)) = gift.unkept t i p.1
