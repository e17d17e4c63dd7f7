-- Lists of cells: segments, order, and the set that the live cells make.
use Rattle.std.proofs.Common.{◌≡◌, ℕ, suc, Bool, true, false, cond, ◌⊎◌, List, [], ◌∷◌, ◌++◌, length, Some, None, Option, Ordering, Less, Equal, Greater, sym, refl, ap, ◌∙◌, subst, inl, inr, arith}
use Rattle.machine.proofs.Rules.{Order, turn}
use Rattle.machine.specs.Serial.{by3, member, added, removed}
use Rattle.machine.specs.Machine.{put}
use Rattle.machine.proofs.Scene.{Place, on_list, In, Seg, live, Below, Above, Sorted}
use Rattle.machine.proofs.Frames.{put_here, put_apart}

pub in_append : (x : ℕ) (a b : List ℕ) → In x (a ++ b) → In x a ⊎ In x b
in_append x [] b h = inr h
in_append x (y ∷ a) b (inl e) = inl (inl e)
in_append x (y ∷ a) b (inr h) = go (in_append x a b h)
  where
    go : In x a ⊎ In x b → In x (y ∷ a) ⊎ In x b
    go (inl p) = inl (inr p)
    go (inr p) = inr p

pub in_left : (x : ℕ) (a b : List ℕ) → In x a → In x (a ++ b)
in_left x [] b h = absurd h
in_left x (y ∷ a) b (inl e) = inl e
in_left x (y ∷ a) b (inr h) = inr (in_left x a b h)

pub in_right : (x : ℕ) (a b : List ℕ) → In x b → In x (a ++ b)
in_right x [] b h = h
in_right x (y ∷ a) b h = inr (in_right x a b h)

pub in_mid : (x f : ℕ) (a b : List ℕ) → In x (a ++ b) → In x (a ++ f ∷ b)
in_mid x f [] b h = inr h
in_mid x f (y ∷ a) b (inl e) = inl e
in_mid x f (y ∷ a) b (inr h) = inr (in_mid x f a b h)

pub in_unmid : (x f : ℕ) (a b : List ℕ) → In x (a ++ f ∷ b) → (x ≡ f) ⊎ In x (a ++ b)
in_unmid x f [] b h = h
in_unmid x f (y ∷ a) b (inl e) = inr (inl e)
in_unmid x f (y ∷ a) b (inr h) = go (in_unmid x f a b h)
  where
    go : (x ≡ f) ⊎ In x (a ++ b) → (x ≡ f) ⊎ In x (y ∷ (a ++ b))
    go (inl p) = inl p
    go (inr p) = inr (inr p)

pub length_mid : (f : ℕ) (a b : List ℕ) → length (a ++ f ∷ b) ≡ suc (length (a ++ b))
length_mid f [] b = refl
length_mid f (y ∷ a) b = ap suc (length_mid f a b)

-- segments
pub seg_frame : (P Q : ℕ → Place) (k j : ℕ → Option ℕ) (h : Option ℕ) (l : List ℕ) (e : Option ℕ)
    → ((c : ℕ) → In c l → P c ≡ on_list → Q c ≡ on_list)
    → ((c : ℕ) → In c l → P c ≡ on_list → j c ≡ k c)
    → Seg P k h l e → Seg Q j h l e
unfolding Seg
seg_frame P Q k j h [] e f g t = t
seg_frame P Q k j h (c ∷ l) e f g t = (
  t.0,
  f c (inl refl) t.1,
  rw (g c (inl refl) t.1) (seg_frame P Q k j (k c) l e (λ d i. f d (inr i)) (λ d i. g d (inr i)) t.2),
)

pub seg_join : (P : ℕ → Place) (k : ℕ → Option ℕ) (h : Option ℕ) (a : List ℕ) (m : Option ℕ) (b : List ℕ) (e : Option ℕ)
    → Seg P k h a m → Seg P k m b e → Seg P k h (a ++ b) e
unfolding Seg
seg_join P k h [] m b e p q = subst (λ x. Seg P k x b e) (sym p) q
seg_join P k h (c ∷ a) m b e p q = (p.0, p.1, seg_join P k (k c) a m b e p.2 q)

pub seg_in : (P : ℕ → Place) (k : ℕ → Option ℕ) (h : Option ℕ) (l : List ℕ) (e : Option ℕ) → Seg P k h l e → (c : ℕ) → In c l → P c ≡ on_list
unfolding Seg
seg_in P k h [] e t c i = absurd i
seg_in P k h (d ∷ l) e t c (inl q) = ap P q ∙ t.1
seg_in P k h (d ∷ l) e t c (inr i) = seg_in P k (k d) l e t.2 c i

pub seg_some : (P : ℕ → Place) (k : ℕ → Option ℕ) (c : ℕ) (l : List ℕ) → Seg P k (Some c) l None
    → (r : List ℕ) × (l ≡ c ∷ r) × Seg P k (k c) r None
unfolding Seg
seg_some P k c [] t = let z : ◌≡◌ {A = ℕ} 0 1 = cc in absurd (omega arith)
seg_some P k c (d ∷ l) t =
    let p : Some c ≡ Some d = t.0 in
    let e : d ≡ c = cc in
    (l, ap (λ x. x ∷ l) e, subst (λ x. Seg P k (k x) l None) e t.2)

pub seg_none : (P : ℕ → Place) (k : ℕ → Option ℕ) (l : List ℕ) → Seg P k None l None → l ≡ []
unfolding Seg
seg_none P k [] t = refl
seg_none P k (d ∷ l) t = let p : None ≡ Some d = t.0 in cc

pub seg_first : (P : ℕ → Place) (k : ℕ → Option ℕ) (h : Option ℕ) (l : List ℕ) (n : ℕ) → Seg P k h l None → h ≡ Some n → In n l
unfolding Seg
seg_first P k h [] n t e = let q : h ≡ None = t in let z : ◌≡◌ {A = ℕ} 0 1 = cc in absurd (omega arith)
seg_first P k h (d ∷ l) n t e = let q : h ≡ Some d = t.0 in let w : n ≡ d = cc in inl w

pub seg_next : (P : ℕ → Place) (k : ℕ → Option ℕ) (h : Option ℕ) (l : List ℕ) (c n : ℕ) → Seg P k h l None → In c l → k c ≡ Some n → In n l
unfolding Seg
seg_next P k h [] c n t i e = absurd i
seg_next P k h (d ∷ l) c n t (inl q) e = inr (seg_first P k (k d) l n t.2 (ap k (sym q) ∙ e))
seg_next P k h (d ∷ l) c n t (inr i) e = inr (seg_next P k (k d) l c n t.2 i e)

module _ {V : Type 0} (O : Order V) where
  pub less_irrefl : (x y : V) → x ≡ y → Below O x y → ⊥
  less_irrefl x y e h =
      let a : O.cmp x y ≡ Equal = ap (O.cmp x) (sym e) ∙ O.self x in
      let z : ◌≡◌ {A = ℕ} 0 1 = cc in
      omega arith

  pub sorted_frame : (key kez : ℕ → V) (l : List ℕ) → ((c : ℕ) → In c l → kez c ≡ key c) → Sorted O key l → Sorted O kez l
  unfolding Sorted
  sorted_frame key kez [] f t = tt
  sorted_frame key kez (c ∷ l) f t = (
    λ d i. rw (f c (inl refl), f d (inr i)) (t.0 d i),
    sorted_frame key kez l (λ d i. f d (inr i)) t.1,
  )

  pub live_frame : (m n : ℕ → Bool) (key kez : ℕ → V) (l : List ℕ) → ((c : ℕ) → In c l → n c ≡ m c) → ((c : ℕ) → In c l → kez c ≡ key c)
      → live n kez l ≡ live m key l
  unfolding live
  live_frame m n key kez [] f g = refl
  live_frame m n key kez (c ∷ l) f g =
      let a : n c ≡ m c = f c (inl refl) in
      let b : kez c ≡ key c = g c (inl refl) in
      let d : live n kez l ≡ live m key l = live_frame m n key kez l (λ x i. f x (inr i)) (λ x i. g x (inr i)) in
      cc

  module _ (key : ℕ → V) where
    pub sorted_right : (a b : List ℕ) → Sorted O key (a ++ b) → Sorted O key b
    unfolding Sorted
    sorted_right [] b t = t
    sorted_right (x ∷ a) b t = sorted_right a b t.1

    pub sorted_cross : (a b : List ℕ) → Sorted O key (a ++ b) → (x y : ℕ) → In x a → In y b → Below O (key x) (key y)
    unfolding Sorted
    sorted_cross [] b t x y i j = absurd i
    sorted_cross (z ∷ a) b t x y (inl e) j = rw (ap key e) (t.0 y (in_right y a b j))
    sorted_cross (z ∷ a) b t x y (inr i) j = sorted_cross a b t.1 x y i j

    pub sorted_mid : (f : ℕ) (a b : List ℕ) → Sorted O key (a ++ b) → ((x : ℕ) → In x a → Below O (key x) (key f)) → Above O key (key f) b
        → Sorted O key (a ++ f ∷ b)
    unfolding Sorted
    sorted_mid f [] b t p q = (q, t)
    sorted_mid f (x ∷ a) b t p q =
        (λ d i. go d (in_unmid d f a b i), sorted_mid f a b t.1 (λ y i. p y (inr i)) q)
      where
        go : (d : ℕ) → (d ≡ f) ⊎ In d (a ++ b) → Below O (key x) (key d)
        go d (inl e) = rw (ap key e) (p x (inl refl))
        go d (inr i) = t.0 d i

    pub sorted_drop : (f : ℕ) (a b : List ℕ) → Sorted O key (a ++ f ∷ b) → Sorted O key (a ++ b)
    unfolding Sorted
    sorted_drop f [] b t = t.1
    sorted_drop f (x ∷ a) b t = (λ d i. t.0 d (in_mid d f a b i), sorted_drop f a b t.1)

    -- after c come greater ones
    pub sorted_first : (c : ℕ) (r : List ℕ) (v : V) → Sorted O key (c ∷ r) → Below O v (key c) → Above O key v (c ∷ r)
    unfolding Sorted
    sorted_first c r v t h d (inl e) = rw (ap key e) h
    sorted_first c r v t h d (inr i) = O.trans v (key c) (key d) h (t.0 d i)

    -- the set
    pub live_drop : (m : ℕ → Bool) (c : ℕ) (a b : List ℕ) → m c ≡ true → live m key (a ++ c ∷ b) ≡ live m key (a ++ b)
    unfolding live
    live_drop m c [] b e = rw e
    live_drop m c (x ∷ a) b e = ap (λ l. cond (m x) l (key x ∷ l)) (live_drop m c a b e)

    pub added_low : (m : ℕ → Bool) (k : V) (b : List ℕ) → Above O key k b → added O.cmp k (live m key b) ≡ k ∷ live m key b
    unfolding live added
    added_low m k [] h = refl
    added_low m k (y ∷ b) h = go (m y) (added_low m k b (λ d i. h d (inr i)))
      where
        go : (t : Bool) → added O.cmp k (live m key b) ≡ k ∷ live m key b
            → added O.cmp k (cond t (live m key b) (key y ∷ live m key b)) ≡ k ∷ cond t (live m key b) (key y ∷ live m key b)
        go true ih = ih
        go false ih = rw (h y (inl refl))

    pub live_mid : (m : ℕ → Bool) (f : ℕ) (a b : List ℕ) → m f ≡ false → ((x : ℕ) → In x a → Below O (key x) (key f)) → Above O key (key f) b
        → live m key (a ++ f ∷ b) ≡ added O.cmp (key f) (live m key (a ++ b))
    unfolding live added
    live_mid m f [] b e p q = rw e (sym (added_low m (key f) b q))
    live_mid m f (x ∷ a) b e p q = go (m x) (live_mid m f a b e (λ y i. p y (inr i)) q)
      where
        go : (t : Bool) → live m key (a ++ f ∷ b) ≡ added O.cmp (key f) (live m key (a ++ b))
            → cond t (live m key (a ++ f ∷ b)) (key x ∷ live m key (a ++ f ∷ b))
            ≡ added O.cmp (key f) (cond t (live m key (a ++ b)) (key x ∷ live m key (a ++ b)))
        go true ih = ih
        go false ih = rw (turn O (key x) (key f) (p x (inl refl))) (ap (λ l. key x ∷ l) ih)

    pub member_none : (m : ℕ → Bool) (k : V) (l : List ℕ) → ((x : ℕ) → In x l → key x ≡ k → ⊥) → member O.cmp k (live m key l) ≡ false
    unfolding live member
    member_none m k [] h = refl
    member_none m k (y ∷ l) h = go (m y) (member_none m k l (λ d i. h d (inr i)))
      where
        by : (o : Ordering) → O.cmp k (key y) ≡ o → member O.cmp k (live m key l) ≡ false → by3 o false true (member O.cmp k (live m key l)) ≡ false
        by Less e ih = refl
        by Equal e ih = absurd (h y (inl refl) (sym (O.same k (key y) e)))
        by Greater e ih = ih

        go : (t : Bool) → member O.cmp k (live m key l) ≡ false → member O.cmp k (cond t (live m key l) (key y ∷ live m key l)) ≡ false
        go true ih = ih
        go false ih = by (O.cmp k (key y)) refl ih

    pub member_there : (m : ℕ → Bool) (c : ℕ) (l : List ℕ) → Sorted O key l → In c l → m c ≡ false → member O.cmp (key c) (live m key l) ≡ true
    unfolding live member Sorted
    member_there m c [] t i e = absurd i
    member_there m c (y ∷ l) t (inl q) e =
        let a : m y ≡ false = ap m (sym q) ∙ e in
        rw a (rw (ap (λ x. O.cmp (key c) (key x)) (sym q) ∙ O.self (key c)))
    member_there m c (y ∷ l) t (inr i) e = go (m y) (member_there m c l t.1 i e)
      where
        go : (b : Bool) → member O.cmp (key c) (live m key l) ≡ true → member O.cmp (key c) (cond b (live m key l) (key y ∷ live m key l)) ≡ true
        go true ih = ih
        go false ih = rw (turn O (key y) (key c) (t.0 c i)) ih

    pub live_marked : (m : ℕ → Bool) (c : ℕ) (l : List ℕ) → Sorted O key l → In c l → m c ≡ false
        → live (put m c true) key l ≡ removed O.cmp (key c) (live m key l)
    unfolding live removed Sorted
    live_marked m c [] t i e = absurd i
    live_marked m c (y ∷ l) t (inl q) e =
        let a : m y ≡ false = ap m (sym q) ∙ e in
        let b : put m c true y ≡ true = ap (put m c true) (sym q) ∙ put_here m c true in
        let d : live (put m c true) key l ≡ live m key l =
        live_frame m (put m c true) key key l
        (λ x i. put_apart m c true x (λ z. less_irrefl (key y) (key x) (ap key (sym q) ∙ ap key (sym z)) (t.0 x i)))
        (λ x i. refl) in
        rw (a, b) (rw (ap (λ x. O.cmp (key c) (key x)) (sym q) ∙ O.self (key c)) d)
    live_marked m c (y ∷ l) t (inr i) e = rw apart (go (m y) (live_marked m c l t.1 i e))
      where
        apart : put m c true y ≡ m y
        apart = put_apart m c true y (λ z. less_irrefl (key y) (key c) (ap key z) (t.0 c i))

        go : (b : Bool) → live (put m c true) key l ≡ removed O.cmp (key c) (live m key l)
            → cond b (live (put m c true) key l) (key y ∷ live (put m c true) key l)
            ≡ removed O.cmp (key c) (cond b (live m key l) (key y ∷ live m key l))
        go true ih = ih
        go false ih = rw (turn O (key y) (key c) (t.0 c i)) (ap (λ x. key y ∷ x) ih)

    pub sorted_inj : (l : List ℕ) → Sorted O key l → (x y : ℕ) → In x l → In y l → key x ≡ key y → x ≡ y
    unfolding Sorted
    sorted_inj [] t x y i j e = absurd i
    sorted_inj (z ∷ l) t x y (inl p) (inl q) e = p ∙ sym q
    sorted_inj (z ∷ l) t x y (inl p) (inr j) e = absurd (less_irrefl (key z) (key y) (ap key (sym p) ∙ e) (t.0 y j))
    sorted_inj (z ∷ l) t x y (inr i) (inl q) e = absurd (less_irrefl (key z) (key x) (ap key (sym q) ∙ sym e) (t.0 x i))
    sorted_inj (z ∷ l) t x y (inr i) (inr j) e = sorted_inj l t.1 x y i j e

    -- no marked cell: the set is as long as the list
    pub live_length : (m : ℕ → Bool) (l : List ℕ) → ((c : ℕ) → In c l → m c ≡ false) → length (live m key l) ≡ length l
    unfolding live
    live_length m [] f = refl
    live_length m (c ∷ l) f = rw (f c (inl refl)) (ap suc (live_length m l (λ d i. f d (inr i))))

    -- the list cut behind prev
    pub record Cut (P : ℕ → Place) (k : ℕ → Option ℕ) (h : Option ℕ) (l : List ℕ) (m : Option ℕ)
        (j : Option ℕ → ℕ → Option ℕ) (g : Option ℕ → Option ℕ) (v : V) : Type 0 where
      pub pre : List ℕ
      pub post : List ℕ
      pub whole : l ≡ pre ++ post
      pub after : Seg P k m post None
      pub low : (x : ℕ) → In x pre → Below O (key x) v
      pub turned : (x : Option ℕ) → Seg P (j x) (g x) pre x
      pub kept : (x : Option ℕ) (y : ℕ) → In y post → j x y ≡ k y

    pub cut_front : (P : ℕ → Place) (k : ℕ → Option ℕ) (h : Option ℕ) (l : List ℕ) (v : V) → Seg P k h l None
        → Cut P k h l h (λ x. k) (λ x. x) v
    unfolding Seg
    cut_front P k h l v t =
        record {
          pre = [];
          post = l;
          whole = refl;
          after = t;
          low = λ x i. absurd i;
          turned = λ x. refl;
          kept = λ x y i. refl;
        }

    pub cut_cell : (P : ℕ → Place) (k : ℕ → Option ℕ) (h : Option ℕ) (l : List ℕ) (p : ℕ) (v : V) → Seg P k h l None → Sorted O key l
        → In p l → Below O (key p) v → Cut P k h l (k p) (λ x. put k p x) (λ x. h) v
    unfolding Seg Sorted
    cut_cell P k h [] p v t s i lt = absurd i
    cut_cell P k h (d ∷ l) p v t s (inl e) lt =
        record {
          pre = d ∷ [];
          post = l;
          whole = refl;
          after = subst (λ x. Seg P k (k x) l None) (sym e) t.2;
          low = λ x i. low x i;
          turned = λ x. (t.0, t.1, ap (put k p x) (sym e) ∙ put_here k p x);
          kept = λ x y i. put_apart k p x y (λ z. less_irrefl (key d) (key y) (ap key (sym e) ∙ ap key (sym z)) (s.0 y i));
        }
      where
        low : (x : ℕ) → In x (d ∷ []) → Below O (key x) v
        low x (inl q) = rw (ap key (q ∙ sym e)) lt
        low x (inr i) = absurd i
    cut_cell P k h (d ∷ l) p v t s (inr i) lt = go (cut_cell P k (k d) l p v t.2 s.1 i lt)
      where
        away : d ≡ p → ⊥
        away e = less_irrefl (key d) (key p) (ap key e) (s.0 p i)

        go : Cut P k (k d) l (k p) (λ x. put k p x) (λ x. k d) v → Cut P k h (d ∷ l) (k p) (λ x. put k p x) (λ x. h) v
        go c =
            record {
              pre = d ∷ c.pre;
              post = c.post;
              whole = ap (λ x. d ∷ x) c.whole;
              after = c.after;
              low = low;
              turned = λ x. (t.0, t.1, rw (put_apart k p x d away) (c.turned x));
              kept = c.kept;
            }
          where
            low : (x : ℕ) → In x (d ∷ c.pre) → Below O (key x) v
            low x (inl q) = rw (ap key q) (O.trans (key d) (key p) v (s.0 p i) lt)
            low x (inr j) = c.low x j
