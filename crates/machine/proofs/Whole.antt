-- The theorem, from the traits' laws; and how a call carries a history on.
use Rattle.std.proofs.Common.{◌≡◌, ℕ, List, [], ◌∷◌, ◌++◌, length, Ordering, Less, Equal, sym, refl, ap, ◌∙◌, subst, inl, inr, append_assoc, append-nil}
use Rattle.std.proofs.lemmas.Bool.{true≢false}
use Rattle.std.specs.Ordering.{ordering_reverse}
use Rattle.reclaim.specs.Model.{Model, Lawful}
use Rattle.machine.specs.Serial.{with_none, value_at, compared}
use Rattle.machine.specs.Machine.{Machine, Ran, follows, worded, ran, opened}
use Rattle.machine.specs.Laws.{History, Promise, Came, Carries, KeptOverRuns}
use Rattle.machine.proofs.Lawfuls.{rules, ordered}
use Rattle.machine.proofs.Final.{final}
use Rattle.machine.proofs.Sizes.{ran_items}

abbrev pub then : {State : Type 0} → Ran State → Ran State → Ran State
then a b = record { after = b.after; seen = a.seen ++ b.seen; answers = a.answers ++ b.answers }

module _ {State : Type 0} (M : Model State) (cmp : ℕ → ℕ → Ordering) (n : ℕ) where
  pub ran_append : (m : Machine State) (us ws : List ℕ) → ran M cmp n m (us ++ ws) ≡ then (ran M cmp n m us) (ran M cmp n (ran M cmp n m us).after ws)
  unfolding ran
  ran_append m [] ws = refl
  ran_append m (u ∷ us) ws =
      let d = worded M cmp n m u in
      let a = ran M cmp n d.after us in
      let b = ran M cmp n a.after ws in
      ap (follows M d) (ran_append d.after us ws)
      ∙ ap (λ (t : History). record { after = b.after; seen = t; answers = d.answer ∷ a.answers ++ b.answers }) (sym (append_assoc d.seen a.seen b.seen))

  pub ran_one : (m : Machine State) (w : ℕ)
      → ran M cmp n m (w ∷ []) ≡ record { after = (worded M cmp n m w).after; seen = (worded M cmp n m w).seen ++ []; answers = (worded M cmp n m w).answer ∷ [] }
  unfolding ran
  ran_one m w = refl

module _ {State I V : Type 0} (M : Model State) (law : Lawful M) (cmp : V → V → Ordering) (value : I → V)
    (same : (x y : V) → cmp x y ≡ Equal → x ≡ y) (itself : (x : V) → cmp x x ≡ Equal) (sides : (x y : V) → cmp y x ≡ ordering_reverse (cmp x y))
    (smaller : (x y z : V) → cmp x y ≡ Less → cmp y z ≡ Less → cmp x z ≡ Less) where
  pub whole : KeptOverRuns M cmp value
  unfolding rules ordered
  whole items x ws open₁ =
      final (rules M law (M.sessions x) (M.cells x) open₁.few_cells) (ordered cmp same itself sides smaller) (value_at value items) x (length items)
      (open₁.good, refl, refl) (λ t h. true≢false (sym h ∙ open₁.new.nobody t)) (λ c h. true≢false (sym h ∙ open₁.new.nothing c)) refl refl ws

  -- the promise of a board that came here
  pub kept_so_far : (items : List I) (m : Machine State) (h : History) → Came M cmp value items m h → Promise M (with_none cmp) (value_at value items) (length items) m h
  kept_so_far items m h c =
      subst (λ t. Promise M (with_none cmp) (value_at value items) (length items) m t) (sym c.saw)
      (subst (λ y. Promise M (with_none cmp) (value_at value items) (length items) y
      (ran M (compared cmp value items) (length items) (opened M c.first (length items)) c.words).seen) (sym c.stands)
      (whole items c.first c.words c.openable))

  -- words on the board's own list
  pub comes : (items : List I) (m : Machine State) (ws : List ℕ) (h : History) → Came M cmp value items m h
      → Came M cmp value items (ran M (compared cmp value items) (length items) m ws).after (h ++ (ran M (compared cmp value items) (length items) m ws).seen)
  comes items m ws h c =
      let go = ran M (compared cmp value items) (length items) in
      let e = ran_append M (compared cmp value items) (length items) (opened M c.first (length items)) c.words ws in
      let f : go m ws ≡ go (go (opened M c.first (length items)) c.words).after ws = ap (λ x. go x ws) c.stands in
      let a : (go m ws).after ≡ (go (opened M c.first (length items)) (c.words ++ ws)).after = ap (λ r. r.after) f ∙ sym (ap (λ r. r.after) e) in
      let s : h ++ (go m ws).seen ≡ (go (opened M c.first (length items)) (c.words ++ ws)).seen =
      ap (λ r. h ++ r.seen) f
      ∙ (ap (λ (t : History). t ++ (go (go (opened M c.first (length items)) c.words).after ws).seen) c.saw ∙ sym (ap (λ r. r.seen) e)) in
      record { first = c.first; words = c.words ++ ws; openable = c.openable; stands = a; saw = s }

  -- a call that changes nothing carries every history on
  pub idles : (given : List I) (m : Machine State) → Carries M cmp value given m m []
  idles given m items h fits c = (
    subst (Came M cmp value items m) (sym (append-nil h)) c,
    subst (Promise M (with_none cmp) (value_at value items) (length items) m) (sym (append-nil h)) (kept_so_far items m h c),
  )

  -- the board's own number of items
  pub own_number : (items : List I) (m : Machine State) (h : History) → Came M cmp value items m h → m.items ≡ length items
  own_number items m h c = ap (λ x. x.items) c.stands ∙ ran_items M (compared cmp value items) (length items) (opened M c.first (length items)) c.words

  -- words with a list of this length, which is the board's own if a history has it
  pub carries : (given : List I) (m : Machine State) (ws : List ℕ) → length given ≡ m.items
      → Carries M cmp value given m (ran M (compared cmp value given) (length given) m ws).after (ran M (compared cmp value given) (length given) m ws).seen
  carries given m ws n items h (inl e) c =
      let P₁ : List I → Type 0 = λ g. Came M cmp value items (ran M (compared cmp value g) (length g) m ws).after (h ++ (ran M (compared cmp value g) (length g) m ws).seen) in
      let k = subst P₁ (sym e) (comes items m ws h c) in
      (k, kept_so_far items _ _ k)
  carries given m ws n items h (inr ne) c = absurd (ne (n ∙ own_number items m h c))

  -- one word
  pub one_word : (given : List I) (m : Machine State) (w : ℕ) → length given ≡ m.items
      → Carries M cmp value given m (worded M (compared cmp value given) (length given) m w).after (worded M (compared cmp value given) (length given) m w).seen
  unfolding ran
  one_word given m w n =
      let d = worded M (compared cmp value given) (length given) m w in
      subst (Carries M cmp value given m d.after) (append-nil d.seen) (carries given m (w ∷ []) n)
