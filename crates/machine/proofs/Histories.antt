-- From the laws as the proof keeps them, the newest event first, to the promise as it is stated, oldest first.
use Rattle.std.proofs.Common.{◌≡◌, ℕ, ◌⊎◌, List, [], ◌∷◌, ◌++◌, map, reverse, Some, None, Option, Ordering, sym, refl, ap, ◌∙◌, subst, inl, inr, append_assoc, append-nil, arith}
use mathlib.Core.List.{reverse-cons, reverse-append, reverse-reverse, map-append}
use Rattle.std.proofs.lemmas.Bool.{cases_eq}
use Rattle.machine.specs.declared.word.Op.{Op}
use Rattle.machine.specs.declared.answer.Answer.{Answer}
use Rattle.machine.specs.Machine.{Event, begins, touches, clears, gives, decides, completes, put}
use Rattle.machine.specs.Serial.{Serial, empty, serve, serial_answers, serial_after}
use Rattle.machine.specs.Laws.{History, Never, Occurs, SafeReuse, Silent, Last, OneDecision, decided_by, decisions, decided_ops, decided_answers, NobodyInside}
use Rattle.machine.specs.Laws as law
use Rattle.machine.proofs.Trace.{Status, outside, under, decided, status, Cleared, Orderly, deed, deeds, played, Truthful}
use Rattle.machine.proofs.Frames.{put_here, put_apart, status_begins, status_begun, status_decides, status_decided, status_completes, status_completed}

-- events are told apart by their kind and their session or cell
abbrev sort : Event → ℕ
sort (begins s op) = 0
sort (touches s c) = 1
sort (clears s c) = 2
sort (gives c) = 3
sort (decides s a) = 4
sort (completes s a) = 5

abbrev whose : Event → ℕ
whose (begins s op) = s
whose (touches s c) = s
whose (clears s c) = s
whose (gives c) = c
whose (decides s a) = s
whose (completes s a) = s

unlike : {e f : Event} → (sort e ≡ sort f → ⊥) → e ≡ f → ⊥
unlike ne q = ne (ap sort q)

others : {e f : Event} → (whose e ≡ whose f → ⊥) → e ≡ f → ⊥
others ne q = ne (ap whose q)

-- Never
never_snoc : (e : Event) (h : History) (f : Event) → Never e h → (f ≡ e → ⊥) → Never e (h ++ f ∷ [])
never_snoc e [] f n ne = (ne, tt)
never_snoc e (g ∷ h) f n ne = (n.0, never_snoc e h f n.1 ne)

never_both : (e : Event) (x y : History) → Never e x → Never e y → Never e (x ++ y)
never_both e [] y n m = m
never_both e (g ∷ x) y n m = (n.0, never_both e x y n.1 m)

never_there : (e : Event) (x y : History) → Never e (x ++ e ∷ y) → ⊥
never_there e [] y n = n.0 refl
never_there e (g ∷ x) y n = never_there e x y n.1

-- one event more, which is no mark of an operation of s
abbrev Unmarked : ℕ → Event → Type 0
Unmarked s f = ((op : Op) → f ≡ begins s op → ⊥) × ((a : Answer) → f ≡ decides s a → ⊥) × ((a : Answer) → f ≡ completes s a → ⊥)

other_session : (s : ℕ) (f : Event) → (whose f ≡ s → ⊥) → Unmarked s f
other_session s f ne = (λ op. others ne, λ a. others ne, λ a. others ne)

silent_snoc : (s : ℕ) (h : History) (f : Event) → Unmarked s f → Silent s h → Silent s (h ++ f ∷ [])
silent_snoc s h f u q =
    record {
      begun = λ op. never_snoc (begins s op) h f (q.begun op) (u.0 op);
      decided = λ a. never_snoc (decides s a) h f (q.decided a) (u.1 a);
      completed = λ a. never_snoc (completes s a) h f (q.completed a) (u.2 a);
    }

silent_nil : (s : ℕ) → Silent s []
silent_nil s = record { begun = λ op. tt; decided = λ a. tt; completed = λ a. tt }

abbrev last_snoc : (s : ℕ) (e : Event) (h : History) (f : Event) → Unmarked s f → Last s e h → Last s e (h ++ f ∷ [])
last_snoc s e h f u l =
    record {
      before = l.before;
      since = l.since ++ f ∷ [];
      there = ap (λ (x : History). x ++ f ∷ []) l.there ∙ append_assoc l.before (e ∷ l.since) (f ∷ []);
      silent = silent_snoc s l.since f u l.silent;
    }

abbrev last_here : (s : ℕ) (e : Event) (h : History) → Last s e (h ++ e ∷ [])
last_here s e h = record { before = h; since = []; there = refl; silent = silent_nil s }

-- where a session stands, by the status that the proof keeps
record Chosen (s : ℕ) (op : Op) (a : Answer) (h : History) : Type 0 where
  last : Last s (decides s a) h
  began : Last s (begins s op) last.before

abbrev Where : ℕ → Status → History → Type 0
Where s outside h = Silent s h ⊎ ((a : Answer) × Last s (completes s a) h)
Where s (under op) h = Last s (begins s op) h
Where s (decided op a) h = Chosen s op a h

where_snoc : (s : ℕ) (st : Status) (h : History) (f : Event) → Unmarked s f → Where s st h → Where s st (h ++ f ∷ [])
where_snoc s outside h f u (inl q) = inl (silent_snoc s h f u q)
where_snoc s outside h f u (inr l) = inr (l.0, last_snoc s (completes s l.0) h f u l.1)
where_snoc s (under op) h f u l = last_snoc s (begins s op) h f u l
where_snoc s (decided op a) h f u l = record { last = last_snoc s (decides s a) h f u l.last; began = l.began }

plain_event : (s : ℕ) (f : Event) → (sort f ≡ 0 → ⊥) → (sort f ≡ 4 → ⊥) → (sort f ≡ 5 → ⊥) → Unmarked s f
plain_event s f x y z = (λ op. unlike x, λ a. unlike y, λ a. unlike z)

-- what stands in a history with its last event split off
at_end : (s : ℕ) (st : Status) (f : Event) (tr : List Event) → Where s st (reverse tr ++ f ∷ []) → Where s st (reverse (f ∷ tr))
at_end s st f tr w = subst (Where s st) (sym (reverse-cons f tr)) w

on_snoc : (s : ℕ) (f : Event) (tr : List Event) → Unmarked s f → status s (f ∷ tr) ≡ status s tr → Where s (status s tr) (reverse tr)
    → Where s (status s (f ∷ tr)) (reverse (f ∷ tr))
on_snoc s f tr u e w =
    subst (λ x. Where s x (reverse (f ∷ tr))) (sym e) (at_end s (status s tr) f tr (where_snoc s (status s tr) (reverse tr) f u w))

at_new : (s : ℕ) (st : Status) (f : Event) (tr : List Event) → status s (f ∷ tr) ≡ st → Where s st (reverse tr ++ f ∷ []) → Where s (status s (f ∷ tr)) (reverse (f ∷ tr))
at_new s st f tr e w = subst (λ x. Where s x (reverse (f ∷ tr))) (sym e) (at_end s st f tr w)

stands_at : (tr : List Event) → Orderly tr → (s : ℕ) → Where s (status s tr) (reverse tr)
unfolding status Orderly
stands_at [] o s = inl (silent_nil s)
stands_at (begins t op ∷ tr) o s = go (cases_eq s t) (stands_at tr o.1 s)
  where
    go : (s ≡ t) ⊎ (s ≡ t → ⊥) → Where s (status s tr) (reverse tr) → Where s (status s (begins t op ∷ tr)) (reverse (begins t op ∷ tr))
    go (inl e) w =
        subst (λ x. Where s (status s (begins x op ∷ tr)) (reverse (begins x op ∷ tr))) e
        (at_new s (under op) (begins s op) tr (status_begun s op tr) (last_here s (begins s op) (reverse tr)))
    go (inr ne) w = on_snoc s (begins t op) tr (other_session s (begins t op) (λ q. ne (sym q))) (status_begins t s op tr ne) w
stands_at (touches t c ∷ tr) o s = on_snoc s (touches t c) tr (plain_event s (touches t c) (λ z. omega arith) (λ z. omega arith) (λ z. omega arith)) refl (stands_at tr o.1 s)
stands_at (clears t c ∷ tr) o s = on_snoc s (clears t c) tr (plain_event s (clears t c) (λ z. omega arith) (λ z. omega arith) (λ z. omega arith)) refl (stands_at tr o s)
stands_at (gives c ∷ tr) o s = on_snoc s (gives c) tr (plain_event s (gives c) (λ z. omega arith) (λ z. omega arith) (λ z. omega arith)) refl (stands_at tr o s)
stands_at (decides t a ∷ tr) o s = go (cases_eq s t) (stands_at tr o.1 s)
  where
    go : (s ≡ t) ⊎ (s ≡ t → ⊥) → Where s (status s tr) (reverse tr) → Where s (status s (decides t a ∷ tr)) (reverse (decides t a ∷ tr))
    go (inl e) w =
        let u : status s tr ≡ under o.0.0 = ap (λ x. status x tr) e ∙ o.0.1 in
        let l : Last s (begins s o.0.0) (reverse tr) = subst (λ x. Where s x (reverse tr)) u w in
        subst (λ x. Where s (status s (decides x a ∷ tr)) (reverse (decides x a ∷ tr))) e
        (at_new s (decided o.0.0 a) (decides s a) tr (status_decided s o.0.0 a tr u)
        (record { last = last_here s (decides s a) (reverse tr); began = l }))
    go (inr ne) w = on_snoc s (decides t a) tr (other_session s (decides t a) (λ q. ne (sym q))) (status_decides t s a tr ne) w
stands_at (completes t a ∷ tr) o s = go (cases_eq s t) (stands_at tr o.1 s)
  where
    go : (s ≡ t) ⊎ (s ≡ t → ⊥) → Where s (status s tr) (reverse tr) → Where s (status s (completes t a ∷ tr)) (reverse (completes t a ∷ tr))
    go (inl e) w =
        subst (λ x. Where s (status s (completes x a ∷ tr)) (reverse (completes x a ∷ tr))) e
        (at_new s outside (completes s a) tr (status_completed s a tr) (inr (a, last_here s (completes s a) (reverse tr))))
    go (inr ne) w = on_snoc s (completes t a) tr (other_session s (completes t a) (λ q. ne (sym q))) (status_completes t s a tr ne) w

-- a split of the history is one of the newest-first list
turned : (tr before after : List Event) (e : Event) → reverse tr ≡ before ++ e ∷ after → tr ≡ reverse after ++ e ∷ reverse before
turned tr before after e q =
    sym (reverse-reverse tr)
    ∙ (ap reverse q
    ∙ (reverse-append before (e ∷ after)
    ∙ (ap (λ (x : List Event). x ++ reverse before) (reverse-cons e after) ∙ append_assoc (reverse after) (e ∷ []) (reverse before))))

orderly_rest : (x y : List Event) → Orderly (x ++ y) → Orderly y
unfolding Orderly
orderly_rest [] y o = o
orderly_rest (begins s op ∷ x) y o = orderly_rest x y o.1
orderly_rest (touches s c ∷ x) y o = orderly_rest x y o.1
orderly_rest (clears s c ∷ x) y o = orderly_rest x y o
orderly_rest (gives c ∷ x) y o = orderly_rest x y o
orderly_rest (decides s a ∷ x) y o = orderly_rest x y o.1
orderly_rest (completes s a ∷ x) y o = orderly_rest x y o.1

orderly_at : (tr before after : List Event) (e : Event) → Orderly tr → reverse tr ≡ before ++ e ∷ after → Orderly (e ∷ reverse before)
orderly_at tr before after e o q = orderly_rest (reverse after) (e ∷ reverse before) (subst Orderly (turned tr before after e q) o)

-- safe reuse
cleared_snoc : (s c : ℕ) (f : Event) (tr : List Event) → ((op : Op) → f ≡ begins s op → ⊥) → (f ≡ gives c → ⊥)
    → law.Cleared s c (reverse tr) → law.Cleared s c (reverse (f ∷ tr))
cleared_snoc s c f tr nb ng k =
    subst (law.Cleared s c) (sym (reverse-cons f tr))
    (record {
      before = k.before;
      since = k.since ++ f ∷ [];
      there = ap (λ (x : History). x ++ f ∷ []) k.there ∙ append_assoc k.before (clears s c ∷ k.since) (f ∷ []);
      own = λ op. never_snoc (begins s op) k.since f (k.own op) (nb op);
      kept = never_snoc (gives c) k.since f k.kept ng;
    })

cleared_here : (s c : ℕ) (tr : List Event) → law.Cleared s c (reverse (clears s c ∷ tr))
cleared_here s c tr = record { before = reverse tr; since = []; there = reverse-cons (clears s c) tr; own = λ op. tt; kept = tt }

cleared : (s c : ℕ) (tr : List Event) → Cleared s c tr → law.Cleared s c (reverse tr)
unfolding Cleared
cleared s c [] k = absurd k
cleared s c (begins t op ∷ tr) k =
    cleared_snoc s c (begins t op) tr (λ o. others k.0) (unlike (λ z. omega arith)) (cleared s c tr k.1)
cleared s c (touches t d ∷ tr) k =
    cleared_snoc s c (touches t d) tr (λ o. unlike (λ z. omega arith)) (unlike (λ z. omega arith)) (cleared s c tr k)
cleared s c (clears t d ∷ tr) (inl k) =
    subst (λ x. law.Cleared s c (reverse (clears x d ∷ tr))) (sym k.0)
    (subst (λ x. law.Cleared s c (reverse (clears s x ∷ tr))) (sym k.1) (cleared_here s c tr))
cleared s c (clears t d ∷ tr) (inr k) =
    cleared_snoc s c (clears t d) tr (λ o. unlike (λ z. omega arith)) (unlike (λ z. omega arith)) (cleared s c tr k)
cleared s c (gives d ∷ tr) k =
    cleared_snoc s c (gives d) tr (λ o. unlike (λ z. omega arith)) (others k.0) (cleared s c tr k.1)
cleared s c (decides t a ∷ tr) k =
    cleared_snoc s c (decides t a) tr (λ o. unlike (λ z. omega arith)) (unlike (λ z. omega arith)) (cleared s c tr k)
cleared s c (completes t a ∷ tr) k =
    cleared_snoc s c (completes t a) tr (λ o. unlike (λ z. omega arith)) (unlike (λ z. omega arith)) (cleared s c tr k)

pub safely : (h : History) → Orderly (reverse h) → SafeReuse h
unfolding Orderly
safely h o before after s c q =
    subst (law.Cleared s c) (reverse-reverse before)
    (cleared s c (reverse before) (orderly_at (reverse h) before after (touches s c) o (reverse-reverse h ∙ q)).0)

-- one decision for each operation
stood : (before : History) → Orderly (reverse before) → (s : ℕ) (st : Status) → status s (reverse before) ≡ st → Where s st before
stood before o s st e =
    subst (λ x. Where s x before) e (subst (Where s (status s (reverse before))) (reverse-reverse before) (stands_at (reverse before) o s))

pub once : (h : History) → Orderly (reverse h) → OneDecision h
unfolding Orderly
once h o =
    record {
      begun = λ before after s op q. let z = orderly_at (reverse h) before after (begins s op) o (reverse-reverse h ∙ q) in stood before z.1 s outside z.0;
      decided =
          λ before after s a q.
          let z = orderly_at (reverse h) before after (decides s a) o (reverse-reverse h ∙ q) in
          (z.0.0, stood before z.1 s (under z.0.0) z.0.1);
      completed =
          λ before after s a q.
          let z = orderly_at (reverse h) before after (completes s a) o (reverse-reverse h ∙ q) in
          (stood before z.1 s (decided z.0.0 a) z.0.1).last;
    }

-- nobody inside: every status is outside
module _ (h : History) (o : Orderly (reverse h)) (nobody : NobodyInside h) where
  not_under : (s : ℕ) (op : Op) → Last s (begins s op) h → ⊥
  not_under s op l =
      let c = nobody l.before l.since s op l.there in
      never_there (completes s c.0) c.1.0 c.1.1
      (subst (Never (completes s c.0)) c.1.2 (l.silent.completed c.0))

  not_decided : (s : ℕ) (op : Op) (a : Answer) → Chosen s op a h → ⊥
  not_decided s op a d =
      let b = d.began in
      let l = d.last in
      let split : h ≡ b.before ++ begins s op ∷ (b.since ++ decides s a ∷ l.since) =
      l.there ∙ (ap (λ (x : History). x ++ decides s a ∷ l.since) b.there ∙ append_assoc b.before (begins s op ∷ b.since) (decides s a ∷ l.since)) in
      let c = nobody b.before (b.since ++ decides s a ∷ l.since) s op split in
      let none : Never (completes s c.0) (b.since ++ decides s a ∷ l.since) =
      never_both (completes s c.0) b.since (decides s a ∷ l.since) (b.silent.completed c.0)
      (unlike (λ z. omega arith), l.silent.completed c.0) in
      never_there (completes s c.0) c.1.0 c.1.1 (subst (Never (completes s c.0)) c.1.2 none)

  pub all_outside : (s : ℕ) → status s (reverse h) ≡ outside
  all_outside s = go (status s (reverse h)) refl
    where
      go : (st : Status) → status s (reverse h) ≡ st → st ≡ outside
      go outside e = refl
      go (under op) e = absurd (not_under s op (stood h o s (under op) e))
      go (decided op a) e = absurd (not_decided s op a (stood h o s (decided op a) e))

-- the decided operations
unfoldable current : (ℕ → Option Op) → History → ℕ → Option Op
current f [] = f
current f (begins s op ∷ h) = current (put f s (Some op)) h
current f (touches s c ∷ h) = current f h
current f (clears s c ∷ h) = current f h
current f (gives c ∷ h) = current f h
current f (decides s a ∷ h) = current f h
current f (completes s a ∷ h) = current f h

abbrev moved : (ℕ → Option Op) → Event → ℕ → Option Op
moved f (begins s op) = put f s (Some op)
moved f (touches s c) = f
moved f (clears s c) = f
moved f (gives c) = f
moved f (decides s a) = f
moved f (completes s a) = f

current_snoc : (f : ℕ → Option Op) (h : History) (e : Event) → current f (h ++ e ∷ []) ≡ moved (current f h) e
unfolding current
current_snoc f [] (begins s op) = refl
current_snoc f [] (touches s c) = refl
current_snoc f [] (clears s c) = refl
current_snoc f [] (gives c) = refl
current_snoc f [] (decides s a) = refl
current_snoc f [] (completes s a) = refl
current_snoc f (begins s op ∷ h) e = current_snoc (put f s (Some op)) h e
current_snoc f (touches s c ∷ h) e = current_snoc f h e
current_snoc f (clears s c ∷ h) e = current_snoc f h e
current_snoc f (gives c ∷ h) e = current_snoc f h e
current_snoc f (decides s a ∷ h) e = current_snoc f h e
current_snoc f (completes s a ∷ h) e = current_snoc f h e

abbrev newly : (ℕ → Option Op) → Event → List (Op × Answer)
newly f (begins s op) = []
newly f (touches s c) = []
newly f (clears s c) = []
newly f (gives c) = []
newly f (decides s a) = decided_by (f s) a []
newly f (completes s a) = []

decided_by_append : (o : Option Op) (a : Answer) (x y : List (Op × Answer)) → decided_by o a (x ++ y) ≡ decided_by o a x ++ y
decided_by_append None a x y = refl
decided_by_append (Some op) a x y = refl

decisions_snoc : (f : ℕ → Option Op) (h : History) (e : Event) → decisions f (h ++ e ∷ []) ≡ decisions f h ++ newly (current f h) e
unfolding decisions current
decisions_snoc f [] (begins s op) = refl
decisions_snoc f [] (touches s c) = refl
decisions_snoc f [] (clears s c) = refl
decisions_snoc f [] (gives c) = refl
decisions_snoc f [] (decides s a) = refl
decisions_snoc f [] (completes s a) = refl
decisions_snoc f (begins s op ∷ h) e = decisions_snoc (put f s (Some op)) h e
decisions_snoc f (touches s c ∷ h) e = decisions_snoc f h e
decisions_snoc f (clears s c ∷ h) e = decisions_snoc f h e
decisions_snoc f (gives c ∷ h) e = decisions_snoc f h e
decisions_snoc f (decides s a ∷ h) e =
    ap (decided_by (f s) a) (decisions_snoc f h e) ∙ decided_by_append (f s) a (decisions f h) (newly (current f h) e)
decisions_snoc f (completes s a ∷ h) e = decisions_snoc f h e

abbrev nowhere_yet : ℕ → Option Op
nowhere_yet s = None

-- the operation of a status is the current one
abbrev OfStatus : Status → Option Op → Type 0
OfStatus outside o = Unit {0}
OfStatus (under op) o = o ≡ Some op
OfStatus (decided op a) o = o ≡ Some op

current_step : (s : ℕ) (st : Status) (f : Event) (tr : List Event) → OfStatus st (moved (current nowhere_yet (reverse tr)) f s)
    → OfStatus st (current nowhere_yet (reverse (f ∷ tr)) s)
current_step s st f tr w =
    subst (λ x. OfStatus st (current nowhere_yet x s)) (sym (reverse-cons f tr))
    (subst (λ (g : ℕ → Option Op). OfStatus st (g s)) (sym (current_snoc nowhere_yet (reverse tr) f)) w)

current_is : (tr : List Event) → Orderly tr → (s : ℕ) → OfStatus (status s tr) (current nowhere_yet (reverse tr) s)
unfolding status Orderly
current_is [] o s = tt
current_is (begins t op ∷ tr) o s = go (cases_eq s t) (current_is tr o.1 s)
  where
    go : (s ≡ t) ⊎ (s ≡ t → ⊥) → OfStatus (status s tr) (current nowhere_yet (reverse tr) s)
        → OfStatus (status s (begins t op ∷ tr)) (current nowhere_yet (reverse (begins t op ∷ tr)) s)
    go (inl e) w =
        subst (λ x. OfStatus (status s (begins x op ∷ tr)) (current nowhere_yet (reverse (begins x op ∷ tr)) s)) e
        (subst (λ x. OfStatus x (current nowhere_yet (reverse (begins s op ∷ tr)) s)) (sym (status_begun s op tr))
        (current_step s (under op) (begins s op) tr (put_here (current nowhere_yet (reverse tr)) s (Some op))))
    go (inr ne) w =
        subst (λ x. OfStatus x (current nowhere_yet (reverse (begins t op ∷ tr)) s)) (sym (status_begins t s op tr ne))
        (current_step s (status s tr) (begins t op) tr
        (subst (OfStatus (status s tr)) (sym (put_apart (current nowhere_yet (reverse tr)) t (Some op) s ne)) w))
current_is (touches t c ∷ tr) o s = current_step s (status s tr) (touches t c) tr (current_is tr o.1 s)
current_is (clears t c ∷ tr) o s = current_step s (status s tr) (clears t c) tr (current_is tr o s)
current_is (gives c ∷ tr) o s = current_step s (status s tr) (gives c) tr (current_is tr o s)
current_is (decides t a ∷ tr) o s = go (cases_eq s t) (current_is tr o.1 s)
  where
    go : (s ≡ t) ⊎ (s ≡ t → ⊥) → OfStatus (status s tr) (current nowhere_yet (reverse tr) s)
        → OfStatus (status s (decides t a ∷ tr)) (current nowhere_yet (reverse (decides t a ∷ tr)) s)
    go (inl e) w =
        let u : status s tr ≡ under o.0.0 = ap (λ x. status x tr) e ∙ o.0.1 in
        let v : OfStatus (under o.0.0) (current nowhere_yet (reverse tr) s) = subst (λ x. OfStatus x (current nowhere_yet (reverse tr) s)) u w in
        subst (λ x. OfStatus (status s (decides x a ∷ tr)) (current nowhere_yet (reverse (decides x a ∷ tr)) s)) e
        (subst (λ x. OfStatus x (current nowhere_yet (reverse (decides s a ∷ tr)) s)) (sym (status_decided s o.0.0 a tr u))
        (current_step s (decided o.0.0 a) (decides s a) tr v))
    go (inr ne) w =
        subst (λ x. OfStatus x (current nowhere_yet (reverse (decides t a ∷ tr)) s)) (sym (status_decides t s a tr ne))
        (current_step s (status s tr) (decides t a) tr w)
current_is (completes t a ∷ tr) o s = go (cases_eq s t) (current_is tr o.1 s)
  where
    go : (s ≡ t) ⊎ (s ≡ t → ⊥) → OfStatus (status s tr) (current nowhere_yet (reverse tr) s)
        → OfStatus (status s (completes t a ∷ tr)) (current nowhere_yet (reverse (completes t a ∷ tr)) s)
    go (inl e) w =
        subst (λ x. OfStatus (status s (completes x a ∷ tr)) (current nowhere_yet (reverse (completes x a ∷ tr)) s)) e
        (subst (λ x. OfStatus x (current nowhere_yet (reverse (completes s a ∷ tr)) s)) (sym (status_completed s a tr)) tt)
    go (inr ne) w =
        subst (λ x. OfStatus x (current nowhere_yet (reverse (completes t a ∷ tr)) s)) (sym (status_completes t s a tr ne))
        (current_step s (status s tr) (completes t a) tr w)

decisions_step : (f : Event) (tr : List Event) → decisions nowhere_yet (reverse (f ∷ tr)) ≡ decisions nowhere_yet (reverse tr) ++ newly (current nowhere_yet (reverse tr)) f
decisions_step f tr = ap (decisions nowhere_yet) (reverse-cons f tr) ∙ decisions_snoc nowhere_yet (reverse tr) f

decisions_same : (f : Event) (tr : List Event) → newly (current nowhere_yet (reverse tr)) f ≡ [] → decisions nowhere_yet (reverse tr) ≡ reverse (deeds tr)
    → decisions nowhere_yet (reverse (f ∷ tr)) ≡ reverse (deeds tr)
decisions_same f tr n e = decisions_step f tr ∙ (ap (λ x. decisions nowhere_yet (reverse tr) ++ x) n ∙ (append-nil (decisions nowhere_yet (reverse tr)) ∙ e))

decisions_are : (tr : List Event) → Orderly tr → decisions nowhere_yet (reverse tr) ≡ reverse (deeds tr)
unfolding Orderly deeds decisions
decisions_are [] o = refl
decisions_are (begins s op ∷ tr) o = decisions_same (begins s op) tr refl (decisions_are tr o.1)
decisions_are (touches s c ∷ tr) o = decisions_same (touches s c) tr refl (decisions_are tr o.1)
decisions_are (clears s c ∷ tr) o = decisions_same (clears s c) tr refl (decisions_are tr o)
decisions_are (gives c ∷ tr) o = decisions_same (gives c) tr refl (decisions_are tr o)
decisions_are (completes s a ∷ tr) o = decisions_same (completes s a) tr refl (decisions_are tr o.1)
decisions_are (decides s a ∷ tr) o =
    let op = o.0.0 in
    let c : current nowhere_yet (reverse tr) s ≡ Some op = subst (λ x. OfStatus x (current nowhere_yet (reverse tr) s)) o.0.1 (current_is tr o.1 s) in
    decisions_step (decides s a) tr
    ∙ (ap (λ x. decisions nowhere_yet (reverse tr) ++ decided_by x a []) c
    ∙ (ap (λ (x : List (Op × Answer)). x ++ (op, a) ∷ []) (decisions_are tr o.1)
    ∙ (sym (reverse-cons (op, a) (deeds tr)) ∙ ap (λ x. reverse (deed x a (deeds tr))) (sym o.0.1))))

-- the serial machine, fed oldest first
module _ {V : Type 0} (cmp : V → V → Ordering) (val : ℕ → V) where
  answers_append : (z : Serial V) (x y : List Op) → serial_answers cmp val z (x ++ y) ≡ serial_answers cmp val z x ++ serial_answers cmp val (serial_after cmp val z x) y
  unfolding serial_answers serial_after
  answers_append z [] y = refl
  answers_append z (op ∷ x) y = ap (λ l. (serve cmp val op z).1 ∷ l) (answers_append (serve cmp val op z).0 x y)

  after_append : (z : Serial V) (x y : List Op) → serial_after cmp val z (x ++ y) ≡ serial_after cmp val (serial_after cmp val z x) y
  unfolding serial_after
  after_append z [] y = refl
  after_append z (op ∷ x) y = after_append (serve cmp val op z).0 x y

  abbrev ops : List (Op × Answer) → List Op
  ops ds = map (λ d. d.0) ds

  abbrev answers : List (Op × Answer) → List Answer
  answers ds = map (λ d. d.1) ds

  ops_snoc : (d : Op × Answer) (ds : List (Op × Answer)) → ops (reverse (d ∷ ds)) ≡ ops (reverse ds) ++ d.0 ∷ []
  ops_snoc d ds = ap ops (reverse-cons d ds) ∙ map-append (λ x. x.0) (reverse ds) (d ∷ [])

  answers_snoc : (d : Op × Answer) (ds : List (Op × Answer)) → answers (reverse (d ∷ ds)) ≡ answers (reverse ds) ++ d.1 ∷ []
  answers_snoc d ds = ap answers (reverse-cons d ds) ∙ map-append (λ x. x.1) (reverse ds) (d ∷ [])

  after_is : (ds : List (Op × Answer)) → serial_after cmp val empty (ops (reverse ds)) ≡ played cmp val ds
  unfolding serial_after played
  after_is [] = refl
  after_is (d ∷ ds) =
      ap (serial_after cmp val empty) (ops_snoc d ds)
      ∙ (after_append empty (ops (reverse ds)) (d.0 ∷ []) ∙ ap (λ z. (serve cmp val d.0 z).0) (after_is ds))

  answers_are : (ds : List (Op × Answer)) → Truthful cmp val ds → serial_answers cmp val empty (ops (reverse ds)) ≡ answers (reverse ds)
  unfolding serial_answers Truthful
  answers_are [] t = refl
  answers_are (d ∷ ds) t =
      ap (serial_answers cmp val empty) (ops_snoc d ds)
      ∙ (answers_append empty (ops (reverse ds)) (d.0 ∷ [])
      ∙ (ap (λ z. serial_answers cmp val empty (ops (reverse ds)) ++ (serve cmp val d.0 z).1 ∷ []) (after_is ds)
      ∙ (ap (λ a. serial_answers cmp val empty (ops (reverse ds)) ++ a ∷ []) (sym t.0)
      ∙ (ap (λ (l : List Answer). l ++ d.1 ∷ []) (answers_are ds t.1) ∙ sym (answers_snoc d ds)))))

  decided_list : (h : History) → Orderly (reverse h) → decisions nowhere_yet h ≡ reverse (deeds (reverse h))
  decided_list h o = ap (decisions nowhere_yet) (sym (reverse-reverse h)) ∙ decisions_are (reverse h) o

  pub serially : (h : History) → Orderly (reverse h) → Truthful cmp val (deeds (reverse h)) → serial_answers cmp val empty (decided_ops h) ≡ decided_answers h
  serially h o t =
      ap (λ ds. serial_answers cmp val empty (ops ds)) (decided_list h o)
      ∙ (answers_are (deeds (reverse h)) t ∙ ap answers (sym (decided_list h o)))

  pub left_with : (h : History) → Orderly (reverse h) → serial_after cmp val empty (decided_ops h) ≡ played cmp val (deeds (reverse h))
  left_with h o = ap (λ ds. serial_after cmp val empty (ops ds)) (decided_list h o) ∙ after_is (deeds (reverse h))
