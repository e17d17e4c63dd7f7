-- A run: refused, or its words done; and how it carries a history on.
use Rattle.std.proofs.Common.{◌≡◌, ℕ, ◌<◌, ◌≤◌, Bool, true, false, cond, eqb, ltb, ◌⊎◌, List, [], ◌∷◌, length, Result, Ordering, Less, Equal, sym, refl, ap, ◌∙◌, subst, inl, inr}
use Rattle.std.proofs.lemmas.Bool.{cases_eq, eq-eqb, ne_eqb, lt-ltb, le-ltb}
use Rattle.std.specs.Ordering.{ordering_reverse}
use Rattle.reclaim.specs.Model.{Model, Lawful}
use Rattle.machine.specs.declared.answer.Answer.{Answer}
use Rattle.machine.specs.declared.answer.Reason.{Reason}
use Rattle.machine.specs.declared.answer.Reason.TheVariants as reason
use Rattle.machine.specs.Serial.{compared}
use Rattle.machine.specs.Machine.{Machine, ran, follows}
use Rattle.machine.specs.Laws.{Carries}
use Rattle.machine.proofs.Whole.{carries, idles}
use Rattle.board.proofs.Wording.{other_items as word_idle}
use Rattle.board.specs.Runs.{Run, RunDone, refuses, does, running}

module _ {S : Type 0} (M : Model S) (cmp : ℕ → ℕ → Ordering) (n : ℕ) (m : Machine S) (ws : List ℕ) (out : List Answer) where
  abbrev inner : Bool → Run S
  inner b = cond b (refuses m out reason.ShortAnswers) (does M cmp n m ws out)

  pub other_items : (n ≡ m.items → ⊥) → running M cmp n m ws out ≡ refuses m out reason.OtherItems
  other_items ne = ap (λ b. cond b (inner (ltb (length out) (length ws))) (refuses m out reason.OtherItems)) (ne_eqb n m.items ne)

  pub no_room : n ≡ m.items → length out < length ws → running M cmp n m ws out ≡ refuses m out reason.ShortAnswers
  no_room e h =
      ap (λ b. cond b (inner (ltb (length out) (length ws))) (refuses m out reason.OtherItems)) (eq-eqb n m.items e) ∙ ap inner (lt-ltb (length out) (length ws) h)

  pub all_done : n ≡ m.items → length ws ≤ length out → running M cmp n m ws out ≡ does M cmp n m ws out
  all_done e h =
      ap (λ b. cond b (inner (ltb (length out) (length ws))) (refuses m out reason.OtherItems)) (eq-eqb n m.items e) ∙ ap inner (le-ltb (length out) (length ws) h)

-- words on another list leave the board as it is
ran_idle : {S : Type 0} (M : Model S) (cmp : ℕ → ℕ → Ordering) (n : ℕ) (m : Machine S) → (n ≡ m.items → ⊥) → (ws : List ℕ)
    → ((ran M cmp n m ws).after ≡ m) × ((ran M cmp n m ws).seen ≡ [])
unfolding ran
ran_idle M cmp n m ne [] = (refl, refl)
ran_idle M cmp n m ne (w ∷ ws) =
    let e = word_idle M cmp n m w ne in
    let r = ran_idle M cmp n m ne ws in
    let q = ap (λ d. follows M d (ran M cmp n d.after ws)) e in
    (ap (λ p. p.after) q ∙ r.0, ap (λ p. p.seen) q ∙ r.1)

module _ {State I V : Type 0} (M : Model State) (law : Lawful M) (cmp : V → V → Ordering) (value : I → V)
    (same : (x y : V) → cmp x y ≡ Equal → x ≡ y) (itself : (x : V) → cmp x x ≡ Equal) (sides : (x y : V) → cmp y x ≡ ordering_reverse (cmp x y))
    (smaller : (x y z : V) → cmp x y ≡ Less → cmp y z ≡ Less → cmp x z ≡ Less) where
  -- refused for the items, refused for the answers, or done
  ways : (given : List I) (m : Machine State) (ws : List ℕ) (out : List Answer) (b : Bool) → (length given ≡ m.items) ⊎ (length given ≡ m.items → ⊥)
      → Carries M cmp value given m
      (cond (eqb (length given) m.items) (cond b (refuses m out reason.ShortAnswers) (does M (compared cmp value given) (length given) m ws out)) (refuses m out reason.OtherItems)).after
      (cond (eqb (length given) m.items) (cond b (refuses m out reason.ShortAnswers) (does M (compared cmp value given) (length given) m ws out)) (refuses m out reason.OtherItems)).seen
  ways given m ws out true (inl n) = rw (eq-eqb (length given) m.items n) (idles M law cmp value same itself sides smaller given m)
  ways given m ws out false (inl n) = rw (eq-eqb (length given) m.items n) (carries M law cmp value same itself sides smaller given m ws n)
  ways given m ws out b (inr ne) = rw (ne_eqb (length given) m.items ne) (idles M law cmp value same itself sides smaller given m)

  pub run_carries : (given : List I) (m next : Machine State) (ws : List ℕ) (out : List Answer)
      → next ≡ (running M (compared cmp value given) (length given) m ws out).after
      → Carries M cmp value given m next (running M (compared cmp value given) (length given) m ws out).seen
  run_carries given m next ws out e =
      subst (λ y. Carries M cmp value given m y (running M (compared cmp value given) (length given) m ws out).seen) (sym e)
      (ways given m ws out (ltb (length out) (length ws)) (cases_eq (length given) m.items))

  -- a run call, by what the run does
  pub run_done : (given : List I) (m next : Machine State) (ws : List ℕ) (out written : List Answer) (said : Result ℕ Reason) (d : Run State)
      → running M (compared cmp value given) (length given) m ws out ≡ d → next ≡ d.after → written ≡ d.written → said ≡ d.value
      → RunDone M cmp value given m ws out next written said
  run_done given m next ws out written said d e a w v =
      let p = a ∙ sym (ap (λ x. x.after) e) in
      record {
        after = p;
        answers = w ∙ sym (ap (λ x. x.written) e);
        count = v ∙ sym (ap (λ x. x.value) e);
        promise = run_carries given m next ws out p;
      }

  -- words one after another, whatever the list
  ran_ways : (given : List I) (m : Machine State) (ws : List ℕ) → (length given ≡ m.items) ⊎ (length given ≡ m.items → ⊥)
      → Carries M cmp value given m (ran M (compared cmp value given) (length given) m ws).after (ran M (compared cmp value given) (length given) m ws).seen
  ran_ways given m ws (inl n) = carries M law cmp value same itself sides smaller given m ws n
  ran_ways given m ws (inr ne) =
      let e = ran_idle M (compared cmp value given) (length given) m ne ws in
      rw (e.0, e.1) (idles M law cmp value same itself sides smaller given m)

  pub ran_carries : (given : List I) (m next : Machine State) (ws : List ℕ)
      → next ≡ (ran M (compared cmp value given) (length given) m ws).after
      → Carries M cmp value given m next (ran M (compared cmp value given) (length given) m ws).seen
  ran_carries given m next ws e =
      subst (λ y. Carries M cmp value given m y (ran M (compared cmp value given) (length given) m ws).seen) (sym e)
      (ran_ways given m ws (cases_eq (length given) m.items))
