-- One word, and how it carries a history on.
use Rattle.std.proofs.Common.{◌≡◌, ℕ, ◌<◌, cond, ◌⊎◌, List, length, Ok, Result, Ordering, Less, Equal, sym, ap, ◌∙◌, subst, inl, inr}
use Rattle.std.proofs.lemmas.Bool.{cases_eq, eq-eqb, ne_eqb}
use Rattle.std.specs.Ordering.{ordering_reverse}
use Rattle.reclaim.specs.Model.{Model, Lawful}
use Rattle.machine.specs.declared.answer.Answer.{Answer}
use Rattle.machine.specs.declared.answer.Reason.{Reason}
use Rattle.machine.specs.declared.answer.Reason.TheVariants as reason
use Rattle.machine.specs.declared.word.Kind.{Kind}
use Rattle.machine.specs.declared.word.Word.{Word}
use Rattle.machine.specs.declared.word.Word.TheVariants.{Of}
use Rattle.machine.specs.Words.{parsed}
use Rattle.machine.specs.Serial.{compared}
use Rattle.machine.specs.Machine.{Machine, Did, answering, refusing, worded}
use Rattle.machine.specs.Laws.{Carries}
use Rattle.machine.proofs.Ranges.{InRange, parsed_range}
use Rattle.machine.proofs.Whole.{one_word, idles}
use Rattle.board.specs.Runs.{WordDone}

module _ {S : Type 0} (M : Model S) (cmp : ℕ → ℕ → Ordering) (n : ℕ) (m : Machine S) (w : ℕ) where
  pub other_items : (n ≡ m.items → ⊥) → worded M cmp n m w ≡ refusing M m reason.OtherItems
  unfolding worded
  other_items ne = ap (λ b. cond b (answering M cmp m (parsed w m.sessions m.items)) (refusing M m reason.OtherItems)) (ne_eqb n m.items ne)

  pub as_parsed : (r : Result Word Reason) → n ≡ m.items → parsed w m.sessions m.items ≡ r → worded M cmp n m w ≡ answering M cmp m r
  unfolding worded
  as_parsed r e p =
      ap (λ b. cond b (answering M cmp m (parsed w m.sessions m.items)) (refusing M m reason.OtherItems)) (eq-eqb n m.items e) ∙ ap (answering M cmp m) p

pub session_there : (w sessions items s : ℕ) (k : Kind) → parsed w sessions items ≡ Ok (Of s k) → s < sessions
session_there w sessions items s k e = subst (λ r. InRange sessions r) e (parsed_range w sessions items)

module _ {State I V : Type 0} (M : Model State) (law : Lawful M) (cmp : V → V → Ordering) (value : I → V)
    (same : (x y : V) → cmp x y ≡ Equal → x ≡ y) (itself : (x : V) → cmp x x ≡ Equal) (sides : (x y : V) → cmp y x ≡ ordering_reverse (cmp x y))
    (smaller : (x y z : V) → cmp x y ≡ Less → cmp y z ≡ Less → cmp x z ≡ Less) where
  pub word_carries : (given : List I) (m next : Machine State) (w : ℕ) → next ≡ (worded M (compared cmp value given) (length given) m w).after
      → Carries M cmp value given m next (worded M (compared cmp value given) (length given) m w).seen
  word_carries given m next w e =
      subst (λ y. Carries M cmp value given m y (worded M (compared cmp value given) (length given) m w).seen) (sym e) (go (cases_eq (length given) m.items))
    where
      go : (length given ≡ m.items) ⊎ (length given ≡ m.items → ⊥)
          → Carries M cmp value given m (worded M (compared cmp value given) (length given) m w).after (worded M (compared cmp value given) (length given) m w).seen
      go (inl n) = one_word M law cmp value same itself sides smaller given m w n
      go (inr ne) =
          let q = other_items M (compared cmp value given) (length given) m w ne in
          subst (λ (d : Did State). Carries M cmp value given m d.after d.seen) (sym q) (idles M law cmp value same itself sides smaller given m)

  -- a word call, by what the word does
  pub word_done : (given : List I) (m next : Machine State) (w : ℕ) (said : Answer) (d : Did State) → worded M (compared cmp value given) (length given) m w ≡ d
      → next ≡ d.after → said ≡ d.answer → WordDone M cmp value given m w next said
  word_done given m next w said d e a q =
      let p = a ∙ sym (ap (λ x. x.after) e) in
      record { after = p; answer = q ∙ sym (ap (λ x. x.answer) e); promise = word_carries given m next w p }
