-- No word changes the number of sessions or of items.
use Rattle.std.proofs.Common.{◌≡◌, ℕ, Bool, true, false, cond, eqb, List, [], ◌∷◌, Ok, Err, Result, Ordering, refl, ◌∙◌}
use Rattle.reclaim.specs.Model.{Model}
use Rattle.machine.specs.declared.answer.Reason.{Reason}
use Rattle.machine.specs.declared.answer.Reason.TheVariants as reason
use Rattle.machine.specs.declared.word.Kind.TheVariants.{Step, Begin}
use Rattle.machine.specs.declared.word.Word.{Word}
use Rattle.machine.specs.declared.word.Word.TheVariants.{Tidy, Of}
use Rattle.machine.specs.Words.{parsed}
use Rattle.machine.specs.Machine.{Machine, answering, refusing, worded, ran}

module _ {State : Type 0} (M : Model State) (cmp : ℕ → ℕ → Ordering) (n : ℕ) where
  same_sizes : (m : Machine State) (t : Bool) (r : Result Word Reason)
      → ((cond t (answering M cmp m r) (refusing M m reason.OtherItems)).after.sessions ≡ m.sessions)
      × ((cond t (answering M cmp m r) (refusing M m reason.OtherItems)).after.items ≡ m.items)
  same_sizes m false r = (refl, refl)
  same_sizes m true (Err why) = (refl, refl)
  same_sizes m true (Ok Tidy) = (refl, refl)
  same_sizes m true (Ok (Of s Step)) = (refl, refl)
  same_sizes m true (Ok (Of s (Begin op))) = (refl, refl)

  pub worded_sizes : (m : Machine State) (w : ℕ) → ((worded M cmp n m w).after.sessions ≡ m.sessions) × ((worded M cmp n m w).after.items ≡ m.items)
  unfolding worded
  worded_sizes m w = same_sizes m (eqb n m.items) (parsed w m.sessions m.items)

  pub ran_items : (m : Machine State) (ws : List ℕ) → (ran M cmp n m ws).after.items ≡ m.items
  unfolding ran
  ran_items m [] = refl
  ran_items m (w ∷ ws) = ran_items (worded M cmp n m w).after ws ∙ (worded_sizes m w).1
