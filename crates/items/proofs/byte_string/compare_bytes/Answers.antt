use Rattle.std.proofs.Common.{◌≡◌, ℕ, List, [], ◌∷◌, length, nat_cmp, sym, refl, ◌∙◌, ⊎_elim, arith}
use Rattle.std.proofs.lemmas.Bool.Decides.{nat_tests}
use Rattle.items.specs.Orders.{order_bytes}
use Rattle.items.proofs.byte_string.compare_bytes.Goals as goal

-- where one is a beginning of the other, the lengths decide
first_ended : (xs ys : List ℕ) → length xs ≡ 0 → nat_cmp (length xs) (length ys) ≡ order_bytes xs ys
first_ended [] [] h = refl
first_ended [] (y ∷ ys) h = grind (arith, nat_tests)
first_ended (x ∷ xs) ys h = absurd (omega arith)

second_ended : (xs ys : List ℕ) → length ys ≡ 0 → nat_cmp (length xs) (length ys) ≡ order_bytes xs ys
second_ended [] [] h = refl
second_ended (x ∷ xs) [] h = grind (arith, nat_tests)
second_ended xs (y ∷ ys) h = absurd (omega arith)

pub returns : goal.returns
returns c =
    c.cmp.ensures
    ∙ sym c.loop-x.invariant.lengths
    ∙ ⊎_elim (λ h. first_ended _ _ h.1.0) (λ h. second_ended _ _ h.1.0) c.in-None.ensures.steps
    ∙ c.loop-x.invariant.bytes
