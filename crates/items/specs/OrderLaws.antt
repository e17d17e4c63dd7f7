-- Byte strings are compared as std compares slices of bytes, so the laws of that comparison are theirs.
use Rattle.std.specs.Prelude.{◌≡◌, ℕ, ◌+◌, ◌<◌, ◌≤◌, ◌⊎◌, List, [], ◌∷◌, length, drop, slice_index, refl}
use Rattle.std.specs.declared.cmp.Ordering.TheVariants.{Less, Equal, Greater}
use Rattle.std.specs.declared.cmp.Ordering.{Ordering}
use Rattle.std.proofs.Common.{sym, ap, ◌∙◌, inl, inr, arith}
use Rattle.std.specs.Ordering.{ordering_then, ordering_reverse, nat_cmp}
use Rattle.std.specs.Cmp.Lexicographic.{slice_cmp}
use Rattle.std.proofs.lemmas.Bool.Decides.{nat_tests}
use Rattle.std.proofs.lemmas.Cmp.{nat_list_cmp_total, tied_itself}
use Rattle.std.proofs.lemmas.List.{drop_more, drop_all}
use Rattle.std.proofs.lemmas.Map.Lookups.{exact_bytes}
use Rattle.items.specs.Orders.{order_numbers, order_bytes}

numbers_compared : (x y : ℕ) → order_numbers x y ≡ nat_cmp x y
numbers_compared x y = grind (arith, nat_tests)

pub bytes_compared : (xs ys : List ℕ) → order_bytes xs ys ≡ slice_cmp nat_cmp xs ys
bytes_compared [] [] = refl
bytes_compared [] (y ∷ ys) = refl
bytes_compared (x ∷ xs) [] = refl
bytes_compared (x ∷ xs) (y ∷ ys) =
    ap (λ o. ordering_then o (order_bytes xs ys)) (numbers_compared x y) ∙ ap (ordering_then (nat_cmp x y)) (bytes_compared xs ys)

pub bytes_itself : (xs : List ℕ) → order_bytes xs xs ≡ Equal
bytes_itself xs = bytes_compared xs xs ∙ tied_itself nat_list_cmp_total xs

pub bytes_same : (xs ys : List ℕ) → order_bytes xs ys ≡ Equal → xs ≡ ys
bytes_same xs ys h = exact_bytes xs ys (sym (bytes_compared xs ys) ∙ h)

pub bytes_sides : (xs ys : List ℕ) → order_bytes ys xs ≡ ordering_reverse (order_bytes xs ys)
bytes_sides xs ys = bytes_compared ys xs ∙ nat_list_cmp_total.antisymm ys xs ∙ sym (ap ordering_reverse (bytes_compared xs ys))

pub bytes_smaller : (xs ys zs : List ℕ) → order_bytes xs ys ≡ Less → order_bytes ys zs ≡ Less → order_bytes xs zs ≡ Less
bytes_smaller xs ys zs a b =
    bytes_compared xs zs ∙ nat_list_cmp_total.trans xs ys zs (sym (bytes_compared xs ys) ∙ a) (sym (bytes_compared ys zs) ∙ b)

-- laws of one number and of one byte, for a proof that walks through both strings
number_itself : (x : ℕ) → order_numbers x x ≡ Equal
number_itself x = grind (arith, nat_tests)

number_same : (x y : ℕ) → order_numbers x y ≡ Equal → x ≡ y
number_same x y h = grind (arith, nat_tests)

number_sides : (x y : ℕ) → order_numbers y x ≡ ordering_reverse (order_numbers x y)
number_sides x y = grind (arith, nat_tests)

number_less : (x y : ℕ) → order_numbers x y ≡ Less → x < y
number_less x y h = grind (arith, nat_tests)

less_number : (x y : ℕ) → x < y → order_numbers x y ≡ Less
less_number x y h = grind (arith, nat_tests)

number_smaller : (x y z : ℕ) → order_numbers x y ≡ Less → order_numbers y z ≡ Less → order_numbers x z ≡ Less
number_smaller x y z a b = let p = number_less x y a in let q = number_less y z b in less_number x z (omega arith)

then_equal : (o r : Ordering) → ordering_then o r ≡ Equal → (o ≡ Equal) × (r ≡ Equal)
then_equal Less r h = absurd (let z : ◌≡◌ {A = ℕ} 0 1 = cc in omega arith)
then_equal Equal r h = (refl, h)
then_equal Greater r h = absurd (let z : ◌≡◌ {A = ℕ} 0 1 = cc in omega arith)

then_less : (o r : Ordering) → ordering_then o r ≡ Less → (o ≡ Less) ⊎ ((o ≡ Equal) × (r ≡ Less))
then_less Less r h = inl refl
then_less Equal r h = inr (refl, h)
then_less Greater r h = absurd (let z : ◌≡◌ {A = ℕ} 0 1 = cc in omega arith)

then_sides : (o r : Ordering) → ordering_then (ordering_reverse o) (ordering_reverse r) ≡ ordering_reverse (ordering_then o r)
then_sides Less r = refl
then_sides Equal r = refl
then_sides Greater r = refl

-- one byte further into both
pub at_both : (a b : List ℕ) (i : ℕ) → i < length a → i < length b
    → order_bytes (drop i a) (drop i b) ≡ ordering_then (order_numbers (slice_index a i) (slice_index b i)) (order_bytes (drop (i + 1) a) (drop (i + 1) b))
at_both a b i l m = ap (λ x. order_bytes x (drop i b)) (drop_more a i 0 l) ∙ ap (λ y. order_bytes (slice_index a i ∷ drop (i + 1) a) y) (drop_more b i 0 m)

pub past_second : (a b : List ℕ) (i : ℕ) → i < length a → length b ≤ i → order_bytes (drop i a) (drop i b) ≡ Greater
past_second a b i l m = ap (λ x. order_bytes x (drop i b)) (drop_more a i 0 l) ∙ ap (λ y. order_bytes (slice_index a i ∷ drop (i + 1) a) y) (drop_all i b m)

pub past_first : (a b : List ℕ) (i : ℕ) → length a ≤ i → i < length b → order_bytes (drop i a) (drop i b) ≡ Less
past_first a b i l m = ap (λ x. order_bytes x (drop i b)) (drop_all i a l) ∙ ap (λ y. order_bytes [] y) (drop_more b i 0 m)

pub past_both : (a b : List ℕ) (i : ℕ) → length a ≤ i → length b ≤ i → order_bytes (drop i a) (drop i b) ≡ Equal
past_both a b i l m = ap (λ x. order_bytes x (drop i b)) (drop_all i a l) ∙ ap (λ y. order_bytes [] y) (drop_all i b m)

pub smaller_byte : (x y : ℕ) (r : Ordering) → x < y → ordering_then (order_numbers x y) r ≡ Less
smaller_byte x y r l = ap (λ o. ordering_then o r) (less_number x y l)

pub greater_byte : (x y : ℕ) (r : Ordering) → y < x → ordering_then (order_numbers x y) r ≡ Greater
greater_byte x y r l = ap (λ o. ordering_then o r) (number_sides y x ∙ ap ordering_reverse (less_number y x l))

pub same_byte : (x y : ℕ) (r : Ordering) → y ≤ x → x ≤ y → ordering_then (order_numbers x y) r ≡ r
same_byte x y r l m = let e : x ≡ y = omega arith in ap (λ o. ordering_then o r) (ap (λ k. order_numbers x k) (sym e) ∙ number_itself x)
