-- Putting a hit in its place in a list, and the last hit of a list.
use Rattle.std.proofs.Common.{◌≡◌, ℕ, zero, suc, ◌+◌, ◌-◌, ◌<◌, ◌≤◌, Bool, true, false, cond, not, List, [], ◌∷◌, length, take, unwrap_or, refl, ap, subst, arith}
use Rattle.std.specs.List.{position_or_len, position, slice_get, insert}
use Rattle.std.proofs.lemmas.Grind.{common_steps}
use Rattle.std.proofs.lemmas.List.Sums.{prefix_len-le-length}
use Rattle.catalogue.specs.declared.findings.Hit.{Hit}
use Rattle.catalogue.specs.Hits.{inserted, comes_before, last}

-- the first element that passes, or the end
pub first_or_end : {X : Type 0} (p : X → Bool) (xs : List X) → unwrap_or (position p xs) (length xs) ≡ position_or_len p xs
first_or_end p xs =
    let within : position_or_len p xs ≤ length xs = prefix_len-le-length (λ x. not (p x)) xs in
    grind (arith, common_steps)

pub place_within : (x : Hit) (xs : List Hit) → position_or_len (comes_before x) xs ≤ length xs
place_within x xs = prefix_len-le-length (λ y. not (comes_before x y)) xs

one_later : (x y : Hit) (p : ℕ) (zs ys : List Hit) → zs ≡ insert ys p x → y ∷ zs ≡ insert (y ∷ ys) (1 + p) x
one_later x y p zs ys e = grind (arith, common_steps)

pub inserted-place : (x : Hit) (xs : List Hit) → inserted x xs ≡ insert xs (position_or_len (comes_before x) xs) x
inserted-place x [] = refl
inserted-place x (y ∷ ys) =
    let p : ℕ = position_or_len (comes_before x) ys in
    let e : inserted x ys ≡ insert ys p x = inserted-place x ys in
    elim (comes_before x y) as (λ b. cond b (x ∷ y ∷ ys) (y ∷ inserted x ys) ≡ insert (y ∷ ys) (cond (not b) (1 + p) 0) x)
    [ true ↦ refl | false ↦ one_later x y p (inserted x ys) ys e ]

-- one element more, within the front of a list and past it
take-insert_suc : {X : Type 0} (xs : List X) (i k : ℕ) (x : X) → i ≤ k → take (suc k) (insert xs i x) ≡ insert (take k xs) i x
take-insert_suc xs zero k x l = refl
take-insert_suc xs (suc i) zero x l = absurd (omega arith)
take-insert_suc [] (suc i) (suc k) x l = refl
take-insert_suc (y ∷ ys) (suc i) (suc k) x l = ap (λ zs. y ∷ zs) (take-insert_suc ys i k x (omega arith))

pub take-insert_within : {X : Type 0} (xs : List X) (i k : ℕ) (x : X) → i < k → take k (insert xs i x) ≡ insert (take (k - 1) xs) i x
take-insert_within xs i k x l =
    let e : suc (k - 1) ≡ k = omega arith in
    subst (λ n. take n (insert xs i x) ≡ insert (take (k - 1) xs) i x) e (take-insert_suc xs i (k - 1) x (omega arith))

pub take-insert_past : {X : Type 0} (xs : List X) (i k : ℕ) (x : X) → k ≤ i → i ≤ length xs → take k (insert xs i x) ≡ take k xs
take-insert_past xs i k x l h = grind (arith, common_steps)

pub last-end : (xs : List Hit) → slice_get xs (length xs - 1) ≡ last xs
last-end [] = refl
last-end (x ∷ []) = refl
last-end (x ∷ y ∷ ys) = grind (arith, common_steps, last-end (y ∷ ys))
