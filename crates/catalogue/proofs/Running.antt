-- A search stepped again and again: a refused step changes nothing, so none after it does.
use Rattle.std.proofs.Common.{◌≡◌, ℕ, zero, suc, ◌+◌, ◌-◌, ◌<◌, true, is_err, Result, sym, refl, ap, ◌∙◌, arith}
use Rattle.std.proofs.lemmas.Grind.{common_steps}
use Rattle.space.specs.Sense.{Sense}
use Rattle.catalogue.specs.declared.refusals.Refusal.{Refusal}
use Rattle.catalogue.specs.Nearest.{ran}
use Rattle.catalogue.specs.Searches.{Progress}
use Rattle.catalogue.specs.States.{State}
use Rattle.catalogue.specs.Stepping.{stepped}

module _ {P B : Type 0} (S : Sense P B) (c : State P B) where
  refused_same : (s : Progress P) → is_err (stepped S c s).answer ≡ true → (stepped S c s).after ≡ s
  refused_same s e = grind (arith, common_steps)

  ran_still : (n : ℕ) (s : Progress P) → (stepped S c s).after ≡ s → ran S n c s ≡ s
  ran_still zero s e = refl
  ran_still (suc n) s e = ap (ran S n c) e ∙ ran_still n s e

  module _ (n i : ℕ) (s s' : Progress P) (a : Result (Unit {0}) Refusal) (after : s' ≡ (stepped S c s).after) (answer : a ≡ (stepped S c s).answer) where
    -- one step more
    pub ran_on : i < n → ran S (n - (i + 1)) c s' ≡ ran S (n - i) c s
    ran_on l =
        let e : n - i ≡ suc (n - (i + 1)) = omega arith in
        ap (ran S (n - (i + 1)) c) after ∙ sym (ap (λ k. ran S k c s) e)

    pub ran_out : is_err a ≡ true → s' ≡ ran S (n - i) c s
    ran_out e =
        let same = refused_same s (ap is_err (sym answer) ∙ e) in
        after ∙ (same ∙ sym (ran_still (n - i) s same))
