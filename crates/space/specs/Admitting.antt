-- What `only_if` gives, by its test; places and coordinates of the line and the clock tell each other.
use Rattle.std.specs.Prelude.{◌≡◌, ℕ, Bool, true, false, T, ℤ, pos, negsuc, Some, None, Option, ◌≢◌, int_le, nat_lt, refl}
use Rattle.std.proofs.Common.{◌∙◌, arith, ltb→lt, lt→ltb}
use Rattle.std.proofs.Math.Bridge.{le_prop}
use Rattle.space.specs.Admission.{only_if}
use Rattle.space.specs.Lines.{line_at}
use Rattle.space.specs.Clocks.{clock_at}
use Rattle.space.specs.declared.coordinates.LinePlace.{LinePlace}
use Rattle.space.specs.declared.coordinates.ClockPlace.{ClockPlace}

module _ {X : Type 0} where
  pub only_if_passed : (b : Bool) (t : T b) (f : T b → Option X) → only_if b f ≡ f t
  only_if_passed true t f = refl
  only_if_passed false t f = absurd t

  pub none_some : (x : X) → None ≢ Some x
  none_some x e = let z : ◌≡◌ {A = ℕ} 0 1 = cc in omega arith

  pub only_if_some : (b : Bool) (f : T b → Option X) (x : X) → only_if b f ≡ Some x → (t : T b) × (f t ≡ Some x)
  only_if_some true f x e = (tt, e)
  only_if_some false f x e = absurd (none_some x e)

-- nothing, whether or not the test passes
module _ {X : Type 0} where
  pub only_if_none : (b : Bool) (f : T b → Option X) → ((t : T b) → f t ≡ None) → only_if b f ≡ None
  only_if_none true f h = h tt
  only_if_none false f h = refl

pub line_back : (p : LinePlace) → line_at p.value ≡ Some p
line_back p =
    only_if_passed (int_le (negsuc 2147483647) p.value) p.lowest.le _
    ∙ only_if_passed (int_le p.value (pos 2147483647)) p.highest.le _

pub line_true : (z : ℤ) (p : LinePlace) → line_at z ≡ Some p → p.value ≡ z
line_true z p e =
    let a = only_if_some (int_le (negsuc 2147483647) z) _ p e in
    let b = only_if_some (int_le z (pos 2147483647)) _ p a.1 in
    let c = b.1 in
    cc

pub clock_back : (p : ClockPlace) → clock_at p.minute ≡ Some p
clock_back p =
    only_if_passed (nat_lt p.minute 720) (lt→ltb p.minute 720 p.face) _
    ∙ (λ i. Some (record { minute = p.minute; face = le_prop (ltb→lt p.minute 720 (lt→ltb p.minute 720 p.face)) p.face i }))

pub clock_true : (m : ℕ) (p : ClockPlace) → clock_at m ≡ Some p → p.minute ≡ m
clock_true m p e =
    let a = only_if_some (nat_lt m 720) _ p e in
    let b = a.1 in
    cc
