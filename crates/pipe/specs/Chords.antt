-- The laws of attitudes: boxes axis by axis, keys and bounds as sums over the axes.
use Rattle.std.specs.Prelude.{◌≡◌, ℕ, ◌^◌, ◌<◌, ◌≤◌, min, false, ℤ, pos, ◌+ℤ◌, ◌-ℤ◌, neg_ℤ, int_lt, unsigned_abs}
use Rattle.std.proofs.Common.{ap, subst, ⊎_elim, arith, to_z, of_z}
use Rattle.std.specs.Int.{w16}
use Rattle.std.proofs.lemmas.Int.{ints}
use Rattle.std.proofs.lemmas.Bool.{cases_lt}
use Rattle.space.specs.Sense.{Lawful}
use Rattle.space.specs.Least.{Least}
use Rattle.pipe.specs.Axes.{along, each, total}
use Rattle.space.specs.Lines.{square}
use Rattle.pipe.specs.Squares.{gap_to, sum_of_squares}
use Rattle.space.specs.Spans.{Between, span_of, span_widened, span_nearest}
use Rattle.pipe.specs.Attitudes.{attitude_key, attitude_bound, attitude_sense, AttitudeHolds, chord, far_chord, gaps_to, turned}
use Rattle.pipe.specs.declared.axes.Axis.{Axis}
use Rattle.pipe.specs.declared.axes.Axis.TheVariants.{W, X, Y, Z}
use Rattle.pipe.specs.declared.axes.PerAxis.{PerAxis}
use Rattle.pipe.specs.declared.boxes.AttitudeBox.{AttitudeBox}
use Rattle.pipe.specs.declared.coordinates.AttitudePlace.{AttitudePlace}
use Rattle.space.specs.Gaps.{square_mono, components_ordered}
use Rattle.pipe.specs.Gaps.{gap_near, gap_nearest, turned_difference}
use Rattle.space.specs.Ranges.{Inside, of_holds, widened_new, widened_old, inside_holds, widened_inside}
use Rattle.space.specs.Smallest.{least_from}

components_at_least : (p q r : ℤ) → int_lt p q ≡ false → int_lt q r ≡ false → int_lt p r ≡ false
components_at_least p q r h k = grind (arith, ints)

-- what holds of each value holds along each axis
along_each : {A : Type 0} (f : Axis → A) (Q : Axis → A → Type 0) → ((i : Axis) → Q i (f i)) → (i : Axis) → Q i (along (each f) i)
along_each f Q h W = h W
along_each f Q h X = h X
along_each f Q h Y = h Y
along_each f Q h Z = h Z

total_mono : (f g : Axis → ℕ) → ((i : Axis) → f i ≤ g i) → total f ≤ total g
total_mono f g h = omega (arith, h W, h X, h Y, h Z)

total_same : (f g : Axis → ℕ) → ((i : Axis) → f i ≡ g i) → total f ≡ total g
total_same f g h = λ j. total (λ i. h i j)

min_mono : (a b c d : ℕ) → a ≤ c → b ≤ d → min a b ≤ min c d
min_mono a b c d h k = omega arith

turned_near : (low high q p : ℤ) → int_lt p low ≡ false → int_lt high p ≡ false → gap_to low high (neg_ℤ q) ≤ unsigned_abs (q +ℤ p)
turned_near low high q p h k = subst (λ n. gap_to low high (neg_ℤ q) ≤ n) (turned_difference q p) (gap_near low high (neg_ℤ q) p h k)

chord_near : (q : AttitudePlace) (b : AttitudeBox) (p : AttitudePlace) → AttitudeHolds b p → attitude_bound q b ≤ attitude_key q p
chord_near q b p h =
    min_mono _ _ _ _
    (total_mono _ _ (λ i. square_mono _ _ (gap_near (along b.ranges i).low (along b.ranges i).high (along q.value i) (along p.value i) (h i).0 (h i).1)))
    (total_mono _ _ (λ i. square_mono _ _
    (along_each (λ j. neg_ℤ (along q.value j)) (λ j x. gap_to (along b.ranges j).low (along b.ranges j).high x ≤ unsigned_abs (along q.value j +ℤ along p.value j))
    (λ j. turned_near (along b.ranges j).low (along b.ranges j).high (along q.value j) (along p.value j) (h j).0 (h j).1) i)))

-- what the code computes: the distance to the nearest point of a box, and from the negative
pub chord_nearest : (b : AttitudeBox) (v : PerAxis ℤ) →
    chord v (each (λ i. span_nearest int_lt (along b.ranges i) (along v i))) ≡ gaps_to b v
chord_nearest b v =
    total_same _ _
    (along_each (λ i. span_nearest int_lt (along b.ranges i) (along v i))
    (λ i n. square (unsigned_abs (along v i -ℤ n)) ≡ square (gap_to (along b.ranges i).low (along b.ranges i).high (along v i)))
    (λ i. ap square (gap_nearest (λ z. z) (along b.ranges i) (along v i))))

pub chord_turned : (v u : PerAxis ℤ) → chord (turned v) u ≡ far_chord v u
chord_turned v u =
    total_same _ _
    (along_each (λ i. neg_ℤ (along v i)) (λ i n. square (unsigned_abs (n -ℤ along u i)) ≡ square (unsigned_abs (along v i +ℤ along u i)))
    (λ i. ap square (turned_difference (along v i) (along u i))))

-- a component is not larger than the root of the largest admitted sum
square_part : (v : PerAxis ℤ) (i : Axis) → square (unsigned_abs (along v i)) ≤ sum_of_squares v
square_part v W = omega arith
square_part v X = omega arith
square_part v Y = omega arith
square_part v Z = omega arith

root : (n : ℕ) → square n ≤ 268468225 → n ≤ 16385
root n h =
    ⊎_elim (λ (l : 16385 < n). let m = square_mono 16386 n (omega arith) in omega arith) (λ (l : n ≤ 16385). l) (cases_lt 16385 n)

pub component_small : (p : AttitudePlace) (i : Axis) → unsigned_abs (along p.value i) ≤ 16385
component_small p i = root _ (let s = square_part p.value i in let h = p.highest in omega arith)

-- so that its negative has 16 bits too
pub negated : (x : ℤ) → unsigned_abs x ≤ 16385 → to_z w16 (of_z w16 (pos 0 -ℤ to_z w16 (of_z w16 x))) ≡ neg_ℤ x
negated x h = omega (arith, ints)

difference_small : (x y : ℤ) → unsigned_abs x ≤ 16385 → unsigned_abs y ≤ 16385 → unsigned_abs (x -ℤ y) ≤ 32770
difference_small x y h k = omega (arith, ints)

chord_fits : (q p : AttitudePlace) → attitude_key q p < 2 ^ 64
chord_fits q p =
    let m =
    total_mono (λ i. square (unsigned_abs (along q.value i -ℤ along p.value i))) (λ i. square 32770)
    (λ i. square_mono _ _ (difference_small (along q.value i) (along p.value i) (component_small q i) (component_small p i)))
    in
    omega arith

pub attitude_lawful : Lawful attitude_sense AttitudeHolds
attitude_lawful = record {
  single_holds = λ p.
      along_each (λ i. span_of (along p.value i)) (λ i s. Between int_lt s (along p.value i))
      (λ i. of_holds int_lt components_ordered (along p.value i));
  widened_holds = λ b p.
      along_each (λ i. span_widened int_lt (along b.ranges i) (along p.value i)) (λ i s. Between int_lt s (along p.value i))
      (λ i. widened_new int_lt components_ordered (along b.ranges i) (along p.value i));
  widened_keeps = λ b p o h.
      along_each (λ i. span_widened int_lt (along b.ranges i) (along p.value i)) (λ i s. Between int_lt s (along o.value i))
      (λ i. widened_old int_lt components_ordered (along b.ranges i) (along p.value i) (along o.value i) (h i));
  bound_below = chord_near;
  key_fits = chord_fits;
}

pub attitude_least : Least attitude_sense AttitudeHolds
attitude_least =
    least_from attitude_sense AttitudeHolds (λ b c. (i : Axis) → Inside int_lt (along b.ranges i) (along c.ranges i))
    (λ b c inside p h i. inside_holds int_lt components_at_least (along b.ranges i) (along c.ranges i) (along p.value i) (inside i) (h i))
    (λ p c h. along_each (λ i. span_of (along p.value i)) (λ i s. Inside int_lt s (along c.ranges i)) h)
    (λ b p c inside h.
    along_each (λ i. span_widened int_lt (along b.ranges i) (along p.value i)) (λ i s. Inside int_lt s (along c.ranges i))
    (λ i. widened_inside int_lt components_at_least (along b.ranges i) (along p.value i) (along c.ranges i) (inside i) (h i)))
