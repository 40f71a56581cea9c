-- Values on the four axes of a quaternion. along: the value on one axis. each: one value for every axis.
-- total: a sum over the axes. OnEach: a fact of every axis. axis_at: the axis of a turn. Assumes nothing.
use Rattle.std.specs.Prelude.{◌≡◌, ℕ, ◌+◌, ◌%◌, if◌then◌else◌, ◌==◌}
use Rattle.pipe.specs.declared.axes.Axis.{Axis}
use Rattle.pipe.specs.declared.axes.Axis.TheVariants.{W, X, Y, Z}
use Rattle.pipe.specs.declared.axes.PerAxis.{PerAxis}

abbrev pub along : {A : Type 0} → PerAxis A → Axis → A
along v W = v.w
along v X = v.x
along v Y = v.y
along v Z = v.z

abbrev pub each : {A : Type 0} → (Axis → A) → PerAxis A
each f = record { w = f W; x = f X; y = f Y; z = f Z }

abbrev pub total : (Axis → ℕ) → ℕ
total f = f W + f X + f Y + f Z

pub record OnEach (Q : Axis → Type 0) : Type 0 where
  pub w : Q W
  pub x : Q X
  pub y : Q Y
  pub z : Q Z

-- the axes in turn
abbrev pub axis_at : ℕ → Axis
axis_at turn = if turn % 4 == 0 then W else (if turn % 4 == 1 then X else (if turn % 4 == 2 then Y else Z))

-- the values that are those of f on every axis
pub each_same : {A : Type 0} (v : PerAxis A) (f : Axis → A) → OnEach (λ i. along v i ≡ f i) → v ≡ each f
each_same v f h = λ i. record { w = h.w i; x = h.x i; y = h.y i; z = h.z i }
