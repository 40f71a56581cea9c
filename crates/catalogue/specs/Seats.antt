-- seated: taking a seat. begun: a seat becomes a search. strange: a mark with which no seat is out. Assumes nothing.
use Rattle.std.specs.Prelude.{ℕ, ◌+◌, Bool, if◌then◌else◌, not, ◌||◌, [], ◌==◌, nat_le}
use Rattle.catalogue.specs.declared.findings.Hit.{Hit}
use Rattle.catalogue.specs.declared.inquiries.Inquiry.{Inquiry}
use Rattle.catalogue.specs.declared.refusals.Refusal.TheVariants.{NoSeatLeft}
use Rattle.catalogue.specs.declared.searches.Phase.TheVariants.{Start}
use Rattle.catalogue.specs.Few.{none_few}
use Rattle.catalogue.specs.States.{State, Outcome, with_out, done, refused}
use Rattle.catalogue.specs.Searches.{Progress}

-- with a seat of this mark
abbrev pub begun : {P : Type 0} → ℕ → Inquiry P → Progress P
begun m q = record { mark = m; inquiry = q; phase = Start; hits = []; looked = 0; steps = 0; few = none_few Hit }

module _ {P B : Type 0} where
  -- there are eight; the answer is the mark of the seat
  abbrev pub seated : State P B → Outcome (State P B) ℕ
  seated c = if nat_le 8 c.out then refused NoSeatLeft c else done (with_out (c.out + 1) c) c.mark

  abbrev pub strange : State P B → ℕ → Bool
  strange c m = not (m == c.mark) || c.out == 0
