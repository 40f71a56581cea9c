-- number_of: the number that a refusal goes by. Assumes nothing.
use Rattle.std.specs.Prelude.{ℕ}
use Rattle.catalogue.specs.declared.refusals.Refusal.{Refusal}
use Rattle.catalogue.specs.declared.refusals.Refusal.TheVariants.{CountOutOfRange, NumberInUse, TableFull, NoSeatLeft, AlreadyFinished, NotHere}

abbrev pub number_of : Refusal → ℕ
number_of CountOutOfRange = 2
number_of NumberInUse = 3
number_of TableFull = 4
number_of NoSeatLeft = 6
number_of AlreadyFinished = 8
number_of NotHere = 9
