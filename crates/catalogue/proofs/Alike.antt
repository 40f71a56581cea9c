-- That hits are few has one proof at most, so two searches are equal where their other fields are, and so are two closings.
use Rattle.std.proofs.Common.{◌≡◌, ◌-◌, ◌≤◌, ◌||◌, false, length, map, sym, ap, ◌∙◌}
use Rattle.std.proofs.Math.Bridge.{le_prop}
use Rattle.std.proofs.lemmas.Bool.{cond-false, or_from}
use Rattle.catalogue.specs.declared.refusals.Refusal.TheVariants.{NotHere}
use Rattle.catalogue.specs.Ending.{named, closed}
use Rattle.catalogue.specs.Searches.{Progress, Report}
use Rattle.catalogue.specs.Seats.{strange}
use Rattle.catalogue.specs.States.{State, with_out, done, refused}
use Rattle.catalogue.specs.Stepping.{finished, lost}

pub progress_by_fields : {P : Type 0} (x y : Progress P) → x.mark ≡ y.mark → x.inquiry ≡ y.inquiry → x.phase ≡ y.phase → x.hits ≡ y.hits → x.looked ≡ y.looked → x.steps ≡ y.steps → x ≡ y
progress_by_fields x y m q f h l n = λ i. record {
  mark = m i;
  inquiry = q i;
  phase = f i;
  hits = h i;
  looked = l i;
  steps = n i;
  few = le_prop (coe 0 i (j. length (h j) ≤ 16) x.few) (coe 1 i (j. length (h j) ≤ 16) y.few) i;
}

report_by_fields : (x y : Report) → x.hits ≡ y.hits → x.finished ≡ y.finished → x.looked ≡ y.looked → x.steps ≡ y.steps → x ≡ y
report_by_fields x y h f l n = λ i. record {
  hits = h i;
  finished = f i;
  looked = l i;
  steps = n i;
  few = le_prop (coe 0 i (j. length (h j) ≤ 16) x.few) (coe 1 i (j. length (h j) ≤ 16) y.few) i;
}

module _ {P B : Type 0} (c : State P B) (s : Progress P) (here : strange c s.mark ≡ false) (met : lost c s.phase ≡ false) where
  -- what closing gives, where it is not refused
  pub closed_as : (r : Report) → r.hits ≡ map (named c) s.hits → r.finished ≡ finished s.phase → r.looked ≡ s.looked → r.steps ≡ s.steps → closed c s ≡ done (with_out (c.out - 1) c) r
  closed_as r h f l n =
      cond-false (strange c s.mark || lost c s.phase) (refused NotHere c) _ (or_from (strange c s.mark) (lost c s.phase) here met)
      ∙ ap (done (with_out (c.out - 1) c)) (report_by_fields _ r (sym h) (sym f) (sym l) (sym n))
