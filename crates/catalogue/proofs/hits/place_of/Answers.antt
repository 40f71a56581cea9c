-- The place is that of the first hit that passes, or the end.
use Rattle.std.proofs.Common.{◌≡◌, rules, tests}
use Rattle.std.specs.List.{position}
use Rattle.std.proofs.lemmas.Iterator.{YieldsList-from_slice}
use Rattle.std.proofs.lemmas.Iterator.Search.{position_from_yields_List}
use Rattle.catalogue.specs.Hits.{comes_before}
use Rattle.catalogue.proofs.Placing.{first_or_end}
use Rattle.catalogue.proofs.hits.place_of.Goals as goal

pub returns : goal.returns
returns c =
    let found : c.position.result ≡ position (comes_before c.args.x) c.args.hits.now =
    position_from_yields_List (comes_before c.args.x) _ _ c.position.result c.position.ensures.ran (YieldsList-from_slice _ c.iter.ensures.rest) (λ y b q k. search (rules, tests)) in
    rw (c.unwrap_or.ensures, found) (first_or_end (comes_before c.args.x) c.args.hits.now)
