-- The distances to the nearest points of the box are the sums of the gaps.
use Rattle.std.proofs.Common.{◌≡◌, ap, ◌∙◌, rules}
use Rattle.pipe.specs.Attitudes.{chord, gaps_to, turned}
use Rattle.pipe.specs.Chords.{chord_nearest}
use Rattle.pipe.proofs.attitudes.AttitudeSpace.bound.Goals as goal

pub returns : goal.returns
returns c =
    let b = c.args.region in
    let q = c.args.query.value in
    let t = c.turned-turned.result in
    let near : c.apart.result ≡ gaps_to b q = c.apart.ensures ∙ ap (chord q) c.nearest.ensures ∙ chord_nearest b q in
    let far : c.apart-2.result ≡ gaps_to b (turned q) =
    c.apart-2.ensures ∙ ap (chord t) c.nearest-2.ensures ∙ chord_nearest b t ∙ ap (gaps_to b) c.turned-turned.ensures
    in
    search (rules, near, far)
