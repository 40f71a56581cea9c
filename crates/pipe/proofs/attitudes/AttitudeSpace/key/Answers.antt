-- The distance from the negative is the sum in place of the difference.
use Rattle.std.proofs.Common.{◌≡◌, ap, ◌∙◌, rules}
use Rattle.pipe.specs.Attitudes.{chord, far_chord}
use Rattle.pipe.specs.Chords.{chord_turned}
use Rattle.pipe.proofs.attitudes.AttitudeSpace.key.Goals as goal

pub returns : goal.returns
returns c =
    let q = c.args.query.value in
    let p = c.args.place.value in
    let far : c.apart-2.result ≡ far_chord q p = c.apart-2.ensures ∙ ap (λ v. chord v p) c.turned.ensures ∙ chord_turned q p in
    search (rules, far)
