-- A count from 1 to 16 makes an inquiry, and no other does.
use Rattle.std.proofs.Common.{sym, arith}
use Rattle.std.proofs.lemmas.Grind.{common_steps}
use Rattle.catalogue.proofs.Asked.{asked_within, asked_outside}
use Rattle.catalogue.proofs.inquiries.Inquiry.new.Goals as goal

pub returns-then-not-contains : goal.returns-then-not-contains
returns-then-not-contains g c =
    sym (asked_outside c.args.place c.args.count c.args.limit (λ low high. grind (arith, common_steps)))

pub returns : goal.returns
returns g c = sym (asked_within c.args.place c.args.count c.args.limit _ _)
