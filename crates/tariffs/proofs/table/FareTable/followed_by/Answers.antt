use Rattle.std.proofs.Common.{ap, ◌∙◌}
use Rattle.tariffs.proofs.table.FareTable.followed_by.Goals as goal

pub push-requires : goal.push-requires
push-requires c =
    ap (λ f. f.meaning.modes) c.next.view_is
    ∙ (c.follow_fault.ensures.none c.in_default.is).modes
