use Rattle.std.proofs.Common.{ℕ, List, Vec, Global, map}
use Rattle.settlement.proofs.Settlings.{named_order}
use Rattle.laws.proofs.Prefixes.{late}
use Rattle.laws.proofs.bills.late_taps_change_nothing_before.Goals as goal

abbrev bytes_in : Vec ℕ Global → List ℕ
bytes_in upload = upload.items

pub returns : goal.returns
returns c = λ fares token moment history again same one other.
    let uploads = map bytes_in c.args.uploads.now in
    let others = map bytes_in c.args.others.now in
    let (plain, is) = c.plain_history.ensures.some fares in
    let (plain_too, is_too) = c.plain_history-2.ensures.some fares in
    late fares token moment uploads others history again c.unique_parse_each.ensures
    c.unique_parse_each-2.ensures same one other
    (named_order fares uploads c.unique_parse_each.ensures plain is
    (c.plain_history.ensures.fields fares plain is) history one)
    (named_order fares others c.unique_parse_each-2.ensures plain_too is_too
    (c.plain_history-2.ensures.fields fares plain_too is_too) again other)
