use Rattle.std.proofs.Common.{ℕ, List, Vec, Global, map}
use Rattle.settlement.proofs.Settlings.{named_order}
use Rattle.laws.proofs.OneMore.{one_more}
use Rattle.laws.proofs.bills.one_more_tap_makes_no_fewer_rides.Goals as goal

abbrev bytes_in : Vec ℕ Global → List ℕ
bytes_in upload = upload.items

pub returns : goal.returns
returns c = λ fares token history again few same one two.
    let uploads = map bytes_in c.args.uploads.now in
    let others = map bytes_in c.args.others.now in
    let (plain_too, is_too) = c.plain_history.ensures.some fares in
    one_more fares token uploads others history again c.unique_parse_each.ensures
    c.unique_parse_each-2.ensures few same one two
    (named_order fares others c.unique_parse_each-2.ensures plain_too is_too
    (c.plain_history.ensures.fields fares plain_too is_too) again two)
