use Rattle.std.proofs.Common.{ℕ, List, Vec, Global, map}
use Rattle.laws.proofs.BillLemmas.{set_is_billed}
use Rattle.laws.proofs.bills.set_of_taps_is_billed.Goals as goal

abbrev bytes_in : Vec ℕ Global → List ℕ
bytes_in upload = upload.items

pub returns : goal.returns
returns c = λ fares history again same one other.
    set_is_billed fares (map bytes_in c.args.uploads.now) (map bytes_in c.args.others.now) history
    again c.unique_parse_each.ensures c.unique_parse_each-2.ensures same one other
