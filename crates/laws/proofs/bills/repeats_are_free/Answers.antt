use Rattle.std.proofs.Common.{ℕ, List, Vec, Global, map}
use Rattle.laws.proofs.BillLemmas.{repeats_billed}
use Rattle.laws.proofs.bills.repeats_are_free.Goals as goal

abbrev bytes_in : Vec ℕ Global → List ℕ
bytes_in upload = upload.items

pub returns : goal.returns
returns c = λ fares history again sent one other.
    repeats_billed fares (map bytes_in c.args.uploads.now) (map bytes_in c.args.more.now) history
    again c.unique_parse_each.ensures c.unique_parse_each-2.ensures sent one other
