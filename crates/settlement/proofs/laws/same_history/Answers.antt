use Rattle.std.proofs.Common.{ℕ, List, Vec, Global, map}
use Rattle.settlement.proofs.Settlings.{same_history}
use Rattle.settlement.proofs.laws.same_history.Goals as goal

abbrev bytes_in : Vec ℕ Global → List ℕ
bytes_in upload = upload.items

pub returns : goal.returns
returns c = λ fares history again same one other.
    same_history fares (map bytes_in c.args.uploads.now) (map bytes_in c.args.others.now) history
    again c.unique_parse_each.ensures c.unique_parse_each-2.ensures same one other
