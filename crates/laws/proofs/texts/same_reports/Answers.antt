use Rattle.std.proofs.Common.{List, ℕ, Vec, Global, map}
use Rattle.laws.proofs.SameReports.{same_reports}
use Rattle.laws.proofs.texts.same_reports.Goals as goal

abbrev bytes_in : Vec ℕ Global → List ℕ
bytes_in upload = upload.items

pub returns : goal.returns
returns c = λ fares history again text other same one two shown shown_too.
    same_reports (map bytes_in c.args.uploads.now) (map bytes_in c.args.others.now) history again
    text other (c.same_history.ensures fares history again same one two) shown shown_too
