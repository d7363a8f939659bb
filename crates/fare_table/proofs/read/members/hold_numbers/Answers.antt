use Rattle.std.proofs.Common.{◌∙◌, rules}
use Rattle.fare_table.proofs.MemberLemmas.{each_is_number, is_number}
use Rattle.std.proofs.lemmas.Iterator.{Consumers.YieldsList-from_rest, Search.all_from_yields_List}
use Rattle.fare_table.proofs.read.members.hold_numbers.Goals as goal

pub returns : goal.returns
returns c =
    all_from_yields_List is_number _ _ _ c.all.ensures.ran
    (YieldsList-from_rest _ c.values.ensures.rest) (λ value is next ran. search rules)
    ∙ each_is_number c.args.table.now.entries
