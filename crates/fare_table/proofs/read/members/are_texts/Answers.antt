use Rattle.std.proofs.Common.{◌∙◌, rules}
use Rattle.fare_table.proofs.MemberLemmas.{each_item_is_string, is_string}
use Rattle.std.proofs.lemmas.Iterator.{YieldsList-from_slice, Search.all_from_yields_List}
use Rattle.fare_table.proofs.read.members.are_texts.Goals as goal

pub returns : goal.returns
returns c =
    all_from_yields_List is_string _ _ _ c.all.ensures.ran
    (YieldsList-from_slice c.args.array.now.items cc) (λ value is next ran. search rules)
    ∙ each_item_is_string c.args.array.now.items
